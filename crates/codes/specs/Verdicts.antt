-- The verdict on two neighbours (TIS 1566, figure 6).
use Rattle.std.specs.Prelude.{◌≡◌, ℕ, Bool, true, false, cond, List, codes, count_by, ◌==◌, nat_eq, slice_index}
use Rattle.std.specs.List.{flat_map}
use Rattle.codes.specs.declared.classes.Class.{Class}
use Rattle.codes.specs.declared.classes.Class.TheVariants.{Ctrl, Non, Cons, Lv, Fv1, Fv2, Fv3, Bv1, Bv2, Bd, Tone, Ad1, Ad2, Ad3, Av1, Av2, Av3}
use Rattle.codes.specs.declared.verdicts.Verdict.{Verdict}
use Rattle.codes.specs.declared.verdicts.Verdict.TheVariants.{Accept, Compose, StrictReject, Reject, NoDisplay}
use Rattle.codes.specs.Classes.{class_of, class_number, classes}

-- a row is the class of the first code, and its letters stand for the class of the second
abbrev pub row : Class → List ℕ
row Ctrl = codes "XAAAAAARRRRRRRRRR"
row Non = codes "XAAASSARRRRRRRRRR"
row Cons = codes "XAAAASACCCCCCCCCC"
row Lv = codes "XSASSSSRRRRRRRRRR"
row Fv1 = codes "XSAASSARRRRRRRRRR"
row Fv2 = codes "XAAAASARRRRRRRRRR"
row Fv3 = codes "XAAASASRRRRRRRRRR"
row Bv1 = codes "XAAASSARRRCCRRRRR"
row Bv2 = codes "XAAASSARRRCRRRRRR"
row Bd = codes "XAAASSARRRRRRRRRR"
row Tone = codes "XAAAAAARRRRRRRRRR"
row Ad1 = codes "XAAASSARRRRRRRRRR"
row Ad2 = codes "XAAASSARRRRRRRRRR"
row Ad3 = codes "XAAASSARRRRRRRRRR"
row Av1 = codes "XAAASSARRRCCRRRRR"
row Av2 = codes "XAAASSARRRCRRRRRR"
row Av3 = codes "XAAASSARRRCRCRRRR"

abbrev pub letter_of : Verdict → ℕ
letter_of Accept = 65
letter_of Compose = 67
letter_of StrictReject = 83
letter_of Reject = 82
letter_of NoDisplay = 88

-- the verdict of a letter; X stands for what is no other
abbrev pub verdict_lettered : ℕ → Verdict
verdict_lettered l = cond (l == 65) Accept (cond (l == 67) Compose (cond (l == 83) StrictReject (cond (l == 82) Reject NoDisplay)))

unfoldable pub letter_at : Class → Class → ℕ
letter_at first second = slice_index (row first) (class_number second)

unfoldable pub class_verdict : Class → Class → Verdict
class_verdict first second = verdict_lettered (letter_at first second)

-- the verdict belongs to two codes, and goes by their classes
unfoldable pub verdict_of : ℕ → ℕ → Verdict
verdict_of first second = class_verdict (class_of first) (class_of second)

abbrev pub is_compose : Verdict → Bool
is_compose Accept = false
is_compose Compose = true
is_compose StrictReject = false
is_compose Reject = false
is_compose NoDisplay = false

-- how often a verdict stands in the table
unfoldable pub times_in_table : Verdict → ℕ
times_in_table v = count_by (λ l. nat_eq l (letter_of v)) (flat_map row classes)

pub record Counted : Type 0 where
  pub accept : times_in_table Accept ≡ 70
  pub compose : times_in_table Compose ≡ 18
  pub strict : times_in_table StrictReject ≡ 32
  pub basic : times_in_table Reject ≡ 152
  pub hidden : times_in_table NoDisplay ≡ 17
