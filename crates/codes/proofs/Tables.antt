-- The tables of the code say what the definitions say: each is a test that is computed at every entry.
use Rattle.std.proofs.Common.{◌≡◌, ℕ, ◌+◌, ◌*◌, ◌<◌, eqb, List, map, reverse, get_or, sym, refl, ap, ◌∙◌}
use Rattle.std.specs.List.{flat_map}
use Rattle.std.proofs.lemmas.Bool.{eqb-true}
use Rattle.codes.specs.declared.classes.Class.{Class}
use Rattle.codes.specs.declared.classes.Class.TheVariants.{Ctrl}
use Rattle.codes.specs.Classes.{below, class_of, class_number, classes, how_many, is_mark, is_text, lists_with}
use Rattle.codes.specs.declared.levels.DisplayLevel.{DisplayLevel}
use Rattle.codes.specs.declared.levels.DisplayLevel.TheVariants.{Nowhere}
use Rattle.codes.specs.declared.verdicts.Verdict.{Verdict}
use Rattle.codes.specs.declared.verdicts.Verdict.TheVariants.{Accept, Compose, StrictReject, Reject, NoDisplay}
use Rattle.codes.specs.Levels.{level_of}
use Rattle.codes.specs.Verdicts.{Counted, class_verdict, letter_at, letter_of, row, times_in_table, verdict_lettered}
use Rattle.codes.proofs.Every.{at_below, at_classes, every}

pub by_number : (c d : Class) → class_number c ≡ class_number d → c ≡ d
by_number c d e =
    let numbered : (x : Class) → get_or classes (class_number x) Ctrl ≡ x = every _ (refl, (refl, (refl, (refl, (refl, (refl, (refl, (refl, (refl, (refl, (refl, (refl, (refl, (refl, (refl, (refl, (refl, tt))))))))))))))))) in
    sym (numbered c) ∙ ap (λ n. get_or classes n Ctrl) e ∙ numbered d

-- the class of each code, from code 0 on
abbrev pub classes_of : List Class
classes_of = map class_of (reverse (below 256))

pub class_table : (k : ℕ) → k < 256 → get_or classes_of k Ctrl ≡ class_of k
unfolding class_of
class_table k h =
    by_number _ _ (eqb-true _ _ (at_below 256 (λ c. eqb (class_number (get_or classes_of c Ctrl)) (class_number (class_of c))) refl k h))

pub in_one_list : (k : ℕ) → k < 256 → lists_with k ≡ 1
unfolding lists_with
in_one_list k h = eqb-true _ _ (at_below 256 (λ c. eqb (lists_with c) 1) refl k h)

pub text_codes : how_many is_text ≡ 184
unfolding how_many is_text class_of
text_codes = refl

pub mark_codes : how_many is_mark ≡ 16
unfolding how_many is_mark class_of
mark_codes = refl

lettered : (v : Verdict) → verdict_lettered (letter_of v) ≡ v
lettered Accept = refl
lettered Compose = refl
lettered StrictReject = refl
lettered Reject = refl
lettered NoDisplay = refl

by_letter : (v w : Verdict) → letter_of v ≡ letter_of w → v ≡ w
by_letter v w e = sym (lettered v) ∙ ap verdict_lettered e ∙ lettered w

-- the rows in turn
abbrev pub table : List Verdict
table = map verdict_lettered (flat_map row classes)

abbrev at : Class → Class → ℕ
at x y = class_number x * 17 + class_number y

pub verdict_table : (x y : Class) → get_or table (at x y) Accept ≡ class_verdict x y
unfolding class_verdict letter_at
verdict_table x y = by_letter _ _ (eqb-true _ _ (at_classes (λ x y. eqb (letter_of (get_or table (at x y) Accept)) (letter_of (class_verdict x y))) refl x y))

abbrev pub levels : List DisplayLevel
levels = map level_of classes

pub level_table : (x : Class) → get_or levels (class_number x) Nowhere ≡ level_of x
unfolding level_of
level_table = every _ (refl, (refl, (refl, (refl, (refl, (refl, (refl, (refl, (refl, (refl, (refl, (refl, (refl, (refl, (refl, (refl, (refl, tt)))))))))))))))))

pub counted : Counted
unfolding times_in_table
counted = record { accept = refl; compose = refl; strict = refl; basic = refl; hidden = refl }
