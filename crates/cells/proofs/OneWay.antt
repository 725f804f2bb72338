-- The division into runs is the one cutting of a string.
use Rattle.std.proofs.Common.{◌≡◌, ℕ, Bool, true, false, List, [], ◌∷◌, ◌++◌, sym, refl, ap, ◌∙◌}
use Rattle.std.proofs.lemmas.Bool.{both_ways}
use Rattle.codes.specs.declared.verdicts.Verdict.{Verdict}
use Rattle.codes.specs.declared.verdicts.Verdict.TheVariants.{Accept, Compose, StrictReject, Reject, NoDisplay}
use Rattle.codes.specs.Classes.{class_of}
use Rattle.codes.specs.Verdicts.{is_compose, verdict_of}
use Rattle.cells.specs.Runs.{joins, into, runs}
use Rattle.cells.specs.Cuttings.{Cutting, glued, OneDivision}
use Rattle.cells.proofs.Fronts.{led}
use Rattle.cells.proofs.Short.{whole}

abbrev together : ℕ → ℕ → Bool
together a b = joins (class_of a) (class_of b)

compose_only : (v : Verdict) → is_compose v ≡ true → v ≡ Compose
compose_only Accept e = cc
compose_only Compose e = refl
compose_only StrictReject e = cc
compose_only Reject e = cc
compose_only NoDisplay e = cc

-- codes are together exactly when their verdict is Compose
pub verdict_of_joined : (a b : ℕ) → together a b ≡ true → verdict_of a b ≡ Compose
unfolding joins verdict_of
verdict_of_joined a b e = compose_only (verdict_of a b) e

pub joined_by_verdict : (a b : ℕ) → verdict_of a b ≡ Compose → together a b ≡ true
unfolding joins verdict_of
joined_by_verdict a b e = ap is_compose e

apart : (b : Bool) → (b ≡ true → ⊥) → b ≡ false
apart true f = absurd (f refl)
apart false f = refl

runs_joined : (c d : ℕ) (s : List ℕ) → together c d ≡ true → runs class_of (c ∷ d ∷ s) ≡ into c (runs class_of (d ∷ s))
runs_joined c d s e = rw e

runs_cut : (c d : ℕ) (s : List ℕ) → together c d ≡ false → runs class_of (c ∷ d ∷ s) ≡ (c ∷ []) ∷ runs class_of (d ∷ s)
runs_cut c d s e = rw e

-- every cutting is the runs of what it cuts
rest_of : (p : List ℕ) (ps : List (List ℕ)) → Cutting (p ∷ ps) → Cutting ps
rest_of p [] h = tt
rest_of p (q ∷ ps) h = h.1.1

step : (p : List ℕ) (ps : List (List ℕ)) → runs class_of (glued ps) ≡ ps → Cutting (p ∷ ps) → runs class_of (p ++ glued ps) ≡ p ∷ ps
step [] [] ih h = absurd h
step [] (q ∷ ps) ih h = absurd h.0
step (c ∷ []) [] ih h = refl
step (c ∷ []) ([] ∷ []) ih h = absurd h.1.1
step (c ∷ []) ([] ∷ q ∷ ps) ih h = absurd h.1.1.0
step (c ∷ []) ((d ∷ q) ∷ ps) ih h =
    runs_cut c d (q ++ glued ps) (apart (together c d) (λ e. h.1.0 (verdict_of_joined c d e))) ∙ ap (λ r. (c ∷ []) ∷ r) ih
step (c ∷ d ∷ p) [] ih h =
    runs_joined c d (p ++ glued []) (joined_by_verdict c d h.0) ∙ ap (into c) (step (d ∷ p) [] ih h.1)
step (c ∷ d ∷ p) (q ∷ ps) ih h =
    runs_joined c d (p ++ glued (q ∷ ps)) (joined_by_verdict c d h.0.0) ∙ ap (into c) (step (d ∷ p) (q ∷ ps) ih (h.0.1, h.1))

only : (ps : List (List ℕ)) → Cutting ps → runs class_of (glued ps) ≡ ps
only [] h = refl
only (p ∷ ps) h = step p ps (only ps (rest_of p ps h)) h

-- the runs are a cutting: the first of them begins with the string's first code
abbrev Begins : ℕ → List (List ℕ) → Type 0
Begins c [] = ⊥
Begins c ([] ∷ rs) = ⊥
Begins c ((x ∷ r) ∷ rs) = x ≡ c

led_begins : (b : Bool) (c : ℕ) (rs : List (List ℕ)) → Begins c (led b c rs)
led_begins true c [] = refl
led_begins true c (r ∷ rs) = refl
led_begins false c rs = refl

begins : (c : ℕ) (s : List ℕ) → Begins c (runs class_of (c ∷ s))
begins c [] = refl
begins c (d ∷ s) = led_begins (together c d) c (runs class_of (d ∷ s))

cut_into : (c d : ℕ) (rs : List (List ℕ)) → verdict_of c d ≡ Compose → Begins d rs → Cutting rs → Cutting (into c rs)
cut_into c d [] v b h = absurd b
cut_into c d ([] ∷ rs) v b h = absurd b
cut_into c d ((x ∷ r) ∷ []) v b h = (ap (verdict_of c) b ∙ v, h)
cut_into c d ((x ∷ r) ∷ q ∷ rs) v b h = ((ap (verdict_of c) b ∙ v, h.0), h.1)

cut_off : (c d : ℕ) (rs : List (List ℕ)) → (verdict_of c d ≡ Compose → ⊥) → Begins d rs → Cutting rs → Cutting ((c ∷ []) ∷ rs)
cut_off c d [] v b h = absurd b
cut_off c d ([] ∷ rs) v b h = absurd b
cut_off c d ((x ∷ r) ∷ rs) v b h = (tt, ((λ e. v (ap (verdict_of c) (sym b) ∙ e)), h))

cut_led : (b : Bool) (c d : ℕ) (rs : List (List ℕ)) → together c d ≡ b → Begins d rs → Cutting rs → Cutting (led b c rs)
cut_led true c d rs e f h = cut_into c d rs (verdict_of_joined c d e) f h
cut_led false c d rs e f h = cut_off c d rs (λ v. both_ways (together c d) e (joined_by_verdict c d v)) f h

cutting : (s : List ℕ) → Cutting (runs class_of s)
cutting [] = tt
cutting (c ∷ []) = tt
cutting (c ∷ d ∷ s) = cut_led (together c d) c d (runs class_of (d ∷ s)) refl (begins d s) (cutting (d ∷ s))

pub one_division : (s : List ℕ) → OneDivision s
one_division s = record { cutting = cutting s; whole = whole class_of s; only = λ ps h e. sym (only ps h) ∙ ap (runs class_of) e }
