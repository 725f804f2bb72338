-- What a cell may hold is text in one run.
use Rattle.std.proofs.Common.{◌≡◌, ℕ, suc, ◌<◌, ◌≤◌, Bool, true, false, cond, ◌&&◌, eqb, leb, List, [], ◌∷◌, length, sym, refl, ap, ⊎_elim, arith}
use Rattle.std.proofs.lemmas.Bool.{and_cases, and_parts, and_right, both_ways, cases_Bool, eq-eqb, ne_eqb, le-leb}
use Rattle.codes.specs.Classes.{class_of}
use Rattle.cells.specs.Runs.{joins}
use Rattle.cells.specs.Values.{all_text, chained, lawful}
use Rattle.cells.proofs.Fronts.{front, front_more, more}
use Rattle.cells.proofs.Short.{front_short}

all_joined : (c : ℕ) (s : List ℕ) → chained (c ∷ s) ≡ true → more class_of (class_of c) s ≡ length s
all_joined c [] e = refl
all_joined c (d ∷ s) e =
    let parts = and_parts (joins (class_of c) (class_of d)) (chained (d ∷ s)) e in
    let together = parts.0 in
    rw together (ap suc (all_joined d s parts.1))

some_apart : (c : ℕ) (s : List ℕ) → chained (c ∷ s) ≡ false → more class_of (class_of c) s < length s
some_apart c [] e = absurd (both_ways true e refl)
some_apart c (d ∷ s) e =
    ⊎_elim (λ apart. rw apart (omega arith)) (λ later. short (joins (class_of c) (class_of d)) (some_apart d s later))
    (and_cases (joins (class_of c) (class_of d)) (chained (d ∷ s)) e)
  where
    short : {m n : ℕ} (b : Bool) → m < n → cond b (suc m) 0 < suc n
    short true h = omega arith
    short false h = omega arith

front_full : (s : List ℕ) → chained s ≡ true → (front class_of s ≡ length s) × (length s ≤ 3)
front_full [] e = (refl, omega arith)
front_full (c ∷ s) e =
    let all = all_joined c s e in
    (omega (arith, front_more class_of c s), omega (arith, front_more class_of c s, front_short class_of c s))

front_part : (s : List ℕ) → chained s ≡ false → front class_of s ≡ length s → ⊥
front_part [] e f = both_ways true e refl
front_part (c ∷ s) e f = let some = some_apart c s e in omega (arith, front_more class_of c s)

pub lawful_one_run : (s : List ℕ) → (eqb (front class_of s) (length s) && all_text s) ≡ lawful s
lawful_one_run s =
    ⊎_elim (λ e.
    let one = eq-eqb _ _ (front_full s e).0 in
    let few = le-leb _ _ (front_full s e).1 in
    rw (e, one, few))
    (λ e.
    let not-one = ne_eqb _ _ (front_part s e) in
    rw (e, not-one) (sym (and_right (leb (length s) 3) false refl)))
    (cases_Bool (chained s))
