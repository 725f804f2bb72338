-- Codes in three places, with 00 in those that are empty.
use Rattle.std.proofs.Common.{◌≡◌, ℕ, zero, suc, ◌≤◌, Bool, true, false, cond, eqb, leb, List, [], ◌∷◌, ◌++◌, length, get_or, take, replicate, refl, ap, ◌∙◌, ⊎_elim, arith, length-append}
use lib.ListN.{length-replicate}
use Rattle.std.proofs.lemmas.Bool.{and_parts, both_ways, cases_Bool, eqb-true, leb-true}
use Rattle.std.proofs.lemmas.List.{take-append-le, take_all}
use Rattle.codes.specs.Classes.{class_of, is_text}
use Rattle.cells.specs.Values.{all_text, chained, filled, lawful, padded}

text_not_zero : (c : ℕ) → is_text c ≡ true → eqb c 0 ≡ false
unfolding is_text class_of
text_not_zero c e = ⊎_elim (λ z. absurd (both_ways (is_text c) (ap is_text (eqb-true c 0 z)) e)) (λ n. n) (cases_Bool (eqb c 0))

filled_zeros : (n : ℕ) → filled (replicate n 0) ≡ []
filled_zeros zero = refl
filled_zeros (suc n) = refl

filled_text : (s : List ℕ) (n : ℕ) → all_text s ≡ true → filled (s ++ replicate n 0) ≡ s
filled_text [] n e = filled_zeros n
filled_text (c ∷ s) n e =
    let parts = and_parts (is_text c) (all_text s) e in
    let some = text_not_zero c parts.0 in
    rw some (ap (λ l. c ∷ l) (filled_text s n parts.1))

pub lawful_parts : (s : List ℕ) → lawful s ≡ true → (chained s ≡ true) × (all_text s ≡ true)
lawful_parts s e = and_parts (chained s) (all_text s) (and_parts (leb (length s) 3) _ e).1

pub filled_padded : (s : List ℕ) → lawful s ≡ true → filled (padded s) ≡ s
filled_padded s e = filled_text s _ (lawful_parts s e).1

pub lawful_short : (s : List ℕ) → lawful s ≡ true → length s ≤ 3
lawful_short s e = leb-true (length s) 3 (and_parts (leb (length s) 3) _ e).0

pub three_places : (s : List ℕ) → s ≡ padded (filled s) → lawful (filled s) ≡ true → length s ≡ 3
three_places s e h = ap length e ∙ simp (length-append, length-replicate) (omega (arith, lawful_short (filled s) h))

-- the places by the number of codes
pub none : (s : List ℕ) → length s ≡ 0 → (0 ∷ 0 ∷ 0 ∷ []) ≡ padded s
none [] h = refl
none (a ∷ s) h = absurd (omega arith)

pub one : (s : List ℕ) → length s ≡ 1 → (get_or s 0 0 ∷ 0 ∷ 0 ∷ []) ≡ padded s
one [] h = absurd (omega arith)
one (a ∷ []) h = refl
one (a ∷ b ∷ s) h = absurd (omega arith)

pub two : (s : List ℕ) → length s ≡ 2 → (get_or s 0 0 ∷ get_or s 1 0 ∷ 0 ∷ []) ≡ padded s
two [] h = absurd (omega arith)
two (a ∷ []) h = absurd (omega arith)
two (a ∷ b ∷ []) h = refl
two (a ∷ b ∷ c ∷ s) h = absurd (omega arith)

pub three : (s : List ℕ) → length s ≡ 3 → (get_or s 0 0 ∷ get_or s 1 0 ∷ get_or s 2 0 ∷ []) ≡ padded s
three [] h = absurd (omega arith)
three (a ∷ []) h = absurd (omega arith)
three (a ∷ b ∷ []) h = absurd (omega arith)
three (a ∷ b ∷ c ∷ []) h = refl
three (a ∷ b ∷ c ∷ d ∷ s) h = absurd (omega arith)

-- how many places are filled, by the first that is empty
pub filled_count : (s : List ℕ) → length s ≡ 3 → length (filled s) ≡ cond (eqb (get_or s 0 0) 0) 0 (cond (eqb (get_or s 1 0) 0) 1 (cond (eqb (get_or s 2 0) 0) 2 3))
filled_count [] h = absurd (omega arith)
filled_count (a ∷ []) h = absurd (omega arith)
filled_count (a ∷ b ∷ []) h = absurd (omega arith)
filled_count (a ∷ b ∷ c ∷ []) h = by (eqb a 0) (eqb b 0) (eqb c 0)
  where
    by : (x y z : Bool) → length (cond x [] (a ∷ cond y [] (b ∷ cond z [] (c ∷ [])))) ≡ cond x 0 (cond y 1 (cond z 2 3))
    by true y z = refl
    by false true z = refl
    by false false true = refl
    by false false false = refl
filled_count (a ∷ b ∷ c ∷ d ∷ s) h = absurd (omega arith)

-- the filled places come first
pub filled_first : (s : List ℕ) → s ≡ padded (filled s) → take (length (filled s)) s ≡ filled s
filled_first s e = ap (take (length (filled s))) e ∙ take-append-le _ (filled s) _ (omega arith) ∙ take_all _ (filled s) (omega arith)
