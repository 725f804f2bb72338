-- The first run is the front of the string, and the others are the runs of what is left.
use Rattle.std.proofs.Common.{◌≡◌, ℕ, ◌<◌, ◌≤◌, List, [], ◌∷◌, length, take, drop, sym, ap, ◌∙◌, subst, arith}
use Rattle.std.specs.List.{flat_map}
use Rattle.std.proofs.lemmas.List.{take_all, take-append-le}
use Rattle.codes.specs.declared.classes.Class.{Class}
use Rattle.cells.specs.Runs.{first_run, runs}
use Rattle.cells.proofs.Fronts.{front, front_within, runs_front}
use Rattle.cells.proofs.Short.{whole}

module _ {X : Type 0} (k : X → Class) where
  front_taken : (first : List X) (others : List (List X)) (s : List X) → flat_map (λ r. r) (first ∷ others) ≡ s → first ≡ take (length first) s
  front_taken first others s e =
      sym (ap (take (length first)) (sym e) ∙ take-append-le (length first) first (flat_map (λ r. r) others) (omega arith) ∙ take_all (length first) first (omega arith))

  -- the first run has n codes
  pub record Lead (s : List X) (n : ℕ) : Type 0 where
    pub within : n ≤ length s
    pub rest : runs k s ≡ take n s ∷ runs k (drop n s)

  lead_of : (c : X) (s : List X) → Lead (c ∷ s) (front k (c ∷ s))
  lead_of c s =
      let same : first_run (runs k (c ∷ s)) ≡ take (front k (c ∷ s)) (c ∷ s) = front_taken (first_run (runs k (c ∷ s))) (runs k (drop (front k (c ∷ s)) (c ∷ s))) (c ∷ s) (ap (flat_map (λ r. r)) (sym (runs_front k c s)) ∙ whole k (c ∷ s)) in
      record {
        within = front_within k c s;
        rest = runs_front k c s ∙ ap (λ r. r ∷ runs k (drop (front k (c ∷ s)) (c ∷ s))) same;
      }

  pub lead : (s : List X) (n : ℕ) → 0 < length s → n ≡ front k s → Lead s n
  lead [] n h e = absurd (omega arith)
  lead (c ∷ s) n h e = subst (Lead (c ∷ s)) (sym e) (lead_of c s)
