-- The one way to divide a string, told by the verdicts on neighbours alone.
use Rattle.std.specs.Prelude.{◌≡◌, ℕ, ◌≤◌, List, [], ◌∷◌, length}
use Rattle.std.specs.List.{flat_map, AllByRecursion}
use Rattle.codes.specs.declared.verdicts.Verdict.TheVariants.{Compose}
use Rattle.codes.specs.Classes.{class_of}
use Rattle.codes.specs.Verdicts.{verdict_of}
use Rattle.cells.specs.Runs.{runs}

-- a piece has a code, and verdict Compose between all neighbours
abbrev pub Piece : List ℕ → Type 0
Piece [] = ⊥
Piece (c ∷ []) = Unit {0}
Piece (c ∷ d ∷ ds) = (verdict_of c d ≡ Compose) × Piece (d ∷ ds)

-- no verdict Compose between the last code of a piece and the first of the next
abbrev pub Cut : List ℕ → List ℕ → Type 0
Cut (c ∷ []) (d ∷ ds) = verdict_of c d ≡ Compose → ⊥
Cut (c ∷ e ∷ es) ds = Cut (e ∷ es) ds
Cut [] ds = Unit {0}
Cut (c ∷ []) [] = Unit {0}

-- pieces with no verdict Compose across a cut
abbrev pub Cutting : List (List ℕ) → Type 0
Cutting [] = Unit {0}
Cutting (p ∷ []) = Piece p
Cutting (p ∷ q ∷ ps) = Piece p × (Cut p q × Cutting (q ∷ ps))

abbrev pub glued : List (List ℕ) → List ℕ
glued ps = flat_map (λ p. p) ps

-- the runs are a cutting of the string, and every cutting of it is the runs
pub record OneDivision (s : List ℕ) : Type 0 where
  pub cutting : Cutting (runs class_of s)
  pub whole : glued (runs class_of s) ≡ s
  pub only : (ps : List (List ℕ)) → Cutting ps → glued ps ≡ s → ps ≡ runs class_of s

abbrev pub AllShort : List (List ℕ) → Type 0
AllShort rs = AllByRecursion (λ r. length r ≤ 3) rs
