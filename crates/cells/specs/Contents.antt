-- Cells by the codes that they hold, and how many there are.
use Rattle.std.specs.Prelude.{◌≡◌, ℕ, ◌⊎◌, List, [], ◌∷◌, length}
use Rattle.std.specs.List.{AllByRecursion}
use Rattle.cells.specs.declared.cell.Cell.{Cell}
use Rattle.cells.specs.Values.{filled}

unfoldable pub held : Cell → List ℕ
held x = filled x.places

abbrev pub Member : {X : Type 0} → X → List X → Type 0
Member x [] = ⊥
Member x (y ∷ ys) = (x ≡ y) ⊎ Member x ys

abbrev pub Distinct : {X : Type 0} → List X → Type 0
Distinct [] = Unit {0}
Distinct (x ∷ xs) = (Member x xs → ⊥) × Distinct xs

-- the strings with P are n: some list of n different strings has them all, and no other
pub record Exactly (n : ℕ) (P : List ℕ → Type 0) : Type 0 where
  pub strings : List (List ℕ)
  pub count : length strings ≡ n
  pub each : AllByRecursion P strings
  pub every : (s : List ℕ) → P s → Member s strings
  pub once : Distinct strings
