-- A cell's codes by display level: each lies in the row of its level, and 00 marks an empty row.
use Rattle.std.specs.Prelude.{◌≡◌, ℕ, Bool, true, not, List, [], ◌∷◌, ◌==◌, filter, slice_index, unwrap_or}
use Rattle.std.specs.List.{find}
use Rattle.codes.specs.declared.levels.DisplayLevel.{DisplayLevel}
use Rattle.codes.specs.declared.levels.DisplayLevel.TheVariants.{Nowhere, Top, Above, Base, Below}
use Rattle.codes.specs.Classes.{class_of}
use Rattle.codes.specs.Levels.{level_of, same_level}
use Rattle.cells.specs.Values.{lawful}
use Rattle.panels.specs.declared.stack.Stack.{Stack}

-- a code is shown at a level
abbrev pub at_level : DisplayLevel → ℕ → Bool
at_level l c = same_level (level_of (class_of c)) l

-- the first of the codes that is shown at a level, or 00
abbrev pub on_level : DisplayLevel → List ℕ → ℕ
on_level l cs = unwrap_or (find (at_level l) cs) 0

unfoldable pub stack_of : List ℕ → Stack
stack_of s = record { top = on_level Top s; above = on_level Above s; base = on_level Base s; below = on_level Below s }

-- what lies in the row of a level
abbrev pub in_row : Stack → DisplayLevel → ℕ
in_row x Nowhere = 0
in_row x Top = x.top
in_row x Above = x.above
in_row x Base = x.base
in_row x Below = x.below

-- without the marks of empty rows
unfoldable pub present : List ℕ → List ℕ
present = filter (λ c. not (c == 0))

-- the codes from the base outward
unfoldable pub gathered : Stack → List ℕ
gathered x = present (x.base ∷ x.below ∷ x.above ∷ x.top ∷ [])

-- what four rows have in column j
abbrev pub stack_in : List ℕ → List ℕ → List ℕ → List ℕ → ℕ → Stack
stack_in top above base below j = record { top = slice_index top j; above = slice_index above j; base = slice_index base j; below = slice_index below j }

-- the rows have the codes of a cell, each in the row of its level
abbrev pub Proper : Stack → Type 0
Proper x = (lawful (gathered x) ≡ true) × (x ≡ stack_of (gathered x))
