-- Runs and cells of a string, for any kind of code X that tells its class by k.
use Rattle.std.specs.Prelude.{◌≡◌, ℕ, ◌+◌, ◌≤◌, Bool, false, cond, not, List, [], ◌∷◌, length, take, drop, filter, Some, None, Option, slice_index_or}
use Rattle.std.specs.List.{slice_get}
use Rattle.codes.specs.declared.classes.Class.{Class}
use Rattle.codes.specs.Classes.{is_control}
use Rattle.codes.specs.Verdicts.{class_verdict, is_compose}
use Rattle.cells.specs.declared.division.Span.{Span}

-- a code of the second class belongs to the run of one of the first: their verdict is Compose
unfoldable pub joins : Class → Class → Bool
joins first second = is_compose (class_verdict first second)

-- a code put in front of the first run
abbrev pub into : {X : Type 0} → X → List (List X) → List (List X)
into c [] = (c ∷ []) ∷ []
into c (r ∷ rs) = (c ∷ r) ∷ rs

-- a code joins the run of the code before it, or begins one
abbrev pub runs : {X : Type 0} → (X → Class) → List X → List (List X)
runs k [] = []
runs k (c ∷ []) = (c ∷ []) ∷ []
runs k (c ∷ d ∷ ds) = cond (joins (k c) (k d)) (into c (runs k (d ∷ ds))) ((c ∷ []) ∷ runs k (d ∷ ds))

abbrev pub first_run : {X : Type 0} → List (List X) → List X
first_run [] = []
first_run (r ∷ rs) = r

-- a run that begins with a control code is no cell
abbrev pub is_cell : {X : Type 0} → (X → Class) → List X → Bool
is_cell k [] = false
is_cell k (c ∷ cs) = not (is_control (k c))

abbrev pub cells : {X : Type 0} → (X → Class) → List (List X) → List (List X)
cells k rs = filter (is_cell k) rs

abbrev pub width_of : {X : Type 0} → (X → Class) → List X → ℕ
width_of k s = length (cells k (runs k s))

-- where each cell lies, if the first run starts at a place
abbrev pub spans : {X : Type 0} → (X → Class) → ℕ → List (List X) → List Span
spans k at [] = []
spans k at (r ∷ rs) = cond (is_cell k r) (record { start = at; len = length r } ∷ spans k (at + length r) rs) (spans k (at + length r) rs)

-- where cell number j lies, counted from 0, or none past the last
abbrev pub cell_at : {X : Type 0} → (X → Class) → List X → ℕ → Option Span
cell_at k s j = slice_get (spans k 0 (runs k s)) j

-- a span is where the codes of cell j stand, and there is none from the width on
abbrev pub Spanned : {X : Type 0} → (X → Class) → List X → ℕ → Option Span → Type 0
Spanned k s j (Some x) = (x.start + x.len ≤ length s) × (take x.len (drop x.start s) ≡ slice_index_or (cells k (runs k s)) j [])
Spanned k s j None = width_of k s ≤ j
