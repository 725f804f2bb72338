-- A panel as a person reads it.
use Rattle.std.specs.Prelude.{ℕ, ◌+◌, Bool, cond, List, [], ◌∷◌, ◌++◌, ◌==◌}
use Rattle.cells.specs.Texts.{cell_text}
use Rattle.panels.specs.Screens.{Screen}

-- `>` where the cursor stands, and else `|`
abbrev pub bar : Bool → ℕ
bar here = cond here 0x3E 0x7C

-- the columns from j on, each after its bar, and a last bar behind them
abbrev pub columns_text : ℕ → ℕ → List (List ℕ) → List ℕ
columns_text cursor j [] = bar (j == cursor) ∷ []
columns_text cursor j (x ∷ xs) = bar (j == cursor) ∷ (cell_text x ++ columns_text cursor (j + 1) xs)

unfoldable pub picture_text : Screen → List ℕ
picture_text s = columns_text s.cursor 0 s.row
