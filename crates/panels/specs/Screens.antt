-- What a panel shows.
use Rattle.std.specs.Prelude.{◌≡◌, ℕ, ◌≤◌, true, cond, List, [], length, replicate, Option, nat_le, nat_lt, slice_set}
use Rattle.std.specs.List.{AllByRecursion, slice_get}
use Rattle.cells.specs.Values.{lawful}

-- the row has the codes of the cell in each column, and none for a blank; a cursor before column j is j
pub record Screen : Type 0 where
  pub columns : ℕ
  pub row : List (List ℕ)
  pub cursor : ℕ

abbrev pub screen_of : ℕ → List (List ℕ) → ℕ → Screen
screen_of w r c = record { columns = w; row = r; cursor = c }

pub record Lawful (s : Screen) : Type 0 where
  pub some : 1 ≤ s.columns
  pub few : s.columns ≤ 80
  pub full : length s.row ≡ s.columns
  pub cells : AllByRecursion (λ x. lawful x ≡ true) s.row
  pub within : s.cursor ≤ s.columns

-- the codes in column j; there are none past the last column
abbrev pub column : Screen → ℕ → Option (List ℕ)
column s j = slice_get s.row j

-- column j shows these codes, if there is such a column, and all else is the same
abbrev pub shown : Screen → ℕ → List ℕ → Screen
shown s j x = cond (nat_lt j s.columns) (screen_of s.columns (slice_set s.row j x) s.cursor) s

-- the cursor stands at a place, if it can, and all else is the same
abbrev pub placed : Screen → ℕ → Screen
placed s c = cond (nat_le c s.columns) (screen_of s.columns s.row c) s

-- the nearest number of columns that a panel can have
abbrev pub nearest : ℕ → ℕ
nearest w = cond (nat_lt w 1) 1 (cond (nat_lt 80 w) 80 w)

-- w blank columns, and the cursor before them
abbrev pub blank_of : ℕ → Screen
blank_of w = screen_of w (replicate w []) 0
