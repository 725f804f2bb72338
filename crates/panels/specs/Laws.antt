-- Each store has in a column what a cell may hold, and so each panel shows what a panel may show.
use Rattle.std.specs.Prelude.{◌≡◌, ℕ, zero, suc, ◌+◌, ◌≤◌, true, List, [], ◌∷◌, length, map, refl, slice_index_or, take}
use Rattle.std.specs.List.{AllByRecursion, range_with_len}
use Rattle.std.proofs.Common.{◌∙◌}
use Rattle.std.proofs.lemmas.List.{length-map, length-take-le}
use Rattle.std.proofs.lemmas.List.FromFn.{length-map-range_with_len}
use Rattle.cells.specs.declared.cell.Cell.{Cell}
use Rattle.cells.specs.Contents.{held}
use Rattle.cells.specs.Values.{lawful}
use Rattle.cells.proofs.Same.{held_lawful}
use Rattle.panels.specs.declared.grid.Grid.{Grid}
use Rattle.panels.specs.declared.row.Rows.{Rows}
use Rattle.panels.specs.declared.ruled.Ruled.{Ruled}
use Rattle.panels.specs.Grids.{grid_held, grid_screen}
use Rattle.panels.specs.Rows.{row_screen, rows_held}
use Rattle.panels.specs.Ruled.{ruled_screen}
use Rattle.panels.specs.Screens.{Lawful}

cells_lawful : (cells : List Cell) (j : ℕ) → lawful (slice_index_or (map held cells) j []) ≡ true
cells_lawful [] j = refl
cells_lawful (x ∷ cells) zero = held_lawful x
cells_lawful (x ∷ cells) (suc j) = cells_lawful cells j

-- of the first cells of a table there are as many as are asked for, and each is one that a cell may be

pub firsts_length : (n : ℕ) (cells : List Cell) → n ≤ length cells → length (map held (take n cells)) ≡ n
firsts_length n cells h = length-map (take n cells) held ∙ length-take-le n cells h

pub firsts_lawful : (n : ℕ) (cells : List Cell) → AllByRecursion (λ x. lawful x ≡ true) (map held (take n cells))
firsts_lawful zero cells = tt
firsts_lawful (suc n) [] = tt
firsts_lawful (suc n) (x ∷ cells) = (held_lawful x, firsts_lawful n cells)

pub grid_cells_lawful : (g : Grid) (j : ℕ) → lawful (grid_held g j) ≡ true
grid_cells_lawful g j = cells_lawful g.table.cells j

pub rows_cells_lawful : (r : Rows) (j : ℕ) → lawful (rows_held r j) ≡ true
rows_cells_lawful r j = (r.proper j).0

pub columns_lawful : (f : ℕ → List ℕ) (a n : ℕ) → ((j : ℕ) → lawful (f j) ≡ true) → AllByRecursion (λ x. lawful x ≡ true) (map f (range_with_len a n))
columns_lawful f a zero each = tt
columns_lawful f a (suc n) each = (each a, columns_lawful f (a + 1) n each)

pub ruled_lawful : {S : Type 0} (held_at : S → ℕ → List ℕ) → ((s : S) (j : ℕ) → lawful (held_at s j) ≡ true) → (p : Ruled S) → Lawful (ruled_screen held_at p)
ruled_lawful held_at each p =
    let few = p.ruler.few in
    record {
      some = few.0;
      few = few.1;
      full = length-map-range_with_len (held_at p.store) 0 p.ruler.columns;
      cells = columns_lawful (held_at p.store) 0 p.ruler.columns (each p.store);
      within = p.ruler.within;
    }

pub grid_lawful : (p : Ruled Grid) → Lawful (grid_screen p)
grid_lawful = ruled_lawful grid_held grid_cells_lawful

pub row_lawful : (p : Ruled Rows) → Lawful (row_screen p)
row_lawful = ruled_lawful rows_held rows_cells_lawful
