-- What the grid panel shows: the cells of its table, as many as it has columns.
use Rattle.std.specs.Prelude.{ℕ, List, [], map, slice_index_or}
use Rattle.cells.specs.Contents.{held}
use Rattle.panels.specs.declared.grid.Grid.{Grid}
use Rattle.panels.specs.declared.ruled.Ruled.{Ruled}
use Rattle.panels.specs.Ruled.{ruled_screen}
use Rattle.panels.specs.Screens.{Screen}

-- the codes of the cell in column j
abbrev pub grid_held : Grid → ℕ → List ℕ
grid_held g j = slice_index_or (map held g.table.cells) j []

abbrev pub grid_screen : Ruled Grid → Screen
grid_screen = ruled_screen grid_held
