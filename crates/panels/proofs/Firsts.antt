-- What the grid panel shows, said of its table as a whole: the first cells, as many as the panel has columns.
use Rattle.std.proofs.Common.{◌≡◌, [], map, take, get_or, sym, ap, ◌∙◌, arith}
use Rattle.std.proofs.lemmas.List.{get_or-take, take-map}
use Rattle.std.proofs.lemmas.List.FromFn.{fill_by_all}
use Rattle.cells.specs.Contents.{held}
use Rattle.panels.specs.declared.grid.Grid.{Grid}
use Rattle.panels.specs.declared.ruled.Ruled.{Ruled}
use Rattle.panels.specs.Grids.{grid_screen, grid_held}
use Rattle.panels.specs.Laws.{firsts_length}
use Rattle.panels.specs.Screens.{screen_of}

pub first_cells : (p : Ruled Grid) → grid_screen p ≡ screen_of p.ruler.columns (map held (take p.ruler.columns p.store.table.cells)) p.ruler.cursor
first_cells p =
    let w = p.ruler.columns in
    let cells = p.store.table.cells in
    let full = p.store.full in
    let few = p.ruler.few in
    let firsts = map held (take w cells) in
    ap (λ row. screen_of w row p.ruler.cursor)
    (sym (fill_by_all (grid_held p.store) firsts w [] (firsts_length w cells (omega arith)) (λ k lt. ap (λ row. get_or row k []) (sym (take-map held w cells)) ∙ get_or-take w (map held cells) k [] lt)))
