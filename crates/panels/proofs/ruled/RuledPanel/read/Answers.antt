use Rattle.std.proofs.Common.{Some, sym, ap, ◌∙◌}
use Rattle.std.specs.Option.{option_map}
use Rattle.cells.specs.Contents.{held}
use Rattle.panels.proofs.Columns.{column_at, column_past}
use Rattle.panels.proofs.ruled.RuledPanel.read.Goals as goal

pub returns-in_err-column : goal.returns-in_err-column
returns-in_err-column g c =
    let p = c.args.self.now in
    ap (option_map held) c.from_residual.ensures ∙ sym (column_past (g.S.Store.held_at p.store) p.ruler.columns c.args.j c.in_err-column.ensures)

pub returns : goal.returns
returns g c =
    let p = c.args.self.now in
    let at = c.in_ok-column.ensures in
    let held_at = g.S.Store.held_at p.store in
    ap Some (c.cell.ensures ∙ ap held_at at.0) ∙ sym (column_at held_at p.ruler.columns c.args.j at.1)
