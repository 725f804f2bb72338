use Rattle.std.proofs.Common.{Some, sym, ap, ◌∙◌}
use Rattle.std.specs.Option.{option_map}
use Rattle.panels.specs.Rows.{rows_held, stack_at}
use Rattle.panels.specs.Stacks.{stack_of}
use Rattle.panels.proofs.Columns.{column_at, column_past}
use Rattle.panels.proofs.row.RowPanel.stack.Goals as goal

pub returns-in_err-column : goal.returns-in_err-column
returns-in_err-column c =
    let p = c.args.self.now in
    c.from_residual.ensures ∙ sym (ap (option_map stack_of) (column_past (rows_held p.store) p.ruler.columns c.args.j c.in_err-column.ensures))

pub returns : goal.returns
returns c =
    let p = c.args.self.now in
    let j = c.args.j in
    let at = c.in_ok-column.ensures in
    ap Some (c.stack.ensures ∙ ap (stack_at p.store) at.0 ∙ (p.store.proper j).1)
    ∙ sym (ap (option_map stack_of) (column_at (rows_held p.store) p.ruler.columns j at.1))
