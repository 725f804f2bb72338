use Rattle.std.proofs.Common.{sym, ap, ◌∙◌}
use Rattle.panels.specs.Rows.{stack_at}
use Rattle.panels.specs.Stacks.{gathered}
use Rattle.panels.proofs.Outward.{held_again}
use Rattle.panels.proofs.Stacked.{proper_cell}
use Rattle.panels.proofs.row.RowsStore.cell.Goals as goal

pub unwrap-requires : goal.unwrap-requires
unwrap-requires c =
    let r = c.args.self.now in
    let j = c.args.column.index in
    proper_cell (stack_at r j) (r.proper j) c.cell.result (rw c.stack.ensures at c.cell.ensures)

pub returns : goal.returns
returns c =
    let is = rw c.unwrap.ensures at c.cell.ensures in
    sym (held_again c.unwrap.result) ∙ ap gathered (is ∙ c.stack.ensures)
