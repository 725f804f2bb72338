use Rattle.std.proofs.Common.{sym, ap, subst, rules}
use Rattle.panels.specs.Stacks.{Proper, gathered}
use Rattle.panels.proofs.Stacked.{cell_proper, changed_proper, changed_there}
use Rattle.panels.proofs.row.RowsStore.put.Goals as goal

pub invariant_of-self : goal.invariant_of-self
invariant_of-self c =
    let r = c.args.self.now in
    let column = c.args.column in
    let j = column.index in
    let x = c.of-top.result in
    record {
      long = search rules;
      proper = changed_proper r j column.within x (subst Proper (sym c.of-top.ensures.value) (cell_proper c.args.cell));
    }

pub returns-clause-there : goal.returns-clause-there
returns-clause-there c = λ k apart.
    let column = c.args.column in
    ap gathered (changed_there c.args.self.now column.index column.within c.of-top.result k apart)
