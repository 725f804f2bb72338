use Rattle.std.proofs.Common.{rules}
use Rattle.panels.proofs.Stacked.{kept}
use Rattle.panels.proofs.stack.Stack.cell.Goals as goal

pub returns : goal.returns
returns c = kept c.args.self.now _ _ c.gather.ensures c.filter.ensures (λ y b k. search rules)
