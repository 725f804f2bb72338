use Rattle.std.proofs.Common.{◌≡◌, Some, None, ap, ◌∙◌, cond, rules}
use Rattle.arrayvec.proofs.ArrayVecLemmas.{filter-from_retain}
use Rattle.cells.specs.Values.{lawful}
use Rattle.panels.specs.Stacks.{gathered, present}
use Rattle.panels.proofs.stack.Stack.gather.Goals as goal

pub returns : goal.returns
unfolding gathered present
returns c =
    let codes : c.deref.result.now ≡ gathered c.args.self.now = c.deref.ensures.0 ∙ filter-from_retain _ _ _ (λ f x b g called. search rules) _ _ c.retain.ensures.filtered ∙ ap present c.from-codes.ensures.0 in
    c.new.ensures.value ∙ ap (λ s. cond (lawful s) (Some s) None) codes
