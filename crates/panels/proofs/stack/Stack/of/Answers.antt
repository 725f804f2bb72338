use Rattle.std.proofs.Common.{◌≡◌, sym, ap, ◌∙◌, rules}
use Rattle.codes.specs.Classes.{class_of}
use Rattle.codes.specs.Levels.{level_of}
use Rattle.cells.specs.Contents.{held}
use Rattle.cells.proofs.Same.{by_codes, held_lawful}
use Rattle.panels.specs.declared.stack.Stack.{Stack}
use Rattle.panels.specs.Stacks.{gathered, in_row, stack_of}
use Rattle.panels.proofs.Outward.{each_in_row, held_again}
use Rattle.panels.proofs.stack.Stack.of.Goals as goal

pub returns : goal.returns
unfolding stack_of
returns c =
    let x = c.args.cell.now in
    let rows : Stack = record { top = c.on_level.result; above = c.on_level-2.result; base = c.on_level-3.result; below = c.on_level-4.result } in
    let value : rows ≡ stack_of (held x) = search rules in
    record {
      value = value;
      each = λ code m. ap (λ t. in_row t (level_of (class_of code))) value ∙ each_in_row code (held x) (held_lawful x) m;
      again = ap gathered value ∙ held_again x;
      only = λ other same. by_codes other x (sym (held_again other) ∙ ap gathered (same ∙ value) ∙ held_again x);
    }
