use Rattle.std.proofs.Common.{◌≡◌, ◌+◌, length, Some, None, arith}
use Rattle.std.proofs.lemmas.Grind.{common_steps}
use Rattle.codes.specs.Classes.{class_of}
use Rattle.cells.specs.Runs.{cell_at, runs, spans}
use Rattle.cells.proofs.Spans.{first_long, nth_past_one, spanned}
use Rattle.cells.proofs.division.cell_at.Goals as goal
use Rattle.cells.proofs.division.cell_at.Goals.{then-is_cell+else-cells-j, else-is_cell}

pub returns-then-cells-j : goal.returns-then-cells-j
returns-then-cells-j c =
    let value : Some (record { start = c.loop-run.start; len = _ }) ≡ cell_at class_of c.args.codes.now c.args.j = grind (arith, common_steps) in
    record { value = value; codes = spanned class_of c.args.codes.now c.args.j _ value }

pub loop-run-preserved : goal.loop-run-preserved
loop-run-preserved c =
    let n = c.loop-run.cells in
    let j = c.args.j in
    let steps = c.in-Some.ensures.steps in
    let long = first_long class_of _ _ _ steps in
    elim c.if-is_cell.branch [
      | then-is_cell+else-cells-j w ↦
          let is = w.cells-is in
          let cell = w.if-is_cell.ensures in
          let next = nth_past_one (record { start = c.loop-run.start; len = length c.in-Some.run'.now }) (spans class_of (c.loop-run.start + length c.in-Some.run'.now) (runs class_of c.next.new.self.rest.now)) j n (omega (arith, w.if-cells-j.false)) in
          (omega arith, omega arith, grind (arith, common_steps))
      | else-is_cell w ↦
          let is = w.cells-is in
          let cell = w.if-is_cell.ensures in
          (omega arith, omega arith, grind (arith, common_steps))
    ]

pub returns : goal.returns
returns c =
    let value : None ≡ cell_at class_of c.args.codes.now c.args.j = grind (arith, common_steps) in
    record { value = value; codes = spanned class_of c.args.codes.now c.args.j _ value }
