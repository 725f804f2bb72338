use Rattle.std.proofs.Common.{◌≡◌, ◌+◌, true, false, drop, ap, arith}
use Rattle.std.proofs.lemmas.List.{at_drop_all}
use Rattle.codes.specs.Classes.{class_of}
use Rattle.cells.specs.Runs.{width_of}
use Rattle.cells.proofs.OneWay.{one_division}
use Rattle.cells.proofs.Texts.{three_to_a_text_cell}
use Rattle.cells.proofs.Widths.{begun, begun_at, width_from_start}
use Rattle.cells.proofs.division.width.Goals as goal
use Rattle.cells.proofs.division.width.Goals.{then-begins_cell, else-begins_cell}

pub loop-code-init : goal.loop-code-init
loop-code-init c = (omega arith, omega (arith, width_from_start class_of c.args.codes.now))

pub loop-code-preserved : goal.loop-code-preserved
loop-code-preserved c =
    let s = c.args.codes.now in
    let i = c.loop-code.code-index in
    let next = begun_at class_of c.loop-code.before s i 0 c.class_of-class.result in
    let known = c.class_of-class.ensures.value in
    elim c.if-begins_cell.branch [
      | then-begins_cell w ↦
          let more = next true c.loop-code-test.true known w.if-begins_cell.ensures in
          (omega (arith, w.cells-is), omega (arith, w.cells-is, c.loop-code.invariant.1, more, ap (λ b. begun class_of b (drop (i + 1) s)) w.before-is))
      | else-begins_cell w ↦
          let more = next false c.loop-code-test.true known w.if-begins_cell.ensures in
          (omega (arith, w.cells-is), omega (arith, w.cells-is, c.loop-code.invariant.1, more, ap (λ b. begun class_of b (drop (i + 1) s)) w.before-is))
    ]

pub returns : goal.returns
returns c =
    let s = c.args.codes.now in
    let none = at_drop_all (begun class_of c.loop-code.before) s c.loop-code.code-index c.loop-code-test.false in
    let value : c.loop-code.cells ≡ width_of class_of s = omega (arith, c.loop-code.invariant.1, none) in
    record { value = value; division = one_division s; text = λ e. omega (arith, three_to_a_text_cell s e) }
