use Rattle.std.proofs.Common.{◌≡◌, ◌+◌, ◌≤◌, drop}
use Rattle.codes.specs.Classes.{class_of}
use Rattle.cells.specs.Runs.{width_of}
use Rattle.cells.proofs.Widths.{begun}
use Rattle.cells.proofs.division.width.Given as goal

abbrev pub invariant-loop-code : goal.invariant-loop-code
invariant-loop-code l = (l.cells ≤ l.code-index) × (width_of class_of l.codes ≡ l.cells + begun class_of l.before (drop l.code-index l.codes))
