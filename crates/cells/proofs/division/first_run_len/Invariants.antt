use Rattle.std.proofs.Common.{◌≡◌, suc, ◌+◌, drop}
use Rattle.codes.specs.Classes.{class_of}
use Rattle.cells.proofs.Fronts.{front, more}
use Rattle.cells.proofs.division.first_run_len.Given as goal

abbrev pub invariant-loop-i : goal.invariant-loop-i
invariant-loop-i l = front class_of l.codes ≡ suc (l.i + more class_of l.before (drop l.i l.rest))
