use Rattle.std.proofs.Common.{◌≡◌, ◌+◌, ◌-◌, ◌≤◌, length}
use Rattle.std.specs.List.{slice_get}
use Rattle.codes.specs.Classes.{class_of}
use Rattle.cells.specs.Runs.{cell_at, runs, spans}
use Rattle.cells.proofs.division.cell_at.Given as goal

-- the cells that are left are numbered from `cells` on, and the runs of what is left start at `start`
abbrev pub invariant-loop-run : goal.invariant-loop-run
invariant-loop-run l =
    (l.start + length l.run-iterator.rest.now ≡ length l.codes)
    × (l.cells ≤ l.j)
    × (cell_at class_of l.codes l.j ≡ slice_get (spans class_of l.start (runs class_of l.run-iterator.rest.now)) (l.j - l.cells))
