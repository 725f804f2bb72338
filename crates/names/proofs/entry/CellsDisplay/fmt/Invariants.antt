use Rattle.std.specs.Fmt.{IsPlainFormatter}
use Rattle.cells.proofs.Written.{Written}
use Rattle.names.specs.Texts.{cells_text}
use Rattle.names.proofs.entry.CellsDisplay.fmt.Given as goal

-- all but the cells of the runs that are left was written
abbrev pub invariant-loop-run : goal.invariant-loop-run
invariant-loop-run g l = IsPlainFormatter l.initial.f → Written g.W.Write.write_str_gives l.initial.f l.f (cells_text l.run-iterator.rest.now) (cells_text l.self.0.now)
