use Rattle.std.proofs.Common.{ap}
use Rattle.std.proofs.lemmas.Slice.Eq.{slice_eq-Decides}
use Rattle.std.proofs.lemmas.Bool.Decides.{Decides-like, Decides-eqb}
use Rattle.cells.specs.declared.cell.Cell.{Cell}
use Rattle.cells.proofs.Same.{by_places}
use Rattle.cells.proofs.contents.CellPartialEq.eq.Goals as goal

pub returns-clause-decides : goal.returns-clause-decides
returns-clause-decides c =
    Decides-like _ (by_places c.args.self.now c.args.other.now) (ap (λ (x : Cell). x.places)) (slice_eq-Decides Decides-eqb _ _ _ c.eq.ensures)
