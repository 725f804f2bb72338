use Rattle.std.proofs.Common.{◌≡◌, true, ◌++◌, refl, arith}
use Rattle.std.proofs.lemmas.Grind.{common_steps}
use Rattle.cells.proofs.Written.{written_more}
use Rattle.names.specs.Texts.{cell_text, cells_text}
use Rattle.names.proofs.entry.CellsDisplay.fmt.Goals as goal

-- one cell more
pub loop-run-preserved : goal.loop-run-preserved
loop-run-preserved g c = λ plain.
    let so_far = c.loop-run.invariant plain in
    let cell = cell_text c.in-Some.run'.now in
    let left = cells_text c.next.new.self.rest.now in
    let next : cells_text c.loop-run.run-iterator.rest.now ≡ cell ++ left = grind (arith, common_steps) in
    written_more g.W.Write.write_str_gives c.write.new.self cell left so_far (c.in_ok-write.ensures.writes so_far.put.plain (refl {a = true})) next
