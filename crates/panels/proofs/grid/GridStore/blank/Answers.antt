use Rattle.std.proofs.Common.{map, replicate, sym, ap, ◌∙◌, get_or}
use Rattle.std.proofs.Math.ListN.{get_or-map}
use Rattle.cells.specs.Contents.{held}
use Rattle.panels.proofs.Alike.{alike_everywhere}
use Rattle.panels.proofs.grid.GridStore.blank.Goals as goal

pub returns : goal.returns
returns c = λ j.
    let b = c.blank.result in
    let e = c.blank.ensures in
    ap (get_or (map held (replicate 80 b)) j) (sym e) ∙ get_or-map held (replicate 80 b) j b ∙ ap held (alike_everywhere 80 j b) ∙ e
