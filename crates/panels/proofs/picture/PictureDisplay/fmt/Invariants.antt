use Rattle.std.proofs.Common.{drop}
use Rattle.std.specs.Fmt.{IsPlainFormatter}
use Rattle.panels.specs.Pictures.{columns_text, picture_text}
use Rattle.cells.proofs.Written.{Written}
use Rattle.panels.proofs.picture.PictureDisplay.fmt.Given as goal

-- all but the columns that are left was drawn
abbrev pub invariant-loop-j : goal.invariant-loop-j
invariant-loop-j g l =
    let s = g.N.Panel.screen l.self.panel.now in
    IsPlainFormatter l.initial.f → Written g.W.Write.write_str_gives l.initial.f l.f (columns_text l.cursor l.j (drop l.j s.row)) (picture_text s)
