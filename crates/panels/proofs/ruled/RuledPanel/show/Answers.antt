use Rattle.std.proofs.Common.{sym, ap, ◌∙◌}
use Rattle.std.proofs.lemmas.Bool.{cond-true, lt-ltb}
use Rattle.cells.specs.Contents.{held}
use Rattle.panels.specs.Screens.{screen_of}
use Rattle.panels.proofs.Columns.{column_set}
use Rattle.panels.proofs.ruled.RuledPanel.show.Goals as goal

pub returns-clause-panel : goal.returns-clause-panel
returns-clause-panel g c =
    let p = c.args.self.now in
    let w = p.ruler.columns in
    let j = c.args.j in
    let at = c.in-Some.ensures in
    let put = rw at.0 at c.put.ensures in
    ap (λ row. screen_of w row p.ruler.cursor) (column_set (g.S.Store.held_at p.store) w (g.S.Store.held_at c.put.new.self) j (held c.args.cell) at.1 put.here put.there)
    ∙ sym (cond-true _ _ _ (lt-ltb j w at.1))
