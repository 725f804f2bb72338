use Rattle.std.proofs.Common.{[], ap, ◌∙◌}
use Rattle.panels.specs.Screens.{blank_of, screen_of}
use Rattle.panels.proofs.Columns.{same_columns}
use Rattle.panels.proofs.ruled.Ruled.new.Goals as goal

pub returns : goal.returns
returns g c =
    let e = c.new.ensures in
    (λ i. screen_of c.new.result.columns (same_columns (g.S.Store.held_at c.blank.result) c.new.result.columns [] c.blank.ensures i) (e.cursor i)) ∙ ap blank_of e.columns
