use Rattle.std.proofs.Common.{sym, ap, ◌∙◌, refl, subst}
use Rattle.panels.specs.Stacks.{Proper, gathered}
use Rattle.panels.proofs.Stacked.{empty_gathered, empty_proper, empty_rows}
use Rattle.panels.proofs.row.RowsStore.blank.Goals as goal

pub invariant_of-result : goal.invariant_of-result
invariant_of-result c = record { long = (refl, refl, refl, refl); proper = λ j. subst Proper (sym (empty_rows j)) empty_proper }

pub returns : goal.returns
returns c = λ j. ap gathered (empty_rows j) ∙ empty_gathered
