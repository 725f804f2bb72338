use Rattle.std.proofs.Common.{◌∙◌, get_or, ap}
use Rattle.codes.specs.declared.levels.DisplayLevel.TheVariants.{Nowhere}
use Rattle.codes.specs.Levels.{level_of}
use Rattle.codes.proofs.Tables.{levels, level_table}
use Rattle.codes.proofs.levels.level_of.Goals as goal

pub returns : goal.returns
unfolding level_of
returns c = ap (λ n. get_or levels n Nowhere) c.number.ensures ∙ level_table c.args.class
