use Rattle.std.proofs.Common.{◌+◌, ◌*◌, get_or, ◌∙◌}
use Rattle.codes.specs.declared.verdicts.Verdict.TheVariants.{Accept}
use Rattle.codes.proofs.Tables.{table, verdict_table}
use Rattle.codes.proofs.verdicts.class_verdict.Goals as goal

pub returns : goal.returns
returns c = (λ i. get_or table (c.number.ensures i * 17 + c.number-2.ensures i) Accept) ∙ verdict_table c.args.first c.args.second
