use Rattle.std.proofs.Common.{refl, rules}
use Rattle.codes.specs.Classes.{class_of}
use Rattle.codes.specs.Verdicts.{class_verdict, letter_at, times_in_table, verdict_of}
use Rattle.cells.specs.Runs.{joins}
use Rattle.examples.proofs.worked_examples.Goals as goal

pub returns : goal.returns
unfolding class_of verdict_of class_verdict letter_at times_in_table joins
returns c = record { count = refl; hold = search rules }
