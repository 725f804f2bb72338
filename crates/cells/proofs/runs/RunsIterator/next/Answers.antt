use Rattle.std.proofs.Common.{rules, arith, ◌∷◌, ◌∙◌, sym}
use Rattle.std.proofs.lemmas.Bool.Decides.{nat_tests}
use Rattle.codes.specs.Classes.{class_of}
use Rattle.cells.specs.Runs.{runs}
use Rattle.cells.proofs.Leads.{Lead, lead}
use Rattle.cells.proofs.runs.RunsIterator.next.Goals as goal
use Rattle.cells.proofs.runs.RunsIterator.next.Goals.{After-first_run_len}

-- the first run of what is left
first : (c : After-first_run_len) → Lead class_of c.args.self.now.rest.now c.first_run_len.result
first c = lead class_of _ _ (grind (arith, nat_tests)) c.first_run_len.ensures.value

pub split_at-requires : goal.split_at-requires
split_at-requires c = (first c).within

pub returns-clause-steps : goal.returns-clause-steps
returns-clause-steps c =
    let cut = c.split_at.ensures in
    (first (goal.at.returns-clause-steps c).After-first_run_len).rest ∙ sym (λ i. cut.front i ∷ runs class_of (cut.back i))

pub returns-clause-goes : goal.returns-clause-goes
returns-clause-goes c = let steps = returns-clause-steps c in search rules
