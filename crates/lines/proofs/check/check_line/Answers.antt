use Rattle.std.proofs.Common.{Err, refl, ap, ◌∙◌}
use Rattle.std.proofs.lemmas.Result.{err_from_is_err_and}
use Rattle.lines.proofs.Answered.{checked_as, told}
use Rattle.lines.proofs.check.check_line.Goals as goal

pub returns-in_err-walk : goal.returns-in_err-walk
returns-in_err-walk g c =
    let s = c.args.codes.now in
    let f = g.P.Policy.admitted c.args.policy.now in
    let exit = err_from_is_err_and c.from_residual.result c.from_residual.ensures.1 in
    let value = exit.1 ∙ ap Err exit.2 ∙ checked_as f c.args.columns s _ _ _ c.in_err-walk.ensures refl refl in
    record { value = value; told = told f c.args.columns s _ value }

pub returns-in-Some : goal.returns-in-Some
returns-in-Some g c =
    let s = c.args.codes.now in
    let f = g.P.Policy.admitted c.args.policy.now in
    let value = checked_as f c.args.columns s _ _ _ c.in_ok-walk.ensures c.in-Some.ensures.value refl in
    record { value = value; told = told f c.args.columns s _ value }

pub returns-in-None : goal.returns-in-None
returns-in-None g c =
    let s = c.args.codes.now in
    let f = g.P.Policy.admitted c.args.policy.now in
    let value = checked_as f c.args.columns s _ _ _ c.in_ok-walk.ensures c.in-None.ensures.value c.width.ensures.value in
    record { value = value; told = told f c.args.columns s _ value }
