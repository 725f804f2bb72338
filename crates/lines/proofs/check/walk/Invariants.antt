use Rattle.std.proofs.Common.{◌≡◌, drop}
use Rattle.lines.specs.Checks.{walked}
use Rattle.lines.proofs.check.walk.Given as goal

abbrev pub invariant-loop-place : goal.invariant-loop-place
invariant-loop-place g l = walked (g.P.Policy.admitted l.policy) 0 0 l.codes ≡ walked (g.P.Policy.admitted l.policy) l.place l.before (drop l.place l.codes)
