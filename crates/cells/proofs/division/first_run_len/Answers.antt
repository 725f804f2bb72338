use Rattle.std.proofs.Common.{ℕ, ◌-◌, false, List, length, take, drop, ap, arith, length-drop, ltb-false, ltb-true}
use Rattle.std.proofs.lemmas.List.{at_drop_all, take_rest}
use Rattle.codes.specs.Classes.{class_of}
use Rattle.cells.proofs.Fronts.{front_first, more, more_at}
use Rattle.cells.proofs.Short.{runs_short}
use Rattle.cells.proofs.division.first_run_len.Goals as goal

-- what the pattern leaves after the first code
abbrev rest : List ℕ → List ℕ
rest s = take (length s - 1) (drop 1 s)

pub loop-i-init : goal.loop-i-init
loop-i-init c =
    let s = c.args.codes.now in
    omega (arith, front_first class_of 0 s (omega (arith, ltb-true, ltb-false)), ap (λ b. more class_of b (rest s)) c.class_of-before.ensures.value)

pub returns-then-not-joined : goal.returns-then-not-joined
returns-then-not-joined c =
    let s = c.args.codes.now in
    let next = more_at class_of c.loop-i.before (rest s) c.loop-i.i 0 _ false c.loop-i-test.true c.class_of-class.ensures.value c.if-not-joined.ensures in
    record { value = omega (arith, c.loop-i.invariant, next); short = runs_short class_of s }

pub returns : goal.returns
returns c =
    let s = c.args.codes.now in
    let none = at_drop_all (more class_of c.loop-i.before) (rest s) c.loop-i.i c.loop-i-test.false in
    record { value = omega (arith, ltb-true, ltb-false, c.loop-i.invariant, none, ap length (take_rest s 1), length-drop 1 s); short = runs_short class_of s }
