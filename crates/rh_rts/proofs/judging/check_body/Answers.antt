use Rattle.std.proofs.Common.{arith}
use Rattle.std.proofs.lemmas.Result.{err_from_is_err_and}
use Rattle.rh_rts.proofs.Bodies.{first_found}
use Rattle.rh_rts.proofs.Steps.{body_step, body_wrong, body_judged}
use Rattle.rh_rts.proofs.judging.check_body.Goals as goal

pub returns-in_err-after : goal.returns-in_err-after
returns-in_err-after c =
    let p = err_from_is_err_and c.from_residual.result c.from_residual.ensures.1 in
    rw (p.1, p.2) (first_found c.args.total c.args.count c.args.body.now _
    (λ i. omega (arith, c.type_inv.body i))
    (body_wrong c.args.total c.args.count c.loop.counter c.args.body.now c.loop.rest.now _
    c.loop-test.true
    c.in_err-after.ensures c.loop.invariant))

pub loop-preserved : goal.loop-preserved
loop-preserved c =
    body_step c.args.total c.args.count c.loop.counter c.args.body.now c.loop.rest.now
    c.in_ok-after.after.now
    c.loop-test.true c.in_ok-after.ensures.0 c.in_ok-after.ensures.1 c.loop.invariant

pub returns : goal.returns
returns c =
    body_judged c.args.total c.args.count c.loop.counter c.args.body.now c.loop.rest.now
    c.check_end.result
    (λ i. omega (arith, c.type_inv.body i))
    (omega (arith, c.loop-test.false)) c.loop.invariant c.check_end.ensures
