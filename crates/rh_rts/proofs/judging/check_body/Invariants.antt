use Rattle.rh_rts.proofs.Steps.{Reaches}
use Rattle.rh_rts.proofs.judging.check_body.Given as goal

abbrev pub invariant-loop : goal.invariant-loop
invariant-loop l = Reaches l.total l.count l.counter l.body l.rest
