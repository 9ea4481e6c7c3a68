use Rattle.std.proofs.Common.{◌≡◌}
use Rattle.test_edge.proofs.turn.threads.act_ones.Given as goal

abbrev pub invariant-loop-call : goal.invariant-loop-call
invariant-loop-call g l =
    record { turn : l.seat.turn ≡ l.fn.seat.turn; parts : l.seat.parts ≡ l.fn.seat.parts }
