-- there is an end for each node
use Rattle.std.proofs.Common.{◌≡◌, vec_len}
use Rattle.rh_relay.proofs.run.gather.Given as goal

abbrev pub invariant-loop-done : goal.invariant-loop-done
invariant-loop-done g l = vec_len l.ends ≡ vec_len l.fn.actors
