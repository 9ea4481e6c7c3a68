-- an end stands there for each actor before this one
use Rattle.std.proofs.Common.{◌≡◌, vec_len}
use Rattle.rh_relay.proofs.run.ends_of.Given as goal

abbrev pub invariant-loop-at : goal.invariant-loop-at
invariant-loop-at g l = record {
  actors : vec_len l.actors ≡ vec_len l.fn.actors;
  count : vec_len l.ends ≡ l.at;
}
