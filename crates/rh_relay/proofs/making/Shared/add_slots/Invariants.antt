-- two parts are gone for each slot before this one, and two jobs are there
use Rattle.std.proofs.Common.{◌≡◌, ◌+◌, ◌*◌, vec_len}
use Rattle.rh_relay.proofs.making.Shared.add_slots.Given as goal

abbrev pub invariant-loop-at : goal.invariant-loop-at
invariant-loop-at g l = record {
  parts : l.actor.seat.parts + l.at * 2 ≡ l.fn.actor.seat.parts;
  jobs : vec_len l.jobs ≡ vec_len l.fn.jobs + l.at * 2;
}
