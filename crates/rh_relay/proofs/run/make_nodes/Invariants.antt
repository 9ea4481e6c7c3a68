-- five jobs at least are there for each node that was made, and a way for each other one
use Rattle.std.proofs.Common.{◌≡◌, ◌+◌, ◌*◌, ◌≤◌, length, vec_len}
use Rattle.std.specs.Vec.Iter.{into_iter_items}
use Rattle.rh_relay.proofs.run.make_nodes.Given as goal

abbrev pub invariant-loop-at : goal.invariant-loop-at
invariant-loop-at g l = record {
  count : vec_len l.actors ≡ l.at;
  jobs : 5 * l.at ≤ vec_len l.jobs;
  ways : length (into_iter_items l.ways) + l.at ≡ length l.fn.configs;
}
