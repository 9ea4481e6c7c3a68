-- no call failed, and there is a way for each turn of the loop
use Rattle.std.proofs.Common.{◌≡◌, vec_len}
use Rattle.rh_relay.proofs.run.ways_of.Given as goal

abbrev pub invariant-loop-at : goal.invariant-loop-at
invariant-loop-at g l = record {
  counts : g.N.Net.counts l.net ≡ g.N.Net.counts l.fn.net;
  count : vec_len l.ways ≡ l.at;
}
