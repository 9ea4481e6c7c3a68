-- so many ended so
use Rattle.std.proofs.Common.{◌≡◌, length}
use Rattle.rh_relay.specs.Runs.{AllAre}
use Rattle.rh_relay.proofs.run.all_end.Given as goal

abbrev pub invariant-loop-at : goal.invariant-loop-at
invariant-loop-at l = record {
  count : length l.ends.items ≡ l.at;
  all : AllAre l.end l.ends.items;
}
