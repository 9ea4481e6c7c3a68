-- what came so far is what was read
use Rattle.std.proofs.Common.{◌≡◌, ◌≤◌, ◌+◌, ◌-◌, vec_len}
use Rattle.rh_io.specs.Bytes.{Moves}
use Rattle.rh_io.proofs.whole.read_whole.Given as goal

abbrev pub decreases-reads : goal.decreases-reads
decreases-reads g l = l.limit + 1 - vec_len l.all

abbrev pub invariant-reads : goal.invariant-reads
invariant-reads g l =
    let s = g.S.Source in
    record {
      moved : Moves (s.left l.fn.source) (s.left l.source) (s.taken l.fn.source)
          (s.taken l.source) l.all.items;
      within : vec_len l.all ≤ l.limit + 1;
      faults : s.faults l.source ≡ s.faults l.fn.source;
      ends : s.ends l.source ≡ s.ends l.fn.source;
      unfailing : s.unfailing l.fn.source → s.unfailing l.source;
    }
