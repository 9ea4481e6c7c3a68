-- all items before the mark are idle
use Rattle.std.proofs.Common.{◌≤◌, ◌-◌, length}
use Rattle.rh_wires.specs.Numbered.{AreIdle}
use Rattle.rh_wires.proofs.numbered.skip_idle.Given as goal

abbrev pub decreases-items : goal.decreases-items
decreases-items g l = length l.list - l.mark

abbrev pub invariant-items : goal.invariant-items
invariant-items g l = record {
  idle : AreIdle g.T.Item.is_idle g.T.Item.blank l.mark l.list;
  later : l.fn.mark ≤ l.mark;
}
