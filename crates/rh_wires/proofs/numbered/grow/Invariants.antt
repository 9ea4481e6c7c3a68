-- what is still to be added is the same as at first
use Rattle.std.proofs.Common.{◌≡◌, ℕ, ◌≤◌, ◌-◌, get_or, vec_len, max}
use Rattle.rh_wires.specs.Numbered.{grown}
use Rattle.rh_wires.proofs.numbered.grow.Given as goal

abbrev pub decreases-items : goal.decreases-items
decreases-items g l = l.len - vec_len l.list

abbrev pub invariant-items : goal.invariant-items
invariant-items g l = record {
  grown : grown l.len g.T.Item.blank l.list.items ≡ grown l.len g.T.Item.blank l.fn.list.items;
  same : (k : ℕ) → get_or l.list.items k g.T.Item.blank
      ≡ get_or l.fn.list.items k g.T.Item.blank;
  most : vec_len l.list ≤ max l.len (vec_len l.fn.list);
}
