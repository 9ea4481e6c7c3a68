-- how a node ends that ends in several ways (profile)
use Rattle.std.specs.Prelude.{ℕ, nat_lt, if◌then◌else◌}
use Rattle.rh_legs.specs.declared.end.NodeEnd.{NodeEnd}
use Rattle.rh_legs.specs.declared.end.NodeEnd.TheVariants as end

-- the order in which ends are told, the first one first
abbrev pub rank_of : NodeEnd → ℕ
rank_of end.NoMemory = 0
rank_of (end.BadInput place) = 1
rank_of end.ReadFault = 2
rank_of end.WriteFault = 3
rank_of end.NetFault = 4
rank_of end.SpawnFault = 5
rank_of end.CookieFault = 6
rank_of (end.Closed cause) = 7
rank_of end.Ended = 8

-- the one of two that is told
abbrev pub told_of : NodeEnd → NodeEnd → NodeEnd
told_of one other = if nat_lt (rank_of other) (rank_of one) then other else one
