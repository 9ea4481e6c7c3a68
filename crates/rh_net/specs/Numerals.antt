-- the numbers of nets, written out
use Rattle.std.specs.Prelude.{◌≡◌}
use Rattle.rh_net.specs.declared.in_memory.pipe.TheConstants.{PIPE_ROOM}
use Rattle.rh_net.specs.declared.address.TheConstants.{HOST_ROOM}

pub record AreFixed : Type 0 where
  -- the most bytes of a pipe, and of a host (profile)
  pub pipe_room : PIPE_ROOM ≡ 65_536
  pub host_room : HOST_ROOM ≡ 255
