-- the numbers of a server, written out
use Rattle.std.specs.Prelude.{◌≡◌}
use Rattle.rh_server.specs.declared.state.TheConstants.{LEGS}
use Rattle.rh_server.specs.declared.server.TheConstants.{ROOMS}
use Rattle.rh_server.specs.declared.opening.TheConstants.{BEFORE_FIRST}
use Rattle.rh_server.specs.declared.out_line.TheConstants.{LINE_ROOM}

pub record AreFixed : Type 0 where
  -- the most unfinished legs of a kind, and of each kind (profile)
  pub legs : LEGS ≡ 4
  pub rooms : ROOMS ≡ record { client_out = 0; out_server = 4; client_in = 0; in_server = 4 }
  -- the bytes of CONN/A3 (MS-RPCH 2.2.4)
  pub before_first : BEFORE_FIRST ≡ 28
  -- the most packets that wait on the OUT line: 16, and one more for each OUT leg (profile)
  pub line_room : LINE_ROOM ≡ 20
