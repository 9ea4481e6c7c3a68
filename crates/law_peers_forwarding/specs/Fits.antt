-- a server has room for what it is to forward (MS-RPCH 3.2.1; the room is this profile's)
use Rattle.std.specs.Prelude.{ℕ, ◌≡◌, Err}
use Rattle.rh_sig.specs.declared.named.Named.{Named}
use Rattle.rh_line.specs.declared.leg.Leg.{Leg}
use Rattle.rh_shell.specs.declared.answers.Count.{Count}
use Rattle.rh_shell.specs.declared.answers.Refused.TheVariants as refused
use Rattle.rh_shell.specs.Rules.{Packet}
use Rattle.rh_server.specs.Servers.{rules}
use Rattle.law_moves.specs.Wires.{of_leg}
use Rattle.law_moves.specs.ReadBack.Reading.{all_read_of}
use Rattle.law_role_inproxy.specs.Counted.{is_leg}
use Rattle.law_peers_moments.specs.Expecting.{IsAhead}
use Rattle.law_peers_moments.specs.Moments.{Moves, Numbers, in_behind, server_behind}

-- the packet that stands next on an is leg is not refused for want of room
abbrev pub HasRoom : Numbers → Moves → Type 0
HasRoom numbers moves =
    (m : ℕ) (count : Count) (named : Named) (full : Leg)
    → IsAhead (server_behind numbers moves).passage (is_leg m)
    (all_read_of (of_leg (is_leg m) (in_behind numbers moves m).put)) (Packet named)
    → (rules.packet (server_behind numbers moves).passage.role (is_leg m) count named).1
    ≡ Err (refused.Full full) → ⊥
