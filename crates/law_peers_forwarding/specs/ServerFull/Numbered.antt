-- of which channels acknowledgements to the client came at a server since a front of its moves
-- (MS-RPCH 3.2.1; successors are this profile's)
use Rattle.std.specs.Prelude.{ℕ, suc, ◌≡◌, ◌+◌, ◌<◌, ◌≤◌, List}
use Rattle.rh_rts.specs.declared.command.Cookie.{Cookie}
use Rattle.rh_rts.specs.declared.command.TheConstants.{TO_CLIENT}
use Rattle.rh_sig.specs.declared.named.Named.TheVariants.{AckTo}
use Rattle.rh_shell.specs.Rules.{Packet}
use Rattle.law_moves.specs.Moves.{EndMove}
use Rattle.law_moves.specs.Wires.{of_leg}
use Rattle.law_moves.specs.ReadBack.Reading.{all_read_of}
use Rattle.law_role_inproxy.specs.Counted.{is_leg}
use Rattle.law_role_server.specs.Counted.Counting.{in_came, is_in_r1_a6, is_in_r2_a2}
use Rattle.law_peers_moments.specs.Expecting.{IsAhead}
use Rattle.law_peers_moments.specs.Moments.{Moves, Numbers, in_behind, server_behind}
use Rattle.law_role_server_in.specs.Refusing.{came_at}
use Rattle.law_peers_in_channels.specs.InChannels.{IsAnnouncedOn, passed}
use Rattle.law_peers_room.specs.ServerRoom.Answered.{IsAnswered}
use Rattle.law_peers_room.specs.ServerRoom.Overtaking.{is_ack_for}

-- the channel of this cookie was announced on a leg on which no IN_R1/A6 had come behind the front
-- of the moves, and is no earlier than the last but one that was announced there then
pub record IsLate (numbers : Numbers) (reader : ℕ → ℕ) (moves : Moves) (front : List EndMove)
    (channel : Cookie) : Type 0 where
  pub leg : ℕ
  pub number : ℕ
  pub is : IsAnswered numbers reader moves leg number channel
  pub announced : IsAnnouncedOn (server_behind numbers moves).passage leg number
  pub near : leg + came_at is_in_r2_a2 (passed numbers front) leg ≤ suc number
  pub stays : came_at is_in_r1_a6 (passed numbers front) leg ≡ 0

-- each channel of which an acknowledgement to the client came since, or stands next on an is leg
pub record AreLate (numbers : Numbers) (reader : ℕ → ℕ) (moves : Moves) (front : List EndMove)
    : Type 0 where
  pub came : (channel : Cookie)
      → in_came (is_ack_for channel) (passed numbers front)
      < in_came (is_ack_for channel) (server_behind numbers moves).passage
      → IsLate numbers reader moves front channel
  pub ahead : (n received window : ℕ) (channel : Cookie)
      → IsAhead (server_behind numbers moves).passage (is_leg n)
      (all_read_of (of_leg (is_leg n) (in_behind numbers moves n).put))
      (Packet (AckTo TO_CLIENT received window channel))
      → IsLate numbers reader moves front channel
