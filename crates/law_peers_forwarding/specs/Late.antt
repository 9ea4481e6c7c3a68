-- the IN channels of which acknowledgements may come at a server behind a front of its moves
-- (MS-RPCH 3.2.1; successors are this profile's)
use Rattle.std.specs.Prelude.{ℕ, suc, ◌≡◌, ◌⊎◌, ◌+◌, ◌<◌, ◌≤◌, ◌++◌, List, length}
use Rattle.rh_server.specs.States.{Server}
use Rattle.law_moves.specs.Moves.{EndMove, Passage}
use Rattle.law_role_server.specs.Counted.Counting.{is_in_r1_a6, is_in_r2_a2}
use Rattle.law_peers_moments.specs.Moments.{Moves, Numbers}
use Rattle.law_peers_moments.specs.GoingRound.{taken_in}
use Rattle.law_role_server_in.specs.Refusing.{came_at}
use Rattle.law_peers_in_channels.specs.InChannels.{IsAnnouncedOn, channels, passed}
use Rattle.law_peers_forwarding.specs.ServerFull.Few.{IsAmong}
use Rattle.law_peers_forwarding.specs.ServerFull.Taken.{due_in}

-- the last channel that was announced on a leg which had begun
abbrev pub last_on : Passage Server → ℕ → ℕ
last_on p leg = leg + came_at is_in_r2_a2 p leg

-- of each leg on which no IN_R1/A6 had come behind the front, the channels from the last but one
-- that was announced there then were announced since, or are among these, which are few
pub record AreThese (before now : Passage Server) (numbers : List ℕ) : Type 0 where
  pub few : length numbers + taken_in before + due_in before.role ≤ channels before + 3
  pub all : (leg number : ℕ) → IsAnnouncedOn now leg number
      → last_on before leg ≤ suc number
      → came_at is_in_r1_a6 before leg ≡ 0
      → (channels before < number) ⊎ IsAmong number numbers

abbrev pub FewAreLate : Numbers → Moves → Type 0
FewAreLate numbers moves =
    (front later rest : List EndMove) → moves.server ≡ front ++ later ++ rest
    → (those : List ℕ)
    × AreThese (passed numbers front) (passed numbers (front ++ later)) those
