-- which acknowledgement to the client waits longest at a server, and what came since (MS-RPCH
-- 3.2.1)
use Rattle.std.specs.Prelude.{ℕ, ◌≡◌, ◌+◌, ◌<◌, ◌≤◌, ◌++◌, List, [], ◌∷◌}
use Rattle.rh_rts.specs.declared.command.Cookie.{Cookie}
use Rattle.rh_rts.specs.declared.command.TheConstants.{TO_CLIENT}
use Rattle.rh_server.specs.States.{Server}
use Rattle.law_moves.specs.Moves.{EndMove}
use Rattle.law_role_server.specs.Counted.Counting.{in_came, is_ack_to, is_in_r1_a3, is_in_r2_a3, out_put, waits_for}
use Rattle.law_peers_moments.specs.GoingRound.{taken_in}
use Rattle.law_role_server_in.specs.Handovers.{passed}
use Rattle.law_peers_room.specs.ServerRoom.Overtaking.{is_ack_for}

-- IN_R1/A3 and IN_R2/A3 that are due
abbrev pub due_in : Server → ℕ
due_in s = waits_for is_in_r1_a3 s + waits_for is_in_r2_a3 s

-- behind this move an acknowledgement to the client waited that waits still and was not put since;
-- and of each channel for which one waits now, one came by this move, which makes no answer due, or
-- behind it
pub record Oldest (window : ℕ) (moves : List EndMove) : Type 0 where
  pub front : List EndMove
  pub move : EndMove
  pub later : List EndMove
  pub is : moves ≡ front ++ move ∷ later
  pub channel : Cookie
  pub waited : 1 ≤ waits_for (is_ack_for channel) (passed window (front ++ move ∷ [])).role
  pub waits : 1 ≤ waits_for (is_ack_for channel) (passed window moves).role
  pub stays : out_put (is_ack_for channel) (passed window moves)
      ≤ out_put (is_ack_for channel) (passed window (front ++ move ∷ []))
  pub since : (other : Cookie) → 1 ≤ waits_for (is_ack_for other) (passed window moves).role
      → in_came (is_ack_for other) (passed window front)
      < in_came (is_ack_for other) (passed window moves)
  pub quiet : taken_in (passed window (front ++ move ∷ []))
      + due_in (passed window (front ++ move ∷ [])).role
      ≤ taken_in (passed window front) + due_in (passed window front).role

-- where one waits there is such a move
abbrev pub HasOldest : ℕ → List EndMove → Type 0
HasOldest window moves =
    1 ≤ waits_for (is_ack_to TO_CLIENT) (passed window moves).role → Oldest window moves
