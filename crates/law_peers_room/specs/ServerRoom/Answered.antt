-- an acknowledgement of an IN channel goes to the server only once the channel was answered
-- (MS-RPCH 3.2.1, 3.2.2; successors are this profile's)
use Rattle.std.specs.Prelude.{ℕ, suc, ◌≡◌, ◌⊎◌, ◌+◌, ◌≤◌, ◌++◌, List, [], ◌∷◌}
use mathlib.Core.List.{IsPrefix}
use Rattle.rh_rts.specs.declared.command.Cookie.{Cookie}
use Rattle.rh_rts.specs.declared.command.TheConstants.{TO_CLIENT}
use Rattle.rh_sig.specs.declared.named.Named.TheVariants.{AckTo}
use Rattle.rh_shell.specs.Rules.{Message, Packet}
use Rattle.law_moves.specs.Wires.{of_leg}
use Rattle.rh_client.specs.State.{ci}
use Rattle.law_moves.specs.ReadBack.Reading.{all_read_of}
use Rattle.law_moves.specs.Passages.Passing.{BeginsIn, HasOne, count_of}
use Rattle.law_role_inproxy.specs.Counted.{is_leg}
use Rattle.law_role_server.specs.Counted.Counting.{is_in_r2_a2}
use Rattle.law_peers_moments.specs.GoingRound.{taken_in}
use Rattle.law_peers_moments.specs.Moments.{Moves, Numbers, client_behind, in_behind, server_behind}

-- the client began channel k with this cookie, in proxy n reads it, and the server put its answer
pub record IsAnswered (numbers : Numbers) (reader : ℕ → ℕ) (moves : Moves) (n k : ℕ)
    (channel : Cookie) : Type 0 where
  pub begun : HasOne (BeginsIn channel)
      (of_leg (ci k) (client_behind numbers moves).passage.put)
  pub read : reader k ≡ n
  pub answered : k ≤ taken_in (server_behind numbers moves).passage + 1

-- where so many IN_R2/A2 stand before an acknowledgement to the client, of what is read of an is
-- leg, it is of that channel or of the one before it
pub record IsAckOf (numbers : Numbers) (reader : ℕ → ℕ) (moves : Moves) (n last : ℕ)
    (channel : Cookie) : Type 0 where
  pub number : ℕ
  pub near : (number ≡ last) ⊎ (suc number ≡ last)
  pub is : IsAnswered numbers reader moves n number channel

abbrev pub AreAnsweredFirst : Numbers → (ℕ → ℕ) → Moves → Type 0
AreAnsweredFirst numbers reader moves =
    (n : ℕ) (before : List Message) (received window : ℕ) (channel : Cookie)
    → IsPrefix (before ++ Packet (AckTo TO_CLIENT received window channel) ∷ [])
    (all_read_of (of_leg (is_leg n) (in_behind numbers moves n).put))
    → IsAckOf numbers reader moves n (n + count_of is_in_r2_a2 before) channel
