-- which OUT channels a client acknowledges to out proxies, by how many OUT_R1/A7 it put before
-- (MS-RPCH 3.2.1.1; successors are this profile's)
use Rattle.std.specs.Prelude.{ℕ, suc, ◌≡◌, ◌⊎◌, ◌+◌, ◌≤◌, List, [], ◌∷◌}
use Rattle.rh_rts.specs.declared.command.Cookie.{Cookie}
use Rattle.rh_sig.specs.declared.named.Named.TheVariants.{AckTo, OutR1A7}
use Rattle.rh_http.specs.declared.config.ClientConfig.{ClientConfig}
use Rattle.rh_line.specs.declared.leg.Leg.{Leg}
use Rattle.rh_line.specs.declared.leg.LegKind.TheVariants.{ClientIn}
use Rattle.rh_shell.specs.Rules.{Message, Packet}
use Rattle.rh_client.specs.Channels.{no_cookie}
use Rattle.rh_client.specs.State.{ci, co}
use Rattle.law_moves.specs.Moves.{OnLeg, EndMove}
use Rattle.law_moves.specs.Wires.{of_leg}
use Rattle.law_moves.specs.Passages.Rising.{HasComeUp}
use Rattle.law_moves.specs.Chains.Sums.{count_on, sum_below}
use Rattle.law_role_client.specs.Order.{client_moved}
use Rattle.law_role_client.specs.Counted.Counting.{is_out_r1_a7}

-- below, Comes says of a leg and a cookie that the leg came up with it

-- a cookie that stands for none, or that of an OUT channel with a number from this one to the
-- second behind it
pub record IsOfNear (Comes : Leg → Cookie → Type 0) (often : ℕ) (cookie : Cookie) : Type 0 where
  pub number : ℕ
  pub comes : Comes (co number) cookie
  pub low : often ≤ number
  pub high : number ≤ often + 2

abbrev pub IsNear : (Leg → Cookie → Type 0) → ℕ → Cookie → Type 0
IsNear Comes often cookie = (cookie ≡ no_cookie) ⊎ IsOfNear Comes often cookie

-- each acknowledgement is of such a channel, by the OUT_R1/A7 before it and so many before all
abbrev pub AcksFrom : (Leg → Cookie → Type 0) → ℕ → List Message → Type 0
AcksFrom Comes often [] = Unit {0}
AcksFrom Comes often (Packet (OutR1A7 to successor) ∷ messages) =
    AcksFrom Comes (suc often) messages
AcksFrom Comes often (Packet (AckTo to received available channel) ∷ messages) =
    IsNear Comes often channel × AcksFrom Comes often messages
AcksFrom Comes often (message ∷ messages) = AcksFrom Comes often messages

-- on each IN channel, where all OUT_R1/A7 of the channels below it stand before
abbrev pub AcksOnEach : (Leg → Cookie → Type 0) → List OnLeg → Type 0
AcksOnEach Comes put =
    (n : ℕ) → AcksFrom Comes (sum_below (count_on is_out_r1_a7 ClientIn put) n)
    (of_leg (ci n) put)

abbrev pub AcksNear : ClientConfig → List EndMove → Type 0
AcksNear config moves =
    AcksOnEach (HasComeUp moves) (client_moved config moves).passage.put
