-- what a client knows of the receive windows of its in proxies (MS-RPCH 3.2; successors are this
-- profile's)
use Rattle.std.specs.Prelude.{◌≡◌, ◌+◌, ◌≤◌, ℕ, zero, suc, Bool, true, false, if◌then◌else◌, List, [], ◌∷◌, ◌++◌}
use Rattle.std.specs.List.{AllByRecursion}
use Rattle.rh_rts.specs.declared.command.Cookie.{Cookie}
use Rattle.rh_rts.specs.declared.command.TheConstants.{TO_CLIENT}
use Rattle.rh_sig.specs.declared.named.Named.{Named}
use Rattle.rh_sig.specs.declared.named.Named.TheVariants.{AckTo, ConnC2, InR1A4, InR2A4}
use Rattle.rh_shell.specs.Rules.{Message, Text, Pdu, Packet}
use Rattle.rh_client.specs.declared.channels.InChannel.{InChannel}
use Rattle.rh_client.specs.declared.replacement.Replacement.{Replacement}
use Rattle.rh_client.specs.declared.replacement.Replacement.TheVariants.{In}
use Rattle.rh_client.specs.declared.replacement.InStage.TheVariants as in_stage
use Rattle.rh_client.specs.declared.state.ClientRole.{ClientRole}
use Rattle.rh_client.specs.Channels.{is_up}
use Rattle.rh_client.specs.State.{ci, is_opening}
use Rattle.law_moves.specs.Moves.{OnLeg, Passage, EndMove, Moves, PacketCame}
use Rattle.law_moves.specs.Passages.Rising.{HasComeUp, WasUp}

-- ---- windows that came

-- CONN/C2 tells the window of the first IN channel, and each IN_R1/A4 that of the next one;
-- IN_R2/A4 says that the next one has the window of the one before it
abbrev pub is_window_packet : Named → Bool
is_window_packet (ConnC2 version window timeout) = true
is_window_packet (InR1A4 to version window timeout) = true
is_window_packet (InR2A4 to) = true
is_window_packet packet = false

abbrev pub is_window : Message → Bool
is_window (Text bytes) = false
is_window (Pdu pdu) = false
is_window (Packet named) = is_window_packet named

-- the window that it tells, where this one was told before
abbrev pub told_by_packet : ℕ → Named → ℕ
told_by_packet before (ConnC2 version window timeout) = window
told_by_packet before (InR1A4 to version window timeout) = window
told_by_packet before packet = before

abbrev pub told_by : ℕ → Message → ℕ
told_by before (Text bytes) = before
told_by before (Pdu pdu) = before
told_by before (Packet named) = told_by_packet before named

-- what so many of these packets told last, and what came behind them
abbrev pub told_last : ℕ → ℕ → List OnLeg → ℕ
told_last before zero came = before
told_last before (suc n) [] = before
told_last before (suc n) (one ∷ came) =
    if is_window one.1 then told_last (told_by before one.1) n came
    else told_last before (suc n) came

abbrev pub came_since : ℕ → List OnLeg → List OnLeg
came_since zero came = came
came_since (suc n) [] = []
came_since (suc n) (one ∷ came) =
    if is_window one.1 then came_since n came else came_since (suc n) came

-- ---- what is known of a channel

-- an acknowledgement to the client, of this channel, tells no room behind the edge
abbrev pub IsWithin : Cookie → ℕ → Named → Type 0
IsWithin cookie edge (AckTo to received available channel) =
    to ≡ TO_CLIENT → channel ≡ cookie → received + available ≤ edge
IsWithin cookie edge packet = Unit {0}

abbrev pub IsWithinEdge : Cookie → ℕ → OnLeg → Type 0
IsWithinEdge cookie edge (leg, Text bytes) = Unit {0}
IsWithinEdge cookie edge (leg, Pdu pdu) = Unit {0}
IsWithinEdge cookie edge (leg, Packet named) = IsWithin cookie edge named

-- edge is none below the window, nor below what acknowledgements told that came since then
pub record IsWithinAll (number : ℕ) (cookie : Cookie) (told edge : ℕ) (came : List OnLeg)
    : Type 0 where
  pub window : told ≤ edge
  pub acks : AllByRecursion (IsWithinEdge cookie edge) (came_since number came)

-- of an IN channel: told is the window that came for it
pub record Knows (c : InChannel) (came : List OnLeg) : Type 0 where
  pub told : c.told ≡ told_last 0 c.number came
  pub within : IsWithinAll c.number c.cookie c.told c.window.edge came

-- ---- of a client

-- no leg of another IN channel came up with its cookie; one that two have can't tell of which of
-- them it is told something
abbrev pub IsAlone : List EndMove → InChannel → Type 0
IsAlone moves c = (m : ℕ) → HasComeUp moves (ci m) c.cookie → m ≡ c.number

-- IN_R1/A4 or IN_R2/A4 came for the successor
abbrev pub is_in_answered : Replacement → Bool
is_in_answered (In in_stage.Answered out_waits) = true
is_in_answered replacement = false

-- so it is of the writing channel once the client is open, of its successor once that is answered,
-- and of its predecessor until IN_R1/A5 is drawn
pub record KnowsWindows (moves : List EndMove) (p : Passage ClientRole) : Type 0 where
  pub writing : is_opening p.role.phase ≡ false → IsAlone moves p.role.writing
      → Knows p.role.writing p.came
  pub successor : is_in_answered p.role.replacement ≡ true → IsAlone moves p.role.in_successor
      → Knows p.role.in_successor p.came
  pub leaving : is_up p.role.leaving.opening ≡ true → IsAlone moves p.role.leaving
      → Knows p.role.leaving p.came

-- ---- CONN/C2 comes where CONN/B1 may have been put

-- the leg of the first IN channel came up before
abbrev pub IsAnswerPacket : List EndMove → Named → Type 0
IsAnswerPacket before (ConnC2 version window timeout) = WasUp before (ci 1)
IsAnswerPacket before packet = Unit {0}

abbrev pub IsAnswer : List EndMove → EndMove → Type 0
IsAnswer before (Moves (PacketCame leg count named)) = IsAnswerPacket before named
IsAnswer before move = Unit {0}

abbrev pub AreAnswers : List EndMove → List EndMove → Type 0
AreAnswers before [] = Unit {0}
AreAnswers before (move ∷ moves) = IsAnswer before move × AreAnswers (before ++ move ∷ []) moves
