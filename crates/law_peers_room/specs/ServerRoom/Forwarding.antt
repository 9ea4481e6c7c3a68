-- what waits at a server to be forwarded, and when there is no room for more (MS-RPCH 3.2.1; the
-- room is this profile's)
use Rattle.std.specs.Prelude.{ℕ, ◌≡◌, ◌⊎◌, ◌+◌, ◌≤◌, Bool, Some, Err}
use Rattle.rh_rts.specs.declared.command.Cookie.{Cookie}
use Rattle.rh_rts.specs.declared.command.TheConstants.{TO_CLIENT, TO_OUT_PROXY}
use Rattle.rh_sig.specs.declared.named.Named.{Named}
use Rattle.rh_sig.specs.declared.named.Named.TheVariants.{AckTo}
use Rattle.rh_line.specs.declared.leg.Leg.{Leg}
use Rattle.rh_shell.specs.declared.answers.Count.{Count}
use Rattle.rh_shell.specs.declared.answers.Refused.TheVariants as refused
use Rattle.rh_shell.specs.declared.due.Origin.TheVariants.{Forwarded}
use Rattle.rh_shell.specs.declared.waiting.TheConstants.{FORWARDED_ROOM}
use Rattle.rh_shell.specs.Waiting.{are_one, count, key_of}
use Rattle.rh_server.specs.declared.out_line.TheConstants.{LINE_ROOM}
use Rattle.rh_server.specs.Acknowledging.{elsewhere}
use Rattle.rh_server.specs.Servers.{rules}
use Rattle.rh_server.specs.States.{Server}
use Rattle.law_role_server.specs.Counted.Counting.{is_ack_to, waits_for}

-- an acknowledgement of this channel to this destination
abbrev pub is_ack_at : ℕ → Cookie → Named → Bool
is_ack_at to channel packet =
    are_one (key_of packet) (Some (record { destination = to; channel = channel }))

-- how many wait to the client and to out proxies
abbrev pub acks_to_forward : Server → ℕ
acks_to_forward s = waits_for (is_ack_to TO_CLIENT) s + waits_for (is_ack_to TO_OUT_PROXY) s

-- no such acknowledgement waits, and sixteen others do, to the client or to the out proxy of the
-- channel that writes; or twenty in all
abbrev pub IsFull : Server → ℕ → Cookie → Type 0
IsFull s to channel =
    (waits_for (is_ack_at to channel) s ≡ 0)
    × ((FORWARDED_ROOM + elsewhere s ≤ acks_to_forward s) ⊎ (LINE_ROOM ≤ acks_to_forward s))

abbrev pub IsFullFor : Server → Named → Type 0
IsFullFor s (AckTo to received window channel) = IsFull s to channel
IsFullFor s packet = ⊥

-- ---- the law

pub record ForwardsAcks (s : Server) : Type 0 where
  -- all that is to be forwarded are acknowledgements to the client and to out proxies, of each
  -- channel one to each
  pub acks : count Forwarded s.waiting.due ≤ acks_to_forward s
  pub once : (to : ℕ) (channel : Cookie) → waits_for (is_ack_at to channel) s ≤ 1
  -- it refuses one for want of room only where that is so
  pub full : (leg : Leg) (count : Count) (packet : Named) (at : Leg)
      → (rules.packet s leg count packet).1 ≡ Err (refused.Full at) → IsFullFor s packet
