-- how many acknowledgements to the client wait where a server has no room for one more (MS-RPCH
-- 3.2.1; the room is this profile's)
use Rattle.std.specs.Prelude.{ℕ, ◌≡◌, ◌≤◌, Err}
use Rattle.rh_rts.specs.declared.command.Cookie.{Cookie}
use Rattle.rh_rts.specs.declared.command.TheConstants.{TO_CLIENT, TO_OUT_PROXY}
use Rattle.rh_sig.specs.declared.named.Named.TheVariants.{AckTo}
use Rattle.rh_line.specs.declared.leg.Leg.{Leg}
use Rattle.rh_shell.specs.declared.answers.Count.{Count}
use Rattle.rh_shell.specs.declared.answers.Refused.TheVariants as refused
use Rattle.rh_server.specs.Servers.{rules}
use Rattle.rh_server.specs.States.{Server}
use Rattle.law_role_server.specs.Counted.Counting.{is_ack_to, waits_for}
use Rattle.law_peers_room.specs.ServerRoom.Forwarding.{is_ack_at}

-- none of its channel waits, and fifteen for the client do, and one more where it is for an out
-- proxy
pub record IsFilled (s : Server) (to : ℕ) (channel : Cookie) : Type 0 where
  pub none : waits_for (is_ack_at to channel) s ≡ 0
  pub least : 15 ≤ waits_for (is_ack_to TO_CLIENT) s
  pub own : to ≡ TO_OUT_PROXY → 16 ≤ waits_for (is_ack_to TO_CLIENT) s

abbrev pub FillsFirst : Server → Type 0
FillsFirst s =
    (leg : Leg) (count : Count) (to received window : ℕ) (channel : Cookie) (at : Leg)
    → (rules.packet s leg count (AckTo to received window channel)).1 ≡ Err (refused.Full at)
    → IsFilled s to channel
