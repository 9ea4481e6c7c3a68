-- what holds up a role that puts nothing on a leg: the window, the lifetime, or that none waits
-- (MS-RPCH 3.2; lifetimes and the order of what is put are this profile's)
use Rattle.std.specs.Prelude.{◌≡◌, ◌&&◌, ℕ, List, [], ◌∷◌, length, find, false, true, IfSome, Some, None}
use Rattle.rh_rts.specs.declared.command.Cookie.{Cookie}
use Rattle.rh_sig.specs.declared.lengths.TheConstants.{ACK_TO_LEN}
use Rattle.rh_window.specs.Sending.{may_send}
use Rattle.rh_window.specs.Sides.{Sender}
use Rattle.rh_keep.specs.Meters.{may_put}
use Rattle.rh_line.specs.declared.which.Which.TheVariants.{Current, Next}
use Rattle.rh_line.specs.Lines.{is_empty}
use Rattle.rh_line.specs.Queue.{front_length}
use Rattle.rh_inproxy.specs.Acknowledging as in_acks
use Rattle.rh_inproxy.specs.Ending as in_ends
use Rattle.rh_inproxy.specs.InReplacement.{is_last_empty}
use Rattle.rh_inproxy.specs.declared.state.Handover.TheVariants.{Came}
use Rattle.rh_inproxy.specs.State.{InProxy}
use Rattle.rh_outproxy.specs.Acknowledging as out_acks
use Rattle.rh_outproxy.specs.OutProxy.{OutProxy, is_due, joined}
use Rattle.rh_client.specs.Acknowledging as client_acks
use Rattle.rh_client.specs.Putting.{lets_pdu, put_due}
use Rattle.rh_client.specs.declared.state.ClientRole.{ClientRole}
use Rattle.rh_server.specs.OutLegs.{may_go}
use Rattle.rh_server.specs.OutLines.{lets}
use Rattle.rh_server.specs.Putting as server
use Rattle.rh_server.specs.States.{Server}
use Rattle.rh_server.specs.declared.state.InLeg.{InLeg}
use Rattle.rh_server.specs.declared.state.OutLeg.{OutLeg}

-- of PDUs that are held, the first one would end behind the edge that the sender knows
abbrev pub IsBehindEdge : Sender → List (List ℕ) → Type 0
IsBehindEdge window [] = Unit {0}
IsBehindEdge window (pdu ∷ pdus) = may_send window (length pdu) ≡ false

-- an in proxy towards the server: nothing is to be forwarded and no acknowledgement is due; PDUs
-- are held for the window alone, and where none is, neither END nor IN_R1/A6 is due
pub record HoldsUpIn (s : InProxy) : Type 0 where
  pub waiting : s.waiting.due ≡ []
  pub ack : in_acks.ack_due s Current ≡ None
  pub pdu : IsBehindEdge s.window s.line.current.pdus
  pub end : in_ends.is_end_due s ≡ false
  pub handover : (cookie : Cookie) → is_last_empty s ≡ true → s.handover ≡ Came cookie → ⊥

-- an out proxy towards the client: nothing is to be forwarded; PDUs are held for the window alone,
-- and where none is, neither END nor OUT_R1/A10 is due
pub record HoldsUpOut (s : OutProxy) : Type 0 where
  pub waiting : s.waiting.due ≡ []
  pub pdu : IsBehindEdge s.window s.line.current.pdus
  pub end : (is_empty s.line.current.pdus && is_due s.end) ≡ false
  pub handover : (is_empty s.line.current.pdus && is_due s.handover) ≡ false

-- and towards the server no acknowledgement is due, once its channel has a cookie
abbrev pub AcksNoneOut : OutProxy → Type 0
AcksNoneOut s = (cookie : Cookie) → joined s.channel ≡ Some cookie → out_acks.ack_due s ≡ None

-- a client on its writing channel, behind what that begins with: no packet of a replacement goes;
-- an acknowledgement that is due waits for the lifetime; and the first PDU for the lifetime or the
-- window, or until the client is open
pub record HoldsUpClient (s : ClientRole) : Type 0 where
  pub due : put_due s ≡ None
  pub current_ack : IfSome (client_acks.ack_due s Current)
      (λ ack. may_put s.writing.meter ACK_TO_LEN ≡ false)
  pub next_ack : IfSome (client_acks.ack_due s Next)
      (λ ack. may_put s.writing.meter ACK_TO_LEN ≡ false)
  pub pdu : IfSome (front_length s.queue) (λ len. lets_pdu s len ≡ false)

-- an open server on an os leg: of the packets that wait none may go there, and the first PDU waits
-- for the window or the lifetime, if this is the writing channel
pub record HoldsUpServer (s : Server) (leg : OutLeg) : Type 0 where
  pub waiting : find (lets (server.gate s leg)) s.waiting.due ≡ None
  pub pdu : IfSome (front_length s.queue) (λ len. may_go leg s.writing len ≡ false)

-- and on an is leg no acknowledgement is due
abbrev pub AcksNone : Server → InLeg → Type 0
AcksNone s leg = server.ack_due s leg ≡ None
