-- worlds in which no lifetime stands in the way: the meters of the channels on which the ends write
-- let what is to go next (MS-RPCH 3.2; what asks for them is this profile's)
use Rattle.std.specs.Prelude.{◌≡◌, ◌+◌, ◌==◌, ◌≤◌, Bool, true, not, IfSome}
use Rattle.std.specs.List.{AllByRecursion}
use Rattle.rh_window.specs.declared.range.TheConstants.{LEAST_WINDOW}
use Rattle.rh_rts.specs.declared.command.TheConstants.{TO_OUT_PROXY}
use Rattle.rh_keep.specs.Meters.{Meter, fits, may_put}
use Rattle.rh_keep.specs.declared.meter.TheConstants.{RESERVE}
use Rattle.rh_sig.specs.declared.lengths.TheConstants.{ACK_TO_LEN, IN_R1_A5_LEN, OUT_R1_A7_LEN}
use Rattle.rh_sig.specs.declared.named.Named.{Named}
use Rattle.rh_sig.specs.declared.named.Named.TheVariants.{AckTo}
use Rattle.rh_line.specs.Lines.{due}
use Rattle.rh_line.specs.Queue.{front_length}
use Rattle.rh_line.specs.declared.which.Which.{Which}
use Rattle.rh_shell.specs.declared.due.Due.{Due}
use Rattle.rh_inproxy.specs.State.{InProxy}
use Rattle.rh_outproxy.specs.OutProxy.{OutProxy}
use Rattle.rh_client.specs.declared.replacement.InStage.TheVariants as in_stage
use Rattle.rh_client.specs.declared.replacement.OutStage.TheVariants as out_stage
use Rattle.rh_client.specs.declared.replacement.Replacement.{Replacement}
use Rattle.rh_client.specs.declared.replacement.Replacement.TheVariants.{In, Out}
use Rattle.rh_client.specs.declared.state.ClientRole.{ClientRole}
use Rattle.rh_server.specs.OutLines.{kind_of, lets_by_meter}
use Rattle.rh_server.specs.States.{Server, is_some, out_leg}
use Rattle.rh_nodes.specs.World.{World}
use Rattle.law_world_free.specs.Drained.{IsShort}

-- ---- a client

-- the packet of a replacement that is due, IN_R1/A5 or OUT_R1/A7
abbrev pub LetsReplacement : Meter → Replacement → Type 0
LetsReplacement m (In in_stage.Answered out_waits) = fits m IN_R1_A5_LEN ≡ true
LetsReplacement m (Out out_stage.Answered waiting) = fits m OUT_R1_A7_LEN ≡ true
LetsReplacement m replacement = Unit {0}

-- that packet, an acknowledgement that is due for a channel of its line, and its first RPC PDU; a
-- Ping or END may have to wait
pub record IsFreeClient (s : ClientRole) : Type 0 where
  pub replacement : LetsReplacement s.writing.meter s.replacement
  pub acks : (which : Which)
      → IfSome (due s.line which) (λ ack. may_put s.writing.meter ACK_TO_LEN ≡ true)
  pub pdu : IfSome (front_length s.queue) (λ len. may_put s.writing.meter len ≡ true)

-- ---- a server

-- the packet goes on the writing channel; an acknowledgement to an out proxy goes on its own one,
-- and asks no meter
abbrev pub is_for_writing : Named → Bool
is_for_writing (AckTo destination received window cookie) = not (destination == TO_OUT_PROXY)
is_for_writing packet = is_some (kind_of packet)

abbrev pub IsLetBy : Meter → Due → Type 0
IsLetBy m due = is_for_writing due.packet ≡ true → lets_by_meter m due.packet ≡ true

-- each packet that waits for the writing channel, and the first RPC PDU
pub record LetsServer (s : Server) (m : Meter) : Type 0 where
  pub waiting : AllByRecursion (IsLetBy m) s.waiting.due
  pub pdu : IfSome (front_length s.queue) (λ len. may_put m len ≡ true)

-- where it keeps the leg of that channel
abbrev pub IsFreeServer : Server → Type 0
IsFreeServer s = IfSome (out_leg s.writing s.outs) (λ leg. LetsServer s leg.meter)

-- ---- a world

pub record IsFree {K : Type 0} (w : World K ClientRole Server InProxy OutProxy) : Type 0 where
  pub client : IsFreeClient w.company.client.role
  pub server : IsFreeServer w.company.server.role

-- ---- room

-- the longest RPC PDU, of 8,192 bytes, is within the lifetime, and leaves the reserve (profile)
abbrev pub HasMargin : Meter → Type 0
HasMargin m = m.count + LEAST_WINDOW + RESERVE ≤ m.length

-- so it is of the channels on which the ends write, and of what they are to put
pub record HaveMargins {K : Type 0} (w : World K ClientRole Server InProxy OutProxy) : Type 0
  where
    pub client : HasMargin w.company.client.role.writing.meter
    pub server : (let s = w.company.server.role in
        IfSome (out_leg s.writing s.outs) (λ leg. HasMargin leg.meter))
    pub client_first : IsShort w.company.client.role.queue
    pub server_first : IsShort w.company.server.role.queue
