-- an os leg by itself: what is put there, and acknowledged (MS-RPCH 3.2.1)
use Rattle.std.specs.Prelude.{ℕ, ◌==◌, ◌&&◌, Bool, Some, Ok, Err}
use Rattle.std.specs.declared.result.Result.{Result}
use Rattle.rh_rts.specs.declared.command.Cookie.{Cookie}
use Rattle.rh_sig.specs.declared.lengths.TheConstants.{END_B1_LEN}
use Rattle.rh_window.specs.Sending.{unsent, may_send, after_sent, ack_verdict, after_acked}
use Rattle.rh_window.specs.declared.fault.BadAck.{BadAck}
use Rattle.rh_keep.specs.Meters.{Meter, may_put, fits, after_put}
use Rattle.rh_shell.specs.Rules.{Row}
use Rattle.rh_shell.specs.declared.answers.Refused.TheVariants as refused
use Rattle.rh_server.specs.declared.state.OutLeg.{OutLeg}

-- its channel begins
abbrev pub begun : OutLeg → Cookie → ℕ → Meter → OutLeg
begun leg cookie window meter = record leg {
  cookie = Some cookie;
  window = unsent window;
  meter = meter;
}

-- the meter counts what is put
abbrev pub counted : OutLeg → ℕ → OutLeg
counted leg len = record leg { meter = after_put leg.meter len }

-- an RPC PDU may go on the writing channel, where its window and its meter allow it
abbrev pub may_go : OutLeg → ℕ → ℕ → Bool
may_go leg writing len =
    (leg.number == writing) && (may_send leg.window len && may_put leg.meter len)

abbrev pub went : OutLeg → ℕ → OutLeg
went leg len = record leg {
  window = after_sent leg.window len;
  meter = after_put leg.meter len;
}

-- END may go there, where it fits
abbrev pub may_end : OutLeg → ℕ → Bool
may_end leg writing = (leg.number == writing) && fits leg.meter END_B1_LEN

-- an acknowledgement comes
abbrev pub acked_by : Result (Unit {0}) BadAck → Row
acked_by (Ok acked) = Ok tt
acked_by (Err bad) = Err (refused.OutOfRange bad.command bad.value)

abbrev pub acked : OutLeg → ℕ → ℕ → OutLeg × Row
acked leg received window = (
  record leg { window = after_acked leg.window received window },
  acked_by (ack_verdict leg.window received window),
)
