-- clean ends and breaks (profile)
use Rattle.std.specs.Prelude.{◌==◌, ◌&&◌, ◌||◌, Bool, true, false, not, if◌then◌else◌, length, nat_lt, Some, None}
use Rattle.std.specs.declared.option.Option.{Option}
use Rattle.rh_sig.specs.declared.named.Named.TheVariants.{EndA2}
use Rattle.rh_line.specs.Lines as line
use Rattle.rh_line.specs.declared.leg.Leg.{Leg}
use Rattle.rh_line.specs.declared.which.Which.{Which}
use Rattle.rh_line.specs.declared.which.Which.TheVariants.{Current, Next}
use Rattle.rh_shell.specs.Rules.{Packet}
use Rattle.rh_inproxy.specs.declared.state.Joining.TheVariants.{TellsServer, Follows}
use Rattle.rh_inproxy.specs.declared.state.Opening.{Opening}
use Rattle.rh_inproxy.specs.declared.state.Opening.TheVariants.{Announced}
use Rattle.rh_inproxy.specs.declared.state.Successor.{Successor}
use Rattle.rh_inproxy.specs.declared.state.Successor.TheVariants.{Absent, Up, Joined}
use Rattle.rh_inproxy.specs.declared.state.Work.TheVariants as work
use Rattle.rh_inproxy.specs.Answers.{Done, Pick, taken, unexpected}
use Rattle.rh_inproxy.specs.Opening.{newest}
use Rattle.rh_inproxy.specs.State.{InProxy, channel_of, has_a5, has_come, is_client_leg}

-- ---- END

-- an RPC PDU came on a ci leg behind that of the channel
abbrev pub has_later : InProxy → Which → Bool
has_later s Current = s.line.has_next && not (line.is_empty s.line.next.pdus)
has_later s Next = false

-- END/A1 on a ci leg: no IN_R1/A5 and no END came there, and no RPC PDU on a later one
abbrev pub on_end_a1 : InProxy → Which → Done
on_end_a1 s which =
    if has_a5 s which || (line.channel_of s.line which).ended || has_later s which
    then unexpected s
    else taken (record s { line = line.after_end s.line which })

-- 5. END/A2 is a mark where END came on the current channel and no PDU is left there; it is put
-- once. Where a successor by IN_R2 became current before, END that comes again there is its cause
abbrev pub is_end_due : InProxy → Bool
is_end_due s =
    s.line.current.ended && not s.end_put && line.is_empty s.line.current.pdus

abbrev pub put_end : InProxy → Pick
put_end s =
    if s.line.current.ended && not s.end_put && line.is_empty s.line.current.pdus
    then Some (record s { end_put = true }, Packet EndA2)
    else None

-- ---- legs that are done with

-- IN_R1/A5 came on the current ci leg, and the next one follows
abbrev pub is_succeeded : Successor → Bool
is_succeeded (Joined leg Follows) = true
is_succeeded successor = false

-- the ci legs whose channel is finished
abbrev pub is_done : InProxy → Leg → Bool
is_done s leg =
    is_client_leg leg
    && (nat_lt leg.number s.current.number
    || ((leg.number == s.current.number) && is_succeeded s.successor))

-- ---- a leg is lost

abbrev pub only_marks_by : InProxy → Option Which → Bool
only_marks_by s None = false
only_marks_by s (Some which) = (line.channel_of s.line which).ended || has_a5 s which

-- a ci leg is only marked where END/A1 or IN_R1/A5 came on it
abbrev pub only_marks : InProxy → Leg → Bool
only_marks s leg = is_client_leg leg && only_marks_by s (channel_of s leg.number)

-- IN_R2/A2 is due
abbrev pub tells_server : Successor → Bool
tells_server (Joined leg (TellsServer behind)) = true
tells_server successor = false

abbrev pub is_announced : Opening → Bool
is_announced (Announced opener) = true
is_announced opening = false

-- nothing is left to put on is; behind END no channel holds more
abbrev pub is_drained : InProxy → Bool
is_drained s =
    s.end_put && line.is_empty s.line.current.pdus && is_announced s.opening
    && not (tells_server s.successor) && (length s.waiting.due == 0) && not s.ping_due

-- END came on the newest ci leg
abbrev pub newest_ended : InProxy → Successor → Bool
newest_ended s Absent = s.line.current.ended
newest_ended s (Up number) = false
newest_ended s (Joined leg stage) = s.line.next.ended

-- the newest ci leg ended behind END/A1, without IN_R1/A5, and nothing is left to put
abbrev pub is_over : InProxy → Bool
is_over s =
    s.newest_lost && newest_ended s s.successor && not (has_come s.handover) && is_drained s

-- then the work is done
abbrev pub settled : InProxy → InProxy
settled s = if is_over s then record s { work = work.Done } else s

abbrev pub settled_pick : Pick → Pick
settled_pick None = None
settled_pick (Some pick) = Some (settled pick.0, pick.1)

abbrev pub is_newest : InProxy → Leg → Bool
is_newest s leg = is_client_leg leg && (leg.number == newest s)

-- the other side ended or broke the leg, and the proxy goes on
abbrev pub mark : InProxy → Leg → InProxy
mark s leg = settled (if is_newest s leg then record s { newest_lost = true } else s)
