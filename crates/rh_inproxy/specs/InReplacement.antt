-- inbound replacement: a later ci leg over the same is leg, or a successor with an is leg of its
-- own (profile)
use Rattle.std.specs.Prelude.{ℕ, ◌==◌, ◌&&◌, ◌-◌, Bool, true, false, not, if◌then◌else◌, Some, None}
use Rattle.std.specs.declared.option.Option.{Option}
use Rattle.rh_rts.specs.declared.command.Cookie.{Cookie}
use Rattle.rh_sig.specs.declared.named.Named.TheVariants.{InR1A6, InR2A2}
use Rattle.rh_line.specs.Lines as line
use Rattle.rh_line.specs.declared.which.Which.{Which}
use Rattle.rh_line.specs.declared.which.Which.TheVariants.{Current, Next}
use Rattle.rh_shell.specs.declared.answers.Refused.TheVariants as refused
use Rattle.rh_shell.specs.declared.due.Origin.TheVariants.{Forwarded}
use Rattle.rh_shell.specs.Rules.{Packet}
use Rattle.rh_shell.specs.Waiting.{count}
use Rattle.rh_inproxy.specs.declared.state.Handover.{Handover}
use Rattle.rh_inproxy.specs.declared.state.Handover.TheVariants.{Came, Passed}
use Rattle.rh_inproxy.specs.declared.state.Joining.TheVariants.{TellsServer, Told, Follows}
use Rattle.rh_inproxy.specs.declared.state.Opener.{Opener}
use Rattle.rh_inproxy.specs.declared.state.Successor.{Successor}
use Rattle.rh_inproxy.specs.declared.state.Successor.TheVariants.{Absent, Up, Joined}
use Rattle.rh_inproxy.specs.declared.state.ClientLeg.{ClientLeg}
use Rattle.rh_inproxy.specs.declared.state.Work.TheVariants as work
use Rattle.rh_inproxy.specs.Answers.{Done, Pick, taken, refuse, unexpected}
use Rattle.rh_inproxy.specs.Opening.{is_absent, is_first, is_replacement, is_unknown, leg_of}
use Rattle.rh_inproxy.specs.Opening.{on_first_in_r1_a1, opener_of, with_edge}
use Rattle.rh_inproxy.specs.State.{InProxy, followed, has_a5, same_cookie}

-- ---- IN_R1/A1

-- the ci leg of this number is up, and its first packet has not come
abbrev pub is_newcomer : Successor → ℕ → Bool
is_newcomer (Up newcomer) number = newcomer == number
is_newcomer successor number = false

-- its list is opened with the own window, and IN_R2/A2 is due behind what waits
abbrev pub joined : InProxy → ℕ → Cookie → InProxy
joined s number cookie = record s {
  line = line.after_open_next s.line false;
  successor = Joined (leg_of number cookie) (TellsServer (count Forwarded s.waiting.due));
}

-- on a later ci leg it names the connection, and the channel of the ci leg before it
abbrev pub join : InProxy → Opener → ℕ → Cookie → Cookie → Cookie → Done
join s opener number connection predecessor channel =
    if not (same_cookie opener.connection connection)
    then refuse s (refused.Cookie opener.connection connection)
    else (if not (same_cookie s.current.cookie predecessor)
    then refuse s (refused.Cookie s.current.cookie predecessor)
    else taken (joined s number channel))

abbrev pub on_later_in_r1_a1 : InProxy → Option Opener → ℕ → Cookie → Cookie → Cookie → Done
on_later_in_r1_a1 s None number connection predecessor channel = unexpected s
on_later_in_r1_a1 s (Some opener) number connection predecessor channel =
    if is_newcomer s.successor number then join s opener number connection predecessor channel
    else unexpected s

-- IN_R1/A1 is first on its ci leg
abbrev pub on_in_r1_a1 : InProxy → ℕ → Cookie → Cookie → Cookie → Done
on_in_r1_a1 s number connection predecessor channel =
    if is_first s number then on_first_in_r1_a1 s connection predecessor channel
    else on_later_in_r1_a1 s (opener_of s.opening) number connection predecessor channel

-- ---- IN_R2/A2, and the packets that wait

abbrev pub told_by : InProxy → Successor → Pick
told_by s (Joined leg (TellsServer behind)) =
    if behind == 0 then Some (record s { successor = Joined leg Told }, Packet (InR2A2 leg.cookie))
    else None
told_by s successor = None

-- 2. IN_R2/A2 in its turn
abbrev pub put_in_r2_a2 : InProxy → Pick
put_in_r2_a2 s = told_by s s.successor

-- one of the packets before it went
abbrev pub one_less : Successor → Successor
one_less (Joined leg (TellsServer behind)) = Joined leg (TellsServer (behind - 1))
one_less successor = successor

-- ---- IN_R1/A5

-- on the newest ci leg: IN_R1/A6 with that cookie is a mark
abbrev pub handed_over : InProxy → Cookie → Done
handed_over s cookie = taken (record s { handover = Came cookie })

-- on an earlier one: the channel and its leg are finished
abbrev pub finished : InProxy → ClientLeg → InProxy
finished s leg = followed (
    record s { line = line.after_finish s.line; successor = Joined leg Follows }
    )

-- IN_R2/A2 was put, and it names the channel of the next ci leg
abbrev pub finish_by : InProxy → Successor → Cookie → Done
finish_by s Absent cookie = handed_over s cookie
finish_by s (Joined leg Told) cookie =
    if same_cookie leg.cookie cookie then taken (finished s leg)
    else refuse s (refused.Cookie leg.cookie cookie)
finish_by s successor cookie = unexpected s

abbrev pub hand_over : InProxy → Which → Cookie → Done
hand_over s Current cookie = finish_by s s.successor cookie
hand_over s Next cookie = handed_over s cookie

-- IN_R1/A5 on a ci leg: none came there
abbrev pub on_in_r1_a5 : InProxy → Which → Cookie → Done
on_in_r1_a5 s which cookie = if has_a5 s which then unexpected s else hand_over s which cookie

-- ---- IN_R1/A6

abbrev pub mark_by : InProxy → Handover → Pick
mark_by s (Came cookie) = Some (record s { handover = Passed }, Packet (InR1A6 cookie))
mark_by s handover = None

-- the newest channel is the current one, and its list is empty
abbrev pub is_last_empty : InProxy → Bool
is_last_empty s = is_absent s.successor && line.is_empty s.line.current.pdus

-- 5. the mark, where the newest channel is the current one and its list is empty
abbrev pub put_in_r1_a6 : InProxy → Pick
put_in_r1_a6 s =
    if is_absent s.successor && line.is_empty s.line.current.pdus then mark_by s s.handover
    else None

-- ---- what the server answers

-- IN_R1/B2: IN_R1/A1 was the first packet of all, and no IN_R1/B2 came
abbrev pub on_in_r1_b2 : InProxy → ℕ → Done
on_in_r1_b2 s size =
    if is_replacement (opener_of s.opening) && is_unknown s.edge then with_edge s size
    else unexpected s

abbrev pub has_passed : Handover → Bool
has_passed Passed = true
has_passed handover = false

-- IN_R1/B1: IN_R1/A6 was put. All legs are finished
abbrev pub on_in_r1_b1 : InProxy → Done
on_in_r1_b1 s =
    if has_passed s.handover then taken (record s { work = work.Done }) else unexpected s
