-- what an in proxy puts, in the order in which it goes (profile)
use Rattle.std.specs.Prelude.{Bool, true, List, [], ◌∷◌, if◌then◌else◌, Some, None}
use Rattle.std.specs.declared.option.Option.{Option}
use Rattle.rh_line.specs.declared.leg.Leg.{Leg}
use Rattle.rh_shell.specs.declared.due.Due.{Due}
use Rattle.rh_shell.specs.Rules.{Packet}
use Rattle.rh_shell.specs.Waiting.{with_due}
use Rattle.rh_inproxy.specs.Acknowledging.{put_acks}
use Rattle.rh_inproxy.specs.Answers.{Pick, or_else}
use Rattle.rh_inproxy.specs.Ending.{put_end, settled_pick}
use Rattle.rh_inproxy.specs.InReplacement.{put_in_r2_a2, put_in_r1_a6, one_less}
use Rattle.rh_inproxy.specs.Opening.{put_first, put_echo}
use Rattle.rh_inproxy.specs.Passing.{put_pdu}
use Rattle.rh_inproxy.specs.State.{InProxy, is_client_leg, is_server_leg}
use Rattle.rh_inproxy.specs.Time.{put_ping}

-- no meter holds a packet back
abbrev pub may_go : Due → Bool
may_go due = true

abbrev pub first_of : List Due → Option Due
first_of [] = None
first_of (due ∷ dues) = Some due

abbrev pub behind_first : List Due → List Due
behind_first [] = []
behind_first (due ∷ dues) = dues

abbrev pub waiting_by : InProxy → List Due → Pick
waiting_by s [] = None
waiting_by s (due ∷ dues) = Some (
  record s { waiting = with_due s.waiting dues; successor = one_less s.successor },
  Packet due.packet,
)

-- 2. the packet that waits longest
abbrev pub put_waiting : InProxy → Pick
put_waiting s = waiting_by s s.waiting.due

-- the marks: END, and then IN_R1/A6
abbrev pub put_mark : InProxy → Pick
put_mark s = or_else (put_end s) (put_in_r1_a6 s)

-- what goes before acknowledgements
abbrev pub put_early : InProxy → Pick
put_early s = or_else (put_first s) (or_else (put_in_r2_a2 s) (put_waiting s))

-- the packets that are not behind PDUs
abbrev pub put_control : InProxy → Pick
put_control s = or_else (put_early s) (put_acks s)

-- what goes behind the PDUs
abbrev pub put_behind : InProxy → Pick
put_behind s = or_else (put_mark s) (put_ping s)

abbrev pub put_stream : InProxy → Pick
put_stream s = or_else (put_pdu s) (put_behind s)

-- the next message of the is leg
abbrev pub next : InProxy → Pick
next s = or_else (put_control s) (put_stream s)

-- on a ci leg goes the answer to an echo request alone; the work may be done by what is put on is
abbrev pub put : InProxy → Leg → Pick
put s leg =
    if is_client_leg leg then put_echo s leg.number
    else (if is_server_leg s leg then settled_pick (next s) else None)
