-- a node: a role with its legs, and what is the same in all roles (MS-RPCH 3.2; what it leaves open
-- is this profile's)
use Rattle.std.specs.Prelude.{ℕ, ◌+◌, ◌-◌, ◌*◌, ◌==◌, ◌&&◌, ◌||◌, ◌++◌, List, [], ◌∷◌, length, take, drop, Bool, true, false, not, if◌then◌else◌, nat_lt, nat_le, slice_get, slice_set, Some, None}
use Rattle.std.specs.declared.option.Option.{Option}
use Rattle.rh_rts.specs.declared.command.Cookie.{Cookie}
use Rattle.rh_http.specs.declared.refusal.Refusal.{Refusal}
use Rattle.rh_http.specs.declared.refusal.Refusal.TheVariants.{Unavailable}
use Rattle.rh_http.specs.Texts.{refusal_text}
use Rattle.rh_line.specs.declared.leg.Leg.{Leg}
use Rattle.rh_line.specs.declared.leg.LegKind.{LegKind}
use Rattle.rh_line.specs.declared.leg.LegKind.TheVariants.{ClientOut, OutServer, ClientIn, InServer}
use Rattle.rh_line.specs.declared.cause.Cause.{Cause}
use Rattle.rh_line.specs.declared.cause.Cause.TheVariants as cause
use Rattle.rh_line.specs.declared.state.State.{State}
use Rattle.rh_line.specs.declared.state.State.TheVariants as state
use Rattle.rh_line.specs.declared.state.Verdict.{Verdict}
use Rattle.rh_line.specs.declared.state.Verdict.TheVariants as verdict
use Rattle.rh_shell.specs.declared.answers.Phase.{Phase}
use Rattle.rh_shell.specs.declared.answers.Phase.TheVariants as phase
use Rattle.rh_shell.specs.declared.course.Course.{Course}
use Rattle.rh_shell.specs.declared.course.Course.TheVariants.{Going, Closed, Refusing}
use Rattle.rh_shell.specs.declared.rooms.Rooms.{Rooms}
use Rattle.rh_shell.specs.declared.stop.Stop.{Stop}
use Rattle.rh_shell.specs.Rules.{Rules}
use Rattle.rh_shell.specs.NearEnds.{NearEnd, new_end, marked, is_empty, is_marked, is_ended, is_finished}
use Rattle.rh_shell.specs.Hearing.{Turn, goes, hear}
use Rattle.rh_shell.specs.Drawing.{Drawn, draw}

-- what contracts see of a node whose role has states S
pub record Shell (S : Type 0) : Type 0 where
  pub role : S
  -- the legs that are up, or were and are finished
  pub legs : List NearEnd
  pub course : Course
  -- the last moment
  pub now : ℕ
  -- the most legs of each kind that are unfinished
  pub rooms : Rooms

abbrev pub begun : {S : Type 0} → S → Rooms → Shell S
begun role rooms = record { role = role; legs = []; course = Going; now = 0; rooms = rooms }

-- ---- legs, and their order: co, os, ci, is, and within a kind the lower number first

abbrev pub kind_number : LegKind → ℕ
kind_number ClientOut = 0
kind_number OutServer = 1
kind_number ClientIn = 2
kind_number InServer = 3

abbrev pub is_of : LegKind → Leg → Bool
is_of kind leg = kind_number kind == kind_number leg.kind

abbrev pub same_leg : Leg → Leg → Bool
same_leg a b = is_of a.kind b && a.number == b.number

abbrev pub is_before : Leg → Leg → Bool
is_before a b =
    nat_lt (kind_number a.kind) (kind_number b.kind)
    || (is_of a.kind b && nat_lt a.number b.number)

-- the first place at which a test is passed, or how many there are
unfoldable pub first_where : (NearEnd → Bool) → List NearEnd → ℕ
first_where test [] = 0
first_where test (end ∷ ends) = if test end then 0 else 1 + first_where test ends

abbrev pub is_at : Leg → NearEnd → Bool
is_at leg end = same_leg end.leg leg

abbrev pub place : Leg → List NearEnd → ℕ
place leg legs = first_where (is_at leg) legs

abbrev pub end_at : {S : Type 0} → Shell S → Leg → Option NearEnd
end_at s leg = slice_get s.legs (place leg s.legs)

abbrev pub with_end : {S : Type 0} → Shell S → Leg → NearEnd → S → Shell S
with_end s leg end role =
    record s { legs = slice_set s.legs (place leg s.legs) end; role = role }

-- ---- the state

abbrev pub state_by : Course → Phase → State
state_by (Closed why) p = state.Closed why
state_by (Refusing why leg rest) p = state.Closed why
state_by Going phase.Opening = state.Opening
state_by Going phase.Open = state.Open
state_by Going phase.Ended = state.Ended

abbrev pub state_of : {S : Type 0} → Rules S → Shell S → State
state_of rules s = state_by s.course (rules.phase s.role)

abbrev pub verdict_by : State → Verdict
verdict_by (state.Closed why) = verdict.Closed why
verdict_by state.Ended = verdict.Ended
verdict_by state.Opening = verdict.Going
verdict_by state.Open = verdict.Going

abbrev pub with_verdict : {S : Type 0} → Rules S → Shell S → Shell S × Verdict
with_verdict rules s = (s, verdict_by (state_of rules s))

abbrev pub is_going : Course → Bool
is_going Going = true
is_going closed = false

-- neither Ended nor Closed
abbrev pub is_working_by : State → Bool
is_working_by state.Opening = true
is_working_by state.Open = true
is_working_by state.Ended = false
is_working_by (state.Closed why) = false

abbrev pub is_working : {S : Type 0} → Rules S → Shell S → Bool
is_working rules s = is_working_by (state_of rules s)

-- ---- closing

abbrev pub close : {S : Type 0} → Shell S → Cause → Shell S
close s why = record s { course = Closed why }

-- the client's request is refused by a head on its leg
abbrev pub refuse : {S : Type 0} → Shell S → Cause → Leg → Refusal → Shell S
refuse s why leg refusal = record s { course = Refusing why leg (refusal_text refusal) }

abbrev pub stop_by : {S : Type 0} → Shell S → Leg → Cause → Option Refusal → Shell S
stop_by s leg why None = close s why
stop_by s leg why (Some refusal) = refuse s why leg refusal

abbrev pub stopped : {S : Type 0} → Shell S → Leg → Option Stop → Shell S
stopped s leg None = s
stopped s leg (Some stop) = stop_by s leg stop.cause stop.refusal

-- ---- legs that are finished

abbrev pub one_if : Bool → ℕ
one_if true = 1
one_if false = 0

abbrev pub is_unfinished : {S : Type 0} → Rules S → S → LegKind → NearEnd → Bool
is_unfinished rules role kind end = is_of kind end.leg && not (is_finished rules role end)

-- how many legs of a kind are not finished
abbrev pub unfinished : {S : Type 0} → Rules S → S → LegKind → List NearEnd → ℕ
unfinished rules role kind [] = 0
unfinished rules role kind (end ∷ ends) =
    one_if (is_unfinished rules role kind end) + unfinished rules role kind ends

abbrev pub room_of : Rooms → LegKind → ℕ
room_of rooms ClientOut = rooms.client_out
room_of rooms OutServer = rooms.out_server
room_of rooms ClientIn = rooms.client_in
room_of rooms InServer = rooms.in_server

abbrev pub room : Rooms → ℕ
room rooms = rooms.client_out + rooms.out_server + rooms.client_in + rooms.in_server

abbrev pub is_free : {S : Type 0} → Rules S → S → LegKind → NearEnd → Bool
is_free rules role kind end = is_of kind end.leg && is_finished rules role end

-- the place of the first finished leg of a kind, or how many legs there are
abbrev pub free_place : {S : Type 0} → Rules S → S → LegKind → List NearEnd → ℕ
free_place rules role kind legs = first_where (is_free rules role kind) legs

-- a leg of the kind is finished, or fewer legs are kept than there is room for
abbrev pub has_place : {S : Type 0} → Rules S → Shell S → LegKind → Bool
has_place rules s kind =
    nat_lt (free_place rules s.role kind s.legs) (length s.legs)
    || nat_lt (length s.legs) (room s.rooms)

-- one more leg of the kind may be unfinished
abbrev pub has_room : {S : Type 0} → Rules S → Shell S → LegKind → Bool
has_room rules s kind =
    nat_lt (unfinished rules s.role kind s.legs) (room_of s.rooms kind)
    && has_place rules s kind

-- ---- legs come up

abbrev pub wants : {S : Type 0} → Rules S → Shell S → Leg → Bool
wants rules s leg = is_working rules s && (has_room rules s leg.kind && rules.wants s.role leg)

abbrev pub may_up : {S : Type 0} → Rules S → Shell S → Leg → Bool
may_up rules s leg = is_working rules s && (has_room rules s leg.kind && rules.may_up s.role leg)

-- a leg takes the place of the first finished one of its kind, which is forgotten; where there is
-- none it stands behind all
abbrev pub seated_at : List NearEnd → ℕ → NearEnd → List NearEnd
seated_at legs at new =
    if nat_lt at (length legs) then slice_set legs at new else legs ++ new ∷ []

abbrev pub seated : {S : Type 0} → Rules S → S → NearEnd → List NearEnd → List NearEnd
seated rules role new legs = seated_at legs (free_place rules role new.leg.kind legs) new

abbrev pub with_leg : {S : Type 0} → Rules S → Shell S → Leg → Cookie → Shell S
with_leg rules s leg cookie = record s {
  role = rules.up s.role leg cookie;
  legs = seated rules s.role (new_end leg (rules.pipe s.role leg) s.now) s.legs;
}

-- a leg is up, where it may be
abbrev pub up : {S : Type 0} → Rules S → Shell S → Leg → Cookie → Shell S
up rules s leg cookie = if may_up rules s leg then with_leg rules s leg cookie else s

-- ---- bytes come

abbrev pub turned : {S : Type 0} → Shell S → Leg → Turn S → Shell S
turned s leg t = stopped (with_end s leg t.end t.role) leg t.stop

abbrev pub bytes_at : {S : Type 0} → Rules S → Shell S → Leg → List ℕ → Option NearEnd → Shell S
bytes_at rules s leg piece None = s
bytes_at rules s leg piece (Some end) = turned s leg (hear rules s.now (goes end s.role) piece)

abbrev pub bytes_by : {S : Type 0} → Rules S → Shell S → Leg → List ℕ → Course → Shell S
bytes_by rules s leg piece Going = bytes_at rules s leg piece (end_at s leg)
bytes_by rules s leg piece closed = s

-- a piece came on a leg
abbrev pub bytes : {S : Type 0} → Rules S → Shell S → Leg → List ℕ → Shell S × Verdict
bytes rules s leg piece = with_verdict rules (bytes_by rules s leg piece s.course)

-- ---- a leg is lost

-- the leg is only marked where the node ended or its role goes on; else the node closes
abbrev pub lose : {S : Type 0} → Rules S → Shell S → Leg → NearEnd → Cause → Shell S
lose rules s leg end why =
    if is_ended (rules.phase s.role) then with_end s leg (marked end) s.role
    else (if rules.only_marks s.role leg
    then with_end s leg (marked end) (rules.mark s.role leg)
    else close s why)

-- nothing changes where it is finished
abbrev pub lost : {S : Type 0} → Rules S → Shell S → Leg → NearEnd → Cause → Shell S
lost rules s leg end why =
    if is_finished rules s.role end then s else lose rules s leg end why

abbrev pub ended_at : {S : Type 0} → Rules S → Shell S → Leg → Option NearEnd → Shell S
ended_at rules s leg None = s
ended_at rules s leg (Some end) =
    lost rules s leg end (cause.LegEnded leg (length end.intake.held))

abbrev pub ended_by : {S : Type 0} → Rules S → Shell S → Leg → Course → Shell S
ended_by rules s leg Going = ended_at rules s leg (end_at s leg)
ended_by rules s leg closed = s

-- the other side ended the leg in order
abbrev pub ended : {S : Type 0} → Rules S → Shell S → Leg → Shell S × Verdict
ended rules s leg = with_verdict rules (ended_by rules s leg s.course)

-- a leg on which the client may be told something
abbrev pub is_heard : Option NearEnd → Bool
is_heard None = false
is_heard (Some end) = not (is_marked end.standing)

abbrev pub unreached_by : {S : Type 0} → Shell S → Cause → Option Leg → Shell S
unreached_by s why None = close s why
unreached_by s why (Some client) =
    if is_heard (end_at s client) then refuse s why client Unavailable else close s why

-- a wanted leg cannot be connected, and the client is told so where the role says on which leg
abbrev pub unreached : {S : Type 0} → Rules S → Shell S → Leg → Shell S
unreached rules s leg = unreached_by s (cause.LegBroken leg) (rules.answers_on s.role)

abbrev pub broken_at : {S : Type 0} → Rules S → Shell S → Leg → Option NearEnd → Shell S
broken_at rules s leg None = if wants rules s leg then unreached rules s leg else s
broken_at rules s leg (Some end) = lost rules s leg end (cause.LegBroken leg)

abbrev pub broken_by : {S : Type 0} → Rules S → Shell S → Leg → Course → Shell S
broken_by rules s leg Going = broken_at rules s leg (end_at s leg)
broken_by rules s leg closed = s

-- the leg failed, or a wanted one cannot be connected
abbrev pub broken : {S : Type 0} → Rules S → Shell S → Leg → Shell S × Verdict
broken rules s leg = with_verdict rules (broken_by rules s leg s.course)

-- ---- bytes are drawn

abbrev pub put_back : {S : Type 0} → Shell S → Leg → Drawn S → Shell S × List ℕ
put_back s leg d = (with_end s leg d.end d.role, d.bytes)

-- a marked leg gives none
abbrev pub drawn_at : {S : Type 0} → Rules S → Shell S → Leg → ℕ → Option NearEnd
    → Shell S × List ℕ
drawn_at rules s leg room None = (s, [])
drawn_at rules s leg room (Some end) =
    if is_marked end.standing then (s, [])
    else put_back s leg (draw rules s.now room end s.role)

-- of a closed node the rest of a refusal alone
abbrev pub drawn_by : {S : Type 0} → Rules S → Shell S → Leg → ℕ → Course → Shell S × List ℕ
drawn_by rules s leg room Going = drawn_at rules s leg room (end_at s leg)
drawn_by rules s leg room (Closed why) = (s, [])
drawn_by rules s leg room (Refusing why client rest) =
    if same_leg client leg
    then (record s { course = Refusing why client (drop room rest) }, take room rest)
    else (s, [])

-- up to so many bytes are drawn
abbrev pub drawn : {S : Type 0} → Rules S → Shell S → Leg → ℕ → Shell S × List ℕ
drawn rules s leg room = drawn_by rules s leg room s.course

-- a leg that is forgotten was finished
abbrev pub finished_at : {S : Type 0} → Rules S → Shell S → Leg → Option NearEnd → Bool
finished_at rules s leg None = rules.was_up s.role leg
finished_at rules s leg (Some end) = is_finished rules s.role end

abbrev pub finished_by : {S : Type 0} → Rules S → Shell S → Leg → Course → Bool
finished_by rules s leg Going = finished_at rules s leg (end_at s leg)
finished_by rules s leg (Closed why) = true
finished_by rules s leg (Refusing why client rest) = not (same_leg client leg) || is_empty rest

-- the node has no use for the leg any more, and nothing is left to draw
abbrev pub finished : {S : Type 0} → Rules S → Shell S → Leg → Bool
finished rules s leg = finished_by rules s leg s.course

-- ---- time, in milliseconds

abbrev pub is_silent_by : Option ℕ → ℕ → ℕ → Bool
is_silent_by None since now = false
is_silent_by (Some limit) since now = nat_le limit (now - since)

-- an unfinished leg was silent as long as it may be
abbrev pub is_silent : {S : Type 0} → Rules S → S → ℕ → NearEnd → Bool
is_silent rules role now end =
    not (is_finished rules role end)
    && is_silent_by (rules.silence role end.leg) end.since now

-- the leg that is before the other one, each with the moment of its last bytes
abbrev pub earlier : Option (Leg × ℕ) → Leg × ℕ → Option (Leg × ℕ)
earlier None one = Some one
earlier (Some other) one = Some (if is_before one.0 other.0 then one else other)

abbrev pub silent_one : {S : Type 0} → Rules S → S → ℕ → NearEnd → Option (Leg × ℕ)
    → Option (Leg × ℕ)
silent_one rules role now end first =
    if is_silent rules role now end then earlier first (end.leg, end.since) else first

-- the first silent leg in the order of legs
abbrev pub first_silent : {S : Type 0} → Rules S → S → ℕ → List NearEnd → Option (Leg × ℕ)
    → Option (Leg × ℕ)
first_silent rules role now [] first = first
first_silent rules role now (end ∷ ends) first =
    first_silent rules role now ends (silent_one rules role now end first)

-- nothing was put for half of that time
abbrev pub is_quiet_by : Option ℕ → ℕ → ℕ → Bool
is_quiet_by None put_at now = false
is_quiet_by (Some time) put_at now = nat_le time (2 * (now - put_at))

abbrev pub is_quiet : {S : Type 0} → Rules S → S → ℕ → NearEnd → Bool
is_quiet rules role now end =
    not (is_finished rules role end)
    && is_quiet_by (rules.ping_after role end.leg) end.put_at now

-- Pings become due
abbrev pub pinged : {S : Type 0} → Rules S → ℕ → List NearEnd → S → S
pinged rules now [] role = role
pinged rules now (end ∷ ends) role =
    pinged rules now ends (if is_quiet rules role now end then rules.ping role end.leg else role)

abbrev pub passed_by : {S : Type 0} → Rules S → Shell S → Option (Leg × ℕ) → Shell S
passed_by rules s (Some silent) = close s (cause.Silent silent.0 silent.1 s.now)
passed_by rules s None = record s { role = pinged rules s.now s.legs s.role }

-- silence comes first, and a node that closed gets no Pings
abbrev pub passed : {S : Type 0} → Rules S → Shell S → Shell S
passed rules s = passed_by rules s (first_silent rules s.role s.now s.legs None)

-- time passes at a node that works; a moment below the last one changes nothing
abbrev pub ticked : {S : Type 0} → Rules S → Shell S → ℕ → Shell S
ticked rules s now =
    if is_working rules s && nat_le s.now now then passed rules (record s { now = now }) else s

abbrev pub tick : {S : Type 0} → Rules S → Shell S → ℕ → Shell S × Verdict
tick rules s now = with_verdict rules (ticked rules s now)
