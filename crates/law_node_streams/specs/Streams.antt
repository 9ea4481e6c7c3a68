-- what passed a node by its events: the messages that its role took and put, and the bytes of its
-- legs (profile)
use Rattle.std.specs.Prelude.{ℕ, ◌≡◌, ◌⊎◌, ◌++◌, List, [], ◌∷◌, length, Bool, true, false, Some, None, Err}
use Rattle.std.specs.List.{AllByRecursion, list_any}
use Rattle.std.specs.declared.option.Option.{Option}
use mathlib.Core.List.{IsPrefix}
use Rattle.rh_rts.specs.declared.command.Cookie.{Cookie}
use Rattle.rh_rts.specs.declared.command.TheConstants.{COOKIE_LEN}
use Rattle.rh_http.specs.declared.fault.HttpFault.{HttpFault}
use Rattle.rh_http.specs.declared.refusal.Refusal.{Refusal}
use Rattle.rh_http.specs.declared.refusal.Refusal.TheVariants.{Unavailable}
use Rattle.rh_http.specs.Texts.{refusal_text}
use Rattle.rh_sig.specs.declared.name.Pipe.{Pipe}
use Rattle.rh_line.specs.declared.leg.Leg.{Leg}
use Rattle.rh_shell.specs.declared.answers.HeadRefused.TheVariants as head
use Rattle.rh_shell.specs.declared.course.Course.{Course}
use Rattle.rh_shell.specs.declared.course.Course.TheVariants.{Going, Closed, Refusing}
use Rattle.rh_shell.specs.declared.rooms.Rooms.{Rooms}
use Rattle.rh_shell.specs.declared.stage.Stage.{Stage}
use Rattle.rh_shell.specs.declared.stage.Stage.TheVariants as stage
use Rattle.law_moves.specs.Carrying.{spelled, accepted, handed}
use Rattle.rh_shell.specs.Ends.{give}
use Rattle.rh_shell.specs.Intakes.{Intake, is_whole_head}
use Rattle.law_moves.specs.Moves.{Move, Up, HeadCame, EndMove, Moves, Passage, EndPassage, started, end_started, moved, all_moved, MayMove, AreAllowed, end_moved, all_end_moved, MayEndMove, AreAllowedAtEnd, is_in_use}
use Rattle.law_moves.specs.Moving.{Event, ComesUp, Hears, EndEvent, IsGiven, IsTaken, after_events, after_end_event, after_end_events, Leads, EndLeads}
use Rattle.rh_shell.specs.NearEnds.{NearEnd, first_stage, is_over}
use Rattle.rh_shell.specs.Rules.{Rules, Acts, Message}
use Rattle.rh_shell.specs.Shells.{Shell, begun, end_at, same_leg}
use Rattle.law_moves.specs.Wires.{of_leg}
use Rattle.law_moves.specs.ReadBack.Reading.{IsWholeText, begin, messages_read, reading, reading_after}
use Rattle.law_moves.specs.Passages.Counted.{AreCounted, AreCountedAtEnd}
use Rattle.law_moves.specs.Passages.Rising.{AreUpFirst, CameUpWith, HasComeUp}
use Rattle.law_node_history.specs.Carried.{heard_on, drawn_on, end_drawn_on, came_up, happened}
use Rattle.law_moves.specs.Turns.{AreInTurn, RefusesInTurn}
pub use Rattle.law_moves.specs.Turns.{is_head_on}

-- ---- what is asked of the events and the role

-- pieces come only on legs that came up before
abbrev pub HearsInTurn : List Event → Type 0
HearsInTurn events =
    (before behind : List Event) (leg : Leg) (piece : List ℕ)
    → events ≡ before ++ Hears leg piece ∷ behind → came_up leg before ≡ true

-- the pipe of a leg never changes
abbrev pub HasPipes : {S : Type 0} → Rules S → S → (Leg → Option Pipe) → Type 0
HasPipes rules first pipe =
    (moves : List Move) (leg : Leg) → AreAllowed rules (started first) moves
    → rules.pipe (all_moved rules (started first) moves).role leg ≡ pipe leg

-- the leg comes up by the move
abbrev pub is_up_on : Leg → Move → Bool
is_up_on leg (Up other cookie) = same_leg other leg
is_up_on leg move = false

-- a leg that is not in use comes in use by coming up alone
abbrev pub StaysUnused : {S : Type 0} → Rules S → S → Type 0
StaysUnused rules first =
    (moves : List Move) (move : Move) (leg : Leg) → AreAllowed rules (started first) moves
    → MayMove rules (all_moved rules (started first) moves).role move
    → is_up_on leg move ≡ false
    → is_in_use rules (all_moved rules (started first) moves).role leg ≡ false
    → is_in_use rules (moved rules (all_moved rules (started first) moves) move).role leg ≡ false

-- where the client is refused on a leg, nothing was put there: a request that comes first on it,
-- and a wanted leg that cannot be connected
pub record RefusesFirst {S : Type 0} (rules : Rules S) (first : S) (pipe : Leg → Option Pipe)
    (leg : Leg) : Type 0 where
  pub asked : (moves : List Move) (text : List ℕ) (fault : HttpFault)
      → AreAllowed rules (started first) moves → first_stage (pipe leg) ≡ stage.Head
      → list_any (is_head_on leg) moves ≡ false
      → (rules.head (all_moved rules (started first) moves).role leg text).1
      ≡ Err (head.Request fault)
      → of_leg leg (all_moved rules (started first) moves).put ≡ []
  pub unreached : (moves : List Move) (wanted : Leg) → AreAllowed rules (started first) moves
      → rules.answers_on (all_moved rules (started first) moves).role ≡ Some leg
      → rules.wants (all_moved rules (started first) moves).role wanted ≡ true
      → of_leg leg (all_moved rules (started first) moves).put ≡ []

-- ---- what passed

-- what was drawn is a front of the bytes of what was put, or of a refusal where nothing was put
abbrev pub IsDrawn : List Message → List ℕ → Type 0
IsDrawn put bytes =
    IsPrefix bytes (spelled put)
    ⊎ ((put ≡ []) × (refusal : Refusal) × IsPrefix bytes (refusal_text refusal))

-- where bytes are read
abbrev pub is_live : Stage → Bool
is_live stage.Head = true
is_live stage.Greeting = true
is_live stage.Frames = true
is_live stage.PassedOver = false
is_live stage.Shut = false

-- the text is the head with which the bytes begin
pub record IsFirstHead (text bytes : List ℕ) : Type 0 where
  pub whole : IsWholeText is_whole_head text
  pub front : IsPrefix text bytes

-- a head that came on the leg by the move is the one with which the bytes there begin
abbrev pub IsHeadOf : Leg → List ℕ → Move → Type 0
IsHeadOf leg heard (HeadCame other text) = same_leg other leg ≡ true → IsFirstHead text heard
IsHeadOf leg heard move = Unit {0}

-- a head with which the bytes begin was refused on the leg, by the role as it was then
pub record RefusesText {S : Type 0} (rules : Rules S) (leg : Leg) (heard : List ℕ) : Type 0 where
  pub role : S
  pub text : List ℕ
  pub stands : IsFirstHead text heard
  pub fault : HttpFault
  pub refuses : (rules.head role leg text).1 ≡ Err (head.Request fault)

-- what was drawn is a front of a refusal alone, for a leg that cannot be connected or for a head
-- that was refused
pub record RefusalDrawn {S : Type 0} (rules : Rules S) (leg : Leg) (put : List Message)
    (heard drawn : List ℕ) : Type 0 where
  pub none : put ≡ []
  pub refusal : Refusal
  pub front : IsPrefix drawn (refusal_text refusal)
  pub why : (refusal ≡ Unavailable) ⊎ RefusesText rules leg heard

-- all messages in the bytes came, and the intake stands where their reading does
pub record IsReadTo (pipe : Option Pipe) (came : List Message) (heard : List ℕ) (intake : Intake)
    : Type 0 where
  pub all : came ≡ messages_read pipe heard
  pub after : reading_after pipe (begin pipe) heard ≡ reading intake.stage intake.held

-- what a node that goes on keeps of a leg, of which it reads the pipe: what was put there spells
-- what was drawn, and then what is begun; and while the leg is of use and its bytes are read, they
-- are read to where it stands
pub record Seated {S : Type 0} (rules : Rules S) (role : S) (pipe : Option Pipe)
    (came put : List Message) (heard drawn : List ℕ) (end : NearEnd) : Type 0 where
  pub pipe_is : end.pipe ≡ pipe
  pub spells : spelled put ≡ drawn ++ end.begun
  pub reads : is_over rules end role ≡ false → is_live end.intake.stage ≡ true
      → IsReadTo pipe came heard end.intake

-- the node draws a refusal on the leg
abbrev pub is_refused_on : Leg → Course → Bool
is_refused_on leg Going = false
is_refused_on leg (Closed why) = false
is_refused_on leg (Refusing why client rest) = same_leg client leg

-- moves that are allowed lead to the node's role, each in its turn; what they took on each leg is a
-- front of what is read in the bytes that were heard there, and the bytes that were drawn are those
-- that they put, all while the node goes on, and where it refuses nobody on the leg
pub record Stream {S : Type 0} (rules : Rules S) (first : S) (rooms : Rooms)
    (pipe : Leg → Option Pipe) (events : List Event) : Type 0 where
  pub passage : Passage S
  pub leads : Leads rules (started first) passage
  pub role : passage.role ≡ (after_events rules (begun first rooms) events).role
  pub in_turn : AreInTurn rules first leads.moves
  -- the count that comes with a packet is of those that came on its leg before
  pub counted : AreCounted rules (started first) leads.moves
  -- the same legs came up by the moves
  pub ups : (leg : Leg) → list_any (is_up_on leg) leads.moves ≡ came_up leg events
  pub read : (leg : Leg)
      → IsPrefix (of_leg leg passage.came) (messages_read (pipe leg) (heard_on leg events))
  pub drawn : (leg : Leg) → RefusesInTurn rules first pipe leg
      → IsDrawn (of_leg leg passage.put) (drawn_on rules (begun first rooms) leg events)
  -- so each head that came, and why the client was refused
  pub heads : (leg : Leg) → AllByRecursion (IsHeadOf leg (heard_on leg events)) leads.moves
  pub refused : (leg : Leg) → RefusesInTurn rules first pipe leg
      → (let bytes = drawn_on rules (begun first rooms) leg events in
      IsPrefix bytes (spelled (of_leg leg passage.put))
      ⊎ RefusalDrawn rules leg (of_leg leg passage.put) (heard_on leg events) bytes)
  pub goes : (leg : Leg) → (after_events rules (begun first rooms) events).course ≡ Going
      → IsPrefix (drawn_on rules (begun first rooms) leg events)
      (spelled (of_leg leg passage.put))
  pub unrefused : (leg : Leg)
      → is_refused_on leg (after_events rules (begun first rooms) events).course ≡ false
      → IsPrefix (drawn_on rules (begun first rooms) leg events)
      (spelled (of_leg leg passage.put))
  pub seats : (leg : Leg) (end : NearEnd)
      → (let node = after_events rules (begun first rooms) events in
      node.course ≡ Going → end_at node leg ≡ Some end
      → Seated rules node.role (pipe leg) (of_leg leg passage.came) (of_leg leg passage.put)
      (heard_on leg events) (drawn_on rules (begun first rooms) leg events) end)
  -- what was put spells what was drawn, and then what is begun, where the node closed as well
  pub left : (leg : Leg) (end : NearEnd)
      → (let node = after_events rules (begun first rooms) events in
      is_refused_on leg node.course ≡ false → end_at node leg ≡ Some end
      → spelled (of_leg leg passage.put)
      ≡ drawn_on rules (begun first rooms) leg events ++ end.begun)
  -- nothing was put on a leg that did not come up
  pub unput : (leg : Leg) → came_up leg events ≡ false → of_leg leg passage.put ≡ []

-- ---- and at an end

-- a role that refuses no client
pub record NeverRefuses {S : Type 0} (rules : Rules S) : Type 0 where
  pub heads : (s : S) (leg : Leg) (text : List ℕ) (fault : HttpFault)
      → (rules.head s leg text).1 ≡ Err (head.Request fault) → ⊥
  pub unreached : (s : S) → rules.answers_on s ≡ None

-- and at an end, whose acts bring no leg up
abbrev pub is_end_up_on : Leg → EndMove → Bool
is_end_up_on leg (Moves move) = is_up_on leg move
is_end_up_on leg act = false

-- the same over the moves of an end
abbrev pub StaysUnusedAtEnd : {S : Type 0} → Rules S → Acts S → S → Type 0
StaysUnusedAtEnd rules acts first =
    (moves : List EndMove) (move : EndMove) (leg : Leg)
    → AreAllowedAtEnd rules acts (end_started first) moves
    → MayEndMove rules (all_end_moved rules acts (end_started first) moves).passage.role move
    → is_end_up_on leg move ≡ false
    → is_in_use rules (all_end_moved rules acts (end_started first) moves).passage.role leg
    ≡ false
    → is_in_use rules
    (end_moved rules acts (all_end_moved rules acts (end_started first) moves) move).passage.role
    leg ≡ false

-- 16 bytes, as every cookie of the Rust type has (MS-RPCH 2.2.3.1)
abbrev pub IsCookie : Cookie → Type 0
IsCookie cookie = length cookie.0 ≡ COOKIE_LEN

-- if a leg comes up, its cookie has this
abbrev pub ComesUpWith : (Cookie → Type 0) → Event → Type 0
ComesUpWith P (ComesUp leg cookie) = P cookie
ComesUpWith P event = Unit {0}

-- and if it comes up by a move of an end
abbrev pub RisesWith : (Cookie → Type 0) → EndMove → Type 0
RisesWith P (Moves (Up leg cookie)) = P cookie
RisesWith P move = Unit {0}

-- the PDUs that an end accepted
abbrev pub given_by : {S : Type 0} → Acts S → Shell S → EndEvent → List (List ℕ)
given_by acts s (IsGiven pdu) = accepted pdu (give acts s pdu).1
given_by acts s event = []

-- in all events
abbrev pub all_given : {S : Type 0} → Rules S → Acts S → Shell S → List EndEvent
    → List (List ℕ)
all_given rules acts s [] = []
all_given rules acts s (event ∷ events) =
    given_by acts s event ++ all_given rules acts (after_end_event rules acts s event) events

-- the PDUs that were taken there
abbrev pub taken_by : {S : Type 0} → Acts S → Shell S → EndEvent → List (List ℕ)
taken_by acts s IsTaken = handed acts s
taken_by acts s event = []

-- in all events
abbrev pub all_taken : {S : Type 0} → Rules S → Acts S → Shell S → List EndEvent
    → List (List ℕ)
all_taken rules acts s [] = []
all_taken rules acts s (event ∷ events) =
    taken_by acts s event ++ all_taken rules acts (after_end_event rules acts s event) events

-- the same at an end, where the PDUs are logged besides that were given and taken; what was drawn
-- is a front of the bytes of what was put
pub record EndStream {S : Type 0} (rules : Rules S) (acts : Acts S) (first : S) (rooms : Rooms)
    (pipe : Leg → Option Pipe) (events : List EndEvent) : Type 0 where
  pub passage : EndPassage S
  pub leads : EndLeads rules acts (end_started first) passage
  pub role : passage.passage.role
      ≡ (after_end_events rules acts (begun first rooms) events).role
  pub given : passage.given ≡ all_given rules acts (begun first rooms) events
  pub taken : passage.taken ≡ all_taken rules acts (begun first rooms) events
  pub ups : (leg : Leg)
      → list_any (is_end_up_on leg) leads.moves ≡ came_up leg (happened events)
  -- and with cookies by the moves, if they all came up with cookies by the events
  pub cookies : AllByRecursion (ComesUpWith IsCookie) (happened events)
      → AllByRecursion (RisesWith IsCookie) leads.moves
  -- and each with a cookie with which it came up by an event
  pub raised : (leg : Leg) (cookie : Cookie) → HasComeUp leads.moves leg cookie
      → CameUpWith (happened events) leg cookie
  -- PDUs and packets come on legs that came up before
  pub up_first : AreUpFirst [] leads.moves
  -- the count that comes with a packet is of those that came on its leg before
  pub counted : AreCountedAtEnd rules acts (end_started first) leads.moves
  pub read : (leg : Leg)
      → IsPrefix (of_leg leg passage.passage.came)
      (messages_read (pipe leg) (heard_on leg (happened events)))
  pub drawn : (leg : Leg)
      → IsPrefix (end_drawn_on rules acts (begun first rooms) leg events)
      (spelled (of_leg leg passage.passage.put))
  pub seats : (leg : Leg) (end : NearEnd)
      → (let node = after_end_events rules acts (begun first rooms) events in
      node.course ≡ Going → end_at node leg ≡ Some end
      → Seated rules node.role (pipe leg) (of_leg leg passage.passage.came)
      (of_leg leg passage.passage.put) (heard_on leg (happened events))
      (end_drawn_on rules acts (begun first rooms) leg events) end)
  pub left : (leg : Leg) (end : NearEnd)
      → (let node = after_end_events rules acts (begun first rooms) events in
      is_refused_on leg node.course ≡ false → end_at node leg ≡ Some end
      → spelled (of_leg leg passage.passage.put)
      ≡ end_drawn_on rules acts (begun first rooms) leg events ++ end.begun)
  pub unput : (leg : Leg) → came_up leg (happened events) ≡ false
      → of_leg leg passage.passage.put ≡ []
