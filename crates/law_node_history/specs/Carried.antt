-- what each leg carried: the bytes that its nodes drew and heard there by their histories, and
-- those that are in flight (profile)
use Rattle.std.specs.Prelude.{◌≡◌, ◌≢◌, ◌++◌, ℕ, List, [], ◌∷◌, Bool, true, false, IsTrue, if◌then◌else◌, get_or}
use mathlib.Core.List.{IsPrefix}
use Rattle.std.specs.List.{list_any}
use Rattle.rh_rts.specs.declared.command.Cookie.{Cookie}
use Rattle.rh_text.specs.declared.ends.Dir.{Dir}
use Rattle.rh_text.specs.declared.ends.Side.{Side}
use Rattle.rh_line.specs.declared.leg.Leg.{Leg}
use Rattle.rh_line.specs.declared.leg.LegKind.{LegKind}
use Rattle.rh_line.specs.declared.leg.LegKind.TheVariants.{ClientOut, OutServer, ClientIn, InServer}
use Rattle.rh_record.specs.declared.answer.Who.{Who}
use Rattle.rh_record.specs.declared.answer.Who.TheVariants as who
use Rattle.law_moves.specs.Moving as moving
use Rattle.law_moves.specs.Moving.{EndEvent, Happens, after_event, after_events, after_end_event, after_end_events}
use Rattle.rh_shell.specs.Rules.{Rules, Acts}
use Rattle.rh_shell.specs.Shells as shell
use Rattle.rh_shell.specs.Shells.{Shell, same_leg, may_up, wants}
use Rattle.rh_wires.specs.declared.legs.Legs.{Legs}
use Rattle.rh_wires.specs.declared.wire.Wire.{Wire}
use Rattle.rh_wires.specs.Legs as legs
use Rattle.rh_wires.specs.Readers.{reader_of}
use Rattle.rh_wires.specs.Wires as wires
use Rattle.rh_wires.specs.Wires.{sender, receiver}
use Rattle.rh_company.specs.declared.place.Place.{Place}
use Rattle.rh_company.specs.declared.place.Place.TheVariants.{Absent, Here, Gone}
use Rattle.rh_company.specs.Company.{Company, Rulebook}
use Rattle.rh_nodes.specs.Giving.{Deeds}
use Rattle.rh_nodes.specs.Opening.{Makers}
use Rattle.rh_nodes.specs.Settling.{leg_at}
use Rattle.rh_nodes.specs.World.{World, node_at}
use Rattle.law_node_history.specs.Carriages.{Carriage, IsCarried}
use Rattle.law_node_history.specs.Histories.{History, AreRuns, in_place, out_place}

-- ---- what a node did on a leg, by its events

-- the bytes that it drew
abbrev pub drawn_in : {S : Type 0} → Rules S → Shell S → Leg → moving.Event → List ℕ
drawn_in rules s leg (moving.Draws other room) =
    if same_leg other leg then (shell.drawn rules s other room).1 else []
drawn_in rules s leg event = []

abbrev pub drawn_on : {S : Type 0} → Rules S → Shell S → Leg → List moving.Event → List ℕ
drawn_on rules s leg [] = []
drawn_on rules s leg (event ∷ events) =
    drawn_in rules s leg event ++ drawn_on rules (after_event rules s event) leg events

abbrev pub drawn_at_end : {S : Type 0} → Rules S → Acts S → Shell S → Leg → EndEvent → List ℕ
drawn_at_end rules acts s leg (Happens event) = drawn_in rules s leg event
drawn_at_end rules acts s leg act = []

abbrev pub end_drawn_on : {S : Type 0} → Rules S → Acts S → Shell S → Leg → List EndEvent
    → List ℕ
end_drawn_on rules acts s leg [] = []
end_drawn_on rules acts s leg (event ∷ events) =
    drawn_at_end rules acts s leg event
    ++ end_drawn_on rules acts (after_end_event rules acts s event) leg events

-- the bytes that it heard
abbrev pub heard_in : Leg → moving.Event → List ℕ
heard_in leg (moving.Hears other piece) = if same_leg other leg then piece else []
heard_in leg event = []

abbrev pub heard_on : Leg → List moving.Event → List ℕ
heard_on leg [] = []
heard_on leg (event ∷ events) = heard_in leg event ++ heard_on leg events

-- the leg came up
abbrev pub is_up_of : Leg → moving.Event → Bool
is_up_of leg (moving.ComesUp other cookie) = same_leg other leg
is_up_of leg event = false

abbrev pub came_up : Leg → List moving.Event → Bool
came_up leg events = list_any (is_up_of leg) events

-- the events at an end, without its acts
abbrev pub happened : List EndEvent → List moving.Event
happened [] = []
happened (Happens event ∷ events) = event ∷ happened events
happened (act ∷ events) = happened events

-- ---- by the history of all nodes

abbrev pub events_of : History → Who → List moving.Event
events_of h who.Client = happened h.client
events_of h who.Server = happened h.server
events_of h (who.In n) = h.ins n
events_of h (who.Out n) = h.outs n

-- what each node drew on each leg, what it was fed there, and whether it had the leg up
pub record Ledger : Type 0 where
  pub drawn : Who → Leg → List ℕ
  pub fed : Who → Leg → List ℕ
  pub was_up : Who → Leg → Bool

abbrev pub drawn_by : {K C S I O : Type 0} → Rulebook C S I O → Makers K I O → Deeds C S
    → Company C S I O → K → History → Who → Leg → List ℕ
drawn_by r m d first cast h who.Client leg =
    end_drawn_on r.client d.client first.client leg h.client
drawn_by r m d first cast h who.Server leg =
    end_drawn_on r.server d.server first.server leg h.server
drawn_by r m d first cast h (who.In n) leg =
    drawn_on r.in_proxy (m.in_proxy cast n) leg (h.ins n)
drawn_by r m d first cast h (who.Out n) leg =
    drawn_on r.out_proxy (m.out_proxy cast n) leg (h.outs n)

abbrev pub ledger : {K C S I O : Type 0} → Rulebook C S I O → Makers K I O → Deeds C S
    → Company C S I O → K → History → Ledger
ledger r m d first cast h = record {
  drawn = drawn_by r m d first cast h;
  fed = h.fed;
  was_up = λ node leg. came_up leg (events_of h node);
}

-- ---- the legs

abbrev pub wire_at : Legs → Leg → Wire
wire_at all leg = get_or (legs.of leg.kind all) leg.number wires.blank

abbrev pub end_node : List ℕ → Leg → Side → Who
end_node readers leg end = node_at (reader_of readers leg.number) leg end

-- one direction of a leg: what the node at the one end drew, what that at the other was fed, and
-- what is between them
abbrev pub carriage : Ledger → Legs → List ℕ → Leg → Dir → Carriage
carriage g all readers leg dir = record {
  drawn = g.drawn (end_node readers leg (sender dir)) leg;
  fed = g.fed (end_node readers leg (receiver dir)) leg;
  flight = wires.in_flight dir (wire_at all leg);
  puts = wires.is_up (sender dir) (wire_at all leg);
  takes = wires.is_up (receiver dir) (wire_at all leg);
  did_put = g.was_up (end_node readers leg (sender dir)) leg;
  did_take = g.was_up (end_node readers leg (receiver dir)) leg;
}

pub record AreCarried (g : Ledger) (all : Legs) (readers : List ℕ) : Type 0 where
  pub each : (leg : Leg) (dir : Dir) → IsCarried (carriage g all readers leg dir)
  -- a node that never had the leg up drew nothing there, and was fed nothing
  pub idle : (node : Who) (leg : Leg) → g.was_up node leg ≡ false
      → (g.drawn node leg ≡ []) × (g.fed node leg ≡ [])
  -- a leg was up for the nodes at its two ends alone: so an IN leg of the client for one in proxy,
  -- the one that reads it
  pub stands : (node : Who) (leg : Leg) → g.was_up node leg ≡ true
      → (end : Side) × (end_node readers leg end ≡ node)
  -- an IN leg that has a reader came up for the client
  pub first : (n : ℕ) → reader_of readers n ≢ 0
      → g.was_up who.Client (leg_at ClientIn n) ≡ true
  -- there is no in proxy 0
  pub none : (leg : Leg) → g.was_up (who.In 0) leg ≡ false

-- ---- what a node heard of what it was fed

-- a proxy that is there heard all of it, and one that was let go what came before that
abbrev pub IsHeard : {S : Type 0} → Place S → List ℕ → List ℕ → Type 0
IsHeard Absent heard fed = fed ≡ []
IsHeard (Here node legs) heard fed = heard ≡ fed
IsHeard (Gone now) heard fed = IsPrefix heard fed

pub record AreHeard {K C S I O : Type 0} (w : World K C S I O) (h : History) : Type 0 where
  pub client : (leg : Leg) → heard_on leg (happened h.client) ≡ h.fed who.Client leg
  pub server : (leg : Leg) → heard_on leg (happened h.server) ≡ h.fed who.Server leg
  pub ins : (n : ℕ) (leg : Leg)
      → IsHeard (in_place w.company n) (heard_on leg (h.ins n)) (h.fed (who.In n) leg)
  pub outs : (n : ℕ) (leg : Leg)
      → IsHeard (out_place w.company n) (heard_on leg (h.outs n)) (h.fed (who.Out n) leg)

-- ---- a leg comes up at most once at a node, which is a fact of its role

-- each leg that came up might
abbrev pub IsAccepted : {S : Type 0} → Rules S → Shell S → moving.Event → Type 0
IsAccepted rules s (moving.ComesUp leg cookie) = IsTrue (may_up rules s leg)
IsAccepted rules s event = Unit {0}

abbrev pub AreAccepted : {S : Type 0} → Rules S → Shell S → List moving.Event → Type 0
AreAccepted rules s [] = Unit {0}
AreAccepted rules s (event ∷ events) =
    IsAccepted rules s event × AreAccepted rules (after_event rules s event) events

abbrev pub IsAcceptedAtEnd : {S : Type 0} → Rules S → Shell S → EndEvent → Type 0
IsAcceptedAtEnd rules s (Happens event) = IsAccepted rules s event
IsAcceptedAtEnd rules s act = Unit {0}

abbrev pub AreAcceptedAtEnd : {S : Type 0} → Rules S → Acts S → Shell S → List EndEvent → Type 0
AreAcceptedAtEnd rules acts s [] = Unit {0}
AreAcceptedAtEnd rules acts s (event ∷ events) =
    IsAcceptedAtEnd rules s event
    × AreAcceptedAtEnd rules acts (after_end_event rules acts s event) events

-- whatever happens at a node that was this at first: a leg that it asks for may come up, and one
-- that came up may not come up again
pub record ComesUpOnce {S : Type 0} (rules : Rules S) (first : Shell S) : Type 0 where
  pub wanted : (events : List moving.Event) (leg : Leg) → AreAccepted rules first events
      → wants rules (after_events rules first events) leg ≡ true
      → may_up rules (after_events rules first events) leg ≡ true
  pub once : (events : List moving.Event) (leg : Leg) → AreAccepted rules first events
      → came_up leg events ≡ true
      → may_up rules (after_events rules first events) leg ≡ false

pub record ComesUpOnceAtEnd {S : Type 0} (rules : Rules S) (acts : Acts S) (first : Shell S)
    : Type 0 where
  pub wanted : (events : List EndEvent) (leg : Leg) → AreAcceptedAtEnd rules acts first events
      → wants rules (after_end_events rules acts first events) leg ≡ true
      → may_up rules (after_end_events rules acts first events) leg ≡ true
  pub once : (events : List EndEvent) (leg : Leg) → AreAcceptedAtEnd rules acts first events
      → came_up leg (happened events) ≡ true
      → may_up rules (after_end_events rules acts first events) leg ≡ false

-- how a role sees to that: it knows the legs that were up, and keeps them so
pub record RemembersLegs {S : Type 0} (rules : Rules S) (first : Shell S) : Type 0 where
  pub comes : (events : List moving.Event) (leg : Leg) (cookie : Cookie)
      → may_up rules (after_events rules first events) leg ≡ true
      → rules.was_up (after_event rules (after_events rules first events)
      (moving.ComesUp leg cookie)).role leg ≡ true
  pub stays : (events later : List moving.Event) (leg : Leg)
      → rules.was_up (after_events rules first events).role leg ≡ true
      → rules.was_up (after_events rules (after_events rules first events) later).role leg ≡ true
  pub once : (events : List moving.Event) (leg : Leg)
      → rules.was_up (after_events rules first events).role leg ≡ true
      → rules.may_up (after_events rules first events).role leg ≡ false
  pub wanted : (role : S) (leg : Leg) → rules.wants role leg ≡ true
      → rules.may_up role leg ≡ true

pub record RemembersLegsAtEnd {S : Type 0} (rules : Rules S) (acts : Acts S) (first : Shell S)
    : Type 0 where
  pub comes : (events : List EndEvent) (leg : Leg) (cookie : Cookie)
      → may_up rules (after_end_events rules acts first events) leg ≡ true
      → rules.was_up (after_event rules (after_end_events rules acts first events)
      (moving.ComesUp leg cookie)).role leg ≡ true
  pub stays : (events later : List EndEvent) (leg : Leg)
      → rules.was_up (after_end_events rules acts first events).role leg ≡ true
      → rules.was_up (after_end_events rules acts (after_end_events rules acts first events)
      later).role leg ≡ true
  pub once : (events : List EndEvent) (leg : Leg)
      → rules.was_up (after_end_events rules acts first events).role leg ≡ true
      → rules.may_up (after_end_events rules acts first events).role leg ≡ false
  pub wanted : (role : S) (leg : Leg) → rules.wants role leg ≡ true
      → rules.may_up role leg ≡ true

abbrev pub is_of_client : LegKind → Bool
is_of_client ClientOut = true
is_of_client OutServer = false
is_of_client ClientIn = true
is_of_client InServer = false

-- at all nodes; and only legs of the client come up there
pub record LegsComeUpOnce {K C S I O : Type 0} (r : Rulebook C S I O) (m : Makers K I O)
    (d : Deeds C S) (first : Company C S I O) (cast : K) : Type 0 where
  pub client : ComesUpOnceAtEnd r.client d.client first.client
  pub server : ComesUpOnceAtEnd r.server d.server first.server
  pub ins : (n : ℕ) → ComesUpOnce r.in_proxy (m.in_proxy cast n)
  pub outs : (n : ℕ) → ComesUpOnce r.out_proxy (m.out_proxy cast n)
  pub own : (events : List EndEvent) (leg : Leg)
      → AreAcceptedAtEnd r.client d.client first.client events
      → may_up r.client (after_end_events r.client d.client first.client events) leg ≡ true
      → is_of_client leg.kind ≡ true

-- ---- all of it

pub record AllAccepted {K C S I O : Type 0} (r : Rulebook C S I O) (m : Makers K I O)
    (d : Deeds C S) (first : Company C S I O) (cast : K) (h : History) : Type 0 where
  pub client : AreAcceptedAtEnd r.client d.client first.client h.client
  pub server : AreAcceptedAtEnd r.server d.server first.server h.server
  pub ins : (n : ℕ) → AreAccepted r.in_proxy (m.in_proxy cast n) (h.ins n)
  pub outs : (n : ℕ) → AreAccepted r.out_proxy (m.out_proxy cast n) (h.outs n)

-- nodes are what their histories made of them, their legs came up where they might, and are carried
pub record IsTraced {K C S I O : Type 0} (r : Rulebook C S I O) (m : Makers K I O)
    (d : Deeds C S) (first : Company C S I O) (w : World K C S I O) (h : History)
    : Type 0 where
  pub runs : AreRuns r m d first w h
  pub accepted : AllAccepted r m d first w.cast h
  pub carried : AreCarried (ledger r m d first w.cast h) w.legs w.readers
  pub heard : AreHeard w h
  -- proxies have the numbers from 1
  pub zero : in_place w.company 0 ≡ Absent
