-- what happened at each node (profile)
use Rattle.std.specs.Prelude.{◌≡◌, ◌++◌, ◌&&◌, ℕ, List, [], ◌∷◌, false, if◌then◌else◌, get_or, map}
use Rattle.rh_text.specs.declared.ends.Side.{Side}
use Rattle.rh_text.specs.declared.ends.Side.TheVariants as side
use Rattle.rh_line.specs.declared.leg.Leg.{Leg}
use Rattle.rh_line.specs.declared.leg.LegKind.TheVariants.{ClientIn, ClientOut}
use Rattle.rh_record.specs.declared.answer.Who.{Who}
use Rattle.rh_record.specs.declared.answer.Who.TheVariants as who
use Rattle.rh_shell.specs.Rules.{Rules}
use Rattle.rh_shell.specs.Shells.{Shell, same_leg}
use Rattle.rh_wires.specs.Legs as legs
use Rattle.rh_wires.specs.Wires.{sender, receiver}
use Rattle.rh_company.specs.declared.event.Event.{Event}
use Rattle.rh_company.specs.declared.event.Event.TheVariants.{Comes, Ends, Breaks, Passes}
use Rattle.rh_company.specs.declared.place.Place.{Place}
use Rattle.rh_company.specs.declared.place.Place.TheVariants.{Absent, Here, Gone}
use Rattle.rh_company.specs.Company.{Company, Rulebook}
use Rattle.rh_company.specs.Places.{is_working}
use Rattle.rh_nodes.specs.Giving.{Deeds}
use Rattle.rh_nodes.specs.Halves.{is_same}
use Rattle.rh_nodes.specs.Opening.{Makers, reader_before}
use Rattle.rh_nodes.specs.Settling.{leg_at}
use Rattle.rh_nodes.specs.World.{World, at}
use Rattle.law_moves.specs.Moving as moving
use Rattle.law_moves.specs.Moving.{EndEvent, Happens, IsGiven, IsTaken, IsClosed, IsRecycled, after_events, after_end_events}
use Rattle.law_node_history.specs.Changes.{Change, IsTold, IsFed, IsDrawn, GoesUp, RaisesAlone, OpensIn, OpensOut, OpensSame, Gives, Takes, Closes, RecyclesIn, RecyclesOut, changed}

-- what happened at the two ends, and at the proxies by their numbers; and the bytes that were fed
-- to each on each leg
pub record History : Type 0 where
  pub client : List EndEvent
  pub server : List EndEvent
  pub ins : ℕ → List moving.Event
  pub outs : ℕ → List moving.Event
  pub fed : Who → Leg → List ℕ

abbrev pub nothing : History
nothing =
    record { client = []; server = []; ins = λ n. []; outs = λ n. []; fed = λ node leg. [] }

-- ---- what a change is to a node

abbrev pub heard : Event → moving.Event
heard (Comes leg piece) = moving.Hears leg piece
heard (Ends leg) = moving.Ends leg
heard (Breaks leg) = moving.Breaks leg
heard (Passes now) = moving.Ticks now

-- what happens at one node is nothing to another
abbrev pub to_node : Who → Who → moving.Event → List moving.Event
to_node one other event = if is_same one other then event ∷ [] else []

-- what is told to a node that is there
abbrev pub told_to : {K C S I O : Type 0} → World K C S I O → Change → Who → List moving.Event
told_to w (IsTold node event) other = to_node node other (heard event)
told_to w (IsFed leg dir count) other =
    to_node (at w leg (receiver dir)) other
    (moving.Hears leg (legs.take_out leg dir count w.legs).1)
told_to w (IsDrawn leg dir count) other =
    to_node (at w leg (sender dir)) other (moving.Draws leg count)
told_to w (GoesUp node leg end cookie) other = to_node node other (moving.ComesUp leg cookie)
told_to w (RaisesAlone node leg end cookie) other =
    to_node node other (moving.ComesUp leg cookie)
told_to w (OpensIn number cookie) other =
    to_node who.Client other (moving.ComesUp (leg_at ClientIn number) cookie)
told_to w (OpensOut number cookie) other =
    to_node who.Client other (moving.ComesUp (leg_at ClientOut number) cookie)
told_to w (OpensSame number cookie) other =
    to_node who.Client other (moving.ComesUp (leg_at ClientIn number) cookie)
    ++ to_node (who.In (reader_before w number)) other
    (moving.ComesUp (leg_at ClientIn number) cookie)
told_to w change other = []

-- a proxy that is made is told the moment
abbrev pub made_by : {K C S I O : Type 0} → World K C S I O → Change → Who → List moving.Event
made_by w (OpensIn number cookie) other = to_node (who.In number) other (moving.Ticks w.now)
made_by w (OpensOut number cookie) other = to_node (who.Out number) other (moving.Ticks w.now)
made_by w change other = []

-- of the place of a proxy: it is not there, it is, or it was let go
abbrev pub at_place : {S : Type 0} → Place S → List moving.Event → List moving.Event
    → List moving.Event
at_place Absent told made = made
at_place (Here node legs) told made = told
at_place (Gone now) told made = []

-- the acts of an end
abbrev pub act_at : Side → Side → EndEvent → List EndEvent
act_at side.Client side.Client act = act ∷ []
act_at side.Server side.Server act = act ∷ []
act_at one other act = []

abbrev pub acts_by : Change → Side → List EndEvent
acts_by (Gives end pdu) other = act_at end other (IsGiven pdu)
acts_by (Takes end) other = act_at end other IsTaken
acts_by (Closes end) other = act_at end other IsClosed
acts_by RecyclesIn other = act_at side.Client other IsRecycled
acts_by RecyclesOut other = act_at side.Server other IsRecycled
acts_by change other = []

-- what is fed to a node on a leg
abbrev pub fed_by : {K C S I O : Type 0} → World K C S I O → Change → Who → Leg → List ℕ
fed_by w (IsFed leg dir count) other beside =
    if same_leg leg beside && is_same (at w leg (receiver dir)) other
    then (legs.take_out leg dir count w.legs).1 else []
fed_by w change other beside = []

-- ---- histories

abbrev pub in_place : {C S I O : Type 0} → Company C S I O → ℕ → Place I
in_place c number = get_or c.ins number Absent

abbrev pub out_place : {C S I O : Type 0} → Company C S I O → ℕ → Place O
out_place c number = get_or c.outs number Absent

abbrev pub noted : {K C S I O : Type 0} → World K C S I O → History → Change → History
noted w h change = record {
  client = h.client ++ (map Happens (told_to w change who.Client) ++ acts_by change side.Client);
  server = h.server ++ (map Happens (told_to w change who.Server) ++ acts_by change side.Server);
  ins = λ n. h.ins n
      ++ at_place (in_place w.company n) (told_to w change (who.In n))
      (made_by w change (who.In n));
  outs = λ n. h.outs n
      ++ at_place (out_place w.company n) (told_to w change (who.Out n))
      (made_by w change (who.Out n));
  fed = λ node leg. h.fed node leg ++ fed_by w change node leg;
}

abbrev pub all_noted : {K C S I O : Type 0} → Rulebook C S I O → Makers K I O → Deeds C S
    → World K C S I O → History → List Change → History
all_noted r m d w h [] = h
all_noted r m d w h (change ∷ changes) =
    all_noted r m d (changed r m d w change) (noted w h change) changes

-- ---- nodes are what their histories made of them

-- a proxy that was let go had come to its end, and this was its last moment
pub record WasLetGo {S : Type 0} (rules : Rules S) (node : Shell S) (now : ℕ) : Type 0 where
  pub moment : node.now ≡ now
  pub stopped : is_working rules node ≡ false

-- nothing happened where no proxy was made; one that is there is what its events made of it
abbrev pub IsRun : {S : Type 0} → Rules S → Shell S → List moving.Event → Place S → Type 0
IsRun rules made events Absent = events ≡ []
IsRun rules made events (Here node legs) = node ≡ after_events rules made events
IsRun rules made events (Gone now) = WasLetGo rules (after_events rules made events) now

-- the ends from what they were at first, the proxies from what they were made
pub record AreRuns {K C S I O : Type 0} (r : Rulebook C S I O) (m : Makers K I O) (d : Deeds C S)
    (first : Company C S I O) (w : World K C S I O) (h : History) : Type 0 where
  pub client : w.company.client ≡ after_end_events r.client d.client first.client h.client
  pub server : w.company.server ≡ after_end_events r.server d.server first.server h.server
  pub ins : (n : ℕ) → IsRun r.in_proxy (m.in_proxy w.cast n) (h.ins n) (in_place w.company n)
  pub outs : (n : ℕ)
      → IsRun r.out_proxy (m.out_proxy w.cast n) (h.outs n) (out_place w.company n)

-- a world in which no proxy was made yet and no leg was up, as each recording begins
pub record IsNew {K C S I O : Type 0} (w : World K C S I O) : Type 0 where
  pub ins : w.company.ins ≡ []
  pub outs : w.company.outs ≡ []
  pub low : w.legs ≡ legs.none
  pub unread : w.readers ≡ []
