-- the moments of a run at which the events of its report stand (profile)
use Rattle.std.specs.Prelude.{◌≡◌, ◌++◌, ℕ, List, [], ◌∷◌}
use Rattle.rh_text.specs.declared.ends.Side.{Side}
use Rattle.rh_text.specs.declared.ends.Side.TheVariants.{Client, Server}
use Rattle.rh_line.specs.declared.cause.Cause.{Cause}
use Rattle.rh_line.specs.declared.state.Take.{Take}
use Rattle.rh_line.specs.declared.state.Take.TheVariants as takes
use Rattle.rh_record.specs.declared.answer.Who.{Who}
use Rattle.rh_record.specs.declared.answer.Who.TheVariants as who
use Rattle.rh_record.specs.Events.Events.{Event, Gives, Refuses, Takes, Ends, Closes, Stops, Silent, given, of_end, taken}
use Rattle.rh_shell.specs.Ends.{take_answer}
use Rattle.rh_company.specs.Company.{Company, Rulebook}
use Rattle.rh_nodes.specs.Giving.{Deeds}
use Rattle.rh_nodes.specs.Opening.{Makers}
use Rattle.rh_nodes.specs.World.{World}
use Rattle.law_moves.specs.Moving.{EndEvent, Happens, IsGiven, IsTaken, IsClosed, IsRecycled}
use Rattle.law_node_history.specs.Changes as changes
use Rattle.law_node_history.specs.Changes.{Change, ByLines}
use Rattle.law_node_history.specs.Closes.{HasClosed}
use Rattle.law_node_history.specs.Histories.{History, all_noted, nothing}
use Rattle.law_node_streams.specs.Streams.{all_given, all_taken}

abbrev pub node_of : Side → Who
node_of Client = who.Client
node_of Server = who.Server

-- what a take at an end would be answered
abbrev pub next_take : {K C S I O : Type 0} → Deeds C S → World K C S I O → Side → Take
next_take d w Client = take_answer d.client w.company.client
next_take d w Server = take_answer d.server w.company.server

-- ---- by the history of an end

abbrev pub end_events : History → Side → List EndEvent
end_events h Client = h.client
end_events h Server = h.server

-- the PDUs that it accepted, and those that were taken there
abbrev pub end_given : {C S I O : Type 0} → Rulebook C S I O → Deeds C S → Company C S I O
    → History → Side → List (List ℕ)
end_given r d first h Client = all_given r.client d.client first.client h.client
end_given r d first h Server = all_given r.server d.server first.server h.server

abbrev pub end_taken : {C S I O : Type 0} → Rulebook C S I O → Deeds C S → Company C S I O
    → History → Side → List (List ℕ)
end_taken r d first h Client = all_taken r.client d.client first.client h.client
end_taken r d first h Server = all_taken r.server d.server first.server h.server

-- and, as a list of empty PDUs, how often it was told to give no more
abbrev pub all_stopped : List EndEvent → List (List ℕ)
all_stopped [] = []
all_stopped (IsClosed ∷ events) = [] ∷ all_stopped events
all_stopped (Happens event ∷ events) = all_stopped events
all_stopped (IsGiven pdu ∷ events) = all_stopped events
all_stopped (IsTaken ∷ events) = all_stopped events
all_stopped (IsRecycled ∷ events) = all_stopped events

abbrev pub end_stopped : History → Side → List (List ℕ)
end_stopped h Client = all_stopped h.client
end_stopped h Server = all_stopped h.server

-- how often a report tells so
abbrev pub stopped : Side → List Event → List (List ℕ)
stopped end [] = []
stopped end (Stops side ∷ events) = of_end end side [] ++ stopped end events
stopped end (Gives side ∷ events) = stopped end events
stopped end (Refuses side ∷ events) = stopped end events
stopped end (Takes side pdu ∷ events) = stopped end events
stopped end (Ends side ∷ events) = stopped end events
stopped end (Closes side ∷ events) = stopped end events
stopped end (Silent ∷ events) = stopped end events

-- these events of a report, where these PDUs were offered, tell what the history says
pub record Agrees {C S I O : Type 0} (r : Rulebook C S I O) (d : Deeds C S)
    (first : Company C S I O) (h : History) (pdus : List (List ℕ)) (told : List Event)
    : Type 0 where
  pub gives : (end : Side) → given end pdus told ≡ end_given r d first h end
  pub takes : (end : Side) → taken end told ≡ end_taken r d first h end
  pub stops : (end : Side) → stopped end told ≡ end_stopped h end

-- ---- what an event tells

-- of the world before it, and of the changes that come then: an end is told that no more comes
-- where it takes, a node that is told to have closed has, and an end that is told to give no more
-- is at once
abbrev pub Tells : {K C S I O : Type 0} → Rulebook C S I O → Makers K I O → Deeds C S
    → World K C S I O → List Change → Event → Type 0
Tells r m d v later (Ends end) = next_take d v end ≡ takes.Ended
Tells r m d v later (Closes end) = (why : Cause) × HasClosed v.company (node_of end) why
Tells r m d v later (Stops end) = (rest : List Change) × (later ≡ changes.Closes end ∷ rest)
Tells r m d v later event = Unit {0}

abbrev pub TellsNext : {K C S I O : Type 0} → Rulebook C S I O → Makers K I O → Deeds C S
    → World K C S I O → List Change → List Event → Type 0
TellsNext r m d v later [] = Unit {0}
TellsNext r m d v later (event ∷ events) = Tells r m d v later event

-- the moment of a run of lines from w that lies between the events in front and those behind
pub record Moment {K C S I O : Type 0} (r : Rulebook C S I O) (m : Makers K I O) (d : Deeds C S)
    (w : World K C S I O) (pdus : List (List ℕ)) (front behind : List Event) : Type 0 where
  -- the world at that moment, and in the end
  pub v : World K C S I O
  pub u : World K C S I O
  pub before : ByLines r m d w v
  pub after : ByLines r m d v u
  -- at both what was told until then is what the history says
  pub here : Agrees r d w.company (all_noted r m d w nothing before.leads.changes) pdus front
  pub whole : Agrees r d w.company
      (all_noted r m d v (all_noted r m d w nothing before.leads.changes) after.leads.changes) pdus
      (front ++ behind)
  -- and what the first event behind tells
  pub next : TellsNext r m d v after.leads.changes behind

-- the history until that moment, and in the end
abbrev pub until : {K C S I O : Type 0} {r : Rulebook C S I O} {m : Makers K I O} {d : Deeds C S}
    {w : World K C S I O} {pdus : List (List ℕ)} {front behind : List Event}
    → Moment r m d w pdus front behind → History
until {K} {C} {S} {I} {O} {r} {m} {d} {w} {pdus} {front} {behind} moment =
    all_noted r m d w nothing moment.before.leads.changes

abbrev pub in_the_end : {K C S I O : Type 0} {r : Rulebook C S I O} {m : Makers K I O}
    {d : Deeds C S} {w : World K C S I O} {pdus : List (List ℕ)} {front behind : List Event}
    → Moment r m d w pdus front behind → History
in_the_end {K} {C} {S} {I} {O} {r} {m} {d} {w} {pdus} {front} {behind} moment =
    all_noted r m d moment.v (until moment) moment.after.leads.changes

-- ---- what passes an end no more

-- through these changes an end gives and takes nothing
pub record StandsStill {K C S I O : Type 0} (r : Rulebook C S I O) (m : Makers K I O)
    (d : Deeds C S) (first : Company C S I O) (v : World K C S I O) (h : History)
    (later : List Change) (end : Side) : Type 0 where
  pub gives : end_given r d first (all_noted r m d v h later) end ≡ end_given r d first h end
  pub takes : end_taken r d first (all_noted r m d v h later) end ≡ end_taken r d first h end

-- this, and then more
abbrev pub GoesOn : List EndEvent → List EndEvent → Type 0
GoesOn events before = (more : List EndEvent) × (events ≡ before ++ more)
