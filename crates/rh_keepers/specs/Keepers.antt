-- what the keeper of a node does (profile)
use Rattle.std.specs.Prelude.{◌≡◌, ◌⊎◌, ℕ, Bool, true, false, List, [], ◌∷◌}
use Rattle.std.specs.declared.option.Option.{Option}
use Rattle.std.specs.declared.sync.Arc.{Arc}
use Rattle.std.specs.Arc.{arc_value}
use Rattle.rh_line.specs.declared.leg.Leg.{Leg}
use Rattle.rh_net.specs.declared.counts.NetCounts.{NetCounts}
use Rattle.rh_rts.specs.declared.command.Cookie.{Cookie}
use Rattle.rh_rts.specs.declared.command.TheConstants.{NO_COOKIE}
use Rattle.rh_turn.specs.Calls.{Acts}
use Rattle.rh_turn.specs.Values.{SeatValue, TurnValue}
use Rattle.rh_machines.specs.declared.event.NodeEvent.{NodeEvent}
use Rattle.rh_machines.specs.declared.event.NodeEvent.TheVariants as event
use Rattle.rh_machines.specs.declared.event.NodeReply.{NodeReply}
use Rattle.rh_machines.specs.declared.event.NodeReply.TheVariants as reply
use Rattle.rh_machines.specs.declared.node.Role.{Role}
use Rattle.rh_machines.specs.declared.node.Role.TheVariants.{Client, InProxy, OutProxy, Server}
use Rattle.rh_runs.specs.Runs.{Ran}
use Rattle.rh_legs.specs.Legs.{Calls, AllAre}
use Rattle.rh_legs.specs.declared.end.NodeEnd.{NodeEnd}
use Rattle.rh_legs.specs.declared.end.NodeEnd.TheVariants as end
use Rattle.rh_actors.specs.Living.{says_live}
use Rattle.rh_keepers.specs.Faults.{WasTold, WasAnswered, NetFails, SourceFails}

-- ---- events

-- why a keeper tells a moment, that a leg is up with this cookie, and that a leg is broken
pub record Causes : Type 1 where
  pub tells : ℕ → Type 0
  pub carries : Leg → Cookie → Type 0
  pub breaks : Leg → Type 0

-- none of these is told
abbrev pub no_causes : Causes
no_causes = record { tells = λ _. ⊥; carries = λ _ _. ⊥; breaks = λ _. ⊥ }

-- a keeper asks whether a leg is wanted, for the state and for the server, and tells these with
-- their cause
abbrev pub IsKeepers : Causes → NodeEvent → Type 0
IsKeepers causes (event.Wants leg) = Unit {0}
IsKeepers causes (event.Up leg cookie) = causes.carries leg cookie
IsKeepers causes (event.Broken leg) = causes.breaks leg
IsKeepers causes (event.Tick now) = causes.tells now
IsKeepers causes event.State = Unit {0}
IsKeepers causes event.Target = Unit {0}
IsKeepers causes other = ⊥

-- some state of the machine wants the leg
abbrev pub IsWanted : {S : Type 0} → (S → NodeEvent → NodeReply) → Leg → Type 0
IsWanted {S} reply_to leg = (state : S) × (reply_to state (event.Wants leg) ≡ reply.Told true)

-- the clock answered each moment that is told; no leg is told
abbrev pub moments : {C : Type 0} → (C → ℕ) → Causes
moments clock = record { tells = WasTold clock; carries = λ _ _. ⊥; breaks = λ _. ⊥ }

module _ {S C N : Type 0} (reply_to : S → NodeEvent → NodeReply) (clock : C → ℕ)
    (counts : N → NetCounts) where
  -- A client tells a leg up that was wanted, with a cookie that its source answered; and a leg
  -- broken that was wanted, where the net failed.
  abbrev pub of_client : {K : Type 0} → (K → Option (List (List ℕ))) → Causes
  of_client answered = record {
    tells = WasTold clock;
    carries = λ leg cookie. IsWanted reply_to leg × WasAnswered answered cookie.0;
    breaks = λ leg. IsWanted reply_to leg × NetFails counts;
  }

  -- The other roles tell a leg up with no cookie; and a leg broken that was wanted, where the net
  -- failed, or whose source failed at its first read.
  abbrev pub of_others : {I : Type 0} → (I → ℕ) → Causes
  of_others faults = record {
    tells = WasTold clock;
    carries = λ leg cookie. cookie ≡ NO_COOKIE;
    breaks = λ leg. (IsWanted reply_to leg × NetFails counts) ⊎ SourceFails faults;
  }

-- why the keeper of a role tells what it tells
abbrev pub of_role : {S C N K I : Type 0} → Role → (S → NodeEvent → NodeReply) → (C → ℕ)
    → (N → NetCounts) → (K → Option (List (List ℕ))) → (I → ℕ) → Causes
of_role Client reply_to clock counts answered faults = of_client reply_to clock counts answered
of_role InProxy reply_to clock counts answered faults = of_others reply_to clock counts faults
of_role OutProxy reply_to clock counts answered faults = of_others reply_to clock counts faults
of_role Server reply_to clock counts answered faults = of_others reply_to clock counts faults

-- ---- ends

-- A keeper ends in order; or the net, its source of cookies or memory failed.
abbrev pub IsKeepersEnd : Type 0 → Type 0 → NodeEnd → Type 0
IsKeepersEnd net cookies end.Ended = Unit {0}
IsKeepersEnd net cookies end.NetFault = net
IsKeepersEnd net cookies end.CookieFault = cookies
IsKeepersEnd net cookies end.NoMemory = Unit {0}
IsKeepersEnd net cookies other = ⊥

-- ---- order

abbrev pub is_up : NodeEvent → Bool
is_up (event.Up leg cookie) = true
is_up other = false

abbrev pub is_tick : NodeEvent → Bool
is_tick (event.Tick now) = true
is_tick other = false

-- each Up stands right behind a Tick: before the first call the moment was told, or not
abbrev pub AreTicked : Bool → Calls → Type 0
AreTicked told [] = Unit {0}
AreTicked told (call ∷ calls) =
    (is_up call.0 ≡ true → told ≡ true) × AreTicked (is_tick call.0) calls

-- ---- keepers

-- what a keeper did from one moment of its seat to another
pub record Keeps {S : Type 0} (next : S → NodeEvent → S) (reply_to : S → NodeEvent → NodeReply)
    (first : S) (causes : Causes) (old now : SeatValue NodeEvent) (calls : Calls) : Type 0 where
  pub ran : Ran next reply_to first old now calls
  pub own : AllAre (IsKeepers causes) calls
  pub ticked : AreTicked false calls

-- the last that was done by a seat was to ask for the state
abbrev pub HasAsked : {S : Type 0} → (S → NodeEvent → S) → (S → NodeEvent → NodeReply) → S
    → SeatValue NodeEvent → Type 0
HasAsked next reply_to first now = (mid : SeatValue NodeEvent) × (answer : NodeReply)
    × Acts next reply_to first event.State answer mid now

module _ {S Z : Type 0} (next : S → NodeEvent → S) (reply_to : S → NodeEvent → NodeReply) where
  -- it did so on one turn
  pub record KeptOn (causes : Causes) (from to : Arc (TurnValue S) Z) (old now : SeatValue NodeEvent)
      : Type 0 where
    pub turn : to ≡ from
    pub calls : Calls
    pub kept : Keeps next reply_to (arc_value from).first causes old now calls

  -- an event was acted
  pub record ActsOn (e : NodeEvent) (from to : Arc (TurnValue S) Z) (old now : SeatValue NodeEvent)
      : Type 0 where
    pub turn : to ≡ from
    pub answer : NodeReply
    pub acts : Acts next reply_to (arc_value from).first e answer old now

  -- It asked for the state; where it is said that the node goes on, the machine answered so.
  pub record AsksLive (live : Bool) (from to : Arc (TurnValue S) Z) (old now : SeatValue NodeEvent)
      : Type 0 where
    pub turn : to ≡ from
    pub answer : NodeReply
    pub acts : Acts next reply_to (arc_value from).first event.State answer old now
    pub so : live ≡ true → says_live answer ≡ true

  -- A moment was told, and right behind it that a leg is up. Where it is said to be up, the machine
  -- answered so.
  pub record TellsUp (moment : ℕ) (leg : Leg) (cookie : Cookie) (up : Bool)
      (from to : Arc (TurnValue S) Z) (old now : SeatValue NodeEvent) : Type 0 where
    pub turn : to ≡ from
    pub mid : SeatValue NodeEvent
    pub first_answer : NodeReply
    pub answer : NodeReply
    pub ticks : Acts next reply_to (arc_value from).first (event.Tick moment) first_answer old mid
    pub ups : Acts next reply_to (arc_value from).first (event.Up leg cookie) answer mid now
    pub so : up ≡ true → answer ≡ reply.Told true

  -- a moment that the clock answered, and that a leg is up
  pub record BringsUp {C : Type 0} (clock : C → ℕ) (leg : Leg) (cookie : Cookie) (up : Bool)
      (from to : Arc (TurnValue S) Z) (old now : SeatValue NodeEvent) : Type 0 where
    pub moment : ℕ
    pub told : WasTold clock moment
    pub ups : TellsUp moment leg cookie up from to old now

  -- the leg came, and was told up; or the net failed, and it was told broken
  abbrev pub Connects : {C : Type 0} → (C → ℕ) → Type 0 → Leg → Cookie → NodeEnd
      → Arc (TurnValue S) Z → Arc (TurnValue S) Z
      → SeatValue NodeEvent → SeatValue NodeEvent → Type 0
  Connects clock net leg cookie reached from to old now =
      ((reached ≡ end.Ended) × ((up : Bool) × BringsUp clock leg cookie up from to old now))
      ⊎ ((reached ≡ end.NetFault) × net × ActsOn (event.Broken leg) from to old now)
