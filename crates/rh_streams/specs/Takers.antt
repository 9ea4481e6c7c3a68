-- what the taker of an end does (profile)
use Rattle.std.specs.Prelude.{◌≡◌, ◌≢◌, ℕ, ◌≤◌, ◌++◌, List, [], take, length}
use Rattle.std.specs.declared.option.Option.{Option}
use Rattle.std.specs.Io.KnownBytes.{Appends}
use Rattle.rh_turn.specs.Values.{SeatValue}
use Rattle.rh_machines.specs.declared.event.NodeEvent.{NodeEvent}
use Rattle.rh_machines.specs.declared.event.NodeEvent.TheVariants as event
use Rattle.rh_machines.specs.declared.event.NodeReply.{NodeReply}
use Rattle.rh_machines.specs.declared.event.NodeReply.TheVariants as reply
use Rattle.rh_runs.specs.Runs.{Ran}
use Rattle.rh_legs.specs.Legs.{Calls, joined, AllAre}
use Rattle.rh_legs.specs.declared.end.NodeEnd.{NodeEnd}
use Rattle.rh_legs.specs.declared.end.NodeEnd.TheVariants.{Ended, Closed, WriteFault}

-- a taker takes, and does nothing else
abbrev pub IsTakers : NodeEvent → Type 0
IsTakers (event.Take room) = Unit {0}
IsTakers other = ⊥

-- the PDU of a take, no bytes where none was there
abbrev pub taken_at : NodeEvent → NodeReply → List ℕ
taken_at (event.Take room) (reply.Taken answer block) = block
taken_at e r = []

-- the PDUs of all takes, joined
abbrev pub all_taken : Calls → List ℕ
all_taken calls = joined taken_at calls

-- how a taker ends
abbrev pub IsTakersEnd : NodeEnd → Type 0
IsTakersEnd Ended = Unit {0}
IsTakersEnd (Closed cause) = Unit {0}
IsTakersEnd WriteFault = Unit {0}
IsTakersEnd other = ⊥

-- some takes, whose PDUs stand behind the bytes that were held before
abbrev pub TookInto : {S : Type 0} → (S → NodeEvent → S) → (S → NodeEvent → NodeReply) → S
    → SeatValue NodeEvent → SeatValue NodeEvent → List ℕ → List ℕ → Type 0
TookInto next reply_to first old now before held = (calls : Calls)
    × Ran next reply_to first old now calls
    × AllAre IsTakers calls
    × (held ≡ before ++ all_taken calls)

-- The PDUs of the takes, joined, are what was written to the output. Where the output failed they
-- begin with it.
pub record Takes {S : Type 0} (next : S → NodeEvent → S) (reply_to : S → NodeEvent → NodeReply)
    (first : S) (old now : SeatValue NodeEvent) (before after : Option (List ℕ)) (end : NodeEnd)
    (calls : Calls) : Type 0 where
  pub ran : Ran next reply_to first old now calls
  pub own : AllAre IsTakers calls
  pub front : (k : ℕ) × (k ≤ length (all_taken calls))
      × Appends before after (take k (all_taken calls))
  pub whole : end ≢ WriteFault → Appends before after (all_taken calls)
