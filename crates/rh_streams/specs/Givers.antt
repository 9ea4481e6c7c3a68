-- what the giver of an end does (profile)
use Rattle.std.specs.Prelude.{◌≡◌, ◌⊎◌, ℕ, List, [], ◌∷◌, ◌++◌, Ok}
use Rattle.std.specs.List.{concat, AllByRecursion}
use Rattle.rh_turn.specs.Values.{SeatValue}
use Rattle.rh_pdu.specs.Frames.{IsPdu}
use Rattle.rh_machines.specs.declared.event.NodeEvent.{NodeEvent}
use Rattle.rh_machines.specs.declared.event.NodeEvent.TheVariants as event
use Rattle.rh_machines.specs.declared.event.NodeReply.{NodeReply}
use Rattle.rh_machines.specs.declared.event.NodeReply.TheVariants as reply
use Rattle.rh_runs.specs.Runs.{Ran}
use Rattle.rh_legs.specs.Legs.{Calls, joined, AllAre}
use Rattle.rh_legs.specs.declared.end.NodeEnd.{NodeEnd}
use Rattle.rh_legs.specs.declared.end.NodeEnd.TheVariants.{Ended, BadInput, ReadFault}

-- a giver gives, asks for the state, and says that no PDU comes any more
abbrev pub IsGivers : NodeEvent → Type 0
IsGivers (event.Give pdu) = Unit {0}
IsGivers event.State = Unit {0}
IsGivers event.Close = Unit {0}
IsGivers other = ⊥

-- the PDU, where it was given
abbrev pub given_at : NodeEvent → NodeReply → List (List ℕ)
given_at (event.Give pdu) (reply.Given (Ok done) block) = pdu ∷ []
given_at e r = []

-- all PDUs that were given
abbrev pub all_given : Calls → List (List ℕ)
all_given calls = joined given_at calls

-- it says that no PDU comes any more
abbrev pub closing_at : NodeEvent → NodeReply → List NodeEvent
closing_at event.Close r = event.Close ∷ []
closing_at e r = []

abbrev pub closings : Calls → List NodeEvent
closings calls = joined closing_at calls

-- how a giver ends
abbrev pub IsGiversEnd : NodeEnd → Type 0
IsGiversEnd Ended = Unit {0}
IsGiversEnd (BadInput place) = Unit {0}
IsGiversEnd ReadFault = Unit {0}
IsGiversEnd other = ⊥

-- these PDUs were given, and it was not said that no further one comes
pub record Giving {S : Type 0} (next : S → NodeEvent → S) (reply_to : S → NodeEvent → NodeReply)
    (first : S) (old now : SeatValue NodeEvent) (given : List (List ℕ)) (calls : Calls) : Type 0 where
  pub ran : Ran next reply_to first old now calls
  pub own : AllAre IsGivers calls
  pub given_are : all_given calls ≡ given
  pub unclosed : closings calls ≡ []

module _ {S : Type 0} (next : S → NodeEvent → S) (reply_to : S → NodeEvent → NodeReply) (first : S)
  where
    -- by some calls
    abbrev pub GivesOn : SeatValue NodeEvent → SeatValue NodeEvent → List (List ℕ) → Type 0
    GivesOn old now given = (calls : Calls) × Giving next reply_to first old now given calls

    -- the PDUs that were given are the first ones of these bytes, and this is the rest
    abbrev pub GaveOf : SeatValue NodeEvent → SeatValue NodeEvent → List ℕ → List ℕ → Type 0
    GaveOf old now came rest = (given : List (List ℕ)) × GivesOn old now given
        × AllByRecursion IsPdu given × (came ≡ concat given ++ rest)

-- The PDUs that were given are the first ones of the bytes that came, in order. All of these bytes
-- are given where it was said that no PDU comes any more.
pub record Gives {S : Type 0} (next : S → NodeEvent → S) (reply_to : S → NodeEvent → NodeReply)
    (first : S) (old now : SeatValue NodeEvent) (came : List ℕ) (calls : Calls) : Type 0 where
  pub ran : Ran next reply_to first old now calls
  pub own : AllAre IsGivers calls
  pub rest : List ℕ
  pub begins : came ≡ concat (all_given calls) ++ rest
  pub pdus : AllByRecursion IsPdu (all_given calls)
  pub whole : (closings calls ≡ []) ⊎ (rest ≡ [])
