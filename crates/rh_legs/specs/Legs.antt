-- what a reader and a writer do on a leg (profile)
use Rattle.std.specs.Prelude.{◌≡◌, ◌≢◌, ℕ, ◌≤◌, ◌||◌, ◌++◌, Bool, true, false, if◌then◌else◌, List, [], ◌∷◌, take, length}
use Rattle.std.specs.declared.option.Option.{Option}
use Rattle.std.specs.Io.KnownBytes.{Appends}
use Rattle.rh_line.specs.declared.leg.Leg.{Leg}
use Rattle.rh_line.specs.declared.state.Verdict.{Verdict}
use Rattle.rh_line.specs.declared.state.Verdict.TheVariants as verdict
use Rattle.rh_turn.specs.Values.{SeatValue}
use Rattle.rh_machines.specs.declared.event.NodeEvent.{NodeEvent}
use Rattle.rh_machines.specs.declared.event.NodeEvent.TheVariants as event
use Rattle.rh_machines.specs.declared.event.NodeReply.{NodeReply}
use Rattle.rh_machines.specs.declared.event.NodeReply.TheVariants as reply
use Rattle.rh_legs.specs.declared.end.LegEnd.{LegEnd}
use Rattle.rh_legs.specs.declared.end.LegEnd.TheVariants.{Finished, Ended, Failed, Stopped}
use Rattle.rh_runs.specs.Runs.{Ran}

-- ---- calls

-- events, each with its reply, the first one first
abbrev pub Calls : Type 0
Calls = List (NodeEvent × NodeReply)

-- what calls tell, joined
abbrev pub joined : {A : Type 0} → (NodeEvent → NodeReply → List A) → Calls → List A
joined told [] = []
joined told (call ∷ calls) = told call.0 call.1 ++ joined told calls

-- all events are such
abbrev pub AllAre : (NodeEvent → Type 0) → Calls → Type 0
AllAre such [] = Unit {0}
AllAre such (call ∷ calls) = such call.0 × AllAre such calls

abbrev pub EndsWith : NodeEvent → NodeReply → Calls → Type 0
EndsWith e r calls = (front : Calls) × (calls ≡ front ++ (e, r) ∷ [])

-- ---- that a leg is lost

-- the event, where it tells of a lost leg
abbrev pub loss : NodeEvent → NodeReply → List NodeEvent
loss (event.Ended leg) r = event.Ended leg ∷ []
loss (event.Broken leg) r = event.Broken leg ∷ []
loss other r = []

abbrev pub losses : Calls → List NodeEvent
losses calls = joined loss calls

-- the machine is told of a leg that ended or failed, once, and of no other
abbrev pub told_at : Leg → LegEnd → List NodeEvent
told_at leg Finished = []
told_at leg Ended = event.Ended leg ∷ []
told_at leg Failed = event.Broken leg ∷ []
told_at leg Stopped = []

-- the last call tells it; that a leg is finished, the machine tells
abbrev pub LastTells : Leg → LegEnd → Calls → Type 0
LastTells leg Finished calls = EndsWith (event.Finished leg) (reply.Told true) calls
LastTells leg Ended calls = (r : NodeReply) × EndsWith (event.Ended leg) r calls
LastTells leg Failed calls = (r : NodeReply) × EndsWith (event.Broken leg) r calls
LastTells leg Stopped calls = Unit {0}

-- ---- readers

-- an event of a reader of the leg
abbrev pub IsReaders : Leg → NodeEvent → Type 0
IsReaders leg (event.Bytes l piece) = l ≡ leg
IsReaders leg (event.Ended l) = l ≡ leg
IsReaders leg (event.Broken l) = l ≡ leg
IsReaders leg (event.Finished l) = l ≡ leg
IsReaders leg other = ⊥

-- the bytes that an event feeds
abbrev pub fed : NodeEvent → NodeReply → List ℕ
fed (event.Bytes leg piece) r = piece
fed other r = []

abbrev pub all_fed : Calls → List ℕ
all_fed calls = joined fed calls

abbrev pub is_over : Verdict → Bool
is_over verdict.Going = false
is_over verdict.Ended = true
is_over (verdict.Closed why) = true

-- the reply says that the node goes on no more, or has no use for the leg
abbrev pub has_no_use : NodeReply → Bool
has_no_use (reply.Fed v finished piece) = is_over v || finished
has_no_use other = false

-- a piece is late where it leaves the node with no use for the leg
abbrev pub late : NodeEvent → NodeReply → List (List ℕ)
late (event.Bytes leg piece) r = if has_no_use r then piece ∷ [] else []
late other r = []

abbrev pub late_pieces : Calls → List (List ℕ)
late_pieces calls = joined late calls

module _ {S : Type 0} (next : S → NodeEvent → S) (reply_to : S → NodeEvent → NodeReply) (first : S)
    (leg : Leg) where
  -- A reader's calls: what the source gave was fed, each byte once and in order; of losses these
  -- were told; and so many pieces were late.
  pub record IsReading (old now : SeatValue NodeEvent) (taken_old taken_now : Option (List ℕ))
      (lost : List NodeEvent) (count : ℕ) (calls : Calls) : Type 0 where
    pub ran : Ran next reply_to first old now calls
    pub own : AllAre (IsReaders leg) calls
    pub bytes : Appends taken_old taken_now (all_fed calls)
    pub told : losses calls ≡ lost
    pub late_are : length (late_pieces calls) ≡ count

  -- A leg was read until it ended so. At most 256 pieces were late, and where reading was stopped
  -- they were as many.
  pub record IsRead (old now : SeatValue NodeEvent) (taken_old taken_now : Option (List ℕ))
      (end : LegEnd) (calls : Calls) : Type 0 where
    pub ran : Ran next reply_to first old now calls
    pub own : AllAre (IsReaders leg) calls
    pub bytes : Appends taken_old taken_now (all_fed calls)
    pub told : losses calls ≡ told_at leg end
    pub last : LastTells leg end calls
    pub few : length (late_pieces calls) ≤ 256
    pub stopped : end ≡ Stopped → length (late_pieces calls) ≡ 256

-- ---- writers

-- an event of a writer of the leg
abbrev pub IsWriters : Leg → NodeEvent → Type 0
IsWriters leg (event.Draw l room) = l ≡ leg
IsWriters leg (event.Broken l) = l ≡ leg
IsWriters leg (event.Finished l) = l ≡ leg
IsWriters leg other = ⊥

abbrev pub drawn : NodeReply → List ℕ
drawn (reply.Drawn piece) = piece
drawn other = []

-- the bytes of the reply to a draw
abbrev pub drawn_at : NodeEvent → NodeReply → List ℕ
drawn_at (event.Draw leg room) r = drawn r
drawn_at other r = []

abbrev pub all_drawn : Calls → List ℕ
all_drawn calls = joined drawn_at calls

module _ {S : Type 0} (next : S → NodeEvent → S) (reply_to : S → NodeEvent → NodeReply) (first : S)
    (leg : Leg) where
  -- a writer's calls: these bytes were drawn, and of losses these were told
  pub record IsDrawing (old now : SeatValue NodeEvent) (bytes : List ℕ) (lost : List NodeEvent)
      (calls : Calls) : Type 0 where
    pub ran : Ran next reply_to first old now calls
    pub own : AllAre (IsWriters leg) calls
    pub bytes_are : all_drawn calls ≡ bytes
    pub told : losses calls ≡ lost

  -- A leg was written until it ended so: what was drawn was written, each byte once and in order;
  -- where the sink failed, a front of it.
  pub record IsWritten (old now : SeatValue NodeEvent) (written_old written_now : Option (List ℕ))
      (end : LegEnd) (calls : Calls) : Type 0 where
    pub ran : Ran next reply_to first old now calls
    pub own : AllAre (IsWriters leg) calls
    pub front : (k : ℕ) × (k ≤ length (all_drawn calls))
        × Appends written_old written_now (take k (all_drawn calls))
    pub whole : end ≢ Failed → Appends written_old written_now (all_drawn calls)
    pub told : losses calls ≡ told_at leg end
    pub last : LastTells leg end calls
