-- what the two jobs of a slot do (profile)
use Rattle.std.specs.Prelude.{◌≡◌, ◌≢◌, ◌⊎◌, ℕ, List, [], ◌∷◌}
use Rattle.std.specs.declared.option.Option.{Option}
use Rattle.rh_io.specs.Counts.{Rose}
use Rattle.rh_line.specs.declared.leg.Leg.{Leg}
use Rattle.rh_turn.specs.Calls.{Acts}
use Rattle.rh_turn.specs.Values.{SeatValue}
use Rattle.rh_machines.specs.declared.event.NodeEvent.{NodeEvent}
use Rattle.rh_machines.specs.declared.event.NodeEvent.TheVariants as event
use Rattle.rh_machines.specs.declared.event.NodeReply.{NodeReply}
use Rattle.rh_legs.specs.Legs.{Calls, IsRead, IsWritten}
use Rattle.rh_legs.specs.declared.end.LegEnd.{LegEnd}
use Rattle.rh_legs.specs.declared.end.LegEnd.TheVariants.{Ended, Failed}
use Rattle.rh_slots.specs.declared.slot.Served.{Served}
use Rattle.rh_slots.specs.declared.slot.ToRead.{ToRead}
use Rattle.rh_slots.specs.declared.slot.ToWrite.{ToWrite}

-- one leg after the other was served, from one moment of a seat to another
abbrev pub Serves : {T : Type 0}
    → (SeatValue NodeEvent → SeatValue NodeEvent → T → Type 0)
    → SeatValue NodeEvent → SeatValue NodeEvent → List T → Type 0
Serves One old now [] = now ≡ old
Serves One old now (leg ∷ legs) =
    (mid : SeatValue NodeEvent) × One old mid leg × Serves One mid now legs

module _ {S : Type 0} (next : S → NodeEvent → S) (reply_to : S → NodeEvent → NodeReply) (first : S)
  where
    -- What was read of a leg before it was up is fed, as one piece; where nothing was read, nothing
    -- is done.
    abbrev pub FeedsFirst : Leg → List ℕ → SeatValue NodeEvent → SeatValue NodeEvent → Type 0
    FeedsFirst leg bytes old now = ((bytes ≡ []) × (now ≡ old))
        ⊎ ((answer : NodeReply) × Acts next reply_to first (event.Bytes leg bytes) answer old now)

    -- A leg was read as it was handed over: what was read of it before is fed, and then all that its
    -- source gave. It ended, or failed, only where its source did.
    pub record ReadsOne {I : Type 0} (taken : I → Option (List ℕ)) (faults ends : I → ℕ)
        (old now : SeatValue NodeEvent) (handed : ToRead I) (leg : Leg) (source : I) (end : LegEnd)
        : Type 0 where
      pub same : leg ≡ handed.leg
      pub mid : SeatValue NodeEvent
      pub begun : FeedsFirst leg handed.first old mid
      pub calls : Calls
      pub read : IsRead next reply_to first leg mid now (taken handed.source) (taken source) end calls
      pub ended : end ≡ Ended → Rose (ends handed.source) (ends source)
      pub failed : end ≡ Failed → Rose (faults handed.source) (faults source)

    abbrev pub ReadsLeg : {I : Type 0} → (I → Option (List ℕ)) → (I → ℕ) → (I → ℕ)
        → SeatValue NodeEvent → SeatValue NodeEvent → Served I → Type 0
    ReadsLeg {I} taken faults ends old now served = (handed : ToRead I)
        × ReadsOne taken faults ends old now handed served.leg served.stream served.end

    -- A leg was written as it was handed over: all that was drawn, or where its sink failed a front
    -- of it. It failed only where its sink did, and never ended.
    pub record WritesOne {O : Type 0} (written : O → Option (List ℕ)) (faults : O → ℕ)
        (old now : SeatValue NodeEvent) (handed : ToWrite O) (leg : Leg) (sink : O) (end : LegEnd)
        : Type 0 where
      pub same : leg ≡ handed.leg
      pub calls : Calls
      pub wrote : IsWritten next reply_to first leg old now (written handed.sink) (written sink)
          end calls
      pub failed : end ≡ Failed → Rose (faults handed.sink) (faults sink)
      pub no_end : end ≢ Ended

    abbrev pub WritesLeg : {O : Type 0} → (O → Option (List ℕ)) → (O → ℕ)
        → SeatValue NodeEvent → SeatValue NodeEvent → Served O → Type 0
    WritesLeg {O} written faults old now served = (handed : ToWrite O)
        × WritesOne written faults old now handed served.leg served.stream served.end
