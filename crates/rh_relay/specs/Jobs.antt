-- what the jobs of a node promise (profile)
use Rattle.std.specs.Prelude.{◌≡◌, ◌⊎◌, ℕ, List}
use Rattle.std.specs.Arc.{arc_value}
use Rattle.std.specs.declared.option.Option.{Option}
use Rattle.rh_io.specs.Bytes.{Moves}
use Rattle.rh_io.specs.Counts.{Rose}
use Rattle.rh_turn.specs.Values.{SeatValue}
use Rattle.rh_machines.specs.declared.event.NodeEvent.{NodeEvent}
use Rattle.rh_machines.specs.declared.event.NodeReply.{NodeReply}
use Rattle.rh_legs.specs.Legs.{Calls}
use Rattle.rh_legs.specs.declared.end.NodeEnd.{NodeEnd}
use Rattle.rh_legs.specs.declared.end.NodeEnd.TheVariants.{Ended, NoMemory, ReadFault, WriteFault}
use Rattle.rh_machines.specs.declared.node.Node.{Ghosts}
use Rattle.rh_slots.specs.Slots.{ReadsLeg, Serves, WritesLeg}
use Rattle.rh_slots.specs.declared.slot.Served.{Served}
use Rattle.rh_keepers.specs.Keepers.{Causes, IsKeepersEnd, KeptOn}
use Rattle.rh_streams.specs.Givers.{Gives, IsGiversEnd}
use Rattle.rh_streams.specs.Takers.{IsTakersEnd, Takes}
use Rattle.rh_relay.specs.declared.answer.Done.{Done}
use Rattle.rh_relay.specs.declared.answer.Had.{Had}
use Rattle.rh_relay.specs.declared.answer.Had.TheVariants as had
use Rattle.rh_relay.specs.declared.work.Task.{Task}
use Rattle.rh_relay.specs.declared.work.Task.TheVariants as task

-- how a job of a slot ends
abbrev pub IsSlotsEnd : NodeEnd → Type 0
IsSlotsEnd end = (end ≡ Ended) ⊎ (end ≡ NoMemory)

module _ {S W I O : Type 0} where
  -- a slot's reader hands back the sources that it read, each of which it served so
  abbrev pub HasRead : (SeatValue NodeEvent → SeatValue NodeEvent → Served I → Type 0)
      → SeatValue NodeEvent → SeatValue NodeEvent → Had S W I O → Type 0
  HasRead One old now (had.Read legs) = Serves One old now legs.items
  HasRead One old now other = ⊥

  -- a slot's writer, the sinks that it wrote
  abbrev pub HasWritten : (SeatValue NodeEvent → SeatValue NodeEvent → Served O → Type 0)
      → SeatValue NodeEvent → SeatValue NodeEvent → Had S W I O → Type 0
  HasWritten One old now (had.Wrote legs) = Serves One old now legs.items
  HasWritten One old now other = ⊥

module _ {T : Type 0} (next : T → NodeEvent → T) (reply_to : T → NodeEvent → NodeReply) (first : T)
  where
    -- A giver gave the first PDUs of what it read of the input. It ends with a fault of the input only
    -- where its count rose.
    pub record Gave {S : Type 0} (left taken : S → Option (List ℕ)) (faults : S → ℕ) (input back : S)
        (old now : SeatValue NodeEvent) (end : NodeEnd) : Type 0 where
      pub came : List ℕ
      pub calls : Calls
      pub moves : Moves (left input) (left back) (taken input) (taken back) came
      pub gives : Gives next reply_to first old now came calls
      pub failed : end ≡ ReadFault → Rose (faults input) (faults back)
      pub kind : IsGiversEnd end

    -- A taker wrote the PDUs that it took. It ends with a fault of the output only where its count
    -- rose.
    pub record Took {W : Type 0} (written : W → Option (List ℕ)) (faults : W → ℕ) (output back : W)
        (old now : SeatValue NodeEvent) (end : NodeEnd) : Type 0 where
      pub calls : Calls
      pub takes : Takes next reply_to first old now (written output) (written back) end calls
      pub failed : end ≡ WriteFault → Rose (faults output) (faults back)
      pub kind : IsTakersEnd end

    module _ {S W I O : Type 0} where
      -- it hands the input back
      abbrev pub HasGiven : (S → Option (List ℕ)) → (S → Option (List ℕ)) → (S → ℕ) → S
          → SeatValue NodeEvent → SeatValue NodeEvent → NodeEnd → Had S W I O → Type 0
      HasGiven left taken faults input old now end (had.Input back) =
          Gave left taken faults input back old now end
      HasGiven left taken faults input old now end other = ⊥

      -- it hands the output back
      abbrev pub HasTaken : (W → Option (List ℕ)) → (W → ℕ) → W
          → SeatValue NodeEvent → SeatValue NodeEvent → NodeEnd → Had S W I O → Type 0
      HasTaken written faults output old now end (had.Output back) =
          Took written faults output back old now end
      HasTaken written faults output old now end other = ⊥

-- what an input and an output tell of their bytes and their faults
pub record Tells (S W : Type 0) : Type 0 where
  pub left : S → Option (List ℕ)
  pub taken : S → Option (List ℕ)
  pub faults : S → ℕ
  pub written : W → Option (List ℕ)
  pub misses : W → ℕ

-- the same of the streams of legs
pub record LegsTell (I O : Type 0) : Type 0 where
  pub read : I → Option (List ℕ)
  pub faults : I → ℕ
  pub ends : I → ℕ
  pub sent : O → Option (List ℕ)
  pub misses : O → ℕ

module _ {M S W N C K G T F I O A V : Type 0} {g : Ghosts M F T} (next : T → NodeEvent → T)
    (reply_to : T → NodeEvent → NodeReply) (causes : Causes) (net cookies : Type 0)
    (tells : Tells S W) (legs : LegsTell I O) where
  -- What a job answers: the actor acts on the same turn, and its calls and what it had of the outside
  -- are those of its task.
  abbrev pub Answers : Task M S W N C K G F T I O A V g → Done M S W I O F T g → Type 0
  Answers (task.Keep alloc keeper) done =
      KeptOn next reply_to causes keeper.actor.turn done.actor.turn
      keeper.actor.seat done.actor.seat
      × IsKeepersEnd net cookies done.end
  Answers (task.Read actor serving) done = (done.actor.turn ≡ actor.turn)
      × HasRead (ReadsLeg next reply_to (arc_value actor.turn).first
      legs.read legs.faults legs.ends) actor.seat done.actor.seat done.had
      × IsSlotsEnd done.end
  Answers (task.Write actor serving) done = (done.actor.turn ≡ actor.turn)
      × HasWritten (WritesLeg next reply_to (arc_value actor.turn).first
      legs.sent legs.misses) actor.seat done.actor.seat done.had
      × IsSlotsEnd done.end
  Answers (task.Give actor input rooms) done = (done.actor.turn ≡ actor.turn)
      × HasGiven next reply_to (arc_value actor.turn).first tells.left tells.taken tells.faults
      input actor.seat done.actor.seat done.end done.had
  Answers (task.Take actor output room) done = (done.actor.turn ≡ actor.turn)
      × HasTaken next reply_to (arc_value actor.turn).first tells.written tells.misses
      output actor.seat done.actor.seat done.end done.had
