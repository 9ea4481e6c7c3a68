-- what a reader tells the machine of a source that is at its end (profile)
use Rattle.std.specs.Prelude.{◌≡◌, true}
use Rattle.rh_line.specs.declared.leg.Leg.{Leg}
use Rattle.rh_turn.specs.Calls.{Acts}
use Rattle.rh_turn.specs.Values.{SeatValue}
use Rattle.rh_machines.specs.declared.event.NodeEvent.{NodeEvent}
use Rattle.rh_machines.specs.declared.event.NodeEvent.TheVariants as event
use Rattle.rh_machines.specs.declared.event.NodeReply.{NodeReply}
use Rattle.rh_machines.specs.declared.event.NodeReply.TheVariants as reply
use Rattle.rh_legs.specs.declared.end.LegEnd.{LegEnd}
use Rattle.rh_legs.specs.declared.end.LegEnd.TheVariants.{Finished, Ended, Failed, Stopped}

module _ {S : Type 0} (next : S → NodeEvent → S) (reply_to : S → NodeEvent → NodeReply) (first : S)
    (leg : Leg) where
  -- it is asked whether it has a use for the leg, and where it has, told that the leg ended
  abbrev pub EndsSo : SeatValue NodeEvent → SeatValue NodeEvent → LegEnd → Type 0
  EndsSo old now Finished =
      (r : NodeReply) × Acts next reply_to first (event.Finished leg) r old now
      × (r ≡ reply.Told true)
  EndsSo old now Ended =
      (heard : SeatValue NodeEvent) × (r : NodeReply) × (q : NodeReply)
      × Acts next reply_to first (event.Finished leg) r old heard
      × Acts next reply_to first (event.Ended leg) q heard now
  EndsSo old now Failed = ⊥
  EndsSo old now Stopped = ⊥
