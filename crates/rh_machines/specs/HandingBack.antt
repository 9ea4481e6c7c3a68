-- replies bring back what events bring on the heap (profile)
use Rattle.std.specs.Prelude.{◌≡◌, ℕ, List}
use Rattle.rh_line.specs.declared.leg.Leg.{Leg}
use Rattle.rh_machines.specs.declared.event.NodeEvent.{NodeEvent}
use Rattle.rh_machines.specs.declared.event.NodeEvent.TheVariants as event
use Rattle.rh_machines.specs.declared.event.NodeReply.{NodeReply}
use Rattle.rh_machines.specs.declared.event.NodeReply.TheVariants as reply

-- the piece that came stands in the reply
abbrev pub IsFed : List ℕ → NodeReply → Type 0
IsFed piece (reply.Fed verdict finished back) = back ≡ piece
IsFed piece other = ⊥

-- bytes were drawn into the room
abbrev pub IsDrawn : NodeReply → Type 0
IsDrawn (reply.Drawn piece) = Unit {0}
IsDrawn other = ⊥

-- the block that was given stands in the reply, where the role takes PDUs in
abbrev pub IsGiven : List ℕ → NodeReply → Type 0
IsGiven block (reply.Given given back) = back ≡ block
IsGiven block reply.NotHere = Unit {0}
IsGiven block other = ⊥

-- the room for a PDU stands in the reply, where the role gives PDUs out
abbrev pub IsTaken : NodeReply → Type 0
IsTaken (reply.Taken answer block) = Unit {0}
IsTaken reply.NotHere = Unit {0}
IsTaken other = ⊥

pub record HandsBack {S : Type 0} (reply_to : S → NodeEvent → NodeReply) : Type 0 where
  pub fed : (s : S) (leg : Leg) (piece : List ℕ) → IsFed piece (reply_to s (event.Bytes leg piece))
  pub drawn : (s : S) (leg : Leg) (room : ℕ) → IsDrawn (reply_to s (event.Draw leg room))
  pub given : (s : S) (block : List ℕ) → IsGiven block (reply_to s (event.Give block))
  pub taken : (s : S) (room : Unit {0}) → IsTaken (reply_to s (event.Take room))
