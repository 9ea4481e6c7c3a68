-- what comes to each node has its sizes and ranges: by induction over what happens, since what was
-- put before may go on its pipe
use Rattle.law_order.proofs.Vocabulary.{◌≡◌, ℕ, List, [], ap, AllByRecursion, Option, IsPrefix}
use Rattle.law_moves.proofs.Vocabulary.{Pipe, Leg, Message, OnLeg, of_leg, AreLegible, IsFineMessage, MayGoOn, ReadsBack, Begins, messages_read}
pub use Rattle.law_node_streams.proofs.Streams.LegLogs.{on_leg}
use Rattle.law_node_streams.specs.Streams.{IsDrawn}
use Rattle.law_world_order.proofs.Legs.{Reads, leg_fine, fine_none, none_came}

-- ---- one leg of one node

-- what was put on a leg, as it is read there
pub record Source (pipe : Option Pipe) (put : List Message) (drawn : List ℕ) : Type 0 where
  pub begins : Begins pipe put
  pub may_go : AllByRecursion (MayGoOn pipe) put
  pub read_back : AllByRecursion (ReadsBack pipe) put
  pub drew : IsDrawn put drawn

pub from_source : Reads → (pipe : Option Pipe) (put came : List Message) (drawn heard : List ℕ)
    → Source pipe put drawn → IsPrefix heard drawn → IsPrefix came (messages_read pipe heard)
    → AllByRecursion IsFineMessage came
from_source law pipe put came drawn heard s h p =
    leg_fine law pipe put came drawn heard s.begins s.may_go s.read_back s.drew h p

-- nothing was heard there
pub from_nothing : (pipe : Option Pipe) (came : List Message) (heard : List ℕ) → heard ≡ []
    → IsPrefix came (messages_read pipe heard) → AllByRecursion IsFineMessage came
from_nothing pipe came heard e p =
    fine_none came (none_came came (messages_read pipe heard) (ap (messages_read pipe) e) p)

-- ---- messages of a leg in a log that may go

pub sourced : (pipe : Leg → Option Pipe) (log : List OnLeg) → AreLegible pipe log → (leg : Leg)
    (drawn : List ℕ) → Begins (pipe leg) (of_leg leg log) → IsDrawn (of_leg leg log) drawn
    → Source (pipe leg) (of_leg leg log) drawn
sourced pipe log legible leg drawn begins drew = record {
  begins = begins;
  may_go = on_leg pipe MayGoOn leg log legible.may_go;
  read_back = on_leg pipe ReadsBack leg log legible.read_back;
  drew = drew;
}
