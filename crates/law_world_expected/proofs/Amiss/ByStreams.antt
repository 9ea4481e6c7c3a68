-- a node that closes by a byte since what came is amiss, by its stream until then
use Rattle.law_order.proofs.Vocabulary.{◌≡◌, ℕ, List, [], ◌∷◌, ◌++◌, Some, sym, ap, ◌∙◌, subst, Option, IsPrefix}
use Rattle.law_moves.proofs.Vocabulary.{Pipe, Cause, Leg, Refused, Rooms, Acts, Message, Rules, Shell, begun, bytes, EndEvent, Event, Happens, Hears, after_end_events, after_events, of_leg, messages_read, Answers, ReadsWell}
use Rattle.law_node_history.proofs.Lemmas.{end_events_append, events_append}
use Rattle.law_node_history.proofs.Vocabulary.{drawn_on, end_drawn_on, happened, heard_on}
use Rattle.law_node_streams.specs.Streams.{EndStream, Seated, Stream}
use Rattle.law_world_windows.proofs.Fed.{heard_behind}
use Rattle.law_world_windows.proofs.OneByte.{AtByte}
use Rattle.law_world_windows.specs.Known.{Readings}
use Rattle.law_world_expected.proofs.Amiss.Bytes.{HaveNames}
use Rattle.law_world_expected.proofs.Amiss.Stops.{AmissAt, node_amiss, one_more}
use Rattle.law_world_expected.specs.Amiss.{amiss_by}

-- and the byte stands behind what was heard
pub record StopsThere {S : Type 0} (rules : Rules S) (leg : Leg) (pipe : Option Pipe) (r : Refused)
    (s : Shell S) (came all : List Message) (heard next : List ℕ) : Type 0 where
  pub byte : ℕ
  pub next_is : next ≡ heard ++ byte ∷ []
  pub at : AmissAt rules leg pipe r s came all heard byte

module _ (readings : Readings) {S : Type 0} (rules : Rules S) (leg : Leg) (pipe : Option Pipe)
    (r : Refused) (well : Answers) (named : HaveNames well r) (why : Cause)
    (tells : amiss_by why ≡ Some r) (all : List Message) (start : S) (rooms : Rooms)
    (pipe_of : Leg → Option Pipe) (reads : pipe_of leg ≡ pipe) (now : Shell S) (piece : List ℕ)
    (byte : AtByte rules leg now piece why) (next : List ℕ) (fits : ReadsWell well pipe next)
    (front : IsPrefix (messages_read pipe next) all) where
  -- a proxy
  pub stream_stops : (past later : List Event) (f : Stream rules start rooms pipe_of later)
      → now ≡ after_events rules (begun start rooms) past
      → later ≡ past ++ Hears leg byte.front ∷ []
      → next ≡ heard_on leg past ++ (byte.front ++ byte.byte ∷ [])
      → StopsThere rules leg pipe r (after_events rules (begun start rooms) later)
      (of_leg leg f.passage.came) all (heard_on leg later) next
  stream_stops past later f run is next_is = record {
    byte = byte.byte;
    next_is = one_more readings rules leg pipe r well named why tells all now piece byte s s_is
        (heard_on leg past) (heard_on leg later) next heard_is next_is fits front;
    at = node_amiss readings rules leg pipe r well named why tells all now piece byte s s_is
        (heard_on leg past) (heard_on leg later) next heard_is next_is fits front
        (of_leg leg f.passage.came) (of_leg leg f.passage.put)
        (drawn_on rules (begun start rooms) leg later) (λ end going at.
        subst (λ (p : Option Pipe). Seated rules s.role p (of_leg leg f.passage.came)
        (of_leg leg f.passage.put) (heard_on leg later)
        (drawn_on rules (begun start rooms) leg later) end) reads (f.seats leg end going at));
  }
    where
      s : Shell S
      s = after_events rules (begun start rooms) later

      s_is : s ≡ (bytes rules now leg byte.front).0
      s_is =
          ap (after_events rules (begun start rooms)) is
          ∙ events_append rules (begun start rooms) past (Hears leg byte.front ∷ [])
          ∙ ap (λ (x : Shell S). (bytes rules x leg byte.front).0) (sym run)

      heard_is : heard_on leg later ≡ heard_on leg past ++ byte.front
      heard_is = ap (heard_on leg) is ∙ heard_behind leg past byte.front

  -- an end
  pub end_stops : (acts : Acts S) (past later : List EndEvent)
      (f : EndStream rules acts start rooms pipe_of later)
      → now ≡ after_end_events rules acts (begun start rooms) past
      → later ≡ past ++ Happens (Hears leg byte.front) ∷ []
      → heard_on leg (happened later) ≡ heard_on leg (happened past) ++ byte.front
      → next ≡ heard_on leg (happened past) ++ (byte.front ++ byte.byte ∷ [])
      → StopsThere rules leg pipe r (after_end_events rules acts (begun start rooms) later)
      (of_leg leg f.passage.passage.came) all (heard_on leg (happened later)) next
  end_stops acts past later f run is heard_is next_is = record {
    byte = byte.byte;
    next_is = one_more readings rules leg pipe r well named why tells all now piece byte s s_is
        (heard_on leg (happened past)) (heard_on leg (happened later)) next heard_is next_is fits
        front;
    at = node_amiss readings rules leg pipe r well named why tells all now piece byte s s_is
        (heard_on leg (happened past)) (heard_on leg (happened later)) next heard_is next_is fits
        front (of_leg leg f.passage.passage.came) (of_leg leg f.passage.passage.put)
        (end_drawn_on rules acts (begun start rooms) leg later) (λ end going at.
        subst (λ (p : Option Pipe). Seated rules s.role p (of_leg leg f.passage.passage.came)
        (of_leg leg f.passage.passage.put) (heard_on leg (happened later))
        (end_drawn_on rules acts (begun start rooms) leg later) end) reads
        (f.seats leg end going at));
  }
    where
      s : Shell S
      s = after_end_events rules acts (begun start rooms) later

      s_is : s ≡ (bytes rules now leg byte.front).0
      s_is =
          ap (after_end_events rules acts (begun start rooms)) is
          ∙ end_events_append rules acts (begun start rooms) past
          (Happens (Hears leg byte.front) ∷ [])
          ∙ ap (λ (x : Shell S). (bytes rules x leg byte.front).0) (sym run)
