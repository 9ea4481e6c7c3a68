-- a node that a fed piece closes for what a row refuses, by its stream until the byte that does
use Rattle.law_order.proofs.Vocabulary.{◌≡◌, ℕ, false, List, [], ◌∷◌, ◌++◌, sym, ap, ◌∙◌, subst, append_assoc, Some, Err, AllByRecursion, Option, IsPrefix}
use Rattle.rh_sig.specs.declared.fault.SigFault.TheVariants as sig
use Rattle.rh_shell.specs.declared.reading.PacketFault.TheVariants as unread
use Rattle.law_moves.proofs.Vocabulary.{prefix_trans, Pipe, Cause, Leg, Refused, Rooms, Rules, Shell, begun, bytes, spelled, ClosedWith, Passage, Event, Hears, after_events, of_leg, ReadsBack, Begins, messages_read, Answers, ReadsWell}
use Rattle.law_node_history.proofs.Lemmas.{drawn_append, events_append}
use Rattle.law_node_history.proofs.Vocabulary.{drawn_on, heard_on}
use Rattle.law_node_streams.specs.Streams.{Seated, Stream}
use Rattle.law_world_windows.proofs.Fed.{heard_behind}
use Rattle.law_world_windows.proofs.OneByte.{AtByte}
use Rattle.law_world_windows.proofs.Stopping.{StopsAt, Way, stops_at}
use Rattle.law_world_windows.specs.Known.{Readings}
use Rattle.law_world_windows.specs.Refusing.{refused_by}

-- a stream until then, of which what was put on the leg is read back at its other end
pub record NodeStream {S : Type 0} (rules : Rules S) (first : S) (rooms : Rooms)
    (pipe_of : Leg → Option Pipe) (leg : Leg) (back_pipe : Option Pipe) (X : Passage S → Type 0)
    (events : List Event) : Type 0 where
  pub stream : Stream rules first rooms pipe_of events
  pub begins : Begins back_pipe (of_leg leg stream.passage.put)
  pub reads_back : AllByRecursion (ReadsBack back_pipe) (of_leg leg stream.passage.put)
  pub spells : IsPrefix (drawn_on rules (begun first rooms) leg events)
      (spelled (of_leg leg stream.passage.put))
  pub law : X stream.passage

module _ {S T : Type 0} (readings : Readings) (well : Answers)
    (strict : (command value : ℕ) → well (Err (unread.Sig (sig.OutOfRange command value))) ≡ false)
    (rules : Rules S) (first : S) (rooms : Rooms) (pipe_of : Leg → Option Pipe) (leg : Leg)
    (events : List Event) (now : Shell S)
    (run : now ≡ after_events rules (begun first rooms) events)
    (r : Refused) (why : Cause) (tells : refused_by why ≡ Some r) (piece : List ℕ)
    (byte : AtByte rules leg now piece why)
    (back_pipe : Option Pipe) (X : Passage S → Type 0)
    (before : NodeStream rules first rooms pipe_of leg back_pipe X
    (events ++ Hears leg byte.front ∷ []))
    (q : Passage T) (pipe : Option Pipe) (reads : pipe_of leg ≡ pipe)
    (other_heard : List ℕ)
    (fits : ReadsWell well pipe (heard_on leg events ++ (byte.front ++ byte.byte ∷ [])))
    (ahead : Way pipe (of_leg leg q.put) (heard_on leg events ++ (byte.front ++ byte.byte ∷ [])))
    (other_front : IsPrefix other_heard (drawn_on rules (begun first rooms) leg events))
    (other_came : IsPrefix (of_leg leg q.came) (messages_read back_pipe other_heard)) where
  abbrev stream : Stream rules first rooms pipe_of (events ++ Hears leg byte.front ∷ [])
  stream = before.stream

  abbrev node : Shell S
  node = after_events rules (begun first rooms) (events ++ Hears leg byte.front ∷ [])

  node_is : node ≡ (bytes rules now leg byte.front).0
  node_is =
      events_append rules (begun first rooms) events (Hears leg byte.front ∷ [])
      ∙ ap (λ (s : Shell S). (bytes rules s leg byte.front).0) (sym run)

  abbrev heard : List ℕ
  heard = heard_on leg (events ++ Hears leg byte.front ∷ [])

  one_more : heard ++ byte.byte ∷ [] ≡ heard_on leg events ++ (byte.front ++ byte.byte ∷ [])
  one_more =
      ap (λ (xs : List ℕ). xs ++ byte.byte ∷ []) (heard_behind leg events byte.front)
      ∙ append_assoc (heard_on leg events) byte.front (byte.byte ∷ [])

  back : Way back_pipe (of_leg leg stream.passage.put) other_heard
  back = record {
    begins = before.begins;
    reads_back = before.reads_back;
    drawn = drawn_on rules (begun first rooms) leg (events ++ Hears leg byte.front ∷ []);
    spells = before.spells;
    front = prefix_trans other_heard (drawn_on rules (begun first rooms) leg events) _ other_front
        (_, sym (drawn_append rules leg (begun first rooms) events (Hears leg byte.front ∷ [])));
  }

  pub node_stops : StopsAt rules before.stream.passage.role leg r
      (of_leg leg before.stream.passage.came) (of_leg leg before.stream.passage.put)
      (of_leg leg q.came) (of_leg leg q.put)
  node_stops =
      subst (λ (role : S). StopsAt rules role leg r (of_leg leg stream.passage.came)
      (of_leg leg stream.passage.put) (of_leg leg q.came) (of_leg leg q.put)) (sym stream.role)
      (stops_at readings well strict rules leg pipe back_pipe r why tells node byte.byte
      (of_leg leg stream.passage.came) (of_leg leg stream.passage.put) (of_leg leg q.came)
      (of_leg leg q.put) heard other_heard
      (drawn_on rules (begun first rooms) leg (events ++ Hears leg byte.front ∷ []))
      (ap (λ (s : Shell S). s.course) node_is ∙ byte.going)
      (subst (λ (s : Shell S). ClosedWith why (bytes rules s leg (byte.byte ∷ [])).0.course)
      (sym node_is) byte.closed)
      (λ end going at.
      subst (λ (p : Option Pipe). Seated rules node.role p (of_leg leg stream.passage.came)
      (of_leg leg stream.passage.put) heard
      (drawn_on rules (begun first rooms) leg (events ++ Hears leg byte.front ∷ [])) end) reads
      (stream.seats leg end going at))
      (subst (ReadsWell well pipe) (sym one_more) fits)
      (subst (Way pipe (of_leg leg q.put)) (sym one_more) ahead) other_came back)
