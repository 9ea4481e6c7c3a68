-- a node that closes by a byte for what a row refuses: the message that it makes whole is the next
-- of what was put at the other end
use Rattle.law_order.proofs.Vocabulary.{◌≡◌, ℕ, List, [], ◌∷◌, ◌++◌, false, Some, None, Err, refl, sym, ap, ◌∙◌, subst, append_assoc, Option, IsPrefix}
use Rattle.rh_sig.specs.declared.fault.SigFault.TheVariants as sig
use Rattle.rh_shell.specs.declared.reading.PacketFault.TheVariants as unread
use Rattle.law_moves.proofs.Vocabulary.{Pipe, Cause, Leg, Refused, Course, Going, Rooms, NearEnd, Acts, Message, Rules, Shell, begun, bytes, bytes_at, bytes_by, end_at, ClosedWith, EndEvent, Event, Happens, Hears, after_end_events, after_events, of_leg, messages_read, Answers, ReadsWell}
use Rattle.law_moves.proofs.Lemmas.{leg_is}
use Rattle.law_node_history.proofs.Lemmas.{end_events_append, events_append}
use Rattle.law_node_history.proofs.Vocabulary.{drawn_on, end_drawn_on, happened, heard_on}
use Rattle.law_node_streams.proofs.Streams.Ends.{end_is, end_leg}
use Rattle.law_node_streams.specs.Streams.{EndStream, Seated, Stream}
use Rattle.law_world_windows.proofs.Fed.{heard_behind}
use Rattle.law_world_windows.proofs.NextRefused.{byte_refused}
use Rattle.law_world_windows.proofs.OneByte.{AtByte}
use Rattle.law_world_windows.specs.Known.{Readings}
use Rattle.law_world_windows.specs.Refusing.{refused_by, RefusesMessage, RefusesNext}

-- behind what came a message is the next of all that was put at the other end, and a row refuses it
pub record IsNext {S : Type 0} (rules : Rules S) (role : S) (leg : Leg) (r : Refused)
    (came all : List Message) : Type 0 where
  pub message : Message
  pub ahead : IsPrefix (came ++ message ∷ []) all
  pub refuses : RefusesMessage rules role leg r message

module _ (readings : Readings) (well : Answers)
    (strict : (command value : ℕ) → well (Err (unread.Sig (sig.OutOfRange command value))) ≡ false)
    {S : Type 0} (rules : Rules S) (leg : Leg) (pipe : Option Pipe) (r : Refused) (why : Cause)
    (tells : refused_by why ≡ Some r) (all : List Message) where
  -- a byte closes it
  by_byte : (s : Shell S) (b : ℕ) (came put : List Message) (heard drawn : List ℕ)
      → s.course ≡ Going → ClosedWith why (bytes rules s leg (b ∷ [])).0.course
      → ((end : NearEnd) → s.course ≡ Going → end_at s leg ≡ Some end
      → Seated rules s.role pipe came put heard drawn end)
      → ReadsWell well pipe (heard ++ b ∷ [])
      → IsPrefix (messages_read pipe (heard ++ b ∷ [])) all
      → IsNext rules s.role leg r came all
  by_byte s b came put heard drawn going closed seats fits front =
      by (end_at s leg) refl
      (subst (λ (c : Course). ClosedWith why (bytes_by rules s leg (b ∷ []) c).course) going closed)
    where
      is_next : RefusesNext rules s.role leg r pipe came (heard ++ b ∷ [])
          → IsNext rules s.role leg r came all
      is_next next = record {
        message = next.message;
        ahead = subst (λ (ms : List Message). IsPrefix ms all) next.next front;
        refuses = next.refuses;
      }

      by : (o : Option NearEnd) → end_at s leg ≡ o
          → ClosedWith why (bytes_at rules s leg (b ∷ []) o).course
          → IsNext rules s.role leg r came all
      by None at closes = absurd (subst (ClosedWith why) going closes)
      by (Some end) at closes =
          is_next (byte_refused well strict rules leg pipe r b s why end came put heard drawn going
          at (leg_is end.leg leg (end_leg leg s.legs end (sym (end_is leg s.legs) ∙ at)))
          (seats end going at) (readings.piece well pipe heard (b ∷ []) fits).0
          (readings.parts pipe) closed tells)

  -- a piece closed it by one of its bytes, and this is the node behind the bytes before
  module _ (now : Shell S) (piece : List ℕ) (byte : AtByte rules leg now piece why) (s : Shell S)
      (is : s ≡ (bytes rules now leg byte.front).0) (past heard next : List ℕ)
      (heard_is : heard ≡ past ++ byte.front)
      (next_is : next ≡ past ++ (byte.front ++ byte.byte ∷ []))
      (fits : ReadsWell well pipe next) (front : IsPrefix (messages_read pipe next) all) where
    one_more : next ≡ heard ++ byte.byte ∷ []
    one_more =
        next_is ∙ sym (append_assoc past byte.front (byte.byte ∷ []))
        ∙ ap (λ (xs : List ℕ). xs ++ byte.byte ∷ []) (sym heard_is)

    pub node_next : (came put : List Message) (drawn : List ℕ)
        → ((end : NearEnd) → s.course ≡ Going → end_at s leg ≡ Some end
        → Seated rules s.role pipe came put heard drawn end) → IsNext rules s.role leg r came all
    node_next came put drawn seats =
        by_byte s byte.byte came put heard drawn
        (ap (λ (t : Shell S). t.course) is ∙ byte.going)
        (subst (λ (t : Shell S).
        ClosedWith why (bytes rules t leg (byte.byte ∷ [])).0.course) (sym is) byte.closed)
        seats (subst (ReadsWell well pipe) one_more fits)
        (subst (λ (xs : List ℕ). IsPrefix (messages_read pipe xs) all) one_more front)

-- ---- by its stream until then

module _ (readings : Readings) (well : Answers)
    (strict : (command value : ℕ) → well (Err (unread.Sig (sig.OutOfRange command value))) ≡ false)
    {S : Type 0} (rules : Rules S) (start : S) (rooms : Rooms) (pipe_of : Leg → Option Pipe)
    (leg : Leg) (pipe : Option Pipe) (reads : pipe_of leg ≡ pipe) (r : Refused) (why : Cause)
    (tells : refused_by why ≡ Some r) (all : List Message) (now : Shell S) (piece : List ℕ)
    (byte : AtByte rules leg now piece why) (next : List ℕ)
    (fits : ReadsWell well pipe next) (front : IsPrefix (messages_read pipe next) all) where
  -- a proxy's
  pub stream_next : (past later : List Event) (f : Stream rules start rooms pipe_of later)
      → now ≡ after_events rules (begun start rooms) past
      → later ≡ past ++ Hears leg byte.front ∷ []
      → next ≡ heard_on leg past ++ (byte.front ++ byte.byte ∷ [])
      → IsNext rules f.passage.role leg r (of_leg leg f.passage.came) all
  stream_next past later f run is next_is =
      subst (λ (role : S). IsNext rules role leg r (of_leg leg f.passage.came) all) (sym f.role)
      (node_next readings well strict rules leg pipe r why tells all now piece byte
      (after_events rules (begun start rooms) later)
      (ap (after_events rules (begun start rooms)) is
      ∙ events_append rules (begun start rooms) past (Hears leg byte.front ∷ [])
      ∙ ap (λ (s : Shell S). (bytes rules s leg byte.front).0) (sym run))
      (heard_on leg past) (heard_on leg later) next
      (ap (heard_on leg) is ∙ heard_behind leg past byte.front) next_is fits front
      (of_leg leg f.passage.came) (of_leg leg f.passage.put)
      (drawn_on rules (begun start rooms) leg later) (λ end going at.
      subst (λ (p : Option Pipe). Seated rules
      (after_events rules (begun start rooms) later).role p (of_leg leg f.passage.came)
      (of_leg leg f.passage.put) (heard_on leg later)
      (drawn_on rules (begun start rooms) leg later) end) reads (f.seats leg end going at)))

  -- an end's
  pub end_next : (acts : Acts S) (past later : List EndEvent)
      (f : EndStream rules acts start rooms pipe_of later)
      → now ≡ after_end_events rules acts (begun start rooms) past
      → later ≡ past ++ Happens (Hears leg byte.front) ∷ []
      → heard_on leg (happened later) ≡ heard_on leg (happened past) ++ byte.front
      → next ≡ heard_on leg (happened past) ++ (byte.front ++ byte.byte ∷ [])
      → IsNext rules f.passage.passage.role leg r (of_leg leg f.passage.passage.came) all
  end_next acts past later f run is heard_is next_is =
      let p = f.passage.passage in
      subst (λ (role : S). IsNext rules role leg r (of_leg leg f.passage.passage.came) all)
      (sym f.role)
      (node_next readings well strict rules leg pipe r why tells all now piece byte
      (after_end_events rules acts (begun start rooms) later)
      (ap (after_end_events rules acts (begun start rooms)) is
      ∙ end_events_append rules acts (begun start rooms) past
      (Happens (Hears leg byte.front) ∷ [])
      ∙ ap (λ (s : Shell S). (bytes rules s leg byte.front).0) (sym run))
      (heard_on leg (happened past)) (heard_on leg (happened later)) next heard_is next_is fits
      front (of_leg leg p.came) (of_leg leg p.put)
      (end_drawn_on rules acts (begun start rooms) leg later) (λ end going at.
      subst (λ (q : Option Pipe). Seated rules
      (after_end_events rules acts (begun start rooms) later).role q
      (of_leg leg f.passage.passage.came) (of_leg leg f.passage.passage.put)
      (heard_on leg (happened later)) (end_drawn_on rules acts (begun start rooms) leg later) end)
      reads (f.seats leg end going at)))
