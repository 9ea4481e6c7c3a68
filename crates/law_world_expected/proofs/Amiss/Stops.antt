-- a node that closes by a byte since what came is amiss, between the streams of the leg
use Rattle.law_order.proofs.Vocabulary.{◌≡◌, ◌⊎◌, inl, inr, ℕ, List, [], ◌∷◌, ◌++◌, cond, Bool, true, false, Some, None, refl, sym, ap, ◌∙◌, subst, append_assoc, append-nil, Option, IsPrefix}
use Rattle.rh_shell.specs.declared.answers.Refused.TheVariants as refused
use Rattle.rh_shell.specs.declared.stage.Stage.TheVariants as stage
use Rattle.law_moves.proofs.Vocabulary.{Pipe, Refusal, Cause, Leg, Count, Refused, Course, Going, Stage, Stop, Turn, goes, is_upward, is_zero, hear_byte, hear, heard, NearEnd, is_over, Message, Rules, Shell, bytes, bytes_at, bytes_by, end_at, stop_by, stopped, with_end, message_in, ClosedWith, Reading, begin, messages_read, read_by, read_byte, reading, reading_after, Answers, ByteIsWell, ReadsWell}
use Rattle.law_moves.proofs.Lemmas.{leg_is}
use Rattle.law_node_streams.proofs.Streams.Ends.{end_is, end_leg}
use Rattle.law_node_streams.specs.Streams.{Seated, is_live}
use Rattle.law_world_windows.proofs.OneByte.{AtByte}
use Rattle.law_world_windows.specs.Known.{Readings}
use Rattle.law_world_expected.proofs.Amiss.Bytes.{ByteAmiss, HaveNames, IsFirstPing, IsPing, Says, StopsByByte, byte_told}
use Rattle.law_world_expected.specs.Amiss.{amiss_by, RefusesBy}

-- ---- what stops it

-- behind what came a message is the next of all that was put at the other end, and a row refuses it
pub record RefusesAhead {S : Type 0} (rules : Rules S) (role : S) (leg : Leg) (r : Refused)
    (count : Count) (came all : List Message) : Type 0 where
  pub message : Message
  pub ahead : IsPrefix (came ++ message ∷ []) all
  pub refuses : RefusesBy rules role leg count r message

-- or the byte behind those that were heard makes a Ping whole, which comes first
pub record PingsFirst (pipe : Option Pipe) (r : Refused) (count : Count) (heard : List ℕ) (b : ℕ)
    : Type 0 where
  pub unexpected : r ≡ refused.Unexpected
  pub none : is_zero count ≡ true
  pub upward : is_upward pipe ≡ true
  pub held : List ℕ
  pub after : reading_after pipe (begin pipe) heard ≡ reading stage.Frames held
  pub is : IsPing pipe (held ++ b ∷ [])
  pub whole : read_by pipe stage.Frames (held ++ b ∷ [])
      ≡ (reading stage.Frames [], message_in pipe (held ++ b ∷ []))

-- the node has the leg's end, which is of use; all that was heard came, and then that
pub record AmissAt {S : Type 0} (rules : Rules S) (leg : Leg) (pipe : Option Pipe) (r : Refused)
    (s : Shell S) (came all : List Message) (heard : List ℕ) (b : ℕ) : Type 0 where
  pub end : NearEnd
  pub going : s.course ≡ Going
  pub at : end_at s leg ≡ Some end
  pub here : end.leg ≡ leg
  pub on : is_over rules end s.role ≡ false
  pub live : is_live end.intake.stage ≡ true
  pub frames : end.intake.stage ≡ stage.Frames
  pub came_is : came ≡ messages_read pipe heard
  pub how : RefusesAhead rules s.role leg r end.count came all ⊎ PingsFirst pipe r end.count heard b

module _ (readings : Readings) {S : Type 0} (rules : Rules S) (leg : Leg) (pipe : Option Pipe)
    (r : Refused) (well : Answers) (named : HaveNames well r) (why : Cause)
    (tells : amiss_by why ≡ Some r) (all : List Message) where
  -- the cause is that of the stop
  closed_by : (s : Shell S) (l : Leg) (o : Option Stop) → s.course ≡ Going
      → ClosedWith why (stopped s l o).course → (x : Stop) × (o ≡ Some x) × (x.cause ≡ why)
  closed_by s l None going closed = absurd (subst (ClosedWith why) going closed)
  closed_by s l (Some x) going closed = (x, refl, by x.refusal closed)
    where
      by : (o : Option Refusal) → ClosedWith why (stop_by s l x.cause o).course → x.cause ≡ why
      by None same = same
      by (Some refusal) same = same

  -- ---- by the byte at the leg's end

  module _ (s : Shell S) (b : ℕ) (came put : List Message) (heard_so drawn : List ℕ)
      (going : s.course ≡ Going) (front : IsPrefix (messages_read pipe (heard_so ++ b ∷ [])) all)
      (end : NearEnd) (at : end_at s leg ≡ Some end) (here : end.leg ≡ leg)
      (sits : Seated rules s.role pipe came put heard_so drawn end) where
    abbrev held_with : List ℕ
    held_with = end.intake.held ++ b ∷ []

    module _ (on : is_over rules end s.role ≡ false)
        (says : ByteAmiss rules s.role r well named end b) where
      live : is_live end.intake.stage ≡ true
      live = ap is_live says.frames

      next_is : (message : Message) → message_in end.pipe held_with ≡ message ∷ []
          → messages_read pipe (heard_so ++ b ∷ []) ≡ came ++ message ∷ []
      next_is message is =
          let seat = sits.reads on live in
          let one : (read_byte pipe (reading end.intake.stage end.intake.held) b).1 ≡ message ∷ []
          = subst (λ (p : Option Pipe).
          (read_byte p (reading end.intake.stage end.intake.held) b).1 ≡ message ∷ []) sits.pipe_is
          (ap (λ (q : Reading × List Message). q.1) says.whole ∙ is) in
          readings.parts pipe heard_so (b ∷ [])
          ∙ ap (λ (q : Reading). messages_read pipe heard_so ++ ((read_byte pipe q b).1 ++ []))
          seat.after
          ∙ ap (λ (ms : List Message). messages_read pipe heard_so ++ ms)
          (append-nil (read_byte pipe (reading end.intake.stage end.intake.held) b).1 ∙ one)
          ∙ ap (λ (ms : List Message). ms ++ message ∷ []) (sym seat.all)

      whole_is : read_by pipe stage.Frames held_with
          ≡ (reading stage.Frames [], message_in pipe held_with)
      unfolding read_byte
      whole_is =
          subst (λ (p : Option Pipe). read_by p stage.Frames held_with
          ≡ (reading stage.Frames [], message_in p held_with)) sits.pipe_is
          (subst (λ (st : Stage). read_by end.pipe st held_with
          ≡ (reading stage.Frames [], message_in end.pipe held_with)) says.frames says.whole)

      amiss : AmissAt rules leg pipe r s came all heard_so b
      amiss = record {
        end = end;
        going = going;
        at = at;
        here = here;
        on = on;
        live = live;
        frames = says.frames;
        came_is = (sits.reads on live).all;
        how = by says.how;
      }
        where
          by : Says rules s.role end.leg end.pipe end.count r held_with
              ⊎ IsFirstPing end.pipe end.count r held_with
              → RefusesAhead rules s.role leg r end.count came all
              ⊎ PingsFirst pipe r end.count heard_so b
          by (inl next) = inl (record {
            message = next.message;
            ahead =
                subst (λ (ms : List Message). IsPrefix ms all) (next_is next.message next.is) front;
            refuses =
                subst (λ (l : Leg). RefusesBy rules s.role l end.count r next.message) here
                next.refuses;
          })
          by (inr ping) = inr (record {
            unexpected = ping.unexpected;
            none = ping.none;
            upward = subst (λ (p : Option Pipe). is_upward p ≡ true) sits.pipe_is ping.upward;
            held = end.intake.held;
            after =
                (sits.reads on live).after
                ∙ ap (λ (st : Stage). reading st end.intake.held) says.frames;
            is = subst (λ (p : Option Pipe). IsPing p held_with) sits.pipe_is ping.is;
            whole = whole_is;
          })

    at_end : ByteIsWell well pipe (reading_after pipe (begin pipe) heard_so).stage
        ((reading_after pipe (begin pipe) heard_so).held ++ b ∷ [])
        → ClosedWith why (bytes_at rules s leg (b ∷ []) (Some end)).course
        → AmissAt rules leg pipe r s came all heard_so b
    unfolding hear hear_byte
    at_end fits closed = by (is_over rules end s.role) refl closed
      where
        turn : Bool → Turn S
        turn t = cond t (goes end s.role) (heard rules s.now end s.role b)

        Stops : Bool → Type 0
        Stops t =
            ClosedWith why
            (stopped (with_end s leg (turn t).end (turn t).role) leg (turn t).stop).course

        by : (t : Bool) → is_over rules end s.role ≡ t → Stops t
            → AmissAt rules leg pipe r s came all heard_so b
        by true e closes =
            let bad = closed_by (with_end s leg end s.role) leg None going closes in absurd cc
        by false e closes =
            let t : Turn S = heard rules s.now end s.role b in
            let stop = closed_by (with_end s leg t.end t.role) leg t.stop going closes in
            amiss e
            (subst (StopsByByte rules s.role r well named end b) stop.1
            (byte_told rules s.role r well named end b s.now (λ live.
            subst (λ (p : Option Pipe). ByteIsWell well p end.intake.stage held_with)
            (sym sits.pipe_is)
            (subst (λ (q : Reading). ByteIsWell well pipe q.stage (q.held ++ b ∷ []))
            (sits.reads e live).after fits))) (ap amiss_by stop.2 ∙ tells))

  -- ---- by a byte

  by_byte : (s : Shell S) (b : ℕ) (came put : List Message) (heard drawn : List ℕ)
      → s.course ≡ Going → ClosedWith why (bytes rules s leg (b ∷ [])).0.course
      → ((end : NearEnd) → s.course ≡ Going → end_at s leg ≡ Some end
      → Seated rules s.role pipe came put heard drawn end)
      → ReadsWell well pipe (heard ++ b ∷ [])
      → IsPrefix (messages_read pipe (heard ++ b ∷ [])) all
      → AmissAt rules leg pipe r s came all heard b
  by_byte s b came put heard drawn going closed seats fits front =
      by (end_at s leg) refl
      (subst (λ (c : Course). ClosedWith why (bytes_by rules s leg (b ∷ []) c).course) going closed)
    where
      by : (o : Option NearEnd) → end_at s leg ≡ o
          → ClosedWith why (bytes_at rules s leg (b ∷ []) o).course
          → AmissAt rules leg pipe r s came all heard b
      by None at closes = absurd (subst (ClosedWith why) going closes)
      by (Some end) at closes =
          at_end s b came put heard drawn going front end at
          (leg_is end.leg leg (end_leg leg s.legs end (sym (end_is leg s.legs) ∙ at)))
          (seats end going at) (readings.piece well pipe heard (b ∷ []) fits).0 closes

  -- a piece closed it by one of its bytes, and this is the node behind the bytes before
  module _ (now : Shell S) (piece : List ℕ) (byte : AtByte rules leg now piece why) (s : Shell S)
      (is : s ≡ (bytes rules now leg byte.front).0) (past heard next : List ℕ)
      (heard_is : heard ≡ past ++ byte.front)
      (next_is : next ≡ past ++ (byte.front ++ byte.byte ∷ []))
      (fits : ReadsWell well pipe next) (front : IsPrefix (messages_read pipe next) all) where
    pub one_more : next ≡ heard ++ byte.byte ∷ []
    one_more =
        next_is ∙ sym (append_assoc past byte.front (byte.byte ∷ []))
        ∙ ap (λ (xs : List ℕ). xs ++ byte.byte ∷ []) (sym heard_is)

    pub node_amiss : (came put : List Message) (drawn : List ℕ)
        → ((end : NearEnd) → s.course ≡ Going → end_at s leg ≡ Some end
        → Seated rules s.role pipe came put heard drawn end)
        → AmissAt rules leg pipe r s came all heard byte.byte
    node_amiss came put drawn seats =
        by_byte s byte.byte came put heard drawn
        (ap (λ (t : Shell S). t.course) is ∙ byte.going)
        (subst (λ (t : Shell S).
        ClosedWith why (bytes rules t leg (byte.byte ∷ [])).0.course) (sym is) byte.closed)
        seats (subst (ReadsWell well pipe) one_more fits)
        (subst (λ (xs : List ℕ). IsPrefix (messages_read pipe xs) all) one_more front)
