-- a byte that closes a node for what a row refuses makes the message whole that the row refuses
use Rattle.law_order.proofs.Vocabulary.{◌≡◌, ℕ, List, [], ◌∷◌, ◌++◌, length, cond, Bool, true, false, nat_lt, Some, None, Ok, Err, refl, sym, ap, ◌∙◌, subst, append-nil, eqb-true, slice_index, ◌==◌, ◌&&◌, Option, Result}
use Rattle.rh_sig.specs.declared.fault.SigFault.TheVariants as sig
use Rattle.rh_line.specs.declared.cause.Cause.TheVariants as cause
use Rattle.rh_shell.specs.Hearing.{cause_of}
use Rattle.rh_shell.specs.Intakes.{Over, behind}
use Rattle.rh_shell.specs.declared.answers.HeadRefused.TheVariants as head
use Rattle.rh_shell.specs.declared.answers.Refused.TheVariants as refused
use Rattle.rh_shell.specs.declared.reading.PacketFault.TheVariants as unread
use Rattle.rh_shell.specs.declared.stage.Stage.TheVariants as stage
use Rattle.law_moves.proofs.Vocabulary.{HeadFault, rts, header_length, frag_of, head_fault, Pipe, Named, Refusal, Leg, Cause, Count, HeadRefused, HeadTaken, Refused, Course, Going, Heading, PacketFault, Stage, Stop, Turn, goes, stops, stop, head_row, begun_body, behind_head, behind_frame, row_by, close_row, one_more, is_zero, is_upward, is_ping, take_ping, take_packet, take_frame, is_greeting, heading, touched, with_intake, take, hear_byte, hear, heard, Intake, Came, Nothing}
use Rattle.law_moves.proofs.Vocabulary.{Head, Greeting, Frame, Fault, on_byte, byte_by, text_by, frame_by, frame_byte, holds, is_whole_head, is_whole_greeting, is_full, length_told, counted, NearEnd, is_over, packet_of, Message, Pdu, Packet, Rules, Row, Shell, bytes_at, bytes_by, end_at, stop_by, stopped, with_end, message_in, named_messages, ClosedWith, Reading, frame_read, read_by, read_byte, reading, reading_after, begin, messages_read, messages_from, Answers, ByteIsWell}
use Rattle.law_moves.proofs.Vocabulary.{FrameIsWell, HeaderIsWell}
use Rattle.law_node_streams.specs.Streams.{Seated, is_live}
use Rattle.law_world_windows.specs.Refusing.{refused_by, RefusesMessage, RefusesNext}

-- a cause that tells of a refusal is that of it
kept : (leg : Leg) (place : ℕ) (why r : Refused) → refused_by (cause_of leg place why) ≡ Some r
    → why ≡ r
kept leg place refused.Unexpected r e = absurd cc
kept leg place (refused.Cookie expected got) r e = absurd cc
kept leg place (refused.Window window) r e = cc
kept leg place (refused.OutOfRange command value) r e = cc
kept leg place (refused.Full full) r e = absurd cc

module _ {S : Type 0} (well : Answers)
    (strict : (command value : ℕ) → well (Err (unread.Sig (sig.OutOfRange command value))) ≡ false)
    (rules : Rules S) (role : S) (leg : Leg) (pipe : Option Pipe) (r : Refused)
    (all : List ℕ) where
  -- the bytes are one message, and a row refuses it
  record Says : Type 0 where
    message : Message
    is : message_in pipe all ≡ message ∷ []
    refuses : RefusesMessage rules role leg r message

  abbrev Tells : Cause → Type 0
  Tells why = refused_by why ≡ Some r → Says

  abbrev TellsRow : Result Count Cause → Type 0
  TellsRow (Ok next) = Unit {0}
  TellsRow (Err why) = Tells why

  module _ (at : Heading) (here : at.leg ≡ leg) (on : at.pipe ≡ pipe) where
    row_tells : (next : Count) (m : Message) (row : Row) → message_in pipe all ≡ m ∷ []
        → ((why : Refused) → row ≡ Err why → RefusesMessage rules role leg why m)
        → TellsRow (row_by at next row)
    row_tells next m (Ok taken) is refuses = tt
    row_tells next m (Err why) is refuses = λ e. record {
      message = m;
      is = is;
      refuses = refuses r (ap (λ (x : Refused). Err x) (kept at.leg at.place why r e));
    }

    pdu_tells : slice_index all 2 == rts ≡ false
        → TellsRow (close_row at at.count (rules.pdu role at.leg at.count all)).1
    pdu_tells other =
        row_tells at.count (Pdu all) (rules.pdu role at.leg at.count all).1
        (ap (λ (t : Bool). cond t (named_messages (packet_of all pipe)) (Pdu all ∷ [])) other)
        (λ why e. (
          at.count,
          subst (λ (l : Leg). (rules.pdu role l at.count all).1 ≡ Err why) here e,
        ))

    ping_tells : (zero upward : Bool)
        → TellsRow (cond (zero && upward) (Err (cause.Unexpected at.leg at.place)) (Ok at.count))
    ping_tells true true = λ e. absurd cc
    ping_tells true false = tt
    ping_tells false upward = tt

    named_tells : (named : Named) (t : Bool) → is_ping named ≡ t
        → message_in pipe all ≡ cond t [] (Packet named ∷ [])
        → TellsRow (cond {A = S × Result Count Cause} t (role, take_ping at)
        (close_row at (one_more at.count) (rules.packet role at.leg at.count named))).1
    named_tells named true e is = ping_tells (is_zero at.count) (is_upward at.pipe)
    named_tells named false e is =
        row_tells (one_more at.count) (Packet named)
        (rules.packet role at.leg at.count named).1 is (λ why e. (
          at.count,
          subst (λ (l : Leg). (rules.packet role l at.count named).1 ≡ Err why) here e,
        ))

    packet_tells : (x : Result Named PacketFault) → well x ≡ true
        → message_in pipe all ≡ named_messages x → TellsRow (take_packet rules at role x).1
    packet_tells (Ok named) fits is = named_tells named (is_ping named) refl is
    packet_tells (Err (unread.Rts fault)) fits is = λ e. absurd cc
    packet_tells (Err (unread.Sig sig.Unknown)) fits is = λ e. absurd cc
    packet_tells (Err (unread.Sig (sig.OutOfRange command value))) fits is =
        absurd (let bad : true ≡ false = sym fits ∙ strict command value in cc)

    by_type : (t : Bool) → slice_index all 2 == rts ≡ t
        → (t ≡ true → well (packet_of all at.pipe) ≡ true)
        → TellsRow (cond {A = S × Result Count Cause} t
        (take_packet rules at role (packet_of all at.pipe))
        (close_row at at.count (rules.pdu role at.leg at.count all))).1
    by_type true e fits =
        packet_tells (packet_of all at.pipe) (fits refl)
        (ap (λ (t : Bool). cond t (named_messages (packet_of all pipe)) (Pdu all ∷ [])) e
        ∙ ap (λ (p : Option Pipe). named_messages (packet_of all p)) (sym on))
    by_type false e fits = pdu_tells e

    frame_tells : FrameIsWell well pipe all → TellsRow (take_frame rules at role all).1
    unfolding take_frame
    frame_tells fits =
        by_type (slice_index all 2 == rts) refl (λ e.
        subst (λ (p : Option Pipe). well (packet_of all p) ≡ true) (sym on)
        (fits (eqb-true _ _ e)))

  -- ---- a byte

  -- a frame that came is all bytes, and is read as the message in it
  abbrev IsRead : Came → List Message → Type 0
  IsRead Nothing read = Unit {0}
  IsRead (Head text) read = Unit {0}
  IsRead (Greeting text) read = Unit {0}
  IsRead (Frame place frame) read =
      (frame ≡ all) × (read ≡ message_in pipe all) × FrameIsWell well pipe all
  IsRead (Fault place fault) read = Unit {0}
  IsRead (Over told) read = Unit {0}

  text_came : (i : Intake) (c : Came) (t : Bool) (read : List Message) → IsRead c read
      → IsRead (text_by i all c t).1 read
  text_came i c true read is = is
  text_came i c false read is = tt

  header_came : (i : Intake) (o : Option HeadFault) → HeaderIsWell well pipe all o
      → IsRead (frame_by i all o).1 (frame_read pipe all o).1
  header_came i (Some fault) is = tt
  header_came i None is = by (nat_lt (length all) (frag_of all)) is
    where
      by : (t : Bool) → (t ≡ false → FrameIsWell well pipe all)
          → IsRead (cond t (holds i all) (behind i all, Frame i.place all)).1
          (cond {A = Reading × List Message} t (reading stage.Frames all, [])
          (reading stage.Frames [], message_in pipe all)).1
      by true is = tt
      by false is = (refl, refl, is refl)

  frame_came : (i : Intake) (t : Bool) → (t ≡ false → HeaderIsWell well pipe all (head_fault all))
      → IsRead (cond t (holds i all) (frame_by i all (head_fault all))).1
      (cond {A = Reading × List Message} t (reading stage.Frames all, [])
      (frame_read pipe all (head_fault all))).1
  frame_came i true is = tt
  frame_came i false is = header_came i (head_fault all) (is refl)

  body_came : (i : Intake) (t : Bool) → ByteIsWell well pipe stage.Frames all
      → IsRead (cond t (record i { stage = stage.Shut }, Over (length_told i.body))
      (frame_byte (record i { body = counted 1 i.body }) all)).1
      (read_by pipe stage.Frames all).1
  body_came i true is = tt
  body_came i false is =
      frame_came (record i { body = counted 1 i.body }) (nat_lt (length all) header_length) is

  passed_came : (i : Intake) (t : Bool) (read : List Message)
      → IsRead (cond {A = Intake × Came} t
      (record i { stage = stage.Shut }, Over (length_told i.body))
      (record i { body = counted 1 i.body }, Nothing)).1 read
  passed_came i true read = tt
  passed_came i false read = tt

  by_stage : (i : Intake) (s : Stage) → (is_live s ≡ true → ByteIsWell well pipe s all)
      → IsRead (byte_by s i all).1 (read_by pipe s all).1
  by_stage i stage.Head is = text_came i (Head all) (is_whole_head all) _ tt
  by_stage i stage.Greeting is = text_came i (Greeting all) (is_whole_greeting all) _ tt
  by_stage i stage.Frames is = body_came i (is_full i.body) (is refl)
  by_stage i stage.PassedOver is = passed_came i (is_full i.body) _
  by_stage i stage.Shut is = tt

  -- ---- what became whole

  -- the node stops for a row that refuses what was read
  abbrev TellsStop : List Message → Option Stop → Type 0
  TellsStop read None = Unit {0}
  TellsStop read (Some why) =
      refused_by why.cause ≡ Some r → (read ≡ message_in pipe all) × Says

  module _ (end : NearEnd) (here : end.leg ≡ leg) (on : end.pipe ≡ pipe) where
    head_tells : (read : List Message) (text : List ℕ) (x : S × Result HeadTaken HeadRefused)
        → TellsStop read (behind_head end (head_row end.leg (length text) x)).stop
    head_tells read text (s, Ok taken) = tt
    head_tells read text (s, Err (head.Request fault)) = λ e. absurd cc
    head_tells read text (s, Err (head.Response fault)) = λ e. absurd cc
    head_tells read text (s, Err (head.Status status)) = λ e. absurd cc

    greeting_tells : (read : List Message) (text : List ℕ) (t : Bool)
        → TellsStop read (cond t (goes (begun_body end stage.Frames None) role)
        (stops end role (stop (cause.Unexpected end.leg 0)))).stop
    greeting_tells read text true = tt
    greeting_tells read text false = λ e. absurd cc

    behind_tells : (read : List Message) (x : S × Result Count Cause) → TellsRow x.1
        → read ≡ message_in pipe all → TellsStop read (behind_frame end x).stop
    behind_tells read (s, Ok next) says is = tt
    behind_tells read (s, Err why) says is = λ e. (is, says e)

    came_tells : (read : List Message) (c : Came) → IsRead c read
        → TellsStop read (take rules end role c).stop
    unfolding take
    came_tells read Nothing is = tt
    came_tells read (Head text) is = head_tells read text (rules.head role end.leg text)
    came_tells read (Greeting text) is = greeting_tells read text (is_greeting text)
    came_tells read (Frame place frame) is =
        subst (λ (f : List ℕ). TellsStop read
        (behind_frame end (take_frame rules (heading end place) role f)).stop) (sym is.0)
        (behind_tells read (take_frame rules (heading end place) role all)
        (frame_tells (heading end place) here on is.2) is.1)
    came_tells read (Fault place fault) is = λ e. absurd cc
    came_tells read (Over told) is = λ e. absurd cc

-- ---- a node

module _ {S : Type 0} (well : Answers)
    (strict : (command value : ℕ) → well (Err (unread.Sig (sig.OutOfRange command value))) ≡ false)
    (rules : Rules S) (leg : Leg) (pipe : Option Pipe) (r : Refused) (b : ℕ) where
  -- what the byte makes whole at an end
  module _ (role : S) (end : NearEnd) where
    abbrev all : List ℕ
    all = end.intake.held ++ b ∷ []

    abbrev read : List Message
    read = (read_byte pipe (reading end.intake.stage end.intake.held) b).1

    abbrev TellsAt : Option Stop → Type 0
    TellsAt o = TellsStop well strict rules role leg pipe r all read o

    byte_came : (is_live end.intake.stage ≡ true → ByteIsWell well pipe end.intake.stage all)
        → IsRead well strict rules role leg pipe r all (on_byte end.intake b).1 read
    unfolding on_byte read_byte
    byte_came is = by_stage well strict rules role leg pipe r all end.intake end.intake.stage is

    byte_tells : (now : ℕ) → end.leg ≡ leg → end.pipe ≡ pipe
        → (is_live end.intake.stage ≡ true → ByteIsWell well pipe end.intake.stage all)
        → TellsAt (heard rules now end role b).stop
    byte_tells now here on is =
        came_tells well strict rules role leg pipe r all
        (with_intake (touched end now) (on_byte end.intake b).0) here on read
        (on_byte end.intake b).1 (byte_came is)

  -- the cause is that of the stop
  closed_by : (s : Shell S) (l : Leg) (why : Cause) (o : Option Stop) → s.course ≡ Going
      → ClosedWith why (stopped s l o).course → (x : Stop) × (o ≡ Some x) × (x.cause ≡ why)
  closed_by s l why None going closed = absurd (subst (ClosedWith why) going closed)
  closed_by s l why (Some x) going closed = (x, refl, by x.refusal closed)
    where
      by : (o : Option Refusal) → ClosedWith why (stop_by s l x.cause o).course → x.cause ≡ why
      by None same = same
      by (Some refusal) same = same

  pub byte_refused : (s : Shell S) (why : Cause) (end : NearEnd) (came put : List Message)
      (heard_so drawn : List ℕ) → s.course ≡ Going → end_at s leg ≡ Some end → end.leg ≡ leg
      → Seated rules s.role pipe came put heard_so drawn end
      → ByteIsWell well pipe (reading_after pipe (begin pipe) heard_so).stage
      ((reading_after pipe (begin pipe) heard_so).held ++ b ∷ [])
      → ((x y : List ℕ) → messages_read pipe (x ++ y)
      ≡ messages_read pipe x ++ messages_from pipe (reading_after pipe (begin pipe) x) y)
      → ClosedWith why (bytes_by rules s leg (b ∷ []) s.course).course → refused_by why ≡ Some r
      → RefusesNext rules s.role leg r pipe came (heard_so ++ b ∷ [])
  unfolding hear hear_byte read_byte
  byte_refused s why end came put heard_so drawn going at here sits fits parts closed tells =
      by (is_over rules end s.role) refl
      (turns (subst (λ (o : Option NearEnd).
      ClosedWith why (bytes_at rules s leg (b ∷ []) o).course)
      at (subst (λ (c : Course). ClosedWith why (bytes_by rules s leg (b ∷ []) c).course) going
      closed)))
    where
      turn : Bool → Turn S
      turn t = cond t (goes end s.role) (heard rules s.now end s.role b)

      Stops : Bool → Type 0
      Stops t =
          ClosedWith why
          (stopped (with_end s leg (turn t).end (turn t).role) leg (turn t).stop).course

      turns : ClosedWith why (bytes_at rules s leg (b ∷ []) (Some end)).course
          → Stops (is_over rules end s.role)
      turns c = c

      by : (t : Bool) → is_over rules end s.role ≡ t → Stops t
          → RefusesNext rules s.role leg r pipe came (heard_so ++ b ∷ [])
      by true e closes =
          let bad = closed_by (with_end s leg end s.role) leg why None going closes in absurd cc
      by false e closes =
          let t : Turn S = heard rules s.now end s.role b in
          let stop = closed_by (with_end s leg t.end t.role) leg why t.stop going closes in
          let says = subst (TellsAt s.role end) stop.1
          (byte_tells s.role end s.now here sits.pipe_is (λ live.
          subst (λ (q : Reading). ByteIsWell well pipe q.stage (q.held ++ b ∷ []))
          (sits.reads e live).after fits)) (ap refused_by stop.2 ∙ tells) in
          let one = says.0 ∙ says.1.is in
          let seat = sits.reads e (live end.intake.stage says.1.message one) in record {
            message = says.1.message;
            next =
                parts heard_so (b ∷ [])
                ∙ ap (λ (q : Reading).
                messages_read pipe heard_so ++ ((read_byte pipe q b).1 ++ []))
                seat.after
                ∙ ap (λ (ms : List Message). messages_read pipe heard_so ++ ms)
                (append-nil (read s.role end) ∙ one)
                ∙ ap (λ (ms : List Message). ms ++ says.1.message ∷ []) (sym seat.all);
            refuses = says.1.refuses;
          }
        where
          live : (st : Stage) (m : Message)
              → (read_byte pipe (reading st end.intake.held) b).1 ≡ m ∷ [] → is_live st ≡ true
          live stage.Head m f = refl
          live stage.Greeting m f = refl
          live stage.Frames m f = refl
          live stage.PassedOver m f = absurd cc
          live stage.Shut m f = absurd cc
