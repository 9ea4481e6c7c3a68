-- a byte that closes a node since what came is amiss makes the message whole that a row refuses, or
-- a Ping that comes first
use Rattle.law_order.proofs.Vocabulary.{◌≡◌, ◌⊎◌, inl, inr, ℕ, List, [], ◌∷◌, ◌++◌, length, cond, Bool, true, false, nat_lt, Some, None, Ok, Err, refl, sym, ap, ◌∙◌, subst, eqb-true, slice_index, ◌==◌, ◌&&◌, Option, Result}
use Rattle.rh_sig.specs.declared.fault.SigFault.TheVariants as sig
use Rattle.rh_line.specs.declared.cause.Cause.TheVariants as cause
use Rattle.rh_shell.specs.Hearing.{cause_of}
use Rattle.rh_shell.specs.Intakes.{Over, behind}
use Rattle.rh_shell.specs.declared.answers.HeadRefused.TheVariants as head
use Rattle.rh_shell.specs.declared.answers.Refused.TheVariants as refused
use Rattle.rh_shell.specs.declared.reading.PacketFault.TheVariants as unread
use Rattle.rh_shell.specs.declared.stage.Stage.TheVariants as stage
use Rattle.law_moves.proofs.Vocabulary.{HeadFault, rts, header_length, frag_of, head_fault, Pipe, Named, Ping, Leg, Cause, Count, HeadRefused, HeadTaken, Refused, Heading, PacketFault, Stage, Stop, goes, stops, stop, head_row, begun_body, behind_head, behind_frame, row_by, close_row, one_more, is_zero, is_upward, is_ping, take_ping, take_packet, take_frame, is_greeting, heading, touched, with_intake, take, heard, Intake, Came, Nothing, Head, Greeting, Frame, Fault, on_byte}
use Rattle.law_moves.proofs.Vocabulary.{byte_by, text_by, frame_by, frame_byte, holds, is_whole_head, is_whole_greeting, is_full, length_told, counted, NearEnd, packet_of, Message, Pdu, Packet, Rules, Row, message_in, named_messages, Reading, frame_read, read_by, read_byte, reading, Answers, ByteIsWell, FrameIsWell, HeaderIsWell}
use Rattle.law_node_streams.specs.Streams.{is_live}
use Rattle.law_world_expected.specs.Amiss.{amiss_by, RefusesBy}

-- a cause that tells of a refusal is that of it
kept : (leg : Leg) (place : ℕ) (why r : Refused) → amiss_by (cause_of leg place why) ≡ Some r
    → why ≡ r
kept leg place refused.Unexpected r e = cc
kept leg place (refused.Cookie expected got) r e = cc
kept leg place (refused.Window window) r e = absurd cc
kept leg place (refused.OutOfRange command value) r e = absurd cc
kept leg place (refused.Full full) r e = cc

pub ping_is : (named : Named) → is_ping named ≡ true → named ≡ Ping
ping_is Ping e = refl
ping_is named e = absurd cc

-- ---- what is amiss

-- the bytes are one message, and a row refuses it
pub record Says {S : Type 0} (rules : Rules S) (role : S) (leg : Leg) (pipe : Option Pipe)
    (count : Count) (r : Refused) (all : List ℕ) : Type 0 where
  pub message : Message
  pub is : message_in pipe all ≡ message ∷ []
  pub refuses : RefusesBy rules role leg count r message

-- they are a frame with a Ping
pub record IsPing (pipe : Option Pipe) (all : List ℕ) : Type 0 where
  pub frame : slice_index all 2 == rts ≡ true
  pub ping : packet_of all pipe ≡ Ok Ping

-- and that comes first, towards the server
pub record IsFirstPing (pipe : Option Pipe) (count : Count) (r : Refused) (all : List ℕ)
    : Type 0 where
  pub unexpected : r ≡ refused.Unexpected
  pub none : is_zero count ≡ true
  pub upward : is_upward pipe ≡ true
  pub is : IsPing pipe all

-- where what comes reads well, each packet has a name, as far as this is refused for its lack
abbrev pub HaveNames : Answers → Refused → Type 0
HaveNames well r = r ≡ refused.Unexpected → well (Err (unread.Sig sig.Unknown)) ≡ false

module _ {S : Type 0} (rules : Rules S) (role : S) (leg : Leg) (pipe : Option Pipe)
    (count : Count) (r : Refused) (well : Answers) (named : HaveNames well r) (all : List ℕ) where
  abbrev pub IsAmissHere : Type 0
  IsAmissHere = Says rules role leg pipe count r all ⊎ IsFirstPing pipe count r all

  abbrev IsTold : Result Count Cause → Type 0
  IsTold (Ok next) = Unit {0}
  IsTold (Err why) = amiss_by why ≡ Some r → IsAmissHere

  module _ (place : ℕ) where
    abbrev at : Heading
    at = record { leg = leg; pipe = pipe; place = place; count = count }

    row_told : (next : Count) (m : Message) (row : Row) → message_in pipe all ≡ m ∷ []
        → (row ≡ Err r → RefusesBy rules role leg count r m) → IsTold (row_by at next row)
    row_told next m (Ok taken) is refuses = tt
    row_told next m (Err why) is refuses = λ e. inl (record {
      message = m;
      is = is;
      refuses = refuses (ap (λ (x : Refused). Err x) (kept leg place why r e));
    })

    pdu_told : slice_index all 2 == rts ≡ false
        → IsTold (close_row at count (rules.pdu role leg count all)).1
    pdu_told other =
        row_told count (Pdu all) (rules.pdu role leg count all).1
        (ap (λ (t : Bool). cond t (named_messages (packet_of all pipe)) (Pdu all ∷ [])) other)
        (λ e. e)

    ping_told : IsPing pipe all → (zero upward : Bool) → is_zero count ≡ zero
        → is_upward pipe ≡ upward
        → IsTold (cond (zero && upward) (Err (cause.Unexpected leg place)) (Ok count))
    ping_told ping true true z u = λ e.
        let same : r ≡ refused.Unexpected = cc in
        inr (record { unexpected = same; none = z; upward = u; is = ping })
    ping_told ping true false z u = tt
    ping_told ping false upward z u = tt

    named_told : (one : Named) (t : Bool) → is_ping one ≡ t → slice_index all 2 == rts ≡ true
        → packet_of all pipe ≡ Ok one → message_in pipe all ≡ cond t [] (Packet one ∷ [])
        → IsTold (cond {A = S × Result Count Cause} t (role, take_ping at)
        (close_row at (one_more count) (rules.packet role leg count one))).1
    named_told one true e frame reads is =
        ping_told (record {
          frame = frame;
          ping = reads ∙ ap (λ (x : Named). Ok x) (ping_is one e);
        }) (is_zero count) (is_upward pipe) refl refl
    named_told one false e frame reads is =
        row_told (one_more count) (Packet one) (rules.packet role leg count one).1 is (λ x. x)

    packet_told : (x : Result Named PacketFault) → packet_of all pipe ≡ x
        → slice_index all 2 == rts ≡ true → well x ≡ true
        → message_in pipe all ≡ named_messages x → IsTold (take_packet rules at role x).1
    packet_told (Ok one) e frame fits is = named_told one (is_ping one) refl frame e is
    packet_told (Err (unread.Rts fault)) e frame fits is = λ f. absurd cc
    packet_told (Err (unread.Sig sig.Unknown)) e frame fits is = λ f.
        let same : r ≡ refused.Unexpected = cc in
        absurd (let bad : true ≡ false = sym fits ∙ named same in cc)
    packet_told (Err (unread.Sig (sig.OutOfRange command value))) e frame fits is = λ f. absurd cc

    by_type : (t : Bool) → slice_index all 2 == rts ≡ t
        → (t ≡ true → well (packet_of all pipe) ≡ true)
        → IsTold (cond {A = S × Result Count Cause} t
        (take_packet rules at role (packet_of all pipe))
        (close_row at count (rules.pdu role leg count all))).1
    by_type true e fits =
        packet_told (packet_of all pipe) refl e (fits refl)
        (ap (λ (t : Bool). cond t (named_messages (packet_of all pipe)) (Pdu all ∷ [])) e)
    by_type false e fits = pdu_told e

    frame_told : FrameIsWell well pipe all → IsTold (take_frame rules at role all).1
    unfolding take_frame
    frame_told fits = by_type (slice_index all 2 == rts) refl (λ e. fits (eqb-true _ _ e))

-- ---- a byte

-- these bytes were a frame, and then come frames
abbrev pub IsWhole : Option Pipe → List ℕ → Reading × List Message → Type 0
IsWhole pipe all read = read ≡ (reading stage.Frames [], message_in pipe all)

module _ (well : Answers) (pipe : Option Pipe) (all : List ℕ) where
  -- a frame that came is all bytes, and is read as the message in it; a greeting is one
  abbrev pub IsRead : Stage → Came → Reading × List Message → Type 0
  IsRead st Nothing read = Unit {0}
  IsRead st (Head text) read = Unit {0}
  IsRead st (Greeting text) read = is_greeting text ≡ true
  IsRead st (Frame place frame) read =
      (frame ≡ all) × IsWhole pipe all read × FrameIsWell well pipe all × (st ≡ stage.Frames)
  IsRead st (Fault place fault) read = Unit {0}
  IsRead st (Over told) read = Unit {0}

  text_came : (i : Intake) (st : Stage) (c : Came) (t : Bool) (read : Reading × List Message)
      → (t ≡ true → IsRead st c read) → IsRead st (text_by i all c t).1 read
  text_came i st c true read is = is refl
  text_came i st c false read is = tt

  header_came : (i : Intake) (o : Option HeadFault) → HeaderIsWell well pipe all o
      → IsRead stage.Frames (frame_by i all o).1 (frame_read pipe all o)
  header_came i (Some fault) is = tt
  header_came i None is = by (nat_lt (length all) (frag_of all)) is
    where
      by : (t : Bool) → (t ≡ false → FrameIsWell well pipe all)
          → IsRead stage.Frames
          (cond {A = Intake × Came} t (holds i all) (behind i all, Frame i.place all)).1
          (cond {A = Reading × List Message} t (reading stage.Frames all, [])
          (reading stage.Frames [], message_in pipe all))
      by true is = tt
      by false is = (refl, refl, is refl, refl)

  frame_came : (i : Intake) (t : Bool) → (t ≡ false → HeaderIsWell well pipe all (head_fault all))
      → IsRead stage.Frames (cond t (holds i all) (frame_by i all (head_fault all))).1
      (cond {A = Reading × List Message} t (reading stage.Frames all, [])
      (frame_read pipe all (head_fault all)))
  frame_came i true is = tt
  frame_came i false is = header_came i (head_fault all) (is refl)

  body_came : (i : Intake) (t : Bool) → ByteIsWell well pipe stage.Frames all
      → IsRead stage.Frames (cond {A = Intake × Came} t
      (record i { stage = stage.Shut }, Over (length_told i.body))
      (frame_byte (record i { body = counted 1 i.body }) all)).1
      (read_by pipe stage.Frames all)
  body_came i true is = tt
  body_came i false is =
      frame_came (record i { body = counted 1 i.body }) (nat_lt (length all) header_length) is

  passed_came : (i : Intake) (t : Bool) (read : Reading × List Message)
      → IsRead stage.PassedOver (cond {A = Intake × Came} t
      (record i { stage = stage.Shut }, Over (length_told i.body))
      (record i { body = counted 1 i.body }, Nothing)).1 read
  passed_came i true read = tt
  passed_came i false read = tt

  by_stage : (i : Intake) (s : Stage) → (is_live s ≡ true → ByteIsWell well pipe s all)
      → IsRead s (byte_by s i all).1 (read_by pipe s all)
  by_stage i stage.Head is =
      text_came i stage.Head (Head all) (is_whole_head all) (read_by pipe stage.Head all) (λ e. tt)
  by_stage i stage.Greeting is =
      text_came i stage.Greeting (Greeting all) (is_whole_greeting all)
      (read_by pipe stage.Greeting all) (is refl)
  by_stage i stage.Frames is = body_came i (is_full i.body) (is refl)
  by_stage i stage.PassedOver is =
      passed_came i (is_full i.body) (read_by pipe stage.PassedOver all)
  by_stage i stage.Shut is = tt

  -- the intake's stage
  pub byte_came : (i : Intake) (b : ℕ) → i.held ++ b ∷ [] ≡ all
      → (is_live i.stage ≡ true → ByteIsWell well pipe i.stage all)
      → IsRead i.stage (on_byte i b).1 (read_by pipe i.stage all)
  unfolding on_byte
  byte_came i b e is =
      subst (λ (bytes : List ℕ). IsRead i.stage (byte_by i.stage i bytes).1
      (read_by pipe i.stage all)) (sym e) (by_stage i i.stage is)

-- ---- what became whole

module _ {S : Type 0} (rules : Rules S) (role : S) (r : Refused) (well : Answers)
    (named : HaveNames well r) (all : List ℕ) (st : Stage) (read : Reading × List Message)
    (end : NearEnd) where
  -- the node stops for a frame that is amiss
  pub record StopsAmiss : Type 0 where
    pub frames : st ≡ stage.Frames
    pub whole : IsWhole end.pipe all read
    pub how : IsAmissHere rules role end.leg end.pipe end.count r well named all

  abbrev pub IsToldAt : Option Stop → Type 0
  IsToldAt None = Unit {0}
  IsToldAt (Some why) = amiss_by why.cause ≡ Some r → StopsAmiss

  head_told : (text : List ℕ) (x : S × Result HeadTaken HeadRefused)
      → IsToldAt (behind_head end (head_row end.leg (length text) x)).stop
  head_told text (s, Ok taken) = tt
  head_told text (s, Err (head.Request fault)) = λ e. absurd cc
  head_told text (s, Err (head.Response fault)) = λ e. absurd cc
  head_told text (s, Err (head.Status status)) = λ e. absurd cc

  greeting_told : (t : Bool) → t ≡ true
      → IsToldAt (cond t (goes (begun_body end stage.Frames None) role)
      (stops end role (stop (cause.Unexpected end.leg 0)))).stop
  greeting_told true is = tt
  greeting_told false is = λ e. absurd cc

  behind_told : (x : S × Result Count Cause)
      → IsTold rules role end.leg end.pipe end.count r well named all x.1
      → IsWhole end.pipe all read → st ≡ stage.Frames → IsToldAt (behind_frame end x).stop
  behind_told (s, Ok next) says whole frames = tt
  behind_told (s, Err why) says whole frames = λ e.
      record { frames = frames; whole = whole; how = says e }

  pub came_told : (c : Came) → IsRead well end.pipe all st c read
      → IsToldAt (take rules end role c).stop
  unfolding take
  came_told Nothing is = tt
  came_told (Head text) is = head_told text (rules.head role end.leg text)
  came_told (Greeting text) is = greeting_told (is_greeting text) is
  came_told (Frame place frame) is =
      subst (λ (f : List ℕ). IsToldAt
      (behind_frame end (take_frame rules (heading end place) role f)).stop) (sym is.0)
      (behind_told (take_frame rules (heading end place) role all)
      (frame_told rules role end.leg end.pipe end.count r well named all place is.2) is.1 is.3)
  came_told (Fault place fault) is = λ e. absurd cc
  came_told (Over told) is = λ e. absurd cc

-- a byte that is heard at the end of a leg
module _ {S : Type 0} (rules : Rules S) (role : S) (r : Refused) (well : Answers)
    (named : HaveNames well r) (end : NearEnd) (b : ℕ) where
  abbrev pub held_with : List ℕ
  held_with = end.intake.held ++ b ∷ []

  pub record ByteAmiss : Type 0 where
    pub frames : end.intake.stage ≡ stage.Frames
    pub whole : IsWhole end.pipe held_with (read_byte end.pipe
        (reading end.intake.stage end.intake.held) b)
    pub how : IsAmissHere rules role end.leg end.pipe end.count r well named held_with

  abbrev pub StopsByByte : Option Stop → Type 0
  StopsByByte None = Unit {0}
  StopsByByte (Some why) = amiss_by why.cause ≡ Some r → ByteAmiss

  pub byte_told : (now : ℕ)
      → (is_live end.intake.stage ≡ true
      → ByteIsWell well end.pipe end.intake.stage held_with)
      → StopsByByte (heard rules now end role b).stop
  unfolding read_byte
  byte_told now is =
      by (heard rules now end role b).stop
      (came_told rules role r well named held_with end.intake.stage
      (read_by end.pipe end.intake.stage held_with)
      (with_intake (touched end now) (on_byte end.intake b).0) (on_byte end.intake b).1
      (byte_came well end.pipe held_with end.intake b refl is))
    where
      by : (o : Option Stop)
          → IsToldAt rules role r well named held_with end.intake.stage
          (read_by end.pipe end.intake.stage held_with)
          (with_intake (touched end now) (on_byte end.intake b).0) o → StopsByByte o
      by None told = tt
      by (Some why) told = λ e.
          let says = told e in
          record { frames = says.frames; whole = says.whole; how = says.how }
