-- messages that may go on a pipe, as frames of a stream
use Rattle.law_order.proofs.Vocabulary.{◌≡◌, ◌++◌, ◌&&◌, ◌||◌, not, ℕ, Bool, true, false, List, [], ◌∷◌, drop, map, refl, ap, ap₂, ◌∙◌, subst, if◌then◌else◌, Some, None, Ok, Result, slice_index, eq-eqb, ne_eqb, get_or, AllByRecursion, concat, IsPrefix}
use Rattle.std.specs.Prelude.{MatchResult}
use Rattle.rh_pdu.specs.Frames.{IsFrame, IsPdu}
use Rattle.rh_pdu.specs.Header.{rts}
use Rattle.rh_rts.specs.Commands.{HaveSizes}
use Rattle.rh_rts.specs.Packets.{IsPacket, Parts}
use Rattle.rh_rts.specs.Reading.{read_packet}
use Rattle.rh_sig.proofs.Table.{name_found}
use Rattle.rh_sig.specs.declared.fault.SigFault.{SigFault}
use Rattle.rh_sig.specs.declared.name.Pipe.{Pipe}
use Rattle.rh_sig.specs.declared.named.Named.{Named}
use Rattle.rh_sig.specs.Names.{IsCarried}
use Rattle.rh_sig.specs.Naming.{name_on, named_bytes, named_of}
use Rattle.rh_sig.specs.Values.{AreInRange, IsRefused, MayBeWritten, ReadsAs, commands_of, name_of_named, parts_of}
use Rattle.rh_shell.specs.Rules.{Message, Text, Pdu, Packet, spell}
use Rattle.rh_audit.specs.declared.packet.Met.TheVariants as kinds
use Rattle.rh_audit.specs.Packets.{met, met_by, packet_by, packet_on, with_name}
use Rattle.rh_audit.specs.Pipes.{is_upward}
use Rattle.rh_audit.specs.Streams.{stands, stream_is}
use Rattle.law_moves.proofs.Legible.Frames.{packet_type}
use Rattle.law_moves.specs.Carrying.{spelled}
use Rattle.law_moves.specs.Legible.Legible.{MayGo, MayGoOn, ReadsBack}
use Rattle.law_moves.specs.ReadBack.Reading.{AreNoTexts}
use Rattle.law_audit.specs.Streams.Put.{BeginsFrames, IsStreamOf, IsStreamed, behind_text, packet_of, text_of}
use Rattle.law_audit.specs.Streams.Whole.{AllStand}
use Rattle.law_audit.proofs.Streams.FrameFronts.{unbroken}

-- ---- a frame

pub met_pdu : (pipe : Pipe) (pdu : List ℕ) → IsPdu pdu → met pipe pdu ≡ kinds.Pdu
met_pdu pipe pdu is =
    ap (λ t. if t then met_by (packet_on pipe pdu) else kinds.Pdu)
    (ne_eqb (slice_index pdu 2) rts is.not_rts)

-- the laws of packets that this stands on
pub record PacketLaws : Type 0 where
  pub agrees : (p : Parts) (pipe : Pipe) → MatchResult (named_of p pipe)
      (λ named. ReadsAs p pipe named × AreInRange (commands_of named))
      (λ fault. IsRefused p pipe fault)
  pub sound : (named : Named) → MayBeWritten named → HaveSizes (commands_of named)
      → IsPacket (parts_of named)
  pub back : (named : Named) → IsPacket (parts_of named)
      → read_packet (named_bytes named) ≡ Ok (parts_of named)
  pub fine : (named : Named) (pipe : Pipe) → IsCarried (name_of_named named) pipe
      → AreInRange (commands_of named) → named_of (parts_of named) pipe ≡ Ok named

typed : (named : Named) → slice_index (named_bytes named) 2 ≡ rts
unfolding named_bytes
typed named = packet_type (parts_of named)

module _ (law : PacketLaws) where
  has_name : (pipe : Pipe) (named : Named) → MayGo pipe named
      → name_on (parts_of named) pipe ≡ Some (name_of_named named)
  has_name pipe named may =
      let is = law.fine named pipe may.carried may.fine.ranges in
      let reads = subst (λ (r : Result Named SigFault). MatchResult r
      (λ other. ReadsAs (parts_of named) pipe other × AreInRange (commands_of other))
      (λ fault. IsRefused (parts_of named) pipe fault)) is (law.agrees (parts_of named) pipe) in
      name_found (parts_of named) pipe (name_of_named named) reads.0.0

  packet_is : (pipe : Pipe) (named : Named) → MayGo pipe named
      → packet_on pipe (named_bytes named) ≡ Some (packet_of named)
  unfolding packet_on
  packet_is pipe named may =
      ap (packet_by pipe) (law.back named (law.sound named may.fine.destination may.fine.sizes))
      ∙ ap (λ o. with_name o (commands_of named)) (has_name pipe named may)

  pub met_packet : (pipe : Pipe) (named : Named) → MayGo pipe named
      → met pipe (named_bytes named) ≡ kinds.Packet (packet_of named)
  met_packet pipe named may =
      ap (λ t. if t then met_by (packet_on pipe (named_bytes named)) else kinds.Pdu)
      (eq-eqb (slice_index (named_bytes named) 2) rts (typed named))
      ∙ ap met_by (packet_is pipe named may)

  -- ---- it may stand where it does

  later_stand : (pipe : Pipe) (ms : List Message) → AreNoTexts ms
      → AllByRecursion (MayGoOn (Some pipe)) ms → AllStand pipe false (map spell ms)
  later_stand pipe [] no_texts may = tt
  later_stand pipe (Text text ∷ ms) no_texts may = absurd no_texts.0
  later_stand pipe (Pdu pdu ∷ ms) no_texts may = (
    ap (stands pipe false) (met_pdu pipe pdu may.0),
    later_stand pipe ms no_texts.1 may.1,
  )
  later_stand pipe (Packet named ∷ ms) no_texts may = (
    ap (stands pipe false) (met_packet pipe named may.0),
    later_stand pipe ms no_texts.1 may.1,
  )

  first_pdu : (pipe : Pipe) → (is_upward pipe ≡ true → ⊥)
      → not (true && is_upward pipe) ≡ true
  first_pdu pipe never = by (is_upward pipe) never
    where
      by : (t : Bool) → (t ≡ true → ⊥) → not (true && t) ≡ true
      by true never = absurd (never refl)
      by false never = refl

  first_packet : (pipe : Pipe) (b : Bool) → (is_upward pipe ≡ true → b ≡ true)
      → (not (true && is_upward pipe) || b) ≡ true
  first_packet pipe b is = by (is_upward pipe) is
    where
      by : (t : Bool) → (t ≡ true → b ≡ true) → (not (true && t) || b) ≡ true
      by true is = is refl
      by false is = refl

  all_stand : (pipe : Pipe) (ms : List Message) → AreNoTexts ms
      → AllByRecursion (MayGoOn (Some pipe)) ms → BeginsFrames pipe ms
      → AllStand pipe true (map spell ms)
  all_stand pipe [] no_texts may first = tt
  all_stand pipe (Text text ∷ ms) no_texts may first = absurd no_texts.0
  all_stand pipe (Pdu pdu ∷ ms) no_texts may first = (
    ap (stands pipe true) (met_pdu pipe pdu may.0) ∙ first_pdu pipe first,
    later_stand pipe ms no_texts.1 may.1,
  )
  all_stand pipe (Packet named ∷ ms) no_texts may first = (
    ap (stands pipe true) (met_packet pipe named may.0) ∙ first_packet pipe _ first,
    later_stand pipe ms no_texts.1 may.1,
  )

-- ---- messages are frames

module _ (reads : (pipe : Pipe) (message : Message) → MayGoOn (Some pipe) message
    → ReadsBack (Some pipe) message) where
  are_frames : (pipe : Pipe) (ms : List Message) → AreNoTexts ms
      → AllByRecursion (MayGoOn (Some pipe)) ms → AllByRecursion IsFrame (map spell ms)
  are_frames pipe [] no_texts may = tt
  are_frames pipe (Text text ∷ ms) no_texts may = absurd no_texts.0
  are_frames pipe (Pdu pdu ∷ ms) no_texts may =
      ((reads pipe (Pdu pdu) may.0).frame, are_frames pipe ms no_texts.1 may.1)
  are_frames pipe (Packet named ∷ ms) no_texts may =
      ((reads pipe (Packet named) may.0).frame, are_frames pipe ms no_texts.1 may.1)

spells : (ms : List Message) → spelled ms ≡ concat (map spell ms)
spells [] = refl
spells (m ∷ ms) = ap (λ (rest : List ℕ). spell m ++ rest) (spells ms)

pub spells_put : (put : List Message) → spelled put ≡ text_of put ++ concat (map spell (behind_text put))
spells_put [] = refl
spells_put (Text text ∷ ms) = ap (λ (rest : List ℕ). text ++ rest) (spells ms)
spells_put (Pdu pdu ∷ ms) = spells (Pdu pdu ∷ ms)
spells_put (Packet named ∷ ms) = spells (Packet named ∷ ms)

-- a front of their frames is of a front of them
record AreOf (frames : List (List ℕ)) (messages : List Message) : Type 0 where
  front : List Message
  of_messages : IsPrefix front messages
  is : frames ≡ map spell front

first_frame : (frames : List (List ℕ)) → List ℕ → List ℕ
first_frame [] other = other
first_frame (frame ∷ frames) other = frame

are_of : (frames rest : List (List ℕ)) (messages : List Message)
    → frames ++ rest ≡ map spell messages → AreOf frames messages
are_of [] rest messages e = record { front = []; of_messages = (messages, refl); is = refl }
are_of (frame ∷ frames) rest [] e = absurd cc
are_of (frame ∷ frames) rest (m ∷ messages) e =
    let here : frame ≡ spell m = ap (λ (l : List (List ℕ)). get_or l 0 []) e in
    let more = are_of frames rest messages (ap (drop 1) e) in
    record {
      front = m ∷ more.front;
      of_messages = (more.of_messages.0, ap (λ (l : List Message). m ∷ l) more.of_messages.1);
      is = ap₂ (λ (f : List ℕ) (fs : List (List ℕ)). f ∷ fs) here more.is;
    }

-- ---- what is put is a stream

pub streams : PacketLaws → ((pipe : Pipe) (message : Message) → MayGoOn (Some pipe) message
    → ReadsBack (Some pipe) message) → (pipe : Pipe) (put : List Message) (bytes : List ℕ)
    → IsStreamed pipe put → IsPrefix bytes (spelled put)
    → IsStreamOf pipe (behind_text put) bytes
streams law reads pipe put bytes is p =
    let ms = behind_text put in
    let whole = unbroken pipe (text_of put) (map spell ms) bytes is.text
    (are_frames reads pipe ms is.no_texts is.may_go)
    (all_stand law pipe ms is.no_texts is.may_go is.first)
    (subst (λ (all : List ℕ). IsPrefix bytes all) (spells_put put) p) in
    let of = are_of whole.front whole.of_frames.0 ms whole.of_frames.1 in
    record {
      front = of.front;
      of_messages = of.of_messages;
      is = whole.is ∙ ap (λ (fs : List (List ℕ)). stream_is fs None) of.is;
    }
