-- what is seen in the bytes of a leg towards the server is a front of what was put there, and has
-- all that came
use Rattle.law_order.proofs.Vocabulary.{◌≡◌, ℕ, suc, List, [], ◌∷◌, ◌++◌, length, map, refl, sym, ap, ◌∙◌, subst, inl, inr, Some, Option, AllByRecursion, IsPrefix, arith}
use Rattle.rh_shell.specs.declared.stage.Stage.TheVariants as stage
use Rattle.rh_pdu.proofs.Framing as framing
use Rattle.rh_pdu.specs.Frames.{IsPdu}
use Rattle.rh_sig.specs.declared.name.Pipe.{Pipe}
use Rattle.rh_audit.specs.declared.packet.Met.{Met}
use Rattle.rh_audit.specs.declared.packet.Met.TheVariants as kinds
use Rattle.rh_audit.specs.Packets.{met}
use Rattle.rh_audit.specs.Streams.{Stream, mets, stream}
use Rattle.law_moves.proofs.Vocabulary.{Named, Message, Text, Pdu, Packet, spell, spelled, IsNoText, AreNoTexts, Begins, BeginsBy, Stage, first_stage, all_read_of, messages_read, nil_front}
use Rattle.law_moves.specs.Legible.Legible.{MayGo, MayGoOn}
use Rattle.law_audit.specs.Streams.Put.{IsStreamOf, behind_text}
use Rattle.law_peers_chains.specs.Shown.{IsShown, framed, mets_of, packet_of}
use Rattle.law_peers_chains.specs.Whole.{AreRead, AreWhole, lead}
use Rattle.law_world_audited.specs.Moving.Streams.{MayBegin}
use Rattle.law_world_audited.proofs.LegsInChains.AllWhole.{all_whole, none_whole}

-- ---- frames

framed_no_texts : (put : List Message) → AreNoTexts (framed put)
framed_no_texts [] = tt
framed_no_texts (Text text ∷ put) = framed_no_texts put
framed_no_texts (Pdu pdu ∷ put) = (tt, framed_no_texts put)
framed_no_texts (Packet named ∷ put) = (tt, framed_no_texts put)

framed_all : (P : Message → Type 0) (put : List Message) → AllByRecursion P put
    → AllByRecursion P (framed put)
framed_all P [] all = tt
framed_all P (Text text ∷ put) all = framed_all P put all.1
framed_all P (Pdu pdu ∷ put) all = (all.0, framed_all P put all.1)
framed_all P (Packet named ∷ put) all = (all.0, framed_all P put all.1)

front_all : (P : Message → Type 0) (front rest : List Message)
    → AllByRecursion P (front ++ rest) → AllByRecursion P front
front_all P [] rest all = tt
front_all P (m ∷ front) rest all = (all.0, front_all P front rest all.1)

no_texts_framed : (ms : List Message) → AreNoTexts ms → framed ms ≡ ms
no_texts_framed [] h = refl
no_texts_framed (Text text ∷ ms) h = absurd h.0
no_texts_framed (Pdu pdu ∷ ms) h =
    ap (λ (x : List Message). Pdu pdu ∷ x) (no_texts_framed ms h.1)
no_texts_framed (Packet named ∷ ms) h =
    ap (λ (x : List Message). Packet named ∷ x) (no_texts_framed ms h.1)

framed_behind : (put : List Message) → AreNoTexts (behind_text put)
    → framed put ≡ behind_text put
framed_behind [] h = refl
framed_behind (Text text ∷ put) h = no_texts_framed put h
framed_behind (Pdu pdu ∷ put) h = no_texts_framed (Pdu pdu ∷ put) h
framed_behind (Packet named ∷ put) h = no_texts_framed (Packet named ∷ put) h

spell_length : (ms : List Message) → length (map spell ms) ≡ length ms
spell_length [] = refl
spell_length (m ∷ ms) = ap suc (spell_length ms)

-- fronts of one length are one
one_front : (a b all : List Message) → IsPrefix a all → IsPrefix b all → length a ≡ length b
    → a ≡ b
one_front [] [] all p q same = refl
one_front [] (y ∷ b) all p q same = absurd (omega (arith, same))
one_front (x ∷ a) [] all p q same = absurd (omega (arith, same))
one_front (x ∷ a) (y ∷ b) all p q same =
    let both : x ∷ (a ++ p.0) ≡ y ∷ (b ++ q.0) = p.1 ∙ sym q.1 in
    let first : x ≡ y = cc in
    let rest : a ++ p.0 ≡ b ++ q.0 = cc in
    ap (λ (m : Message). m ∷ a) first
    ∙ ap (λ (ms : List Message). y ∷ ms)
    (one_front a b (b ++ q.0) (p.0, rest) (q.0, refl) (omega (arith, same)))

-- what begins as an end reads it has no text but the first message
no_texts_behind : (pipe : Option Pipe) (s : Stage) (put : List Message) → BeginsBy pipe s put
    → AreNoTexts (behind_text put)
no_texts_behind pipe s [] begins = tt
no_texts_behind pipe stage.Head (Text text ∷ put) (inl h) = h.1
no_texts_behind pipe stage.Head (Text text ∷ put) (inr h) = subst AreNoTexts (sym h.1) tt
no_texts_behind pipe stage.Head (Pdu pdu ∷ put) begins = absurd begins
no_texts_behind pipe stage.Head (Packet named ∷ put) begins = absurd begins
no_texts_behind pipe stage.Greeting (Text text ∷ put) (inl h) = h.1
no_texts_behind pipe stage.Greeting (Text text ∷ put) (inr h) = subst AreNoTexts (sym h.1) tt
no_texts_behind pipe stage.Greeting (Pdu pdu ∷ put) begins = absurd begins
no_texts_behind pipe stage.Greeting (Packet named ∷ put) begins = absurd begins
no_texts_behind pipe stage.Frames (Text text ∷ put) begins = absurd begins.0
no_texts_behind pipe stage.Frames (Pdu pdu ∷ put) begins = begins
no_texts_behind pipe stage.Frames (Packet named ∷ put) begins = begins
no_texts_behind pipe stage.PassedOver (m ∷ put) begins = absurd begins
no_texts_behind pipe stage.Shut (m ∷ put) begins = absurd begins

pub behind_no_texts : (pipe : Option Pipe) (put : List Message) → Begins pipe put
    → AreNoTexts (behind_text put)
behind_no_texts pipe put begins = no_texts_behind pipe (first_stage pipe) put begins

-- ---- the laws that this stands on

pub record SeenLaws : Type 0 where
  pub pdu : (pipe : Pipe) (pdu : List ℕ) → IsPdu pdu → met pipe pdu ≡ kinds.Pdu
  pub packet : (pipe : Pipe) (named : Named) → MayGo pipe named
      → met pipe (spell (Packet named)) ≡ kinds.Packet (packet_of named)
  pub read : (pipe : Pipe) (put : List Message) (bytes : List ℕ) (frames : List (List ℕ))
      → Begins (Some pipe) put → AllByRecursion (MayGoOn (Some pipe)) put
      → IsPrefix bytes (spelled put) → AreWhole (lead put) bytes frames
      → AreRead pipe put bytes frames

module _ (law : SeenLaws) (pipe : Pipe) where
  met_spelled : (ms : List Message) → AreNoTexts ms → AllByRecursion (MayGoOn (Some pipe)) ms
      → map (met pipe) (map spell ms) ≡ mets_of ms
  met_spelled [] no_texts may = refl
  met_spelled (Text text ∷ ms) no_texts may = absurd no_texts.0
  met_spelled (Pdu pdu ∷ ms) no_texts may =
      ap (λ (m : Met). m ∷ map (met pipe) (map spell ms)) (law.pdu pipe pdu may.0)
      ∙ ap (λ (x : List Met). kinds.Pdu ∷ x) (met_spelled ms no_texts.1 may.1)
  met_spelled (Packet named ∷ ms) no_texts may =
      ap (λ (m : Met). m ∷ map (met pipe) (map spell ms)) (law.packet pipe named may.0)
      ∙ ap (λ (x : List Met). kinds.Packet (packet_of named) ∷ x)
      (met_spelled ms no_texts.1 may.1)

  module _ (put came : List Message) (bytes : List ℕ) (begins : Begins (Some pipe) put)
      (may : AllByRecursion (MayGoOn (Some pipe)) put) (front : IsPrefix bytes (spelled put))
      (of : IsStreamOf pipe (behind_text put) bytes) where
    whole : MayBegin pipe put → AreWhole (lead put) bytes (map spell of.front)
    whole (inl none) =
        let nothing : behind_text put ≡ [] = ap behind_text none in
        let empty = nil_front of.front of.of_messages.0 (of.of_messages.1 ∙ nothing) in
        none_whole put bytes (map spell of.front) none front
        (ap (λ (ms : List Message). map spell ms) empty) (framing.frames_joined [] tt).0
    whole (inr fine) = all_whole pipe put bytes fine.text (map spell of.front) of.is front

    -- its messages are those that are read of the bytes
    same_front : (all : AreRead pipe put bytes (map spell of.front)) → AreNoTexts (behind_text put)
        → of.front ≡ all.messages
    same_front all no_texts =
        one_front of.front all.messages (behind_text put) of.of_messages
        (subst (IsPrefix all.messages) (framed_behind put no_texts) all.of_put)
        (sym (spell_length of.front) ∙ ap length all.are ∙ spell_length all.messages)

    pub came_there : MayBegin pipe put → AreNoTexts (behind_text put)
        → IsPrefix came (messages_read (Some pipe) bytes)
        → IsPrefix came (all_read_of of.front)
    came_there begun no_texts read =
        let all = law.read pipe put bytes (map spell of.front) begins may front (whole begun) in
        subst (λ (ms : List Message). IsPrefix came (all_read_of ms))
        (sym (same_front all no_texts)) (subst (IsPrefix came) all.read read)

    pub shown : MayBegin pipe put → IsPrefix came (messages_read (Some pipe) bytes)
        → IsShown put came (mets pipe (stream pipe bytes))
    shown begun read =
        let all = law.read pipe put bytes (map spell of.front) begins may front (whole begun) in
        let all_may = front_all (MayGoOn (Some pipe)) all.messages all.of_put.0
        (subst (AllByRecursion (MayGoOn (Some pipe))) (sym all.of_put.1)
        (framed_all (MayGoOn (Some pipe)) put may)) in
        let no_texts = front_all IsNoText all.messages all.of_put.0
        (subst AreNoTexts (sym all.of_put.1) (framed_no_texts put)) in
        record {
          front = all.messages;
          is = ap (λ (s : Stream). mets pipe s) of.is ∙ ap (map (met pipe)) all.are
              ∙ met_spelled all.messages no_texts all_may;
          of_put = all.of_put;
          of_came = subst (IsPrefix came) all.read read;
        }
