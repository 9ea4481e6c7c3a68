-- the frames of messages, and the items in them
use Rattle.law_order.proofs.Vocabulary.{◌≡◌, ◌++◌, ◌||◌, ℕ, Bool, if◌then◌else◌, List, [], ◌∷◌, map, refl, sym, ap, ap₂, ◌∙◌, Some, AllByRecursion, Item, has_handover, seen}
use Rattle.law_order.proofs.ItemLists.{has_handover-append, pdus-append}
use Rattle.law_order.specs.Items as items
use Rattle.rh_pdu.specs.Frames.{IsPdu}
use Rattle.rh_sig.specs.declared.name.Pipe.{Pipe}
use Rattle.rh_sig.specs.declared.named.Named.{Named}
use Rattle.rh_shell.specs.Rules.{Message, Text, Pdu, Packet, spell}
use Rattle.rh_audit.specs.declared.packet.Met.{Met}
use Rattle.rh_audit.specs.declared.packet.Met.TheVariants as kinds
use Rattle.rh_audit.specs.Packets.{is_mark, is_pdu, met}
use Rattle.rh_audit.specs.Streams.{is_marked, pdus}
use Rattle.law_audit.specs.Streams.Put.{packet_of}
use Rattle.law_moves.specs.Legible.Legible.{MayGo, MayGoOn}
use Rattle.law_moves.specs.ReadBack.Reading.{AreNoTexts}
use Rattle.law_audit.specs.Carrying.Items.{Fits}

pub record MetLaws : Type 0 where
  pub pdu : (pipe : Pipe) (pdu : List ℕ) → IsPdu pdu → met pipe pdu ≡ kinds.Pdu
  pub packet : (pipe : Pipe) (named : Named) → MayGo pipe named
      → met pipe (spell (Packet named)) ≡ kinds.Packet (packet_of named)

module _ (law : MetLaws) (pipe : Pipe) (view : Message → List Item) (fits : Fits pipe view) where
  pub pdus_are : (ms : List Message) → AreNoTexts ms → AllByRecursion (MayGoOn (Some pipe)) ms
      → pdus pipe (map spell ms) ≡ items.pdus (seen view ms)
  pdus_are [] no_texts may = refl
  pdus_are (Text bytes ∷ ms) no_texts may = absurd no_texts.0
  pdus_are (Pdu pdu ∷ ms) no_texts may =
      ap (λ (m : Met). if is_pdu m then pdu ∷ pdus pipe (map spell ms)
      else pdus pipe (map spell ms)) (law.pdu pipe pdu may.0)
      ∙ ap (λ (rest : List (List ℕ)). pdu ∷ rest) (pdus_are ms no_texts.1 may.1)
      ∙ ap (λ (front : List Item). items.pdus (front ++ seen view ms)) (sym (fits.pdu pdu))
  pdus_are (Packet named ∷ ms) no_texts may =
      let frame = spell (Packet named) in
      ap (λ (m : Met). if is_pdu m then frame ∷ pdus pipe (map spell ms)
      else pdus pipe (map spell ms)) (law.packet pipe named may.0)
      ∙ pdus_are ms no_texts.1 may.1
      ∙ ap (λ (front : List (List ℕ)). front ++ items.pdus (seen view ms))
      (sym (fits.none named may.0))
      ∙ sym (pdus-append (view (Packet named)) (seen view ms))

  pub mark_is : (ms : List Message) → AreNoTexts ms → AllByRecursion (MayGoOn (Some pipe)) ms
      → is_marked (map (met pipe) (map spell ms)) ≡ has_handover (seen view ms)
  mark_is [] no_texts may = refl
  mark_is (Text bytes ∷ ms) no_texts may = absurd no_texts.0
  mark_is (Pdu pdu ∷ ms) no_texts may =
      ap (λ (m : Met). is_mark m || is_marked (map (met pipe) (map spell ms)))
      (law.pdu pipe pdu may.0)
      ∙ mark_is ms no_texts.1 may.1
      ∙ ap (λ (front : List Item). has_handover (front ++ seen view ms)) (sym (fits.pdu pdu))
  mark_is (Packet named ∷ ms) no_texts may =
      ap (λ (m : Met). is_mark m || is_marked (map (met pipe) (map spell ms)))
      (law.packet pipe named may.0)
      ∙ ap₂ (λ (a b : Bool). a || b) (sym (fits.mark named may.0)) (mark_is ms no_texts.1 may.1)
      ∙ sym (has_handover-append (view (Packet named)) (seen view ms))
