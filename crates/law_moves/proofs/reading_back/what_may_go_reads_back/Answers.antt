use Rattle.law_order.proofs.Vocabulary.{◌≡◌, ◌==◌, ◌≤◌, ℕ, [], ◌∷◌, length, Bool, true, false, List, refl, ap, ◌∙◌, arith, eq-eqb, eqb-true, Some, None, Ok, slice_index, Option}
use Rattle.law_moves.proofs.Vocabulary.{IsFrame, IsPdu, rts, IsPacket, read_packet, Pipe, Named, named_of, named_bytes, parts_of, packet_of, packet_by, named_by, Message, Text, Pdu, Packet, message_in, named_messages, MayGo, MayGoOn, ReadsBack, OnLeg}
use Rattle.law_moves.proofs.Legible.Each.{each_so}
use Rattle.law_moves.proofs.Legible.Frames.{packet_frame, packet_type}
use Rattle.law_moves.proofs.reading_back.what_may_go_reads_back.Goals as goal
use Rattle.law_moves.specs.Legible.Legible.{IsTaken}

pdu_taken : (pipe : Option Pipe) (pdu : List ℕ) → IsPdu pdu → IsTaken pipe (Pdu pdu)
pdu_taken pipe pdu is =
    record { frame = is.frame; taken = by_type (slice_index pdu 2 == rts) refl }
  where
    by_type : (t : Bool) → (slice_index pdu 2 == rts) ≡ t → message_in pipe pdu ≡ Pdu pdu ∷ []
    by_type true e = absurd (is.not_rts (eqb-true _ _ e))
    by_type false e = rw e refl

-- the frame is read as the packet
reads_by : (pipe : Pipe) (named : Named) → read_packet (named_bytes named) ≡ Ok (parts_of named)
    → named_of (parts_of named) pipe ≡ Ok named
    → packet_of (named_bytes named) (Some pipe) ≡ Ok named
unfolding packet_of
reads_by pipe named back fine = ap (λ r. packet_by pipe r) back ∙ ap named_by fine

taken_by : (pipe : Pipe) (named : Named) (bytes : List ℕ)
    → packet_of bytes (Some pipe) ≡ Ok named → slice_index bytes 2 ≡ rts
    → message_in (Some pipe) bytes ≡ named_messages (Ok named)
taken_by pipe named bytes reads is = rw (eq-eqb _ _ is, reads) refl

framed : (named : Named) → length (named_bytes named) ≤ 140 → IsFrame (named_bytes named)
unfolding named_bytes
framed named few = packet_frame (parts_of named) (omega (arith, few))

typed : (named : Named) → slice_index (named_bytes named) 2 ≡ rts
unfolding named_bytes
typed named = packet_type (parts_of named)

pub returns-clause-message : goal.returns-clause-message
returns-clause-message c = λ pipe message may. back pipe message may
  where
    packet_back : (pipe : Pipe) (named : Named) → MayGo pipe named → IsPacket (parts_of named)
        → IsTaken (Some pipe) (Packet named)
    packet_back pipe named may is = record {
      frame = framed named (c.packets_are_named.ensures.short named is);
      taken = taken_by pipe named (named_bytes named)
          (reads_by pipe named (c.packets_are_named.ensures.back named is)
          (c.packets_are_named.ensures.fine named pipe may.carried may.fine.ranges))
          (typed named);
    }

    back : (pipe : Option Pipe) (message : Message) → MayGoOn pipe message
        → ReadsBack pipe message
    back pipe (Text bytes) may = tt
    back pipe (Pdu pdu) may = pdu_taken pipe pdu may
    back None (Packet named) may = absurd may
    back (Some pipe) (Packet named) may = packet_back pipe named may
        (c.packets_are_named.ensures.sound named may.fine.destination may.fine.sizes)

pub returns-clause-log : goal.returns-clause-log
returns-clause-log c = λ pipe log may.
    each_so (λ (one : OnLeg). MayGoOn (pipe one.0) one.1)
    (λ (one : OnLeg). ReadsBack (pipe one.0) one.1)
    (λ one goes. returns-clause-message c (pipe one.0) one.1 goes) log may
