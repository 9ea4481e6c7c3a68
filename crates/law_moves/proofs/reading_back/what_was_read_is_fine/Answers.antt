use Rattle.law_order.proofs.Vocabulary.{◌≡◌, ℕ, List, sym, ap, subst, Some, Ok, Err, MatchResult, Result}
use Rattle.rh_rts.specs.declared.fault.RtsFault.{RtsFault}
use Rattle.rh_rts.specs.Judging.{Judged}
use Rattle.rh_sig.specs.declared.fault.SigFault.{SigFault}
use Rattle.law_moves.proofs.Vocabulary.{AreCommands, Parts, IsPacket, read_packet, Pipe, Named, named_of, AreInRange, IsRefused, ReadsAs, commands_of, PacketFault, packet_of, packet_by, named_by, IsFine}
use Rattle.law_moves.proofs.Legible.Packets.{unpadded_are, sizes_of, destination_is}
use Rattle.law_moves.proofs.reading_back.what_was_read_is_fine.Goals as goal

-- what a packet is read as is fine, where the packet is one
abbrev Reads : Parts → Pipe → Result Named SigFault → Type 0
Reads p pipe r =
    MatchResult r (λ n. ReadsAs p pipe n × AreInRange (commands_of n)) (λ f. IsRefused p pipe f)

abbrev named_or : Named → Result Named PacketFault → Named
named_or n (Ok found) = found
named_or n (Err fault) = n

fine_by : (p : Parts) (pipe : Pipe) (n : Named) (r : Result Named SigFault) → IsPacket p
    → Reads p pipe r → named_by r ≡ Ok n → IsFine n
fine_by p pipe n (Err fault) is h e = absurd cc
fine_by p pipe n (Ok found) is h e =
    let commands = subst AreCommands (sym h.0.1) (unpadded_are p.commands is.commands) in
    subst IsFine (ap (named_or n) e) (record {
      sizes = sizes_of (commands_of found) commands;
      ranges = h.1;
      destination = destination_is found commands;
    })

parts_of_frame : (frame : List ℕ) (pipe : Pipe) (n : Named)
    → packet_of frame (Some pipe) ≡ Ok n → packet_by pipe (read_packet frame) ≡ Ok n
unfolding packet_of
parts_of_frame frame pipe n e = e

pub returns : goal.returns
returns c = λ n was.
    parts_by was.pipe was.frame n (read_packet was.frame)
    (c.packets_are_read.ensures.judged was.frame was.bytes)
    (parts_of_frame was.frame was.pipe n was.reads)
  where
    parts_by : (pipe : Pipe) (frame : List ℕ) (n : Named) (r : Result Parts RtsFault)
        → Judged frame r → packet_by pipe r ≡ Ok n → IsFine n
    parts_by pipe frame n (Err fault) h e = absurd cc
    parts_by pipe frame n (Ok p) h e =
        fine_by p pipe n (named_of p pipe) h.0 (c.packets_are_named.ensures.agrees p pipe) e
