use Rattle.law_audit.proofs.Streams.Messages.{met_packet, met_pdu}
use Rattle.law_audit.proofs.laws_of_streams.puts.what_is_put_is_seen.Goals as goal

pub returns : goal.returns
returns c = record {
  pdu = met_pdu;
  packet =
      met_packet
      (record {
        agrees = c.packets_are_named.ensures.agrees;
        sound = c.packets_are_named.ensures.sound;
        back = c.packets_are_named.ensures.back;
        fine = c.packets_are_named.ensures.fine;
      });
}
