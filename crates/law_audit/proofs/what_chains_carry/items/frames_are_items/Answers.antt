use Rattle.law_audit.proofs.Carrying.Frames.{mark_is, pdus_are}
use Rattle.law_audit.proofs.what_chains_carry.items.frames_are_items.Goals as goal

pub returns : goal.returns
returns c = record {
  pdus = λ pipe view messages fits.
      pdus_are (record {
        pdu = c.what_is_put_is_seen.ensures.pdu;
        packet = c.what_is_put_is_seen.ensures.packet;
      }) pipe view fits messages;
  mark = λ pipe view messages fits.
      mark_is (record {
        pdu = c.what_is_put_is_seen.ensures.pdu;
        packet = c.what_is_put_is_seen.ensures.packet;
      }) pipe view fits messages;
}
