-- the answers to echo requests: heads of success, and a packet that has no name where it is read
use Rattle.law_order.proofs.Vocabulary.{◌≡◌, [], ◌++◌, refl, arith, None, Some, digits}
use Rattle.rh_rts.specs.Reading as packets
use Rattle.rh_sig.specs.Looking.{fits}
use Rattle.rh_inproxy.specs.Opening.{echo_answer, echo_packet}
use Rattle.rh_outproxy.specs.Putting as out_proxy
use Rattle.law_moves.proofs.Vocabulary.{IsFrame, head_fault, frag_of, packet_bytes, read_packet, CoD, named_of, name_on, names, response_text, packet_of, message_in, FrameIsWell, is_packet}

pub in_text : response_text 20 ++ echo_packet ≡ echo_answer
unfolding response_text echo_answer digits
in_text = refl

pub in_frame : IsFrame echo_packet
unfolding packet_bytes head_fault frag_of
in_frame = record { long = omega arith; head = refl; whole = refl }

pub in_unnamed : message_in None echo_packet ≡ []
unfolding packet_bytes packet_of
in_unnamed = refl

pub out_frame : IsFrame out_proxy.echo_packet
unfolding head_fault frag_of
out_frame = record { long = omega arith; head = refl; whole = refl }

pub out_unnamed : message_in (Some CoD) out_proxy.echo_packet ≡ []
unfolding packet_of read_packet packets.header_fault named_of name_on names fits
out_unnamed = refl

-- so they read well where packets without a name do
pub in_well : FrameIsWell is_packet None echo_packet
unfolding packet_of
in_well = λ is. refl

pub out_well : FrameIsWell is_packet (Some CoD) out_proxy.echo_packet
unfolding packet_of read_packet packets.header_fault named_of name_on names fits
out_well = λ is. refl
