-- the rows of a client refuse on co legs alone
use Rattle.law_order.proofs.Vocabulary.{ℕ, List, rules, ◌&&◌, ◌||◌, ◌==◌}
use Rattle.rh_sig.specs.declared.named.Named.TheVariants as named
use Rattle.law_moves.proofs.Vocabulary.{by_test, Cookie, Named, LegKind, ClientOut, OutServer, ClientIn, InServer, Count}
use Rattle.law_role_client.proofs.Vocabulary.{InChannel, ClientRole, on_packet, packet_by, pdu_by, rules as client_rules, ack_row, on_ack_to, on_pdu, is_named, Done, is_current, is_open, is_out_successor, unexpected}
use Rattle.law_world_windows.specs.Windowed.{PacketFits, PduFits, RefusesOn}

out_pdu : (s : ClientRole) (n : ℕ) (pdu : List ℕ) → PduFits ClientOut ClientOut (on_pdu s n pdu).1
out_pdu s n pdu = search rules

any_pdu : (s : ClientRole) (n : ℕ) (pdu : List ℕ) (kind : LegKind)
    → PduFits ClientOut kind (pdu_by s n pdu kind).1
any_pdu s n pdu ClientOut = out_pdu s n pdu
any_pdu s n pdu OutServer = tt
any_pdu s n pdu ClientIn = tt
any_pdu s n pdu InServer = tt

ack_fits : (c : InChannel) (to received available : ℕ) (of : Cookie)
    → PacketFits ClientOut ClientOut (named.AckTo to received available of)
    (ack_row c received available)
ack_fits c to received available of = search rules

-- an acknowledgement of one of the three channels, or of none
ack_to : (s : ClientRole) (to received available : ℕ) (of : Cookie)
    → PacketFits ClientOut ClientOut (named.AckTo to received available of)
    (on_ack_to s to received available of).1
ack_to s to received available of =
    by_test Row (is_open s.phase && to == 0) _ _ (λ e.
    by_test Row (is_named s.writing of) _ _ (λ f. ack_fits s.writing to received available of)
    (λ f. by_test Row (is_named s.in_successor of) _ _
    (λ g. ack_fits s.in_successor to received available of)
    (λ g. by_test Row (is_named s.leaving of) _ _
    (λ h. ack_fits s.leaving to received available of) (λ h. tt)))) (λ e. tt)
  where
    Row : Done → Type 0
    Row x = PacketFits ClientOut ClientOut (named.AckTo to received available of) x.1

rows : (s : ClientRole) (n : ℕ) (count : Count) (packet : Named)
    → PacketFits ClientOut ClientOut packet (on_packet s n count packet).1
rows s n count (named.ConnA3 timeout) = search rules
rows s n count (named.ConnC2 version window timeout) = search rules
rows s n count (named.AckTo to received available of) = ack_to s to received available of
rows s n count (named.InR1A4 to version window timeout) = search rules
rows s n count (named.InR2A4 to) = search rules
rows s n count (named.OutR1A2 to) = search rules
rows s n count (named.OutR1A6 to version timeout) = search rules
rows s n count named.OutR1A10 = search rules
rows s n count named.EndB2 = search rules
rows s n count packet = tt

any_packet : (s : ClientRole) (n : ℕ) (count : Count) (packet : Named) (kind : LegKind)
    → PacketFits ClientOut kind packet (packet_by s n count packet kind).1
any_packet s n count packet ClientOut =
    by_test (λ (x : Done). PacketFits ClientOut ClientOut packet x.1)
    (is_current s n || is_out_successor s n) (on_packet s n count packet) (unexpected s)
    (λ e. rows s n count packet) (λ e. tt)
any_packet s n count packet OutServer = tt
any_packet s n count packet ClientIn = tt
any_packet s n count packet InServer = tt

pub client_rows : RefusesOn client_rules ClientOut ClientOut
client_rows = record {
  pdus = λ s leg count pdu. any_pdu s leg.number pdu leg.kind;
  packets = λ s leg count packet. any_packet s leg.number count packet leg.kind;
}
