-- the rows of a server refuse for a window on is legs alone, and as out of range on os legs alone
use Rattle.law_order.proofs.Vocabulary.{ℕ, List, rules}
use Rattle.rh_sig.specs.declared.named.Named.TheVariants as named
use Rattle.rh_server.specs.Servers.{pdu_by}
use Rattle.law_moves.proofs.Vocabulary.{Named, LegKind, ClientOut, OutServer, ClientIn, InServer, Count}
use Rattle.law_role_server.proofs.Vocabulary.{on_pdu, on_is, on_os, packet_by, rules as server_rules, Server}
use Rattle.law_world_windows.specs.Windowed.{PacketFits, PduFits, RefusesOn}

in_pdu : (s : Server) (n : ℕ) (pdu : List ℕ) → PduFits InServer InServer (on_pdu s n pdu).1
in_pdu s n pdu = search rules

any_pdu : (s : Server) (n : ℕ) (pdu : List ℕ) (kind : LegKind)
    → PduFits InServer kind (pdu_by s n pdu kind).1
any_pdu s n pdu InServer = in_pdu s n pdu
any_pdu s n pdu OutServer = tt
any_pdu s n pdu ClientIn = tt
any_pdu s n pdu ClientOut = tt

is_rows : (s : Server) (n : ℕ) (count : Count) (packet : Named)
    → PacketFits OutServer InServer packet (on_is s n count packet).1
is_rows s n count
    (named.ConnB2 version connection cookie window timeout group address padding) = search rules
is_rows s n count (named.InR1A2 version connection predecessor successor window timeout) =
    search rules
is_rows s n count (named.InR1A6 successor) = search rules
is_rows s n count (named.InR2A2 successor) = search rules
is_rows s n count (named.AckTo to received window cookie) = search rules
is_rows s n count (named.OutR1A8 to successor) = search rules
is_rows s n count named.EndA2 = search rules
is_rows s n count packet = tt

os_rows : (s : Server) (n : ℕ) (count : Count) (packet : Named)
    → PacketFits OutServer OutServer packet (on_os s n count packet).1
os_rows s n count (named.ConnA2 version connection cookie lifetime window) = search rules
os_rows s n count
    (named.OutR1A4 version connection predecessor successor lifetime window timeout) =
    search rules
os_rows s n count (named.Ack received window cookie) = search rules
os_rows s n count (named.PingTraffic bytes) = search rules
os_rows s n count packet = tt

any_packet : (s : Server) (n : ℕ) (count : Count) (packet : Named) (kind : LegKind)
    → PacketFits OutServer kind packet (packet_by s n count packet kind).1
any_packet s n count packet InServer = is_rows s n count packet
any_packet s n count packet OutServer = os_rows s n count packet
any_packet s n count packet ClientIn = tt
any_packet s n count packet ClientOut = tt

pub server_rows : RefusesOn server_rules InServer OutServer
server_rows = record {
  pdus = λ s leg count pdu. any_pdu s leg.number pdu leg.kind;
  packets = λ s leg count packet. any_packet s leg.number count packet leg.kind;
}
