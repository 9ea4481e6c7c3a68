-- the rows of an out proxy refuse on os legs alone
use Rattle.law_order.proofs.Vocabulary.{ℕ, List, rules}
use Rattle.law_moves.proofs.Vocabulary.{by_test, Named, LegKind, ClientOut, OutServer, ClientIn, InServer, Count}
use Rattle.law_node_history.proofs.Vocabulary.{leg_at}
use Rattle.law_role_outproxy.proofs.Vocabulary.{on_pdu, on_co, on_os, packet, pdu, rules as proxy_rules, OutProxy, Done, is_co, is_os, unexpected}
use Rattle.law_world_windows.specs.Windowed.{PacketFits, PduFits, RefusesOn}

-- ---- PDUs

os_pdu : (s : OutProxy) (bytes : List ℕ) → PduFits OutServer OutServer (on_pdu s bytes).1
os_pdu s bytes = search rules

any_pdu : (s : OutProxy) (n : ℕ) (count : Count) (bytes : List ℕ) (kind : LegKind)
    → PduFits OutServer kind (pdu s (leg_at kind n) count bytes).1
any_pdu s n count bytes OutServer =
    by_test (λ (x : Done). PduFits OutServer OutServer x.1) (is_os s (leg_at OutServer n))
    (on_pdu s bytes) (unexpected s) (λ e. os_pdu s bytes) (λ e. tt)
any_pdu s n count bytes ClientOut = tt
any_pdu s n count bytes ClientIn = tt
any_pdu s n count bytes InServer = tt

-- ---- packets

co_rows : (s : OutProxy) (count : Count) (one : Named)
    → PacketFits OutServer ClientOut one (on_co s count one).1
co_rows s count one = search rules

os_rows : (s : OutProxy) (one : Named) → PacketFits OutServer OutServer one (on_os s one).1
os_rows s one = search rules

any_packet : (s : OutProxy) (n : ℕ) (count : Count) (one : Named) (kind : LegKind)
    → PacketFits OutServer kind one (packet s (leg_at kind n) count one).1
any_packet s n count one ClientOut =
    by_test (λ (x : Done). PacketFits OutServer ClientOut one x.1) (is_co s (leg_at ClientOut n))
    (on_co s count one) (unexpected s) (λ e. co_rows s count one) (λ e. tt)
any_packet s n count one OutServer =
    by_test (λ (x : Done). PacketFits OutServer OutServer one x.1) (is_os s (leg_at OutServer n))
    (on_os s one) (unexpected s) (λ e. os_rows s one) (λ e. tt)
any_packet s n count one ClientIn = tt
any_packet s n count one InServer = tt

pub out_rows : RefusesOn proxy_rules OutServer OutServer
out_rows = record {
  pdus = λ s leg count bytes. any_pdu s leg.number count bytes leg.kind;
  packets = λ s leg count one. any_packet s leg.number count one leg.kind;
}
