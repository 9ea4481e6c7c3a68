-- the rows of an in proxy refuse for a window on ci legs alone, as out of range on is legs alone
use Rattle.law_order.proofs.Vocabulary.{ℕ, List, rules, Some, None, Option}
use Rattle.rh_sig.specs.declared.named.Named.TheVariants as named
use Rattle.law_moves.proofs.Vocabulary.{by_test, Named, LegKind, ClientOut, OutServer, ClientIn, InServer, Which, Count}
use Rattle.law_role_inproxy.proofs.Vocabulary.{Done, unexpected, on_channel, on_channel_by, on_ci, on_is, packet, pdu, pdu_by, rules as proxy_rules, on_pdu, InProxy, channel_of, is_server_leg}
use Rattle.law_node_history.proofs.Vocabulary.{leg_at}
use Rattle.law_world_windows.specs.Windowed.{PacketFits, PduFits, RefusesOn}

-- ---- PDUs

channel_pdu : (s : InProxy) (which : Which) (bytes : List ℕ)
    → PduFits ClientIn ClientIn (on_pdu s which bytes).1
channel_pdu s which bytes = search rules

pdu_on : (s : InProxy) (o : Option Which) (bytes : List ℕ)
    → PduFits ClientIn ClientIn (pdu_by s o bytes).1
pdu_on s None bytes = tt
pdu_on s (Some which) bytes = channel_pdu s which bytes

any_pdu : (s : InProxy) (n : ℕ) (count : Count) (bytes : List ℕ) (kind : LegKind)
    → PduFits ClientIn kind (pdu s (leg_at kind n) count bytes).1
any_pdu s n count bytes ClientIn = pdu_on s (channel_of s n) bytes
any_pdu s n count bytes InServer = tt
any_pdu s n count bytes ClientOut = tt
any_pdu s n count bytes OutServer = tt

-- ---- packets

channel_rows : (s : InProxy) (which : Which) (one : Named)
    → PacketFits InServer ClientIn one (on_channel s which one).1
channel_rows s which (named.AckTo to received available channel) = search rules
channel_rows s which (named.OutR1A7 to successor) = search rules
channel_rows s which (named.KeepAlive keepalive) = search rules
channel_rows s which named.EndA1 = search rules
channel_rows s which (named.InR1A5 successor) = search rules
channel_rows s which one = tt

channel_by : (s : InProxy) (o : Option Which) (one : Named)
    → PacketFits InServer ClientIn one (on_channel_by s o one).1
channel_by s None one = tt
channel_by s (Some which) one = channel_rows s which one

ci_rows : (s : InProxy) (n : ℕ) (one : Named)
    → PacketFits InServer ClientIn one (on_ci s n one).1
ci_rows s n (named.ConnB1 version connection channel lifetime keepalive group) = search rules
ci_rows s n (named.InR1A1 version connection predecessor channel) = search rules
ci_rows s n one = channel_by s (channel_of s n) one

is_rows : (s : InProxy) (one : Named) → PacketFits InServer InServer one (on_is s one).1
is_rows s (named.ConnB3 size version) = search rules
is_rows s (named.InR1B2 size) = search rules
is_rows s named.InR1B1 = search rules
is_rows s (named.Ack received available channel) = search rules
is_rows s one = tt

any_packet : (s : InProxy) (n : ℕ) (count : Count) (one : Named) (kind : LegKind)
    → PacketFits InServer kind one (packet s (leg_at kind n) count one).1
any_packet s n count one ClientIn = ci_rows s n one
any_packet s n count one InServer =
    by_test (λ (x : Done). PacketFits InServer InServer one x.1)
    (is_server_leg s (leg_at InServer n)) (on_is s one) (unexpected s) (λ e. is_rows s one)
    (λ e. tt)
any_packet s n count one ClientOut = tt
any_packet s n count one OutServer = tt

pub in_rows : RefusesOn proxy_rules ClientIn InServer
in_rows = record {
  pdus = λ s leg count bytes. any_pdu s leg.number count bytes leg.kind;
  packets = λ s leg count one. any_packet s leg.number count one leg.kind;
}
