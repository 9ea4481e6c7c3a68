-- for which connections an in proxy speaks to the server
use Rattle.law_order.proofs.Vocabulary.{Bool, List, refl, arith}
use Rattle.law_moves.proofs.Vocabulary.{Cookie, Move, all_moved, started}
use Rattle.law_role_inproxy.proofs.Vocabulary.{InProxyConfig, rules as proxy_rules, first}
use Rattle.law_role_inproxy.proofs.Counted.InProxyOwes.{Leads}
use Rattle.law_role_inproxy.proofs.Counted.InProxyPays.{in_proxy_pays}
use Rattle.law_peers_in_channels.specs.ServerExpects.Connecting.{asks, connects, ConnectsForWhatCame}

conn_b1_leads : (of : Cookie → Bool) → Leads (asks of) (connects of) 0
conn_b1_leads of = record {
  connects = λ version lifetime keepalive window timeout connection channel group address padding.
      omega arith;
  replaces = λ version window timeout connection predecessor channel. omega arith;
  joins = λ version connection predecessor channel. omega arith;
  leaves = λ successor. omega arith;
  passes = λ to successor. omega arith;
  acks = λ to received available channel. refl;
  ends = refl;
  pings = refl;
}

pub in_proxy_connects : (config : InProxyConfig) (moves : List Move)
    → ConnectsForWhatCame (all_moved proxy_rules (started (first config)) moves)
in_proxy_connects config moves of leg =
    let paid = in_proxy_pays (asks of) (connects of) 0 (conn_b1_leads of) config moves leg in
    omega (arith, paid)
