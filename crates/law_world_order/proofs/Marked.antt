-- both directions are routes, on whose legs nothing stands behind a mark
use Rattle.law_order.proofs.Vocabulary.{◌≡◌, ℕ, Bool, true, List, IsChannel, IsRoute, Route}
use Rattle.law_moves.proofs.Vocabulary.{ClientConfig, EndEvent, Event}
use Rattle.law_role_inproxy.proofs.Vocabulary.{InProxyConfig, InProxy}
use Rattle.law_role_client.proofs.Vocabulary.{ClientRole}
use Rattle.law_role_server.proofs.Vocabulary.{Server}
use Rattle.law_node_history.proofs.Vocabulary.{reader_of, World, History}
use Rattle.law_role_outproxy.proofs.Vocabulary.{OutProxyConfig, OutProxy}
use Rattle.law_node_traces.proofs.Vocabulary.{is_made}
use Rattle.law_peers_routes.specs.Downwards.{GoesDown, route_of}
use Rattle.law_peers_routes.specs.Upwards.{GoesUp, up_route}
use Rattle.law_world_order.proofs.Vocabulary.{BothMark, Directions, MarksAreLast, down_route_of, up_route_of, Numbers}

pub record RouteLaws : Type 0 where
  pub down : (config : ClientConfig) (window : ℕ) (out_config : ℕ → OutProxyConfig)
      (client server : List EndEvent) (outs : ℕ → List Event)
      (d : GoesDown config window out_config client server outs) → IsRoute (route_of d)
  pub up : (config : ClientConfig) (window : ℕ) (in_config : ℕ → InProxyConfig)
      (client_events server_events : List EndEvent) (ins : ℕ → List Event) (made : ℕ → Bool)
      (reader : ℕ → ℕ)
      (g : GoesUp config window in_config client_events server_events ins made reader)
      → IsRoute (up_route reader g.giver.passage (λ n. (g.proxies n).passage) g.taker.leads.moves
      g.taker.passage)

module _ {K : Type 0} {numbers : Numbers} {v : World K ClientRole Server InProxy OutProxy}
    {h : History} (law : RouteLaws) (directions : Directions numbers v h) where
  pub down_is_route : IsRoute (down_route_of directions)
  down_is_route =
      law.down numbers.client numbers.window numbers.outs h.client h.server h.outs directions.down

  pub up_is_route : IsRoute (up_route_of directions)
  up_is_route =
      law.up numbers.client numbers.window numbers.ins h.client h.server h.ins
      (is_made v.company) (reader_of v.readers) directions.up

pub record MarkLaw : Type 0 where
  pub routes : RouteLaws
  pub near : (r : Route) (m n : ℕ) → IsRoute r → r.legs m ≡ true
      → IsChannel (r.sent n) × IsChannel (r.came m n)
  pub far : (r : Route) (m : ℕ) → IsRoute r → IsChannel (r.put m) × IsChannel (r.got m)

marks : MarkLaw → (r : Route) → IsRoute r → MarksAreLast r
marks law r is = record {
  near = λ m n here. law.near r m n is here;
  far = λ m. law.far r m is;
}

pub both_mark : {K : Type 0} {numbers : Numbers}
    {v : World K ClientRole Server InProxy OutProxy} {h : History} → MarkLaw
    → Directions numbers v h → BothMark numbers v h
both_mark law directions = record {
  directions = directions;
  down = marks law (down_route_of directions) (down_is_route law.routes directions);
  up = marks law (up_route_of directions) (up_is_route law.routes directions);
}
