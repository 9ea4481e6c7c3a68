-- where both directions are joined, what an end took is a front of what the other one gave
use Rattle.law_order.proofs.Vocabulary.{◌≡◌, ℕ, Bool, true, List, sym, ◌∙◌, ap, subst, IsPrefix, ReportsEnd}
use Rattle.rh_line.specs.declared.state.Take.TheVariants as takes
use Rattle.rh_client.specs.Client as client
use Rattle.rh_server.specs.Servers as server
use Rattle.law_moves.proofs.Vocabulary.{ClientConfig, take_answer, Shell, EndEvent, Event, after_end_events}
use Rattle.law_role_inproxy.proofs.Vocabulary.{InProxyConfig}
use Rattle.law_role_client.proofs.Vocabulary.{ClientRole}
use Rattle.law_role_client.specs.Order as client_order
use Rattle.law_role_server.proofs.Vocabulary.{Server, is_closing}
use Rattle.law_role_server.specs.Order as server_order
use Rattle.law_role_outproxy.proofs.Vocabulary.{OutProxyConfig}
use Rattle.law_node_streams.specs.Streams.{all_given, all_taken}
use Rattle.law_peers_routes.specs.Downwards.{GoesDown, client_after, client_took, server_accepted, server_after}
use Rattle.law_peers_routes.specs.Upwards.{GoesUp}

-- ---- the laws that this stands on

pub record Ended : Type 0 where
  pub client_ends : (taken : List (List ℕ)) (node : Shell ClientRole)
      → take_answer client.acts node ≡ takes.Ended
      → ReportsEnd (client_order.taker_of taken node.role)
  pub server_ends : (taken : List (List ℕ)) (node : Shell Server)
      → take_answer server.acts node ≡ takes.Ended
      → ReportsEnd (server_order.taker_of taken node.role)
  pub down : (config : ClientConfig) (window : ℕ) (out_config : ℕ → OutProxyConfig)
      (client server : List EndEvent) (outs : ℕ → List Event)
      → GoesDown config window out_config client server outs
      → IsPrefix (client_took config client) (server_accepted window server)
  pub down_ended : (config : ClientConfig) (window : ℕ) (out_config : ℕ → OutProxyConfig)
      (client server : List EndEvent) (outs : ℕ → List Event)
      → GoesDown config window out_config client server outs
      → ReportsEnd (client_order.taker_of (client_took config client) (client_after config client))
      → (client_took config client ≡ server_accepted window server)
      × (is_closing (server_after window server).giving ≡ true)
  pub up : (config : ClientConfig) (window : ℕ) (in_config : ℕ → InProxyConfig)
      (client_events server_events : List EndEvent) (ins : ℕ → List Event) (made : ℕ → Bool)
      (reader : ℕ → ℕ)
      (g : GoesUp config window in_config client_events server_events ins made reader)
      → IsPrefix g.taker.passage.taken g.giver.passage.given
  pub up_ended : (config : ClientConfig) (window : ℕ) (in_config : ℕ → InProxyConfig)
      (client_events server_events : List EndEvent) (ins : ℕ → List Event) (made : ℕ → Bool)
      (reader : ℕ → ℕ)
      (g : GoesUp config window in_config client_events server_events ins made reader)
      → ReportsEnd (server_order.taker_of g.taker.passage.taken g.taker.passage.passage.role)
      → (g.taker.passage.taken ≡ g.giver.passage.given)
      × (g.giver.passage.passage.role.is_closing ≡ true)

-- ---- a moment

-- what the ends gave and took by their events, and what they are then
pub record IsInOrder (config : ClientConfig) (window : ℕ) (at_client at_server : List EndEvent)
    : Type 0 where
  pub down : IsPrefix (client_took config at_client) (server_accepted window at_server)
  pub up : IsPrefix
      (all_taken server.rules server.acts (server.new_server window) at_server)
      (all_given client.rules client.acts (client.first_client config) at_client)
  pub down_ended : (node : Shell ClientRole)
      → node ≡ after_end_events client.rules client.acts (client.first_client config) at_client
      → take_answer client.acts node ≡ takes.Ended
      → (client_took config at_client ≡ server_accepted window at_server)
      × (is_closing (server_after window at_server).giving ≡ true)
  pub up_ended : (node : Shell Server)
      → node ≡ after_end_events server.rules server.acts (server.new_server window) at_server
      → take_answer server.acts node ≡ takes.Ended
      → (all_taken server.rules server.acts (server.new_server window) at_server
      ≡ all_given client.rules client.acts (client.first_client config) at_client)
      × ((client_after config at_client).is_closing ≡ true)

module _ (law : Ended) (config : ClientConfig) (window : ℕ) (in_config : ℕ → InProxyConfig)
    (out_config : ℕ → OutProxyConfig) (at_client at_server : List EndEvent)
    (ins outs : ℕ → List Event) (made : ℕ → Bool) (reader : ℕ → ℕ)
    (d : GoesDown config window out_config at_client at_server outs)
    (u : GoesUp config window in_config at_client at_server ins made reader) where
  up_front : IsPrefix
      (all_taken server.rules server.acts (server.new_server window) at_server)
      (all_given client.rules client.acts (client.first_client config) at_client)
  up_front =
      subst (λ (taken : List (List ℕ)). IsPrefix taken
      (all_given client.rules client.acts (client.first_client config) at_client)) u.taker.taken
      (subst (λ (given : List (List ℕ)). IsPrefix u.taker.passage.taken given) u.giver.given
      (law.up config window in_config at_client at_server ins made reader u))

  up_end : (node : Shell Server)
      → node ≡ after_end_events server.rules server.acts (server.new_server window) at_server
      → take_answer server.acts node ≡ takes.Ended
      → (all_taken server.rules server.acts (server.new_server window) at_server
      ≡ all_given client.rules client.acts (client.first_client config) at_client)
      × ((client_after config at_client).is_closing ≡ true)
  up_end node is ended =
      let all = law.up_ended config window in_config at_client at_server ins made reader u
      (subst (λ (s : Server). ReportsEnd (server_order.taker_of u.taker.passage.taken s))
      (ap (λ (n : Shell Server). n.role) is ∙ sym u.taker.role)
      (law.server_ends u.taker.passage.taken node ended)) in (
        sym u.taker.taken ∙ all.0 ∙ u.giver.given,
        ap (λ (s : ClientRole). s.is_closing) (sym u.giver.role) ∙ all.1,
      )

  down_end : (node : Shell ClientRole)
      → node ≡ after_end_events client.rules client.acts (client.first_client config) at_client
      → take_answer client.acts node ≡ takes.Ended
      → (client_took config at_client ≡ server_accepted window at_server)
      × (is_closing (server_after window at_server).giving ≡ true)
  down_end node is ended =
      law.down_ended config window out_config at_client at_server outs d
      (subst (λ (s : ClientRole).
      ReportsEnd (client_order.taker_of (client_took config at_client) s))
      (ap (λ (n : Shell ClientRole). n.role) is)
      (law.client_ends (client_took config at_client) node ended))

  pub in_order : IsInOrder config window at_client at_server
  in_order = record {
    down = law.down config window out_config at_client at_server outs d;
    up = up_front;
    down_ended = down_end;
    up_ended = up_end;
  }
