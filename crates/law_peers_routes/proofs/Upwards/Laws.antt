-- the laws of the roles and of reading on which the route stands, each as its own crate says it
use Rattle.law_order.proofs.Vocabulary.{ℕ, ◌≡◌, ◌≢◌, List, [], Bool, false, Some, refl, sym, ◌∙◌, subst, Option, TakerLaw}
use Rattle.rh_inproxy.specs.Machine as proxy
use Rattle.rh_server.specs.Servers as server
use Rattle.law_moves.proofs.Vocabulary.{test_other, Pipe, CiU, IsU, ClientConfig, Leg, same_leg, Move, EndMove, Passage, EndPassage, AreAllowed, AreAllowedAtEnd, all_moved, all_end_moved, started, end_started, Event, EndEvent, of_leg, Begins, RefusesInTurn}
use Rattle.law_role_inproxy.proofs.Vocabulary.{InProxyConfig, InProxy, first, is_client_leg, KeepsOrder}
use Rattle.law_role_client.proofs.Vocabulary.{ClientRole, pipe_put, AreAllowedMoves, client_moved, GivesInOrder}
use Rattle.law_role_server.proofs.Vocabulary.{Server, got, has_leg, taker_of}
use Rattle.law_node_streams.specs.Streams.{RefusesFirst}
use Rattle.law_node_begins.specs.EndsBegin.{BeginsLegs}
use Rattle.law_node_begins.specs.ProxiesBegin.Pipes.{ci as client_leg, is as server_leg, in_pipe}
use Rattle.law_peers_routes.proofs.Upwards.JoinedLegs.{Carries, ComesToNothing}
use Rattle.law_peers_routes.specs.Upwards.{GoesUp}

abbrev proxy_moved : InProxyConfig → List Move → Passage InProxy
proxy_moved config moves = all_moved proxy.rules (started (first config)) moves

abbrev pub server_moved : ℕ → List EndMove → EndPassage Server
server_moved window moves =
    all_end_moved server.rules server.acts (end_started (server.first window)) moves

-- what is put first on each leg
pub record BeginLaws : Type 0 where
  pub requests : (config : ClientConfig) (moves : List EndMove) → AreAllowedMoves config moves
      → BeginsLegs pipe_put (client_moved config moves).passage.put
  pub begins : (config : InProxyConfig) (moves : List Move)
      → AreAllowed proxy.rules (started (first config)) moves
      → Begins (Some IsU) (of_leg (server_leg config.number) (proxy_moved config moves).put)
  pub elsewhere : (config : InProxyConfig) (moves : List Move) (leg : Leg)
      → AreAllowed proxy.rules (started (first config)) moves → is_client_leg leg ≡ false
      → same_leg (server_leg config.number) leg ≡ false
      → of_leg leg (proxy_moved config moves).put ≡ []

pub record Laws : Type 0 where
  -- order
  pub gives : (config : ClientConfig) (moves : List EndMove) → AreAllowedMoves config moves
      → GivesInOrder (client_moved config moves)
  pub keeps : (config : InProxyConfig) (moves : List Move)
      → AreAllowed proxy.rules (started (first config)) moves
      → KeepsOrder config.number (proxy_moved config moves)
  pub takes : (window : ℕ) (moves : List EndMove)
      → AreAllowedAtEnd server.rules server.acts (end_started (server.first window)) moves
      → let p = server_moved window moves in
      TakerLaw (taker_of p.taken p.passage.role) (has_leg moves p.passage.role) (got p)
  pub begin : BeginLaws
  pub refuses : (config : InProxyConfig) (leg : Leg) → is_client_leg leg ≡ false
      → RefusesFirst proxy.rules (first config) (in_pipe config) leg
  pub turned : (first : InProxy) (pipe : Leg → Option Pipe) (leg : Leg)
      → RefusesFirst proxy.rules first pipe leg → RefusesInTurn proxy.rules first pipe leg
  -- reading
  pub carries : Carries
  pub nothing : ComesToNothing

-- what is put first on each leg
pub record AreBegun (c : EndPassage ClientRole) (i : ℕ → Passage InProxy) : Type 0 where
  pub client : (n : ℕ) → Begins (Some CiU) (of_leg (client_leg n) c.passage.put)
  pub proxies : (m : ℕ) → Begins (Some IsU) (of_leg (server_leg m) (i m).put)
  pub lone : (m n : ℕ) → n ≢ m → of_leg (server_leg n) (i m).put ≡ []

module _ (laws : BeginLaws) (config : ClientConfig) (window : ℕ) (in_config : ℕ → InProxyConfig)
    (client_events server_events : List EndEvent) (ins : ℕ → List Event) (made : ℕ → Bool)
    (reader : ℕ → ℕ)
    (g : GoesUp config window in_config client_events server_events ins made reader) where
  pub are_begun : AreBegun g.giver.passage (λ n. (g.proxies n).passage)
  are_begun = record {
    client = λ n. requests.begins (client_leg n);
    proxies = λ m.
        subst (λ n. Begins (Some IsU) (of_leg (server_leg n) (g.proxies m).passage.put))
        (g.numbered m)
        (subst (λ (p : Passage InProxy). Begins (Some IsU)
        (of_leg (server_leg (in_config m).number) p.put)) (g.proxies m).leads.reached
        (laws.begins (in_config m) (g.proxies m).leads.moves (g.proxies m).leads.allowed));
    lone = λ m n other.
        subst (λ (p : Passage InProxy). of_leg (server_leg n) p.put ≡ [])
        (g.proxies m).leads.reached
        (laws.elsewhere (in_config m) (g.proxies m).leads.moves (server_leg n)
        (g.proxies m).leads.allowed refl
        (test_other (in_config m).number n (λ e. other (sym e ∙ g.numbered m))));
  }
    where
      requests : BeginsLegs pipe_put g.giver.passage.passage.put
      requests = subst (λ (p : EndPassage ClientRole). BeginsLegs pipe_put p.passage.put)
          g.giver.leads.reached
          (laws.requests config g.giver.leads.moves g.giver.leads.allowed)
