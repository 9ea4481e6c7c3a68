-- on each leg for which a client has no use any more the handover mark or END came
use Rattle.law_order.proofs.Vocabulary.{◌≡◌, ◌⊎◌, inl, inr, ◌<◌, ◌≤◌, ℕ, List, true, false, sym, subst, cases_lt, has_end, has_handover}
use Rattle.rh_client.specs.Client as client
use Rattle.rh_client.specs.State as client_state
use Rattle.law_moves.proofs.Vocabulary.{ClientConfig, EndPassage, is_in_use, EndEvent, after_end_events}
use Rattle.law_role_client.proofs.Vocabulary.{ClientRole, TakesInOrder, client_moved, has_leg}
use Rattle.law_role_client.specs.Order as client_order
use Rattle.law_node_history.proofs.Lemmas.{or_left as or_first}
use Rattle.law_node_streams.specs.Streams.{EndStream}
use Rattle.law_node_begins.specs.ProxiesBegin.Pipes.{co}
use Rattle.law_peers_routes.specs.Downwards.{client_reads}
use Rattle.law_world_ways.proofs.ExactWays.Passing.{client_passes}
use Rattle.law_world_ways.proofs.ExactPaths.Receivers.{ClientOrder}
use Rattle.law_world_ways.specs.OnPaths.Legs.{has_passed}

module _ (law : ClientOrder) (config : ClientConfig) (n : ℕ) (has : has_leg n ≡ true)
    (events : List EndEvent)
    (s : EndStream client.rules client.acts (client_state.first config) client.rooms client_reads
    events) where
  abbrev Passes : EndPassage ClientRole → Type 0
  Passes p =
      client.rules.was_up p.passage.role (co n) ≡ true
      → is_in_use client.rules p.passage.role (co n) ≡ false
      → has_passed (client_order.came_log p.passage.came n) ≡ true

  -- on a channel below the current one the mark came
  by_moves : Passes (client_moved config s.leads.moves)
  by_moves known unused =
      by (cases_lt n (client_moved config s.leads.moves).passage.role.current.number)
    where
      order : TakesInOrder (client_moved config s.leads.moves)
      order = law config s.leads.moves s.leads.allowed

      by : (n < (client_moved config s.leads.moves).passage.role.current.number)
          ⊎ ((client_moved config s.leads.moves).passage.role.current.number ≤ n)
          → has_passed (client_order.came_log
          (client_moved config s.leads.moves).passage.came n) ≡ true
      by (inl before) =
          or_first
          (has_handover (client_order.came_log
          (client_moved config s.leads.moves).passage.came n))
          (has_end (client_order.came_log (client_moved config s.leads.moves).passage.came n))
          (order.past n before has)
      by (inr from) =
          client_passes config s.leads.moves s.leads.allowed order n from known unused

  pub passed : client.rules.was_up
      (after_end_events client.rules client.acts (client.first_client config) events).role (co n)
      ≡ true
      → is_in_use client.rules
      (after_end_events client.rules client.acts (client.first_client config) events).role (co n)
      ≡ false
      → has_passed (client_order.came_log s.passage.passage.came n) ≡ true
  passed known unused =
      subst Passes s.leads.reached by_moves
      (subst (λ (r : ClientRole). client.rules.was_up r (co n) ≡ true) (sym s.role) known)
      (subst (λ (r : ClientRole). is_in_use client.rules r (co n) ≡ false) (sym s.role) unused)
