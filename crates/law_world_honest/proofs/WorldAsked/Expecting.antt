-- an out proxy expects what the client put, by the streams of both
use Rattle.law_order.proofs.Vocabulary.{◌≡◌, ℕ, List, true, is_some, sym, ap, ◌∙◌, subst, AllByRecursion}
use Rattle.rh_client.specs.Client as client
use Rattle.rh_client.specs.State as client_state
use Rattle.law_moves.proofs.Vocabulary.{ClientConfig, ClientOut, Message, begun, EndMove, EndPassage, Move, Passage, all_moved, started, EndEvent, Event, after_events, of_leg, AreCounted, HasComeUp, all_read_of}
use Rattle.law_role_client.proofs.Vocabulary.{ClientRole, AreAllowedMoves}
use Rattle.law_node_history.proofs.Vocabulary.{leg_at}
use Rattle.law_role_outproxy.proofs.Vocabulary.{ROOMS, OutProxyConfig, rules, OutProxy, new_proxy, RefusesFor}
use Rattle.law_role_client_rows.specs.Putting.{IsChannel, OpenedBefore, OpensOutChannels, out_way}
use Rattle.law_node_streams.specs.Streams.{EndStream, Stream}
use Rattle.law_peers_moments.specs.Expecting.{Expects}
use Rattle.law_peers_expects.proofs.Asked.Expecting.{expects}
use Rattle.law_peers_expects.specs.Asked.Requests.{IsRequest}
use Rattle.law_peers_routes.specs.Downwards as down

module _ (client_config : ClientConfig) (client_events : List EndEvent)
    (f : EndStream client.rules client.acts (client_state.first client_config) client.rooms
    down.client_reads client_events) (config : OutProxyConfig) (n : ℕ) (own : config.number ≡ n)
    (events : List Event)
    (t : Stream rules (new_proxy config) ROOMS (down.proxy_reads config) events)
    (heads : AllByRecursion (IsRequest n) t.leads.moves)
    (taken : is_some (after_events rules (begun (new_proxy config) ROOMS) events).role.request
    ≡ true)
    (opens : (config : ClientConfig) (moves : List EndMove) → AreAllowedMoves config moves
    → OpensOutChannels config moves)
    (refuses : (config : OutProxyConfig) (moves : List Move)
    → AreCounted rules (started (new_proxy config)) moves
    → RefusesFor config.number moves (all_moved rules (started (new_proxy config)) moves)) where
  abbrev p : Passage OutProxy
  p = all_moved rules (started (new_proxy config)) t.leads.moves

  -- the role at the end of its moves is the node's
  has_taken : is_some p.role.request ≡ true
  has_taken =
      ap (λ (s : OutProxy). is_some s.request)
      (ap (λ (q : Passage OutProxy). q.role) t.leads.reached ∙ t.role) ∙ taken

  abbrev put : ℕ → List Message
  put k = of_leg (leg_at ClientOut k) f.passage.passage.put

  opened : (k : ℕ) → IsChannel (out_way client_config) (HasComeUp f.leads.moves)
      (OpenedBefore client_config f.leads.moves) k (put k)
  opened k =
      subst (λ (q : EndPassage ClientRole). IsChannel (out_way client_config)
      (HasComeUp f.leads.moves) (OpenedBefore client_config f.leads.moves) k
      (of_leg (leg_at ClientOut k) q.passage.put)) f.leads.reached
      (opens client_config f.leads.moves f.leads.allowed k)

  pub flow_expects : Expects rules t.passage (leg_at ClientOut n) (all_read_of (put n))
  flow_expects =
      subst (λ (q : Passage OutProxy). Expects rules q (leg_at ClientOut n) (all_read_of (put n)))
      t.leads.reached
      (subst (λ (k : ℕ). Expects rules p (leg_at ClientOut k) (all_read_of (put k))) own
      (expects config t.leads.moves t.in_turn
      (record {
        heads = subst (λ (k : ℕ). AllByRecursion (IsRequest k) t.leads.moves) (sym own) heads;
        taken = has_taken;
      }) client_config (HasComeUp f.leads.moves) (OpenedBefore client_config f.leads.moves)
      (put config.number) (opened config.number)
      (refuses config t.leads.moves t.counted)))
