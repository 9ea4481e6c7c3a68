-- what the nodes put may go on its pipe, as long as what came to them is fine
use Rattle.law_order.proofs.Vocabulary.{◌≡◌, ℕ, zero, suc, List, [], sym, subst}
use Rattle.rh_inproxy.specs.Machine as in_proxy
use Rattle.rh_inproxy.specs.State as in_state
use Rattle.rh_outproxy.specs.Machine as out_proxy
use Rattle.rh_server.specs.Servers as server
use Rattle.law_moves.proofs.Vocabulary.{IsWindow, ClientConfig, EndMove, EndPassage, Move, Passage, all_end_moved, all_moved, end_started, started, AreLegible, IsLegible}
use Rattle.law_role_inproxy.proofs.Vocabulary.{InProxyConfig, InProxy}
use Rattle.law_role_inproxy.specs.Legible as in_legible
use Rattle.law_role_client.proofs.Vocabulary.{ClientRole, HasCookies, HaveCookies, client_moved}
use Rattle.law_role_client.specs.Legible as client_legible
use Rattle.law_role_server.proofs.Vocabulary.{Server}
use Rattle.law_role_server.specs.Legible as server_legible
use Rattle.law_node_history.proofs.Vocabulary.{History}
use Rattle.law_role_outproxy.proofs.Vocabulary.{OutProxyConfig, OutProxy, new_proxy}
use Rattle.law_role_outproxy.specs.Legible as out_legible
use Rattle.law_world_order.proofs.Vocabulary.{AllFine, AllLegible, Flows, Numbers, AreInRange}

pub record Legalities : Type 0 where
  pub client : (config : ClientConfig) (moves : List EndMove) → client_legible.IsConfig config
      → HasCookies config → HaveCookies moves
      → AreLegible client_legible.pipe_put (client_moved config moves).passage.put
  pub server : (window : ℕ) (moves : List EndMove) → IsWindow window
      → IsLegible server_legible.pipe_put
      (all_end_moved server.rules server.acts (end_started (server.first window)) moves).passage
  pub ins : (config : InProxyConfig) (moves : List Move) → in_state.IsConfig config
      → in_legible.HasSizes config → IsLegible in_legible.pipe_put
      (all_moved in_proxy.rules (started (in_state.first config)) moves)
  pub outs : (config : OutProxyConfig) (moves : List Move) → out_legible.IsConfig config
      → IsLegible out_legible.pipe_put
      (all_moved out_proxy.rules (started (new_proxy config)) moves)

-- there is no in proxy 0, and none puts anything
in_legible_at : Legalities → (numbers : Numbers) (h : History) (f : Flows numbers h)
    → AreInRange numbers → (f.ins 0).passage.put ≡ [] → AllFine numbers h f → (n : ℕ)
    → AreLegible in_legible.pipe_put (f.ins n).passage.put
in_legible_at law numbers h f ranges none fine zero =
    subst (AreLegible in_legible.pipe_put) (sym none) (record { may_go = tt; read_back = tt })
in_legible_at law numbers h f ranges none fine (suc n) =
    subst (λ (p : Passage InProxy). IsLegible in_legible.pipe_put p) (f.ins (suc n)).leads.reached
    (law.ins (numbers.ins (suc n)) (f.ins (suc n)).leads.moves (ranges.ins n)
    (ranges.sizes (suc n))) (fine.ins (suc n))

pub all_legible : Legalities → (numbers : Numbers) (h : History) (f : Flows numbers h)
    → AreInRange numbers → HaveCookies f.client.leads.moves → (f.ins 0).passage.put ≡ []
    → AllFine numbers h f → AllLegible numbers h f
all_legible law numbers h f ranges cookies none fine = record {
  client =
      subst (λ (p : EndPassage ClientRole). AreLegible client_legible.pipe_put p.passage.put)
      f.client.leads.reached
      (law.client numbers.client f.client.leads.moves ranges.client ranges.cookies cookies);
  server =
      subst (λ (p : EndPassage Server). IsLegible server_legible.pipe_put p.passage)
      f.server.leads.reached (law.server numbers.window f.server.leads.moves ranges.window)
      fine.server;
  ins = in_legible_at law numbers h f ranges none fine;
  outs = λ n.
      subst (λ (p : Passage OutProxy). IsLegible out_legible.pipe_put p) (f.outs n).leads.reached
      (law.outs (numbers.outs n) (f.outs n).leads.moves (ranges.outs n)) (fine.outs n);
}
