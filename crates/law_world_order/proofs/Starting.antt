-- what was put on each leg begins as it is read at the other end
use Rattle.law_order.proofs.Vocabulary.{◌≡◌, ℕ, false, List, [], sym, ap, subst, refl, Some, None, Option, fun_ext}
use Rattle.rh_inproxy.specs.Machine as in_proxy
use Rattle.rh_inproxy.specs.State as in_state
use Rattle.rh_outproxy.specs.Machine as out_proxy
use Rattle.rh_server.specs.Servers as server
use Rattle.law_moves.proofs.Vocabulary.{Pipe, IsU, CoD, OsU, ClientConfig, Leg, ClientOut, OutServer, ClientIn, InServer, Rules, same_leg, AreAllowed, AreAllowedAtEnd, EndMove, EndPassage, Move, Passage, all_end_moved, all_moved, end_started, started, of_leg, Begins, AreInTurn, RefusesInTurn}
use Rattle.law_role_inproxy.proofs.Vocabulary.{InProxyConfig, InProxy, is_client_leg}
use Rattle.law_role_client.proofs.Vocabulary.{ClientRole, AreAllowedMoves, client_moved}
use Rattle.law_role_client.specs.Legible as client_legible
use Rattle.law_role_server.proofs.Vocabulary.{Server}
use Rattle.law_role_server.specs.Legible as server_legible
use Rattle.law_node_history.proofs.Vocabulary.{Company, Makers, leg_at, History}
use Rattle.law_role_outproxy.proofs.Vocabulary.{OutProxyConfig, OutProxy, new_proxy}
use Rattle.law_node_streams.specs.Streams.{RefusesFirst}
use Rattle.law_node_begins.specs.EndsBegin.{BeginsLegs}
use Rattle.law_node_begins.specs.ProxiesBegin.Pipes.{in_pipe, out_pipe, ci, is, co, os}
use Rattle.law_node_traces.proofs.Vocabulary.{AreOurs}
use Rattle.law_peers_routes.specs.Downwards as down
use Rattle.law_world_order.proofs.Flowing.{Streaming}
use Rattle.law_world_order.proofs.Vocabulary.{AreBegun, Flows, numbers_of}

abbrev in_moved : InProxyConfig → List Move → Passage InProxy
in_moved config moves = all_moved in_proxy.rules (started (in_state.first config)) moves

abbrev out_moved : OutProxyConfig → List Move → Passage OutProxy
out_moved config moves = all_moved out_proxy.rules (started (new_proxy config)) moves

pub record Beginning : Type 0 where
  pub client : (config : ClientConfig) (moves : List EndMove) → AreAllowedMoves config moves
      → BeginsLegs client_legible.pipe_put (client_moved config moves).passage.put
  pub server : (window : ℕ) (moves : List EndMove)
      → AreAllowedAtEnd server.rules server.acts (end_started (server.first window)) moves
      → BeginsLegs server_legible.pipe_put
      (all_end_moved server.rules server.acts (end_started (server.first window)) moves).passage.put
  pub in_server : (config : InProxyConfig) (moves : List Move)
      → AreAllowed in_proxy.rules (started (in_state.first config)) moves
      → Begins (Some IsU) (of_leg (is config.number) (in_moved config moves).put)
  pub in_client : (config : InProxyConfig) (moves : List Move) (number : ℕ)
      → AreAllowed in_proxy.rules (started (in_state.first config)) moves
      → AreInTurn in_proxy.rules (in_state.first config) moves
      → Begins None (of_leg (ci number) (in_moved config moves).put)
  pub out_server : (config : OutProxyConfig) (moves : List Move)
      → AreAllowed out_proxy.rules (started (new_proxy config)) moves
      → Begins (Some OsU) (of_leg (os config.number) (out_moved config moves).put)
  pub out_client : (config : OutProxyConfig) (moves : List Move)
      → AreAllowed out_proxy.rules (started (new_proxy config)) moves
      → AreInTurn out_proxy.rules (new_proxy config) moves
      → Begins (Some CoD) (of_leg (co config.number) (out_moved config moves).put)
  pub in_refuses : (config : InProxyConfig) (number : ℕ)
      → RefusesInTurn in_proxy.rules (in_state.first config) (in_pipe config) (ci number)
  pub in_refuses_else : (config : InProxyConfig) (leg : Leg) → is_client_leg leg ≡ false
      → RefusesFirst in_proxy.rules (in_state.first config) (in_pipe config) leg
  pub out_refuses : (config : OutProxyConfig)
      → RefusesInTurn out_proxy.rules (new_proxy config) (out_pipe config) (co config.number)
  pub out_refuses_else : (config : OutProxyConfig) (leg : Leg)
      → same_leg (co config.number) leg ≡ false
      → RefusesFirst out_proxy.rules (new_proxy config) (out_pipe config) leg

-- what refuses first does so in its turn
in_turn : {S : Type 0} (rules : Rules S) (first : S) (pipe : Leg → Option Pipe) (leg : Leg)
    → RefusesFirst rules first pipe leg → RefusesInTurn rules first pipe leg
in_turn rules first pipe leg r = record {
  asked = λ moves text fault allowed turns head none is.
      r.asked moves text fault allowed head none is;
  unreached = λ moves wanted allowed turns on wants. r.unreached moves wanted allowed on wants;
}

-- what begins in one passage does in another that is the same
begun_at : {S : Type 0} (leg : Leg) (pipe : Option Pipe) {p q : Passage S} → p ≡ q
    → Begins pipe (of_leg leg p.put) → Begins pipe (of_leg leg q.put)
begun_at {S} leg pipe same b =
    subst (λ (x : Passage S). Begins pipe (of_leg leg x.put)) same b

module _ (law : Streaming) (begins : Beginning) {K : Type 0} (m : Makers K InProxy OutProxy)
    (first : Company ClientRole Server InProxy OutProxy) (cast : K)
    (ours : AreOurs m first cast) (h : History) (f : Flows (numbers_of ours) h) where
  -- ---- the pipes

  out_same : (n : ℕ) → out_pipe (ours.out_config n) ≡ down.proxy_reads (ours.out_config n)
  out_same n = fun_ext (λ leg. sym (law.proxies.out_pipes (ours.out_config n) [] leg tt))

  out_refusing : (n : ℕ) (leg : Leg)
      → RefusesInTurn out_proxy.rules (new_proxy (ours.out_config n))
      (out_pipe (ours.out_config n)) leg
      → RefusesInTurn out_proxy.rules (new_proxy (ours.out_config n))
      (down.proxy_reads (ours.out_config n)) leg
  out_refusing n leg r =
      subst (λ (pipe : Leg → Option Pipe). RefusesInTurn out_proxy.rules
      (new_proxy (ours.out_config n)) pipe leg) (out_same n) r

  -- ---- what begins

  client_leg : (leg : Leg)
      → Begins (client_legible.pipe_put leg) (of_leg leg f.client.passage.passage.put)
  client_leg leg =
      begun_at leg (client_legible.pipe_put leg)
      (ap (λ (p : EndPassage ClientRole). p.passage) f.client.leads.reached)
      ((begins.client ours.config f.client.leads.moves f.client.leads.allowed).begins leg)

  server_leg : (leg : Leg)
      → Begins (server_legible.pipe_put leg) (of_leg leg f.server.passage.passage.put)
  server_leg leg =
      begun_at leg (server_legible.pipe_put leg)
      (ap (λ (p : EndPassage Server). p.passage) f.server.leads.reached)
      ((begins.server ours.window f.server.leads.moves f.server.leads.allowed).begins leg)

  pub starts : AreBegun (numbers_of ours) h f
  starts = record {
    client_in = λ n. client_leg (leg_at ClientIn n);
    client_out = λ n. client_leg (leg_at ClientOut n);
    server_in = λ n. server_leg (leg_at InServer n);
    server_out = λ n. server_leg (leg_at OutServer n);
    in_client = λ k n. begun_at (leg_at ClientIn n) None (f.ins k).leads.reached
        (begins.in_client (ours.in_config k) (f.ins k).leads.moves n (f.ins k).leads.allowed
        (f.ins k).in_turn);
    in_server = λ k. begun_at (leg_at InServer k) (Some IsU) (f.ins k).leads.reached
        (subst (λ (n : ℕ). Begins (Some IsU) (of_leg (leg_at InServer n)
        (in_moved (ours.in_config k) (f.ins k).leads.moves).put)) (ours.in_number k)
        (begins.in_server (ours.in_config k) (f.ins k).leads.moves (f.ins k).leads.allowed));
    out_client = λ k. begun_at (leg_at ClientOut k) (Some CoD) (f.outs k).leads.reached
        (subst (λ (n : ℕ). Begins (Some CoD) (of_leg (leg_at ClientOut n)
        (out_moved (ours.out_config k) (f.outs k).leads.moves).put)) (ours.out_number k)
        (begins.out_client (ours.out_config k) (f.outs k).leads.moves (f.outs k).leads.allowed
        (f.outs k).in_turn));
    out_server = λ k. begun_at (leg_at OutServer k) (Some OsU) (f.outs k).leads.reached
        (subst (λ (n : ℕ). Begins (Some OsU) (of_leg (leg_at OutServer n)
        (out_moved (ours.out_config k) (f.outs k).leads.moves).put)) (ours.out_number k)
        (begins.out_server (ours.out_config k) (f.outs k).leads.moves (f.outs k).leads.allowed));
    in_client_drew = λ k n. (f.ins k).drawn (leg_at ClientIn n)
        (begins.in_refuses (ours.in_config k) n);
    in_server_drew = λ k. (f.ins k).drawn (leg_at InServer k)
        (in_turn in_proxy.rules (in_state.first (ours.in_config k)) (in_pipe (ours.in_config k))
        (leg_at InServer k) (begins.in_refuses_else (ours.in_config k) (leg_at InServer k) refl));
    out_client_drew = λ k. (f.outs k).drawn (leg_at ClientOut k)
        (subst (λ (n : ℕ). RefusesInTurn out_proxy.rules (new_proxy (ours.out_config k))
        (down.proxy_reads (ours.out_config k)) (leg_at ClientOut n)) (ours.out_number k)
        (out_refusing k (leg_at ClientOut (ours.out_config k).number)
        (begins.out_refuses (ours.out_config k))));
    out_server_drew = λ k. (f.outs k).drawn (leg_at OutServer k)
        (out_refusing k (leg_at OutServer k)
        (in_turn out_proxy.rules (new_proxy (ours.out_config k)) (out_pipe (ours.out_config k))
        (leg_at OutServer k)
        (begins.out_refuses_else (ours.out_config k) (leg_at OutServer k) refl)));
  }
