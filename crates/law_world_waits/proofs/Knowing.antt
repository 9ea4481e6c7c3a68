-- each role knows the legs that came up for it, and each proxy its number
use Rattle.law_order.proofs.Vocabulary.{◌≡◌, ℕ, List, sym, ap, ◌∙◌, subst}
use Rattle.rh_inproxy.specs.Machine as in_proxy
use Rattle.rh_inproxy.specs.State as in_state
use Rattle.rh_outproxy.specs.Machine as out_proxy
use Rattle.rh_client.specs.Client as client
use Rattle.rh_server.specs.Servers as server
use Rattle.law_moves.proofs.Vocabulary.{ClientConfig, Leg, Passage, Shell, begun, EndEvent, Event, after_end_events, after_events}
use Rattle.law_role_inproxy.proofs.Vocabulary.{InProxy, InProxyConfig}
use Rattle.law_role_client.proofs.Vocabulary.{ClientRole}
use Rattle.law_role_server.proofs.Vocabulary.{Server}
use Rattle.law_node_history.proofs.Vocabulary.{AllAccepted, AreAccepted, AreAcceptedAtEnd, Company, History, Makers, World, came_up, happened}
use Rattle.law_role_outproxy.proofs.Vocabulary.{ROOMS, OutProxy, OutProxyConfig, new_proxy}
use Rattle.law_node_streams.specs.Streams.{HasPipes}
use Rattle.law_node_begins.specs.ProxiesBegin.Pipes.{in_pipe, out_pipe}
use Rattle.law_node_traces.proofs.Vocabulary.{AreOurs, deeds, rules}
use Rattle.law_world_order.proofs.Vocabulary.{Numbers, numbers_of}
use Rattle.law_world_ways.specs.ExactWays.Keeping.{KnowsLeg}
use Rattle.law_world_ways.specs.OnPaths.Ways.{AreOnTheirWay, in_node, out_node}
use Rattle.law_world_waits.proofs.HeldWorlds.{Knows}

-- ---- what this stands on

pub record KnowLaws : Type 0 where
  pub client : (config : ClientConfig) (events : List EndEvent) (leg : Leg)
      → AreAcceptedAtEnd client.rules client.acts (client.first_client config) events
      → KnowsLeg client.rules
      (after_end_events client.rules client.acts (client.first_client config) events) leg
      (came_up leg (happened events))
  pub server : (window : ℕ) (events : List EndEvent) (leg : Leg)
      → AreAcceptedAtEnd server.rules server.acts (server.new_server window) events
      → KnowsLeg server.rules
      (after_end_events server.rules server.acts (server.new_server window) events) leg
      (came_up leg (happened events))
  pub ins : (config : InProxyConfig) (events : List Event) (leg : Leg)
      → AreAccepted in_proxy.rules (in_proxy.first_node config) events
      → KnowsLeg in_proxy.rules
      (after_events in_proxy.rules (in_proxy.first_node config) events) leg (came_up leg events)
  pub outs : (config : OutProxyConfig) (events : List Event) (leg : Leg)
      → AreAccepted out_proxy.rules (begun (new_proxy config) ROOMS) events
      → KnowsLeg out_proxy.rules
      (after_events out_proxy.rules (begun (new_proxy config) ROOMS) events) leg
      (came_up leg events)
  pub in_pipes : (config : InProxyConfig)
      → HasPipes in_proxy.rules (in_state.first config) (in_pipe config)
  pub out_pipes : (config : OutProxyConfig)
      → HasPipes out_proxy.rules (new_proxy config) (out_pipe config)

module _ (law : KnowLaws) {K : Type 0} (m : Makers K InProxy OutProxy)
    (first : Company ClientRole Server InProxy OutProxy) (cast : K) (ours : AreOurs m first cast)
    (v : World K ClientRole Server InProxy OutProxy) (h : History)
    (accepted : AllAccepted rules m deeds first v.cast h) (same : v.cast ≡ cast)
    (ways : AreOnTheirWay (numbers_of ours) v h) where
  abbrev numbers : Numbers
  numbers = numbers_of ours

  in_accepted : (n : ℕ)
      → AreAccepted in_proxy.rules (in_proxy.first_node (numbers.ins n)) (h.ins n)
  in_accepted n =
      subst (λ (node : Shell InProxy). AreAccepted in_proxy.rules node (h.ins n))
      (ap (λ (k : K). m.in_proxy k n) same ∙ ours.ins n) (accepted.ins n)

  out_accepted : (n : ℕ)
      → AreAccepted out_proxy.rules (begun (new_proxy (numbers.outs n)) ROOMS) (h.outs n)
  out_accepted n =
      subst (λ (node : Shell OutProxy). AreAccepted out_proxy.rules node (h.outs n))
      (ap (λ (k : K). m.out_proxy k n) same ∙ ours.outs n) (accepted.outs n)

  in_reads : (n : ℕ) (leg : Leg) → in_proxy.rules.pipe (in_node numbers h n).role leg
      ≡ in_pipe (numbers.ins n) leg
  in_reads n leg =
      let stream = ways.directions.up.proxies n in
      sym (ap (λ (s : InProxy). in_proxy.rules.pipe s leg)
      (ap (λ (p : Passage InProxy). p.role) stream.leads.reached ∙ stream.role))
      ∙ law.in_pipes (numbers.ins n) stream.leads.moves leg stream.leads.allowed

  out_reads : (n : ℕ) (leg : Leg) → out_proxy.rules.pipe (out_node numbers h n).role leg
      ≡ out_pipe (numbers.outs n) leg
  out_reads n leg =
      let stream = ways.directions.down.proxies n in
      sym (ap (λ (s : OutProxy). out_proxy.rules.pipe s leg)
      (ap (λ (p : Passage OutProxy). p.role) stream.leads.reached ∙ stream.role))
      ∙ law.out_pipes (numbers.outs n) stream.leads.moves leg stream.leads.allowed

  pub roles_know : Knows numbers h
  roles_know = record {
    client = λ leg.
        law.client numbers.client h.client leg
        (subst (λ (node : Shell ClientRole).
        AreAcceptedAtEnd client.rules client.acts node h.client) ours.client accepted.client);
    server = λ leg.
        law.server numbers.window h.server leg
        (subst (λ (node : Shell Server).
        AreAcceptedAtEnd server.rules server.acts node h.server) ours.server accepted.server);
    ins = λ n leg. law.ins (numbers.ins n) (h.ins n) leg (in_accepted n);
    outs = λ n leg. law.outs (numbers.outs n) (h.outs n) leg (out_accepted n);
    in_pipes = in_reads;
    out_pipes = out_reads;
    in_number = ours.in_number;
    out_number = ours.out_number;
  }
