-- each node of a world that is traced has its stream
use Rattle.law_order.proofs.Vocabulary.{◌≡◌, ℕ, zero, suc, List, [], Some, None, inl, sym, ◌∙◌, ap, subst, refl, Option, IsPrefix}
use Rattle.rh_inproxy.specs.Machine as in_proxy
use Rattle.rh_inproxy.specs.State as in_state
use Rattle.rh_outproxy.specs.Machine as out_proxy
use Rattle.rh_client.specs.Client as client
use Rattle.rh_client.specs.State as client_state
use Rattle.rh_server.specs.Servers as server
use Rattle.law_moves.proofs.Vocabulary.{Pipe, ClientConfig, Leg, Rooms, NearEnd, Rules, Acts, Shell, begun, end_at, started, Event, EndEvent, after_events, messages_read}
use Rattle.law_role_inproxy.proofs.Vocabulary.{InProxyConfig, InProxy}
use Rattle.law_role_client.proofs.Vocabulary.{ClientRole}
use Rattle.law_role_server.proofs.Vocabulary.{Server}
use Rattle.law_node_history.proofs.Vocabulary.{Company, Makers, AreAccepted, AreAcceptedAtEnd, ComesUpOnce, ComesUpOnceAtEnd, AllAccepted, LegsComeUpOnce, came_up, drawn_on, happened, heard_on, History}
use Rattle.law_role_outproxy.proofs.Vocabulary.{ROOMS, OutProxyConfig, OutProxy, new_proxy}
use Rattle.law_node_streams.proofs.Streams.Ends.{end_is, end_of}
use Rattle.law_node_streams.specs.Streams.{EndStream, HasPipes, HearsInTurn, NeverRefuses, StaysUnused, StaysUnusedAtEnd, Stream}
use Rattle.law_node_begins.specs.ProxiesBegin.Pipes.{in_pipe, out_pipe}
use Rattle.law_node_traces.proofs.Vocabulary.{AreOurs, deeds, rules, HearInTurn}
use Rattle.law_peers_routes.specs.Downwards as down
use Rattle.law_world_order.proofs.Vocabulary.{Flows, numbers_of}

-- ---- the laws that this stands on

abbrev pub NodeStreams : {S : Type 0} → Rules S → Type 0
NodeStreams {S} rules =
    (first : S) (rooms : Rooms) (pipe : Leg → Option Pipe) (events : List Event)
    → HasPipes rules first pipe → StaysUnused rules first
    → ComesUpOnce rules (begun first rooms) → AreAccepted rules (begun first rooms) events
    → HearsInTurn events → Stream rules first rooms pipe events

abbrev pub EndStreams : {S : Type 0} → Rules S → Acts S → Type 0
EndStreams {S} rules acts =
    (first : S) (rooms : Rooms) (pipe : Leg → Option Pipe) (events : List EndEvent)
    → ((s : S) (leg : Leg) → rules.pipe s leg ≡ pipe leg) → NeverRefuses rules
    → StaysUnusedAtEnd rules acts first → ComesUpOnceAtEnd rules acts (begun first rooms)
    → AreAcceptedAtEnd rules acts (begun first rooms) events
    → HearsInTurn (happened events) → EndStream rules acts first rooms pipe events

pub record ProxyStreaming : Type 0 where
  pub ins : NodeStreams in_proxy.rules
  pub outs : NodeStreams out_proxy.rules
  pub in_pipes : (config : InProxyConfig)
      → HasPipes in_proxy.rules (in_state.first config) (in_pipe config)
  pub out_pipes : (config : OutProxyConfig)
      → HasPipes out_proxy.rules (new_proxy config) (out_pipe config)
  pub in_unused : (config : InProxyConfig) → StaysUnused in_proxy.rules (in_state.first config)
  pub out_unused : (config : OutProxyConfig) → StaysUnused out_proxy.rules (new_proxy config)

pub record Streaming : Type 0 where
  pub proxies : ProxyStreaming
  pub clients : EndStreams client.rules client.acts
  pub servers : EndStreams server.rules server.acts
  pub client_refuses : NeverRefuses client.rules
  pub server_refuses : NeverRefuses server.rules
  pub client_unused : (config : ClientConfig)
      → StaysUnusedAtEnd client.rules client.acts (client_state.first config)
  pub server_unused : (window : ℕ)
      → StaysUnusedAtEnd server.rules server.acts (server.first window)

-- what a proxy reads at first it reads always
pub out_reads : ProxyStreaming → (config : OutProxyConfig)
    → HasPipes out_proxy.rules (new_proxy config) (down.proxy_reads config)
out_reads law config moves leg allowed =
    law.out_pipes config moves leg allowed ∙ sym (law.out_pipes config [] leg tt)

-- ---- the streams

-- where there is none, there is no end
pub no_end : (end : NearEnd) → ◌≡◌ {A = Option NearEnd} None (Some end) → ⊥
no_end end e = absurd (cc)

pub none_at : {S : Type 0} (rules : Rules S) (first : S) (rooms : Rooms) (events : List Event)
    → events ≡ [] → (leg : Leg) (end : NearEnd)
    → end_at (after_events rules (begun first rooms) events) leg ≡ Some end → ⊥
none_at rules first rooms events none leg end at =
    no_end end
    (ap (λ (e : List Event). end_of leg (after_events rules (begun first rooms) e).legs) (sym none)
    ∙ sym (end_is leg (after_events rules (begun first rooms) events).legs) ∙ at)

-- of a node at which nothing happened
abbrev pub still : {S : Type 0} (rules : Rules S) (first : S) (rooms : Rooms)
    (pipe : Leg → Option Pipe) (events : List Event) → events ≡ []
    → Stream rules first rooms pipe events
still rules first rooms pipe events none = record {
  passage = started first;
  leads = record { moves = []; allowed = tt; reached = refl };
  role = ap (λ (e : List Event). (after_events rules (begun first rooms) e).role) (sym none);
  in_turn = tt;
  counted = tt;
  ups = λ leg. ap (came_up leg) (sym none);
  read = λ leg. (messages_read (pipe leg) (heard_on leg events), refl);
  drawn = λ leg refuses.
      inl (subst (λ (e : List Event). IsPrefix (drawn_on rules (begun first rooms) leg e) [])
      (sym none) ([], refl));
  heads = λ leg. tt;
  refused = λ leg refuses.
      inl (subst (λ (e : List Event). IsPrefix (drawn_on rules (begun first rooms) leg e) [])
      (sym none) ([], refl));
  goes = λ leg going.
      subst (λ (e : List Event). IsPrefix (drawn_on rules (begun first rooms) leg e) []) (sym none)
      ([], refl);
  unrefused = λ leg free.
      subst (λ (e : List Event). IsPrefix (drawn_on rules (begun first rooms) leg e) []) (sym none)
      ([], refl);
  seats = λ leg end going at. absurd (none_at rules first rooms events none leg end at);
  left = λ leg end free at. absurd (none_at rules first rooms events none leg end at);
  unput = λ leg none. refl;
}

module _ {K : Type 0} (law : Streaming) (m : Makers K InProxy OutProxy)
    (first : Company ClientRole Server InProxy OutProxy) (cast : K) (h : History)
    (ours : AreOurs m first cast) (once : LegsComeUpOnce rules m deeds first cast)
    (accepted : AllAccepted rules m deeds first cast h) (turns : HearInTurn h)
    (none : h.ins 0 ≡ []) where
  abbrev pub in_stream : (n : ℕ)
      → Stream in_proxy.rules (in_state.first (ours.in_config n)) in_proxy.rooms
      (in_pipe (ours.in_config n)) (h.ins n)
  in_stream zero =
      still in_proxy.rules (in_state.first (ours.in_config 0)) in_proxy.rooms
      (in_pipe (ours.in_config 0)) (h.ins 0) none
  in_stream (suc n) =
      law.proxies.ins (in_state.first (ours.in_config (suc n))) in_proxy.rooms
      (in_pipe (ours.in_config (suc n))) (h.ins (suc n))
      (law.proxies.in_pipes (ours.in_config (suc n)))
      (law.proxies.in_unused (ours.in_config (suc n)))
      (subst (λ (node : Shell InProxy). ComesUpOnce in_proxy.rules node) (ours.ins (suc n))
      (once.ins (suc n)))
      (subst (λ (node : Shell InProxy). AreAccepted in_proxy.rules node (h.ins (suc n)))
      (ours.ins (suc n)) (accepted.ins (suc n))) (turns.ins (suc n))

  abbrev pub flows : Flows (numbers_of ours) h
  flows = record {
    client =
        law.clients (client_state.first ours.config) client.rooms down.client_reads h.client
        (λ s leg. refl) law.client_refuses (law.client_unused ours.config)
        (subst (λ (node : Shell ClientRole). ComesUpOnceAtEnd client.rules client.acts node)
        ours.client once.client)
        (subst (λ (node : Shell ClientRole).
        AreAcceptedAtEnd client.rules client.acts node h.client) ours.client accepted.client)
        turns.client;
    server =
        law.servers (server.first ours.window) server.rooms down.server_reads h.server
        (λ s leg. refl) law.server_refuses (law.server_unused ours.window)
        (subst (λ (node : Shell Server). ComesUpOnceAtEnd server.rules server.acts node)
        ours.server once.server)
        (subst (λ (node : Shell Server). AreAcceptedAtEnd server.rules server.acts node h.server)
        ours.server accepted.server) turns.server;
    ins = in_stream;
    outs = λ n.
        law.proxies.outs (new_proxy (ours.out_config n)) ROOMS
        (down.proxy_reads (ours.out_config n)) (h.outs n)
        (out_reads law.proxies (ours.out_config n)) (law.proxies.out_unused (ours.out_config n))
        (subst (λ (node : Shell OutProxy). ComesUpOnce out_proxy.rules node) (ours.outs n)
        (once.outs n))
        (subst (λ (node : Shell OutProxy). AreAccepted out_proxy.rules node (h.outs n))
        (ours.outs n) (accepted.outs n)) (turns.outs n);
  }
