-- the streams of all nodes, joined in both directions, by which all that was put on a leg that is
-- forgotten was drawn
use Rattle.law_order.proofs.Vocabulary.{◌≡◌, ℕ, zero, suc, List, [], true≢false, sym, ap, ◌∙◌, subst, Option, IsPrefix}
use Rattle.rh_inproxy.specs.Machine as in_proxy
use Rattle.rh_inproxy.specs.State as in_state
use Rattle.rh_outproxy.specs.Machine as out_proxy
use Rattle.rh_client.specs.Client as client
use Rattle.rh_client.specs.State as client_state
use Rattle.rh_server.specs.Servers as server
use Rattle.law_moves.proofs.Vocabulary.{Dir, Side, Pipe, ClientConfig, Leg, Rooms, Acts, Rules, Shell, begun, EndPassage, Passage, EndEvent, Event, AreLegible, IsLegible}
use Rattle.law_role_inproxy.proofs.Vocabulary.{InProxyConfig, InProxy}
use Rattle.law_role_inproxy.specs.Legible as in_legible
use Rattle.law_role_client.proofs.Vocabulary.{ClientRole}
use Rattle.law_role_client.specs.Legible as client_legible
use Rattle.law_role_server.proofs.Vocabulary.{Server}
use Rattle.law_role_server.specs.Legible as server_legible
use Rattle.law_node_history.proofs.Vocabulary.{Who, receiver, sender, Place, Makers, World, AllAccepted, AreAccepted, AreAcceptedAtEnd, ComesUpOnce, ComesUpOnceAtEnd, IsTraced, LegsComeUpOnce, came_up, drawn_by, end_node, events_of, happened, heard_on, History, IsRun}
use Rattle.law_node_history.proofs.Lemmas.{cast_kept}
use Rattle.law_role_outproxy.proofs.Vocabulary.{ROOMS, OutProxyConfig, OutProxy, new_proxy}
use Rattle.law_role_outproxy.specs.Legible as out_legible
use Rattle.law_node_streams.specs.Streams.{HearsInTurn}
use Rattle.law_node_begins.specs.ProxiesBegin.Pipes.{in_pipe}
use Rattle.law_node_traces.proofs.Vocabulary.{ByChanges, HaveWholeCookies, AreOurs, deeds, rules, IsKnown, history_at}
use Rattle.law_peers_routes.specs.Downwards.{client_reads, proxy_reads, server_reads}
use Rattle.law_world_order.proofs.Flowing.{Streaming}
use Rattle.law_world_order.proofs.Heard.{heard_fine}
use Rattle.law_world_order.proofs.Legs.{Reads}
use Rattle.law_world_order.proofs.Starting.{Beginning, starts}
use Rattle.law_world_order.proofs.Pasts.Legal.{have_cookies}
use Rattle.law_world_order.proofs.Legal.{Legalities}
use Rattle.law_world_order.proofs.Moments.{sized as whole_cookies, OurWorld}
use Rattle.law_world_order.proofs.Vocabulary.{Directions, AllFine, AllLegible, AreBegun, Flows, IsFlowing, numbers_of, AreInRange}
use Rattle.law_world_ways.proofs.OnPaths.Forgotten.{Drawn, EndDrawn}
use Rattle.law_world_ways.specs.OnPaths.Forgotten.{DrawnDirections}

-- ---- the laws that this stands on

abbrev pub NodeDraws : {S : Type 0} → Rules S → S → Rooms → (Leg → Option Pipe) → Type 0
NodeDraws rules first rooms pipe =
    (events : List Event) → ComesUpOnce rules (begun first rooms)
    → AreAccepted rules (begun first rooms) events → HearsInTurn events
    → Drawn rules first rooms pipe events

abbrev pub EndDraws : {S : Type 0} → Rules S → Acts S → S → Rooms → (Leg → Option Pipe) → Type 0
EndDraws rules acts first rooms pipe =
    (events : List EndEvent) → ComesUpOnceAtEnd rules acts (begun first rooms)
    → AreAcceptedAtEnd rules acts (begun first rooms) events → HearsInTurn (happened events)
    → EndDrawn rules acts first rooms pipe events

-- each node has a stream by which it is so
pub record AllDraw : Type 0 where
  pub clients : (config : ClientConfig)
      → EndDraws client.rules client.acts (client_state.first config) client.rooms client_reads
  pub servers : (window : ℕ)
      → EndDraws server.rules server.acts (server.first window) server.rooms server_reads
  pub ins : (config : InProxyConfig)
      → NodeDraws in_proxy.rules (in_state.first config) in_proxy.rooms (in_pipe config)
  pub outs : (config : OutProxyConfig)
      → NodeDraws out_proxy.rules (new_proxy config) ROOMS (proxy_reads config)

pub record DrawLaws (K : Type 0) : Type 0 where
  pub draws : AllDraw
  pub streaming : Streaming
  pub begins : Beginning
  pub legal : Legalities
  pub reads : Reads
  pub drawn : (m : Makers K InProxy OutProxy) (w v : OurWorld K) (h : History)
      → IsTraced rules m deeds w.company v h → (leg : Leg) (dir : Dir)
      → IsPrefix (heard_on leg (events_of h (end_node v.readers leg (receiver dir))))
      (drawn_by rules m deeds w.company v.cast h (end_node v.readers leg (sender dir)) leg)
  pub alone : (m : Makers K InProxy OutProxy) (w v : OurWorld K) (h : History)
      → IsTraced rules m deeds w.company v h → (node : Who) (leg : Leg)
      → ((end : Side) → end_node v.readers leg end ≡ node → ⊥)
      → heard_on leg (events_of h node) ≡ []

-- ---- a moment of a world

module _ {K : Type 0} (law : DrawLaws K) (m : Makers K InProxy OutProxy) (w : OurWorld K)
    (ours : AreOurs m w.company w.cast) (ranges : AreInRange (numbers_of ours)) (v : OurWorld K)
    (by : ByChanges rules m deeds w v) (known : IsKnown m w v by.leads)
    (cookies : HaveWholeCookies (happened (history_at m w v by.leads).client))
    (flowing : IsFlowing (numbers_of ours) w v (history_at m w v by.leads))
    (d : Directions (numbers_of ours) v (history_at m w v by.leads)) where
  abbrev h : History
  h = history_at m w v by.leads

  same_cast : v.cast ≡ w.cast
  same_cast = cast_kept rules m deeds w v by.leads

  once : LegsComeUpOnce rules m deeds w.company w.cast
  once = subst (LegsComeUpOnce rules m deeds w.company) same_cast known.once

  accepted : AllAccepted rules m deeds w.company w.cast h
  accepted =
      subst (λ (c : K). AllAccepted rules m deeds w.company c h) same_cast known.traced.accepted

  -- there is no in proxy 0
  none : h.ins 0 ≡ []
  none =
      subst (λ (place : Place InProxy).
      IsRun in_proxy.rules (m.in_proxy v.cast 0) (h.ins 0) place) known.traced.zero
      (known.traced.runs.ins 0)

  -- ---- the streams

  at_client : EndDrawn client.rules client.acts (client_state.first ours.config) client.rooms
      client_reads h.client
  at_client =
      law.draws.clients ours.config h.client
      (subst (λ (node : Shell ClientRole). ComesUpOnceAtEnd client.rules client.acts node)
      ours.client once.client)
      (subst (λ (node : Shell ClientRole). AreAcceptedAtEnd client.rules client.acts node h.client)
      ours.client accepted.client) known.in_turn.client

  at_server : EndDrawn server.rules server.acts (server.first ours.window) server.rooms
      server_reads h.server
  at_server =
      law.draws.servers ours.window h.server
      (subst (λ (node : Shell Server). ComesUpOnceAtEnd server.rules server.acts node)
      ours.server once.server)
      (subst (λ (node : Shell Server). AreAcceptedAtEnd server.rules server.acts node h.server)
      ours.server accepted.server) known.in_turn.server

  at_out : (n : ℕ) → Drawn out_proxy.rules (new_proxy (ours.out_config n)) ROOMS
      (proxy_reads (ours.out_config n)) (h.outs n)
  at_out n =
      law.draws.outs (ours.out_config n) (h.outs n)
      (subst (λ (node : Shell OutProxy). ComesUpOnce out_proxy.rules node) (ours.outs n)
      (once.outs n))
      (subst (λ (node : Shell OutProxy). AreAccepted out_proxy.rules node (h.outs n))
      (ours.outs n) (accepted.outs n)) (known.in_turn.outs n)

  at_in : (n : ℕ) → Drawn in_proxy.rules (in_state.first (ours.in_config n)) in_proxy.rooms
      (in_pipe (ours.in_config n)) (h.ins n)
  at_in zero = record {
    stream = d.up.proxies 0;
    all = λ leg gone. absurd (true≢false (sym gone.rose ∙ ap (came_up leg) none));
  }
  at_in (suc n) =
      law.draws.ins (ours.in_config (suc n)) (h.ins (suc n))
      (subst (λ (node : Shell InProxy). ComesUpOnce in_proxy.rules node) (ours.ins (suc n))
      (once.ins (suc n)))
      (subst (λ (node : Shell InProxy). AreAccepted in_proxy.rules node (h.ins (suc n)))
      (ours.ins (suc n)) (accepted.ins (suc n))) (known.in_turn.ins (suc n))

  abbrev f : Flows (numbers_of ours) h
  f = record {
    client = at_client.stream;
    server = at_server.stream;
    ins = λ n. (at_in n).stream;
    outs = λ n. (at_out n).stream;
  }

  -- ---- what was put begins as it is read, and may go on its pipe

  begins : AreBegun (numbers_of ours) h f
  begins = starts law.streaming law.begins m w.company w.cast ours h f

  fine : AllFine (numbers_of ours) h f
  fine =
      heard_fine law.reads m w.company w.cast ours h h v.readers v.readers
      (λ leg dir.
      subst (λ (c : K).
      IsPrefix (heard_on leg (events_of h (end_node v.readers leg (receiver dir))))
      (drawn_by rules m deeds w.company c h (end_node v.readers leg (sender dir)) leg)) same_cast
      (law.drawn m w v h known.traced leg dir))
      (law.alone m w v h known.traced) flowing.flows flowing.begun flowing.legible f

  ins_legible : (n : ℕ) → AreLegible in_legible.pipe_put (f.ins n).passage.put
  unfolding at_in
  ins_legible zero = d.up.proxies_legible 0
  ins_legible (suc n) =
      subst (λ (p : Passage InProxy). IsLegible in_legible.pipe_put p)
      (f.ins (suc n)).leads.reached
      (law.legal.ins (ours.in_config (suc n)) (f.ins (suc n)).leads.moves (ranges.ins n)
      (ranges.sizes (suc n))) (fine.ins (suc n))

  legible : AllLegible (numbers_of ours) h f
  legible = record {
    client =
        subst (λ (p : EndPassage ClientRole). AreLegible client_legible.pipe_put p.passage.put)
        f.client.leads.reached
        (law.legal.client ours.config f.client.leads.moves ranges.client ranges.cookies
        (have_cookies f.client.leads.moves
        (f.client.cookies (whole_cookies (happened h.client) cookies))));
    server =
        subst (λ (p : EndPassage Server). IsLegible server_legible.pipe_put p.passage)
        f.server.leads.reached
        (law.legal.server ours.window f.server.leads.moves ranges.window) fine.server;
    ins = ins_legible;
    outs = λ n.
        subst (λ (p : Passage OutProxy). IsLegible out_legible.pipe_put p)
        (f.outs n).leads.reached
        (law.legal.outs (ours.out_config n) (f.outs n).leads.moves (ranges.outs n))
        (fine.outs n);
  }

  -- ---- joined as the others are

  pub drawn_directions : DrawnDirections (numbers_of ours) v h
  drawn_directions = record {
    directions = record {
      down = record {
        taker = f.client;
        giver = f.server;
        proxies = f.outs;
        numbered = d.down.numbered;
        near = d.down.near;
        far = d.down.far;
        alone = d.down.alone;
        server_begins = begins.server_out;
        proxies_begin = begins.out_client;
        server_legible = legible.server;
        proxies_legible = legible.outs;
        proxies_drew = begins.out_client_drew;
      };
      up = record {
        giver = f.client;
        taker = f.server;
        proxies = f.ins;
        numbered = d.up.numbered;
        near = d.up.near;
        far = d.up.far;
        readers = d.up.readers;
        client_legible = legible.client;
        proxies_legible = legible.ins;
      };
    };
    client = at_client.all;
    server = at_server.all;
    ins = λ n. (at_in n).all;
    outs = λ n. (at_out n).all;
  }
