-- the streams of all nodes along changes, each behind the one before
use Rattle.rh_text.specs.declared.ends.Side.TheVariants as side
use Rattle.law_order.proofs.Vocabulary.{◌≡◌, ℕ, List, [], ◌∷◌, ◌++◌, append_assoc, refl, sym, ◌∙◌, ap, subst, map, Option, append-nil, IsPrefix}
use Rattle.rh_record.specs.declared.answer.Who.TheVariants as who
use Rattle.rh_inproxy.specs.Machine as in_proxy
use Rattle.rh_inproxy.specs.State as in_state
use Rattle.rh_outproxy.specs.Machine as out_proxy
use Rattle.rh_client.specs.Client as client
use Rattle.rh_client.specs.State as client_state
use Rattle.rh_server.specs.Servers as server
use Rattle.law_moves.proofs.Vocabulary.{Side, prefix_self, prefix_trans, Pipe, Leg, Rooms, Acts, Rules, Shell, begun, EndEvent, Event, Happens}
use Rattle.law_role_inproxy.proofs.Vocabulary.{InProxy}
use Rattle.law_role_client.proofs.Vocabulary.{ClientRole}
use Rattle.law_role_server.proofs.Vocabulary.{Server}
use Rattle.law_node_history.proofs.Vocabulary.{Who, Makers, World, AllAccepted, AreAccepted, AreAcceptedAtEnd, ComesUpOnce, ComesUpOnceAtEnd, LegsComeUpOnce, happened, Change, changed, History, acts_by, all_noted, at_place, in_place, made_by, noted, nothing, out_place, told_to}
use Rattle.law_role_outproxy.proofs.Vocabulary.{ROOMS, OutProxy, new_proxy}
use Rattle.law_node_streams.proofs.Grown.Walks.{EndGoes, Goes, end_walk, walk}
use Rattle.law_node_streams.specs.Streams.{HasPipes, HearsInTurn, NeverRefuses, StaysUnused, StaysUnusedAtEnd}
use Rattle.law_node_streams.specs.Grown.{EndGrowing, EndGrows, Growing, Grows}
use Rattle.law_node_begins.specs.ProxiesBegin.Pipes.{in_pipe}
use Rattle.law_node_traces.proofs.Vocabulary.{AreOurs, deeds, rules, HearInTurn}
use Rattle.law_peers_routes.specs.Downwards as down
use Rattle.law_world_order.proofs.Flowing.{Streaming, out_reads}
use Rattle.law_world_order.proofs.Vocabulary.{Flows, Numbers, numbers_of}

-- ---- the laws that this stands on

abbrev pub NodeGrows : {S : Type 0} → Rules S → Type 0
NodeGrows {S} rules =
    (first : S) (rooms : Rooms) (pipe : Leg → Option Pipe) (events : List Event)
    → HasPipes rules first pipe → StaysUnused rules first
    → ComesUpOnce rules (begun first rooms) → AreAccepted rules (begun first rooms) events
    → HearsInTurn events → Growing rules first rooms pipe events

abbrev pub EndNodeGrows : {S : Type 0} → Rules S → Acts S → Type 0
EndNodeGrows {S} rules acts =
    (first : S) (rooms : Rooms) (pipe : Leg → Option Pipe) (events : List EndEvent)
    → ((s : S) (leg : Leg) → rules.pipe s leg ≡ pipe leg) → NeverRefuses rules
    → StaysUnusedAtEnd rules acts first → ComesUpOnceAtEnd rules acts (begun first rooms)
    → AreAcceptedAtEnd rules acts (begun first rooms) events
    → HearsInTurn (happened events) → EndGrowing rules acts first rooms pipe events

pub record AllRise : Type 0 where
  pub streaming : Streaming
  pub ins : NodeGrows in_proxy.rules
  pub outs : NodeGrows out_proxy.rules
  pub clients : EndNodeGrows client.rules client.acts
  pub servers : EndNodeGrows server.rules server.acts

-- ---- the moves of each node go on

pub record Grown (numbers : Numbers) (h g : History) (f : Flows numbers h)
    (next : Flows numbers g) : Type 0 where
  pub client : IsPrefix f.client.leads.moves next.client.leads.moves
  pub server : IsPrefix f.server.leads.moves next.server.leads.moves
  pub ins : (n : ℕ) → IsPrefix (f.ins n).leads.moves (next.ins n).leads.moves
  pub outs : (n : ℕ) → IsPrefix (f.outs n).leads.moves (next.outs n).leads.moves

grown_self : (numbers : Numbers) (h : History) (f : Flows numbers h) → Grown numbers h h f f
grown_self numbers h f = record {
  client = prefix_self f.client.leads.moves;
  server = prefix_self f.server.leads.moves;
  ins = λ n. prefix_self (f.ins n).leads.moves;
  outs = λ n. prefix_self (f.outs n).leads.moves;
}

grown_trans : (numbers : Numbers) (h g k : History) (f : Flows numbers h) (next : Flows numbers g)
    (end : Flows numbers k) → Grown numbers h g f next → Grown numbers g k next end
    → Grown numbers h k f end
grown_trans numbers h g k f next end a b = record {
  client = prefix_trans f.client.leads.moves next.client.leads.moves end.client.leads.moves
      a.client b.client;
  server = prefix_trans f.server.leads.moves next.server.leads.moves end.server.leads.moves
      a.server b.server;
  ins = λ n. prefix_trans (f.ins n).leads.moves (next.ins n).leads.moves (end.ins n).leads.moves
      (a.ins n) (b.ins n);
  outs = λ n. prefix_trans (f.outs n).leads.moves (next.outs n).leads.moves
      (end.outs n).leads.moves (a.outs n) (b.outs n);
}

module _ {K : Type 0} (m : Makers K InProxy OutProxy) where
  abbrev pub OurWorld : Type 0
  OurWorld = World K ClientRole Server InProxy OutProxy

  abbrev pub after : OurWorld → Change → OurWorld
  after u change = changed rules m deeds u change

  -- ---- what happens at a node by changes

  module _ {X : Type 0} (added : OurWorld → Change → List X) where
    abbrev later : OurWorld → List Change → List X
    later u [] = []
    later u (change ∷ changes) = added u change ++ later (after u change) changes

    all_later : (at : History → List X)
        → ((u : OurWorld) (h : History) (change : Change)
        → at (noted u h change) ≡ at h ++ added u change) → (u : OurWorld) (h : History)
        (changes : List Change)
        → at (all_noted rules m deeds u h changes) ≡ at h ++ later u changes
    all_later at one u h [] = sym (append-nil (at h))
    all_later at one u h (change ∷ changes) =
        let rest = later (after u change) changes in
        all_later at one (after u change) (noted u h change) changes
        ∙ ap (λ x. x ++ rest) (one u h change) ∙ append_assoc (at h) (added u change) rest

  abbrev at_end : Side → Who → OurWorld → Change → List EndEvent
  at_end end node u change = map Happens (told_to u change node) ++ acts_by change end

  abbrev at_in : ℕ → OurWorld → Change → List Event
  at_in n u change =
      at_place (in_place u.company n) (told_to u change (who.In n)) (made_by u change (who.In n))

  abbrev at_out : ℕ → OurWorld → Change → List Event
  at_out n u change =
      at_place (out_place u.company n) (told_to u change (who.Out n))
      (made_by u change (who.Out n))

  abbrev client_later : OurWorld → List Change → List EndEvent
  client_later = later (at_end side.Client who.Client)

  abbrev server_later : OurWorld → List Change → List EndEvent
  server_later = later (at_end side.Server who.Server)

  abbrev in_later : ℕ → OurWorld → List Change → List Event
  in_later n = later (at_in n)

  abbrev out_later : ℕ → OurWorld → List Change → List Event
  out_later n = later (at_out n)

  -- ---- one stream of each node behind each change

  module _ (numbers : Numbers) where
    abbrev pub AllGrow : OurWorld → (h : History) → List Change → Flows numbers h → Type 0
    AllGrow u h [] f = Unit {0}
    AllGrow u h (change ∷ changes) f =
        (next : Flows numbers (noted u h change)) × Grown numbers h (noted u h change) f next
        × AllGrow (after u change) (noted u h change) changes next

    abbrev pub last : (u : OurWorld) (h : History) (changes : List Change) (f : Flows numbers h)
        → AllGrow u h changes f → Flows numbers (all_noted rules m deeds u h changes)
    last u h [] f all = f
    last u h (change ∷ changes) f all =
        last (after u change) (noted u h change) changes all.0 all.2

    pub grown_last : (u : OurWorld) (h : History) (changes : List Change) (f : Flows numbers h)
        (all : AllGrow u h changes f)
        → Grown numbers h (all_noted rules m deeds u h changes) f (last u h changes f all)
    grown_last u h [] f all = grown_self numbers h f
    grown_last u h (change ∷ changes) f all =
        grown_trans numbers h (noted u h change) (all_noted rules m deeds u h (change ∷ changes)) f
        all.0 (last u h (change ∷ changes) f all) all.1
        (grown_last (after u change) (noted u h change) changes all.0 all.2)

    -- the stream of each node grows by all that comes later
    record GrowOn (u : OurWorld) (h : History) (changes : List Change) (f : Flows numbers h)
        : Type 0 where
      client : EndGrows client.rules client.acts (client_state.first numbers.client) client.rooms
          down.client_reads h.client (client_later u changes) f.client
      server : EndGrows server.rules server.acts (server.first numbers.window) server.rooms
          down.server_reads h.server (server_later u changes) f.server
      ins : (n : ℕ) → Grows in_proxy.rules (in_state.first (numbers.ins n)) in_proxy.rooms
          (in_pipe (numbers.ins n)) (h.ins n) (in_later n u changes) (f.ins n)
      outs : (n : ℕ) → Grows out_proxy.rules (new_proxy (numbers.outs n)) ROOMS
          (down.proxy_reads (numbers.outs n)) (h.outs n) (out_later n u changes) (f.outs n)

    module _ (u : OurWorld) (h : History) (change : Change) (changes : List Change)
        (f : Flows numbers h) (on : GrowOn u h (change ∷ changes) f) where
      abbrev v : OurWorld
      v = after u change

      to_client : EndGoes client.rules client.acts (client_state.first numbers.client) client.rooms
          down.client_reads h.client (noted u h change).client (client_later v changes) f.client
      to_client =
          end_walk client.rules client.acts (client_state.first numbers.client) client.rooms
          down.client_reads h.client (at_end side.Client who.Client u change)
          (client_later v changes) f.client on.client

      to_server : EndGoes server.rules server.acts (server.first numbers.window) server.rooms
          down.server_reads h.server (noted u h change).server (server_later v changes) f.server
      to_server =
          end_walk server.rules server.acts (server.first numbers.window) server.rooms
          down.server_reads h.server (at_end side.Server who.Server u change)
          (server_later v changes) f.server on.server

      to_in : (n : ℕ) → Goes in_proxy.rules (in_state.first (numbers.ins n)) in_proxy.rooms
          (in_pipe (numbers.ins n)) (h.ins n) ((noted u h change).ins n) (in_later n v changes)
          (f.ins n)
      to_in n =
          walk in_proxy.rules (in_state.first (numbers.ins n)) in_proxy.rooms
          (in_pipe (numbers.ins n)) (h.ins n) (at_in n u change) (in_later n v changes) (f.ins n)
          (on.ins n)

      to_out : (n : ℕ) → Goes out_proxy.rules (new_proxy (numbers.outs n)) ROOMS
          (down.proxy_reads (numbers.outs n)) (h.outs n) ((noted u h change).outs n)
          (out_later n v changes) (f.outs n)
      to_out n =
          walk out_proxy.rules (new_proxy (numbers.outs n)) ROOMS
          (down.proxy_reads (numbers.outs n)) (h.outs n) (at_out n u change)
          (out_later n v changes) (f.outs n) (on.outs n)

      abbrev next : Flows numbers (noted u h change)
      next = record {
        client = to_client.0;
        server = to_server.0;
        ins = λ n. (to_in n).0;
        outs = λ n. (to_out n).0;
      }

      next_grown : Grown numbers h (noted u h change) f next
      next_grown = record {
        client = to_client.1;
        server = to_server.1;
        ins = λ n. (to_in n).1;
        outs = λ n. (to_out n).1;
      }

      next_on : GrowOn v (noted u h change) changes next
      next_on = record {
        client = to_client.2;
        server = to_server.2;
        ins = λ n. (to_in n).2;
        outs = λ n. (to_out n).2;
      }

    all_grow : (u : OurWorld) (h : History) (changes : List Change) (f : Flows numbers h)
        → GrowOn u h changes f → AllGrow u h changes f
    all_grow u h [] f on = tt
    all_grow u h (change ∷ changes) f on = (
      next u h change changes f on,
      next_grown u h change changes f on,
      all_grow (after u change) (noted u h change) changes (next u h change changes f on)
          (next_on u h change changes f on),
    )

    -- ---- from the start on

    pub record Family (w : OurWorld) (changes : List Change) : Type 0 where
      pub start : Flows numbers nothing
      pub client : start.client.leads.moves ≡ []
      pub server : start.server.leads.moves ≡ []
      pub ins : (n : ℕ) → (start.ins n).leads.moves ≡ []
      pub outs : (n : ℕ) → (start.outs n).leads.moves ≡ []
      pub all : AllGrow w nothing changes start

    module _ (w : OurWorld) (changes : List Change)
        (grown_client : EndGrowing client.rules client.acts (client_state.first numbers.client)
        client.rooms down.client_reads (all_noted rules m deeds w nothing changes).client)
        (grown_server : EndGrowing server.rules server.acts (server.first numbers.window)
        server.rooms down.server_reads (all_noted rules m deeds w nothing changes).server)
        (grown_in : (n : ℕ) → Growing in_proxy.rules (in_state.first (numbers.ins n))
        in_proxy.rooms (in_pipe (numbers.ins n))
        ((all_noted rules m deeds w nothing changes).ins n))
        (grown_out : (n : ℕ) → Growing out_proxy.rules (new_proxy (numbers.outs n)) ROOMS
        (down.proxy_reads (numbers.outs n)) ((all_noted rules m deeds w nothing changes).outs n))
      where
        abbrev start : Flows numbers nothing
        start = record {
          client = grown_client.start;
          server = grown_server.start;
          ins = λ n. (grown_in n).start;
          outs = λ n. (grown_out n).start;
        }

        start_on : GrowOn w nothing changes start
        start_on = record {
          client = subst (λ x. EndGrows client.rules client.acts (client_state.first numbers.client)
              client.rooms down.client_reads [] x grown_client.start)
              (all_later (at_end side.Client who.Client) (λ h. h.client) (λ u h change. refl) w
              nothing changes) grown_client.grows;
          server = subst (λ x. EndGrows server.rules server.acts (server.first numbers.window)
              server.rooms down.server_reads [] x grown_server.start)
              (all_later (at_end side.Server who.Server) (λ h. h.server) (λ u h change. refl) w
              nothing changes) grown_server.grows;
          ins = λ n. subst (λ x. Grows in_proxy.rules (in_state.first (numbers.ins n))
              in_proxy.rooms (in_pipe (numbers.ins n)) [] x (grown_in n).start)
              (all_later (at_in n) (λ h. h.ins n) (λ u h change. refl) w nothing changes)
              (grown_in n).grows;
          outs = λ n. subst (λ x. Grows out_proxy.rules (new_proxy (numbers.outs n)) ROOMS
              (down.proxy_reads (numbers.outs n)) [] x (grown_out n).start)
              (all_later (at_out n) (λ h. h.outs n) (λ u h change. refl) w nothing changes)
              (grown_out n).grows;
        }

        family_by : Family w changes
        family_by = record {
          start = start;
          client = grown_client.none;
          server = grown_server.none;
          ins = λ n. (grown_in n).none;
          outs = λ n. (grown_out n).none;
          all = all_grow w nothing changes start start_on;
        }

  pub family : AllRise → (w : OurWorld) (ours : AreOurs m w.company w.cast)
      (changes : List Change) → LegsComeUpOnce rules m deeds w.company w.cast
      → AllAccepted rules m deeds w.company w.cast (all_noted rules m deeds w nothing changes)
      → HearInTurn (all_noted rules m deeds w nothing changes)
      → Family (numbers_of ours) w changes
  family law w ours changes once accepted turns =
      let h = all_noted rules m deeds w nothing changes in
      family_by (numbers_of ours) w changes
      (law.clients (client_state.first ours.config) client.rooms down.client_reads h.client
      (λ s leg. refl) law.streaming.client_refuses (law.streaming.client_unused ours.config)
      (subst (λ (node : Shell ClientRole). ComesUpOnceAtEnd client.rules client.acts node)
      ours.client once.client)
      (subst (λ (node : Shell ClientRole). AreAcceptedAtEnd client.rules client.acts node h.client)
      ours.client accepted.client) turns.client)
      (law.servers (server.first ours.window) server.rooms down.server_reads h.server
      (λ s leg. refl) law.streaming.server_refuses (law.streaming.server_unused ours.window)
      (subst (λ (node : Shell Server). ComesUpOnceAtEnd server.rules server.acts node) ours.server
      once.server)
      (subst (λ (node : Shell Server). AreAcceptedAtEnd server.rules server.acts node h.server)
      ours.server accepted.server) turns.server)
      (λ n.
      law.ins (in_state.first (ours.in_config n)) in_proxy.rooms (in_pipe (ours.in_config n))
      (h.ins n) (law.streaming.proxies.in_pipes (ours.in_config n))
      (law.streaming.proxies.in_unused (ours.in_config n))
      (subst (λ (node : Shell InProxy). ComesUpOnce in_proxy.rules node) (ours.ins n) (once.ins n))
      (subst (λ (node : Shell InProxy). AreAccepted in_proxy.rules node (h.ins n)) (ours.ins n)
      (accepted.ins n)) (turns.ins n))
      (λ n.
      law.outs (new_proxy (ours.out_config n)) ROOMS (down.proxy_reads (ours.out_config n))
      (h.outs n) (out_reads law.streaming.proxies (ours.out_config n))
      (law.streaming.proxies.out_unused (ours.out_config n))
      (subst (λ (node : Shell OutProxy). ComesUpOnce out_proxy.rules node) (ours.outs n)
      (once.outs n))
      (subst (λ (node : Shell OutProxy). AreAccepted out_proxy.rules node (h.outs n)) (ours.outs n)
      (accepted.outs n)) (turns.outs n))
