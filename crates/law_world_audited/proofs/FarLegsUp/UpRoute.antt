-- what goes up in a recording is a route, of what was put on its legs
use Rattle.law_order.proofs.Vocabulary.{◌≡◌, ◌≢◌, ℕ, Bool, true, false, if◌then◌else◌, List, [], refl, sym, ap, ◌∙◌, subst}
use Rattle.law_order.specs.Logs.{seen}
use Rattle.law_order.specs.Routes.{IsRoute}
use Rattle.law_moves.proofs.Vocabulary.{test_other, Leg, ClientIn, InServer, ClientConfig, Move, AreAllowed, all_moved, started, Event, EndEvent, EndPassage, Passage, of_leg, same_leg}
use Rattle.rh_inproxy.specs.Machine as in_proxy
use Rattle.rh_inproxy.specs.State as in_state
use Rattle.rh_record.specs.declared.answer.Answer.{Answer}
use Rattle.rh_wires.specs.Readers.{reader_of}
use Rattle.rh_world.specs.Roles as roles
use Rattle.law_role_inproxy.proofs.Vocabulary.{InProxyConfig, InProxy, is_client_leg, item_put}
use Rattle.law_role_inproxy.specs.Order as orders
use Rattle.law_role_client.proofs.Vocabulary.{ClientRole, up_items}
use Rattle.law_node_begins.specs.ProxiesBegin.Pipes.{is as server_leg}
use Rattle.law_node_history.specs.Histories.{History}
use Rattle.law_node_traces.specs.Traced.Numbers.{is_made}
use Rattle.law_peers_routes.proofs.Upwards.JoinedLegs.{client_put, proxy_put}
use Rattle.law_peers_routes.specs.Upwards.{GoesUp, has_leg, up_route}
use Rattle.law_world_reports.specs.ToldHistories.{history_of}
use Rattle.law_world_order.specs.Directions.{Directions}
use Rattle.law_world_order.specs.Flows.{numbers_of}
use Rattle.law_world_audited.specs.Moving.Streams.{TellsStreams}
use Rattle.law_world_audited.specs.Sides.{put_on}
use Rattle.law_world_audited.specs.FarLegsUp.Ways.{way_up}

pub record UpLaws : Type 0 where
  pub route : (config : ClientConfig) (window : ℕ) (in_config : ℕ → InProxyConfig)
      (client_events server_events : List EndEvent) (ins : ℕ → List Event) (made : ℕ → Bool)
      (reader : ℕ → ℕ)
      (g : GoesUp config window in_config client_events server_events ins made reader)
      → IsRoute (up_route reader g.giver.passage (λ n. (g.proxies n).passage) g.taker.leads.moves
      g.taker.passage)
  pub elsewhere : (config : InProxyConfig) (moves : List Move) (leg : Leg)
      → AreAllowed in_proxy.rules (started (in_state.first config)) moves
      → is_client_leg leg ≡ false → same_leg (server_leg config.number) leg ≡ false
      → of_leg leg (all_moved in_proxy.rules (started (in_state.first config)) moves).put ≡ []

module _ (law : UpLaws) (answered : List Answer) (world : roles.World)
    (told : TellsStreams answered world) where
  abbrev h : History
  h = history_of told.told.told.config world told.told.told.by

  pub is_route : Directions (numbers_of told.told.ours) world h
      → IsRoute (way_up answered world told)
  is_route ways =
      let ours = told.told.ours in
      let flows = told.told.flowing.flows in
      let legible = told.told.flowing.legible in
      law.route ours.config ours.window ours.in_config h.client h.server h.ins
      (is_made world.company) (reader_of world.readers)
      (record {
        giver = flows.client;
        taker = flows.server;
        proxies = flows.ins;
        numbered = ours.in_number;
        near = ways.up.near;
        far = ways.up.far;
        readers = ways.up.readers;
        client_legible = legible.client;
        proxies_legible = legible.ins;
      })

  -- what the client put
  pub sent_is : (n : ℕ) → (way_up answered world told).sent n
      ≡ seen up_items (put_on answered world told ClientIn n)
  sent_is n =
      let client = told.told.flowing.flows.client in
      client_put client.passage.passage.put n
      ∙ ap (λ (p : EndPassage ClientRole).
      seen up_items (of_leg (record { kind = ClientIn; number = n }) p.passage.put))
      (sym client.leads.reached)

  -- what each in proxy put
  lone : (m n : ℕ) → n ≢ m
      → of_leg (server_leg n) (told.told.flowing.flows.ins m).passage.put ≡ []
  lone m n other =
      let stream = told.told.flowing.flows.ins m in
      let config = told.told.ours.in_config m in
      subst (λ (p : Passage InProxy). of_leg (server_leg n) p.put ≡ []) stream.leads.reached
      (law.elsewhere config stream.leads.moves (server_leg n) stream.leads.allowed refl
      (test_other config.number n (λ e. other (sym e ∙ told.told.ours.in_number m))))

  pub put_is : (m : ℕ) → has_leg (reader_of world.readers) m ≡ true
      → (way_up answered world told).put m ≡ seen item_put (put_on answered world told InServer m)
  put_is m has =
      let stream = told.told.flowing.flows.ins m in
      ap (λ (t : Bool). if t then orders.put_items stream.passage.put else []) has
      ∙ proxy_put m stream.passage.put (lone m)
      ∙ ap (λ (p : Passage InProxy).
      seen item_put (of_leg (record { kind = InServer; number = m }) p.put))
      (sym stream.leads.reached)
