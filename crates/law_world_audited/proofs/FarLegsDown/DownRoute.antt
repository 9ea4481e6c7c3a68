-- what goes down in a recording is a route, of what was put on its legs
use Rattle.law_order.proofs.Vocabulary.{◌≡◌, ℕ, Bool, true, if◌then◌else◌, List, [], sym, ap, ◌∙◌}
use Rattle.law_order.specs.Logs.{seen}
use Rattle.law_order.specs.Routes.{IsRoute}
use Rattle.law_moves.proofs.Vocabulary.{ClientConfig, ClientOut, OutServer, Event, EndEvent, EndPassage, Passage, of_leg}
use Rattle.rh_outproxy.specs.declared.state.OutProxyConfig.{OutProxyConfig}
use Rattle.rh_record.specs.declared.answer.Answer.{Answer}
use Rattle.rh_world.specs.Roles as roles
use Rattle.law_role_client.specs.Order.{has_leg}
use Rattle.law_role_outproxy.proofs.Vocabulary.{OutProxy, to_client}
use Rattle.law_role_outproxy.specs.Order as orders
use Rattle.law_role_server.proofs.Vocabulary.{Server, out_items}
use Rattle.law_node_history.specs.Histories.{History}
use Rattle.law_peers_routes.proofs.Downwards.Sides.{proxy_put, server_sent}
use Rattle.law_peers_routes.specs.Downwards.{GoesDown, route_of}
use Rattle.law_world_reports.specs.ToldHistories.{history_of}
use Rattle.law_world_order.specs.Directions.{Directions}
use Rattle.law_world_order.specs.Flows.{numbers_of}
use Rattle.law_world_audited.specs.Moving.Streams.{TellsStreams}
use Rattle.law_world_audited.specs.Sides.{put_on}
use Rattle.law_world_audited.specs.FarLegsDown.Ways.{way_down}

abbrev pub IsARoute : Type 0
IsARoute =
    (config : ClientConfig) (window : ℕ) (out_config : ℕ → OutProxyConfig)
    (client server : List EndEvent) (outs : ℕ → List Event)
    (d : GoesDown config window out_config client server outs) → IsRoute (route_of d)

module _ (answered : List Answer) (world : roles.World) (told : TellsStreams answered world) where
  abbrev pub h : History
  h = history_of told.told.told.config world told.told.told.by

  -- as the world's legs carried
  abbrev pub goes : Directions (numbers_of told.told.ours) world h
      → GoesDown told.told.ours.config told.told.ours.window told.told.ours.out_config h.client
      h.server h.outs
  goes ways =
      let flowing = told.told.flowing in
      record {
        taker = flowing.flows.client;
        giver = flowing.flows.server;
        proxies = flowing.flows.outs;
        numbered = told.told.ours.out_number;
        near = ways.down.near;
        far = ways.down.far;
        alone = ways.down.alone;
        server_begins = flowing.begun.server_out;
        proxies_begin = flowing.begun.out_client;
        server_legible = flowing.legible.server;
        proxies_legible = flowing.legible.outs;
        proxies_drew = flowing.begun.out_client_drew;
      }

  pub is_route : IsARoute → Directions (numbers_of told.told.ours) world h
      → IsRoute (way_down answered world told)
  is_route law ways =
      let ours = told.told.ours in
      law ours.config ours.window ours.out_config h.client h.server h.outs (goes ways)

  -- what the server put
  pub sent_is : (n : ℕ) → (way_down answered world told).sent n
      ≡ seen out_items (put_on answered world told OutServer n)
  sent_is n =
      let server = told.told.flowing.flows.server in
      server_sent n server.passage.passage.put
      ∙ ap (λ (p : EndPassage Server).
      seen out_items (of_leg (record { kind = OutServer; number = n }) p.passage.put))
      (sym server.leads.reached)

  -- what each out proxy put
  pub put_is : (m : ℕ) → has_leg m ≡ true → (way_down answered world told).put m
      ≡ seen to_client (put_on answered world told ClientOut m)
  put_is m has =
      let stream = told.told.flowing.flows.outs m in
      ap (λ (t : Bool). if t then orders.put_items m stream.passage.put else []) has
      ∙ proxy_put m stream.passage.put
      ∙ ap (λ (p : Passage OutProxy).
      seen to_client (of_leg (record { kind = ClientOut; number = m }) p.put))
      (sym stream.leads.reached)
