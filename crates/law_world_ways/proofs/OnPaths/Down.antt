-- what stands on the legs downwards
use Rattle.law_order.proofs.Vocabulary.{◌≡◌, ◌<◌, ℕ, zero, suc, Bool, true, false, if◌then◌else◌, ◌++◌, Some, arith, refl, sym, ap, subst, nat_tests, Arrives, reader, IsRoute}
use Rattle.rh_record.specs.declared.answer.Who.TheVariants as who
use Rattle.rh_outproxy.specs.Machine as out_proxy
use Rattle.rh_client.specs.Client as client
use Rattle.rh_server.specs.Servers as server
use Rattle.law_moves.proofs.Vocabulary.{D, CoD, OsD, Shell, begun}
use Rattle.law_role_inproxy.proofs.Vocabulary.{InProxy}
use Rattle.law_role_client.proofs.Vocabulary.{ClientRole, down_items, has_leg}
use Rattle.law_role_server.proofs.Vocabulary.{Server, out_items}
use Rattle.law_role_server.specs.Legible as server_legible
use Rattle.law_node_history.proofs.Vocabulary.{Company, Makers, World, AreCarried, AreHeard, drawn_on, end_drawn_on, ledger, History, IsRun, out_place}
use Rattle.law_role_outproxy.proofs.Vocabulary.{ROOMS, OutProxy, new_proxy, from_server, put_items, to_client}
use Rattle.law_role_outproxy.specs.Legible as proxy_legible
use Rattle.law_node_streams.proofs.Streams.LegLogs.{leg_reads_back}
use Rattle.law_node_begins.specs.ProxiesBegin.Pipes.{co, os}
use Rattle.law_node_traces.proofs.Vocabulary.{AreOurs, deeds, rules}
use Rattle.law_peers_routes.proofs.Downwards.Sides.{client_came, proxy_came, proxy_put, put_views, sent_views, server_sent}
use Rattle.law_peers_routes.specs.Downwards.{GoesDown, proxy_reads, route_of, server_reads}
use Rattle.law_world_order.proofs.Vocabulary.{Numbers, numbers_of}
use Rattle.law_world_ways.proofs.OnPaths.AtEnds.{end_puts, end_takes, proxy_puts, proxy_takes}
use Rattle.law_world_ways.proofs.OnPaths.Carriages.{arrives, fed_none}
use Rattle.law_world_ways.proofs.OnPaths.Legs.{AllRead}
use Rattle.law_world_ways.proofs.OnPaths.OnPath.{where_leg}
use Rattle.law_world_ways.specs.OnPaths.Forgotten.{DrawsOut, EndDrawsOut}
use Rattle.law_world_ways.specs.OnPaths.OnWay.{is_lost, items_on_way}
use Rattle.law_world_ways.specs.OnPaths.Ways.{client_node, down_far, down_lost, down_near, down_on, out_node, server_node}

module _ {K : Type 0} (law : AllRead) (m : Makers K InProxy OutProxy)
    (first : Company ClientRole Server InProxy OutProxy) (cast : K)
    (ours : AreOurs m first cast) (v : World K ClientRole Server InProxy OutProxy) (h : History)
    (carried : AreCarried (ledger rules m deeds first cast h) v.legs v.readers)
    (heard : AreHeard v h)
    (runs : (n : ℕ) → IsRun out_proxy.rules (begun (new_proxy (ours.out_config n)) ROOMS)
    (h.outs n) (out_place v.company n))
    (d : GoesDown ours.config ours.window ours.out_config h.client h.server h.outs)
    (by_server : EndDrawsOut server.rules server.acts (server.first ours.window) server.rooms
    server_reads h.server d.giver)
    (by_outs : (n : ℕ) → DrawsOut out_proxy.rules (new_proxy (ours.out_config n)) ROOMS
    (proxy_reads (ours.out_config n)) (h.outs n) (d.proxies n)) where
  abbrev numbers : Numbers
  numbers = numbers_of ours

  -- from the server to an out proxy
  near_arrives : (n : ℕ) → is_lost (down_near numbers v h n) ≡ false
      → (route_of d).sent n
      ≡ (route_of d).came n n ++ items_on_way from_server (down_near numbers v h n)
  near_arrives n =
      let leg = os n in
      let put = d.giver.passage.passage.put in
      let came = (d.proxies n).passage.came in
      arrives rules m deeds first cast v h carried leg D (server_node numbers h) out_proxy.rules
      (out_node numbers h n) (Some OsD) (end_puts d.giver leg by_server)
      (proxy_takes (d.proxies n) leg (h.fed (who.Out n) leg)
      (fed_none rules m deeds first cast v h carried leg D) (out_place v.company n) (runs n)
      (heard.outs n leg))
      (ap (λ (node : Shell Server). end_drawn_on server.rules server.acts node leg h.server)
      ours.server)
      law out_items from_server sent_views (d.server_begins n)
      (leg_reads_back server_legible.pipe_put leg put d.server_legible.read_back)
      ((route_of d).sent n) ((route_of d).came n n) (server_sent n put) (proxy_came n came)

  -- and from there to the client
  far_arrives : (n : ℕ) → is_lost (down_far numbers v h n) ≡ false
      → put_items n (d.proxies n).passage.put
      ≡ (route_of d).got n ++ items_on_way down_items (down_far numbers v h n)
  far_arrives n =
      let leg = co n in
      let put = (d.proxies n).passage.put in
      let came = d.taker.passage.passage.came in
      arrives rules m deeds first cast v h carried leg D (out_node numbers h n) client.rules
      (client_node numbers h) (Some CoD) (proxy_puts (d.proxies n) leg (by_outs n))
      (end_takes d.taker leg (h.fed who.Client leg) (heard.client leg))
      (ap (λ (node : Shell OutProxy). drawn_on out_proxy.rules node leg (h.outs n)) (ours.outs n))
      law to_client down_items put_views (d.proxies_begin n)
      (leg_reads_back proxy_legible.pipe_put leg put (d.proxies_legible n).read_back)
      (put_items n put) ((route_of d).got n) (proxy_put n put) (client_came n came)

  own_reader : (n : ℕ) → 0 < n → reader has_leg n ≡ n
  own_reader zero some = absurd (omega (arith, some))
  own_reader (suc n) some =
      let has : has_leg (suc n) ≡ true = grind (arith, nat_tests) in
      ap (λ (b : Bool). if b then suc n else reader has_leg n) has

  pub down_arrives : IsRoute (route_of d)
      → Arrives (route_of d) (down_on numbers v h) (down_lost numbers v h)
  down_arrives route = record {
    near = λ n some kept.
        subst (λ (k : ℕ). (route_of d).sent n
        ≡ (route_of d).came k n ++ items_on_way from_server (down_near numbers v h n))
        (sym (own_reader n some)) (near_arrives n kept);
    far = λ n kept.
        where_leg (route_of d) route n (put_items n (d.proxies n).passage.put)
        (items_on_way down_items (down_far numbers v h n)) (has_leg n) refl (far_arrives n kept);
  }
