-- what stands on the legs upwards
use Rattle.law_order.proofs.Vocabulary.{◌≡◌, ◌≢◌, ◌⊎◌, inl, inr, ℕ, Bool, true, false, List, [], ◌++◌, Some, refl, sym, ap, ◌∙◌, cases_eq, Item, seen, Arrives, reader, IsRoute, Route}
use Rattle.rh_record.specs.declared.answer.Who.TheVariants as who
use Rattle.rh_inproxy.specs.Machine as in_proxy
use Rattle.rh_inproxy.specs.State as in_state
use Rattle.rh_client.specs.Client as client
use Rattle.rh_client.specs.State as client_state
use Rattle.rh_server.specs.Servers as server
use Rattle.law_moves.proofs.Vocabulary.{U, nil_front, CiU, IsU, Shell, of_leg, messages_read}
use Rattle.law_role_inproxy.proofs.Vocabulary.{InProxy, item_came, item_put, put_items}
use Rattle.law_role_inproxy.specs.Legible as proxy_legible
use Rattle.law_role_client.proofs.Vocabulary.{ClientRole, up_items}
use Rattle.law_role_client.specs.Legible as client_legible
use Rattle.law_role_server.proofs.Vocabulary.{Server, got, in_items}
use Rattle.law_node_history.proofs.Vocabulary.{reader_of, Company, Makers, World, AreCarried, AreHeard, came_up, drawn_on, end_drawn_on, heard_on, ledger, History, IsRun, in_place}
use Rattle.law_role_outproxy.proofs.Vocabulary.{OutProxy}
use Rattle.law_node_streams.proofs.Streams.LegLogs.{leg_reads_back}
use Rattle.law_node_begins.specs.EndsBegin.{client_reads}
use Rattle.law_node_begins.specs.ProxiesBegin.Pipes.{ci, in_pipe, is}
use Rattle.law_node_traces.proofs.Vocabulary.{AreRead, is_made, AreOurs, deeds, rules}
use Rattle.law_peers_routes.proofs.Upwards.JoinedLegs.{client_put, in_views, proxy_came, proxy_put, server_came, up_views}
use Rattle.law_peers_routes.proofs.Upwards.Laws.{AreBegun}
use Rattle.law_peers_routes.specs.Upwards.{GoesUp, has_leg, up_route}
use Rattle.law_world_order.proofs.Vocabulary.{Numbers, numbers_of}
use Rattle.law_world_ways.proofs.OnPaths.ReadBy.{read_by}
use Rattle.law_world_ways.proofs.OnPaths.AtEnds.{end_puts, end_takes, proxy_front, proxy_puts, proxy_takes}
use Rattle.law_world_ways.proofs.OnPaths.Carriages.{arrives, fed_none}
use Rattle.law_world_ways.proofs.OnPaths.Legs.{AllRead}
use Rattle.law_world_ways.proofs.OnPaths.OnPath.{where_leg}
use Rattle.law_world_ways.specs.OnPaths.Forgotten.{DrawsOut, EndDrawsOut}
use Rattle.law_world_ways.specs.OnPaths.OnWay.{is_lost, items_on_way}
use Rattle.law_world_ways.specs.OnPaths.Ways.{client_node, in_node, server_node, up_far, up_lost, up_near, up_on}

module _ {K : Type 0} (law : AllRead) (m : Makers K InProxy OutProxy)
    (first : Company ClientRole Server InProxy OutProxy) (cast : K)
    (ours : AreOurs m first cast) (v : World K ClientRole Server InProxy OutProxy) (h : History)
    (carried : AreCarried (ledger rules m deeds first cast h) v.legs v.readers)
    (heard : AreHeard v h)
    (runs : (n : ℕ) → IsRun in_proxy.rules (in_proxy.first_node (ours.in_config n))
    (h.ins n) (in_place v.company n))
    (are : AreRead v.readers (is_made v.company))
    (g : GoesUp ours.config ours.window ours.in_config h.client h.server h.ins
    (is_made v.company) (reader_of v.readers))
    (starts : AreBegun g.giver.passage (λ n. (g.proxies n).passage))
    (by_client : EndDrawsOut client.rules client.acts (client_state.first ours.config)
    client.rooms client_reads h.client g.giver)
    (by_ins : (n : ℕ) → DrawsOut in_proxy.rules (in_state.first (ours.in_config n))
    in_proxy.rooms (in_pipe (ours.in_config n)) (h.ins n) (g.proxies n)) where
  abbrev route : Route
  route = up_route (reader_of v.readers) g.giver.passage (λ n. (g.proxies n).passage)
      g.taker.leads.moves g.taker.passage

  abbrev numbers : Numbers
  numbers = numbers_of ours

  -- from the client to an in proxy
  near_arrives : (n : ℕ) → is_lost (up_near numbers v h n) ≡ false
      → route.sent n
      ≡ route.came (reader_of v.readers n) n ++ items_on_way item_came (up_near numbers v h n)
  near_arrives n =
      let k = reader_of v.readers n in
      let leg = ci n in
      let put = g.giver.passage.passage.put in
      let came = (g.proxies k).passage.came in
      arrives rules m deeds first cast v h carried leg U (client_node numbers h) in_proxy.rules
      (in_node numbers h k) (Some CiU) (end_puts g.giver leg by_client)
      (proxy_takes (g.proxies k) leg (h.fed (who.In k) leg)
      (fed_none rules m deeds first cast v h carried leg U) (in_place v.company k) (runs k)
      (heard.ins k leg))
      (ap (λ (node : Shell ClientRole). end_drawn_on client.rules client.acts node leg h.client)
      ours.client)
      law up_items item_came up_views (starts.client n)
      (leg_reads_back client_legible.pipe_put leg put g.client_legible.read_back)
      (route.sent n) (route.came k n) (client_put put n) (proxy_came came n)

  -- an in proxy that does not read the channel took nothing there
  unread_by : (n k : ℕ) → heard_on (ci n) (h.ins k) ≡ [] → route.came k n ≡ []
  unread_by n k none =
      let front = (g.proxies k).read (ci n) in
      let came = of_leg (ci n) (g.proxies k).passage.came in
      proxy_came (g.proxies k).passage.came n
      ∙ ap (seen item_came)
      (nil_front came front.0 (front.1 ∙ ap (messages_read (Some CiU)) none))

  unheard : (n k : ℕ) → reader_of v.readers n ≢ k → heard_on (ci n) (h.ins k) ≡ []
  unheard n k other = by (came_up (ci n) (h.ins k)) refl
    where
      by : (b : Bool) → came_up (ci n) (h.ins k) ≡ b → heard_on (ci n) (h.ins k) ≡ []
      by true e = absurd (other (g.readers.reads k n e))
      by false e =
          let leg = ci n in
          let front = proxy_front in_proxy.rules (in_proxy.first_node (ours.in_config k)) (h.ins k)
          leg (h.fed (who.In k) leg) (in_place v.company k) (runs k) (heard.ins k leg) in
          nil_front (heard_on leg (h.ins k)) front.0
          (front.1 ∙ (carried.idle (who.In k) leg e).1)

  same_reader : (n : ℕ)
      → route.came (reader_of v.readers n) n ≡ route.came (reader route.legs n) n
  same_reader n = by (cases_eq (reader_of v.readers n) 0)
    where
      none_at : (k : ℕ) → k ≡ 0 → route.came k n ≡ []
      none_at k e =
          unread_by n k
          (ap (heard_on (ci n)) (g.readers.unmade k (ap (is_made v.company) e ∙ g.readers.none)))

      other_by : reader_of v.readers n ≡ 0
          → (reader_of v.readers n ≡ reader route.legs n)
          ⊎ (reader_of v.readers n ≡ reader route.legs n → ⊥)
          → route.came (reader_of v.readers n) n ≡ route.came (reader route.legs n) n
      other_by e (inl same) = ap (λ (k : ℕ). route.came k n) same
      other_by e (inr other) =
          none_at (reader_of v.readers n) e
          ∙ sym (unread_by n (reader route.legs n) (unheard n (reader route.legs n) other))

      by : (reader_of v.readers n ≡ 0) ⊎ (reader_of v.readers n ≡ 0 → ⊥)
          → route.came (reader_of v.readers n) n ≡ route.came (reader route.legs n) n
      by (inl e) = other_by e (cases_eq (reader_of v.readers n) (reader route.legs n))
      by (inr some) =
          ap (λ (k : ℕ). route.came k n) (sym (read_by v.readers (is_made v.company) are n some))

  -- and from there to the server
  far_arrives : (n : ℕ) → is_lost (up_far numbers v h n) ≡ false
      → put_items (g.proxies n).passage.put
      ≡ route.got n ++ items_on_way in_items (up_far numbers v h n)
  far_arrives n =
      let leg = is n in
      let put = (g.proxies n).passage.put in
      let came = g.taker.passage.passage.came in
      arrives rules m deeds first cast v h carried leg U (in_node numbers h n) server.rules
      (server_node numbers h) (Some IsU) (proxy_puts (g.proxies n) leg (by_ins n))
      (end_takes g.taker leg (h.fed who.Server leg) (heard.server leg))
      (ap (λ (node : Shell InProxy). drawn_on in_proxy.rules node leg (h.ins n)) (ours.ins n))
      law item_put in_items in_views (starts.proxies n)
      (leg_reads_back proxy_legible.pipe_put leg put (g.proxies_legible n).read_back)
      (put_items put) (route.got n) (proxy_put n put (starts.lone n)) (server_came came n)

  pub up_arrives : IsRoute route → Arrives route (up_on numbers v h) (up_lost numbers v h)
  up_arrives is_route = record {
    near = λ n some kept.
        near_arrives n kept
        ∙ ap (λ (items : List Item). items ++ items_on_way item_came (up_near numbers v h n))
        (same_reader n);
    far = λ n kept.
        where_leg route is_route n (put_items (g.proxies n).passage.put)
        (items_on_way in_items (up_far numbers v h n)) (has_leg (reader_of v.readers) n) refl
        (far_arrives n kept);
  }
