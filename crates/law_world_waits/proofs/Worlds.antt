-- at a world of roles at rest, all of whose nodes go on, nothing stands on the legs
use Rattle.law_order.proofs.Vocabulary.{◌≡◌, ℕ, List, [], true, false, if◌then◌else◌, Some, None, slice_get, refl, sym, ap, ◌∙◌, subst}
use Rattle.rh_text.specs.declared.ends.Side.TheVariants as side
use Rattle.rh_record.specs.declared.answer.Who.TheVariants as who
use Rattle.rh_inproxy.specs.Machine as in_proxy
use Rattle.rh_outproxy.specs.Machine as out_proxy
use Rattle.rh_client.specs.Client as client
use Rattle.rh_server.specs.Servers as server
use Rattle.rh_company.specs.Company as company
use Rattle.rh_company.specs.Places as places
use Rattle.law_moves.proofs.Vocabulary.{Dir, U, D, Side, CiU, IsU, CoD, OsD, Leg, Going, NearEnd, Rules, Shell, begun, end_at, place, Event, after_events}
use Rattle.law_role_inproxy.proofs.Vocabulary.{InProxy, item_came}
use Rattle.law_role_client.proofs.Vocabulary.{ClientRole, down_items}
use Rattle.law_role_server.proofs.Vocabulary.{Server, in_items}
use Rattle.law_node_history.proofs.Vocabulary.{Absent, Company, Gone, Here, Makers, Place, Who, World, at, in_flight, in_place, is_up, out_place, reader_of, receiver, wire_at, AreCarried, ledger, History, IsRun}
use Rattle.law_node_history.proofs.Numbers.{asked}
use Rattle.law_role_outproxy.proofs.Vocabulary.{ROOMS, OutProxy, new_proxy, from_server}
use Rattle.law_node_begins.specs.ProxiesBegin.Pipes.{ci, co, is, os}
use Rattle.law_node_traces.proofs.Vocabulary.{deeds, rules}
use Rattle.law_world_order.proofs.Vocabulary.{Numbers}
use Rattle.law_world_rest.specs.Rest.{IsAtRest}
use Rattle.law_world_ways.specs.ExactPaths.GoingOn.{AllGoOn}
use Rattle.law_world_ways.specs.OnPaths.Legs.{is_cut, was_told, was_up}
use Rattle.law_world_ways.specs.OnPaths.OnWay.{items_on_way, left_on, read_on}
use Rattle.law_world_ways.specs.OnPaths.Ways.{AreOnTheirWay, client_node, down_far, down_near, in_node, out_node, server_node, up_far, up_near}
use Rattle.law_world_waits.proofs.Legs.{HasBegunNone, none_on_way, none_put, none_put_at_end, spent}
use Rattle.law_world_waits.proofs.Low.{AreLowClear}
use Rattle.law_world_waits.specs.Puts.{PutNothing, PutsNoneOn, PutsNoneThere}

-- ---- a proxy

module _ {S : Type 0} (its : Rules S) (made : Shell S) (events : List Event) (leg : Leg)
    (new : made.legs ≡ []) where
  no_end : (end : NearEnd) → end_at made leg ≡ Some end → end.begun ≡ []
  no_end end at =
      let none : end_at made leg ≡ None =
      ap (λ (ends : List NearEnd). slice_get ends (place leg ends)) new in
      absurd (let is = sym none ∙ at in cc)

  pub proxy_none : (p : Place S) → IsRun its made events p → PutsNoneThere its p leg
      → places.finished its leg p ≡ false → (after_events its made events).course ≡ Going
      → HasBegunNone (after_events its made events) leg
  proxy_none Absent run none unfinished going =
      subst (λ (es : List Event). HasBegunNone (after_events its made es) leg) (sym run) no_end
  proxy_none (Here node legs) run none unfinished going = λ end at.
      (subst (λ (s : Shell S). PutsNoneOn its s leg) run none end going at).begun
  proxy_none (Gone now) run none unfinished going = absurd cc

-- ---- the world

module _ {K : Type 0} (m : Makers K InProxy OutProxy)
    (first : Company ClientRole Server InProxy OutProxy) (cast : K) (numbers : Numbers)
    (v : World K ClientRole Server InProxy OutProxy) (h : History)
    (carried : AreCarried (ledger rules m deeds first cast h) v.legs v.readers)
    (rest : IsAtRest rules m deeds v) (low : AreLowClear v.legs)
    (puts : (leg : Leg) → is_up v leg ≡ true → PutNothing rules v leg)
    (ways : AreOnTheirWay numbers v h) (going : AllGoOn numbers h) where
  unfed : (leg : Leg) (dir : Dir) → was_up v h leg (receiver dir) ≡ false
      → h.fed (at v leg (receiver dir)) leg ≡ []
  unfed leg dir never = (carried.idle (at v leg (receiver dir)) leg never).1

  client_none : (leg : Leg) (end : Side) → at v leg end ≡ who.Client → is_up v leg ≡ true
      → HasBegunNone (client_node numbers h) leg
  client_none leg end stands up one at =
      (subst (λ (s : Shell ClientRole). PutsNoneOn client.rules s leg) ways.nodes.client
      ((puts leg up).client end stands) one going.client at).begun

  server_none : (leg : Leg) (end : Side) → at v leg end ≡ who.Server → is_up v leg ≡ true
      → HasBegunNone (server_node numbers h) leg
  server_none leg end stands up one at =
      (subst (λ (s : Shell Server). PutsNoneOn server.rules s leg) ways.nodes.server
      ((puts leg up).server end stands) one going.server at).begun

  in_none : (n : ℕ) (leg : Leg) (end : Side) → at v leg end ≡ who.In n → is_up v leg ≡ true
      → HasBegunNone (in_node numbers h n) leg
  in_none n leg end stands up =
      proxy_none in_proxy.rules (in_proxy.first_node (numbers.ins n)) (h.ins n) leg refl
      (in_place v.company n) (ways.nodes.ins n) ((puts leg up).ins n end stands)
      (sym (asked Absent (places.finished in_proxy.rules leg) v.company.ins n)
      ∙ subst (λ (node : Who). company.finished rules v.company node leg ≡ false) stands
      (rest.unfinished leg end up)) (going.ins n)

  out_none : (n : ℕ) (leg : Leg) (end : Side) → at v leg end ≡ who.Out n → is_up v leg ≡ true
      → HasBegunNone (out_node numbers h n) leg
  out_none n leg end stands up =
      proxy_none out_proxy.rules (begun (new_proxy (numbers.outs n)) ROOMS) (h.outs n) leg refl
      (out_place v.company n) (ways.nodes.outs n) ((puts leg up).outs n end stands)
      (sym (asked Absent (places.finished out_proxy.rules leg) v.company.outs n)
      ∙ subst (λ (node : Who). company.finished rules v.company node leg ≡ false) stands
      (rest.unfinished leg end up)) (going.outs n)

  -- ---- down

  pub near_down : (n : ℕ) → items_on_way from_server (down_near numbers v h n) ≡ []
  near_down n =
      let leg = os n in
      let from = server_node numbers h in
      let up = was_up v h leg side.Server in
      none_on_way from_server (Some OsD) (is_cut v h leg D)
      (read_on out_proxy.rules (out_node numbers h n) (Some OsD) leg (was_up v h leg side.Client))
      (in_flight D (wire_at v.legs leg))
      (left_on from leg up (was_told v h leg side.Server))
      (spent rules m deeds v rest low h leg D (unfed leg D) from (was_told v h leg side.Server)
      (server_none leg side.Server refl)
      (none_put_at_end leg ways.directions.down.giver going.server))

  pub far_down : (n : ℕ) → items_on_way down_items (down_far numbers v h n) ≡ []
  far_down n =
      let leg = co n in
      let from = out_node numbers h n in
      let up = was_up v h leg side.Server in
      none_on_way down_items (Some CoD) (is_cut v h leg D)
      (read_on client.rules (client_node numbers h) (Some CoD) leg (was_up v h leg side.Client))
      (in_flight D (wire_at v.legs leg))
      (left_on from leg up (was_told v h leg side.Server))
      (spent rules m deeds v rest low h leg D (unfed leg D) from (was_told v h leg side.Server)
      (out_none n leg side.Server refl)
      (none_put leg (ways.directions.down.proxies n) (going.outs n)))

  -- ---- up

  pub near_up : (n : ℕ) → items_on_way item_came (up_near numbers v h n) ≡ []
  near_up n =
      let leg = ci n in
      let from = client_node numbers h in
      let up = was_up v h leg side.Client in
      none_on_way item_came (Some CiU) (is_cut v h leg U)
      (read_on in_proxy.rules (in_node numbers h (reader_of v.readers n)) (Some CiU) leg
      (was_up v h leg side.Server))
      (in_flight U (wire_at v.legs leg))
      (left_on from leg up (was_told v h leg side.Client))
      (spent rules m deeds v rest low h leg U (unfed leg U) from (was_told v h leg side.Client)
      (client_none leg side.Client refl)
      (none_put_at_end leg ways.directions.up.giver going.client))

  pub far_up : (n : ℕ) → items_on_way in_items (up_far numbers v h n) ≡ []
  far_up n =
      let leg = is n in
      let from = in_node numbers h n in
      let up = was_up v h leg side.Client in
      none_on_way in_items (Some IsU) (is_cut v h leg U)
      (read_on server.rules (server_node numbers h) (Some IsU) leg (was_up v h leg side.Server))
      (in_flight U (wire_at v.legs leg))
      (left_on from leg up (was_told v h leg side.Client))
      (spent rules m deeds v rest low h leg U (unfed leg U) from (was_told v h leg side.Client)
      (in_none n leg side.Client refl)
      (none_put leg (ways.directions.up.proxies n) (going.ins n)))
