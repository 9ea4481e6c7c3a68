-- what is on its way at a moment of a world of roles
use Rattle.law_order.proofs.Vocabulary.{◌≡◌, ℕ, Bool, true, false, if◌then◌else◌, List, [], ◌++◌, Some, None, refl, ap, ◌∙◌, subst, Option, IsPrefix, IsChannel, Item, Arrives, IsWhole, Losses, OnLegs, path, reach, IsRoute, Route}
use Rattle.rh_inproxy.specs.Machine as in_proxy
use Rattle.rh_outproxy.specs.Machine as out_proxy
use Rattle.rh_client.specs.Client as client
use Rattle.rh_server.specs.Servers as server
use Rattle.law_moves.proofs.Vocabulary.{Course, Message, Shell, begun, after_end_events}
use Rattle.law_role_inproxy.proofs.Vocabulary.{InProxy, item_came}
use Rattle.law_role_client.proofs.Vocabulary.{ClientRole, down_items, has_leg}
use Rattle.law_role_server.proofs.Vocabulary.{Server, in_items}
use Rattle.law_node_history.proofs.Vocabulary.{reader_of, Makers, World, AreCarried, IsTraced, ledger, Leads, History, IsNew, IsRun, in_place, out_place}
use Rattle.law_node_history.proofs.Lemmas.{cast_kept}
use Rattle.law_role_outproxy.proofs.Vocabulary.{ROOMS, OutProxy, new_proxy, from_server}
use Rattle.law_node_traces.proofs.Vocabulary.{ByChanges, is_made, AreOurs, deeds, rules, IsKnown, history_at}
use Rattle.law_peers_routes.proofs.Upwards.Laws.{BeginLaws, are_begun}
use Rattle.law_peers_routes.specs.Upwards as goes_up
use Rattle.law_world_order.proofs.Marked.{RouteLaws, down_is_route, up_is_route}
use Rattle.law_world_order.proofs.Moments.{OurWorld}
use Rattle.law_world_order.proofs.Vocabulary.{Directions, down_route_of, up_route_of, Numbers, numbers_of}
use Rattle.law_world_ways.proofs.OnPaths.Down.{down_arrives}
use Rattle.law_world_ways.proofs.OnPaths.Legs.{AllRead}
use Rattle.law_world_ways.proofs.OnPaths.OnPath.{all_on_path}
use Rattle.law_world_ways.proofs.OnPaths.Up.{up_arrives}
use Rattle.law_world_ways.specs.OnPaths.Forgotten.{DrawnDirections}
use Rattle.law_world_ways.specs.OnPaths.OnWay.{is_lost, items_on_way}
use Rattle.law_world_ways.specs.OnPaths.Laws.{IsOnItsWay}
use Rattle.law_world_ways.specs.OnPaths.Ways.{AreNodes, AreOnTheirWay, down_far, down_lost, down_near, down_on, in_node, losses, on_legs, out_node, up_far, up_lost, up_near, up_on}

-- ---- the laws that this stands on

pub record OrderLaws : Type 0 where
  pub routes : RouteLaws
  pub whole : (r : Route) (on : OnLegs) → IsRoute r → IsWhole r on
      → r.giver.given ≡ r.taker.taken ++ path r on
  pub front : (r : Route) (on : OnLegs) (lost : Losses) → IsRoute r → Arrives r on lost
      → IsPrefix (r.taker.taken ++ reach r on lost) r.giver.given
  pub far : (r : Route) (m : ℕ) → IsRoute r → IsChannel (r.put m) × IsChannel (r.got m)

abbrev pub KnownWorlds : Type 0 → Type 0
KnownWorlds K =
    (m : Makers K InProxy OutProxy) (w v : OurWorld K) → IsNew w → AreOurs m w.company w.cast
    → (leads : Leads rules m deeds w v) → IsKnown m w v leads

-- ---- a direction

-- nothing stands on a leg that is lost
none_on_way : (view : Message → List Item) (o : Option (List Message)) → is_lost o ≡ true
    → items_on_way view o ≡ []
none_on_way view None e = refl
none_on_way view (Some messages) e = absurd (cc)

none_if : (b : Bool) (items : List Item) → items ≡ [] → (if b then items else []) ≡ []
none_if true items e = e
none_if false items e = refl

on_its_way : OrderLaws → (r : Route) (near_view far_view : Message → List Item) (has : ℕ → Bool)
    (near far : ℕ → Option (List Message)) (course : ℕ → Course) → IsRoute r
    → Arrives r (on_legs near_view far_view has near far) (losses near far course)
    → IsOnItsWay r (on_legs near_view far_view has near far) (losses near far course)
on_its_way law r near_view far_view has near far course route arrives =
    let on = on_legs near_view far_view has near far in
    let lost = losses near far course in
    record {
      arrives = arrives;
      all = all_on_path r on lost route (λ o. law.whole r o route) (λ m. (law.far r m route).0)
          arrives (λ n. none_on_way near_view (near n))
          (λ n gone. none_if (has n) (items_on_way far_view (far n))
          (none_on_way far_view (far n) gone));
      front = law.front r on lost route arrives;
    }

-- ---- a moment

module _ {K : Type 0} (read : AllRead) (law : OrderLaws) (begin : BeginLaws) (known : KnownWorlds K)
    (m : Makers K InProxy OutProxy) (w : OurWorld K) (new : IsNew w)
    (ours : AreOurs m w.company w.cast) (v : OurWorld K) (by : ByChanges rules m deeds w v) where
  abbrev here : History
  here = history_at m w v by.leads

  abbrev numbers : Numbers
  numbers = numbers_of ours

  traced : IsTraced rules m deeds w.company v here
  traced = (known m w v new ours by.leads).traced

  same_cast : v.cast ≡ w.cast
  same_cast = cast_kept rules m deeds w v by.leads

  carried : AreCarried (ledger rules m deeds w.company w.cast here) v.legs v.readers
  carried = subst (λ (c : K). AreCarried (ledger rules m deeds w.company c here) v.legs v.readers)
      same_cast traced.carried

  out_runs : (n : ℕ) → IsRun out_proxy.rules (begun (new_proxy (ours.out_config n)) ROOMS)
      (here.outs n) (out_place v.company n)
  out_runs n =
      subst (λ (node : Shell OutProxy).
      IsRun out_proxy.rules node (here.outs n) (out_place v.company n))
      (ap (λ (c : K). m.out_proxy c n) same_cast ∙ ours.outs n) (traced.runs.outs n)

  in_runs : (n : ℕ) → IsRun in_proxy.rules (in_proxy.first_node (ours.in_config n))
      (here.ins n) (in_place v.company n)
  in_runs n =
      subst (λ (node : Shell InProxy).
      IsRun in_proxy.rules node (here.ins n) (in_place v.company n))
      (ap (λ (c : K). m.in_proxy c n) same_cast ∙ ours.ins n) (traced.runs.ins n)

  nodes : AreNodes numbers v here
  nodes = record {
    client =
        traced.runs.client
        ∙ ap (λ (node : Shell ClientRole).
        after_end_events client.rules client.acts node here.client) ours.client;
    server =
        traced.runs.server
        ∙ ap (λ (node : Shell Server).
        after_end_events server.rules server.acts node here.server) ours.server;
    ins = in_runs;
    outs = out_runs;
  }

  module _ (drawn : DrawnDirections numbers v here) where
    abbrev directions : Directions numbers v here
    directions = drawn.directions

    down : IsOnItsWay (down_route_of directions) (down_on numbers v here) (down_lost numbers v here)
    down =
        on_its_way law (down_route_of directions) from_server down_items has_leg
        (down_near numbers v here) (down_far numbers v here)
        (λ n. (out_node numbers here n).course) (down_is_route law.routes directions)
        (down_arrives read m w.company w.cast ours v here carried traced.heard out_runs
        directions.down drawn.server drawn.outs (down_is_route law.routes directions))

    up : IsOnItsWay (up_route_of directions) (up_on numbers v here) (up_lost numbers v here)
    up =
        on_its_way law (up_route_of directions) item_came in_items
        (goes_up.has_leg (reader_of v.readers)) (up_near numbers v here) (up_far numbers v here)
        (λ n. (in_node numbers here n).course) (up_is_route law.routes directions)
        (up_arrives read m w.company w.cast ours v here carried traced.heard in_runs
        (known m w v new ours by.leads).read directions.up
        (are_begun begin ours.config ours.window ours.in_config here.client here.server here.ins
        (is_made v.company) (reader_of v.readers) directions.up) drawn.client drawn.ins
        (up_is_route law.routes directions))

    pub on_their_way : AreOnTheirWay numbers v here
    on_their_way = record {
      nodes = nodes;
      directions = directions;
      down = down;
      up = up;
      down_ends = record {
        given = directions.down.giver.given;
        taken = directions.down.taker.taken;
      };
      up_ends = record { given = directions.up.giver.given; taken = directions.up.taker.taken };
    }
