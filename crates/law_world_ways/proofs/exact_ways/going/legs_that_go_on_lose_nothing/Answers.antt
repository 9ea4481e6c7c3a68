use Rattle.law_order.proofs.Vocabulary.{◌≡◌, ◌++◌, ℕ, Bool, true, false, if◌then◌else◌, List, [], Some, None, refl, sym, ap, ◌∙◌, Option, Item, path}
use Rattle.law_moves.proofs.Vocabulary.{Message}
use Rattle.law_role_inproxy.proofs.Vocabulary.{item_came}
use Rattle.law_role_client.proofs.Vocabulary.{down_items, has_leg}
use Rattle.law_role_server.proofs.Vocabulary.{in_items}
use Rattle.law_node_history.proofs.Vocabulary.{reader_of}
use Rattle.law_role_outproxy.proofs.Vocabulary.{from_server}
use Rattle.law_peers_routes.specs.Upwards as goes_up
use Rattle.law_world_order.proofs.Marked.{RouteLaws, down_is_route, up_is_route}
use Rattle.law_world_order.proofs.Vocabulary.{down_route_of, up_route_of}
use Rattle.law_world_ways.proofs.ExactWays.Stops.{exact_way}
use Rattle.law_world_ways.proofs.exact_ways.going.legs_that_go_on_lose_nothing.Goals as goal
use Rattle.law_world_ways.specs.OnPaths.OnWay.{is_lost, items_on_way}
use Rattle.law_world_ways.specs.OnPaths.Ways.{down_far, down_lost, down_near, down_on, up_far, up_lost, up_near, up_on}

-- nothing stands on a leg that is lost
none_on_way : (view : Message → List Item) (o : Option (List Message)) → is_lost o ≡ true
    → items_on_way view o ≡ []
none_on_way view None e = refl
none_on_way view (Some messages) e = absurd (cc)

none_if : (b : Bool) (items : List Item) → items ≡ [] → (if b then items else []) ≡ []
none_if true items e = e
none_if false items e = refl

pub returns : goal.returns
returns g c = record {
  down = λ numbers v h ways goes.
      let r = down_route_of ways.directions in
      let route = down_is_route laws ways.directions in
      sym ways.down_ends.given
      ∙ exact_way r (down_on numbers v h) (down_lost numbers v h) route
      (λ m. (c.nothing_stands_behind_a_mark.ensures.far r m route).0) ways.down.arrives
      (λ n. none_on_way from_server (down_near numbers v h n))
      (λ n gone. none_if (has_leg n) (items_on_way down_items (down_far numbers v h n))
      (none_on_way down_items (down_far numbers v h n) gone)) goes
      ∙ ap (λ (x : List (List ℕ)). x ++ path r (down_on numbers v h)) ways.down_ends.taken;
  up = λ numbers v h ways goes.
      let r = up_route_of ways.directions in
      let route = up_is_route laws ways.directions in
      sym ways.up_ends.given
      ∙ exact_way r (up_on numbers v h) (up_lost numbers v h) route
      (λ m. (c.nothing_stands_behind_a_mark.ensures.far r m route).0) ways.up.arrives
      (λ n. none_on_way item_came (up_near numbers v h n))
      (λ n gone. none_if (goes_up.has_leg (reader_of v.readers) n)
      (items_on_way in_items (up_far numbers v h n))
      (none_on_way in_items (up_far numbers v h n) gone)) goes
      ∙ ap (λ (x : List (List ℕ)). x ++ path r (up_on numbers v h)) ways.up_ends.taken;
}
  where
    laws : RouteLaws
    laws = record {
      down = c.what_goes_down_is_a_route.ensures;
      up = c.what_goes_up_is_a_route.ensures;
    }
