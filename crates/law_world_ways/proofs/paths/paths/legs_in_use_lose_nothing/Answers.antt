use Rattle.law_order.proofs.Vocabulary.{◌++◌, List, ℕ, sym, ap, ◌∙◌, path}
use Rattle.law_world_order.proofs.Vocabulary.{down_route_of, up_route_of}
use Rattle.law_world_ways.proofs.OnPaths.InUse.{none_stops_down, none_stops_up}
use Rattle.law_world_ways.proofs.paths.paths.legs_in_use_lose_nothing.Goals as goal
use Rattle.law_world_ways.specs.OnPaths.Ways.{down_on, up_on}

pub returns : goal.returns
returns g c = record {
  down = λ numbers v h ways used.
      let r = down_route_of ways.directions in
      sym ways.down_ends.given ∙ ways.down.all (none_stops_down numbers v h r used)
      ∙ ap (λ (x : List (List ℕ)). x ++ path r (down_on numbers v h)) ways.down_ends.taken;
  up = λ numbers v h ways used.
      let r = up_route_of ways.directions in
      sym ways.up_ends.given ∙ ways.up.all (none_stops_up numbers v h r used)
      ∙ ap (λ (x : List (List ℕ)). x ++ path r (up_on numbers v h)) ways.up_ends.taken;
}
