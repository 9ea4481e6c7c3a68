-- PDUs that wait at nodes, with none on a leg between them (profile)
use Rattle.std.specs.Prelude.{◌≡◌, ◌++◌, ℕ, suc, List, []}
use Rattle.law_order.specs.Logs.{below}
use Rattle.law_order.specs.Paths.{held_of, reader}
use Rattle.law_order.specs.Routes.{Route}

-- of one channel: the taker's list, and that of the proxy that reads the channel
abbrev pub waits_of : Route → ℕ → List (List ℕ)
waits_of r n =
    held_of r.taker.shelves n ++ held_of (r.proxies (reader r.legs n)).shelves n

-- from the taker back to the giver: the channels in order of number, and then the giver's queue
abbrev pub waits : Route → List (List ℕ)
waits r = below (λ n. waits_of r (suc n)) r.giver.writing ++ r.giver.queue

-- what was given and not taken waits at nodes, and none of it in the taker's current list
pub record WaitsAtNodes (r : Route) (gave took : List (List ℕ)) : Type 0 where
  pub untaken : r.taker.shelves.now.held ≡ []
  pub all : gave ≡ took ++ waits r
