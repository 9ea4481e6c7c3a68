-- what is on its way in a direction (profile)
use Rattle.std.specs.Prelude.{◌≡◌, ◌≤◌, ◌++◌, ℕ, true, false}
use mathlib.Core.List.{IsPrefix}
use Rattle.law_order.specs.Paths.{Arrives, Losses, OnLegs, path, reach, reader, stops_at}
use Rattle.law_order.specs.Routes.{Route}

-- of the channels from the taker's current one up to that on which the giver writes no leg is lost
-- before its handover mark or END passed
pub record NoneStops (r : Route) (lost : Losses) : Type 0 where
  pub near : (n : ℕ) → r.taker.shelves.current ≤ n → n ≤ r.giver.writing
      → stops_at (lost.near n) (r.came (reader r.legs n) n) ≡ false
  pub far : (n : ℕ) → r.taker.shelves.current ≤ n → n ≤ r.giver.writing → r.legs n ≡ true
      → stops_at (lost.far n) (r.got n) ≡ false

-- what was put on a leg and did not come stands on it, or the leg is lost. So what was given is
-- what was taken and what is on its way, as long as no leg stops the way; and it begins with what
-- was taken and what can still be taken, whatever was lost
pub record IsOnItsWay (r : Route) (on : OnLegs) (lost : Losses) : Type 0 where
  pub arrives : Arrives r on lost
  pub all : NoneStops r lost → r.giver.given ≡ r.taker.taken ++ path r on
  pub front : IsPrefix (r.taker.taken ++ reach r on lost) r.giver.given
