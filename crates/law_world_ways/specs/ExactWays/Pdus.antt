-- what is on its way in a direction, by its RPC PDUs alone (profile)
use Rattle.std.specs.Prelude.{◌≡◌, ◌⊎◌, ◌<◌, ◌≤◌, ◌++◌, ℕ, true, false}
use Rattle.law_order.specs.Items.{has_end, pdus}
use Rattle.law_order.specs.Logs.{below}
use Rattle.law_order.specs.Paths.{Losses, OnLegs, reader, stops_at}
use Rattle.law_order.specs.Routes.{Route}

-- each PDU that was put on a leg came, or stands there
pub record HasAllPdus (r : Route) (on : OnLegs) : Type 0 where
  pub near : (n : ℕ) → 0 < n → n ≤ r.giver.writing
      → pdus (r.sent n) ≡ pdus (r.came (reader r.legs n) n) ++ pdus (on.near n)
  pub far : (m : ℕ) → 0 < m → m ≤ r.giver.writing
      → pdus (r.put m) ≡ pdus (r.got m) ++ pdus (on.far m)

-- END came on a channel below, at the proxy that reads this one
abbrev pub IsBehindEnd : Route → ℕ → Type 0
IsBehindEnd r n = has_end (below (r.came (reader r.legs n)) n) ≡ true

-- of the channels from the taker's current one up to that on which the giver writes, no leg is lost
-- before its handover mark or END passed, unless a near one stands behind END
pub record NoneStopsButBehindEnd (r : Route) (lost : Losses) : Type 0 where
  pub near : (n : ℕ) → r.taker.shelves.current ≤ n → n ≤ r.giver.writing
      → (stops_at (lost.near n) (r.came (reader r.legs n) n) ≡ false) ⊎ IsBehindEnd r n
  pub far : (n : ℕ) → r.taker.shelves.current ≤ n → n ≤ r.giver.writing → r.legs n ≡ true
      → stops_at (lost.far n) (r.got n) ≡ false
