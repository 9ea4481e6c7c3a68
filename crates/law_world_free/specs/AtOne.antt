-- a direction whose ends are at one channel (profile)
use Rattle.std.specs.Prelude.{◌≡◌, ◌<◌, ◌≤◌, ℕ, [], false}
use Rattle.law_order.specs.Passing.{Passer}
use Rattle.law_order.specs.Paths.{held_of, reader}
use Rattle.law_order.specs.Routes.{Route}

-- the proxy on whose far leg the taker's current channel is
abbrev pub passer_of : Route → Passer
passer_of r = r.proxies r.taker.shelves.current

-- it reads the channel on which the giver writes
abbrev pub IsAtOne : Route → Type 0
IsAtOne r = (passer_of r).shelves.current ≡ r.giver.writing

-- of the channel of the taker, where it is not over there, and holds nothing: the proxy holds
-- nothing of its own; and then the giver nothing
pub record GiveAll (r : Route) : Type 0 where
  pub far : r.taker.shelves.now.ended ≡ false → r.taker.shelves.now.finished ≡ false
      → (passer_of r).shelves.now.held ≡ []
  pub near : (passer_of r).shelves.now.held ≡ [] → (passer_of r).shelves.now.ended ≡ false
      → (passer_of r).shelves.now.finished ≡ false → r.giver.queue ≡ []

-- no PDU of a channel is held by the taker, nor by the proxy that reads the channel
pub record HoldsNoneOf (r : Route) (n : ℕ) : Type 0 where
  pub taker : held_of r.taker.shelves n ≡ []
  pub proxy : held_of (r.proxies (reader r.legs n)).shelves n ≡ []

-- nor is any left to be put, of the channels up to that on which the giver writes
pub record HoldsNone (r : Route) : Type 0 where
  pub queue : r.giver.queue ≡ []
  pub channels : (n : ℕ) → 0 < n → n ≤ r.giver.writing → HoldsNoneOf r n
