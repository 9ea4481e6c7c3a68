-- one direction of a virtual connection: an end that gives, proxies between near and far legs, and
-- an end that takes (profile)
use Rattle.std.specs.Prelude.{ℕ, suc, ◌<◌, ◌≤◌, Bool, true, false, [], ◌≡◌}
use Rattle.law_order.specs.Logs.{Log, IsLeg}
use Rattle.law_order.specs.Giving.{Giver, GiverLaw}
use Rattle.law_order.specs.Passing.{Passer, PasserLaw}
use Rattle.law_order.specs.Taking.{Taker, TakerLaw}

pub record Route : Type 0 where
  pub giver : Giver
  -- the proxy that puts on far leg m
  pub proxies : ℕ → Passer
  pub taker : Taker
  -- channel n has a far leg of its own; one that has none is read by the proxy of the channel
  -- before it (IN_R2). Downwards each channel has one
  pub legs : ℕ → Bool
  -- the same as far as the taker knows
  pub known : ℕ → Bool
  -- what the giver put on channel n
  pub sent : Log
  -- what proxy m took of it
  pub came : ℕ → Log
  -- what proxy m put on its far leg, and what the taker took of that
  pub put : Log
  pub got : Log

-- which proxy reads which channel
pub record IsNumbered (r : Route) : Type 0 where
  pub none : r.legs 0 ≡ false
  pub first : r.legs 1 ≡ true
  -- a proxy comes only to channels without a far leg of their own
  pub reads : (m n : ℕ) → r.legs m ≡ true → m < n → n ≤ (r.proxies m).shelves.current
      → r.legs n ≡ false
  -- and where it put its handover mark, the next channel has one
  pub handed : (m : ℕ) → r.legs m ≡ true → (r.proxies m).handover_put ≡ true
      → r.legs (suc (r.proxies m).shelves.current) ≡ true
  -- on a far leg that is none, nothing is put
  pub unused : (n : ℕ) → r.legs n ≡ false → r.put n ≡ []
  -- the taker knows each far leg as one, and is at one
  pub known : (n : ℕ) → r.legs n ≡ true → r.known n ≡ true
  pub here : r.legs r.taker.shelves.current ≡ true

-- the law of each machine alone, and of each leg that what came is a front of what was put
pub record IsRoute (r : Route) : Type 0 where
  pub giver : GiverLaw r.giver r.sent
  pub passers : (m : ℕ) → r.legs m ≡ true → PasserLaw (r.proxies m) m (r.came m) (r.put m)
  pub taker : TakerLaw r.taker r.known r.got
  pub near : (m n : ℕ) → r.legs m ≡ true → IsLeg (r.sent n) (r.came m n)
  pub far : (m : ℕ) → IsLeg (r.put m) (r.got m)
  pub numbered : IsNumbered r
