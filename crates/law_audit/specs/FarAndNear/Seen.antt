-- what is seen on the legs of one direction: some of what was put on each, and at least what came
-- there (profile)
use Rattle.std.specs.Prelude.{◌≡◌, ◌<◌, ◌++◌, ℕ, zero, suc, Bool, true, false, List, [], if◌then◌else◌}
use Rattle.law_order.specs.Items.{has_handover, pdus}
use Rattle.law_order.specs.Logs.{IsLeg, Log}
use Rattle.law_order.specs.Routes.{Route}

-- the PDUs of so many legs from a number on, in order: of each that is there, up to and with the
-- first whose handover mark is not seen
abbrev pub walked : (ℕ → Bool) → Log → ℕ → ℕ → List (List ℕ)
walked there log n zero = []
walked there log n (suc more) =
    if there n
    then pdus (log n) ++ (if has_handover (log n) then walked there log (suc n) more else [])
    else walked there log (suc n) more

-- the legs of one side
pub record Side : Type 0 where
  pub there : ℕ → Bool
  pub seen : Log
  -- there is none above this number
  pub most : ℕ

abbrev pub pdus_seen : Side → List (List ℕ)
pdus_seen side = walked side.there side.seen 0 (suc side.most)

-- what is seen on the near legs
pub record IsSeenNear (r : Route) (near : Side) : Type 0 where
  pub of_sent : (n : ℕ) → IsLeg (r.sent n) (near.seen n)
  pub came : (m n : ℕ) → r.legs m ≡ true → IsLeg (near.seen n) (r.came m n)
  pub none : (n : ℕ) → near.there n ≡ false → near.seen n ≡ []
  pub past : (n : ℕ) → near.most < n → near.seen n ≡ []
  pub zero : near.there 0 ≡ false

-- and on the far legs, of which the first is that of channel 1, and behind one whose mark is seen
-- the next is that of the channel behind the last one that its proxy read
pub record IsSeenFar (r : Route) (far : Side) : Type 0 where
  pub of_put : (m : ℕ) → IsLeg (r.put m) (far.seen m)
  pub first : (n : ℕ) → far.there n ≡ true → ((k : ℕ) → k < n → far.there k ≡ false) → n ≡ 1
  pub next : (m n : ℕ) → far.there m ≡ true → far.there n ≡ true → m < n
      → ((k : ℕ) → m < k → k < n → far.there k ≡ false) → has_handover (far.seen m) ≡ true
      → n ≡ suc (r.proxies m).shelves.current
