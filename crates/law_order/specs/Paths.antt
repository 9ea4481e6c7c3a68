-- the PDUs of one direction that are on their way (profile)
use Rattle.std.specs.Prelude.{ℕ, zero, suc, ◌<◌, Bool, true, false, not, ◌&&◌, ◌||◌, List, [], ◌++◌, ◌≡◌, if◌then◌else◌, nat_eq, nat_lt}
use Rattle.law_order.specs.Items.{Item, pdus, has_end, has_handover}
use Rattle.law_order.specs.Logs.{Log, below}
use Rattle.law_order.specs.Shelves.{Shelves}
use Rattle.law_order.specs.Routes.{Route}

-- the far leg of the proxy that reads a channel: its own one, or the last one before it
abbrev pub reader : (ℕ → Bool) → ℕ → ℕ
reader legs zero = zero
reader legs (suc n) = if legs (suc n) then suc n else reader legs n

-- what is on the legs: near n of channel n between giver and proxy, far m on far leg m
pub record OnLegs : Type 0 where
  pub near : Log
  pub far : Log

-- no leg lost anything: what was put came, or is on it
pub record IsWhole (r : Route) (on : OnLegs) : Type 0 where
  pub near : (n : ℕ) → 0 < n → r.sent n ≡ r.came (reader r.legs n) n ++ on.near n
  pub far : (m : ℕ) → r.put m ≡ r.got m ++ on.far m

-- what is held of one channel
abbrev pub held_of : Shelves → ℕ → List (List ℕ)
held_of s n =
    if nat_eq n s.current then s.now.held
    else (if nat_eq n s.following then s.next.held else [])

-- of one channel: the taker's list of its far leg, the PDUs on that leg, the list of the proxy that
-- reads the channel, and the PDUs on its near leg
abbrev pub part : Route → OnLegs → ℕ → List (List ℕ)
part r on n =
    held_of r.taker.shelves n ++ (pdus (on.far n)
    ++ (held_of (r.proxies (reader r.legs n)).shelves n ++ pdus (on.near n)))

-- from the taker back to the giver: the channels in order of number, and then the giver's queue
abbrev pub path : Route → OnLegs → List (List ℕ)
path r on = below (λ n. part r on (suc n)) r.giver.writing ++ r.giver.queue

-- ---- what can still be taken, where legs broke or ended and proxies closed

-- near leg n, or far leg m, gives its receiver nothing more; proxy m closed
pub record Losses : Type 0 where
  pub near : ℕ → Bool
  pub far : ℕ → Bool
  pub closed : ℕ → Bool

-- any other leg lost nothing
pub record Arrives (r : Route) (on : OnLegs) (lost : Losses) : Type 0 where
  pub near : (n : ℕ) → 0 < n → lost.near n ≡ false
      → r.sent n ≡ r.came (reader r.legs n) n ++ on.near n
  pub far : (m : ℕ) → lost.far m ≡ false → r.put m ≡ r.got m ++ on.far m

-- the PDUs that were met on the way from the taker to the giver, and whether the way goes on
pub record Walk : Type 0 where
  pub met : List (List ℕ)
  pub going : Bool

abbrev pub advance : Bool → List (List ℕ) → Walk → Walk
advance stops pdus w =
    if w.going && not stops
    then record { met = w.met ++ pdus; going = true }
    else record { met = w.met; going = false }

-- the way stops before a leg that is lost, unless its handover mark or END passed it
abbrev pub stops_at : Bool → List Item → Bool
stops_at lost came = lost && not (has_handover came || has_end came)

abbrev pub arriving : Bool → List Item → List (List ℕ)
arriving lost items = if lost then [] else pdus items

-- over the taker's list of a channel, its far leg, the list of the proxy that reads it unless that
-- one closed, and its near leg
abbrev pub walk_over : Route → OnLegs → Losses → ℕ → Walk → Walk
walk_over r on lost n w =
    let m = reader r.legs n in
    advance (stops_at (lost.near n) (r.came m n)) (arriving (lost.near n) (on.near n))
    (advance (lost.closed m) (held_of (r.proxies m).shelves n)
    (advance (stops_at (lost.far n) (r.got n)) (arriving (lost.far n) (on.far n))
    (advance false (held_of r.taker.shelves n) w)))

-- over the channels from the taker's current one up to a number
abbrev pub walk : Route → OnLegs → Losses → ℕ → Walk
walk r on lost zero = record { met = []; going = true }
walk r on lost (suc n) =
    if nat_lt (suc n) r.taker.shelves.current then walk r on lost n
    else walk_over r on lost (suc n) (walk r on lost n)

abbrev pub with_queue : Walk → List (List ℕ) → List (List ℕ)
with_queue w queue = w.met ++ (if w.going then queue else [])

abbrev pub reach : Route → OnLegs → Losses → List (List ℕ)
reach r on lost = with_queue (walk r on lost r.giver.writing) r.giver.queue
