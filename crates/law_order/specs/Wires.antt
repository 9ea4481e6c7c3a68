-- the bytes of one direction of a leg, and what is read in them, by any reader (profile)
use Rattle.std.specs.Prelude.{ℕ, Bool, true, false, List, [], ◌++◌, ◌≡◌}
use mathlib.Core.List.{IsPrefix}

-- ---- a wire

-- all bytes that were drawn, those that were fed, and those in flight; nothing is heard any more of
-- one that is lost
pub record Wire : Type 0 where
  pub drawn : List ℕ
  pub fed : List ℕ
  pub flight : List ℕ
  pub lost : Bool

-- what was fed is a front of what was drawn; while it is not lost, the rest is in flight
pub record WireLaw (w : Wire) : Type 0 where
  pub in_order : IsPrefix w.fed w.drawn
  pub whole : w.lost ≡ false → w.drawn ≡ w.fed ++ w.flight

pub data Event : Type 0 where
  -- bytes are drawn
  Draws : List ℕ → Event
  -- bytes that were in flight are fed, and others are left
  Feeds : List ℕ → List ℕ → Event
  -- all that is in flight is lost
  Loses : Event

abbrev pub MayHappen : Wire → Event → Type 0
MayHappen w (Draws bytes) = Unit {0}
MayHappen w (Feeds bytes rest) = (w.lost ≡ false) × (w.flight ≡ bytes ++ rest)
MayHappen w Loses = Unit {0}

abbrev pub after : Wire → Event → Wire
after w (Draws bytes) = record w { drawn = w.drawn ++ bytes; flight = w.flight ++ bytes }
after w (Feeds bytes rest) = record w { fed = w.fed ++ bytes; flight = rest }
after w Loses = record w { flight = []; lost = true }
