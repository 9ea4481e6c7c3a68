-- one direction of a leg, as its two ends and its flight have it (profile)
use Rattle.std.specs.Prelude.{◌≡◌, ◌⊎◌, ℕ, List, [], Bool, true, false}
use Rattle.law_order.specs.Wires.{Wire, WireLaw}

pub record Carriage : Type 0 where
  -- the bytes that the end that puts drew, those that the end that takes heard, and those between
  pub drawn : List ℕ
  pub fed : List ℕ
  pub flight : List ℕ
  -- the leg is up for the end that puts, and for the end that takes
  pub puts : Bool
  pub takes : Bool
  -- it is or was
  pub did_put : Bool
  pub did_take : Bool

-- an end does not come up again: one that was up, and isn't, is done with the leg
abbrev pub IsDone : Bool → Bool → Type 0
IsDone was is = (was ≡ true) × (is ≡ false)

abbrev pub wire_of : Carriage → Bool → Wire
wire_of c lost = record { drawn = c.drawn; fed = c.fed; flight = c.flight; lost = lost }

-- the end that puts is done, nothing is in flight, and the end that takes heard nothing: so the leg
-- may have been down for both before it came up for the end that takes
abbrev pub IsUnheard : Carriage → Type 0
IsUnheard c = IsDone c.did_put c.puts × (c.flight ≡ []) × (c.fed ≡ [])

-- what was fed is a front of what was drawn. While nothing was lost the rest is in flight; once
-- something may have been, the end that takes is done, or heard nothing
pub record IsCarried (c : Carriage) : Type 0 where
  pub lost : Bool
  pub wire : WireLaw (wire_of c lost)
  pub over : lost ≡ true → IsUnheard c ⊎ IsDone c.did_take c.takes
  -- an end for which the leg is up had it up
  pub put_up : c.puts ≡ true → c.did_put ≡ true
  pub take_up : c.takes ≡ true → c.did_take ≡ true
  -- and one that never had it up heard nothing
  pub unfed : c.did_take ≡ false → c.fed ≡ []
