-- the legs that a net on a board gives
use Rattle.std.specs.Prelude.{◌≡◌, ◌⊎◌, ℕ, List, [], ◌∷◌, ◌++◌, None, Some}
use Rattle.std.specs.declared.option.Option.{Option}
use Rattle.std.specs.declared.vec.Vec.{Vec}
use Rattle.std.specs.Global.{Global}
use Rattle.rh_net.specs.declared.way.NetCall.{NetCall}
use Rattle.rh_net.specs.declared.way.NetCall.TheVariants.{Connect, Accept}
use Rattle.rh_net.specs.declared.in_memory.mem_net.LegFails.{LegFails}
use Rattle.rh_net.specs.declared.in_memory.two_ways.Party.{Party}
use Rattle.rh_net.specs.declared.in_memory.two_ways.Party.TheVariants.{Caller, Callee}
use Rattle.rh_net.specs.declared.in_memory.two_ways.Half.{Half}
use Rattle.rh_net.specs.declared.in_memory.two_ways.Half.TheVariants.{Reading, Writing}

-- who makes a call
abbrev pub party_of : NetCall → Party
party_of (Connect to) = Caller
party_of Accept = Callee

-- the source of a leg reads for a party, and its sink writes for it
pub record AreHalves (party source sink : Party) (reads writes : Half) : Type 0 where
  pub of_source : source ≡ party
  pub of_sink : sink ≡ party
  pub reading : reads ≡ Reading
  pub writing : writes ≡ Writing

-- the calls on the next leg that are to fail, which stand last, are these; none where none are left
abbrev pub TakesNext : List LegFails → List LegFails → Vec ℕ Global → Vec ℕ Global → Type 0
TakesNext old new reads writes =
    (old ≡ new ++ record { reads = reads; writes = writes } ∷ [])
    ⊎ ((old ≡ []) × (new ≡ []) × (reads.items ≡ []) × (writes.items ≡ []))

-- the same of a leg that was made; where nobody called, none are taken, and none fail
abbrev pub TakesFails :
    Option ℕ → List LegFails → List LegFails → Vec ℕ Global → Vec ℕ Global → Type 0
TakesFails (Some leg) old new reads writes = TakesNext old new reads writes
TakesFails None old new reads writes = (new ≡ old) × (reads.items ≡ []) × (writes.items ≡ [])
