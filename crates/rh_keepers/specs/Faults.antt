-- what the desk of the keepers tells: some state of what it has went on so (profile)
use Rattle.std.specs.Prelude.{◌≡◌, ℕ, List}
use Rattle.std.specs.declared.option.Option.{Option}
use Rattle.rh_io.specs.Counts.{Rose}
use Rattle.rh_net.specs.Answered.{Gains}
use Rattle.rh_net.specs.Calls.{CountsFault}
use Rattle.rh_net.specs.declared.counts.NetCounts.{NetCounts}

-- the clock answered this moment
abbrev pub WasTold : {C : Type 0} → (C → ℕ) → ℕ → Type 0
WasTold {C} moment now = (clock : C) × (moment clock ≡ now)

-- the source of cookies answered this one
abbrev pub WasAnswered : {K : Type 0} → (K → Option (List (List ℕ))) → List ℕ → Type 0
WasAnswered {K} answered cookie = (old : K) × (new : K) × Gains (answered old) (answered new) cookie

-- the source of cookies failed, and counted it
abbrev pub CookiesFail : {K : Type 0} → (K → ℕ) → Type 0
CookiesFail {K} faults = (old : K) × (new : K) × Rose (faults old) (faults new)

-- a call of the net failed, and was counted
abbrev pub NetFails : {N : Type 0} → (N → NetCounts) → Type 0
NetFails {N} counts = (old : N) × (new : N) × CountsFault (counts old) (counts new)

-- a source of a leg that was never used before failed, and counted it
abbrev pub SourceFails : {I : Type 0} → (I → ℕ) → Type 0
SourceFails {I} faults = (source : I) × Rose 0 (faults source)
