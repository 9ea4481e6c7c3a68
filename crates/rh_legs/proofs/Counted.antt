-- counts over several calls, and how a leg's thread ended, over plain variables
use Rattle.std.proofs.Common.{◌≡◌, ◌≤◌, ℕ, arith}
use Rattle.rh_io.specs.Counts.{Rose}
use Rattle.rh_legs.specs.declared.end.LegEnd.TheVariants.{Finished, Ended, Failed, Stopped}

pub no_fewer : (a b c : ℕ) → a ≤ b → b ≤ c → a ≤ c
no_fewer a b c h k = omega (arith, h, k)

pub rose_since : (a b c : ℕ) → a ≤ b → Rose b c → Rose a c
rose_since a b c h k = omega (arith, h, k)

pub finished-ended : Finished ≡ Ended → ⊥
finished-ended is = let no = is in cc

pub finished-failed : Finished ≡ Failed → ⊥
finished-failed is = let no = is in cc

pub failed-ended : Failed ≡ Ended → ⊥
failed-ended is = let no = is in cc

pub stopped-ended : Stopped ≡ Ended → ⊥
stopped-ended is = let no = is in cc

pub stopped-failed : Stopped ≡ Failed → ⊥
stopped-failed is = let no = is in cc
