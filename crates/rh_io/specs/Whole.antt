-- what reading a whole source answers of the bytes that came, and which counts rise
use Rattle.std.specs.Prelude.{◌≡◌, ℕ, ◌+◌, ◌≤◌, List, length, Ok, Err}
use Rattle.std.specs.declared.result.Result.{Result}
use Rattle.std.specs.declared.vec.Vec.{Vec}
use Rattle.std.specs.Global.{Global}
use Rattle.rh_io.specs.Counts.{Rose}
use Rattle.rh_io.specs.declared.fault.ReadWholeError.{ReadWholeError}
use Rattle.rh_io.specs.declared.fault.ReadWholeError.TheVariants.{ReadFault, TooLong, NoMemory}

-- these bytes and within the limit; a fault within it; one byte more than the limit, and none
-- behind it; no memory at any length that is read
abbrev pub Answers : ℕ → List ℕ → Result (Vec ℕ Global) ReadWholeError → Type 0
Answers limit bytes (Ok all) = (all.items ≡ bytes) × (length bytes ≤ limit)
Answers limit bytes (Err ReadFault) = length bytes ≤ limit
Answers limit bytes (Err TooLong) = length bytes ≡ limit + 1
Answers limit bytes (Err NoMemory) = length bytes ≤ limit + 1

-- the count of faults rises where a read failed, and stays otherwise
abbrev pub FaultsAfter : Result (Vec ℕ Global) ReadWholeError → ℕ → ℕ → Type 0
FaultsAfter (Ok all) before now = now ≡ before
FaultsAfter (Err ReadFault) before now = Rose before now
FaultsAfter (Err TooLong) before now = now ≡ before
FaultsAfter (Err NoMemory) before now = now ≡ before

-- the count of ends rises where all was read, and stays otherwise
abbrev pub EndsAfter : Result (Vec ℕ Global) ReadWholeError → ℕ → ℕ → Type 0
EndsAfter (Ok all) before now = Rose before now
EndsAfter (Err e) before now = now ≡ before
