-- what reading a source in memory whole answers where none of its reads is to fail
use Rattle.std.specs.Prelude.{◌≡◌, ℕ, ◌<◌, ◌≤◌, List, length, Ok, Err}
use Rattle.std.specs.declared.result.Result.{Result}
use Rattle.std.specs.declared.vec.Vec.{Vec}
use Rattle.std.specs.Global.{Global}
use Rattle.rh_io.specs.declared.fault.ReadWholeError.{ReadWholeError}
use Rattle.rh_io.specs.declared.fault.ReadWholeError.TheVariants.{ReadFault, TooLong, NoMemory}

-- all the bytes where they are within the limit, TooLong where they are not, and want of memory at
-- any time
abbrev pub ReadFromMemory : ℕ → List ℕ → Result (Vec ℕ Global) ReadWholeError → Type 0
ReadFromMemory limit bytes (Ok all) = (all.items ≡ bytes) × (length bytes ≤ limit)
ReadFromMemory limit bytes (Err ReadFault) = ⊥
ReadFromMemory limit bytes (Err TooLong) = limit < length bytes
ReadFromMemory limit bytes (Err NoMemory) = Unit {0}
