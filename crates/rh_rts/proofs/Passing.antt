-- tests behind which nothing is wrong
use Rattle.std.proofs.Common.{◌≡◌, refl, true, false, Bool}
use Rattle.std.specs.Prelude.{Some, None, if◌then◌else◌}
use Rattle.std.specs.declared.option.Option.{Option}

pub passed : {A : Type 0} (t : Bool) (wrong : A) (later : Option A)
    → (if t then Some wrong else later) ≡ None
    → (t ≡ false) × (later ≡ None)
passed true wrong later e = absurd cc
passed false wrong later e = (refl, e)
