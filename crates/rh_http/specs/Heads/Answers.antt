-- the verdict on a text, from what is told of the head at its front
use Rattle.std.specs.Prelude.{ℕ, ◌==◌, Ok, Err, if◌then◌else◌}
use Rattle.std.specs.declared.result.Result.{Result}
use Rattle.rh_http.specs.declared.fault.HttpFault.{HttpFault}
use Rattle.rh_http.specs.declared.fault.HttpFault.TheVariants.{TooLong}
use Rattle.rh_http.specs.declared.got.Got.{Got}
use Rattle.rh_http.specs.declared.got.Got.TheVariants.{Need, Head, Fault}

-- that on the head, where it is all of the text
abbrev pub verdict_of : {T : Type 0} → Got T → ℕ → Result T HttpFault
verdict_of Need n = Err TooLong
verdict_of (Head value len) n = if len == n then Ok value else Err TooLong
verdict_of (Fault place fault) n = if place == n then Err fault else Err TooLong
