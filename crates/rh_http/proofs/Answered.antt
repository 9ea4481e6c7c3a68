-- a fault of a head is an answer
use Rattle.std.proofs.Common.{◌≡◌, ℕ, List, take, subst, Err}
use Rattle.std.specs.declared.result.Result.{Result}
use Rattle.rh_http.specs.declared.fault.HttpFault.{HttpFault}
use Rattle.rh_http.specs.declared.fault.HttpFault.TheVariants.{TooLong, Syntax, Method, Path, Target, Length}
use Rattle.rh_http.specs.declared.got.Got.TheVariants.{Fault}
use Rattle.rh_http.specs.Ends.{FirstEnd}
use Rattle.rh_http.specs.Reading.{greatest_head, IsAnswer}

-- no head is told to be too long
pub fault_answered : {T : Type 0} (judges : List ℕ → Result T HttpFault → Type 0)
    (bytes text : List ℕ) (len : ℕ)
    (fault : HttpFault) → (judges text (Err TooLong) → ⊥) → text ≡ take len bytes
    → FirstEnd (take greatest_head bytes) len → judges text (Err fault)
    → IsAnswer judges bytes (Fault len fault)
fault_answered judges bytes text len TooLong never cut ends h = absurd (never h)
fault_answered {T} judges bytes text len Syntax never cut ends h =
    let P : List ℕ → Type 0 = λ x. judges x (Err Syntax) in (ends, subst P cut h)
fault_answered {T} judges bytes text len Method never cut ends h =
    let P : List ℕ → Type 0 = λ x. judges x (Err Method) in (ends, subst P cut h)
fault_answered {T} judges bytes text len Path never cut ends h =
    let P : List ℕ → Type 0 = λ x. judges x (Err Path) in (ends, subst P cut h)
fault_answered {T} judges bytes text len Target never cut ends h =
    let P : List ℕ → Type 0 = λ x. judges x (Err Target) in (ends, subst P cut h)
fault_answered {T} judges bytes text len Length never cut ends h =
    let P : List ℕ → Type 0 = λ x. judges x (Err Length) in (ends, subst P cut h)
