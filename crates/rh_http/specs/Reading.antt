-- what is told of bytes at whose front a head is to be
use Rattle.std.specs.Prelude.{◌≡◌, ◌<◌, ◌≤◌, ℕ, List, length, take, Ok, Err}
use Rattle.std.specs.declared.result.Result.{Result}
use Rattle.rh_http.specs.declared.fault.HttpFault.{HttpFault}
use Rattle.rh_http.specs.declared.fault.HttpFault.TheVariants.{TooLong}
use Rattle.rh_http.specs.declared.got.Got.{Got}
use Rattle.rh_http.specs.declared.got.TheConstants.{GREATEST_HEAD}
use Rattle.rh_http.specs.declared.got.Got.TheVariants.{Need, Head, Fault}
use Rattle.rh_http.specs.Ends.{IsOpen, FirstEnd}

-- the most bytes of a head
abbrev pub greatest_head : ℕ
greatest_head = GREATEST_HEAD

-- a head that ends within the most bytes is judged; where none ends there, more bytes may end one,
-- or none can
abbrev pub IsAnswer : {T : Type 0} → (List ℕ → Result T HttpFault → Type 0) → List ℕ → Got T
    → Type 0
IsAnswer judges bytes Need = IsOpen (take greatest_head bytes) × (length bytes < greatest_head)
IsAnswer judges bytes (Head value len) =
    FirstEnd (take greatest_head bytes) len × judges (take len bytes) (Ok value)
IsAnswer judges bytes (Fault place TooLong) =
    (place ≡ greatest_head) × IsOpen (take greatest_head bytes) × (greatest_head ≤ length bytes)
IsAnswer judges bytes (Fault place fault) =
    FirstEnd (take greatest_head bytes) place × judges (take place bytes) (Err fault)

-- no other answer is one
abbrev pub IsAlone : {T : Type 0} → (List ℕ → Result T HttpFault → Type 0) → List ℕ → Got T
    → Type 0
IsAlone {T} judges bytes got = (other : Got T) → IsAnswer judges bytes other → other ≡ got
