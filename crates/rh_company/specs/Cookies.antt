-- the cookies that the legs of the client get (profile)
use Rattle.std.specs.Prelude.{ℕ, ◌+◌, ◌-◌, ◌^◌, ◌==◌, ◌&&◌, ◌||◌, ◌++◌, List, [], ◌∷◌, Bool, min, nat_lt, nat_le, if◌then◌else◌}
use Rattle.std.specs.List.{list_any}
use Rattle.std.specs.Int.{w128, to_be_bytes, from_be_bytes}
use Rattle.rh_rts.specs.declared.command.Cookie.{Cookie}

-- the cookies that legs have had: those of the numbers from the first up to the next, and others
pub record Cookies : Type 0 where
  pub first : ℕ
  pub next : ℕ
  pub others : List ℕ

abbrev pub from : ℕ → Cookies
from first = record { first = first; next = first; others = [] }

-- the cookie of a number: its 16 bytes, the most significant first
abbrev pub cookie_of : ℕ → Cookie
cookie_of number = record { 0 = to_be_bytes w128 number }

abbrev pub number_of : Cookie → ℕ
number_of cookie = from_be_bytes w128 cookie.0

-- the next number, which stands still at the end of its type
abbrev pub behind : ℕ → ℕ
behind number = min (number + 1) (2 ^ 64 - 1)

abbrev pub is_one_of : List ℕ → ℕ → Bool
is_one_of others number = list_any (λ other. other == number) others

-- a number that is one of the others is passed over
abbrev pub past_one : List ℕ → ℕ → ℕ
past_one others number = if is_one_of others number then behind number else number

-- at most as many numbers are passed over as there are others
abbrev pub past : List ℕ → List ℕ → ℕ → ℕ
past others [] number = number
past others (other ∷ rest) number = past others rest (past_one others number)

abbrev pub drawn : Cookies → ℕ → Cookies × Cookie
drawn cookies number = (record cookies { next = behind number }, cookie_of number)

-- the next cookie that no leg has had
abbrev pub draw : Cookies → Cookies × Cookie
draw cookies = drawn cookies (past cookies.others cookies.others cookies.next)

abbrev pub is_had : Cookies → ℕ → Bool
is_had cookies number =
    nat_le cookies.first number && nat_lt number cookies.next
    || is_one_of cookies.others number

-- a leg has had the cookie
abbrev pub was_had : Cookies → Cookie → Bool
was_had cookies cookie = is_had cookies (number_of cookie)

abbrev pub with_other : Cookies → Cookie → Cookies
with_other cookies cookie =
    record cookies { others = cookies.others ++ number_of cookie ∷ [] }
