-- the cookies that a source of cookies answered
use Rattle.std.specs.Prelude.{◌≡◌, ℕ, zero, suc, ◌+◌, ◌-◌, ◌^◌, ◌==◌, ◌||◌, Bool, if◌then◌else◌, List, [], ◌∷◌, ◌++◌, None, Some}
use Rattle.std.specs.declared.option.Option.{Option}
use Rattle.std.specs.Int.{w128, to_be_bytes}

-- where it tells them: it answered this one besides
abbrev pub Gains : Option (List (List ℕ)) → Option (List (List ℕ)) → List ℕ → Type 0
Gains (Some old) (Some new) cookie = new ≡ old ++ cookie ∷ []
Gains (Some old) None cookie = ⊥
Gains None (Some new) cookie = ⊥
Gains None None cookie = Unit {0}

-- ---- counted cookies

-- the cookie of a number: its 16 bytes, the most significant first
abbrev pub cookie : ℕ → List ℕ
cookie n = to_be_bytes w128 n

-- the cookies of the numbers from 1 on, so many
abbrev pub first_cookies : ℕ → List (List ℕ)
first_cookies zero = []
first_cookies (suc n) = first_cookies n ++ cookie (suc n) ∷ []

-- the cookie behind so many, or that it fails: the call is to fail, or no number is left
abbrev pub cookie_behind : Bool → ℕ → Option (List ℕ)
cookie_behind to_fail made = if to_fail || made == 2 ^ 64 - 1 then None
    else Some (cookie (made + 1))
