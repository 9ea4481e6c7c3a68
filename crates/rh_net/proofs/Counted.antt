-- cookies that count
use Rattle.std.proofs.Common.{◌≡◌, ℕ, ◌+◌, ◌∷◌, ◌++◌, [], add-one}
use Rattle.rh_net.specs.Answered.{cookie, first_cookies}

-- one cookie more
pub first_cookies_next : (n : ℕ) → first_cookies (n + 1) ≡ first_cookies n ++ cookie (n + 1) ∷ []
first_cookies_next n = rw add-one
