-- the text of a cookie is ASCII
use Rattle.std.proofs.Common.{ℕ, ◌<◌, ◌+◌, ◌-◌, ◌/◌, ◌%◌, nat_lt, List, [], ◌∷◌, ◌++◌, take, drop, arith}
use Rattle.std.specs.Prelude.{IsAscii, codes, if◌then◌else◌}
use Rattle.std.proofs.lemmas.Bool.Decides.{nat_tests}
use Rattle.std.proofs.lemmas.Str.{IsAscii-append}
use Rattle.std.proofs.lemmas.Str.Ascii.{IsAscii-nil, IsAscii-cons}
use Rattle.rh_sig.specs.Cookies.{digits, group, text_of_cookie}

-- a hex digit in lower case
abbrev digit : ℕ → ℕ
digit d = if nat_lt d 10 then 48 + d else 97 + d - 10

digit_ascii : (d : ℕ) → digit (d % 16) < 128
digit_ascii d = grind (arith, nat_tests)

digits_ascii : (bytes : List ℕ) → IsAscii (digits bytes)
digits_ascii [] = IsAscii-nil
digits_ascii (b ∷ bytes) =
    let low = IsAscii-cons _ (digits bytes) (digit_ascii b) (digits_ascii bytes) in
    IsAscii-cons _ (digit (b % 16) ∷ digits bytes) (digit_ascii (b / 16)) low

-- a group of digits, a hyphen and a text behind it
behind_group : (at count : ℕ) (bytes more : List ℕ) → IsAscii more
    → IsAscii (group at count bytes ++ (codes "-" ++ more))
behind_group at count bytes more h =
    IsAscii-append (group at count bytes) (codes "-" ++ more)
    (digits_ascii (take count (drop at bytes))) (IsAscii-cons 45 more (omega arith) h)

-- the text of a cookie is ASCII
pub cookie_ascii : (bytes : List ℕ) → IsAscii (text_of_cookie bytes)
unfolding text_of_cookie
cookie_ascii b =
    behind_group 0 4 b _ (behind_group 4 2 b _ (behind_group 6 2 b _
    (behind_group 8 2 b _ (digits_ascii (take 6 (drop 10 b))))))
