-- the numbers of a head
use Rattle.std.specs.Prelude.{◌≡◌, ◌≤◌, ℕ, List, true, length}
use Rattle.std.specs.Str.{all_ascii_digits}
use Rattle.std.specs.Str.Parse.{digits_value}
use Rattle.rh_text.specs.Numbers.{IsNumber}
use Rattle.rh_http.specs.declared.numbers.TheConstants.{MOST_DIGITS, LEAST_PORT, GREATEST_PORT}

-- 1 to 10 digits, and the number that they spell; zeros may lead it
pub record IsLengthText (text : List ℕ) (n : ℕ) : Type 0 where
  pub some : 1 ≤ length text
  pub most : length text ≤ MOST_DIGITS
  pub digits : all_ascii_digits text ≡ true
  pub value : n ≡ digits_value 10 text

-- 1 to 65,535 in decimal, with no leading zero
abbrev pub IsPortText : List ℕ → ℕ → Type 0
IsPortText text port = IsNumber LEAST_PORT GREATEST_PORT text port
