-- words that spell numbers
use Rattle.std.proofs.Common.{◌≡◌, ℕ, zero, suc, ◌+◌, ◌-◌, ◌*◌, ◌≤◌, ◌<◌, ◌^◌, List, [], ◌∷◌, length, get_or}
use Rattle.std.proofs.Common.{refl, sym, subst, ap, ◌∙◌, arith}
use Rattle.std.specs.Str.Parse.{AllDigits, digits_value, digits_value_after}
use Rattle.std.specs.Char.{digit_value}
use Rattle.std.specs.Fmt.{decimal}
use Rattle.std.proofs.lemmas.Fmt.{decimal_is_IsNumeral, decimal-digits_value, first_decimal, decimal_digit}
use Rattle.std.proofs.lemmas.Str.{digit_value_digit}
use Rattle.std.proofs.lemmas.Str.Parse.{numerals_by_value, tells_digits, digit_from_value}
use Rattle.rh_text.specs.Numbers.{IsNumber}

-- a number with digits behind its own is no smaller
value_grows : (n : ℕ) (digits : List ℕ) → n ≤ digits_value_after 10 n digits
value_grows n [] = omega arith
value_grows n (c ∷ digits) = omega (arith, value_grows (n * 10 + digit_value c) digits)

-- digits in front are read as this number, and the rest is left
pub record IsRead (text : List ℕ) (number : ℕ) (rest : List ℕ) : Type 0 where
  pub value : digits_value_after 10 number rest ≡ digits_value 10 text
  pub digits : AllDigits 10 rest → AllDigits 10 text
  pub only : AllDigits 10 text → AllDigits 10 rest

pub read_none : (text : List ℕ) → IsRead text 0 text
read_none text = record { value = refl; digits = λ d. d; only = λ d. d }

-- a digit more
pub read_more : (text : List ℕ) (number digit : ℕ) (rest : List ℕ) → 48 ≤ digit → digit ≤ 57
    → IsRead text number (digit ∷ rest) → IsRead text (number * 10 + (digit - 48)) rest
read_more text number digit rest low high h =
    let is = digit_value_digit digit (low, high) in
    let same : number * 10 + (digit - 48) ≡ number * 10 + digit_value digit = omega (arith, is) in
    record {
      value = ap (λ (n : ℕ). digits_value_after 10 n rest) same ∙ h.value;
      digits = λ d. h.digits (omega (arith, is), d);
      only = λ d. (h.only d).1;
    }

-- what is no digit spells no number, and a number that does not fit grows no smaller
pub read_stop : (text : List ℕ) (number digit : ℕ) (rest : List ℕ)
    → ((48 ≤ digit) → (digit ≤ 57) → 2 ^ 64 ≤ number * 10 + (digit - 48))
    → IsRead text number (digit ∷ rest) → AllDigits 10 text → 2 ^ 64 ≤ digits_value 10 text
read_stop text number digit rest over h d =
    let is = digit_from_value digit (h.only d).0 in
    let next = read_more text number digit rest is.0 is.1 h in
    omega (arith, next.value, value_grows (number * 10 + (digit - 48)) rest, over is.0 is.1)

-- a number's word is digits of its value, with no zero in front
pub record IsSpelled (text : List ℕ) (number : ℕ) : Type 0 where
  pub some : 0 < length text
  pub digits : AllDigits 10 text
  pub value : digits_value 10 text ≡ number
  pub lead : get_or text 0 0 ≡ 48 → length text ≡ 1

decimal_lead : (n : ℕ) → n < 2 ^ 64 → get_or (decimal n) 0 0 ≡ 48 → length (decimal n) ≡ 1
decimal_lead zero small led = ap length (decimal_digit 0 (omega arith))
decimal_lead (suc n) small led =
    absurd (omega (arith, led, first_decimal (suc n) (omega arith) small))

decimal_spelled : (n : ℕ) → n < 2 ^ 64 → IsSpelled (decimal n) n
decimal_spelled n small =
    let is = decimal_is_IsNumeral n small in
    record { some = is.0.0; digits = is.0.1; value = is.1; lead = decimal_lead n small }

pub number_spelled : (lowest greatest : ℕ) (text : List ℕ) (number : ℕ) → greatest < 2 ^ 64
    → IsNumber lowest greatest text number → IsSpelled text number
number_spelled lowest greatest text number within is =
    let small : number < 2 ^ 64 = omega (arith, within, is.most) in
    subst (λ (t : List ℕ). IsSpelled t number) (sym is.digits) (decimal_spelled number small)

-- and such digits are the word of their value
pub spelled_number : (text : List ℕ) (number : ℕ) → number < 2 ^ 64 → IsSpelled text number
    → text ≡ decimal number
spelled_number text number small is =
    let within : digits_value 10 text < 2 ^ 64 = omega (arith, is.value, small) in
    let own = numerals_by_value _ tells_digits in
    sym (decimal-digits_value own text is.digits is.some is.lead within)
    ∙ ap decimal is.value
