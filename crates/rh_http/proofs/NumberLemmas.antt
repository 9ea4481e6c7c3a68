-- digits, and the numbers that they spell
use Rattle.std.proofs.Common.{◌≡◌, ℕ, ◌+◌, ◌-◌, ◌*◌, ◌<◌, ◌≤◌, true, List, length, take, get_or, sym, ◌∙◌, ap, subst, arith}
use Rattle.std.specs.Int.{IsInRange}
use Rattle.std.specs.Char.{digit_value}
use Rattle.std.specs.Str.{all_ascii_digits}
use Rattle.std.specs.Str.Parse.{digits_value, AllDigits}
use Rattle.std.proofs.lemmas.Bool.Decides.{nat_tests}
use Rattle.std.proofs.lemmas.Fmt.{decimal_injective}
use Rattle.std.proofs.lemmas.Int.Digits.{digits_value_more, digits_more}
use Rattle.std.proofs.lemmas.List.{length-take-le, take_all}
use Rattle.std.proofs.lemmas.Str.Parse.{IsNumeralModel, numerals_by_value, tells_all_ascii_digits, digits_value_short, digit_at}
use Rattle.rh_http.specs.Numbers.{IsLengthText, IsPortText}

-- each byte is a digit
abbrev pub AreDigits : List ℕ → Type 0
AreDigits ds = all_ascii_digits ds ≡ true

-- the number of such bytes is the one that std reads
pub own : IsNumeralModel AreDigits (digits_value 10)
own = numerals_by_value AreDigits tells_all_ascii_digits

-- the digits before a place, and the number that they spell
pub record Read (text : List ℕ) (i n : ℕ) : Type 0 where
  pub digits : AllDigits 10 (take i text)
  pub value : n ≡ digits_value 10 (take i text)

-- at most nine digits come before another
pub read_below : (text : List ℕ) (i n : ℕ) → i < length text → length text ≤ 10 → Read text i n
    → n < 1000000000
read_below text i n below few h =
    let short : length (take i text) ≤ 9 = omega (arith, length-take-le i text) in
    let bound = digits_value_short own (take i text) 9 (own.from (take i text) h.digits) short in
    omega (arith, bound, h.value)

-- what one digit is worth
value_of_digit : (c : ℕ) → IsInRange 48 57 c → digit_value c ≡ c - 48
value_of_digit c (low, high) = grind (arith, nat_tests)

-- past one more digit
pub read_more : (text : List ℕ) (i n next : ℕ) → i < length text → Read text i n
    → IsInRange 48 57 (get_or text i 0) → next ≡ n * 10 + (get_or text i 0 - 48)
    → Read text (i + 1) next
read_more text i n next below h range is =
    let value = value_of_digit (get_or text i 0) range in
    record {
      digits = digits_more 10 text i below h.digits (omega (arith, value, range.1));
      value = omega (arith, digits_value_more 10 text i below, value, h.value, is);
    }

-- past the last digit
pub read_whole : (text : List ℕ) (i n : ℕ) → 0 < length text → length text ≤ 10 → length text ≤ i
    → Read text i n
    → IsLengthText text n
read_whole text i n some most end h =
    let all : take i text ≡ text = take_all i text end in
    let P : List ℕ → Type 0 = λ ds. AllDigits 10 ds in
    record {
      some = some;
      most = most;
      digits = own.from text (subst P all h.digits);
      value = h.value ∙ ap (digits_value 10) all;
    }

-- each byte of a number's text is a digit
pub each_digit : (text : List ℕ) (n i : ℕ) → IsLengthText text n → i < length text
    → IsInRange 48 57 (get_or text i 0)
each_digit text n i h below = digit_at text i (own.to text h.digits) below

-- a text spells one number
pub one_length : (text : List ℕ) (m n : ℕ) → IsLengthText text m → IsLengthText text n → m ≡ n
one_length text m n h k = h.value ∙ sym k.value

-- the text of a port spells one number
pub one_port : (text : List ℕ) (m n : ℕ) → IsPortText text m → IsPortText text n → m ≡ n
one_port text m n h k =
    decimal_injective m n (omega (arith, h.most)) (omega (arith, k.most)) (sym h.digits ∙ k.digits)
