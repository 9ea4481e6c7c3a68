-- hex digits: they are ASCII, those of bytes stand end to end, and what spells bytes
use Rattle.std.proofs.Common.{◌≡◌, ℕ, suc, ◌+◌, ◌<◌, ◌/◌, ◌%◌, Bool, true, nat_lt, List, [], ◌∷◌, ◌++◌}
use Rattle.std.proofs.Common.{slice_index, length, get_or, drop, refl, sym, ap, ◌∙◌, arith}
use Rattle.std.specs.Prelude.{IsAscii, ◌&&◌}
use Rattle.std.specs.List.{list_all}
use Rattle.std.specs.Char.{is_ascii_hexdigit}
use Rattle.std.proofs.Math.Bool.{and_assoc}
use Rattle.std.proofs.Math.Seq.{drop-cons}
use Rattle.std.proofs.lemmas.Bool.{and_parts}
use Rattle.std.proofs.lemmas.Bool.Decides.{nat_tests}
use Rattle.std.proofs.lemmas.List.{nil_from_length}
use Rattle.std.proofs.lemmas.Str.Ascii.{IsAscii-nil, IsAscii-cons}
use Rattle.hex.specs.Hex.{encode_with, encode_lower, lower_digits, is_hex_digit}
use Rattle.hex.proofs.HexLemmas.{IsAscii-encode_with}

-- the test of each, which computes
abbrev all_below : List ℕ → Bool
all_below [] = true
all_below (b ∷ bytes) = nat_lt b 128 && all_below bytes

ascii_from_test : (bytes : List ℕ) → all_below bytes ≡ true → IsAscii bytes
ascii_from_test [] h = IsAscii-nil
ascii_from_test (b ∷ bytes) h =
    let parts = and_parts (nat_lt b 128) (all_below bytes) h in
    IsAscii-cons b bytes (grind (arith, nat_tests, parts.0)) (ascii_from_test bytes parts.1)

-- hex is ASCII
pub hex_ascii : (bytes : List ℕ) → IsAscii (encode_lower bytes)
hex_ascii bytes = IsAscii-encode_with lower_digits bytes (ascii_from_test lower_digits refl)

-- the digits of two pieces
pub hex_append : (front behind : List ℕ)
    → encode_lower (front ++ behind) ≡ encode_lower front ++ encode_lower behind
unfolding encode_with
hex_append [] behind = refl
hex_append (b ∷ front) behind =
    ap (λ (x : List ℕ). slice_index lower_digits (b / 16) ∷ slice_index lower_digits (b % 16) ∷ x)
    (hex_append front behind)

pub hex_nil : encode_lower [] ≡ []
unfolding encode_with
hex_nil = refl

-- the digits of bytes that are cut are cut
pub hex_cut : (bytes front behind : List ℕ) → bytes ≡ front ++ behind
    → encode_lower bytes ≡ encode_lower front ++ encode_lower behind
hex_cut bytes front behind cut = ap encode_lower cut ∙ hex_append front behind

-- nothing has no digits
pub hex_none : (bytes : List ℕ) → length bytes ≡ 0 → encode_lower bytes ≡ []
hex_none bytes none = ap encode_lower (nil_from_length bytes none) ∙ hex_nil

-- a digit by std's test is one by the kit's table of values
digit_same : (c : ℕ) → is_ascii_hexdigit c ≡ is_hex_digit c
digit_same c = grind (arith, nat_tests)

-- the test of a digit more
pub digits_more : (all : Bool) (text : List ℕ) (i : ℕ) → i < length text
    → list_all is_hex_digit text ≡ (all && list_all is_hex_digit (drop i text))
    → list_all is_hex_digit text
    ≡ ((all && is_ascii_hexdigit (get_or text i 0)) && list_all is_hex_digit (drop (i + 1) text))
digits_more all text i within h =
    let d = get_or text i 0 in
    let rest = list_all is_hex_digit (drop (suc i) text) in
    let next : i + 1 ≡ suc i = omega arith in
    rw next (h ∙ ap (λ (l : List ℕ). all && list_all is_hex_digit l) (drop-cons text i 0 within)
    ∙ ap (λ (b : Bool). all && (b && rest)) (sym (digit_same d))
    ∙ sym (and_assoc all (is_ascii_hexdigit d) rest))
