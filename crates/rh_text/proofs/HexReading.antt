-- what a text of hex digits spells
use Rattle.std.proofs.Common.{◌≡◌, ℕ, ◌≤◌, ◌<◌, ◌*◌, ◌/◌, ◌%◌, List, length, Ok, Err, MatchResult}
use Rattle.std.proofs.Common.{refl, sym, ◌∙◌, arith}
use Rattle.std.specs.declared.result.Result.{Result}
use Rattle.std.specs.List.{AllPass}
use Rattle.hex.specs.declared.error.FromHexError.{FromHexError}
use Rattle.hex.specs.Hex.{decode_of, decode_sized, is_hex_digit}
use Rattle.hex.proofs.HexLemmas.{decode_of-ok, decode_of-digits, decode_sized-ok, decode_sized-twice}
use Rattle.rh_text.specs.Digits.{IsHex}

-- hex is two digits for each byte
pub hex_size : (most : ℕ) (text bytes : List ℕ) → IsHex most text bytes
    → (length text ≡ 2 * length bytes) × (1 ≤ length bytes) × (length bytes ≤ most)
    × AllPass is_hex_digit text
hex_size most text bytes h =
    let read = decode_of-ok text bytes h.digits in (read.2, h.some, h.most, read.1)

-- digits of the right number are hex
pub hex_of_digits : (most : ℕ) (text : List ℕ) → 0 < length text → length text % 2 ≡ 0
    → length text / 2 ≤ most
    → AllPass is_hex_digit text → (bytes : List ℕ) × IsHex most text bytes
hex_of_digits most text some even few digits =
    let read = decode_of-digits text even digits in
    let size = (decode_of-ok text read.0 read.1).2 in (
      read.0,
      record {
        digits = read.1;
        some = omega (arith, size, some, even);
        most = omega (arith, size, few, even);
      },
    )

-- what a decoding into the right room gave is what the text spells
pub hex_decoded : (most n : ℕ) (text out : List ℕ) (result : Result (Unit {0}) FromHexError)
    → MatchResult (decode_sized text n) (λ bytes. (result ≡ Ok tt) × (out ≡ bytes))
    (λ e. result ≡ Err e)
    → result ≡ Ok tt → 1 ≤ n → n ≤ most → IsHex most text out
hex_decoded most n text out result h ok some few =
    elim (decode_sized text n) as (λ d. decode_sized text n ≡ d
    → MatchResult d (λ bytes. (result ≡ Ok tt) × (out ≡ bytes)) (λ e. result ≡ Err e)
    → IsHex most text out) [
      | Ok bytes ↦ λ e m.
          let twice = decode_sized-ok text n bytes e in
          let read : decode_of text ≡ Ok bytes = sym (decode_sized-twice text n twice) ∙ e in
          let size = (decode_of-ok text bytes read).2 in
          rw m.1 (record {
            digits = read;
            some = omega (arith, size, twice, some);
            most = omega (arith, size, twice, few);
          })
      | Err fault ↦ λ e m. absurd (let both : Ok tt ≡ Err fault = sym ok ∙ m in cc)
    ] refl h

-- where it failed, the text spells no bytes
pub hex_failed : (most n : ℕ) (text out : List ℕ) (result : Result (Unit {0}) FromHexError)
    (fault : FromHexError)
    → MatchResult (decode_sized text n) (λ bytes. (result ≡ Ok tt) × (out ≡ bytes))
    (λ e. result ≡ Err e)
    → result ≡ Err fault → n ≡ length text / 2 → (bytes : List ℕ) → IsHex most text bytes → ⊥
hex_failed most n text out result fault h failed half bytes is =
    elim (decode_sized text n) as (λ d. decode_sized text n ≡ d
    → MatchResult d (λ bytes. (result ≡ Ok tt) × (out ≡ bytes)) (λ e. result ≡ Err e) → ⊥) [
      | Ok found ↦ λ e m. let both : Ok tt ≡ Err fault = sym m.0 ∙ failed in cc
      | Err other ↦ λ e m.
          let size = (hex_size most text bytes is).0 in
          let twice : length text ≡ 2 * n = omega (arith, size, half) in
          let both : Err other ≡ Ok bytes = sym e ∙ decode_sized-twice text n twice
          ∙ is.digits in cc
    ] refl h
