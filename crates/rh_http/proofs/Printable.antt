-- texts of printable bytes, and what lines, targets and fields of these are
use Rattle.std.proofs.Common.{◌≡◌, ◌≢◌, ℕ, ◌<◌, Bool, true, false, nat_lt, List, [], ◌∷◌, ◌++◌, length, get_or, refl, ap, ◌∙◌, arith}
use Rattle.std.specs.Prelude.{◌&&◌, IsAscii, All, nat_le}
use Rattle.std.specs.List.{list_all}
use Rattle.std.specs.Char.{is_ascii_digit}
use Rattle.std.specs.Str.{all_ascii_digits}
use Rattle.std.proofs.lemmas.Bool.{and_parts}
use Rattle.std.proofs.lemmas.Bool.Decides.{nat_tests}
use Rattle.std.proofs.lemmas.List.Elements.{All-nil, All-cons}
use Rattle.std.proofs.lemmas.List.Folds.{list_all-append, list_all_at}
use Rattle.std.proofs.lemmas.List.Sums.{AllPass-from_list_all}
use Rattle.std.proofs.lemmas.Str.Ascii.{IsAscii-from_all}
use Rattle.httparse.specs.Grammar.{is_uri_byte, is_value_byte, AllPass}
use Rattle.rh_http.specs.Hosts.{IsHost, is_host_byte}

-- a byte of ASCII that is no control byte; the same without the space
abbrev pub is_printable : ℕ → Bool
is_printable b = nat_le 32 b && nat_lt b 127

abbrev pub is_visible : ℕ → Bool
is_visible b = nat_lt 32 b && nat_lt b 127

-- what passes one test passes a weaker one
pub all_weaker : (p q : ℕ → Bool) → ((b : ℕ) → p b ≡ true → q b ≡ true) → (xs : List ℕ)
    → list_all p xs ≡ true → list_all q xs ≡ true
all_weaker p q weaker [] h = refl
all_weaker p q weaker (x ∷ xs) h =
    let parts = and_parts (p x) (list_all p xs) h in
    ap (λ (b : Bool). b && list_all q xs) (weaker x parts.0) ∙ all_weaker p q weaker xs parts.1

-- two texts that pass do so together
pub both_pass : (p : ℕ → Bool) (a b : List ℕ) → list_all p a ≡ true → list_all p b ≡ true
    → list_all p (a ++ b) ≡ true
both_pass p a b h k =
    list_all-append p a b ∙ ap (λ (t : Bool). t && list_all p b) h ∙ k

visible_host : (b : ℕ) → is_host_byte b ≡ true → is_visible b ≡ true
visible_host b h = grind (arith, nat_tests)

-- a host is visible
pub host_visible : (host : List ℕ) → IsHost host → list_all is_visible host ≡ true
host_visible host h = all_weaker is_host_byte is_visible visible_host host h.characters

visible_digit : (b : ℕ) → is_ascii_digit b ≡ true → is_visible b ≡ true
visible_digit b h = grind (arith, nat_tests)

-- digits are visible
pub digits_visible : (ds : List ℕ) → all_ascii_digits ds ≡ true → list_all is_visible ds ≡ true
digits_visible [] h = refl
digits_visible (c ∷ cs) h =
    let parts = and_parts (is_ascii_digit c) (all_ascii_digits cs) h in
    ap (λ (b : Bool). b && list_all is_visible cs) (visible_digit c parts.0)
    ∙ digits_visible cs parts.1

visible_printable : (b : ℕ) → is_visible b ≡ true → is_printable b ≡ true
visible_printable b h = grind (arith, nat_tests)

-- what is visible is printable
pub printable : (xs : List ℕ) → list_all is_visible xs ≡ true → list_all is_printable xs ≡ true
printable xs h = all_weaker is_visible is_printable visible_printable xs h

-- a printable text has no CR
pub no_cr : (xs : List ℕ) → list_all is_printable xs ≡ true → (k : ℕ) → k < length xs
    → get_or xs k 0 ≢ 13
no_cr xs h k below e =
    let cr : is_printable (get_or xs k 0) ≡ false = ap is_printable e in
    let wrong : list_all is_printable xs ≡ false = list_all_at is_printable xs k 0 below cr in
    absurd (cc)

uri_visible : (b : ℕ) → is_visible b ≡ true → is_uri_byte b ≡ true
uri_visible b h = grind (arith, nat_tests)

-- a visible text may be a target
pub target_bytes : (xs : List ℕ) → list_all is_visible xs ≡ true → AllPass is_uri_byte xs
target_bytes xs h =
    AllPass-from_list_all is_uri_byte xs (all_weaker is_visible is_uri_byte uri_visible xs h)

value_printable : (b : ℕ) → is_printable b ≡ true → is_value_byte b ≡ true
value_printable b h = grind (arith, nat_tests)

-- a printable text may be a value
pub value_bytes : (xs : List ℕ) → list_all is_printable xs ≡ true → AllPass is_value_byte xs
value_bytes xs h =
    AllPass-from_list_all is_value_byte xs
    (all_weaker is_printable is_value_byte value_printable xs h)

-- a visible text is ASCII
pub visible_ascii : (xs : List ℕ) → list_all is_visible xs ≡ true → IsAscii xs
visible_ascii xs h = IsAscii-from_all xs (all_small xs h)
  where
    small : (b : ℕ) → is_visible b ≡ true → b < 128
    small b h = grind (arith, nat_tests)

    all_small : (xs : List ℕ) → list_all is_visible xs ≡ true → All (λ b. b < 128) xs
    all_small [] h = All-nil (λ b. b < 128)
    all_small (x ∷ xs) h =
        let parts = and_parts (is_visible x) (list_all is_visible xs) h in
        All-cons (λ b. b < 128) x xs (small x parts.0) (all_small xs parts.1)
