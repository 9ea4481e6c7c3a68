-- a list at its first byte of one value
use Rattle.std.proofs.Common.{◌≡◌, ◌≢◌, ℕ, ◌+◌, ◌<◌, List, ◌∷◌, ◌++◌, length, take, drop, get_or, refl, sym, ap, ◌∙◌, arith}
use Rattle.std.specs.Prelude.{◌==◌}
use Rattle.std.specs.List.{before_first, position_or_len}
use Rattle.std.proofs.lemmas.Bool.{false_from_ne_true}
use Rattle.std.proofs.lemmas.Bool.Decides.{nat_tests}
use Rattle.std.proofs.lemmas.List.{take-append-drop, drop_more, take_all, take_at, get_or_append_left, get_or_at, length-append}
use Rattle.std.proofs.lemmas.List.Sums.{position_or_len_is}
use Rattle.memchr.specs.Find.{Passes, Nowhere, NoneBefore, is_byte}

-- where the byte is nowhere, all of the list stands before it
pub before_none : (byte : ℕ) (text : List ℕ) → Nowhere (Passes (is_byte byte) text) 0 (length text)
    → before_first (λ c. c == byte) text ≡ text
before_none byte text none =
    let at : position_or_len (λ c. c == byte) text ≡ length text =
    position_or_len_is (λ c. c == byte) text (length text) 0 (omega arith)
    (λ k below. false_from_ne_true (get_or text k 0 == byte) (none k (omega arith) below))
    (λ below. absurd (omega (arith, below))) in
    ap (λ (n : ℕ). take n text) at ∙ take_all (length text) text (omega arith)

-- where its first place is known, it divides the list
pub before_place : (byte : ℕ) (text : List ℕ) (k : ℕ)
    → NoneBefore (Passes (is_byte byte) text) 0 (length text) k
    → Passes (is_byte byte) text k → before_first (λ c. c == byte) text ≡ take k text
before_place byte text k none here =
    let at : position_or_len (λ c. c == byte) text ≡ k =
    position_or_len_is (λ c. c == byte) text k 0 (omega (arith, none.high))
    (λ i below. false_from_ne_true (get_or text i 0 == byte) (none.before i (omega arith) below))
    (λ _. here) in
    ap (λ (n : ℕ). take n text) at

-- the two parts and the byte between them are the list
pub divided : (byte : ℕ) (text front rest behind : List ℕ) (k : ℕ) → k < length text
    → Passes (is_byte byte) text k
    → front ≡ take k text → rest ≡ drop k text → behind ≡ drop 1 rest → text
    ≡ front ++ byte ∷ behind
divided byte text front rest behind k below here before after last =
    let is : get_or text k 0 ≡ byte = grind (arith, nat_tests, here) in
    let more : drop k text ≡ get_or text k 0 ∷ drop (k + 1) text = drop_more text k 0 below in
    let tail : behind ≡ drop (k + 1) text = last ∙ ap (drop 1) (after ∙ more) in
    sym (take-append-drop k text) ∙ ap (λ (x : List ℕ). take k text ++ x) more
    ∙ ap (λ (x : List ℕ). x ++ get_or text k 0 ∷ drop (k + 1) text) (sym before)
    ∙ ap (λ (c : ℕ). front ++ c ∷ drop (k + 1) text) is
    ∙ ap (λ (x : List ℕ). front ++ byte ∷ x) (sym tail)

-- a front without the byte stands before it
pub before_front : (byte : ℕ) (front behind : List ℕ)
    → ((k : ℕ) → k < length front → get_or front k 0 ≢ byte)
    → before_first (λ c. c == byte) (front ++ byte ∷ behind) ≡ front
before_front byte front behind none =
    let text = front ++ byte ∷ behind in
    let at : position_or_len (λ c. c == byte) text ≡ length front =
    position_or_len_is (λ c. c == byte) text (length front) 0
    (omega (arith, length-append front (byte ∷ behind)))
    (λ k below.
    let read : get_or text k 0 ≡ get_or front k 0 =
    get_or_append_left front (byte ∷ behind) 0 k below in
    grind (arith, nat_tests, read, none k below))
    (λ _.
    let read : get_or text (length front) 0
    ≡ byte = get_or_at front byte behind 0 (length front) refl in
    grind (arith, nat_tests, read)) in
    ap (λ (n : ℕ). take n text) at ∙ take_at front (byte ∷ behind) (length front) refl
