-- laws of headers
use Rattle.std.proofs.Common.{◌≡◌, ℕ, ◌≤◌, ◌<◌, List, take, get_or, None, arith, sym, ◌∙◌, ap}
use Rattle.std.proofs.lemmas.List.{get_or-take}
use Rattle.std.proofs.lemmas.Bool.Decides.{nat_tests}
use Rattle.rh_pdu.specs.Header.{frag_of, head_fault}

-- a header that breaks no rule tells 16 to 8,192 bytes
pub frag_bounds : (b : List ℕ) → head_fault b ≡ None → (16 ≤ frag_of b) × (frag_of b ≤ 8192)
unfolding head_fault
frag_bounds b h = (grind (arith, nat_tests), grind (arith, nat_tests))

-- one byte of two lists with the same front
byte_same : (xs ys : List ℕ) → take 16 xs ≡ take 16 ys → (i : ℕ) → i < 16
    → get_or xs i 0 ≡ get_or ys i 0
byte_same xs ys same i below =
    sym (get_or-take 16 xs i 0 below) ∙ ap (λ l. get_or l i 0) same ∙ get_or-take 16 ys i 0 below

-- the length depends on the header alone
pub frag_same : (xs ys : List ℕ) → take 16 xs ≡ take 16 ys → frag_of xs ≡ frag_of ys
unfolding frag_of
frag_same xs ys same =
    let byte = byte_same xs ys same in
    rw (byte 4 (omega arith), byte 8 (omega arith), byte 9 (omega arith))

-- and so does the rule that is broken
pub head_same : (xs ys : List ℕ) → take 16 xs ≡ take 16 ys → head_fault xs ≡ head_fault ys
unfolding head_fault
head_same xs ys same =
    let byte = byte_same xs ys same in
    let frag = frag_same xs ys same in
    rw (byte 0 (omega arith), byte 1 (omega arith), byte 4 (omega arith), frag)
