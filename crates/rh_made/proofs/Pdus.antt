-- what is given is a PDU
use Rattle.std.proofs.Common.{◌≡◌, ℕ, ◌+◌, ◌-◌, ◌*◌, ◌%◌, ◌≤◌, ◌<◌, ◌^◌, List, ◌++◌, length, take}
use Rattle.std.proofs.Common.{replicate, None, arith, sym, ◌∙◌, ap}
use Rattle.std.proofs.lemmas.List.{length-append, length-replicate, take_all}
use Rattle.std.proofs.lemmas.Nat.{mod_below}
use Rattle.std.proofs.lemmas.Bool.Decides.{nat_tests}
use Rattle.rh_pdu.specs.Checking.{pdu_fault}
use Rattle.rh_pdu.specs.Frames.{IsPdu}
use Rattle.rh_pdu.specs.Header.{frag_of, head_fault}
use Rattle.rh_pdu.proofs.Pdus.{none_from_pdu}
use Rattle.rh_made.specs.Requests.{header, pdu, size}

size_bounds : (i : ℕ) → (24 ≤ size i) × (size i < 5024)
size_bounds i =
    let below = mod_below (i * 613) 5000 (omega arith) in
    (omega arith, omega arith)

pub pdu_long : (i : ℕ) → length (pdu i) ≡ size i
unfolding pdu
pdu_long i =
    let bounds = size_bounds i in
    length-append (header i) (replicate (size i - 16) (i % 256))
    ∙ ap (λ (n : ℕ). 16 + n) (length-replicate (size i - 16) (i % 256))
    ∙ omega (arith, bounds.0)

-- a header is filled up with bytes to the size of its PDU
pub filled : (i : ℕ)
    → take (size i) (header i) ++ replicate (size i - length (header i)) (i % 256) ≡ pdu i
unfolding pdu
filled i =
    let bounds = size_bounds i in
    let few : length (header i) ≤ size i = omega (arith, bounds.0) in
    ap (λ (l : List ℕ). l ++ replicate (size i - 16) (i % 256)) (take_all (size i) (header i) few)

frag_is : (i : ℕ) → frag_of (pdu i) ≡ size i
unfolding pdu frag_of
frag_is i =
    let bounds = size_bounds i in
    let fits : size i < 2 ^ 16 = omega (arith, bounds.1) in
    omega (arith, fits)

faultless_head : (i : ℕ) → head_fault (pdu i) ≡ None
unfolding pdu head_fault
faultless_head i =
    let bounds = size_bounds i in
    let frag = frag_is i in
    rw frag (grind (arith, nat_tests, bounds.0, bounds.1))

pub pdu_is : (i : ℕ) → IsPdu (pdu i)
unfolding pdu
pdu_is i =
    let bounds = size_bounds i in
    let long = pdu_long i in
    record {
      frame = record {
        long = omega (arith, bounds.0, long);
        head = faultless_head i;
        whole = long ∙ sym (frag_is i);
      };
      not_rts = omega arith;
    }

pub pdu_faultless : (i : ℕ) → pdu_fault (pdu i) ≡ None
pdu_faultless i = none_from_pdu (pdu i) (pdu_is i)
