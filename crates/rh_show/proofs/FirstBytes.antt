-- a header is read from the first 16 bytes alone
use Rattle.std.proofs.Common.{◌≡◌, ℕ, List, take, get_or, nat_lt, true, arith}
use Rattle.std.proofs.lemmas.Bool.Decides.{nat_tests}
use Rattle.std.proofs.lemmas.List.{get_or-take, take-take}
use Rattle.rh_pdu.specs.Header.{header_length, frag_of, head_fault, header_of}
use Rattle.rh_pdu.proofs.Headers.{head_same}

-- a byte of them, where the test that it is one computes
byte_same : (bytes : List ℕ) (i : ℕ) → nat_lt i 16 ≡ true
    → get_or (take 16 bytes) i 0 ≡ get_or bytes i 0
byte_same bytes i within = get_or-take 16 bytes i 0 (grind (arith, nat_tests))

pub front_header : (bytes : List ℕ) → header_of (take header_length bytes) ≡ header_of bytes
unfolding frag_of
front_header bytes = simp byte_same

pub front_fault : (bytes : List ℕ) → head_fault (take header_length bytes) ≡ head_fault bytes
front_fault bytes = head_same (take 16 bytes) bytes (take-take 16 16 bytes (omega arith))
