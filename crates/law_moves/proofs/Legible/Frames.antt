-- the bytes of a packet are a frame of the type of RTS PDUs
use Rattle.law_order.proofs.Vocabulary.{◌≡◌, ℕ, ◌<◌, ◌≤◌, List, ◌++◌, length, arith, refl, sym, ◌∙◌, slice_index, None, le-ltb}
use Rattle.law_moves.proofs.Vocabulary.{frag_of, head_fault, IsFrame, sized, spellings, Parts, header_bytes, packet_bytes, packet_length}

-- two bytes, the least first, are the number
frag_is : (n flags count : ℕ) (rest : List ℕ) → n < 65536
    → frag_of (header_bytes n flags count ++ rest) ≡ n
unfolding frag_of
frag_is n flags count rest small = omega (arith, small)

head_is : (n flags count : ℕ) (rest : List ℕ) → 16 ≤ n → n ≤ 8192
    → head_fault (header_bytes n flags count ++ rest) ≡ None
unfolding head_fault
head_is n flags count rest least greatest =
    rw (frag_is n flags count rest (omega (arith, greatest)), le-ltb _ _ least, le-ltb _ _ greatest)
    refl

framed : (p : Parts) → length (packet_bytes p) ≡ packet_length p
    → length (packet_bytes p) ≤ 8192 → IsFrame (packet_bytes p)
unfolding packet_bytes
framed p long short = record {
  long = omega (arith, long);
  head = head_is (packet_length p) p.flags (length p.commands) (spellings p.commands)
      (omega arith) (omega (arith, long, short));
  whole = long ∙ sym (frag_is (packet_length p) p.flags (length p.commands)
      (spellings p.commands) (omega (arith, long, short)));
}

pub packet_frame : (p : Parts) → length (packet_bytes p) ≤ 8192 → IsFrame (packet_bytes p)
packet_frame p short = framed p (sized (packet_bytes p) p refl) short

pub packet_type : (p : Parts) → slice_index (packet_bytes p) 2 ≡ 20
unfolding packet_bytes
packet_type p = refl
