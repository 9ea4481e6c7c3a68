-- what is read with nothing wrong is a packet, and a packet is read with nothing wrong
use Rattle.std.proofs.Common.{◌≡◌, ℕ, ◌+◌, ◌≤◌, List, ◌++◌, length, drop, sym, ap, ◌∙◌, arith, inr}
use Rattle.std.proofs.lemmas.List.{length-drop}
use Rattle.rh_rts.specs.declared.fault.RtsFault.{RtsFault}
use Rattle.rh_rts.specs.Commands.{spellings, IsBytes}
use Rattle.rh_rts.specs.Packets.{Parts, IsPacket, packet_bytes, header_bytes}
use Rattle.rh_rts.specs.Refusals.{FirstFault, BodyFault, IsHead, frag_of, flags_of, count_of}
use Rattle.rh_rts.specs.Listing.{listed, AreAll}
use Rattle.rh_rts.proofs.Heads.{head_bytes}

-- the bytes are of this packet
abbrev pub IsOf : List ℕ → Parts → Type 0
IsOf b p = IsPacket p × (b ≡ packet_bytes p)

frag_below : (b : List ℕ) → IsBytes b → frag_of b ≤ 65535
frag_below b fits = omega (arith, fits 8, fits 9)

pub is_packet : (b : List ℕ) → IsBytes b → IsHead b
    → AreAll (count_of b) (listed (count_of b) (drop 20 b)) (drop 20 b)
    → IsOf b (record { flags = flags_of b; commands = listed (count_of b) (drop 20 b) })
unfolding packet_bytes
is_packet b fits h all =
    let cs = listed (count_of b) (drop 20 b) in
    let size : 20 + length (spellings cs) ≡ length b =
    omega (arith, length-drop 20 b, h.like.long, ap (λ (x : List ℕ). length x) all.bytes) in (
      record {
        flags = h.flags;
        commands = all.commands;
        length = omega (arith, size, h.frag, frag_below b fits);
      },
      head_bytes b fits h
          ∙ ap (λ (n : ℕ). header_bytes n (flags_of b) (count_of b) ++ drop 20 b) (sym size)
          ∙ ap (λ (n : ℕ). header_bytes (20 + length (spellings cs)) (flags_of b) n ++ drop 20 b)
          (sym all.count)
          ∙ ap (λ (x : List ℕ). header_bytes (20 + length (spellings cs)) (flags_of b)
          (length cs) ++ x) all.bytes,
    )

-- the same with the parts as they were read
pub is_packet_of : (b rest : List ℕ) (flags count : ℕ) → IsBytes b → IsHead b → flags ≡ flags_of b
    → count ≡ count_of b → rest ≡ drop 20 b → AreAll count (listed count rest) rest
    → IsOf b (record { flags = flags; commands = listed count rest })
is_packet_of b rest flags count fits e f g h all =
    rw (f, g, h) (is_packet b fits e (rw (sym g, sym h) all))

pub is_first : (b rest : List ℕ) (count : ℕ) (wrong : RtsFault) → IsHead b → count ≡ count_of b
    → rest ≡ drop 20 b → BodyFault (length b) count rest wrong → FirstFault b wrong
is_first b rest count wrong e g h body = inr (e, rw (sym g, sym h) body)
