-- a line spells one packet at most, and no packet is spelled by nothing
use Rattle.std.proofs.Common.{◌≡◌, ℕ, List, [], arith}
use Rattle.hex.proofs.HexLemmas.{decode_of-same}
use Rattle.rh_text.proofs.HexReading.{hex_size}
use Rattle.rh_show.specs.declared.reader.TheConstants.{MOST_BYTES}
use Rattle.rh_show.specs.Lines.{IsPacketHex}

pub one_packet_at : (place : Unit {0}) (text a b : List ℕ)
    → IsPacketHex text a → IsPacketHex text b → a ≡ b
one_packet_at place text a b h k = decode_of-same text a b h.digits k.digits

pub no_empty : (place : Unit {0}) (bytes : List ℕ) → IsPacketHex [] bytes → ⊥
no_empty place bytes h =
    let size = hex_size MOST_BYTES [] bytes h in absurd (omega (arith, size.0, size.1))
