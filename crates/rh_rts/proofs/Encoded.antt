-- the commands, and the packet, as they are written
use Rattle.std.proofs.Common.{◌≡◌, ℕ, ◌+◌, ◌≤◌, List, [], ◌∷◌, ◌++◌, length, drop, sym, ap, subst}
use Rattle.std.proofs.Common.{◌∙◌, arith}
use Rattle.std.proofs.lemmas.List.{length-append}
use Rattle.rh_rts.specs.declared.command.Command.{Command}
use Rattle.rh_rts.specs.Commands.{spelling, spellings, AreCommands}
use Rattle.rh_rts.specs.Packets.{Parts, IsPacket, packet_bytes, packet_length, header_bytes}
use Rattle.rh_rts.specs.Writing.{over}
use Rattle.rh_rts.proofs.Overs.{over_over, over_nothing, over_front}
use Rattle.rh_rts.proofs.OneReading.{no_more_than_bytes}

-- with the commands still to come over the room, it is as it is to be
abbrev pub Comes : List ℕ → ℕ → List Command → List ℕ → ℕ → Type 0
Comes room at cs whole end =
    (over room at (spellings cs) ≡ whole) × (at + length (spellings cs) ≡ end) × AreCommands cs

pub comes_on : (room new whole : List ℕ) (at next end : ℕ) (c : Command) (cs rest : List Command)
    → cs ≡ c ∷ rest
    → new ≡ over room at (spelling c) → next ≡ at + length (spelling c) → at ≤ length room
    → Comes room at cs whole end → Comes new next rest whole end
comes_on room new whole at next end c cs rest parts put place fits h = (
  rw put (over_over room at (spelling c) (spellings rest) next place fits)
      ∙ ap (λ (x : List Command). over room at (spellings x)) (sym parts) ∙ h.0,
  omega (
    arith,
    place,
    h.1,
    ap (λ (x : List Command). length (spellings x)) parts,
    length-append
        (spelling c) (spellings rest),
  ),
  (subst AreCommands parts h.2).1,
)

pub all_came : (room whole : List ℕ) (at end : ℕ) (cs : List Command) → cs ≡ []
    → Comes room at cs whole end → room ≡ whole
all_came room whole at end cs none h =
    sym (over_nothing room at) ∙ ap (λ (x : List Command). over room at (spellings x)) (sym none)
    ∙ h.0

-- a packet has so few commands that their number fits
pub count_fits : (p : Parts) → IsPacket p → length p.commands ≤ 65535
count_fits p is = omega (arith, is.length, no_more_than_bytes p.commands)

pub whole_packet : (p : Parts) (room one two : List ℕ) (need at len : ℕ) → need ≡ packet_length p
    → one ≡ over room 0 (header_bytes need p.flags (length p.commands)) → at ≡ 20
    → two ≡ over one at (spellings p.commands) → len ≡ at + length (spellings p.commands)
    → need ≤ length room
    → (len ≡ length (packet_bytes p)) × (len ≤ length room)
    × (two ≡ packet_bytes p ++ drop len room)
unfolding packet_bytes
whole_packet p room one two need at len size head place body end fits =
    let header = header_bytes (packet_length p) p.flags (length p.commands) in
    let bytes : len ≡ length (packet_bytes p) = omega (arith, end, place) in
    let head' : one ≡ over room 0 header =
    head ∙ ap (λ (n : ℕ). over room 0 (header_bytes n p.flags (length p.commands))) size in
    let both : two ≡ over room 0 (packet_bytes p) =
    body ∙ ap (λ (x : List ℕ). over x at (spellings p.commands)) head'
    ∙ over_over room 0 header (spellings p.commands) at (omega (arith, place)) (omega arith) in (
      bytes,
      omega (arith, end, place, size, fits),
      both ∙ over_front room (packet_bytes p)
          ∙ ap (λ (n : ℕ). packet_bytes p ++ drop n room) (sym bytes),
    )
