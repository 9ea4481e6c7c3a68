-- how long named packets are
use Rattle.std.proofs.Common.{◌≡◌, ℕ, List, [], ◌∷◌, length, Bool, true, false, refl}
use Rattle.std.proofs.Common.{arith, length-append}
use Rattle.std.specs.Prelude.{◌≢◌, ◌&&◌, map, sum}
use Rattle.std.proofs.lemmas.Bool.{and_parts}
use Rattle.std.proofs.lemmas.List.Sums.{sum_by-cons}
use Rattle.rh_rts.specs.declared.command.Command.{Command}
use Rattle.rh_rts.specs.declared.command.Command.TheVariants as commands
use Rattle.rh_rts.specs.Commands.{spelling, spellings, HasSize, HaveSizes, kind_of}
use Rattle.rh_rts.specs.Packets.{packet_bytes}
use Rattle.rh_rts.proofs.OneReading.{sized}
use Rattle.rh_sig.specs.declared.name.Name.TheVariants.{ConnB2}
use Rattle.rh_sig.specs.declared.named.Named.{Named}
use Rattle.rh_sig.specs.declared.named.Named.TheVariants as named
use Rattle.rh_sig.specs.Names.{row_of, types_of}
use Rattle.rh_sig.specs.Naming.{named_bytes}
use Rattle.rh_sig.specs.Numerals.{size_of, bytes_of}
use Rattle.rh_sig.specs.Values.{name_of_named, commands_of, parts_of}

-- its type tells its length
abbrev is_fixed : Command → Bool
is_fixed (commands.Padding bytes) = false
is_fixed (commands.ClientAddress address padding) = false
is_fixed _ = true

abbrev are_fixed : List Command → Bool
are_fixed [] = true
are_fixed (c ∷ cs) = is_fixed c && are_fixed cs

exact : (c : Command) → is_fixed c ≡ true → HasSize c
    → length (spelling c) ≡ size_of (kind_of c)
unfolding spelling
exact (commands.FlowControlAck received window cookie) fixed h = omega (arith, h)
exact (commands.Cookie cookie) fixed h = omega (arith, h)
exact (commands.AssociationGroupId cookie) fixed h = omega (arith, h)
exact (commands.Padding bytes) fixed h = absurd cc
exact (commands.ClientAddress address padding) fixed h = absurd cc
exact c fixed h = omega arith

all_exact : (cs : List Command) → are_fixed cs ≡ true → HaveSizes cs
    → length (spellings cs) ≡ sum (map size_of (types_of cs))
all_exact [] fixed h = refl
all_exact (c ∷ cs) fixed h =
    let parts = and_parts (is_fixed c) (are_fixed cs) fixed in
    omega (
      arith,
      exact c parts.0 h.0,
      all_exact cs parts.1 h.1,
      length-append (spelling c) (spellings cs),
      sum_by-cons (λ (n : ℕ). n) (size_of (kind_of c)) (map size_of (types_of cs)),
    )

fixed_but_one : (n : Named) → name_of_named n ≢ ConnB2 → are_fixed (commands_of n) ≡ true
fixed_but_one (named.ConnB2 version connection channel window timeout group address padding) other =
    absurd (other refl)
fixed_but_one n other = refl

of_its_row : (n : Named) → (row_of (name_of_named n)).types ≡ types_of (commands_of n)
of_its_row named.Ping = refl
of_its_row n = refl

pub as_its_row : (n : Named) → name_of_named n ≢ ConnB2 → HaveSizes (commands_of n)
    → length (named_bytes n) ≡ bytes_of (name_of_named n)
unfolding named_bytes
as_its_row n other sizes =
    rw (of_its_row n) (omega (
      arith,
      sized (packet_bytes (parts_of n)) (parts_of n) refl,
      all_exact (commands_of n) (fixed_but_one n other) sizes,
    ))
