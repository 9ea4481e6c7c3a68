-- the packets of a few commands that named packets have
use Rattle.std.proofs.Common.{◌≡◌, ℕ, ◌+◌, ◌*◌, ◌≤◌, List, [], ◌∷◌, length, Bool, true, false, refl}
use Rattle.std.proofs.Common.{subst, arith, length-append}
use Rattle.std.specs.Prelude.{◌&&◌, nat_le, Some, None, IfSome}
use Rattle.std.specs.declared.option.Option.{Option}
use Rattle.std.proofs.lemmas.Bool.{le-ltb, leb-true, and_parts}
use Rattle.rh_rts.specs.declared.command.Address4or16.{Address4or16}
use Rattle.rh_rts.specs.declared.command.Address4or16.TheVariants.{V4, V6}
use Rattle.rh_rts.specs.declared.command.Command.{Command}
use Rattle.rh_rts.specs.declared.command.Command.TheVariants as commands
use Rattle.rh_rts.specs.declared.command.TheConstants.{GREATEST_DESTINATION}
use Rattle.rh_rts.specs.declared.packet.TheConstants.{ALL_FLAGS, GREATEST_PACKET_LENGTH}
use Rattle.rh_rts.specs.Commands.{spelling, spellings, IsAddress, address_bytes, HasSize, HaveSizes}
use Rattle.rh_rts.specs.Commands.{IsCommand, AreCommands}
use Rattle.rh_rts.specs.Packets.{parts, packet_length, packet_bytes, IsPacket, bad_destination}
use Rattle.rh_rts.proofs.Making.{is_sound}
use Rattle.rh_rts.proofs.OneReading.{sized}
use Rattle.rh_sig.specs.declared.named.Named.{Named}
use Rattle.rh_sig.specs.declared.named.Named.TheVariants as named
use Rattle.rh_sig.specs.Values.{IsPlain, ArePlain, MayBeWritten, commands_of, parts_of}
use Rattle.rh_sig.specs.Values.{destination_of}
use Rattle.rh_sig.specs.Naming.{named_bytes}

address_short : (address : Address4or16) → IsAddress address → length (address_bytes address) ≤ 20
address_short (V4 bytes) is = omega (arith, is)
address_short (V6 bytes) is = omega (arith, is)

-- the most bytes of a command
abbrev most : Command → ℕ
most (commands.FlowControlAck received window cookie) = 28
most (commands.Cookie cookie) = 20
most (commands.AssociationGroupId cookie) = 20
most (commands.Padding bytes) = 8 + length bytes
most (commands.ClientAddress address padding) = 36
most _ = 8

abbrev mosts : List Command → ℕ
mosts [] = 0
mosts (c ∷ cs) = most c + mosts cs

short : (c : Command) → HasSize c → length (spelling c) ≤ most c
unfolding spelling
short (commands.FlowControlAck received window cookie) h = omega (arith, h)
short (commands.Cookie cookie) h = omega (arith, h)
short (commands.AssociationGroupId cookie) h = omega (arith, h)
short (commands.Padding bytes) h = omega arith
short (commands.ClientAddress address padding) h =
    omega (arith, h.1, address_short address h.0, length-append (address_bytes address) padding)
short c h = omega arith

all_short : (cs : List Command) → HaveSizes cs → length (spellings cs) ≤ mosts cs
all_short [] h = omega arith
all_short (c ∷ cs) h =
    omega (arith, short c h.0, all_short cs h.1, length-append (spelling c) (spellings cs))

-- none that named packets have is longer than a client's address of 16 bytes
plain_most : (c : Command) → IsPlain c → most c ≤ 36
plain_most (commands.Padding bytes) plain = absurd plain
plain_most c plain = omega arith

plain_mosts : (cs : List Command) → ArePlain cs → mosts cs ≤ 36 * length cs
plain_mosts [] plain = omega arith
plain_mosts (c ∷ cs) plain = omega (arith, plain_most c plain.0, plain_mosts cs plain.1)

-- each destination is one
no_bad : (cs : List Command) → ArePlain cs → bad_destination cs ≡ None
no_bad [] plain = refl
no_bad (commands.Destination n ∷ cs) plain = rw (le-ltb 3 n plain.0) (no_bad cs plain.1)
no_bad (c ∷ cs) plain = no_bad cs plain.1

small_packet : (flags : ℕ) (cs : List Command) → flags ≤ ALL_FLAGS → length cs ≤ 7 → ArePlain cs
    → HaveSizes cs → IsPacket (parts flags cs)
small_packet flags cs known few plain sizes =
    let fits : packet_length (parts flags cs) ≤ GREATEST_PACKET_LENGTH =
    omega (arith, all_short cs sizes, plain_mosts cs plain, few) in
    is_sound (parts flags cs) sizes (rw (le-ltb _ _ known, no_bad cs plain, le-ltb _ _ fits) refl)

-- ---- named packets

-- each fact computed once a packet, the last clause being that of all other packets

flags_known : (n : Named) → nat_le (parts_of n).flags ALL_FLAGS ≡ true
flags_known named.Ping = refl
flags_known n = refl

at_most_seven : (n : Named) → nat_le (length (commands_of n)) 7 ≡ true
at_most_seven named.Ping = refl
at_most_seven n = refl

-- the destination of a first command, and the commands behind it
abbrev first_told : List Command → Option ℕ
first_told (commands.Destination n ∷ cs) = Some n
first_told _ = None

abbrev behind_told : List Command → List Command
behind_told (commands.Destination n ∷ cs) = cs
behind_told cs = cs

-- no padding, and no destination
abbrev is_simple : Command → Bool
is_simple (commands.Padding bytes) = false
is_simple (commands.Destination n) = false
is_simple _ = true

abbrev are_simple : List Command → Bool
are_simple [] = true
are_simple (c ∷ cs) = is_simple c && are_simple cs

simple_plain : (c : Command) → is_simple c ≡ true → IsPlain c
simple_plain (commands.Padding bytes) simple = absurd cc
simple_plain (commands.Destination n) simple = absurd cc
simple_plain c simple = tt

all_simple : (cs : List Command) → are_simple cs ≡ true → ArePlain cs
all_simple [] simple = tt
all_simple (c ∷ cs) simple =
    let h = and_parts (is_simple c) (are_simple cs) simple in
    (simple_plain c h.0, all_simple cs h.1)

plain_by : (cs : List Command) → are_simple (behind_told cs) ≡ true
    → IfSome (first_told cs) (λ destination. destination ≤ GREATEST_DESTINATION) → ArePlain cs
plain_by [] simple may = tt
plain_by (commands.Destination n ∷ cs) simple may = (may, all_simple cs simple)
plain_by (c ∷ cs) simple may = all_simple (c ∷ cs) simple

simple_behind : (n : Named) → are_simple (behind_told (commands_of n)) ≡ true
simple_behind named.Ping = refl
simple_behind n = refl

told_first : (n : Named) → destination_of n ≡ first_told (commands_of n)
told_first named.Ping = refl
told_first n = refl

all_plain : (n : Named) → MayBeWritten n → ArePlain (commands_of n)
all_plain n may =
    plain_by (commands_of n) (simple_behind n)
    (subst (λ (told : Option ℕ). IfSome told (λ destination. destination ≤ GREATEST_DESTINATION))
    (told_first n) may)

-- with fields of their size and a destination that is one, they can be sent
pub sound : (n : Named) → MayBeWritten n → HaveSizes (commands_of n) → IsPacket (parts_of n)
sound n may sizes =
    small_packet (parts_of n).flags (commands_of n) (leb-true _ _ (flags_known n))
    (leb-true _ _ (at_most_seven n)) (all_plain n may) sizes

-- the longest is CONN/B2 with an address of 16 bytes
longest : (n : Named) → nat_le (mosts (commands_of n)) 120 ≡ true
longest named.Ping = refl
longest n = refl

size_of : (c : Command) → IsCommand c → HasSize c
size_of commands.Empty h = h.0
size_of c h = h.0

sizes_of : (cs : List Command) → AreCommands cs → HaveSizes cs
sizes_of [] h = tt
sizes_of (c ∷ cs) h = (size_of c h.0, sizes_of cs h.1)

pub at_most_140 : (n : Named) → IsPacket (parts_of n) → length (named_bytes n) ≤ 140
unfolding named_bytes
at_most_140 n is =
    omega (
      arith,
      sized (packet_bytes (parts_of n)) (parts_of n) refl,
      all_short (commands_of n) (sizes_of (commands_of n) is.commands),
      leb-true _ _ (longest n),
    )
