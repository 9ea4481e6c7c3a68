-- the bytes of messages, as their commands tell them (MS-RPCH 2.2.3.5)
use Rattle.std.proofs.Common.{length-append}
use Rattle.law_order.proofs.Vocabulary.{◌≡◌, ℕ, ◌+◌, List, [], ◌∷◌, ◌++◌, length, arith, refl, Some, None, AllByRecursion, Option}
use Rattle.rh_rts.specs.declared.command.Command.TheVariants as commands
use Rattle.law_moves.proofs.Vocabulary.{sized, Command, spelling, spellings, address_bytes, HasSize, HaveSizes, packet_bytes, Pipe, Named, named_bytes, commands_of, parts_of, Message, Text, Pdu, Packet, spell, spelled, MayGo, MayGoOn}

-- ---- of commands

abbrev command_size : Command → ℕ
command_size (commands.FlowControlAck received window cookie) = 28
command_size (commands.Cookie cookie) = 20
command_size (commands.AssociationGroupId cookie) = 20
command_size (commands.Padding bytes) = 8 + length bytes
command_size (commands.ClientAddress address padding) =
    4 + length (address_bytes address) + length padding
command_size commands.Empty = 4
command_size commands.NegativeAnce = 4
command_size commands.Ance = 4
command_size c = 8

abbrev sizes : List Command → ℕ
sizes [] = 0
sizes (c ∷ cs) = command_size c + sizes cs

spelling_size : (c : Command) → HasSize c → length (spelling c) ≡ command_size c
unfolding spelling
spelling_size (commands.FlowControlAck received window cookie) h = omega (arith, h.2)
spelling_size (commands.Cookie cookie) h = omega (arith, h)
spelling_size (commands.AssociationGroupId cookie) h = omega (arith, h)
spelling_size (commands.ClientAddress address padding) h =
    omega (arith, length-append (address_bytes address) padding)
spelling_size (commands.Padding bytes) h = omega arith
spelling_size c h = omega arith

spellings_size : (cs : List Command) → HaveSizes cs → length (spellings cs) ≡ sizes cs
spellings_size [] h = refl
spellings_size (c ∷ cs) h =
    let first = spelling_size c h.0 in
    let rest = spellings_size cs h.1 in
    omega (arith, first, rest, length-append (spelling c) (spellings cs))

-- ---- of messages

abbrev pub size : Message → ℕ
size (Text text) = length text
size (Pdu pdu) = length pdu
size (Packet named) = 20 + sizes (commands_of named)

abbrev pub total : List Message → ℕ
total [] = 0
total (m ∷ ms) = size m + total ms

pub total_push : (ms : List Message) (m : Message) → total (ms ++ m ∷ []) ≡ total ms + size m
total_push [] m = omega arith
total_push (x ∷ ms) m = let rest = total_push ms m in omega (arith, rest)

-- ---- what may go has just these bytes

packet_size : (pipe : Pipe) (named : Named) → MayGo pipe named
    → length (named_bytes named) ≡ 20 + sizes (commands_of named)
unfolding named_bytes
packet_size pipe named may =
    let whole = sized (packet_bytes (parts_of named)) (parts_of named) refl in
    let each = spellings_size (commands_of named) may.fine.sizes in
    omega (arith, whole, each)

spell_size : (pipe : Option Pipe) (m : Message) → MayGoOn pipe m → length (spell m) ≡ size m
spell_size pipe (Text text) may = refl
spell_size pipe (Pdu pdu) may = refl
spell_size (Some pipe) (Packet named) may = packet_size pipe named may
spell_size None (Packet named) may = absurd may

pub spelled_total : (pipe : Option Pipe) (ms : List Message) → AllByRecursion (MayGoOn pipe) ms
    → length (spelled ms) ≡ total ms
spelled_total pipe [] may = refl
spelled_total pipe (m ∷ ms) may =
    let first = spell_size pipe m may.0 in
    let rest = spelled_total pipe ms may.1 in
    omega (arith, first, rest, length-append (spell m) (spelled ms))
