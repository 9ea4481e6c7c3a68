-- what is made of fields of their size, with no destination out of range, is a packet
use Rattle.std.proofs.Common.{◌≡◌, ℕ, ◌≤◌, List, [], ◌∷◌, length, refl, arith, true, false, Bool}
use Rattle.std.specs.Prelude.{Some, None, Ok, Err, if◌then◌else◌}
use Rattle.std.specs.declared.option.Option.{Option}
use Rattle.std.specs.declared.result.Result.{Result}
use Rattle.rh_rts.specs.declared.fault.PacketFault.{PacketFault}
use Rattle.std.proofs.lemmas.Bool.{ltb-false}
use Rattle.std.proofs.lemmas.List.{length-append}
use Rattle.rh_rts.specs.declared.command.Command.{Command}
use Rattle.rh_rts.specs.declared.command.Command.TheVariants as commands
use Rattle.rh_rts.specs.Commands.{spelling, spellings, IsCommand, AreCommands, HasSize, HaveSizes}
use Rattle.rh_rts.specs.Packets.{Parts, IsPacket, packet_length, bad_destination, made, made_of}
use Rattle.rh_rts.proofs.Passing.{passed}

-- the first command is one, and the others hold no destination out of range
is_command : (c : Command) (cs : List Command) → HasSize c → length (spelling c) ≤ 65535
    → bad_destination (c ∷ cs) ≡ None → IsCommand c × (bad_destination cs ≡ None)
unfolding spelling
is_command (commands.Padding bytes) cs h small e = ((h, omega (arith, small)), e)
is_command (commands.Destination n) cs h small e = let p = passed _ n _ e in
    ((h, ltb-false _ _ p.0), p.1)
is_command c cs h small e = ((h, tt), e)

are_commands : (cs : List Command) → HaveSizes cs → length (spellings cs) ≤ 65535
    → bad_destination cs ≡ None
    → AreCommands cs
are_commands [] h small e = tt
are_commands (c ∷ cs) h small e =
    let parts = length-append (spelling c) (spellings cs) in
    let one = is_command c cs h.0 (omega (arith, parts, small)) e in
    (one.0, are_commands cs h.1 (omega (arith, parts, small)) one.1)

made_ok : {A : Type 0} (t : Bool) (wrong : PacketFault) (later : Result A PacketFault) (p : A)
    → (if t then Err wrong else later) ≡ Ok p → (t ≡ false) × (later ≡ Ok p)
made_ok true wrong later p e = absurd cc
made_ok false wrong later p e = (refl, e)

in_range : (o : Option ℕ) (p : Parts) → made_of o p ≡ Ok p → (o ≡ None) × (packet_length p ≤ 65535)
in_range (Some n) p e = absurd cc
in_range None p e = (refl, ltb-false _ _ (made_ok _ _ _ p e).0)

-- parts whose fields have their size, and of which no first fault is told
pub is_sound : (p : Parts) → HaveSizes p.commands → made p ≡ Ok p → IsPacket p
is_sound p h e =
    let few = made_ok _ _ _ p e in
    let fits = in_range _ p few.1 in
    record {
      flags = ltb-false _ _ few.0;
      commands = are_commands p.commands h (omega (arith, fits.1)) fits.0;
      length = fits.1;
    }
