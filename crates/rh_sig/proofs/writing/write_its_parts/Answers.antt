use Rattle.std.proofs.Common.{sym, subst}
use Rattle.rh_rts.specs.Commands.{HaveSizes}
use Rattle.rh_rts.specs.Packets.{Parts, IsPacket}
use Rattle.rh_rts.specs.Writing.{Writes}
use Rattle.rh_sig.specs.Written.{IsWritten}
use Rattle.rh_sig.proofs.Small.{sound}
use Rattle.rh_sig.proofs.writing.write_its_parts.Goals as goal

pub encode_parts-requires : goal.encode_parts-requires
encode_parts-requires g c =
    subst IsPacket (sym c.requires.parts)
    (sound c.args.named.now c.requires.written
    (subst (λ (p : Parts). HaveSizes p.commands) c.requires.parts c.length_of.ensures.size))

pub returns : goal.returns
unfolding IsWritten
returns g c = (
  subst (λ (p : Parts). Writes p c.args.room.now c.encode_parts.new.room c.encode_parts.result)
      c.requires.parts c.encode_parts.ensures,
  sound c.args.named.now c.requires.written
      (subst (λ (p : Parts). HaveSizes p.commands) c.requires.parts c.length_of.ensures.size),
)
