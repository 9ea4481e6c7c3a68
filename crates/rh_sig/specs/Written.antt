-- what is written of a named packet, in one word, so that the proof of a row need not open it
use Rattle.std.specs.Prelude.{ℕ, List}
use Rattle.std.specs.declared.result.Result.{Result}
use Rattle.rh_rts.specs.declared.fault.NoRoom.{NoRoom}
use Rattle.rh_rts.specs.Packets.{IsPacket}
use Rattle.rh_rts.specs.Writing.{Writes}
use Rattle.rh_sig.specs.declared.named.Named.{Named}
use Rattle.rh_sig.specs.Values.{parts_of}

-- the packet can be sent, and was written or has no room
unfoldable pub IsWritten : Named → List ℕ → List ℕ → Result ℕ NoRoom → Type 0
IsWritten n before after result = Writes (parts_of n) before after result × IsPacket (parts_of n)
