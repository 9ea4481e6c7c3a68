-- an answer that is right is the only one
use Rattle.std.proofs.Common.{◌≡◌, List, ℕ, ap, subst, ◌∙◌}
use Rattle.std.specs.Prelude.{Ok, Err}
use Rattle.std.specs.declared.result.Result.{Result}
use Rattle.rh_rts.specs.declared.fault.RtsFault.{RtsFault}
use Rattle.rh_rts.specs.declared.fault.DecodeFault.{DecodeFault}
use Rattle.rh_rts.specs.declared.fault.DecodeFault.TheVariants.{Rts, NoMemory}
use Rattle.rh_rts.specs.Packets.{Parts, IsPacket, packet_bytes}
use Rattle.rh_rts.specs.Refusals.{FirstFault}
use Rattle.rh_rts.specs.Reading.{read_packet}
use Rattle.rh_rts.specs.Judging.{Judged, Decoded, IsReadBy}
use Rattle.rh_rts.proofs.OneReading.{packet_read, fault_read, judged_so}

pub seen_packet : (b : List ℕ) (r : Result Parts RtsFault) → Judged b r → (p : Parts) → IsPacket p
    → b ≡ packet_bytes p → r ≡ Ok p
seen_packet b r h p is e = judged_so b r h ∙ ap read_packet e ∙ packet_read p is

pub seen_fault : (b : List ℕ) (r : Result Parts RtsFault) → Judged b r → (wrong : RtsFault)
    → FirstFault b wrong → r ≡ Err wrong
seen_fault b r h wrong f = judged_so b r h ∙ fault_read b wrong f

-- what is decoded is what is read, as far as there was memory
pub decoded_so : (b : List ℕ) (r : Result Parts DecodeFault) → Decoded b r
    → IsReadBy (read_packet b) r
decoded_so b (Ok p) h = judged_so b (Ok p) h
decoded_so b (Err (Rts place kind)) h = judged_so b (Err (record { place = place; kind = kind })) h
decoded_so b (Err NoMemory) h = tt

pub decoded_packet : (b : List ℕ) (r : Result Parts DecodeFault) → Decoded b r → (p : Parts)
    → IsPacket p → b ≡ packet_bytes p → IsReadBy (Ok p) r
decoded_packet b r h p is e =
    subst (λ (x : Result Parts RtsFault). IsReadBy x r) (ap read_packet e ∙ packet_read p is)
    (decoded_so b r h)

pub decoded_fault : (b : List ℕ) (r : Result Parts DecodeFault) → Decoded b r → (wrong : RtsFault)
    → FirstFault b wrong → IsReadBy (Err wrong) r
decoded_fault b r h wrong f =
    subst (λ (x : Result Parts RtsFault). IsReadBy x r) (fault_read b wrong f) (decoded_so b r h)
