-- what is wrong with bytes that are to be a PDU, in the order in which it is told
use Rattle.std.specs.Prelude.{ℕ, ◌==◌, List, length, slice_index, if◌then◌else◌, nat_lt, Some, None, Ok, Err}
use Rattle.std.specs.declared.option.Option.{Option}
use Rattle.std.specs.declared.result.Result.{Result}
use Rattle.rh_pdu.specs.declared.fault.HeadFault.{HeadFault}
use Rattle.rh_pdu.specs.declared.fault.PduFault.{PduFault}
use Rattle.rh_pdu.specs.declared.fault.PduFault.TheVariants.{Cut, Head, Rts, Length}
use Rattle.rh_pdu.specs.declared.header.TheConstants.{PTYPE_AT}
use Rattle.rh_pdu.specs.Header.{header_length, rts, frag_of, head_fault}

-- where the header is whole: its fault, then an rts PDU, then a frag_length that isn't the number
-- of bytes
abbrev pub fault_behind : List ℕ → Option HeadFault → Option PduFault
fault_behind bytes (Some fault) = Some (Head fault)
fault_behind bytes None =
    if slice_index bytes PTYPE_AT == rts then Some Rts
    else (if frag_of bytes == length bytes then None
    else Some (Length (frag_of bytes) (length bytes)))

-- the first fault of the bytes as a PDU
abbrev pub pdu_fault : List ℕ → Option PduFault
pdu_fault bytes =
    if nat_lt (length bytes) header_length
    then Some (Cut (length bytes))
    else fault_behind bytes (head_fault bytes)

-- the answer that tells a fault, or that there is none
abbrev pub checked : Option PduFault → Result (Unit {0}) PduFault
checked None = Ok tt
checked (Some fault) = Err fault
