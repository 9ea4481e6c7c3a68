-- the texts of faults
use Rattle.std.specs.Prelude.{ℕ, List, ◌++◌, codes}
use Rattle.std.specs.Fmt.{decimal}
use Rattle.rh_pdu.specs.declared.fault.HeadFault.{HeadFault}
use Rattle.rh_pdu.specs.declared.fault.HeadFault.TheVariants.{Version, Minor, ByteOrder, TooShort, TooLong}
use Rattle.rh_pdu.specs.declared.fault.PduFault.{PduFault}
use Rattle.rh_pdu.specs.declared.fault.PduFault.TheVariants.{Cut, Head, Rts, Length}

-- the fault of a header: its name and the value at fault
abbrev pub head_fault_text : HeadFault → List ℕ
head_fault_text (Version value) = codes "Version " ++ decimal value
head_fault_text (Minor value) = codes "Minor " ++ decimal value
head_fault_text (ByteOrder value) = codes "ByteOrder " ++ decimal value
head_fault_text (TooShort frag) = codes "TooShort " ++ decimal frag
head_fault_text (TooLong frag) = codes "TooLong " ++ decimal frag

-- the fault of a PDU: its name and its numbers; a header's fault stands for itself
abbrev pub pdu_fault_text : PduFault → List ℕ
pdu_fault_text (Cut len) = codes "Cut " ++ decimal len
pdu_fault_text (Head fault) = head_fault_text fault
pdu_fault_text Rts = codes "Rts"
pdu_fault_text (Length frag len) = codes "Length " ++ decimal frag ++ codes " " ++ decimal len
