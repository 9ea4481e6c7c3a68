-- other PDUs as text: the kind, in the words of C706, and fields of the header (C706 12.6.3.1)
use Rattle.std.specs.Prelude.{◌==◌, ◌/◌, ◌%◌, ℕ, List, [], ◌∷◌, ◌++◌, codes, slice_get, if◌then◌else◌, Some, None}
use Rattle.std.specs.declared.option.Option.{Option}
use Rattle.std.specs.Fmt.{decimal}
use Rattle.hex.specs.Hex.{encode_lower}
use Rattle.rh_pdu.specs.declared.fault.PduFault.{PduFault}
use Rattle.rh_pdu.specs.declared.header.Header.{Header}
use Rattle.rh_pdu.specs.Header.{header_of}
use Rattle.rh_pdu.specs.Checking.{pdu_fault}
use Rattle.rh_pdu.specs.Texts.{pdu_fault_text}

-- the kinds of PDU by PTYPE, from 0 (C706 12.1); 16 is that of MS-RPCE
abbrev pub kinds : List (List ℕ)
kinds =
    codes "request" ∷ codes "ping" ∷ codes "response" ∷ codes "fault" ∷ codes "working"
    ∷ codes "nocall" ∷ codes "reject" ∷ codes "ack" ∷ codes "cl_cancel" ∷ codes "fack"
    ∷ codes "cancel_ack" ∷ codes "bind" ∷ codes "bind_ack" ∷ codes "bind_nak"
    ∷ codes "alter_context" ∷ codes "alter_context_resp" ∷ codes "auth3" ∷ codes "shutdown"
    ∷ codes "co_cancel" ∷ codes "orphaned" ∷ []

-- a kind that has a word, and another one by its number
unfoldable pub kind_by : ℕ → Option (List ℕ) → List ℕ
kind_by ptype None = codes "ptype " ++ decimal ptype
kind_by ptype (Some word) = word

-- a bit of the flags, where it is set
unfoldable pub flag_word : ℕ → ℕ → List ℕ → List ℕ
flag_word flags bit word = if flags / bit % 2 == 1 then word else []

-- the names of the flags that are set (C706 12.6.3.1)
unfoldable pub set_flags : ℕ → List ℕ
set_flags flags =
    flag_word flags 1 (codes " first_frag") ++ (flag_word flags 2 (codes " last_frag")
    ++ (flag_word flags 4 (codes " pending_cancel") ++ (flag_word flags 8 (codes " reserved_1")
    ++ (flag_word flags 16 (codes " conc_mpx")
    ++ (flag_word flags 32 (codes " did_not_execute")
    ++ (flag_word flags 64 (codes " maybe") ++ flag_word flags 128 (codes " object_uuid")))))))

-- the call id, both lengths, and the flags as two hex digits
unfoldable pub numbers_text : Header → List ℕ
numbers_text h =
    codes " call " ++ decimal h.call ++ codes " length " ++ decimal h.frag ++ codes " auth "
    ++ decimal h.auth ++ codes " flags " ++ encode_lower (h.flags ∷ [])

-- where nothing is wrong, the kind and the fields; else the first fault
abbrev pub checked_text : Header → Option PduFault → List ℕ
checked_text h (Some fault) = codes "bad " ++ pdu_fault_text fault
checked_text h None =
    kind_by h.ptype (slice_get kinds h.ptype) ++ (numbers_text h ++ set_flags h.flags)

abbrev pub pdu_text : List ℕ → List ℕ
pdu_text b = checked_text (header_of b) (pdu_fault b)
