-- the PDUs that a generated recording gives (profile): requests in one fragment, each of them a
-- header (C706 12.6.3.1) and bytes that are all alike
use Rattle.std.specs.Prelude.{ℕ, ◌+◌, ◌-◌, ◌*◌, ◌%◌, List, [], ◌∷◌, ◌++◌, replicate}
use Rattle.std.specs.Int.{w16, w32, to_le_bytes}
use Rattle.rh_pdu.specs.Header.{header_length}
use Rattle.rh_made.specs.declared.requests.TheConstants.{LEAST_SIZE, SIZE_STEP, SIZES}

-- how many bytes PDU i has
abbrev pub size : ℕ → ℕ
size i = LEAST_SIZE + i * SIZE_STEP % SIZES

-- version 5.0, PTYPE 0, first and last fragment, least significant byte first, no authentication;
-- the call is i
abbrev pub header : ℕ → List ℕ
header i =
    (5 ∷ 0 ∷ 0 ∷ 3 ∷ 16 ∷ 0 ∷ 0 ∷ 0 ∷ [])
    ++ (to_le_bytes w16 (size i) ++ ((0 ∷ 0 ∷ []) ++ to_le_bytes w32 i))

-- PDU i
unfoldable pub pdu : ℕ → List ℕ
pdu i = header i ++ replicate (size i - header_length) (i % 256)
