-- what stands in a stream of bytes, one behind the other: frames (C706 12.6.3.1), heads (RFC 9112
-- section 2.1) and greetings (profile)
use Rattle.std.specs.Prelude.{ℕ, ◌==◌, ◌||◌, ◌&&◌, not, Bool, List, [], ◌∷◌, ◌++◌, length, codes, bytes_eq, nat_le, slice_index, if◌then◌else◌}
use Rattle.std.specs.List.{ends_with}
use Rattle.rh_pdu.specs.Header.{header_length, version, head_fault, frag_of}
use Rattle.rh_pdu.specs.Cut.{is_sound}
use Rattle.rh_http.specs.Ends.{blank_line}
use Rattle.rh_http.specs.Reading.{greatest_head}

-- what a server says first on a leg
abbrev pub greeting : List ℕ
greeting = codes "ncacn_http/1.0"

-- bytes that begin with the version of the protocol are a frame
abbrev pub is_framed : List ℕ → Bool
is_framed held = slice_index held 0 == version

-- a frame is whole with as many bytes as its header tells; a header that breaks a rule stands alone
unfoldable pub frame_whole : List ℕ → Bool
frame_whole held =
    nat_le header_length (length held)
    && (not (is_sound (head_fault held)) || nat_le (frag_of held) (length held))

-- other bytes are whole behind a blank line, or as a greeting; or they are as many as a head has at
-- most
unfoldable pub text_whole : List ℕ → Bool
text_whole held =
    ends_with (λ a b. a == b) held blank_line
    || (bytes_eq held greeting || nat_le greatest_head (length held))

-- the first of the bytes tells which
unfoldable pub is_whole : List ℕ → Bool
is_whole held = if is_framed held then frame_whole held else text_whole held

-- ---- byte by byte

-- the items that become whole as bytes come behind those that are held
abbrev pub items_from : List ℕ → List ℕ → List (List ℕ)
items_from held [] = []
items_from held (b ∷ bytes) =
    if is_whole (held ++ b ∷ [])
    then (held ++ b ∷ []) ∷ items_from [] bytes
    else items_from (held ++ b ∷ []) bytes

-- what is held behind them
abbrev pub held_from : List ℕ → List ℕ → List ℕ
held_from held [] = held
held_from held (b ∷ bytes) =
    if is_whole (held ++ b ∷ []) then held_from [] bytes else held_from (held ++ b ∷ []) bytes
