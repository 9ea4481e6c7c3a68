-- whether a text is as long as the head at its front (RFC 9112 section 2.1)
use Rattle.std.specs.Prelude.{ℕ, Bool, false, List, [], ◌∷◌, ◌==◌, length, take, bytes_eq, if◌then◌else◌}
use Rattle.rh_http.specs.Ends.{blank_line}

-- its first CR LF CR LF is there, and is its end
abbrev pub is_whole : List ℕ → Bool
is_whole [] = false
is_whole (b ∷ bytes) =
    if bytes_eq (take 4 (b ∷ bytes)) blank_line then length (b ∷ bytes) == 4 else is_whole bytes
