-- where the head of a message ends: behind its first CR LF CR LF (RFC 9112 section 2.1)
use Rattle.std.specs.Prelude.{◌≡◌, ◌≤◌, ◌-◌, ℕ, List, [], ◌∷◌, take, drop, Some, None}
use Rattle.std.specs.declared.option.Option.{Option}
use Rattle.rh_text.specs.declared.lines.TheConstants.{LINE_FEED}
use Rattle.rh_http.specs.declared.end.TheConstants.{CARRIAGE_RETURN}

-- the end of the last line, and the empty line
abbrev pub blank_line : List ℕ
blank_line = CARRIAGE_RETURN ∷ LINE_FEED ∷ CARRIAGE_RETURN ∷ LINE_FEED ∷ []

-- the first n bytes end with it
abbrev pub EndsAt : List ℕ → ℕ → Type 0
EndsAt bytes n = (4 ≤ n) × (take 4 (drop (n - 4) bytes) ≡ blank_line)

-- no front of the bytes ends with it
abbrev pub IsOpen : List ℕ → Type 0
IsOpen bytes = (n : ℕ) → ¬ EndsAt bytes n

-- the first n bytes do, and no shorter front
pub record FirstEnd (bytes : List ℕ) (n : ℕ) : Type 0 where
  pub ends : EndsAt bytes n
  pub first : (k : ℕ) → EndsAt bytes k → n ≤ k

-- where the first one ends, or that none does
abbrev pub IsEnd : List ℕ → Option ℕ → Type 0
IsEnd bytes None = IsOpen bytes
IsEnd bytes (Some n) = FirstEnd bytes n
