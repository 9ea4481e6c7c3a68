-- bytes as hex digits
use Rattle.std.specs.Prelude.{◌≡◌, ℕ, ◌≤◌, List, length, Ok}
use Rattle.hex.specs.Hex.{decode_of}

-- hex digits in either case, two for each byte, that spell 1 to so many bytes
pub record IsHex (greatest : ℕ) (text bytes : List ℕ) : Type 0 where
  pub digits : decode_of text ≡ Ok bytes
  pub some : 1 ≤ length bytes
  pub most : length bytes ≤ greatest
