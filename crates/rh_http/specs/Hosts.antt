-- the host of a target (profile): which texts are one, and what is first wrong with another
use Rattle.std.specs.Prelude.{◌≡◌, ◌<◌, ◌≤◌, ◌-◌, ◌||◌, ◌==◌, ℕ, Bool, true, false, List, IsTrue, codes, length, take, drop, replicate, slice_index}
use Rattle.std.specs.Char.{is_ascii_alphanumeric}
use Rattle.std.specs.List.{list_all, list_any}
use Rattle.rh_http.specs.declared.host.TheConstants.{GREATEST_HOST}
use Rattle.rh_http.specs.declared.fault.HostFault.{HostFault}
use Rattle.rh_http.specs.declared.fault.HostFault.TheVariants.{Empty, TooLong, Character}

-- the most characters of a host
abbrev pub greatest_host : ℕ
greatest_host = GREATEST_HOST

-- letters, digits, '-', '.', '_' and '@'
abbrev pub is_host_byte : ℕ → Bool
is_host_byte b = is_ascii_alphanumeric b || list_any (λ c. c == b) (codes "-._@")

-- 1 to 255 of these
pub record IsHost (text : List ℕ) : Type 0 where
  pub some : 1 ≤ length text
  pub most : length text ≤ greatest_host
  pub characters : IsTrue (list_all is_host_byte text)

-- the first bytes are one, and those behind it are 0, so that one text is kept in one way
pub record KeepsHost (bytes : List ℕ) (len : ℕ) : Type 0 where
  pub text : IsHost (take len bytes)
  pub counted : length (take len bytes) ≡ len
  pub behind : drop len bytes ≡ replicate (greatest_host - len) 0

-- the first of these that the text is not
abbrev pub IsHostFault : List ℕ → HostFault → Type 0
IsHostFault text Empty = length text ≡ 0
IsHostFault text (TooLong len) = (len ≡ length text) × (greatest_host < len)
IsHostFault text (Character place byte) =
    (length text ≤ greatest_host) × (place < length text) × (slice_index text place ≡ byte)
    × (is_host_byte byte ≡ false) × (list_all is_host_byte (take place text) ≡ true)
