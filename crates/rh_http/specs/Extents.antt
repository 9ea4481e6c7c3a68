-- where the head at the front of bytes ends
use Rattle.std.specs.Prelude.{◌<◌, ◌≤◌, ℕ, List, length, take}
use Rattle.rh_http.specs.declared.got.Extent.{Extent}
use Rattle.rh_http.specs.declared.got.Extent.TheVariants.{Open, Over, Ends}
use Rattle.rh_http.specs.Ends.{IsOpen, FirstEnd}
use Rattle.rh_http.specs.Reading.{greatest_head}

-- within the most bytes; or not yet, or never
abbrev pub IsExtent : List ℕ → Extent → Type 0
IsExtent bytes Open = IsOpen (take greatest_head bytes) × (length bytes < greatest_head)
IsExtent bytes Over = IsOpen (take greatest_head bytes) × (greatest_head ≤ length bytes)
IsExtent bytes (Ends len) =
    FirstEnd (take greatest_head bytes) len × (len ≤ greatest_head) × (len ≤ length bytes)
