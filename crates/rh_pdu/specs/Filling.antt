-- what a buffer holds once a piece was put behind the bytes held, of all these bytes
use Rattle.std.specs.Prelude.{ℕ, List, length, take, Some, None, ◌≡◌, ◌≤◌}
use Rattle.rh_pdu.specs.declared.feed.Put.{Put}
use Rattle.rh_pdu.specs.declared.feed.Put.TheVariants.{Part, Bad, Whole}
use Rattle.rh_pdu.specs.Header.{header_length, greatest_length, frag_of, head_fault}
use Rattle.rh_pdu.specs.Frames.{IsUnfinished}

-- all of them, and they are unfinished; the first header, which breaks a rule; or the first frame
abbrev pub Holds : Put → List ℕ → List ℕ → Type 0
Holds (Part held) all buf =
    (held ≡ length all) × (held ≤ greatest_length) × (take held buf ≡ all) × IsUnfinished all
Holds (Bad fault) all buf =
    (header_length ≤ length all) × (take header_length buf ≡ take header_length all)
    × (head_fault all ≡ Some fault)
Holds (Whole frag) all buf =
    (header_length ≤ frag) × (frag ≤ length all) × (frag ≤ greatest_length)
    × (take frag buf ≡ take frag all) × (head_fault all ≡ None) × (frag ≡ frag_of all)
