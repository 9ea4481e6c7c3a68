-- what the lines of a capture carry
use Rattle.std.specs.Prelude.{◌≡◌, ℕ, ◌==◌, ◌+◌, ◌<◌, ◌^◌, ◌++◌, List, [], ◌∷◌, length, Bool, IsTrue, if◌then◌else◌}
use Rattle.std.specs.List.{AllByRecursion, filter}
use Rattle.rh_line.specs.declared.leg.LegKind.{LegKind}
use Rattle.rh_sig.specs.declared.name.Pipe.{Pipe}
use Rattle.rh_sig.specs.Looking.{place}
use Rattle.rh_audit.specs.declared.seen.Seen.{Seen}
use Rattle.rh_audit.specs.Pipes.{is_seen, kind_of}

abbrev pub same_pipe : Pipe → Pipe → Bool
same_pipe a b = place a == place b

abbrev pub has_tag : ℕ → Seen → Bool
has_tag tag line = line.tag == tag

-- the lines of one tag
abbrev pub of_tag : ℕ → List Seen → List Seen
of_tag tag seen = filter (has_tag tag) seen

-- the bytes of a pipe in lines, joined
abbrev pub carried : Pipe → List Seen → List ℕ
carried pipe [] = []
carried pipe (line ∷ lines) =
    if same_pipe line.pipe pipe then line.bytes ++ carried pipe lines else carried pipe lines

-- the bytes of one tag and pipe
abbrev pub bytes_on : ℕ → Pipe → List Seen → List ℕ
bytes_on tag pipe seen = carried pipe (of_tag tag seen)

-- ---- what is asked of a capture

-- how many bytes there are
abbrev pub total : List Seen → ℕ
total [] = 0
total (line ∷ lines) = length line.bytes + total lines

-- a pipe of a leg of this kind, which is not the one from the server to an in proxy
abbrev pub IsOfKind : LegKind → Seen → Type 0
IsOfKind kind line = (kind_of line.pipe ≡ kind) × IsTrue (is_seen line.pipe)

-- lines of one kind of leg, with fewer bytes than 2^36
pub record AreOfLeg (lines : List Seen) : Type 0 where
  pub kind : LegKind
  pub each : AllByRecursion (IsOfKind kind) lines
  pub short : total lines < 2 ^ 36

-- each tag has one kind of leg, and there are fewer bytes than 2^36
pub record IsCapture (seen : List Seen) : Type 0 where
  pub kinds : (tag : ℕ) → (kind : LegKind) × AllByRecursion (IsOfKind kind) (of_tag tag seen)
  pub short : total seen < 2 ^ 36
