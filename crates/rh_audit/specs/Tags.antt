-- lines in the order of their tags
use Rattle.std.specs.Prelude.{◌≢◌, ℕ, ◌≤◌, List, [], ◌∷◌}
use Rattle.std.specs.List.{AllByRecursion}
use Rattle.rh_audit.specs.declared.seen.Seen.{Seen}

-- no tag is below the one before it
abbrev pub IsRising : List Seen → Type 0
IsRising [] = Unit {0}
IsRising (line ∷ lines) =
    AllByRecursion (λ later. line.tag ≤ later.tag) lines × IsRising lines

-- the first line has another tag
abbrev pub HasOther : ℕ → List Seen → Type 0
HasOther tag [] = Unit {0}
HasOther tag (line ∷ lines) = line.tag ≢ tag
