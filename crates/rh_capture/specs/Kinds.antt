-- the kinds of legs that are kept for tags
use Rattle.std.specs.Prelude.{◌≡◌, ℕ, List, [], ◌∷◌, Bool, true, Some, None}
use Rattle.std.specs.List.{AllByRecursion}
use Rattle.std.specs.BTreeMap.{get}
use Rattle.std.specs.Ordering.{nat_cmp}
use Rattle.std.specs.declared.option.Option.{Option}
use Rattle.rh_line.specs.declared.leg.LegKind.{LegKind}
use Rattle.rh_audit.specs.declared.seen.Seen.{Seen}
use Rattle.rh_audit.specs.Captures.{IsOfKind, of_tag}
use Rattle.rh_audit.specs.Links.{same_kind}
use Rattle.rh_capture.specs.declared.kinds.Kinds.{Kinds}

abbrev pub kind_at : Kinds → ℕ → Option LegKind
kind_at kinds tag = get nat_cmp kinds.kinds tag

-- a line of this kind may follow
abbrev pub fits_with : Option LegKind → LegKind → Bool
fits_with None kind = true
fits_with (Some known) kind = same_kind known kind

-- what is known behind it
abbrev pub known_with : Option LegKind → LegKind → Option LegKind
known_with None kind = Some kind
known_with (Some known) kind = Some known

-- these lines are of this kind; of which none is known there are none
abbrev pub HasKind : Option LegKind → List Seen → Type 0
HasKind None lines = lines ≡ []
HasKind (Some kind) lines =
    (line : Seen) × (more : List Seen) × (lines ≡ line ∷ more) × AllByRecursion (IsOfKind kind) lines

abbrev pub HasKinds : Kinds → List Seen → Type 0
HasKinds kinds seen = (tag : ℕ) → HasKind (kind_at kinds tag) (of_tag tag seen)
