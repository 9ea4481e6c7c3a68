-- what is left of the RPC PDUs of a chain
use Rattle.std.specs.Prelude.{◌≡◌, ℕ, ◌+◌, ◌==◌, List, [], ◌∷◌, length, Bool, true, false, if◌then◌else◌}
use Rattle.rh_audit.specs.declared.prefixed.Prefixed.{Prefixed}
use Rattle.rh_audit.specs.declared.prefixed.Prefixed.TheVariants.{Yes, No}
use Rattle.std.specs.List.{flat_map}
use Rattle.rh_audit.specs.Audits.{common}
use Rattle.rh_audit.specs.Chains.{Leg}

pub record WalkLeft : Type 0 where
  pub pdus : List (List ℕ)
  pub frame : List ℕ

-- the RPC PDUs of all legs
abbrev pub all_pdus : List Leg → List (List ℕ)
all_pdus legs = flat_map (λ leg. leg.pdus) legs

-- the first PDU was found, or none is left
abbrev pub IsStep : Bool → WalkLeft → WalkLeft → Type 0
IsStep true old new = old.pdus ≡ new.frame ∷ new.pdus
IsStep false old new = old.pdus ≡ []

-- what is told where so many PDUs were the same before these
abbrev pub prefixed_from : ℕ → List (List ℕ) → List (List ℕ) → Prefixed
prefixed_from place far near =
    if common far near == length far
    then Yes (place + length far) (place + length near)
    else No (place + common far near)
