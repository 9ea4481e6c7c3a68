-- what a search for the fields of one name answers
use Rattle.std.specs.Prelude.{◌≡◌, ℕ, List, [], ◌∷◌}
use Rattle.rh_http.specs.declared.lengths.Lengths.{Lengths}
use Rattle.rh_http.specs.declared.lengths.Lengths.TheVariants.{Absent, Once, Again}

-- none of these values, just one, or more
abbrev pub IsFound : List (List ℕ) → Lengths → Type 0
IsFound values Absent = values ≡ []
IsFound values (Once text) = values ≡ text.now ∷ []
IsFound values Again =
    (first second : List ℕ) × (rest : List (List ℕ)) × (values ≡ first ∷ second ∷ rest)
