-- readers: what stands at the front of bytes
use Rattle.std.specs.Prelude.{ℕ, zero, suc, Bool, List, [], ◌∷◌, ◌==◌, Option, Some, None, if◌then◌else◌, ⊤}

-- what stands there and the bytes behind it; None where nothing of the kind does
abbrev pub Reader : Type 0 → Type 0
Reader A = List ℕ → Option (A × List ℕ)

-- ---- one reader from another

-- the same in another form
abbrev pub read_as : {A B : Type 0} → (A → B) → Option (A × List ℕ) → Option (B × List ℕ)
read_as form None = None
read_as form (Some found) = Some (form found.0, found.1)

-- what passes a test
abbrev pub where_it : {A : Type 0} → (A → Bool) → Option (A × List ℕ) → Option (A × List ℕ)
where_it passes None = None
where_it passes (Some found) = if passes found.0 then Some found else None

-- the first of two that is there
abbrev pub or_else : {A : Type 0} → Option (A × List ℕ) → Option (A × List ℕ)
    → Option (A × List ℕ)
or_else None other = other
or_else (Some found) other = Some found

-- a thing, and what stands behind it
abbrev pub and_then : {A B : Type 0} → Option (A × List ℕ) → Reader B → Option ((A × B) × List ℕ)
and_then None next = None
and_then (Some found) next = read_as (λ b. (found.0, b)) (next found.1)

-- at most n things of one kind, and the last of another
abbrev pub some_then : {A B : Type 0} → ℕ → Reader A → Reader B → Reader (List A × B)
some_then zero one last text = read_as (λ b. ([], b)) (last text)
some_then (suc n) one last text =
    or_else
    (read_as (λ b. ([], b)) (last text))
    (read_as (λ found. (found.0 ∷ found.1.0, found.1.1))
    (and_then (one text) (some_then n one last)))

-- ---- bytes

-- what stands behind these bytes
abbrev pub behind : List ℕ → List ℕ → Option (List ℕ)
behind [] text = Some text
behind (byte ∷ bytes) [] = None
behind (byte ∷ bytes) (b ∷ text) = if b == byte then behind bytes text else None

-- these bytes, which mean this
abbrev pub meant : {A : Type 0} → A → Option (List ℕ) → Option (A × List ℕ)
meant meaning None = None
meant meaning (Some rest) = Some (meaning, rest)

abbrev pub exactly : {A : Type 0} → List ℕ → A → Reader A
exactly bytes meaning text = meant meaning (behind bytes text)

-- these bytes, which mean nothing more
abbrev pub these : List ℕ → Reader ⊤
these bytes = exactly bytes (tt {0})

-- one byte that passes a test
abbrev pub one_byte : (ℕ → Bool) → Reader ℕ
one_byte passes [] = None
one_byte passes (b ∷ text) = if passes b then Some (b, text) else None

-- all bytes that pass a test, up to one that fails it
abbrev pub up_to_other : (ℕ → Bool) → Reader (List ℕ)
up_to_other passes [] = None
up_to_other passes (b ∷ text) =
    if passes b then read_as (λ found. b ∷ found) (up_to_other passes text)
    else Some ([], b ∷ text)

-- ---- a text

-- what all of a text is
abbrev pub all_of : {A : Type 0} → Option (A × List ℕ) → Option A
all_of None = None
all_of (Some (found, [])) = Some found
all_of (Some (found, b ∷ rest)) = None
