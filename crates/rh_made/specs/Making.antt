-- a generated recording of roles (profile)
use Rattle.std.specs.Prelude.{ℕ, zero, suc, ◌≤◌, ◌%◌, ◌==◌, List, [], ◌∷◌, ◌++◌}
use Rattle.std.specs.Prelude.{Bool, true, ◌||◌, if◌then◌else◌}
use Rattle.rh_text.specs.declared.ends.Side.{Side}
use Rattle.rh_text.specs.declared.ends.Side.TheVariants.{Client, Server}
use Rattle.rh_record.specs.declared.line.Line.{Line}
use Rattle.rh_record.specs.declared.line.Line.TheVariants.{First, Give, Close, Settle}
use Rattle.rh_made.specs.declared.count.TheConstants.{MOST_GIVEN}
use Rattle.rh_made.specs.declared.lines.TheConstants.{ROUNDS, SETTLED_AFTER}
use Rattle.rh_made.specs.Requests.{pdu}

-- how many PDUs may be given
abbrev pub IsCount : ℕ → Type 0
IsCount n = (1 ≤ n) × (n ≤ MOST_GIVEN)

-- ---- the lines

-- the end at which PDU i is given: those with odd numbers go up, and the others down
abbrev pub giver : ℕ → Side
giver i = if i % 2 == 1 then Client else Server

abbrev pub settle : Line
settle = Settle ROUNDS

-- whether all settles behind PDU i of n: behind so many each, and behind the last
abbrev pub settles : ℕ → ℕ → Bool
settles n i = i % SETTLED_AFTER == 0 || i == n

-- the lines of PDU i
abbrev pub turn : ℕ → ℕ → List Line
turn n i = Give (giver i) (pdu i) ∷ (if settles n i then settle ∷ [] else [])

-- the lines up to those of PDU i
unfoldable pub front : ℕ → ℕ → List Line
front n zero = First true ∷ []
front n (suc i) = front n i ++ turn n (suc i)

-- both ends are closed, and all settles
abbrev pub ending : List Line
ending = Close Client ∷ Close Server ∷ settle ∷ []

-- the recording of n PDUs
abbrev pub lines : ℕ → List Line
lines n = front n n ++ ending
