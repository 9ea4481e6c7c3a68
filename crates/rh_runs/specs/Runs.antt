-- what a seat did, and where it stands in the history of its turn
use Rattle.std.specs.Prelude.{◌≡◌, Bool, List, [], ◌∷◌}
use mathlib.Core.List.{IsPrefix}
use Rattle.rh_turn.specs.Calls.{Acts}
use Rattle.rh_turn.specs.Values.{SeatValue}
use Rattle.rh_runs.specs.Own.{AreFrom, picked, those, HasThose}

-- from one moment of a seat to another it acted these events, one after the other, and was answered
-- these replies
abbrev pub Ran : {S E R : Type 0} → (S → E → S) → (S → E → R) → S
    → SeatValue E → SeatValue E → List (E × R) → Type 0
Ran next reply first old now [] = now ≡ old
Ran {S} {E} {R} next reply first old now (call ∷ calls) = (mid : SeatValue E)
    × Acts next reply first call.0 call.1 old mid
    × Ran next reply first mid now calls

-- the entries of a history: each event with the machine's reply to it
abbrev pub entries : {S E R : Type 0} → (S → E → S) → (S → E → R) → S → List E → List (E × R)
entries next reply first [] = []
entries next reply first (event ∷ events) =
    (event, reply first event) ∷ entries next reply (next first event) events

-- a seat that had seen nothing made these calls, and the history went on from what it has seen
pub record RanIn {S E R : Type 0} (next : S → E → S) (reply : S → E → R) (first : S)
    (old now : SeatValue E) (calls : List (E × R)) (history : List E) : Type 0 where
  pub ran : Ran next reply first old now calls
  pub unseen : old.seen ≡ []
  pub none : old.mine ≡ []
  pub goes_on : IsPrefix now.seen history

abbrev pub CallsStand : Type 0 → Type 0 → Type 0 → Type 0
CallsStand S E R = (next : S → E → S) (reply : S → E → R) (first : S) (old now : SeatValue E)
    (calls : List (E × R)) (history : List E)
    → RanIn next reply first old now calls history
    → AreFrom 0 now.mine × (picked 0 now.mine (entries next reply first history) ≡ calls)

abbrev pub CallsAreThose : Type 0 → Type 0 → Type 0 → Type 0
CallsAreThose S E R = (next : S → E → S) (reply : S → E → R) (first : S) (old now : SeatValue E)
    (calls : List (E × R)) (history : List E) (test : E × R → Bool)
    → RanIn next reply first old now calls history
    → HasThose test 0 now.mine (entries next reply first history)
    → those test (entries next reply first history) ≡ those test calls
