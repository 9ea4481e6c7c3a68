-- how the calls of many seats make up one history
use Rattle.std.specs.Prelude.{◌≡◌, ℕ, Bool, false, List, [], ◌∷◌, ◌++◌}
use Rattle.rh_turn.specs.Calls.{Acts, Joins}
use Rattle.rh_turn.specs.History.{AreAll}
use Rattle.rh_turn.specs.Values.{SeatValue}
use Rattle.rh_runs.specs.Own.{AreFrom, picked, those}
use Rattle.rh_runs.specs.Runs.{Ran, entries}

-- what a seat did: the places of its calls in the history, and the calls with their replies
pub record Share (E R : Type 0) : Type 0 where
  pub places : List ℕ
  pub calls : List (E × R)

-- the places of all shares
abbrev pub places_of : {E R : Type 0} → List (Share E R) → List ℕ
places_of [] = []
places_of (share ∷ shares) = share.places ++ places_of shares

-- no call passes a test
abbrev pub Fail : {A : Type 0} → (A → Bool) → List A → Type 0
Fail test [] = Unit {0}
Fail test (call ∷ calls) = (test call ≡ false) × Fail test calls

-- no call of these shares does
abbrev pub FailAll : {E R : Type 0} → (E × R → Bool) → List (Share E R) → Type 0
FailAll test [] = Unit {0}
FailAll test (share ∷ shares) = Fail test share.calls × FailAll test shares

module _ {S E R : Type 0} (next : S → E → S) (reply : S → E → R) (first : S) where
  -- a seat that had seen nothing and had one part made these calls
  pub record Worked (seat : SeatValue E) (calls : List (E × R)) : Type 0 where
    pub born : SeatValue E
    pub unseen : born.seen ≡ []
    pub none : born.mine ≡ []
    pub one : born.parts ≡ 1
    pub ran : Ran next reply first born seat calls

  -- such seats were taken in, one after the other, and these are their shares
  abbrev pub TakesIn : SeatValue E → SeatValue E → List (Share E R) → Type 0
  TakesIn old now [] = now ≡ old
  TakesIn old now (share ∷ shares) = (seat mid : SeatValue E) × Worked seat share.calls
      × (share.places ≡ seat.mine) × Joins old seat mid × TakesIn mid now shares

  -- the calls of each share stand in the history, in their order
  abbrev pub AllStand : List E → List (Share E R) → Type 0
  AllStand history [] = Unit {0}
  AllStand history (share ∷ shares) = AreFrom 0 share.places
      × (picked 0 share.places (entries next reply first history) ≡ share.calls)
      × AllStand history shares

  -- Each entry of the history stands in one share, once, and the entries of a share are its calls,
  -- in order.
  pub record IsDealt (history : List E) (shares : List (Share E R)) : Type 0 where
    pub stand : AllStand history shares
    pub all : AreAll (places_of shares) history

abbrev pub HistoryIsDealt : Type 0 → Type 0 → Type 0 → Type 0
HistoryIsDealt S E R = (next : S → E → S) (reply : S → E → R) (first : S)
    (born now last : SeatValue E) (shares : List (Share E R)) (event : E) (answer : R)
    → born.seen ≡ [] → born.mine ≡ [] → TakesIn next reply first born now shares
    → Acts next reply first event answer now last → AreAll last.mine last.seen
    → (place : ℕ) × IsDealt next reply first last.seen
    (record { places = place ∷ []; calls = (event, answer) ∷ [] } ∷ shares)

abbrev pub OnesAreThose : Type 0 → Type 0 → Type 0 → Type 0
OnesAreThose S E R = (next : S → E → S) (reply : S → E → R) (first : S) (history : List E)
    (before : List (Share E R)) (own : Share E R) (behind : List (Share E R)) (test : E × R → Bool)
    → IsDealt next reply first history (before ++ own ∷ behind)
    → FailAll test before → FailAll test behind
    → those test (entries next reply first history) ≡ those test own.calls
