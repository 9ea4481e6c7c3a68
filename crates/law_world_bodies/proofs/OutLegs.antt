-- the OUT legs that a server keeps: what was put on each, and the room that its meter leaves, is
-- within what it was allowed
use Rattle.law_order.proofs.Vocabulary.{◌≡◌, ◌≢◌, ℕ, zero, suc, ◌+◌, ◌<◌, ◌≤◌, List, [], ◌∷◌, ◌++◌, remove, Some, arith, sym, ap, ◌∙◌, subst, slice_get, slice_set}
use Rattle.law_role_server.proofs.Vocabulary.{OutLeg}
use Rattle.law_world_bodies.proofs.ClientRooms.{room_in}

-- by the number of a leg, in bytes
abbrev pub Amounts : Type 0
Amounts = ℕ → ℕ

-- numbers rise from one above low up to the newest, and each leg has this room
abbrev pub AreRoomy : Amounts → Amounts → ℕ → ℕ → List OutLeg → Type 0
AreRoomy put may low newest [] = low ≤ newest
AreRoomy put may low newest (leg ∷ legs) =
    (low < leg.number) × (put leg.number + room_in leg.meter ≤ may leg.number)
    × AreRoomy put may leg.number newest legs

pub lower : (put may : Amounts) (low less newest : ℕ) (legs : List OutLeg) → less ≤ low
    → AreRoomy put may low newest legs → AreRoomy put may less newest legs
lower put may low less newest [] under h = omega (arith, h, under)
lower put may low less newest (leg ∷ legs) under h = (omega (arith, h.0, under), h.1, h.2)

above : (put may : Amounts) (low newest : ℕ) (legs : List OutLeg) (place : ℕ) (leg : OutLeg)
    → slice_get legs place ≡ Some leg → AreRoomy put may low newest legs → low < leg.number
above put may low newest [] place leg at h = absurd (cc)
above put may low newest (x ∷ legs) zero leg at h =
    let same : x ≡ leg = cc in subst (λ (l : OutLeg). low < l.number) same h.0
above put may low newest (x ∷ legs) (suc place) leg at h =
    let over = above put may x.number newest legs place leg at h.2 in omega (arith, h.0, over)

-- the room of a leg among them
pub room_of : (put may : Amounts) (low newest : ℕ) (legs : List OutLeg) (place : ℕ) (leg : OutLeg)
    → slice_get legs place ≡ Some leg → AreRoomy put may low newest legs
    → put leg.number + room_in leg.meter ≤ may leg.number
room_of put may low newest [] place leg at h = absurd (cc)
room_of put may low newest (x ∷ legs) zero leg at h =
    let same : x ≡ leg = cc in
    subst (λ (l : OutLeg). put l.number + room_in l.meter ≤ may l.number) same h.1
room_of put may low newest (x ∷ legs) (suc place) leg at h =
    room_of put may x.number newest legs place leg at h.2

-- another amount on one leg alone, and no less is allowed
module _ (put may next more : Amounts) (n : ℕ)
    (others : (k : ℕ) → k ≢ n → (next k ≡ put k) × (may k ≤ more k)) where
  beside : (room k : ℕ) → k ≢ n → put k + room ≤ may k → next k + room ≤ more k
  beside room k other fits =
      let both = others k other in
      let same = both.0 in
      let less = both.1 in
      omega (arith, same, less, fits)

  rest_roomy : (low newest : ℕ) (legs : List OutLeg) → n ≤ low → AreRoomy put may low newest legs
      → AreRoomy next more low newest legs
  rest_roomy low newest [] under h = h
  rest_roomy low newest (leg ∷ legs) under h = (
    h.0,
    beside (room_in leg.meter) leg.number (λ e. absurd (omega (arith, e, under, h.0))) h.1,
    rest_roomy leg.number newest legs (omega (arith, under, h.0)) h.2,
  )

  pub set_roomy : (low newest : ℕ) (legs : List OutLeg) (place : ℕ) (leg new : OutLeg)
      → slice_get legs place ≡ Some leg → leg.number ≡ n → new.number ≡ leg.number
      → next n + room_in new.meter ≤ more n → AreRoomy put may low newest legs
      → AreRoomy next more low newest (slice_set legs place new)
  set_roomy low newest [] place leg new at here same fits h = absurd (cc)
  set_roomy low newest (x ∷ legs) zero leg new at here same fits h =
      let is : x ≡ leg = cc in
      let number : new.number ≡ n = same ∙ here in
      let old : x.number ≡ n = ap (λ (l : OutLeg). l.number) is ∙ here in (
        let over = h.0 in omega (arith, over, number, old),
        subst (λ (k : ℕ). next k + room_in new.meter ≤ more k) (sym number) fits,
        subst (λ (k : ℕ). AreRoomy next more k newest legs) (old ∙ sym number)
            (rest_roomy x.number newest legs (omega (arith, old)) h.2),
      )
  set_roomy low newest (x ∷ legs) (suc place) leg new at here same fits h =
      let over = above put may x.number newest legs place leg at h.2 in (
        h.0,
        beside (room_in x.meter) x.number (λ e. absurd (omega (arith, e, over, here))) h.1,
        set_roomy x.number newest legs place leg new at here same fits h.2,
      )

-- a leg comes up
pub push_roomy : (put may : Amounts) (low newest : ℕ) (legs : List OutLeg) (new : OutLeg)
    → new.number ≡ newest + 1 → put new.number + room_in new.meter ≤ may new.number
    → AreRoomy put may low newest legs
    → AreRoomy put may low (newest + 1) (legs ++ new ∷ [])
push_roomy put may low newest [] new number fits h =
    (omega (arith, number, h), fits, omega (arith, number))
push_roomy put may low newest (leg ∷ legs) new number fits h =
    (h.0, h.1, push_roomy put may leg.number newest legs new number fits h.2)

-- a leg is let go
pub remove_roomy : (put may : Amounts) (low newest : ℕ) (legs : List OutLeg) (place : ℕ)
    → AreRoomy put may low newest legs → AreRoomy put may low newest (remove legs place)
remove_roomy put may low newest [] zero h = h
remove_roomy put may low newest [] (suc place) h = h
remove_roomy put may low newest (leg ∷ legs) zero h =
    lower put may leg.number low newest legs (omega (arith, h.0)) h.2
remove_roomy put may low newest (leg ∷ legs) (suc place) h =
    (h.0, h.1, remove_roomy put may leg.number newest legs place h.2)

-- more is allowed
pub wider_roomy : (put may more : Amounts) → ((k : ℕ) → may k ≤ more k) → (low newest : ℕ)
    (legs : List OutLeg) → AreRoomy put may low newest legs → AreRoomy put more low newest legs
wider_roomy put may more wide low newest [] h = h
wider_roomy put may more wide low newest (leg ∷ legs) h = (
  h.0,
  let less = wide leg.number in omega (arith, less, h.1),
  wider_roomy put may more wide leg.number newest legs h.2,
)

-- a leg in its own place
pub set_same : (legs : List OutLeg) (place : ℕ) (leg : OutLeg) → slice_get legs place ≡ Some leg
    → slice_set legs place leg ≡ legs
set_same [] place leg at = absurd (cc)
set_same (x ∷ legs) zero leg at =
    let same : x ≡ leg = cc in ap (λ (l : OutLeg). l ∷ legs) (sym same)
set_same (x ∷ legs) (suc place) leg at =
    ap (λ (ls : List OutLeg). x ∷ ls) (set_same legs place leg at)
