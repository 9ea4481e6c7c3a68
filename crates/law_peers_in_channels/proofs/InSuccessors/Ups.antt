-- legs that come up once at an end: each was up from then on, and the is legs of a server that came
-- up are no more than their numbers
use Rattle.law_order.proofs.Vocabulary.{◌≡◌, ◌||◌, ◌&&◌, ℕ, ◌+◌, ◌<◌, ◌≤◌, nat_eq, Bool, true, false, if◌then◌else◌, List, [], ◌∷◌, inl, inr, refl, sym, ap, ◌∙◌, subst, arith, nat_tests, IsTrue}
use Rattle.law_moves.proofs.Vocabulary.{Cookie, Leg, InServer, Acts, Rules, is_of, Up, HeadCame, PduCame, PacketCame, Puts, IsDrawn, Marks, Pings, EndMove, Moves, Gives, Takes, Closes, Recycles, MayEndMove, EndPassage, end_moved, all_end_moved, AreAllowedAtEnd, sum_below, HasComeUp}
use Rattle.law_moves.proofs.Lemmas.{sum_rises, leg_is as leg_same}
use Rattle.law_role_server.proofs.Vocabulary.{came_up, is_up, leg_at}
use Rattle.law_node_causes.specs.Once.{ComesUpOnce, KeepsUp}
use Rattle.law_peers_moments.proofs.GoingRound.Rounding.{once as one_if}
use Rattle.law_role_server_in.specs.Refusing.{in_ups}
use Rattle.law_peers_in_channels.proofs.InSuccessors.Sums.{sum_more}

-- ---- at an end

-- what holds of the role at first holds behind all moves
pub held : {S : Type 0} (rules : Rules S) (acts : Acts S) (Holds : S → Type 0)
    → KeepsUp rules acts Holds → (p : EndPassage S) (moves : List EndMove)
    → Holds p.passage.role → AreAllowedAtEnd rules acts p moves
    → Holds (all_end_moved rules acts p moves).passage.role
held rules acts Holds keeps p [] holds may = holds
held rules acts Holds keeps p (move ∷ moves) holds may =
    held rules acts Holds keeps (end_moved rules acts p move) moves
    (keeps.kept p move holds may.0) may.1

-- each leg that came up was up
module _ {S : Type 0} (rules : Rules S) (acts : Acts S) (Holds : S → Type 0)
    (once : ComesUpOnce rules Holds) (keeps : KeepsUp rules acts Holds) (leg : Leg)
    (cookie : Cookie) where
  stays_up : (p : EndPassage S) (moves : List EndMove) → Holds p.passage.role
      → AreAllowedAtEnd rules acts p moves → rules.was_up p.passage.role leg ≡ true
      → rules.was_up (all_end_moved rules acts p moves).passage.role leg ≡ true
  stays_up p [] holds may up = up
  stays_up p (move ∷ moves) holds may up =
      stays_up (end_moved rules acts p move) moves (keeps.kept p move holds may.0) may.1
      (keeps.stays p move leg holds may.0 up)

  is_up_by : (p : EndPassage S) (move : EndMove) → move ≡ Moves (Up leg cookie)
      → Holds p.passage.role → MayEndMove rules p.passage.role move
      → rules.was_up (end_moved rules acts p move).passage.role leg ≡ true
  is_up_by p move e =
      subst (λ (m : EndMove). Holds p.passage.role → MayEndMove rules p.passage.role m
      → rules.was_up (end_moved rules acts p m).passage.role leg ≡ true) (sym e)
      (λ holds may. once.up p.passage.role leg cookie holds may)

  pub was_up : (p : EndPassage S) (moves : List EndMove) → Holds p.passage.role
      → AreAllowedAtEnd rules acts p moves → HasComeUp moves leg cookie
      → rules.was_up (all_end_moved rules acts p moves).passage.role leg ≡ true
  was_up p [] holds may has = absurd has
  was_up p (move ∷ moves) holds may (inl is) =
      stays_up (end_moved rules acts p move) moves (keeps.kept p move holds may.0) may.1
      (is_up_by p move is holds may.0)
  was_up p (move ∷ moves) holds may (inr has) =
      was_up (end_moved rules acts p move) moves (keeps.kept p move holds may.0) may.1 has

-- ---- is legs

abbrev pub ups_at : List EndMove → ℕ → ℕ
ups_at [] n = 0
ups_at (move ∷ moves) n = one_if (is_up n move) + ups_at moves n

up_leg : (n : ℕ) (leg : Leg) → (is_of InServer leg && nat_eq n leg.number) ≡ true
    → leg ≡ leg_at InServer n
up_leg n leg e = leg_same leg (leg_at InServer n) (grind (arith, nat_tests, e))

module _ {S : Type 0} (rules : Rules S) (acts : Acts S) (Holds : S → Type 0)
    (once : ComesUpOnce rules Holds) (keeps : KeepsUp rules acts Holds) (n : ℕ) where
  abbrev leg : Leg
  leg = leg_at InServer n

  not_again : (s : S) (move : EndMove) → Holds s → MayEndMove rules s move
      → rules.was_up s leg ≡ true → is_up n move ≡ false
  not_again s (Moves (Up other cookie)) holds may up =
      by (is_of InServer other && nat_eq n other.number) refl
    where
      by : (b : Bool) → (is_of InServer other && nat_eq n other.number) ≡ b → b ≡ false
      by false e = refl
      by true e =
          let may_up : rules.may_up s leg ≡ true =
          subst (λ (l : Leg). rules.may_up s l ≡ true) (up_leg n other e) may.1 in
          let never = once.once s leg holds up in absurd (let both = sym may_up ∙ never in cc)
  not_again s (Moves (HeadCame other text)) holds may up = refl
  not_again s (Moves (PduCame other count pdu)) holds may up = refl
  not_again s (Moves (PacketCame other count named)) holds may up = refl
  not_again s (Moves (Puts other)) holds may up = refl
  not_again s (Moves (IsDrawn other)) holds may up = refl
  not_again s (Moves (Marks other)) holds may up = refl
  not_again s (Moves (Pings other)) holds may up = refl
  not_again s (Gives pdu) holds may up = refl
  not_again s Takes holds may up = refl
  not_again s Closes holds may up = refl
  not_again s Recycles holds may up = refl

  never_again : (p : EndPassage S) (moves : List EndMove) → Holds p.passage.role
      → AreAllowedAtEnd rules acts p moves → rules.was_up p.passage.role leg ≡ true
      → ups_at moves n ≡ 0
  never_again p [] holds may up = refl
  never_again p (move ∷ moves) holds may up =
      let here = ap one_if (not_again p.passage.role move holds may.0 up) in
      let rest = never_again (end_moved rules acts p move) moves
      (keeps.kept p move holds may.0) may.1 (keeps.stays p move leg holds may.0 up) in
      omega (arith, here, rest)

  now_up : (p : EndPassage S) (move : EndMove) → Holds p.passage.role
      → MayEndMove rules p.passage.role move → is_up n move ≡ true
      → rules.was_up (end_moved rules acts p move).passage.role leg ≡ true
  now_up p (Moves (Up other cookie)) holds may is =
      subst (λ (l : Leg). rules.was_up (rules.up p.passage.role other cookie) l ≡ true)
      (up_leg n other is) (once.up p.passage.role other cookie holds may)
  now_up p (Moves (HeadCame other text)) holds may is = absurd cc
  now_up p (Moves (PduCame other count pdu)) holds may is = absurd cc
  now_up p (Moves (PacketCame other count named)) holds may is = absurd cc
  now_up p (Moves (Puts other)) holds may is = absurd cc
  now_up p (Moves (IsDrawn other)) holds may is = absurd cc
  now_up p (Moves (Marks other)) holds may is = absurd cc
  now_up p (Moves (Pings other)) holds may is = absurd cc
  now_up p (Gives pdu) holds may is = absurd cc
  now_up p Takes holds may is = absurd cc
  now_up p Closes holds may is = absurd cc
  now_up p Recycles holds may is = absurd cc

  pub up_once : (p : EndPassage S) (moves : List EndMove) → Holds p.passage.role
      → AreAllowedAtEnd rules acts p moves → ups_at moves n ≤ 1
  up_once p [] holds may = omega arith
  up_once p (move ∷ moves) holds may =
      by (up_once (end_moved rules acts p move) moves (keeps.kept p move holds may.0) may.1)
      (is_up n move) refl
    where
      by : ups_at moves n ≤ 1 → (b : Bool) → is_up n move ≡ b → one_if b + ups_at moves n ≤ 1
      by later true e =
          let rest = never_again (end_moved rules acts p move) moves
          (keeps.kept p move holds may.0) may.1 (now_up p move holds may.0 e) in
          omega (arith, rest)
      by later false e = omega (arith, later)

-- ---- how many came up

came_up_first : (n : ℕ) (move : EndMove) (moves : List EndMove) → is_up n move ≡ true
    → IsTrue (came_up (move ∷ moves) n)
came_up_first n move moves e =
    subst (λ (b : Bool). IsTrue (b || came_up moves n)) (sym e) refl

came_up_later : (n : ℕ) (move : EndMove) (moves : List EndMove) → IsTrue (came_up moves n)
    → IsTrue (came_up (move ∷ moves) n)
came_up_later n move moves up = by (is_up n move)
  where
    by : (b : Bool) → IsTrue (b || came_up moves n)
    by true = refl
    by false = up

pub came_up_at : (n : ℕ) (moves : List EndMove) → 1 ≤ ups_at moves n → IsTrue (came_up moves n)
came_up_at n [] some = absurd (omega (arith, some))
came_up_at n (move ∷ moves) some = by (came_up_at n moves) (is_up n move) refl some
  where
    by : (1 ≤ ups_at moves n → IsTrue (came_up moves n)) → (b : Bool) → is_up n move ≡ b
        → 1 ≤ one_if b + ups_at moves n → IsTrue (came_up (move ∷ moves) n)
    by later true e more = came_up_first n move moves e
    by later false e more = came_up_later n move moves (later (omega (arith, more)))

-- where all that came up have a lower number, these are summed
pub ups_summed : (moves : List EndMove) (n : ℕ)
    → ((k : ℕ) → IsTrue (came_up moves k) → k < n) → in_ups moves ≤ sum_below (ups_at moves) n
ups_summed [] n below = omega arith
ups_summed (Moves (Up other cookie) ∷ moves) n below =
    by (ups_summed moves n
    (λ k up. below k (came_up_later k (Moves (Up other cookie)) moves up)))
    (is_of InServer other) refl
  where
    all : List EndMove
    all = Moves (Up other cookie) ∷ moves

    by : in_ups moves ≤ sum_below (ups_at moves) n → (b : Bool) → is_of InServer other ≡ b
        → (if b then 1 else 0) + in_ups moves ≤ sum_below (ups_at all) n
    by rest true e =
        let up : is_up other.number (Moves (Up other cookie)) ≡ true =
        grind (arith, nat_tests, e) in
        let less = below other.number
        (came_up_first other.number (Moves (Up other cookie)) moves up) in
        let one = ap one_if up in
        let sum = sum_more (ups_at moves) (ups_at all) other.number 1 (λ k. omega arith)
        (omega (arith, one)) n less in
        omega (arith, sum, rest)
    by rest false e =
        let rises = sum_rises (ups_at moves) (ups_at all) (λ k. omega arith) n in
        omega (arith, rest, rises)
ups_summed (move ∷ moves) n below =
    let rest = ups_summed moves n (λ k up. below k (came_up_later k move moves up)) in
    let rises = sum_rises (ups_at moves) (ups_at (move ∷ moves)) (λ k. omega arith) n in
    omega (arith, rest, rises)
