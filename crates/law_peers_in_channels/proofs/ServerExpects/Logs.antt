-- packets of a log: on which leg they stand, and how many of them pass a test
use Rattle.law_order.proofs.Vocabulary.{◌≡◌, ◌⊎◌, ℕ, suc, ◌≤◌, Bool, true, false, if◌then◌else◌, List, [], ◌∷◌, inl, inr, refl, sym, subst, arith, nat_tests}
use Rattle.law_moves.proofs.Vocabulary.{Named, Leg, LegKind, Message, Text, Pdu, Packet, is_of, same_leg, OnLeg, of_leg, count_of, of_kind, HasOne, count_on}
use Rattle.law_moves.proofs.Lemmas.{one_more_so, some_legs}

-- ---- tests

module _ (P : Named → Type 0) (test : Named → Bool) where
  pub some_counted : ((m : Named) → test m ≡ true → P m) → (ms : List Message)
      → 1 ≤ count_of test ms → HasOne P ms
  some_counted so [] some = absurd (omega (arith, some))
  some_counted so (Text bytes ∷ ms) some = some_counted so ms some
  some_counted so (Pdu pdu ∷ ms) some = some_counted so ms some
  some_counted so (Packet m ∷ ms) some = by (test m) refl some (some_counted so ms)
    where
      by : (b : Bool) → test m ≡ b
          → 1 ≤ (if b then suc (count_of test ms) else count_of test ms)
          → (1 ≤ count_of test ms → HasOne P ms) → HasOne P (Packet m ∷ ms)
      by true is more rest = inl (so m is)
      by false is more rest = inr (rest more)

  pub counted_some : ((m : Named) → P m → test m ≡ true) → (ms : List Message) → HasOne P ms
      → 1 ≤ count_of test ms
  counted_some so [] has = absurd has
  counted_some so (Text bytes ∷ ms) has = counted_some so ms has
  counted_some so (Pdu pdu ∷ ms) has = counted_some so ms has
  counted_some so (Packet m ∷ ms) has = by has (counted_some so ms)
    where
      at : (b : Bool) → 1 ≤ count_of test ms
          → 1 ≤ (if b then suc (count_of test ms) else count_of test ms)
      at true more = omega arith
      at false more = more

      by : P m ⊎ HasOne P ms → (HasOne P ms → 1 ≤ count_of test ms)
          → 1 ≤ count_of test (Packet m ∷ ms)
      by (inl is) rest =
          subst (λ (b : Bool). 1 ≤ (if b then suc (count_of test ms) else count_of test ms))
          (sym (so m is)) (omega arith)
      by (inr more) rest = at (test m) (rest more)

-- ---- a message at the front

module _ (P : Named → Type 0) where
  behind_one : (message : Message) (ms : List Message) → HasOne P ms → HasOne P (message ∷ ms)
  behind_one (Text bytes) ms has = has
  behind_one (Pdu pdu) ms has = has
  behind_one (Packet m) ms has = inr has

  first_or_behind : (message : Message) (ms : List Message) → HasOne P (message ∷ ms)
      → HasOne P (message ∷ []) ⊎ HasOne P ms
  first_or_behind (Text bytes) ms has = inr has
  first_or_behind (Pdu pdu) ms has = inr has
  first_or_behind (Packet m) ms (inl is) = inl (inl is)
  first_or_behind (Packet m) ms (inr has) = inr has

-- ---- legs of a kind

abbrev pub leg_at : LegKind → ℕ → Leg
leg_at kind n = record { kind = kind; number = n }

own_leg : (kind : LegKind) (leg : Leg) → is_of kind leg ≡ true
    → same_leg leg (leg_at kind leg.number) ≡ true
own_leg kind leg e = grind (arith, nat_tests, e)

module _ (P : Named → Type 0) (kind : LegKind) where
  on_leg_too : (one : OnLeg) (log : List OnLeg) (n : ℕ) → HasOne P (of_leg (leg_at kind n) log)
      → HasOne P (of_leg (leg_at kind n) (one ∷ log))
  on_leg_too one log n has = by (same_leg one.0 (leg_at kind n))
    where
      by : (b : Bool) → HasOne P (if b then one.1 ∷ of_leg (leg_at kind n) log
          else of_leg (leg_at kind n) log)
      by true = behind_one P one.1 (of_leg (leg_at kind n) log) has
      by false = has

  -- on one of them it stands
  pub some_leg : (log : List OnLeg) → HasOne P (of_kind kind log)
      → (n : ℕ) × HasOne P (of_leg (leg_at kind n) log)
  some_leg [] has = absurd has
  some_leg (one ∷ log) has = by (is_of kind one.0) refl has (some_leg log)
    where
      Rest : Type 0
      Rest = HasOne P (of_kind kind log) → (n : ℕ) × HasOne P (of_leg (leg_at kind n) log)

      Goal : Type 0
      Goal = (n : ℕ) × HasOne P (of_leg (leg_at kind n) (one ∷ log))

      behind : Rest → HasOne P (of_kind kind log) → Goal
      behind rest more =
          let found = rest more in (found.0, on_leg_too one log found.0 found.1)

      here : is_of kind one.0 ≡ true → Rest
          → HasOne P (one.1 ∷ []) ⊎ HasOne P (of_kind kind log) → Goal
      here e rest (inr more) = behind rest more
      here e rest (inl is) =
          let leg = leg_at kind one.0.number in (
            one.0.number,
            subst (λ (b : Bool). HasOne P (if b then one.1 ∷ of_leg leg log else of_leg leg log))
                (sym (own_leg kind one.0 e)) (one_more_so P (one.1 ∷ []) (of_leg leg log) is),
          )

      by : (b : Bool) → is_of kind one.0 ≡ b
          → HasOne P (if b then one.1 ∷ of_kind kind log else of_kind kind log) → Rest → Goal
      by true e has rest = here e rest (first_or_behind P one.1 (of_kind kind log) has)
      by false e has rest = behind rest has

-- no more stand on one than on all
pub leg_of_all : (test : Named → Bool) (kind : LegKind) (log : List OnLeg) (n : ℕ)
    → count_on test kind log n ≤ count_of test (of_kind kind log)
leg_of_all test kind log n =
    let some = some_legs test kind log (suc n) in omega (arith, some)
