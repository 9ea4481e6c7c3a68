-- a message more in a log, of the messages of a leg, and of some leg of a kind
use Rattle.law_order.proofs.Vocabulary.{◌≡◌, ℕ, Bool, true, if◌then◌else◌, List, [], ◌∷◌, ◌++◌, arith, sym, subst, nat_tests}
use Rattle.law_moves.proofs.Vocabulary.{Cookie, Named, Leg, LegKind, Message, Packet, same_leg, is_of, OnLeg, of_leg, BeginsIn, HasBegunIn}
use Rattle.law_moves.proofs.Lemmas.{leg_more, one_more_so, last_one_so}

module _ (P : List Message → Type 0) where
  -- what more messages leave
  abbrev pub Grows : Type 0
  Grows = (a b : List Message) → P a → P (a ++ b)

  pub on_more : Grows → (leg : Leg) (came : List OnLeg) (one : OnLeg) → P (of_leg leg came)
      → P (of_leg leg (came ++ one ∷ []))
  on_more grows leg came one h =
      subst P (sym (leg_more leg came one))
      (grows (of_leg leg came) (of_leg leg (one ∷ [])) h)

  pub on_last : (leg other : Leg) (came : List OnLeg) (m : Message) → same_leg other leg ≡ true
      → P (of_leg leg came ++ m ∷ []) → P (of_leg leg (came ++ (other, m) ∷ []))
  on_last leg other came m same h =
      subst P (sym (leg_more leg came (other, m)))
      (subst (λ (b : Bool). P (of_leg leg came ++ (if b then m ∷ [] else []))) (sym same) h)

  -- ---- on some leg of a kind

  abbrev pub OnSome : LegKind → List OnLeg → Type 0
  OnSome kind log = (n : ℕ) × P (of_leg (record { kind = kind; number = n }) log)

  pub some_more : Grows → (kind : LegKind) (came : List OnLeg) (one : OnLeg) → OnSome kind came
      → OnSome kind (came ++ one ∷ [])
  some_more grows kind came one h =
      (h.0, on_more grows (record { kind = kind; number = h.0 }) came one h.1)

  pub some_last : (kind : LegKind) (leg : Leg) (came : List OnLeg) (m : Message)
      → is_of kind leg ≡ true → ((ms : List Message) → P (ms ++ m ∷ []))
      → OnSome kind (came ++ (leg, m) ∷ [])
  some_last kind leg came m of last =
      let to : Leg = record { kind = kind; number = leg.number } in
      let same : same_leg leg to ≡ true = grind (arith, nat_tests, of) in
      (leg.number, on_last to leg came m same (last (of_leg to came)))

-- ---- what came on a leg

pub leg_begun : (leg : Leg) (cookie : Cookie) (came : List OnLeg) (one : OnLeg)
    → HasBegunIn cookie (of_leg leg came) → HasBegunIn cookie (of_leg leg (came ++ one ∷ []))
leg_begun leg cookie = on_more (HasBegunIn cookie) (one_more_so (BeginsIn cookie)) leg

-- a packet begins a channel on its leg
pub leg_begins : (leg other : Leg) (cookie : Cookie) (came : List OnLeg) (named : Named)
    → same_leg other leg ≡ true → BeginsIn cookie named
    → HasBegunIn cookie (of_leg leg (came ++ (other, Packet named) ∷ []))
leg_begins leg other cookie came named same begins =
    on_last (HasBegunIn cookie) leg other came (Packet named) same
    (last_one_so (BeginsIn cookie) (of_leg leg came) named begins)
