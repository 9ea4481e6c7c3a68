-- one more message, and what began before
use Rattle.law_order.proofs.Vocabulary.{◌≡◌, ℕ, ◌==◌, ◌&&◌, Bool, true, false, if◌then◌else◌, List, [], ◌∷◌, ◌++◌, inl, inr, refl, sym, subst, and_parts, append_assoc, append-nil}
use Rattle.law_moves.proofs.Vocabulary.{test_same, same_number, Named, Leg, LegKind, Message, Text, Pdu, Packet, same_leg, kind_number, OnLeg, of_leg, Has, HasOne}
use Rattle.law_moves.proofs.Lemmas.{leg_more, one_more_so}
use Rattle.law_role_client.proofs.Vocabulary.{EachBehind}

behind_more : (Is : List OnLeg → OnLeg → Type 0) (front log : List OnLeg) (one : OnLeg)
    → EachBehind Is front log → Is (front ++ log) one → EachBehind Is front (log ++ one ∷ [])
behind_more Is front [] one all is =
    (subst (λ (f : List OnLeg). Is f one) (append-nil front) is, tt)
behind_more Is front (x ∷ log) one all is = (
  all.0,
  behind_more Is (front ++ x ∷ []) log one all.1
      (subst (λ (f : List OnLeg). Is f one) (sym (append_assoc front (x ∷ []) log)) is),
)

pub one_more_behind : (Is : List OnLeg → OnLeg → Type 0) (log : List OnLeg) (one : OnLeg)
    → EachBehind Is [] log → Is log one → EachBehind Is [] (log ++ one ∷ [])
one_more_behind Is log one all is = behind_more Is [] log one all is

-- ---- on a leg

one_behind : (Is : Named → Type 0) (a b : List Message) → HasOne Is b → HasOne Is (a ++ b)
one_behind Is [] b h = h
one_behind Is (Text bytes ∷ a) b h = one_behind Is a b h
one_behind Is (Pdu pdu ∷ a) b h = one_behind Is a b h
one_behind Is (Packet named ∷ a) b h = inr (one_behind Is a b h)

pub still_has : (Is : Named → Type 0) (leg : Leg) (log : List OnLeg) (one : OnLeg)
    → HasOne Is (of_leg leg log) → HasOne Is (of_leg leg (log ++ one ∷ []))
still_has Is leg log one h =
    subst (HasOne Is) (sym (leg_more leg log one))
    (one_more_so Is (of_leg leg log) (of_leg leg (one ∷ [])) h)

pub both_true : (a b : Bool) → a ≡ true → b ≡ true → a && b ≡ true
both_true true true e o = refl
both_true true false e o = absurd (cc)
both_true false b e o = absurd (cc)

same_leg_of : (leg : Leg) (kind : LegKind) (n : ℕ) → leg.kind ≡ kind → leg.number ≡ n
    → same_leg leg (record { kind = kind; number = n }) ≡ true
same_leg_of leg kind n k at =
    both_true (kind_number leg.kind == kind_number kind) (leg.number == n)
    (subst (λ (j : LegKind). (kind_number j == kind_number kind) ≡ true) (sym k)
    (test_same (kind_number kind)))
    (subst (λ (i : ℕ). (i == n) ≡ true) (sym at) (test_same n))

pub now_has : (Is : Named → Type 0) (kind : LegKind) (n : ℕ) (log : List OnLeg) (one : OnLeg)
    → one.0.kind ≡ kind → one.0.number ≡ n → HasOne Is (one.1 ∷ [])
    → HasOne Is (of_leg (record { kind = kind; number = n }) (log ++ one ∷ []))
now_has Is kind n log (leg, m) k at is =
    let on : Leg = record { kind = kind; number = n } in
    subst (HasOne Is) (sym (leg_more on log (leg, m)))
    (one_behind Is (of_leg on log) (of_leg on ((leg, m) ∷ []))
    (subst (λ (b : Bool). HasOne Is (if b then m ∷ [] else [])) (sym (same_leg_of leg kind n k at))
    is))

pub still_has_all : (Is : Named → Type 0) (leg : Leg) (a b : List OnLeg)
    → HasOne Is (of_leg leg a) → HasOne Is (of_leg leg (a ++ b))
still_has_all Is leg a [] h =
    subst (λ (log : List OnLeg). HasOne Is (of_leg leg log)) (sym (append-nil a)) h
still_has_all Is leg a (x ∷ b) h =
    subst (λ (log : List OnLeg). HasOne Is (of_leg leg log)) (append_assoc a (x ∷ []) b)
    (still_has_all Is leg (a ++ x ∷ []) b (still_has Is leg a x h))

pub has_one : (Is : Named → Type 0) (named : Named) (ms : List Message) → Is named
    → Has named ms → HasOne Is ms
has_one Is named [] is h = absurd h
has_one Is named (m ∷ ms) is (inl same) =
    subst (λ (x : Message). HasOne Is (x ∷ ms)) (sym same) (inl is)
has_one Is named (Text bytes ∷ ms) is (inr rest) = has_one Is named ms is rest
has_one Is named (Pdu pdu ∷ ms) is (inr rest) = has_one Is named ms is rest
has_one Is named (Packet other ∷ ms) is (inr rest) = inr (has_one Is named ms is rest)

-- a packet of a leg in such a log
pub record Found (Is : List OnLeg → OnLeg → Type 0) (at : Leg) (named : Named)
    (log : List OnLeg) : Type 0 where
  pub before : List OnLeg
  pub rest : List OnLeg
  pub joined : log ≡ before ++ rest
  pub leg : Leg
  pub number : leg.number ≡ at.number
  pub so : Is before (leg, Packet named)

pub found : (Is : List OnLeg → OnLeg → Type 0) (at : Leg) (named : Named)
    (front log : List OnLeg) → EachBehind Is front log → Has named (of_leg at log)
    → Found Is at named (front ++ log)
found Is at named front [] all h = absurd h
found Is at named front ((leg, m) ∷ log) all h =
    by (same_leg leg at) refl
    (λ later. subst (Found Is at named) (append_assoc front ((leg, m) ∷ []) log)
    (found Is at named (front ++ (leg, m) ∷ []) log all.1 later))
    h
  where
    by : (b : Bool) → same_leg leg at ≡ b
        → (Has named (of_leg at log) → Found Is at named (front ++ (leg, m) ∷ log))
        → Has named (if b then m ∷ of_leg at log else of_leg at log)
        → Found Is at named (front ++ (leg, m) ∷ log)
    by true e further (inl is) = record {
      before = front;
      rest = (leg, m) ∷ log;
      joined = refl;
      leg = leg;
      number = same_number leg.number at.number (and_parts _ _ e).1;
      so = subst (λ (x : Message). Is front (leg, x)) is all.0;
    }
    by true e further (inr later) = further later
    by false e further later = further later
