-- a message among those of a leg, and in the log
use Rattle.law_order.proofs.Vocabulary.{◌≡◌, ℕ, ◌==◌, List, [], ◌∷◌, ◌++◌, Bool, true, false, if◌then◌else◌, refl, sym, ap, ◌∙◌, subst, false≢true, and_parts}
use Rattle.law_moves.proofs.Vocabulary.{by_test, same_number, Leg, LegKind, Message, is_of, same_leg, OnLeg, of_leg, of_kind}
use Rattle.law_moves.proofs.Lemmas.{kind_is}
use Rattle.law_role_server.proofs.Vocabulary.{leg_at}

pub leg_is : (kind : LegKind) (n : ℕ) (leg : Leg) → same_leg leg (leg_at kind n) ≡ true
    → leg ≡ leg_at kind n
leg_is kind n leg e =
    let both = and_parts (is_of leg.kind (leg_at kind n)) (leg.number == n) e in
    ap (λ (k : LegKind). leg_at k leg.number) (kind_is leg.kind kind both.0)
    ∙ ap (leg_at kind) (same_number leg.number n both.1)

-- a message of a leg stands in the log, between those before and behind
pub record Split (kind : LegKind) (n : ℕ) (log : List OnLeg) (before : List Message) (m : Message)
    (behind : List Message) : Type 0 where
  pub front : List OnLeg
  pub back : List OnLeg
  pub whole : log ≡ front ++ (leg_at kind n, m) ∷ back
  pub before_is : of_leg (leg_at kind n) front ≡ before
  pub behind_is : of_leg (leg_at kind n) back ≡ behind

none_before : (before : List Message) (m : Message) (behind : List Message)
    → [] ≡ before ++ m ∷ behind → ⊥
none_before [] m behind e = cc
none_before (x ∷ before) m behind e = cc

module _ (kind : LegKind) (n : ℕ) where
  later : (one : OnLeg) (log : List OnLeg) (before : List Message) (m : Message)
      (behind : List Message) → same_leg one.0 (leg_at kind n) ≡ false
      → Split kind n log before m behind → Split kind n (one ∷ log) before m behind
  later one log before m behind other h = record {
    front = one ∷ h.front;
    back = h.back;
    whole = ap (λ (l : List OnLeg). one ∷ l) h.whole;
    before_is = by_test (λ (ms : List Message). ms ≡ before)
        (same_leg one.0 (leg_at kind n)) (one.1 ∷ of_leg (leg_at kind n) h.front)
        (of_leg (leg_at kind n) h.front) (λ e. absurd (false≢true (sym other ∙ e)))
        (λ e. h.before_is);
    behind_is = h.behind_is;
  }

  past : (one : OnLeg) (log : List OnLeg) (before : List Message) (m : Message)
      (behind : List Message) → same_leg one.0 (leg_at kind n) ≡ true
      → Split kind n log before m behind → Split kind n (one ∷ log) (one.1 ∷ before) m behind
  past one log before m behind here h = record {
    front = one ∷ h.front;
    back = h.back;
    whole = ap (λ (l : List OnLeg). one ∷ l) h.whole;
    before_is = by_test (λ (ms : List Message). ms ≡ one.1 ∷ before)
        (same_leg one.0 (leg_at kind n)) (one.1 ∷ of_leg (leg_at kind n) h.front)
        (of_leg (leg_at kind n) h.front)
        (λ e. ap (λ (ms : List Message). one.1 ∷ ms) h.before_is)
        (λ e. absurd (false≢true (sym e ∙ here)));
    behind_is = h.behind_is;
  }

  pub split : (log : List OnLeg) (before : List Message) (m : Message) (behind : List Message)
      → of_leg (leg_at kind n) log ≡ before ++ m ∷ behind → Split kind n log before m behind
  split [] before m behind e = absurd (none_before before m behind e)
  split (one ∷ log) before m behind e =
      by (same_leg one.0 (leg_at kind n)) refl before e (split log)
    where
      at : same_leg one.0 (leg_at kind n) ≡ true → one.1 ≡ m → one ≡ (leg_at kind n, m)
      at is same =
          ap (λ (l : Leg). (l, one.1)) (leg_is kind n one.0 is)
          ∙ ap (λ (y : Message). (leg_at kind n, y)) same

      here : same_leg one.0 (leg_at kind n) ≡ true → (before : List Message)
          → one.1 ∷ of_leg (leg_at kind n) log ≡ before ++ m ∷ behind
          → ((before : List Message) (m : Message) (behind : List Message)
          → of_leg (leg_at kind n) log ≡ before ++ m ∷ behind
          → Split kind n log before m behind) → Split kind n (one ∷ log) before m behind
      here is [] e rest = record {
        front = [];
        back = log;
        whole = ap (λ (l : OnLeg). l ∷ log) (at is (cc));
        before_is = refl;
        behind_is = cc;
      }
      here is (first ∷ before) e rest =
          subst (λ (y : Message). Split kind n (one ∷ log) (y ∷ before) m behind) (cc)
          (past one log before m behind is (rest before m behind (cc)))

      by : (b : Bool) → same_leg one.0 (leg_at kind n) ≡ b → (before : List Message)
          → (if b then one.1 ∷ of_leg (leg_at kind n) log else of_leg (leg_at kind n) log)
          ≡ before ++ m ∷ behind
          → ((before : List Message) (m : Message) (behind : List Message)
          → of_leg (leg_at kind n) log ≡ before ++ m ∷ behind
          → Split kind n log before m behind) → Split kind n (one ∷ log) before m behind
      by true is before e rest = here is before e rest
      by false is before e rest = later one log before m behind is (rest before m behind e)

pub kind_append : (kind : LegKind) (a b : List OnLeg)
    → of_kind kind (a ++ b) ≡ of_kind kind a ++ of_kind kind b
kind_append kind [] b = refl
kind_append kind (one ∷ a) b = by (is_of kind one.0) (kind_append kind a b)
  where
    by : (t : Bool) → of_kind kind (a ++ b) ≡ of_kind kind a ++ of_kind kind b
        → (if t then one.1 ∷ of_kind kind (a ++ b) else of_kind kind (a ++ b))
        ≡ (if t then one.1 ∷ of_kind kind a else of_kind kind a) ++ of_kind kind b
    by true rest = ap (λ (ms : List Message). one.1 ∷ ms) rest
    by false rest = rest
