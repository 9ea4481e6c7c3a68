-- a piece that closes a node closes it by one of its bytes
use Rattle.law_order.proofs.Vocabulary.{◌≡◌, ℕ, List, [], ◌∷◌, ◌++◌, Some, None, refl, sym, ap, ◌∙◌, subst, Option}
use Rattle.law_moves.proofs.Vocabulary.{Cause, Leg, Course, Going, Closed, Refusing, hear, NearEnd, Rules, Shell, bytes, bytes_at, bytes_by, end_at, ClosedWith, Stays}

module _ {S : Type 0} (rules : Rules S) (leg : Leg) where
  -- the node goes on behind the front, and the byte behind that closes it
  pub record AtByte (s : Shell S) (piece : List ℕ) (why : Cause) : Type 0 where
    pub front : List ℕ
    pub byte : ℕ
    pub behind : List ℕ
    pub split : piece ≡ front ++ byte ∷ behind
    pub going : (bytes rules s leg front).0.course ≡ Going
    pub closed : ClosedWith why
        (bytes rules (bytes rules s leg front).0 leg (byte ∷ [])).0.course

  -- an empty piece changes no course
  nothing_goes : (s : Shell S) → s.course ≡ Going → (bytes rules s leg []).0.course ≡ Going
  unfolding hear
  nothing_goes s going =
      subst (λ (c : Course). (bytes_by rules s leg [] c).course ≡ Going) (sym going)
      (by (end_at s leg))
    where
      by : (o : Option NearEnd) → (bytes_at rules s leg [] o).course ≡ Going
      by None = going
      by (Some end) = going

  module _ (cuts : (s : Shell S) (a b : List ℕ)
      → bytes rules s leg (a ++ b) ≡ bytes rules (bytes rules s leg a).0 leg b)
      (stays : (s : Shell S) (why : Cause) → ClosedWith why s.course → Stays rules s why) where
    pub at_byte : (s : Shell S) (piece : List ℕ) (why : Cause) → s.course ≡ Going
        → ClosedWith why (bytes rules s leg piece).0.course → AtByte s piece why
    at_byte s [] why going closed =
        absurd (subst (ClosedWith why) (nothing_goes s going) closed)
    at_byte s (b ∷ bs) why going closed =
        by (bytes rules s leg (b ∷ [])).0.course refl
        (at_byte (bytes rules s leg (b ∷ [])).0 bs why)
      where
        t : Shell S
        t = (bytes rules s leg (b ∷ [])).0

        behind : ClosedWith why (bytes rules t leg bs).0.course
        behind = subst (λ x. ClosedWith why x.0.course) (cuts s (b ∷ []) bs) closed

        -- it was the first byte
        first : (one : Cause) → ClosedWith one t.course → AtByte s (b ∷ bs) why
        first one is = record {
          front = [];
          byte = b;
          behind = bs;
          split = refl;
          going = nothing_goes s going;
          closed =
              subst (λ x. ClosedWith why x.0.course) (cuts s [] (b ∷ []))
              (subst (λ x. ClosedWith why x.0.course) ((stays t one is).bytes leg bs) behind);
        }

        by : (c : Course) → t.course ≡ c
            → (t.course ≡ Going → ClosedWith why (bytes rules t leg bs).0.course
            → AtByte t bs why) → AtByte s (b ∷ bs) why
        by Going e rest =
            let at = rest e behind in record {
              front = b ∷ at.front;
              byte = at.byte;
              behind = at.behind;
              split = ap (λ (xs : List ℕ). b ∷ xs) at.split;
              going =
                  ap (λ x. x.0.course) (cuts s (b ∷ []) at.front) ∙ at.going;
              closed = subst
                  (λ x. ClosedWith why (bytes rules x.0 leg (at.byte ∷ [])).0.course)
                  (sym (cuts s (b ∷ []) at.front)) at.closed;
            }
        by (Closed one) e rest = first one (subst (ClosedWith one) (sym e) refl)
        by (Refusing one client left) e rest = first one (subst (ClosedWith one) (sym e) refl)
