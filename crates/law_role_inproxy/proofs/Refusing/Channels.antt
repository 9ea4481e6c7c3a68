-- what came on the ci legs of an in proxy's channels
use Rattle.law_order.proofs.Vocabulary.{◌≡◌, ℕ, suc, ◌≤◌, ◌==◌, ◌&&◌, Bool, true, false, not, if◌then◌else◌, Some, None, inl, inr, refl, sym, ap, subst, ◌∙◌, arith, and_parts, eqb-true, or_cases, nat_tests, ◌⊎◌, Option, pdus, has_end, has_handover, PasserLaw, Shelf}
use Rattle.rh_line.specs.Lines as line
use Rattle.law_moves.proofs.Vocabulary.{Which, Current, Next, Passage, of_leg}
use Rattle.law_role_inproxy.proofs.Vocabulary.{Opener, Successor, Absent, Up, Joined, is_some, has_later, opener_of, InProxy, channel_of, has_a5, has_come, has_opened, is_joined, next_of, came_log, next_shelf, passer_of, put_items, shelf, IsEnded, IsLeft, IsNew, ci_leg}
use Rattle.law_role_inproxy.proofs.Refusing.Items.{below_ended, came_is, ended_has, handed_counts, pdus_have}
use Rattle.law_role_inproxy.proofs.Refusing.Legs.{All, IsBehind, bound, plain, seen}
use Rattle.law_role_inproxy.proofs.Refusing.Steps.{is_opened}
use Rattle.law_role_inproxy.specs.Refusing.{HasPdu}

and_second : (a b : Bool) → (a && b) ≡ false → a ≡ true → b ≡ false
and_second true b e f = e
and_second false b e f = absurd cc

plain_joined : (z : Successor) → is_joined (plain z) ≡ is_joined z
plain_joined Absent = refl
plain_joined (Up number) = refl
plain_joined (Joined leg stage) = refl

-- ---- the channel of a ci leg

abbrev pub At : InProxy → ℕ → Which → Type 0
At s k Current = s.current.number ≡ k
At s k Next = (suc s.current.number ≡ k) × (is_joined s.successor ≡ true)

-- what came on the leg of a channel, and on one that has none
pub record Carries (p : Passage InProxy) : Type 0 where
  pub at : (k : ℕ) (which : Which) → channel_of p.role k ≡ Some which → At p.role k which
  pub is_new : (k : ℕ) → p.role.current.number ≤ k → channel_of p.role k ≡ None → IsNew p k
  pub left : (k : ℕ) (which : Which) → At p.role k which → has_a5 p.role which ≡ true
      → IsLeft p k
  pub ended : (k : ℕ) (which : Which) → At p.role k which
      → (line.channel_of p.role.line which).ended ≡ true → IsEnded p k
  pub has_pdu : (k : ℕ) → At p.role k Current → has_later p.role Current ≡ true
      → HasPdu p (suc k)
  pub ended_before : (k : ℕ) (which : Which) → At p.role k which
      → line.is_ended p.role.line ≡ true → (j : ℕ) × (j ≤ k) × IsEnded p j

-- ---- what is known of it

module _ (n : ℕ) (p : Passage InProxy) (known : All n (seen p.role) p.came)
    (order : PasserLaw (passer_of p.role) n (came_log p.came) (put_items p.put)) where
  abbrev s : InProxy
  s = p.role

  abbrev c : ℕ
  c = p.role.current.number

  at_next : (z : Successor) (k : ℕ) (which : Which) → IsBehind c (plain z)
      → next_of z k ≡ Some which
      → (which ≡ Next) × (suc c ≡ k) × (is_joined z ≡ true)
  at_next Absent k which b e = absurd cc
  at_next (Up number) k which b e = absurd cc
  at_next (Joined leg stage) k which b e = by (leg.number == k) refl e
    where
      by : (t : Bool) → (leg.number == k) ≡ t → (if t then Some Next else None) ≡ Some which
          → (which ≡ Next) × (suc c ≡ k) × (true ≡ true)
      by true t e =
          let is : which ≡ Next = cc in (is, sym b ∙ eqb-true leg.number k t, refl)
      by false t e = absurd cc

  at : (k : ℕ) (which : Which) → channel_of s k ≡ Some which → At s k which
  at k which e = by (has_opened s.opening && (c == k)) refl e
    where
      by : (t : Bool) → (has_opened s.opening && (c == k)) ≡ t
          → (if t then Some Current else next_of s.successor k) ≡ Some which → At s k which
      by true t e =
          let is : which ≡ Current = cc in
          subst (At s k) (sym is)
          (eqb-true c k (and_parts (has_opened s.opening) (c == k) t).1)
      by false t e =
          let found = at_next s.successor k which known.behind e in
          subst (At s k) (sym found.0) (found.1, found.2)

  -- no packet came where there is none
  none_by : (o : Option Opener) (z : Successor) (k : ℕ) → c ≤ k
      → (is_some o ≡ true → (c == k) ≡ false) → IsBehind c (plain z) → next_of z k ≡ None
      → bound n o s.current (plain z) ≤ k
  none_by None z k from apart b e = let least = known.from in omega (arith, least, from)
  none_by (Some o) Absent k from apart b e = let f = apart refl in grind (arith, nat_tests)
  none_by (Some o) (Up number) k from apart b e = let f = apart refl in grind (arith, nat_tests)
  none_by (Some o) (Joined leg stage) k from apart b e =
      let f = apart refl in by f (leg.number == k) refl e
    where
      by : (c == k) ≡ false → (t : Bool) → (leg.number == k) ≡ t
          → (if t then Some Next else None) ≡ None → suc leg.number ≤ k
      by f true t e = absurd cc
      by f false t e = grind (arith, nat_tests)

  is_new : (k : ℕ) → c ≤ k → channel_of s k ≡ None → IsNew p k
  is_new k from e = known.fresh k (by (has_opened s.opening && (c == k)) refl e)
    where
      by : (t : Bool) → (has_opened s.opening && (c == k)) ≡ t
          → (if t then Some Current else next_of s.successor k) ≡ None
          → bound n (opener_of s.opening) s.current (plain s.successor) ≤ k
      by true t e = absurd cc
      by false t e =
          none_by (opener_of s.opening) s.successor k from
          (λ some. and_second (has_opened s.opening) (c == k) t (is_opened s.opening ∙ some))
          known.behind e

  -- ---- what came there

  next_is : (z : Successor) → is_joined z ≡ true
      → shelf s.line.next (has_come s.handover) ≡ next_shelf s.line.next z s.handover
  next_is Absent e = absurd cc
  next_is (Up number) e = absurd cc
  next_is (Joined leg stage) e = refl

  left_at : (k : ℕ) → has_handover (came_log p.came k) ≡ true → IsLeft p k
  left_at k e =
      handed_counts (of_leg (ci_leg k) p.came)
      (sym (ap has_handover (came_is k p.came)) ∙ e)

  ended_at : (k : ℕ) → has_end (came_log p.came k) ≡ true → IsEnded p k
  ended_at k e =
      ended_has (of_leg (ci_leg k) p.came) (sym (ap has_end (came_is k p.came)) ∙ e)

  pdu_at : (k : ℕ) → line.is_empty (pdus (came_log p.came k)) ≡ false → HasPdu p k
  pdu_at k e =
      pdus_have (of_leg (ci_leg k) p.came)
      (sym (ap (λ items. line.is_empty (pdus items)) (came_is k p.came)) ∙ e)

  left : (k : ℕ) (which : Which) → At s k which → has_a5 s which ≡ true → IsLeft p k
  left k Current at e =
      subst (IsLeft p) at (left_at c (sym order.shelved.holds.finished ∙ e))
  left k Next at e =
      subst (IsLeft p) at.0 (left_at (suc c) (sym order.shelved.holds.next_finished
      ∙ sym (ap (λ (x : Shelf). x.finished) (next_is s.successor at.1)) ∙ e))

  ended : (k : ℕ) (which : Which) → At s k which → (line.channel_of s.line which).ended ≡ true
      → IsEnded p k
  ended k Current at e =
      subst (IsEnded p) at (ended_at c (sym order.shelved.holds.ended ∙ e))
  ended k Next at e =
      subst (IsEnded p) at.0 (ended_at (suc c) (sym order.shelved.holds.next_ended
      ∙ sym (ap (λ (x : Shelf). x.ended) (next_is s.successor at.1)) ∙ e))

  has_pdu : (k : ℕ) → At s k Current → has_later s Current ≡ true → HasPdu p (suc k)
  has_pdu k at e =
      let parts = and_parts s.line.has_next (not (line.is_empty s.line.next.pdus)) e in
      let there : is_joined s.successor ≡ true =
      sym (plain_joined s.successor) ∙ sym known.joined ∙ parts.0 in
      let some : line.is_empty s.line.next.pdus ≡ false = by (line.is_empty s.line.next.pdus)
      parts.1 in
      subst (λ (j : ℕ). HasPdu p (suc j)) at (pdu_at (suc c)
      (sym (ap line.is_empty order.shelved.holds.follows)
      ∙ sym (ap (λ (x : Shelf). line.is_empty x.held) (next_is s.successor there)) ∙ some))
    where
      by : (t : Bool) → not t ≡ true → t ≡ false
      by true e = absurd cc
      by false e = refl

  ended_before : (k : ℕ) (which : Which) → At s k which → line.is_ended s.line ≡ true
      → (j : ℕ) × (j ≤ k) × IsEnded p j
  ended_before k which at e = by (or_cases s.line.was_ended s.line.current.ended e)
    where
      least : (which : Which) → At s k which → c ≤ k
      least Current at = omega (arith, at)
      least Next at = let is = at.0 in omega (arith, is)

      by : (s.line.was_ended ≡ true) ⊎ (s.line.current.ended ≡ true)
          → (j : ℕ) × (j ≤ k) × IsEnded p j
      by (inl before) =
          let found = below_ended (came_log p.came) c (sym order.shelved.holds.was_ended ∙ before)
          in let less = found.1 in
          let up = least which at in
          (found.0, omega (arith, less, up), ended_at found.0 found.2)
      by (inr now) = (c, least which at, ended_at c (sym order.shelved.holds.ended ∙ now))

  pub channels_carry : Carries p
  channels_carry = record {
    at = at;
    is_new = is_new;
    left = left;
    ended = ended;
    has_pdu = has_pdu;
    ended_before = ended_before;
  }
