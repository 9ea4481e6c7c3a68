-- on a ci leg for which an in proxy has no more use, IN_R1/A5 came, or END/A1 there or before
use Rattle.law_order.proofs.Vocabulary.{◌≡◌, ◌⊎◌, inl, inr, ℕ, suc, ◌<◌, ◌≤◌, ◌==◌, Bool, true, false, true≢false, ◌&&◌, ◌||◌, not, List, nat_le, nat_lt, arith, refl, sym, ◌∙◌, subst, ap, nat_tests, AllByRecursion, has_end, has_handover, below, through}
use Rattle.rh_inproxy.specs.declared.state.Opening.TheVariants as openings
use Rattle.rh_inproxy.specs.declared.state.Successor.TheVariants as successors
use Rattle.rh_inproxy.specs.declared.state.Work.TheVariants as works
use Rattle.law_moves.proofs.Vocabulary.{has_end-append, same_number, Leg, is_ended, AreAllowed, Move, OnLeg, Passage, started, all_moved, is_in_use}
use Rattle.law_role_inproxy.proofs.Vocabulary.{Handover, Before, Came, Passed, InProxyConfig, TellsServer, Told, Follows, Opening, Successor, Work, InProxy, first, hands_over, had_client, is_absent, newest, newest_by, phase_by, up, was_up, is_done, is_succeeded, newest_ended, has_passed, rules as proxy_rules, KeepsOrder, came_log, next_shelf, put_items}
use Rattle.law_node_ends.proofs.Passed.Allowed.{moves_keep, of_role}
use Rattle.law_node_ends.proofs.Passed.InProxyKept.{Holds, IsBehind, IsWork, Over}
use Rattle.law_node_ends.proofs.Passed.InProxyPuts.{keeps, starts}
use Rattle.law_node_ends.specs.Passed.{AsksNoEcho, HeadsAre, IsDoneBehindEnd, IsDoneBehindEnds, ci_leg, is_leg}

-- ---- a leg that is done

-- the work is done, or the leg is
unused : (s : InProxy) (leg : Leg) → is_in_use proxy_rules s leg ≡ false
    → (s.work ≡ works.Done) ⊎ (is_done s leg ≡ true)
unused s leg e = by s.work refl s.opening (is_done s leg) refl e
  where
    by : (w : Work) → s.work ≡ w → (o : Opening) (b : Bool) → is_done s leg ≡ b
        → (not (is_ended (phase_by w o)) && not b) ≡ false
        → (s.work ≡ works.Done) ⊎ (is_done s leg ≡ true)
    by works.Done is o b f e = inl is
    by w is o true f e = inr f
    by works.Underway is openings.AwaitsClient false f e = absurd (true≢false e)
    by works.Underway is openings.AwaitsPacket false f e = absurd (true≢false e)
    by works.Underway is (openings.WantsServer opener) false f e = absurd (true≢false e)
    by works.Underway is (openings.Announces opener) false f e = absurd (true≢false e)
    by works.Underway is (openings.Announced opener) false f e = absurd (true≢false e)
    by (works.EchoDue number) is openings.AwaitsClient false f e = absurd (true≢false e)
    by (works.EchoDue number) is openings.AwaitsPacket false f e = absurd (true≢false e)
    by (works.EchoDue number) is (openings.WantsServer opener) false f e = absurd (true≢false e)
    by (works.EchoDue number) is (openings.Announces opener) false f e = absurd (true≢false e)
    by (works.EchoDue number) is (openings.Announced opener) false f e = absurd (true≢false e)
    by (works.EchoPut number) is openings.AwaitsClient false f e = absurd (true≢false e)
    by (works.EchoPut number) is openings.AwaitsPacket false f e = absurd (true≢false e)
    by (works.EchoPut number) is (openings.WantsServer opener) false f e = absurd (true≢false e)
    by (works.EchoPut number) is (openings.Announces opener) false f e = absurd (true≢false e)
    by (works.EchoPut number) is (openings.Announced opener) false f e = absurd (true≢false e)

-- IN_R1/A5 came on the current ci leg
succeeded : (z : Successor) (h : Handover) → is_succeeded z ≡ true → hands_over z h ≡ true
succeeded successors.Absent h e = absurd (true≢false (sym e))
succeeded (successors.Up number) h e = absurd (true≢false (sym e))
succeeded (successors.Joined client Told) h e = absurd (true≢false (sym e))
succeeded (successors.Joined client (TellsServer behind)) h e = absurd (true≢false (sym e))
succeeded (successors.Joined client Follows) h e = refl

passed_on : (z : Successor) (h : Handover) → is_absent z ≡ true → has_passed h ≡ true
    → hands_over z h ≡ true
passed_on (successors.Up number) h a e = absurd (true≢false (sym a))
passed_on (successors.Joined client stage) h a e = absurd (true≢false (sym a))
passed_on successors.Absent Before a e = absurd (true≢false (sym e))
passed_on successors.Absent (Came cookie) a e = refl
passed_on successors.Absent Passed a e = refl

-- it came up
record CameUp (s : InProxy) (n : ℕ) : Type 0 where
  from : nat_le s.config.number n ≡ true
  upto : nat_le n (newest s) ≡ true

came_up : (s : InProxy) (n : ℕ) → was_up s (ci_leg n) ≡ true → CameUp s n
came_up s n e =
    by (had_client s.opening) (nat_le s.config.number n) (nat_le n (newest s)) refl refl e
  where
    by : (a b c : Bool) → nat_le s.config.number n ≡ b → nat_le n (newest s) ≡ c
        → ((true && a && b && c) || false) ≡ true → CameUp s n
    by true true true f g e = record { from = f; upto = g }
    by false b c f g e = absurd (true≢false (sym e))
    by true false c f g e = absurd (true≢false (sym e))
    by true true false f g e = absurd (true≢false (sym e))

module _ (config : InProxyConfig) (Lost : Type 0) (s : InProxy) (came put : List OnLeg) (n : ℕ)
    (order : KeepsOrder config.number (record { role = s; came = came; put = put }))
    (h : Holds config Lost s) (up : was_up s (ci_leg n) ≡ true) where
  abbrev IsHanded : Type 0
  IsHanded = has_handover (came_log came n) ≡ true

  -- END came there or before
  abbrev IsEnded : Type 0
  IsEnded = has_end (through (came_log came) n) ≡ true

  past : n < s.current.number → IsHanded
  past less =
      order.shelved.past n less
      (ap (λ (c : InProxyConfig). nat_le c.number n) (sym h.seen.made) ∙ (came_up s n up).from)

  now : n ≡ s.current.number → hands_over s.successor s.handover ≡ true → IsHanded
  now same e =
      subst (λ (k : ℕ). has_handover (came_log came k) ≡ true) (sym same)
      (sym order.shelved.holds.finished ∙ e)

  behind_done : is_done s (ci_leg n) ≡ true → IsHanded
  behind_done e = by (nat_lt n s.current.number) (n == s.current.number) refl refl e
    where
      by : (a b : Bool) → nat_lt n s.current.number ≡ a → (n == s.current.number) ≡ b
          → (true && (a || (b && is_succeeded s.successor))) ≡ true → IsHanded
      by true b f g e = past (grind (arith, nat_tests, f))
      by false true f g e =
          now (same_number n s.current.number g) (succeeded s.successor s.handover e)
      by false false f g e = absurd (true≢false (sym e))

  -- ---- the work is done

  upto : n ≤ newest_by s.current s.successor
  upto = let e : nat_le n (newest s) ≡ true = (came_up s n up).upto in grind (arith, nat_tests, e)

  behind_mark : has_passed s.handover ≡ true → (b : Bool) → nat_lt n s.current.number ≡ b
      → IsHanded
  behind_mark passed true f = past (grind (arith, nat_tests, f))
  behind_mark passed false f =
      let most = upto in
      let same : newest_by s.current s.successor ≡ s.current.number =
      only s.successor (h.seen.last passed) in
      now (grind (arith, nat_tests, f, most, same))
      (passed_on s.successor s.handover (h.seen.last passed) passed)
    where
      only : (z : Successor) → is_absent z ≡ true → newest_by s.current z ≡ s.current.number
      only successors.Absent e = refl
      only (successors.Up number) e = absurd (true≢false (sym e))
      only (successors.Joined client stage) e = absurd (true≢false (sym e))

  -- END came on this leg, or on those before
  ends : (k : ℕ) → n ≡ k
      → (has_end (below (came_log came) k) || has_end (came_log came k)) ≡ true → IsEnded
  ends k same e =
      subst (λ (j : ℕ). has_end (through (came_log came) j) ≡ true) (sym same)
      (has_end-append (below (came_log came) k) (came_log came k) ∙ e)

  ends_here : (k : ℕ) → n ≡ k → has_end (came_log came k) ≡ true → IsEnded
  ends_here k same e =
      ends k same
      (ap (λ (b : Bool). has_end (below (came_log came) k) || b) e
      ∙ last (has_end (below (came_log came) k)))
    where
      last : (b : Bool) → (b || true) ≡ true
      last true = refl
      last false = refl

  ends_before : s.end_put ≡ true → n ≡ s.current.number → IsEnded
  ends_before e same =
      ends s.current.number same
      (ap (λ (b : Bool). b || has_end (came_log came s.current.number))
      (sym order.shelved.holds.was_ended)
      ∙ ap (λ (b : Bool). s.line.was_ended || b) (sym order.shelved.holds.ended)
      ∙ (order.end_came e).0)

  behind_end : Over Lost s → (b : Bool) → nat_lt n s.current.number ≡ b → IsHanded ⊎ IsEnded
  behind_end over true f = inl (past (grind (arith, nat_tests, f)))
  behind_end over false f = inr (by s.successor refl upto h.seen.behind over.ended)
    where
      by : (z : Successor) → s.successor ≡ z → n ≤ newest_by s.current z
          → IsBehind s.current.number z → newest_ended s z ≡ true → IsEnded
      by successors.Absent is most behind e =
          ends_here s.current.number (grind (arith, nat_tests, f, most))
          (sym order.shelved.holds.ended ∙ e)
      by (successors.Up number) is most behind e = absurd (true≢false (sym e))
      by (successors.Joined client stage) is most behind e =
          on (n == s.current.number) refl
        where
          on : (b : Bool) → n == s.current.number ≡ b → IsEnded
          on true same = ends_before over.put (same_number n s.current.number same)
          on false other =
              ends_here (suc s.current.number)
              (grind (arith, nat_tests, f, most, behind, other))
              (sym order.shelved.holds.next_ended
              ∙ ap (λ (z : Successor). (next_shelf s.line.next z s.handover).ended) is ∙ e)

  behind_work : (w : Work) → w ≡ works.Done → IsWork Lost s w → IsHanded ⊎ (Lost × IsEnded)
  behind_work works.Underway is h = absurd cc
  behind_work (works.EchoDue number) is h = absurd cc
  behind_work (works.EchoPut number) is h = absurd cc
  behind_work works.Done is (inl passed) = inl (behind_mark passed (nat_lt n s.current.number) refl)
  behind_work works.Done is (inr over) = by (behind_end over (nat_lt n s.current.number) refl)
    where
      by : IsHanded ⊎ IsEnded → IsHanded ⊎ (Lost × IsEnded)
      by (inl handed) = inl handed
      by (inr ended) = inr (over.lost, ended)

  pub left : is_in_use proxy_rules s (ci_leg n) ≡ false → IsHanded ⊎ (Lost × IsEnded)
  left e = by (unused s (ci_leg n) e)
    where
      by : (s.work ≡ works.Done) ⊎ (is_done s (ci_leg n) ≡ true)
          → IsHanded ⊎ (Lost × IsEnded)
      by (inl is) = behind_work s.work is h.works
      by (inr is) = inl (behind_done is)

-- ---- behind moves

abbrev start : InProxyConfig → Passage InProxy
start config = started (first config)

-- and where some may be
pub in_proxy_done : (config : InProxyConfig) (moves : List Move)
    → (let p = all_moved proxy_rules (start config) moves in
    KeepsOrder config.number p → AreAllowed proxy_rules (start config) moves
    → AllByRecursion (HeadsAre (AsksNoEcho true)) moves
    → (n : ℕ) → was_up p.role (ci_leg n) ≡ true
    → IsDoneBehindEnds proxy_rules p.role (ci_leg n) (came_log p.came) n)
in_proxy_done config moves order may heads n up e =
    by (left config (Unit {0}) p.role p.came p.put n order
    (moves_keep proxy_rules (HeadsAre (AsksNoEcho true)) (λ s came put. Unit {0})
    (of_role (Holds config (Unit {0})))
    (keeps config (Unit {0}) (HeadsAre (AsksNoEcho true)) (λ leg text asks. asks)
    (λ leg asks. tt))
    (start config) moves may heads (λ front allowed. tt) (starts config (Unit {0})))
    up e)
  where
    p : Passage InProxy
    p = all_moved proxy_rules (start config) moves

    last : (b : Bool) → (b || true) ≡ true
    last true = refl
    last false = refl

    by : (has_handover (came_log p.came n) ≡ true)
        ⊎ (Unit {0} × (has_end (through (came_log p.came) n) ≡ true))
        → (has_handover (came_log p.came n) || has_end (through (came_log p.came) n)) ≡ true
    by (inl is) =
        ap (λ (b : Bool). b || has_end (through (came_log p.came) n)) is
    by (inr is) =
        ap (λ (b : Bool). has_handover (came_log p.came n) || b) is.1
        ∙ last (has_handover (came_log p.came n))

-- and behind its work it put its own on the is leg
pub in_proxy_put : (config : InProxyConfig) (moves : List Move)
    → (let p = all_moved proxy_rules (start config) moves in
    KeepsOrder config.number p → AreAllowed proxy_rules (start config) moves
    → AllByRecursion (HeadsAre (AsksNoEcho true)) moves → (n : ℕ)
    → IsDoneBehindEnd proxy_rules p.role (is_leg n) (put_items p.put))
in_proxy_put config moves order may heads n e = by (unused p.role (is_leg n) e)
  where
    p : Passage InProxy
    p = all_moved proxy_rules (start config) moves

    h : Holds config (Unit {0}) p.role
    h = moves_keep proxy_rules (HeadsAre (AsksNoEcho true)) (λ s came put. Unit {0})
        (of_role (Holds config (Unit {0})))
        (keeps config (Unit {0}) (HeadsAre (AsksNoEcho true)) (λ leg text asks. asks)
        (λ leg asks. tt))
        (start config) moves may heads (λ front allowed. tt) (starts config (Unit {0}))

    last : (b : Bool) → (b || true) ≡ true
    last true = refl
    last false = refl

    done : (w : Work) → w ≡ works.Done → IsWork (Unit {0}) p.role w
        → (has_handover (put_items p.put) || has_end (put_items p.put)) ≡ true
    done works.Underway same work = absurd cc
    done (works.EchoDue number) same work = absurd cc
    done (works.EchoPut number) same work = absurd cc
    done works.Done same (inl passed) =
        ap (λ (b : Bool). b || has_end (put_items p.put)) (sym order.handover_put ∙ passed)
    done works.Done same (inr over) =
        ap (λ (b : Bool). has_handover (put_items p.put) || b) (sym order.end_put ∙ over.put)
        ∙ last (has_handover (put_items p.put))

    by : (p.role.work ≡ works.Done) ⊎ (is_done p.role (is_leg n) ≡ true)
        → (has_handover (put_items p.put) || has_end (put_items p.put)) ≡ true
    by (inl same) = done p.role.work same h.works
    by (inr bad) = absurd (true≢false (sym bad))
