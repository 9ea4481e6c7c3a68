-- is legs that come up, are opened, carry one channel more, and go, keep the law of an end that
-- takes
use Rattle.law_order.proofs.Vocabulary.{◌≡◌, ◌≢◌, ℕ, suc, ◌+◌, ◌<◌, ◌≤◌, ◌==◌, ◌&&◌, ◌||◌, nat_eq, nat_lt, List, [], ◌∷◌, ◌++◌, Bool, true, false, not, Some, None, arith, refl, sym, ap, ◌∙◌, subst, Option, nat_tests, Log, more, Shelf}
use Rattle.rh_sig.specs.declared.named.Named.TheVariants as named
use Rattle.rh_server.specs.declared.state.Stage.TheVariants as stage
use Rattle.rh_server.specs.declared.state.Tells.TheVariants as tells
use Rattle.rh_server.specs.declared.out_line.Kind.TheVariants as kind
use Rattle.law_moves.proofs.Vocabulary.{by_test, same_number, other_number, test_other, more_none, shelves_fewer, Cookie, Which, Current, Next, Count, Waiting, added}
use Rattle.law_role_server.proofs.Vocabulary.{Stage, Fresh, Opened, InLeg, waits, Server, is_fresh, is_waiting, same_cookie, in_leg, without_in, took, unexpected, is_first, in_leg_up, opens, first_in, with_first_in, conn_b2_at, on_conn_b2, channel_at, in_r2_a2_on, on_in_r2_a2}
use Rattle.law_role_server.proofs.InSpots.{Spot, spot, spots, spot_by, at, put_at, gone, leg_spot, set_spot, gone_spot, push_spot, at_number, IsSorted, sorted_put, sorted_gone, sorted_push, sorted_higher, in_range, out_of_range, waits_at, fresh_at, at_put, at_gone, at_push}
use Rattle.law_role_server.proofs.TakesKept.{Read, reads, has_begun, due_a3, ended_at, leaves_at, is_coming, top, next_number, Kept, Took, differ, falsely}
use Rattle.law_role_server.proofs.TakesQuiet.{RowTook, calm_added, in_there}
use Rattle.law_role_server.proofs.TakesRows.{not_ended, with_legs, on_current, on_next}
use Rattle.law_role_server.proofs.Gives.{both, negated}

-- ---- ranges

fresh_range : (high n : ℕ) (xs : List Spot) → IsSorted 0 high xs → fresh_at (at n xs) ≡ true
    → (0 < n) × (n ≤ high)
fresh_range high n xs s e = by (at n xs) refl e
  where
    by : (o : Option Spot) → at n xs ≡ o → fresh_at o ≡ true → (0 < n) × (n ≤ high)
    by None f e = absurd (cc)
    by (Some x) f e = in_range 0 high n x xs s f

waits_range : (high n : ℕ) (xs : List Spot) → IsSorted 0 high xs → waits_at (at n xs) ≡ true
    → (0 < n) × (n ≤ high)
waits_range high n xs s e = by (at n xs) refl e
  where
    by : (o : Option Spot) → at n xs ≡ o → waits_at o ≡ true → (0 < n) × (n ≤ high)
    by None f e = absurd (cc)
    by (Some x) f e = in_range 0 high n x xs s f

-- the open channels are at most the newest leg, and what follows at most the number above
top_low : (finished h : Bool) (next : Shelf) (leg next_leg newest : ℕ) (xs : List Spot)
    → Kept finished h next leg next_leg newest true xs → top h leg next_leg ≤ newest
top_low finished true next leg next_leg newest xs k = (k.between refl).1
top_low finished false next leg next_leg newest xs k = k.reached refl

top_high : (finished h b : Bool) (next : Shelf) (leg next_leg newest : ℕ) (xs : List Spot)
    → Kept finished h next leg next_leg newest b xs → leg ≤ top h leg next_leg
top_high finished true b next leg next_leg newest xs k =
    let r = (k.between refl).0 in omega (arith, r)
top_high finished false b next leg next_leg newest xs k = omega arith

next_high : (h : Bool) (leg next_leg : ℕ) → top h leg next_leg ≤ next_number h leg next_leg
next_high true leg next_leg = omega arith
next_high false leg next_leg = omega arith

-- ---- a leg comes up

abbrev up_read : Read → Spot → Read
up_read d y = record d { newest = y.number; legs = d.legs ++ y ∷ [] }

abbrev fresh_spot : ℕ → Spot
fresh_spot n = record { number = n; stage = Fresh; stays = true }

comes_up : (out : List (List ℕ)) (up more_up : ℕ → Bool) (came : Log) (d : Read) (w : Waiting)
    (n : ℕ) → n ≡ suc d.newest → ((k : ℕ) → more_up k ≡ up k || nat_eq k n)
    → Took out up came d w → Took out more_up came (up_read d (fresh_spot n)) w
comes_up out up more_up came d w n is ups l = record {
  later = l.later;
  known = l.known;
  law = l.law;
  behind = record {
    sorted = subst (λ k. IsSorted 0 k (d.legs ++ y ∷ [])) (sym is)
        (sorted_push 0 d.newest y d.legs is sorted);
    present = at_push 0 d.newest y d.legs sorted is
        (λ k o. top d.has_next d.leg d.next_leg < k → k ≤ n → l.known k ≡ true
        → is_coming o ≡ true)
        (λ a b k. refl)
        (λ k o a b e. l.behind.present k a (other k o b) e);
    waiting = at_push 0 d.newest y d.legs sorted is
        (λ k o. waits_at o ≡ true → top d.has_next d.leg d.next_leg < k)
        (λ e. absurd (cc)) (λ k o e. l.behind.waiting k e);
    fresh = λ b. at_push 0 d.newest y d.legs sorted is
        (λ k o. fresh_at o ≡ true → top d.has_next d.leg d.next_leg < k)
        (λ e. let low = low_by d.begun b l.kept in omega (arith, is, low))
        (λ k o e. l.behind.fresh b k e);
    order = λ k j. at_push 0 d.newest y d.legs sorted is
        (λ k o. waits_at o ≡ true → fresh_at (at j (d.legs ++ y ∷ [])) ≡ true → k < j)
        (λ a. absurd (cc))
        (λ k o a. at_push 0 d.newest y d.legs sorted is (λ j p. fresh_at p ≡ true → k < j)
        (λ b. let r = (waits_range d.newest k d.legs sorted a).1 in omega (arith, is, r))
        (λ j p b. l.behind.order k j a b) j) k;
  };
  kept = record {
    waiting = at_push 0 d.newest y d.legs sorted is
        (λ k o. waits_at o ≡ true → d.has_next ≡ true) (λ e. absurd (cc))
        (λ k o e. l.kept.waiting k e);
    between = λ e. ((l.kept.between e).0, let r = (l.kept.between e).1 in omega (arith, is, r));
    nothing = l.kept.nothing;
    followed = l.kept.followed;
    opening = l.kept.opening;
    reached = λ e. let r = l.kept.reached e in omega (arith, is, r);
    leaving = at_push 0 d.newest y d.legs sorted is (λ k o. leaves_at o ≡ true → k ≤ d.leg)
        (λ e. absurd (cc)) (λ k o e. l.kept.leaving k e);
  };
  ended = at_push 0 d.newest y d.legs sorted is
      (λ k o. next_number d.has_next d.leg d.next_leg < k → ended_at o ≡ l.later k)
      (λ a. sym (ap ended_at (out_of_range 0 d.newest n d.legs sorted
      (λ r. absurd (omega (arith, is, r.1))))) ∙ l.ended n a)
      (λ k o a. l.ended k a);
  all = λ k e. l.all k (known k (ups k) e);
  low = λ k e. low k (up k) (nat_eq k n) refl refl (sym (ups k) ∙ e);
  idle = l.idle;
  told = l.told;
}
  where
    y : Spot
    y = fresh_spot n

    sorted : IsSorted 0 d.newest d.legs
    sorted = l.behind.sorted

    other : (k : ℕ) → k ≢ n → k ≤ n → k ≤ d.newest
    other k o b = omega (arith, is, o, b)

    low_by : (b : Bool) → b ≡ true
        → Kept d.now.finished d.has_next d.next d.leg d.next_leg d.newest b d.legs
        → top d.has_next d.leg d.next_leg ≤ d.newest
    low_by true e k =
        top_low d.now.finished d.has_next d.next d.leg d.next_leg d.newest d.legs k
    low_by false e k = absurd (cc)

    known : (k : ℕ) → more_up k ≡ up k || nat_eq k n → nat_lt n k || more_up k ≡ true
        → nat_lt d.newest k || up k ≡ true
    known k e f = by (nat_lt n k) (up k) (nat_eq k n) (nat_lt d.newest k) refl refl refl
        (sym (ap (λ b. nat_lt n k || b) e) ∙ f)
      where
        by : (a b c t : Bool) → nat_lt n k ≡ a → nat_eq k n ≡ c → nat_lt d.newest k ≡ t
            → a || (b || c) ≡ true → t || b ≡ true
        by a b c true p q r f = refl
        by a true c false p q r f = refl
        by true false c false p q r f = absurd (grind (arith, nat_tests, is))
        by false false true false p q r f =
            absurd (let same = same_number k n q in grind (arith, nat_tests, is))
        by false false false false p q r f = absurd (cc)

    low : (k : ℕ) (b c : Bool) → up k ≡ b → nat_eq k n ≡ c → b || c ≡ true → k ≤ n
    low k true c p q e = let r = l.low k p in omega (arith, is, r)
    low k false true p q e = let same = same_number k n q in omega (arith, same)
    low k false false p q e = absurd (cc)

pub up_took : (out : List (List ℕ)) (up more_up : ℕ → Bool) (came : Log) (s : Server) (n : ℕ)
    → n ≡ suc s.newest_in → ((k : ℕ) → more_up k ≡ up k || nat_eq k n)
    → Took out up came (reads s) s.waiting
    → Took out more_up came
    (reads (record s { newest_in = n; ins = s.ins ++ in_leg_up n ∷ [] })) s.waiting
up_took out up more_up came s n is ups l =
    subst (λ xs. Took out more_up came (with_legs (record (reads s) { newest = n }) xs) s.waiting)
    (sym (push_spot s.ins (in_leg_up n)))
    (comes_up out up more_up came (reads s) s.waiting n is ups l)

-- ---- a leg goes

goes : (out : List (List ℕ)) (up : ℕ → Bool) (came : Log) (d : Read) (w : Waiting) (n : ℕ)
    → (top d.has_next d.leg d.next_leg < n → is_coming (at n d.legs) ≡ true → ⊥)
    → Took out up came d w → Took out up came (with_legs d (gone n d.legs)) w
goes out up came d w n none l = record {
  later = l.later;
  known = l.known;
  law = l.law;
  behind = record {
    sorted = sorted_gone 0 d.newest n d.legs sorted;
    present = at_gone 0 d.newest n d.legs sorted
        (λ k o. top d.has_next d.leg d.next_leg < k → k ≤ d.newest → l.known k ≡ true
        → is_coming o ≡ true)
        (λ a b e. absurd (none a (l.behind.present n a b e)))
        (λ k o a b e. l.behind.present k a b e);
    waiting = at_gone 0 d.newest n d.legs sorted
        (λ k o. waits_at o ≡ true → top d.has_next d.leg d.next_leg < k) (λ e. absurd (cc))
        (λ k o e. l.behind.waiting k e);
    fresh = λ b. at_gone 0 d.newest n d.legs sorted
        (λ k o. fresh_at o ≡ true → top d.has_next d.leg d.next_leg < k) (λ e. absurd (cc))
        (λ k o e. l.behind.fresh b k e);
    order = λ k j. at_gone 0 d.newest n d.legs sorted
        (λ k o. waits_at o ≡ true → fresh_at (at j (gone n d.legs)) ≡ true → k < j)
        (λ a. absurd (cc))
        (λ k o a. at_gone 0 d.newest n d.legs sorted (λ j p. fresh_at p ≡ true → k < j)
        (λ b. absurd (cc)) (λ j p b. l.behind.order k j a b) j) k;
  };
  kept = record {
    waiting = at_gone 0 d.newest n d.legs sorted
        (λ k o. waits_at o ≡ true → d.has_next ≡ true) (λ e. absurd (cc))
        (λ k o e. l.kept.waiting k e);
    between = l.kept.between;
    nothing = l.kept.nothing;
    followed = l.kept.followed;
    opening = l.kept.opening;
    reached = l.kept.reached;
    leaving = at_gone 0 d.newest n d.legs sorted (λ k o. leaves_at o ≡ true → k ≤ d.leg)
        (λ e. absurd (cc)) (λ k o e. l.kept.leaving k e);
  };
  ended = at_gone 0 d.newest n d.legs sorted
      (λ k o. next_number d.has_next d.leg d.next_leg < k → ended_at o ≡ l.later k)
      (λ a. sym (not_ended (at n d.legs) (falsely (waits_at (at n d.legs))
      (λ e. none (let high = next_high d.has_next d.leg d.next_leg in omega (arith, a, high))
      (ap (λ b. b || fresh_at (at n d.legs)) e)))) ∙ l.ended n a)
      (λ k o a. l.ended k a);
  all = l.all;
  low = l.low;
  idle = l.idle;
  told = l.told;
}
  where
    sorted : IsSorted 0 d.newest d.legs
    sorted = l.behind.sorted

pub gone_took : (out : List (List ℕ)) (up : ℕ → Bool) (came : Log) (s : Server) (n : ℕ)
    → (top s.line.has_next s.current.leg s.next.leg < n → is_coming (at n (spots s.ins)) ≡ true → ⊥)
    → Took out up came (reads s) s.waiting
    → Took out up came (reads (without_in s n)) s.waiting
gone_took out up came s n none l =
    subst (λ xs. Took out up came (with_legs (reads s) xs) s.waiting) (sym (gone_spot n s.ins))
    (goes out up came (reads s) s.waiting n none l)

-- a leg that leaves is not behind the open channels
pub left_low : (out : List (List ℕ)) (up : ℕ → Bool) (came : Log) (s : Server) (n : ℕ)
    → Took out up came (reads s) s.waiting → leaves_at (at n (spots s.ins)) ≡ true
    → top s.line.has_next s.current.leg s.next.leg < n → ⊥
left_low out up came s n l e a =
    let low = l.kept.leaving n e in
    let high = top_high s.line.finished s.line.has_next (reads s).begun (reads s).next
    s.current.leg s.next.leg s.newest_in (spots s.ins) l.kept in
    absurd (omega (arith, low, high, a))

-- nor is the leg of an open channel
pub open_low : (s : Server) (n : ℕ) (which : Which) → channel_at s n ≡ Some which
    → s.current.leg ≤ top s.line.has_next s.current.leg s.next.leg
    → top s.line.has_next s.current.leg s.next.leg < n → ⊥
open_low s n Current e high a = let is = (on_current s n e).0 in absurd (omega (arith, is, high, a))
open_low s n Next e high a =
    let c = on_next s n e in
    let is = c.1 in
    let b = subst (λ h. top h s.current.leg s.next.leg < n) c.0 a in
    absurd (omega (arith, is, b))

pub leg_high : (out : List (List ℕ)) (up : ℕ → Bool) (came : Log) (s : Server)
    → Took out up came (reads s) s.waiting
    → s.current.leg ≤ top s.line.has_next s.current.leg s.next.leg
leg_high out up came s l =
    top_high s.line.finished s.line.has_next (reads s).begun (reads s).next s.current.leg
    s.next.leg s.newest_in (spots s.ins) l.kept

-- ---- IN_R2/A2

carried : (out : List (List ℕ)) (up : ℕ → Bool) (came : Log) (d : Read) (w : Waiting)
    → Took out up came d w → Took out up came (record d { newest = d.newest + 1 }) w
carried out up came d w l = record {
  later = l.later;
  known = known;
  law = shelves_fewer _ l.known known out came l.law (λ n e. (split n e).0);
  behind = record {
    sorted = sorted_higher 0 d.newest (d.newest + 1) d.legs (omega arith) l.behind.sorted;
    present = λ n a b e. let t = split n e in
        l.behind.present n a (let o = t.1 in omega (arith, o, b)) t.0;
    waiting = l.behind.waiting;
    fresh = l.behind.fresh;
    order = l.behind.order;
  };
  kept = record {
    waiting = l.kept.waiting;
    between = λ e. ((l.kept.between e).0, let r = (l.kept.between e).1 in omega (arith, r));
    nothing = l.kept.nothing;
    followed = l.kept.followed;
    opening = l.kept.opening;
    reached = λ e. let r = l.kept.reached e in omega (arith, r);
    leaving = l.kept.leaving;
  };
  ended = l.ended;
  all = λ n e. join n (nat_lt (d.newest + 1) n) (up n) refl refl e;
  low = λ n e. let r = l.low n e in omega (arith, r);
  idle = l.idle;
  told = l.told;
}
  where
    known : ℕ → Bool
    known = λ n. l.known n && not (nat_eq n (d.newest + 1))

    split : (n : ℕ) → known n ≡ true → (l.known n ≡ true) × (n ≢ d.newest + 1)
    split n e =
        let t = both (l.known n) (not (nat_eq n (d.newest + 1))) e in
        (t.0, other_number n (d.newest + 1) (negated (nat_eq n (d.newest + 1)) t.1))

    put : (n : ℕ) → nat_lt d.newest n || up n ≡ true → n ≢ d.newest + 1 → known n ≡ true
    put n e o =
        ap (λ b. b && not (nat_eq n (d.newest + 1))) (l.all n e)
        ∙ ap not (test_other n (d.newest + 1) o)

    join : (n : ℕ) (a b : Bool) → nat_lt (d.newest + 1) n ≡ a → up n ≡ b → a || b ≡ true
        → known n ≡ true
    join n true b p q e =
        put n (ap (λ c. c || up n) (above n p)) (λ same. absurd (grind (arith, nat_tests)))
      where
        above : (n : ℕ) → nat_lt (d.newest + 1) n ≡ true → nat_lt d.newest n ≡ true
        above n p = grind (arith, nat_tests)
    join n false true p q e =
        put n (any (nat_lt d.newest n) q)
        (λ same. let r = l.low n q in absurd (omega (arith, r, same)))
      where
        any : {c : Bool} (b : Bool) → c ≡ true → b || c ≡ true
        any true e = refl
        any false e = e
    join n false false p q e = absurd (cc)

pub in_r2_a2_row : (out : List (List ℕ)) (up : ℕ → Bool) (came : Log) (s : Server) (n : ℕ)
    (count : Count) (successor : Cookie) → Took out up came (reads s) s.waiting
    → RowTook out up came n [] (on_in_r2_a2 s n count successor)
in_r2_a2_row out up came s n count successor l =
    by_test (RowTook out up came n []) _ (in_r2_a2_on s n successor (channel_at s n))
    (unexpected s) (λ e. by (channel_at s n)) (λ e. l)
  where
    calmed : Took out up came (record (reads s) { newest = s.newest_in + 1 })
        (added s.waiting (named.InR2A3 0))
    calmed = record {
      later = c.later;
      known = c.known;
      law = c.law;
      behind = c.behind;
      kept = c.kept;
      ended = c.ended;
      all = c.all;
      low = c.low;
      idle = λ e. calm_added s.waiting (named.InR2A3 0) refl (c.idle e);
      told = λ e. calm_added s.waiting (named.InR2A3 0) refl (c.told e);
    }
      where
        c : Took out up came (record (reads s) { newest = s.newest_in + 1 }) s.waiting
        c = carried out up came (reads s) s.waiting l

    by : (which : Option Which) → RowTook out up came n [] (in_r2_a2_on s n successor which)
    by None = l
    by (Some Current) = subst (λ log. Took out up log (record (reads s) {
      newest = s.newest_in + 1;
    }) (added s.waiting (named.InR2A3 0))) (sym (more_none n came)) calmed
    by (Some Next) = subst (λ log. Took out up log (record (reads s) {
      newest = s.newest_in + 1;
    }) (added s.waiting (named.InR2A3 0))) (sym (more_none n came)) calmed

-- ---- CONN/B2

-- before it: no next channel, and leg 1 is the current one
abbrev closed : Read → Bool → Bool → ℕ → Read
closed d begun has_next leg = record d { begun = begun; has_next = has_next; leg = leg }

begins : (out : List (List ℕ)) (up : ℕ → Bool) (came : Log) (d : Read) (w : Waiting)
    (x y : Spot) → at y.number d.legs ≡ Some x → y.number ≡ 1 → y.stage ≡ Opened
    → Took out up came (closed d false false 1) w
    → Took out up came (with_legs (closed d true false 1) (put_at y d.legs)) w
begins out up came d w x y there is opened l = record {
  later = l.later;
  known = l.known;
  law = l.law;
  behind = record {
    sorted = sorted_put 0 d.newest y d.legs l.behind.sorted;
    present = at_put y x d.legs there
        (λ n o. 1 < n → n ≤ d.newest → l.known n ≡ true → is_coming o ≡ true)
        (λ a b k. absurd (omega (arith, is, a))) (λ n o a b k. l.behind.present n a b k);
    waiting = at_put y x d.legs there (λ n o. waits_at o ≡ true → 1 < n)
        (λ e. absurd (differ (is_waiting y.stage) e (ap is_waiting opened)))
        (λ n o e. l.behind.waiting n e);
    fresh = λ b. at_put y x d.legs there (λ n o. fresh_at o ≡ true → 1 < n)
        (λ e. absurd (differ (is_fresh y.stage) e (ap is_fresh opened)))
        (λ n o e. let r = (fresh_range d.newest n d.legs l.behind.sorted e).0 in
        omega (arith, is, o, r));
    order = λ n k. at_put y x d.legs there
        (λ n o. waits_at o ≡ true → fresh_at (at k (put_at y d.legs)) ≡ true → n < k)
        (λ e. absurd (differ (is_waiting y.stage) e (ap is_waiting opened)))
        (λ n o e. let h = l.kept.waiting n e in absurd (cc)) n;
  };
  kept = record {
    waiting = at_put y x d.legs there (λ n o. waits_at o ≡ true → false ≡ true)
        (λ e. absurd (differ (is_waiting y.stage) e (ap is_waiting opened)))
        (λ n o e. l.kept.waiting n e);
    between = λ e. absurd (cc);
    nothing = l.kept.nothing;
    followed = l.kept.followed;
    opening = λ e. absurd (cc);
    reached = λ e. let r = (in_range 0 d.newest y.number x d.legs l.behind.sorted there).1 in
        omega (arith, is, r);
    leaving = at_put y x d.legs there (λ n o. leaves_at o ≡ true → n ≤ 1)
        (λ e. omega (arith, is)) (λ n o e. l.kept.leaving n e);
  };
  ended = at_put y x d.legs there (λ n o. 2 < n → ended_at o ≡ l.later n)
      (λ a. absurd (omega (arith, is, a))) (λ n o a. l.ended n a);
  all = l.all;
  low = l.low;
  idle = l.idle;
  told = l.told;
}

-- CONN/B2 comes while the server opens, on leg 1, which is kept
begins_took : (out : List (List ℕ)) (up : ℕ → Bool) (came : Log) (s : Server) (cookie : Cookie)
    (x : Stage) (leg : InLeg) → in_leg 1 s.ins ≡ Some leg → has_begun s.stage ≡ false
    → has_begun x ≡ true → Took out up came (reads s) s.waiting
    → Took out up came (reads (record (first_in s cookie (Some leg)) { stage = x })) s.waiting
begins_took out up came s cookie x leg e b now l =
    let o = l.kept.opening b in
    let before = subst (λ n. Took out up came (closed (reads s) false false n) s.waiting) o.0
    (subst (λ h. Took out up came (closed (reads s) false h s.current.leg) s.waiting) o.1
    (subst (λ t. Took out up came (closed (reads s) t s.line.has_next s.current.leg) s.waiting) b
    l)) in
    subst (λ xs. Took out up came (with_legs (closed (reads s) (has_begun x) s.line.has_next 1) xs)
    s.waiting)
    (sym (set_spot s.ins
    (record leg { cookie = cookie; stage = Opened; tells = tells.ConnB3 })))
    (subst (λ t. Took out up came (with_legs (closed (reads s) t s.line.has_next 1)
    (put_at (spot (record leg { cookie = cookie; stage = Opened; tells = tells.ConnB3 }))
    (spots s.ins))) s.waiting) (sym now)
    (subst (λ h. Took out up came (with_legs (closed (reads s) true h 1)
    (put_at (spot (record leg { cookie = cookie; stage = Opened; tells = tells.ConnB3 }))
    (spots s.ins))) s.waiting) (sym o.1)
    (begins out up came (reads s) s.waiting (spot leg)
    (spot (record leg { cookie = cookie; stage = Opened; tells = tells.ConnB3 }))
    (in_there 1 s.ins leg e)
    (at_number 1 (spots s.ins) (spot leg) (sym (leg_spot 1 s.ins) ∙ ap spot_by e)) refl
    before)))

pub conn_b2_row : (out : List (List ℕ)) (up : ℕ → Bool) (came : Log) (s : Server) (n : ℕ)
    (count : Count) (connection cookie : Cookie) (window timeout : ℕ)
    → ((leg : Option InLeg) → in_leg n s.ins ≡ leg → leg ≢ None)
    → Took out up came (reads s) s.waiting
    → RowTook out up came n [] (on_conn_b2 s n count connection cookie window timeout)
conn_b2_row out up came s n count connection cookie window timeout there l =
    by_test (RowTook out up came n [])
    (is_first count && ((n == 1) && not (waits kind.ConnC1 s.waiting)))
    (conn_b2_at s s.stage connection cookie window timeout) (unexpected s)
    (λ e. let a = both (is_first count) ((n == 1) && not (waits kind.ConnC1 s.waiting)) e in
    let b = both (n == 1) (not (waits kind.ConnC1 s.waiting)) a.1 in
    leg_by (in_leg 1 s.ins) refl
    (subst (λ k. (leg : Option InLeg) → in_leg k s.ins ≡ leg → leg ≢ None)
    (same_number n 1 b.0) there))
    (λ e. l)
  where
    leg_by : (leg : Option InLeg) → in_leg 1 s.ins ≡ leg
        → ((leg : Option InLeg) → in_leg 1 s.ins ≡ leg → leg ≢ None)
        → RowTook out up came n [] (conn_b2_at s s.stage connection cookie window timeout)
    leg_by None e some = absurd (some None e refl)
    leg_by (Some leg) e some = by s.stage refl
      where
        begun : (x : Stage) → has_begun s.stage ≡ false → has_begun x ≡ true
            → Took out up (more n [] came)
            (reads (record (with_first_in s cookie) { stage = x })) s.waiting
        begun x b now =
            subst (λ log. Took out up log
            (reads (record (with_first_in s cookie) { stage = x })) s.waiting)
            (sym (more_none n came))
            (subst (λ o. Took out up came
            (reads (record (first_in s cookie o) { stage = x })) s.waiting) (sym e)
            (begins_took out up came s cookie x leg e b now l))

        calm : (f : Server) (log : Log) (v : Waiting) → f.waiting ≡ s.waiting
            → Took out up log (reads f) s.waiting
            → Took out up log (reads f) (added f.waiting (named.ConnC1 1 window timeout))
        calm f log v same c = record {
          later = c.later;
          known = c.known;
          law = c.law;
          behind = c.behind;
          kept = c.kept;
          ended = c.ended;
          all = c.all;
          low = c.low;
          idle = λ e. calm_added f.waiting (named.ConnC1 1 window timeout) refl
              (ap due_a3 same ∙ c.idle e);
          told = λ e. calm_added f.waiting (named.ConnC1 1 window timeout) refl
              (ap due_a3 same ∙ c.told e);
        }

        unchanged : (o : Option InLeg) → (first_in s cookie o).waiting ≡ s.waiting
        unchanged None = refl
        unchanged (Some other) = refl

        by : (x : Stage) → s.stage ≡ x
            → RowTook out up came n [] (conn_b2_at s x connection cookie window timeout)
        by stage.Waits q =
            subst (λ w. Took out up (more n [] came) (reads (record (with_first_in s cookie) {
              stage = stage.InCame connection window timeout;
            })) w) (sym (unchanged (in_leg 1 s.ins)))
            (begun (stage.InCame connection window timeout) (ap has_begun q) refl)
        by (stage.OutCame first) q =
            by_test (RowTook out up came n []) (same_cookie first connection)
            (took (opens (with_first_in s cookie) first window timeout)) _
            (λ o. calm (record (with_first_in s cookie) { stage = stage.Open first })
            (more n [] came) s.waiting (unchanged (in_leg 1 s.ins))
            (begun (stage.Open first) (ap has_begun q) refl))
            (λ o. l)
        by (stage.InCame first in_window in_timeout) q = l
        by (stage.Open first) q = l
        by stage.Ended q = l
