-- IN_R1/A2 keeps the law of an end that takes
use Rattle.law_order.proofs.Vocabulary.{◌≡◌, ◌≢◌, ℕ, suc, ◌<◌, ◌≤◌, ◌&&◌, ◌||◌, nat_eq, nat_lt, List, [], Bool, true, false, not, Some, None, arith, refl, sym, ap, ◌∙◌, subst, Option, nat_tests, Log, blank, Follows, Hears}
use Rattle.rh_server.specs.declared.state.Stage.TheVariants as stage
use Rattle.rh_server.specs.declared.out_line.Kind.TheVariants as kind
use Rattle.law_moves.proofs.Vocabulary.{by_test, same_number, other_number, more_none, taker_step, Cookie, Count, Waiting}
use Rattle.law_role_server.proofs.Vocabulary.{Stage, Waits, InLeg, waits, Server, is_fresh, same_cookie, in_leg, with_in, took, unexpected, is_first, next_opened, opens_leg, first_waiting, has_fresh_below, announced, in_r1_a2_by, in_r1_a2_at, on_in_r1_a2}
use Rattle.law_role_server.proofs.InSpots.{Spot, spot, spots, spot_by, at, put_at, leg_spot, set_spot, at_number, sorted_put, in_range, waits_at, fresh_at, IsFirst, at_put, put_here, put_other, the, fresh_above}
use Rattle.law_role_server.proofs.TakesKept.{Read, reads, has_begun, ended_at, leaves_at, is_coming, LawAt, top, next_number, AreBehind, Took, Ready, differ, falsely, not_both, coming_of, opened_took}
use Rattle.law_role_server.proofs.TakesQuiet.{RowTook, in_there}
use Rattle.law_role_server.proofs.TakesRows.{not_ended, taker_at, with_legs}
use Rattle.law_role_server.proofs.Gives.{both, negated}
use Rattle.law_role_server.specs.Order.{waits_ended}

-- one on which nothing came doesn't wait
fresh_alone : (o : Option Spot) → fresh_at o ≡ true → waits_at o ≡ false
fresh_alone o e = falsely (waits_at o) (λ w. differ (fresh_at o) e (not_both o w))

-- y is the spot of leg n, on which IN_R1/A2 came; x was it before
module _ (d : Read) (x : Spot) (n window timeout : ℕ)
    (there : at n d.legs ≡ Some x) (fresh_x : is_fresh x.stage ≡ true)
    (begun : d.begun ≡ true)
    (above : (k : ℕ) → k < n → fresh_at (at k d.legs) ≡ false) where
  abbrev y : Spot
  y = record { number = n; stage = Waits window timeout false; stays = x.stays }

  fresh_n : fresh_at (at n d.legs) ≡ true
  fresh_n = ap fresh_at there ∙ fresh_x

  announced_behind : (top : ℕ) (known : ℕ → Bool)
      → AreBehind top d.newest d.begun d.legs known
      → AreBehind top d.newest d.begun (put_at y d.legs) known
  announced_behind top known b = record {
    sorted = sorted_put 0 d.newest y d.legs b.sorted;
    present = at_put y x d.legs there
        (λ k o. top < k → k ≤ d.newest → known k ≡ true → is_coming o ≡ true)
        (λ a c e. refl) (λ k o a c e. b.present k a c e);
    waiting = at_put y x d.legs there (λ k o. waits_at o ≡ true → top < k)
        (λ e. b.fresh begun n fresh_n) (λ k o e. b.waiting k e);
    fresh = λ c. at_put y x d.legs there (λ k o. fresh_at o ≡ true → top < k)
        (λ e. absurd (cc)) (λ k o e. b.fresh c k e);
    order = λ k j. at_put y x d.legs there
        (λ k o. waits_at o ≡ true → fresh_at (at j (put_at y d.legs)) ≡ true → k < j)
        (λ a. at_put y x d.legs there (λ j p. fresh_at p ≡ true → n < j)
        (λ c. absurd (cc)) (λ j p c. behind_n j p c) j)
        (λ k o a. at_put y x d.legs there (λ j p. fresh_at p ≡ true → k < j)
        (λ c. absurd (cc)) (λ j p c. b.order k j a c) j) k;
  }
    where
      behind_n : (j : ℕ) → j ≢ n → fresh_at (at j d.legs) ≡ true → n < j
      behind_n j o c = by (nat_lt j n) refl
        where
          by : (t : Bool) → nat_lt j n ≡ t → n < j
          by true l =
              absurd (differ (fresh_at (at j d.legs)) c (above j (grind (arith, nat_tests))))
          by false l = grind (arith, nat_tests)

  announced_ended : (low : ℕ) (later : ℕ → Bool)
      → ((k : ℕ) → low < k → ended_at (at k d.legs) ≡ later k)
      → (k : ℕ) → low < k → ended_at (at k (put_at y d.legs)) ≡ later k
  announced_ended low later ended = at_put y x d.legs there
      (λ k o. low < k → ended_at o ≡ later k)
      (λ a. sym (not_ended (at n d.legs) (fresh_alone (at n d.legs) fresh_n)) ∙ ended n a)
      (λ k o a. ended k a)

  announced_leaving : ((k : ℕ) → leaves_at (at k d.legs) ≡ true → k ≤ d.leg)
      → (k : ℕ) → leaves_at (at k (put_at y d.legs)) ≡ true → k ≤ d.leg
  announced_leaving low = at_put y x d.legs there (λ k o. leaves_at o ≡ true → k ≤ d.leg)
      (λ e. low n (ap leaves_at there ∙ e)) (λ k o e. low k e)

  -- where there is a next channel, it waits
  announced_took : (out : List (List ℕ)) (up : ℕ → Bool) (came : Log) (w : Waiting)
      → d.has_next ≡ true → Took out up came d w
      → Took out up came (with_legs d (put_at y d.legs)) w
  announced_took out up came w h l = record {
    later = l.later;
    known = l.known;
    law = l.law;
    behind = announced_behind (top d.has_next d.leg d.next_leg) l.known l.behind;
    kept = record {
      waiting = λ k e. h;
      between = l.kept.between;
      nothing = l.kept.nothing;
      followed = l.kept.followed;
      opening = l.kept.opening;
      reached = l.kept.reached;
      leaving = announced_leaving l.kept.leaving;
    };
    ended = announced_ended (next_number d.has_next d.leg d.next_leg) l.later l.ended;
    all = l.all;
    low = l.low;
    idle = l.idle;
    told = l.told;
  }

  -- where there is none, it is the first that waits
  announced_ready : (out : List (List ℕ)) (up : ℕ → Bool) (came : Log) (w : Waiting)
      → d.has_next ≡ false → Took out up came d w
      → Ready out up came (with_legs d (put_at y d.legs)) w
  announced_ready out up came w h l = record {
    later = l.later;
    known = l.known;
    behind = announced_behind d.leg l.known behind;
    alone = h;
    nothing = l.kept.nothing h;
    reached = l.kept.reached begun;
    unfinished = falsely d.now.finished (λ e. differ d.has_next (l.kept.followed e) h);
    begun = begun;
    leaving = announced_leaving l.kept.leaving;
    ended = announced_ended (suc d.leg) l.later ended;
    all = l.all;
    low = l.low;
    none = l.idle h;
    still = λ none. absurd (differ (waits_at (at n (put_at y d.legs)))
        (ap waits_at (put_here y x d.legs there)) (none n));
    opened = λ z first. subst (λ z. LawAt out d z.number
        (record { held = []; ended = waits_ended z.stage; finished = false }) l.later l.known came)
        (sym (is_y z first)) follows;
  }
    where
      behind : AreBehind d.leg d.newest d.begun d.legs l.known
      behind = subst (λ b. AreBehind (top b d.leg d.next_leg) d.newest d.begun d.legs l.known) h
          l.behind

      ended : (k : ℕ) → suc d.leg < k → ended_at (at k d.legs) ≡ l.later k
      ended = subst (λ b. (k : ℕ) → next_number b d.leg d.next_leg < k
          → ended_at (at k d.legs) ≡ l.later k) h l.ended

      law : LawAt out d (suc d.leg) d.next l.later l.known came
      law = subst (λ b. LawAt out d (next_number b d.leg d.next_leg) d.next l.later l.known came) h
          l.law

      no_wait : (k : ℕ) → waits_at (at k d.legs) ≡ false
      no_wait k = falsely (waits_at (at k d.legs)) (λ e. differ d.has_next (l.kept.waiting k e) h)

      is_y : (z : Spot) → IsFirst (put_at y d.legs) z → z ≡ y
      is_y z first = by (nat_eq z.number n) refl
        where
          by : (t : Bool) → nat_eq z.number n ≡ t → z ≡ y
          by true e =
              let same = same_number z.number n e in
              ap (the z) (sym first.there ∙ ap (λ k. at k (put_at y d.legs)) same
              ∙ put_here y x d.legs there)
          by false e =
              let old = put_other z.number y d.legs (other_number z.number n e) in
              absurd (differ (waits_at (at z.number d.legs))
              (ap waits_at (sym old ∙ first.there) ∙ first.waits) (no_wait z.number))

      no_leg : (k : ℕ) → d.leg < k → k < n → l.known k ≡ false
      no_leg k a b = falsely (l.known k)
          (λ e. coming_of (waits_at (at k d.legs)) (fresh_at (at k d.legs)) (no_wait k) (above k b)
          (behind.present k a (let r = (in_range 0 d.newest n x d.legs behind.sorted there).1 in
          omega (arith, b, r)) e))

      beyond : d.leg < n
      beyond = behind.fresh begun n fresh_n

      later_n : suc d.leg < n → l.later n ≡ false
      later_n a =
          sym (ended n a) ∙ not_ended (at n d.legs) (fresh_alone (at n d.legs) fresh_n)

      follows : LawAt out d n blank l.later l.known came
      follows = by (nat_eq n (suc d.leg)) refl
        where
          by : (t : Bool) → nat_eq n (suc d.leg) ≡ t → LawAt out d n blank l.later l.known came
          by true e = subst (λ k. LawAt out d k blank l.later l.known came)
              (sym (same_number n (suc d.leg) e))
              (subst (λ s. LawAt out d (suc d.leg) s l.later l.known came) (l.kept.nothing h) law)
          by false e =
              let o = other_number n (suc d.leg) e in
              let a : suc d.leg < n = omega (arith, o, beyond) in
              subst (λ b. LawAt out d n (record { held = []; ended = b; finished = false })
              l.later l.known came) (later_n a)
              (subst (LawAt out d n (record { held = []; ended = l.later n; finished = false })
              l.later l.known) (more_none d.leg came)
              (taker_step (taker_at out d l.later (suc d.leg)) l.known came (Hears (Follows n))
              law (
                l.kept.nothing h,
                no_leg (suc d.leg) (omega arith) a,
                a,
                λ k c b. (
                  no_leg k (omega (arith, c)) b,
                  sym (ended k c) ∙ not_ended (at k d.legs) (no_wait k),
                ),
              )))

-- ---- the row

abbrev waiting_leg : InLeg → Cookie → ℕ → ℕ → InLeg
waiting_leg leg successor window timeout =
    record leg { cookie = successor; stage = Waits window timeout false }

abbrev announced_leg : Server → InLeg → Cookie → ℕ → ℕ → Server
announced_leg s leg successor window timeout = with_in
    (record s { newest = record { leg = leg.number; cookie = successor } })
    (waiting_leg leg successor window timeout)

announces : (out : List (List ℕ)) (up : ℕ → Bool) (came : Log) (s : Server) (leg : InLeg)
    (successor : Cookie) (window timeout : ℕ) → at leg.number (spots s.ins) ≡ Some (spot leg)
    → is_fresh leg.stage ≡ true → has_begun s.stage ≡ true
    → ((k : ℕ) → k < leg.number → fresh_at (at k (spots s.ins)) ≡ false)
    → Took out up came (reads s) s.waiting
    → Took out up came (reads (announced s leg successor window timeout))
    (announced s leg successor window timeout).waiting
announces out up came s leg successor window timeout there fresh begun above l =
    by s.line.has_next refl
  where
    t : Server
    t = announced_leg s leg successor window timeout

    by : (b : Bool) → s.line.has_next ≡ b
        → Took out up came (reads (next_opened t)) (next_opened t).waiting
    by true h =
        by_test (λ (f : Server). Took out up came (reads f) f.waiting)
        (t.line.has_next || waits kind.InR1A3 t.waiting) t (opens_leg t (first_waiting t.ins))
        (λ e. subst (λ xs. Took out up came (with_legs (reads s) xs) s.waiting)
        (sym (set_spot s.ins (waiting_leg leg successor window timeout)))
        (announced_took (reads s) (spot leg) leg.number window timeout there fresh begun above
        out up came s.waiting h l))
        (λ e. absurd (either s.line.has_next (waits kind.InR1A3 s.waiting) h e))
      where
        either : (a b : Bool) → a ≡ true → a || b ≡ false → ⊥
        either true b e f = absurd (cc)
        either false b e f = absurd (cc)
    by false h =
        opened_took out up came t
        (subst (λ xs. Ready out up came (with_legs (reads s) xs) s.waiting)
        (sym (set_spot s.ins (waiting_leg leg successor window timeout)))
        (announced_ready (reads s) (spot leg) leg.number window timeout there fresh begun above
        out up came s.waiting h l))

pub in_r1_a2_row : (out : List (List ℕ)) (up : ℕ → Bool) (came : Log) (s : Server) (n : ℕ)
    (count : Count) (connection predecessor successor : Cookie) (window timeout : ℕ)
    → Took out up came (reads s) s.waiting
    → RowTook out up came n []
    (on_in_r1_a2 s n count connection predecessor successor window timeout)
in_r1_a2_row out up came s n count connection predecessor successor window timeout l =
    by_test (RowTook out up came n []) (is_first count && not (has_fresh_below n s.ins))
    (in_r1_a2_at s s.stage n connection predecessor successor window timeout) (unexpected s)
    (λ e. staged s.stage refl (negated (has_fresh_below n s.ins)
    (both (is_first count) (not (has_fresh_below n s.ins)) e).1))
    (λ e. l)
  where
    leg_by : (first : Cookie) → has_begun s.stage ≡ true → has_fresh_below n s.ins ≡ false
        → (leg : Option InLeg) → in_leg n s.ins ≡ leg
        → RowTook out up came n [] (in_r1_a2_by s first connection predecessor successor window
        timeout leg)
    leg_by first begun none None e = l
    leg_by first begun none (Some leg) e =
        by_test (RowTook out up came n []) (not (is_fresh leg.stage)) _ _ (λ o. l)
        (λ fresh. by_test (RowTook out up came n []) (not (same_cookie first connection)) _ _
        (λ o. l)
        (λ o. by_test (RowTook out up came n [])
        (not (same_cookie s.newest.cookie predecessor)) _
        (took (announced s leg successor window timeout)) (λ o. l)
        (λ o. let is : leg.number ≡ n = at_number n (spots s.ins) (spot leg)
        (sym (leg_spot n s.ins) ∙ ap spot_by e) in
        subst (λ log. Took out up log (reads (announced s leg successor window timeout))
        (announced s leg successor window timeout).waiting) (sym (more_none n came))
        (announces out up came s leg successor window timeout (in_there n s.ins leg e)
        (is_so (is_fresh leg.stage) fresh) begun
        (λ k b. fresh_above n s.ins none k (omega (arith, is, b))) l))))
      where
        is_so : (b : Bool) → not b ≡ false → b ≡ true
        is_so true e = refl
        is_so false e = absurd (cc)

    staged : (x : Stage) → s.stage ≡ x → has_fresh_below n s.ins ≡ false
        → RowTook out up came n []
        (in_r1_a2_at s x n connection predecessor successor window timeout)
    staged stage.Waits q none = l
    staged (stage.OutCame first) q none = l
    staged (stage.InCame first in_window in_timeout) q none = l
    staged (stage.Open first) q none =
        leg_by first (ap has_begun q) none (in_leg n s.ins) refl
    staged stage.Ended q none = l
