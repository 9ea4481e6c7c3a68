-- one direction joined of its machines and legs: what was taken is a front of what was given
use Rattle.law_order.proofs.Vocabulary.{◌≡◌, ℕ, zero, suc, ◌+◌, ◌-◌, ◌<◌, ◌≤◌, Bool, true, false, ◌||◌, nat_eq, nat_lt, nat_le, List, [], ◌++◌, arith, refl, sym, ap, ◌∙◌, subst, append_assoc, append-nil, nat_tests, IsPrefix, Item, pdus, has_end, has_handover, IsChannel, Log, below, through, ReportsEnd, Route, IsRoute}
use Rattle.law_order.proofs.ItemLists.{pdus-append, has_end-append, handed_whole, ended_whole, all_ended, nil_front}
use Rattle.law_order.proofs.Prefixes.{prefix_self, prefix_more, prefix_trans, prefix_pdus, prefix_behind, prefix_both}
use Rattle.law_order.proofs.ByNumber.{same_number, other_number, below_empty, below_prefix}
use Rattle.law_order.proofs.ShelvesKeep.{below_next}

-- a front of items that ends with the handover mark is all of them
pub whole_if_handed : (a b : List Item) → IsPrefix a b → IsChannel b → has_handover a ≡ true → a ≡ b
whole_if_handed a b p c h =
    let none = handed_whole a p.0 h (rw p.1 c) in
    sym (append-nil a) ∙ rw (sym none) p.1

-- the number of the near leg at which proxy m is
abbrev pub at_near : Route → ℕ → ℕ
at_near r m = (r.proxies m).shelves.current

-- ---- near legs

-- a near leg that a proxy left came whole
pub near_whole : (r : Route) → IsRoute r → (m n : ℕ) → r.legs m ≡ true → m ≤ n → n < at_near r m
    → r.came m n ≡ r.sent n
near_whole r l m n leg above left =
    let x = l.passers m leg in
    let is_near : nat_le m n ≡ true = grind (arith, nat_tests) in
    whole_if_handed (r.came m n) (r.sent n) (l.near m n leg) (l.giver.channel n)
    (x.shelved.past n left is_near)

-- what came at proxy m on the near legs below k, behind what was sent on the channels before its
-- first
near_below_by : (r : Route) → IsRoute r → (m : ℕ) → r.legs m ≡ true → (count k : ℕ)
    → m + count ≡ k → k ≤ at_near r m → below r.sent k ≡ below r.sent m ++ below (r.came m) k
near_below_by r l m leg zero k e left =
    let same : k ≡ m = omega arith in
    let x = l.passers m leg in
    rw (same, below_empty (r.came m) m x.unused) (sym (append-nil (below r.sent m)))
near_below_by r l m leg (suc count) k e left =
    let j = m + count in
    let same : k ≡ suc j = omega arith in
    let shorter = near_below_by r l m leg count j refl (omega arith) in
    let here = near_whole r l m j leg (omega arith) (omega arith) in
    rw (same, shorter, here) (append_assoc (below r.sent m) (below (r.came m) j) (r.sent j))

pub near_below : (r : Route) → IsRoute r → (m : ℕ) → r.legs m ≡ true
    → below r.sent (at_near r m) ≡ below r.sent m ++ below (r.came m) (at_near r m)
near_below r l m leg =
    let x = l.passers m leg in
    near_below_by r l m leg (at_near r m - m) (at_near r m) (omega (arith, x.from)) (omega arith)

-- all that was sent on the channels before the first near leg of proxy m, and all that came there
abbrev up_to : Route → ℕ → List Item
up_to r m = below r.sent m ++ through (r.came m) (at_near r m)

up_to_is : (r : Route) → IsRoute r → (m : ℕ) → r.legs m ≡ true
    → up_to r m ≡ below r.sent (at_near r m) ++ r.came m (at_near r m)
up_to_is r l m leg =
    sym (append_assoc (below r.sent m) (below (r.came m) (at_near r m)) (r.came m (at_near r m)))
    ∙ rw (near_below r l m leg) refl

-- all that was sent on channels up to any number is a front of all that was sent
sent_prefix : (r : Route) → IsRoute r → (k : ℕ)
    → IsPrefix (through r.sent k) (through r.sent r.giver.writing)
sent_prefix r l k = by_order r l k (nat_le k r.giver.writing) refl
  where
    by_order : (r : Route) → IsRoute r → (k : ℕ) (t : Bool) → nat_le k r.giver.writing ≡ t
        → IsPrefix (through r.sent k) (through r.sent r.giver.writing)
    by_order r l k true e =
        let up : k ≤ r.giver.writing = grind (arith, nat_tests) in
        below_prefix r.sent (suc k) (suc r.giver.writing) (omega arith)
    by_order r l k false e =
        let beyond : r.giver.writing < suc k = grind (arith, nat_tests) in
        let same = below_next r.sent r.giver.writing (suc k) beyond (λ n a b. l.giver.later n a) in
        rw same (prefix_self (through r.sent r.giver.writing))

up_to_prefix : (r : Route) → IsRoute r → (m : ℕ) → r.legs m ≡ true
    → IsPrefix (up_to r m) (through r.sent r.giver.writing)
up_to_prefix r l m leg =
    let c = at_near r m in
    let here = prefix_behind (below r.sent c) (r.came m c) (r.sent c) (l.near m c leg) in
    rw (up_to_is r l m leg) (prefix_trans (below r.sent c ++ r.came m c) (through r.sent c)
    (through r.sent r.giver.writing) here (sent_prefix r l c))

-- ---- far legs

-- nothing comes where there is no far leg
pub no_leg : (r : Route) → IsRoute r → (n : ℕ) → r.legs n ≡ false → r.got n ≡ []
no_leg r l n none = nil_front (r.got n) (l.far n).0 ((l.far n).1 ∙ l.numbered.unused n none)

-- proxy m handed over, and all that it put came
pub record HandedOver (r : Route) (m : ℕ) : Type 0 where
  pub whole : r.got m ≡ r.put m
  pub all : pdus (r.got m) ≡ pdus (through (r.came m) (at_near r m))
  pub last : r.came m (at_near r m) ≡ r.sent (at_near r m)
  pub mark : has_handover (r.came m (at_near r m)) ≡ true
  pub empty : (r.proxies m).shelves.now.held ≡ []
  pub next : r.legs (suc (at_near r m)) ≡ true

pub handed_over : (r : Route) → IsRoute r → (m : ℕ) → r.legs m ≡ true → m < r.taker.shelves.current
    → HandedOver r m
handed_over r l m leg b =
    let x = l.passers m leg in
    let c = at_near r m in
    let came = l.taker.past m b (l.numbered.known m leg) in
    let whole = whole_if_handed (r.got m) (r.put m) (l.far m) x.channel came in
    let put : (r.proxies m).handover_put ≡ true =
    x.handover_put ∙ ap has_handover (sym whole) ∙ came in
    let done = x.handover_came put in
    let mark : has_handover (r.came m c) ≡ true = sym x.shelved.holds.finished ∙ done.0 in
    let none : pdus (r.put m) ≡ pdus (through (r.came m) c) =
    simp append-nil at (rw done.1 at x.shelved.holds.all) in
    record {
      whole = whole;
      all = ap pdus whole ∙ none;
      last = whole_if_handed (r.came m c) (r.sent c) (l.near m c leg) (l.giver.channel c) mark;
      mark = mark;
      empty = done.1;
      next = l.numbered.handed m leg put;
    }

-- the last far leg up to a number, before which all came
pub record Reached (r : Route) (n : ℕ) : Type 0 where
  pub leg : ℕ
  pub is_leg : r.legs leg ≡ true
  pub up : leg ≤ n
  pub none : (k : ℕ) → leg < k → k ≤ n → r.legs k ≡ false
  pub same : pdus (below r.got leg) ≡ pdus (below r.sent leg)

pub not_less : (a b : ℕ) → (a < b → ⊥) → b ≤ a
not_less a b none = by_order a b none (nat_lt a b) refl
  where
    by_order : (a b : ℕ) → (a < b → ⊥) → (t : Bool) → nat_lt a b ≡ t → b ≤ a
    by_order a b none true e = absurd (none (grind (arith, nat_tests)))
    by_order a b none false e = grind (arith, nat_tests)

-- the next far leg stands where its predecessor's proxy handed over
pub next_leg : (r : Route) → IsRoute r → (n m : ℕ) → r.legs (suc n) ≡ true → r.legs m ≡ true → m ≤ n
    → ((k : ℕ) → m < k → k ≤ n → r.legs k ≡ false) → r.legs (suc (at_near r m)) ≡ true
    → at_near r m ≡ n
next_leg r l n m leg is_leg up none handed =
    let x = l.passers m is_leg in
    let not_beyond : at_near r m ≤ n = not_less n (at_near r m) (λ b.
    let read = l.numbered.reads m (suc n) is_leg (omega arith) (omega arith) in absurd (cc)) in
    let not_before : n ≤ at_near r m = not_less (at_near r m) n (λ b.
    let read = none (suc (at_near r m)) (omega (arith, x.from)) (omega arith) in absurd (cc)) in
    omega arith

-- before that leg all came, too
reached_leg : (r : Route) → IsRoute r → (n : ℕ) → suc n ≤ r.taker.shelves.current
    → r.legs (suc n) ≡ true → Reached r n
    → pdus (below r.got (suc n)) ≡ pdus (below r.sent (suc n))
reached_leg r l n b leg a =
    let m = a.leg in
    let h = handed_over r l m a.is_leg (omega (arith, a.up)) in
    let at = next_leg r l n m leg a.is_leg a.up a.none h.next in
    let gap =
    below_next r.got m (suc n) (omega (arith, a.up))
    (λ k c d. no_leg r l k (a.none k c (omega arith))) in
    let got : pdus (below r.got (suc n)) ≡ pdus (below r.got m) ++ pdus (r.got m) =
    ap pdus gap ∙ pdus-append (below r.got m) (r.got m) in
    let sent : pdus (up_to r m) ≡ pdus (below r.sent m) ++ pdus (r.got m) =
    pdus-append (below r.sent m) (through (r.came m) (at_near r m)) ∙ rw h.all refl in
    let all : up_to r m ≡ through r.sent n =
    up_to_is r l m a.is_leg ∙ rw (h.last, at) refl in
    got ∙ rw (a.same, ← sent, all) refl

pub reached : (r : Route) → IsRoute r → (n : ℕ) → suc n ≤ r.taker.shelves.current
    → Reached r (suc n)
reached r l zero b = record {
  leg = 1;
  is_leg = l.numbered.first;
  up = omega arith;
  none = λ k c d. absurd (omega arith);
  same = rw (no_leg r l 0 l.numbered.none, l.giver.unused) refl;
}
reached r l (suc n) b =
    next_by r l (suc n) b (r.legs (suc (suc n))) refl (reached r l n (omega arith))
  where
    next_by : (r : Route) → IsRoute r → (n : ℕ) → suc n ≤ r.taker.shelves.current → (t : Bool)
        → r.legs (suc n) ≡ t → Reached r n → Reached r (suc n)
    next_by r l n b true e a = record {
      leg = suc n;
      is_leg = e;
      up = omega arith;
      none = λ k c d. absurd (omega arith);
      same = reached_leg r l n b e a;
    }
    next_by r l n b false e a = record {
      leg = a.leg;
      is_leg = a.is_leg;
      up = omega (arith, a.up);
      none = λ k c d. last r n a.leg e a.none k c d (nat_eq k (suc n)) refl;
      same = a.same;
    }
      where
        last : (r : Route) (n m : ℕ) → r.legs (suc n) ≡ false
            → ((k : ℕ) → m < k → k ≤ n → r.legs k ≡ false) → (k : ℕ) → m < k → k ≤ suc n
            → (t : Bool) → nat_eq k (suc n) ≡ t → r.legs k ≡ false
        last r n m e none k c d true f = rw (same_number k (suc n) f) e
        last r n m e none k c d false f =
            let o = other_number k (suc n) f in none k c (omega arith)

-- before each far leg up to the taker's current one all came
pub all_before : (r : Route) → IsRoute r → (m : ℕ) → r.legs m ≡ true → m ≤ r.taker.shelves.current
    → pdus (below r.got m) ≡ pdus (below r.sent m)
all_before r l zero leg b = let none = l.numbered.none in absurd (cc)
all_before r l (suc n) leg b =
    let a = reached r l n b in
    same_leg r (suc n) a.leg leg a.none (nat_eq a.leg (suc n)) refl a.up a.same
  where
    same_leg : (r : Route) (n m : ℕ) → r.legs n ≡ true
        → ((k : ℕ) → m < k → k ≤ n → r.legs k ≡ false) → (t : Bool) → nat_eq m n ≡ t → m ≤ n
        → pdus (below r.got m) ≡ pdus (below r.sent m)
        → pdus (below r.got n) ≡ pdus (below r.sent n)
    same_leg r n m leg none true e up same =
        subst (λ k. pdus (below r.got k) ≡ pdus (below r.sent k)) (same_number m n e) same
    same_leg r n m leg none false e up same =
        let o = other_number m n e in
        let read = none n (omega arith) (omega arith) in absurd (cc)

-- ---- what was taken

-- the PDUs that came on a far leg are a front of those that its proxy took
got_prefix : (r : Route) → IsRoute r → (m : ℕ) → r.legs m ≡ true
    → IsPrefix (pdus (r.got m)) (pdus (through (r.came m) (at_near r m)))
got_prefix r l m leg =
    let x = l.passers m leg in
    let put = prefix_more (pdus (r.put m)) (r.proxies m).shelves.now.held in
    prefix_trans (pdus (r.got m)) (pdus (r.put m)) (pdus (through (r.came m) (at_near r m)))
    (prefix_pdus (r.got m) (r.put m) (l.far m)) (rw (← x.shelved.holds.all) put)

pub held_prefix : (r : Route) → IsRoute r
    → IsPrefix (r.taker.taken ++ r.taker.shelves.now.held) r.giver.given
held_prefix r l =
    let m = r.taker.shelves.current in
    let leg = l.numbered.here in
    let all = all_before r l m leg (omega arith) in
    let here = prefix_behind (pdus (below r.sent m)) (pdus (r.got m))
    (pdus (through (r.came m) (at_near r m))) (got_prefix r l m leg) in
    let got : pdus (through r.got m) ≡ pdus (below r.sent m) ++ pdus (r.got m) =
    pdus-append (below r.got m) (r.got m) ∙ rw all refl in
    let sent = pdus-append (below r.sent m) (through (r.came m) (at_near r m)) in
    let first : IsPrefix (pdus (through r.got m)) (pdus (up_to r m)) = rw (got, sent) here in
    let second =
    prefix_pdus (up_to r m) (through r.sent r.giver.writing) (up_to_prefix r l m leg) in
    let third : IsPrefix (pdus (through r.sent r.giver.writing)) r.giver.given =
    (r.giver.queue, sym l.giver.all) in
    rw l.taker.holds.all
    (prefix_trans (pdus (through r.got m)) (pdus (up_to r m)) r.giver.given first
    (prefix_trans (pdus (up_to r m)) (pdus (through r.sent r.giver.writing)) r.giver.given second
    third))

pub taken_prefix : (r : Route) → IsRoute r → IsPrefix r.taker.taken r.giver.given
taken_prefix r l =
    prefix_trans r.taker.taken (r.taker.taken ++ r.taker.shelves.now.held) r.giver.given
    (prefix_more r.taker.taken r.taker.shelves.now.held) (held_prefix r l)

-- ---- a clean end

-- END is on a channel where it is among joined ones
record EndsAt (log : Log) (n : ℕ) : Type 0 where
  channel : ℕ
  up : channel ≤ n
  ended : has_end (log channel) ≡ true

pub or_false : (b : Bool) → b || false ≡ true → b ≡ true
or_false true e = refl
or_false false e = e

ends_here : (log : Log) (n : ℕ) (t : Bool) → has_end (log n) ≡ t
    → has_end (below log n) || has_end (log n) ≡ true
    → (has_end (below log n) ≡ true → EndsAt log n) → EndsAt log n
ends_here log n true e either before = record { channel = n; up = omega arith; ended = e }
ends_here log n false e either before =
    before (or_false (has_end (below log n)) (rw e at either))

ends_at : (log : Log) (n : ℕ) → has_end (through log n) ≡ true → EndsAt log n
ends_at log zero e =
    ends_here log zero (has_end (log zero)) refl e (λ none. absurd (cc))
ends_at log (suc n) e =
    ends_here log (suc n) (has_end (log (suc n))) refl
    (sym (has_end-append (below log (suc n)) (log (suc n))) ∙ e)
    (λ before. let found = ends_at log n before in
    record { channel = found.channel; up = omega (arith, found.up); ended = found.ended })

-- END goes with what is behind it
pub end_stays : (a b : List Item) → IsPrefix a b → has_end a ≡ true → has_end b ≡ true
end_stays a b p e = rw (sym p.1, has_end-append, e) refl

-- a far leg on which something came is one
is_leg : (r : Route) → IsRoute r → (n : ℕ) → has_end (r.got n) ≡ true → r.legs n ≡ true
is_leg r l n e = by_leg r l n (r.legs n) refl e
  where
    by_leg : (r : Route) → IsRoute r → (n : ℕ) (t : Bool) → r.legs n ≡ t
        → has_end (r.got n) ≡ true → t ≡ true
    by_leg r l n true f e = refl
    by_leg r l n false f e = let none = no_leg r l n f in absurd (let h = rw none at e in cc)

-- where END came on far leg m, all that was given came on the far legs up to it
record AllCame (r : Route) (m : ℕ) : Type 0 where
  closing : r.giver.closing ≡ true
  all : r.giver.given ≡ pdus (through r.got m)

all_came : (r : Route) → IsRoute r → (m : ℕ) → r.legs m ≡ true → m ≤ r.taker.shelves.current
    → has_end (r.got m) ≡ true → AllCame r m
all_came r l m leg b e =
    let x = l.passers m leg in
    let far = l.far m in
    let near = through (r.came m) (at_near r m) in
    let put : (r.proxies m).end_put ≡ true = x.end_put ∙ end_stays (r.got m) (r.put m) far e in
    let came = x.end_came put in
    let ended : has_end near ≡ true =
    has_end-append (below (r.came m) (at_near r m)) (r.came m (at_near r m))
    ∙ rw (← x.shelved.holds.was_ended, ← x.shelved.holds.ended) came.0 in
    let ended_up : has_end (up_to r m) ≡ true =
    has_end-append (below r.sent m) near ∙ or_true (has_end (below r.sent m)) (has_end near)
    ended in
    let up = up_to_prefix r l m leg in
    let over = l.giver.over (end_stays (up_to r m) (through r.sent r.giver.writing) up ended_up) in
    let none = all_ended (up_to r m) up.0 ended_up (rw up.1 l.giver.joined) in
    let sent : pdus (through r.sent r.giver.writing) ≡ pdus (up_to r m) =
    ap pdus (sym up.1) ∙ pdus-append (up_to r m) up.0 ∙ rw none (append-nil (pdus (up_to r m))) in
    let no_more = ended_whole (r.got m) far.0 e (rw far.1 x.channel) in
    let got : pdus (r.put m) ≡ pdus (r.got m) =
    ap pdus (sym far.1) ∙ pdus-append (r.got m) far.0 ∙ rw no_more (append-nil (pdus (r.got m))) in
    let passed : pdus (r.put m) ≡ pdus near =
    simp append-nil at (rw came.1 at x.shelved.holds.all) in
    let before = all_before r l m leg b in
    let same : pdus (up_to r m) ≡ pdus (through r.got m) =
    pdus-append (below r.sent m) near
    ∙ rw (← before, ← passed, got) (sym (pdus-append (below r.got m) (r.got m))) in
    record {
      closing = over.0;
      all = l.giver.all ∙ rw (over.1, sent, same) (append-nil (pdus (through r.got m)));
    }
  where
    or_true : (a b : Bool) → b ≡ true → a || b ≡ true
    or_true true b e = refl
    or_true false b e = e

-- an end that reports that no more comes took all
pub record AllTaken (r : Route) : Type 0 where
  pub all : r.taker.taken ≡ r.giver.given
  pub closing : r.giver.closing ≡ true

pub all_taken : (r : Route) → IsRoute r → ReportsEnd r.taker → AllTaken r
all_taken r l end =
    let c = r.taker.shelves.current in
    let h = l.taker.holds in
    let ended : has_end (through r.got c) ≡ true =
    has_end-append (below r.got c) (r.got c) ∙ rw (← h.was_ended, ← h.ended) end.ended in
    let at = ends_at r.got c ended in
    let leg = is_leg r l at.channel at.ended in
    let came = all_came r l at.channel leg at.up at.ended in
    let taken : r.taker.taken ≡ pdus (through r.got c) =
    simp append-nil at (rw end.empty at h.all) in
    let up : suc at.channel ≤ suc c = omega (arith, at.up) in
    let shorter =
    prefix_pdus (through r.got at.channel) (through r.got c)
    (below_prefix r.got (suc at.channel) (suc c) up) in
    let back : IsPrefix r.giver.given r.taker.taken = rw (came.all, taken) shorter in
    record {
      all = prefix_both r.taker.taken r.giver.given (taken_prefix r l) back;
      closing = came.closing;
    }

-- at a later time it has taken no more
pub none_later : (r later : Route) → IsRoute r → IsRoute later → ReportsEnd r.taker
    → later.giver.given ≡ r.giver.given → IsPrefix r.taker.taken later.taker.taken
    → later.taker.taken ≡ r.taker.taken
none_later r later l m end same more =
    let all = (all_taken r l end).all in
    let back : IsPrefix later.taker.taken r.taker.taken = rw (all, ← same) (taken_prefix later m) in
    prefix_both later.taker.taken r.taker.taken back more
