-- while no leg loses anything, what was given is what was taken, and then what is on its way
use Rattle.law_order.proofs.Vocabulary.{◌≡◌, ◌≢◌, ℕ, zero, suc, ◌+◌, ◌-◌, ◌<◌, ◌≤◌, Bool, true, false, nat_eq, nat_lt, nat_le, if◌then◌else◌, List, [], ◌++◌, arith, refl, sym, ap, ◌∙◌, subst, append_assoc, append-nil, nat_tests, Item, pdus, has_handover, Log, below, through, Shelves, Shelved, Route, IsRoute, reader, OnLegs, IsWhole, held_of, part, path}
use Rattle.law_order.proofs.ItemLists.{pdus-append}
use Rattle.law_order.proofs.Prefixes.{nothing_more}
use Rattle.law_order.proofs.ByNumber.{same_number, other_number, test_same, test_other, below_empty}
use Rattle.law_order.proofs.Streams.{at_near, near_whole, near_below, no_leg, HandedOver, handed_over, all_before, not_less}

-- ---- which proxy reads a channel

-- the last far leg up to a channel
pub record IsReader (r : Route) (n m : ℕ) : Type 0 where
  pub is_leg : r.legs m ≡ true
  pub up : m ≤ n
  pub none : (k : ℕ) → m < k → k ≤ n → r.legs k ≡ false

reader_is : (r : Route) → IsRoute r → (n : ℕ) → IsReader r (suc n) (reader r.legs (suc n))
reader_is r l zero = rw l.numbered.first (record {
  is_leg = l.numbered.first;
  up = omega arith;
  none = λ k a b. absurd (omega arith);
})
reader_is r l (suc n) = by_leg r n (r.legs (suc (suc n))) refl (reader_is r l n)
  where
    by_leg : (r : Route) (n : ℕ) (t : Bool) → r.legs (suc (suc n)) ≡ t
        → IsReader r (suc n) (reader r.legs (suc n))
        → IsReader r (suc (suc n)) (if t then suc (suc n) else reader r.legs (suc n))
    by_leg r n true e old = record {
      is_leg = e;
      up = omega arith;
      none = λ k a b. absurd (omega arith);
    }
    by_leg r n false e old = record {
      is_leg = old.is_leg;
      up = omega (arith, old.up);
      none = λ k a b. last r n (reader r.legs (suc n)) e old.none k a b (nat_eq k (suc (suc n)))
          refl;
    }
      where
        last : (r : Route) (n m : ℕ) → r.legs (suc (suc n)) ≡ false
            → ((k : ℕ) → m < k → k ≤ suc n → r.legs k ≡ false) → (k : ℕ) → m < k
            → k ≤ suc (suc n) → (t : Bool) → nat_eq k (suc (suc n)) ≡ t → r.legs k ≡ false
        last r n m e none k a b true f = rw (same_number k (suc (suc n)) f) e
        last r n m e none k a b false f =
            let o = other_number k (suc (suc n)) f in none k a (omega arith)

-- such a channel has a number
numbered : (r : Route) → IsRoute r → (n m : ℕ) → IsReader r n m → 0 < n
numbered r l n zero i = let none = l.numbered.none in let leg = i.is_leg in absurd (cc)
numbered r l n (suc m) i = omega (arith, i.up)

-- ---- what is held of a channel

held_now : (s : Shelves) → held_of s s.current ≡ s.now.held
held_now s = rw (test_same s.current) refl

-- of channels below the current one nothing
held_below : (s : Shelves) (legs : ℕ → Bool) (out : List (List ℕ)) (came : Log) (n : ℕ)
    → Shelved s legs out came → n < s.current → held_of s n ≡ []
held_below s legs out came n l b =
    let o : n ≢ s.current = omega arith in
    let p : n ≢ s.following = omega (arith, l.above) in
    rw (test_other n s.current o, test_other n s.following p) refl

-- of channels above it all that came
held_above : (s : Shelves) (legs : ℕ → Bool) (out : List (List ℕ)) (came : Log) (n : ℕ)
    → Shelved s legs out came → s.current < n → held_of s n ≡ pdus (came n)
held_above s legs out came n l b =
    let o : n ≢ s.current = omega arith in
    rw (test_other n s.current o)
    (by_test s legs out came n l b (nat_eq n s.following) refl (nat_lt n s.following) refl)
  where
    by_test : (s : Shelves) (legs : ℕ → Bool) (out : List (List ℕ)) (came : Log) (n : ℕ)
        → Shelved s legs out came → s.current < n → (t : Bool) → nat_eq n s.following ≡ t
        → (u : Bool) → nat_lt n s.following ≡ u
        → (if t then s.next.held else []) ≡ pdus (came n)
    by_test s legs out came n l b true e u f =
        l.holds.follows ∙ ap (λ k. pdus (came k)) (sym (same_number n s.following e))
    by_test s legs out came n l b false e true f =
        let between : n < s.following = grind (arith, nat_tests) in
        sym (ap pdus (l.between n b between).1)
    by_test s legs out came n l b false e false f =
        let o = other_number n s.following e in
        let beyond : s.following < n = grind (arith, nat_tests) in
        sym (l.later n beyond).0

-- ---- the parts of channels

-- on a leg of which all came nothing is on its way
none_left : (came sent rest : List Item) → sent ≡ came ++ rest → came ≡ sent → rest ≡ []
none_left came sent rest e same = nothing_more came rest (same ∙ e)

-- the proxy's list of a channel, and the PDUs on its near leg
abbrev pub near_part : Route → OnLegs → ℕ → List (List ℕ)
near_part r on n = held_of (r.proxies (reader r.legs n)).shelves n ++ pdus (on.near n)

abbrev pub far_part : Route → OnLegs → ℕ → List (List ℕ)
far_part r on n = held_of r.taker.shelves n ++ pdus (on.far n)

pub part_is : (r : Route) (on : OnLegs) (n : ℕ) → part r on n ≡ far_part r on n ++ near_part r on n
part_is r on n =
    sym (append_assoc (held_of r.taker.shelves n) (pdus (on.far n)) (near_part r on n))

-- a far leg that is none has no part
no_far : (r : Route) (on : OnLegs) → IsRoute r → IsWhole r on → (n : ℕ) → r.legs n ≡ false
    → r.taker.shelves.current < n → far_part r on n ≡ []
no_far r on l w n none b =
    let got = no_leg r l n none in
    let t = l.taker in
    let held = held_above r.taker.shelves r.known r.taker.taken r.got n t b in
    let rest =
    none_left (r.got n) (r.put n) (on.far n) (w.far n) (got ∙ sym (l.numbered.unused n none)) in
    rw (held, got, rest) refl

-- of a channel that its proxy left nothing is on its way to the proxy
near_left : (r : Route) (on : OnLegs) → IsRoute r → IsWhole r on → (n m : ℕ)
    → reader r.legs n ≡ m → IsReader r n m → n < at_near r m → near_part r on n ≡ []
near_left r on l w n m e i b =
    let x = l.passers m i.is_leg in
    let came = near_whole r l m n i.is_leg i.up b in
    let held =
    held_below (r.proxies m).shelves (λ k. nat_le m k) (pdus (r.put m)) (r.came m) n x.shelved
    b in
    let rest =
    none_left (r.came m n) (r.sent n) (on.near n) (rw e at (w.near n (numbered r l n m i)))
    came in
    rw (e, held, rest) refl

-- of a channel behind its proxy's current one all that was sent
near_later : (r : Route) (on : OnLegs) → IsRoute r → IsWhole r on → (n m : ℕ)
    → reader r.legs n ≡ m → IsReader r n m → at_near r m < n → near_part r on n ≡ pdus (r.sent n)
near_later r on l w n m e i b =
    let x = l.passers m i.is_leg in
    let held =
    held_above (r.proxies m).shelves (λ k. nat_le m k) (pdus (r.put m)) (r.came m) n x.shelved
    b in
    let sent : r.sent n ≡ r.came m n ++ on.near n = rw e at (w.near n (numbered r l n m i)) in
    rw (e, held) (sym (ap pdus sent ∙ pdus-append (r.came m n) (on.near n)))

-- a far leg behind the taker's current one has all that was put
far_later : (r : Route) (on : OnLegs) → IsRoute r → IsWhole r on → (m : ℕ)
    → r.taker.shelves.current < m → far_part r on m ≡ pdus (r.put m)
far_later r on l w m b =
    let held = held_above r.taker.shelves r.known r.taker.taken r.got m l.taker b in
    rw held (sym (ap pdus (w.far m) ∙ pdus-append (r.got m) (on.far m)))

-- ---- before the taker's current channel

pub reader_at : (r : Route) → IsRoute r → (n : ℕ) → 0 < n → IsReader r n (reader r.legs n)
reader_at r l zero b = absurd (omega arith)
reader_at r l (suc n) b = reader_is r l n

-- where the proxy that reads a channel handed over, it came to that channel
came_to : (r : Route) → IsRoute r → (n m : ℕ) → IsReader r n m
    → r.legs (suc (at_near r m)) ≡ true → n ≤ at_near r m
came_to r l n m i next =
    let x = l.passers m i.is_leg in
    not_less (at_near r m) n (λ b.
    let none = i.none (suc (at_near r m)) (omega (arith, x.from)) (omega arith) in absurd (cc))

-- nothing is on its way on the far leg
far_past : (r : Route) (on : OnLegs) → IsRoute r → IsWhole r on → (n m : ℕ) → IsReader r n m
    → r.got m ≡ r.put m → n < r.taker.shelves.current → far_part r on n ≡ []
far_past r on l w n m i whole b =
    let held = held_below r.taker.shelves r.known r.taker.taken r.got n l.taker b in
    rw (held, left r on l w n m i whole (nat_eq n m) refl) refl
  where
    left : (r : Route) (on : OnLegs) → IsRoute r → IsWhole r on → (n m : ℕ) → IsReader r n m
        → r.got m ≡ r.put m → (t : Bool) → nat_eq n m ≡ t → on.far n ≡ []
    left r on l w n m i whole true e =
        let same = same_number n m e in
        none_left (r.got n) (r.put n) (on.far n) (w.far n)
        (subst (λ k. r.got k ≡ r.put k) (sym same) whole)
    left r on l w n m i whole false e =
        let o = other_number n m e in
        let none = i.none n (omega (arith, i.up)) (omega arith) in
        none_left (r.got n) (r.put n) (on.far n) (w.far n)
        (no_leg r l n none ∙ sym (l.numbered.unused n none))

-- nor at the proxy that read the channel, nor on its near leg
near_past : (r : Route) (on : OnLegs) → IsRoute r → IsWhole r on → (n m : ℕ)
    → reader r.legs n ≡ m → IsReader r n m → HandedOver r m → near_part r on n ≡ []
near_past r on l w n m e i h =
    by_test r on l w n m e i h (came_to r l n m i h.next) (nat_eq n (at_near r m)) refl
  where
    by_test : (r : Route) (on : OnLegs) → IsRoute r → IsWhole r on → (n m : ℕ)
        → reader r.legs n ≡ m → IsReader r n m → HandedOver r m → n ≤ at_near r m → (t : Bool)
        → nat_eq n (at_near r m) ≡ t → near_part r on n ≡ []
    by_test r on l w n m e i h up true f =
        let same = same_number n (at_near r m) f in
        let last : r.came m n ≡ r.sent n = subst (λ k. r.came m k ≡ r.sent k) (sym same) h.last in
        let rest =
        none_left (r.came m n) (r.sent n) (on.near n) (rw e at (w.near n (numbered r l n m i)))
        last in
        let held : held_of (r.proxies m).shelves n ≡ [] =
        rw same (held_now (r.proxies m).shelves ∙ h.empty) in
        rw (e, held, rest) refl
    by_test r on l w n m e i h up false f =
        let o = other_number n (at_near r m) f in
        near_left r on l w n m e i (omega arith)

pub part_past : (r : Route) (on : OnLegs) → IsRoute r → IsWhole r on → (n : ℕ) → 0 < n
    → n < r.taker.shelves.current → part r on n ≡ []
part_past r on l w n above b =
    let m = reader r.legs n in
    let i = reader_at r l n above in
    let h = handed_over r l m i.is_leg (omega (arith, i.up)) in
    part_is r on n ∙ rw (far_past r on l w n m i h.whole b, near_past r on l w n m refl i h) refl

-- ---- from there on

-- the parts of the channels from 1 up to a number
abbrev pub parts : Route → OnLegs → ℕ → List (List ℕ)
parts r on n = below (λ k. part r on (suc k)) n

-- all that was sent on the channels before the first one of proxy m, and what it put
abbrev put_by : Route → ℕ → List (List ℕ)
put_by r m = pdus (below r.sent m) ++ pdus (r.put m)

-- what the parts up to channel n, which proxy m reads, add up to
record Level (r : Route) (n m : ℕ) (sum : List (List ℕ)) : Type 0 where
  before : n < at_near r m → sum ≡ put_by r m
  behind : at_near r m ≤ n → sum ≡ pdus (through r.sent n)

-- at the channel at which the proxy is
near_now : (r : Route) (on : OnLegs) → IsRoute r → IsWhole r on → (n m : ℕ)
    → reader r.legs n ≡ m → IsReader r n m → n ≡ at_near r m
    → put_by r m ++ near_part r on n ≡ pdus (through r.sent n)
near_now r on l w n m e i same =
    let x = l.passers m i.is_leg in
    let s = (r.proxies m).shelves in
    let before = pdus (below r.sent m) in
    let put = pdus (r.put m) in
    let near = pdus (on.near n) in
    let held : held_of s n ≡ s.now.held = rw same (held_now s) in
    let sent : r.sent n ≡ r.came m n ++ on.near n = rw e at (w.near n (numbered r l n m i)) in
    let came : put ++ s.now.held ≡ pdus (below (r.came m) n) ++ pdus (r.came m n) =
    rw same (x.shelved.holds.all ∙ pdus-append (below (r.came m) s.current) (r.came m s.current)) in
    let all : pdus (below r.sent n) ≡ before ++ pdus (below (r.came m) n) =
    rw same (ap pdus (near_below r l m i.is_leg)
    ∙ pdus-append (below r.sent m) (below (r.came m) s.current)) in
    let here : pdus (r.sent n) ≡ pdus (r.came m n) ++ near =
    ap pdus sent ∙ pdus-append (r.came m n) (on.near n) in
    rw (e, held)
    (regroup before put s.now.held near (pdus (below (r.came m) n)) (pdus (r.came m n)) came
    ∙ sym (pdus-append (below r.sent n) (r.sent n) ∙ rw (all, here) refl))
  where
    regroup : (a b c d x y : List (List ℕ)) → b ++ c ≡ x ++ y
        → (a ++ b) ++ (c ++ d) ≡ (a ++ x) ++ (y ++ d)
    regroup a b c d x y e =
        let left : (a ++ b) ++ (c ++ d) ≡ a ++ ((b ++ c) ++ d) = simp append_assoc in
        let right : (a ++ x) ++ (y ++ d) ≡ a ++ ((x ++ y) ++ d) = simp append_assoc in
        left ∙ rw e (sym right)

-- a sum, and then the near part of a channel
near_sum : (r : Route) (on : OnLegs) → IsRoute r → IsWhole r on → (n m : ℕ) (sum : List (List ℕ))
    → reader r.legs n ≡ m → IsReader r n m → (n ≤ at_near r m → sum ≡ put_by r m)
    → (at_near r m < n → sum ≡ pdus (below r.sent n)) → Level r n m (sum ++ near_part r on n)
near_sum r on l w n m sum e i at beyond = record {
  before = λ b.
      rw (near_left r on l w n m e i b) (append-nil sum ∙ at (omega arith));
  behind = λ b. by_test r on l w n m sum e i at beyond b (nat_eq n (at_near r m)) refl;
}
  where
    by_test : (r : Route) (on : OnLegs) → IsRoute r → IsWhole r on → (n m : ℕ)
        (sum : List (List ℕ)) → reader r.legs n ≡ m → IsReader r n m
        → (n ≤ at_near r m → sum ≡ put_by r m)
        → (at_near r m < n → sum ≡ pdus (below r.sent n)) → at_near r m ≤ n → (t : Bool)
        → nat_eq n (at_near r m) ≡ t → sum ++ near_part r on n ≡ pdus (through r.sent n)
    by_test r on l w n m sum e i at beyond b true f =
        let same = same_number n (at_near r m) f in
        rw (at (omega arith)) (near_now r on l w n m e i same)
    by_test r on l w n m sum e i at beyond b false f =
        let o = other_number n (at_near r m) f in
        let above : at_near r m < n = omega arith in
        rw (beyond above, near_later r on l w n m e i above)
        (sym (pdus-append (below r.sent n) (r.sent n)))

-- the sum of the parts up to a channel
sum_is : (r : Route) (on : OnLegs) (n : ℕ)
    → r.taker.taken ++ parts r on (suc n)
    ≡ ((r.taker.taken ++ parts r on n) ++ far_part r on (suc n)) ++ near_part r on (suc n)
sum_is r on n =
    let taken = r.taker.taken in
    let before = parts r on n in
    let far = far_part r on (suc n) in
    let near = near_part r on (suc n) in
    ap (λ p. taken ++ (before ++ p)) (part_is r on (suc n)) ∙ grouped taken before far near
  where
    grouped : (a b c d : List (List ℕ)) → a ++ (b ++ (c ++ d)) ≡ ((a ++ b) ++ c) ++ d
    grouped a b c d = simp append_assoc

level_as : (r : Route) (n m k : ℕ) {a b : List (List ℕ)} → m ≡ k → a ≡ b → Level r n m a
    → Level r n k b
level_as r n m k {a} {b} e f v =
    subst (λ j. Level r n j b) e (subst (λ s. Level r n m s) f v)

-- at a far leg all behind it on the far side was put by its proxy
at_leg : (r : Route) (on : OnLegs) → IsRoute r → IsWhole r on → (n : ℕ) → r.legs (suc n) ≡ true
    → (r.taker.taken ++ parts r on n) ++ far_part r on (suc n) ≡ put_by r (suc n)
    → Level r (suc n) (reader r.legs (suc n)) (r.taker.taken ++ parts r on (suc n))
at_leg r on l w n leg sum =
    let m = suc n in
    let e : reader r.legs m ≡ m = rw leg refl in
    let i : IsReader r m m = rw e at (reader_is r l n) in
    let x = l.passers m leg in
    let v = near_sum r on l w m m ((r.taker.taken ++ parts r on n) ++ far_part r on m) e i
    (λ b. sum) (λ b. absurd (omega (arith, x.from))) in
    level_as r m m (reader r.legs m) (sym e) (sym (sum_is r on n)) v

-- at the taker's current channel
level_now : (r : Route) (on : OnLegs) → IsRoute r → IsWhole r on → (n : ℕ)
    → r.taker.shelves.current ≡ suc n
    → Level r (suc n) (reader r.legs (suc n)) (r.taker.taken ++ parts r on (suc n))
level_now r on l w n same =
    let t = r.taker in
    let s = t.shelves in
    let leg : r.legs (suc n) ≡ true = rw same at l.numbered.here in
    let none =
    below_empty (λ k. part r on (suc k)) n
    (λ k b. part_past r on l w (suc k) (omega arith) (omega arith)) in
    let held : held_of s (suc n) ≡ s.now.held = rw (← same) (held_now s) in
    let before = all_before r l (suc n) leg (omega arith) in
    let got : t.taken ++ s.now.held ≡ pdus (below r.got (suc n)) ++ pdus (r.got (suc n)) =
    subst (λ k. t.taken ++ s.now.held ≡ pdus (below r.got k) ++ pdus (r.got k)) same
    (l.taker.holds.all ∙ pdus-append (below r.got s.current) (r.got s.current)) in
    let put : pdus (r.put (suc n)) ≡ pdus (r.got (suc n)) ++ pdus (on.far (suc n)) =
    ap pdus (w.far (suc n)) ∙ pdus-append (r.got (suc n)) (on.far (suc n)) in
    let sum : (t.taken ++ parts r on n) ++ far_part r on (suc n) ≡ put_by r (suc n) =
    rw (none, held, append-nil t.taken)
    (sym (append_assoc t.taken s.now.held (pdus (on.far (suc n))))
    ∙ rw (got, before, put)
    (append_assoc (pdus (below r.sent (suc n))) (pdus (r.got (suc n)))
    (pdus (on.far (suc n))))) in
    at_leg r on l w n leg sum

-- at the next channel
level_next : (r : Route) (on : OnLegs) → IsRoute r → IsWhole r on → (n : ℕ)
    → r.taker.shelves.current < suc (suc n)
    → Level r (suc n) (reader r.legs (suc n)) (r.taker.taken ++ parts r on (suc n))
    → Level r (suc (suc n)) (reader r.legs (suc (suc n)))
    (r.taker.taken ++ parts r on (suc (suc n)))
level_next r on l w n b v = by_leg r on l w n b v (r.legs (suc (suc n))) refl
  where
    by_leg : (r : Route) (on : OnLegs) → IsRoute r → IsWhole r on → (n : ℕ)
        → r.taker.shelves.current < suc (suc n)
        → Level r (suc n) (reader r.legs (suc n)) (r.taker.taken ++ parts r on (suc n))
        → (t : Bool) → r.legs (suc (suc n)) ≡ t
        → Level r (suc (suc n)) (reader r.legs (suc (suc n)))
        (r.taker.taken ++ parts r on (suc (suc n)))
    by_leg r on l w n b v true leg =
        let m = reader r.legs (suc n) in
        let i = reader_is r l n in
        let done : at_near r m ≤ suc n = not_less (suc n) (at_near r m) (λ c.
        let read = l.numbered.reads m (suc (suc n)) i.is_leg (omega (arith, i.up)) (omega arith) in
        absurd (cc)) in
        let sum : (r.taker.taken ++ parts r on (suc n)) ++ far_part r on (suc (suc n))
        ≡ put_by r (suc (suc n)) =
        rw (v.behind done, far_later r on l w (suc (suc n)) b) refl in
        at_leg r on l w (suc n) leg sum
    by_leg r on l w n b v false none =
        let m = reader r.legs (suc n) in
        let e : reader r.legs (suc (suc n)) ≡ m = rw none refl in
        let i : IsReader r (suc (suc n)) m = rw e at (reader_is r l (suc n)) in
        let sum = r.taker.taken ++ parts r on (suc n) in
        let far = no_far r on l w (suc (suc n)) none b in
        let near = near_part r on (suc (suc n)) in
        let u = near_sum r on l w (suc (suc n)) m sum e i (λ c. v.before (omega arith))
        (λ c. v.behind (omega arith)) in
        let none_there : sum ++ far_part r on (suc (suc n)) ≡ sum = rw far (append-nil sum) in
        let all = sum_is r on (suc n) ∙ ap (λ x. x ++ near) none_there in
        level_as r (suc (suc n)) m (reader r.legs (suc (suc n))) (sym e) (sym all) u

level : (r : Route) (on : OnLegs) → IsRoute r → IsWhole r on → (n count k : ℕ)
    → r.taker.shelves.current ≡ suc n → suc n + count ≡ suc k
    → Level r (suc k) (reader r.legs (suc k)) (r.taker.taken ++ parts r on (suc k))
level r on l w n zero k same e =
    let here : n ≡ k = omega arith in
    subst (λ j. Level r (suc j) (reader r.legs (suc j)) (r.taker.taken ++ parts r on (suc j))) here
    (level_now r on l w n same)
level r on l w n (suc count) zero same e = absurd (omega arith)
level r on l w n (suc count) (suc k) same e =
    level_next r on l w k (omega arith) (level r on l w n count k same (omega arith))

-- ---- up to the giver

-- the last proxy is at no channel behind the writing one, and the taker neither
proxy_at_most : (r : Route) → IsRoute r
    → at_near r (reader r.legs r.giver.writing) ≤ r.giver.writing
proxy_at_most r l =
    let w = r.giver.writing in
    let m = reader r.legs w in
    let i = reader_at r l w l.giver.numbered in
    let x = l.passers m i.is_leg in
    not_less w (at_near r m) (λ b.
    let is_near : nat_le m w ≡ true = test_up m w i.up in
    let mark = x.shelved.past w b is_near in
    let all = near_whole r l m w i.is_leg i.up b in
    let sent : has_handover (r.sent w) ≡ true = rw (← all) mark in
    let none = l.giver.unhanded in absurd (cc))
  where
    test_up : (m w : ℕ) → m ≤ w → nat_le m w ≡ true
    test_up m w up = grind (arith, nat_tests)

taker_at_most : (r : Route) → IsRoute r → r.taker.shelves.current ≤ r.giver.writing
taker_at_most r l =
    let w = r.giver.writing in
    let m = reader r.legs w in
    let i = reader_at r l w l.giver.numbered in
    not_less w r.taker.shelves.current (λ b.
    let h = handed_over r l m i.is_leg (omega (arith, i.up)) in
    let up = came_to r l w m i h.next in
    let down = proxy_at_most r l in
    let same : at_near r m ≡ w = omega arith in
    let sent : has_handover (r.sent w) ≡ true =
    rw (← same) (ap has_handover (sym h.last) ∙ h.mark) in
    let none = l.giver.unhanded in absurd (cc))

all_on_path : (r : Route) (on : OnLegs) → IsRoute r → IsWhole r on → (c w : ℕ)
    → r.taker.shelves.current ≡ c → r.giver.writing ≡ w → 0 < c → c ≤ w
    → r.taker.taken ++ parts r on w ≡ pdus (through r.sent w)
all_on_path r on l whole zero w e f above up = absurd (omega arith)
all_on_path r on l whole (suc c) zero e f above up = absurd (omega arith)
all_on_path r on l whole (suc c) (suc w) e f above up =
    (level r on l whole c (w - c) w e (omega arith)).behind (rw f at (proxy_at_most r l))

-- the taker's current channel is none that has no number
taker_numbered : (r : Route) → IsRoute r → 0 < r.taker.shelves.current
taker_numbered r l = by_number r l r.taker.shelves.current refl
  where
    by_number : (r : Route) → IsRoute r → (c : ℕ) → r.taker.shelves.current ≡ c → 0 < c
    by_number r l zero e =
        absurd (let leg = rw e at l.numbered.here in let none = l.numbered.none in cc)
    by_number r l (suc c) e = omega arith

pub exact : (r : Route) (on : OnLegs) → IsRoute r → IsWhole r on
    → r.giver.given ≡ r.taker.taken ++ path r on
exact r on l whole =
    let c = r.taker.shelves.current in
    let w = r.giver.writing in
    let all = all_on_path r on l whole c w refl refl (taker_numbered r l) (taker_at_most r l) in
    l.giver.all ∙ rw (sym all) (append_assoc r.taker.taken (parts r on w) r.giver.queue)
