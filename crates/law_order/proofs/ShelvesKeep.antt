-- whatever may come to a machine that is fed on several channels keeps its shelves
use Rattle.law_order.proofs.Vocabulary.{◌||◌, ◌≡◌, ◌≢◌, ℕ, zero, suc, ◌+◌, ◌-◌, ◌<◌, Bool, true, false, nat_eq, nat_lt, if◌then◌else◌, List, [], ◌∷◌, ◌++◌, arith, refl, sym, ap, ◌∙◌, subst, append_assoc, append-nil, nat_tests, Item, Piece, Stop, Handover, pdus, has_end, has_handover, IsChannel, Log, empty, change, more, below, through, Shelves, Holds, ShelvedAt, Shelved, Alike, new_shelves, Coming, PduNow, PduNext, EndNow, EndNext, EndLater, HandoverNow, HandoverNext, Follows}
use Rattle.law_order.proofs.Vocabulary.{MovesOn, MayCome, comes, came_by, with_held}
use Rattle.law_order.proofs.ItemLists.{pdus-append, has_end-append, has_handover-append, channel_push, channel_push_handover, no_items}
use Rattle.law_order.proofs.ByNumber.{by_test, same_number, more_here, more_other, more_none, below_more, change_each, below_empty}

-- ---- one item more, on plain lists

pub or_none : (b : Bool) → b ≡ b || false
or_none true = refl
or_none false = refl

or_so : (b : Bool) → true ≡ b || true
or_so true = refl
or_so false = refl

-- items come on the current channel, and on the one that follows
holds_now : (s f : Shelves) (out : List (List ℕ)) (b h x items : List Item)
    → out ++ f.now.held ≡ (out ++ s.now.held) ++ pdus items
    → f.now.finished ≡ s.now.finished || has_handover items
    → f.now.ended ≡ s.now.ended || has_end items → f.was_ended ≡ s.was_ended → f.next ≡ s.next
    → Holds s out b h x → Holds f out b (h ++ items) x
holds_now s f out b h x items held mark ended before next l = record {
  all = held ∙ rw l.all (sym (pdus-append (b ++ h) items) ∙ ap pdus (append_assoc b h items));
  follows = rw next l.follows;
  was_ended = before ∙ l.was_ended;
  ended = ended ∙ rw l.ended (sym (has_end-append h items));
  finished = mark ∙ rw l.finished (sym (has_handover-append h items));
  next_ended = rw next l.next_ended;
  next_finished = rw next l.next_finished;
}

holds_next : (s f : Shelves) (out : List (List ℕ)) (b h x items : List Item)
    → f.next.held ≡ s.next.held ++ pdus items
    → f.next.finished ≡ s.next.finished || has_handover items
    → f.next.ended ≡ s.next.ended || has_end items → f.was_ended ≡ s.was_ended → f.now ≡ s.now
    → Holds s out b h x → Holds f out b h (x ++ items)
holds_next s f out b h x items held mark ended before now l = record {
  all = rw now l.all;
  follows = held ∙ rw l.follows (sym (pdus-append x items));
  was_ended = before ∙ l.was_ended;
  ended = rw now l.ended;
  finished = rw now l.finished;
  next_ended = ended ∙ rw l.next_ended (sym (has_end-append x items));
  next_finished = mark ∙ rw l.next_finished (sym (has_handover-append x items));
}

-- ---- the same by number: more on the current channel, on the next one, and behind both

grows_now : (s f : Shelves) (legs : ℕ → Bool) (out : List (List ℕ)) (items : List Item)
    (came : Log) → out ++ f.now.held ≡ (out ++ s.now.held) ++ pdus items
    → f.now.finished ≡ s.now.finished || has_handover items
    → f.now.ended ≡ s.now.ended || has_end items → f.was_ended ≡ s.was_ended → f.next ≡ s.next
    → f.later ≡ s.later → IsChannel (came s.current ++ items) → Shelved s legs out came
    → ShelvedAt f legs out (more s.current items came) s.current s.following
grows_now s f legs out items came held mark ended before follows same ch l =
    let h = holds_now s f out (below came s.current) (came s.current) (came s.following) items held
    mark ended before follows l.holds in
    let c = s.current in
    let o : s.following ≢ c = omega (arith, l.above) in
    let up = below_more came c items c (omega arith) in
    let here = more_here c items came in
    let next = more_other c items came s.following o in
    record {
      holds = rw (up, here, next) h;
      above = l.above;
      past = λ n b y.
          let d : n ≢ c = omega arith in rw (more_other c items came n d) (l.past n b y);
      between = λ n a b.
          let d : n ≢ c = omega arith in rw (more_other c items came n d) (l.between n a b);
      unfinished = λ n a.
          let d : n ≢ c = omega (arith, l.above) in
          rw (more_other c items came n d) (l.unfinished n a);
      later = λ n a.
          let d : n ≢ c = omega (arith, l.above) in
          rw (more_other c items came n d, same) (l.later n a);
      channel =
          change_each (λ n log. IsChannel log) c (λ before. before ++ items) came l.channel ch;
    }

grows_next : (s f : Shelves) (legs : ℕ → Bool) (out : List (List ℕ)) (items : List Item)
    (came : Log) → f.next.held ≡ s.next.held ++ pdus items
    → f.next.finished ≡ s.next.finished || has_handover items
    → f.next.ended ≡ s.next.ended || has_end items → f.was_ended ≡ s.was_ended → f.now ≡ s.now
    → f.later ≡ s.later → IsChannel (came s.following ++ items) → Shelved s legs out came
    → ShelvedAt f legs out (more s.following items came) s.current s.following
grows_next s f legs out items came held mark ended before now same ch l =
    let h = holds_next s f out (below came s.current) (came s.current) (came s.following) items
    held mark ended before now l.holds in
    let c = s.current in
    let k = s.following in
    let o : c ≢ k = omega (arith, l.above) in
    let up = below_more came k items c (omega (arith, l.above)) in
    let here = more_other k items came c o in
    let next = more_here k items came in
    record {
      holds = rw (up, here, next) h;
      above = l.above;
      past = λ n b y.
          let d : n ≢ k = omega (arith, l.above) in rw (more_other k items came n d) (l.past n b y);
      between = λ n a b.
          let d : n ≢ k = omega arith in rw (more_other k items came n d) (l.between n a b);
      unfinished = λ n a.
          let d : n ≢ k = omega arith in rw (more_other k items came n d) (l.unfinished n a);
      later = λ n a.
          let d : n ≢ k = omega arith in rw (more_other k items came n d, same) (l.later n a);
      channel =
          change_each (λ n log. IsChannel log) k (λ before. before ++ items) came l.channel ch;
    }

unfinished_more : (came : Log) (c k : ℕ) (items : List Item)
    → ((n : ℕ) → c < n → has_handover (came n) ≡ false) → has_handover items ≡ false
    → (n : ℕ) → c < n → has_handover (more k items came n) ≡ false
unfinished_more came c k items u e n a =
    by_test (λ log. has_handover log ≡ false) (nat_eq n k) (came n ++ items) (came n)
    (λ t. let old = u n a in grind (arith, has_handover-append))
    (λ t. u n a)

ended_later : (s : Shelves) (legs : ℕ → Bool) (out : List (List ℕ)) (came : Log) (m : ℕ)
    → s.following < m → s.later m ≡ false → Shelved s legs out came
    → ShelvedAt (comes s (EndLater m)) legs out (more m (Stop ∷ []) came) s.current s.following
ended_later s legs out came m beyond e l =
    let c = s.current in
    let k = s.following in
    let stop = Stop ∷ [] in
    let o : c ≢ m = omega (arith, l.above) in
    let p : k ≢ m = omega arith in
    let up = below_more came m stop c (omega (arith, l.above)) in
    let here = more_other m stop came c o in
    let next = more_other m stop came k p in
    let none =
    no_items (came m) (l.later m beyond).0 (sym (l.later m beyond).1 ∙ e)
    (l.unfinished m beyond) in
    record {
      holds = rw (up, here, next) (record {
        all = l.holds.all;
        follows = l.holds.follows;
        finished = l.holds.finished;
        was_ended = l.holds.was_ended;
        ended = l.holds.ended;
        next_ended = l.holds.next_ended;
        next_finished = l.holds.next_finished;
      });
      above = l.above;
      past = λ n b y.
          let d : n ≢ m = omega (arith, l.above) in rw (more_other m stop came n d) (l.past n b y);
      between = λ n a b.
          let d : n ≢ m = omega arith in rw (more_other m stop came n d) (l.between n a b);
      unfinished = unfinished_more came k m stop l.unfinished refl;
      later = λ n a. later_more s.later came m none n (l.later n a);
      channel =
          change_each (λ n log. IsChannel log) m (λ before. before ++ stop) came l.channel
          (rw none tt);
    }
  where
    later_more : (later : ℕ → Bool) (came : Log) (m : ℕ) → came m ≡ [] → (n : ℕ)
        → (pdus (came n) ≡ []) × (later n ≡ has_end (came n))
        → (pdus (more m (Stop ∷ []) came n) ≡ [])
        × (change m (λ e. true) later n ≡ has_end (more m (Stop ∷ []) came n))
    later_more later came m none n old = two later came m none n (nat_eq n m) refl old
      where
        two : (later : ℕ → Bool) (came : Log) (m : ℕ) → came m ≡ [] → (n : ℕ) (t : Bool)
            → nat_eq n m ≡ t → (pdus (came n) ≡ []) × (later n ≡ has_end (came n))
            → (pdus (if t then came n ++ Stop ∷ [] else came n) ≡ [])
            × ((if t then true else later n) ≡ has_end (if t then came n ++ Stop ∷ [] else came n))
        two later came m none n true e old =
            let here : came n ≡ [] = rw (same_number n m e) none in
            (rw here refl, rw here refl)
        two later came m none n false e old = old

-- ---- the channels move on

-- between two channels nothing came
gap : (came : Log) (c count k : ℕ) → suc c + count ≡ k
    → ((n : ℕ) → c < n → n < k → came n ≡ []) → below came k ≡ through came c
gap came c zero k e none = let same : k ≡ suc c = omega arith in rw same refl
gap came c (suc count) k e none =
    let j = suc c + count in
    let same : k ≡ suc j = omega arith in
    let shorter = gap came c count j refl (λ n a b. none n a (omega arith)) in
    rw (same, shorter, none j (omega arith) (omega arith)) (append-nil (through came c))

pub below_next : (came : Log) (c k : ℕ) → c < k → ((n : ℕ) → c < n → n < k → came n ≡ [])
    → below came k ≡ through came c
below_next came c k l none = gap came c (k - suc c) k (omega arith) none

-- what stands on no leg that follows or is current
nothing_behind : (s : Shelves) (legs : ℕ → Bool) (out : List (List ℕ)) (came : Log) (n : ℕ)
    → Shelved s legs out came → s.following < n → s.later n ≡ false → came n ≡ []
nothing_behind s legs out came n l b e =
    no_items (came n) (l.later n b).0 (sym (l.later n b).1 ∙ e) (l.unfinished n b)

follows : (s : Shelves) (legs : ℕ → Bool) (out : List (List ℕ)) (came : Log) (m : ℕ)
    → MayCome s legs (Follows m) → Shelved s legs out came
    → ShelvedAt (comes s (Follows m)) legs out came s.current m
follows s legs out came m may l =
    let k = s.following in
    let beyond : k < m = may.2 in
    let none : came k ≡ [] =
    no_items (came k) (sym l.holds.follows ∙ ap (λ x. x.held) may.0)
    (sym l.holds.next_ended ∙ ap (λ x. x.ended) may.0)
    (sym l.holds.next_finished ∙ ap (λ x. x.finished) may.0) in
    record {
      holds = record {
        all = l.holds.all;
        follows = sym (l.later m beyond).0;
        finished = l.holds.finished;
        was_ended = l.holds.was_ended;
        ended = l.holds.ended;
        next_ended = (l.later m beyond).1;
        next_finished = sym (l.unfinished m beyond);
      };
      above = omega (arith, l.above);
      past = l.past;
      between = λ n a b. passed_by legs came n k (nat_lt n k) (nat_eq n k) refl refl
          (may.1, none) (l.between n a)
          (λ c. ((may.3 n c b).0, nothing_behind s legs out came n l c (may.3 n c b).1));
      unfinished = λ n a. l.unfinished n (omega arith);
      later = λ n a. l.later n (omega arith);
      channel = l.channel;
    }
  where
    passed_by : (legs : ℕ → Bool) (came : Log) (n k : ℕ) (t u : Bool) → nat_lt n k ≡ t
        → nat_eq n k ≡ u → (legs k ≡ false) × (came k ≡ [])
        → (n < k → (legs n ≡ false) × (came n ≡ [])) → (k < n → (legs n ≡ false) × (came n ≡ []))
        → (legs n ≡ false) × (came n ≡ [])
    passed_by legs came n k true u e f here less more = less (grind (arith, nat_tests))
    passed_by legs came n k false true e f here less more =
        subst (λ j. (legs j ≡ false) × (came j ≡ [])) (sym (same_number n k f)) here
    passed_by legs came n k false false e f here less more =
        more (grind (arith, nat_tests))

moves_on : (s : Shelves) (legs : ℕ → Bool) (out : List (List ℕ)) (came : Log) (m : ℕ)
    → MayCome s legs (MovesOn m) → Shelved s legs out came
    → ShelvedAt (comes s (MovesOn m)) legs out came s.following m
moves_on s legs out came m may l =
    let c = s.current in
    let k = s.following in
    let beyond : k < m = may.2 in
    let past = below_next came c k l.above (λ n a b. (l.between n a b).1) in
    let taken : out ≡ pdus (through came c) = simp append-nil at (rw may.1 at l.holds.all) in
    record {
      holds = record {
        all = rw (pdus-append (below came k) (came k), past, ← taken, l.holds.follows) refl;
        follows = sym (l.later m beyond).0;
        finished = l.holds.next_finished;
        was_ended = rw (past, has_end-append) (grind (arith, l.holds.was_ended, l.holds.ended));
        ended = l.holds.next_ended;
        next_ended = (l.later m beyond).1;
        next_finished = sym (l.unfinished m beyond);
      };
      above = beyond;
      past = λ n b y. past_by legs came n c (nat_lt n c) (nat_eq n c) refl refl (l.past n)
          (sym l.holds.finished ∙ may.0)
          (λ a. let no_leg = (l.between n a b).0 in absurd (cc)) y;
      between = λ n a b. ((may.3 n a b).0, nothing_behind s legs out came n l a (may.3 n a b).1);
      unfinished = λ n a. l.unfinished n (omega arith);
      later = λ n a. l.later n (omega arith);
      channel = l.channel;
    }
  where
    past_by : (legs : ℕ → Bool) (came : Log) (n c : ℕ) (t u : Bool) → nat_lt n c ≡ t
        → nat_eq n c ≡ u → (n < c → legs n ≡ true → has_handover (came n) ≡ true)
        → has_handover (came c) ≡ true → (c < n → has_handover (came n) ≡ true)
        → legs n ≡ true → has_handover (came n) ≡ true
    past_by legs came n c true u e f less here more y = less (grind (arith, nat_tests)) y
    past_by legs came n c false true e f less here more y =
        subst (λ j. has_handover (came j) ≡ true) (sym (same_number n c f)) here
    past_by legs came n c false false e f less here more y = more (grind (arith, nat_tests))

-- ---- all that may come

-- the front PDU is passed on
pub passed_on : (s : Shelves) (legs : ℕ → Bool) (out : List (List ℕ)) (came : Log)
    (pdu : List ℕ) (rest : List (List ℕ)) → s.now.held ≡ pdu ∷ rest → Shelved s legs out came
    → Shelved (with_held s rest) legs (out ++ pdu ∷ []) came
passed_on s legs out came pdu rest e l = record {
  holds = record {
    all = append_assoc out (pdu ∷ []) rest ∙ rw (← e) l.holds.all;
    follows = l.holds.follows;
    finished = l.holds.finished;
    was_ended = l.holds.was_ended;
    ended = l.holds.ended;
    next_ended = l.holds.next_ended;
    next_finished = l.holds.next_finished;
  };
  above = l.above;
  past = l.past;
  between = l.between;
  unfinished = l.unfinished;
  later = l.later;
  channel = l.channel;
}

-- an item may stand on a channel that is open
open_now : (s : Shelves) (legs : ℕ → Bool) (out : List (List ℕ)) (came : Log) (x : Item)
    → Shelved s legs out came → s.now.finished ≡ false → s.now.ended ≡ false
    → IsChannel (came s.current ++ x ∷ [])
open_now s legs out came x l unfinished unended =
    channel_push (came s.current) x (l.channel s.current) (sym l.holds.finished ∙ unfinished)
    (sym l.holds.ended ∙ unended)

open_next : (s : Shelves) (legs : ℕ → Bool) (out : List (List ℕ)) (came : Log) (x : Item)
    → Shelved s legs out came → s.next.finished ≡ false → s.next.ended ≡ false
    → IsChannel (came s.following ++ x ∷ [])
open_next s legs out came x l unfinished unended =
    channel_push (came s.following) x (l.channel s.following)
    (sym l.holds.next_finished ∙ unfinished) (sym l.holds.next_ended ∙ unended)

pub shelves_step : (s : Shelves) (legs : ℕ → Bool) (out : List (List ℕ)) (came : Log)
    (what : Coming) → Shelved s legs out came → MayCome s legs what
    → Shelved (comes s what) legs out (came_by s what came)
shelves_step s legs out came (PduNow pdu) l may =
    grows_now s (comes s (PduNow pdu)) legs out (Piece pdu ∷ []) came
    (sym (append_assoc out s.now.held (pdu ∷ []))) (or_none s.now.finished) (or_none s.now.ended)
    refl refl refl (open_now s legs out came (Piece pdu) l may.0 may.1) l
shelves_step s legs out came EndNow l may =
    grows_now s (comes s EndNow) legs out (Stop ∷ []) came (sym (append-nil (out ++ s.now.held)))
    (or_none s.now.finished) (or_so s.now.ended) refl refl refl
    (open_now s legs out came Stop l may.0 may.1) l
shelves_step s legs out came HandoverNow l may =
    grows_now s (comes s HandoverNow) legs out (Handover ∷ []) came
    (sym (append-nil (out ++ s.now.held))) (or_so s.now.finished) (or_none s.now.ended) refl refl
    refl (channel_push_handover (came s.current) (l.channel s.current)
    (sym l.holds.finished ∙ may)) l
shelves_step s legs out came (PduNext pdu) l may =
    grows_next s (comes s (PduNext pdu)) legs out (Piece pdu ∷ []) came refl
    (or_none s.next.finished) (or_none s.next.ended) refl refl refl
    (open_next s legs out came (Piece pdu) l may.0 may.1) l
shelves_step s legs out came EndNext l may =
    grows_next s (comes s EndNext) legs out (Stop ∷ []) came (sym (append-nil s.next.held))
    (or_none s.next.finished) (or_so s.next.ended) refl refl refl
    (open_next s legs out came Stop l may.0 may.1) l
shelves_step s legs out came HandoverNext l may =
    grows_next s (comes s HandoverNext) legs out (Handover ∷ []) came
    (sym (append-nil s.next.held)) (or_so s.next.finished) (or_none s.next.ended) refl refl refl
    (channel_push_handover (came s.following) (l.channel s.following)
    (sym l.holds.next_finished ∙ may)) l
shelves_step s legs out came (EndLater m) l may = ended_later s legs out came m may.0 may.1 l
shelves_step s legs out came (Follows m) l may =
    rw (more_none s.current came) (follows s legs out came m may l)
shelves_step s legs out came (MovesOn m) l may =
    rw (more_none s.current came) (moves_on s legs out came m may l)

pub shelves_start : (first : ℕ) (legs : ℕ → Bool) → ((n : ℕ) → n < first → legs n ≡ false)
    → Shelved (new_shelves first) legs [] empty
shelves_start first legs none = record {
  holds = record {
    all = rw (below_empty empty first (λ k l. refl)) refl;
    follows = refl;
    finished = refl;
    was_ended = rw (below_empty empty first (λ k l. refl)) refl;
    ended = refl;
    next_ended = refl;
    next_finished = refl;
  };
  above = omega arith;
  past = λ n b y. let no_leg = none n b in absurd (cc);
  between = λ n a b. absurd (omega arith);
  unfinished = λ n a. refl;
  later = λ n a. (refl, refl);
  channel = λ n. tt;
}

-- numbers that turn out to have no leg
pub shelves_fewer : (s : Shelves) (legs fewer : ℕ → Bool) (out : List (List ℕ)) (came : Log)
    → Shelved s legs out came → ((n : ℕ) → fewer n ≡ true → legs n ≡ true)
    → Shelved s fewer out came
shelves_fewer s legs fewer out came l less = record {
  holds = l.holds;
  above = l.above;
  past = λ n b y. l.past n b (less n y);
  between = λ n a b. (none (legs n) (fewer n) (less n) (l.between n a b).0, (l.between n a b).1);
  unfinished = l.unfinished;
  later = l.later;
  channel = l.channel;
}
  where
    none : (a b : Bool) → (b ≡ true → a ≡ true) → a ≡ false → b ≡ false
    none a true less e = absurd (let y = less refl in cc)
    none a false less e = refl

-- ---- shelves that tell the same

pub shelves_alike : (s f : Shelves) (legs : ℕ → Bool) (out : List (List ℕ)) (came : Log)
    → Alike s f → Shelved s legs out came → Shelved f legs out came
shelves_alike s f legs out came e l =
    subst (λ j. ShelvedAt f legs out came f.current j) (sym e.following)
    (subst (λ j. ShelvedAt f legs out came j s.following) (sym e.current) (record {
      holds = record {
        all = rw e.now l.holds.all;
        follows = rw e.next l.holds.follows;
        finished = rw e.now l.holds.finished;
        was_ended = e.was_ended ∙ l.holds.was_ended;
        ended = rw e.now l.holds.ended;
        next_ended = rw e.next l.holds.next_ended;
        next_finished = rw e.next l.holds.next_finished;
      };
      above = l.above;
      past = l.past;
      between = l.between;
      unfinished = l.unfinished;
      later = λ n a. ((l.later n a).0, e.later n a ∙ (l.later n a).1);
      channel = l.channel;
    }))
