-- what was given begins with what was taken and what can still be taken
use Rattle.law_order.proofs.Vocabulary.{◌≡◌, ℕ, zero, suc, ◌<◌, Bool, true, false, not, ◌||◌, nat_lt, if◌then◌else◌, List, [], ◌++◌, arith, refl, sym, ap, ◌∙◌, subst, append_assoc, append-nil, append_cancel_left, nat_tests, IsPrefix, Item, pdus, has_end, has_handover, IsChannel, Route, IsRoute, reader, OnLegs, IsWhole, held_of, part, Losses, Arrives, Walk, advance, stops_at, arriving, walk_over, walk, with_queue, reach}
use Rattle.law_order.proofs.ItemLists.{handed_whole, ended_whole}
use Rattle.law_order.proofs.Prefixes.{prefix_self, prefix_more, prefix_trans, prefix_behind}
use Rattle.law_order.proofs.ByNumber.{by_test}
use Rattle.law_order.proofs.OnTheWay.{reader_at, parts, part_past, exact}

-- ---- all that was put and did not come, lost or not

near_rest : (r : Route) → IsRoute r → (n : ℕ) → List Item
near_rest r l zero = []
near_rest r l (suc n) =
    let i = reader_at r l (suc n) (omega arith) in
    (l.near (reader r.legs (suc n)) (suc n) i.is_leg).0

rests : (r : Route) → IsRoute r → OnLegs
rests r l = record { near = near_rest r l; far = λ m. (l.far m).0 }

rests_whole : (r : Route) (l : IsRoute r) → IsWhole r (rests r l)
unfolding near_rest rests
rests_whole r l = record { near = near_whole r l; far = λ m. sym (l.far m).1 }
  where
    near_whole : (r : Route) (l : IsRoute r) (n : ℕ) → 0 < n
        → r.sent n ≡ r.came (reader r.legs n) n ++ near_rest r l n
    near_whole r l zero b = absurd (omega arith)
    near_whole r l (suc n) b =
        let i = reader_at r l (suc n) (omega arith) in
        sym (l.near (reader r.legs (suc n)) (suc n) i.is_leg).1

-- ---- a leg on the way

-- where the way goes on, what arrives is all that was put and did not come
same_rest : (sent came rest on : List Item) (lost : Bool) → sent ≡ came ++ rest → IsChannel sent
    → (lost ≡ false → sent ≡ came ++ on) → stops_at lost came ≡ false
    → arriving lost on ≡ pdus rest
same_rest sent came rest on false e c arrives goes =
    ap pdus (append_cancel_left came on rest (sym (arrives refl) ∙ e))
same_rest sent came rest on true e c arrives goes =
    passed came rest (rw (← e) c) (has_handover came) refl (has_end came) refl goes
  where
    passed : (came rest : List Item) → IsChannel (came ++ rest) → (t : Bool)
        → has_handover came ≡ t → (u : Bool) → has_end came ≡ u
        → not (has_handover came || has_end came) ≡ false → [] ≡ pdus rest
    passed came rest c true e u f goes = rw (handed_whole came rest e c) refl
    passed came rest c false e true f goes = sym (ended_whole came rest f c)
    passed came rest c false e false f goes = absurd (let g = rw (e, f) at goes in cc)

-- ---- the way

-- what was met is a front of all that is there, and all of it while the way goes on
record Met (w : Walk) (all : List (List ℕ)) : Type 0 where
  front : IsPrefix w.met all
  while_going : w.going ≡ true → w.met ≡ all

advanced : (w : Walk) (stops : Bool) (here all rest : List (List ℕ)) → Met w all
    → (stops ≡ false → here ≡ rest) → Met (advance stops here w) (all ++ rest)
advanced w stops here all rest m same = by_going w stops here all rest m same w.going refl
  where
    stopped : (w : Walk) (all rest : List (List ℕ)) → Met w all
        → Met (record { met = w.met; going = false }) (all ++ rest)
    stopped w all rest m = record {
      front = prefix_trans w.met all (all ++ rest) m.front (prefix_more all rest);
      while_going = λ e. absurd (cc);
    }

    by_stop : (w : Walk) (stops : Bool) (here all rest : List (List ℕ)) → Met w all
        → w.going ≡ true → (stops ≡ false → here ≡ rest)
        → Met (if not stops then record { met = w.met ++ here; going = true } else record
        { met = w.met; going = false }) (all ++ rest)
    by_stop w true here all rest m going same = stopped w all rest m
    by_stop w false here all rest m going same =
        let met : w.met ++ here ≡ all ++ rest = rw (m.while_going going, same refl) refl in
        record { front = rw met (prefix_self (all ++ rest)); while_going = λ e. met }

    by_going : (w : Walk) (stops : Bool) (here all rest : List (List ℕ)) → Met w all
        → (stops ≡ false → here ≡ rest) → (t : Bool) → w.going ≡ t
        → Met (advance stops here w) (all ++ rest)
    by_going w stops here all rest m same true e = rw e (by_stop w stops here all rest m e same)
    by_going w stops here all rest m same false e = rw e (stopped w all rest m)

walked_over : (r : Route) (on : OnLegs) (lost : Losses) (l : IsRoute r) → Arrives r on lost
    → (n : ℕ) → 0 < n → (w : Walk) (all : List (List ℕ)) → Met w all
    → Met (walk_over r on lost n w) (all ++ part r (rests r l) n)
walked_over r on lost l arrives n b w all met =
    let m = reader r.legs n in
    let whole = rests_whole r l in
    let list = held_of r.taker.shelves n in
    let far = pdus ((rests r l).far n) in
    let held = held_of (r.proxies m).shelves n in
    let near = pdus ((rests r l).near n) in
    let first = advanced w false list all list met (λ e. refl) in
    let over_list = advance false list w in
    let second =
    advanced over_list (stops_at (lost.far n) (r.got n)) (arriving (lost.far n) (on.far n))
    (all ++ list) far first
    (same_rest (r.put n) (r.got n) ((rests r l).far n) (on.far n) (lost.far n) (whole.far n)
    (put_channel r l n) (arrives.far n)) in
    let over_far =
    advance (stops_at (lost.far n) (r.got n)) (arriving (lost.far n) (on.far n)) over_list in
    let third =
    advanced over_far (lost.closed m) held ((all ++ list) ++ far) held second (λ e. refl) in
    let over_held = advance (lost.closed m) held over_far in
    let last =
    advanced over_held (stops_at (lost.near n) (r.came m n)) (arriving (lost.near n) (on.near n))
    (((all ++ list) ++ far) ++ held) near third
    (same_rest (r.sent n) (r.came m n) ((rests r l).near n) (on.near n) (lost.near n)
    (whole.near n b) (l.giver.channel n) (arrives.near n b)) in
    subst (Met (walk_over r on lost n w)) (grouped all list far held near) last
  where
    grouped : (a b c d e : List (List ℕ))
        → (((a ++ b) ++ c) ++ d) ++ e ≡ a ++ (b ++ (c ++ (d ++ e)))
    grouped a b c d e = simp append_assoc

    put_channel : (r : Route) → IsRoute r → (n : ℕ) → IsChannel (r.put n)
    put_channel r l n = by_leg r l n (r.legs n) refl
      where
        by_leg : (r : Route) → IsRoute r → (n : ℕ) (t : Bool) → r.legs n ≡ t → IsChannel (r.put n)
        by_leg r l n true e = (l.passers n e).channel
        by_leg r l n false e = rw (l.numbered.unused n e) tt

walked : (r : Route) (on : OnLegs) (lost : Losses) (l : IsRoute r) → Arrives r on lost → (n : ℕ)
    → Met (walk r on lost n) (parts r (rests r l) n)
walked r on lost l arrives zero = record { front = prefix_self []; while_going = λ e. refl }
walked r on lost l arrives (suc n) =
    let before = walked r on lost l arrives n in
    by_test (λ w. Met w (parts r (rests r l) (suc n))) (nat_lt (suc n) r.taker.shelves.current)
    (walk r on lost n) (walk_over r on lost (suc n) (walk r on lost n))
    (λ e. skipped r l n (walk r on lost n) (below_test (suc n) r.taker.shelves.current e) before)
    (λ e. walked_over r on lost l arrives (suc n) (omega arith) (walk r on lost n)
    (parts r (rests r l) n) before)
  where
    below_test : (a b : ℕ) → nat_lt a b ≡ true → a < b
    below_test a b e = grind (arith, nat_tests)

    skipped : (r : Route) (l : IsRoute r) (n : ℕ) (w : Walk) → suc n < r.taker.shelves.current
        → Met w (parts r (rests r l) n) → Met w (parts r (rests r l) (suc n))
    skipped r l n w b m =
        let none = part_past r (rests r l) l (rests_whole r l) (suc n) (omega arith) b in
        let same : parts r (rests r l) n ≡ parts r (rests r l) (suc n) =
        sym (append-nil (parts r (rests r l) n))
        ∙ ap (λ p. parts r (rests r l) n ++ p) (sym none) in
        subst (Met w) same m

pub reached_front : (r : Route) (on : OnLegs) (lost : Losses) → IsRoute r → Arrives r on lost
    → IsPrefix (r.taker.taken ++ reach r on lost) r.giver.given
reached_front r on lost l arrives =
    let all = exact r (rests r l) l (rests_whole r l) in
    let w = walk r on lost r.giver.writing in
    let there = parts r (rests r l) r.giver.writing in
    let front =
    queued w there r.giver.queue (walked r on lost l arrives r.giver.writing) w.going refl in
    rw all (prefix_behind r.taker.taken (with_queue w r.giver.queue) (there ++ r.giver.queue) front)
  where
    queued : (w : Walk) (all queue : List (List ℕ)) → Met w all → (t : Bool) → w.going ≡ t
        → IsPrefix (with_queue w queue) (all ++ queue)
    queued w all queue m true e =
        rw (e, m.while_going e) (prefix_self (all ++ queue))
    queued w all queue m false e =
        rw (e, append-nil w.met)
        (prefix_trans w.met all (all ++ queue) m.front (prefix_more all queue))
