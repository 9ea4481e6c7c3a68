-- drawing, PDU by PDU
use Rattle.std.proofs.Common.{◌≡◌, ◌≢◌, inl, inr, ℕ, ◌+◌, ◌-◌, ◌≤◌, List, [], ◌∷◌, ◌++◌, take, drop}
use Rattle.std.proofs.Common.{length, min, arith, sym, ◌∙◌, ap, refl, append_assoc}
use Rattle.std.proofs.lemmas.Bool.{cases_lt}
use Rattle.std.proofs.lemmas.Bool.Decides.{nat_tests}
use Rattle.std.proofs.lemmas.List.{append-nil, take_all, take_at, drop_at, drop_all, drop-drop, take-append-le}
use Rattle.std.proofs.lemmas.List.{drop-append-le, length-append, length-drop, length-take-le, nil_from_length}
use Rattle.std.proofs.Math.Seq.{take-add}
use Rattle.std.specs.List.{concat}
use borrow.Rule.Slice.PartMut.{put_mid}
use Rattle.rh_line.specs.Queue.{untouched}

-- where no byte counts, each PDU is untouched
untouched_none : (pdus : List (List ℕ)) → untouched 0 pdus ≡ pdus
untouched_none [] = refl
untouched_none (pdu ∷ pdus) = refl

-- a PDU of which a byte counts isn't
untouched_some : (count : ℕ) (pdu : List ℕ) (pdus : List (List ℕ)) → count ≢ 0
    → untouched count (pdu ∷ pdus) ≡ untouched (count - length pdu) pdus
untouched_some count pdu pdus some = grind (arith, nat_tests, some)

-- ---- a room

-- the end of a room from a place on, filled with bytes
pub filled_end : (room bytes end : List ℕ) (a k r : ℕ) → a + k ≡ length room → r ≤ k
    → r ≤ length bytes
    → end ≡ take r bytes ++ drop r (take k (drop a room))
    → put_mid a k room end ≡ (take a room ++ take r bytes) ++ drop (a + r) room
filled_end room bytes end a k r whole fits there is =
    let all : take k (drop a room) ≡ drop a room = take_all k (drop a room)
    (omega (arith, length-drop a room)) in
    let rest : end ≡ take r bytes ++ drop (a + r) room =
    is ∙ ap (λ (x : List ℕ). take r bytes ++ drop r x) all
    ∙ ap (λ (x : List ℕ). take r bytes ++ x) (drop-drop r a room) in
    let none : drop k (drop a room) ≡ [] = drop_all k (drop a room)
    (omega (arith, length-drop a room)) in
    ap (λ (x : List ℕ). take a room ++ (end ++ x)) none
    ∙ ap (λ (x : List ℕ). take a room ++ x) (append-nil end ∙ rest)
    ∙ sym (append_assoc (take a room) (take r bytes) (drop (a + r) room))

-- ---- drawing

-- so many bytes were drawn into a room, of all that were to be drawn; the rest is begun or queued
pub record IsDrawn (all room0 : List ℕ) (queue0 : List (List ℕ)) (from drawn : ℕ)
    (room begun : List ℕ) (queue : List (List ℕ)) : Type 0 where
  pub within : drawn ≤ length room0
  pub some : drawn ≤ length all
  pub room_is : room ≡ take drawn all ++ drop drawn room0
  pub left : begun ++ concat queue ≡ drop drawn all
  pub queue_is : untouched (length room0 - drawn - length begun) queue ≡ untouched from queue0

-- the room keeps its length
pub drawn_length : (all room0 : List ℕ) (queue0 : List (List ℕ)) (from drawn : ℕ)
    (room begun : List ℕ) (queue : List (List ℕ))
    → IsDrawn all room0 queue0 from drawn room begun queue → length room ≡ length room0
drawn_length all room0 queue0 from drawn room begun queue h =
    ap length h.room_is
    ∙ omega (
      arith,
      length-append (take drawn all) (drop drawn room0),
      length-take-le drawn all h.some,
      length-drop drawn room0,
      h.within,
    )

-- bytes of the PDU begun are drawn
pub drawn_more : (all room0 : List ℕ) (queue0 : List (List ℕ)) (from drawn : ℕ)
    (room begun : List ℕ) (queue : List (List ℕ)) (count : ℕ) (next rest : List ℕ)
    → count ≡ min (length room0 - drawn) (length begun)
    → next ≡ (take drawn room ++ take count begun) ++ drop (drawn + count) room
    → rest ≡ drop count begun
    → IsDrawn all room0 queue0 from drawn room begun queue
    → IsDrawn all room0 queue0 from (drawn + count) next rest queue
drawn_more all room0 queue0 from drawn room begun queue count next rest least next_is rest_is h =
    let few : count ≤ length begun = omega (arith, least) in
    let fits : drawn + count ≤ length room0 = omega (arith, least, h.within) in
    let front : length (take drawn all) ≡ drawn = length-take-le drawn all h.some in
    let size = ap length h.left in
    let ahead : drawn + count ≤ length all =
    omega (arith, size, few, h.some, length-append begun (concat queue), length-drop drawn all) in
    let before : take drawn room ≡ take drawn all =
    ap (take drawn) h.room_is ∙ take_at (take drawn all) (drop drawn room0) drawn front in
    let behind : drop (drawn + count) room ≡ drop (drawn + count) room0 =
    sym (drop-drop count drawn room)
    ∙ ap (λ (x : List ℕ). drop count x)
    (ap (drop drawn) h.room_is ∙ drop_at (take drawn all) (drop drawn room0) drawn front)
    ∙ drop-drop count drawn room0 in
    let drawn_now : take count (drop drawn all) ≡ take count begun =
    ap (take count) (sym h.left) ∙ take-append-le count begun (concat queue) few in
    let left_now : drop count begun ++ concat queue ≡ drop (drawn + count) all =
    sym (drop-append-le count begun (concat queue) few) ∙ ap (drop count) h.left
    ∙ drop-drop count drawn all in
    let queued : length room0 - (drawn + count) - length (drop count begun)
    ≡ length room0 - drawn - length begun =
    omega (arith, length-drop count begun, few, fits) in
    record {
      within = fits;
      some = ahead;
      room_is = next_is ∙ ap (λ (x : List ℕ). (x ++ take count begun) ++ drop (drawn + count) room)
          before
          ∙ ap (λ (x : List ℕ). (take drawn all ++ x) ++ drop (drawn + count) room) (sym drawn_now)
          ∙ ap (λ (x : List ℕ). x ++ drop (drawn + count) room) (sym (take-add drawn count all))
          ∙ ap (λ (x : List ℕ). take (drawn + count) all ++ x) behind;
      left = ap (λ (x : List ℕ). x ++ concat queue) rest_is ∙ left_now;
      queue_is = ap (λ (x : List ℕ). untouched (length room0 - (drawn + count) - length x) queue)
          rest_is
          ∙ ap (λ (n : ℕ). untouched n queue) queued ∙ h.queue_is;
    }

-- the same for the end of a room
pub drawn_step : (all room0 : List ℕ) (queue0 : List (List ℕ)) (from drawn : ℕ)
    (room begun : List ℕ) (queue : List (List ℕ)) (count : ℕ) (end rest : List ℕ)
    → count ≡ min (length (take (length room - drawn) (drop drawn room))) (length begun)
    → end ≡ take count begun ++ drop count (take (length room - drawn) (drop drawn room))
    → rest ≡ drop count begun
    → IsDrawn all room0 queue0 from drawn room begun queue
    → IsDrawn all room0 queue0 from (drawn + count) (put_mid drawn (length room - drawn) room end)
    rest queue
drawn_step all room0 queue0 from drawn room begun queue count end rest least end_is rest_is h =
    let same = drawn_length all room0 queue0 from drawn room begun queue h in
    let size : length (take (length room - drawn) (drop drawn room)) ≡ length room - drawn =
    length-take-le (length room - drawn) (drop drawn room)
    (omega (arith, length-drop drawn room)) in
    let few : count ≤ length begun = omega (arith, least) in
    let fits : count ≤ length room - drawn = omega (arith, least, size) in
    let next = filled_end room begun end drawn (length room - drawn) count
    (omega (arith, same, h.within)) fits few end_is in
    drawn_more all room0 queue0 from drawn room begun queue count
    (put_mid drawn (length room - drawn) room end) rest
    (omega (arith, least, size, same)) next rest_is h

-- where the room isn't full, the PDU begun is drawn to its end
pub drawn_out : (all room0 : List ℕ) (queue0 : List (List ℕ)) (from drawn : ℕ) (room begun : List ℕ)
    (queue : List (List ℕ)) (count : ℕ) (rest : List ℕ)
    → count ≡ min (length (take (length room - drawn) (drop drawn room))) (length begun)
    → rest ≡ drop count begun
    → drawn + count ≢ length room0 → IsDrawn all room0 queue0 from drawn room begun queue
    → length rest ≡ 0
drawn_out all room0 queue0 from drawn room begun queue count rest least rest_is unfilled h =
    let same = drawn_length all room0 queue0 from drawn room begun queue h in
    let size : length (take (length room - drawn) (drop drawn room)) ≡ length room - drawn =
    length-take-le (length room - drawn) (drop drawn room)
    (omega (arith, length-drop drawn room)) in
    let end = ap length rest_is in
    elim (cases_lt count (length begun)) as (λ _. length rest ≡ 0) [
      | inl less ↦ absurd (unfilled (omega (arith, least, size, same, h.within, less)))
      | inr whole ↦ omega (arith, end, length-drop count begun, whole)
    ]

-- where the PDU begun is drawn and the room has room, the next one is begun
pub drawn_next : (all room0 : List ℕ) (queue0 : List (List ℕ)) (from drawn : ℕ)
    (room begun : List ℕ) (queue : List (List ℕ)) (pdu : List ℕ) (pdus : List (List ℕ))
    → drawn ≢ length room0 → length begun ≡ 0
    → queue ≡ pdu ∷ pdus → IsDrawn all room0 queue0 from drawn room begun queue
    → IsDrawn all room0 queue0 from drawn room pdu pdus
drawn_next all room0 queue0 from drawn room begun queue pdu pdus more none is h =
    let nothing : begun ≡ [] = nil_from_length begun none in
    let count : length room0 - drawn - length begun ≡ length room0 - drawn = omega (arith, none) in
    let some : length room0 - drawn ≢ 0 = λ e. more (omega (arith, e, h.within)) in
    record {
      within = h.within;
      some = h.some;
      room_is = h.room_is;
      left = sym (ap (λ (q : List (List ℕ)). concat q) is)
          ∙ ap (λ (x : List ℕ). x ++ concat queue) (sym nothing) ∙ h.left;
      queue_is = sym (untouched_some (length room0 - drawn) pdu pdus some)
          ∙ sym (ap (λ (q : List (List ℕ)). untouched (length room0 - drawn) q) is)
          ∙ sym (ap (λ (n : ℕ). untouched n queue) count) ∙ h.queue_is;
    }

-- what drawing a room full does
pub record Drew (all room0 : List ℕ) (queue0 : List (List ℕ)) (from drawn : ℕ) (room begun : List ℕ)
    (queue : List (List ℕ)) : Type 0 where
  pub count : drawn ≡ length (take (length room0) all)
  pub room_is : room ≡ take (length room0) all ++ drop drawn room0
  pub left : begun ++ concat queue ≡ drop (length room0) all
  pub queue_is : queue ≡ untouched from queue0

-- the room is full
pub drawn_full : (all room0 : List ℕ) (queue0 : List (List ℕ)) (from drawn : ℕ)
    (room begun : List ℕ) (queue : List (List ℕ)) → drawn ≡ length room0
    → IsDrawn all room0 queue0 from drawn room begun queue
    → Drew all room0 queue0 from drawn room begun queue
drawn_full all room0 queue0 from drawn room begun queue full h =
    let none : length room0 - drawn - length begun ≡ 0 = omega (arith, full) in
    let few : length room0 ≤ length all = omega (arith, full, h.some) in
    record {
      count = omega (arith, full, length-take-le (length room0) all few);
      room_is = h.room_is ∙ ap (λ (n : ℕ). take n all ++ drop drawn room0) full;
      left = h.left ∙ ap (λ (n : ℕ). drop n all) full;
      queue_is = sym (untouched_none queue) ∙ sym (ap (λ (n : ℕ). untouched n queue) none)
          ∙ h.queue_is;
    }

-- all is drawn
pub drawn_all : (all room0 : List ℕ) (queue0 : List (List ℕ)) (from drawn : ℕ) (room begun : List ℕ)
    (queue rest : List (List ℕ)) → length begun ≡ 0 → queue ≡ [] → rest ≡ []
    → IsDrawn all room0 queue0 from drawn room begun queue
    → Drew all room0 queue0 from drawn room [] rest
drawn_all all room0 queue0 from drawn room begun queue rest none empty over h =
    let nothing : begun ≡ [] = nil_from_length begun none in
    let left : [] ≡ drop drawn all =
    sym (ap (λ (q : List (List ℕ)). concat q) empty)
    ∙ ap (λ (x : List ℕ). x ++ concat queue) (sym nothing) ∙ h.left in
    let size = ap length left in
    let whole : length all ≡ drawn = omega (arith, size, length-drop drawn all, h.some) in
    let fits : length all ≤ length room0 = omega (arith, whole, h.within) in
    let taken : take (length room0) all ≡ all = take_all (length room0) all fits in
    let same : take drawn all ≡ all = take_all drawn all (omega (arith, whole)) in
    let count = length room0 - drawn - length begun in
    let untaken : untouched from queue0 ≡ [] =
    sym h.queue_is ∙ ap (λ (q : List (List ℕ)). untouched count q) empty in
    record {
      count = sym (ap length taken ∙ whole);
      room_is = h.room_is ∙ ap (λ (x : List ℕ). x ++ drop drawn room0) (same ∙ sym taken);
      left = ap (λ (q : List (List ℕ)). concat q) over ∙ sym (drop_all (length room0) all fits);
      queue_is = over ∙ sym untaken;
    }
