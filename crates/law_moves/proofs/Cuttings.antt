-- what comes and goes in two pieces is as in one
use Rattle.law_order.proofs.Vocabulary.{◌≡◌, ℕ, zero, suc, ◌+◌, List, [], ◌∷◌, ◌++◌, length, cond, Bool, true, false, Some, None, Ok, Err, arith, refl, sym, ap, ◌∙◌, subst, slice_get, slice_set, Option, Result, slice_get_within, slice_get-get_or, get_or-set_same, length-set}
use Rattle.rh_shell.specs.Intakes.{Over}
use Rattle.law_moves.proofs.Vocabulary.{Refusal, Leg, Cause, hear_stopped, Count, HeadRefused, HeadTaken, Course, Going, Closed, Refusing, Stop, Came, Nothing, Head, Greeting, Frame, Fault, on_byte, Rules, NearEnd, Turn, goes, touched, with_intake, heading, head_row, behind_head, behind_frame, take_frame, is_greeting, hear, hear_byte, take as taken, Shell, first_where, is_at, same_leg, place, end_at, with_end, turned, stopped, stop_by, bytes_at, bytes_by, bytes, with_verdict}
use Rattle.law_moves.proofs.Vocabulary.{is_deaf}
use Rattle.law_moves.proofs.ClosedNodes.{hear_cut}

-- ---- the leg of an end stays

pub head_leg : {S : Type 0} (end : NearEnd) (leg : Leg) (n : ℕ)
    (x : S × Result HeadTaken HeadRefused)
    → (behind_head end (head_row leg n x)).end.leg ≡ end.leg
head_leg end leg n (role, Ok t) = refl
head_leg end leg n (role, Err why) = refl

pub frame_leg : {S : Type 0} (end : NearEnd) (x : S × Result Count Cause)
    → (behind_frame end x).end.leg ≡ end.leg
frame_leg end (role, Ok next) = refl
frame_leg end (role, Err why) = refl

module _ {S : Type 0} (rules : Rules S) where
  greeting_leg : (t : Bool) (a b : Turn S) (leg : Leg) → a.end.leg ≡ leg → b.end.leg ≡ leg
      → (cond t a b).end.leg ≡ leg
  greeting_leg true a b leg p q = p
  greeting_leg false a b leg p q = q

  came_leg : (end : NearEnd) (role : S) (c : Came) → (taken rules end role c).end.leg ≡ end.leg
  unfolding taken
  came_leg end role Nothing = refl
  came_leg end role (Head text) =
      head_leg end end.leg (length text) (rules.head role end.leg text)
  came_leg end role (Greeting text) = greeting_leg (is_greeting text) _ _ end.leg refl refl
  came_leg end role (Frame at frame) =
      frame_leg end (take_frame rules (heading end at) role frame)
  came_leg end role (Fault at fault) = refl
  came_leg end role (Over told) = refl

  byte_leg : (now : ℕ) (t : Turn S) (b : ℕ) → (hear_byte rules now t b).end.leg ≡ t.end.leg
  unfolding hear_byte
  byte_leg now t b =
      greeting_leg (is_deaf rules t) t _ t.end.leg refl
      (came_leg (with_intake (touched t.end now) (on_byte t.end.intake b).0) t.role
      (on_byte t.end.intake b).1)

  pub hear_leg : (now : ℕ) (t : Turn S) (piece : List ℕ)
      → (hear rules now t piece).end.leg ≡ t.end.leg
  unfolding hear
  hear_leg now t [] = refl
  hear_leg now t (b ∷ bs) = hear_leg now (hear_byte rules now t b) bs ∙ byte_leg now t b

-- ---- the place of a leg stays

pub here_is : (test : NearEnd → Bool) (ends : List NearEnd) (end : NearEnd)
    → slice_get ends (first_where test ends) ≡ Some end → test end ≡ true
unfolding first_where
here_is test [] end at = absurd cc
here_is test (x ∷ xs) end at =
    elim (test x) as (λ t. test x ≡ t
    → slice_get (x ∷ xs) (cond t 0 (1 + first_where test xs)) ≡ Some end → test end ≡ true) [
      | true ↦ λ e. λ a. let same : x ≡ end = cc in subst (λ y. test y ≡ true) same e
      | false ↦ λ e. λ a. here_is test xs end
          (ap (slice_get (x ∷ xs)) {x = suc (first_where test xs)} {y = 1 + first_where test xs}
          (omega arith) ∙ a)
    ] refl at

place_stays : (test : NearEnd → Bool) (ends : List NearEnd) (new : NearEnd) → test new ≡ true
    → first_where test (slice_set ends (first_where test ends) new) ≡ first_where test ends
unfolding first_where
place_stays test [] new is = refl
place_stays test (x ∷ xs) new is =
    elim (test x) as (λ t. test x ≡ t
    → first_where test (slice_set (x ∷ xs) (cond t 0 (1 + first_where test xs)) new)
    ≡ cond t 0 (1 + first_where test xs)) [
      | true ↦ λ e. rw is refl
      | false ↦ λ e.
          ap (λ n. first_where test (slice_set (x ∷ xs) n new)) {x = 1 + first_where test xs}
          {y = suc (first_where test xs)} (omega arith)
          ∙ rw e (ap (λ n. 1 + n) (place_stays test xs new is))
    ] refl

set_twice : (ends : List NearEnd) (i : ℕ) (a b : NearEnd)
    → slice_set (slice_set ends i a) i b ≡ slice_set ends i b
set_twice [] i a b = refl
set_twice (x ∷ xs) zero a b = refl
set_twice (x ∷ xs) (suc i) a b = ap (λ l. x ∷ l) (set_twice xs i a b)

-- the end of a leg in the place of what it was
module _ {S : Type 0} (s : Shell S) (leg : Leg) (end new : NearEnd)
    (at : end_at s leg ≡ Some end) (same : new.leg ≡ end.leg) where
  i : ℕ
  i = place leg s.legs

  place_is : place leg (slice_set s.legs i new) ≡ i
  unfolding i
  place_is =
      place_stays (is_at leg) s.legs new
      (ap (λ (l : Leg). same_leg l leg) same ∙ here_is (is_at leg) s.legs end at)

  pub end_is : (role : S) → end_at (with_end s leg new role) leg ≡ Some new
  unfolding i
  end_is role =
      let below = slice_get_within s.legs i end at in
      ap (slice_get (slice_set s.legs i new)) place_is
      ∙ slice_get-get_or (slice_set s.legs i new) i new
      (omega (arith, below, length-set s.legs i new))
      ∙ ap Some (get_or-set_same s.legs i new new below)

  pub end_again : (role next : S) (later : NearEnd)
      → with_end s leg later next ≡ with_end (with_end s leg new role) leg later next
  unfolding i
  end_again role next later =
      ap (λ (legs : List NearEnd). record s { legs = legs; role = next })
      (sym (set_twice s.legs i new later)
      ∙ ap (λ k. slice_set (slice_set s.legs i new) k later) (sym place_is))

-- ---- a piece in two

module _ {S : Type 0} (rules : Rules S) (s : Shell S) (leg : Leg) (ys : List ℕ) where
  -- what comes on a leg then
  then_bytes : Shell S → Shell S
  then_bytes t = bytes_by rules t leg ys t.course

  stopped_stays : (t : Shell S) (why : Stop) → stopped t leg (Some why)
      ≡ then_bytes (stopped t leg (Some why))
  unfolding then_bytes
  stopped_stays t why = by why.refusal
    where
      by : (o : Option Refusal) → stop_by t leg why.cause o ≡ then_bytes (stop_by t leg why.cause o)
      by None = refl
      by (Some refusal) = refl

  module _ (going : s.course ≡ Going) (end : NearEnd) (at : end_at s leg ≡ Some end) where
    on_turn : (t : Turn S) → t.end.leg ≡ end.leg → (o : Option Stop) → t.stop ≡ o
        → turned s leg (hear rules s.now t ys)
        ≡ then_bytes (stopped (with_end s leg t.end t.role) leg o)
    unfolding then_bytes
    on_turn t same None none =
        let next = with_end s leg t.end t.role in
        let u = hear rules s.now (goes t.end t.role) ys in
        let is : t ≡ goes t.end t.role =
        ap (λ o. record { end = t.end; role = t.role; stop = o }) none in
        ap (λ (x : Turn S). turned s leg (hear rules s.now x ys)) is
        ∙ ap (λ (x : Shell S). stopped x leg u.stop)
        (end_again s leg end t.end at same t.role u.role u.end)
        ∙ ap (bytes_at rules next leg ys) (sym (end_is s leg end t.end at same t.role))
        ∙ ap (bytes_by rules next leg ys) (sym going)
    on_turn t same (Some why) some =
        ap (turned s leg)
        (hear_stopped rules s.now t ys (rw some refl))
        ∙ ap (stopped (with_end s leg t.end t.role) leg) some
        ∙ stopped_stays (with_end s leg t.end t.role) why

  by_end : s.course ≡ Going → (xs : List ℕ) (o : Option NearEnd) → end_at s leg ≡ o
      → bytes_at rules s leg (xs ++ ys) o ≡ then_bytes (bytes_at rules s leg xs o)
  unfolding then_bytes
  by_end going xs None none =
      ap (bytes_at rules s leg ys) (sym none) ∙ ap (bytes_by rules s leg ys) (sym going)
  by_end going xs (Some end) some =
      let t = hear rules s.now (goes end s.role) xs in
      ap (turned s leg) (hear_cut rules s.now (goes end s.role) xs ys)
      ∙ on_turn going end some t (hear_leg rules s.now (goes end s.role) xs) t.stop refl

  by_course : (xs : List ℕ) (c : Course) → s.course ≡ c
      → bytes_by rules s leg (xs ++ ys) c ≡ then_bytes (bytes_by rules s leg xs c)
  unfolding then_bytes
  by_course xs Going is = by_end is xs (end_at s leg) refl
  by_course xs (Closed why) is = ap (bytes_by rules s leg ys) (sym is)
  by_course xs (Refusing why client rest) is = ap (bytes_by rules s leg ys) (sym is)

  pub bytes_cut : (xs : List ℕ)
      → bytes rules s leg (xs ++ ys) ≡ bytes rules (bytes rules s leg xs).0 leg ys
  unfolding then_bytes
  bytes_cut xs = ap (with_verdict rules) (by_course xs s.course refl)
