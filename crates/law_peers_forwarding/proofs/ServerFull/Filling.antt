-- how many acknowledgements to the client wait where a server has no room for one more
use Rattle.law_order.proofs.Vocabulary.{◌≡◌, ◌⊎◌, inl, inr, ℕ, zero, suc, ◌+◌, ◌<◌, ◌≤◌, ◌==◌, ◌&&◌, Bool, true, false, nat_lt, not, if◌then◌else◌, List, [], ◌∷◌, length, Some, None, Err, refl, sym, ap, ◌∙◌, subst, arith, position-Some, sum_by-cons, get_or_from_slice_get, IfSome, count_by, find, slice_get, AllByRecursion, list_any, Option}
use Rattle.rh_shell.specs.declared.answers.Refused.TheVariants as refused
use Rattle.rh_shell.specs.Waiting as waits
use Rattle.law_moves.proofs.Vocabulary.{by_test, same_number, test_other, Cookie, Named, AckTo, Leg, LegKind, ClientOut, OutServer, ClientIn, InServer, Count, Due, Forwarded, Waiting, merged, pushed, takes, to_forward, with_due}
use Rattle.law_role_server.proofs.Vocabulary.{OutLeg, channel_leg, channel_place, elsewhere, forward_by, forwards, forwards_to, forwards_writing, has_ack_by, has_ack_elsewhere, is_of_channel, number_by, on_ack_to, Done, is_first, unexpected, is_ack_of, packet_by, rules, Server, is_some, out_at, is_ack_to, waiting_of, waits_for}
use Rattle.law_role_server.proofs.Each.{each_got}
use Rattle.law_role_server.proofs.Numbered.{one as some_same}
use Rattle.law_peers_moments.proofs.GoingRound.Rounding.{once}
use Rattle.law_role_server_in.proofs.Tests.{at_least as no_less}
use Rattle.law_peers_room.proofs.ServerRoom.Ahead.{same_cookies}
use Rattle.law_peers_room.proofs.ServerRoom.Legs.{Above, Sorted}
use Rattle.law_peers_room.specs.ServerRoom.Forwarding.{ForwardsAcks, is_ack_at}
use Rattle.law_peers_room.specs.ServerRoom.Owning.{AcksHaveLegs}
use Rattle.law_peers_forwarding.specs.ServerFull.Filled.{FillsFirst}

pub and_none : (a b : Bool) → b ≡ false → a && b ≡ false
and_none true b e = e
and_none false b e = refl

-- ---- one leg has the writing number

module _ (test : OutLeg → Bool) (n : ℕ) where
  abbrev hits : OutLeg → Bool
  hits leg = (leg.number == n) && test leg

  none_above : (legs : List OutLeg) → AllByRecursion (Above n) legs → count_by hits legs ≡ 0
  none_above [] above = refl
  none_above (leg ∷ legs) above =
      let more = sum_by-cons (λ (l : OutLeg). once (hits l)) leg legs in
      let zero_then = ap {B = ℕ} (λ (b : Bool). once (b && test leg)) (apart above.0) in
      let rest = none_above legs above.1 in omega (arith, more, zero_then, rest)
    where
      apart : n < leg.number → (leg.number == n) ≡ false
      apart less = test_other leg.number n (λ e. absurd (omega (arith, less, e)))

  -- and that doesn't pass
  none_hits : (legs : List OutLeg) (place : ℕ) (leg : OutLeg) → slice_get legs place ≡ Some leg
      → leg.number ≡ n → test leg ≡ false → Sorted legs → count_by hits legs ≡ 0
  none_hits [] place leg at is fails sorted = absurd cc
  none_hits (x ∷ legs) zero leg at is fails sorted =
      let same = some_same x leg at in
      let more = sum_by-cons (λ (l : OutLeg). once (hits l)) x legs in
      let none = ap {B = ℕ} once
      (and_none (x.number == n) (test x) (ap test same ∙ fails)) in
      let rest = none_above legs
      (subst (λ (k : ℕ). AllByRecursion (Above k) legs)
      (ap (λ (l : OutLeg). l.number) same ∙ is) sorted.0) in
      omega (arith, more, none, rest)
  none_hits (x ∷ legs) (suc place) leg at is fails sorted =
      let more = sum_by-cons (λ (l : OutLeg). once (hits l)) x legs in
      let none = ap {B = ℕ} (λ (b : Bool). once (b && test x)) apart in
      let rest = none_hits legs place leg at is fails sorted.1 in
      omega (arith, more, none, rest)
    where
      apart : (x.number == n) ≡ false
      apart =
          let above = subst (λ o. IfSome o (Above x.number)) at
          (each_got (Above x.number) legs place sorted.0) in
          test_other x.number n (λ e. absurd (omega (arith, above, is, e)))

-- ---- the leg of a channel

-- where it is, and that it has this number
record HasPlace (channel : Cookie) (legs : List OutLeg) (n : ℕ) : Type 0 where
  place : ℕ
  leg : OutLeg
  at : slice_get legs place ≡ Some leg
  number : leg.number ≡ n
  is : is_of_channel channel leg.cookie ≡ true

has_place : (channel : Cookie) (legs : List OutLeg) (n : ℕ)
    → channel_leg channel legs ≡ Some n → HasPlace channel legs n
has_place channel legs n e = by (channel_place channel legs) refl e
  where
    at : (place : ℕ) → channel_place channel legs ≡ Some place → (o : Option OutLeg)
        → slice_get legs place ≡ o → number_by o ≡ Some n → HasPlace channel legs n
    at place found None got f = absurd cc
    at place found (Some leg) got f =
        let of = position-Some (λ (one : OutLeg). is_of_channel channel one.cookie) legs place
        leg found in record {
          place = place;
          leg = leg;
          at = got;
          number = some_same leg.number n f;
          is = ap (λ (one : OutLeg). is_of_channel channel one.cookie)
              (sym (get_or_from_slice_get legs place leg leg got)) ∙ of.1;
        }

    by : (o : Option ℕ) → channel_place channel legs ≡ o → number_by (out_at legs o) ≡ Some n
        → HasPlace channel legs n
    by None found f = absurd cc
    by (Some place) found f = at place found (slice_get legs place) refl f

none_has : (channel : Cookie) (dues : List Due) → waiting_of (is_ack_at 3 channel) dues ≡ 0
    → is_some (find (is_ack_of channel) dues) ≡ false
none_has channel [] e = refl
none_has channel (due ∷ dues) e = by (is_ack_of channel due) e (none_has channel dues)
  where
    by : (b : Bool)
        → (if b then suc (waiting_of (is_ack_at 3 channel) dues)
        else waiting_of (is_ack_at 3 channel) dues) ≡ 0
        → (waiting_of (is_ack_at 3 channel) dues ≡ 0
        → is_some (find (is_ack_of channel) dues) ≡ false)
        → is_some (if b then Some due else find (is_ack_of channel) dues) ≡ false
    by true f rest = absurd (omega (arith, f))
    by false f rest = rest f

none_by : (channel : Cookie) (w : Waiting) (o : Option Cookie)
    → waiting_of (is_ack_at 3 channel) w.due ≡ 0 → is_of_channel channel o ≡ true
    → has_ack_by w o ≡ false
none_by channel w None none is = absurd cc
none_by channel w (Some other) none is =
    ap (λ (c : Cookie). is_some (find (is_ack_of c) w.due)) (same_cookies other channel is)
    ∙ none_has channel w.due none

-- ---- where one for an out proxy is refused

module _ (s : Server) (received window : ℕ) (channel : Cookie) where
  abbrev packet : Named
  packet = AckTo 3 received window channel

  abbrev waiting : ℕ
  waiting = waits.count Forwarded s.waiting.due

  -- the leg of its channel is the writing one, or so many wait as may
  abbrev IsFullOn : Option ℕ → Type 0
  IsFullOn None = ⊥
  IsFullOn (Some n) = ((n == s.writing) ≡ true) ⊎ (s.waiting.room ≤ waiting)

  forwards_full : (n : ℕ) (at : Leg) → (forwards s n packet).1 ≡ Err (refused.Full at)
      → s.waiting.room ≤ waiting
  forwards_full n =
      by_test Answers (list_any (takes packet) s.waiting.due)
      (with_due s.waiting (merged s.waiting.due packet), true)
      (if nat_lt waiting s.waiting.room then (pushed s.waiting (to_forward packet), true)
      else (s.waiting, false))
      (λ e at f. absurd cc)
      (λ e. by_test Answers (nat_lt waiting s.waiting.room)
      (pushed s.waiting (to_forward packet), true) (s.waiting, false)
      (λ f at g. absurd cc)
      (λ f at g. no_less waiting s.waiting.room f))
    where
      Answers : Waiting × Bool → Type 0
      Answers x = (at : Leg) → (forward_by s n x).1 ≡ Err (refused.Full at)
          → s.waiting.room ≤ waiting

  to_full : (o : Option ℕ) (at : Leg) → (forwards_to s packet o).1 ≡ Err (refused.Full at)
      → IsFullOn o
  to_full None at = λ e. absurd cc
  to_full (Some n) at =
      by_test Answers (n == s.writing) (forwards_writing s packet) (forwards s n packet)
      (λ e f. inl e) (λ e f. inr (forwards_full n at f))
    where
      Answers : Done → Type 0
      Answers x = x.1 ≡ Err (refused.Full at) → IsFullOn (Some n)

  ack_full : (count : Count) (at : Leg)
      → (on_ack_to s count 3 received window channel).1 ≡ Err (refused.Full at)
      → IsFullOn (channel_leg channel s.outs)
  ack_full count at =
      by_test Answers (is_first count) (unexpected s)
      (forwards_to s packet (channel_leg channel s.outs)) (λ e f. absurd cc)
      (λ e. to_full (channel_leg channel s.outs) at)
    where
      Answers : Done → Type 0
      Answers x = x.1 ≡ Err (refused.Full at) → IsFullOn (channel_leg channel s.outs)

  packet_full : (n : ℕ) (count : Count) (k : LegKind) (at : Leg)
      → (packet_by s n count packet k).1 ≡ Err (refused.Full at)
      → IsFullOn (channel_leg channel s.outs)
  packet_full n count InServer at e = ack_full count at e
  packet_full n count OutServer at e = absurd cc
  packet_full n count ClientIn at e = absurd cc
  packet_full n count ClientOut at e = absurd cc

-- ---- how many wait

module _ (s : Server) (acks : ForwardsAcks s) (legs : AcksHaveLegs s)
    (few : length s.outs ≤ 4) (sorted : Sorted s.outs) (room : s.waiting.room ≡ 20) where
  -- each leg counts once
  both_few : (outs : List OutLeg)
      → count_by (has_ack_elsewhere s) outs
      + count_by (λ (leg : OutLeg). (leg.number == s.writing)
      && has_ack_by s.waiting leg.cookie) outs
      ≤ length outs
  both_few [] = omega arith
  both_few (leg ∷ outs) =
      let one = sum_by-cons (λ (l : OutLeg). once (has_ack_elsewhere s l)) leg outs in
      let other = sum_by-cons (λ (l : OutLeg).
      once ((l.number == s.writing) && has_ack_by s.waiting l.cookie)) leg outs in
      let both = split (leg.number == s.writing) (has_ack_by s.waiting leg.cookie) in
      let rest = both_few outs in omega (arith, one, other, both, rest)
    where
      split : (a b : Bool) → once (not a && b) + once (a && b) ≤ 1
      split true true = omega arith
      split true false = omega arith
      split false true = omega arith
      split false false = omega arith

  abbrev IsSo : Type 0
  IsSo = (16 + elsewhere s ≤ waits_for (is_ack_to 0) s + waits_for (is_ack_to 3) s)
      ⊎ (20 ≤ waits_for (is_ack_to 0) s + waits_for (is_ack_to 3) s)

  sixteen : 20 ≤ waits_for (is_ack_to 0) s + waits_for (is_ack_to 3) s
      → 16 ≤ waits_for (is_ack_to 0) s
  sixteen h =
      let most = legs.legs in
      let all = both_few s.outs in omega (arith, h, most, all, few)

  fifteen : IsSo → 15 ≤ waits_for (is_ack_to 0) s
  fifteen (inl h) =
      let most = legs.legs in
      let one = legs.one in omega (arith, h, most, one)
  fifteen (inr h) = let more = sixteen h in omega (arith, more)

  own_one : (received window : ℕ) (channel : Cookie)
      → waits_for (is_ack_at 3 channel) s ≡ 0 → IsSo
      → IsFullOn s received window channel (channel_leg channel s.outs)
      → 16 ≤ waits_for (is_ack_to 0) s
  own_one received window channel none (inr h) full = sixteen h
  own_one received window channel none (inl h) full = by (channel_leg channel s.outs) refl full
    where
      by : (o : Option ℕ) → channel_leg channel s.outs ≡ o
          → IsFullOn s received window channel o → 16 ≤ waits_for (is_ack_to 0) s
      by None e at = absurd at
      by (Some n) e (inr more) =
          let most = acks.acks in sixteen (omega (arith, more, room, most))
      by (Some n) e (inl writing) =
          let there = has_place channel s.outs n e in
          let zero_then = none_hits (λ (leg : OutLeg). has_ack_by s.waiting leg.cookie) s.writing
          s.outs there.place there.leg there.at
          (there.number ∙ same_number n s.writing writing)
          (none_by channel s.waiting there.leg.cookie none there.is) sorted in
          let most = legs.legs in omega (arith, h, most, zero_then)

  pub fills_first : FillsFirst s
  fills_first leg count to received window channel at e =
      let full = acks.full leg count (AckTo to received window channel) at e in record {
        none = full.0;
        least = fifteen full.1;
        own = λ is. own_one received window channel
            (subst (λ (n : ℕ). waits_for (is_ack_at n channel) s ≡ 0) is full.0) full.1
            (packet_full s received window channel leg.number count leg.kind at
            (subst (λ (n : ℕ). (rules.packet s leg count (AckTo n received window channel)).1
            ≡ Err (refused.Full at)) is e));
      }
