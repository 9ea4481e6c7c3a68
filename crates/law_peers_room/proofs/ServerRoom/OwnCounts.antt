-- no more acknowledgements to out proxies wait at a server than it has legs for them
use Rattle.law_order.proofs.Vocabulary.{◌≡◌, ℕ, suc, ◌+◌, ◌<◌, ◌≤◌, ◌==◌, ◌&&◌, ◌||◌, Bool, true, false, not, if◌then◌else◌, List, [], ◌∷◌, Some, None, refl, sym, ap, ◌∙◌, subst, arith, sum_by-cons, bytes_eq-Decides, bytes_eq, count_by, find, AllByRecursion, Option}
use Rattle.rh_sig.specs.declared.named.Named.TheVariants as named
use Rattle.law_moves.proofs.Vocabulary.{same_number, test_other, Cookie, Named, Due, Key, Waiting, are_one, key_of, EndMove}
use Rattle.law_role_server.proofs.Vocabulary.{OutLeg, has_ack_by, has_ack_elsewhere, is_of_channel, is_ack_of, Server, is_some, is_ack_to, waiting_of}
use Rattle.law_peers_moments.proofs.GoingRound.Rounding.{once}
use Rattle.law_role_server_in.specs.Handovers.{passed}
use Rattle.law_peers_room.proofs.ServerRoom.Ahead.{same_cookies}
use Rattle.law_peers_room.proofs.ServerRoom.Apart.{Apart, any_of, one_more}
use Rattle.law_peers_room.proofs.ServerRoom.Legs.{Sorted}
use Rattle.law_peers_room.proofs.ServerRoom.Overtaken.{legs_sorted}
use Rattle.law_peers_room.proofs.ServerRoom.Owners.{AreOwned, has_leg}
use Rattle.law_peers_room.proofs.ServerRoom.KeptLegs.{owns}
use Rattle.law_peers_room.specs.ServerRoom.Owning.{AcksHaveLegs}

abbrev acked_by : List Due → Option Cookie → Bool
acked_by dues None = false
acked_by dues (Some cookie) = any_of (Some (record { destination = 3; channel = cookie })) dues

abbrev hits : List Due → List OutLeg → ℕ
hits dues [] = 0
hits dues (leg ∷ legs) = once (acked_by dues leg.cookie) + hits dues legs

or_more : (a b : Bool) → once b ≤ once (a || b)
or_more true true = omega arith
or_more true false = omega arith
or_more false b = omega arith

one_leg_more : (due : Due) (dues : List Due) (o : Option Cookie)
    → once (acked_by dues o) ≤ once (acked_by (due ∷ dues) o)
one_leg_more due dues None = omega arith
one_leg_more due dues (Some cookie) =
    or_more (are_one (key_of due.packet) (Some (record { destination = 3; channel = cookie })))
    (any_of (Some (record { destination = 3; channel = cookie })) dues)

more_hits : (due : Due) (dues : List Due) (legs : List OutLeg)
    → hits dues legs ≤ hits (due ∷ dues) legs
more_hits due dues [] = omega arith
more_hits due dues (leg ∷ legs) =
    let one = one_leg_more due dues leg.cookie in
    let rest = more_hits due dues legs in omega (arith, one, rest)

-- a leg of its channel is one more
one_hit : (cookie : Cookie) (due : Due) (dues : List Due) (legs : List OutLeg)
    → are_one (key_of due.packet) (Some (record { destination = 3; channel = cookie })) ≡ true
    → any_of (Some (record { destination = 3; channel = cookie })) dues ≡ false
    → has_leg cookie legs ≡ true → suc (hits dues legs) ≤ hits (due ∷ dues) legs
one_hit cookie due dues [] is none has = absurd cc
one_hit cookie due dues (leg ∷ legs) is none has =
    by (is_of_channel cookie leg.cookie) refl has (one_hit cookie due dues legs is none)
  where
    gains : (o : Option Cookie) → is_of_channel cookie o ≡ true
        → suc (once (acked_by dues o)) ≤ once (acked_by (due ∷ dues) o)
    gains None e = absurd cc
    gains (Some other) e =
        let same = same_cookies other cookie e in
        subst (λ (c : Cookie). suc (once (acked_by dues (Some c)))
        ≤ once (acked_by (due ∷ dues) (Some c))) (sym same)
        (let now = ap {B = ℕ} (λ (b : Bool). once (b || acked_by dues (Some cookie))) is in
        let before = ap {B = ℕ} once none in omega (arith, now, before))

    by : (b : Bool) → is_of_channel cookie leg.cookie ≡ b → b || has_leg cookie legs ≡ true
        → (has_leg cookie legs ≡ true → suc (hits dues legs) ≤ hits (due ∷ dues) legs)
        → suc (hits dues (leg ∷ legs)) ≤ hits (due ∷ dues) (leg ∷ legs)
    by true e has rest =
        let one = gains leg.cookie e in
        let more = more_hits due dues legs in omega (arith, one, more)
    by false e has rest =
        let one = one_leg_more due dues leg.cookie in
        let more = rest has in omega (arith, one, more)

-- an acknowledgement to an out proxy has such a key
record HasKey (packet : Named) : Type 0 where
  cookie : Cookie
  is : key_of packet ≡ Some (record { destination = 3; channel = cookie })

key_there : (packet : Named) → is_ack_to 3 packet ≡ true → HasKey packet
key_there (named.AckTo to received window cookie) e = record {
  cookie = cookie;
  is = ap (λ (n : ℕ). Some (record { destination = n; channel = cookie })) (same_number to 3 e);
}
key_there packet e = absurd cc

same_one : (cookie : Cookie)
    → are_one (Some (record { destination = 3; channel = cookie }))
    (Some (record { destination = 3; channel = cookie })) ≡ true
same_one cookie = same_bytes cookie.0
  where
    same_bytes : (bytes : List ℕ) → bytes_eq bytes bytes ≡ true
    same_bytes bytes = (bytes_eq-Decides bytes bytes).1 refl

acks_hit : (legs : List OutLeg) (dues : List Due) → Apart dues → AreOwned legs dues
    → waiting_of (is_ack_to 3) dues ≤ hits dues legs
acks_hit legs [] apart owned = omega arith
acks_hit legs (due ∷ dues) apart owned =
    by (is_ack_to 3 due.packet) refl (one_more (is_ack_to 3) due dues)
    (acks_hit legs dues apart.1 owned.1)
  where
    by : (b : Bool) → is_ack_to 3 due.packet ≡ b
        → waiting_of (is_ack_to 3) (due ∷ dues)
        ≡ (if is_ack_to 3 due.packet then 1 else 0) + waiting_of (is_ack_to 3) dues
        → waiting_of (is_ack_to 3) dues ≤ hits dues legs
        → waiting_of (is_ack_to 3) (due ∷ dues) ≤ hits (due ∷ dues) legs
    by true e more rest =
        let key = key_there due.packet e in
        let here = ap (λ (k : Option Key).
        are_one k (Some (record { destination = 3; channel = key.cookie }))) key.is
        ∙ same_one key.cookie in
        let hit = one_hit key.cookie due dues legs here
        (subst (λ (k : Option Key). any_of k dues ≡ false) key.is apart.0)
        (owned.0 key.cookie here) in
        let one = ap {B = ℕ} once e in omega (arith, more, rest, hit, one)
    by false e more rest =
        let none = ap {B = ℕ} once e in
        let most = more_hits due dues legs in omega (arith, more, rest, most, none)

-- ---- as the server counts them

any_found : (cookie : Cookie) (dues : List Due)
    → any_of (Some (record { destination = 3; channel = cookie })) dues
    ≡ is_some (find (is_ack_of cookie) dues)
any_found cookie [] = refl
any_found cookie (due ∷ dues) = by (is_ack_of cookie due) (any_found cookie dues)
  where
    by : (b : Bool)
        → any_of (Some (record { destination = 3; channel = cookie })) dues
        ≡ is_some (find (is_ack_of cookie) dues)
        → b || any_of (Some (record { destination = 3; channel = cookie })) dues
        ≡ is_some (if b then Some due else find (is_ack_of cookie) dues)
    by true rest = refl
    by false rest = rest

acked_has : (w : Waiting) (o : Option Cookie) → acked_by w.due o ≡ has_ack_by w o
acked_has w None = refl
acked_has w (Some cookie) = any_found cookie w.due

split : (a b : Bool) → once b ≡ once (not a && b) + once (a && b)
split true true = omega arith
split true false = omega arith
split false true = omega arith
split false false = omega arith

counted : (s : Server) (legs : List OutLeg)
    → hits s.waiting.due legs
    ≤ count_by (has_ack_elsewhere s) legs
    + count_by (λ (leg : OutLeg). (leg.number == s.writing) && has_ack_by s.waiting leg.cookie) legs
counted s [] = omega arith
counted s (leg ∷ legs) =
    let same = ap {B = ℕ} once (acked_has s.waiting leg.cookie) in
    let two = split (leg.number == s.writing) (has_ack_by s.waiting leg.cookie) in
    let one = sum_by-cons (λ (l : OutLeg). once (has_ack_elsewhere s l)) leg legs in
    let other = sum_by-cons (λ (l : OutLeg).
    once ((l.number == s.writing) && has_ack_by s.waiting l.cookie)) leg legs in
    let rest = counted s legs in omega (arith, same, two, one, other, rest)

-- one leg at most has a number
none_numbered : (test : OutLeg → Bool) (n : ℕ) (legs : List OutLeg)
    → AllByRecursion (λ (leg : OutLeg). n < leg.number) legs
    → count_by (λ (leg : OutLeg). (leg.number == n) && test leg) legs ≡ 0
none_numbered test n [] above = refl
none_numbered test n (leg ∷ legs) above =
    let more = sum_by-cons (λ (l : OutLeg). once ((l.number == n) && test l)) leg legs in
    let other = ap {B = ℕ} (λ (b : Bool). once (b && test leg)) (apart above.0) in
    let rest = none_numbered test n legs above.1 in omega (arith, more, other, rest)
  where
    apart : n < leg.number → (leg.number == n) ≡ false
    apart less = test_other leg.number n (λ e. absurd (omega (arith, less, e)))

one_numbered : (test : OutLeg → Bool) (n : ℕ) (legs : List OutLeg) → Sorted legs
    → count_by (λ (leg : OutLeg). (leg.number == n) && test leg) legs ≤ 1
one_numbered test n [] sorted = omega arith
one_numbered test n (leg ∷ legs) sorted =
    let more = sum_by-cons (λ (l : OutLeg). once ((l.number == n) && test l)) leg legs in
    by (leg.number == n) refl more (one_numbered test n legs sorted.1)
  where
    at_most : (b : Bool) → once b ≤ 1
    at_most true = omega arith
    at_most false = omega arith

    by : (b : Bool) → (leg.number == n) ≡ b
        → count_by (λ (l : OutLeg). (l.number == n) && test l) (leg ∷ legs)
        ≡ once ((leg.number == n) && test leg)
        + count_by (λ (l : OutLeg). (l.number == n) && test l) legs
        → count_by (λ (l : OutLeg). (l.number == n) && test l) legs ≤ 1
        → count_by (λ (l : OutLeg). (l.number == n) && test l) (leg ∷ legs) ≤ 1
    by true e more rest =
        let none = none_numbered test n legs
        (subst (λ (k : ℕ). AllByRecursion (λ (l : OutLeg). k < l.number) legs)
        (same_number leg.number n e) sorted.0) in
        let one = at_most ((leg.number == n) && test leg) in omega (arith, more, none, one)
    by false e more rest =
        let none = ap {B = ℕ} (λ (b : Bool). once (b && test leg)) e in
        omega (arith, more, rest, none)

pub have_legs : (window : ℕ) (moves : List EndMove) → AcksHaveLegs (passed window moves).role
have_legs window moves =
    let s = (passed window moves).role in
    let kept = owns window moves in
    let hit = acks_hit s.outs s.waiting.due (kept.right).apart kept.owned in
    let most = counted s s.outs in record {
      legs = omega (arith, hit, most);
      one = one_numbered (λ (leg : OutLeg). has_ack_by s.waiting leg.cookie) s.writing s.outs
          (legs_sorted window moves);
    }
