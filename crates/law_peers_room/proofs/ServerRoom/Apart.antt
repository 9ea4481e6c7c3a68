-- the packets that wait at a server: of each channel and destination one acknowledgement
use Rattle.law_order.proofs.Vocabulary.{◌≡◌, ◌⊎◌, inl, inr, ℕ, suc, ◌+◌, ◌≤◌, ◌||◌, Bool, true, false, nat_lt, if◌then◌else◌, List, [], ◌∷◌, ◌++◌, Some, None, refl, sym, ap, ◌∙◌, subst, arith, false≢true, sum_by-cons, AllByRecursion, list_any, Option}
use Rattle.rh_shell.specs.Waiting.{is_of}
use Rattle.rh_shell.specs.Waiting as waits
use Rattle.law_moves.proofs.Vocabulary.{by_test, neither as either_false, Named, Due, Forwarded, Key, are_one, better, edge_of, key_of, merged, own, takes, to_forward, without_first}
use Rattle.law_moves.proofs.Lemmas.{all_append}
use Rattle.law_role_server.proofs.Vocabulary.{is_ack_to, waiting_of}
use Rattle.law_peers_room.proofs.InRoom.Turns.{one_is as same_keys}

-- to the client, or to an out proxy
abbrev pub IsAck : Named → Type 0
IsAck packet = (is_ack_to 0 packet ≡ true) ⊎ (is_ack_to 3 packet ≡ true)

abbrev pub IsRight : Due → Type 0
IsRight due = is_of Forwarded due ≡ true → IsAck due.packet

-- none of these acknowledges what this key tells
abbrev pub any_of : Option Key → List Due → Bool
any_of key [] = false
any_of key (due ∷ dues) = are_one (key_of due.packet) key || any_of key dues

abbrev pub Apart : List Due → Type 0
Apart [] = Unit {0}
Apart (due ∷ dues) = (any_of (key_of due.packet) dues ≡ false) × Apart dues

pub record AreRight (dues : List Due) : Type 0 where
  pub each : AllByRecursion IsRight dues
  pub apart : Apart dues

both_false : (a b : Bool) → a ≡ false → b ≡ false → a || b ≡ false
both_false true b e f = absurd cc
both_false false b e f = f

pub taken_any : (packet : Named) (dues : List Due)
    → list_any (takes packet) dues ≡ any_of (key_of packet) dues
taken_any packet [] = refl
taken_any packet (due ∷ dues) =
    ap (λ (b : Bool). takes packet due || b) (taken_any packet dues)

-- ---- one more

other_way : (a b : Option Key) → are_one a b ≡ false → are_one b a ≡ false
other_way a b e = by (are_one b a) refl
  where
    by : (t : Bool) → are_one b a ≡ t → t ≡ false
    by false f = refl
    by true f =
        let same = same_keys b a f in
        absurd (false≢true (sym e ∙ subst (λ (k : Option Key). are_one k b ≡ true) same
        (subst (λ (k : Option Key). are_one b k ≡ true) (sym same) f)))

any_pushed : (key : Option Key) (dues : List Due) (due : Due)
    → are_one (key_of due.packet) key ≡ false → any_of key dues ≡ false
    → any_of key (dues ++ due ∷ []) ≡ false
any_pushed key [] due new old = both_false _ false new refl
any_pushed key (first ∷ dues) due new old =
    let parts = either_false (are_one (key_of first.packet) key) (any_of key dues) old in
    both_false (are_one (key_of first.packet) key) (any_of key (dues ++ due ∷ [])) parts.0
    (any_pushed key dues due new parts.1)

apart_pushed : (dues : List Due) (due : Due) → any_of (key_of due.packet) dues ≡ false
    → Apart dues → Apart (dues ++ due ∷ [])
apart_pushed [] due new h = (refl, tt)
apart_pushed (first ∷ dues) due new h =
    let parts = either_false (are_one (key_of first.packet) (key_of due.packet))
    (any_of (key_of due.packet) dues) new in (
      any_pushed (key_of first.packet) dues due
          (other_way (key_of first.packet) (key_of due.packet) parts.0) h.0,
      apart_pushed dues due parts.1 h.1,
    )

any_none : (dues : List Due) → any_of None dues ≡ false
any_none [] = refl
any_none (due ∷ dues) = both_false _ (any_of None dues) (by (key_of due.packet)) (any_none dues)
  where
    by : (k : Option Key) → are_one k None ≡ false
    by None = refl
    by (Some key) = refl

pub added_right : (dues : List Due) (packet : Named) → key_of packet ≡ None → AreRight dues
    → AreRight (dues ++ own packet ∷ [])
added_right dues packet none h = record {
  each = all_append IsRight dues (own packet ∷ []) h.each ((λ e. absurd (false≢true e)), tt);
  apart = apart_pushed dues (own packet)
      (subst (λ (k : Option Key). any_of k dues ≡ false) (sym none) (any_none dues)) h.apart;
}

pub forwarded_right : (dues : List Due) (packet : Named) → IsAck packet
    → list_any (takes packet) dues ≡ false → AreRight dues
    → AreRight (dues ++ to_forward packet ∷ [])
forwarded_right dues packet is none h = record {
  each = all_append IsRight dues (to_forward packet ∷ []) h.each ((λ e. is), tt);
  apart = apart_pushed dues (to_forward packet) (sym (taken_any packet dues) ∙ none) h.apart;
}

-- ---- one in the place of another

pub better_key : (due : Due) (packet : Named) → takes packet due ≡ true
    → key_of (better due packet).packet ≡ key_of due.packet
better_key due packet e =
    by_test (λ (d : Due). key_of d.packet ≡ key_of due.packet)
    (nat_lt (edge_of packet) (edge_of due.packet)) due
    (record { packet = packet; origin = due.origin }) (λ f. refl)
    (λ f. sym (same_keys (key_of due.packet) (key_of packet) e))

better_right : (due : Due) (packet : Named) → IsAck packet → IsRight due
    → IsRight (better due packet)
better_right due packet is h =
    by_test IsRight (nat_lt (edge_of packet) (edge_of due.packet)) due
    (record { packet = packet; origin = due.origin }) (λ f. h) (λ f e. is)

any_merged : (key : Option Key) (dues : List Due) (packet : Named)
    → any_of key (merged dues packet) ≡ any_of key dues
any_merged key [] packet = refl
any_merged key (due ∷ dues) packet =
    by_test (λ (ds : List Due). any_of key ds ≡ any_of key (due ∷ dues)) (takes packet due)
    (better due packet ∷ dues) (due ∷ merged dues packet)
    (λ e. ap (λ (k : Option Key). are_one k key || any_of key dues) (better_key due packet e))
    (λ e. ap (λ (b : Bool). are_one (key_of due.packet) key || b)
    (any_merged key dues packet))

pub merged_right : (dues : List Due) (packet : Named) → IsAck packet → AreRight dues
    → AreRight (merged dues packet)
merged_right [] packet is h = h
merged_right (due ∷ dues) packet is h =
    by_test AreRight (takes packet due) (better due packet ∷ dues) (due ∷ merged dues packet)
    (λ e. record {
      each = (better_right due packet is h.each.0, h.each.1);
      apart = (
        subst (λ (k : Option Key). any_of k dues ≡ false) (sym (better_key due packet e))
            h.apart.0,
        h.apart.1,
      );
    })
    (λ e. let rest = merged_right dues packet is
    (record { each = h.each.1; apart = h.apart.1 }) in record {
      each = (h.each.0, rest.each);
      apart = (any_merged (key_of due.packet) dues packet ∙ h.apart.0, rest.apart);
    })

-- ---- one goes

any_less : (key : Option Key) (may_go : Due → Bool) (dues : List Due) → any_of key dues ≡ false
    → any_of key (without_first may_go dues) ≡ false
any_less key may_go [] h = refl
any_less key may_go (due ∷ dues) h =
    let parts = either_false (are_one (key_of due.packet) key) (any_of key dues) h in
    by_test (λ (ds : List Due). any_of key ds ≡ false) (may_go due) dues
    (due ∷ without_first may_go dues) (λ e. parts.1)
    (λ e. both_false (are_one (key_of due.packet) key) _ parts.0
    (any_less key may_go dues parts.1))

pub less_right : (may_go : Due → Bool) (dues : List Due) → AreRight dues
    → AreRight (without_first may_go dues)
less_right may_go [] h = h
less_right may_go (due ∷ dues) h =
    by_test AreRight (may_go due) dues (due ∷ without_first may_go dues)
    (λ e. record { each = h.each.1; apart = h.apart.1 })
    (λ e. let rest = less_right may_go dues
    (record { each = h.each.1; apart = h.apart.1 }) in record {
      each = (h.each.0, rest.each);
      apart = (any_less (key_of due.packet) may_go dues h.apart.0, rest.apart);
    })

-- ---- counts

pub one_more : (test : Named → Bool) (due : Due) (dues : List Due)
    → waiting_of test (due ∷ dues) ≡ (if test due.packet then 1 else 0) + waiting_of test dues
one_more test due dues = by (test due.packet)
  where
    by : (b : Bool) → (if b then suc (waiting_of test dues) else waiting_of test dues)
        ≡ (if b then 1 else 0) + waiting_of test dues
    by true = omega arith
    by false = omega arith

pub none_waiting : (key : Key) (dues : List Due) → any_of (Some key) dues ≡ false
    → waiting_of (λ (packet : Named). are_one (key_of packet) (Some key)) dues ≡ 0
none_waiting key [] h = refl
none_waiting key (due ∷ dues) h =
    let parts = either_false (are_one (key_of due.packet) (Some key)) (any_of (Some key) dues) h in
    let rest = none_waiting key dues parts.1 in
    let more = one_more (λ (packet : Named). are_one (key_of packet) (Some key)) due dues in
    let none = ap {B = ℕ} (λ (b : Bool). if b then 1 else 0) parts.0 in omega
    (arith, rest, more, none)

pub once_waiting : (key : Key) (dues : List Due) → Apart dues
    → waiting_of (λ (packet : Named). are_one (key_of packet) (Some key)) dues ≤ 1
once_waiting key [] h = omega arith
once_waiting key (due ∷ dues) h =
    by (are_one (key_of due.packet) (Some key)) refl
    (one_more (λ (packet : Named). are_one (key_of packet) (Some key)) due dues)
    (once_waiting key dues h.1)
  where
    test : Named → Bool
    test packet = are_one (key_of packet) (Some key)

    by : (b : Bool) → are_one (key_of due.packet) (Some key) ≡ b
        → waiting_of (λ (packet : Named). are_one (key_of packet) (Some key)) (due ∷ dues)
        ≡ (if are_one (key_of due.packet) (Some key) then 1 else 0)
        + waiting_of (λ (packet : Named). are_one (key_of packet) (Some key)) dues
        → waiting_of (λ (packet : Named). are_one (key_of packet) (Some key)) dues ≤ 1
        → waiting_of (λ (packet : Named). are_one (key_of packet) (Some key)) (due ∷ dues) ≤ 1
    by true e more rest =
        let none = none_waiting key dues
        (subst (λ (k : Option Key). any_of k dues ≡ false)
        (same_keys (key_of due.packet) (Some key) e) h.0) in
        let one = ap {B = ℕ} (λ (b : Bool). if b then 1 else 0) e in omega (arith, more, none, one)
    by false e more rest =
        let none = ap {B = ℕ} (λ (b : Bool). if b then 1 else 0) e in omega
        (arith, more, rest, none)

acks_least : (packet : Named) → IsAck packet
    → 1 ≤ (if is_ack_to 0 packet then 1 else 0) + (if is_ack_to 3 packet then 1 else 0)
acks_least packet (inl is) =
    let one = ap {B = ℕ} (λ (b : Bool). if b then 1 else 0) is in omega (arith, one)
acks_least packet (inr is) =
    let one = ap {B = ℕ} (λ (b : Bool). if b then 1 else 0) is in omega (arith, one)

pub forwarded_acks : (dues : List Due) → AllByRecursion IsRight dues
    → waits.count Forwarded dues
    ≤ waiting_of (is_ack_to 0) dues + waiting_of (is_ack_to 3) dues
forwarded_acks [] h = omega arith
forwarded_acks (due ∷ dues) h =
    by (is_of Forwarded due) refl
    (sum_by-cons (λ (d : Due). if is_of Forwarded d then 1 else 0) due dues)
    (one_more (is_ack_to 0) due dues) (one_more (is_ack_to 3) due dues)
    (forwarded_acks dues h.1)
  where
    by : (b : Bool) → is_of Forwarded due ≡ b
        → waits.count Forwarded (due ∷ dues)
        ≡ (if is_of Forwarded due then 1 else 0) + waits.count Forwarded dues
        → waiting_of (is_ack_to 0) (due ∷ dues)
        ≡ (if is_ack_to 0 due.packet then 1 else 0) + waiting_of (is_ack_to 0) dues
        → waiting_of (is_ack_to 3) (due ∷ dues)
        ≡ (if is_ack_to 3 due.packet then 1 else 0) + waiting_of (is_ack_to 3) dues
        → waits.count Forwarded dues
        ≤ waiting_of (is_ack_to 0) dues + waiting_of (is_ack_to 3) dues
        → waits.count Forwarded (due ∷ dues)
        ≤ waiting_of (is_ack_to 0) (due ∷ dues) + waiting_of (is_ack_to 3) (due ∷ dues)
    by true e counted zero three rest =
        let least = acks_least due.packet (h.0 e) in
        let one = ap {B = ℕ} (λ (b : Bool). if b then 1 else 0) e in
        omega (arith, counted, zero, three, rest, least, one)
    by false e counted zero three rest =
        let none = ap {B = ℕ} (λ (b : Bool). if b then 1 else 0) e in
        omega (arith, counted, zero, three, rest, none)
