-- each acknowledgement to an out proxy that waits at a server is for the channel of an os leg
use Rattle.law_order.proofs.Vocabulary.{◌≡◌, ℕ, zero, suc, ◌||◌, Bool, true, false, if◌then◌else◌, List, [], ◌∷◌, ◌++◌, Some, None, refl, sym, ap, ◌∙◌, subst, false≢true, position-Some, get_or_from_slice_get, IfSome, slice_get, slice_set, remove, AllByRecursion, Option}
use Rattle.law_moves.proofs.Vocabulary.{by_test, Cookie, Named, Due, Key, are_one, better, key_of, merged, own, takes, to_forward, without_first}
use Rattle.law_moves.proofs.Lemmas.{all_append, each_so}
use Rattle.law_role_inproxy.proofs.OrderPuts.{ended_now as or_later}
use Rattle.law_role_server.proofs.Vocabulary.{OutLeg, channel_leg, channel_place, is_of_channel, number_by, is_ack_of, out_at, same_cookie}
use Rattle.law_role_server.proofs.Numbered.{one as some_same}
use Rattle.law_peers_room.proofs.ServerRoom.Apart.{Apart, any_of, better_key}
use Rattle.law_peers_room.proofs.InRoom.Turns.{one_is as same_keys}

-- ---- the leg of a channel

abbrev pub has_leg : Cookie → List OutLeg → Bool
has_leg cookie [] = false
has_leg cookie (leg ∷ legs) = is_of_channel cookie leg.cookie || has_leg cookie legs

or_either : (a b c : Bool) → (b ≡ true → c ≡ true) → a || b ≡ true → a || c ≡ true
or_either true b c so e = refl
or_either false b c so e = so e

not_first : (a b : Bool) → a ≡ false → a || b ≡ true → b ≡ true
not_first true b e f = absurd cc
not_first false b e f = f

pub leg_pushed : (cookie : Cookie) (legs : List OutLeg) (new : OutLeg)
    → has_leg cookie legs ≡ true → has_leg cookie (legs ++ new ∷ []) ≡ true
leg_pushed cookie [] new e = absurd cc
leg_pushed cookie (leg ∷ legs) new e =
    or_either (is_of_channel cookie leg.cookie) (has_leg cookie legs)
    (has_leg cookie (legs ++ new ∷ [])) (leg_pushed cookie legs new) e

-- a leg that keeps its channel, or had none
pub leg_set : (cookie : Cookie) (legs : List OutLeg) (place : ℕ) (leg new : OutLeg)
    → slice_get legs place ≡ Some leg
    → (is_of_channel cookie leg.cookie ≡ true → is_of_channel cookie new.cookie ≡ true)
    → has_leg cookie legs ≡ true → has_leg cookie (slice_set legs place new) ≡ true
leg_set cookie [] place leg new at so e = absurd cc
leg_set cookie (x ∷ legs) zero leg new at so e =
    by (is_of_channel cookie x.cookie) refl e
  where
    by : (b : Bool) → is_of_channel cookie x.cookie ≡ b → b || has_leg cookie legs ≡ true
        → is_of_channel cookie new.cookie || has_leg cookie legs ≡ true
    by true is e =
        ap (λ (b : Bool). b || has_leg cookie legs)
        (so (subst (λ (l : OutLeg). is_of_channel cookie l.cookie ≡ true)
        (some_same x leg at) is))
    by false is e = or_later (is_of_channel cookie new.cookie) (has_leg cookie legs) e
leg_set cookie (x ∷ legs) (suc place) leg new at so e =
    or_either (is_of_channel cookie x.cookie) (has_leg cookie legs)
    (has_leg cookie (slice_set legs place new)) (leg_set cookie legs place leg new at so) e

pub leg_removed : (cookie : Cookie) (legs : List OutLeg) (place : ℕ)
    → IfSome (slice_get legs place) (λ (leg : OutLeg). is_of_channel cookie leg.cookie ≡ false)
    → has_leg cookie legs ≡ true → has_leg cookie (remove legs place) ≡ true
leg_removed cookie [] place other e = absurd cc
leg_removed cookie (x ∷ legs) zero other e =
    not_first (is_of_channel cookie x.cookie) (has_leg cookie legs) other e
leg_removed cookie (x ∷ legs) (suc place) other e =
    or_either (is_of_channel cookie x.cookie) (has_leg cookie legs)
    (has_leg cookie (remove legs place)) (leg_removed cookie legs place other) e

leg_at_place : (cookie : Cookie) (legs : List OutLeg) (place : ℕ) (leg : OutLeg)
    → slice_get legs place ≡ Some leg → is_of_channel cookie leg.cookie ≡ true
    → has_leg cookie legs ≡ true
leg_at_place cookie [] place leg at is = absurd cc
leg_at_place cookie (x ∷ legs) zero leg at is =
    ap (λ (b : Bool). b || has_leg cookie legs)
    (subst (λ (l : OutLeg). is_of_channel cookie l.cookie ≡ true) (sym (some_same x leg at)) is)
leg_at_place cookie (x ∷ legs) (suc place) leg at is =
    or_later (is_of_channel cookie x.cookie) (has_leg cookie legs)
    (leg_at_place cookie legs place leg at is)

pub leg_found : (cookie : Cookie) (legs : List OutLeg) (n : ℕ)
    → channel_leg cookie legs ≡ Some n → has_leg cookie legs ≡ true
leg_found cookie legs n e = by (channel_place cookie legs) refl e
  where
    at : (place : ℕ) → channel_place cookie legs ≡ Some place → (o : Option OutLeg)
        → slice_get legs place ≡ o → number_by o ≡ Some n → has_leg cookie legs ≡ true
    at place is None got f = absurd cc
    at place is (Some leg) got f =
        let found = position-Some (λ (one : OutLeg). is_of_channel cookie one.cookie) legs place
        leg is in
        leg_at_place cookie legs place leg got
        (ap (λ (one : OutLeg). is_of_channel cookie one.cookie)
        (sym (get_or_from_slice_get legs place leg leg got)) ∙ found.1)

    by : (o : Option ℕ) → channel_place cookie legs ≡ o → number_by (out_at legs o) ≡ Some n
        → has_leg cookie legs ≡ true
    by None is f = absurd cc
    by (Some place) is f = at place is (slice_get legs place) refl f

-- ---- what waits

abbrev pub Owned : List OutLeg → Due → Type 0
Owned legs due = (cookie : Cookie) → is_ack_of cookie due ≡ true → has_leg cookie legs ≡ true

abbrev pub AreOwned : List OutLeg → List Due → Type 0
AreOwned legs dues = AllByRecursion (Owned legs) dues

pub owned_added : (legs : List OutLeg) (dues : List Due) (packet : Named) → key_of packet ≡ None
    → AreOwned legs dues → AreOwned legs (dues ++ own packet ∷ [])
owned_added legs dues packet none h =
    all_append (Owned legs) dues (own packet ∷ []) h (
      (λ cookie e. absurd (false≢true (ap (λ (k : Option Key).
          are_one k (Some (record { destination = 3; channel = cookie }))) (sym none) ∙ e))),
      tt,
    )

pub owned_pushed : (legs : List OutLeg) (dues : List Due) (packet : Named)
    → Owned legs (to_forward packet) → AreOwned legs dues
    → AreOwned legs (dues ++ to_forward packet ∷ [])
owned_pushed legs dues packet is h =
    all_append (Owned legs) dues (to_forward packet ∷ []) h (is, tt)

pub owned_merged : (legs : List OutLeg) (dues : List Due) (packet : Named) → AreOwned legs dues
    → AreOwned legs (merged dues packet)
owned_merged legs [] packet h = tt
owned_merged legs (due ∷ dues) packet h =
    by_test (AreOwned legs) (takes packet due) (better due packet ∷ dues)
    (due ∷ merged dues packet)
    (λ e. (
      λ cookie is. h.0 cookie (ap (λ (k : Option Key).
          are_one k (Some (record { destination = 3; channel = cookie })))
          (sym (better_key due packet e)) ∙ is),
      h.1,
    ))
    (λ e. (h.0, owned_merged legs dues packet h.1))

pub owned_less : (legs : List OutLeg) (may_go : Due → Bool) (dues : List Due)
    → AreOwned legs dues → AreOwned legs (without_first may_go dues)
owned_less legs may_go [] h = tt
owned_less legs may_go (due ∷ dues) h =
    by_test (AreOwned legs) (may_go due) dues (due ∷ without_first may_go dues) (λ e. h.1)
    (λ e. (h.0, owned_less legs may_go dues h.1))

pub owned_so : (legs others : List OutLeg)
    → ((cookie : Cookie) → has_leg cookie legs ≡ true → has_leg cookie others ≡ true)
    → (dues : List Due) → AreOwned legs dues → AreOwned others dues
owned_so legs others so dues h =
    each_so (Owned legs) (Owned others) (λ due is cookie e. so cookie (is cookie e)) dues h

-- behind the one of this cookie none is left
abbrev pub Other : Cookie → Due → Type 0
Other cookie due = is_ack_of cookie due ≡ false

none_others : (cookie : Cookie) (dues : List Due)
    → any_of (Some (record { destination = 3; channel = cookie })) dues ≡ false
    → AllByRecursion (Other cookie) dues
none_others cookie [] e = tt
none_others cookie (due ∷ dues) e =
    by (is_ack_of cookie due) refl e (none_others cookie dues)
  where
    by : (b : Bool) → is_ack_of cookie due ≡ b
        → b || any_of (Some (record { destination = 3; channel = cookie })) dues ≡ false
        → (any_of (Some (record { destination = 3; channel = cookie })) dues ≡ false
        → AllByRecursion (Other cookie) dues)
        → AllByRecursion (Other cookie) (due ∷ dues)
    by true is e rest = absurd cc
    by false is e rest = (is, rest e)

pub none_left : (cookie : Cookie) (dues : List Due) → Apart dues
    → AllByRecursion (Other cookie) (without_first (is_ack_of cookie) dues)
none_left cookie [] h = tt
none_left cookie (due ∷ dues) h =
    by (is_ack_of cookie due) refl (none_left cookie dues h.1)
  where
    by : (b : Bool) → is_ack_of cookie due ≡ b
        → AllByRecursion (Other cookie) (without_first (is_ack_of cookie) dues)
        → AllByRecursion (Other cookie)
        (if b then dues else due ∷ without_first (is_ack_of cookie) dues)
    by true is rest =
        none_others cookie dues
        (subst (λ (k : Option Key). any_of k dues ≡ false)
        (same_keys (key_of due.packet)
        (Some (record { destination = 3; channel = cookie })) is) h.0)
    by false is rest = (is, rest)

both_each : (P Q R : Due → Type 0) → ((due : Due) → P due → Q due → R due) → (dues : List Due)
    → AllByRecursion P dues → AllByRecursion Q dues → AllByRecursion R dues
both_each P Q R so [] p q = tt
both_each P Q R so (due ∷ dues) p q = (so due p.0 q.0, both_each P Q R so dues p.1 q.1)

-- the leg of that cookie is gone
pub owned_without : (cookie : Cookie) (legs : List OutLeg) (place : ℕ) (leg : OutLeg)
    → slice_get legs place ≡ Some leg → leg.cookie ≡ Some cookie → (dues : List Due)
    → AllByRecursion (Other cookie) dues → AreOwned legs dues
    → AreOwned (remove legs place) dues
owned_without cookie legs place leg at is dues others h =
    both_each (Other cookie) (Owned legs) (Owned (remove legs place))
    (λ due apart own_leg other e.
    leg_removed other legs place
    (subst (λ o. IfSome o (λ (l : OutLeg). is_of_channel other l.cookie ≡ false)) (sym at)
    (subst (λ (o : Option Cookie). is_of_channel other o ≡ false) (sym is)
    (by due apart other e (same_cookie cookie other) refl))) (own_leg other e))
    dues others h
  where
    by : (due : Due) → is_ack_of cookie due ≡ false → (other : Cookie)
        → is_ack_of other due ≡ true → (b : Bool) → same_cookie cookie other ≡ b → b ≡ false
    by due apart other e false f = refl
    by due apart other e true f =
        let keys = same_keys (Some (record { destination = 3; channel = cookie }))
        (Some (record { destination = 3; channel = other })) f in
        absurd (false≢true (sym apart
        ∙ (ap (are_one (key_of due.packet)) keys ∙ e)))
