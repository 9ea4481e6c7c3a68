-- is legs change, and the answers to announcements stay right
use Rattle.law_order.proofs.Vocabulary.{◌≡◌, ℕ, ◌+◌, ◌<◌, Bool, true, false, true≢false, if◌then◌else◌, List, [], ◌∷◌, ◌++◌, arith, refl, sym, ap, ◌∙◌, subst, AllByRecursion}
use Rattle.law_moves.proofs.Vocabulary.{each_push, OnLeg}
use Rattle.law_role_server.proofs.Vocabulary.{InLeg, is_fresh, is_waiting, stays, how_many, waits_on}
use Rattle.law_role_server.proofs.Counted.InLegs.{Ascends, ascends_push, ascends_set, ascends_removed, ascends_above, all_of, all_joined, all_removed, both_so, one_leg, many_joined, many_pushed, AreOrdered, ordered_set, ordered_removed, ordered_push}
use Rattle.law_role_server.proofs.Counted.Announcing.{Look, Placed, ArePlaced, Answering}

-- another state of a leg, that waits as before, and is no more fresh
pub leg_set : (x : Look) (leg y : InLeg) (a b : List InLeg) (came put : List OnLeg)
    → x.ins ≡ a ++ leg ∷ b → y.number ≡ leg.number
    → (is_fresh y.stage ≡ true → is_fresh leg.stage ≡ true)
    → is_waiting y.stage ≡ is_waiting leg.stage → Placed x.has_next x.now x.next came y
    → Answering x came put → Answering (record x { ins = a ++ y ∷ b }) came put
leg_set x leg y a b came put joined same fresh waits is h = record {
  origins = h.origins;
  ascends = ascends_set 0 x.newest leg y a b same (subst (Ascends 0 x.newest) joined h.ascends);
  ordered = ordered_set leg y a b (λ e. sym waits ∙ e) fresh (subst AreOrdered joined h.ordered);
  legs =
      let parts = all_of (Placed x.has_next x.now x.next came) leg a b
      (subst (ArePlaced x came) joined h.legs) in
      all_joined (Placed x.has_next x.now x.next came) y a b parts.0 is parts.2;
  reached = h.reached;
  behind = h.behind;
  followed = h.followed;
  idle = h.idle;
  told = h.told;
  in_r1 = omega (arith, h.in_r1, were, was, are, one);
  in_r2 = h.in_r2;
  once = h.once;
  later = h.later;
}
  where
    were : how_many waits_on x.ins ≡ how_many waits_on (a ++ leg ∷ b)
    were = ap (how_many waits_on) joined

    was : how_many waits_on (a ++ leg ∷ b) ≡ how_many waits_on (a ++ b) + one_leg waits_on leg
    was = many_joined waits_on leg a b

    are : how_many waits_on (a ++ y ∷ b) ≡ how_many waits_on (a ++ b) + one_leg waits_on y
    are = many_joined waits_on y a b

    one : one_leg waits_on y ≡ one_leg waits_on leg
    one = ap {B = ℕ} (λ (t : Bool). if t then 1 else 0) waits

-- a leg that doesn't wait is gone
pub leg_gone : (x : Look) (leg : InLeg) (a b : List InLeg) (came put : List OnLeg)
    → x.ins ≡ a ++ leg ∷ b → is_waiting leg.stage ≡ false → Answering x came put
    → Answering (record x { ins = a ++ b }) came put
leg_gone x leg a b came put joined calm h = record {
  origins = h.origins;
  ascends = ascends_removed 0 x.newest leg a b (subst (Ascends 0 x.newest) joined h.ascends);
  ordered = ordered_removed leg a b (subst AreOrdered joined h.ordered);
  legs = all_removed (Placed x.has_next x.now x.next came) leg a b
      (subst (ArePlaced x came) joined h.legs);
  reached = h.reached;
  behind = h.behind;
  followed = h.followed;
  idle = h.idle;
  told = h.told;
  in_r1 = omega (arith, h.in_r1, were, was, one);
  in_r2 = h.in_r2;
  once = h.once;
  later = h.later;
}
  where
    were : how_many waits_on x.ins ≡ how_many waits_on (a ++ leg ∷ b)
    were = ap (how_many waits_on) joined

    was : how_many waits_on (a ++ leg ∷ b) ≡ how_many waits_on (a ++ b) + one_leg waits_on leg
    was = many_joined waits_on leg a b

    one : one_leg waits_on leg ≡ 0
    one = ap {B = ℕ} (λ (t : Bool). if t then 1 else 0) calm

-- a leg comes up
pub leg_up : (x : Look) (y : InLeg) (came put : List OnLeg) → y.number ≡ x.newest + 1
    → is_waiting y.stage ≡ false → stays y.leaving ≡ true → Answering x came put
    → Answering (record x { newest = y.number; ins = x.ins ++ y ∷ [] }) came put
leg_up x y came put next calm staying h = record {
  origins = h.origins;
  ascends = ascends_push 0 x.newest y x.ins (omega (arith, next)) h.ascends;
  ordered = ordered_push y x.ins calm h.ordered;
  legs = each_push (Placed x.has_next x.now x.next came) x.ins y h.legs (record {
    fresh = λ e. (
      omega (arith, next, h.reached),
      (λ f. let were = (h.behind f).2 in omega (arith, next, were)),
      h.later y.number (omega (arith, next)),
      staying,
    );
    waits = λ e. absurd (true≢false (sym e ∙ calm));
  });
  reached = omega (arith, next, h.reached);
  behind = λ e.
      let were = h.behind e in
      let top = were.2 in (were.0, were.1, omega (arith, next, top));
  followed = h.followed;
  idle = h.idle;
  told = h.told;
  in_r1 = omega (arith, h.in_r1, pushed, one);
  in_r2 = h.in_r2;
  once = h.once;
  later = λ n above. h.later n (omega (arith, next, above));
}
  where
    pushed : how_many waits_on (x.ins ++ y ∷ []) ≡ how_many waits_on x.ins + one_leg waits_on y
    pushed = many_pushed waits_on y x.ins

    one : one_leg waits_on y ≡ 0
    one = ap {B = ℕ} (λ (t : Bool). if t then 1 else 0) calm

-- the first channel opens on is 1
pub first_opens : (x : Look) (leg y : InLeg) (a b : List InLeg) (came put : List OnLeg)
    → x.ins ≡ a ++ leg ∷ b → y.number ≡ leg.number → leg.number ≡ 1
    → is_fresh y.stage ≡ false → is_waiting y.stage ≡ false → Answering x came put
    → Answering (record x { now = 1; ins = a ++ y ∷ b }) came put
first_opens x leg y a b came put joined same first stale calm h = record {
  origins = h.origins;
  ascends = ascends_set 0 x.newest leg y a b same ascends;
  ordered = ordered_set leg y a b (λ e. absurd (true≢false (sym e ∙ calm)))
      (λ e. absurd (true≢false (sym e ∙ stale))) (subst AreOrdered joined h.ordered);
  legs = all_joined Now y a b parts.0
      (record {
        fresh = λ e. absurd (true≢false (sym e ∙ stale));
        waits = λ e. absurd (true≢false (sym e ∙ calm));
      })
      parts.2;
  reached = omega arith;
  behind = λ e. let were = h.behind e in (were.1, were.1, were.2);
  followed = h.followed;
  idle = h.idle;
  told = h.told;
  in_r1 =
      let one = no_channel (is_waiting leg.stage) refl in
      omega (arith, h.in_r1, were, was, are, one, none);
  in_r2 = h.in_r2;
  once = h.once;
  later = h.later;
}
  where
    Now : InLeg → Type 0
    Now z = Placed x.has_next 1 x.next came z

    ascends : Ascends 0 x.newest (a ++ leg ∷ b)
    ascends = subst (Ascends 0 x.newest) joined h.ascends

    placed : ArePlaced x came (a ++ leg ∷ b)
    placed = subst (ArePlaced x came) joined h.legs

    parts : AllByRecursion Now a × Now leg × AllByRecursion Now b
    parts =
        all_of Now leg a b (both_so (Placed x.has_next x.now x.next came)
        (λ (z : InLeg). 0 < z.number) Now
        (λ z is above. record {
          fresh = λ e. (above, (is.fresh e).1, (is.fresh e).2, (is.fresh e).3);
          waits = is.waits;
        })
        (a ++ leg ∷ b) placed (ascends_above 0 x.newest (a ++ leg ∷ b) ascends))

    were : how_many waits_on x.ins ≡ how_many waits_on (a ++ leg ∷ b)
    were = ap (how_many waits_on) joined

    was : how_many waits_on (a ++ leg ∷ b) ≡ how_many waits_on (a ++ b) + one_leg waits_on leg
    was = many_joined waits_on leg a b

    are : how_many waits_on (a ++ y ∷ b) ≡ how_many waits_on (a ++ b) + one_leg waits_on y
    are = many_joined waits_on y a b

    none : one_leg waits_on y ≡ 0
    none = ap {B = ℕ} (λ (t : Bool). if t then 1 else 0) calm

    -- there is none behind which its channel could wait
    no_channel : (t : Bool) → is_waiting leg.stage ≡ t → one_leg waits_on leg ≡ 0
    no_channel false e = ap {B = ℕ} (λ (t : Bool). if t then 1 else 0) e
    no_channel true e =
        let waits = parts.1.waits e in
        let next = (h.behind waits.0).1 in
        let less = waits.1 in absurd (omega (arith, next, less, first))
