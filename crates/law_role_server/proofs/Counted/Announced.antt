-- what keeps the answers to announcements right: packets that come and go
use Rattle.law_order.proofs.Vocabulary.{◌≡◌, ℕ, ◌+◌, ◌≤◌, ◌<◌, ◌==◌, Bool, true, false, true≢false, if◌then◌else◌, List, [], ◌∷◌, ◌++◌, arith, refl, sym, ap, ◌∙◌, subst, false≢true, AllByRecursion}
use Rattle.rh_sig.specs.declared.named.Named.TheVariants as named
use Rattle.rh_server.specs.declared.state.InStage.TheVariants as in_stage
use Rattle.law_moves.proofs.Vocabulary.{same_number, other_number, Cookie, each_push, OutServer, InServer, Due, Message, Packet, own, OnLeg, count_of}
use Rattle.law_role_server.proofs.Vocabulary.{InStage, InLeg, is_fresh, is_waiting, stays, has_fresh_below, is_in_r1_a2, is_in_r1_a3, is_in_r2_a2, is_in_r2_a3, often, often_at, leg_at, waiting_of, how_many, waits_on}
use Rattle.law_role_server.proofs.Counted.Logs.{often_more, often_at_more, at_most_often, at_here, at_other}
use Rattle.law_role_server.proofs.Counted.Dues.{HaveOrigins, HasOrigin, push_waits}
use Rattle.law_role_server.proofs.Counted.InLegs.{Ascends, ascends_higher, ascends_set, ascends_within, below_it, above_it, all_of, all_joined, each_of, both_so, one_leg, many_joined, AreOrdered, ordered_waits, none_fresh_below}
use Rattle.law_role_server.proofs.Counted.Announcing.{Look, heard, Placed, ArePlaced, Answering, Placeable, Ready}

pub answering_starts : Answering (record {
  dues = [];
  has_next = false;
  finished = false;
  now = 1;
  next = 0;
  newest = 0;
  ins = [];
}) [] []
answering_starts = record {
  origins = tt;
  ascends = omega arith;
  ordered = tt;
  legs = tt;
  reached = omega arith;
  behind = λ e. absurd (false≢true e);
  followed = λ e. absurd (false≢true e);
  idle = λ e. refl;
  told = λ e. refl;
  in_r1 = refl;
  in_r2 = refl;
  once = λ n. omega arith;
  later = λ n above. refl;
}

-- ---- packets

placed_more : (has_next : Bool) (now next : ℕ) (came new : List OnLeg)
    → ((n : ℕ) → heard new n ≡ heard came n) → (leg : InLeg) → Placed has_next now next came leg
    → Placed has_next now next new leg
placed_more has_next now next came new same leg is = record {
  fresh = λ e.
      ((is.fresh e).0, (is.fresh e).1, same leg.number ∙ (is.fresh e).2, (is.fresh e).3);
  waits = is.waits;
}

-- what came announces nothing
pub came_other : (x : Look) (came put : List OnLeg) (one : OnLeg)
    → often is_in_r1_a2 InServer (one ∷ []) ≡ 0 → often is_in_r2_a2 InServer (one ∷ []) ≡ 0
    → Answering x came put → Answering x (came ++ one ∷ []) put
came_other x came put one none1 none2 h = record {
  origins = h.origins;
  ascends = h.ascends;
  ordered = h.ordered;
  legs = each_of (Placed x.has_next x.now x.next came)
      (Placed x.has_next x.now x.next (came ++ one ∷ []))
      (placed_more x.has_next x.now x.next came (came ++ one ∷ []) same) x.ins h.legs;
  reached = h.reached;
  behind = h.behind;
  followed = h.followed;
  idle = h.idle;
  told = h.told;
  in_r1 =
      let more = often_more is_in_r1_a2 InServer came one in omega (arith, h.in_r1, more, none1);
  in_r2 =
      let more = often_more is_in_r2_a2 InServer came one in omega (arith, h.in_r2, more, none2);
  once = λ n. let was = h.once n in let is = same n in omega (arith, was, is);
  later = λ n above. same n ∙ h.later n above;
}
  where
    same : (n : ℕ) → heard (came ++ one ∷ []) n ≡ heard came n
    same n =
        let more = often_at_more is_in_r1_a2 InServer n came one in
        let less = at_most_often is_in_r1_a2 InServer n one in omega (arith, more, less, none1)

-- what was put did not wait any more
pub put_keeps : (x : Look) (others : List Due) (came put : List OnLeg) (one : OnLeg)
    → HaveOrigins others
    → waiting_of is_in_r1_a3 others + often is_in_r1_a3 OutServer (one ∷ [])
    ≡ waiting_of is_in_r1_a3 x.dues
    → waiting_of is_in_r2_a3 others + often is_in_r2_a3 OutServer (one ∷ [])
    ≡ waiting_of is_in_r2_a3 x.dues
    → Answering x came put → Answering (record x { dues = others }) came (put ++ one ∷ [])
put_keeps x others came put one all went1 went2 h = record {
  origins = all;
  ascends = h.ascends;
  ordered = h.ordered;
  legs = h.legs;
  reached = h.reached;
  behind = h.behind;
  followed = h.followed;
  idle = λ e. let was = h.idle e in omega (arith, was, went1);
  told = λ e. let was = h.told e in omega (arith, was, went1);
  in_r1 =
      let more = often_more is_in_r1_a3 OutServer put one in omega (arith, h.in_r1, more, went1);
  in_r2 =
      let more = often_more is_in_r2_a3 OutServer put one in omega (arith, h.in_r2, more, went2);
  once = h.once;
  later = h.later;
}

-- others wait besides
pub dues_keep : (x : Look) (others : List Due) (came put : List OnLeg) → HaveOrigins others
    → waiting_of is_in_r1_a3 others ≡ waiting_of is_in_r1_a3 x.dues
    → waiting_of is_in_r2_a3 others ≡ waiting_of is_in_r2_a3 x.dues
    → Answering x came put → Answering (record x { dues = others }) came put
dues_keep x others came put all same1 same2 h = record {
  origins = all;
  ascends = h.ascends;
  ordered = h.ordered;
  legs = h.legs;
  reached = h.reached;
  behind = h.behind;
  followed = h.followed;
  idle = λ e. same1 ∙ h.idle e;
  told = λ e. same1 ∙ h.told e;
  in_r1 = omega (arith, h.in_r1, same1);
  in_r2 = omega (arith, h.in_r2, same2);
  once = h.once;
  later = h.later;
}

-- IN_R2/A2 came
pub carried_keeps : (x : Look) (n : ℕ) (successor : Cookie) (came put : List OnLeg)
    → Answering x came put
    → Answering (record x {
      dues = x.dues ++ own (named.InR2A3 0) ∷ [];
      newest = x.newest + 1;
    }) (came ++ (leg_at InServer n, Packet (named.InR2A2 successor)) ∷ []) put
carried_keeps x n successor came put h = record {
  origins = each_push HasOrigin x.dues (own (named.InR2A3 0)) h.origins refl;
  ascends = ascends_higher 0 x.newest (x.newest + 1) x.ins (omega arith) h.ascends;
  ordered = h.ordered;
  legs = each_of (Placed x.has_next x.now x.next came)
      (Placed x.has_next x.now x.next (came ++ one ∷ []))
      (placed_more x.has_next x.now x.next came (came ++ one ∷ []) same) x.ins h.legs;
  reached = omega (arith, h.reached);
  behind = λ e.
      let were = h.behind e in
      let top = were.2 in (were.0, were.1, omega (arith, top));
  followed = h.followed;
  idle = λ e. let was = h.idle e in omega (arith, was, pushed1);
  told = λ e. let was = h.told e in omega (arith, was, pushed1);
  in_r1 = omega (arith, h.in_r1, pushed1, came1);
  in_r2 = omega (arith, h.in_r2, pushed2, came2);
  once = λ m. let was = h.once m in let is = same m in omega (arith, was, is);
  later = λ m above. same m ∙ h.later m (omega (arith, above));
}
  where
    one : OnLeg
    one = (leg_at InServer n, Packet (named.InR2A2 successor))

    same : (m : ℕ) → heard (came ++ one ∷ []) m ≡ heard came m
    same m =
        let more = often_at_more is_in_r1_a2 InServer m came one in
        let less : often_at is_in_r1_a2 InServer m (one ∷ []) ≤ 0 =
        at_most_often is_in_r1_a2 InServer m one in omega (arith, more, less)

    pushed1 : waiting_of is_in_r1_a3 (x.dues ++ own (named.InR2A3 0) ∷ [])
        ≡ waiting_of is_in_r1_a3 x.dues + 0
    pushed1 = push_waits is_in_r1_a3 x.dues (own (named.InR2A3 0))

    pushed2 : waiting_of is_in_r2_a3 (x.dues ++ own (named.InR2A3 0) ∷ [])
        ≡ waiting_of is_in_r2_a3 x.dues + 1
    pushed2 = push_waits is_in_r2_a3 x.dues (own (named.InR2A3 0))

    came1 : often is_in_r1_a2 InServer (came ++ one ∷ []) ≡ often is_in_r1_a2 InServer came + 0
    came1 = often_more is_in_r1_a2 InServer came one

    came2 : often is_in_r2_a2 InServer (came ++ one ∷ []) ≡ often is_in_r2_a2 InServer came + 1
    came2 = often_more is_in_r2_a2 InServer came one

-- ---- IN_R1/A2 came on a leg, first there

module _ (x : Look) (leg y : InLeg) (a b : List InLeg) (m : Message) (came put : List OnLeg)
    (joined : x.ins ≡ a ++ leg ∷ b) (same : y.number ≡ leg.number)
    (kept : y.leaving ≡ leg.leaving) (fresh : is_fresh leg.stage ≡ true)
    (waits : is_waiting y.stage ≡ true) (stale : is_fresh y.stage ≡ false)
    (below : has_fresh_below leg.number x.ins ≡ false) (is1 : count_of is_in_r1_a2 (m ∷ []) ≡ 1)
    (is2 : count_of is_in_r2_a2 (m ∷ []) ≡ 0) (h : Answering x came put) where
  abbrev pub came_too : List OnLeg
  came_too = came ++ (leg_at InServer leg.number, m) ∷ []

  abbrev pub announced_look : Look
  announced_look = record x { ins = a ++ y ∷ b }

  ascends : Ascends 0 x.newest (a ++ leg ∷ b)
  ascends = subst (Ascends 0 x.newest) joined h.ascends

  ascends_so : Ascends 0 x.newest (a ++ y ∷ b)
  ascends_so = ascends_set 0 x.newest leg y a b same ascends

  ordered_so : AreOrdered (a ++ y ∷ b)
  ordered_so =
      ordered_waits leg y a b stale
      (none_fresh_below leg.number leg a b
      (subst (λ (xs : List InLeg). has_fresh_below leg.number xs ≡ false) joined below)
      (below_it 0 x.newest leg a b ascends))
      (subst AreOrdered joined h.ordered)

  placed : AllByRecursion (Placed x.has_next x.now x.next came) a
      × Placed x.has_next x.now x.next came leg
      × AllByRecursion (Placed x.has_next x.now x.next came) b
  placed =
      all_of (Placed x.has_next x.now x.next came) leg a b (subst (ArePlaced x came) joined h.legs)

  others : (n : ℕ) → (leg.number ≡ n → ⊥) → heard came_too n ≡ heard came n
  others n differ = at_other is_in_r1_a2 InServer leg.number n m came differ

  here : heard came_too leg.number ≡ 1
  here =
      let more = at_here is_in_r1_a2 InServer leg.number leg.number m came refl in
      let none = (placed.1.fresh fresh).2 in omega (arith, more, none, is1)

  once_so : (n : ℕ) → heard came_too n ≤ 1
  once_so n = by (leg.number == n) refl
    where
      by : (t : Bool) → leg.number == n ≡ t → heard came_too n ≤ 1
      by true e =
          let is = subst (λ (k : ℕ). heard came_too k ≡ 1) (same_number leg.number n e) here in
          omega (arith, is)
      by false e =
          let is = others n (other_number leg.number n e) in
          let was = h.once n in omega (arith, is, was)

  later_so : (n : ℕ) → x.newest < n → heard came_too n ≡ 0
  later_so n above =
      let top = (ascends_within 0 x.newest leg a b ascends).1 in
      others n (λ e. omega (arith, e, above, top)) ∙ h.later n above

  in_r1_so : often is_in_r1_a3 OutServer put + waiting_of is_in_r1_a3 x.dues
      + how_many waits_on (a ++ y ∷ b) ≡ often is_in_r1_a2 InServer came_too
  in_r1_so =
      let more : often is_in_r1_a2 InServer came_too
      ≡ often is_in_r1_a2 InServer came + count_of is_in_r1_a2 (m ∷ []) =
      often_more is_in_r1_a2 InServer came (leg_at InServer leg.number, m) in
      let were : how_many waits_on x.ins ≡ how_many waits_on (a ++ leg ∷ b) =
      ap (how_many waits_on) joined in
      let was = many_joined waits_on leg a b in
      let are = many_joined waits_on y a b in
      let now : one_leg waits_on y ≡ 1 = ap {B = ℕ} (λ (t : Bool). if t then 1 else 0) waits in
      let then_none : one_leg waits_on leg ≡ 0 =
      ap {B = ℕ} (λ (t : Bool). if t then 1 else 0) (no_wait leg.stage fresh) in
      omega (arith, h.in_r1, more, were, was, are, now, then_none, is1)
    where
      no_wait : (at : InStage) → is_fresh at ≡ true → is_waiting at ≡ false
      no_wait in_stage.Fresh e = refl
      no_wait (in_stage.Waits window timeout ended) e = absurd (false≢true e)
      no_wait in_stage.Opened e = refl

  in_r2_so : often is_in_r2_a3 OutServer put + waiting_of is_in_r2_a3 x.dues
      ≡ often is_in_r2_a2 InServer came_too
  in_r2_so =
      let more : often is_in_r2_a2 InServer came_too
      ≡ often is_in_r2_a2 InServer came + count_of is_in_r2_a2 (m ∷ []) =
      often_more is_in_r2_a2 InServer came (leg_at InServer leg.number, m) in
      omega (arith, h.in_r2, more, is2)

  -- another leg is placed as before
  still : (z : InLeg) → (leg.number ≡ z.number → ⊥) → Placed x.has_next x.now x.next came z
      → Placed x.has_next x.now x.next came_too z
  still z differ is = record {
    fresh = λ e.
        ((is.fresh e).0, (is.fresh e).1, others z.number differ ∙ (is.fresh e).2, (is.fresh e).3);
    waits = is.waits;
  }

  before_so : AllByRecursion (Placed x.has_next x.now x.next came_too) a
  before_so =
      both_so (Placed x.has_next x.now x.next came) (λ (z : InLeg). z.number < leg.number)
      (Placed x.has_next x.now x.next came_too)
      (λ z is less. still z (λ e. omega (arith, e, less)) is) a placed.0
      (below_it 0 x.newest leg a b ascends)

  behind_so : AllByRecursion (Placed x.has_next x.now x.next came_too) b
  behind_so =
      both_so (Placed x.has_next x.now x.next came) (λ (z : InLeg). leg.number < z.number)
      (Placed x.has_next x.now x.next came_too)
      (λ z is less. still z (λ e. omega (arith, e, less)) is) b placed.2
      (above_it 0 x.newest leg a b ascends)

  staying : stays y.leaving ≡ true
  staying = ap stays kept ∙ (placed.1.fresh fresh).3

  -- its channel waits behind a next one
  pub announced_waits : x.has_next ≡ true → Answering announced_look came_too put
  announced_waits more = record {
    origins = h.origins;
    ascends = ascends_so;
    ordered = ordered_so;
    legs = all_joined (Placed x.has_next x.now x.next came_too) y a b before_so
        (record {
          fresh = λ e. absurd (true≢false (sym e ∙ stale));
          waits = λ e.
              let above = (placed.1.fresh fresh).1 more in
              (more, omega (arith, above, same), staying);
        })
        behind_so;
    reached = h.reached;
    behind = h.behind;
    followed = h.followed;
    idle = h.idle;
    told = h.told;
    in_r1 = in_r1_so;
    in_r2 = in_r2_so;
    once = once_so;
    later = later_so;
  }

  -- or it is to be the next one
  pub announced_ready : x.has_next ≡ false → Ready announced_look came_too put
  announced_ready alone = record {
    origins = h.origins;
    ascends = ascends_so;
    ordered = ordered_so;
    legs = all_joined (Placeable x.now came_too) y a b
        (each_of (Placed x.has_next x.now x.next came_too) (Placeable x.now came_too) none_waits a
        before_so)
        (record {
          fresh = λ e. absurd (true≢false (sym e ∙ stale));
          waits = λ e.
              let above = (placed.1.fresh fresh).0 in (omega (arith, above, same), staying);
        })
        (each_of (Placed x.has_next x.now x.next came_too) (Placeable x.now came_too) none_waits b
        behind_so);
    reached = h.reached;
    alone = alone;
    unfinished = unfinished x.finished refl;
    none = h.idle alone;
    in_r1 = in_r1_so;
    in_r2 = in_r2_so;
    once = once_so;
    later = later_so;
  }
    where
      none_waits : (z : InLeg) → Placed x.has_next x.now x.next came_too z
          → Placeable x.now came_too z
      none_waits z is = record {
        fresh = λ e. ((is.fresh e).0, (is.fresh e).2, (is.fresh e).3);
        waits = λ e. absurd (true≢false (sym (is.waits e).0 ∙ alone));
      }

      unfinished : (t : Bool) → x.finished ≡ t → x.finished ≡ false
      unfinished false e = e
      unfinished true e = absurd (true≢false (sym (h.followed e) ∙ alone))
