-- how IN channels are announced and answered, by what came, what was put, and what waits
use Rattle.law_order.proofs.Vocabulary.{◌≡◌, ◌⊎◌, inl, inr, ℕ, suc, ◌+◌, ◌≤◌, ◌<◌, ◌&&◌, ◌||◌, not, Bool, true, false, true≢false, if◌then◌else◌, List, [], ◌∷◌, ◌++◌, Some, None, arith, refl, sym, ap, ◌∙◌, subst, false≢true, and_parts, AllByRecursion, Option}
use Rattle.rh_sig.specs.declared.named.Named.TheVariants as named
use Rattle.rh_line.specs.Lines.{taken as line_taken}
use Rattle.rh_server.specs.declared.state.InStage.TheVariants as in_stage
use Rattle.rh_server.specs.declared.state.Tells.TheVariants as tells
use Rattle.rh_server.specs.declared.out_line.Kind.TheVariants as kind
use Rattle.law_moves.proofs.Vocabulary.{by_test, Named, each_push, Line, after_take, after_finish, is_empty, released, moved_on, settled as line_settled, OutServer, InServer, Due, own, OnLeg}
use Rattle.law_role_server.proofs.Vocabulary.{Shut, InStage, InLeg, is_ack, is_kind, waits, Server, is_fresh, is_waiting, stays, in_place, set_at, opens_next, opens_leg, first_waiting, next_opened, becomes_current, moved_if, is_in_r1_a2, is_in_r1_a3, is_in_r2_a2, is_in_r2_a3, often, often_at, waiting_of, how_many, waits_on}
use Rattle.law_role_server.proofs.Counted.Dues.{Apart, IsOfKind, HaveOrigins, HasOrigin, push_waits, none_found}
use Rattle.law_role_server.proofs.Counted.InLegs.{IsFound, IsFoundAs, found, Ascends, ascends_set, ascends_within, above_it, set_by_number, all_of, all_joined, each_of, both_so, one_leg, many_joined, IsNoWaiting, IsNoFresh, AreOrdered, none_before, ordered_set}

-- ---- what the facts are about

pub record Look : Type 0 where
  pub dues : List Due
  pub has_next : Bool
  pub finished : Bool
  -- the legs of the current and the next channel, and the newest IN number
  pub now : ℕ
  pub next : ℕ
  pub newest : ℕ
  pub ins : List InLeg

abbrev pub look : Server → Look
look s = record {
  dues = s.waiting.due;
  has_next = s.line.has_next;
  finished = s.line.finished;
  now = s.current.leg;
  next = s.next.leg;
  newest = s.newest_in;
  ins = s.ins;
}

-- how often IN_R1/A2 came on is leg n
abbrev pub heard : List OnLeg → ℕ → ℕ
heard came n = often_at is_in_r1_a2 InServer n came

-- a leg on which no packet came, and one whose channel waits, are behind the next channel's
pub record Placed (has_next : Bool) (now next : ℕ) (came : List OnLeg) (leg : InLeg)
    : Type 0 where
  pub fresh : is_fresh leg.stage ≡ true → (now ≤ leg.number)
      × (has_next ≡ true → next < leg.number)
      × (heard came leg.number ≡ 0)
      × (stays leg.leaving ≡ true)
  pub waits : is_waiting leg.stage ≡ true
      → (has_next ≡ true) × (next < leg.number) × (stays leg.leaving ≡ true)

abbrev pub ArePlaced : Look → List OnLeg → List InLeg → Type 0
ArePlaced x came legs = AllByRecursion (Placed x.has_next x.now x.next came) legs

pub record Answering (x : Look) (came put : List OnLeg) : Type 0 where
  pub origins : HaveOrigins x.dues
  pub ascends : Ascends 0 x.newest x.ins
  pub ordered : AreOrdered x.ins
  pub legs : ArePlaced x came x.ins
  pub reached : x.now ≤ suc x.newest
  pub behind : x.has_next ≡ true → (x.now ≤ x.next) × (1 ≤ x.next) × (x.next ≤ x.newest)
  pub followed : x.finished ≡ true → x.has_next ≡ true
  pub idle : x.has_next ≡ false → waiting_of is_in_r1_a3 x.dues ≡ 0
  pub told : x.finished ≡ true → waiting_of is_in_r1_a3 x.dues ≡ 0
  pub in_r1 : often is_in_r1_a3 OutServer put + waiting_of is_in_r1_a3 x.dues
      + how_many waits_on x.ins ≡ often is_in_r1_a2 InServer came
  pub in_r2 : often is_in_r2_a3 OutServer put + waiting_of is_in_r2_a3 x.dues
      ≡ often is_in_r2_a2 InServer came
  pub once : (n : ℕ) → heard came n ≤ 1
  pub later : (n : ℕ) → x.newest < n → heard came n ≡ 0

-- where there is no next channel, and legs may wait: the first of them is to be opened
pub record Placeable (now : ℕ) (came : List OnLeg) (leg : InLeg) : Type 0 where
  pub fresh : is_fresh leg.stage ≡ true
      → (now ≤ leg.number) × (heard came leg.number ≡ 0) × (stays leg.leaving ≡ true)
  pub waits : is_waiting leg.stage ≡ true → (now ≤ leg.number) × (stays leg.leaving ≡ true)

pub record Ready (x : Look) (came put : List OnLeg) : Type 0 where
  pub origins : HaveOrigins x.dues
  pub ascends : Ascends 0 x.newest x.ins
  pub ordered : AreOrdered x.ins
  pub legs : AllByRecursion (Placeable x.now came) x.ins
  pub reached : x.now ≤ suc x.newest
  pub alone : x.has_next ≡ false
  pub unfinished : x.finished ≡ false
  pub none : waiting_of is_in_r1_a3 x.dues ≡ 0
  pub in_r1 : often is_in_r1_a3 OutServer put + waiting_of is_in_r1_a3 x.dues
      + how_many waits_on x.ins ≡ often is_in_r1_a2 InServer came
  pub in_r2 : often is_in_r2_a3 OutServer put + waiting_of is_in_r2_a3 x.dues
      ≡ often is_in_r2_a2 InServer came
  pub once : (n : ℕ) → heard came n ≤ 1
  pub later : (n : ℕ) → x.newest < n → heard came n ≡ 0

pub a3_kind : IsOfKind kind.InR1A3 is_in_r1_a3
a3_kind = record { kinds = kinds; acks = acks }
  where
    kinds : (p : Named) → is_in_r1_a3 p ≡ true → is_kind kind.InR1A3 p ≡ true
    kinds (named.InR1A3 a b c d) e = refl
    kinds p e = absurd (false≢true e)

    acks : Apart is_ack is_in_r1_a3
    acks (named.AckTo a b c d) e = refl
    acks p e = absurd (false≢true e)

a3_only : (p : Named) → is_kind kind.InR1A3 p ≡ true → is_in_r1_a3 p ≡ true
a3_only (named.InR1A3 a b c d) e = refl
a3_only p e = absurd (cc)

-- ---- the first that waits is opened

-- a leg whose channel was opened, or is to be, is placed anywhere
opened_placed : (has_next : Bool) (now next : ℕ) (came : List OnLeg) (leg : InLeg)
    → is_fresh leg.stage ≡ false → is_waiting leg.stage ≡ false
    → Placed has_next now next came leg
opened_placed has_next now next came leg stale calm = record {
  fresh = λ e. absurd (true≢false (sym e ∙ stale));
  waits = λ e. absurd (true≢false (sym e ∙ calm));
}

-- none waits
none_opens : (x : Look) (came put : List OnLeg) → AllByRecursion IsNoWaiting x.ins
    → Ready x came put → Answering x came put
none_opens x came put calm h = record {
  origins = h.origins;
  ascends = h.ascends;
  ordered = h.ordered;
  legs = both_so (Placeable x.now came) IsNoWaiting (Placed x.has_next x.now x.next came)
      (λ leg is none. record {
        fresh = λ e. (
          (is.fresh e).0,
          (λ f. absurd (true≢false (sym f ∙ h.alone))),
          (is.fresh e).1,
          (is.fresh e).2,
        );
        waits = λ e. absurd (true≢false (sym e ∙ none));
      })
      x.ins h.legs calm;
  reached = h.reached;
  behind = λ e. absurd (true≢false (sym e ∙ h.alone));
  followed = λ e. absurd (true≢false (sym e ∙ h.unfinished));
  idle = λ e. h.none;
  told = λ e. h.none;
  in_r1 = h.in_r1;
  in_r2 = h.in_r2;
  once = h.once;
  later = h.later;
}

abbrev with_a3 : Look → ℕ → ℕ → ℕ → List InLeg → Look
with_a3 x window timeout next legs = record x {
  dues = x.dues ++ own (named.InR1A3 0 1 window timeout) ∷ [];
  has_next = true;
  next = next;
  ins = legs;
}

abbrev opened_leg : InLeg → InLeg
opened_leg leg = record leg { stage = in_stage.Opened; tells = tells.InR1B2 }

one_opens : (x : Look) (leg : InLeg) (a b : List InLeg) (window timeout : ℕ)
    (came put : List OnLeg) → is_waiting leg.stage ≡ true → x.ins ≡ a ++ leg ∷ b
    → AllByRecursion IsNoWaiting a → Ready x came put
    → Answering (with_a3 x window timeout leg.number (a ++ opened_leg leg ∷ b)) came put
one_opens x leg a b window timeout came put waits joined calm h = record {
  origins = each_push HasOrigin x.dues (own (named.InR1A3 0 1 window timeout)) h.origins refl;
  ascends = ascends_set 0 x.newest leg (opened_leg leg) a b refl ascends;
  ordered = ordered_set leg (opened_leg leg) a b (λ e. absurd (false≢true e))
      (λ e. absurd (false≢true e)) ordered;
  legs = all_joined Now (opened_leg leg) a b
      (both_so IsNoWaiting IsNoFresh Now
      (λ z none stale. opened_placed true x.now leg.number came z stale none) a calm
      (none_before leg a b waits ordered))
      (opened_placed true x.now leg.number came (opened_leg leg) refl refl)
      (both_so (Placeable x.now came) (λ (z : InLeg). leg.number < z.number) Now
      (λ z is above. record {
        fresh = λ e. ((is.fresh e).0, (λ f. above), (is.fresh e).1, (is.fresh e).2);
        waits = λ e. (refl, above, (is.waits e).1);
      })
      b parts.2 (above_it 0 x.newest leg a b ascends));
  reached = h.reached;
  behind = λ e. (here.0, ascended.0, ascended.1);
  followed = λ e. refl;
  idle = λ e. absurd (true≢false e);
  told = λ e. absurd (true≢false (sym e ∙ h.unfinished));
  in_r1 = omega (arith, h.in_r1, pushed, same, were, was, are);
  in_r2 = omega (arith, h.in_r2, pushed2);
  once = h.once;
  later = h.later;
}
  where
    Now : InLeg → Type 0
    Now z = Placed true x.now leg.number came z

    ascends : Ascends 0 x.newest (a ++ leg ∷ b)
    ascends = subst (Ascends 0 x.newest) joined h.ascends

    ordered : AreOrdered (a ++ leg ∷ b)
    ordered = subst AreOrdered joined h.ordered

    parts : AllByRecursion (Placeable x.now came) a × Placeable x.now came leg
        × AllByRecursion (Placeable x.now came) b
    parts =
        all_of (Placeable x.now came) leg a b
        (subst (AllByRecursion (Placeable x.now came)) joined h.legs)

    here : (x.now ≤ leg.number) × (stays leg.leaving ≡ true)
    here = parts.1.waits waits

    ascended : (0 < leg.number) × (leg.number ≤ x.newest)
    ascended = ascends_within 0 x.newest leg a b ascends

    pushed : waiting_of is_in_r1_a3 (x.dues ++ own (named.InR1A3 0 1 window timeout) ∷ [])
        ≡ waiting_of is_in_r1_a3 x.dues + 1
    pushed = push_waits is_in_r1_a3 x.dues (own (named.InR1A3 0 1 window timeout))

    pushed2 : waiting_of is_in_r2_a3 (x.dues ++ own (named.InR1A3 0 1 window timeout) ∷ [])
        ≡ waiting_of is_in_r2_a3 x.dues + 0
    pushed2 = push_waits is_in_r2_a3 x.dues (own (named.InR1A3 0 1 window timeout))

    same : how_many waits_on x.ins ≡ how_many waits_on (a ++ leg ∷ b)
    same = ap (how_many waits_on) joined

    were : how_many waits_on (a ++ leg ∷ b) ≡ how_many waits_on (a ++ b) + one_leg waits_on leg
    were = many_joined waits_on leg a b

    was : one_leg waits_on leg ≡ 1
    was = ap {B = ℕ} (λ (t : Bool). if t then 1 else 0) waits

    are : how_many waits_on (a ++ opened_leg leg ∷ b) ≡ how_many waits_on (a ++ b) + 0
    are = many_joined waits_on (opened_leg leg) a b

-- what is seen behind it
opened_look : (s : Server) (leg : InLeg) (a b : List InLeg) (window timeout : ℕ) (ended : Bool)
    → s.ins ≡ a ++ leg ∷ b → Ascends 0 s.newest_in (a ++ leg ∷ b)
    → look (opens_next s leg (in_stage.Waits window timeout ended))
    ≡ with_a3 (look s) window timeout leg.number (a ++ opened_leg leg ∷ b)
opened_look s leg a b window timeout ended joined ascends = by ended
  where
    legs : set_at s.ins (opened_leg leg) (in_place leg.number s.ins) ≡ a ++ opened_leg leg ∷ b
    legs =
        ap (λ (xs : List InLeg). set_at xs (opened_leg leg) (in_place leg.number xs)) joined
        ∙ set_by_number 0 s.newest_in leg (opened_leg leg) a b ascends

    by : (t : Bool) → look (opens_next s leg (in_stage.Waits window timeout t))
        ≡ with_a3 (look s) window timeout leg.number (a ++ opened_leg leg ∷ b)
    by true = ap (with_a3 (look s) window timeout leg.number) legs
    by false = ap (with_a3 (look s) window timeout leg.number) legs

pub next_opens : (s : Server) (came put : List OnLeg) → Ready (look s) came put
    → Answering (look (next_opened s)) came put
next_opens s came put h =
    by_test After (s.line.has_next || waits kind.InR1A3 s.waiting) s
    (opens_leg s (first_waiting s.ins)) (λ e. absurd (true≢false (sym e ∙ free)))
    (λ e. by (first_waiting s.ins) (found waits_on s.ins))
  where
    After : Server → Type 0
    After t = Answering (look t) came put

    free : s.line.has_next || waits kind.InR1A3 s.waiting ≡ false
    free =
        ap (λ (t : Bool). t || waits kind.InR1A3 s.waiting) h.alone
        ∙ none_found kind.InR1A3 is_in_r1_a3 a3_only s.waiting.due h.none

    opens : (leg : InLeg) (at : InStage) → leg.stage ≡ at → IsFound waits_on s.ins leg
        → After (opens_next s leg at)
    opens leg in_stage.Fresh e f = absurd (true≢false (sym f.passes ∙ ap is_waiting e))
    opens leg in_stage.Opened e f = absurd (true≢false (sym f.passes ∙ ap is_waiting e))
    opens leg (in_stage.Waits window timeout ended) e f =
        subst (λ (x : Look). Answering x came put)
        (sym (opened_look s leg f.before f.behind window timeout ended f.joined
        (subst (Ascends 0 s.newest_in) f.joined h.ascends)))
        (one_opens (look s) leg f.before f.behind window timeout came put f.passes f.joined
        f.earlier h)

    by : (o : Option InLeg) → IsFoundAs waits_on s.ins o → After (opens_leg s o)
    by None none = none_opens (look s) came put none.0 h
    by (Some leg) f = opens leg leg.stage refl f

-- ---- the next channel becomes current

-- a line goes on, or has no next channel any more
abbrev pub LineStep : Line → Line → Type 0
LineStep line new =
    ((new.has_next ≡ line.has_next) × (new.finished ≡ line.finished))
    ⊎ ((line.finished ≡ true) × (new.has_next ≡ false) × (new.finished ≡ false))

settled_step : (line : Line) → LineStep line (line_settled line)
settled_step line =
    by_test (LineStep line) (line.finished && is_empty line.current.pdus) (moved_on line) line
    (λ e. inr ((and_parts line.finished (is_empty line.current.pdus) e).0, refl, refl))
    (λ e. inl (refl, refl))

pub take_step : (line : Line) → LineStep line (after_take line)
take_step line = by line.current.pdus
  where
    by : (pdus : List (List ℕ)) → LineStep line (line_taken pdus line)
    by [] = inl (refl, refl)
    by (pdu ∷ pdus) =
        settled_step (record line { current = released (pdu ∷ pdus) line.current })

-- what a step of the line is to those that wait
abbrev pub GoesOn : Look → Line → Type 0
GoesOn x line =
    ((line.has_next ≡ x.has_next)
    × (line.finished ≡ true → (x.has_next ≡ true) × (waiting_of is_in_r1_a3 x.dues ≡ 0)))
    ⊎ ((x.has_next ≡ true) × (waiting_of is_in_r1_a3 x.dues ≡ 0) × (line.has_next ≡ false)
    × (line.finished ≡ false))

pub takes_on : (s : Server) (came put : List OnLeg) → Answering (look s) came put
    → GoesOn (look s) (after_take s.line)
takes_on s came put h = by (take_step s.line)
  where
    by : LineStep s.line (after_take s.line) → GoesOn (look s) (after_take s.line)
    by (inl same) =
        inl (same.0, λ e. (h.followed (sym same.1 ∙ e), h.told (sym same.1 ∙ e)))
    by (inr moved) = inr (h.followed moved.0, h.told moved.0, moved.1, moved.2)

pub finishes_on : (s : Server) (line : Line) → line.has_next ≡ s.line.has_next
    → s.line.has_next ≡ true → waiting_of is_in_r1_a3 s.waiting.due ≡ 0
    → GoesOn (look s) (after_finish line)
finishes_on s line same more none = by (settled_step (record line { finished = true }))
  where
    by : LineStep (record line { finished = true }) (after_finish line)
        → GoesOn (look s) (after_finish line)
    by (inl is) = inl (is.0 ∙ same, λ e. (more, none))
    by (inr moved) = inr (more, none, moved.1, moved.2)

-- the line is this one now, and where it has no next channel any more, that became current
pub line_keeps : (had_next : Bool) (s : Server) (line : Line) (came put : List OnLeg)
    → s.line.has_next ≡ had_next → GoesOn (look s) line → Answering (look s) came put
    → Answering (look (moved_if had_next (record s { line = line }))) came put
line_keeps had_next s line came put had goes h = by goes
  where
    t : Server
    t = record s { line = line }

    After : Server → Type 0
    After u = Answering (look u) came put

    never : (b : Bool) → b && not b ≡ true → ⊥
    never true e = false≢true e
    never false e = false≢true e

    now_so : (a b : Bool) → a ≡ true → b ≡ false → a && not b ≡ false → ⊥
    now_so true false e f g = true≢false g
    now_so true true e f g = true≢false f
    now_so false b e f g = false≢true e

    by : GoesOn (look s) line → After (moved_if had_next t)
    by (inl same) =
        by_test After (had_next && not line.has_next) (becomes_current t) t
        (λ e. absurd (never had_next
        (subst (λ (b : Bool). had_next && not b ≡ true) (same.0 ∙ had) e)))
        (λ e. record {
          origins = h.origins;
          ascends = h.ascends;
          ordered = h.ordered;
          legs = subst (λ (b : Bool). AllByRecursion (Placed b s.current.leg s.next.leg came) s.ins)
              (sym same.0) h.legs;
          reached = h.reached;
          behind = λ f. h.behind (sym same.0 ∙ f);
          followed = λ f. same.0 ∙ (same.1 f).0;
          idle = λ f. h.idle (sym same.0 ∙ f);
          told = λ f. (same.1 f).1;
          in_r1 = h.in_r1;
          in_r2 = h.in_r2;
          once = h.once;
          later = h.later;
        })
    by (inr moved) =
        by_test After (had_next && not line.has_next) (becomes_current t) t
        (λ e. next_opens (record t { current = s.next; edge = Shut }) came put (record {
          origins = h.origins;
          ascends = h.ascends;
          ordered = h.ordered;
          legs = each_of (Placed s.line.has_next s.current.leg s.next.leg came)
              (Placeable s.next.leg came)
              (λ leg is. record {
                fresh = λ f.
                    let above = (is.fresh f).1 moved.0 in
                    (omega (arith, above), (is.fresh f).2, (is.fresh f).3);
                waits = λ f.
                    let above = (is.waits f).1 in (omega (arith, above), (is.waits f).2);
              })
              s.ins h.legs;
          reached = let were = (h.behind moved.0).2 in omega (arith, were);
          alone = moved.2;
          unfinished = moved.3;
          none = moved.1;
          in_r1 = h.in_r1;
          in_r2 = h.in_r2;
          once = h.once;
          later = h.later;
        }))
        (λ e. absurd (now_so had_next line.has_next (sym had ∙ moved.0) moved.2 e))
