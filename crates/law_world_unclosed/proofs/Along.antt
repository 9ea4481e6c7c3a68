-- along the steps of a line no node closes, if none closes since a leg ended late
use Rattle.law_order.proofs.Vocabulary.{◌≡◌, ◌⊎◌, inl, inr, ℕ, get_or, List, [], ◌∷◌, ◌++◌, Bool, true, true≢false, Some, None, refl, sym, ap, ◌∙◌, subst, Option, and_parts}
use Rattle.rh_line.specs.declared.cause.Cause.TheVariants as cause
use Rattle.rh_record.specs.declared.answer.Who.TheVariants as who
use Rattle.rh_wires.specs.Legs as legs
use Rattle.rh_company.specs.Company as company
use Rattle.rh_company.specs.Places as places
use Rattle.law_moves.proofs.Vocabulary.{Cause, Dir, Leg, LegKind, Rules, Shell}
use Rattle.law_role_inproxy.proofs.Vocabulary.{InProxy}
use Rattle.law_role_client.proofs.Vocabulary.{ClientRole}
use Rattle.law_role_server.proofs.Vocabulary.{Server}
use Rattle.law_node_history.proofs.Vocabulary.{NodeClosed, Who, Line, receiver, sender, Closing, Event, Comes, Ends, Breaks, Passes, Place, Absent, Here, Gone, Company, lines, Makers, step, step_line, World, at, IsTraced, Change, IsTold, IsFed, GoesDown, Reports, MayChange, of_line, Leads, Works, all_changed, changed, ClosesNode, IsClosedBy, IsOneOf, told_by, History, IsNew, all_noted, noted, nothing, in_place, out_place}
use Rattle.law_node_history.proofs.Lemmas.{answered, cast_kept, changes_close, goes_step_line, is_other, one_of_both, one_of_lines}
use Rattle.law_node_causes.specs.Closings.{ClosesWith}
use Rattle.law_role_outproxy.proofs.Vocabulary.{OutProxy}
use Rattle.law_node_traces.proofs.Vocabulary.{AreOurs, IsKnown, deeds, rules}
use Rattle.law_world_order.proofs.Moments.{OurWorld}
use Rattle.law_world_order.proofs.Vocabulary.{numbers_of}
use Rattle.law_world_ways.specs.EndsInTime.Both.{AreUpAtBoth}
use Rattle.law_world_ways.specs.EndsInTime.InTime.{EndsInTime, ended_by}
use Rattle.law_world_ways.proofs.EndsInTime.Both.{up_for}
use Rattle.law_world_ways.specs.ExactPaths.GoingOn.{AllGoOn}
use Rattle.law_world_marks.specs.GoingOn.{GoOnWhereOver}
use Rattle.law_world_calm.proofs.CalmAnswers.{one_of_all}
use Rattle.law_world_calm.proofs.FinishedLegs.{finished_is_silent}
use Rattle.law_world_calm.proofs.NoBreaks.{FromEvents}
use Rattle.law_world_calm.proofs.Steps.{InSteps, Step, IsPlain, EndsLeg, is_plain, AllMayStep, MayStep, all_stepped}
use Rattle.law_world_calm.specs.Calm.{IsEndOfLeg, is_calm}
use Rattle.law_world_unclosed.proofs.CalmLines.{line_in_steps}
use Rattle.law_world_unclosed.proofs.Changing.{change_of, closed_later, ending, flat, may_behind, none_closed, plain_ends_none, plain_line, same_step, same_there, steps_work, zero_behind}
use Rattle.law_world_unclosed.proofs.Going.{goes_or_late}
use Rattle.law_world_unclosed.proofs.Until.{Until, in_time, leads, until_ending, until_plain}
use Rattle.law_world_unclosed.specs.Late.{ClosedLate, ClosedWhere, is_late}

-- ---- the event of a cause

-- a leg that ended is told so
abbrev EndsBy : Event → Cause → Type 0
EndsBy event (cause.LegEnded leg partial) = event ≡ Ends leg
EndsBy event why = Unit {0}

module _ {S : Type 0} (rules : Rules S)
    (ends : (node : Shell S) (event : Event) (leg : Leg) (partial : ℕ)
    → ClosesWith rules node event (cause.LegEnded leg partial) → event ≡ Ends leg) where
  of_node : (node : Shell S) (event : Event) (why : Cause) → ClosesWith rules node event why
      → EndsBy event why
  of_node node event (cause.LegEnded leg partial) h = ends node event leg partial h
  of_node node event why h = tt

  of_place : (p : Place S) (event : Event) (why : Cause)
      → (places.tell rules event p).1 ≡ Some why → EndsBy event why
  of_place Absent event why h = absurd cc
  of_place (Here node count) event why h = of_node node event why h
  of_place (Gone now) event why h = absurd cc

module _ (law : FromEvents) where
  ended_by_event : (c : Company ClientRole Server InProxy OutProxy) (node : Who) (event : Event)
      (why : Cause) → (company.tell rules c node event).1 ≡ Some why → EndsBy event why
  ended_by_event c who.Client event why h =
      of_node rules.client (λ s e leg partial. law.client s e (cause.LegEnded leg partial))
      c.client event why h
  ended_by_event c who.Server event why h =
      of_node rules.server (λ s e leg partial. law.server s e (cause.LegEnded leg partial))
      c.server event why h
  ended_by_event c (who.In n) event why h =
      of_place rules.in_proxy (λ s e leg partial. law.in_proxy s e (cause.LegEnded leg partial))
      (in_place c n) event why
      (sym (answered Absent (places.tell rules.in_proxy event) None refl c.ins n) ∙ h)
  ended_by_event c (who.Out n) event why h =
      of_place rules.out_proxy (λ s e leg partial. law.out_proxy s e (cause.LegEnded leg partial))
      (out_place c n) event why
      (sym (answered Absent (places.tell rules.out_proxy event) None refl c.outs n) ∙ h)

-- a plain change tells of no leg that ends
plain_tells : {K C S I O : Type 0} (w : World K C S I O) (change : Change) (node : Who)
    (event : Event) → is_plain change ≡ true → told_by w change ≡ Some (node, event)
    → (leg : Leg) → event ≡ Ends leg → ⊥
plain_tells w (IsTold other (Comes k piece)) node said plain told leg is = absurd cc
plain_tells w (IsTold other (Ends k)) node said plain told leg is = absurd cc
plain_tells w (IsTold other (Breaks k)) node said plain told leg is = absurd cc
plain_tells w (IsTold other (Passes now)) node said plain told leg is =
    let same : ◌≡◌ {A = Who × Event} (other, Passes now) (node, said) = cc in
    absurd (let bad : Passes now ≡ Ends leg = ap (λ (p : Who × Event). p.1) same ∙ is in cc)
plain_tells w (IsFed other dir count) node said plain told leg is =
    let came = Comes other (legs.take_out other dir count w.legs).1 in
    let same : ◌≡◌ {A = Who × Event} (at w other (receiver dir), came) (node, said) = cc in
    absurd (let bad : came ≡ Ends leg = ap (λ (p : Who × Event). p.1) same ∙ is in cc)
plain_tells w change node said plain told leg is = absurd cc

-- ---- the laws that this stands on

pub record AlongLaws {K : Type 0} (m : Makers K InProxy OutProxy) (first : OurWorld K)
    (ours : AreOurs m first.company first.cast) : Type 0 where
  pub known : (v : OurWorld K) (leads : Leads rules m deeds first v) → IsKnown m first v leads
  pub go : (v : OurWorld K) (leads : Leads rules m deeds first v)
      → ((node : Who) (why : Cause) → IsClosedBy rules m deeds first leads.changes node why → ⊥)
      → AllGoOn (numbers_of ours) (all_noted rules m deeds first nothing leads.changes)
  pub over : (v : OurWorld K) (ends : EndsInTime rules m deeds first v)
      → (let h = all_noted rules m deeds first nothing ends.lines.leads.changes in
      AllGoOn (numbers_of ours) h → GoOnWhereOver (numbers_of ours) v h)
  pub events : FromEvents
  pub reported : (one : Line) (w : OurWorld K) (node : Who) (why : Cause)
      (works : Works rules m deeds w (step_line rules m deeds one w).0)
      → IsClosedBy rules m deeds w works.leads.changes node why
      → IsOneOf (NodeClosed node why) (step rules m deeds one w).1

module _ {K : Type 0} (m : Makers K InProxy OutProxy) (first : OurWorld K) (new : IsNew first)
    (ours : AreOurs m first.company first.cast) (law : AlongLaws m first ours) where
  -- ---- behind changes none of which closed a node

  module _ (w : OurWorld K) (h : History) (u : Until rules m deeds first w h) where
    pub here : IsKnown m first w (leads rules m deeds first w h u)
    here = law.known w (leads rules m deeds first w h u)

    pub going : AllGoOn (numbers_of ours) (all_noted rules m deeds first nothing u.changes)
    going =
        law.go w (leads rules m deeds first w h u)
        (none_closed rules m deeds first u.changes u.unclosed)

    pub go_on : GoOnWhereOver (numbers_of ours) w h
    go_on =
        subst (λ (g : History). GoOnWhereOver (numbers_of ours) w g) u.history
        (law.over w (in_time rules m deeds first w h u) going)

    pub traced : IsTraced rules m deeds first.company w h
    traced =
        subst (λ (g : History). IsTraced rules m deeds first.company w g) u.history here.traced

    pub zero : out_place w.company 0 ≡ Absent
    zero =
        subst (λ (x : OurWorld K). out_place x.company 0 ≡ Absent) u.reached
        (zero_behind rules m deeds first u.changes u.allowed
        (ap (λ (list : List (Place OutProxy)). get_or list 0 Absent) new.outs))

    -- a change that ends no leg
    pub until_plainly : (c : Change) → MayChange rules w c → of_line c ≡ true
        → ended_by c ≡ None → ((node : Who) (why : Cause) → ClosesNode rules w c node why → ⊥)
        → Until rules m deeds first (changed rules m deeds w c) (noted w h c)
    until_plainly c may line none_ended none =
        until_plain rules m deeds first w h u traced here.once c may line none_ended none

    -- a leg ends, for a node to which that is nothing
    pub until_ended : (leg : Leg) (dir : Dir) → MayStep rules m deeds w (EndsLeg leg dir)
        → (company.tell rules w.company (at w leg (receiver dir)) (Ends leg)).1 ≡ None
        → Until rules m deeds first (all_changed rules m deeds w (ending rules m deeds w leg dir))
        (all_noted rules m deeds w h (ending rules m deeds w leg dir))
    until_ended leg dir may silent =
        until_ending rules m deeds first w h u traced here.once leg dir may.0 may.1 may.2
        (finished_is_silent m first w (leads rules m deeds first w h u) here leg dir
        (up_for w leg (sender dir) may.0 may.1)
        (and_parts (company.finished rules w.company (at w leg (sender dir)) leg)
        (legs.is_clear leg dir w.legs) may.2).0)
        (same_there rules m deeds w leg.kind leg.number dir ∙ silent)

    pub ends_or_late : (leg : Leg) (dir : Dir) → MayStep rules m deeds w (EndsLeg leg dir)
        → ((company.tell rules w.company (at w leg (receiver dir)) (Ends leg)).1 ≡ None)
        ⊎ (is_late (at w leg (receiver dir)) leg.kind ≡ true)
    ends_or_late leg dir may =
        goes_or_late m first w h ours
        (cast_kept rules m deeds first w (leads rules m deeds first w h u)) traced may.0
        u.untold here.read zero go_on leg dir may.1 may.2

  -- ---- what each step keeps that closes no node late

  module _ (late : Who → LegKind → Bool) (Is : OurWorld K → History → Type 0)
      (plain : (w : OurWorld K) (h : History) → Is w h → (c : Change) → MayChange rules w c
      → of_line c ≡ true → ended_by c ≡ None
      → ((node : Who) (why : Cause) → ClosesNode rules w c node why → ⊥)
      → Is (changed rules m deeds w c) (noted w h c))
      (ends_so : (w : OurWorld K) (h : History) → Is w h → (leg : Leg) (dir : Dir)
      → MayStep rules m deeds w (EndsLeg leg dir)
      → (company.tell rules w.company (at w leg (receiver dir)) (Ends leg)).1 ≡ None
      → Is (all_changed rules m deeds w (ending rules m deeds w leg dir))
      (all_noted rules m deeds w h (ending rules m deeds w leg dir)))
      (silent_or_late : (w : OurWorld K) (h : History) → Is w h → (leg : Leg) (dir : Dir)
      → MayStep rules m deeds w (EndsLeg leg dir)
      → ((company.tell rules w.company (at w leg (receiver dir)) (Ends leg)).1 ≡ None)
      ⊎ (late (at w leg (receiver dir)) leg.kind ≡ true))
      (until : (w : OurWorld K) (h : History) → Is w h → Until rules m deeds first w h) where
    abbrev ComesWith : OurWorld K → Type 0
    ComesWith w = (h : History) × Is w h

    -- only such legs close nodes, and none late
    abbrev OnlyEnds : OurWorld K → List Change → Type 0
    OnlyEnds w changes =
        (node : Who) (why : Cause) → IsClosedBy rules m deeds w changes node why
        → IsEndOfLeg why × (ClosedWhere late node why → ⊥)

    -- a plain change
    plain_step : (w : OurWorld K) (h : History) → Is w h → (c : Change) (rest : List Change)
        → MayStep rules m deeds w (IsPlain c) → OnlyEnds w (c ∷ rest)
        → Is (changed rules m deeds w c) (noted w h c)
    plain_step w h is c rest may only =
        plain w h is c may.0 (plain_line c may.1) (plain_ends_none c may.1) none
      where
        by : (node : Who) (why : Cause) (closes : ClosesNode rules w c node why) → IsEndOfLeg why
            → ⊥
        by node (cause.LegEnded leg partial) closes ends =
            plain_tells w c node closes.event may.1 closes.told leg
            (ended_by_event law.events w.company node closes.event (cause.LegEnded leg partial)
            closes.closes)
        by node why closes ends = absurd ends

        none : (node : Who) (why : Cause) → ClosesNode rules w c node why → ⊥
        none node why closes =
            by node why closes (only node why (record {
              before = [];
              change = c;
              after = rest;
              split = refl;
              closes = closes;
            })).0

    -- a leg ends
    ending_step : (w : OurWorld K) (h : History) → Is w h → (leg : Leg) (dir : Dir)
        (rest : List Change) → MayStep rules m deeds w (EndsLeg leg dir)
        → OnlyEnds w (ending rules m deeds w leg dir ++ rest)
        → Is (all_changed rules m deeds w (ending rules m deeds w leg dir))
        (all_noted rules m deeds w h (ending rules m deeds w leg dir))
    ending_step w h is leg dir rest may only =
        ends_so w h is leg dir may (each (silent_or_late w h is leg dir may))
      where
        taker : Who
        taker = at w leg (receiver dir)

        closes_late : (why : Cause) → (company.tell rules w.company taker (Ends leg)).1 ≡ Some why
            → late taker leg.kind ≡ true → IsEndOfLeg why → (ClosedWhere late taker why → ⊥) → ⊥
        closes_late (cause.LegEnded other partial) closes lately ends never =
            let told : Ends leg ≡ Ends other =
            ended_by_event law.events w.company taker (Ends leg) (cause.LegEnded other partial)
            closes in
            let same : leg ≡ other = cc in
            never (subst (λ (l : Leg). late taker l.kind ≡ true) same lately)
        closes_late why closes lately ends never = absurd ends

        by : (o : Option Cause) → (company.tell rules w.company taker (Ends leg)).1 ≡ o
            → late taker leg.kind ≡ true
            → (company.tell rules w.company taker (Ends leg)).1 ≡ None
        by None e lately = e
        by (Some why) e lately =
            let found = only taker why (record {
              before =
                  IsTold (at w leg (sender dir)) (Breaks leg)
                  ∷ GoesDown (at w leg (sender dir)) leg (sender dir) ∷ [];
              change = IsTold taker (Ends leg);
              after = GoesDown taker leg (receiver dir) ∷ rest;
              split = refl;
              closes = record {
                event = Ends leg;
                told = refl;
                closes = same_there rules m deeds w leg.kind leg.number dir ∙ e;
              };
            }) in
            absurd (closes_late why e lately found.0 found.1)

        each : ((company.tell rules w.company taker (Ends leg)).1 ≡ None)
            ⊎ (late taker leg.kind ≡ true)
            → (company.tell rules w.company taker (Ends leg)).1 ≡ None
        each (inl goes) = goes
        each (inr lately) = by (company.tell rules w.company taker (Ends leg)).1 refl lately

    one_step : (w : OurWorld K) (h : History) → Is w h → (step : Step) (rest : List Change)
        → MayStep rules m deeds w step
        → OnlyEnds w (change_of rules m deeds w step ++ rest)
        → Is (all_changed rules m deeds w (change_of rules m deeds w step))
        (all_noted rules m deeds w h (change_of rules m deeds w step))
    one_step w h is (IsPlain c) rest may only = plain_step w h is c rest may only
    one_step w h is (EndsLeg leg dir) rest may only = ending_step w h is leg dir rest may only

    along : (w : OurWorld K) (h : History) → Is w h → (steps : List Step)
        → AllMayStep rules m deeds w steps → OnlyEnds w (flat rules m deeds w steps)
        → ComesWith (all_stepped rules m deeds w steps)
    along w h is [] may only = (h, is)
    along w h is (step ∷ steps) may only =
        let cs = change_of rules m deeds w step in
        let v = all_changed rules m deeds w cs in
        subst (λ (x : OurWorld K). ComesWith (all_stepped rules m deeds x steps))
        (sym (same_step rules m deeds w step may.0))
        (along v (all_noted rules m deeds w h cs)
        (one_step w h is step (flat rules m deeds v steps) may.0 only) steps
        (may_behind rules m deeds w step steps may)
        (λ node why by. only node why
        (closed_later rules m deeds w cs (flat rules m deeds v steps) node why by)))

    -- ---- a line

    module _ (one : Line) (w : OurWorld K) (h : History) (is : Is w h) (both : AreUpAtBoth w)
        (calm : is_calm one ≡ true)
        (ends : (node : Who) (why : Cause)
        → IsOneOf (NodeClosed node why) (step rules m deeds one w).1
        → IsEndOfLeg why × (ClosedWhere late node why → ⊥)) where
      goes : InSteps rules m deeds w (step_line rules m deeds one w).0
      goes = line_in_steps rules m deeds one w both calm

      before_report : ComesWith (step_line rules m deeds one w).0
      before_report =
          subst ComesWith goes.reached
          (along w h is goes.steps goes.may (λ node why by. ends node why
          (law.reported one w node why
          (steps_work rules m deeds w (step_line rules m deeds one w).0 goes.steps goes.may
          goes.reached) by)))

      now : Until rules m deeds first (step_line rules m deeds one w).0 before_report.0
      now = until (step_line rules m deeds one w).0 before_report.0 before_report.1

      -- and none is reported
      pub none_by_line : first.closed ≡ [] → (node : Who) (why : Cause)
          → IsOneOf (NodeClosed node why) (step rules m deeds one w).1 → ⊥
      none_by_line none node why told =
          by (one_of_both (NodeClosed node why) (step_line rules m deeds one w).1
          (lines (step_line rules m deeds one w).0.closed) told)
        where
          x : Closing
          x = record { who = node; cause = why }

          v : OurWorld K
          v = (step_line rules m deeds one w).0

          closed : IsOneOf x first.closed
              ⊎ IsClosedBy rules m deeds first now.changes node why → ⊥
          closed (inl old) = subst (IsOneOf x) none old
          closed (inr late_one) =
              none_closed rules m deeds first now.changes now.unclosed node why late_one

          by : IsOneOf (NodeClosed node why) (step_line rules m deeds one w).1
              ⊎ IsOneOf (NodeClosed node why) (lines v.closed) → ⊥
          by (inl other) =
              true≢false (sym (one_of_all is_other (NodeClosed node why)
              (step_line rules m deeds one w).1 (goes_step_line rules m deeds one w).others other))
          by (inr line) =
              closed (changes_close rules m deeds first now.changes x
              (subst (λ (y : OurWorld K). IsOneOf x y.closed) (sym now.reached)
              (one_of_lines node why v.closed line)))

      pub kept_by_line : ComesWith (step rules m deeds one w).0
      kept_by_line = (
        noted (step_line rules m deeds one w).0 before_report.0 Reports,
        plain (step_line rules m deeds one w).0 before_report.0 before_report.1 Reports tt refl
            refl (λ node why closes. absurd (let bad = closes.told in cc)),
      )

  -- ---- where late is what ends from the end nearer the server

  abbrev pub ComesTo : OurWorld K → Type 0
  ComesTo w = (h : History) × Until rules m deeds first w h

  module _ (one : Line) (w : OurWorld K) (h : History) (u : Until rules m deeds first w h)
      (both : AreUpAtBoth w) (calm : is_calm one ≡ true)
      (ends : (node : Who) (why : Cause)
      → IsOneOf (NodeClosed node why) (step rules m deeds one w).1
      → IsEndOfLeg why × (ClosedLate node why → ⊥)) where
    pub none_reported : first.closed ≡ [] → (node : Who) (why : Cause)
        → IsOneOf (NodeClosed node why) (step rules m deeds one w).1 → ⊥
    none_reported =
        none_by_line is_late (Until rules m deeds first) until_plainly until_ended ends_or_late
        (λ v g x. x) one w h u both calm ends

    pub behind_line : ComesTo (step rules m deeds one w).0
    behind_line =
        kept_by_line is_late (Until rules m deeds first) until_plainly until_ended ends_or_late
        (λ v g x. x) one w h u both calm ends
