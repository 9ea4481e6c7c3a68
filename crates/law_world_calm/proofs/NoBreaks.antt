-- no leg breaks for a node by settling
use Rattle.law_order.proofs.Vocabulary.{◌≡◌, ◌⊎◌, inl, inr, ℕ, List, [], ◌∷◌, Bool, true, false, true≢false, Some, None, refl, sym, ap, ◌∙◌, subst, ◌&&◌, if◌then◌else◌, and_parts}
use Rattle.law_order.proofs.ByNumber.{by_test}
use Rattle.rh_line.specs.declared.cause.Cause.TheVariants as cause
use Rattle.rh_record.specs.declared.answer.Who.TheVariants as who
use Rattle.rh_record.specs.declared.line.Line.TheVariants as line
use Rattle.rh_wires.specs.Legs as legs
use Rattle.rh_company.specs.Company as company
use Rattle.rh_company.specs.Places as places
use Rattle.law_moves.proofs.Vocabulary.{Cause, Dir, Side, Leg, Rules, Shell}
use Rattle.law_role_inproxy.proofs.Vocabulary.{InProxy}
use Rattle.law_role_client.proofs.Vocabulary.{ClientRole}
use Rattle.law_role_server.proofs.Vocabulary.{Server}
use Rattle.law_node_history.proofs.Vocabulary.{Answer, NodeClosed, Who, sender, receiver, Closing, Event, Comes, Ends, Breaks, Passes, Place, Absent, Here, Gone, lines, Company, Rulebook, is_up, end_leg, lost, lose, Deeds, Makers, settle, step, World, at, Change, IsTold, IsFed, GoesDown, HasUp, MayChange, Leads, changed, ClosesNode, IsOneOf, in_place, out_place, told_by}
use Rattle.law_node_history.proofs.Lemmas.{answered, goes_step_line, is_other, leads_more, leads_none, leads_then, one_of_both, one_of_lines}
use Rattle.law_node_history.proofs.Reporting.{change_closes}
use Rattle.law_node_causes.specs.Closings.{ClosesWith, ComesFrom}
use Rattle.law_role_outproxy.proofs.Vocabulary.{OutProxy}
use Rattle.law_node_traces.proofs.Vocabulary.{IsKnown, deeds, rules}
use Rattle.law_world_ways.specs.EndsInTime.Both.{AreUpAtBoth}
use Rattle.law_world_ways.proofs.EndsInTime.Both.{up_for}
use Rattle.law_world_calm.proofs.CalmAnswers.{one_of_all}
use Rattle.law_world_calm.proofs.FinishedLegs.{finished_is_silent}
use Rattle.law_world_calm.proofs.Steps.{InSteps, Step, IsPlain, EndsLeg, is_plain, AllMayStep, all_stepped, settles_in_steps}

-- ---- the event of a cause

-- a leg that broke is told so
abbrev IsTellingOf : Event → Cause → Type 0
IsTellingOf event (cause.LegBroken leg) = event ≡ Breaks leg
IsTellingOf event why = Unit {0}

module _ {S : Type 0} (rules : Rules S)
    (law : (node : Shell S) (event : Event) (why : Cause) → ClosesWith rules node event why
    → ComesFrom rules node event why) where
  of_node : (node : Shell S) (event : Event) (why : Cause) → ClosesWith rules node event why
      → IsTellingOf event why
  of_node node event (cause.LegBroken leg) h = law node event (cause.LegBroken leg) h
  of_node node event why h = tt

  of_place : (p : Place S) (event : Event) (why : Cause)
      → (places.tell rules event p).1 ≡ Some why → IsTellingOf event why
  of_place Absent event why h = absurd cc
  of_place (Here node count) event why h = of_node node event why h
  of_place (Gone now) event why h = absurd cc

-- what each role's rules say
pub record FromEvents : Type 0 where
  pub client : (node : Shell ClientRole) (event : Event) (why : Cause)
      → ClosesWith rules.client node event why → ComesFrom rules.client node event why
  pub server : (node : Shell Server) (event : Event) (why : Cause)
      → ClosesWith rules.server node event why → ComesFrom rules.server node event why
  pub in_proxy : (node : Shell InProxy) (event : Event) (why : Cause)
      → ClosesWith rules.in_proxy node event why → ComesFrom rules.in_proxy node event why
  pub out_proxy : (node : Shell OutProxy) (event : Event) (why : Cause)
      → ClosesWith rules.out_proxy node event why → ComesFrom rules.out_proxy node event why

module _ (law : FromEvents) where
  telling_of : (c : Company ClientRole Server InProxy OutProxy) (node : Who) (event : Event)
      (why : Cause) → (company.tell rules c node event).1 ≡ Some why → IsTellingOf event why
  telling_of c who.Client event why h = of_node rules.client law.client c.client event why h
  telling_of c who.Server event why h = of_node rules.server law.server c.server event why h
  telling_of c (who.In n) event why h =
      of_place rules.in_proxy law.in_proxy (in_place c n) event why
      (sym (answered Absent (places.tell rules.in_proxy event) None refl c.ins n) ∙ h)
  telling_of c (who.Out n) event why h =
      of_place rules.out_proxy law.out_proxy (out_place c n) event why
      (sym (answered Absent (places.tell rules.out_proxy event) None refl c.outs n) ∙ h)

-- ---- a leg that an end loses

module _ {K C S I O : Type 0} (r : Rulebook C S I O) (m : Makers K I O) (d : Deeds C S) where
  -- by changes
  lose_leads : (w : World K C S I O) (leg : Leg) (end : Side) (event : Event)
      → (HasUp w (at w leg end) leg end → MayChange r w (IsTold (at w leg end) event))
      → Leads r m d w (lose r w leg end event)
  lose_leads w leg end event may = by (legs.is_up leg end w.legs) refl
    where
      by : (t : Bool) → legs.is_up leg end w.legs ≡ t
          → Leads r m d w (if t then lost r w (at w leg end) leg end event else w)
      by false e = leads_none r m d w
      by true e =
          let has : HasUp w (at w leg end) leg end = record { stands = refl; up = e } in
          let v = changed r m d w (IsTold (at w leg end) event) in
          leads_more r m d w v (GoesDown (at w leg end) leg end)
          (leads_more r m d w w (IsTold (at w leg end) event) (leads_none r m d w) (may has))
          (record { stands = refl; up = e })

  end_leads : (w : World K C S I O) (leg : Leg) (dir : Dir)
      → Leads r m d w (end_leg r w leg dir).0
  end_leads w leg dir =
      let v = lose r w leg (sender dir) (Breaks leg) in
      by_test (λ (did : World K C S I O × Bool). Leads r m d w did.0)
      (is_up w leg && legs.is_clear leg dir w.legs)
      (lose r v leg (receiver dir) (Ends leg), true) (w, false)
      (λ e. leads_then r m d w v (lose r v leg (receiver dir) (Ends leg))
      (lose_leads w leg (sender dir) (Breaks leg) (λ has. inl (sender dir, has)))
      (lose_leads v leg (receiver dir) (Ends leg) (λ has. (receiver dir, has))))
      (λ e. leads_none r m d w)

  -- what it closes
  lose_closes : (w : World K C S I O) (leg : Leg) (end : Side) (event : Event) (x : Closing)
      → IsOneOf x (lose r w leg end event).closed
      → IsOneOf x w.closed
      ⊎ ((company.tell r w.company (at w leg end) event).1 ≡ Some x.cause)
  lose_closes w leg end event x = by (legs.is_up leg end w.legs)
    where
      found : IsOneOf x (changed r m d w (IsTold (at w leg end) event)).closed
          → IsOneOf x w.closed
          ⊎ ((company.tell r w.company (at w leg end) event).1 ≡ Some x.cause)
      found h = one (change_closes r m d w (IsTold (at w leg end) event) x h)
        where
          one : IsOneOf x w.closed ⊎ ClosesNode r w (IsTold (at w leg end) event) x.who x.cause
              → IsOneOf x w.closed
              ⊎ ((company.tell r w.company (at w leg end) event).1 ≡ Some x.cause)
          one (inl old) = inl old
          one (inr new) =
              let told = new.told in
              let same : ◌≡◌ {A = Who × Event} (at w leg end, event) (x.who, new.event) = cc in
              inr (ap (λ (p : Who × Event). (company.tell r w.company p.0 p.1).1) same
              ∙ new.closes)

      by : (t : Bool)
          → IsOneOf x (if t then lost r w (at w leg end) leg end event else w).closed
          → IsOneOf x w.closed
          ⊎ ((company.tell r w.company (at w leg end) event).1 ≡ Some x.cause)
      by false h = inl h
      by true h = found h

-- ---- steps

abbrev OurWorld : Type 0 → Type 0
OurWorld K = World K ClientRole Server InProxy OutProxy

-- where bytes come, and nothing else is told
plain_event : {K C S I O : Type 0} (w : World K C S I O) (change : Change) (node : Who)
    (event : Event) → is_plain change ≡ true → told_by w change ≡ Some (node, event)
    → (leg : Leg) → event ≡ Breaks leg → ⊥
plain_event w (IsTold other (Comes k piece)) node said plain told leg is = absurd cc
plain_event w (IsTold other (Ends k)) node said plain told leg is = absurd cc
plain_event w (IsTold other (Breaks k)) node said plain told leg is = absurd cc
plain_event w (IsTold other (Passes now)) node said plain told leg is =
    let same : ◌≡◌ {A = Who × Event} (other, Passes now) (node, said) = cc in
    absurd (let bad : Passes now ≡ Breaks leg = ap (λ (p : Who × Event). p.1) same ∙ is in cc)
plain_event w (IsFed other dir count) node said plain told leg is =
    let came = Comes other (legs.take_out other dir count w.legs).1 in
    let same : ◌≡◌ {A = Who × Event} (at w other (receiver dir), came) (node, said) = cc in
    absurd (let bad : came ≡ Breaks leg = ap (λ (p : Who × Event). p.1) same ∙ is in cc)
plain_event w change node said plain told leg is = absurd cc

module _ {K : Type 0} (m : Makers K InProxy OutProxy) (first : OurWorld K)
    (known : (v : OurWorld K) (leads : Leads rules m deeds first v) → IsKnown m first v leads)
    (law : FromEvents) (node : Who) (leg : Leg) where
  abbrev x : Closing
  x = record { who = node; cause = cause.LegBroken leg }

  plain_closes : (w : OurWorld K) (change : Change) → is_plain change ≡ true
      → IsOneOf x (changed rules m deeds w change).closed → IsOneOf x w.closed
  plain_closes w change plain h = by (change_closes rules m deeds w change x h)
    where
      by : IsOneOf x w.closed ⊎ ClosesNode rules w change node (cause.LegBroken leg)
          → IsOneOf x w.closed
      by (inl old) = old
      by (inr new) =
          absurd (plain_event w change node new.event plain new.told leg
          (telling_of law w.company node new.event (cause.LegBroken leg) new.closes))

  end_closes : (w : OurWorld K) → Leads rules m deeds first w → (other : Leg) (dir : Dir)
      → AreUpAtBoth w → is_up w other ≡ true
      → company.finished rules w.company (at w other (sender dir)) other ≡ true
      → IsOneOf x (end_leg rules w other dir).0.closed → IsOneOf x w.closed
  end_closes w leads other dir both up done =
      by_test (λ (did : OurWorld K × Bool). IsOneOf x did.0.closed → IsOneOf x w.closed)
      (is_up w other && legs.is_clear other dir w.legs)
      (lose rules v other (receiver dir) (Ends other), true) (w, false)
      (λ e h. taker (lose_closes rules m deeds v other (receiver dir) (Ends other) x h))
      (λ e h. h)
    where
      v : OurWorld K
      v = lose rules w other (sender dir) (Breaks other)

      silent : (company.tell rules w.company (at w other (sender dir)) (Breaks other)).1 ≡ None
      silent =
          finished_is_silent m first w leads (known w leads) other dir
          (up_for w other (sender dir) both up) done

      giver : IsOneOf x w.closed
          ⊎ ((company.tell rules w.company (at w other (sender dir)) (Breaks other)).1
          ≡ Some (cause.LegBroken leg)) → IsOneOf x w.closed
      giver (inl old) = old
      giver (inr new) = absurd (let bad = sym silent ∙ new in cc)

      taker : IsOneOf x v.closed
          ⊎ ((company.tell rules v.company (at v other (receiver dir)) (Ends other)).1
          ≡ Some (cause.LegBroken leg)) → IsOneOf x w.closed
      taker (inl old) =
          giver (lose_closes rules m deeds w other (sender dir) (Breaks other) x old)
      taker (inr new) =
          absurd (let bad : Ends other ≡ Breaks leg =
          telling_of law v.company (at v other (receiver dir)) (Ends other) (cause.LegBroken leg)
          new in cc)

  steps_close : (w : OurWorld K) → Leads rules m deeds first w → (steps : List Step)
      → AllMayStep rules m deeds w steps → IsOneOf x (all_stepped rules m deeds w steps).closed
      → IsOneOf x w.closed
  steps_close w leads [] may h = h
  steps_close w leads (IsPlain change ∷ steps) may h =
      plain_closes w change may.0.1
      (steps_close (changed rules m deeds w change)
      (leads_more rules m deeds first w change leads may.0.0) steps may.1 h)
  steps_close w leads (EndsLeg other dir ∷ steps) may h =
      let v = (end_leg rules w other dir).0 in
      end_closes w leads other dir may.0.0 may.0.1
      (and_parts (company.finished rules w.company (at w other (sender dir)) other)
      (legs.is_clear other dir w.legs) may.0.2).0
      (steps_close v (leads_then rules m deeds first w v leads (end_leads rules m deeds w other dir))
      steps may.1 h)

  pub no_break_by_settling : (w : OurWorld K) → Leads rules m deeds first w → AreUpAtBoth w
      → w.closed ≡ [] → (rounds : ℕ)
      → IsOneOf (NodeClosed node (cause.LegBroken leg))
      (step rules m deeds (line.Settle rounds) w).1 → ⊥
  no_break_by_settling w leads both none rounds h =
      by (one_of_both (NodeClosed node (cause.LegBroken leg)) did.1 (lines did.0.closed) h)
    where
      did : OurWorld K × List Answer
      did = settle rules m deeds rounds w

      goes : InSteps rules m deeds w did.0
      goes = (settles_in_steps rules m deeds rounds w both).1

      by : IsOneOf (NodeClosed node (cause.LegBroken leg)) did.1
          ⊎ IsOneOf (NodeClosed node (cause.LegBroken leg)) (lines did.0.closed) → ⊥
      by (inl told) =
          true≢false (sym (one_of_all is_other (NodeClosed node (cause.LegBroken leg)) did.1
          (goes_step_line rules m deeds (line.Settle rounds) w).others told))
      by (inr told) =
          subst (IsOneOf x) none
          (steps_close w leads goes.steps goes.may
          (subst (λ (v : OurWorld K). IsOneOf x v.closed) (sym goes.reached)
          (one_of_lines node (cause.LegBroken leg) did.0.closed told)))
