-- to a node that has finished a leg it is nothing that the leg breaks
use Rattle.law_order.proofs.Vocabulary.{◌≡◌, List, Bool, true, false, true≢false, Some, None, refl, sym, ap, ◌∙◌, Option, if◌then◌else◌}
use Rattle.rh_line.specs.declared.cause.Cause.TheVariants as cause
use Rattle.rh_line.specs.declared.state.State.TheVariants as state
use Rattle.rh_record.specs.declared.answer.Who.TheVariants as who
use Rattle.rh_wires.specs.Legs as legs
use Rattle.rh_company.specs.Company as company
use Rattle.rh_company.specs.Places as places
use Rattle.rh_company.specs.Telling as telling
use Rattle.law_moves.proofs.Vocabulary.{Dir, Leg, Course, Going, Closed, Refusing, State, NearEnd, Rules, Acts, Shell, broken_at, broken_by, end_at, finished, finished_at, finished_by, lose, may_up, state_of, unreached, verdict_by, wants, EndEvent, Event, after_end_events, after_events}
use Rattle.law_role_inproxy.proofs.Vocabulary.{InProxy}
use Rattle.law_role_client.proofs.Vocabulary.{ClientRole}
use Rattle.law_role_server.proofs.Vocabulary.{Server}
use Rattle.law_node_history.proofs.Vocabulary.{Who, Breaks, Place, Absent, Here, Gone, closing, sender, World, at, IsRun, AreAccepted, AreAcceptedAtEnd, ComesUpOnce, ComesUpOnceAtEnd, came_up, events_of, happened, History, in_place, out_place}
use Rattle.law_node_history.proofs.Lemmas.{answered, asked, is_up_at}
use Rattle.law_role_outproxy.proofs.Vocabulary.{OutProxy}
use Rattle.law_node_traces.proofs.Vocabulary.{IsKnown, deeds, history_at, rules}
use Rattle.law_node_history.specs.Changes.{Leads}
use Rattle.rh_nodes.specs.Opening.{Makers}

-- ---- one node

-- a node that stays as it is tells no cause
same_silent : (s : State) → closing s (verdict_by s) ≡ None
same_silent state.Opening = refl
same_silent state.Open = refl
same_silent state.Ended = refl
same_silent (state.Closed why) = refl

module _ {S : Type 0} (rules : Rules S) (s : Shell S) (leg : Leg) where
  stays_at : (o : Option NearEnd) → end_at s leg ≡ o → finished_at rules s leg o ≡ true
      → wants rules s leg ≡ false → broken_at rules s leg o ≡ s
  stays_at None at done unwanted =
      ap (λ (t : Bool). if t then unreached rules s leg else s) unwanted
  stays_at (Some end) at done unwanted =
      ap (λ (t : Bool). if t then s else lose rules s leg end (cause.LegBroken leg)) done

  stays_by : (c : Course) → finished_by rules s leg c ≡ true → wants rules s leg ≡ false
      → broken_by rules s leg c ≡ s
  stays_by Going done unwanted = stays_at (end_at s leg) refl done unwanted
  stays_by (Closed why) done unwanted = refl
  stays_by (Refusing why client rest) done unwanted = refl

  pub tells_none : finished rules s leg ≡ true → wants rules s leg ≡ false
      → (telling.tell rules s (Breaks leg)).1 ≡ None
  tells_none done unwanted =
      ap (λ (x : Shell S). closing (state_of rules s) (verdict_by (state_of rules x)))
      (stays_by s.course done unwanted)
      ∙ same_silent (state_of rules s)

module _ {S : Type 0} (rules : Rules S) where
  place_tells_none : (leg : Leg) (p : Place S) → places.finished rules leg p ≡ true
      → places.wants rules leg p ≡ false → (places.tell rules (Breaks leg) p).1 ≡ None
  place_tells_none leg Absent done unwanted = refl
  place_tells_none leg (Here node count) done unwanted =
      tells_none rules node leg done unwanted
  place_tells_none leg (Gone now) done unwanted = refl

-- ---- a leg that came up is not wanted

unwanted_by : (wanted may : Bool) → (wanted ≡ true → may ≡ true) → may ≡ false
    → wanted ≡ false
unwanted_by true may so none = absurd (true≢false (sym (so refl) ∙ none))
unwanted_by false may so none = refl

module _ {S : Type 0} (rules : Rules S) where
  node_unwanted : (first : Shell S) → ComesUpOnce rules first → (events : List Event) (leg : Leg)
      → AreAccepted rules first events → came_up leg events ≡ true
      → wants rules (after_events rules first events) leg ≡ false
  node_unwanted first once events leg accepted up =
      unwanted_by (wants rules (after_events rules first events) leg)
      (may_up rules (after_events rules first events) leg)
      (once.wanted events leg accepted) (once.once events leg accepted up)

  end_unwanted : (acts : Acts S) (first : Shell S) → ComesUpOnceAtEnd rules acts first
      → (events : List EndEvent) (leg : Leg) → AreAcceptedAtEnd rules acts first events
      → came_up leg (happened events) ≡ true
      → wants rules (after_end_events rules acts first events) leg ≡ false
  end_unwanted acts first once events leg accepted up =
      unwanted_by (wants rules (after_end_events rules acts first events) leg)
      (may_up rules (after_end_events rules acts first events) leg)
      (once.wanted events leg accepted) (once.once events leg accepted up)

  place_unwanted : (made : Shell S) → ComesUpOnce rules made → (events : List Event) (leg : Leg)
      → AreAccepted rules made events → came_up leg events ≡ true → (p : Place S)
      → IsRun rules made events p → places.wants rules leg p ≡ false
  place_unwanted made once events leg accepted up Absent run = refl
  place_unwanted made once events leg accepted up (Here node count) run =
      ap (λ (x : Shell S). wants rules x leg) run
      ∙ node_unwanted made once events leg accepted up
  place_unwanted made once events leg accepted up (Gone now) run = refl

-- ---- in a world of roles

module _ {K : Type 0} (m : Makers K InProxy OutProxy)
    (w v : World K ClientRole Server InProxy OutProxy) (leads : Leads rules m deeds w v)
    (known : IsKnown m w v leads) where
  abbrev h : History
  h = history_at m w v leads

  unwanted : (node : Who) (leg : Leg) → came_up leg (events_of h node) ≡ true
      → company.wants rules v.company node leg ≡ false
  unwanted who.Client leg up =
      ap (λ (x : Shell ClientRole). wants rules.client x leg) known.traced.runs.client
      ∙ end_unwanted rules.client deeds.client w.company.client known.once.client h.client leg
      known.traced.accepted.client up
  unwanted who.Server leg up =
      ap (λ (x : Shell Server). wants rules.server x leg) known.traced.runs.server
      ∙ end_unwanted rules.server deeds.server w.company.server known.once.server h.server leg
      known.traced.accepted.server up
  unwanted (who.In n) leg up =
      asked Absent (places.wants rules.in_proxy leg) v.company.ins n
      ∙ place_unwanted rules.in_proxy (m.in_proxy v.cast n) (known.once.ins n) (h.ins n) leg
      (known.traced.accepted.ins n) up (in_place v.company n) (known.traced.runs.ins n)
  unwanted (who.Out n) leg up =
      asked Absent (places.wants rules.out_proxy leg) v.company.outs n
      ∙ place_unwanted rules.out_proxy (m.out_proxy v.cast n) (known.once.outs n) (h.outs n) leg
      (known.traced.accepted.outs n) up (out_place v.company n) (known.traced.runs.outs n)

  break_tells_none : (node : Who) (leg : Leg)
      → company.finished rules v.company node leg ≡ true
      → company.wants rules v.company node leg ≡ false
      → (company.tell rules v.company node (Breaks leg)).1 ≡ None
  break_tells_none who.Client leg done none = tells_none rules.client v.company.client leg done none
  break_tells_none who.Server leg done none =
      tells_none rules.server v.company.server leg done none
  break_tells_none (who.In n) leg done none =
      answered Absent (places.tell rules.in_proxy (Breaks leg)) None refl v.company.ins n
      ∙ place_tells_none rules.in_proxy leg (in_place v.company n)
      (sym (asked Absent (places.finished rules.in_proxy leg) v.company.ins n) ∙ done)
      (sym (asked Absent (places.wants rules.in_proxy leg) v.company.ins n) ∙ none)
  break_tells_none (who.Out n) leg done none =
      answered Absent (places.tell rules.out_proxy (Breaks leg)) None refl v.company.outs n
      ∙ place_tells_none rules.out_proxy leg (out_place v.company n)
      (sym (asked Absent (places.finished rules.out_proxy leg) v.company.outs n) ∙ done)
      (sym (asked Absent (places.wants rules.out_proxy leg) v.company.outs n) ∙ none)

  -- where it is up for a node it came up there
  rose : (leg : Leg) (dir : Dir) → legs.is_up leg (sender dir) v.legs ≡ true
      → came_up leg (events_of h (at v leg (sender dir))) ≡ true
  rose leg dir up =
      (known.traced.carried.each leg dir).put_up (sym (is_up_at v.legs leg (sender dir)) ∙ up)

  -- the end that puts there is told nothing that closes it
  pub finished_is_silent : (leg : Leg) (dir : Dir)
      → legs.is_up leg (sender dir) v.legs ≡ true
      → company.finished rules v.company (at v leg (sender dir)) leg ≡ true
      → (company.tell rules v.company (at v leg (sender dir)) (Breaks leg)).1 ≡ None
  finished_is_silent leg dir up done =
      break_tells_none (at v leg (sender dir)) leg done
      (unwanted (at v leg (sender dir)) leg (rose leg dir up))
