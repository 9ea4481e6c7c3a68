-- nodes that closed stay closed, with their first cause
use Rattle.rh_text.specs.declared.ends.Side.TheVariants as side
use Rattle.law_order.proofs.Vocabulary.{◌≡◌, ℕ, List, [], ◌∷◌, Bool, true, false, ◌||◌, cond, if◌then◌else◌, get_or, take, drop, Some, None, Err, refl, sym, ap, ◌∙◌, subst, ◌⊎◌, inl, inr, nat_lt, Result, cases_eq}
use Rattle.rh_line.specs.declared.recycle_fault.RecycleFault.{RecycleFault}
use Rattle.rh_line.specs.declared.give_fault.GiveFault.TheVariants as give_fault
use Rattle.rh_line.specs.declared.recycle_fault.RecycleFault.TheVariants as recycle_fault
use Rattle.rh_line.specs.declared.state.State.TheVariants as state
use Rattle.rh_line.specs.declared.state.Take.TheVariants as taken
use Rattle.rh_record.specs.declared.answer.Answer.TheVariants as answer
use Rattle.rh_shell.specs.declared.answers.Phase.TheVariants as phase
use Rattle.rh_shell.specs.Ends as ends
use Rattle.rh_shell.specs.Shells as shell
use Rattle.rh_wires.specs.Legs as legs
use Rattle.rh_company.specs.Company as company
use Rattle.rh_company.specs.Places as places
use Rattle.rh_company.specs.Telling as telling
use Rattle.law_moves.proofs.Vocabulary.{Side, Cookie, Cause, GiveFault, ClientIn, ClientOut, State, Verdict, Leg, Phase, Course, Going, Closed, Refusing, Rules, Acts, Shell, same_leg, state_by, verdict_by, state_of, ClosedWith, after_event, after_events}
use Rattle.law_moves.specs.Moving as moving
use Rattle.law_node_history.proofs.Vocabulary.{Who, Client, Server, In, Out, change, put_at, sender, receiver, Event, Comes, Ends, Breaks, Passes, Place, Absent, Here, Gone, Company, Rulebook, is_absent, is_working, one_fewer, closing, happens, Deeds, give_answer, take_answer, Makers, reader_before, leg_at, last_with, World, at, Change, IsTold, IsFed, IsDrawn, GoesUp, RaisesAlone, GoesDown, OpensIn, OpensOut, OpensSame, Gives, Takes, Closes, RecyclesIn, RecyclesOut, MovesTo}
use Rattle.law_node_history.proofs.Vocabulary.{Draws, Reports, MayChange, changed, Leads, ClosedPlace, HasClosed, ClientTells, ServerTells, heard, to_node, in_place, out_place}
use Rattle.law_node_history.proofs.Leading.{leads_keep}
use Rattle.law_node_history.proofs.Noting.{absent_is}
use Rattle.law_node_history.proofs.Numbers.{asked, acted, answered, put_elsewhere, changed_here, changes_elsewhere}
use Rattle.law_node_history.proofs.Runs.{Runs, Meets, tell_meets, draw_meets, up_meets}

-- ---- one node

abbrev with_course : {S : Type 0} → Shell S → Course → Shell S
with_course s course = record s { course = course }

module _ {S : Type 0} (rules : Rules S) (why : Cause) where
  -- whatever happens to it, its cause stays
  stays_by : (s : Shell S) (course : Course) → ClosedWith why course → (event : moving.Event)
      → ClosedWith why (after_event rules (with_course s course) event).course
  stays_by s Going h event = absurd h
  stays_by s (Closed first) h (moving.ComesUp leg cookie) = h
  stays_by s (Closed first) h (moving.Hears leg piece) = h
  stays_by s (Closed first) h (moving.Ends leg) = h
  stays_by s (Closed first) h (moving.Breaks leg) = h
  stays_by s (Closed first) h (moving.Draws leg room) = h
  stays_by s (Closed first) h (moving.Ticks now) = h
  stays_by s (Refusing first client rest) h (moving.ComesUp leg cookie) = h
  stays_by s (Refusing first client rest) h (moving.Hears leg piece) = h
  stays_by s (Refusing first client rest) h (moving.Ends leg) = h
  stays_by s (Refusing first client rest) h (moving.Breaks leg) = h
  stays_by s (Refusing first client rest) h (moving.Draws leg room) = by (same_leg client leg)
    where
      by : (t : Bool) → ClosedWith why (cond {A = Shell S × List ℕ} t
          (with_course s (Refusing first client (drop room rest)), take room rest)
          (with_course s (Refusing first client rest), [])).0.course
      by true = h
      by false = h
  stays_by s (Refusing first client rest) h (moving.Ticks now) = h

  pub stays_closed : (s : Shell S) → ClosedWith why s.course → (events : List moving.Event)
      → ClosedWith why (after_events rules s events).course
  stays_closed s h [] = h
  stays_closed s h (event ∷ events) =
      stays_closed (after_event rules s event) (stays_by s s.course h event) events

  -- what closed it
  cause_by : (before : State) (course : Course) (p : Phase)
      → closing before (verdict_by (state_by course p)) ≡ Some why → ClosedWith why course
  cause_by (state.Closed first) course p e = absurd cc
  cause_by state.Opening Going phase.Opening e = absurd cc
  cause_by state.Opening Going phase.Open e = absurd cc
  cause_by state.Opening Going phase.Ended e = absurd cc
  cause_by state.Opening (Closed first) p e = cc
  cause_by state.Opening (Refusing first leg rest) p e = cc
  cause_by state.Open Going phase.Opening e = absurd cc
  cause_by state.Open Going phase.Open e = absurd cc
  cause_by state.Open Going phase.Ended e = absurd cc
  cause_by state.Open (Closed first) p e = cc
  cause_by state.Open (Refusing first leg rest) p e = cc
  cause_by state.Ended Going phase.Opening e = absurd cc
  cause_by state.Ended Going phase.Open e = absurd cc
  cause_by state.Ended Going phase.Ended e = absurd cc
  cause_by state.Ended (Closed first) p e = cc
  cause_by state.Ended (Refusing first leg rest) p e = cc

  pub told_closes : (s : Shell S) (event : Event)
      → (telling.tell rules s event).1 ≡ Some why
      → ClosedWith why (telling.tell rules s event).0.course
  told_closes s (Comes leg piece) e =
      let t = (shell.bytes rules s leg piece).0 in
      cause_by (state_of rules s) t.course (rules.phase t.role) e
  told_closes s (Ends leg) e =
      let t = (shell.ended rules s leg).0 in
      cause_by (state_of rules s) t.course (rules.phase t.role) e
  told_closes s (Breaks leg) e =
      let t = (shell.broken rules s leg).0 in
      cause_by (state_of rules s) t.course (rules.phase t.role) e
  told_closes s (Passes now) e =
      let t = (shell.tick rules s now).0 in
      cause_by (state_of rules s) t.course (rules.phase t.role) e

  -- it closes no second time
  silent_by : (course : Course) (p : Phase) (now : Verdict) → ClosedWith why course
      → closing (state_by course p) now ≡ None
  silent_by Going p now h = absurd h
  silent_by (Closed first) p now h = refl
  silent_by (Refusing first leg rest) p now h = refl

  pub told_silent : (s : Shell S) (event : Event) → ClosedWith why s.course
      → (telling.tell rules s event).1 ≡ None
  told_silent s event h =
      silent_by s.course (rules.phase s.role) (happens rules s event).1 h

  -- ---- the place of a proxy

  place_stays : (p q : Place S) (es : List moving.Event) → Runs rules p q es
      → ClosedPlace why p → ClosedPlace why q
  place_stays Absent q es e h = absurd h
  place_stays (Here node legs) q es e h =
      subst (λ (x : Place S). ClosedPlace why x) (sym e.1) (stays_closed node h es)
  place_stays (Gone now) q es e h = subst (λ (x : Place S). ClosedPlace why x) (sym e) tt

  leave_stays : (p : Place S) → ClosedPlace why p → ClosedPlace why (places.leave rules p)
  leave_stays Absent h = absurd h
  leave_stays (Here node legs) h = by (nat_lt 1 legs || is_working rules node)
    where
      by : (t : Bool) → ClosedPlace why (if t then Here node (one_fewer legs) else Gone node.now)
      by true = h
      by false = tt
  leave_stays (Gone now) h = tt

  leave_stays_at : (list : List (Place S)) (k n : ℕ) → ClosedPlace why (get_or list n Absent)
      → ClosedPlace why (get_or (change (places.leave rules) list k) n Absent)
  leave_stays_at list k n h = by (cases_eq n k)
    where
      by : (n ≡ k) ⊎ (n ≡ k → ⊥)
          → ClosedPlace why (get_or (change (places.leave rules) list k) n Absent)
      by (inl same) =
          subst (λ (q : Place S). ClosedPlace why q)
          (sym (ap (λ j. get_or (change (places.leave rules) list k) j Absent) same
          ∙ changed_here Absent (places.leave rules) refl list k
          ∙ ap (λ j. places.leave rules (get_or list j Absent)) (sym same)))
          (leave_stays (get_or list n Absent) h)
      by (inr other) =
          subst (λ (q : Place S). ClosedPlace why q)
          (sym (changes_elsewhere Absent (places.leave rules) list k n other)) h

  -- none is made where one closed
  make_stays : (list : List (Place S)) (k n : ℕ) (p : Place S) → get_or list k Absent ≡ Absent
      → ClosedPlace why (get_or list n Absent)
      → ClosedPlace why (get_or (put_at Absent list k p) n Absent)
  make_stays list k n p absent h = by (cases_eq n k)
    where
      by : (n ≡ k) ⊎ (n ≡ k → ⊥) → ClosedPlace why (get_or (put_at Absent list k p) n Absent)
      by (inl same) =
          absurd (subst (λ (q : Place S). ClosedPlace why q)
          (ap (λ j. get_or list j Absent) same ∙ absent) h)
      by (inr other) =
          subst (λ (q : Place S). ClosedPlace why q)
          (sym (put_elsewhere Absent list k n p other)) h

  place_closes : (event : Event) (p : Place S) → (places.tell rules event p).1 ≡ Some why
      → ClosedPlace why (places.tell rules event p).0
  place_closes event Absent e = absurd cc
  place_closes event (Here node legs) e = told_closes node event e
  place_closes event (Gone now) e = absurd cc

  place_silent : (event : Event) (p : Place S) → ClosedPlace why p
      → (places.tell rules event p).1 ≡ None
  place_silent event Absent h = absurd h
  place_silent event (Here node legs) h = told_silent node event h
  place_silent event (Gone now) h = refl

-- ---- all nodes

module _ {C S I O : Type 0} (r : Rulebook C S I O) (why : Cause) where
  meets_stay : (b c : Company C S I O) (node : Who) (event : moving.Event)
      → Meets r b c node event → (other : Who) → HasClosed b other why → HasClosed c other why
  meets_stay b c node event m Client h =
      subst (λ (s : Shell C). ClosedWith why s.course) (sym m.client)
      (stays_closed r.client why b.client h (to_node node Client event))
  meets_stay b c node event m Server h =
      subst (λ (s : Shell S). ClosedWith why s.course) (sym m.server)
      (stays_closed r.server why b.server h (to_node node Server event))
  meets_stay b c node event m (In n) h =
      place_stays r.in_proxy why (in_place b n) (in_place c n) (to_node node (In n) event)
      (m.ins n) h
  meets_stay b c node event m (Out n) h =
      place_stays r.out_proxy why (out_place b n) (out_place c n) (to_node node (Out n) event)
      (m.outs n) h

  leaving_stays : (c : Company C S I O) (node other : Who) → HasClosed c other why
      → HasClosed (company.leave r c node) other why
  leaving_stays c Client other h = h
  leaving_stays c Server other h = h
  leaving_stays c (In k) Client h = h
  leaving_stays c (In k) Server h = h
  leaving_stays c (In k) (In n) h = leave_stays_at r.in_proxy why c.ins k n h
  leaving_stays c (In k) (Out n) h = h
  leaving_stays c (Out k) Client h = h
  leaving_stays c (Out k) Server h = h
  leaving_stays c (Out k) (In n) h = h
  leaving_stays c (Out k) (Out n) h = leave_stays_at r.out_proxy why c.outs k n h

  pub tell_closes : (c : Company C S I O) (node : Who) (event : Event)
      → (company.tell r c node event).1 ≡ Some why
      → HasClosed (company.tell r c node event).0 node why
  tell_closes c Client event e = told_closes r.client why c.client event e
  tell_closes c Server event e = told_closes r.server why c.server event e
  tell_closes c (In n) event e =
      let does = places.tell r.in_proxy event in
      subst (λ (p : Place I). ClosedPlace why p) (sym (acted Absent does None refl c.ins n))
      (place_closes r.in_proxy why event (in_place c n)
      (sym (answered Absent does None refl c.ins n) ∙ e))
  tell_closes c (Out n) event e =
      let does = places.tell r.out_proxy event in
      subst (λ (p : Place O). ClosedPlace why p) (sym (acted Absent does None refl c.outs n))
      (place_closes r.out_proxy why event (out_place c n)
      (sym (answered Absent does None refl c.outs n) ∙ e))

  pub tell_silent : (c : Company C S I O) (node : Who) (event : Event) → HasClosed c node why
      → (company.tell r c node event).1 ≡ None
  tell_silent c Client event h = told_silent r.client why c.client event h
  tell_silent c Server event h = told_silent r.server why c.server event h
  tell_silent c (In n) event h =
      answered Absent (places.tell r.in_proxy event) None refl c.ins n
      ∙ place_silent r.in_proxy why event (in_place c n) h
  tell_silent c (Out n) event h =
      answered Absent (places.tell r.out_proxy event) None refl c.outs n
      ∙ place_silent r.out_proxy why event (out_place c n) h

state_names : (why : Cause) (course : Course) (p : Phase) → ClosedWith why course
    → state_by course p ≡ state.Closed why
state_names why Going p h = absurd h
state_names why (Closed first) p h = ap state.Closed h
state_names why (Refusing first leg rest) p h = ap state.Closed h

-- ---- the acts of an end

module _ {S : Type 0} (rules : Rules S) (acts : Acts S) (why : Cause) where
  give_by : (s : Shell S) (course : Course) (pdu : List ℕ) → ClosedWith why course
      → ends.give acts (with_course s course) pdu
      ≡ (with_course s course, Err (give_fault.Closed why))
  give_by s Going pdu h = absurd h
  give_by s (Closed first) pdu h =
      ap (λ c. (with_course s (Closed first), Err (give_fault.Closed c))) h
  give_by s (Refusing first leg rest) pdu h =
      ap (λ c. (with_course s (Refusing first leg rest), Err (give_fault.Closed c))) h

  take_by : (s : Shell S) (course : Course) → ClosedWith why course
      → ends.after_take acts (with_course s course) ≡ with_course s course
  take_by s Going h = absurd h
  take_by s (Closed first) h = refl
  take_by s (Refusing first leg rest) h = refl

  answer_by : (s : Shell S) (course : Course) → ClosedWith why course
      → ends.take_answer acts (with_course s course) ≡ taken.Closed why
  answer_by s Going h = absurd h
  answer_by s (Closed first) h = ap taken.Closed h
  answer_by s (Refusing first leg rest) h = ap taken.Closed h

  close_by : (s : Shell S) (course : Course) → ClosedWith why course
      → ends.close acts (with_course s course) ≡ with_course s course
  close_by s Going h = absurd h
  close_by s (Closed first) h = refl
  close_by s (Refusing first leg rest) h = refl

  recycle_by : (s : Shell S) (course : Course) → ClosedWith why course
      → ends.recycle acts rules (with_course s course)
      ≡ (with_course s course, Err recycle_fault.NotOpen)
  recycle_by s Going h = absurd h
  recycle_by s (Closed first) h = refl
  recycle_by s (Refusing first leg rest) h = refl

  -- nothing that its end does changes it
  kept : (s t : Shell S) → t ≡ s → ClosedWith why s.course → ClosedWith why t.course
  kept s t e h = subst (λ (x : Shell S). ClosedWith why x.course) (sym e) h

  pub give_keeps : (s : Shell S) (pdu : List ℕ) → ClosedWith why s.course
      → ClosedWith why (ends.give acts s pdu).0.course
  give_keeps s pdu h =
      kept s (ends.give acts s pdu).0 (ap (λ did. did.0) (give_by s s.course pdu h)) h

  pub take_keeps : (s : Shell S) → ClosedWith why s.course
      → ClosedWith why (ends.after_take acts s).course
  take_keeps s h = kept s (ends.after_take acts s) (take_by s s.course h) h

  pub close_keeps : (s : Shell S) → ClosedWith why s.course
      → ClosedWith why (ends.close acts s).course
  close_keeps s h = kept s (ends.close acts s) (close_by s s.course h) h

  pub recycle_keeps : (s : Shell S) → ClosedWith why s.course
      → ClosedWith why (ends.recycle acts rules s).0.course
  recycle_keeps s h =
      kept s (ends.recycle acts rules s).0 (ap (λ did. did.0) (recycle_by s s.course h)) h

module _ {K C S I O : Type 0} (r : Rulebook C S I O) (m : Makers K I O) (d : Deeds C S) where
  -- ---- whatever changes

  gives_stay : (why : Cause) (w : World K C S I O) (end : Side) (pdu : List ℕ) (node : Who)
      → HasClosed w.company node why
      → HasClosed (changed r m d w (Gives end pdu)).company node why
  gives_stay why w side.Client pdu Client h =
      give_keeps r.client d.client why w.company.client pdu h
  gives_stay why w side.Client pdu Server h = h
  gives_stay why w side.Client pdu (In n) h = h
  gives_stay why w side.Client pdu (Out n) h = h
  gives_stay why w side.Server pdu Client h = h
  gives_stay why w side.Server pdu Server h =
      give_keeps r.server d.server why w.company.server pdu h
  gives_stay why w side.Server pdu (In n) h = h
  gives_stay why w side.Server pdu (Out n) h = h

  takes_stay : (why : Cause) (w : World K C S I O) (end : Side) (node : Who)
      → HasClosed w.company node why
      → HasClosed (changed r m d w (Takes end)).company node why
  takes_stay why w side.Client Client h =
      take_keeps r.client d.client why w.company.client h
  takes_stay why w side.Client Server h = h
  takes_stay why w side.Client (In n) h = h
  takes_stay why w side.Client (Out n) h = h
  takes_stay why w side.Server Client h = h
  takes_stay why w side.Server Server h =
      take_keeps r.server d.server why w.company.server h
  takes_stay why w side.Server (In n) h = h
  takes_stay why w side.Server (Out n) h = h

  closes_stay : (why : Cause) (w : World K C S I O) (end : Side) (node : Who)
      → HasClosed w.company node why
      → HasClosed (changed r m d w (Closes end)).company node why
  closes_stay why w side.Client Client h =
      close_keeps r.client d.client why w.company.client h
  closes_stay why w side.Client Server h = h
  closes_stay why w side.Client (In n) h = h
  closes_stay why w side.Client (Out n) h = h
  closes_stay why w side.Server Client h = h
  closes_stay why w side.Server Server h =
      close_keeps r.server d.server why w.company.server h
  closes_stay why w side.Server (In n) h = h
  closes_stay why w side.Server (Out n) h = h

  recycle_in_stays : (why : Cause) (w : World K C S I O) (node : Who)
      → HasClosed w.company node why
      → HasClosed (changed r m d w RecyclesIn).company node why
  recycle_in_stays why w Client h = recycle_keeps r.client d.client why w.company.client h
  recycle_in_stays why w Server h = h
  recycle_in_stays why w (In n) h = h
  recycle_in_stays why w (Out n) h = h

  recycle_out_stays : (why : Cause) (w : World K C S I O) (node : Who)
      → HasClosed w.company node why
      → HasClosed (changed r m d w RecyclesOut).company node why
  recycle_out_stays why w Client h = h
  recycle_out_stays why w Server h = recycle_keeps r.server d.server why w.company.server h
  recycle_out_stays why w (In n) h = h
  recycle_out_stays why w (Out n) h = h

  open_in_stays : (why : Cause) (w : World K C S I O) (k : ℕ) (cookie : Cookie)
      → in_place w.company k ≡ Absent → (node : Who) → HasClosed w.company node why
      → HasClosed (changed r m d w (OpensIn k cookie)).company node why
  open_in_stays why w k cookie absent Client h =
      stays_closed r.client why w.company.client h
      (moving.ComesUp (leg_at ClientIn k) cookie ∷ [])
  open_in_stays why w k cookie absent Server h = h
  open_in_stays why w k cookie absent (In n) h =
      make_stays r.in_proxy why w.company.ins k n
      (Here (shell.tick r.in_proxy (m.in_proxy w.cast k) w.now).0 0) absent h
  open_in_stays why w k cookie absent (Out n) h = h

  open_out_stays : (why : Cause) (w : World K C S I O) (k : ℕ) (cookie : Cookie)
      → out_place w.company k ≡ Absent → (node : Who) → HasClosed w.company node why
      → HasClosed (changed r m d w (OpensOut k cookie)).company node why
  open_out_stays why w k cookie absent Client h =
      stays_closed r.client why w.company.client h
      (moving.ComesUp (leg_at ClientOut k) cookie ∷ [])
  open_out_stays why w k cookie absent Server h = h
  open_out_stays why w k cookie absent (In n) h = h
  open_out_stays why w k cookie absent (Out n) h =
      make_stays r.out_proxy why w.company.outs k n
      (Here (shell.tick r.out_proxy (m.out_proxy w.cast k) w.now).0 0) absent h

  open_same_stays : (why : Cause) (w : World K C S I O) (k : ℕ) (cookie : Cookie) (node : Who)
      → HasClosed w.company node why
      → HasClosed (changed r m d w (OpensSame k cookie)).company node why
  open_same_stays why w k cookie Client h =
      stays_closed r.client why w.company.client h
      (moving.ComesUp (leg_at ClientIn k) cookie ∷ [])
  open_same_stays why w k cookie Server h = h
  open_same_stays why w k cookie (In n) h =
      let leg = leg_at ClientIn k in
      let c = company.up r w.company Client leg cookie in
      let node = In (reader_before w k) in
      meets_stay r why c (company.up r c node leg cookie) node (moving.ComesUp leg cookie)
      (up_meets r c node leg cookie) (In n) h
  open_same_stays why w k cookie (Out n) h = h

  up_stays : (why : Cause) (w : World K C S I O) (other : Who) (leg : Leg) (cookie : Cookie)
      (node : Who) → HasClosed w.company node why
      → HasClosed (company.up r w.company other leg cookie) node why
  up_stays why w other leg cookie node h =
      meets_stay r why w.company (company.up r w.company other leg cookie) other
      (moving.ComesUp leg cookie) (up_meets r w.company other leg cookie) node h

  pub closed_stays : (why : Cause) (node : Who) (w : World K C S I O) (change : Change)
      → HasClosed w.company node why → MayChange r w change
      → HasClosed (changed r m d w change).company node why
  closed_stays why node w (IsTold other event) h may =
      meets_stay r why w.company (company.tell r w.company other event).0 other (heard event)
      (tell_meets r w.company other event) node h
  closed_stays why node w (IsFed leg dir count) h may =
      let other = at w leg (receiver dir) in
      let event = Comes leg (legs.take_out leg dir count w.legs).1 in
      meets_stay r why w.company (company.tell r w.company other event).0 other (heard event)
      (tell_meets r w.company other event) node h
  closed_stays why node w (IsDrawn leg dir count) h may =
      let other = at w leg (sender dir) in
      meets_stay r why w.company (company.draw r w.company other leg count).0 other
      (moving.Draws leg count) (draw_meets r w.company other leg count) node h
  closed_stays why node w (GoesUp other leg end cookie) h may =
      up_stays why w other leg cookie node h
  closed_stays why node w (RaisesAlone other leg end cookie) h may =
      up_stays why w other leg cookie node h
  closed_stays why node w (GoesDown other leg end) h may =
      leaving_stays r why w.company other node h
  closed_stays why node w (OpensIn k cookie) h may =
      open_in_stays why w k cookie
      (absent_is (in_place w.company k) (sym (asked Absent is_absent w.company.ins k) ∙ may.1))
      node h
  closed_stays why node w (OpensOut k cookie) h may =
      open_out_stays why w k cookie
      (absent_is (out_place w.company k) (sym (asked Absent is_absent w.company.outs k) ∙ may.1))
      node h
  closed_stays why node w (OpensSame k cookie) h may = open_same_stays why w k cookie node h
  closed_stays why node w (Gives end pdu) h may = gives_stay why w end pdu node h
  closed_stays why node w (Takes end) h may = takes_stay why w end node h
  closed_stays why node w (Closes end) h may = closes_stay why w end node h
  closed_stays why node w RecyclesIn h may = recycle_in_stays why w node h
  closed_stays why node w RecyclesOut h may = recycle_out_stays why w node h
  closed_stays why node w (MovesTo now) h may = h
  closed_stays why node w (Draws cookies) h may = h
  closed_stays why node w Reports h may = h

  pub closed_for_ever : (why : Cause) (node : Who) (w v : World K C S I O) → Leads r m d w v
      → HasClosed w.company node why → HasClosed v.company node why
  closed_for_ever why node =
      leads_keep r m d (λ (w : World K C S I O). HasClosed w.company node why)
      (closed_stays why node)

module _ {K C S I O : Type 0} (r : Rulebook C S I O) (d : Deeds C S) where
  -- ---- what a closed end tells

  pub client_tells : (w : World K C S I O) (why : Cause) → HasClosed w.company Client why
      → ClientTells r d w why
  client_tells w why h =
      let s = w.company.client in
      let is = state_names why s.course (r.client.phase s.role) h in
      record {
        is = is;
        give = λ pdu. ap (λ (did : Shell C × Result (Unit {0}) GiveFault).
            answer.Give side.Client (give_answer pdu did.1))
            (give_by r.client d.client why s s.course pdu h);
        take = ap (λ t. take_answer t (d.client.line s.role).current.pdus)
            (answer_by r.client d.client why s s.course h);
        recycle = ap (λ (did : Shell C × Result (Unit {0}) RecycleFault). answer.RecycleIn did.1)
            (recycle_by r.client d.client why s s.course h);
        last = ap (λ st. last_with side.Client st (d.client.channels s.role)) is;
      }

  pub server_tells : (w : World K C S I O) (why : Cause) → HasClosed w.company Server why
      → ServerTells r d w why
  server_tells w why h =
      let s = w.company.server in
      let is = state_names why s.course (r.server.phase s.role) h in
      record {
        is = is;
        give = λ pdu. ap (λ (did : Shell S × Result (Unit {0}) GiveFault).
            answer.Give side.Server (give_answer pdu did.1))
            (give_by r.server d.server why s s.course pdu h);
        take = ap (λ t. take_answer t (d.server.line s.role).current.pdus)
            (answer_by r.server d.server why s s.course h);
        recycle = ap (λ (did : Shell S × Result (Unit {0}) RecycleFault). answer.RecycleOut did.1)
            (recycle_by r.server d.server why s s.course h);
        last = ap (λ st. last_with side.Server st (d.server.channels s.role)) is;
      }

-- ---- a closed proxy

pub place_tells : {S : Type 0} (rules : Rules S) (why : Cause) (p : Place S) (node : Shell S)
    (legs : ℕ) → ClosedPlace why p → p ≡ Here node legs → state_of rules node ≡ state.Closed why
place_tells {S} rules why p node legs h e =
    state_names why node.course (rules.phase node.role)
    (subst (λ (q : Place S). ClosedPlace why q) e h)
