-- each close that a line reports shows in the line's answers
use Rattle.law_order.proofs.Vocabulary.{◌≡◌, ℕ, List, [], ◌∷◌, ◌++◌, true, Some, None, refl, sym, ap, ◌∙◌, subst, inl, inr, ⊎_elim, list_all, and_parts, false≢true, Option}
use Rattle.rh_line.specs.declared.cause.Cause.TheVariants as cause
use Rattle.rh_record.specs.declared.answer.Answer.TheVariants as answer
use Rattle.rh_company.specs.Company as company
use Rattle.rh_company.specs.Places as places
use Rattle.rh_company.specs.Telling as telling
use Rattle.law_moves.proofs.Vocabulary.{Cause, Leg, cause_leg, Course, Going, Closed, Refusing, hear, NearEnd, Rules, Shell, bytes_at, bytes_by, end_at, ClosedWith}
use Rattle.law_node_history.proofs.Vocabulary.{Answer, Who, Client, Server, In, Out, Line, Closing, Event, Comes, Ends, Breaks, Passes, Place, Absent, Here, Gone, lines, Company, Rulebook, Deeds, Makers, step, step_line, World, Change, Works, changed, all_changed, IsOneOf, IsClosedBy, told_by, in_place, out_place}
use Rattle.law_node_history.proofs.Lemmas.{is_other, told_closes, told_silent, goes_step_line as goes_lines, answered, changes_close, one_of_lines, some_none}
use Rattle.law_node_causes.specs.Closings.{ClosesWith, MayClose}
use Rattle.law_node_causes.specs.Reasons.{RefusesHead, IsOfPiece}
use Rattle.law_world_reports.proofs.Closed.Lines.{goes_step_line}
use Rattle.law_world_reports.proofs.Vocabulary.{Shows, ShowsPiece, IsShown, AreShown, ShownWorks, MayCloseThere, MayCloseAt, ShowsMove, ShowsCause, IsPieceOn, IsEventOf, IsLicensed}

-- ---- what is reported closed was noted

-- behind answers that tell of no closed node
noted_of : (node : Who) (why : Cause) (answers : List Answer) (list : List Closing)
    → list_all is_other answers ≡ true
    → IsOneOf (answer.NodeClosed node why) (answers ++ lines list)
    → IsOneOf (record { who = node; cause = why }) list
noted_of node why [] list others h = one_of_lines node why list h
noted_of node why (one ∷ answers) list others (inl here) =
    absurd (false≢true (ap is_other (sym here)
    ∙ (and_parts (is_other one) (list_all is_other answers) others).0))
noted_of node why (one ∷ answers) list others (inr behind) =
    noted_of node why answers list
    (and_parts (is_other one) (list_all is_other answers) others).1 behind

-- ---- an empty piece closes nothing

module _ {S : Type 0} (rules : Rules S) where
  -- it leaves the course as it was
  empty_at : (s : Shell S) (leg : Leg) (o : Option NearEnd)
      → (bytes_at rules s leg [] o).course ≡ s.course
  unfolding hear
  empty_at s leg None = refl
  empty_at s leg (Some end) = refl

  empty_by : (s : Shell S) (leg : Leg) (course : Course)
      → (bytes_by rules s leg [] course).course ≡ s.course
  empty_by s leg Going = empty_at s leg (end_at s leg)
  empty_by s leg (Closed first) = refl
  empty_by s leg (Refusing first client rest) = refl

  empty_closes : (s : Shell S) (leg : Leg) (why : Cause)
      → (telling.tell rules s (Comes leg [])).1 ≡ Some why → ⊥
  empty_closes s leg why e =
      let closed : ClosedWith why s.course =
      subst (λ c. ClosedWith why c) (empty_by s leg s.course)
      (told_closes rules why s (Comes leg []) e) in
      some_none why (sym e ∙ told_silent rules why s (Comes leg []) closed)

  empty_there : (p : Place S) (leg : Leg) (why : Cause)
      → (places.tell rules (Comes leg []) p).1 ≡ Some why → ⊥
  empty_there Absent leg why e = some_none why (sym e)
  empty_there (Here node legs) leg why e = empty_closes node leg why e
  empty_there (Gone now) leg why e = some_none why (sym e)

  -- ---- what may close a node, where it stands

  may_there : ((node : Shell S) (event : Event) (why : Cause) → ClosesWith rules node event why
      → MayClose rules node event why)
      → (p : Place S) (event : Event) (why : Cause) → (places.tell rules event p).1 ≡ Some why
      → MayCloseThere rules p event why
  may_there law Absent event why e = some_none why (sym e)
  may_there law (Here node legs) event why e = law node event why e
  may_there law (Gone now) event why e = some_none why (sym e)

  -- ---- the event of a cause

  event_of : (node : Shell S) (event : Event) (why : Cause) → MayClose rules node event why
      → IsEventOf event why
  event_of node (Comes leg piece) why h = by why h.cause
    where
      on : (l : Leg) → l ≡ leg → IsPieceOn (Comes leg piece) l
      on l same = (piece, ap (λ (k : Leg). Comes k piece) (sym same))

      by : (why : Cause) → IsOfPiece leg (RefusesHead rules node.role h.end piece) why
          → IsEventOf (Comes leg piece) why
      by (cause.LegBroken l) x = absurd x
      by (cause.LegEnded l partial) x = absurd x
      by (cause.Silent l since now) x = absurd x
      by (cause.BadFrame l place fault) x = on l x
      by (cause.BadPacket l place fault) x = on l x
      by (cause.Unexpected l place) x = on l x
      by (cause.CookieMismatch l expected got) x = on l x
      by (cause.WindowExceeded l reached edge) x = on l x
      by (cause.OutOfRange l command value) x = on l x
      by (cause.HttpRefused l status) x = on l x.0
      by (cause.BadHead l place fault) x = on l x
      by (cause.ControlFull l) x = (leg, (piece, refl))
      by (cause.BodyOver l count most) x = on l x
  event_of node (Ends leg) why h =
      subst (λ c. IsEventOf (Ends leg) c) (sym h.cause) refl
  event_of node (Breaks leg) why h =
      subst (λ c. IsEventOf (Breaks leg) c) (sym h) refl
  event_of node (Passes now) why h =
      subst (λ c. IsEventOf (Passes now) c) (sym h.cause) refl

  event_there : (p : Place S) (event : Event) (why : Cause) → MayCloseThere rules p event why
      → IsEventOf event why
  event_there Absent event why h = absurd h
  event_there (Here node legs) event why h = event_of node event why h
  event_there (Gone now) event why h = absurd h

-- ---- all nodes

module _ {C S I O : Type 0} (r : Rulebook C S I O) where
  empty_anywhere : (c : Company C S I O) (node : Who) (leg : Leg) (why : Cause)
      → (company.tell r c node (Comes leg [])).1 ≡ Some why → ⊥
  empty_anywhere c Client leg why e = empty_closes r.client c.client leg why e
  empty_anywhere c Server leg why e = empty_closes r.server c.server leg why e
  empty_anywhere c (In n) leg why e =
      empty_there r.in_proxy (in_place c n) leg why
      (sym (answered Absent (places.tell r.in_proxy (Comes leg [])) None refl c.ins n) ∙ e)
  empty_anywhere c (Out n) leg why e =
      empty_there r.out_proxy (out_place c n) leg why
      (sym (answered Absent (places.tell r.out_proxy (Comes leg [])) None refl c.outs n) ∙ e)

  event_at : (c : Company C S I O) (node : Who) (event : Event) (why : Cause)
      → MayCloseAt r c node event why → IsEventOf event why
  event_at c Client event why h = event_of r.client c.client event why h
  event_at c Server event why h = event_of r.server c.server event why h
  event_at c (In n) event why h = event_there r.in_proxy (in_place c n) event why h
  event_at c (Out n) event why h = event_there r.out_proxy (out_place c n) event why h

  -- what each role's rules allow
  pub record MayCloseEach : Type 0 where
    pub client : (node : Shell C) (event : Event) (why : Cause)
        → ClosesWith r.client node event why → MayClose r.client node event why
    pub server : (node : Shell S) (event : Event) (why : Cause)
        → ClosesWith r.server node event why → MayClose r.server node event why
    pub in_proxy : (node : Shell I) (event : Event) (why : Cause)
        → ClosesWith r.in_proxy node event why → MayClose r.in_proxy node event why
    pub out_proxy : (node : Shell O) (event : Event) (why : Cause)
        → ClosesWith r.out_proxy node event why → MayClose r.out_proxy node event why

  may_at : MayCloseEach → (c : Company C S I O) (node : Who) (event : Event) (why : Cause)
      → (company.tell r c node event).1 ≡ Some why → MayCloseAt r c node event why
  may_at law c Client event why e = law.client c.client event why e
  may_at law c Server event why e = law.server c.server event why e
  may_at law c (In n) event why e =
      may_there r.in_proxy law.in_proxy (in_place c n) event why
      (sym (answered Absent (places.tell r.in_proxy event) None refl c.ins n) ∙ e)
  may_at law c (Out n) event why e =
      may_there r.out_proxy law.out_proxy (out_place c n) event why
      (sym (answered Absent (places.tell r.out_proxy event) None refl c.outs n) ∙ e)

-- ---- a cause shows where its event does

module _ {K C S I O : Type 0} (answers : List Answer) (w : World K C S I O) (node : Who) where
  moved : (event : Event) (leg : Leg) (piece : List ℕ) → event ≡ Comes leg piece
      → ((piece ≡ []) → ⊥) → ShowsPiece answers w node leg piece
      → ShowsMove answers w node event leg
  moved event leg piece came filled shows = record {
    piece = piece;
    came = came;
    dir = shows.dir;
    reads = shows.reads;
    filled = filled;
    shown = ⊎_elim (λ empty. absurd (filled empty)) (λ there. there) shows.shown;
  }

  -- no empty piece does
  abbrev Filled : Event → Type 0
  Filled event = (leg : Leg) → event ≡ Comes leg [] → ⊥

  move_of : (event : Event) (leg : Leg) → Filled event → Shows answers w node event
      → IsPieceOn event leg → ShowsMove answers w node event leg
  move_of event leg filled shows is =
      moved event leg is.0 is.1 (λ empty. filled leg (is.1 ∙ ap (λ p. Comes leg p) empty))
      (subst (λ e. Shows answers w node e) is.1 shows)

  cause_shows : (event : Event) (why : Cause) → IsEventOf event why → Filled event
      → Shows answers w node event → ShowsCause answers w node event why
  cause_shows event (cause.LegBroken leg) is filled shows =
      subst (λ e. Shows answers w node e) is shows
  cause_shows event (cause.LegEnded leg partial) is filled shows =
      subst (λ e. Shows answers w node e) is shows
  cause_shows event (cause.Silent leg since now) is filled shows =
      subst (λ e. Shows answers w node e) is shows
  cause_shows event (cause.ControlFull leg) is filled shows =
      (is.0, move_of event is.0 filled shows is.1)
  cause_shows event why is filled shows = move_of event (cause_leg why) filled shows is

-- ---- a line

module _ {K C S I O : Type 0} (r : Rulebook C S I O) (m : Makers K I O) (d : Deeds C S) where
  -- each of the changes shows what it tells
  shown_at : (answers : List Answer) (w : World K C S I O) (before : List Change)
      (change : Change) (after : List Change)
      → AreShown r m d answers w (before ++ change ∷ after)
      → IsShown answers (all_changed r m d w before) (told_by (all_changed r m d w before) change)
  shown_at answers w [] change after h = h.0
  shown_at answers w (first ∷ before) change after h =
      shown_at answers (changed r m d w first) before change after h.1

  pub line_shows : (one : Line) (w : World K C S I O)
      → ShownWorks r m d (step_line r m d one w).1 w (step_line r m d one w).0
  line_shows one w = goes_step_line r m d one w (step_line r m d one w).1 (λ x h. h)

  -- a node that a line reports closed was closed by one of its changes, in whatever way they are
  -- given
  closed_by : (one : Line) (w : World K C S I O) (node : Who) (why : Cause) → w.closed ≡ []
      → IsOneOf (answer.NodeClosed node why) (step r m d one w).1
      → (works : Works r m d w (step_line r m d one w).0)
      → IsClosedBy r m d w works.leads.changes node why
  closed_by one w node why none h works =
      let x : Closing = record { who = node; cause = why } in
      let did = step_line r m d one w in
      let there = noted_of node why did.1 did.0.closed (goes_lines r m d one w).others h in
      ⊎_elim (λ old. absurd (subst (λ list. IsOneOf x list) none old)) (λ by. by)
      (changes_close r m d w works.leads.changes x
      (subst (λ (v : World K C S I O). IsOneOf x v.closed) (sym works.leads.reached) there))

  pub line_licenses : MayCloseEach r → (one : Line) (w : World K C S I O) (node : Who)
      (why : Cause) → w.closed ≡ [] → IsOneOf (answer.NodeClosed node why) (step r m d one w).1
      → IsLicensed r m d one w node why
  line_licenses law one w node why none h =
      let shown = line_shows one w in
      let closed = closed_by one w node why none h shown.works in
      let answers = (step_line r m d one w).1 in
      let v = all_changed r m d w closed.before in
      let closes = closed.closes in
      let may = may_at r law v.company node closes.event why closes.closes in
      let event = event_at r v.company node closes.event why may in
      record {
        shown = shown;
        closed = closed;
        event = event;
        may = may;
        shows =
            cause_shows answers v node closes.event why event
            (λ leg e. empty_anywhere r v.company node leg why
            (ap (λ x. (company.tell r v.company node x).1) (sym e) ∙ closes.closes))
            (subst (λ o. IsShown answers v o) closes.told
            (shown_at answers w closed.before closed.change closed.after
            (subst (λ cs. AreShown r m d answers w cs) closed.split shown.shown)));
      }
