-- a node that stands closed stood so before, or was told what closed it
use Rattle.rh_text.specs.declared.ends.Side.TheVariants as side
use Rattle.law_order.proofs.Vocabulary.{◌≡◌, ℕ, List, [], ◌∷◌, Bool, true, false, ◌||◌, cond, if◌then◌else◌, get_or, take, drop, Some, None, refl, sym, ap, ◌∙◌, subst, ◌⊎◌, inl, inr, ⊎_elim, nat_lt, Option, cases_eq}
use Rattle.rh_shell.specs.declared.answers.Phase.TheVariants as phase
use Rattle.rh_shell.specs.Ends as ends
use Rattle.rh_shell.specs.Shells as shell
use Rattle.rh_wires.specs.Legs as legs
use Rattle.rh_company.specs.Company as company
use Rattle.rh_company.specs.Places as places
use Rattle.rh_company.specs.Telling as telling
use Rattle.law_moves.proofs.Vocabulary.{Side, Cookie, Cause, Leg, ClientIn, ClientOut, Phase, Course, Going, Closed, Refusing, NearEnd, is_marked, draw, Rules, Acts, Shell, drawn_at, end_at, may_up, put_back, same_leg, state_by, verdict_by, with_leg, ClosedWith}
use Rattle.law_node_history.proofs.Vocabulary.{Who, Client, Server, In, Out, act, change, put_at, receiver, sender, Event, Comes, Ends, Breaks, Passes, Place, Absent, Here, Gone, Company, Rulebook, is_working, one_fewer, closing, Deeds, Makers, at_moment, reader_before, leg_at, World, at, Change, IsTold, IsFed, IsDrawn, GoesUp, RaisesAlone, GoesDown, OpensIn, OpensOut, OpensSame, Gives, Takes, Closes, RecyclesIn, RecyclesOut, MovesTo, Draws, Reports, Leads, all_changed}
use Rattle.law_node_history.proofs.Vocabulary.{changed, ClosesNode, IsClosedBy, ClosedHere, MakesGoing, StandsClosed}
use Rattle.law_node_history.proofs.Numbers.{acted, acts_elsewhere, answered, changed_here, changes_elsewhere, put_elsewhere, put_here}

-- ---- one node

abbrev with_course : {S : Type 0} → Shell S → Course → Shell S
with_course s course = record s { course = course }

module _ {S : Type 0} (rules : Rules S) (why : Cause) where
  -- a node that went on tells the cause with which it closes
  cause_told : (before p : Phase) (course : Course) → ClosedWith why course
      → closing (state_by Going before) (verdict_by (state_by course p)) ≡ Some why
  cause_told before p Going h = absurd h
  cause_told phase.Opening p (Closed first) h = ap Some h
  cause_told phase.Opening p (Refusing first leg rest) h = ap Some h
  cause_told phase.Open p (Closed first) h = ap Some h
  cause_told phase.Open p (Refusing first leg rest) h = ap Some h
  cause_told phase.Ended p (Closed first) h = ap Some h
  cause_told phase.Ended p (Refusing first leg rest) h = ap Some h

  told_by_course : (s : Shell S) (course : Course) (event : Event)
      → ClosedWith why (telling.tell rules (with_course s course) event).0.course
      → ClosedWith why course
      ⊎ ((telling.tell rules (with_course s course) event).1 ≡ Some why)
  told_by_course s Going (Comes leg piece) h =
      let t = (shell.bytes rules (with_course s Going) leg piece).0 in
      inr (cause_told (rules.phase s.role) (rules.phase t.role) t.course h)
  told_by_course s Going (Ends leg) h =
      let t = (shell.ended rules (with_course s Going) leg).0 in
      inr (cause_told (rules.phase s.role) (rules.phase t.role) t.course h)
  told_by_course s Going (Breaks leg) h =
      let t = (shell.broken rules (with_course s Going) leg).0 in
      inr (cause_told (rules.phase s.role) (rules.phase t.role) t.course h)
  told_by_course s Going (Passes now) h =
      let t = (shell.tick rules (with_course s Going) now).0 in
      inr (cause_told (rules.phase s.role) (rules.phase t.role) t.course h)
  told_by_course s (Closed first) (Comes leg piece) h = inl h
  told_by_course s (Closed first) (Ends leg) h = inl h
  told_by_course s (Closed first) (Breaks leg) h = inl h
  told_by_course s (Closed first) (Passes now) h = inl h
  told_by_course s (Refusing first client rest) (Comes leg piece) h = inl h
  told_by_course s (Refusing first client rest) (Ends leg) h = inl h
  told_by_course s (Refusing first client rest) (Breaks leg) h = inl h
  told_by_course s (Refusing first client rest) (Passes now) h = inl h

  told_stands : (s : Shell S) (event : Event)
      → ClosedWith why (telling.tell rules s event).0.course
      → ClosedWith why s.course ⊎ ((telling.tell rules s event).1 ≡ Some why)
  told_stands s event = told_by_course s s.course event

  -- a leg that comes up leaves it as it was
  up_stands : (s : Shell S) (leg : Leg) (cookie : Cookie)
      → ClosedWith why (shell.up rules s leg cookie).course → ClosedWith why s.course
  up_stands s leg cookie = by (may_up rules s leg)
    where
      by : (t : Bool) → ClosedWith why (if t then with_leg rules s leg cookie else s).course
          → ClosedWith why s.course
      by true h = h
      by false h = h

  -- and so does a draw
  drawn_where : (s : Shell S) (leg : Leg) (room : ℕ) (o : Option NearEnd)
      → ClosedWith why (drawn_at rules s leg room o).0.course → ClosedWith why s.course
  drawn_where s leg room None = λ h. h
  drawn_where s leg room (Some end) = by (is_marked end.standing)
    where
      by : (t : Bool)
          → ClosedWith why (cond {A = Shell S × List ℕ} t (s, [])
          (put_back s leg (draw rules s.now room end s.role))).0.course
          → ClosedWith why s.course
      by true h = h
      by false h = h

  drawn_by_course : (s : Shell S) (course : Course) (leg : Leg) (room : ℕ)
      → ClosedWith why (shell.drawn rules (with_course s course) leg room).0.course
      → ClosedWith why course
  drawn_by_course s Going leg room =
      drawn_where (with_course s Going) leg room (end_at (with_course s Going) leg)
  drawn_by_course s (Closed first) leg room = λ h. h
  drawn_by_course s (Refusing first client rest) leg room = by (same_leg client leg)
    where
      by : (t : Bool)
          → ClosedWith why (cond {A = Shell S × List ℕ} t
          (with_course s (Refusing first client (drop room rest)), take room rest)
          (with_course s (Refusing first client rest), [])).0.course
          → first ≡ why
      by true h = h
      by false h = h

  drawn_stands : (s : Shell S) (leg : Leg) (room : ℕ)
      → ClosedWith why (shell.drawn rules s leg room).0.course → ClosedWith why s.course
  drawn_stands s leg room = drawn_by_course s s.course leg room

-- ---- the acts of an end

module _ {S : Type 0} (rules : Rules S) (acts : Acts S) (why : Cause) where
  give_by : (s : Shell S) (course : Course) (pdu : List ℕ)
      → ClosedWith why (ends.give acts (with_course s course) pdu).0.course
      → ClosedWith why course
  give_by s Going pdu h = h
  give_by s (Closed first) pdu h = h
  give_by s (Refusing first leg rest) pdu h = h

  take_by : (s : Shell S) (course : Course)
      → ClosedWith why (ends.after_take acts (with_course s course)).course
      → ClosedWith why course
  take_by s Going h = h
  take_by s (Closed first) h = h
  take_by s (Refusing first leg rest) h = h

  close_by : (s : Shell S) (course : Course)
      → ClosedWith why (ends.close acts (with_course s course)).course → ClosedWith why course
  close_by s Going h = h
  close_by s (Closed first) h = h
  close_by s (Refusing first leg rest) h = h

  recycle_going : (s : Shell S) (p : Phase)
      → ClosedWith why (ends.recycle_where acts s (state_by Going p)).0.course
      → ClosedWith why s.course
  recycle_going s phase.Opening h = h
  recycle_going s phase.Open h = h
  recycle_going s phase.Ended h = h

  recycle_by : (s : Shell S) (course : Course)
      → ClosedWith why (ends.recycle acts rules (with_course s course)).0.course
      → ClosedWith why course
  recycle_by s Going h = recycle_going (with_course s Going) (rules.phase s.role) h
  recycle_by s (Closed first) h = h
  recycle_by s (Refusing first leg rest) h = h

-- ---- the places of proxies

module _ {S : Type 0} (rules : Rules S) (why : Cause) where
  -- what is done at one number leaves the others alone
  back_by_change : (f : Place S → Place S) → f Absent ≡ Absent
      → ((p : Place S) → ClosedHere why (f p) → ClosedHere why p) → (list : List (Place S))
      → (k n : ℕ) → ClosedHere why (get_or (change f list k) n Absent)
      → ClosedHere why (get_or list n Absent)
  back_by_change f idle back list k n h = by (cases_eq n k)
    where
      by : (n ≡ k) ⊎ (n ≡ k → ⊥) → ClosedHere why (get_or list n Absent)
      by (inl same) =
          back (get_or list n Absent)
          (subst (λ (q : Place S). ClosedHere why q)
          (ap (λ j. get_or (change f list k) j Absent) same
          ∙ changed_here Absent f idle list k
          ∙ ap (λ j. f (get_or list j Absent)) (sym same)) h)
      by (inr other) =
          subst (λ (q : Place S). ClosedHere why q)
          (changes_elsewhere Absent f list k n other) h

  up_place : (leg : Leg) (cookie : Cookie) (p : Place S)
      → ClosedHere why (places.up rules leg cookie p) → ClosedHere why p
  up_place leg cookie Absent h = h
  up_place leg cookie (Here node legs) h = up_stands rules why node leg cookie h
  up_place leg cookie (Gone now) h = h

  pub up_at_number : (leg : Leg) (cookie : Cookie) (list : List (Place S)) (k n : ℕ)
      → ClosedHere why (get_or (change (places.up rules leg cookie) list k) n Absent)
      → ClosedHere why (get_or list n Absent)
  up_at_number leg cookie =
      back_by_change (places.up rules leg cookie) refl (up_place leg cookie)

  leave_place : (p : Place S) → ClosedHere why (places.leave rules p) → ClosedHere why p
  leave_place Absent = λ h. h
  leave_place (Here node legs) = by (nat_lt 1 legs || is_working rules node)
    where
      by : (t : Bool)
          → ClosedHere why (if t then Here node (one_fewer legs) else Gone node.now)
          → ClosedWith why node.course
      by true h = h
      by false h = absurd h
  leave_place (Gone now) = λ h. h

  pub leave_at_number : (list : List (Place S)) (k n : ℕ)
      → ClosedHere why (get_or (change (places.leave rules) list k) n Absent)
      → ClosedHere why (get_or list n Absent)
  leave_at_number = back_by_change (places.leave rules) refl leave_place

  draw_place : (leg : Leg) (room : ℕ) (p : Place S)
      → ClosedHere why (places.draw rules leg room p).0 → ClosedHere why p
  draw_place leg room Absent h = h
  draw_place leg room (Here node legs) h = drawn_stands rules why node leg room h
  draw_place leg room (Gone now) h = h

  pub draw_at_number : (leg : Leg) (room : ℕ) (list : List (Place S)) (k n : ℕ)
      → ClosedHere why (get_or (act (places.draw rules leg room) [] list k).0 n Absent)
      → ClosedHere why (get_or list n Absent)
  draw_at_number leg room list k n h = by (cases_eq n k)
    where
      does : Place S → Place S × List ℕ
      does = places.draw rules leg room

      by : (n ≡ k) ⊎ (n ≡ k → ⊥) → ClosedHere why (get_or list n Absent)
      by (inl same) =
          draw_place leg room (get_or list n Absent)
          (subst (λ (q : Place S). ClosedHere why q)
          (ap (λ j. get_or (act does [] list k).0 j Absent) same
          ∙ acted Absent does [] refl list k
          ∙ ap (λ j. (does (get_or list j Absent)).0) (sym same)) h)
      by (inr other) =
          subst (λ (q : Place S). ClosedHere why q)
          (acts_elsewhere Absent does [] list k n other) h

  tell_place : (event : Event) (p : Place S) → ClosedHere why (places.tell rules event p).0
      → ClosedHere why p ⊎ ((places.tell rules event p).1 ≡ Some why)
  tell_place event Absent h = absurd h
  tell_place event (Here node legs) h = told_stands rules why node event h
  tell_place event (Gone now) h = absurd h

  pub tell_at_number : (event : Event) (list : List (Place S)) (k n : ℕ)
      → ClosedHere why (get_or (act (places.tell rules event) None list k).0 n Absent)
      → ClosedHere why (get_or list n Absent)
      ⊎ ((k ≡ n) × ((act (places.tell rules event) None list k).1 ≡ Some why))
  tell_at_number event list k n h = by (cases_eq n k)
    where
      does : Place S → Place S × Option Cause
      does = places.tell rules event

      by : (n ≡ k) ⊎ (n ≡ k → ⊥) → ClosedHere why (get_or list n Absent)
          ⊎ ((k ≡ n) × ((act does None list k).1 ≡ Some why))
      by (inl same) =
          ⊎_elim (λ before. inl before)
          (λ told. inr (
            sym same,
            answered Absent does None refl list k
                ∙ ap (λ j. (does (get_or list j Absent)).1) (sym same) ∙ told,
          ))
          (tell_place event (get_or list n Absent)
          (subst (λ (q : Place S). ClosedHere why q)
          (ap (λ j. get_or (act does None list k).0 j Absent) same
          ∙ acted Absent does None refl list k
          ∙ ap (λ j. (does (get_or list j Absent)).0) (sym same)) h))
      by (inr other) =
          inl (subst (λ (q : Place S). ClosedHere why q)
          (acts_elsewhere Absent does None list k n other) h)

  -- a proxy that is made goes on
  pub made_at_number : (list : List (Place S)) (k n : ℕ) (node : Shell S)
      → (ClosedWith why node.course → ⊥)
      → ClosedHere why (get_or (put_at Absent list k (Here node 0)) n Absent)
      → ClosedHere why (get_or list n Absent)
  made_at_number list k n node goes h = by (cases_eq n k)
    where
      by : (n ≡ k) ⊎ (n ≡ k → ⊥) → ClosedHere why (get_or list n Absent)
      by (inl same) =
          absurd (goes (subst (λ (q : Place S). ClosedHere why q)
          (ap (λ j. get_or (put_at Absent list k (Here node 0)) j Absent) same
          ∙ put_here Absent list k (Here node 0)) h))
      by (inr other) =
          subst (λ (q : Place S). ClosedHere why q)
          (put_elsewhere Absent list k n (Here node 0) other) h

-- ---- all nodes

module _ {C S I O : Type 0} (r : Rulebook C S I O) (why : Cause) where
  abbrev Back : Company C S I O → Company C S I O → Type 0
  Back before after =
      (other : Who) → StandsClosed after other why → StandsClosed before other why

  all_up : (c : Company C S I O) (node : Who) (leg : Leg) (cookie : Cookie)
      → Back c (company.up r c node leg cookie)
  all_up c Client leg cookie Client h = up_stands r.client why c.client leg cookie h
  all_up c Client leg cookie Server h = h
  all_up c Client leg cookie (In n) h = h
  all_up c Client leg cookie (Out n) h = h
  all_up c Server leg cookie Client h = h
  all_up c Server leg cookie Server h = up_stands r.server why c.server leg cookie h
  all_up c Server leg cookie (In n) h = h
  all_up c Server leg cookie (Out n) h = h
  all_up c (In k) leg cookie Client h = h
  all_up c (In k) leg cookie Server h = h
  all_up c (In k) leg cookie (In n) h = up_at_number r.in_proxy why leg cookie c.ins k n h
  all_up c (In k) leg cookie (Out n) h = h
  all_up c (Out k) leg cookie Client h = h
  all_up c (Out k) leg cookie Server h = h
  all_up c (Out k) leg cookie (In n) h = h
  all_up c (Out k) leg cookie (Out n) h = up_at_number r.out_proxy why leg cookie c.outs k n h

  all_leave : (c : Company C S I O) (node : Who) → Back c (company.leave r c node)
  all_leave c Client other h = h
  all_leave c Server other h = h
  all_leave c (In k) Client h = h
  all_leave c (In k) Server h = h
  all_leave c (In k) (In n) h = leave_at_number r.in_proxy why c.ins k n h
  all_leave c (In k) (Out n) h = h
  all_leave c (Out k) Client h = h
  all_leave c (Out k) Server h = h
  all_leave c (Out k) (In n) h = h
  all_leave c (Out k) (Out n) h = leave_at_number r.out_proxy why c.outs k n h

  all_draw : (c : Company C S I O) (node : Who) (leg : Leg) (room : ℕ)
      → Back c (company.draw r c node leg room).0
  all_draw c Client leg room Client h = drawn_stands r.client why c.client leg room h
  all_draw c Client leg room Server h = h
  all_draw c Client leg room (In n) h = h
  all_draw c Client leg room (Out n) h = h
  all_draw c Server leg room Client h = h
  all_draw c Server leg room Server h = drawn_stands r.server why c.server leg room h
  all_draw c Server leg room (In n) h = h
  all_draw c Server leg room (Out n) h = h
  all_draw c (In k) leg room Client h = h
  all_draw c (In k) leg room Server h = h
  all_draw c (In k) leg room (In n) h = draw_at_number r.in_proxy why leg room c.ins k n h
  all_draw c (In k) leg room (Out n) h = h
  all_draw c (Out k) leg room Client h = h
  all_draw c (Out k) leg room Server h = h
  all_draw c (Out k) leg room (In n) h = h
  all_draw c (Out k) leg room (Out n) h = draw_at_number r.out_proxy why leg room c.outs k n h

  -- it stood so before, or was told now
  abbrev Told : Company C S I O → Who → Event → Who → Type 0
  Told c node event other =
      StandsClosed c other why
      ⊎ ((node ≡ other) × ((company.tell r c node event).1 ≡ Some why))

  all_told : (c : Company C S I O) (node : Who) (event : Event) (other : Who)
      → StandsClosed (company.tell r c node event).0 other why → Told c node event other
  all_told c Client event Client h =
      ⊎_elim (λ before. inl before) (λ told. inr (refl, told))
      (told_stands r.client why c.client event h)
  all_told c Client event Server h = inl h
  all_told c Client event (In n) h = inl h
  all_told c Client event (Out n) h = inl h
  all_told c Server event Client h = inl h
  all_told c Server event Server h =
      ⊎_elim (λ before. inl before) (λ told. inr (refl, told))
      (told_stands r.server why c.server event h)
  all_told c Server event (In n) h = inl h
  all_told c Server event (Out n) h = inl h
  all_told c (In k) event Client h = inl h
  all_told c (In k) event Server h = inl h
  all_told c (In k) event (In n) h =
      ⊎_elim (λ before. inl before) (λ told. inr (ap In told.0, told.1))
      (tell_at_number r.in_proxy why event c.ins k n h)
  all_told c (In k) event (Out n) h = inl h
  all_told c (Out k) event Client h = inl h
  all_told c (Out k) event Server h = inl h
  all_told c (Out k) event (In n) h = inl h
  all_told c (Out k) event (Out n) h =
      ⊎_elim (λ before. inl before) (λ told. inr (ap Out told.0, told.1))
      (tell_at_number r.out_proxy why event c.outs k n h)

module _ {K C S I O : Type 0} (r : Rulebook C S I O) (m : Makers K I O) (d : Deeds C S)
    (going : MakesGoing r m) where
  -- ---- one change

  abbrev Found : World K C S I O → Change → Who → Cause → Type 0
  Found w change node why = StandsClosed w.company node why ⊎ ClosesNode r w change node why

  told_found : (w : World K C S I O) (node : Who) (event : Event) (other : Who) (why : Cause)
      → StandsClosed (company.tell r w.company node event).0 other why
      → StandsClosed w.company other why
      ⊎ ((node ≡ other) × ((company.tell r w.company other event).1 ≡ Some why))
  told_found w node event other why h =
      ⊎_elim (λ before. inl before)
      (λ now. inr (
        now.0,
        subst (λ (x : Who). (company.tell r w.company x event).1 ≡ Some why) now.0 now.1,
      ))
      (all_told r why w.company node event other h)

  gives_back : (w : World K C S I O) (end : Side) (pdu : List ℕ) (node : Who) (why : Cause)
      → StandsClosed (changed r m d w (Gives end pdu)).company node why
      → StandsClosed w.company node why
  gives_back w side.Client pdu Client why h =
      give_by r.client d.client why w.company.client w.company.client.course pdu h
  gives_back w side.Client pdu Server why h = h
  gives_back w side.Client pdu (In n) why h = h
  gives_back w side.Client pdu (Out n) why h = h
  gives_back w side.Server pdu Client why h = h
  gives_back w side.Server pdu Server why h =
      give_by r.server d.server why w.company.server w.company.server.course pdu h
  gives_back w side.Server pdu (In n) why h = h
  gives_back w side.Server pdu (Out n) why h = h

  takes_back : (w : World K C S I O) (end : Side) (node : Who) (why : Cause)
      → StandsClosed (changed r m d w (Takes end)).company node why
      → StandsClosed w.company node why
  takes_back w side.Client Client why h =
      take_by r.client d.client why w.company.client w.company.client.course h
  takes_back w side.Client Server why h = h
  takes_back w side.Client (In n) why h = h
  takes_back w side.Client (Out n) why h = h
  takes_back w side.Server Client why h = h
  takes_back w side.Server Server why h =
      take_by r.server d.server why w.company.server w.company.server.course h
  takes_back w side.Server (In n) why h = h
  takes_back w side.Server (Out n) why h = h

  closes_back : (w : World K C S I O) (end : Side) (node : Who) (why : Cause)
      → StandsClosed (changed r m d w (Closes end)).company node why
      → StandsClosed w.company node why
  closes_back w side.Client Client why h =
      close_by r.client d.client why w.company.client w.company.client.course h
  closes_back w side.Client Server why h = h
  closes_back w side.Client (In n) why h = h
  closes_back w side.Client (Out n) why h = h
  closes_back w side.Server Client why h = h
  closes_back w side.Server Server why h =
      close_by r.server d.server why w.company.server w.company.server.course h
  closes_back w side.Server (In n) why h = h
  closes_back w side.Server (Out n) why h = h

  recycle_in_back : (w : World K C S I O) (node : Who) (why : Cause)
      → StandsClosed (changed r m d w RecyclesIn).company node why
      → StandsClosed w.company node why
  recycle_in_back w Client why h =
      recycle_by r.client d.client why w.company.client w.company.client.course h
  recycle_in_back w Server why h = h
  recycle_in_back w (In n) why h = h
  recycle_in_back w (Out n) why h = h

  recycle_out_back : (w : World K C S I O) (node : Who) (why : Cause)
      → StandsClosed (changed r m d w RecyclesOut).company node why
      → StandsClosed w.company node why
  recycle_out_back w Client why h = h
  recycle_out_back w Server why h =
      recycle_by r.server d.server why w.company.server w.company.server.course h
  recycle_out_back w (In n) why h = h
  recycle_out_back w (Out n) why h = h

  open_in_back : (w : World K C S I O) (k : ℕ) (cookie : Cookie) (node : Who) (why : Cause)
      → StandsClosed (changed r m d w (OpensIn k cookie)).company node why
      → StandsClosed w.company node why
  open_in_back w k cookie Client why h =
      up_stands r.client why w.company.client (leg_at ClientIn k) cookie h
  open_in_back w k cookie Server why h = h
  open_in_back w k cookie (In n) why h =
      made_at_number r.in_proxy why w.company.ins k n
      (at_moment r.in_proxy (m.in_proxy w.cast k) w.now) (going.ins w.cast k w.now why) h
  open_in_back w k cookie (Out n) why h = h

  open_out_back : (w : World K C S I O) (k : ℕ) (cookie : Cookie) (node : Who) (why : Cause)
      → StandsClosed (changed r m d w (OpensOut k cookie)).company node why
      → StandsClosed w.company node why
  open_out_back w k cookie Client why h =
      up_stands r.client why w.company.client (leg_at ClientOut k) cookie h
  open_out_back w k cookie Server why h = h
  open_out_back w k cookie (In n) why h = h
  open_out_back w k cookie (Out n) why h =
      made_at_number r.out_proxy why w.company.outs k n
      (at_moment r.out_proxy (m.out_proxy w.cast k) w.now) (going.outs w.cast k w.now why) h

  open_same_back : (w : World K C S I O) (k : ℕ) (cookie : Cookie) (node : Who) (why : Cause)
      → StandsClosed (changed r m d w (OpensSame k cookie)).company node why
      → StandsClosed w.company node why
  open_same_back w k cookie node why h =
      let leg = leg_at ClientIn k in
      all_up r why w.company Client leg cookie node
      (all_up r why (company.up r w.company Client leg cookie) (In (reader_before w k)) leg cookie
      node h)

  change_stands : (w : World K C S I O) (one : Change) (node : Who) (why : Cause)
      → StandsClosed (changed r m d w one).company node why → Found w one node why
  change_stands w (IsTold other event) node why h =
      ⊎_elim (λ before. inl before)
      (λ now. inr (record {
        event = event;
        told = ap (λ (x : Who). Some (x, event)) now.0;
        closes = now.1;
      }))
      (told_found w other event node why h)
  change_stands w (IsFed leg dir count) node why h =
      let event = Comes leg (legs.take_out leg dir count w.legs).1 in
      ⊎_elim (λ before. inl before)
      (λ now. inr (record {
        event = event;
        told = ap (λ (x : Who). Some (x, event)) now.0;
        closes = now.1;
      }))
      (told_found w (at w leg (receiver dir)) event node why h)
  change_stands w (IsDrawn leg dir count) node why h =
      inl (all_draw r why w.company (at w leg (sender dir)) leg count node h)
  change_stands w (GoesUp other leg end cookie) node why h =
      inl (all_up r why w.company other leg cookie node h)
  change_stands w (RaisesAlone other leg end cookie) node why h =
      inl (all_up r why w.company other leg cookie node h)
  change_stands w (GoesDown other leg end) node why h =
      inl (all_leave r why w.company other node h)
  change_stands w (OpensIn k cookie) node why h = inl (open_in_back w k cookie node why h)
  change_stands w (OpensOut k cookie) node why h = inl (open_out_back w k cookie node why h)
  change_stands w (OpensSame k cookie) node why h = inl (open_same_back w k cookie node why h)
  change_stands w (Gives end pdu) node why h = inl (gives_back w end pdu node why h)
  change_stands w (Takes end) node why h = inl (takes_back w end node why h)
  change_stands w (Closes end) node why h = inl (closes_back w end node why h)
  change_stands w RecyclesIn node why h = inl (recycle_in_back w node why h)
  change_stands w RecyclesOut node why h = inl (recycle_out_back w node why h)
  change_stands w (MovesTo now) node why h = inl h
  change_stands w (Draws cookies) node why h = inl h
  change_stands w Reports node why h = inl h

  -- ---- changes

  pub all_stand : (w : World K C S I O) (changes : List Change) (node : Who) (why : Cause)
      → StandsClosed (all_changed r m d w changes).company node why
      → StandsClosed w.company node why ⊎ IsClosedBy r m d w changes node why
  all_stand w [] node why h = inl h
  all_stand w (one ∷ changes) node why h =
      ⊎_elim here later (all_stand (changed r m d w one) changes node why h)
    where
      here : StandsClosed (changed r m d w one).company node why
          → StandsClosed w.company node why ⊎ IsClosedBy r m d w (one ∷ changes) node why
      here stands =
          ⊎_elim (λ before. inl before)
          (λ closes. inr (record {
            before = [];
            change = one;
            after = changes;
            split = refl;
            closes = closes;
          }))
          (change_stands w one node why stands)

      later : IsClosedBy r m d (changed r m d w one) changes node why
          → StandsClosed w.company node why ⊎ IsClosedBy r m d w (one ∷ changes) node why
      later by = inr (record {
        before = one ∷ by.before;
        change = by.change;
        after = by.after;
        split = ap (λ cs. one ∷ cs) by.split;
        closes = by.closes;
      })

  pub leads_stand : (w v : World K C S I O) (leads : Leads r m d w v) (node : Who)
      (why : Cause) → StandsClosed v.company node why
      → StandsClosed w.company node why ⊎ IsClosedBy r m d w leads.changes node why
  leads_stand w v leads node why h =
      all_stand w leads.changes node why
      (subst (λ (x : World K C S I O). StandsClosed x.company node why) (sym leads.reached) h)
