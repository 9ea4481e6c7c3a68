-- each node is what its history made of it
use Rattle.rh_text.specs.declared.ends.Side.TheVariants as side
use Rattle.law_order.proofs.Vocabulary.{◌≡◌, ℕ, List, [], ◌∷◌, ◌++◌, Bool, true, false, ◌||◌, if◌then◌else◌, IsTrue, get_or, map, refl, sym, ap, ◌∙◌, subst, ◌⊎◌, inl, inr, ◌==◌, nat_lt, cases_eq, eq-eqb, ne_eqb, false≢true}
use Rattle.rh_shell.specs.Shells as shell
use Rattle.rh_wires.specs.Legs as legs
use Rattle.rh_company.specs.Company as company
use Rattle.rh_company.specs.Places as places
use Rattle.law_moves.proofs.Vocabulary.{Side, Dir, Cookie, Leg, ClientIn, Rules, Acts, Shell, EndEvent, Happens, after_events, after_end_events}
use Rattle.law_moves.specs.Moving as moving
use Rattle.law_node_history.proofs.Vocabulary.{Who, Client, Server, In, Out, ask, put_at, change, sender, receiver, Event, Comes, Place, Absent, Here, Gone, Company, Rulebook, is_absent, is_working, one_fewer, Deeds, Makers, reader_before, leg_at, World, at, Change, IsTold, IsFed, IsDrawn, GoesUp, RaisesAlone, GoesDown, OpensIn, OpensOut, OpensSame, Gives, Takes, Closes, RecyclesIn, RecyclesOut, MovesTo, Draws, Reports, MayChange, AreAllowed, changed, all_changed, Leads}
use Rattle.law_node_history.proofs.Vocabulary.{History, nothing, heard, to_node, told_to, made_by, at_place, acts_by, in_place, out_place, noted, all_noted, IsRun, AreRuns, IsNew}
use Rattle.law_node_history.proofs.Numbers.{asked, put_here, put_elsewhere, changed_here, changes_elsewhere}
use Rattle.law_node_history.proofs.Runs.{Meets, end_events_append, end_events_happen, runs_none, run_on, tell_meets, draw_meets, up_meets}

-- ---- the place of a proxy

pub absent_is : {S : Type 0} (p : Place S) → is_absent p ≡ true → p ≡ Absent
absent_is Absent e = refl
absent_is (Here node legs) e = absurd (false≢true e)
absent_is (Gone now) e = absurd (false≢true e)

module _ {S : Type 0} (rules : Rules S) where
  quiet_run : (made : Shell S) (events : List moving.Event) (p : Place S)
      → IsRun rules made events p → IsRun rules made (events ++ at_place p [] []) p
  quiet_run made events p h = run_on rules made events p p [] h (runs_none rules p)

  -- a leg is not up any more
  leave_run : (made : Shell S) (events : List moving.Event) (p : Place S)
      → IsRun rules made events p
      → IsRun rules made (events ++ at_place p [] []) (places.leave rules p)
  leave_run made events Absent h = quiet_run made events Absent h
  leave_run made events (Gone now) h = quiet_run made events (Gone now) h
  leave_run made events (Here node legs) h =
      by (nat_lt 1 legs) (is_working rules node) refl
    where
      run : node ≡ after_events rules made (events ++ [])
      run = quiet_run made events (Here node legs) h

      by : (a b : Bool) → is_working rules node ≡ b
          → IsRun rules made (events ++ [])
          (if a || b then Here node (one_fewer legs) else Gone node.now)
      by true b e = run
      by false true e = run
      by false false e = record {
        moment = ap (λ (s : Shell S). s.now) (sym run);
        stopped = ap (λ (s : Shell S). is_working rules s) (sym run) ∙ e;
      }

  leave_at : (make : ℕ → Shell S) (list : List (Place S)) (k n : ℕ)
      (events : List moving.Event) → IsRun rules (make n) events (get_or list n Absent)
      → IsRun rules (make n) (events ++ at_place (get_or list n Absent) [] [])
      (get_or (change (places.leave rules) list k) n Absent)
  leave_at make list k n events h = by (cases_eq n k)
    where
      by : (n ≡ k) ⊎ (n ≡ k → ⊥)
          → IsRun rules (make n) (events ++ at_place (get_or list n Absent) [] [])
          (get_or (change (places.leave rules) list k) n Absent)
      by (inl same) =
          subst (λ (q : Place S). IsRun rules (make n)
          (events ++ at_place (get_or list n Absent) [] []) q)
          (sym (ap (λ j. get_or (change (places.leave rules) list k) j Absent) same
          ∙ changed_here Absent (places.leave rules) refl list k
          ∙ ap (λ j. places.leave rules (get_or list j Absent)) (sym same)))
          (leave_run (make n) events (get_or list n Absent) h)
      by (inr other) =
          subst (λ (q : Place S). IsRun rules (make n)
          (events ++ at_place (get_or list n Absent) [] []) q)
          (sym (changes_elsewhere Absent (places.leave rules) list k n other))
          (quiet_run (make n) events (get_or list n Absent) h)

  -- a proxy is made, and is told the moment
  abbrev made_at : (ℕ → Shell S) → ℕ → ℕ → Place S
  made_at make k now = Here (shell.tick rules (make k) now).0 0

  abbrev Made : (ℕ → Shell S) → ℕ → ℕ → List moving.Event → Place S → Bool → Place S → Type 0
  Made make now n events p b q =
      IsRun rules (make n)
      (events ++ at_place p [] (if b then moving.Ticks now ∷ [] else [])) q

  make_run : (make : ℕ → Shell S) (list : List (Place S)) (k now : ℕ)
      → get_or list k Absent ≡ Absent → (n : ℕ) (events : List moving.Event)
      → IsRun rules (make n) events (get_or list n Absent)
      → IsRun rules (make n)
      (events ++ at_place (get_or list n Absent) []
      (if k == n then moving.Ticks now ∷ [] else []))
      (get_or (put_at Absent list k (made_at make k now)) n Absent)
  make_run make list k now absent n = by (cases_eq k n)
    where
      here : (events : List moving.Event) → IsRun rules (make k) events (get_or list k Absent)
          → Made make now k events (get_or list k Absent) (k == k)
          (get_or (put_at Absent list k (made_at make k now)) k Absent)
      here events h =
          let none : events ≡ [] =
          subst (λ (p : Place S). IsRun rules (make k) events p) absent h in
          subst (λ (q : Place S). Made make now k events (get_or list k Absent) (k == k) q)
          (sym (put_here Absent list k (made_at make k now)))
          (subst (λ (b : Bool). Made make now k events (get_or list k Absent) b
          (made_at make k now))
          (sym (eq-eqb k k refl))
          (subst (λ (p : Place S). Made make now k events p true (made_at make k now)) (sym absent)
          (subst (λ (es : List moving.Event). Made make now k es Absent true (made_at make k now))
          (sym none) refl)))

      by : (k ≡ n) ⊎ (k ≡ n → ⊥) → (events : List moving.Event)
          → IsRun rules (make n) events (get_or list n Absent)
          → Made make now n events (get_or list n Absent) (k == n)
          (get_or (put_at Absent list k (made_at make k now)) n Absent)
      by (inl same) events h =
          subst (λ j. IsRun rules (make j) events (get_or list j Absent)
          → Made make now j events (get_or list j Absent) (k == j)
          (get_or (put_at Absent list k (made_at make k now)) j Absent)) same (here events) h
      by (inr other) events h =
          subst (λ (b : Bool). Made make now n events (get_or list n Absent) b
          (get_or (put_at Absent list k (made_at make k now)) n Absent))
          (sym (ne_eqb k n other))
          (subst (λ (q : Place S). Made make now n events (get_or list n Absent) false q)
          (sym (put_elsewhere Absent list k n (made_at make k now) (λ e. other (sym e))))
          (quiet_run (make n) events (get_or list n Absent) h))

module _ {K C S I O : Type 0} (r : Rulebook C S I O) (m : Makers K I O) (d : Deeds C S) where
  -- what is done to each node is what the history notes of it
  pub record DoesBy (w : World K C S I O) (cast : K) (after : Company C S I O)
      (told made : Who → List moving.Event) (acts : Side → List EndEvent) : Type 0 where
    pub client : after.client
        ≡ after_end_events r.client d.client
        (after_events r.client w.company.client (told Client)) (acts side.Client)
    pub server : after.server
        ≡ after_end_events r.server d.server
        (after_events r.server w.company.server (told Server)) (acts side.Server)
    pub ins : (n : ℕ) (events : List moving.Event)
        → IsRun r.in_proxy (m.in_proxy w.cast n) events (in_place w.company n)
        → IsRun r.in_proxy (m.in_proxy cast n)
        (events ++ at_place (in_place w.company n) (told (In n)) (made (In n)))
        (in_place after n)
    pub outs : (n : ℕ) (events : List moving.Event)
        → IsRun r.out_proxy (m.out_proxy w.cast n) events (out_place w.company n)
        → IsRun r.out_proxy (m.out_proxy cast n)
        (events ++ at_place (out_place w.company n) (told (Out n)) (made (Out n)))
        (out_place after n)

  -- by a change
  abbrev pub Does : World K C S I O → World K C S I O → Change → Type 0
  Does w v change =
      DoesBy w v.cast v.company (told_to w change) (made_by w change) (acts_by change)

  -- ---- an event happens to a node

  met : (w : World K C S I O) (after : Company C S I O) (node : Who) (event : moving.Event)
      → Meets r w.company after node event
      → DoesBy w w.cast after (λ other. to_node node other event) (λ other. []) (λ end. [])
  met w after node event me = record {
    client = me.client;
    server = me.server;
    ins = λ n events run. run_on r.in_proxy (m.in_proxy w.cast n) events (in_place w.company n)
        (in_place after n) (to_node node (In n) event) run (me.ins n);
    outs = λ n events run. run_on r.out_proxy (m.out_proxy w.cast n) events
        (out_place w.company n) (out_place after n) (to_node node (Out n) event) run (me.outs n);
  }

  does_told : (w : World K C S I O) (node : Who) (event : Event)
      → Does w (changed r m d w (IsTold node event)) (IsTold node event)
  does_told w node event =
      met w (company.tell r w.company node event).0 node (heard event)
      (tell_meets r w.company node event)

  does_fed : (w : World K C S I O) (leg : Leg) (dir : Dir) (count : ℕ)
      → Does w (changed r m d w (IsFed leg dir count)) (IsFed leg dir count)
  does_fed w leg dir count =
      let node = at w leg (receiver dir) in
      let event = Comes leg (legs.take_out leg dir count w.legs).1 in
      met w (company.tell r w.company node event).0 node (heard event)
      (tell_meets r w.company node event)

  does_drawn : (w : World K C S I O) (leg : Leg) (dir : Dir) (count : ℕ)
      → Does w (changed r m d w (IsDrawn leg dir count)) (IsDrawn leg dir count)
  does_drawn w leg dir count =
      let node = at w leg (sender dir) in
      met w (company.draw r w.company node leg count).0 node (moving.Draws leg count)
      (draw_meets r w.company node leg count)

  does_up : (w : World K C S I O) (node : Who) (leg : Leg) (end : Side) (cookie : Cookie)
      → Does w (changed r m d w (GoesUp node leg end cookie)) (GoesUp node leg end cookie)
  does_up w node leg end cookie =
      met w (company.up r w.company node leg cookie) node (moving.ComesUp leg cookie)
      (up_meets r w.company node leg cookie)

  -- ---- nothing happens to the proxies

  abbrev quiet_ins : (w : World K C S I O) (n : ℕ) (events : List moving.Event)
      → IsRun r.in_proxy (m.in_proxy w.cast n) events (in_place w.company n)
      → IsRun r.in_proxy (m.in_proxy w.cast n)
      (events ++ at_place (in_place w.company n) [] []) (in_place w.company n)
  quiet_ins w n events =
      quiet_run r.in_proxy (m.in_proxy w.cast n) events (in_place w.company n)

  abbrev quiet_outs : (w : World K C S I O) (n : ℕ) (events : List moving.Event)
      → IsRun r.out_proxy (m.out_proxy w.cast n) events (out_place w.company n)
      → IsRun r.out_proxy (m.out_proxy w.cast n)
      (events ++ at_place (out_place w.company n) [] []) (out_place w.company n)
  quiet_outs w n events =
      quiet_run r.out_proxy (m.out_proxy w.cast n) events (out_place w.company n)

  does_down : (w : World K C S I O) (node : Who) (leg : Leg) (end : Side)
      → Does w (changed r m d w (GoesDown node leg end)) (GoesDown node leg end)
  does_down w Client leg end =
      record { client = refl; server = refl; ins = quiet_ins w; outs = quiet_outs w }
  does_down w Server leg end =
      record { client = refl; server = refl; ins = quiet_ins w; outs = quiet_outs w }
  does_down w (In k) leg end = record {
    client = refl;
    server = refl;
    ins = leave_at r.in_proxy (m.in_proxy w.cast) w.company.ins k;
    outs = quiet_outs w;
  }
  does_down w (Out k) leg end = record {
    client = refl;
    server = refl;
    ins = quiet_ins w;
    outs = leave_at r.out_proxy (m.out_proxy w.cast) w.company.outs k;
  }

  does_open_in : (w : World K C S I O) (k : ℕ) (cookie : Cookie)
      → IsTrue (ask is_absent true w.company.ins k)
      → Does w (changed r m d w (OpensIn k cookie)) (OpensIn k cookie)
  does_open_in w k cookie absent = record {
    client = refl;
    server = refl;
    ins = make_run r.in_proxy (m.in_proxy w.cast) w.company.ins k w.now
        (absent_is (in_place w.company k) (sym (asked Absent is_absent w.company.ins k) ∙ absent));
    outs = quiet_outs w;
  }

  does_open_out : (w : World K C S I O) (k : ℕ) (cookie : Cookie)
      → IsTrue (ask is_absent true w.company.outs k)
      → Does w (changed r m d w (OpensOut k cookie)) (OpensOut k cookie)
  does_open_out w k cookie absent = record {
    client = refl;
    server = refl;
    ins = quiet_ins w;
    outs = make_run r.out_proxy (m.out_proxy w.cast) w.company.outs k w.now
        (absent_is (out_place w.company k)
        (sym (asked Absent is_absent w.company.outs k) ∙ absent));
  }

  does_open_same : (w : World K C S I O) (k : ℕ) (cookie : Cookie)
      → Does w (changed r m d w (OpensSame k cookie)) (OpensSame k cookie)
  does_open_same w k cookie =
      let leg = leg_at ClientIn k in
      let v = changed r m d w (OpensSame k cookie) in
      let node = In (reader_before w k) in
      let me = up_meets r (company.up r w.company Client leg cookie) node leg cookie in
      record {
        client = refl;
        server = refl;
        ins = λ n events run. run_on r.in_proxy (m.in_proxy w.cast n) events (in_place w.company n)
            (in_place v.company n) (to_node node (In n) (moving.ComesUp leg cookie)) run (me.ins n);
        outs = quiet_outs w;
      }

  does_give : (w : World K C S I O) (end : Side) (pdu : List ℕ)
      → Does w (changed r m d w (Gives end pdu)) (Gives end pdu)
  does_give w side.Client pdu =
      record { client = refl; server = refl; ins = quiet_ins w; outs = quiet_outs w }
  does_give w side.Server pdu =
      record { client = refl; server = refl; ins = quiet_ins w; outs = quiet_outs w }

  does_take : (w : World K C S I O) (end : Side)
      → Does w (changed r m d w (Takes end)) (Takes end)
  does_take w side.Client =
      record { client = refl; server = refl; ins = quiet_ins w; outs = quiet_outs w }
  does_take w side.Server =
      record { client = refl; server = refl; ins = quiet_ins w; outs = quiet_outs w }

  does_close : (w : World K C S I O) (end : Side)
      → Does w (changed r m d w (Closes end)) (Closes end)
  does_close w side.Client =
      record { client = refl; server = refl; ins = quiet_ins w; outs = quiet_outs w }
  does_close w side.Server =
      record { client = refl; server = refl; ins = quiet_ins w; outs = quiet_outs w }

  pub does : (w : World K C S I O) (change : Change) → MayChange r w change
      → Does w (changed r m d w change) change
  does w (IsTold node event) may = does_told w node event
  does w (IsFed leg dir count) may = does_fed w leg dir count
  does w (IsDrawn leg dir count) may = does_drawn w leg dir count
  does w (GoesUp node leg end cookie) may = does_up w node leg end cookie
  does w (RaisesAlone node leg end cookie) may =
      let did = does_up w node leg end cookie in
      record { client = did.client; server = did.server; ins = did.ins; outs = did.outs }
  does w (GoesDown node leg end) may = does_down w node leg end
  does w (OpensIn k cookie) may = does_open_in w k cookie may.1
  does w (OpensOut k cookie) may = does_open_out w k cookie may.1
  does w (OpensSame k cookie) may = does_open_same w k cookie
  does w (Gives end pdu) may = does_give w end pdu
  does w (Takes end) may = does_take w end
  does w (Closes end) may = does_close w end
  does w RecyclesIn may =
      record { client = refl; server = refl; ins = quiet_ins w; outs = quiet_outs w }
  does w RecyclesOut may =
      record { client = refl; server = refl; ins = quiet_ins w; outs = quiet_outs w }
  does w (MovesTo now) may =
      record { client = refl; server = refl; ins = quiet_ins w; outs = quiet_outs w }
  does w (Draws cookies) may =
      record { client = refl; server = refl; ins = quiet_ins w; outs = quiet_outs w }
  does w Reports may =
      record { client = refl; server = refl; ins = quiet_ins w; outs = quiet_outs w }

  -- ---- histories

  pub end_on : {T : Type 0} (rules : Rules T) (acts : Acts T) (first before after : Shell T)
      (h : List EndEvent) (told : List moving.Event) (more : List EndEvent)
      → before ≡ after_end_events rules acts first h
      → after ≡ after_end_events rules acts (after_events rules before told) more
      → after ≡ after_end_events rules acts first (h ++ (map Happens told ++ more))
  end_on {T} rules acts first before after h told more run e =
      e ∙ ap (λ (s : Shell T). after_end_events rules acts s more)
      (sym (end_events_happen rules acts before told))
      ∙ sym (end_events_append rules acts before (map Happens told) more)
      ∙ ap (λ (s : Shell T). after_end_events rules acts s (map Happens told ++ more)) run
      ∙ sym (end_events_append rules acts first h (map Happens told ++ more))

  pub change_is_noted : (first : Company C S I O) (w : World K C S I O) (h : History)
      (change : Change) → MayChange r w change → AreRuns r m d first w h
      → AreRuns r m d first (changed r m d w change) (noted w h change)
  change_is_noted first w h change may runs =
      let v = changed r m d w change in
      let did = does w change may in
      record {
        client = end_on r.client d.client first.client w.company.client v.company.client h.client
            (told_to w change Client) (acts_by change side.Client) runs.client did.client;
        server = end_on r.server d.server first.server w.company.server v.company.server h.server
            (told_to w change Server) (acts_by change side.Server) runs.server did.server;
        ins = λ n. did.ins n (h.ins n) (runs.ins n);
        outs = λ n. did.outs n (h.outs n) (runs.outs n);
      }

  all_are_noted : (first : Company C S I O) (w : World K C S I O) (h : History)
      (changes : List Change) → AreAllowed r m d w changes → AreRuns r m d first w h
      → AreRuns r m d first (all_changed r m d w changes) (all_noted r m d w h changes)
  all_are_noted first w h [] allowed runs = runs
  all_are_noted first w h (change ∷ changes) allowed runs =
      all_are_noted first (changed r m d w change) (noted w h change) changes allowed.1
      (change_is_noted first w h change allowed.0 runs)

  pub changes_are_noted : (first : Company C S I O) (w v : World K C S I O) (h : History)
      (leads : Leads r m d w v) → AreRuns r m d first w h
      → AreRuns r m d first v (all_noted r m d w h leads.changes)
  changes_are_noted first w v h leads runs =
      subst (λ (x : World K C S I O). AreRuns r m d first x (all_noted r m d w h leads.changes))
      leads.reached (all_are_noted first w h leads.changes leads.allowed runs)

  pub begins : (w : World K C S I O) → IsNew w → AreRuns r m d w.company w nothing
  begins w new = record {
    client = refl;
    server = refl;
    ins = λ n. subst (λ (list : List (Place I)). IsRun r.in_proxy (m.in_proxy w.cast n) []
        (get_or list n Absent)) (sym new.ins) refl;
    outs = λ n. subst (λ (list : List (Place O)). IsRun r.out_proxy (m.out_proxy w.cast n) []
        (get_or list n Absent)) (sym new.outs) refl;
  }
