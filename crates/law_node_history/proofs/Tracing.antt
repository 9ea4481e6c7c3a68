-- every change keeps the legs carried, and notes all that was heard
use Rattle.rh_text.specs.declared.ends.Side.TheVariants as side
use Rattle.law_order.proofs.Vocabulary.{◌≡◌, ℕ, List, [], ◌++◌, Bool, true, false, ◌&&◌, ◌||◌, if◌then◌else◌, IsTrue, get_or, refl, sym, ap, ap₂, ◌∙◌, subst, inl, inr, ⊎_elim, arith, ◌<◌, true≢false, false≢true, cases_eq, cases_Bool, ltb-true, and_parts, append-nil}
use Rattle.rh_shell.specs.Shells as shell
use Rattle.rh_wires.specs.Legs as legs
use Rattle.rh_wires.specs.Wires as wires
use Rattle.rh_company.specs.Company as company
use Rattle.rh_company.specs.Places as places
use Rattle.law_moves.proofs.Vocabulary.{Dir, Side, Cookie, Leg, LegKind, ClientOut, OutServer, ClientIn, InServer, Rules, Shell, same_leg}
use Rattle.law_moves.specs.Moving as moving
use Rattle.law_node_history.proofs.Vocabulary.{Who, Client, Server, In, Out, change, with_reader, sender, receiver, Event, Comes, Ends, Breaks, Passes, Place, Absent, Here, Gone, Company, Rulebook, is_absent, Deeds, is_same, Makers, reader_before, leg_at, World, at, Change, may_have, IsTold, IsFed, IsDrawn, GoesUp, RaisesAlone, GoesDown, OpensIn, OpensOut, OpensSame, Gives, Takes, Closes, Draws, MayChange, StandsAt, changed, History, heard, to_node, told_to, made_by, at_place}
use Rattle.law_node_history.proofs.Vocabulary.{fed_by, in_place, out_place, noted, IsRun, Ledger, ledger, heard_on, came_up, happened, wire_at, end_node, AreCarried, IsHeard, AreHeard, LegsComeUpOnce, AllAccepted, IsTraced, is_of_client}
use Rattle.law_node_history.proofs.Leading.{cast_stays}
use Rattle.law_node_history.proofs.Appended.{heard_append, happened_more}
use Rattle.law_node_history.proofs.HeardAll.{is_hears, unheard, heard_piece, hear_on, hear_none, hear_leaving, hear_made}
use Rattle.law_node_history.proofs.Ledgers.{is_here, not_other, or_false}
use Rattle.law_node_history.proofs.Lines.{same_who}
use Rattle.law_node_history.proofs.LegsKept.{kept_quiet, kept_drawn, kept_fed, kept_raised, kept_lowered, kept_opened}
use Rattle.law_node_history.proofs.NodeTraces.{is_draws, is_comes, drawn_of, up_of, AllAccept, silent_drawn, silent_up, silent_accepts, none_drawn, none_up, none_accepts, drawn_there, up_there, up_accepts, drawn_more, up_more, accepted_more, never_up, may_come, in_may}
use Rattle.law_node_history.proofs.Noting.{absent_is, change_is_noted}
use Rattle.law_node_history.proofs.Numbers.{asked, put_here, put_elsewhere, changed_here, changes_elsewhere}
use Rattle.law_node_history.proofs.Runs.{Runs, Meets, tell_meets, draw_meets, up_meets}
use Rattle.law_node_history.proofs.Wired as wired

-- ---- events that neither draw nor bring a leg up

told_draws : (event : Event) → is_draws (heard event) ≡ false
told_draws (Comes leg piece) = refl
told_draws (Ends leg) = refl
told_draws (Breaks leg) = refl
told_draws (Passes now) = refl

pub told_comes : (event : Event) → is_comes (heard event) ≡ false
told_comes (Comes leg piece) = refl
told_comes (Ends leg) = refl
told_comes (Breaks leg) = refl
told_comes (Passes now) = refl

pub or_assoc : (a b c : Bool) → (a || (b || c)) ≡ ((a || b) || c)
or_assoc true b c = refl
or_assoc false b c = refl

-- ---- where no proxy is, none comes but by being made

absent_stays : {S : Type 0} (rules : Rules S) (p q : Place S) (es : List moving.Event)
    → Runs rules p q es → p ≡ Absent → q ≡ Absent
absent_stays rules Absent q es run e = run
absent_stays rules (Here node legs) q es run e = absurd cc
absent_stays rules (Gone now) q es run e = absurd cc

absent_leaves : {S : Type 0} (rules : Rules S) (list : List (Place S)) (k n : ℕ)
    → get_or list n Absent ≡ Absent
    → get_or (change (places.leave rules) list k) n Absent ≡ Absent
absent_leaves rules list k n e =
    ⊎_elim (λ same. ap (λ j. get_or (change (places.leave rules) list k) j Absent) same
    ∙ changed_here Absent (places.leave rules) refl list k
    ∙ ap (λ j. places.leave rules (get_or list j Absent)) (sym same)
    ∙ ap (places.leave rules) e)
    (λ other. changes_elsewhere Absent (places.leave rules) list k n other ∙ e) (cases_eq n k)

-- the client has its own end of its legs
pub client_end : (readers : List ℕ) (leg : Leg) → is_of_client leg.kind ≡ true
    → end_node readers leg side.Client ≡ Client
client_end readers leg e = by leg.kind e
  where
    by : (kind : LegKind) → is_of_client kind ≡ true
        → end_node readers (leg_at kind leg.number) side.Client ≡ Client
    by ClientOut e = refl
    by OutServer e = absurd (false≢true e)
    by ClientIn e = refl
    by InServer e = absurd (false≢true e)

module _ {K C S I O : Type 0} (r : Rulebook C S I O) (m : Makers K I O) (d : Deeds C S)
    (first : Company C S I O) (w : World K C S I O) (h : History)
    (t : IsTraced r m d first w h) (once : LegsComeUpOnce r m d first w.cast) where
  abbrev old : Ledger
  old = ledger r m d first w.cast h

  abbrev new : Change → Ledger
  new change = ledger r m d first w.cast (noted w h change)

  -- ---- the ledger, where nothing is added

  module _ (change : Change) where
    same_drawn : ((node : Who) (leg : Leg)
        → drawn_of r w.company (told_to w change) node leg ≡ [])
        → (node : Who) (leg : Leg) → (new change).drawn node leg ≡ old.drawn node leg
    same_drawn none node leg =
        drawn_more r m d first w h t.runs change node leg
        ∙ ap (λ x. old.drawn node leg ++ x) (none node leg) ∙ append-nil (old.drawn node leg)

    same_fed : ((node : Who) (leg : Leg) → fed_by w change node leg ≡ [])
        → (node : Who) (leg : Leg) → (new change).fed node leg ≡ old.fed node leg
    same_fed none node leg =
        ap (λ x. h.fed node leg ++ x) (none node leg) ∙ append-nil (h.fed node leg)

    same_up : ((node : Who) (leg : Leg)
        → up_of r w.company (told_to w change) node leg ≡ false)
        → (node : Who) (leg : Leg) → (new change).was_up node leg ≡ old.was_up node leg
    same_up none node leg =
        up_more r m d first w h t.runs change node leg
        ∙ or_false (old.was_up node leg) (up_of r w.company (told_to w change) node leg)
        (none node leg)

    -- ---- what was heard

    record Hears (after : Company C S I O) : Type 0 where
      client : (leg : Leg) → heard_on leg (told_to w change Client) ≡ fed_by w change Client leg
      server : (leg : Leg) → heard_on leg (told_to w change Server) ≡ fed_by w change Server leg
      ins : (n : ℕ) (leg : Leg) → IsHeard (in_place after n)
          (heard_on leg (h.ins n ++ at_place (in_place w.company n) (told_to w change (In n))
          (made_by w change (In n)))) (h.fed (In n) leg ++ fed_by w change (In n) leg)
      outs : (n : ℕ) (leg : Leg) → IsHeard (out_place after n)
          (heard_on leg (h.outs n ++ at_place (out_place w.company n) (told_to w change (Out n))
          (made_by w change (Out n)))) (h.fed (Out n) leg ++ fed_by w change (Out n) leg)

    hears_all : (v : World K C S I O) → Hears v.company → AreHeard v (noted w h change)
    hears_all v k = record {
      client = λ leg.
          ap (heard_on leg) (happened_more r.client d.client first.client w.company.client
          h.client (told_to w change Client) change side.Client t.runs.client)
          ∙ heard_append leg (happened h.client) (told_to w change Client)
          ∙ ap₂ (λ a b. a ++ b) (t.heard.client leg) (k.client leg);
      server = λ leg.
          ap (heard_on leg) (happened_more r.server d.server first.server w.company.server
          h.server (told_to w change Server) change side.Server t.runs.server)
          ∙ heard_append leg (happened h.server) (told_to w change Server)
          ∙ ap₂ (λ a b. a ++ b) (t.heard.server leg) (k.server leg);
      ins = k.ins;
      outs = k.outs;
    }

  abbrev quiet_in : (n : ℕ) (leg : Leg) → IsHeard (in_place w.company n)
      (heard_on leg (h.ins n ++ at_place (in_place w.company n) [] []))
      (h.fed (In n) leg ++ [])
  quiet_in n leg =
      hear_none r.in_proxy leg (in_place w.company n) (h.ins n) (h.fed (In n) leg)
      (t.heard.ins n leg)

  abbrev quiet_out : (n : ℕ) (leg : Leg) → IsHeard (out_place w.company n)
      (heard_on leg (h.outs n ++ at_place (out_place w.company n) [] []))
      (h.fed (Out n) leg ++ [])
  quiet_out n leg =
      hear_none r.out_proxy leg (out_place w.company n) (h.outs n) (h.fed (Out n) leg)
      (t.heard.outs n leg)

  -- where an event happens to a node that hears nothing by it
  module _ (after : Company C S I O) (node : Who) (e : moving.Event) (quiet : is_hears e ≡ false)
      (me : Meets r w.company after node e) where
    abbrev met_in : (n : ℕ) (leg : Leg) → IsHeard (in_place after n)
        (heard_on leg (h.ins n ++ at_place (in_place w.company n) (to_node node (In n) e) []))
        (h.fed (In n) leg ++ [])
    met_in n leg =
        hear_on r.in_proxy leg (in_place w.company n) (in_place after n) (h.ins n)
        (to_node node (In n) e) (h.fed (In n) leg) [] (me.ins n)
        (unheard leg e quiet (is_same node (In n))) (λ absent. refl) (t.heard.ins n leg)

    abbrev met_out : (n : ℕ) (leg : Leg) → IsHeard (out_place after n)
        (heard_on leg (h.outs n ++ at_place (out_place w.company n) (to_node node (Out n) e) []))
        (h.fed (Out n) leg ++ [])
    met_out n leg =
        hear_on r.out_proxy leg (out_place w.company n) (out_place after n) (h.outs n)
        (to_node node (Out n) e) (h.fed (Out n) leg) [] (me.outs n)
        (unheard leg e quiet (is_same node (Out n))) (λ absent. refl) (t.heard.outs n leg)

  -- ---- all but the runs

  record Traces (change : Change) (v : World K C S I O) : Type 0 where
    accepts : AllAccept r w.company (told_to w change)
    carried : AreCarried (new change) v.legs v.readers
    hears : Hears change v.company
    zero : in_place v.company 0 ≡ Absent

  -- ---- something is told

  told_hears : (node : Who) (event : Event) → MayChange r w (IsTold node event)
      → is_hears (heard event) ≡ false
  told_hears node (Comes leg piece) may = absurd may
  told_hears node (Ends leg) may = refl
  told_hears node (Breaks leg) may = refl
  told_hears node (Passes now) may = refl

  traces_told : (node : Who) (event : Event) → MayChange r w (IsTold node event)
      → Traces (IsTold node event) (changed r m d w (IsTold node event))
  traces_told node event may =
      let c = IsTold node event in
      let after = (company.tell r w.company node event).0 in
      let e = heard event in
      let me = tell_meets r w.company node event in
      let quiet = told_hears node event may in
      record {
        accepts = none_accepts r w.company node e (told_comes event);
        carried = kept_quiet old (new c) w.legs w.readers t.carried
            (same_drawn c (none_drawn r w.company node e (told_draws event)))
            (same_fed c (λ other leg. refl))
            (same_up c (none_up r w.company node e (told_comes event)));
        hears = record {
          client = λ leg. unheard leg e quiet (is_same node Client);
          server = λ leg. unheard leg e quiet (is_same node Server);
          ins = met_in after node e quiet me;
          outs = met_out after node e quiet me;
        };
        zero = absent_stays r.in_proxy (in_place w.company 0) (in_place after 0)
            (to_node node (In 0) e) (me.ins 0) t.zero;
      }

  -- ---- bytes are fed

  -- a proxy that was never made is not fed
  never_fed : (events : List moving.Event) (leg : Leg) → came_up leg events ≡ true
      → events ≡ [] → ⊥
  never_fed events leg up none = true≢false (sym up ∙ ap (came_up leg) none)

  module _ (leg : Leg) (dir : Dir) (count : ℕ) (may : MayChange r w (IsFed leg dir count)) where
    abbrev fed_to : Who
    fed_to = at w leg (receiver dir)

    fed_up : wires.is_up (receiver dir) (wire_at w.legs leg) ≡ true
    fed_up = sym (wired.is_up_at w.legs leg (receiver dir)) ∙ may

    in_not_fed : (n : ℕ) (other : Leg) → in_place w.company n ≡ Absent
        → fed_by w (IsFed leg dir count) (In n) other ≡ []
    in_not_fed n other absent =
        ⊎_elim (λ yes_here. absurd (never_fed (h.ins n) leg
        (subst (λ (x : Who). old.was_up x leg ≡ true)
        (same_who fed_to (In n) (and_parts (same_leg leg other) (is_same fed_to (In n))
        yes_here).1) ((t.carried.each leg dir).take_up fed_up))
        (subst (λ (p : Place I). IsRun r.in_proxy (m.in_proxy w.cast n) (h.ins n) p) absent
        (t.runs.ins n))))
        (λ f. ap (λ b. if b then (legs.take_out leg dir count w.legs).1 else []) f)
        (cases_Bool (same_leg leg other && is_same fed_to (In n)))

    out_not_fed : (n : ℕ) (other : Leg) → out_place w.company n ≡ Absent
        → fed_by w (IsFed leg dir count) (Out n) other ≡ []
    out_not_fed n other absent =
        ⊎_elim (λ yes_here. absurd (never_fed (h.outs n) leg
        (subst (λ (x : Who). old.was_up x leg ≡ true)
        (same_who fed_to (Out n) (and_parts (same_leg leg other) (is_same fed_to (Out n))
        yes_here).1) ((t.carried.each leg dir).take_up fed_up))
        (subst (λ (p : Place O). IsRun r.out_proxy (m.out_proxy w.cast n) (h.outs n) p) absent
        (t.runs.outs n))))
        (λ f. ap (λ b. if b then (legs.take_out leg dir count w.legs).1 else []) f)
        (cases_Bool (same_leg leg other && is_same fed_to (Out n)))

    traces_fed : Traces (IsFed leg dir count) (changed r m d w (IsFed leg dir count))
    traces_fed =
        let c = IsFed leg dir count in
        let piece = (legs.take_out leg dir count w.legs).1 in
        let event = Comes leg piece in
        let e = moving.Hears leg piece in
        let after = (company.tell r w.company fed_to event).0 in
        let me = tell_meets r w.company fed_to event in
        record {
          accepts = none_accepts r w.company fed_to e refl;
          carried = kept_fed old (new c) w.legs w.readers t.carried leg dir
              (same_up c (none_up r w.company fed_to e refl)) count fed_up
              (same_drawn c (none_drawn r w.company fed_to e refl))
              (λ node other. ap (λ x. h.fed node other
              ++ (if same_leg leg other && is_same fed_to node then x else []))
              (wired.taken_here w.legs leg (receiver dir) dir count fed_up));
          hears = record {
            client = λ other. heard_piece other leg piece (is_same fed_to Client);
            server = λ other. heard_piece other leg piece (is_same fed_to Server);
            ins = λ n other. hear_on r.in_proxy other (in_place w.company n) (in_place after n)
                (h.ins n) (to_node fed_to (In n) e) (h.fed (In n) other) (fed_by w c (In n) other)
                (me.ins n) (heard_piece other leg piece (is_same fed_to (In n)))
                (in_not_fed n other) (t.heard.ins n other);
            outs = λ n other. hear_on r.out_proxy other (out_place w.company n)
                (out_place after n) (h.outs n) (to_node fed_to (Out n) e) (h.fed (Out n) other)
                (fed_by w c (Out n) other) (me.outs n)
                (heard_piece other leg piece (is_same fed_to (Out n))) (out_not_fed n other)
                (t.heard.outs n other);
          };
          zero = absent_stays r.in_proxy (in_place w.company 0) (in_place after 0)
              (to_node fed_to (In 0) e) (me.ins 0) t.zero;
        }

  -- ---- bytes are drawn

  traces_drawn : (leg : Leg) (dir : Dir) (count : ℕ) → MayChange r w (IsDrawn leg dir count)
      → Traces (IsDrawn leg dir count) (changed r m d w (IsDrawn leg dir count))
  traces_drawn leg dir count may =
      let c = IsDrawn leg dir count in
      let node = at w leg (sender dir) in
      let e = moving.Draws leg count in
      let did = company.draw r w.company node leg count in
      let after = did.0 in
      let me = draw_meets r w.company node leg count in
      record {
        accepts = none_accepts r w.company node e refl;
        carried = kept_drawn old (new c) w.legs w.readers t.carried leg dir
            (same_up c (none_up r w.company node e refl)) did.1
            (sym (wired.is_up_at w.legs leg (sender dir)) ∙ may)
            (λ other beside. drawn_more r m d first w h t.runs c other beside
            ∙ ap (λ x. old.drawn other beside ++ x)
            (drawn_there r w.company node leg count other beside))
            (same_fed c (λ other beside. refl));
        hears = record {
          client = λ other. unheard other e refl (is_same node Client);
          server = λ other. unheard other e refl (is_same node Server);
          ins = met_in after node e refl me;
          outs = met_out after node e refl me;
        };
        zero = absent_stays r.in_proxy (in_place w.company 0) (in_place after 0)
            (to_node node (In 0) e) (me.ins 0) t.zero;
      }

  -- ---- a leg comes up

  -- there is no in proxy 0
  not_zero : (node : Who) (leg : Leg) → company.may_up r w.company node leg ≡ true
      → is_same node (In 0) ≡ false
  not_zero node leg may =
      ⊎_elim (λ same. absurd (false≢true (ap (places.may_up r.in_proxy leg) (sym t.zero)
      ∙ sym (in_may r w.company 0 leg)
      ∙ subst (λ (x : Who). company.may_up r w.company x leg ≡ true)
      (same_who node (In 0) same) may))) (λ f. f) (cases_Bool (is_same node (In 0)))

  stands_there : (node : Who) (leg : Leg) (end : Side)
      → company.may_up r w.company node leg ≡ true → StandsAt w node leg end
      → end_node w.readers leg end ≡ node
  stands_there node leg end may (inl stands) = stands
  stands_there node leg end may (inr is) =
      ap (end_node w.readers leg) is.1
      ∙ client_end w.readers leg (once.own h.client leg t.accepted.client
      (ap (λ (s : Shell C). shell.may_up r.client s leg) (sym t.runs.client)
      ∙ subst (λ (x : Who). company.may_up r w.company x leg ≡ true) is.0 may))
      ∙ sym is.0

  traces_up : (node : Who) (leg : Leg) (end : Side) (cookie : Cookie)
      → MayChange r w (RaisesAlone node leg end cookie)
      → Traces (GoesUp node leg end cookie) (changed r m d w (GoesUp node leg end cookie))
  traces_up node leg end cookie may =
      let c = GoesUp node leg end cookie in
      let e = moving.ComesUp leg cookie in
      let after = company.up r w.company node leg cookie in
      let me = up_meets r w.company node leg cookie in
      let up = may_come r m d first w h t.runs t.accepted once node leg may.0 in
      let stands = stands_there node leg end up may.1 in
      record {
        accepts = up_accepts r w.company node leg cookie up;
        carried = kept_raised old (new c) w.legs w.readers t.carried
            (same_drawn c (none_drawn r w.company node e refl))
            (same_fed c (λ other beside. refl)) leg end
            (ap (λ x. old.was_up x leg) stands
            ∙ never_up r m d first w h t.runs t.accepted once node leg up)
            (ap (λ x. is_same x (In 0)) stands ∙ not_zero node leg up)
            (λ other beside. up_more r m d first w h t.runs c other beside
            ∙ ap (λ b. old.was_up other beside || b)
            (up_there r w.company node leg cookie up other beside
            ∙ ap (λ x. is_here x leg other beside) (sym stands)));
        hears = record {
          client = λ other. unheard other e refl (is_same node Client);
          server = λ other. unheard other e refl (is_same node Server);
          ins = met_in after node e refl me;
          outs = met_out after node e refl me;
        };
        zero = absent_stays r.in_proxy (in_place w.company 0) (in_place after 0)
            (to_node node (In 0) e) (me.ins 0) t.zero;
      }

  -- ---- or down

  traces_down : (node : Who) (leg : Leg) (end : Side) → MayChange r w (GoesDown node leg end)
      → Traces (GoesDown node leg end) (changed r m d w (GoesDown node leg end))
  traces_down node leg end may =
      let c = GoesDown node leg end in
      record {
        accepts = silent_accepts r w.company;
        carried = kept_lowered old (new c) w.legs w.readers t.carried
            (same_drawn c (silent_drawn r w.company)) (same_fed c (λ other beside. refl)) leg end
            (sym (wired.is_up_at w.legs leg end) ∙ may.up)
            (same_up c (silent_up r w.company));
        hears = hears_down node;
        zero = zero_down node;
      }
    where
      hears_down : (node : Who)
          → Hears (GoesDown node leg end) (company.leave r w.company node)
      hears_down Client = record {
        client = λ other. refl;
        server = λ other. refl;
        ins = quiet_in;
        outs = quiet_out;
      }
      hears_down Server = record {
        client = λ other. refl;
        server = λ other. refl;
        ins = quiet_in;
        outs = quiet_out;
      }
      hears_down (In k) = record {
        client = λ other. refl;
        server = λ other. refl;
        ins = λ n other. hear_leaving r.in_proxy other w.company.ins k n (h.ins n)
            (h.fed (In n) other) (t.heard.ins n other);
        outs = quiet_out;
      }
      hears_down (Out k) = record {
        client = λ other. refl;
        server = λ other. refl;
        ins = quiet_in;
        outs = λ n other. hear_leaving r.out_proxy other w.company.outs k n (h.outs n)
            (h.fed (Out n) other) (t.heard.outs n other);
      }

      zero_down : (node : Who) → in_place (company.leave r w.company node) 0 ≡ Absent
      zero_down Client = t.zero
      zero_down Server = t.zero
      zero_down (In k) = absent_leaves r.in_proxy w.company.ins k 0 t.zero
      zero_down (Out k) = t.zero

  -- ---- a leg of the client is up for it

  client_up : (leg : Leg) → IsTrue (may_have r w Client leg)
      → company.may_up r w.company Client leg ≡ true
  client_up leg may = may_come r m d first w h t.runs t.accepted once Client leg may

  client_never : (leg : Leg) → IsTrue (may_have r w Client leg) → old.was_up Client leg ≡ false
  client_never leg may =
      never_up r m d first w h t.runs t.accepted once Client leg (client_up leg may)

  traces_open_in : (n : ℕ) (cookie : Cookie) → MayChange r w (OpensIn n cookie)
      → Traces (OpensIn n cookie) (changed r m d w (OpensIn n cookie))
  traces_open_in n cookie may =
      let c = OpensIn n cookie in
      let leg = leg_at ClientIn n in
      let e = moving.ComesUp leg cookie in
      let up = client_up leg may.2 in
      let made = Here (shell.tick r.in_proxy (m.in_proxy w.cast n) w.now).0 0 in
      let absent = absent_is (in_place w.company n)
      (sym (asked Absent is_absent w.company.ins n) ∙ may.1) in
      let above : 0 < n = ltb-true 0 n may.0 in
      record {
        accepts = up_accepts r w.company Client leg cookie up;
        carried = kept_opened old (new c) w.legs w.readers t.carried
            (same_drawn c (none_drawn r w.company Client e refl))
            (same_fed c (λ other beside. refl)) n n (client_never leg may.2)
            (λ other beside. up_more r m d first w h t.runs c other beside
            ∙ ap (λ b. old.was_up other beside || b)
            (up_there r w.company Client leg cookie up other beside));
        hears = record {
          client = λ other. refl;
          server = λ other. refl;
          ins = λ k other. hear_made r.in_proxy other (m.in_proxy w.cast) w.company.ins n w.now
              made (λ heard fed same. same) absent k (h.ins k) (h.fed (In k) other)
              (t.runs.ins k) (t.heard.ins k other);
          outs = quiet_out;
        };
        zero = put_elsewhere Absent w.company.ins n 0 made (λ is. absurd (omega (arith, above, is)))
            ∙ t.zero;
      }

  traces_open_out : (n : ℕ) (cookie : Cookie) → MayChange r w (OpensOut n cookie)
      → Traces (OpensOut n cookie) (changed r m d w (OpensOut n cookie))
  traces_open_out n cookie may =
      let c = OpensOut n cookie in
      let leg = leg_at ClientOut n in
      let e = moving.ComesUp leg cookie in
      let up = client_up leg may.2 in
      let made = Here (shell.tick r.out_proxy (m.out_proxy w.cast n) w.now).0 0 in
      let absent = absent_is (out_place w.company n)
      (sym (asked Absent is_absent w.company.outs n) ∙ may.1) in
      record {
        accepts = up_accepts r w.company Client leg cookie up;
        carried = kept_raised old (new c) w.legs w.readers t.carried
            (same_drawn c (none_drawn r w.company Client e refl))
            (same_fed c (λ other beside. refl)) leg side.Client (client_never leg may.2) refl
            (λ other beside. up_more r m d first w h t.runs c other beside
            ∙ ap (λ b. old.was_up other beside || b)
            (up_there r w.company Client leg cookie up other beside));
        hears = record {
          client = λ other. refl;
          server = λ other. refl;
          ins = quiet_in;
          outs = λ k other. hear_made r.out_proxy other (m.out_proxy w.cast) w.company.outs n
              w.now made (λ heard fed same. same) absent k (h.outs k) (h.fed (Out k) other)
              (t.runs.outs k) (t.heard.outs k other);
        };
        zero = t.zero;
      }

  module _ (n : ℕ) (cookie : Cookie) (may : MayChange r w (OpensSame n cookie)) where
    abbrev same_leg_up : Leg
    same_leg_up = leg_at ClientIn n

    abbrev same_reader : Who
    same_reader = In (reader_before w n)

    abbrev same_change : Change
    same_change = OpensSame n cookie

    reader_up : company.may_up r w.company same_reader same_leg_up ≡ true
    reader_up = may_come r m d first w h t.runs t.accepted once same_reader same_leg_up may.1

    -- it comes up for the client, and for the proxy
    same_up_of : (node : Who) (beside : Leg)
        → up_of r w.company (told_to w same_change) node beside
        ≡ (is_here Client same_leg_up node beside || is_here same_reader same_leg_up node beside)
    same_up_of Client beside =
        up_there r w.company Client same_leg_up cookie (client_up same_leg_up may.0) Client beside
        ∙ sym (or_false (is_here Client same_leg_up Client beside)
        (is_here same_reader same_leg_up Client beside)
        (not_other same_reader same_leg_up Client beside refl))
    same_up_of Server beside =
        sym (or_false (is_here Client same_leg_up Server beside)
        (is_here same_reader same_leg_up Server beside)
        (not_other same_reader same_leg_up Server beside refl)
        ∙ not_other Client same_leg_up Server beside refl)
    same_up_of (In k) beside =
        up_there r w.company same_reader same_leg_up cookie reader_up (In k) beside
        ∙ ap (λ b. b || is_here same_reader same_leg_up (In k) beside)
        (sym (not_other Client same_leg_up (In k) beside refl))
    same_up_of (Out k) beside =
        silent_up r w.company (Out k) beside
        ∙ sym (or_false (is_here Client same_leg_up (Out k) beside)
        (is_here same_reader same_leg_up (Out k) beside)
        (not_other same_reader same_leg_up (Out k) beside refl)
        ∙ not_other Client same_leg_up (Out k) beside refl)

    same_undrawn : (node : Who) (leg : Leg)
        → drawn_of r w.company (told_to w same_change) node leg ≡ []
    same_undrawn Client leg =
        none_drawn r w.company Client (moving.ComesUp same_leg_up cookie) refl Client leg
    same_undrawn Server leg = silent_drawn r w.company Server leg
    same_undrawn (In k) leg =
        none_drawn r w.company same_reader (moving.ComesUp same_leg_up cookie) refl (In k) leg
    same_undrawn (Out k) leg = silent_drawn r w.company (Out k) leg

    -- where it is up for the client alone
    abbrev half_way : Ledger
    half_way = record {
      drawn = old.drawn;
      fed = old.fed;
      was_up = λ node leg. old.was_up node leg || is_here Client same_leg_up node leg;
    }

    abbrev same_readers : List ℕ
    same_readers = with_reader w.readers n (reader_before w n)

    same_carried : AreCarried (new same_change)
        (legs.raise same_leg_up side.Server (legs.raise same_leg_up side.Client w.legs))
        same_readers
    same_carried =
        let half = kept_opened old half_way w.legs w.readers t.carried (λ node leg. refl)
        (λ node leg. refl) n (reader_before w n) (client_never same_leg_up may.0)
        (λ node leg. refl) in
        let is : end_node same_readers same_leg_up side.Server ≡ same_reader =
        ap In (asked 0 (λ k. k) same_readers n ∙ put_here 0 w.readers n (reader_before w n)) in
        kept_raised half_way (new same_change) (legs.raise same_leg_up side.Client w.legs)
        same_readers half (same_drawn same_change same_undrawn)
        (same_fed same_change (λ node leg. refl)) same_leg_up side.Server
        (ap (λ x. half_way.was_up x same_leg_up) is
        ∙ or_false (old.was_up same_reader same_leg_up)
        (is_here Client same_leg_up same_reader same_leg_up)
        (not_other Client same_leg_up same_reader same_leg_up refl)
        ∙ never_up r m d first w h t.runs t.accepted once same_reader same_leg_up reader_up)
        (ap (λ x. is_same x (In 0)) is ∙ not_zero same_reader same_leg_up reader_up)
        (λ node leg. up_more r m d first w h t.runs same_change node leg
        ∙ ap (λ b. old.was_up node leg || b) (same_up_of node leg)
        ∙ or_assoc (old.was_up node leg) (is_here Client same_leg_up node leg)
        (is_here same_reader same_leg_up node leg)
        ∙ ap (λ x. half_way.was_up node leg || is_here x same_leg_up node leg) (sym is))

    traces_open_same : Traces (OpensSame n cookie) (changed r m d w (OpensSame n cookie))
    traces_open_same =
        let e = moving.ComesUp same_leg_up cookie in
        let client = company.up r w.company Client same_leg_up cookie in
        let after = company.up r client same_reader same_leg_up cookie in
        let me = up_meets r client same_reader same_leg_up cookie in
        record {
          accepts = record {
            client = (up_accepts r w.company Client same_leg_up cookie
                (client_up same_leg_up may.0)).client;
            server = tt;
            ins = (up_accepts r w.company same_reader same_leg_up cookie reader_up).ins;
            outs = (silent_accepts r w.company).outs;
          };
          carried = same_carried;
          hears = record {
            client = λ other. refl;
            server = λ other. refl;
            ins = λ k other. hear_on r.in_proxy other (in_place w.company k) (in_place after k)
                (h.ins k) (to_node same_reader (In k) e) (h.fed (In k) other) [] (me.ins k)
                (unheard other e refl (is_same same_reader (In k))) (λ absent. refl)
                (t.heard.ins k other);
            outs = quiet_out;
          };
          zero = absent_stays r.in_proxy (in_place w.company 0) (in_place after 0)
              (to_node same_reader (In 0) e) (me.ins 0) t.zero;
        }

  -- ---- the acts of an end, and what is noted

  abbrev quiet_carried : (c : Change)
      → ((node : Who) (leg : Leg) → drawn_of r w.company (told_to w c) node leg ≡ [])
      → ((node : Who) (leg : Leg) → fed_by w c node leg ≡ [])
      → ((node : Who) (leg : Leg) → up_of r w.company (told_to w c) node leg ≡ false)
      → AreCarried (new c) w.legs w.readers
  quiet_carried c drawn fed up =
      kept_quiet old (new c) w.legs w.readers t.carried (same_drawn c drawn) (same_fed c fed)
      (same_up c up)

  acted : {c : Change} {v : World K C S I O} → AreCarried (new c) v.legs v.readers
      → AllAccept r w.company (told_to w c) → Hears c v.company → in_place v.company 0 ≡ Absent
      → Traces c v
  acted carried accepts hears zero =
      record { accepts = accepts; carried = carried; hears = hears; zero = zero }

  traces : (change : Change) → MayChange r w change
      → Traces change (changed r m d w change)
  traces (IsTold node event) may = traces_told node event may
  traces (IsFed leg dir count) may = traces_fed leg dir count may
  traces (IsDrawn leg dir count) may = traces_drawn leg dir count may
  traces (GoesUp node leg end cookie) may = traces_up node leg end cookie (may.0, may.1)
  traces (RaisesAlone node leg end cookie) may =
      let k = traces_up node leg end cookie may in
      record {
        accepts = k.accepts;
        carried = k.carried;
        hears = record {
          client = k.hears.client;
          server = k.hears.server;
          ins = k.hears.ins;
          outs = k.hears.outs;
        };
        zero = k.zero;
      }
  traces (GoesDown node leg end) may = traces_down node leg end may
  traces (OpensIn n cookie) may = traces_open_in n cookie may
  traces (OpensOut n cookie) may = traces_open_out n cookie may
  traces (OpensSame n cookie) may = traces_open_same n cookie may
  traces (Gives side.Client pdu) may =
      acted (quiet_carried (Gives side.Client pdu) (silent_drawn r w.company) (λ other beside. refl)
      (silent_up r w.company)) (silent_accepts r w.company)
      (record { client = λ other. refl; server = λ other. refl; ins = quiet_in; outs = quiet_out })
      t.zero
  traces (Gives side.Server pdu) may =
      acted (quiet_carried (Gives side.Server pdu) (silent_drawn r w.company) (λ other beside. refl)
      (silent_up r w.company)) (silent_accepts r w.company)
      (record { client = λ other. refl; server = λ other. refl; ins = quiet_in; outs = quiet_out })
      t.zero
  traces (Takes side.Client) may =
      acted (quiet_carried (Takes side.Client) (silent_drawn r w.company) (λ other beside. refl)
      (silent_up r w.company)) (silent_accepts r w.company)
      (record { client = λ other. refl; server = λ other. refl; ins = quiet_in; outs = quiet_out })
      t.zero
  traces (Takes side.Server) may =
      acted (quiet_carried (Takes side.Server) (silent_drawn r w.company) (λ other beside. refl)
      (silent_up r w.company)) (silent_accepts r w.company)
      (record { client = λ other. refl; server = λ other. refl; ins = quiet_in; outs = quiet_out })
      t.zero
  traces (Closes side.Client) may =
      acted (quiet_carried (Closes side.Client) (silent_drawn r w.company) (λ other beside. refl)
      (silent_up r w.company)) (silent_accepts r w.company)
      (record { client = λ other. refl; server = λ other. refl; ins = quiet_in; outs = quiet_out })
      t.zero
  traces (Closes side.Server) may =
      acted (quiet_carried (Closes side.Server) (silent_drawn r w.company) (λ other beside. refl)
      (silent_up r w.company)) (silent_accepts r w.company)
      (record { client = λ other. refl; server = λ other. refl; ins = quiet_in; outs = quiet_out })
      t.zero
  traces change may =
      acted (quiet_carried change (silent_drawn r w.company) (λ other beside. refl)
      (silent_up r w.company)) (silent_accepts r w.company)
      (record { client = λ other. refl; server = λ other. refl; ins = quiet_in; outs = quiet_out })
      t.zero

  -- ---- all of it

  pub change_is_traced : (change : Change) → MayChange r w change
      → IsTraced r m d first (changed r m d w change) (noted w h change)
  change_is_traced change may =
      let v = changed r m d w change in
      let k = traces change may in
      let cast = sym (cast_stays r m d w change) in
      record {
        runs = change_is_noted r m d first w h change may t.runs;
        accepted = subst (λ (x : K). AllAccepted r m d first x (noted w h change)) cast
            (accepted_more r m d first w h t.runs change t.accepted k.accepts);
        carried = subst (λ (x : K). AreCarried (ledger r m d first x (noted w h change)) v.legs
            v.readers) cast k.carried;
        heard = hears_all change v k.hears;
        zero = k.zero;
      }
