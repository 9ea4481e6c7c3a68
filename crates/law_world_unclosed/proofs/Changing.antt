-- the changes of steps: what closes no node, and what they do
use Rattle.law_order.proofs.Vocabulary.{◌≡◌, ◌⊎◌, inl, inr, ℕ, List, [], ◌∷◌, ◌++◌, append_assoc, Bool, true, false, true≢false, nat_lt, if◌then◌else◌, get_or, None, refl, sym, ap, ◌∙◌, subst, and_from, and_parts, cases_eq, list_all, list_all-append}
use Rattle.rh_text.specs.declared.ends.Side.TheVariants as side
use Rattle.rh_record.specs.declared.answer.Who.TheVariants as who
use Rattle.rh_wires.specs.Legs as legs
use Rattle.rh_wires.specs.Wires as wires
use Rattle.rh_company.specs.Company as company
use Rattle.rh_company.specs.Places as places
use Rattle.law_moves.proofs.Vocabulary.{Dir, U, D, by_test, Cause, Leg, LegKind, ClientOut, OutServer, ClientIn, InServer, Rules}
use Rattle.law_moves.specs.Moving as moving
use Rattle.law_node_history.proofs.Vocabulary.{Who, Legs, Wire, change, receiver, sender, Comes, Ends, Breaks, Passes, Place, Absent, Here, Gone, Rulebook, is_up, end_leg, lose, lost, Deeds, Makers, at_moment, leg_at, is_finished, World, at, wire_at, AreAllowed, Change, IsTold, IsFed, IsDrawn, GoesUp, RaisesAlone, GoesDown, OpensIn, OpensOut, OpensSame, Gives, Takes, Closes, RecyclesIn, RecyclesOut, MovesTo, Draws, Reports, MayChange, Works, all_changed, changed, is_work, of_line, ClosesNode, IsClosedBy, History, all_noted, noted, out_place, told_to}
use Rattle.law_node_history.proofs.Lemmas.{Runs, changed_append, changed_here, changes_elsewhere, draw_meets, is_up_at, lower_here, put_elsewhere, tell_meets, up_meets}
use Rattle.law_node_history.proofs.Leading.{allowed_append}
use Rattle.law_world_ways.specs.EndsInTime.Both.{AreUpAtBoth}
use Rattle.law_world_ways.specs.EndsInTime.InTime.{IsOver, ended_by}
use Rattle.law_world_ways.proofs.EndsInTime.Behind.{EndBehind, NoLeg, ends_over}
use Rattle.law_world_ways.proofs.EndsInTime.Both.{up_for}
use Rattle.law_world_calm.proofs.Steps.{Step, IsPlain, EndsLeg, is_plain, AllMayStep, MayStep, all_stepped, stepped}

-- ---- plain changes

pub plain_line : (c : Change) → is_plain c ≡ true → of_line c ≡ true
plain_line (IsTold node event) plain = refl
plain_line (GoesDown node leg end) plain = refl
plain_line Reports plain = refl
plain_line c plain = plain

pub plain_work : (c : Change) → is_plain c ≡ true → is_work c ≡ true
plain_work (IsTold node event) plain = refl
plain_work (GoesDown node leg end) plain = refl
plain_work Reports plain = absurd cc
plain_work c plain = plain

pub plain_ends_none : (c : Change) → is_plain c ≡ true → ended_by c ≡ None
plain_ends_none (IsTold node (Comes leg piece)) plain = refl
plain_ends_none (IsTold node (Ends leg)) plain = absurd cc
plain_ends_none (IsTold node (Breaks leg)) plain = absurd cc
plain_ends_none (IsTold node (Passes now)) plain = refl
plain_ends_none (GoesDown node leg end) plain = absurd cc
plain_ends_none c plain = refl

-- ---- a wire

kept : (dir : Dir) (wire : Wire) → wires.is_up (receiver dir) wire ≡ true
    → wires.is_up (receiver dir) (wires.lower (sender dir) wire) ≡ true
kept U wire up =
    by_test (λ (x : Wire). x.server ≡ true) wire.server (record wire { client = false })
    wires.blank (λ e. e) (λ e. absurd (true≢false (sym up ∙ e)))
kept D wire up =
    by_test (λ (x : Wire). x.client ≡ true) wire.client (record wire { server = false })
    wires.blank (λ e. e) (λ e. absurd (true≢false (sym up ∙ e)))

-- the end that is told last is still up
still_up : (all : Legs) (leg : Leg) (dir : Dir) → legs.is_up leg (receiver dir) all ≡ true
    → legs.is_up leg (receiver dir) (legs.lower leg (sender dir) all) ≡ true
still_up all leg dir up =
    is_up_at (legs.lower leg (sender dir) all) leg (receiver dir)
    ∙ ap (wires.is_up (receiver dir)) (lower_here all leg (sender dir))
    ∙ kept dir (wire_at all leg) (sym (is_up_at all leg (receiver dir)) ∙ up)

-- ---- there is no out proxy 0

runs_absent : {S : Type 0} (rules : Rules S) (p q : Place S) (es : List moving.Event)
    → p ≡ Absent → Runs rules p q es → q ≡ Absent
runs_absent rules Absent q es is run = run
runs_absent rules (Here node count) q es is run = absurd cc
runs_absent rules (Gone now) q es is run = absurd cc

absent_stays : {S : Type 0} (f : Place S → Place S) → f Absent ≡ Absent
    → (list : List (Place S)) (k n : ℕ) → get_or list n Absent ≡ Absent
    → get_or (change f list k) n Absent ≡ Absent
absent_stays f idle list k n is = by (cases_eq n k)
  where
    by : (n ≡ k) ⊎ (n ≡ k → ⊥) → get_or (change f list k) n Absent ≡ Absent
    by (inl same) =
        ap (λ (j : ℕ). get_or (change f list j) n Absent) (sym same)
        ∙ changed_here Absent f idle list n ∙ ap f is ∙ idle
    by (inr other) = changes_elsewhere Absent f list k n other ∙ is

module _ {K C S I O : Type 0} (r : Rulebook C S I O) (m : Makers K I O) (d : Deeds C S) where
  module _ (w : World K C S I O) (none : out_place w.company 0 ≡ Absent) where
    left : (node : Who) → out_place (company.leave r w.company node) 0 ≡ Absent
    left who.Client = none
    left who.Server = none
    left (who.In k) = none
    left (who.Out k) = absent_stays (places.leave r.out_proxy) refl w.company.outs k 0 none

    abbrev Zero : Change → Type 0
    Zero c = out_place (changed r m d w c).company 0 ≡ Absent

    pub zero_after : (c : Change) → MayChange r w c → Zero c
    zero_after (IsTold node event) may =
        runs_absent r.out_proxy (out_place w.company 0)
        (out_place (changed r m d w (IsTold node event)).company 0)
        (told_to w (IsTold node event) (who.Out 0)) none
        ((tell_meets r w.company node event).outs 0)
    zero_after (IsFed leg dir count) may =
        runs_absent r.out_proxy (out_place w.company 0)
        (out_place (changed r m d w (IsFed leg dir count)).company 0)
        (told_to w (IsFed leg dir count) (who.Out 0)) none
        ((tell_meets r w.company (at w leg (receiver dir))
        (Comes leg (legs.take_out leg dir count w.legs).1)).outs 0)
    zero_after (IsDrawn leg dir count) may =
        runs_absent r.out_proxy (out_place w.company 0)
        (out_place (changed r m d w (IsDrawn leg dir count)).company 0)
        (told_to w (IsDrawn leg dir count) (who.Out 0)) none
        ((draw_meets r w.company (at w leg (sender dir)) leg count).outs 0)
    zero_after (GoesUp node leg end cookie) may =
        runs_absent r.out_proxy (out_place w.company 0)
        (out_place (changed r m d w (GoesUp node leg end cookie)).company 0)
        (told_to w (GoesUp node leg end cookie) (who.Out 0)) none
        ((up_meets r w.company node leg cookie).outs 0)
    zero_after (RaisesAlone node leg end cookie) may =
        runs_absent r.out_proxy (out_place w.company 0)
        (out_place (changed r m d w (RaisesAlone node leg end cookie)).company 0)
        (told_to w (RaisesAlone node leg end cookie) (who.Out 0)) none
        ((up_meets r w.company node leg cookie).outs 0)
    zero_after (GoesDown node leg end) may = left node
    zero_after (OpensIn k cookie) may = none
    zero_after (OpensOut k cookie) may =
        put_elsewhere Absent w.company.outs k 0
        (Here (at_moment r.out_proxy (m.out_proxy w.cast k) w.now) 0)
        (λ same. true≢false
        (sym (subst (λ (j : ℕ). nat_lt 0 j ≡ true) (sym same) may.0)))
        ∙ none
    zero_after (OpensSame k cookie) may = none
    zero_after (Gives side.Client pdu) may = none
    zero_after (Gives side.Server pdu) may = none
    zero_after (Takes side.Client) may = none
    zero_after (Takes side.Server) may = none
    zero_after (Closes side.Client) may = none
    zero_after (Closes side.Server) may = none
    zero_after RecyclesIn may = none
    zero_after RecyclesOut may = none
    zero_after (MovesTo now) may = none
    zero_after (Draws cookies) may = none
    zero_after Reports may = none

  pub zero_behind : (w : World K C S I O) (cs : List Change) → AreAllowed r m d w cs
      → out_place w.company 0 ≡ Absent → out_place (all_changed r m d w cs).company 0 ≡ Absent
  zero_behind w [] allowed none = none
  zero_behind w (c ∷ cs) allowed none =
      zero_behind (changed r m d w c) cs allowed.1 (zero_after w none c allowed.0)

  -- ---- lists of changes

  pub noted_behind : (w : World K C S I O) (h : History) (cs ds : List Change)
      → all_noted r m d w h (cs ++ ds)
      ≡ all_noted r m d (all_changed r m d w cs) (all_noted r m d w h cs) ds
  noted_behind w h [] ds = refl
  noted_behind w h (c ∷ cs) ds = noted_behind (changed r m d w c) (noted w h c) cs ds

  -- none of them closes a node
  abbrev pub AllOpen : World K C S I O → List Change → Type 0
  AllOpen w [] = Unit {0}
  AllOpen w (c ∷ cs) =
      ((node : Who) (why : Cause) → ClosesNode r w c node why → ⊥)
      × AllOpen (changed r m d w c) cs

  pub open_append : (w : World K C S I O) (cs ds : List Change) → AllOpen w cs
      → AllOpen (all_changed r m d w cs) ds → AllOpen w (cs ++ ds)
  open_append w [] ds a b = b
  open_append w (c ∷ cs) ds a b = (a.0, open_append (changed r m d w c) cs ds a.1 b)

  open_at : (w : World K C S I O) (ds before : List Change) (c : Change) (after : List Change)
      (node : Who) (why : Cause) → AllOpen w ds → ds ≡ before ++ c ∷ after
      → ClosesNode r (all_changed r m d w before) c node why → ⊥
  open_at w [] [] c after node why open_still split closes = absurd cc
  open_at w [] (x ∷ before) c after node why open_still split closes = absurd cc
  open_at w (e ∷ ds) [] c after node why open_still split closes =
      let same : e ≡ c = cc in
      open_still.0 node why (subst (λ (x : Change). ClosesNode r w x node why) (sym same) closes)
  open_at w (e ∷ ds) (x ∷ before) c after node why open_still split closes =
      let same : x ≡ e = cc in
      let rest : ds ≡ before ++ c ∷ after = cc in
      open_at (changed r m d w e) ds before c after node why open_still.1 rest
      (subst (λ (y : Change).
      ClosesNode r (all_changed r m d (changed r m d w y) before) c node why) same closes)

  pub none_closed : (w : World K C S I O) (ds : List Change) → AllOpen w ds → (node : Who)
      (why : Cause) → IsClosedBy r m d w ds node why → ⊥
  none_closed w ds open_still node why by =
      open_at w ds by.before by.change by.after node why open_still by.split by.closes

  -- ---- a leg that ends

  abbrev pub ending : World K C S I O → Leg → Dir → List Change
  ending w leg dir =
      IsTold (at w leg (sender dir)) (Breaks leg)
      ∷ GoesDown (at w leg (sender dir)) leg (sender dir)
      ∷ IsTold (at w leg (receiver dir)) (Ends leg)
      ∷ GoesDown (at w leg (receiver dir)) leg (receiver dir) ∷ []

  module _ (w : World K C S I O) (leg : Leg) (dir : Dir) (both : AreUpAtBoth w)
      (up : is_up w leg ≡ true) (done : is_finished r leg dir w ≡ true) where
    pub up_there : legs.is_up leg (sender dir) w.legs ≡ true
    up_there = up_for w leg (sender dir) both up

    pub up_here : legs.is_up leg (receiver dir) w.legs ≡ true
    up_here = up_for w leg (receiver dir) both up

    abbrev behind_one : World K C S I O
    behind_one =
        all_changed r m d w (IsTold (at w leg (sender dir)) (Breaks leg)
        ∷ GoesDown (at w leg (sender dir)) leg (sender dir) ∷ [])

    pub up_still : legs.is_up leg (receiver dir) behind_one.legs ≡ true
    up_still = still_up w.legs leg dir up_here

    pub ending_allowed : AreAllowed r m d w (ending w leg dir)
    ending_allowed = (
      inl (sender dir, record { stands = refl; up = up_there }),
      (
        record { stands = refl; up = up_there },
        (
          (receiver dir, record { stands = refl; up = up_still }),
          (record { stands = refl; up = up_still }, tt),
        ),
      ),
    )

    parts : (company.finished r w.company (at w leg (sender dir)) leg ≡ true)
        × (legs.is_clear leg dir w.legs ≡ true)
    parts =
        and_parts (company.finished r w.company (at w leg (sender dir)) leg)
        (legs.is_clear leg dir w.legs) done

    pub ending_is : (end_leg r w leg dir).0 ≡ all_changed r m d w (ending w leg dir)
    ending_is =
        ap (λ (b : Bool). let did : World K C S I O × Bool = if b
        then (lose r (lose r w leg (sender dir) (Breaks leg)) leg (receiver dir) (Ends leg), true)
        else (w, false) in did.0)
        (and_from (is_up w leg) (legs.is_clear leg dir w.legs) up parts.1)
        ∙ ap (λ (b : Bool). lose r
        (if b then lost r w (at w leg (sender dir)) leg (sender dir) (Breaks leg) else w) leg
        (receiver dir) (Ends leg)) up_there
        ∙ ap (λ (b : Bool). if b
        then lost r behind_one (at w leg (receiver dir)) leg (receiver dir) (Ends leg)
        else behind_one) up_still

    over : IsOver r w leg
    over = record { dir = dir; up = up_there; done = done }

    pub ending_in_time : EndBehind r m d NoLeg w (ending w leg dir)
    ending_in_time =
        ends_over r m d (λ (other : Leg). other ≡ leg) NoLeg w
        (λ other is. inr (subst (λ (one : Leg). IsOver r w one) (sym is) over))
        (ending w leg dir)
        (inl refl, (inl (inl refl), (inl (inl (inl refl)), (inl (inl (inl (inl refl))), tt))))

  -- ---- steps

  abbrev pub change_of : World K C S I O → Step → List Change
  change_of w (IsPlain c) = c ∷ []
  change_of w (EndsLeg leg dir) = ending w leg dir

  abbrev pub flat : World K C S I O → List Step → List Change
  flat w [] = []
  flat w (step ∷ steps) =
      change_of w step ++ flat (all_changed r m d w (change_of w step)) steps

  pub same_step : (w : World K C S I O) (step : Step) → MayStep r m d w step
      → stepped r m d w step ≡ all_changed r m d w (change_of w step)
  same_step w (IsPlain c) may = refl
  same_step w (EndsLeg leg dir) may = ending_is w leg dir may.0 may.1 may.2

  step_allowed : (w : World K C S I O) (step : Step) → MayStep r m d w step
      → AreAllowed r m d w (change_of w step)
  step_allowed w (IsPlain c) may = (may.0, tt)
  step_allowed w (EndsLeg leg dir) may = ending_allowed w leg dir may.0 may.1 may.2

  step_works : (w : World K C S I O) (step : Step) → MayStep r m d w step
      → list_all is_work (change_of w step) ≡ true
  step_works w (IsPlain c) may = and_from (is_work c) true (plain_work c may.1) refl
  step_works w (EndsLeg leg dir) may = refl

  pub may_behind : (w : World K C S I O) (step : Step) (steps : List Step)
      → AllMayStep r m d w (step ∷ steps)
      → AllMayStep r m d (all_changed r m d w (change_of w step)) steps
  may_behind w step steps may =
      subst (λ (x : World K C S I O). AllMayStep r m d x steps) (same_step w step may.0) may.1

  pub flat_reached : (w : World K C S I O) (steps : List Step) → AllMayStep r m d w steps
      → all_changed r m d w (flat w steps) ≡ all_stepped r m d w steps
  flat_reached w [] may = refl
  flat_reached w (step ∷ steps) may =
      let v = all_changed r m d w (change_of w step) in
      changed_append r m d w (change_of w step) (flat v steps)
      ∙ flat_reached v steps (may_behind w step steps may)
      ∙ ap (λ (x : World K C S I O). all_stepped r m d x steps) (sym (same_step w step may.0))

  pub flat_allowed : (w : World K C S I O) (steps : List Step) → AllMayStep r m d w steps
      → AreAllowed r m d w (flat w steps)
  flat_allowed w [] may = tt
  flat_allowed w (step ∷ steps) may =
      let v = all_changed r m d w (change_of w step) in
      allowed_append r m d w (change_of w step) (flat v steps) (step_allowed w step may.0)
      (flat_allowed v steps (may_behind w step steps may))

  pub flat_works : (w : World K C S I O) (steps : List Step) → AllMayStep r m d w steps
      → list_all is_work (flat w steps) ≡ true
  flat_works w [] may = refl
  flat_works w (step ∷ steps) may =
      let v = all_changed r m d w (change_of w step) in
      list_all-append is_work (change_of w step) (flat v steps)
      ∙ and_from (list_all is_work (change_of w step)) (list_all is_work (flat v steps))
      (step_works w step may.0) (flat_works v steps (may_behind w step steps may))

  -- steps are changes of a line, before it reports
  abbrev pub steps_work : (w v : World K C S I O) (steps : List Step) → AllMayStep r m d w steps
      → all_stepped r m d w steps ≡ v → Works r m d w v
  steps_work w v steps may reached = record {
    leads = record {
      changes = flat w steps;
      allowed = flat_allowed w steps may;
      reached = flat_reached w steps may ∙ reached;
    };
    work = flat_works w steps may;
  }

  -- what is closed behind a step
  pub closed_later : (w : World K C S I O) (cs ds : List Change) (node : Who) (why : Cause)
      → IsClosedBy r m d (all_changed r m d w cs) ds node why
      → IsClosedBy r m d w (cs ++ ds) node why
  closed_later w cs ds node why by = record {
    before = cs ++ by.before;
    change = by.change;
    after = by.after;
    split =
        ap (λ (list : List Change). cs ++ list) by.split
        ∙ sym (append_assoc cs by.before (by.change ∷ by.after));
    closes =
        subst (λ (x : World K C S I O). ClosesNode r x by.change node why)
        (sym (changed_append r m d w cs by.before)) by.closes;
  }

  -- ---- the node that is told last is as it was

  pub same_there : (w : World K C S I O) (kind : LegKind) (n : ℕ) (dir : Dir)
      → (let leg = leg_at kind n in
      (company.tell r (all_changed r m d w
      (IsTold (at w leg (sender dir)) (Breaks leg)
      ∷ GoesDown (at w leg (sender dir)) leg (sender dir) ∷ [])).company
      (at w leg (receiver dir)) (Ends leg)).1
      ≡ (company.tell r w.company (at w leg (receiver dir)) (Ends leg)).1)
  same_there w ClientOut n U = refl
  same_there w ClientOut n D = refl
  same_there w OutServer n U = refl
  same_there w OutServer n D = refl
  same_there w ClientIn n U = refl
  same_there w ClientIn n D = refl
  same_there w InServer n U = refl
  same_there w InServer n D = refl
