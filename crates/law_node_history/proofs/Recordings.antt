-- lists of changes, and whole recordings, have their traces
use Rattle.law_order.proofs.Vocabulary.{◌≡◌, ℕ, List, [], ◌∷◌, ◌++◌, true, false, get_or, refl, sym, ap, ◌∙◌, subst, ⊎_elim, false≢true, cases_Bool, append-nil, IsPrefix}
use Rattle.rh_wires.specs.Legs as legs
use Rattle.law_moves.proofs.Vocabulary.{Dir, U, D, Side, prefix_trans, Leg, LegKind, ClientOut, OutServer, ClientIn, InServer}
use Rattle.law_node_history.proofs.Vocabulary.{Who, Client, Server, In, Out, Legs, change, reader_of, sender, receiver, Place, Absent, Here, Gone, Company, Rulebook, Deeds, Makers, leg_at, World, Change, AreAllowed, all_changed, Leads, changed, History, heard, in_place, out_place, noted, all_noted, nothing, IsRun, IsNew, IsCarried, carriage, ledger, drawn_by, heard_on, events_of, end_node, IsHeard, LegsComeUpOnce, IsTraced}
use Rattle.law_node_history.proofs.Noting.{begins}
use Rattle.law_node_history.proofs.Leading.{cast_stays}
use Rattle.law_node_history.proofs.Tracing.{change_is_traced}

-- a leg on which nothing happened yet
fresh_carriage : IsCarried (record {
  drawn = [];
  fed = [];
  flight = [];
  puts = false;
  takes = false;
  did_put = false;
  did_take = false;
})
fresh_carriage = record {
  lost = false;
  wire = record { in_order = ([], refl); whole = λ e. refl };
  over = λ e. absurd (false≢true e);
  put_up = λ e. absurd (false≢true e);
  take_up = λ e. absurd (false≢true e);
  unfed = λ e. refl;
}

module _ {K C S I O : Type 0} (r : Rulebook C S I O) (m : Makers K I O) (d : Deeds C S) where
  all_are_traced : (first : Company C S I O) (w : World K C S I O) (h : History)
      (changes : List Change) → AreAllowed r m d w changes → LegsComeUpOnce r m d first w.cast
      → IsTraced r m d first w h
      → IsTraced r m d first (all_changed r m d w changes) (all_noted r m d w h changes)
  all_are_traced first w h [] allowed once t = t
  all_are_traced first w h (change ∷ changes) allowed once t =
      all_are_traced first (changed r m d w change) (noted w h change) changes allowed.1
      (subst (λ (x : K). LegsComeUpOnce r m d first x)
      (sym (cast_stays r m d w change)) once)
      (change_is_traced r m d first w h t once change allowed.0)

  pub changes_are_traced : (first : Company C S I O) (w v : World K C S I O) (h : History)
      (leads : Leads r m d w v) → LegsComeUpOnce r m d first w.cast → IsTraced r m d first w h
      → IsTraced r m d first v (all_noted r m d w h leads.changes)
  changes_are_traced first w v h leads once t =
      subst (λ (x : World K C S I O). IsTraced r m d first x (all_noted r m d w h leads.changes))
      leads.reached (all_are_traced first w h leads.changes leads.allowed once t)

  -- ---- a world in which nothing happened yet

  pub traced_first : (w : World K C S I O) → IsNew w → IsTraced r m d w.company w nothing
  traced_first w new = record {
    runs = begins r m d w new;
    accepted = record { client = tt; server = tt; ins = λ n. tt; outs = λ n. tt };
    carried = record {
      each = λ leg dir. subst (λ (x : Legs).
          IsCarried (carriage (ledger r m d w.company w.cast nothing) x w.readers leg dir))
          (sym new.low) (low_carried leg.kind leg.number dir);
      idle = none_idle;
      stands = none_stands;
      first = λ n e. absurd (e (ap (λ (x : List ℕ). reader_of x n) new.unread));
      none = λ leg. refl;
    };
    heard = record {
      client = λ leg. refl;
      server = λ leg. refl;
      ins = λ n leg. subst (λ (x : List (Place I)). IsHeard (get_or x n Absent) [] [])
          (sym new.ins) refl;
      outs = λ n leg. subst (λ (x : List (Place O)). IsHeard (get_or x n Absent) [] [])
          (sym new.outs) refl;
    };
    zero = ap (λ (x : List (Place I)). get_or x 0 Absent) new.ins;
  }
    where
      none_idle : (node : Who) (leg : Leg)
          → (ledger r m d w.company w.cast nothing).was_up node leg ≡ false
          → ((ledger r m d w.company w.cast nothing).drawn node leg ≡ [])
          × ((ledger r m d w.company w.cast nothing).fed node leg ≡ [])
      none_idle Client leg e = (refl, refl)
      none_idle Server leg e = (refl, refl)
      none_idle (In n) leg e = (refl, refl)
      none_idle (Out n) leg e = (refl, refl)

      none_stands : (node : Who) (leg : Leg)
          → (ledger r m d w.company w.cast nothing).was_up node leg ≡ true
          → (end : Side) × (end_node w.readers leg end ≡ node)
      none_stands Client leg e = absurd (false≢true e)
      none_stands Server leg e = absurd (false≢true e)
      none_stands (In n) leg e = absurd (false≢true e)
      none_stands (Out n) leg e = absurd (false≢true e)

      low_carried : (kind : LegKind) (n : ℕ) (dir : Dir)
          → IsCarried (carriage (ledger r m d w.company w.cast nothing) legs.none w.readers
          (leg_at kind n) dir)
      low_carried ClientOut n U = fresh_carriage
      low_carried ClientOut n D = fresh_carriage
      low_carried OutServer n U = fresh_carriage
      low_carried OutServer n D = fresh_carriage
      low_carried ClientIn n U = fresh_carriage
      low_carried ClientIn n D = fresh_carriage
      low_carried InServer n U = fresh_carriage
      low_carried InServer n D = fresh_carriage

-- ---- nodes elsewhere

module _ {K C S I O : Type 0} (r : Rulebook C S I O) (m : Makers K I O) (d : Deeds C S)
    (first : Company C S I O) (w : World K C S I O) (h : History)
    (t : IsTraced r m d first w h) where
  prefix_of_none : (a : List ℕ) → IsPrefix a [] → a ≡ []
  prefix_of_none [] p = refl
  prefix_of_none (x ∷ a) p = absurd cc

  heard_nothing : {T : Type 0} (p : Place T) (heard fed : List ℕ) → IsHeard p heard fed
      → fed ≡ [] → (p ≡ Absent → heard ≡ []) → heard ≡ []
  heard_nothing Absent heard fed k none absent = absent refl
  heard_nothing (Here node legs) heard fed k none absent = k ∙ none
  heard_nothing (Gone now) heard fed k none absent =
      prefix_of_none heard (subst (λ x. IsPrefix heard x) none k)

  nothing_heard : (node : Who) (leg : Leg) → h.fed node leg ≡ []
      → heard_on leg (events_of h node) ≡ []
  nothing_heard Client leg none = t.heard.client leg ∙ none
  nothing_heard Server leg none = t.heard.server leg ∙ none
  nothing_heard (In n) leg none =
      heard_nothing (in_place w.company n) (heard_on leg (h.ins n)) (h.fed (In n) leg)
      (t.heard.ins n leg) none (λ absent. ap (heard_on leg)
      (subst (λ (p : Place I). IsRun r.in_proxy (m.in_proxy w.cast n) (h.ins n) p) absent
      (t.runs.ins n)))
  nothing_heard (Out n) leg none =
      heard_nothing (out_place w.company n) (heard_on leg (h.outs n)) (h.fed (Out n) leg)
      (t.heard.outs n leg) none (λ absent. ap (heard_on leg)
      (subst (λ (p : Place O). IsRun r.out_proxy (m.out_proxy w.cast n) (h.outs n) p) absent
      (t.runs.outs n)))

  -- what is heard is a front of what was fed
  heard_front : {T : Type 0} (p : Place T) (heard fed : List ℕ) → IsHeard p heard fed
      → (p ≡ Absent → heard ≡ []) → IsPrefix heard fed
  heard_front Absent heard fed k absent =
      (fed, ap (λ x. x ++ fed) (absent refl))
  heard_front (Here node legs) heard fed k absent = ([], append-nil heard ∙ k)
  heard_front (Gone now) heard fed k absent = k

  fed_front : (node : Who) (leg : Leg)
      → IsPrefix (heard_on leg (events_of h node)) (h.fed node leg)
  fed_front Client leg =
      ([], append-nil (heard_on leg (events_of h Client)) ∙ t.heard.client leg)
  fed_front Server leg =
      ([], append-nil (heard_on leg (events_of h Server)) ∙ t.heard.server leg)
  fed_front (In n) leg =
      heard_front (in_place w.company n) (heard_on leg (h.ins n)) (h.fed (In n) leg)
      (t.heard.ins n leg) (λ absent. ap (heard_on leg)
      (subst (λ (p : Place I). IsRun r.in_proxy (m.in_proxy w.cast n) (h.ins n) p) absent
      (t.runs.ins n)))
  fed_front (Out n) leg =
      heard_front (out_place w.company n) (heard_on leg (h.outs n)) (h.fed (Out n) leg)
      (t.heard.outs n leg) (λ absent. ap (heard_on leg)
      (subst (λ (p : Place O). IsRun r.out_proxy (m.out_proxy w.cast n) (h.outs n) p) absent
      (t.runs.outs n)))

  pub heard_was_drawn : (leg : Leg) (dir : Dir)
      → IsPrefix (heard_on leg (events_of h (end_node w.readers leg (receiver dir))))
      (drawn_by r m d first w.cast h (end_node w.readers leg (sender dir)) leg)
  heard_was_drawn leg dir =
      let from = end_node w.readers leg (sender dir) in
      let to = end_node w.readers leg (receiver dir) in
      prefix_trans (heard_on leg (events_of h to)) (h.fed to leg)
      (drawn_by r m d first w.cast h from leg) (fed_front to leg)
      (t.carried.each leg dir).wire.in_order

  pub elsewhere : (node : Who) (leg : Leg)
      → ((end : Side) → end_node w.readers leg end ≡ node → ⊥)
      → (drawn_by r m d first w.cast h node leg ≡ [])
      × (heard_on leg (events_of h node) ≡ [])
  elsewhere node leg away =
      let g = ledger r m d first w.cast h in
      let down : g.was_up node leg ≡ false =
      ⊎_elim (λ up. absurd (let at = t.carried.stands node leg up in away at.0 at.1)) (λ f. f)
      (cases_Bool (g.was_up node leg)) in
      let none = t.carried.idle node leg down in
      (none.0, nothing_heard node leg none.1)
