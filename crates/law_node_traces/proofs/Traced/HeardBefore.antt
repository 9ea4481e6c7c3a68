-- what a node heard was drawn before the change by which it did
use Rattle.rh_text.specs.declared.ends.Side.TheVariants as side
use Rattle.law_order.proofs.Vocabulary.{◌≡◌, ◌≢◌, ℕ, List, [], ◌++◌, Bool, true, false, refl, sym, ap, ◌∙◌, subst, ⊎_elim, cases_eq, append-nil, IsPrefix}
use Rattle.rh_wires.specs.Legs as legs
use Rattle.law_moves.proofs.Vocabulary.{Dir, U, Side, Leg, LegKind, ClientOut, ClientIn, Rules}
use Rattle.law_moves.specs.Moving as moving
use Rattle.law_node_history.proofs.Vocabulary.{Who, Client, Server, In, Out, reader_of, sender, receiver, Place, Absent, Here, Gone, Company, Rulebook, Deeds, is_same, Makers, reader_before, leg_at, World, Change, IsTold, IsFed, IsDrawn, GoesUp, RaisesAlone, OpensIn, OpensOut, OpensSame, MayChange, changed, History, heard, to_node, told_to, made_by, at_place, in_place, out_place, noted, drawn_by, heard_on, happened, events_of, end_node, IsTraced, LegsComeUpOnce}
use Rattle.law_node_history.proofs.Lemmas.{heard_append, happened_more, unheard, none_drawn, drawn_more, moments, heard_was_drawn, elsewhere, change_is_traced}
use Rattle.law_node_traces.proofs.Traced.InTurn.{told_unheard}

-- a change that feeds a piece
abbrev is_fed : Change → Bool
is_fed (IsFed leg dir count) = true
is_fed change = false

place_unheard : {S : Type 0} (leg : Leg) (p : Place S) (told made : List moving.Event)
    → heard_on leg told ≡ [] → heard_on leg made ≡ [] → heard_on leg (at_place p told made) ≡ []
place_unheard leg Absent told made a b = b
place_unheard leg (Here node legs) told made a b = a
place_unheard leg (Gone now) told made a b = refl

-- what is heard behind events that hear nothing
heard_same : (leg : Leg) (es fs : List moving.Event) → heard_on leg fs ≡ []
    → heard_on leg (es ++ fs) ≡ heard_on leg es
heard_same leg es fs none =
    heard_append leg es fs ∙ ap (λ x. heard_on leg es ++ x) none ∙ append-nil (heard_on leg es)

module _ {K C S I O : Type 0} (r : Rulebook C S I O) (m : Makers K I O) (d : Deeds C S)
    (first : Company C S I O) (w : World K C S I O) (h : History)
    (t : IsTraced r m d first w h) where
  -- ---- a change that feeds nothing

  told_nothing : (change : Change) → MayChange r w change → is_fed change ≡ false
      → (other : Who) (leg : Leg) → heard_on leg (told_to w change other) ≡ []
  told_nothing (IsTold node event) may silent other leg =
      unheard leg (heard event) (told_unheard r m d first w h t node event may)
      (is_same node other)
  told_nothing (IsFed beside dir count) may silent other leg = absurd cc
  told_nothing (IsDrawn beside dir count) may silent other leg =
      unheard leg (moving.Draws beside count) refl
      (is_same (end_node w.readers beside (sender dir)) other)
  told_nothing (GoesUp node beside end cookie) may silent other leg =
      unheard leg (moving.ComesUp beside cookie) refl (is_same node other)
  told_nothing (RaisesAlone node beside end cookie) may silent other leg =
      unheard leg (moving.ComesUp beside cookie) refl (is_same node other)
  told_nothing (OpensIn n cookie) may silent other leg =
      unheard leg (moving.ComesUp (leg_at ClientIn n) cookie) refl (is_same Client other)
  told_nothing (OpensOut n cookie) may silent other leg =
      unheard leg (moving.ComesUp (leg_at ClientOut n) cookie) refl (is_same Client other)
  told_nothing (OpensSame n cookie) may silent other leg =
      let e = moving.ComesUp (leg_at ClientIn n) cookie in
      let reader = In (reader_before w n) in
      heard_same leg (to_node Client other e) (to_node reader other e)
      (unheard leg e refl (is_same reader other))
      ∙ unheard leg e refl (is_same Client other)
  told_nothing change may silent other leg = refl

  module _ (change : Change) (may : MayChange r w change) (silent : is_fed change ≡ false) where
    place_hears : {P : Type 0} (rules : Rules P) (place : Place P) (node : Who)
        (events : List moving.Event) (leg : Leg)
        → heard_on leg (events ++ at_place place (told_to w change node) (made_by w change node))
        ≡ heard_on leg events
    place_hears rules place node events leg =
        heard_same leg events (at_place place (told_to w change node) (made_by w change node))
        (place_unheard leg place (told_to w change node) (made_by w change node)
        (told_nothing change may silent node leg) ((moments rules w change node).unheard leg))

    hears_nothing : (node : Who) (leg : Leg)
        → heard_on leg (events_of (noted w h change) node) ≡ heard_on leg (events_of h node)
    hears_nothing Client leg =
        ap (heard_on leg) (happened_more r.client d.client first.client w.company.client h.client
        (told_to w change Client) change side.Client t.runs.client)
        ∙ heard_same leg (happened h.client) (told_to w change Client)
        (told_nothing change may silent Client leg)
    hears_nothing Server leg =
        ap (heard_on leg) (happened_more r.server d.server first.server w.company.server h.server
        (told_to w change Server) change side.Server t.runs.server)
        ∙ heard_same leg (happened h.server) (told_to w change Server)
        (told_nothing change may silent Server leg)
    hears_nothing (In n) leg =
        place_hears r.in_proxy (in_place w.company n) (In n) (h.ins n) leg
    hears_nothing (Out n) leg =
        place_hears r.out_proxy (out_place w.company n) (Out n) (h.outs n) leg

  -- ---- whoever reads

  abbrev Heard : List ℕ → Leg → Dir → Type 0
  Heard readers leg dir =
      IsPrefix (heard_on leg (events_of h (end_node readers leg (receiver dir))))
      (drawn_by r m d first w.cast h (end_node w.readers leg (sender dir)) leg)

  -- an in proxy that does not read an IN leg of the client heard nothing there
  away : (n k : ℕ) → k ≢ reader_of w.readers n → (end : Side)
      → end_node w.readers (leg_at ClientIn n) end ≡ In k → ⊥
  away n k other side.Client e = absurd cc
  away n k other side.Server e = other cc

  heard_by_any : (readers : List ℕ) (kind : LegKind) (n : ℕ) (dir : Dir)
      → Heard readers (leg_at kind n) dir
  heard_by_any readers ClientIn n U =
      ⊎_elim (λ same. subst (λ k. IsPrefix (heard_on leg (h.ins k)) drawn) (sym same)
      (heard_was_drawn r m d first w h t leg U))
      (λ other. subst (λ x. IsPrefix x drawn)
      (sym (elsewhere r m d first w h t (In (reader_of readers n)) leg
      (away n (reader_of readers n) other)).1) (drawn, refl))
      (cases_eq (reader_of readers n) (reader_of w.readers n))
    where
      leg : Leg
      leg = leg_at ClientIn n

      drawn : List ℕ
      drawn = drawn_by r m d first w.cast h Client leg
  heard_by_any readers kind n dir = heard_was_drawn r m d first w h t (leg_at kind n) dir

  -- ---- both

  module _ (once : LegsComeUpOnce r m d first w.cast) where
    fed_was_drawn : (beside : Leg) (to : Dir) (count : ℕ) → MayChange r w (IsFed beside to count)
        → (leg : Leg) (dir : Dir)
        → IsPrefix (heard_on leg (events_of (noted w h (IsFed beside to count))
        (end_node w.readers leg (receiver dir))))
        (drawn_by r m d first w.cast h (end_node w.readers leg (sender dir)) leg)
    fed_was_drawn beside to count may leg dir =
        let change = IsFed beside to count in
        let from = end_node w.readers leg (sender dir) in
        let drawn = drawn_by r m d first w.cast h from leg in
        subst (λ x. IsPrefix (heard_on leg (events_of (noted w h change)
        (end_node w.readers leg (receiver dir)))) x)
        (drawn_more r m d first w h t.runs change from leg
        ∙ ap (λ x. drawn ++ x)
        (none_drawn r w.company (end_node w.readers beside (receiver to))
        (moving.Hears beside (legs.take_out beside to count w.legs).1) refl from leg)
        ∙ append-nil drawn)
        (heard_was_drawn r m d first (changed r m d w change) (noted w h change)
        (change_is_traced r m d first w h t once change may) leg dir)

    pub heard_before : (change : Change) → MayChange r w change → (leg : Leg) (dir : Dir)
        → IsPrefix (heard_on leg (events_of (noted w h change)
        (end_node (changed r m d w change).readers leg (receiver dir))))
        (drawn_by r m d first w.cast h (end_node w.readers leg (sender dir)) leg)
    heard_before change may leg dir = by change may
      where
        quiet : (change : Change) → MayChange r w change → is_fed change ≡ false
            → IsPrefix (heard_on leg (events_of (noted w h change)
            (end_node (changed r m d w change).readers leg (receiver dir))))
            (drawn_by r m d first w.cast h (end_node w.readers leg (sender dir)) leg)
        quiet change may silent =
            let readers = (changed r m d w change).readers in
            subst (λ x. IsPrefix x (drawn_by r m d first w.cast h
            (end_node w.readers leg (sender dir)) leg))
            (sym (hears_nothing change may silent (end_node readers leg (receiver dir)) leg))
            (heard_by_any readers leg.kind leg.number dir)

        by : (change : Change) → MayChange r w change
            → IsPrefix (heard_on leg (events_of (noted w h change)
            (end_node (changed r m d w change).readers leg (receiver dir))))
            (drawn_by r m d first w.cast h (end_node w.readers leg (sender dir)) leg)
        by (IsFed beside to count) may = fed_was_drawn beside to count may leg dir
        by change may = quiet change may refl
