-- a change by which a node is told that a leg is lost ends that leg
use Rattle.rh_text.specs.declared.ends.Side.TheVariants as side
use Rattle.law_order.proofs.Vocabulary.{◌≡◌, ◌⊎◌, inl, inr, List, [], ◌∷◌, ◌++◌, Bool, true, false, true≢false, ◌||◌, if◌then◌else◌, map, Some, refl, sym, ap, ◌∙◌, list_any-append}
use Rattle.rh_record.specs.declared.answer.Who.TheVariants as who
use Rattle.rh_wires.specs.Legs as legs
use Rattle.law_moves.proofs.Vocabulary.{Side, Leg, ClientIn, ClientOut, same_leg, EndEvent, Happens, IsGiven, IsTaken, IsClosed, IsRecycled}
use Rattle.law_moves.proofs.Lemmas.{leg_is}
use Rattle.law_moves.specs.Moving as moving
use Rattle.law_node_history.proofs.Vocabulary.{Who, receiver, sender, Event, Comes, Ends, Breaks, Passes, Place, Absent, Here, Gone, is_same, reader_before, leg_at, World, at, events_of, happened, Change, IsTold, IsFed, IsDrawn, GoesUp, RaisesAlone, GoesDown, OpensIn, OpensOut, OpensSame, Gives, Takes, Closes, RecyclesIn, RecyclesOut, MovesTo, Draws, Reports, History, act_at, acts_by, at_place, heard, in_place, made_by, noted}
use Rattle.law_node_history.proofs.Vocabulary.{out_place, to_node, told_to}
use Rattle.law_node_history.proofs.Lemmas.{happened_append}
use Rattle.law_world_ways.specs.EndsInTime.InTime.{ended_by}
use Rattle.law_world_ways.specs.OnPaths.Lost.{is_loss_of, was_lost}

either : (a b : Bool) → (a || b) ≡ true → (a ≡ true) ⊎ (b ≡ true)
either true b e = inl refl
either false b e = inr e

-- ---- what a change tells

module _ (leg : Leg) where
  -- one event that is no loss
  one_not : (b : Bool) (e : moving.Event) → is_loss_of leg e ≡ false
      → was_lost leg (if b then e ∷ [] else []) ≡ false
  one_not true e is = ap (λ (t : Bool). t || false) is
  one_not false e is = refl

  never : {A : Type 0} (b : Bool) → b ≡ true → b ≡ false → A
  never b e f = absurd (true≢false (sym e ∙ f))

  ended_is : (other : Leg) → (same_leg other leg || false) ≡ true → Some other ≡ Some leg
  ended_is other e = by (same_leg other leg) refl e
    where
      by : (t : Bool) → same_leg other leg ≡ t → (t || false) ≡ true → Some other ≡ Some leg
      by true same f = ap (λ (l : Leg). Some l) (leg_is other leg same)
      by false same f = absurd cc

  told_is : (b : Bool) (node : Who) (event : Event)
      → was_lost leg (if b then heard event ∷ [] else []) ≡ true
      → ended_by (IsTold node event) ≡ Some leg
  told_is false node event e = absurd cc
  told_is true node (Comes other piece) e = absurd cc
  told_is true node (Ends other) e = ended_is other e
  told_is true node (Breaks other) e = ended_is other e
  told_is true node (Passes now) e = absurd cc

  module _ {K C S I O : Type 0} (u : World K C S I O) where
    told_ends : (c : Change) (node : Who) → was_lost leg (told_to u c node) ≡ true
        → ended_by c ≡ Some leg
    told_ends (IsTold other event) node e = told_is (is_same other node) other event e
    told_ends (IsFed k dir count) node e =
        never (was_lost leg (told_to u (IsFed k dir count) node)) e
        (one_not (is_same (at u k (receiver dir)) node)
        (moving.Hears k (legs.take_out k dir count u.legs).1) refl)
    told_ends (IsDrawn k dir count) node e =
        never (was_lost leg (told_to u (IsDrawn k dir count) node)) e
        (one_not (is_same (at u k (sender dir)) node) (moving.Draws k count) refl)
    told_ends (GoesUp other k end cookie) node e =
        never (was_lost leg (told_to u (GoesUp other k end cookie) node)) e
        (one_not (is_same other node) (moving.ComesUp k cookie) refl)
    told_ends (RaisesAlone other k end cookie) node e =
        never (was_lost leg (told_to u (RaisesAlone other k end cookie) node)) e
        (one_not (is_same other node) (moving.ComesUp k cookie) refl)
    told_ends (OpensIn n cookie) node e =
        never (was_lost leg (told_to u (OpensIn n cookie) node)) e
        (one_not (is_same who.Client node) (moving.ComesUp (leg_at ClientIn n) cookie) refl)
    told_ends (OpensOut n cookie) node e =
        never (was_lost leg (told_to u (OpensOut n cookie) node)) e
        (one_not (is_same who.Client node) (moving.ComesUp (leg_at ClientOut n) cookie) refl)
    told_ends (OpensSame n cookie) node e =
        let came = moving.ComesUp (leg_at ClientIn n) cookie in
        let reader = who.In (reader_before u n) in
        never (was_lost leg (told_to u (OpensSame n cookie) node)) e
        (list_any-append (is_loss_of leg) (to_node who.Client node came) (to_node reader node came)
        ∙ ap (λ (t : Bool). t || was_lost leg (to_node reader node came))
        (one_not (is_same who.Client node) came refl)
        ∙ one_not (is_same reader node) came refl)
    told_ends (GoesDown other k end) node e = absurd cc
    told_ends (Gives end pdu) node e = absurd cc
    told_ends (Takes end) node e = absurd cc
    told_ends (Closes end) node e = absurd cc
    told_ends RecyclesIn node e = absurd cc
    told_ends RecyclesOut node e = absurd cc
    told_ends (MovesTo now) node e = absurd cc
    told_ends (Draws cookies) node e = absurd cc
    told_ends Reports node e = absurd cc

    -- a proxy that is made is told the moment alone
    made_not : (c : Change) (node : Who) → was_lost leg (made_by u c node) ≡ false
    made_not (OpensIn n cookie) node = one_not (is_same (who.In n) node) (moving.Ticks u.now) refl
    made_not (OpensOut n cookie) node =
        one_not (is_same (who.Out n) node) (moving.Ticks u.now) refl
    made_not c node = refl

    place_ends : {X : Type 0} (p : Place X) (c : Change) (node : Who)
        → was_lost leg (at_place p (told_to u c node) (made_by u c node)) ≡ true
        → ended_by c ≡ Some leg
    place_ends Absent c node e = never (was_lost leg (made_by u c node)) e (made_not c node)
    place_ends (Here x n) c node e = told_ends c node e
    place_ends (Gone now) c node e = absurd cc

    -- ---- and at an end, whose acts tell nothing

    acts_happen : (one other : Side) (act : EndEvent) → happened (act ∷ []) ≡ []
        → happened (act_at one other act) ≡ []
    acts_happen side.Client side.Client act is = is
    acts_happen side.Client side.Server act is = refl
    acts_happen side.Server side.Client act is = refl
    acts_happen side.Server side.Server act is = is

    no_acts : (c : Change) (end : Side) → happened (acts_by c end) ≡ []
    no_acts (Gives one pdu) end = acts_happen one end (IsGiven pdu) refl
    no_acts (Takes one) end = acts_happen one end IsTaken refl
    no_acts (Closes one) end = acts_happen one end IsClosed refl
    no_acts RecyclesIn end = acts_happen side.Client end IsRecycled refl
    no_acts RecyclesOut end = acts_happen side.Server end IsRecycled refl
    no_acts c end = refl

    happened_map : (es : List moving.Event) → happened (map Happens es) ≡ es
    happened_map [] = refl
    happened_map (e ∷ es) = ap (λ (x : List moving.Event). e ∷ x) (happened_map es)

    end_ends : (es : List EndEvent) (c : Change) (node : Who) (end : Side)
        → was_lost leg (happened (es ++ (map Happens (told_to u c node) ++ acts_by c end))) ≡ true
        → (was_lost leg (happened es) ≡ true) ⊎ (ended_by c ≡ Some leg)
    end_ends es c node end e =
        by (either (was_lost leg (happened es)) (was_lost leg (told_to u c node))
        (sym (list_any-append (is_loss_of leg) (happened es) (told_to u c node))
        ∙ sym (ap (was_lost leg) more) ∙ e))
      where
        told : List moving.Event
        told = told_to u c node

        more : happened (es ++ (map Happens told ++ acts_by c end)) ≡ happened es ++ told
        more =
            happened_append es (map Happens told ++ acts_by c end)
            ∙ ap (λ (x : List moving.Event). happened es ++ x)
            (happened_append (map Happens told) (acts_by c end)
            ∙ ap (λ (x : List moving.Event). happened (map Happens told) ++ x) (no_acts c end)
            ∙ nil (happened (map Happens told)) ∙ happened_map told)
          where
            nil : (x : List moving.Event) → x ++ [] ≡ x
            nil [] = refl
            nil (a ∷ x) = ap (λ (y : List moving.Event). a ∷ y) (nil x)

        by : (was_lost leg (happened es) ≡ true) ⊎ (was_lost leg told ≡ true)
            → (was_lost leg (happened es) ≡ true) ⊎ (ended_by c ≡ Some leg)
        by (inl was) = inl was
        by (inr now) = inr (told_ends c node now)

    proxy_ends : {X : Type 0} (p : Place X) (es : List moving.Event) (c : Change) (node : Who)
        → was_lost leg (es ++ at_place p (told_to u c node) (made_by u c node)) ≡ true
        → (was_lost leg es ≡ true) ⊎ (ended_by c ≡ Some leg)
    proxy_ends p es c node e =
        by (either (was_lost leg es) (was_lost leg (at_place p (told_to u c node)
        (made_by u c node)))
        (sym (list_any-append (is_loss_of leg) es (at_place p (told_to u c node)
        (made_by u c node))) ∙ e))
      where
        by : (was_lost leg es ≡ true)
            ⊎ (was_lost leg (at_place p (told_to u c node) (made_by u c node)) ≡ true)
            → (was_lost leg es ≡ true) ⊎ (ended_by c ≡ Some leg)
        by (inl was) = inl was
        by (inr now) = inr (place_ends p c node now)

    pub change_ends : (h : History) (c : Change) (node : Who)
        → was_lost leg (events_of (noted u h c) node) ≡ true
        → (was_lost leg (events_of h node) ≡ true) ⊎ (ended_by c ≡ Some leg)
    change_ends h c who.Client e = end_ends h.client c who.Client side.Client e
    change_ends h c who.Server e = end_ends h.server c who.Server side.Server e
    change_ends h c (who.In n) e =
        proxy_ends (in_place u.company n) (h.ins n) c (who.In n) e
    change_ends h c (who.Out n) e =
        proxy_ends (out_place u.company n) (h.outs n) c (who.Out n) e
