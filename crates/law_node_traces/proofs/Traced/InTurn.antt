-- each node hears pieces only on legs that came up for it before
use Rattle.rh_text.specs.declared.ends.Side.TheVariants as side
use Rattle.law_order.proofs.Vocabulary.{◌≡◌, ℕ, List, [], ◌∷◌, ◌++◌, Bool, true, false, if◌then◌else◌, refl, sym, ap, ◌∙◌, subst, append_assoc, true≢false, append-nil}
use Rattle.rh_wires.specs.Legs as legs
use Rattle.law_moves.proofs.Vocabulary.{Dir, Leg, ClientOut, ClientIn}
use Rattle.law_moves.specs.Moving as moving
use Rattle.law_node_history.proofs.Vocabulary.{Who, Client, Server, In, Out, sender, receiver, Event, Comes, Ends, Breaks, Passes, Place, Absent, Here, Gone, Company, Rulebook, Deeds, is_same, Makers, reader_before, leg_at, World, at, Change, IsTold, IsFed, IsDrawn, GoesUp, RaisesAlone, OpensIn, OpensOut, OpensSame, MayChange, Leads, History, heard, to_node, told_to, made_by, at_place, in_place, out_place, noted, all_noted, nothing, IsNew, came_up, happened, events_of}
use Rattle.law_node_history.proofs.Vocabulary.{IsTraced, LegsComeUpOnce}
use Rattle.law_node_history.proofs.Lemmas.{happened_more, is_hears, same_who, traced_first}
use Rattle.law_node_history.proofs.Wired as wired
use Rattle.law_node_streams.specs.Streams.{HearsInTurn}
use Rattle.law_node_traces.proofs.Traced.Along.{kept_along}
use Rattle.law_node_traces.proofs.Vocabulary.{HearInTurn}

-- ---- by recursion on the events

-- behind these events
abbrev IsInTurn : List moving.Event → moving.Event → Type 0
IsInTurn seen (moving.Hears leg piece) = came_up leg seen ≡ true
IsInTurn seen event = Unit {0}

abbrev AreInTurn : List moving.Event → List moving.Event → Type 0
AreInTurn seen [] = Unit {0}
AreInTurn seen (e ∷ es) = IsInTurn seen e × AreInTurn (seen ++ e ∷ []) es

-- behind these events each piece comes on a leg that came up
abbrev Hear : List moving.Event → List moving.Event → Type 0
Hear seen es =
    (before behind : List moving.Event) (leg : Leg) (piece : List ℕ)
    → es ≡ before ++ moving.Hears leg piece ∷ behind → came_up leg (seen ++ before) ≡ true

in_turn : (seen es : List moving.Event) → AreInTurn seen es → Hear seen es
in_turn seen [] a [] behind leg piece e = absurd cc
in_turn seen [] a (b ∷ before) behind leg piece e = absurd cc
in_turn seen (x ∷ es) a [] behind leg piece e =
    let here : x ≡ moving.Hears leg piece = cc in
    ap (came_up leg) (append-nil seen) ∙ subst (IsInTurn seen) here a.0
in_turn seen (x ∷ es) a (b ∷ before) behind leg piece e =
    let here : x ≡ b = cc in
    let later : es ≡ before ++ moving.Hears leg piece ∷ behind = cc in
    ap (λ y. came_up leg (seen ++ y ∷ before)) (sym here)
    ∙ ap (came_up leg) (sym (append_assoc seen (x ∷ []) before))
    ∙ in_turn (seen ++ x ∷ []) es a.1 before behind leg piece later

one_heard : (seen es : List moving.Event) (e : moving.Event) → Hear seen (e ∷ es)
    → IsInTurn seen e
one_heard seen es (moving.Hears leg piece) h =
    ap (came_up leg) (sym (append-nil seen)) ∙ h [] es leg piece refl
one_heard seen es e h = tt

all_heard : (seen es : List moving.Event) → Hear seen es → AreInTurn seen es
all_heard seen [] h = tt
all_heard seen (e ∷ es) h = (
  one_heard seen es e h,
  all_heard (seen ++ e ∷ []) es (λ before behind leg piece is.
      ap (came_up leg) (append_assoc seen (e ∷ []) before)
      ∙ h (e ∷ before) behind leg piece (ap (λ x. e ∷ x) is)),
)

turns_append : (seen es fs : List moving.Event) → AreInTurn seen es
    → AreInTurn (seen ++ es) fs → AreInTurn seen (es ++ fs)
turns_append seen [] fs a b = subst (λ x. AreInTurn x fs) (append-nil seen) b
turns_append seen (e ∷ es) fs a b = (
  a.0,
  turns_append (seen ++ e ∷ []) es fs a.1
      (subst (λ x. AreInTurn x fs) (sym (append_assoc seen (e ∷ []) es)) b),
)

-- events behind those that are heard in turn
hears_more : (es fs : List moving.Event) → HearsInTurn es → AreInTurn es fs
    → HearsInTurn (es ++ fs)
hears_more es fs h a = in_turn [] (es ++ fs) (turns_append [] es fs (all_heard [] es h) a)

-- ---- one event, where a test says so

one_in_turn : (seen : List moving.Event) (e : moving.Event) (b : Bool)
    → (b ≡ true → IsInTurn seen e) → AreInTurn seen (if b then e ∷ [] else [])
one_in_turn seen e true is = (is refl, tt)
one_in_turn seen e false is = tt

unheard_in_turn : (seen : List moving.Event) (e : moving.Event) → is_hears e ≡ false
    → IsInTurn seen e
unheard_in_turn seen (moving.Hears leg piece) q = absurd (true≢false q)
unheard_in_turn seen e q = tt

place_in_turn : {S : Type 0} (p : Place S) (seen told made : List moving.Event)
    → AreInTurn seen told → AreInTurn seen made → AreInTurn seen (at_place p told made)
place_in_turn Absent seen told made a b = b
place_in_turn (Here node legs) seen told made a b = a
place_in_turn (Gone now) seen told made a b = tt

-- ---- what a change tells

module _ {K C S I O : Type 0} (r : Rulebook C S I O) (m : Makers K I O) (d : Deeds C S)
    (first : Company C S I O) (w : World K C S I O) (h : History)
    (t : IsTraced r m d first w h) where
  -- bytes come from flight alone
  pub told_unheard : (node : Who) (event : Event) → MayChange r w (IsTold node event)
      → is_hears (heard event) ≡ false
  told_unheard node (Comes leg piece) may = absurd may
  told_unheard node (Ends leg) may = refl
  told_unheard node (Breaks leg) may = refl
  told_unheard node (Passes now) may = refl

  -- a leg that is up for its receiver came up there
  fed_in_turn : (leg : Leg) (dir : Dir) (count : ℕ) → MayChange r w (IsFed leg dir count)
      → (other : Who) → is_same (at w leg (receiver dir)) other ≡ true
      → came_up leg (events_of h other) ≡ true
  fed_in_turn leg dir count may other same =
      subst (λ (x : Who). came_up leg (events_of h x) ≡ true)
      (same_who (at w leg (receiver dir)) other same)
      ((t.carried.each leg dir).take_up
      (sym (wired.is_up_at w.legs leg (receiver dir)) ∙ may))

  told_in_turn : (change : Change) → MayChange r w change → (other : Who)
      → AreInTurn (events_of h other) (told_to w change other)
  told_in_turn (IsTold node event) may other =
      one_in_turn (events_of h other) (heard event) (is_same node other)
      (λ same. unheard_in_turn (events_of h other) (heard event) (told_unheard node event may))
  told_in_turn (IsFed leg dir count) may other =
      one_in_turn (events_of h other) (moving.Hears leg (legs.take_out leg dir count w.legs).1)
      (is_same (at w leg (receiver dir)) other) (fed_in_turn leg dir count may other)
  told_in_turn (IsDrawn leg dir count) may other =
      one_in_turn (events_of h other) (moving.Draws leg count)
      (is_same (at w leg (sender dir)) other) (λ same. tt)
  told_in_turn (GoesUp node leg end cookie) may other =
      one_in_turn (events_of h other) (moving.ComesUp leg cookie) (is_same node other)
      (λ same. tt)
  told_in_turn (RaisesAlone node leg end cookie) may other =
      one_in_turn (events_of h other) (moving.ComesUp leg cookie) (is_same node other)
      (λ same. tt)
  told_in_turn (OpensIn n cookie) may other =
      one_in_turn (events_of h other) (moving.ComesUp (leg_at ClientIn n) cookie)
      (is_same Client other) (λ same. tt)
  told_in_turn (OpensOut n cookie) may other =
      one_in_turn (events_of h other) (moving.ComesUp (leg_at ClientOut n) cookie)
      (is_same Client other) (λ same. tt)
  told_in_turn (OpensSame n cookie) may other =
      let e = moving.ComesUp (leg_at ClientIn n) cookie in
      let client = to_node Client other e in
      let reader = In (reader_before w n) in
      turns_append (events_of h other) client (to_node reader other e)
      (one_in_turn (events_of h other) e (is_same Client other) (λ same. tt))
      (one_in_turn (events_of h other ++ client) e (is_same reader other) (λ same. tt))
  told_in_turn change may other = tt

  made_in_turn : (change : Change) (other : Who) (seen : List moving.Event)
      → AreInTurn seen (made_by w change other)
  made_in_turn (OpensIn n cookie) other seen =
      one_in_turn seen (moving.Ticks w.now) (is_same (In n) other) (λ same. tt)
  made_in_turn (OpensOut n cookie) other seen =
      one_in_turn seen (moving.Ticks w.now) (is_same (Out n) other) (λ same. tt)
  made_in_turn change other seen = tt

  pub change_in_turn : HearInTurn h → (change : Change) → MayChange r w change
      → HearInTurn (noted w h change)
  change_in_turn k change may = record {
    client = subst HearsInTurn (sym (happened_more r.client d.client first.client
        w.company.client h.client (told_to w change Client) change side.Client t.runs.client))
        (hears_more (happened h.client) (told_to w change Client) k.client
        (told_in_turn change may Client));
    server = subst HearsInTurn (sym (happened_more r.server d.server first.server
        w.company.server h.server (told_to w change Server) change side.Server t.runs.server))
        (hears_more (happened h.server) (told_to w change Server) k.server
        (told_in_turn change may Server));
    ins = λ n. hears_more (h.ins n) (at_place (in_place w.company n) (told_to w change (In n))
        (made_by w change (In n))) (k.ins n)
        (place_in_turn (in_place w.company n) (h.ins n) (told_to w change (In n))
        (made_by w change (In n)) (told_in_turn change may (In n))
        (made_in_turn change (In n) (h.ins n)));
    outs = λ n. hears_more (h.outs n) (at_place (out_place w.company n)
        (told_to w change (Out n)) (made_by w change (Out n))) (k.outs n)
        (place_in_turn (out_place w.company n) (h.outs n) (told_to w change (Out n))
        (made_by w change (Out n)) (told_in_turn change may (Out n))
        (made_in_turn change (Out n) (h.outs n)));
  }

nothing_in_turn : HearInTurn nothing
nothing_in_turn = record {
  client = in_turn [] [] tt;
  server = in_turn [] [] tt;
  ins = λ n. in_turn [] [] tt;
  outs = λ n. in_turn [] [] tt;
}

module _ {K C S I O : Type 0} (r : Rulebook C S I O) (m : Makers K I O) (d : Deeds C S) where
  pub changes_in_turn : (first : Company C S I O) (w v : World K C S I O) (h : History)
      (leads : Leads r m d w v) → LegsComeUpOnce r m d first w.cast → IsTraced r m d first w h
      → HearInTurn h → HearInTurn (all_noted r m d w h leads.changes)
  changes_in_turn first =
      kept_along r m d first (λ w h. HearInTurn h)
      (λ w h t once. change_in_turn r m d first w h t)

  pub new_in_turn : (w v : World K C S I O) → IsNew w → LegsComeUpOnce r m d w.company w.cast
      → (leads : Leads r m d w v) → HearInTurn (all_noted r m d w nothing leads.changes)
  new_in_turn w v new once leads =
      changes_in_turn w.company w v nothing leads once (traced_first r m d w new) nothing_in_turn
