-- no bytes: none that are put, and none that are fed, change anything
use Rattle.std.proofs.Common.{◌≡◌, ℕ, zero, suc, List, [], ◌∷◌, ◌==◌, Bool, true, false, if◌then◌else◌, length, take, drop, get_or, slice_get, slice_set, Some, None, refl, sym, ap, ◌∙◌, arith}
use Rattle.std.proofs.lemmas.Bool.{eqb-true}
use Rattle.std.proofs.lemmas.List.{append-nil}
use Rattle.std.proofs.Math.Seq.{drop-nil, take-nil}
use Rattle.std.specs.declared.option.Option.{Option}
use Rattle.rh_text.specs.declared.ends.Dir.{Dir}
use Rattle.rh_text.specs.declared.ends.Dir.TheVariants.{U, D}
use Rattle.rh_line.specs.declared.cause.Cause.{Cause}
use Rattle.rh_line.specs.declared.leg.Leg.{Leg}
use Rattle.rh_line.specs.declared.leg.LegKind.{LegKind}
use Rattle.rh_line.specs.declared.leg.LegKind.TheVariants.{ClientOut, OutServer, ClientIn, InServer}
use Rattle.rh_line.specs.declared.state.State.{State}
use Rattle.rh_line.specs.declared.state.State.TheVariants as state
use Rattle.rh_record.specs.declared.answer.Who.{Who}
use Rattle.rh_record.specs.declared.answer.Who.TheVariants as who
use Rattle.rh_shell.specs.declared.course.Course.{Course}
use Rattle.rh_shell.specs.declared.course.Course.TheVariants.{Going, Closed, Refusing}
use Rattle.rh_shell.specs.Hearing.{hear}
use Rattle.rh_shell.specs.NearEnds.{NearEnd}
use Rattle.rh_shell.specs.Rules.{Rules}
use Rattle.rh_shell.specs.Shells as shell
use Rattle.rh_shell.specs.Shells.{Shell, state_of, verdict_by, bytes_at, bytes_by, end_at}
use Rattle.rh_wires.specs.declared.legs.Legs.{Legs}
use Rattle.rh_wires.specs.declared.wire.Wire.{Wire}
use Rattle.rh_wires.specs.Legs as legs
use Rattle.rh_wires.specs.Numbered.{ask, act, change, change_by}
use Rattle.rh_wires.specs.Wires as wires
use Rattle.rh_wires.specs.Wires.{blank, in_flight, with_flight, receiver}
use Rattle.rh_company.specs.declared.event.Event.TheVariants.{Comes}
use Rattle.rh_company.specs.declared.place.Place.{Place}
use Rattle.rh_company.specs.declared.place.Place.TheVariants.{Absent, Here, Gone}
use Rattle.rh_company.specs.Company as company
use Rattle.rh_company.specs.Company.{Company, Rulebook, with_client, with_server, with_ins, with_outs}
use Rattle.rh_company.specs.Places as places
use Rattle.rh_company.specs.Telling as telling
use Rattle.rh_nodes.specs.Carrying.{put_drawn, send, feed, fed}
use Rattle.rh_nodes.specs.Settling.{carry, carried, most_bytes}
use Rattle.rh_nodes.specs.World.{World, at, tell, was_told}
use Rattle.rh_nodes.proofs.Idles.{act_kept}

-- ---- none are put

change_behind : {X : Type 0} (to : X → X) (x : X) (list : List X) (k : ℕ) (o : Option X)
    → change_by to (x ∷ list) (suc k) o ≡ x ∷ change_by to list k o
change_behind to x list k None = refl
change_behind to x list k (Some y) = refl

change_kept : {X : Type 0} (to : X → X) (list : List X) (k : ℕ) → ((x : X) → to x ≡ x)
    → change to list k ≡ list
change_kept to [] k kept = refl
change_kept to (x ∷ list) zero kept = ap (λ y. slice_set (x ∷ list) 0 y) (kept x)
change_kept to (x ∷ list) (suc k) kept =
    change_behind to x list k (slice_get list k)
    ∙ ap (λ l. x ∷ l) (change_kept to list k kept)

same_flight : (dir : Dir) (wire : Wire) → with_flight dir (in_flight dir wire) wire ≡ wire
same_flight U wire = refl
same_flight D wire = refl

put_none_on : (dir : Dir) (wire : Wire) → wires.put dir [] wire ≡ wire
put_none_on dir wire =
    ap (λ bytes. with_flight dir bytes wire) (append-nil (in_flight dir wire))
    ∙ same_flight dir wire

same_kind : (kind : LegKind) (all : Legs) → legs.with_kind kind (legs.of kind all) all ≡ all
same_kind ClientOut all = refl
same_kind OutServer all = refl
same_kind ClientIn all = refl
same_kind InServer all = refl

put_none : (leg : Leg) (dir : Dir) (all : Legs) → legs.put leg dir [] all ≡ all
put_none leg dir all =
    ap (λ list. legs.with_kind leg.kind list all)
    (change_kept (wires.put dir []) (legs.of leg.kind all) leg.number (put_none_on dir))
    ∙ same_kind leg.kind all

-- none were drawn, so none are put
pub none_drawn : {C S I O : Type 0} (all : Legs) (leg : Leg) (dir : Dir)
    (did : Company C S I O × List ℕ) (next : Company C S I O) (bytes : List ℕ)
    → (next, bytes) ≡ did → bytes ≡ [] → (next, all, 0) ≡ put_drawn all leg dir did
none_drawn {C} {S} {I} {O} all leg dir did next bytes is none =
    ap (λ (l : Legs). (next, l, 0)) (sym (put_none leg dir all))
    ∙ ap (λ (b : List ℕ). put_drawn all leg dir (next, b)) (sym none)
    ∙ ap (λ (d : Company C S I O × List ℕ). put_drawn all leg dir d) is

-- ---- none are in flight

no_items : (bytes : List ℕ) → (length bytes == 0) ≡ true → bytes ≡ []
no_items [] none = refl
no_items (b ∷ bytes) none = absurd (omega (arith, eqb-true (length (b ∷ bytes)) 0 none))

clear_at : (dir : Dir) (list : List Wire) (k : ℕ) → ask (wires.is_clear dir) true list k ≡ true
    → in_flight dir (get_or list k blank) ≡ []
clear_at U [] k h = refl
clear_at D [] k h = refl
clear_at dir (wire ∷ list) zero h = no_items (in_flight dir wire) h
clear_at dir (wire ∷ list) (suc k) h = clear_at dir list k h

take_none : (dir : Dir) (count : ℕ) (wire : Wire) → in_flight dir wire ≡ []
    → wires.take_out dir count wire ≡ (wire, [])
take_none dir count wire none =
    ap (λ bytes. (with_flight dir (drop count bytes) wire, take count bytes)) none
    ∙ ap (λ bytes. (with_flight dir bytes wire, take count [])) (drop-nil count)
    ∙ ap (λ (bytes : List ℕ). (with_flight dir [] wire, bytes)) (take-nil count)
    ∙ ap (λ bytes. (with_flight dir bytes wire, [])) (sym none)
    ∙ ap (λ (w : Wire). (w, [])) (same_flight dir wire)

take_out_clear : (leg : Leg) (dir : Dir) (count : ℕ) (all : Legs)
    → legs.is_clear leg dir all ≡ true → legs.take_out leg dir count all ≡ (all, [])
take_out_clear leg dir count all clear =
    let list = legs.of leg.kind all in
    ap (λ taken. legs.with_taken leg.kind taken all)
    (act_kept (wires.take_out dir count) [] blank list leg.number
    (take_none dir count (get_or list leg.number blank) (clear_at dir list leg.number clear)))
    ∙ ap (λ (l : Legs). (l, [])) (same_kind leg.kind all)

-- ---- none come at a node

set_same : {X : Type 0} (list : List X) (k : ℕ) (x : X) → slice_get list k ≡ Some x
    → slice_set list k x ≡ list
set_same [] k x is = refl
set_same (y ∷ list) zero x is = let same : y ≡ x = cc in ap (λ z. z ∷ list) (sym same)
set_same (y ∷ list) (suc k) x is = ap (λ l. y ∷ l) (set_same list k x is)

none_at : {S : Type 0} (rules : Rules S) (s : Shell S) (leg : Leg) (o : Option NearEnd)
    → end_at s leg ≡ o → bytes_at rules s leg [] o ≡ s
unfolding hear
none_at rules s leg None is = refl
none_at rules s leg (Some end) is =
    ap (λ (ends : List NearEnd). record s { legs = ends })
    (set_same s.legs (shell.place leg s.legs) end is)

none_by : {S : Type 0} (rules : Rules S) (s : Shell S) (leg : Leg) (course : Course)
    → bytes_by rules s leg [] course ≡ s
none_by rules s leg Going = none_at rules s leg (end_at s leg) refl
none_by rules s leg (Closed why) = refl
none_by rules s leg (Refusing why client rest) = refl

still : (now : State) → telling.closing now (verdict_by now) ≡ None
still state.Opening = refl
still state.Open = refl
still state.Ended = refl
still (state.Closed why) = refl

tell_node : {S : Type 0} (rules : Rules S) (node : Shell S) (leg : Leg)
    → telling.tell rules node (Comes leg []) ≡ (node, None)
tell_node {S} rules node leg =
    ap (λ (s : Shell S). telling.told (state_of rules node) (shell.with_verdict rules s))
    (none_by rules node leg node.course)
    ∙ ap (λ (o : Option Cause). (node, o)) (still (state_of rules node))

tell_place : {S : Type 0} (rules : Rules S) (leg : Leg) (place : Place S)
    → places.tell rules (Comes leg []) place ≡ (place, None)
tell_place rules leg Absent = refl
tell_place rules leg (Here node legs) =
    ap (λ did. places.still_here legs did) (tell_node rules node leg)
tell_place rules leg (Gone now) = refl

tell_list : {S : Type 0} (rules : Rules S) (leg : Leg) (list : List (Place S)) (k : ℕ)
    → act (places.tell rules (Comes leg [])) None list k ≡ (list, None)
tell_list rules leg list k =
    act_kept (places.tell rules (Comes leg [])) None Absent list k
    (tell_place rules leg (get_or list k Absent))

tell_company : {C S I O : Type 0} (r : Rulebook C S I O) (c : Company C S I O) (node : Who)
    (leg : Leg) → company.tell r c node (Comes leg []) ≡ (c, None)
tell_company r c who.Client leg = ap (λ did. with_client c did) (tell_node r.client c.client leg)
tell_company r c who.Server leg = ap (λ did. with_server c did) (tell_node r.server c.server leg)
tell_company r c (who.In k) leg = ap (λ did. with_ins c did) (tell_list r.in_proxy leg c.ins k)
tell_company r c (who.Out k) leg =
    ap (λ did. with_outs c did) (tell_list r.out_proxy leg c.outs k)

tell_none : {K C S I O : Type 0} (r : Rulebook C S I O) (w : World K C S I O) (node : Who)
    (leg : Leg) → tell r w node (Comes leg []) ≡ w
tell_none r w node leg = ap (λ told. was_told w node told) (tell_company r w.company node leg)

-- ---- none are fed

feed_if : {K C S I O : Type 0} (r : Rulebook C S I O) (leg : Leg) (dir : Dir)
    (w : World K C S I O) (up : Bool)
    → carried leg dir (if up then fed r w leg dir (w.legs, []) else (w, None)) ≡ (w, [])
feed_if r leg dir w true =
    ap (λ next. carried leg dir (next, Some [])) (tell_none r w (at w leg (receiver dir)) leg)
feed_if r leg dir w false = refl

feed_clear : {K C S I O : Type 0} (r : Rulebook C S I O) (leg : Leg) (dir : Dir) (count : ℕ)
    (w : World K C S I O) → legs.is_clear leg dir w.legs ≡ true
    → carried leg dir (feed r w leg dir count) ≡ (w, [])
feed_clear r leg dir count w clear =
    let up = legs.is_up leg (receiver dir) w.legs in
    ap (λ taken. carried leg dir (if up then fed r w leg dir taken else (w, None)))
    (take_out_clear leg dir count w.legs clear)
    ∙ feed_if r leg dir w up

-- where none are in flight behind what was drawn, nothing is fed and nothing reported
pub carry_clear : {K C S I O : Type 0} (r : Rulebook C S I O) (leg : Leg) (dir : Dir)
    (w next : World K C S I O) (drawn : Option ℕ)
    → (next, drawn) ≡ send r w leg dir most_bytes → legs.is_clear leg dir next.legs ≡ true
    → (next, []) ≡ carry r leg dir w
carry_clear r leg dir w next drawn is clear =
    sym (feed_clear r leg dir most_bytes next clear)
    ∙ ap (λ sent. carried leg dir (feed r sent.0 leg dir most_bytes)) is
