-- what a change does to each node is what its events do
use Rattle.law_order.proofs.Vocabulary.{◌≡◌, ℕ, List, [], ◌∷◌, ◌++◌, Bool, if◌then◌else◌, get_or, map, None, refl, sym, ap, ◌∙◌, subst, ◌⊎◌, inl, inr, ◌≢◌, ◌==◌, cases_eq, eq-eqb, ne_eqb, append-nil}
use Rattle.rh_company.specs.Company as company
use Rattle.rh_company.specs.Places as places
use Rattle.rh_company.specs.Telling as telling
use Rattle.law_moves.proofs.Vocabulary.{Cookie, Leg, Rules, Acts, Shell, EndEvent, Happens, after_event, after_events, after_end_event, after_end_events}
use Rattle.law_moves.specs.Moving as moving
use Rattle.law_node_history.proofs.Vocabulary.{Who, Client, Server, In, Out, act, change, Event, Comes, Ends, Breaks, Passes, Place, Absent, Here, Gone, Company, Rulebook, heard, to_node, at_place, in_place, out_place, IsRun, WasLetGo}
use Rattle.law_node_history.proofs.Numbers.{acted, acts_elsewhere, changed_here, changes_elsewhere}

-- ---- events behind events

pub events_append : {S : Type 0} (rules : Rules S) (s : Shell S) (es fs : List moving.Event)
    → after_events rules s (es ++ fs) ≡ after_events rules (after_events rules s es) fs
events_append rules s [] fs = refl
events_append rules s (e ∷ es) fs = events_append rules (after_event rules s e) es fs

pub end_events_append : {S : Type 0} (rules : Rules S) (acts : Acts S) (s : Shell S)
    (es fs : List EndEvent)
    → after_end_events rules acts s (es ++ fs)
    ≡ after_end_events rules acts (after_end_events rules acts s es) fs
end_events_append rules acts s [] fs = refl
end_events_append rules acts s (e ∷ es) fs =
    end_events_append rules acts (after_end_event rules acts s e) es fs

pub end_events_happen : {S : Type 0} (rules : Rules S) (acts : Acts S) (s : Shell S)
    (es : List moving.Event)
    → after_end_events rules acts s (map Happens es) ≡ after_events rules s es
end_events_happen rules acts s [] = refl
end_events_happen rules acts s (e ∷ es) =
    end_events_happen rules acts (after_event rules s e) es

-- what is told is an event of the shell
pub told_event : {S : Type 0} (rules : Rules S) (s : Shell S) (event : Event)
    → (telling.tell rules s event).0 ≡ after_event rules s (heard event)
told_event rules s (Comes leg piece) = refl
told_event rules s (Ends leg) = refl
told_event rules s (Breaks leg) = refl
told_event rules s (Passes now) = refl

-- ---- the place of a proxy

-- events happen to the proxy that is there
abbrev pub Runs : {S : Type 0} → Rules S → Place S → Place S → List moving.Event → Type 0
Runs rules Absent q es = q ≡ Absent
Runs {S} rules (Here node legs) q es =
    (left : ℕ) × (q ≡ Here (after_events rules node es) left)
Runs rules (Gone now) q es = q ≡ Gone now

pub runs_none : {S : Type 0} (rules : Rules S) (p : Place S) → Runs rules p p []
runs_none rules Absent = refl
runs_none rules (Here node legs) = (legs, refl)
runs_none rules (Gone now) = refl

module _ {S : Type 0} (rules : Rules S) where
  told_runs : (event : Event) (p : Place S)
      → Runs rules p (places.tell rules event p).0 (heard event ∷ [])
  told_runs event Absent = refl
  told_runs event (Here node legs) =
      (legs, ap (λ (s : Shell S). Here s legs) (told_event rules node event))
  told_runs event (Gone now) = refl

  up_runs : (leg : Leg) (cookie : Cookie) (p : Place S)
      → Runs rules p (places.up rules leg cookie p) (moving.ComesUp leg cookie ∷ [])
  up_runs leg cookie Absent = refl
  up_runs leg cookie (Here node legs) = (_, refl)
  up_runs leg cookie (Gone now) = refl

  drawn_runs : (leg : Leg) (room : ℕ) (p : Place S)
      → Runs rules p (places.draw rules leg room p).0 (moving.Draws leg room ∷ [])
  drawn_runs leg room Absent = refl
  drawn_runs leg room (Here node legs) = (legs, refl)
  drawn_runs leg room (Gone now) = refl

  -- a run goes on
  pub run_on : (made : Shell S) (events : List moving.Event) (p q : Place S)
      (es : List moving.Event) → IsRun rules made events p → Runs rules p q es
      → IsRun rules made (events ++ at_place p es []) q
  run_on made events Absent q es h e =
      subst (λ (x : Place S). IsRun rules made (events ++ []) x) (sym e) (append-nil events ∙ h)
  run_on made events (Here node legs) q es h e =
      subst (λ (x : Place S). IsRun rules made (events ++ es) x) (sym e.1)
      (ap (λ (s : Shell S). after_events rules s es) h ∙ sym (events_append rules made events es))
  run_on made events (Gone now) q es h e =
      subst (λ (x : Place S). IsRun rules made (events ++ []) x) (sym e)
      (subst (λ (x : List moving.Event). WasLetGo rules (after_events rules made x) now)
      (sym (append-nil events)) h)

-- ---- where something happens to the proxy of a number

module _ {S : Type 0} (rules : Rules S) (list after : List (Place S)) (number : ℕ)
    (event : moving.Event)
    (elsewhere : (n : ℕ) → n ≢ number → get_or after n Absent ≡ get_or list n Absent)
    (here : Runs rules (get_or list number Absent) (get_or after number Absent) (event ∷ [])) where
  at_number : (n : ℕ) → Runs rules (get_or list n Absent) (get_or after n Absent)
      (if number == n then event ∷ [] else [])
  at_number n = by (cases_eq number n)
    where
      by : (number ≡ n) ⊎ (number ≡ n → ⊥)
          → Runs rules (get_or list n Absent) (get_or after n Absent)
          (if number == n then event ∷ [] else [])
      by (inl same) =
          subst (λ k. Runs rules (get_or list k Absent) (get_or after k Absent)
          (if number == k then event ∷ [] else [])) same
          (subst (λ (b : Bool). Runs rules (get_or list number Absent)
          (get_or after number Absent) (if b then event ∷ [] else []))
          (sym (eq-eqb number number refl)) here)
      by (inr other) =
          subst (λ (b : Bool). Runs rules (get_or list n Absent) (get_or after n Absent)
          (if b then event ∷ [] else [])) (sym (ne_eqb number n other))
          (subst (λ (x : Place S). Runs rules (get_or list n Absent) x [])
          (sym (elsewhere n (λ e. other (sym e)))) (runs_none rules (get_or list n Absent)))

-- by an act there, or by a change
module _ {S : Type 0} (rules : Rules S) where
  at_acted : {A : Type 0} (does : Place S → Place S × A) (none : A) → does Absent ≡ (Absent, none)
      → (list : List (Place S)) (number : ℕ) (event : moving.Event)
      → Runs rules (get_or list number Absent) (does (get_or list number Absent)).0 (event ∷ [])
      → (n : ℕ)
      → Runs rules (get_or list n Absent) (get_or (act does none list number).0 n Absent)
      (if number == n then event ∷ [] else [])
  at_acted does none idle list number event runs =
      at_number rules list (act does none list number).0 number event
      (λ n other. acts_elsewhere Absent does none list number n other)
      (subst (λ (x : Place S). Runs rules (get_or list number Absent) x (event ∷ []))
      (sym (acted Absent does none idle list number)) runs)

  at_changed : (does : Place S → Place S) → does Absent ≡ Absent → (list : List (Place S))
      (number : ℕ) (event : moving.Event)
      → Runs rules (get_or list number Absent) (does (get_or list number Absent)) (event ∷ [])
      → (n : ℕ)
      → Runs rules (get_or list n Absent) (get_or (change does list number) n Absent)
      (if number == n then event ∷ [] else [])
  at_changed does idle list number event runs =
      at_number rules list (change does list number) number event
      (λ n other. changes_elsewhere Absent does list number n other)
      (subst (λ (x : Place S). Runs rules (get_or list number Absent) x (event ∷ []))
      (sym (changed_here Absent does idle list number)) runs)

-- ---- all nodes

-- an event happens to the node that it is for, where that is there, and to no other
pub record Meets {C S I O : Type 0} (r : Rulebook C S I O) (before after : Company C S I O)
    (node : Who) (event : moving.Event) : Type 0 where
  pub client : after.client ≡ after_events r.client before.client (to_node node Client event)
  pub server : after.server ≡ after_events r.server before.server (to_node node Server event)
  pub ins : (n : ℕ)
      → Runs r.in_proxy (in_place before n) (in_place after n) (to_node node (In n) event)
  pub outs : (n : ℕ)
      → Runs r.out_proxy (out_place before n) (out_place after n) (to_node node (Out n) event)

module _ {C S I O : Type 0} (r : Rulebook C S I O) (c : Company C S I O) where
  abbrev no_ins : (n : ℕ) → Runs r.in_proxy (in_place c n) (in_place c n) []
  no_ins n = runs_none r.in_proxy (in_place c n)

  abbrev no_outs : (n : ℕ) → Runs r.out_proxy (out_place c n) (out_place c n) []
  no_outs n = runs_none r.out_proxy (out_place c n)

  pub tell_meets : (node : Who) (event : Event)
      → Meets r c (company.tell r c node event).0 node (heard event)
  tell_meets Client event = record {
    client = told_event r.client c.client event;
    server = refl;
    ins = no_ins;
    outs = no_outs;
  }
  tell_meets Server event = record {
    client = refl;
    server = told_event r.server c.server event;
    ins = no_ins;
    outs = no_outs;
  }
  tell_meets (In number) event = record {
    client = refl;
    server = refl;
    ins = at_acted r.in_proxy (places.tell r.in_proxy event) None refl c.ins number (heard event)
        (told_runs r.in_proxy event (in_place c number));
    outs = no_outs;
  }
  tell_meets (Out number) event = record {
    client = refl;
    server = refl;
    ins = no_ins;
    outs = at_acted r.out_proxy (places.tell r.out_proxy event) None refl c.outs number
        (heard event) (told_runs r.out_proxy event (out_place c number));
  }

  pub draw_meets : (node : Who) (leg : Leg) (room : ℕ)
      → Meets r c (company.draw r c node leg room).0 node (moving.Draws leg room)
  draw_meets Client leg room =
      record { client = refl; server = refl; ins = no_ins; outs = no_outs }
  draw_meets Server leg room =
      record { client = refl; server = refl; ins = no_ins; outs = no_outs }
  draw_meets (In number) leg room = record {
    client = refl;
    server = refl;
    ins = at_acted r.in_proxy (places.draw r.in_proxy leg room) [] refl c.ins number
        (moving.Draws leg room) (drawn_runs r.in_proxy leg room (in_place c number));
    outs = no_outs;
  }
  draw_meets (Out number) leg room = record {
    client = refl;
    server = refl;
    ins = no_ins;
    outs = at_acted r.out_proxy (places.draw r.out_proxy leg room) [] refl c.outs number
        (moving.Draws leg room) (drawn_runs r.out_proxy leg room (out_place c number));
  }

  pub up_meets : (node : Who) (leg : Leg) (cookie : Cookie)
      → Meets r c (company.up r c node leg cookie) node (moving.ComesUp leg cookie)
  up_meets Client leg cookie =
      record { client = refl; server = refl; ins = no_ins; outs = no_outs }
  up_meets Server leg cookie =
      record { client = refl; server = refl; ins = no_ins; outs = no_outs }
  up_meets (In number) leg cookie = record {
    client = refl;
    server = refl;
    ins = at_changed r.in_proxy (places.up r.in_proxy leg cookie) refl c.ins number
        (moving.ComesUp leg cookie) (up_runs r.in_proxy leg cookie (in_place c number));
    outs = no_outs;
  }
  up_meets (Out number) leg cookie = record {
    client = refl;
    server = refl;
    ins = no_ins;
    outs = at_changed r.out_proxy (places.up r.out_proxy leg cookie) refl c.outs number
        (moving.ComesUp leg cookie) (up_runs r.out_proxy leg cookie (out_place c number));
  }
