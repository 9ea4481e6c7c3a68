-- what a change is to the legs of each node
use Rattle.rh_text.specs.declared.ends.Side.TheVariants as side
use Rattle.law_order.proofs.Vocabulary.{◌≡◌, ◌==◌, ℕ, List, [], ◌∷◌, ◌++◌, Bool, true, false, ◌&&◌, ◌||◌, if◌then◌else◌, get_or, IsTrue, refl, sym, ap, ◌∙◌, subst, ⊎_elim, true≢false, false≢true, cases_Bool, or_cases, eq-eqb, append-nil}
use Rattle.rh_shell.specs.Shells as shell
use Rattle.rh_company.specs.Company as company
use Rattle.rh_company.specs.Places as places
use Rattle.law_moves.proofs.Vocabulary.{Cookie, Leg, Rules, Shell, same_leg, after_events}
use Rattle.law_moves.specs.Moving as moving
use Rattle.law_node_history.proofs.Vocabulary.{Who, Client, Server, In, Out, act, Place, Absent, Here, Gone, Company, Rulebook, Deeds, is_same, Makers, World, Change, OpensIn, OpensOut, may_have, History, to_node, told_to, made_by, at_place, in_place, out_place, noted, IsRun, AreRuns, drawn_in, drawn_on, heard_on, came_up, events_of, drawn_by, AllAccepted, IsAccepted, AreAccepted, ComesUpOnce, LegsComeUpOnce}
use Rattle.law_node_history.proofs.Appended.{drawn_append, came_append, accepted_append, end_drawn_more, happened_more, end_accepted_more}
use Rattle.law_node_history.proofs.Ledgers.{is_here, bytes_here, not_other}
use Rattle.law_node_history.proofs.Lines.{same_who}
use Rattle.law_node_history.proofs.Numbers.{asked, answered}

abbrev pub Told : Type 0
Told = Who → List moving.Event

-- ---- the moment is nothing to the legs of a proxy that is made

pub record IsMoment {S : Type 0} (rules : Rules S) (es : List moving.Event) : Type 0 where
  pub drawn : (s : Shell S) (leg : Leg) → drawn_on rules s leg es ≡ []
  pub unheard : (leg : Leg) → heard_on leg es ≡ []
  pub down : (leg : Leg) → came_up leg es ≡ false
  pub accepted : (s : Shell S) → AreAccepted rules s es

pub moments : {K C S I O T : Type 0} (rules : Rules T) (w : World K C S I O) (change : Change)
    (other : Who) → IsMoment rules (made_by w change other)
moments {K} {C} {S} {I} {O} {T} rules w change other = by change
  where
    none : IsMoment rules []
    none = record {
      drawn = λ s leg. refl;
      unheard = λ leg. refl;
      down = λ leg. refl;
      accepted = λ s. tt;
    }

    one : (b : Bool) → IsMoment rules (if b then moving.Ticks w.now ∷ [] else [])
    one true = record {
      drawn = λ s leg. refl;
      unheard = λ leg. refl;
      down = λ leg. refl;
      accepted = λ s. (tt, tt);
    }
    one false = none

    by : (change : Change) → IsMoment rules (made_by w change other)
    by (OpensIn n cookie) = one (is_same (In n) other)
    by (OpensOut n cookie) = one (is_same (Out n) other)
    by change = none

-- ---- the place of a proxy

module _ {S : Type 0} (rules : Rules S) where
  abbrev place_drawn : Place S → Leg → List moving.Event → List ℕ
  place_drawn Absent leg told = []
  place_drawn (Here node legs) leg told = drawn_on rules node leg told
  place_drawn (Gone now) leg told = []

  abbrev place_up : Place S → Leg → List moving.Event → Bool
  place_up Absent leg told = false
  place_up (Here node legs) leg told = came_up leg told
  place_up (Gone now) leg told = false

  abbrev place_accepts : Place S → List moving.Event → Type 0
  place_accepts Absent told = Unit {0}
  place_accepts (Here node legs) told = AreAccepted rules node told
  place_accepts (Gone now) told = Unit {0}

  no_drawn : (p : Place S) (leg : Leg) → place_drawn p leg [] ≡ []
  no_drawn Absent leg = refl
  no_drawn (Here node legs) leg = refl
  no_drawn (Gone now) leg = refl

  no_up : (p : Place S) (leg : Leg) → place_up p leg [] ≡ false
  no_up Absent leg = refl
  no_up (Here node legs) leg = refl
  no_up (Gone now) leg = refl

  no_accepts : (p : Place S) → place_accepts p []
  no_accepts Absent = tt
  no_accepts (Here node legs) = tt
  no_accepts (Gone now) = tt

  module _ (made : Shell S) (events told moment : List moving.Event) (is : IsMoment rules moment)
    where
      place_drawn_more : (p : Place S) (leg : Leg) → IsRun rules made events p
          → drawn_on rules made leg (events ++ at_place p told moment)
          ≡ drawn_on rules made leg events ++ place_drawn p leg told
      place_drawn_more Absent leg run =
          drawn_append rules leg made events moment
          ∙ ap (λ x. drawn_on rules made leg events ++ x)
          (is.drawn (after_events rules made events) leg)
      place_drawn_more (Here node legs) leg run =
          drawn_append rules leg made events told
          ∙ ap (λ (s : Shell S). drawn_on rules made leg events ++ drawn_on rules s leg told)
          (sym run)
      place_drawn_more (Gone now) leg run = drawn_append rules leg made events []

      place_came_more : (p : Place S) (leg : Leg)
          → came_up leg (events ++ at_place p told moment)
          ≡ (came_up leg events || place_up p leg told)
      place_came_more Absent leg =
          came_append leg events moment ∙ ap (λ x. came_up leg events || x) (is.down leg)
      place_came_more (Here node legs) leg = came_append leg events told
      place_came_more (Gone now) leg = came_append leg events []

      place_accepted_more : (p : Place S) → IsRun rules made events p
          → AreAccepted rules made events → place_accepts p told
          → AreAccepted rules made (events ++ at_place p told moment)
      place_accepted_more Absent run a b =
          accepted_append rules made events moment a (is.accepted (after_events rules made events))
      place_accepted_more (Here node legs) run a b =
          accepted_append rules made events told a
          (subst (λ (s : Shell S). AreAccepted rules s told) run b)
      place_accepted_more (Gone now) run a b = accepted_append rules made events [] a tt

  -- ---- legs come up once

  module _ (made : Shell S) (events : List moving.Event) (leg : Leg)
      (accepted : AreAccepted rules made events) (once : ComesUpOnce rules made) where
    place_never : (p : Place S) → IsRun rules made events p
        → places.may_up rules leg p ≡ true → came_up leg events ≡ false
    place_never Absent run may = absurd (false≢true may)
    place_never (Here node legs) run may =
        ⊎_elim (λ t. absurd (true≢false (sym may
        ∙ ap (λ (s : Shell S). shell.may_up rules s leg) run ∙ once.once events leg accepted t)))
        (λ f. f) (cases_Bool (came_up leg events))
    place_never (Gone now) run may = absurd (false≢true may)

    place_wanted : (p : Place S) → IsRun rules made events p
        → places.wants rules leg p ≡ true → places.may_up rules leg p ≡ true
    place_wanted Absent run wants = absurd (false≢true wants)
    place_wanted (Here node legs) run wants =
        ap (λ (s : Shell S). shell.may_up rules s leg) run
        ∙ once.wanted events leg accepted
        (ap (λ (s : Shell S). shell.wants rules s leg) (sym run) ∙ wants)
    place_wanted (Gone now) run wants = absurd (false≢true wants)

-- ---- one event, where a test says so

abbrev pub is_draws : moving.Event → Bool
is_draws (moving.Draws leg room) = true
is_draws event = false

abbrev pub is_comes : moving.Event → Bool
is_comes (moving.ComesUp leg cookie) = true
is_comes event = false

module _ {S : Type 0} (rules : Rules S) where
  pub draws_none : (s : Shell S) (leg : Leg) (e : moving.Event) → is_draws e ≡ false
      → drawn_in rules s leg e ≡ []
  draws_none s leg (moving.Draws other room) q = absurd (true≢false q)
  draws_none s leg e q = refl

  one_drawn : (s : Shell S) (leg : Leg) (e : moving.Event) → is_draws e ≡ false → (b : Bool)
      → drawn_on rules s leg (if b then e ∷ [] else []) ≡ []
  one_drawn s leg e q true = append-nil (drawn_in rules s leg e) ∙ draws_none s leg e q
  one_drawn s leg e q false = refl

  place_one_drawn : (p : Place S) (leg : Leg) (e : moving.Event) → is_draws e ≡ false
      → (b : Bool) → place_drawn rules p leg (if b then e ∷ [] else []) ≡ []
  place_one_drawn Absent leg e q b = refl
  place_one_drawn (Here node legs) leg e q b = one_drawn node leg e q b
  place_one_drawn (Gone now) leg e q b = refl

  comes_none : (leg : Leg) (e : moving.Event) → is_comes e ≡ false → (b : Bool)
      → came_up leg (if b then e ∷ [] else []) ≡ false
  comes_none leg e q false = refl
  comes_none leg (moving.ComesUp other cookie) q true = absurd (true≢false q)
  comes_none leg e q true = refl

  place_comes_none : (p : Place S) (leg : Leg) (e : moving.Event) → is_comes e ≡ false
      → (b : Bool) → place_up rules p leg (if b then e ∷ [] else []) ≡ false
  place_comes_none Absent leg e q b = refl
  place_comes_none (Here node legs) leg e q b = comes_none leg e q b
  place_comes_none (Gone now) leg e q b = refl

  one_accepted : (s : Shell S) (e : moving.Event) (b : Bool) → (b ≡ true → IsAccepted rules s e)
      → AreAccepted rules s (if b then e ∷ [] else [])
  one_accepted s e true a = (a refl, tt)
  one_accepted s e false a = tt

  other_accepted : (s : Shell S) (e : moving.Event) → is_comes e ≡ false → IsAccepted rules s e
  other_accepted s (moving.ComesUp other cookie) q = absurd (true≢false q)
  other_accepted s e q = tt

  place_other_accepted : (p : Place S) (e : moving.Event) → is_comes e ≡ false → (b : Bool)
      → place_accepts rules p (if b then e ∷ [] else [])
  place_other_accepted Absent e q b = tt
  place_other_accepted (Here node legs) e q b =
      one_accepted node e b (λ t. other_accepted node e q)
  place_other_accepted (Gone now) e q b = tt

  place_up_accepted : (p : Place S) (leg : Leg) (cookie : Cookie) (b : Bool)
      → (b ≡ true → places.may_up rules leg p ≡ true)
      → place_accepts rules p (if b then moving.ComesUp leg cookie ∷ [] else [])
  place_up_accepted Absent leg cookie b may = tt
  place_up_accepted (Here node legs) leg cookie b may =
      one_accepted node (moving.ComesUp leg cookie) b may
  place_up_accepted (Gone now) leg cookie b may = tt

  -- ---- at the node itself

  both_same : (b : Bool) (x : List ℕ)
      → (if b then x else []) ++ [] ≡ (if b && true then x else [])
  both_same true x = append-nil x
  both_same false x = refl

  nothing_same : (b : Bool) → ◌≡◌ {A = List ℕ} [] (if b then [] else [])
  nothing_same true = refl
  nothing_same false = refl

  place_drawn_same : (p : Place S) (leg other : Leg) (room : ℕ)
      → place_drawn rules p leg (moving.Draws other room ∷ [])
      ≡ (if same_leg other leg && true then (places.draw rules other room p).1 else [])
  place_drawn_same Absent leg other room = nothing_same (same_leg other leg && true)
  place_drawn_same (Here node legs) leg other room =
      both_same (same_leg other leg) (shell.drawn rules node other room).1
  place_drawn_same (Gone now) leg other room = nothing_same (same_leg other leg && true)

  up_same : (b : Bool) → (b || false) ≡ (b && true)
  up_same true = refl
  up_same false = refl

  place_up_same : (p : Place S) (leg other : Leg) (cookie : Cookie)
      → places.may_up rules other p ≡ true
      → place_up rules p leg (moving.ComesUp other cookie ∷ []) ≡ (same_leg other leg && true)
  place_up_same Absent leg other cookie may = absurd (false≢true may)
  place_up_same (Here node legs) leg other cookie may = up_same (same_leg other leg)
  place_up_same (Gone now) leg other cookie may = absurd (false≢true may)

-- ---- all nodes

module _ {C S I O : Type 0} (r : Rulebook C S I O) (c : Company C S I O) where
  abbrev pub drawn_of : Told → Who → Leg → List ℕ
  drawn_of told Client leg = drawn_on r.client c.client leg (told Client)
  drawn_of told Server leg = drawn_on r.server c.server leg (told Server)
  drawn_of told (In n) leg = place_drawn r.in_proxy (in_place c n) leg (told (In n))
  drawn_of told (Out n) leg = place_drawn r.out_proxy (out_place c n) leg (told (Out n))

  abbrev pub up_of : Told → Who → Leg → Bool
  up_of told Client leg = came_up leg (told Client)
  up_of told Server leg = came_up leg (told Server)
  up_of told (In n) leg = place_up r.in_proxy (in_place c n) leg (told (In n))
  up_of told (Out n) leg = place_up r.out_proxy (out_place c n) leg (told (Out n))

  pub record AllAccept (told : Told) : Type 0 where
    pub client : AreAccepted r.client c.client (told Client)
    pub server : AreAccepted r.server c.server (told Server)
    pub ins : (n : ℕ) → place_accepts r.in_proxy (in_place c n) (told (In n))
    pub outs : (n : ℕ) → place_accepts r.out_proxy (out_place c n) (told (Out n))

  -- nothing is told
  pub silent_drawn : (node : Who) (leg : Leg) → drawn_of (λ other. []) node leg ≡ []
  silent_drawn Client leg = refl
  silent_drawn Server leg = refl
  silent_drawn (In n) leg = no_drawn r.in_proxy (in_place c n) leg
  silent_drawn (Out n) leg = no_drawn r.out_proxy (out_place c n) leg

  pub silent_up : (node : Who) (leg : Leg) → up_of (λ other. []) node leg ≡ false
  silent_up Client leg = refl
  silent_up Server leg = refl
  silent_up (In n) leg = no_up r.in_proxy (in_place c n) leg
  silent_up (Out n) leg = no_up r.out_proxy (out_place c n) leg

  pub silent_accepts : AllAccept (λ other. [])
  silent_accepts = record {
    client = tt;
    server = tt;
    ins = λ n. no_accepts r.in_proxy (in_place c n);
    outs = λ n. no_accepts r.out_proxy (out_place c n);
  }

  module _ (here : Who) where
    abbrev told_here : moving.Event → Told
    told_here e other = to_node here other e

    pub none_drawn : (e : moving.Event) → is_draws e ≡ false → (node : Who) (leg : Leg)
        → drawn_of (told_here e) node leg ≡ []
    none_drawn e q Client leg = one_drawn r.client c.client leg e q (is_same here Client)
    none_drawn e q Server leg = one_drawn r.server c.server leg e q (is_same here Server)
    none_drawn e q (In n) leg =
        place_one_drawn r.in_proxy (in_place c n) leg e q (is_same here (In n))
    none_drawn e q (Out n) leg =
        place_one_drawn r.out_proxy (out_place c n) leg e q (is_same here (Out n))

    pub none_up : (e : moving.Event) → is_comes e ≡ false → (node : Who) (leg : Leg)
        → up_of (told_here e) node leg ≡ false
    none_up e q Client leg = comes_none r.client leg e q (is_same here Client)
    none_up e q Server leg = comes_none r.server leg e q (is_same here Server)
    none_up e q (In n) leg =
        place_comes_none r.in_proxy (in_place c n) leg e q (is_same here (In n))
    none_up e q (Out n) leg =
        place_comes_none r.out_proxy (out_place c n) leg e q (is_same here (Out n))

    pub none_accepts : (e : moving.Event) → is_comes e ≡ false → AllAccept (told_here e)
    none_accepts e q = record {
      client = one_accepted r.client c.client e (is_same here Client)
          (λ t. other_accepted r.client c.client e q);
      server = one_accepted r.server c.server e (is_same here Server)
          (λ t. other_accepted r.server c.server e q);
      ins = λ n. place_other_accepted r.in_proxy (in_place c n) e q (is_same here (In n));
      outs = λ n. place_other_accepted r.out_proxy (out_place c n) e q (is_same here (Out n));
    }

    -- nothing is told to another node
    off_drawn : (e : moving.Event) (node : Who) (leg : Leg) → is_same here node ≡ false
        → drawn_of (told_here e) node leg ≡ []
    off_drawn e Client leg f =
        ap (λ b. drawn_on r.client c.client leg (if b then e ∷ [] else [])) f
    off_drawn e Server leg f =
        ap (λ b. drawn_on r.server c.server leg (if b then e ∷ [] else [])) f
    off_drawn e (In n) leg f =
        ap (λ b. place_drawn r.in_proxy (in_place c n) leg (if b then e ∷ [] else [])) f
        ∙ no_drawn r.in_proxy (in_place c n) leg
    off_drawn e (Out n) leg f =
        ap (λ b. place_drawn r.out_proxy (out_place c n) leg (if b then e ∷ [] else [])) f
        ∙ no_drawn r.out_proxy (out_place c n) leg

    off_up : (e : moving.Event) (node : Who) (leg : Leg) → is_same here node ≡ false
        → up_of (told_here e) node leg ≡ false
    off_up e Client leg f = ap (λ b. came_up leg (if b then e ∷ [] else [])) f
    off_up e Server leg f = ap (λ b. came_up leg (if b then e ∷ [] else [])) f
    off_up e (In n) leg f =
        ap (λ b. place_up r.in_proxy (in_place c n) leg (if b then e ∷ [] else [])) f
        ∙ no_up r.in_proxy (in_place c n) leg
    off_up e (Out n) leg f =
        ap (λ b. place_up r.out_proxy (out_place c n) leg (if b then e ∷ [] else [])) f
        ∙ no_up r.out_proxy (out_place c n) leg

  -- ---- bytes are drawn

  place_itself : {P : Type 0} (rules : Rules P) (list : List (Place P)) (n : ℕ) (other : Leg)
      (room : ℕ) (leg : Leg)
      → place_drawn rules (get_or list n Absent) leg
      (if n == n then moving.Draws other room ∷ [] else [])
      ≡ (if same_leg other leg && (n == n)
      then (act (places.draw rules other room) [] list n).1 else [])
  place_itself rules list n other room leg =
      let e = moving.Draws other room in
      let p = get_or list n Absent in
      let is = eq-eqb n n refl in
      ap (λ b. place_drawn rules p leg (if b then e ∷ [] else [])) is
      ∙ place_drawn_same rules p leg other room
      ∙ ap (λ x. if same_leg other leg && true then x else [])
      (sym (answered Absent (places.draw rules other room) [] refl list n))
      ∙ ap (λ b. if same_leg other leg && b
      then (act (places.draw rules other room) [] list n).1 else []) (sym is)

  drawn_itself : (here : Who) (other : Leg) (room : ℕ) (leg : Leg)
      → drawn_of (told_here here (moving.Draws other room)) here leg
      ≡ bytes_here here other (company.draw r c here other room).1 here leg
  drawn_itself Client other room leg =
      both_same r.client (same_leg other leg) (shell.drawn r.client c.client other room).1
  drawn_itself Server other room leg =
      both_same r.server (same_leg other leg) (shell.drawn r.server c.server other room).1
  drawn_itself (In n) other room leg = place_itself r.in_proxy c.ins n other room leg
  drawn_itself (Out n) other room leg = place_itself r.out_proxy c.outs n other room leg

  pub drawn_there : (here : Who) (other : Leg) (room : ℕ) (node : Who) (leg : Leg)
      → drawn_of (told_here here (moving.Draws other room)) node leg
      ≡ bytes_here here other (company.draw r c here other room).1 node leg
  drawn_there here other room node leg =
      let bytes = (company.draw r c here other room).1 in
      ⊎_elim (λ t. subst (λ (x : Who). drawn_of (told_here here (moving.Draws other room)) x leg
      ≡ bytes_here here other bytes x leg) (same_who here node t)
      (drawn_itself here other room leg))
      (λ f. off_drawn here (moving.Draws other room) node leg f
      ∙ sym (ap (λ b. if b then bytes else []) (not_other here other node leg f)))
      (cases_Bool (is_same here node))

  -- ---- a leg comes up

  pub in_may : (n : ℕ) (leg : Leg) → company.may_up r c (In n) leg
      ≡ places.may_up r.in_proxy leg (in_place c n)
  in_may n leg = asked Absent (places.may_up r.in_proxy leg) c.ins n

  pub out_may : (n : ℕ) (leg : Leg) → company.may_up r c (Out n) leg
      ≡ places.may_up r.out_proxy leg (out_place c n)
  out_may n leg = asked Absent (places.may_up r.out_proxy leg) c.outs n

  up_itself : (here : Who) (other : Leg) (cookie : Cookie) (leg : Leg)
      → company.may_up r c here other ≡ true
      → up_of (told_here here (moving.ComesUp other cookie)) here leg ≡ is_here here other here leg
  up_itself Client other cookie leg may = up_same r.client (same_leg other leg)
  up_itself Server other cookie leg may = up_same r.server (same_leg other leg)
  up_itself (In n) other cookie leg may =
      let e = moving.ComesUp other cookie in
      let is = eq-eqb n n refl in
      ap (λ b. place_up r.in_proxy (in_place c n) leg (if b then e ∷ [] else [])) is
      ∙ place_up_same r.in_proxy (in_place c n) leg other cookie (sym (in_may n other) ∙ may)
      ∙ ap (λ b. same_leg other leg && b) (sym is)
  up_itself (Out n) other cookie leg may =
      let e = moving.ComesUp other cookie in
      let is = eq-eqb n n refl in
      ap (λ b. place_up r.out_proxy (out_place c n) leg (if b then e ∷ [] else [])) is
      ∙ place_up_same r.out_proxy (out_place c n) leg other cookie (sym (out_may n other) ∙ may)
      ∙ ap (λ b. same_leg other leg && b) (sym is)

  module _ (here : Who) (other : Leg) (cookie : Cookie)
      (may : company.may_up r c here other ≡ true) where
    pub up_there : (node : Who) (leg : Leg)
        → up_of (told_here here (moving.ComesUp other cookie)) node leg
        ≡ is_here here other node leg
    up_there node leg =
        ⊎_elim (λ t. subst (λ (x : Who). up_of (told_here here (moving.ComesUp other cookie)) x leg
        ≡ is_here here other x leg) (same_who here node t) (up_itself here other cookie leg may))
        (λ f. off_up here (moving.ComesUp other cookie) node leg f
        ∙ sym (not_other here other node leg f)) (cases_Bool (is_same here node))

    up_at_same : (node : Who) → is_same here node ≡ true → company.may_up r c node other ≡ true
    up_at_same node t =
        subst (λ (x : Who). company.may_up r c x other ≡ true) (same_who here node t) may

    pub up_accepts : AllAccept (told_here here (moving.ComesUp other cookie))
    up_accepts = record {
      client = one_accepted r.client c.client (moving.ComesUp other cookie) (is_same here Client)
          (up_at_same Client);
      server = one_accepted r.server c.server (moving.ComesUp other cookie) (is_same here Server)
          (up_at_same Server);
      ins = λ n. place_up_accepted r.in_proxy (in_place c n) other cookie (is_same here (In n))
          (λ t. sym (in_may n other) ∙ up_at_same (In n) t);
      outs = λ n. place_up_accepted r.out_proxy (out_place c n) other cookie
          (is_same here (Out n)) (λ t. sym (out_may n other) ∙ up_at_same (Out n) t);
    }

-- ---- by histories

module _ {K C S I O : Type 0} (r : Rulebook C S I O) (m : Makers K I O) (d : Deeds C S)
    (first : Company C S I O) (w : World K C S I O) (h : History)
    (runs : AreRuns r m d first w h) where
  module _ (change : Change) where
    pub drawn_more : (node : Who) (leg : Leg)
        → drawn_by r m d first w.cast (noted w h change) node leg
        ≡ drawn_by r m d first w.cast h node leg
        ++ drawn_of r w.company (told_to w change) node leg
    drawn_more Client leg =
        end_drawn_more r.client d.client first.client w.company.client h.client
        (told_to w change Client) change side.Client runs.client leg
    drawn_more Server leg =
        end_drawn_more r.server d.server first.server w.company.server h.server
        (told_to w change Server) change side.Server runs.server leg
    drawn_more (In n) leg =
        place_drawn_more r.in_proxy (m.in_proxy w.cast n) (h.ins n) (told_to w change (In n))
        (made_by w change (In n)) (moments r.in_proxy w change (In n)) (in_place w.company n) leg
        (runs.ins n)
    drawn_more (Out n) leg =
        place_drawn_more r.out_proxy (m.out_proxy w.cast n) (h.outs n) (told_to w change (Out n))
        (made_by w change (Out n)) (moments r.out_proxy w change (Out n))
        (out_place w.company n) leg (runs.outs n)

    pub up_more : (node : Who) (leg : Leg)
        → came_up leg (events_of (noted w h change) node)
        ≡ (came_up leg (events_of h node) || up_of r w.company (told_to w change) node leg)
    up_more Client leg =
        ap (came_up leg) (happened_more r.client d.client first.client w.company.client h.client
        (told_to w change Client) change side.Client runs.client)
        ∙ came_append leg (events_of h Client) (told_to w change Client)
    up_more Server leg =
        ap (came_up leg) (happened_more r.server d.server first.server w.company.server h.server
        (told_to w change Server) change side.Server runs.server)
        ∙ came_append leg (events_of h Server) (told_to w change Server)
    up_more (In n) leg =
        place_came_more r.in_proxy (m.in_proxy w.cast n) (h.ins n) (told_to w change (In n))
        (made_by w change (In n)) (moments r.in_proxy w change (In n)) (in_place w.company n) leg
    up_more (Out n) leg =
        place_came_more r.out_proxy (m.out_proxy w.cast n) (h.outs n) (told_to w change (Out n))
        (made_by w change (Out n)) (moments r.out_proxy w change (Out n))
        (out_place w.company n) leg

    pub accepted_more : AllAccepted r m d first w.cast h
        → AllAccept r w.company (told_to w change)
        → AllAccepted r m d first w.cast (noted w h change)
    accepted_more a b = record {
      client = end_accepted_more r.client d.client first.client w.company.client h.client
          (told_to w change Client) change side.Client runs.client a.client b.client;
      server = end_accepted_more r.server d.server first.server w.company.server h.server
          (told_to w change Server) change side.Server runs.server a.server b.server;
      ins = λ n. place_accepted_more r.in_proxy (m.in_proxy w.cast n) (h.ins n)
          (told_to w change (In n)) (made_by w change (In n))
          (moments r.in_proxy w change (In n)) (in_place w.company n) (runs.ins n) (a.ins n)
          (b.ins n);
      outs = λ n. place_accepted_more r.out_proxy (m.out_proxy w.cast n) (h.outs n)
          (told_to w change (Out n)) (made_by w change (Out n))
          (moments r.out_proxy w change (Out n)) (out_place w.company n) (runs.outs n) (a.outs n)
          (b.outs n);
    }

  -- ---- a leg comes up once

  module _ (accepted : AllAccepted r m d first w.cast h)
      (once : LegsComeUpOnce r m d first w.cast) where
    pub never_up : (node : Who) (leg : Leg) → company.may_up r w.company node leg ≡ true
        → came_up leg (events_of h node) ≡ false
    never_up Client leg may =
        ⊎_elim (λ t. absurd (true≢false (sym may
        ∙ ap (λ (s : Shell C). shell.may_up r.client s leg) runs.client
        ∙ once.client.once h.client leg accepted.client t))) (λ f. f)
        (cases_Bool (came_up leg (events_of h Client)))
    never_up Server leg may =
        ⊎_elim (λ t. absurd (true≢false (sym may
        ∙ ap (λ (s : Shell S). shell.may_up r.server s leg) runs.server
        ∙ once.server.once h.server leg accepted.server t))) (λ f. f)
        (cases_Bool (came_up leg (events_of h Server)))
    never_up (In n) leg may =
        place_never r.in_proxy (m.in_proxy w.cast n) (h.ins n) leg (accepted.ins n) (once.ins n)
        (in_place w.company n) (runs.ins n) (sym (in_may r w.company n leg) ∙ may)
    never_up (Out n) leg may =
        place_never r.out_proxy (m.out_proxy w.cast n) (h.outs n) leg (accepted.outs n)
        (once.outs n) (out_place w.company n) (runs.outs n)
        (sym (out_may r w.company n leg) ∙ may)

    wanted_up : (node : Who) (leg : Leg) → company.wants r w.company node leg ≡ true
        → company.may_up r w.company node leg ≡ true
    wanted_up Client leg wants =
        ap (λ (s : Shell C). shell.may_up r.client s leg) runs.client
        ∙ once.client.wanted h.client leg accepted.client
        (ap (λ (s : Shell C). shell.wants r.client s leg) (sym runs.client) ∙ wants)
    wanted_up Server leg wants =
        ap (λ (s : Shell S). shell.may_up r.server s leg) runs.server
        ∙ once.server.wanted h.server leg accepted.server
        (ap (λ (s : Shell S). shell.wants r.server s leg) (sym runs.server) ∙ wants)
    wanted_up (In n) leg wants =
        in_may r w.company n leg
        ∙ place_wanted r.in_proxy (m.in_proxy w.cast n) (h.ins n) leg (accepted.ins n)
        (once.ins n) (in_place w.company n) (runs.ins n)
        (sym (asked Absent (places.wants r.in_proxy leg) w.company.ins n) ∙ wants)
    wanted_up (Out n) leg wants =
        out_may r w.company n leg
        ∙ place_wanted r.out_proxy (m.out_proxy w.cast n) (h.outs n) leg (accepted.outs n)
        (once.outs n) (out_place w.company n) (runs.outs n)
        (sym (asked Absent (places.wants r.out_proxy leg) w.company.outs n) ∙ wants)

    -- what it may have or asks for may come up
    pub may_come : (node : Who) (leg : Leg) → IsTrue (may_have r w node leg)
        → company.may_up r w.company node leg ≡ true
    may_come node leg may =
        ⊎_elim (λ up. up) (wanted_up node leg)
        (or_cases (company.may_up r w.company node leg) (company.wants r w.company node leg) may)
