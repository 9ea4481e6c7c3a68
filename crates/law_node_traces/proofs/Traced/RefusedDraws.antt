-- what a node draws while it goes on, and behind that of a refusal
use Rattle.law_order.proofs.Vocabulary.{◌≡◌, ◌⊎◌, ℕ, ◌-◌, List, [], ◌∷◌, ◌++◌, length, take, drop, Bool, true, false, if◌then◌else◌, Some, None, arith, refl, sym, ap, ◌∙◌, subst, inl, inr, ⊎_elim, append_assoc, ◌&&◌, nat_le, Option, true≢false, take-append-drop, length-drop, IsPrefix}
use Rattle.rh_http.specs.declared.fault.HttpFault.TheVariants as faults
use Rattle.rh_line.specs.declared.cause.Cause.TheVariants as cause
use Rattle.law_moves.proofs.Vocabulary.{prefix_behind, HttpFault, Refusal, Bad, Missing, Unavailable, refusal_of, refusal_text, Cause, Leg, LegKind, Course, Going, Closed, Refusing, Stop, goes, hear, NearEnd, is_ended, is_finished, marked, Rules, Shell, same_leg, state_by, is_working, has_room, wants, with_leg, with_end, end_at, stopped, bytes_at, bytes_by, lost, ended_at, ended_by, is_heard, unreached_by, unreached, broken_at, broken_by, drawn_by, passed, passed_by}
use Rattle.law_moves.proofs.Vocabulary.{first_silent, close, stop_by, refuse, is_going, is_working_by, after_event, after_events, ClosedWith}
use Rattle.law_moves.specs.Moving as moving
use Rattle.law_node_history.proofs.Vocabulary.{Event, Breaks, leg_at, drawn_in, drawn_on}
use Rattle.law_node_history.proofs.Lemmas.{cases_leg, same_itself, is_draws, events_append}
use Rattle.law_node_history.proofs.NodeTraces.{draws_none}
use Rattle.law_node_causes.specs.Closings.{ClosesWith}
use Rattle.law_node_causes.specs.Refusals.{MayRefuse, MayRefuseOn}
use Rattle.law_node_traces.proofs.Traced.LostLegs.{goes_on, broke_now}
use Rattle.law_node_traces.proofs.Vocabulary.{DrawsGoing, DrawsRefusal, DrawsRightly}

-- ---- refusals

-- the head of status 503 is longer than each that answers a fault
than_bad : (k : ℕ) → refusal_text Unavailable ≡ drop k (refusal_text Bad) → ⊥
than_bad k e =
    let l : 50 ≡ 47 - k = ap length e ∙ length-drop k (refusal_text Bad) in
    absurd (omega (arith, l))

too_long : (fault : HttpFault) (k : ℕ)
    → refusal_text Unavailable ≡ drop k (refusal_text (refusal_of fault)) → ⊥
too_long faults.TooLong k e = than_bad k e
too_long faults.Syntax k e = than_bad k e
too_long faults.Method k e = than_bad k e
too_long faults.Path k e =
    let l : 50 ≡ 45 - k = ap length e ∙ length-drop k (refusal_text Missing) in
    absurd (omega (arith, l))
too_long faults.Target k e = than_bad k e
too_long faults.Length k e = than_bad k e

abbrev text_of : Course → List ℕ
text_of Going = []
text_of (Closed why) = []
text_of (Refusing why leg text) = text

none_if : (b : Bool) → ◌≡◌ {A = List ℕ} (if b then [] else []) []
none_if true = refl
none_if false = refl

front_of_none : (a : List ℕ) → IsPrefix a [] → a ≡ []
front_of_none [] p = refl
front_of_none (x ∷ a) p = absurd cc

broken_same : (a b : Leg) → cause.LegBroken a ≡ cause.LegBroken b → a ≡ b
broken_same a b e = cc

-- a node that does not go on is closed, or refuses
by_stop : (P : Course → Type 0) → ((why : Cause) → P (Closed why))
    → ((why : Cause) (client : Leg) (rest : List ℕ) → P (Refusing why client rest))
    → (c : Course) → is_going c ≡ false → P c
by_stop P closed refusing Going g = absurd (true≢false g)
by_stop P closed refusing (Closed why) g = closed why
by_stop P closed refusing (Refusing why client rest) g = refusing why client rest

module _ {S : Type 0} (rules : Rules S) where
  -- ---- a node that stopped

  -- nothing but a draw changes it
  still : (s : Shell S) (e : moving.Event) → is_going s.course ≡ false → is_draws e ≡ false
      → after_event rules s e ≡ s
  still s (moving.ComesUp leg cookie) g q =
      by_stop (λ (c : Course). (if is_working_by (state_by c (rules.phase s.role))
      && (has_room rules s leg.kind && rules.may_up s.role leg)
      then with_leg rules s leg cookie else s) ≡ s) (λ why. refl) (λ why client rest. refl)
      s.course g
  still s (moving.Hears leg piece) g q =
      by_stop (λ (c : Course). bytes_by rules s leg piece c ≡ s) (λ why. refl)
      (λ why client rest. refl) s.course g
  still s (moving.Ends leg) g q =
      by_stop (λ (c : Course). ended_by rules s leg c ≡ s) (λ why. refl)
      (λ why client rest. refl) s.course g
  still s (moving.Breaks leg) g q =
      by_stop (λ (c : Course). broken_by rules s leg c ≡ s) (λ why. refl)
      (λ why client rest. refl) s.course g
  still s (moving.Draws leg room) g q = absurd (true≢false q)
  still s (moving.Ticks now) g q =
      by_stop (λ (c : Course). (if is_working_by (state_by c (rules.phase s.role))
      && nat_le s.now now then passed rules (record s { now = now }) else s) ≡ s) (λ why. refl)
      (λ why client rest. refl) s.course g

  -- ---- a closed one draws nothing

  closed_event : (s : Shell S) (why : Cause) (leg : Leg) (e : moving.Event) → s.course ≡ Closed why
      → (drawn_in rules s leg e ≡ []) × (after_event rules s e ≡ s)
  closed_event s why leg (moving.Draws other room) h = (
    ap (λ c. if same_leg other leg then (drawn_by rules s other room c).1 else []) h
        ∙ none_if (same_leg other leg),
    ap (λ c. (drawn_by rules s other room c).0) h,
  )
  closed_event s why leg e h =
      (draws_none rules s leg e refl, still s e (ap is_going h) refl)

  closed_draws : (s : Shell S) (why : Cause) (leg : Leg) (es : List moving.Event)
      → s.course ≡ Closed why → drawn_on rules s leg es ≡ []
  closed_draws s why leg [] h = refl
  closed_draws s why leg (e ∷ es) h =
      let is = closed_event s why leg e h in
      ap (λ x. x ++ drawn_on rules (after_event rules s e) leg es) is.0
      ∙ closed_draws (after_event rules s e) why leg es
      (ap (λ (t : Shell S). t.course) is.1 ∙ h)

  -- ---- and one that refuses the rest of its refusal alone

  module _ (why : Cause) (client leg : Leg) where
    -- what of a refusal goes on the leg
    abbrev of : List ℕ → List ℕ
    of text = if same_leg client leg then text else []

    module _ (s : Shell S) (rest : List ℕ) (room : ℕ) (es : List moving.Event)
        (h : s.course ≡ Refusing why client rest)
        (later : (t : Shell S) (left : List ℕ) → t.course ≡ Refusing why client left
        → IsPrefix (drawn_on rules t leg es) (of left)) where
      abbrev taken : Shell S
      taken = record s { course = Refusing why client (drop room rest) }

      -- what is drawn on a leg, and then
      abbrev Front : Leg → Shell S × List ℕ → Type 0
      Front other p =
          IsPrefix ((if same_leg other leg then p.1 else []) ++ drawn_on rules p.0 leg es)
          (of rest)

      beside : (other : Leg) → Front other (s, [])
      beside other =
          subst (λ x. IsPrefix (x ++ drawn_on rules s leg es) (of rest))
          (sym (none_if (same_leg other leg))) (later s rest h)

      along : (b : Bool) → IsPrefix (drawn_on rules taken leg es) (if b then drop room rest else [])
          → IsPrefix ((if b then take room rest else []) ++ drawn_on rules taken leg es)
          (if b then rest else [])
      along true front =
          subst (λ x. IsPrefix (take room rest ++ drawn_on rules taken leg es) x)
          (take-append-drop room rest)
          (prefix_behind (take room rest) (drawn_on rules taken leg es) (drop room rest) front)
      along false front = front

      itself : Front client (if same_leg client client then (taken, take room rest) else (s, []))
      itself =
          subst (λ b. Front client (if b then (taken, take room rest) else (s, [])))
          (sym (same_itself client))
          (along (same_leg client leg) (later taken (drop room rest) refl))

      refusing_draw : (other : Leg)
          → IsPrefix (drawn_on rules s leg (moving.Draws other room ∷ es)) (of rest)
      refusing_draw other =
          subst (λ c. Front other (drawn_by rules s other room c)) (sym h)
          (⊎_elim (λ same. subst (λ o. Front o
          (if same_leg client o then (taken, take room rest) else (s, []))) same itself)
          (λ apart. subst (λ b. Front other (if b then (taken, take room rest) else (s, [])))
          (sym apart) (beside other)) (cases_leg client other))

    refusing_event : (s : Shell S) (rest : List ℕ) (e : moving.Event) (es : List moving.Event)
        → s.course ≡ Refusing why client rest
        → ((t : Shell S) (left : List ℕ) → t.course ≡ Refusing why client left
        → IsPrefix (drawn_on rules t leg es) (of left))
        → IsPrefix (drawn_on rules s leg (e ∷ es)) (of rest)
    refusing_event s rest (moving.Draws other room) es h later =
        refusing_draw s rest room es h later other
    refusing_event s rest e es h later =
        subst (λ x. IsPrefix (x ++ drawn_on rules (after_event rules s e) leg es) (of rest))
        (sym (draws_none rules s leg e refl))
        (later (after_event rules s e) rest
        (ap (λ (t : Shell S). t.course) (still s e (ap is_going h) refl) ∙ h))

    pub refusing_draws : (s : Shell S) (rest : List ℕ) (es : List moving.Event)
        → s.course ≡ Refusing why client rest → IsPrefix (drawn_on rules s leg es) (of rest)
    refusing_draws s rest [] h = (of rest, refl)
    refusing_draws s rest (e ∷ es) h =
        refusing_event s rest e es h (λ t left is. refusing_draws t left es is)

  -- ---- what makes a node refuse

  module _ (s : Shell S) (going : s.course ≡ Going) (why : Cause) (client : Leg)
      (text : List ℕ) where
    abbrev IsFresh : Course → Type 0
    IsFresh c = c ≡ Refusing why client text → (refusal : Refusal) × (text ≡ refusal_text refusal)

    stays : (c : Course) → c ≡ Going → IsFresh c
    stays c is e = absurd (let never : Going ≡ Refusing why client text = sym is ∙ e in cc)

    closes : (t : Shell S) (first : Cause) → IsFresh (close t first).course
    closes t first e = absurd cc

    stopped_fresh : (t : Shell S) (leg : Leg) (o : Option Stop) → t.course ≡ Going
        → IsFresh (stopped t leg o).course
    stopped_fresh t leg None is = stays t.course is
    stopped_fresh t leg (Some stop) is = by stop.refusal
      where
        by : (o : Option Refusal) → IsFresh (stop_by t leg stop.cause o).course
        by None e = absurd cc
        by (Some refusal) e = (refusal, sym (ap text_of e))

    lost_fresh : (leg : Leg) (end : NearEnd) (first : Cause)
        → IsFresh (lost rules s leg end first).course
    lost_fresh leg end first =
        by (is_finished rules s.role end) (is_ended (rules.phase s.role))
        (rules.only_marks s.role leg)
      where
        by : (a b c : Bool) → IsFresh (if a then s else
            (if b then with_end s leg (marked end) s.role
            else (if c then with_end s leg (marked end) (rules.mark s.role leg)
            else close s first))).course
        by true b c = stays s.course going
        by false true c = stays s.course going
        by false false true = stays s.course going
        by false false false = closes s first

    unreached_fresh : (first : Cause) (o : Option Leg)
        → IsFresh (unreached_by s first o).course
    unreached_fresh first None = closes s first
    unreached_fresh first (Some leg) = by (is_heard (end_at s leg))
      where
        by : (b : Bool)
            → IsFresh (if b then refuse s first leg Unavailable else close s first).course
        by true e = (Unavailable, sym (ap text_of e))
        by false e = absurd cc

    broken_fresh : (leg : Leg) (o : Option NearEnd) → IsFresh (broken_at rules s leg o).course
    broken_fresh leg None = by (wants rules s leg)
      where
        by : (b : Bool) → IsFresh (if b then unreached rules s leg else s).course
        by true = unreached_fresh (cause.LegBroken leg) (rules.answers_on s.role)
        by false = stays s.course going
    broken_fresh leg (Some end) = lost_fresh leg end (cause.LegBroken leg)

    ended_fresh : (leg : Leg) (o : Option NearEnd) → IsFresh (ended_at rules s leg o).course
    ended_fresh leg None = stays s.course going
    ended_fresh leg (Some end) =
        lost_fresh leg end (cause.LegEnded leg (length end.intake.held))

    heard_fresh : (leg : Leg) (piece : List ℕ) (o : Option NearEnd)
        → IsFresh (bytes_at rules s leg piece o).course
    heard_fresh leg piece None = stays s.course going
    heard_fresh leg piece (Some end) =
        let t = hear rules s.now (goes end s.role) piece in
        stopped_fresh (with_end s leg t.end t.role) leg t.stop going

    ticked_fresh : (now : ℕ) → IsFresh (after_event rules s (moving.Ticks now)).course
    ticked_fresh now = by (is_working rules s && nat_le s.now now)
      where
        by_silent : (o : Option (Leg × ℕ))
            → IsFresh (passed_by rules (record s { now = now }) o).course
        by_silent None = stays s.course going
        by_silent (Some silent) = λ e. absurd cc

        by : (b : Bool)
            → IsFresh (if b then passed rules (record s { now = now }) else s).course
        by true = by_silent (first_silent rules s.role now s.legs None)
        by false = stays s.course going

    -- a node that goes on begins with the whole head
    fresh : (e : moving.Event) → IsFresh (after_event rules s e).course
    fresh (moving.Hears leg piece) e =
        heard_fresh leg piece (end_at s leg)
        (ap (λ c. (bytes_by rules s leg piece c).course) (sym going) ∙ e)
    fresh (moving.Ends leg) e =
        ended_fresh leg (end_at s leg)
        (ap (λ c. (ended_by rules s leg c).course) (sym going) ∙ e)
    fresh (moving.Breaks leg) e =
        broken_fresh leg (end_at s leg)
        (ap (λ c. (broken_by rules s leg c).course) (sym going) ∙ e)
    fresh (moving.Ticks now) e = ticked_fresh now e
    fresh (moving.ComesUp leg cookie) e =
        stays (after_event rules s (moving.ComesUp leg cookie)).course
        (goes_on rules s going (moving.ComesUp leg cookie) refl) e
    fresh (moving.Draws leg room) e =
        stays (after_event rules s (moving.Draws leg room)).course
        (goes_on rules s going (moving.Draws leg room) refl) e

-- ---- all events

module _ {S : Type 0} (rules : Rules S)
    (comes_from : (node : Shell S) (event : Event) (leg : Leg)
    → ClosesWith rules node event (cause.LegBroken leg) → event ≡ Breaks leg)
    (kept : (node : Shell S) (why : Cause) (later : List moving.Event)
    → ClosedWith why node.course → ClosedWith why (after_events rules node later).course)
    (leg : Leg) where
  abbrev Draws : Shell S → List moving.Event → Type 0
  Draws s events = DrawsGoing rules s leg events ⊎ DrawsRefusal rules s leg events

  abbrev MayAll : Shell S → Type 0
  MayAll s =
      (events : List moving.Event)
      → MayRefuse rules (after_events rules s events).role (after_events rules s events).course

  module _ (s : Shell S) (e : moving.Event) (es : List moving.Event) (going : s.course ≡ Going)
    where
      abbrev next : Shell S
      next = after_event rules s e

      -- what changes the course of a node draws nothing
      silent : (next.course ≡ Going → ⊥) → drawn_in rules s leg e ≡ []
      silent stops = by e stops
        where
          by : (x : moving.Event) → ((after_event rules s x).course ≡ Going → ⊥)
              → drawn_in rules s leg x ≡ []
          by (moving.Draws other room) stops =
              absurd (stops (goes_on rules s going (moving.Draws other room) refl))
          by x stops = refl

      later_going : DrawsGoing rules next leg es → Draws s (e ∷ es)
      later_going a = inl (record {
        before = e ∷ a.before;
        behind = a.behind;
        split = ap (λ x. e ∷ x) a.split;
        going = a.going;
        drawn = ap (λ x. drawn_in rules s leg e ++ x) a.drawn;
      })

      later_refusal : DrawsRefusal rules next leg es → Draws s (e ∷ es)
      later_refusal b = inr (record {
        before = e ∷ b.before;
        event = b.event;
        behind = b.behind;
        split = ap (λ x. e ∷ x) b.split;
        going = b.going;
        why = b.why;
        refusal = b.refusal;
        refuses = b.refuses;
        unreached = b.unreached;
        rest = b.rest;
        drawn = ap (λ x. drawn_in rules s leg e ++ x) b.drawn
            ∙ sym (append_assoc (drawn_in rules s leg e) (drawn_on rules next leg b.before) b.rest);
        front = b.front;
      })

      -- it stops, and draws nothing on this leg any more
      stops_here : (next.course ≡ Going → ⊥) → drawn_on rules next leg es ≡ [] → Draws s (e ∷ es)
      stops_here stops none = inl (record {
        before = [];
        behind = e ∷ es;
        split = refl;
        going = going;
        drawn = ap (λ x. x ++ drawn_on rules next leg es) (silent stops) ∙ none;
      })

      lost_by : (why : Cause) (client : Leg) (refusal : Refusal)
          → next.course ≡ Refusing why client (refusal_text refusal)
          → MayRefuse rules next.role next.course → refusal ≡ Unavailable
          → (lost : Leg) × (e ≡ moving.Breaks lost) × (why ≡ cause.LegBroken lost)
      lost_by why client refusal is may long =
          ⊎_elim (λ bad. absurd (too_long bad.fault bad.text.drawn
          (ap refusal_text (sym long) ∙ bad.text.is)))
          (λ tells. (
            tells.lost,
            broke_now rules comes_from kept s going tells.lost e
                (subst (ClosedWith (cause.LegBroken tells.lost)) (sym is) tells.cause),
            tells.cause,
          ))
          (subst (MayRefuse rules next.role) is may)

      refuses_here : (why : Cause) (refusal : Refusal)
          → next.course ≡ Refusing why leg (refusal_text refusal)
          → MayRefuse rules next.role next.course → Draws s (e ∷ es)
      refuses_here why refusal is may = inr (record {
        before = [];
        event = e;
        behind = es;
        split = refl;
        going = going;
        why = why;
        refusal = refusal;
        refuses = is;
        unreached = lost_by why leg refusal is may;
        rest = drawn_on rules next leg es;
        drawn = ap (λ x. x ++ drawn_on rules next leg es)
            (silent (λ still. absurd (let never = sym still ∙ is in cc)));
        front = subst (λ b. IsPrefix (drawn_on rules next leg es)
            (if b then refusal_text refusal else [])) (same_itself leg)
            (refusing_draws rules why leg leg next (refusal_text refusal) es is);
      })

      step : MayRefuse rules next.role next.course → (next.course ≡ Going → Draws next es)
          → Draws s (e ∷ es)
      step may later = by next.course refl
        where
          by : (c : Course) → next.course ≡ c → Draws s (e ∷ es)
          by Going is = ⊎_elim later_going later_refusal (later is)
          by (Closed why) is =
              stops_here (λ still. absurd (let never = sym still ∙ is in cc))
              (closed_draws rules next why leg es is)
          by (Refusing why client text) is =
              let f = fresh rules s going why client text e is in
              let whole : next.course ≡ Refusing why client (refusal_text f.0) =
              is ∙ ap (Refusing why client) f.1 in
              ⊎_elim (λ same. refuses_here why f.0
              (whole ∙ ap (λ l. Refusing why l (refusal_text f.0)) same) may)
              (λ apart. stops_here (λ still. absurd (let never = sym still ∙ is in cc))
              (front_of_none (drawn_on rules next leg es)
              (subst (λ b. IsPrefix (drawn_on rules next leg es) (if b then text else [])) apart
              (refusing_draws rules why client leg next text es is))))
              (cases_leg client leg)

  pub all_draws : (s : Shell S) (events : List moving.Event) → s.course ≡ Going → MayAll s
      → Draws s events
  all_draws s [] going may =
      inl (record { before = []; behind = []; split = refl; going = going; drawn = refl })
  all_draws s (e ∷ es) going may =
      step s e es going (may (e ∷ []))
      (λ still. all_draws (after_event rules s e) es still (λ later. may (e ∷ later)))

-- ---- a proxy

module _ {S : Type 0} (rules : Rules S) (first : Shell S) (client server leg : Leg)
    (on : (events : List moving.Event)
    → MayRefuseOn client server (after_events rules first events).course) where
  pub its_server : (events : List moving.Event) → (draws : DrawsRefusal rules first leg events)
      → draws.refusal ≡ Unavailable → draws.event ≡ moving.Breaks server
  its_server events draws long =
      let lost = draws.unreached long in
      let after : (after_events rules first (draws.before ++ draws.event ∷ [])).course
      ≡ Refusing draws.why leg (refusal_text draws.refusal) =
      ap (λ (s : Shell S). s.course)
      (events_append rules first draws.before (draws.event ∷ [])) ∙ draws.refuses in
      ⊎_elim
      (λ request. absurd (let never = sym request.request.cause ∙ lost.2 in cc))
      (λ tells. let same = sym lost.2 ∙ tells.cause in
      lost.1 ∙ ap moving.Breaks (broken_same lost.0 server same))
      (subst (MayRefuseOn client server) after (on (draws.before ++ draws.event ∷ [])))

  pub draws_rightly : (events : List moving.Event)
      → DrawsGoing rules first leg events ⊎ DrawsRefusal rules first leg events
      → DrawsRightly rules first server leg events
  draws_rightly events (inl going) = inl going
  draws_rightly events (inr refusal) = inr (refusal, its_server events refusal)

-- by the leg to the server of its number
pub draws_at : {S : Type 0} (rules : Rules S) (made first : Shell S) (client server : LegKind)
    (number n : ℕ) (leg : Leg) → made ≡ first → number ≡ n
    → ((events : List moving.Event) → MayRefuseOn (leg_at client number) (leg_at server number)
    (after_events rules first events).course)
    → (events : List moving.Event)
    → DrawsGoing rules first leg events ⊎ DrawsRefusal rules first leg events
    → DrawsRightly rules made (leg_at server n) leg events
draws_at {S} rules made first client server number n leg is own on events draws =
    subst (λ (s : Shell S). DrawsRightly rules s (leg_at server n) leg events) (sym is)
    (subst (λ (k : ℕ). DrawsRightly rules first (leg_at server k) leg events) own
    (draws_rightly rules first (leg_at client number) (leg_at server number) leg on events draws))
