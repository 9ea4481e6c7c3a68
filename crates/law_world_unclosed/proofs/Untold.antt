-- a node was told that a leg is lost only where that came up, and is not up any more
use Rattle.rh_text.specs.declared.ends.Side.TheVariants as side
use Rattle.law_order.proofs.Vocabulary.{◌≡◌, ◌≢◌, ◌⊎◌, inl, inr, ℕ, List, [], ◌∷◌, ◌++◌, Bool, true, false, true≢false, ◌&&◌, ◌||◌, if◌then◌else◌, None, IsTrue, refl, sym, ap, ◌∙◌, subst, and_from, and_parts, cases_Bool, cases_eq, eq-eqb, or_cases, list_any-append}
use Rattle.rh_record.specs.declared.answer.Who.TheVariants as who
use Rattle.rh_shell.specs.Shells as shell
use Rattle.rh_wires.specs.Legs as legs
use Rattle.rh_wires.specs.Wires as wires
use Rattle.rh_company.specs.Company as company
use Rattle.law_moves.proofs.Vocabulary.{Dir, U, D, Side, by_test, Leg, LegKind, ClientOut, OutServer, ClientIn, InServer, Shell, same_leg}
use Rattle.law_moves.proofs.Lemmas.{leg_is}
use Rattle.law_moves.specs.Moving as moving
use Rattle.law_node_history.proofs.Vocabulary.{Who, Legs, Wire, reader_of, with_reader, receiver, sender, Event, Comes, Ends, Breaks, Passes, Place, Absent, Here, Gone, Company, Rulebook, Deeds, is_same, Makers, reader_before, leg_at, World, at, IsTraced, LegsComeUpOnce, came_up, end_node, events_of, is_of_client, wire_at, Change, IsTold, IsFed, IsDrawn, GoesUp, RaisesAlone, GoesDown, OpensIn, OpensOut, OpensSame, Gives, Takes, Closes, RecyclesIn, RecyclesOut, MovesTo, Draws, Reports, MayChange, StandsAt, changed, may_have, History, at_place, heard, in_place, made_by, noted, nothing, out_place, to_node, told_to}
use Rattle.law_node_history.proofs.Lemmas.{change_is_traced, is_here, may_come, never_up, up_more, up_of, asked, put_elsewhere, cases_leg, not_both, happened_more, same_who}
use Rattle.law_node_history.proofs.Wired as wired
use Rattle.law_world_ways.specs.EndsInTime.InTime.{ended_by}
use Rattle.law_world_ways.specs.OnPaths.Lost.{is_loss_of, was_lost}

-- ---- a wire

raise_apart : (end other : Side) (wire : Wire) → (end ≡ other → ⊥)
    → wires.is_up other wire ≡ false → wires.is_up other (wires.raise end wire) ≡ false
raise_apart side.Client side.Client wire apart e = absurd (apart refl)
raise_apart side.Client side.Server wire apart e = e
raise_apart side.Server side.Client wire apart e = e
raise_apart side.Server side.Server wire apart e = absurd (apart refl)

put_keeps : (end : Side) (dir : Dir) (bytes : List ℕ) (wire : Wire)
    → wires.is_up end (wires.put dir bytes wire) ≡ wires.is_up end wire
put_keeps side.Client U bytes wire = refl
put_keeps side.Client D bytes wire = refl
put_keeps side.Server U bytes wire = refl
put_keeps side.Server D bytes wire = refl

take_keeps : (end : Side) (dir : Dir) (count : ℕ) (wire : Wire)
    → wires.is_up end (wires.take_out dir count wire).0 ≡ wires.is_up end wire
take_keeps side.Client U count wire = refl
take_keeps side.Client D count wire = refl
take_keeps side.Server U count wire = refl
take_keeps side.Server D count wire = refl

lowered_down : (end : Side) (wire : Wire) → wires.is_up end (wires.lower end wire) ≡ false
lowered_down side.Client wire =
    by_test (λ (x : Wire). x.client ≡ false) wire.server (record wire { client = false })
    wires.blank (λ e. refl) (λ e. refl)
lowered_down side.Server wire =
    by_test (λ (x : Wire). x.server ≡ false) wire.client (record wire { server = false })
    wires.blank (λ e. refl) (λ e. refl)

stays_down : (end other : Side) (wire : Wire) → wires.is_up other wire ≡ false
    → wires.is_up other (wires.lower end wire) ≡ false
stays_down side.Client side.Client wire down = lowered_down side.Client wire
stays_down side.Server side.Server wire down = lowered_down side.Server wire
stays_down side.Client side.Server wire down =
    by_test (λ (x : Wire). x.server ≡ false) wire.server (record wire { client = false })
    wires.blank (λ e. down) (λ e. refl)
stays_down side.Server side.Client wire down =
    by_test (λ (x : Wire). x.client ≡ false) wire.client (record wire { server = false })
    wires.blank (λ e. down) (λ e. refl)

-- the nodes at both ends of a leg are two
same_end : (readers : List ℕ) (leg : Leg) (end other : Side)
    → is_same (end_node readers leg end) (end_node readers leg other) ≡ true → end ≡ other
same_end readers leg end other e = by leg.kind leg.number end other e
  where
    by : (kind : LegKind) (n : ℕ) (end other : Side)
        → is_same (end_node readers (leg_at kind n) end) (end_node readers (leg_at kind n) other)
        ≡ true → end ≡ other
    by kind n side.Client side.Client e = refl
    by kind n side.Server side.Server e = refl
    by ClientOut n side.Client side.Server e = absurd cc
    by ClientOut n side.Server side.Client e = absurd cc
    by OutServer n side.Client side.Server e = absurd cc
    by OutServer n side.Server side.Client e = absurd cc
    by ClientIn n side.Client side.Server e = absurd cc
    by ClientIn n side.Server side.Client e = absurd cc
    by InServer n side.Client side.Server e = absurd cc
    by InServer n side.Server side.Client e = absurd cc

abbrev number_of : Who → ℕ
number_of who.Client = 0
number_of who.Server = 0
number_of (who.In k) = k
number_of (who.Out k) = k

-- ---- the legs of which a node was told are down for it

abbrev Tells : Type 0
Tells = Who → Leg → Bool

abbrev AreDown : Tells → Legs → List ℕ → Type 0
AreDown told all readers =
    (leg : Leg) (end : Side) → told (end_node readers leg end) leg ≡ true
    → wires.is_up end (wire_at all leg) ≡ false

module _ (told new : Tells) (all : Legs) (readers : List ℕ) (are : AreDown told all readers)
  where
    -- bytes are carried, or nothing happens to the legs
    quiet : ((node : Who) (leg : Leg) → new node leg ≡ true → told node leg ≡ true)
        → (later : Legs) → ((leg : Leg) (end : Side)
        → wires.is_up end (wire_at later leg) ≡ wires.is_up end (wire_at all leg))
        → AreDown new later readers
    quiet fewer later same leg end there =
        same leg end ∙ are leg end (fewer (end_node readers leg end) leg there)

    -- a leg comes up at an end whose node was told nothing of it
    raised : ((node : Who) (leg : Leg) → new node leg ≡ true → told node leg ≡ true)
        → (leg : Leg) (end : Side) → told (end_node readers leg end) leg ≡ false
        → AreDown new (legs.raise leg end all) readers
    raised fewer leg end fresh other at there = by (cases_leg leg other)
      where
        before : told (end_node readers other at) other ≡ true
        before = fewer (end_node readers other at) other there

        here : (x : Side) → told (end_node readers leg x) leg ≡ true
            → wires.is_up x (wire_at (legs.raise leg end all) leg) ≡ false
        here x was =
            ap (wires.is_up x) (wired.raise_here all leg end)
            ∙ raise_apart end x (wire_at all leg)
            (λ same. not_both (told (end_node readers leg x) leg) was
            (subst (λ (e : Side). told (end_node readers leg e) leg ≡ false) same fresh))
            (are leg x was)

        by : (leg ≡ other) ⊎ (same_leg leg other ≡ false)
            → wires.is_up at (wire_at (legs.raise leg end all) other) ≡ false
        by (inl same) =
            subst (λ (l : Leg). told (end_node readers l at) l ≡ true
            → wires.is_up at (wire_at (legs.raise leg end all) l) ≡ false) same (here at) before
        by (inr apart) =
            ap (wires.is_up at) (wired.raise_beside all leg end other apart) ∙ are other at before

    -- a node is told of a leg, and has it down
    lowered : (leg : Leg) (end : Side)
        → ((node : Who) (other : Leg) → new node other ≡ true
        → (told node other ≡ true) ⊎ (is_here (end_node readers leg end) leg node other ≡ true))
        → AreDown new (legs.lower leg end all) readers
    lowered leg end more other at there =
        by (cases_leg leg other) (more (end_node readers other at) other there)
      where
        here : (x : Side) → (told (end_node readers leg x) leg ≡ true)
            ⊎ (is_here (end_node readers leg end) leg (end_node readers leg x) leg ≡ true)
            → wires.is_up x (wire_at (legs.lower leg end all) leg) ≡ false
        here x (inl was) =
            ap (wires.is_up x) (wired.lower_here all leg end)
            ∙ stays_down end x (wire_at all leg) (are leg x was)
        here x (inr now) =
            let same = same_end readers leg end x
            (and_parts (same_leg leg leg)
            (is_same (end_node readers leg end) (end_node readers leg x)) now).1 in
            subst (λ (e : Side). wires.is_up e (wire_at (legs.lower leg end all) leg) ≡ false) same
            (ap (wires.is_up end) (wired.lower_here all leg end)
            ∙ lowered_down end (wire_at all leg))

        beside : (told (end_node readers other at) other ≡ true)
            ⊎ (is_here (end_node readers leg end) leg (end_node readers other at) other ≡ true)
            → same_leg leg other ≡ false
            → wires.is_up at (wire_at (legs.lower leg end all) other) ≡ false
        beside (inl was) apart =
            ap (wires.is_up at) (wired.lower_beside all leg end other apart) ∙ are other at was
        beside (inr now) apart =
            not_both (same_leg leg other)
            (and_parts (same_leg leg other)
            (is_same (end_node readers leg end) (end_node readers other at)) now).0 apart

        by : (leg ≡ other) ⊎ (same_leg leg other ≡ false)
            → (told (end_node readers other at) other ≡ true)
            ⊎ (is_here (end_node readers leg end) leg (end_node readers other at) other ≡ true)
            → wires.is_up at (wire_at (legs.lower leg end all) other) ≡ false
        by (inl same) is =
            subst (λ (l : Leg). (told (end_node readers l at) l ≡ true)
            ⊎ (is_here (end_node readers leg end) leg (end_node readers l at) l ≡ true)
            → wires.is_up at (wire_at (legs.lower leg end all) l) ≡ false) same (here at) is
        by (inr apart) is = beside is apart

    -- an IN leg of the client gets its reader
    module _ (n j : ℕ) (none : (i : ℕ) → told (who.In i) (leg_at ClientIn n) ≡ false) where
      abbrev in_leg : Leg
      in_leg = leg_at ClientIn n

      abbrev later : List ℕ
      later = with_reader readers n j

      reader_apart : (i : ℕ) → i ≢ n → reader_of later i ≡ reader_of readers i
      reader_apart i e =
          asked 0 (λ x. x) later i ∙ put_elsewhere 0 readers n i j e
          ∙ sym (asked 0 (λ x. x) readers i)

      node_apart : (leg : Leg) (end : Side) → same_leg in_leg leg ≡ false
          → end_node later leg end ≡ end_node readers leg end
      node_apart leg end = by leg.kind leg.number end
        where
          by : (kind : LegKind) (i : ℕ) (end : Side) → same_leg in_leg (leg_at kind i) ≡ false
              → end_node later (leg_at kind i) end ≡ end_node readers (leg_at kind i) end
          by ClientOut i side.Client e = refl
          by ClientOut i side.Server e = refl
          by OutServer i side.Client e = refl
          by OutServer i side.Server e = refl
          by ClientIn i side.Client e = refl
          by ClientIn i side.Server e =
              ap who.In (reader_apart i (λ same.
              not_both (same_leg in_leg (leg_at ClientIn i)) (eq-eqb n i (sym same)) e))
          by InServer i side.Client e = refl
          by InServer i side.Server e = refl

      reread : AreDown told all later
      reread leg end there = by (cases_leg in_leg leg)
        where
          on_leg : (x : Side) → told (end_node later in_leg x) in_leg ≡ true
              → wires.is_up x (wire_at all in_leg) ≡ false
          on_leg side.Client here = are in_leg side.Client here
          on_leg side.Server here =
              not_both (told (who.In (reader_of later n)) in_leg) here (none (reader_of later n))

          by : (in_leg ≡ leg) ⊎ (same_leg in_leg leg ≡ false)
              → wires.is_up end (wire_at all leg) ≡ false
          by (inl same) =
              subst (λ (l : Leg). told (end_node later l end) l ≡ true
              → wires.is_up end (wire_at all l) ≡ false) same (on_leg end) there
          by (inr apart) =
              are leg end (ap (λ (x : Who). told x leg) (sym (node_apart leg end apart)) ∙ there)

-- ---- what a change tells

module _ (leg : Leg) where
  -- one event that is no loss
  one_not : (b : Bool) (e : moving.Event) → is_loss_of leg e ≡ false
      → was_lost leg (if b then e ∷ [] else []) ≡ false
  one_not true e is = ap (λ (t : Bool). t || false) is
  one_not false e is = refl

  module _ {K C S I O : Type 0} (u : World K C S I O) where
    pub told_none : (c : Change) (node : Who) → ended_by c ≡ None
        → was_lost leg (told_to u c node) ≡ false
    told_none (IsTold other (Comes k piece)) node none =
        one_not (is_same other node) (moving.Hears k piece) refl
    told_none (IsTold other (Ends k)) node none = absurd cc
    told_none (IsTold other (Breaks k)) node none = absurd cc
    told_none (IsTold other (Passes now)) node none =
        one_not (is_same other node) (moving.Ticks now) refl
    told_none (IsFed k dir count) node none =
        one_not (is_same (at u k (receiver dir)) node)
        (moving.Hears k (legs.take_out k dir count u.legs).1) refl
    told_none (IsDrawn k dir count) node none =
        one_not (is_same (at u k (sender dir)) node) (moving.Draws k count) refl
    told_none (GoesUp other k end cookie) node none =
        one_not (is_same other node) (moving.ComesUp k cookie) refl
    told_none (RaisesAlone other k end cookie) node none =
        one_not (is_same other node) (moving.ComesUp k cookie) refl
    told_none (GoesDown other k end) node none = refl
    told_none (OpensIn n cookie) node none =
        one_not (is_same who.Client node) (moving.ComesUp (leg_at ClientIn n) cookie) refl
    told_none (OpensOut n cookie) node none =
        one_not (is_same who.Client node) (moving.ComesUp (leg_at ClientOut n) cookie) refl
    told_none (OpensSame n cookie) node none =
        let came = moving.ComesUp (leg_at ClientIn n) cookie in
        let reader = who.In (reader_before u n) in
        list_any-append (is_loss_of leg) (to_node who.Client node came) (to_node reader node came)
        ∙ ap (λ (t : Bool). t || was_lost leg (to_node reader node came))
        (one_not (is_same who.Client node) came refl)
        ∙ one_not (is_same reader node) came refl
    told_none (Gives end pdu) node none = refl
    told_none (Takes end) node none = refl
    told_none (Closes end) node none = refl
    told_none RecyclesIn node none = refl
    told_none RecyclesOut node none = refl
    told_none (MovesTo now) node none = refl
    told_none (Draws cookies) node none = refl
    told_none Reports node none = refl

    -- a proxy that is made is told the moment alone
    pub made_not : (c : Change) (node : Who) → was_lost leg (made_by u c node) ≡ false
    made_not (OpensIn n cookie) node = one_not (is_same (who.In n) node) (moving.Ticks u.now) refl
    made_not (OpensOut n cookie) node =
        one_not (is_same (who.Out n) node) (moving.Ticks u.now) refl
    made_not c node = refl

    placed : {X : Type 0} (p : Place X) (c : Change) (node : Who)
        → was_lost leg (at_place p (told_to u c node) (made_by u c node)) ≡ true
        → was_lost leg (told_to u c node) ≡ true
    placed Absent c node e = not_both (was_lost leg (made_by u c node)) e (made_not c node)
    placed (Here x n) c node e = e
    placed (Gone now) c node e = absurd (true≢false (sym e))

    proxy_more : {X : Type 0} (p : Place X) (es : List moving.Event) (c : Change) (node : Who)
        → was_lost leg (es ++ at_place p (told_to u c node) (made_by u c node)) ≡ true
        → (was_lost leg es ≡ true) ⊎ (was_lost leg (told_to u c node) ≡ true)
    proxy_more p es c node e =
        by (or_cases (was_lost leg es)
        (was_lost leg (at_place p (told_to u c node) (made_by u c node)))
        (sym (list_any-append (is_loss_of leg) es
        (at_place p (told_to u c node) (made_by u c node))) ∙ e))
      where
        by : (was_lost leg es ≡ true)
            ⊎ (was_lost leg (at_place p (told_to u c node) (made_by u c node)) ≡ true)
            → (was_lost leg es ≡ true) ⊎ (was_lost leg (told_to u c node) ≡ true)
        by (inl was) = inl was
        by (inr now) = inr (placed p c node now)

or_first : (a : Bool) → (a || false) ≡ true → a ≡ true
or_first true e = e
or_first false e = e

-- a node that is told of one leg is told of no other
told_here : (leg other : Leg) (e : moving.Event) → is_loss_of other e ≡ same_leg leg other
    → (b : Bool) → was_lost other (if b then e ∷ [] else []) ≡ true
    → (same_leg leg other && b) ≡ true
told_here leg other e is false t = absurd (true≢false (sym t))
told_here leg other e is true t =
    and_from (same_leg leg other) true
    (or_first (same_leg leg other) (ap (λ (b : Bool). b || false) (sym is) ∙ t)) refl

-- ---- along changes

client_end : (readers : List ℕ) (leg : Leg) → is_of_client leg.kind ≡ true
    → end_node readers leg side.Client ≡ who.Client
client_end readers leg e = by leg.kind e
  where
    by : (kind : LegKind) → is_of_client kind ≡ true
        → end_node readers (leg_at kind leg.number) side.Client ≡ who.Client
    by ClientOut e = refl
    by OutServer e = absurd (true≢false (sym e))
    by ClientIn e = refl
    by InServer e = absurd (true≢false (sym e))

abbrev pub lost_of : History → Tells
lost_of h = λ node leg. was_lost leg (events_of h node)

module _ {K C S I O : Type 0} (r : Rulebook C S I O) (m : Makers K I O) (d : Deeds C S)
    (first : Company C S I O) where
  pub record IsUntold (w : World K C S I O) (h : History) : Type 0 where
    pub down : AreDown (lost_of h) w.legs w.readers
    pub rose : (node : Who) (leg : Leg) → lost_of h node leg ≡ true
        → came_up leg (events_of h node) ≡ true

  pub untold_first : (w : World K C S I O) → IsUntold w nothing
  untold_first w = record {
    down = λ leg end there. absurd (never (end_node w.readers leg end) leg there);
    rose = λ node leg there. absurd (never node leg there);
  }
    where
      never : (node : Who) (leg : Leg) → was_lost leg (events_of nothing node) ≡ true → ⊥
      never who.Client leg e = true≢false (sym e)
      never who.Server leg e = true≢false (sym e)
      never (who.In n) leg e = true≢false (sym e)
      never (who.Out n) leg e = true≢false (sym e)

  module _ (w : World K C S I O) (h : History) (t : IsTraced r m d first w h)
      (once : LegsComeUpOnce r m d first w.cast) where
    -- what a change tells comes behind what was told before
    pub lost_more : (c : Change) (node : Who) (leg : Leg) → lost_of (noted w h c) node leg ≡ true
        → (lost_of h node leg ≡ true) ⊎ (was_lost leg (told_to w c node) ≡ true)
    lost_more c who.Client leg e =
        or_cases (was_lost leg (events_of h who.Client)) (was_lost leg (told_to w c who.Client))
        (sym (ap (was_lost leg) (happened_more r.client d.client first.client w.company.client
        h.client (told_to w c who.Client) c side.Client t.runs.client)
        ∙ list_any-append (is_loss_of leg) (events_of h who.Client) (told_to w c who.Client))
        ∙ e)
    lost_more c who.Server leg e =
        or_cases (was_lost leg (events_of h who.Server)) (was_lost leg (told_to w c who.Server))
        (sym (ap (was_lost leg) (happened_more r.server d.server first.server w.company.server
        h.server (told_to w c who.Server) c side.Server t.runs.server)
        ∙ list_any-append (is_loss_of leg) (events_of h who.Server) (told_to w c who.Server))
        ∙ e)
    lost_more c (who.In n) leg e =
        proxy_more leg w (in_place w.company n) (h.ins n) c (who.In n) e
    lost_more c (who.Out n) leg e =
        proxy_more leg w (out_place w.company n) (h.outs n) c (who.Out n) e

    rose_more : (c : Change) (node : Who) (leg : Leg) → came_up leg (events_of h node) ≡ true
        → came_up leg (events_of (noted w h c) node) ≡ true
    rose_more c node leg is =
        up_more r m d first w h t.runs c node leg
        ∙ ap (λ (b : Bool). b || up_of r w.company (told_to w c) node leg) is

    module _ (untold : IsUntold w h) where
      -- a node that may have a leg up was told nothing of it
      fresh : (node : Who) (leg : Leg) → company.may_up r w.company node leg ≡ true
          → lost_of h node leg ≡ false
      fresh node leg may = by (cases_Bool (lost_of h node leg))
        where
          by : (lost_of h node leg ≡ true) ⊎ (lost_of h node leg ≡ false)
              → lost_of h node leg ≡ false
          by (inl was) =
              not_both (came_up leg (events_of h node)) (untold.rose node leg was)
              (never_up r m d first w h t.runs t.accepted once node leg may)
          by (inr none) = none

      client_up : (leg : Leg) → IsTrue (may_have r w who.Client leg)
          → company.may_up r w.company who.Client leg ≡ true
      client_up leg may = may_come r m d first w h t.runs t.accepted once who.Client leg may

      stands_there : (node : Who) (leg : Leg) (end : Side)
          → company.may_up r w.company node leg ≡ true → StandsAt w node leg end
          → end_node w.readers leg end ≡ node
      stands_there node leg end may (inl stands) = stands
      stands_there node leg end may (inr is) =
          ap (end_node w.readers leg) is.1
          ∙ client_end w.readers leg (once.own h.client leg t.accepted.client
          (ap (λ (s : Shell C). shell.may_up r.client s leg) (sym t.runs.client)
          ∙ subst (λ (x : Who). company.may_up r w.company x leg ≡ true) is.0 may))
          ∙ sym is.0

      -- no in proxy has an IN leg up that never came up for the client
      none_in : (n i : ℕ) → came_up (leg_at ClientIn n) (events_of h who.Client) ≡ false
          → lost_of h (who.In i) (leg_at ClientIn n) ≡ false
      none_in n i never = by (cases_Bool (lost_of h (who.In i) (leg_at ClientIn n)))
        where
          leg : Leg
          leg = leg_at ClientIn n

          at_end : (end : Side) → end_node w.readers leg end ≡ who.In i
              → reader_of w.readers n ≡ i
          at_end side.Client e = absurd cc
          at_end side.Server e = ap number_of e

          none : came_up leg (events_of h (who.In i)) ≡ true → (reader_of w.readers n ≡ 0)
              ⊎ (reader_of w.readers n ≢ 0) → ⊥
          none up (inl zero) =
              let stands = t.carried.stands (who.In i) leg up in
              not_both (came_up leg (events_of h (who.In i))) up
              (ap (λ (k : ℕ). came_up leg (events_of h (who.In k)))
              (sym (at_end stands.0 stands.1) ∙ zero) ∙ t.carried.none leg)
          none up (inr some) =
              not_both (came_up leg (events_of h who.Client)) (t.carried.first n some) never

          by : (lost_of h (who.In i) leg ≡ true) ⊎ (lost_of h (who.In i) leg ≡ false)
              → lost_of h (who.In i) leg ≡ false
          by (inl was) =
              absurd (none (untold.rose (who.In i) leg was) (cases_eq (reader_of w.readers n) 0))
          by (inr none_told) = none_told

      module _ (c : Change) (none : ended_by c ≡ None) where
        abbrev news : Tells
        news = lost_of (noted w h c)

        fewer : (node : Who) (leg : Leg) → news node leg ≡ true → lost_of h node leg ≡ true
        fewer node leg e = by (lost_more c node leg e)
          where
            by : (lost_of h node leg ≡ true) ⊎ (was_lost leg (told_to w c node) ≡ true)
                → lost_of h node leg ≡ true
            by (inl was) = was
            by (inr now) =
                not_both (was_lost leg (told_to w c node)) now (told_none leg w c node none)

        still : AreDown news w.legs w.readers
        still =
            quiet (lost_of h) news w.legs w.readers untold.down fewer w.legs (λ leg end. refl)

        up_change : (node : Who) (leg : Leg) (end : Side) → IsTrue (may_have r w node leg)
            → StandsAt w node leg end → AreDown news (legs.raise leg end w.legs) w.readers
        up_change node leg end may stands =
            let comes = may_come r m d first w h t.runs t.accepted once node leg may in
            raised (lost_of h) news w.legs w.readers untold.down fewer leg end
            (ap (λ (x : Who). lost_of h x leg) (stands_there node leg end comes stands)
            ∙ fresh node leg comes)

        -- a leg of the client comes up for it, with a reader
        module _ (n j : ℕ) (may : IsTrue (may_have r w who.Client (leg_at ClientIn n))) where
          never_in : (i : ℕ) → lost_of h (who.In i) (leg_at ClientIn n) ≡ false
          never_in i =
              none_in n i (never_up r m d first w h t.runs t.accepted once who.Client
              (leg_at ClientIn n) (client_up (leg_at ClientIn n) may))

          opened : (later : Tells)
              → ((node : Who) (leg : Leg) → later node leg ≡ true → lost_of h node leg ≡ true)
              → AreDown later (legs.raise (leg_at ClientIn n) side.Client w.legs)
              (with_reader w.readers n j)
          opened later less =
              raised (lost_of h) later w.legs (with_reader w.readers n j)
              (reread (lost_of h) (lost_of h) w.legs w.readers untold.down n j never_in) less
              (leg_at ClientIn n) side.Client
              (fresh who.Client (leg_at ClientIn n) (client_up (leg_at ClientIn n) may))

          opened_there : AreDown news (legs.raise (leg_at ClientIn n) side.Server
              (legs.raise (leg_at ClientIn n) side.Client w.legs)) (with_reader w.readers n j)
          opened_there =
              raised (lost_of h) news (legs.raise (leg_at ClientIn n) side.Client w.legs)
              (with_reader w.readers n j) (opened (lost_of h) (λ node leg was. was)) fewer
              (leg_at ClientIn n) side.Server (never_in (reader_of (with_reader w.readers n j) n))

      abbrev DownAfter : Change → Type 0
      DownAfter c =
          AreDown (lost_of (noted w h c)) (changed r m d w c).legs (changed r m d w c).readers

      fed_wire : (leg : Leg) (dir : Dir) (count : ℕ) → MayChange r w (IsFed leg dir count)
          → (other : Leg) (end : Side)
          → wires.is_up end (wire_at (legs.take_out leg dir count w.legs).0 other)
          ≡ wires.is_up end (wire_at w.legs other)
      fed_wire leg dir count may other end = by (cases_leg leg other)
        where
          up : wires.is_up (receiver dir) (wire_at w.legs leg) ≡ true
          up = sym (wired.is_up_at w.legs leg (receiver dir)) ∙ may

          by : (leg ≡ other) ⊎ (same_leg leg other ≡ false)
              → wires.is_up end (wire_at (legs.take_out leg dir count w.legs).0 other)
              ≡ wires.is_up end (wire_at w.legs other)
          by (inl same) =
              subst (λ (l : Leg). wires.is_up end (wire_at (legs.take_out leg dir count w.legs).0 l)
              ≡ wires.is_up end (wire_at w.legs l)) same
              (ap (wires.is_up end) (wired.take_here w.legs leg (receiver dir) dir count up)
              ∙ take_keeps end dir count (wire_at w.legs leg))
          by (inr apart) =
              ap (wires.is_up end) (wired.take_beside w.legs leg dir count other apart)

      drawn_wire : (leg : Leg) (dir : Dir) (bytes : List ℕ)
          → wires.is_up (sender dir) (wire_at w.legs leg) ≡ true → (other : Leg) (end : Side)
          → wires.is_up end (wire_at (legs.put leg dir bytes w.legs) other)
          ≡ wires.is_up end (wire_at w.legs other)
      drawn_wire leg dir bytes up other end = by (cases_leg leg other)
        where
          by : (leg ≡ other) ⊎ (same_leg leg other ≡ false)
              → wires.is_up end (wire_at (legs.put leg dir bytes w.legs) other)
              ≡ wires.is_up end (wire_at w.legs other)
          by (inl same) =
              subst (λ (l : Leg). wires.is_up end (wire_at (legs.put leg dir bytes w.legs) l)
              ≡ wires.is_up end (wire_at w.legs l)) same
              (ap (wires.is_up end) (wired.put_here w.legs leg (sender dir) dir bytes up)
              ∙ put_keeps end dir bytes (wire_at w.legs leg))
          by (inr apart) =
              ap (wires.is_up end) (wired.put_beside w.legs leg dir bytes other apart)

      down_after : (c : Change) → MayChange r w c → ended_by c ≡ None → DownAfter c
      down_after (IsTold node event) may none = still (IsTold node event) none
      down_after (IsFed leg dir count) may none =
          let c = IsFed leg dir count in
          quiet (lost_of h) (lost_of (noted w h c)) w.legs w.readers untold.down (fewer c none)
          (legs.take_out leg dir count w.legs).0 (fed_wire leg dir count may)
      down_after (IsDrawn leg dir count) may none =
          let c = IsDrawn leg dir count in
          let bytes = (company.draw r w.company (at w leg (sender dir)) leg count).1 in
          quiet (lost_of h) (lost_of (noted w h c)) w.legs w.readers untold.down (fewer c none)
          (legs.put leg dir bytes w.legs)
          (drawn_wire leg dir bytes (sym (wired.is_up_at w.legs leg (sender dir)) ∙ may))
      down_after (GoesUp node leg end cookie) may none =
          up_change (GoesUp node leg end cookie) none node leg end may.0 may.1
      down_after (RaisesAlone node leg end cookie) may none =
          up_change (RaisesAlone node leg end cookie) none node leg end may.0 may.1
      down_after (GoesDown node leg end) may none = absurd cc
      down_after (OpensIn n cookie) may none =
          let c = OpensIn n cookie in
          opened c none n n may.2 (lost_of (noted w h c)) (fewer c none)
      down_after (OpensOut n cookie) may none =
          let c = OpensOut n cookie in
          raised (lost_of h) (lost_of (noted w h c)) w.legs w.readers untold.down (fewer c none)
          (leg_at ClientOut n) side.Client
          (fresh who.Client (leg_at ClientOut n) (client_up (leg_at ClientOut n) may.2))
      down_after (OpensSame n cookie) may none =
          opened_there (OpensSame n cookie) none n (reader_before w n) may.0
      down_after (Gives side.Client pdu) may none = still (Gives side.Client pdu) none
      down_after (Gives side.Server pdu) may none = still (Gives side.Server pdu) none
      down_after (Takes side.Client) may none = still (Takes side.Client) none
      down_after (Takes side.Server) may none = still (Takes side.Server) none
      down_after (Closes side.Client) may none = still (Closes side.Client) none
      down_after (Closes side.Server) may none = still (Closes side.Server) none
      down_after RecyclesIn may none = still RecyclesIn none
      down_after RecyclesOut may none = still RecyclesOut none
      down_after (MovesTo now) may none = still (MovesTo now) none
      down_after (Draws cookies) may none = still (Draws cookies) none
      down_after Reports may none = still Reports none

      -- a change that ends no leg
      pub untold_more : (c : Change) → MayChange r w c → ended_by c ≡ None
          → IsUntold (changed r m d w c) (noted w h c)
      untold_more c may none = record {
        down = down_after c may none;
        rose = λ node leg e. rose_more c node leg (untold.rose node leg (fewer c none node leg e));
      }

  -- a node is told that a leg is lost that is up for it, and has it down
  module _ (w : World K C S I O) (h : History) (t : IsTraced r m d first w h)
      (once : LegsComeUpOnce r m d first w.cast) (untold : IsUntold w h) (leg : Leg) (end : Side)
      (event : Event)
      (of_it : (other : Leg) → is_loss_of other (heard event) ≡ same_leg leg other)
      (may : MayChange r w (IsTold (at w leg end) event))
      (up : legs.is_up leg end w.legs ≡ true) where
    abbrev telling : Change
    telling = IsTold (at w leg end) event

    abbrev between : World K C S I O
    between = changed r m d w telling

    abbrev meanwhile : History
    meanwhile = noted w h telling

    abbrev lowering : Change
    lowering = GoesDown (at w leg end) leg end

    there : IsTraced r m d first between meanwhile
    there = change_is_traced r m d first w h t once telling may

    more : (node : Who) (other : Leg)
        → lost_of (noted between meanwhile lowering) node other ≡ true
        → (lost_of h node other ≡ true)
        ⊎ (is_here (end_node w.readers leg end) leg node other ≡ true)
    more node other e = by (lost_more between meanwhile there once lowering node other e)
      where
        first_told : (lost_of h node other ≡ true) ⊎ (was_lost other (told_to w telling node) ≡ true)
            → (lost_of h node other ≡ true)
            ⊎ (is_here (end_node w.readers leg end) leg node other ≡ true)
        first_told (inl was) = inl was
        first_told (inr now) =
            inr (told_here leg other (heard event) (of_it other) (is_same (at w leg end) node)
            now)

        by : (lost_of meanwhile node other ≡ true)
            ⊎ (was_lost other (told_to between lowering node) ≡ true)
            → (lost_of h node other ≡ true)
            ⊎ (is_here (end_node w.readers leg end) leg node other ≡ true)
        by (inl was) = first_told (lost_more w h t once telling node other was)
        by (inr now) = absurd (true≢false (sym now))

    rose_here : came_up leg (events_of h (at w leg end)) ≡ true
    rose_here = by end (sym (wired.is_up_at w.legs leg end) ∙ up)
      where
        by : (x : Side) → wires.is_up x (wire_at w.legs leg) ≡ true
            → came_up leg (events_of h (at w leg x)) ≡ true
        by side.Client is = (t.carried.each leg U).put_up is
        by side.Server is = (t.carried.each leg D).put_up is

    rose_after : (node : Who) (other : Leg)
        → (lost_of h node other ≡ true)
        ⊎ (is_here (end_node w.readers leg end) leg node other ≡ true)
        → came_up other (events_of h node) ≡ true
    rose_after node other (inl was) = untold.rose node other was
    rose_after node other (inr now) =
        let parts = and_parts (same_leg leg other) (is_same (at w leg end) node) now in
        subst (λ (x : Who). came_up other (events_of h x) ≡ true)
        (same_who (at w leg end) node parts.1)
        (subst (λ (l : Leg). came_up l (events_of h (at w leg end)) ≡ true)
        (leg_is leg other parts.0) rose_here)

    pub untold_lost : IsUntold (changed r m d between lowering) (noted between meanwhile lowering)
    untold_lost = record {
      down =
          lowered (lost_of h) (lost_of (noted between meanwhile lowering)) w.legs w.readers
          untold.down leg end more;
      rose = λ node other e.
          rose_more between meanwhile there once lowering node other
          (rose_more w h t once telling node other (rose_after node other (more node other e)));
    }
