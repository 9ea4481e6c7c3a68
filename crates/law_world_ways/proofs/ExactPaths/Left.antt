-- a leg that came up for the node at an end is up for it, or was ended by a change
use Rattle.rh_text.specs.declared.ends.Side.TheVariants as side
use Rattle.law_order.proofs.Vocabulary.{◌≡◌, ◌⊎◌, inl, inr, ◌≢◌, ℕ, List, [], ◌∷◌, ◌++◌, Bool, true, false, true≢false, ◌||◌, Some, IsTrue, refl, sym, ap, ◌∙◌, subst, and_parts, cases_Bool, cases_eq, eq-eqb, or_cases, fun_ext}
use Rattle.rh_record.specs.declared.answer.Who.TheVariants as who
use Rattle.rh_shell.specs.Shells as shell
use Rattle.rh_wires.specs.Legs as legs
use Rattle.rh_wires.specs.Wires as wires
use Rattle.rh_company.specs.Company as company
use Rattle.law_moves.proofs.Vocabulary.{Dir, U, D, Side, Cookie, Leg, LegKind, ClientOut, OutServer, ClientIn, InServer, Shell, same_leg}
use Rattle.law_moves.proofs.Lemmas.{leg_is}
use Rattle.law_moves.specs.Moving as moving
use Rattle.law_node_history.proofs.Vocabulary.{Who, Legs, Wire, reader_of, with_reader, receiver, sender, Event, Comes, Ends, Breaks, Passes, Company, Rulebook, Deeds, is_same, Makers, reader_before, leg_at, World, at, IsTraced, LegsComeUpOnce, came_up, end_node, events_of, is_of_client, wire_at, AreAllowed, Change, IsTold, IsFed, IsDrawn, GoesUp, RaisesAlone, GoesDown, OpensIn, OpensOut, OpensSame, Gives, Takes, Closes, RecyclesIn, RecyclesOut, MovesTo, Draws, Reports}
use Rattle.law_node_history.proofs.Vocabulary.{MayChange, StandsAt, all_changed, changed, may_have, History, IsNew, all_noted, heard, noted, nothing, told_to}
use Rattle.law_node_history.proofs.Lemmas.{cast_stays, is_here, not_other, or_false, is_comes, may_come, never_up, none_up, silent_up, up_more, up_of, up_there, asked, put_elsewhere, put_here, traced_first, change_is_traced, cases_leg, told_comes, or_assoc, not_both}
use Rattle.law_node_history.proofs.Wired as wired
use Rattle.law_world_ways.proofs.ExactPaths.Fronts.{IsEnded, ended_later, ended_now}
use Rattle.law_world_ways.specs.EndsInTime.InTime.{ended_by}

-- ---- a wire

up_raised : (end : Side) (wire : Wire) → wires.is_up end (wires.raise end wire) ≡ true
up_raised side.Client wire = refl
up_raised side.Server wire = refl

raise_keeps : (end other : Side) (wire : Wire) → wires.is_up other wire ≡ true
    → wires.is_up other (wires.raise end wire) ≡ true
raise_keeps side.Client side.Client wire e = refl
raise_keeps side.Client side.Server wire e = e
raise_keeps side.Server side.Client wire e = e
raise_keeps side.Server side.Server wire e = refl

put_keeps : (end : Side) (dir : Dir) (bytes : List ℕ) (wire : Wire)
    → wires.is_up end (wires.put dir bytes wire) ≡ wires.is_up end wire
put_keeps side.Client U bytes wire = refl
put_keeps side.Client D bytes wire = refl
put_keeps side.Server U bytes wire = refl
put_keeps side.Server D bytes wire = refl

take_keeps : (end : Side) (dir : Dir) (count : ℕ) (wire : Wire)
    → wires.is_up end (wires.take_out dir count wire).0 ≡ wires.is_up end wire
take_keeps side.Client U count wire = refl
take_keeps side.Client D count wire = refl
take_keeps side.Server U count wire = refl
take_keeps side.Server D count wire = refl

-- ---- nodes at ends

-- the nodes at both ends of a leg are two
same_end : (readers : List ℕ) (leg : Leg) (end other : Side)
    → is_same (end_node readers leg end) (end_node readers leg other) ≡ true → end ≡ other
same_end readers leg end other e = by leg.kind leg.number end other e
  where
    by : (kind : LegKind) (n : ℕ) (end other : Side)
        → is_same (end_node readers (leg_at kind n) end) (end_node readers (leg_at kind n) other)
        ≡ true → end ≡ other
    by kind n side.Client side.Client e = refl
    by kind n side.Server side.Server e = refl
    by ClientOut n side.Client side.Server e = absurd cc
    by ClientOut n side.Server side.Client e = absurd cc
    by OutServer n side.Client side.Server e = absurd cc
    by OutServer n side.Server side.Client e = absurd cc
    by ClientIn n side.Client side.Server e = absurd cc
    by ClientIn n side.Server side.Client e = absurd cc
    by InServer n side.Client side.Server e = absurd cc
    by InServer n side.Server side.Client e = absurd cc

abbrev number_of : Who → ℕ
number_of who.Client = 0
number_of who.Server = 0
number_of (who.In k) = k
number_of (who.Out k) = k

-- ---- each leg that came up is up, or is left

abbrev Ups : Type 0
Ups = Who → Leg → Bool

module _ (Left : Leg → Type 0) where
  abbrev AreUp : Ups → Legs → List ℕ → Type 0
  AreUp ups all readers =
      (leg : Leg) (end : Side) → ups (end_node readers leg end) leg ≡ true
      → (wires.is_up end (wire_at all leg) ≡ true) ⊎ Left leg

  -- bytes are carried, or nothing happens to the legs
  quiet : (ups new : Ups) (all later : Legs) (readers : List ℕ) → AreUp ups all readers
      → ((node : Who) (leg : Leg) → new node leg ≡ ups node leg)
      → ((leg : Leg) (end : Side)
      → wires.is_up end (wire_at later leg) ≡ wires.is_up end (wire_at all leg))
      → AreUp new later readers
  quiet ups new all later readers are same wire leg end up =
      by (are leg end (sym (same (end_node readers leg end) leg) ∙ up))
    where
      by : (wires.is_up end (wire_at all leg) ≡ true) ⊎ Left leg
          → (wires.is_up end (wire_at later leg) ≡ true) ⊎ Left leg
      by (inl is) = inl (wire leg end ∙ is)
      by (inr left) = inr left

  -- a leg comes up at an end
  raised : (ups new : Ups) (all : Legs) (readers : List ℕ) → AreUp ups all readers
      → (leg : Leg) (end : Side)
      → ((node : Who) (other : Leg) → new node other
      ≡ (ups node other || is_here (end_node readers leg end) leg node other))
      → AreUp new (legs.raise leg end all) readers
  raised ups new all readers are leg end more other at up =
      by (or_cases (ups (end_node readers other at) other)
      (is_here (end_node readers leg end) leg (end_node readers other at) other)
      (sym (more (end_node readers other at) other) ∙ up))
    where
      stays : wires.is_up at (wire_at all other) ≡ true
          → wires.is_up at (wire_at (legs.raise leg end all) other) ≡ true
      stays is = on (cases_leg leg other)
        where
          on : (leg ≡ other) ⊎ (same_leg leg other ≡ false)
              → wires.is_up at (wire_at (legs.raise leg end all) other) ≡ true
          on (inl same) =
              subst (λ (l : Leg). wires.is_up at (wire_at all l) ≡ true
              → wires.is_up at (wire_at (legs.raise leg end all) l) ≡ true) same
              (λ here. ap (wires.is_up at) (wired.raise_here all leg end)
              ∙ raise_keeps end at (wire_at all leg) here) is
          on (inr apart) = ap (wires.is_up at) (wired.raise_beside all leg end other apart) ∙ is

      by : (ups (end_node readers other at) other ≡ true)
          ⊎ (is_here (end_node readers leg end) leg (end_node readers other at) other ≡ true)
          → (wires.is_up at (wire_at (legs.raise leg end all) other) ≡ true) ⊎ Left other
      by (inl was) = old (are other at was)
        where
          old : (wires.is_up at (wire_at all other) ≡ true) ⊎ Left other
              → (wires.is_up at (wire_at (legs.raise leg end all) other) ≡ true) ⊎ Left other
          old (inl is) = inl (stays is)
          old (inr left) = inr left
      by (inr now) =
          let parts = and_parts (same_leg leg other)
          (is_same (end_node readers leg end) (end_node readers other at)) now in
          let same = leg_is leg other parts.0 in
          inl (subst (λ (l : Leg).
          is_same (end_node readers leg end) (end_node readers l at) ≡ true
          → wires.is_up at (wire_at (legs.raise leg end all) l) ≡ true) same
          (λ here. subst (λ (x : Side). wires.is_up x (wire_at (legs.raise leg end all) leg) ≡ true)
          (same_end readers leg end at here)
          (ap (wires.is_up end) (wired.raise_here all leg end)
          ∙ up_raised end (wire_at all leg))) parts.1)

  -- or goes down, and is left
  lowered : (ups new : Ups) (all : Legs) (readers : List ℕ) → AreUp ups all readers
      → (leg : Leg) (end : Side) → Left leg
      → ((node : Who) (other : Leg) → new node other ≡ ups node other)
      → AreUp new (legs.lower leg end all) readers
  lowered ups new all readers are leg end left same other at up = by (cases_leg leg other)
    where
      by : (leg ≡ other) ⊎ (same_leg leg other ≡ false)
          → (wires.is_up at (wire_at (legs.lower leg end all) other) ≡ true) ⊎ Left other
      by (inl is) = inr (subst Left is left)
      by (inr apart) = on (are other at (sym (same (end_node readers other at) other) ∙ up))
        where
          on : (wires.is_up at (wire_at all other) ≡ true) ⊎ Left other
              → (wires.is_up at (wire_at (legs.lower leg end all) other) ≡ true) ⊎ Left other
          on (inl is) = inl (ap (wires.is_up at) (wired.lower_beside all leg end other apart) ∙ is)
          on (inr gone) = inr gone

  -- an IN leg of the client gets its reader
  module _ (ups : Ups) (all : Legs) (readers : List ℕ) (n j : ℕ)
      (none : (i : ℕ) → ups (who.In i) (leg_at ClientIn n) ≡ false) where
    abbrev in_leg : Leg
    in_leg = leg_at ClientIn n

    abbrev later : List ℕ
    later = with_reader readers n j

    reader_apart : (i : ℕ) → i ≢ n → reader_of later i ≡ reader_of readers i
    reader_apart i e =
        asked 0 (λ x. x) later i ∙ put_elsewhere 0 readers n i j e
        ∙ sym (asked 0 (λ x. x) readers i)

    node_apart : (leg : Leg) (end : Side) → same_leg in_leg leg ≡ false
        → end_node later leg end ≡ end_node readers leg end
    node_apart leg end = by leg.kind leg.number end
      where
        by : (kind : LegKind) (i : ℕ) (end : Side) → same_leg in_leg (leg_at kind i) ≡ false
            → end_node later (leg_at kind i) end ≡ end_node readers (leg_at kind i) end
        by ClientOut i side.Client e = refl
        by ClientOut i side.Server e = refl
        by OutServer i side.Client e = refl
        by OutServer i side.Server e = refl
        by ClientIn i side.Client e = refl
        by ClientIn i side.Server e =
            ap who.In (reader_apart i (λ same.
            not_both (same_leg in_leg (leg_at ClientIn i)) (eq-eqb n i (sym same)) e))
        by InServer i side.Client e = refl
        by InServer i side.Server e = refl

    reread : AreUp ups all readers → AreUp ups all later
    reread are leg end up = by (cases_leg in_leg leg)
      where
        on_leg : (end : Side) → ups (end_node later in_leg end) in_leg ≡ true
            → (wires.is_up end (wire_at all in_leg) ≡ true) ⊎ Left in_leg
        on_leg side.Client here = are in_leg side.Client here
        on_leg side.Server here =
            not_both (ups (who.In (reader_of later n)) in_leg) here (none (reader_of later n))

        by : (in_leg ≡ leg) ⊎ (same_leg in_leg leg ≡ false)
            → (wires.is_up end (wire_at all leg) ≡ true) ⊎ Left leg
        by (inl same) =
            subst (λ (l : Leg). ups (end_node later l end) l ≡ true
            → (wires.is_up end (wire_at all l) ≡ true) ⊎ Left l) same (on_leg end) up
        by (inr apart) =
            are leg end (ap (λ (x : Who). ups x leg) (sym (node_apart leg end apart)) ∙ up)

-- ---- changes

client_end : (readers : List ℕ) (leg : Leg) → is_of_client leg.kind ≡ true
    → end_node readers leg side.Client ≡ who.Client
client_end readers leg e = by leg.kind e
  where
    by : (kind : LegKind) → is_of_client kind ≡ true
        → end_node readers (leg_at kind leg.number) side.Client ≡ who.Client
    by ClientOut e = refl
    by OutServer e = absurd (true≢false (sym e))
    by ClientIn e = refl
    by InServer e = absurd (true≢false (sym e))

module _ {K C S I O : Type 0} (r : Rulebook C S I O) (m : Makers K I O) (d : Deeds C S)
    (first : Company C S I O) (Left : Leg → Type 0) where
  abbrev ups_of : History → Ups
  ups_of h = λ node leg. came_up leg (events_of h node)

  abbrev Held : World K C S I O → History → Type 0
  Held w h = AreUp Left (ups_of h) w.legs w.readers

  module _ (w : World K C S I O) (h : History) (t : IsTraced r m d first w h)
      (once : LegsComeUpOnce r m d first w.cast) (are : Held w h) where
    abbrev after : Change → World K C S I O
    after c = changed r m d w c

    -- the same legs come up
    same_ups : (c : Change) → ((node : Who) (leg : Leg)
        → up_of r w.company (told_to w c) node leg ≡ false) → (node : Who) (leg : Leg)
        → ups_of (noted w h c) node leg ≡ ups_of h node leg
    same_ups c none node leg =
        up_more r m d first w h t.runs c node leg
        ∙ or_false (ups_of h node leg) (up_of r w.company (told_to w c) node leg) (none node leg)

    quietly : (c : Change) (later : Legs)
        → ((node : Who) (leg : Leg) → up_of r w.company (told_to w c) node leg ≡ false)
        → ((leg : Leg) (end : Side)
        → wires.is_up end (wire_at later leg) ≡ wires.is_up end (wire_at w.legs leg))
        → AreUp Left (ups_of (noted w h c)) later w.readers
    quietly c later none =
        quiet Left (ups_of h) (ups_of (noted w h c)) w.legs later w.readers are (same_ups c none)

    still : (c : Change)
        → ((node : Who) (leg : Leg) → up_of r w.company (told_to w c) node leg ≡ false)
        → AreUp Left (ups_of (noted w h c)) w.legs w.readers
    still c none = quietly c w.legs none (λ leg end. refl)

    -- ---- bytes are carried

    fed_wire : (leg : Leg) (dir : Dir) (count : ℕ) → MayChange r w (IsFed leg dir count)
        → (other : Leg) (end : Side)
        → wires.is_up end (wire_at (legs.take_out leg dir count w.legs).0 other)
        ≡ wires.is_up end (wire_at w.legs other)
    fed_wire leg dir count may other end = by (cases_leg leg other)
      where
        up : wires.is_up (receiver dir) (wire_at w.legs leg) ≡ true
        up = sym (wired.is_up_at w.legs leg (receiver dir)) ∙ may

        by : (leg ≡ other) ⊎ (same_leg leg other ≡ false)
            → wires.is_up end (wire_at (legs.take_out leg dir count w.legs).0 other)
            ≡ wires.is_up end (wire_at w.legs other)
        by (inl same) =
            subst (λ (l : Leg). wires.is_up end (wire_at (legs.take_out leg dir count w.legs).0 l)
            ≡ wires.is_up end (wire_at w.legs l)) same
            (ap (wires.is_up end) (wired.take_here w.legs leg (receiver dir) dir count up)
            ∙ take_keeps end dir count (wire_at w.legs leg))
        by (inr apart) = ap (wires.is_up end) (wired.take_beside w.legs leg dir count other apart)

    drawn_wire : (leg : Leg) (dir : Dir) (bytes : List ℕ)
        → wires.is_up (sender dir) (wire_at w.legs leg) ≡ true → (other : Leg) (end : Side)
        → wires.is_up end (wire_at (legs.put leg dir bytes w.legs) other)
        ≡ wires.is_up end (wire_at w.legs other)
    drawn_wire leg dir bytes up other end = by (cases_leg leg other)
      where
        by : (leg ≡ other) ⊎ (same_leg leg other ≡ false)
            → wires.is_up end (wire_at (legs.put leg dir bytes w.legs) other)
            ≡ wires.is_up end (wire_at w.legs other)
        by (inl same) =
            subst (λ (l : Leg). wires.is_up end (wire_at (legs.put leg dir bytes w.legs) l)
            ≡ wires.is_up end (wire_at w.legs l)) same
            (ap (wires.is_up end) (wired.put_here w.legs leg (sender dir) dir bytes up)
            ∙ put_keeps end dir bytes (wire_at w.legs leg))
        by (inr apart) = ap (wires.is_up end) (wired.put_beside w.legs leg dir bytes other apart)

    -- ---- a leg comes up

    stands_there : (node : Who) (leg : Leg) (end : Side)
        → company.may_up r w.company node leg ≡ true → StandsAt w node leg end
        → end_node w.readers leg end ≡ node
    stands_there node leg end may (inl stands) = stands
    stands_there node leg end may (inr is) =
        ap (end_node w.readers leg) is.1
        ∙ client_end w.readers leg (once.own h.client leg t.accepted.client
        (ap (λ (s : Shell C). shell.may_up r.client s leg) (sym t.runs.client)
        ∙ subst (λ (x : Who). company.may_up r w.company x leg ≡ true) is.0 may))
        ∙ sym is.0

    up_change : (c : Change) (node : Who) (leg : Leg) (end : Side) (cookie : Cookie)
        → ((other : Who) → told_to w c other
        ≡ told_to w (RaisesAlone node leg end cookie) other)
        → MayChange r w (RaisesAlone node leg end cookie)
        → AreUp Left (ups_of (noted w h c)) (legs.raise leg end w.legs) w.readers
    up_change c node leg end cookie same may =
        raised Left (ups_of h) (ups_of (noted w h c)) w.legs w.readers are leg end more
      where
        comes : company.may_up r w.company node leg ≡ true
        comes = may_come r m d first w h t.runs t.accepted once node leg may.0

        more : (other : Who) (beside : Leg) → ups_of (noted w h c) other beside
            ≡ (ups_of h other beside
            || is_here (end_node w.readers leg end) leg other beside)
        more other beside =
            up_more r m d first w h t.runs c other beside
            ∙ ap (λ (told : Who → List moving.Event). ups_of h other beside
            || up_of r w.company told other beside) (fun_ext same)
            ∙ ap (λ (t : Bool). ups_of h other beside || t)
            (up_there r w.company node leg cookie comes other beside
            ∙ ap (λ (x : Who). is_here x leg other beside)
            (sym (stands_there node leg end comes may.1)))

    client_up : (leg : Leg) → IsTrue (may_have r w who.Client leg)
        → company.may_up r w.company who.Client leg ≡ true
    client_up leg may = may_come r m d first w h t.runs t.accepted once who.Client leg may

    client_never : (leg : Leg) → IsTrue (may_have r w who.Client leg)
        → ups_of h who.Client leg ≡ false
    client_never leg may =
        never_up r m d first w h t.runs t.accepted once who.Client leg (client_up leg may)

    -- no in proxy has an IN leg up that never came up for the client
    none_in : (n i : ℕ) → ups_of h who.Client (leg_at ClientIn n) ≡ false
        → ups_of h (who.In i) (leg_at ClientIn n) ≡ false
    none_in n i never = by (cases_Bool (ups_of h (who.In i) (leg_at ClientIn n)))
      where
        leg : Leg
        leg = leg_at ClientIn n

        at_end : (end : Side) → end_node w.readers leg end ≡ who.In i
            → reader_of w.readers n ≡ i
        at_end side.Client e = absurd cc
        at_end side.Server e = ap number_of e

        none : ups_of h (who.In i) leg ≡ true → (reader_of w.readers n ≡ 0)
            ⊎ (reader_of w.readers n ≢ 0) → ⊥
        none up (inl zero) =
            let stands = t.carried.stands (who.In i) leg up in
            not_both (ups_of h (who.In i) leg) up
            (ap (λ (k : ℕ). ups_of h (who.In k) leg)
            (sym (at_end stands.0 stands.1) ∙ zero) ∙ t.carried.none leg)
        none up (inr some) =
            not_both (ups_of h who.Client leg) (t.carried.first n some) never

        by : (ups_of h (who.In i) leg ≡ true) ⊎ (ups_of h (who.In i) leg ≡ false)
            → ups_of h (who.In i) leg ≡ false
        by (inl up) = absurd (none up (cases_eq (reader_of w.readers n) 0))
        by (inr down) = down

    -- up for the client, with a reader
    opened : (c : Change) (n j : ℕ) (new : Ups) → ups_of h who.Client (leg_at ClientIn n) ≡ false
        → ((node : Who) (other : Leg) → new node other
        ≡ (ups_of h node other || is_here who.Client (leg_at ClientIn n) node other))
        → AreUp Left new (legs.raise (leg_at ClientIn n) side.Client w.legs)
        (with_reader w.readers n j)
    opened c n j new never more =
        raised Left (ups_of h) new w.legs (with_reader w.readers n j)
        (reread Left (ups_of h) w.legs w.readers n j (λ i. none_in n i never) are)
        (leg_at ClientIn n) side.Client more

    client_more : (c : Change) (leg : Leg) (cookie : Cookie)
        → IsTrue (may_have r w who.Client leg)
        → ((other : Who) → told_to w c other
        ≡ told_to w (RaisesAlone who.Client leg side.Client cookie) other)
        → (node : Who) (other : Leg) → ups_of (noted w h c) node other
        ≡ (ups_of h node other || is_here who.Client leg node other)
    client_more c leg cookie may same node other =
        up_more r m d first w h t.runs c node other
        ∙ ap (λ (told : Who → List moving.Event). ups_of h node other
        || up_of r w.company told node other) (fun_ext same)
        ∙ ap (λ (t : Bool). ups_of h node other || t)
        (up_there r w.company who.Client leg cookie (client_up leg may) node other)

    module _ (n : ℕ) (cookie : Cookie) (may : MayChange r w (OpensSame n cookie)) where
      abbrev leg_up : Leg
      leg_up = leg_at ClientIn n

      abbrev reader : Who
      reader = who.In (reader_before w n)

      abbrev same : Change
      same = OpensSame n cookie

      reader_up : company.may_up r w.company reader leg_up ≡ true
      reader_up = may_come r m d first w h t.runs t.accepted once reader leg_up may.1

      up_of_same : (node : Who) (beside : Leg)
          → up_of r w.company (told_to w same) node beside
          ≡ (is_here who.Client leg_up node beside || is_here reader leg_up node beside)
      up_of_same who.Client beside =
          up_there r w.company who.Client leg_up cookie (client_up leg_up may.0) who.Client beside
          ∙ sym (or_false (is_here who.Client leg_up who.Client beside)
          (is_here reader leg_up who.Client beside)
          (not_other reader leg_up who.Client beside refl))
      up_of_same who.Server beside =
          sym (or_false (is_here who.Client leg_up who.Server beside)
          (is_here reader leg_up who.Server beside)
          (not_other reader leg_up who.Server beside refl)
          ∙ not_other who.Client leg_up who.Server beside refl)
      up_of_same (who.In k) beside =
          up_there r w.company reader leg_up cookie reader_up (who.In k) beside
          ∙ ap (λ (t : Bool). t || is_here reader leg_up (who.In k) beside)
          (sym (not_other who.Client leg_up (who.In k) beside refl))
      up_of_same (who.Out k) beside =
          silent_up r w.company (who.Out k) beside
          ∙ sym (or_false (is_here who.Client leg_up (who.Out k) beside)
          (is_here reader leg_up (who.Out k) beside)
          (not_other reader leg_up (who.Out k) beside refl)
          ∙ not_other who.Client leg_up (who.Out k) beside refl)

      abbrev half : Ups
      half = λ node leg. ups_of h node leg || is_here who.Client leg_up node leg

      abbrev readers : List ℕ
      readers = with_reader w.readers n (reader_before w n)

      same_held : AreUp Left (ups_of (noted w h same))
          (legs.raise leg_up side.Server (legs.raise leg_up side.Client w.legs)) readers
      same_held =
          let there : end_node readers leg_up side.Server ≡ reader =
          ap who.In (asked 0 (λ k. k) readers n ∙ put_here 0 w.readers n (reader_before w n)) in
          raised Left half (ups_of (noted w h same)) (legs.raise leg_up side.Client w.legs) readers
          (opened same n (reader_before w n) half (client_never leg_up may.0)
          (λ node other. refl))
          leg_up side.Server (λ node leg. up_more r m d first w h t.runs same node leg
          ∙ ap (λ (t : Bool). ups_of h node leg || t) (up_of_same node leg)
          ∙ or_assoc (ups_of h node leg) (is_here who.Client leg_up node leg)
          (is_here reader leg_up node leg)
          ∙ ap (λ (x : Who). half node leg || is_here x leg_up node leg) (sym there))

    -- ---- any change

    held_after : (c : Change) → MayChange r w c → ((leg : Leg) → ended_by c ≡ Some leg → Left leg)
        → AreUp Left (ups_of (noted w h c)) (after c).legs (after c).readers
    held_after (IsTold node event) may left =
        still (IsTold node event) (none_up r w.company node (heard event) (told_comes event))
    held_after (IsFed leg dir count) may left =
        quietly (IsFed leg dir count) (legs.take_out leg dir count w.legs).0
        (none_up r w.company (at w leg (receiver dir))
        (moving.Hears leg (legs.take_out leg dir count w.legs).1) refl)
        (fed_wire leg dir count may)
    held_after (IsDrawn leg dir count) may left =
        quietly (IsDrawn leg dir count)
        (legs.put leg dir (company.draw r w.company (at w leg (sender dir)) leg count).1 w.legs)
        (none_up r w.company (at w leg (sender dir)) (moving.Draws leg count) refl)
        (drawn_wire leg dir (company.draw r w.company (at w leg (sender dir)) leg count).1
        (sym (wired.is_up_at w.legs leg (sender dir)) ∙ may))
    held_after (GoesUp node leg end cookie) may left =
        up_change (GoesUp node leg end cookie) node leg end cookie (λ other. refl)
        (may.0, may.1)
    held_after (RaisesAlone node leg end cookie) may left =
        up_change (RaisesAlone node leg end cookie) node leg end cookie (λ other. refl) may
    held_after (GoesDown node leg end) may left =
        lowered Left (ups_of h) (ups_of (noted w h (GoesDown node leg end))) w.legs w.readers are
        leg end (left leg refl)
        (same_ups (GoesDown node leg end) (silent_up r w.company))
    held_after (OpensIn n cookie) may left =
        opened (OpensIn n cookie) n n (ups_of (noted w h (OpensIn n cookie)))
        (client_never (leg_at ClientIn n) may.2)
        (client_more (OpensIn n cookie) (leg_at ClientIn n) cookie may.2 (λ other. refl))
    held_after (OpensOut n cookie) may left =
        raised Left (ups_of h) (ups_of (noted w h (OpensOut n cookie))) w.legs w.readers are
        (leg_at ClientOut n) side.Client
        (client_more (OpensOut n cookie) (leg_at ClientOut n) cookie may.2 (λ other. refl))
    held_after (OpensSame n cookie) may left = same_held n cookie may
    held_after (Gives side.Client pdu) may left =
        still (Gives side.Client pdu) (silent_up r w.company)
    held_after (Gives side.Server pdu) may left =
        still (Gives side.Server pdu) (silent_up r w.company)
    held_after (Takes side.Client) may left = still (Takes side.Client) (silent_up r w.company)
    held_after (Takes side.Server) may left = still (Takes side.Server) (silent_up r w.company)
    held_after (Closes side.Client) may left = still (Closes side.Client) (silent_up r w.company)
    held_after (Closes side.Server) may left = still (Closes side.Server) (silent_up r w.company)
    held_after RecyclesIn may left = still RecyclesIn (silent_up r w.company)
    held_after RecyclesOut may left = still RecyclesOut (silent_up r w.company)
    held_after (MovesTo now) may left = still (MovesTo now) (silent_up r w.company)
    held_after (Draws cookies) may left = still (Draws cookies) (silent_up r w.company)
    held_after Reports may left = still Reports (silent_up r w.company)

  held_along : (w : World K C S I O) (h : History) → IsTraced r m d first w h
      → LegsComeUpOnce r m d first w.cast → Held w h → (changes : List Change)
      → AreAllowed r m d w changes → ((leg : Leg) → IsEnded changes leg → Left leg)
      → Held (all_changed r m d w changes) (all_noted r m d w h changes)
  held_along w h t once are [] allowed left = are
  held_along w h t once are (c ∷ changes) allowed left =
      held_along (changed r m d w c) (noted w h c)
      (change_is_traced r m d first w h t once c allowed.0)
      (subst (λ (x : K). LegsComeUpOnce r m d first x) (sym (cast_stays r m d w c)) once)
      (held_after w h t once are c allowed.0
      (λ leg ends. left leg (ended_now c changes leg ends))) changes allowed.1
      (λ leg ended. left leg (ended_later c changes leg ended))

none_up_first : (node : Who) (leg : Leg) → came_up leg (events_of nothing node) ≡ true → ⊥
none_up_first who.Client leg e = absurd (true≢false (sym e))
none_up_first who.Server leg e = absurd (true≢false (sym e))
none_up_first (who.In n) leg e = absurd (true≢false (sym e))
none_up_first (who.Out n) leg e = absurd (true≢false (sym e))

-- so a leg that is not up any more at an end was ended by a change
pub left_by_change : {K C S I O : Type 0} (r : Rulebook C S I O) (m : Makers K I O) (d : Deeds C S)
    (w : World K C S I O) → IsNew w → LegsComeUpOnce r m d w.company w.cast
    → (changes : List Change) → AreAllowed r m d w changes → (leg : Leg) (end : Side)
    → came_up leg (events_of (all_noted r m d w nothing changes)
    (at (all_changed r m d w changes) leg end)) ≡ true
    → wires.is_up end (wire_at (all_changed r m d w changes).legs leg) ≡ false
    → IsEnded changes leg
left_by_change r m d w new once changes allowed leg end up down =
    by (held_along r m d w.company (IsEnded changes) w nothing (traced_first r m d w new) once
    (λ other at here. absurd (none_up_first (end_node w.readers other at) other here)) changes
    allowed (λ other ended. ended) leg end up)
  where
    by : (wires.is_up end (wire_at (all_changed r m d w changes).legs leg) ≡ true)
        ⊎ IsEnded changes leg → IsEnded changes leg
    by (inl is) =
        not_both (wires.is_up end (wire_at (all_changed r m d w changes).legs leg)) is down
    by (inr ended) = ended

-- ---- the reader of an IN channel stays

module _ {K C S I O : Type 0} (r : Rulebook C S I O) (m : Makers K I O) (d : Deeds C S)
    (first : Company C S I O) where
  module _ (w : World K C S I O) (h : History) (t : IsTraced r m d first w h)
      (once : LegsComeUpOnce r m d first w.cast) (n : ℕ) (some : reader_of w.readers n ≢ 0) where
    -- the channel came up for the client, so it does not come up again
    not_again : (k : ℕ) → IsTrue (may_have r w who.Client (leg_at ClientIn k)) → n ≢ k
    not_again k may same =
        not_both (came_up (leg_at ClientIn n) (events_of h who.Client)) (t.carried.first n some)
        (ap (λ (i : ℕ). came_up (leg_at ClientIn i) (events_of h who.Client)) same
        ∙ never_up r m d first w h t.runs t.accepted once who.Client (leg_at ClientIn k)
        (may_come r m d first w h t.runs t.accepted once who.Client (leg_at ClientIn k) may))

    apart : (k j : ℕ) → n ≢ k → reader_of (with_reader w.readers k j) n ≡ reader_of w.readers n
    apart k j other =
        asked 0 (λ x. x) (with_reader w.readers k j) n ∙ put_elsewhere 0 w.readers k n j other
        ∙ sym (asked 0 (λ x. x) w.readers n)

    reader_after : (c : Change) → MayChange r w c
        → reader_of (changed r m d w c).readers n ≡ reader_of w.readers n
    reader_after (OpensIn k cookie) may = apart k k (not_again k may.2)
    reader_after (OpensSame k cookie) may = apart k (reader_before w k) (not_again k may.0)
    reader_after (Gives side.Client pdu) may = refl
    reader_after (Gives side.Server pdu) may = refl
    reader_after (Takes side.Client) may = refl
    reader_after (Takes side.Server) may = refl
    reader_after (Closes side.Client) may = refl
    reader_after (Closes side.Server) may = refl
    reader_after c may = refl

  reader_along : (w : World K C S I O) (h : History) → IsTraced r m d first w h
      → LegsComeUpOnce r m d first w.cast → (n : ℕ) → reader_of w.readers n ≢ 0
      → (changes : List Change) → AreAllowed r m d w changes
      → reader_of (all_changed r m d w changes).readers n ≡ reader_of w.readers n
  reader_along w h t once n some [] allowed = refl
  reader_along w h t once n some (c ∷ changes) allowed =
      let one = reader_after w h t once n some c allowed.0 in
      reader_along (changed r m d w c) (noted w h c)
      (change_is_traced r m d first w h t once c allowed.0)
      (subst (λ (x : K). LegsComeUpOnce r m d first x) (sym (cast_stays r m d w c)) once) n
      (λ none. some (sym one ∙ none)) changes allowed.1
      ∙ one

  pub reader_stays : (w : World K C S I O) (h : History) → IsTraced r m d first w h
      → LegsComeUpOnce r m d first w.cast → (e more : List Change)
      → AreAllowed r m d w (e ++ more) → (n : ℕ)
      → reader_of (all_changed r m d w e).readers n ≢ 0
      → reader_of (all_changed r m d w (e ++ more)).readers n
      ≡ reader_of (all_changed r m d w e).readers n
  reader_stays w h t once [] more allowed n some = reader_along w h t once n some more allowed
  reader_stays w h t once (c ∷ e) more allowed n some =
      reader_stays (changed r m d w c) (noted w h c)
      (change_is_traced r m d first w h t once c allowed.0)
      (subst (λ (x : K). LegsComeUpOnce r m d first x) (sym (cast_stays r m d w c)) once) e more
      allowed.1 n some
