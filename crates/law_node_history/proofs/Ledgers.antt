-- what happens to the legs keeps them carried
use Rattle.rh_text.specs.declared.ends.Side.TheVariants as side
use Rattle.law_order.proofs.Vocabulary.{◌≡◌, ℕ, List, [], ◌++◌, Bool, true, false, ◌&&◌, ◌||◌, if◌then◌else◌, take, refl, sym, ap, ◌∙◌, subst, ◌⊎◌, inl, inr, ⊎_elim, eq-eqb, append-nil}
use Rattle.rh_record.specs.declared.answer.Who.TheVariants as who
use Rattle.rh_wires.specs.Legs as legs
use Rattle.rh_wires.specs.Wires as wires
use Rattle.law_moves.proofs.Vocabulary.{Dir, U, D, Side, Leg, LegKind, ClientOut, OutServer, ClientIn, InServer, same_leg}
use Rattle.law_node_history.proofs.Vocabulary.{Who, Legs, sender, receiver, is_same, leg_at, IsCarried, Ledger, carriage, wire_at, end_node}
use Rattle.law_node_history.proofs.Seen.{seen_as, seen_put, seen_taken, seen_up_put, seen_up_take, seen_down, put_aside, take_aside}
use Rattle.law_node_history.proofs.Wired.{same_itself, cases_leg}
use Rattle.law_node_history.proofs.Wired as wired

-- ---- nodes

pub who_itself : (node : Who) → is_same node node ≡ true
who_itself who.Client = refl
who_itself who.Server = refl
who_itself (who.In n) = eq-eqb n n refl
who_itself (who.Out n) = eq-eqb n n refl

-- the nodes at both ends of a leg are two
ends_apart : (readers : List ℕ) (leg : Leg) (dir : Dir)
    → is_same (end_node readers leg (sender dir)) (end_node readers leg (receiver dir)) ≡ false
ends_apart readers leg dir = by leg.kind dir
  where
    by : (kind : LegKind) (dir : Dir)
        → is_same (end_node readers (leg_at kind leg.number) (sender dir))
        (end_node readers (leg_at kind leg.number) (receiver dir)) ≡ false
    by ClientOut U = refl
    by ClientOut D = refl
    by OutServer U = refl
    by OutServer D = refl
    by ClientIn U = refl
    by ClientIn D = refl
    by InServer U = refl
    by InServer D = refl

ends_apart_back : (readers : List ℕ) (leg : Leg) (dir : Dir)
    → is_same (end_node readers leg (receiver dir)) (end_node readers leg (sender dir)) ≡ false
ends_apart_back readers leg U = ends_apart readers leg D
ends_apart_back readers leg D = ends_apart readers leg U

two_dirs : (dir other : Dir)
    → (dir ≡ other) ⊎ ((sender dir ≡ receiver other) × (receiver dir ≡ sender other))
two_dirs U U = inl refl
two_dirs U D = inr (refl, refl)
two_dirs D U = inr (refl, refl)
two_dirs D D = inl refl

two_ends : (end : Side) (dir : Dir) → (end ≡ sender dir) ⊎ (end ≡ receiver dir)
two_ends side.Client U = inl refl
two_ends side.Client D = inr refl
two_ends side.Server U = inr refl
two_ends side.Server D = inl refl

-- ---- something at one node and leg

abbrev pub is_here : Who → Leg → Who → Leg → Bool
is_here node leg other beside = same_leg leg beside && is_same node other

abbrev pub bytes_here : Who → Leg → List ℕ → Who → Leg → List ℕ
bytes_here node leg bytes other beside = if is_here node leg other beside then bytes else []

pub here_itself : (node : Who) (leg : Leg) → is_here node leg node leg ≡ true
here_itself node leg =
    ap (λ b. b && is_same node node) (same_itself leg) ∙ who_itself node

pub not_beside : (node : Who) (leg : Leg) (other : Who) (beside : Leg) → same_leg leg beside ≡ false
    → is_here node leg other beside ≡ false
not_beside node leg other beside e = ap (λ b. b && is_same node other) e

pub and_false : (a b : Bool) → b ≡ false → (a && b) ≡ false
and_false true b e = e
and_false false b e = refl

pub not_other : (node : Who) (leg : Leg) (other : Who) (beside : Leg) → is_same node other ≡ false
    → is_here node leg other beside ≡ false
not_other node leg other beside e =
    and_false (same_leg leg beside) (is_same node other) e

-- the bytes are added, or none
added : (old bytes new : List ℕ) (b : Bool) → b ≡ true
    → new ≡ old ++ (if b then bytes else []) → old ++ bytes ≡ new
added old bytes new b e h = sym (h ∙ ap (λ x. old ++ (if x then bytes else [])) e)

pub none_added : (old bytes new : List ℕ) (b : Bool) → b ≡ false
    → new ≡ old ++ (if b then bytes else []) → old ≡ new
none_added old bytes new b e h =
    sym (h ∙ ap (λ x. old ++ (if x then bytes else [])) e ∙ append-nil old)

pub or_false : (a b : Bool) → b ≡ false → (a || b) ≡ a
or_false true b e = refl
or_false false b e = e

pub or_true : (a b : Bool) → b ≡ true → (a || b) ≡ true
or_true true b e = refl
or_true false b e = e

-- ---- every leg and direction

abbrev pub Each : Ledger → Legs → List ℕ → Type 0
Each g all readers = (leg : Leg) (dir : Dir) → IsCarried (carriage g all readers leg dir)

module _ (g new : Ledger) (all : Legs) (readers : List ℕ) (each : Each g all readers) where
  -- nothing changes on a leg
  pub same_on : (later : Legs) (leg : Leg) (dir : Dir)
      → ((node : Who) → g.drawn node leg ≡ new.drawn node leg)
      → ((node : Who) → g.fed node leg ≡ new.fed node leg)
      → ((node : Who) → g.was_up node leg ≡ new.was_up node leg)
      → wire_at all leg ≡ wire_at later leg → IsCarried (carriage new later readers leg dir)
  same_on later leg dir d h u w =
      let from = end_node readers leg (sender dir) in
      let to = end_node readers leg (receiver dir) in
      seen_as dir (d from) (h to) (u from) (u to) w (each leg dir)

  module _ (leg : Leg) where
    -- both directions of the leg, and all others
    each_at : (later : Legs) (dir : Dir) → IsCarried (carriage new later readers leg dir)
        → ((back : Dir) → sender dir ≡ receiver back → receiver dir ≡ sender back
        → IsCarried (carriage new later readers leg back))
        → ((other : Leg) (at : Dir) → same_leg leg other ≡ false
        → IsCarried (carriage new later readers other at))
        → Each new later readers
    each_at later dir along back beside other at =
        ⊎_elim (λ e. subst (λ x. IsCarried (carriage new later readers x at)) e
        (⊎_elim (λ f. subst (λ x. IsCarried (carriage new later readers leg x)) f along)
        (λ f. back at f.0 f.1) (two_dirs dir at))) (beside other at) (cases_leg leg other)

    -- ---- bytes are drawn

    module _ (dir : Dir) (bytes : List ℕ)
        (up : wires.is_up (sender dir) (wire_at all leg) ≡ true)
        (d : (node : Who) (other : Leg) → new.drawn node other
        ≡ g.drawn node other
        ++ bytes_here (end_node readers leg (sender dir)) leg bytes node other)
        (h : (node : Who) (other : Leg) → new.fed node other ≡ g.fed node other)
        (u : (node : Who) (other : Leg) → new.was_up node other ≡ g.was_up node other) where
      abbrev put_later : Legs
      put_later = legs.put leg dir bytes all

      draw_along : IsCarried (carriage new put_later readers leg dir)
      draw_along =
          let from = end_node readers leg (sender dir) in
          let to = end_node readers leg (receiver dir) in
          seen_as dir
          (added (g.drawn from leg) bytes (new.drawn from leg) (is_here from leg from leg)
          (here_itself from leg) (d from leg))
          (sym (h to leg)) (sym (u from leg)) (sym (u to leg))
          (sym (wired.put_here all leg (sender dir) dir bytes up))
          (seen_put (g.drawn from leg) (g.fed to leg) (g.was_up from leg) (g.was_up to leg)
          (wire_at all leg) dir bytes up (each leg dir))

      -- the other direction
      draw_back : (back : Dir) → sender dir ≡ receiver back → receiver dir ≡ sender back
          → IsCarried (carriage new put_later readers leg back)
      draw_back back e f =
          let from = end_node readers leg (sender back) in
          let to = end_node readers leg (receiver back) in
          let puts = end_node readers leg (sender dir) in
          let apart : is_same puts from ≡ false =
          ap (λ end. is_same puts (end_node readers leg end)) (sym f)
          ∙ ends_apart readers leg dir in
          seen_as back
          (none_added (g.drawn from leg) bytes (new.drawn from leg) (is_here puts leg from leg)
          (not_other puts leg from leg apart) (d from leg))
          (sym (h to leg)) (sym (u from leg)) (sym (u to leg))
          (sym (wired.put_here all leg (sender dir) dir bytes up))
          (subst IsCarried (sym (put_aside dir back bytes (wire_at all leg) (g.drawn from leg)
          (g.fed to leg) (g.was_up from leg) (g.was_up to leg) e)) (each leg back))

      pub each_drawn : Each new put_later readers
      each_drawn =
          each_at put_later dir draw_along draw_back
          (λ other at e. same_on put_later other at
          (λ node. none_added (g.drawn node other) bytes (new.drawn node other)
          (is_here (end_node readers leg (sender dir)) leg node other)
          (not_beside (end_node readers leg (sender dir)) leg node other e) (d node other))
          (λ node. sym (h node other)) (λ node. sym (u node other))
          (sym (wired.put_beside all leg dir bytes other e)))

    -- ---- bytes are fed

    module _ (dir : Dir) (count : ℕ)
        (up : wires.is_up (receiver dir) (wire_at all leg) ≡ true)
        (d : (node : Who) (other : Leg) → new.drawn node other ≡ g.drawn node other)
        (h : (node : Who) (other : Leg) → new.fed node other
        ≡ g.fed node other
        ++ bytes_here (end_node readers leg (receiver dir)) leg
        (take count (wires.in_flight dir (wire_at all leg))) node other)
        (u : (node : Who) (other : Leg) → new.was_up node other ≡ g.was_up node other) where
      abbrev take_later : Legs
      take_later = (legs.take_out leg dir count all).0

      abbrev piece : List ℕ
      piece = take count (wires.in_flight dir (wire_at all leg))

      feed_along : IsCarried (carriage new take_later readers leg dir)
      feed_along =
          let from = end_node readers leg (sender dir) in
          let to = end_node readers leg (receiver dir) in
          seen_as dir (sym (d from leg))
          (added (g.fed to leg) piece (new.fed to leg) (is_here to leg to leg)
          (here_itself to leg) (h to leg))
          (sym (u from leg)) (sym (u to leg))
          (sym (wired.take_here all leg (receiver dir) dir count up))
          (seen_taken (g.drawn from leg) (g.fed to leg) (g.was_up from leg) (g.was_up to leg)
          (wire_at all leg) dir count up (each leg dir))

      feed_back : (back : Dir) → sender dir ≡ receiver back → receiver dir ≡ sender back
          → IsCarried (carriage new take_later readers leg back)
      feed_back back e f =
          let from = end_node readers leg (sender back) in
          let to = end_node readers leg (receiver back) in
          let takes = end_node readers leg (receiver dir) in
          let apart : is_same takes to ≡ false =
          ap (λ end. is_same (end_node readers leg end) to) f ∙ ends_apart readers leg back in
          seen_as back (sym (d from leg))
          (none_added (g.fed to leg) piece (new.fed to leg) (is_here takes leg to leg)
          (not_other takes leg to leg apart) (h to leg))
          (sym (u from leg)) (sym (u to leg))
          (sym (wired.take_here all leg (receiver dir) dir count up))
          (subst IsCarried (sym (take_aside dir back count (wire_at all leg) (g.drawn from leg)
          (g.fed to leg) (g.was_up from leg) (g.was_up to leg) e)) (each leg back))

      pub each_fed : Each new take_later readers
      each_fed =
          each_at take_later dir feed_along feed_back
          (λ other at e. same_on take_later other at
          (λ node. sym (d node other))
          (λ node. none_added (g.fed node other) piece (new.fed node other)
          (is_here (end_node readers leg (receiver dir)) leg node other)
          (not_beside (end_node readers leg (receiver dir)) leg node other e) (h node other))
          (λ node. sym (u node other))
          (sym (wired.take_beside all leg dir count other e)))

    -- ---- an end goes up, or down

    module _ (end : Side)
        (d : (node : Who) (other : Leg) → new.drawn node other ≡ g.drawn node other)
        (h : (node : Who) (other : Leg) → new.fed node other ≡ g.fed node other) where
      module _ (first : g.was_up (end_node readers leg end) leg ≡ false)
          (u : (node : Who) (other : Leg) → new.was_up node other
          ≡ (g.was_up node other || is_here (end_node readers leg end) leg node other)) where
        abbrev raise_later : Legs
        raise_later = legs.raise leg end all

        up_put : (dir : Dir) → end ≡ sender dir
            → IsCarried (carriage new raise_later readers leg dir)
        up_put dir e =
            let from = end_node readers leg (sender dir) in
            let to = end_node readers leg (receiver dir) in
            let here = end_node readers leg end in
            let is : is_here here leg from leg ≡ true =
            ap (λ x. is_here (end_node readers leg x) leg from leg) e ∙ here_itself from leg in
            let not : is_here here leg to leg ≡ false =
            not_other here leg to leg
            (ap (λ x. is_same (end_node readers leg x) to) e ∙ ends_apart readers leg dir) in
            seen_as dir (sym (d from leg)) (sym (h to leg))
            (sym (u from leg ∙ or_true (g.was_up from leg) (is_here here leg from leg) is))
            (sym (u to leg ∙ or_false (g.was_up to leg) (is_here here leg to leg) not))
            (sym (wired.raise_here all leg end ∙ ap (λ x. wires.raise x (wire_at all leg)) e))
            (seen_up_put (g.drawn from leg) (g.fed to leg) (g.was_up from leg) (g.was_up to leg)
            (wire_at all leg) dir (sym (ap (λ x. g.was_up (end_node readers leg x) leg) e) ∙ first)
            (each leg dir))

        up_take : (dir : Dir) → end ≡ receiver dir
            → IsCarried (carriage new raise_later readers leg dir)
        up_take dir e =
            let from = end_node readers leg (sender dir) in
            let to = end_node readers leg (receiver dir) in
            let here = end_node readers leg end in
            let is : is_here here leg to leg ≡ true =
            ap (λ x. is_here (end_node readers leg x) leg to leg) e ∙ here_itself to leg in
            let not : is_here here leg from leg ≡ false =
            not_other here leg from leg
            (ap (λ x. is_same (end_node readers leg x) from) e ∙ ends_apart_back readers leg dir) in
            seen_as dir (sym (d from leg)) (sym (h to leg))
            (sym (u from leg ∙ or_false (g.was_up from leg) (is_here here leg from leg) not))
            (sym (u to leg ∙ or_true (g.was_up to leg) (is_here here leg to leg) is))
            (sym (wired.raise_here all leg end ∙ ap (λ x. wires.raise x (wire_at all leg)) e))
            (seen_up_take (g.drawn from leg) (g.fed to leg) (g.was_up from leg) (g.was_up to leg)
            (wire_at all leg) dir (sym (ap (λ x. g.was_up (end_node readers leg x) leg) e) ∙ first)
            (each leg dir))

        pub each_raised : Each new raise_later readers
        each_raised other at =
            ⊎_elim (λ e. subst (λ x. IsCarried (carriage new raise_later readers x at)) e
            (⊎_elim (up_put at) (up_take at) (two_ends end at)))
            (λ e. same_on raise_later other at
            (λ node. sym (d node other)) (λ node. sym (h node other))
            (λ node. sym (u node other ∙ or_false (g.was_up node other)
            (is_here (end_node readers leg end) leg node other)
            (not_beside (end_node readers leg end) leg node other e)))
            (sym (wired.raise_beside all leg end other e))) (cases_leg leg other)

      module _ (up : wires.is_up end (wire_at all leg) ≡ true)
          (u : (node : Who) (other : Leg) → new.was_up node other ≡ g.was_up node other) where
        abbrev lower_later : Legs
        lower_later = legs.lower leg end all

        lower_on : (dir : Dir) → IsCarried (carriage new lower_later readers leg dir)
        lower_on dir =
            let from = end_node readers leg (sender dir) in
            let to = end_node readers leg (receiver dir) in
            seen_as dir (sym (d from leg)) (sym (h to leg)) (sym (u from leg)) (sym (u to leg))
            (sym (wired.lower_here all leg end))
            (seen_down (g.drawn from leg) (g.fed to leg) (g.was_up from leg) (g.was_up to leg)
            (wire_at all leg) end dir up (each leg dir))

        pub each_lowered : Each new lower_later readers
        each_lowered other at =
            ⊎_elim (λ e. subst (λ x. IsCarried (carriage new lower_later readers x at)) e
            (lower_on at))
            (λ e. same_on lower_later other at (λ node. sym (d node other))
            (λ node. sym (h node other)) (λ node. sym (u node other))
            (sym (wired.lower_beside all leg end other e))) (cases_leg leg other)
