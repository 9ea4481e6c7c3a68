-- whatever happens, legs are carried by nodes that had them up
use Rattle.rh_text.specs.declared.ends.Side.TheVariants as side
use Rattle.law_order.proofs.Vocabulary.{◌≡◌, ℕ, List, ◌++◌, Bool, true, false, ◌||◌, take, refl, sym, ap, ◌∙◌, subst, ⊎_elim, ◌≢◌, true≢false, cases_eq, cases_Bool, or_cases, and_parts, eq-eqb}
use Rattle.rh_record.specs.declared.answer.Who.TheVariants as who
use Rattle.rh_wires.specs.Legs as legs
use Rattle.rh_wires.specs.Wires as wires
use Rattle.law_moves.proofs.Vocabulary.{Dir, Side, neither, Leg, LegKind, ClientOut, OutServer, ClientIn, InServer, same_leg}
use Rattle.law_node_history.proofs.Vocabulary.{Who, Legs, reader_of, with_reader, sender, receiver, is_same, leg_at, IsCarried, Ledger, AreCarried, carriage, wire_at, end_node}
use Rattle.law_node_history.proofs.Lines.{same_who}
use Rattle.law_node_history.proofs.Numbers.{asked, put_elsewhere}
use Rattle.law_node_history.proofs.Seen.{seen_as}
use Rattle.law_node_history.proofs.Wired.{cases_leg}
use Rattle.law_node_history.proofs.Ledgers.{Each, is_here, bytes_here, here_itself, not_other, none_added, or_false, or_true, same_on, each_drawn, each_fed, each_raised, each_lowered}
use Rattle.law_node_history.proofs.Connecting.{or_left as or_first}

-- ---- tests

pub not_both : {A : Type 0} (b : Bool) → b ≡ true → b ≡ false → A
not_both b e f = absurd (true≢false (sym e ∙ f))

-- the node and the leg at which something is
here_is : (node : Who) (leg : Leg) (other : Who) (beside : Leg)
    → is_here node leg other beside ≡ true → (node ≡ other) × (leg ≡ beside)
here_is node leg other beside e =
    let parts = and_parts (same_leg leg beside) (is_same node other) e in (
      same_who node other parts.1,
      ⊎_elim (λ same. same) (λ apart. not_both (same_leg leg beside) parts.0 apart)
          (cases_leg leg beside),
    )

number_in : Who → ℕ
number_in who.Client = 0
number_in who.Server = 0
number_in (who.In n) = n
number_in (who.Out n) = n

-- the in proxy at an end of an IN leg of the client
in_reads : (readers : List ℕ) (n j : ℕ) (end : Side)
    → end_node readers (leg_at ClientIn n) end ≡ who.In j → reader_of readers n ≡ j
unfolding number_in
in_reads readers n j side.Client e = absurd cc
in_reads readers n j side.Server e = ap number_in e

-- so an IN leg of the client was up for the in proxy that reads it
read_by : (g : Ledger) (all : Legs) (readers : List ℕ) → AreCarried g all readers → (j n : ℕ)
    → g.was_up (who.In j) (leg_at ClientIn n) ≡ true → reader_of readers n ≡ j
read_by g all readers k j n e =
    let at = k.stands (who.In j) (leg_at ClientIn n) e in in_reads readers n j at.0 at.1

module _ (g new : Ledger) (all : Legs) (readers : List ℕ) (k : AreCarried g all readers) where
  -- ---- nothing happens to the legs

  pub kept_quiet : ((node : Who) (leg : Leg) → new.drawn node leg ≡ g.drawn node leg)
      → ((node : Who) (leg : Leg) → new.fed node leg ≡ g.fed node leg)
      → ((node : Who) (leg : Leg) → new.was_up node leg ≡ g.was_up node leg)
      → AreCarried new all readers
  kept_quiet d h u = record {
    each = λ leg dir. same_on g new all readers k.each all leg dir (λ node. sym (d node leg))
        (λ node. sym (h node leg)) (λ node. sym (u node leg)) refl;
    idle = λ node leg e.
        let old = k.idle node leg (sym (u node leg) ∙ e) in
        (d node leg ∙ old.0, h node leg ∙ old.1);
    stands = λ node leg e. k.stands node leg (sym (u node leg) ∙ e);
    first = λ n e. u who.Client (leg_at ClientIn n) ∙ k.first n e;
    none = λ leg. u (who.In 0) leg ∙ k.none leg;
  }

  -- ---- bytes are carried

  -- no bytes at a node that never had the leg up
  none_here : (here : Who) (leg : Leg) → g.was_up here leg ≡ true → (node : Who) (other : Leg)
      → g.was_up node other ≡ false → is_here here leg node other ≡ false
  none_here here leg up node other e =
      ⊎_elim (λ t. let is = here_is here leg node other t in
      not_both (g.was_up node other)
      (subst (λ (x : Who). g.was_up x other ≡ true) is.0
      (subst (λ (x : Leg). g.was_up here x ≡ true) is.1 up)) e) (λ f. f)
      (cases_Bool (is_here here leg node other))

  module _ (leg : Leg) (dir : Dir)
      (u : (node : Who) (other : Leg) → new.was_up node other ≡ g.was_up node other) where
    pub kept_drawn : (bytes : List ℕ) → wires.is_up (sender dir) (wire_at all leg) ≡ true
        → ((node : Who) (other : Leg) → new.drawn node other ≡ g.drawn node other
        ++ bytes_here (end_node readers leg (sender dir)) leg bytes node other)
        → ((node : Who) (other : Leg) → new.fed node other ≡ g.fed node other)
        → AreCarried new (legs.put leg dir bytes all) readers
    kept_drawn bytes up d h =
        let here = end_node readers leg (sender dir) in
        record {
          each = each_drawn g new all readers k.each leg dir bytes up d h u;
          idle = λ node other e.
              let was = sym (u node other) ∙ e in
              let old = k.idle node other was in (
                sym (none_added (g.drawn node other) bytes (new.drawn node other)
                    (is_here here leg node other)
                    (none_here here leg ((k.each leg dir).put_up up) node other was)
                    (d node other)) ∙ old.0,
                h node other ∙ old.1,
              );
          stands = λ node leg e. k.stands node leg (sym (u node leg) ∙ e);
          first = λ n e. u who.Client (leg_at ClientIn n) ∙ k.first n e;
          none = λ other. u (who.In 0) other ∙ k.none other;
        }

    pub kept_fed : (count : ℕ) → wires.is_up (receiver dir) (wire_at all leg) ≡ true
        → ((node : Who) (other : Leg) → new.drawn node other ≡ g.drawn node other)
        → ((node : Who) (other : Leg) → new.fed node other ≡ g.fed node other
        ++ bytes_here (end_node readers leg (receiver dir)) leg
        (take count (wires.in_flight dir (wire_at all leg))) node other)
        → AreCarried new (legs.take_out leg dir count all).0 readers
    kept_fed count up d h =
        let here = end_node readers leg (receiver dir) in
        let piece = take count (wires.in_flight dir (wire_at all leg)) in
        record {
          each = each_fed g new all readers k.each leg dir count up d h u;
          idle = λ node other e.
              let was = sym (u node other) ∙ e in
              let old = k.idle node other was in (
                d node other ∙ old.0,
                sym (none_added (g.fed node other) piece (new.fed node other)
                    (is_here here leg node other)
                    (none_here here leg ((k.each leg dir).take_up up) node other was)
                    (h node other)) ∙ old.1,
              );
          stands = λ node leg e. k.stands node leg (sym (u node leg) ∙ e);
          first = λ n e. u who.Client (leg_at ClientIn n) ∙ k.first n e;
          none = λ other. u (who.In 0) other ∙ k.none other;
        }

  -- ---- an end goes up, or down

  module _ (d : (node : Who) (other : Leg) → new.drawn node other ≡ g.drawn node other)
      (h : (node : Who) (other : Leg) → new.fed node other ≡ g.fed node other) where
    pub kept_raised : (leg : Leg) (end : Side) → g.was_up (end_node readers leg end) leg ≡ false
        → is_same (end_node readers leg end) (who.In 0) ≡ false
        → ((node : Who) (other : Leg) → new.was_up node other
        ≡ (g.was_up node other || is_here (end_node readers leg end) leg node other))
        → AreCarried new (legs.raise leg end all) readers
    kept_raised leg end first zero u = record {
      each = each_raised g new all readers k.each leg end d h first u;
      idle = λ node other e.
          let was = neither (g.was_up node other)
          (is_here (end_node readers leg end) leg node other) (sym (u node other) ∙ e) in
          let old = k.idle node other was.0 in (d node other ∙ old.0, h node other ∙ old.1);
      stands = λ node other e.
          ⊎_elim (λ was. k.stands node other was)
          (λ now. let is = here_is (end_node readers leg end) leg node other now in
          (end, ap (λ x. end_node readers x end) (sym is.1) ∙ is.0))
          (or_cases (g.was_up node other) (is_here (end_node readers leg end) leg node other)
          (sym (u node other) ∙ e));
      first = λ n e.
          u who.Client (leg_at ClientIn n)
          ∙ or_first (g.was_up who.Client (leg_at ClientIn n))
          (is_here (end_node readers leg end) leg who.Client (leg_at ClientIn n)) (k.first n e);
      none = λ other.
          u (who.In 0) other
          ∙ or_false (g.was_up (who.In 0) other)
          (is_here (end_node readers leg end) leg (who.In 0) other)
          (not_other (end_node readers leg end) leg (who.In 0) other zero) ∙ k.none other;
    }

    pub kept_lowered : (leg : Leg) (end : Side) → wires.is_up end (wire_at all leg) ≡ true
        → ((node : Who) (other : Leg) → new.was_up node other ≡ g.was_up node other)
        → AreCarried new (legs.lower leg end all) readers
    kept_lowered leg end up u = record {
      each = each_lowered g new all readers k.each leg end d h up u;
      idle = λ node other e.
          let old = k.idle node other (sym (u node other) ∙ e) in
          (d node other ∙ old.0, h node other ∙ old.1);
      stands = λ node leg e. k.stands node leg (sym (u node leg) ∙ e);
      first = λ n e. u who.Client (leg_at ClientIn n) ∙ k.first n e;
      none = λ other. u (who.In 0) other ∙ k.none other;
    }

    -- ---- an IN leg of the client gets its reader

    module _ (n j : ℕ) (never : g.was_up who.Client (leg_at ClientIn n) ≡ false)
        (u : (node : Who) (other : Leg) → new.was_up node other
        ≡ (g.was_up node other || is_here who.Client (leg_at ClientIn n) node other)) where
      abbrev in_leg : Leg
      in_leg = leg_at ClientIn n

      abbrev later : List ℕ
      later = with_reader readers n j

      no_reader : reader_of readers n ≡ 0
      no_reader =
          ⊎_elim (λ e. e) (λ e. not_both (g.was_up who.Client in_leg) (k.first n e) never)
          (cases_eq (reader_of readers n) 0)

      -- no in proxy had the leg up
      none_up : (i : ℕ) → g.was_up (who.In i) in_leg ≡ false
      none_up i =
          ⊎_elim (λ t. not_both (g.was_up (who.In i) in_leg) t
          (ap (λ x. g.was_up (who.In x) in_leg)
          (sym (read_by g all readers k i n t) ∙ no_reader)
          ∙ k.none in_leg)) (λ f. f) (cases_Bool (g.was_up (who.In i) in_leg))

      reader_apart : (i : ℕ) → i ≢ n → reader_of later i ≡ reader_of readers i
      reader_apart i e =
          asked 0 (λ x. x) later i ∙ put_elsewhere 0 readers n i j e
          ∙ sym (asked 0 (λ x. x) readers i)

      -- the nodes of other legs stay
      node_apart : (leg : Leg) (end : Side) → same_leg in_leg leg ≡ false
          → end_node later leg end ≡ end_node readers leg end
      node_apart leg end = by leg.kind leg.number end
        where
          by : (kind : LegKind) (i : ℕ) (end : Side) → same_leg in_leg (leg_at kind i) ≡ false
              → end_node later (leg_at kind i) end ≡ end_node readers (leg_at kind i) end
          by ClientOut i side.Client e = refl
          by ClientOut i side.Server e = refl
          by OutServer i side.Client e = refl
          by OutServer i side.Server e = refl
          by ClientIn i side.Client e = refl
          by ClientIn i side.Server e =
              ap who.In (reader_apart i (λ same.
              not_both (same_leg in_leg (leg_at ClientIn i)) (eq-eqb n i (sym same)) e))
          by InServer i side.Client e = refl
          by InServer i side.Server e = refl

      -- and those of this leg did nothing there
      did_same : (end : Side)
          → (g.drawn (end_node readers in_leg end) in_leg
          ≡ g.drawn (end_node later in_leg end) in_leg)
          × (g.fed (end_node readers in_leg end) in_leg
          ≡ g.fed (end_node later in_leg end) in_leg)
          × (g.was_up (end_node readers in_leg end) in_leg
          ≡ g.was_up (end_node later in_leg end) in_leg)
      did_same side.Client = (refl, refl, refl)
      did_same side.Server =
          let a = none_up (reader_of readers n) in
          let b = none_up (reader_of later n) in
          let old = k.idle (who.In (reader_of readers n)) in_leg a in
          let now = k.idle (who.In (reader_of later n)) in_leg b in
          (old.0 ∙ sym now.0, old.1 ∙ sym now.1, a ∙ sym b)

      seen_later : (leg : Leg) (dir : Dir)
          → g.drawn (end_node readers leg (sender dir)) leg
          ≡ g.drawn (end_node later leg (sender dir)) leg
          → g.fed (end_node readers leg (receiver dir)) leg
          ≡ g.fed (end_node later leg (receiver dir)) leg
          → ((end : Side) → g.was_up (end_node readers leg end) leg
          ≡ g.was_up (end_node later leg end) leg)
          → IsCarried (carriage g all later leg dir)
      seen_later leg dir drawn fed up =
          seen_as dir drawn fed (up (sender dir)) (up (receiver dir)) refl (k.each leg dir)

      each_later : Each g all later
      each_later leg dir =
          ⊎_elim (λ e. subst (λ (x : Leg). IsCarried (carriage g all later x dir)) e
          (seen_later in_leg dir (did_same (sender dir)).0 (did_same (receiver dir)).1
          (λ end. (did_same end).2)))
          (λ e. seen_later leg dir
          (ap (λ x. g.drawn x leg) (sym (node_apart leg (sender dir) e)))
          (ap (λ x. g.fed x leg) (sym (node_apart leg (receiver dir) e)))
          (λ end. ap (λ x. g.was_up x leg) (sym (node_apart leg end e)))) (cases_leg in_leg leg)

      stood_here : (node : Who) (end : Side) → g.was_up node in_leg ≡ true
          → end_node readers in_leg end ≡ node → end_node later in_leg end ≡ node
      stood_here node side.Client was e = e
      stood_here node side.Server was e =
          not_both (g.was_up node in_leg) was
          (ap (λ x. g.was_up x in_leg) (sym e) ∙ none_up (reader_of readers n))

      stood : (node : Who) (leg : Leg) → g.was_up node leg ≡ true
          → (end : Side) × (end_node readers leg end ≡ node)
          → (end : Side) × (end_node later leg end ≡ node)
      stood node leg was at =
          ⊎_elim (λ same. (
            at.0,
            ap (λ x. end_node later x at.0) (sym same)
                ∙ stood_here node at.0 (ap (g.was_up node) same ∙ was)
                (ap (λ x. end_node readers x at.0) same ∙ at.1),
          ))
          (λ apart. (at.0, node_apart leg at.0 apart ∙ at.1)) (cases_leg in_leg leg)

      pub kept_opened : AreCarried new (legs.raise in_leg side.Client all) later
      kept_opened = record {
        each = each_raised g new all later each_later in_leg side.Client d h never u;
        idle = λ node other e.
            let was = neither (g.was_up node other) (is_here who.Client in_leg node other)
            (sym (u node other) ∙ e) in
            let old = k.idle node other was.0 in (d node other ∙ old.0, h node other ∙ old.1);
        stands = λ node other e.
            ⊎_elim (λ was. stood node other was (k.stands node other was))
            (λ now. let is = here_is who.Client in_leg node other now in
            (side.Client, ap (λ x. end_node later x side.Client) (sym is.1) ∙ is.0))
            (or_cases (g.was_up node other) (is_here who.Client in_leg node other)
            (sym (u node other) ∙ e));
        first = λ m e.
            ⊎_elim
            (λ same. ap (λ x. new.was_up who.Client (leg_at ClientIn x)) same
            ∙ u who.Client in_leg
            ∙ or_true (g.was_up who.Client in_leg) (is_here who.Client in_leg who.Client in_leg)
            (here_itself who.Client in_leg))
            (λ other. u who.Client (leg_at ClientIn m)
            ∙ or_first (g.was_up who.Client (leg_at ClientIn m))
            (is_here who.Client in_leg who.Client (leg_at ClientIn m))
            (k.first m (λ z. e (reader_apart m other ∙ z)))) (cases_eq m n);
        none = λ other.
            u (who.In 0) other
            ∙ or_false (g.was_up (who.In 0) other) (is_here who.Client in_leg (who.In 0) other)
            (not_other who.Client in_leg (who.In 0) other refl) ∙ k.none other;
      }
