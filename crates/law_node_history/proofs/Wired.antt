-- the wire of each leg, where that of one leg changes
use Rattle.rh_text.specs.declared.ends.Side.TheVariants as side
use Rattle.law_order.proofs.Vocabulary.{◌≡◌, ℕ, ◌+◌, ◌<◌, List, [], length, arith, Bool, true, false, ◌&&◌, get_or, refl, sym, ap, ◌∙◌, ◌⊎◌, inl, inr, ◌≢◌, ◌==◌, cases_eq, eq-eqb, ne_eqb, eqb-false}
use Rattle.rh_wires.specs.Legs.{with_kind}
use Rattle.rh_wires.specs.Legs as legs
use Rattle.rh_wires.specs.Wires as wires
use Rattle.law_moves.proofs.Vocabulary.{Dir, Side, Leg, LegKind, ClientOut, OutServer, ClientIn, InServer, same_leg}
use Rattle.law_node_history.proofs.Vocabulary.{Legs, Wire, change, act, grown, blank, leg_at, wire_at}
use Rattle.law_node_history.proofs.Numbers.{asked, within, changed_within, acted_within, answered_within, acts_elsewhere, changed_here, changes_elsewhere, grown_at, grown_length}

-- ---- legs that are the same, or not

pub same_itself : (leg : Leg) → same_leg leg leg ≡ true
same_itself leg = by leg.kind leg.number
  where
    by : (kind : LegKind) (n : ℕ) → same_leg (leg_at kind n) (leg_at kind n) ≡ true
    by ClientOut n = eq-eqb n n refl
    by OutServer n = eq-eqb n n refl
    by ClientIn n = eq-eqb n n refl
    by InServer n = eq-eqb n n refl

number_cases : (kind : LegKind) (a b : ℕ)
    → ((c : ℕ) → same_leg (leg_at kind a) (leg_at kind c) ≡ (a == c))
    → (leg_at kind a ≡ leg_at kind b) ⊎ (same_leg (leg_at kind a) (leg_at kind b) ≡ false)
number_cases kind a b is = by (cases_eq a b)
  where
    by : (a ≡ b) ⊎ (a ≡ b → ⊥)
        → (leg_at kind a ≡ leg_at kind b) ⊎ (same_leg (leg_at kind a) (leg_at kind b) ≡ false)
    by (inl e) = inl (ap (leg_at kind) e)
    by (inr e) = inr (is b ∙ ne_eqb a b e)

pub cases_leg : (a b : Leg) → (a ≡ b) ⊎ (same_leg a b ≡ false)
cases_leg a b = by a.kind a.number b.kind b.number
  where
    by : (j : LegKind) (n : ℕ) (k : LegKind) (i : ℕ)
        → (leg_at j n ≡ leg_at k i) ⊎ (same_leg (leg_at j n) (leg_at k i) ≡ false)
    by ClientOut n ClientOut i = number_cases ClientOut n i (λ c. refl)
    by OutServer n OutServer i = number_cases OutServer n i (λ c. refl)
    by ClientIn n ClientIn i = number_cases ClientIn n i (λ c. refl)
    by InServer n InServer i = number_cases InServer n i (λ c. refl)
    by j n k i = inr refl

-- ---- the wires of other legs stay

module _ (kind : LegKind) (number : ℕ) (all : Legs) (list : List Wire) where
  with_here : (n : ℕ) → wire_at (with_kind kind list all) (leg_at kind n) ≡ get_or list n blank
  with_here n = by kind
    where
      by : (k : LegKind) → wire_at (with_kind k list all) (leg_at k n) ≡ get_or list n blank
      by ClientOut = refl
      by OutServer = refl
      by ClientIn = refl
      by InServer = refl

  with_beside : ((n : ℕ) → n ≢ number
      → get_or list n blank ≡ get_or (legs.of kind all) n blank)
      → (leg : Leg) → same_leg (leg_at kind number) leg ≡ false
      → wire_at (with_kind kind list all) leg ≡ wire_at all leg
  with_beside other leg = by kind leg.kind leg.number other
    where
      at_number : (a b : Bool) → a ≡ true → (a && b) ≡ false → b ≡ false
      at_number true b e f = f
      at_number false b e f = absurd cc

      apart : (n : ℕ) → (number == n) ≡ false → n ≢ number
      apart n e f = eqb-false number n e (sym f)

      by : (j k : LegKind) (n : ℕ) → ((i : ℕ) → i ≢ number
          → get_or list i blank ≡ get_or (legs.of j all) i blank)
          → same_leg (leg_at j number) (leg_at k n) ≡ false
          → wire_at (with_kind j list all) (leg_at k n) ≡ wire_at all (leg_at k n)
      by ClientOut ClientOut n o e = o n (apart n e)
      by OutServer OutServer n o e = o n (apart n e)
      by ClientIn ClientIn n o e = o n (apart n e)
      by InServer InServer n o e = o n (apart n e)
      by ClientOut OutServer n o e = refl
      by ClientOut ClientIn n o e = refl
      by ClientOut InServer n o e = refl
      by OutServer ClientOut n o e = refl
      by OutServer ClientIn n o e = refl
      by OutServer InServer n o e = refl
      by ClientIn ClientOut n o e = refl
      by ClientIn OutServer n o e = refl
      by ClientIn InServer n o e = refl
      by InServer ClientOut n o e = refl
      by InServer OutServer n o e = refl
      by InServer ClientIn n o e = refl

module _ (all : Legs) (leg : Leg) where
  -- ---- whether a leg is up

  pub is_up_at : (end : Side) → legs.is_up leg end all ≡ wires.is_up end (wire_at all leg)
  is_up_at side.Client = asked blank (wires.is_up side.Client) (legs.of leg.kind all) leg.number
  is_up_at side.Server = asked blank (wires.is_up side.Server) (legs.of leg.kind all) leg.number

  -- ---- one leg's wire changes

  -- a leg that is up is there
  up_within : (end : Side) → wires.is_up end (wire_at all leg) ≡ true
      → leg.number < length (legs.of leg.kind all)
  up_within side.Client up =
      within blank (wires.is_up side.Client) (legs.of leg.kind all) leg.number up refl
  up_within side.Server up =
      within blank (wires.is_up side.Server) (legs.of leg.kind all) leg.number up refl

  pub put_here : (end : Side) (dir : Dir) (bytes : List ℕ)
      → wires.is_up end (wire_at all leg) ≡ true
      → wire_at (legs.put leg dir bytes all) leg ≡ wires.put dir bytes (wire_at all leg)
  put_here end dir bytes up =
      with_here leg.kind leg.number all
      (change (wires.put dir bytes) (legs.of leg.kind all) leg.number) leg.number
      ∙ changed_within blank (legs.of leg.kind all) leg.number (up_within end up)
      (wires.put dir bytes)

  pub take_here : (end : Side) (dir : Dir) (count : ℕ)
      → wires.is_up end (wire_at all leg) ≡ true
      → wire_at (legs.take_out leg dir count all).0 leg
      ≡ (wires.take_out dir count (wire_at all leg)).0
  take_here end dir count up =
      with_here leg.kind leg.number all
      (act (wires.take_out dir count) [] (legs.of leg.kind all) leg.number).0 leg.number
      ∙ acted_within blank (legs.of leg.kind all) leg.number (up_within end up)
      (wires.take_out dir count) []

  pub taken_here : (end : Side) (dir : Dir) (count : ℕ)
      → wires.is_up end (wire_at all leg) ≡ true
      → (legs.take_out leg dir count all).1 ≡ (wires.take_out dir count (wire_at all leg)).1
  taken_here end dir count up =
      answered_within blank (legs.of leg.kind all) leg.number (up_within end up)
      (wires.take_out dir count) []

  pub take_beside : (dir : Dir) (count : ℕ) (other : Leg) → same_leg leg other ≡ false
      → wire_at (legs.take_out leg dir count all).0 other ≡ wire_at all other
  take_beside dir count other =
      with_beside leg.kind leg.number all
      (act (wires.take_out dir count) [] (legs.of leg.kind all) leg.number).0
      (λ n e. acts_elsewhere blank (wires.take_out dir count) [] (legs.of leg.kind all) leg.number
      n e) other

  pub raise_here : (end : Side)
      → wire_at (legs.raise leg end all) leg ≡ wires.raise end (wire_at all leg)
  raise_here end =
      let list = legs.of leg.kind all in
      let long = grown (leg.number + 1) blank list in
      let l = grown_length blank (leg.number + 1) list in
      with_here leg.kind leg.number all (change (wires.raise end) long leg.number) leg.number
      ∙ changed_within blank long leg.number (omega (arith, l)) (wires.raise end)
      ∙ ap (wires.raise end) (grown_at blank (leg.number + 1) list leg.number)

  pub raise_beside : (end : Side) (other : Leg) → same_leg leg other ≡ false
      → wire_at (legs.raise leg end all) other ≡ wire_at all other
  raise_beside end other =
      let list = legs.of leg.kind all in
      let long = grown (leg.number + 1) blank list in
      with_beside leg.kind leg.number all (change (wires.raise end) long leg.number)
      (λ n e. changes_elsewhere blank (wires.raise end) long leg.number n e
      ∙ grown_at blank (leg.number + 1) list n) other

  module _ (f : Wire → Wire) (idle : f blank ≡ blank) where
    changed_wire : wire_at (with_kind leg.kind (change f (legs.of leg.kind all) leg.number) all) leg
        ≡ f (wire_at all leg)
    changed_wire =
        with_here leg.kind leg.number all (change f (legs.of leg.kind all) leg.number) leg.number
        ∙ changed_here blank f idle (legs.of leg.kind all) leg.number

  changed_beside : (f : Wire → Wire) (other : Leg) → same_leg leg other ≡ false
      → wire_at (with_kind leg.kind (change f (legs.of leg.kind all) leg.number) all) other
      ≡ wire_at all other
  changed_beside f other =
      with_beside leg.kind leg.number all (change f (legs.of leg.kind all) leg.number)
      (λ n e. changes_elsewhere blank f (legs.of leg.kind all) leg.number n e) other

  pub put_beside : (dir : Dir) (bytes : List ℕ) (other : Leg) → same_leg leg other ≡ false
      → wire_at (legs.put leg dir bytes all) other ≡ wire_at all other
  put_beside dir bytes = changed_beside (wires.put dir bytes)

  pub lower_here : (end : Side) → wire_at (legs.lower leg end all) leg
      ≡ wires.lower end (wire_at all leg)
  lower_here side.Client = changed_wire (wires.lower side.Client) refl
  lower_here side.Server = changed_wire (wires.lower side.Server) refl

  pub lower_beside : (end : Side) (other : Leg) → same_leg leg other ≡ false
      → wire_at (legs.lower leg end all) other ≡ wire_at all other
  lower_beside end = changed_beside (wires.lower end)
