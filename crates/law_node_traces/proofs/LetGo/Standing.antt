-- the legs that are up for a node, where ends go up and down, bytes go by and readers are set
use Rattle.rh_text.specs.declared.ends.Side.TheVariants as side
use Rattle.law_order.proofs.Vocabulary.{◌≡◌, ◌⊎◌, ℕ, List, Bool, true, false, if◌then◌else◌, refl, sym, ap, ◌∙◌, inl, inr, ⊎_elim, ◌≢◌, true≢false, false≢true, cases_eq}
use Rattle.rh_record.specs.declared.answer.Who.TheVariants as who
use Rattle.rh_wires.specs.Legs as legs
use Rattle.rh_wires.specs.Wires as wires
use Rattle.law_moves.proofs.Vocabulary.{Dir, U, D, Side, Leg, LegKind, ClientOut, OutServer, ClientIn, InServer, same_leg}
use Rattle.law_node_history.proofs.Vocabulary.{Who, Legs, Wire, reader_of, with_reader, blank, leg_at, node_by, wire_at, end_node}
use Rattle.law_node_history.proofs.Lemmas.{asked, put_here, put_elsewhere, cases_leg, same_itself}
use Rattle.law_node_history.proofs.Wired as wired

-- a node stands at an end of the leg that is up for it
pub record IsUp (all : Legs) (readers : List ℕ) (node : Who) (leg : Leg) : Type 0 where
  pub end : Side
  pub stands : end_node readers leg end ≡ node
  pub up : wires.is_up end (wire_at all leg) ≡ true

-- the two ends of a leg are two nodes
two_nodes : (readers : List ℕ) (leg : Leg) (a b : Side)
    → end_node readers leg a ≡ end_node readers leg b → a ≡ b
two_nodes readers leg a b same = by (reader_of readers leg.number) leg.number leg.kind a b same
  where
    by : (reader n : ℕ) (kind : LegKind) (a b : Side)
        → node_by reader n kind a ≡ node_by reader n kind b → a ≡ b
    by reader n kind side.Client side.Client same = refl
    by reader n kind side.Server side.Server same = refl
    by reader n ClientOut side.Client side.Server same = absurd cc
    by reader n ClientOut side.Server side.Client same = absurd cc
    by reader n OutServer side.Client side.Server same = absurd cc
    by reader n OutServer side.Server side.Client same = absurd cc
    by reader n ClientIn side.Client side.Server same = absurd cc
    by reader n ClientIn side.Server side.Client same = absurd cc
    by reader n InServer side.Client side.Server same = absurd cc
    by reader n InServer side.Server side.Client same = absurd cc

-- ---- one wire

raised_wire : (end other : Side) (wire : Wire) → wires.is_up other (wires.raise end wire) ≡ true
    → (other ≡ end) ⊎ (wires.is_up other wire ≡ true)
raised_wire side.Client side.Client wire up = inl refl
raised_wire side.Client side.Server wire up = inr up
raised_wire side.Server side.Client wire up = inr up
raised_wire side.Server side.Server wire up = inl refl

lowered_wire : (end other : Side) (wire : Wire) → wires.is_up other (wires.lower end wire) ≡ true
    → (other ≢ end) × (wires.is_up other wire ≡ true)
lowered_wire side.Client other wire = by wire.server other
  where
    by : (b : Bool) (other : Side)
        → wires.is_up other (if b then record wire { client = false } else blank) ≡ true
        → (other ≢ side.Client) × (wires.is_up other wire ≡ true)
    by true side.Client up = absurd (false≢true up)
    by true side.Server up = ((λ same. absurd cc), up)
    by false side.Client up = absurd (false≢true up)
    by false side.Server up = absurd (false≢true up)
lowered_wire side.Server other wire = by wire.client other
  where
    by : (b : Bool) (other : Side)
        → wires.is_up other (if b then record wire { server = false } else blank) ≡ true
        → (other ≢ side.Server) × (wires.is_up other wire ≡ true)
    by true side.Client up = ((λ same. absurd cc), up)
    by true side.Server up = absurd (false≢true up)
    by false side.Client up = absurd (false≢true up)
    by false side.Server up = absurd (false≢true up)

put_wire : (dir : Dir) (bytes : List ℕ) (other : Side) (wire : Wire)
    → wires.is_up other (wires.put dir bytes wire) ≡ wires.is_up other wire
put_wire U bytes side.Client wire = refl
put_wire U bytes side.Server wire = refl
put_wire D bytes side.Client wire = refl
put_wire D bytes side.Server wire = refl

taken_wire : (dir : Dir) (count : ℕ) (other : Side) (wire : Wire)
    → wires.is_up other (wires.take_out dir count wire).0 ≡ wires.is_up other wire
taken_wire U count side.Client wire = refl
taken_wire U count side.Server wire = refl
taken_wire D count side.Client wire = refl
taken_wire D count side.Server wire = refl

-- ---- where the wire of one leg changes

module _ (all after : Legs) (leg : Leg) (wire : Wire) (here : wire_at after leg ≡ wire)
    (beside : (other : Leg) → same_leg leg other ≡ false → wire_at after other ≡ wire_at all other)
  where
    was_up : (other : Leg) (end : Side) → wires.is_up end (wire_at after other) ≡ true
        → ((leg ≡ other) × (wires.is_up end wire ≡ true))
        ⊎ ((leg ≢ other) × (wires.is_up end (wire_at all other) ≡ true))
    was_up other end up =
        ⊎_elim
        (λ same. inl (
          same,
          ap (wires.is_up end) (sym here)
              ∙ ap (λ x. wires.is_up end (wire_at after x)) same ∙ up,
        ))
        (λ apart. inr (
          (λ same. true≢false (sym (same_itself leg) ∙ ap (same_leg leg) same ∙ apart)),
          ap (wires.is_up end) (sym (beside other apart)) ∙ up,
        ))
        (cases_leg leg other)

module _ (all : Legs) (readers : List ℕ) (node : Who) (leg : Leg) where
  -- an end goes up
  pub raised : (end : Side) (other : Leg) → IsUp (legs.raise leg end all) readers node other
      → ((other ≡ leg) × (end_node readers leg end ≡ node)) ⊎ IsUp all readers node other
  raised end other is =
      ⊎_elim
      (λ here. ⊎_elim
      (λ same. inl (
        sym here.0,
        ap (end_node readers leg) (sym same)
            ∙ ap (λ x. end_node readers x is.end) here.0 ∙ is.stands,
      ))
      (λ up. inr (still is.end is.stands
      (ap (λ x. wires.is_up is.end (wire_at all x)) (sym here.0) ∙ up)))
      (raised_wire end is.end (wire_at all leg) here.1))
      (λ beside. inr (still is.end is.stands beside.1))
      (was_up all (legs.raise leg end all) leg (wires.raise end (wire_at all leg))
      (wired.raise_here all leg end) (wired.raise_beside all leg end) other is.end is.up)
    where
      still : (at : Side) → end_node readers other at ≡ node
          → wires.is_up at (wire_at all other) ≡ true → IsUp all readers node other
      still at stands up = record { end = at; stands = stands; up = up }

  -- or down
  pub lowered : (end : Side) (other : Leg) → IsUp (legs.lower leg end all) readers node other
      → IsUp all readers node other × (end_node readers leg end ≡ node → other ≢ leg)
  lowered end other is =
      ⊎_elim
      (λ here.
      let low = lowered_wire end is.end (wire_at all leg) here.1 in (
        record {
          end = is.end;
          stands = is.stands;
          up = ap (λ x. wires.is_up is.end (wire_at all x)) (sym here.0) ∙ low.1;
        },
        λ stands same. low.0 (two_nodes readers leg is.end end
            (ap (λ x. end_node readers x is.end) here.0 ∙ is.stands ∙ sym stands)),
      ))
      (λ beside. (
        record { end = is.end; stands = is.stands; up = beside.1 },
        λ stands same. beside.0 (sym same),
      ))
      (was_up all (legs.lower leg end all) leg (wires.lower end (wire_at all leg))
      (wired.lower_here all leg end) (wired.lower_beside all leg end) other is.end is.up)

  -- where its wire is up for the same ends
  same_up : (after : Legs) (wire : Wire) → wire_at after leg ≡ wire
      → ((other : Leg) → same_leg leg other ≡ false → wire_at after other ≡ wire_at all other)
      → ((end : Side) → wires.is_up end wire ≡ wires.is_up end (wire_at all leg))
      → (other : Leg) → IsUp after readers node other → IsUp all readers node other
  same_up after wire here beside same other is = record {
    end = is.end;
    stands = is.stands;
    up = ⊎_elim
        (λ its. ap (λ x. wires.is_up is.end (wire_at all x)) (sym its.0)
        ∙ sym (same is.end) ∙ its.1)
        (λ apart. apart.1)
        (was_up all after leg wire here beside other is.end is.up);
  }

  -- bytes are put, or taken
  pub put_is_up : (end : Side) (dir : Dir) (bytes : List ℕ)
      → wires.is_up end (wire_at all leg) ≡ true → (other : Leg)
      → IsUp (legs.put leg dir bytes all) readers node other → IsUp all readers node other
  put_is_up end dir bytes up =
      same_up (legs.put leg dir bytes all) (wires.put dir bytes (wire_at all leg))
      (wired.put_here all leg end dir bytes up) (wired.put_beside all leg dir bytes)
      (λ at. put_wire dir bytes at (wire_at all leg))

  pub taken_is_up : (end : Side) (dir : Dir) (count : ℕ)
      → wires.is_up end (wire_at all leg) ≡ true → (other : Leg)
      → IsUp (legs.take_out leg dir count all).0 readers node other → IsUp all readers node other
  taken_is_up end dir count up =
      same_up (legs.take_out leg dir count all).0 (wires.take_out dir count (wire_at all leg)).0
      (wired.take_here all leg end dir count up) (wired.take_beside all leg dir count)
      (λ at. taken_wire dir count at (wire_at all leg))

-- ---- a channel that no in proxy read gets its reader

pub reader_here : (readers : List ℕ) (k b : ℕ) → reader_of (with_reader readers k b) k ≡ b
reader_here readers k b =
    asked 0 (λ n. n) (with_reader readers k b) k ∙ put_here 0 readers k b

pub reader_elsewhere : (readers : List ℕ) (k b n : ℕ) → n ≢ k
    → reader_of (with_reader readers k b) n ≡ reader_of readers n
reader_elsewhere readers k b n other =
    asked 0 (λ n. n) (with_reader readers k b) n ∙ put_elsewhere 0 readers k n b other
    ∙ sym (asked 0 (λ n. n) readers n)

module _ (all : Legs) (readers : List ℕ) (k b : ℕ)
    (low : wires.is_up side.Server (wire_at all (leg_at ClientIn k)) ≡ false) where
  -- where a leg is up stand the same nodes
  same_node : (leg : Leg) (end : Side) → wires.is_up end (wire_at all leg) ≡ true
      → end_node (with_reader readers k b) leg end ≡ end_node readers leg end
  same_node leg end up = by leg.kind leg.number end up
    where
      by : (kind : LegKind) (n : ℕ) (end : Side)
          → wires.is_up end (wire_at all (leg_at kind n)) ≡ true
          → end_node (with_reader readers k b) (leg_at kind n) end
          ≡ end_node readers (leg_at kind n) end
      by ClientIn n side.Server up =
          ⊎_elim
          (λ same. absurd (true≢false (sym up
          ∙ ap (λ i. wires.is_up side.Server (wire_at all (leg_at ClientIn i))) same ∙ low)))
          (λ other. ap who.In (reader_elsewhere readers k b n other)) (cases_eq n k)
      by kind n end up = refl

  pub read_is_up : (node : Who) (leg : Leg) → IsUp all (with_reader readers k b) node leg
      → IsUp all readers node leg
  read_is_up node leg is = record {
    end = is.end;
    stands = sym (same_node leg is.end is.up) ∙ is.stands;
    up = is.up;
  }

-- ---- at first

pub none_is_up : (readers : List ℕ) (node : Who) (leg : Leg) → IsUp legs.none readers node leg
    → ⊥
none_is_up readers node leg is = by leg.kind is.end is.up
  where
    by : (kind : LegKind) (end : Side)
        → wires.is_up end (wire_at legs.none (leg_at kind leg.number)) ≡ true → ⊥
    by ClientOut side.Client up = false≢true up
    by ClientOut side.Server up = false≢true up
    by OutServer side.Client up = false≢true up
    by OutServer side.Server up = false≢true up
    by ClientIn side.Client up = false≢true up
    by ClientIn side.Server up = false≢true up
    by InServer side.Client up = false≢true up
    by InServer side.Server up = false≢true up
