-- nothing is in flight on a leg that is down for both of its ends
use Rattle.law_order.proofs.Vocabulary.{◌≡◌, ℕ, List, [], ◌∷◌, ◌++◌, drop, true, false, true≢false, refl, sym, ◌∙◌, subst, ⊎_elim}
use Rattle.rh_wires.specs.Legs as legs
use Rattle.rh_wires.specs.Wires as wires
use Rattle.rh_company.specs.Company as company
use Rattle.law_moves.proofs.Vocabulary.{Dir, U, D, Side, Client, Server, by_test, Leg, LegKind, ClientOut, OutServer, ClientIn, InServer, same_leg}
use Rattle.law_node_history.proofs.Vocabulary.{Legs, Wire, Rulebook, Deeds, Makers, World, at, blank, in_flight, leg_at, receiver, sender, wire_at, AreAllowed, Change, IsTold, IsFed, IsDrawn, GoesUp, RaisesAlone, GoesDown, OpensIn, OpensOut, OpensSame, Gives, Takes, Closes, RecyclesIn, RecyclesOut, MovesTo, Draws, Reports, MayChange, all_changed, changed}
use Rattle.law_node_history.proofs.Lemmas.{cases_leg, is_up_at, lower_beside, lower_here, put_beside, raise_beside, raise_here, take_beside, take_here}
use Rattle.law_node_history.proofs.Wired.{put_here}

-- ---- one wire

abbrev IsLowClear : Wire → Type 0
IsLowClear wire =
    (dir : Dir) → wire.client ≡ false → wire.server ≡ false → in_flight dir wire ≡ []

-- one that is up for an end
up_clear : (end : Side) (wire : Wire) → wires.is_up end wire ≡ true → IsLowClear wire
up_clear Client wire up dir client server = absurd (true≢false (sym up ∙ client))
up_clear Server wire up dir client server = absurd (true≢false (sym up ∙ server))

up_in_flight : (end : Side) (dir : Dir) (bytes : List ℕ) (wire : Wire)
    → wires.is_up end (wires.with_flight dir bytes wire) ≡ wires.is_up end wire
up_in_flight Client U bytes wire = refl
up_in_flight Client D bytes wire = refl
up_in_flight Server U bytes wire = refl
up_in_flight Server D bytes wire = refl

raised_up : (end : Side) (wire : Wire) → wires.is_up end (wires.raise end wire) ≡ true
raised_up Client wire = refl
raised_up Server wire = refl

blank_clear : IsLowClear blank
blank_clear U client server = refl
blank_clear D client server = refl

lower_clear : (end : Side) (wire : Wire) → IsLowClear (wires.lower end wire)
lower_clear Client wire =
    by_test IsLowClear wire.server (record wire { client = false }) wires.blank
    (λ up. up_clear Server (record wire { client = false }) up) (λ down. blank_clear)
lower_clear Server wire =
    by_test IsLowClear wire.client (record wire { server = false }) wires.blank
    (λ up. up_clear Client (record wire { server = false }) up) (λ down. blank_clear)

-- ---- all legs

abbrev pub AreLowClear : Legs → Type 0
AreLowClear all = (leg : Leg) → IsLowClear (wire_at all leg)

pub none_low : AreLowClear legs.none
none_low leg = by leg.kind leg.number
  where
    by : (kind : LegKind) (n : ℕ) → IsLowClear (wire_at legs.none (leg_at kind n))
    by ClientOut n = blank_clear
    by OutServer n = blank_clear
    by ClientIn n = blank_clear
    by InServer n = blank_clear

-- one leg changes, and the others stay as they are
but_one : (leg : Leg) (all later : Legs) → IsLowClear (wire_at later leg)
    → ((other : Leg) → same_leg leg other ≡ false → wire_at later other ≡ wire_at all other)
    → AreLowClear all → AreLowClear later
but_one leg all later here beside low other =
    ⊎_elim (λ same. subst (λ (x : Leg). IsLowClear (wire_at later x)) same here)
    (λ apart. subst IsLowClear (sym (beside other apart)) (low other)) (cases_leg leg other)

module _ (all : Legs) (leg : Leg) (low : AreLowClear all) where
  raise_low : (end : Side) → AreLowClear (legs.raise leg end all)
  raise_low end =
      but_one leg all (legs.raise leg end all)
      (subst IsLowClear (sym (raise_here all leg end))
      (up_clear end (wires.raise end (wire_at all leg)) (raised_up end (wire_at all leg))))
      (raise_beside all leg end) low

  lower_low : (end : Side) → AreLowClear (legs.lower leg end all)
  lower_low end =
      but_one leg all (legs.lower leg end all)
      (subst IsLowClear (sym (lower_here all leg end)) (lower_clear end (wire_at all leg)))
      (lower_beside all leg end) low

  module _ (end : Side) (up : legs.is_up leg end all ≡ true) (dir : Dir) where
    abbrev wire : Wire
    wire = wire_at all leg

    is : wires.is_up end wire ≡ true
    is = sym (is_up_at all leg end) ∙ up

    put_low : (bytes : List ℕ) → AreLowClear (legs.put leg dir bytes all)
    put_low bytes =
        but_one leg all (legs.put leg dir bytes all)
        (subst IsLowClear (sym (put_here all leg end dir bytes is))
        (up_clear end (wires.put dir bytes wire)
        (up_in_flight end dir (in_flight dir wire ++ bytes) wire ∙ is)))
        (put_beside all leg dir bytes) low

    take_low : (count : ℕ) → AreLowClear (legs.take_out leg dir count all).0
    take_low count =
        but_one leg all (legs.take_out leg dir count all).0
        (subst IsLowClear (sym (take_here all leg end dir count is))
        (up_clear end (wires.take_out dir count wire).0
        (up_in_flight end dir (drop count (in_flight dir wire)) wire ∙ is)))
        (take_beside all leg dir count) low

-- ---- changes

module _ {K C S I O : Type 0} (r : Rulebook C S I O) (m : Makers K I O) (d : Deeds C S) where
  abbrev Low : World K C S I O → Type 0
  Low w = AreLowClear w.legs

  module _ (w : World K C S I O) (low : Low w) where
    low_changed : (change : Change) → MayChange r w change → Low (changed r m d w change)
    low_changed (IsTold node event) may = low
    low_changed (IsFed leg dir count) may = take_low w.legs leg low (receiver dir) may dir count
    low_changed (IsDrawn leg dir count) may =
        put_low w.legs leg low (sender dir) may dir
        (company.draw r w.company (at w leg (sender dir)) leg count).1
    low_changed (GoesUp node leg end cookie) may = raise_low w.legs leg low end
    low_changed (RaisesAlone node leg end cookie) may = raise_low w.legs leg low end
    low_changed (GoesDown node leg end) may = lower_low w.legs leg low end
    low_changed (OpensIn number cookie) may =
        raise_low w.legs (leg_at ClientIn number) low Client
    low_changed (OpensOut number cookie) may =
        raise_low w.legs (leg_at ClientOut number) low Client
    low_changed (OpensSame number cookie) may =
        let leg = leg_at ClientIn number in
        raise_low (legs.raise leg Client w.legs) leg (raise_low w.legs leg low Client) Server
    low_changed (Gives Client pdu) may = low
    low_changed (Gives Server pdu) may = low
    low_changed (Takes Client) may = low
    low_changed (Takes Server) may = low
    low_changed (Closes Client) may = low
    low_changed (Closes Server) may = low
    low_changed RecyclesIn may = low
    low_changed RecyclesOut may = low
    low_changed (MovesTo now) may = low
    low_changed (Draws cookies) may = low
    low_changed Reports may = low

  pub all_low : (w : World K C S I O) (changes : List Change) → AreAllowed r m d w changes
      → Low w → Low (all_changed r m d w changes)
  all_low w [] allowed low = low
  all_low w (change ∷ changes) allowed low =
      all_low (changed r m d w change) changes allowed.1 (low_changed w low change allowed.0)
