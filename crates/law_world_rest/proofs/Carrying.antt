-- a leg that carries no byte leaves the world as it was, where all nodes are steady
use Rattle.law_order.proofs.Vocabulary.{◌≡◌, ℕ, zero, suc, ◌<◌, ◌++◌, ◌==◌, List, [], ◌∷◌, Bool, true, false, if◌then◌else◌, length, take, Some, None, refl, sym, ap, ◌∙◌, arith, eqb-true}
use Rattle.rh_wires.specs.Legs as legs
use Rattle.rh_wires.specs.Wires as wires
use Rattle.rh_company.specs.Company as company
use Rattle.rh_nodes.proofs.NoBytes.{carry_clear, none_drawn as none_put}
use Rattle.law_moves.proofs.Vocabulary.{Dir, U, D, Leg}
use Rattle.law_node_history.proofs.Vocabulary.{Answer, Company, Legs, Rulebook, Wire, World, Deeds, at, blank, carried, carry, draw_into, fed, feed, in_flight, most_bytes, receiver, send, sender, sent, wire_at}
use Rattle.law_node_history.proofs.Numbers.{asked}
use Rattle.law_node_history.proofs.Wired.{is_up_at, put_here, taken_here}
use Rattle.law_world_ways.specs.EndsInTime.Both.{AreUpAtBoth}
use Rattle.law_world_rest.proofs.Drawing.{none_drawn}
use Rattle.law_world_rest.proofs.Silences.{Leaves}
use Rattle.law_world_rest.specs.Rest.{IsSilent}
use Rattle.law_world_rest.specs.Steady.{AreSteady}

-- ---- bytes in flight

pub no_bytes : (bytes : List ℕ) → (length bytes == 0) ≡ true → bytes ≡ []
no_bytes [] none = refl
no_bytes (b ∷ bytes) none = absurd (omega (arith, eqb-true (length (b ∷ bytes)) 0 none))

none_first : (first behind : List ℕ) → first ++ behind ≡ [] → first ≡ []
none_first [] behind none = refl
none_first (b ∷ first) behind none = absurd cc

pub none_behind : (first behind : List ℕ) → first ++ behind ≡ [] → behind ≡ []
none_behind [] behind none = none
none_behind (b ∷ first) behind none = absurd cc

none_taken : (count : ℕ) (bytes : List ℕ) → 0 < count → take count bytes ≡ [] → bytes ≡ []
none_taken zero bytes some none = absurd (omega (arith, some))
none_taken (suc count) [] some none = refl
none_taken (suc count) (b ∷ bytes) some none = absurd cc

in_put : (dir : Dir) (bytes : List ℕ) (wire : Wire)
    → in_flight dir (wires.put dir bytes wire) ≡ in_flight dir wire ++ bytes
in_put U bytes wire = refl
in_put D bytes wire = refl

up_in_put : (dir : Dir) (bytes : List ℕ) (wire : Wire)
    → wires.is_up (receiver dir) (wires.put dir bytes wire) ≡ wires.is_up (receiver dir) wire
up_in_put U bytes wire = refl
up_in_put D bytes wire = refl

pub clear_at : (all : Legs) (leg : Leg) (dir : Dir)
    → legs.is_clear leg dir all ≡ wires.is_clear dir (wire_at all leg)
clear_at all leg U = asked blank (wires.is_clear U) (legs.of leg.kind all) leg.number
clear_at all leg D = asked blank (wires.is_clear D) (legs.of leg.kind all) leg.number

some_room : 0 < most_bytes
some_room = omega arith

module _ {K C S I O : Type 0} (r : Rulebook C S I O) (d : Deeds C S) (w : World K C S I O)
    (both : AreUpAtBoth w) (leg : Leg) where
  -- the other end has it up too
  at_receiver : (dir : Dir) (up : Bool) → legs.is_up leg (sender dir) w.legs ≡ up
      → legs.is_up leg (receiver dir) w.legs ≡ up
  at_receiver U up is = sym (both leg) ∙ is
  at_receiver D up is = both leg ∙ is

  -- ---- a leg that is down

  pub down_carries : (dir : Dir) → legs.is_up leg (sender dir) w.legs ≡ false
      → carry r leg dir w ≡ (w, [])
  down_carries dir down =
      ap (λ (up : Bool). carried leg dir (feed r (if up
      then sent w (draw_into r w.company w.legs (at w leg (sender dir)) leg dir most_bytes)
      else (w, None)).0 leg dir most_bytes)) down
      ∙ ap (λ (up : Bool). carried leg dir (if up
      then fed r w leg dir (legs.take_out leg dir most_bytes w.legs) else (w, None)))
      (at_receiver dir false down)

  -- ---- a leg that is up

  module _ (dir : Dir) (up : legs.is_up leg (sender dir) w.legs ≡ true) where
    abbrev did : Company C S I O × List ℕ
    did = company.draw r w.company (at w leg (sender dir)) leg most_bytes

    -- behind the draw
    abbrev next : World K C S I O
    next = record w { company = did.0; legs = legs.put leg dir did.1 w.legs }

    sends : send r w leg dir most_bytes ≡ (next, Some (length did.1))
    sends =
        ap (λ (t : Bool). if t
        then sent w (draw_into r w.company w.legs (at w leg (sender dir)) leg dir most_bytes)
        else (w, None)) up

    wire_is : wire_at next.legs leg ≡ wires.put dir did.1 (wire_at w.legs leg)
    wire_is =
        put_here w.legs leg (sender dir) dir did.1 (sym (is_up_at w.legs leg (sender dir)) ∙ up)

    next_up : wires.is_up (receiver dir) (wire_at next.legs leg) ≡ true
    next_up =
        ap (wires.is_up (receiver dir)) wire_is
        ∙ up_in_put dir did.1 (wire_at w.legs leg)
        ∙ sym (is_up_at w.legs leg (receiver dir))
        ∙ at_receiver dir true up

    -- what is fed is what is in flight then
    feeds : feed r next leg dir most_bytes
        ≡ fed r next leg dir (legs.take_out leg dir most_bytes next.legs)
    feeds =
        ap (λ (t : Bool). if t
        then fed r next leg dir (legs.take_out leg dir most_bytes next.legs) else (next, None))
        (is_up_at next.legs leg (receiver dir) ∙ next_up)

    carries : carry r leg dir w
        ≡ carried leg dir (fed r next leg dir (legs.take_out leg dir most_bytes next.legs))
    carries =
        ap (λ sending. carried leg dir (feed r sending.0 leg dir most_bytes)) sends
        ∙ ap (λ feeding. carried leg dir feeding) feeds

    none_fed : (v : World K C S I O) (bytes : List ℕ) → IsSilent (carried leg dir (v, Some bytes))
        → bytes ≡ []
    none_fed v [] silent = refl
    none_fed v (b ∷ bytes) silent = absurd cc

    module _ (silent : IsSilent (carry r leg dir w)) where
      no_flight : in_flight dir (wire_at next.legs leg) ≡ []
      no_flight =
          none_taken most_bytes (in_flight dir (wire_at next.legs leg)) some_room
          (sym (taken_here next.legs leg (receiver dir) dir most_bytes next_up)
          ∙ none_fed (fed r next leg dir (legs.take_out leg dir most_bytes next.legs)).0
          (legs.take_out leg dir most_bytes next.legs).1
          (sym (ap (λ (what : World K C S I O × List Answer). what.1) carries) ∙ silent))

      next_clear : legs.is_clear leg dir next.legs ≡ true
      next_clear =
          clear_at next.legs leg dir
          ∙ ap (λ (bytes : List ℕ). length bytes == 0) no_flight

      -- neither what was in flight before nor what was drawn
      none_there : in_flight dir (wire_at w.legs leg) ++ did.1 ≡ []
      none_there =
          sym (in_put dir did.1 (wire_at w.legs leg)) ∙ sym (ap (in_flight dir) wire_is)
          ∙ no_flight

      pub was_clear : legs.is_clear leg dir w.legs ≡ true
      was_clear =
          clear_at w.legs leg dir
          ∙ ap (λ (bytes : List ℕ). length bytes == 0)
          (none_first (in_flight dir (wire_at w.legs leg)) did.1 none_there)

      pub drew_none : did.1 ≡ []
      drew_none = none_behind (in_flight dir (wire_at w.legs leg)) did.1 none_there

      unchanged : AreSteady r d w.company → (carry r leg dir w).0 ≡ w
      unchanged steady =
          ap (λ (what : World K C S I O × List Answer). what.0)
          (sym (carry_clear r leg dir w next (Some (length did.1)) (sym sends) next_clear))
          ∙ ap (λ (what : Company C S I O × Legs × ℕ).
          record w { company = what.0; legs = what.1 })
          (sym (none_put w.legs leg dir did w.company []
          (sym (none_drawn r d w.company steady leg (at w leg (sender dir)) most_bytes some_room
          drew_none)) refl))

  pub carry_leaves : AreSteady r d w.company → (dir : Dir) → Leaves w (carry r leg dir w)
  carry_leaves steady dir = by (legs.is_up leg (sender dir) w.legs) refl
    where
      by : (up : Bool) → legs.is_up leg (sender dir) w.legs ≡ up → Leaves w (carry r leg dir w)
      by true up silent = unchanged dir up silent steady
      by false down silent =
          ap (λ (what : World K C S I O × List Answer). what.0) (down_carries dir down)
