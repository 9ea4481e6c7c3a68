-- a leg that the end nearer the client has finished, and of which no end was told that it is lost
use Rattle.rh_text.specs.declared.ends.Side.TheVariants as side
use Rattle.law_order.proofs.Vocabulary.{◌≡◌, ◌&&◌, not, Bool, true, false, true≢false, refl, sym, ◌∙◌, and_parts}
use Rattle.rh_wires.specs.Legs as legs
use Rattle.rh_wires.specs.Wires.{is_up}
use Rattle.rh_company.specs.Company as company
use Rattle.law_moves.proofs.Vocabulary.{Side, U, Leg}
use Rattle.law_node_history.proofs.Vocabulary.{Rulebook, World, at, wire_at, History}
use Rattle.law_node_history.proofs.Lemmas.{is_up_at}
use Rattle.law_world_ways.specs.OnPaths.Legs.{was_left, was_up}
use Rattle.law_world_ways.specs.ExactPaths.Over.{IsOverUpwards}

still_up : (rose up : Bool) → up ≡ true → (rose && not up) ≡ false
still_up true true e = refl
still_up false up e = refl
still_up true false e = absurd (true≢false (sym e))

module _ {K C S I O : Type 0} (r : Rulebook C S I O) (v : World K C S I O) (h : History)
    (leg : Leg) (over : IsOverUpwards r v h leg) where
  pub over_parts : (company.finished r v.company (at v leg side.Client) leg ≡ true)
      × (legs.is_clear leg U v.legs ≡ true)
  over_parts =
      and_parts (company.finished r v.company (at v leg side.Client) leg)
      (legs.is_clear leg U v.legs) over.done

  pub not_left : (end : Side) → was_left v h leg end ≡ false
  not_left end =
      still_up (was_up v h leg end) (is_up end (wire_at v.legs leg))
      (sym (is_up_at v.legs leg end) ∙ over.up end)
