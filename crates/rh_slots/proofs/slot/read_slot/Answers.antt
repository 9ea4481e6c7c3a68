-- one leg more is kept
use Rattle.std.proofs.Common.{◌∙◌, [], ◌∷◌, ◌++◌, ap}
use Rattle.std.specs.Arc.{arc_value}
use Rattle.rh_turn.specs.Values.{TurnValue}
use Rattle.rh_slots.proofs.Legs.{read-more}
use Rattle.rh_slots.proofs.slot.read_slot.Goals as goal

pub legs-preserved : goal.legs-preserved
legs-preserved g c = record {
  read = read-more _ _ _ _ _ _ _ _ _ _ _ _ c.read_one-served.result.0 _
      (ap (λ t. (arc_value {X = TurnValue _} t).first) c.legs.invariant.turn)
      c.legs.invariant.read c.read_one-served.ensures.read
      (c.in-Ok-push.ensures.items
      ∙ ap (λ l. l ++ c.read_one-served.result.0 ∷ []) c.try_reserve.ensures.items);
  turn = c.read_one-served.ensures.turn ∙ c.legs.invariant.turn;
}
