-- one leg more is kept
use Rattle.std.proofs.Common.{◌∙◌, [], ◌∷◌, ◌++◌, ap}
use Rattle.std.specs.Arc.{arc_value}
use Rattle.rh_turn.specs.Values.{TurnValue}
use Rattle.rh_slots.proofs.Legs.{write-more}
use Rattle.rh_slots.proofs.slot.write_slot.Goals as goal

pub legs-preserved : goal.legs-preserved
legs-preserved g c = record {
  written = write-more _ _ _ _ _ _ _ _ _ _ _ c.write_one-served.result.0 _
      (ap (λ t. (arc_value {X = TurnValue _} t).first) c.legs.invariant.turn)
      c.legs.invariant.written c.write_one-served.ensures.written
      (c.in-Ok-push.ensures.items
      ∙ ap (λ l. l ++ c.write_one-served.result.0 ∷ []) c.try_reserve.ensures.items);
  turn = c.write_one-served.ensures.turn ∙ c.legs.invariant.turn;
}
