-- each look that found nothing asks for the state
use Rattle.std.proofs.Common.{ap, rules}
use Rattle.std.specs.Arc.{arc_value}
use Rattle.rh_turn.specs.Values.{TurnValue}
use Rattle.rh_io.proofs.Moved.{Stays-more}
use Rattle.rh_streams.proofs.GiverCalls.{gives-asked}
use Rattle.rh_streams.proofs.giving.awaits_input.Goals as goal

pub returns-then-not-is_live-clause-asked : goal.returns-then-not-is_live-clause-asked
returns-then-not-is_live-clause-asked g c =
    gives-asked _ _ _ _ _ _ _ (ap (λ t. (arc_value {X = TurnValue _} t).first) c.looks.invariant.turn)
    c.looks.invariant.asked (c.is_live.ensures.asked.0, c.is_live.ensures.asked.1)

pub looks-preserved : goal.looks-preserved
looks-preserved g c = record {
  asked = gives-asked _ _ _ _ _ _ _ (ap (λ t. (arc_value {X = TurnValue _} t).first) c.looks.invariant.turn)
      c.looks.invariant.asked (c.is_live.ensures.asked.0, c.is_live.ensures.asked.1);
  bytes = Stays-more _ _ _ _ _ _ c.looks.invariant.bytes c.ready.ensures.bytes;
  faults = search rules;
  turn = search rules;
}
