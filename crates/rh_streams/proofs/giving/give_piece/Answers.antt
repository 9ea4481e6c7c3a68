-- each frame that is given is one more of the bytes that came
use Rattle.std.proofs.Common.{◌≤◌, ◌++◌, ap, length, refl, rules, subst, sym}
use Rattle.std.specs.Arc.{arc_value}
use Rattle.rh_turn.specs.Values.{TurnValue}
use Rattle.rh_pdu.specs.Feeding.{FramerState}
use Rattle.rh_pdu.proofs.Pdus.{frame_bounds}
use Rattle.rh_streams.proofs.GiverCalls.{frame-off, gave-pdu, gave-still, on-at}
use Rattle.rh_streams.proofs.giving.give_piece.Goals as goal

pub give_pdu-requires : goal.give_pdu-requires
give_pdu-requires g c = record {
  fits = subst (λ b. length b ≤ 8192) (sym c.frame-pdu.ensures)
      (frame_bounds _ c.in-Frame.ensures.fed.frame).1;
}

pub returns-in-Err-clause-stopped : goal.returns-in-Err-clause-stopped
returns-in-Err-clause-stopped g c = (
  c.frames.reader.framer.rest ++ c.frames.rest.now,
  gave-still _ _ _ _ _ _ _ _ c.frames.invariant.gave
      (on-at _ _ _ _ _ _ _
      (ap (λ t. (arc_value {X = TurnValue _} t).first) c.frames.invariant.turn)
      c.in-Err.ensures.refused.0),
  c.in-Err.ensures.refused.1,
)

pub frames-preserved : goal.frames-preserved
frames-preserved g c = record {
  gave = gave-pdu _ _ _ _ _ _ _ _ _ _ c.frames.invariant.gave
      (on-at _ _ _ _ _ _ _
      (ap (λ t. (arc_value {X = TurnValue _} t).first) c.frames.invariant.turn)
      c.in-Ok-give_pdu.ensures.given)
      (c.in-Ok.ensures.pdu.0 refl)
      (frame-off _ _ _ _ _ _ _ c.in-Frame.ensures.fed.bytes c.frame-pdu.ensures
      (ap (λ (s : FramerState). s.rest) c.in-Frame.ensures.fed.after) c.split_at.ensures.back);
  turn = search rules;
}
