-- each call is one more of the writer
use Rattle.std.proofs.Common.{◌≤◌, ◌∙◌, length, subst}
use Rattle.std.specs.Io.KnownBytes.{Appends}
use Rattle.rh_legs.proofs.Writing.{writes-drawn, writes-asked, written-finished, written-stopped, written-failed, front-of}
use Rattle.rh_legs.proofs.Counted.{no_fewer, rose_since, finished-ended, finished-failed, failed-ended, stopped-ended, stopped-failed}
use Rattle.rh_legs.proofs.writer.write_leg.Goals as goal

pub returns-in_default-clause-written : goal.returns-in_default-clause-written
returns-in_default-clause-written g c =
    let came = c.in_default.ensures.err in
    written-failed _ _ _ _ _ _ _ _ _ _ _ _ came.0 _ _ c.writes.invariant.writing
    c.draw-piece.ensures.acts
    (subst (λ bytes. came.0 ≤ length bytes) c.bytes.ensures.bytes came.1)
    (front-of _ _ _ _ _ c.bytes.ensures.bytes came.2)
    c.act.ensures.acts

pub returns-then-is_finished-clause-written : goal.returns-then-is_finished-clause-written
returns-then-is_finished-clause-written g c =
    let drew = writes-drawn _ _ _ _ _ _ _ _ _ _ _ _ c.writes.invariant.writing
    c.draw-piece.ensures.acts (subst (Appends _ _) c.bytes.ensures.bytes c.in-Ok.ensures.ok) in
    let asks = c.is_finished.ensures.acts in
    written-finished _ _ _ _ _ _ _ _ _ asks.0 drew asks.1 (asks.2 c.if-is_finished.true)

pub returns-then-is_stopped-clause-written : goal.returns-then-is_stopped-clause-written
returns-then-is_stopped-clause-written g c =
    let drew = writes-drawn _ _ _ _ _ _ _ _ _ _ _ _ c.writes.invariant.writing
    c.draw-piece.ensures.acts (subst (Appends _ _) c.bytes.ensures.bytes c.in-Ok.ensures.ok) in
    written-stopped _ _ _ _ _ _ _ _
    (writes-asked _ _ _ _ _ _ _ _ _ _ drew c.is_finished.ensures.acts.1)

pub writes-preserved-then-is_all : goal.writes-preserved-then-is_all
writes-preserved-then-is_all g c =
    let drew = writes-drawn _ _ _ _ _ _ _ _ _ _ _ _ c.writes.invariant.writing
    c.draw-piece.ensures.acts (subst (Appends _ _) c.bytes.ensures.bytes c.in-Ok.ensures.ok) in
    record {
      writing = writes-asked _ _ _ _ _ _ _ _ _ _ drew c.is_finished.ensures.acts.1;
      turn = c.is_finished.ensures.turn ∙ c.draw-piece.ensures.turn ∙ c.writes.invariant.turn;
      faults = no_fewer _ _ _ c.writes.invariant.faults c.in-Ok.ensures.faults;
    }

pub writes-preserved : goal.writes-preserved
writes-preserved g c =
    record {
      writing = writes-drawn _ _ _ _ _ _ _ _ _ _ _ _ c.writes.invariant.writing
          c.draw-piece.ensures.acts (subst (Appends _ _) c.bytes.ensures.bytes c.in-Ok.ensures.ok);
      turn = c.draw-piece.ensures.turn ∙ c.writes.invariant.turn;
      faults = no_fewer _ _ _ c.writes.invariant.faults c.in-Ok.ensures.faults;
    }

pub returns-in_default-clause-turn : goal.returns-in_default-clause-turn
returns-in_default-clause-turn g c = c.act.ensures.turn ∙ c.draw-piece.ensures.turn ∙ c.writes.invariant.turn

pub returns-in_default-clause-failed : goal.returns-in_default-clause-failed
returns-in_default-clause-failed g c = λ is. rose_since _ _ _ c.writes.invariant.faults c.in_default.ensures.failed

pub returns-in_default-clause-no_end : goal.returns-in_default-clause-no_end
returns-in_default-clause-no_end g c = failed-ended

pub returns-in_default-clause-faults : goal.returns-in_default-clause-faults
returns-in_default-clause-faults g c = no_fewer _ _ _ c.writes.invariant.faults c.in_default.ensures.faults

pub returns-then-is_finished-clause-turn : goal.returns-then-is_finished-clause-turn
returns-then-is_finished-clause-turn g c = c.is_finished.ensures.turn ∙ c.draw-piece.ensures.turn ∙ c.writes.invariant.turn

pub returns-then-is_finished-clause-failed : goal.returns-then-is_finished-clause-failed
returns-then-is_finished-clause-failed g c = λ is. absurd (finished-failed is)

pub returns-then-is_finished-clause-no_end : goal.returns-then-is_finished-clause-no_end
returns-then-is_finished-clause-no_end g c = finished-ended

pub returns-then-is_finished-clause-faults : goal.returns-then-is_finished-clause-faults
returns-then-is_finished-clause-faults g c = no_fewer _ _ _ c.writes.invariant.faults c.in-Ok.ensures.faults

pub returns-then-is_stopped-clause-turn : goal.returns-then-is_stopped-clause-turn
returns-then-is_stopped-clause-turn g c = c.is_finished.ensures.turn ∙ c.draw-piece.ensures.turn ∙ c.writes.invariant.turn

pub returns-then-is_stopped-clause-failed : goal.returns-then-is_stopped-clause-failed
returns-then-is_stopped-clause-failed g c = λ is. absurd (stopped-failed is)

pub returns-then-is_stopped-clause-no_end : goal.returns-then-is_stopped-clause-no_end
returns-then-is_stopped-clause-no_end g c = stopped-ended

pub returns-then-is_stopped-clause-faults : goal.returns-then-is_stopped-clause-faults
returns-then-is_stopped-clause-faults g c = no_fewer _ _ _ c.writes.invariant.faults c.in-Ok.ensures.faults
