-- each batch is some takes more
use Rattle.std.proofs.Common.{ℕ, ◌≤◌, ap, length, rules, subst, take}
use Rattle.std.specs.Arc.{arc_value}
use Rattle.std.specs.Io.KnownBytes.{Appends}
use Rattle.rh_turn.specs.Values.{TurnValue}
use Rattle.rh_streams.proofs.TakerCalls.{taken-front, taken-whole, takes-batch, took-at}
use Rattle.rh_streams.proofs.taking.take_all.Goals as goal

pub returns-in_default-clause-taken : goal.returns-in_default-clause-taken
returns-in_default-clause-taken g c =
    taken-front _ _ _ _ _ _ _ _ _ _ _ c.batches.invariant.taking
    (took-at _ _ _ _ _ _ _ _ (ap (λ t. (arc_value {X = TurnValue _} t).first) c.batches.invariant.turn)
    c.take_batch-left.ensures.took)
    c.clear.ensures
    (subst (λ bs. (k : ℕ) × (k ≤ length bs) × Appends (g.W.Sink.written c.batches.output)
    (g.W.Sink.written c.write_whole.new.sink) (take k bs)) c.bytes.ensures c.in_default.ensures.err)

pub returns-then-not-awaits_pdus-clause-taken : goal.returns-then-not-awaits_pdus-clause-taken
returns-then-not-awaits_pdus-clause-taken g c = taken-whole _ _ _ _ _ _ _ _
    (takes-batch _ _ _ _ _ _ _ _ _ _ _ c.batches.invariant.taking
    (took-at _ _ _ _ _ _ _ _ (ap (λ t. (arc_value {X = TurnValue _} t).first) c.batches.invariant.turn)
    c.take_batch-left.ensures.took)
    c.clear.ensures (subst (Appends _ _) c.bytes.ensures c.in-Ok.ensures.ok))

pub batches-preserved : goal.batches-preserved
batches-preserved g c = record {
  taking = takes-batch _ _ _ _ _ _ _ _ _ _ _ c.batches.invariant.taking
      (took-at _ _ _ _ _ _ _ _ (ap (λ t. (arc_value {X = TurnValue _} t).first) c.batches.invariant.turn)
      c.take_batch-left.ensures.took)
      c.clear.ensures (subst (Appends _ _) c.bytes.ensures c.in-Ok.ensures.ok);
  turn = search rules;
  faults = search rules;
}

pub returns-in-Err-clause-taken : goal.returns-in-Err-clause-taken
returns-in-Err-clause-taken g c = taken-whole _ _ _ _ _ _ _ _
    (takes-batch _ _ _ _ _ _ _ _ _ _ _ c.batches.invariant.taking
    (took-at _ _ _ _ _ _ _ _ (ap (λ t. (arc_value {X = TurnValue _} t).first) c.batches.invariant.turn)
    c.take_batch-left.ensures.took)
    c.clear.ensures (subst (Appends _ _) c.bytes.ensures c.in-Ok.ensures.ok))
