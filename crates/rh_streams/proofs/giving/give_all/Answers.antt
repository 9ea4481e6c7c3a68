-- of what came the first PDUs were given
use Rattle.std.proofs.Common.{◌≡◌, ◌++◌, [], ap, arith, length, rules, subst, sym, take, ◌∙◌}
use Rattle.std.proofs.KnownBytes.{Appends-nil, Consumes-nil}
use Rattle.std.proofs.lemmas.Bool.Decides.{nat_tests}
use Rattle.std.specs.Arc.{arc_value}
use Rattle.rh_turn.specs.Values.{TurnValue}
use Rattle.rh_io.specs.Bytes.{Moves}
use Rattle.rh_io.proofs.Moved.{Moves-kept, Moves-more}
use Rattle.rh_pdu.specs.Feeding.{FramerState}
use Rattle.rh_actors.proofs.Calling.{acts-at}
use Rattle.rh_streams.proofs.GiverCalls.{gave-came, gave-new, gave-on, gave-still, gives-closed, gives-ended, none-left, of-at, on-at}
use Rattle.rh_streams.proofs.giving.give_all.Goals as goal

pub reads-init : goal.reads-init
reads-init g c = record {
  giving = (
    [],
    record { from = Consumes-nil _; to = Appends-nil _ },
    gave-new _ _ _ _ _ (ap (λ (s : FramerState). s.rest) c.new.ensures),
  );
  faults = search rules;
  turn = search rules;
}

pub returns-then-not-awaits_input-clause-gave : goal.returns-then-not-awaits_input-clause-gave
returns-then-not-awaits_input-clause-gave g c =
    let ended = gives-ended _ _ _ _ _ _ _ (gave-still _ _ _ _ _ _ _ _ c.reads.invariant.giving.2
    (on-at _ _ _ _ _ _ _ (ap (λ t. (arc_value {X = TurnValue _} t).first) c.reads.invariant.turn)
    c.awaits_input.ensures.asked)) in (
      ended.0,
      c.reads.invariant.giving.0,
      Moves-kept _ _ _ _ _ _ _ c.reads.invariant.giving.1 c.awaits_input.ensures.bytes,
      ended.1,
    )

pub returns-in_default-clause-gave : goal.returns-in_default-clause-gave
returns-in_default-clause-gave g c =
    let ended = gives-ended _ _ _ _ _ _ _ (gave-still _ _ _ _ _ _ _ _ c.reads.invariant.giving.2
    (on-at _ _ _ _ _ _ _ (ap (λ t. (arc_value {X = TurnValue _} t).first) c.reads.invariant.turn)
    c.awaits_input.ensures.asked)) in (
      ended.0,
      c.reads.invariant.giving.0,
      Moves-kept _ _ _ _ _ _ _
          (Moves-kept _ _ _ _ _ _ _ c.reads.invariant.giving.1 c.awaits_input.ensures.bytes)
          c.in_default.ensures.bytes,
      ended.1,
    )

pub returns-then-held-ne0-clause-gave : goal.returns-then-held-ne0-clause-gave
returns-then-held-ne0-clause-gave g c =
    let more = (take c.in-Ok.count c.read.new.room) in
    let ended = gives-ended _ _ _ _ _ _ _ (gave-came _ _ _ _ _ _ _ more
    (gave-still _ _ _ _ _ _ _ _ c.reads.invariant.giving.2
    (on-at _ _ _ _ _ _ _ (ap (λ t. (arc_value {X = TurnValue _} t).first) c.reads.invariant.turn)
    c.awaits_input.ensures.asked))) in (
      ended.0,
      c.reads.invariant.giving.0 ++ more,
      Moves-more _ _ _ _ _ _ _ _
          (Moves-kept _ _ _ _ _ _ _ c.reads.invariant.giving.1 c.awaits_input.ensures.bytes)
          c.in-Ok.ensures.bytes,
      ended.1,
    )

pub returns-then-count-eq0-clause-gave : goal.returns-then-count-eq0-clause-gave
returns-then-count-eq0-clause-gave g c =
    let more = (take c.in-Ok.count c.read.new.room) in
    let none_came : c.in-Ok.count ≡ 0 = let is = c.if-count-eq0.true in grind (arith, nat_tests) in
    let none_held : length c.reads.reader.framer.rest ≡ 0 =
    let is = c.if-held-ne0.false in let held = c.held.ensures.rest in grind (arith, nat_tests) in
    let closed = gives-closed _ _ _ _ _ _ _ _ _ (gave-came _ _ _ _ _ _ _ more
    (gave-still _ _ _ _ _ _ _ _ c.reads.invariant.giving.2
    (on-at _ _ _ _ _ _ _ (ap (λ t. (arc_value {X = TurnValue _} t).first) c.reads.invariant.turn)
    c.awaits_input.ensures.asked)))
    (none-left _ _ _ none_held none_came)
    (acts-at _ _ _ _ _ _ _ _
    (ap (λ t. (arc_value {X = TurnValue _} t).first)
    (c.awaits_input.ensures.turn ∙ c.reads.invariant.turn))
    c.act.ensures.acts) in (
      closed.0,
      c.reads.invariant.giving.0 ++ more,
      Moves-more _ _ _ _ _ _ _ _
          (Moves-kept _ _ _ _ _ _ _ c.reads.invariant.giving.1 c.awaits_input.ensures.bytes)
          c.in-Ok.ensures.bytes,
      closed.1,
    )

pub reads-preserved : goal.reads-preserved
reads-preserved g c =
    let room : c.deref.result.now ≡ c.read.new.room = search rules in
    let came : Moves (g.S.Source.left c.awaits_input.new.input) (g.S.Source.left c.read.new.self)
    (g.S.Source.taken c.awaits_input.new.input) (g.S.Source.taken c.read.new.self)
    (take c.in-Ok.count c.deref.result.now) =
    subst (λ bs. Moves (g.S.Source.left c.awaits_input.new.input) (g.S.Source.left c.read.new.self)
    (g.S.Source.taken c.awaits_input.new.input) (g.S.Source.taken c.read.new.self)
    (take c.in-Ok.count bs)) (sym room) c.in-Ok.ensures.bytes in
    record {
      giving = (
        c.reads.invariant.giving.0 ++ take c.in-Ok.count c.deref.result.now,
        Moves-more _ _ _ _ _ _ _ _
            (Moves-kept _ _ _ _ _ _ _ c.reads.invariant.giving.1 c.awaits_input.ensures.bytes)
            came,
        gave-on _ _ _ _ _ _ _ _ _ _ (gave-still _ _ _ _ _ _ _ _ c.reads.invariant.giving.2
            (on-at _ _ _ _ _ _ _ (ap (λ t. (arc_value {X = TurnValue _} t).first) c.reads.invariant.turn)
            c.awaits_input.ensures.asked))
            (of-at _ _ _ _ _ _ _ _
            (ap (λ t. (arc_value {X = TurnValue _} t).first)
            (c.awaits_input.ensures.turn ∙ c.reads.invariant.turn))
            c.in-Ok-given.ensures.gave),
      );
      faults = search rules;
      turn = search rules;
    }

pub returns-in-Err-clause-gave : goal.returns-in-Err-clause-gave
returns-in-Err-clause-gave g c =
    let room : c.deref.result.now ≡ c.read.new.room = search rules in
    let came : Moves (g.S.Source.left c.awaits_input.new.input) (g.S.Source.left c.read.new.self)
    (g.S.Source.taken c.awaits_input.new.input) (g.S.Source.taken c.read.new.self)
    (take c.in-Ok.count c.deref.result.now) =
    subst (λ bs. Moves (g.S.Source.left c.awaits_input.new.input) (g.S.Source.left c.read.new.self)
    (g.S.Source.taken c.awaits_input.new.input) (g.S.Source.taken c.read.new.self)
    (take c.in-Ok.count bs)) (sym room) c.in-Ok.ensures.bytes in
    let ended = gives-ended _ _ _ _ _ _ _ (gave-on _ _ _ _ _ _ _ _ _ _ (gave-still _ _ _ _ _ _ _ _ c.reads.invariant.giving.2
    (on-at _ _ _ _ _ _ _ (ap (λ t. (arc_value {X = TurnValue _} t).first) c.reads.invariant.turn)
    c.awaits_input.ensures.asked))
    (of-at _ _ _ _ _ _ _ _
    (ap (λ t. (arc_value {X = TurnValue _} t).first)
    (c.awaits_input.ensures.turn ∙ c.reads.invariant.turn))
    c.in-Err.ensures.stopped.1)) in (
      ended.0,
      c.reads.invariant.giving.0 ++ take c.in-Ok.count c.deref.result.now,
      Moves-more _ _ _ _ _ _ _ _
          (Moves-kept _ _ _ _ _ _ _ c.reads.invariant.giving.1 c.awaits_input.ensures.bytes)
          came,
      ended.1,
    )
