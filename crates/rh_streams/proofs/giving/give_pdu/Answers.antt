-- each give is one call more
use Rattle.std.proofs.Common.{ap, rules}
use Rattle.std.specs.Arc.{arc_value}
use Rattle.rh_turn.specs.Values.{TurnValue}
use Rattle.rh_streams.proofs.GiverCalls.{gives-not, gives-pdu, gives-refused}
use Rattle.rh_streams.proofs.giving.give_pdu.Goals as goal

pub returns-in_default-clause-refused : goal.returns-in_default-clause-refused
returns-in_default-clause-refused g c = (
  gives-not _ _ _ _ _ _ _ _ _ _
      (ap (λ t. (arc_value {X = TurnValue _} t).first) c.gives.invariant.turn) c.gives.invariant.giving
      c.give_once-given.ensures.acts.1 c.in_default.is c.give_once-given.ensures.acts.2,
  λ e. absurd (cc),
)

pub returns-in-Ok-clause-given : goal.returns-in-Ok-clause-given
returns-in-Ok-clause-given g c =
    gives-pdu _ _ _ _ _ _ _ _ _ _ _ _ _
    (ap (λ t. (arc_value {X = TurnValue _} t).first) c.gives.invariant.turn) c.gives.invariant.giving
    c.give_once-given.ensures.acts.1 c.in-Some-given.is c.give_once-given.ensures.acts.2 c.in-Ok.is

pub returns-in-Err-BadPdu-clause-refused : goal.returns-in-Err-BadPdu-clause-refused
returns-in-Err-BadPdu-clause-refused g c = (
  gives-refused _ _ _ _ _ _ _ _ _ _ _ _ _
      (ap (λ t. (arc_value {X = TurnValue _} t).first) c.gives.invariant.turn) c.gives.invariant.giving
      c.give_once-given.ensures.acts.1 c.in-Some-given.is c.give_once-given.ensures.acts.2
      c.in-Err-BadPdu.is,
  λ e. absurd (cc),
)

pub returns-in-Err-Closing-clause-refused : goal.returns-in-Err-Closing-clause-refused
returns-in-Err-Closing-clause-refused g c = (
  gives-refused _ _ _ _ _ _ _ _ _ _ _ _ _
      (ap (λ t. (arc_value {X = TurnValue _} t).first) c.gives.invariant.turn) c.gives.invariant.giving
      c.give_once-given.ensures.acts.1 c.in-Some-given.is c.give_once-given.ensures.acts.2
      c.in-Err-Closing.is,
  λ e. absurd (cc),
)

pub returns-then-is_stopped-clause-refused : goal.returns-then-is_stopped-clause-refused
returns-then-is_stopped-clause-refused g c = (
  gives-refused _ _ _ _ _ _ _ _ _ _ _ _ _
      (ap (λ t. (arc_value {X = TurnValue _} t).first) c.gives.invariant.turn) c.gives.invariant.giving
      c.give_once-given.ensures.acts.1 c.in-Some-given.is c.give_once-given.ensures.acts.2
      c.in-Err-Full.is,
  λ e. absurd (cc),
)

pub gives-preserved : goal.gives-preserved
gives-preserved g c = record {
  giving = gives-refused _ _ _ _ _ _ _ _ _ _ _ _ _
      (ap (λ t. (arc_value {X = TurnValue _} t).first) c.gives.invariant.turn) c.gives.invariant.giving
      c.give_once-given.ensures.acts.1 c.in-Some-given.is c.give_once-given.ensures.acts.2
      c.in-Err-Full.is;
  turn = search rules;
}
