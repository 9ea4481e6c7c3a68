use Rattle.law_node_history.proofs.Vocabulary.{after_turns}
use Rattle.law_node_traces.proofs.Vocabulary.{deeds, rules}
use Rattle.law_world_order.proofs.turns.turns_keep_order.Goals as goal

pub returns : goal.returns
returns g c = λ m w new ours ranges turns whole.
    let v = after_turns rules m deeds w turns in
    let by = c.turns_are_changes.ensures.turns rules m deeds turns w whole in
    let keeps = c.roles_keep_order.ensures m w new ours ranges in
    record {
      by = by;
      front = keeps.front v by;
      clean = keeps.clean v by;
      marks = c.marks_are_last.ensures m w new ours ranges v by;
    }
