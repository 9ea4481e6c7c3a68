use Rattle.law_node_history.proofs.Vocabulary.{all_noted, nothing}
use Rattle.law_node_traces.proofs.Vocabulary.{deeds, rules}
use Rattle.law_world_order.proofs.Vocabulary.{numbers_of}
use Rattle.law_world_ways.proofs.exact_paths.worlds.what_was_given_is_taken_or_on_its_way.Goals as goal

pub returns : goal.returns
returns g c = λ m w new ours ranges port v ends going ways.
    let h = all_noted rules m deeds w nothing ends.lines.leads.changes in
    record {
      down =
          c.legs_that_go_on_lose_nothing.ensures.down (numbers_of ours) v h ways
          (c.what_is_lost_in_time_had_passed.ensures.down m w new ours ranges port v ends going
          ways);
      up =
          c.legs_that_go_on_lose_nothing.ensures.up (numbers_of ours) v h ways
          (c.what_is_lost_in_time_had_passed.ensures.up m w new ours ranges port v ends going ways);
    }
