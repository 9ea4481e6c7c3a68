use Rattle.law_node_history.proofs.Vocabulary.{round, settle}
use Rattle.law_world_ways.proofs.EndsInTime.Goes.{ends_in_time}
use Rattle.law_world_ways.proofs.EndsInTime.Rounds.{round_in_time, settle_in_time}
use Rattle.law_world_ways.proofs.ends_in_time.settling.settling_ends_legs_in_time.Goals as goal

pub returns : goal.returns
returns g c = record {
  round = λ r m d w both.
      ends_in_time r m d w (round r m d w).0 (round_in_time r m d w both).1;
  settle = λ r m d rounds w both.
      ends_in_time r m d w (settle r m d rounds w).0 (settle_in_time r m d rounds w both).1;
  both = λ r m d w both. (round_in_time r m d w both).0;
  both_settled = λ r m d rounds w both. (settle_in_time r m d rounds w both).0;
}
