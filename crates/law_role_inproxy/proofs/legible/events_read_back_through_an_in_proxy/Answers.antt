use Rattle.law_order.proofs.Vocabulary.{subst}
use Rattle.law_moves.proofs.Vocabulary.{IsLegible}
use Rattle.law_role_inproxy.proofs.Vocabulary.{rooms, first, pipe_put}
use Rattle.law_role_inproxy.proofs.LegibleMoves.{all_reads_back}
use Rattle.law_role_inproxy.proofs.legible.events_read_back_through_an_in_proxy.Goals as goal

pub returns : goal.returns
returns c = λ config events ranges sizes.
    let follows = c.roles_move_by_their_rules.ensures.run (first config) rooms events in
    record {
      follows = follows;
      keeps = subst (IsLegible pipe_put) follows.leads.reached
          (all_reads_back c.what_may_go_reads_back.ensures.log config ranges sizes
          follows.leads.moves);
    }
