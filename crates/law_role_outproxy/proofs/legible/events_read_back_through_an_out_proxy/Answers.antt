use Rattle.law_order.proofs.Vocabulary.{subst}
use Rattle.law_moves.proofs.Vocabulary.{Passage, IsLegible}
use Rattle.law_role_outproxy.proofs.Vocabulary.{ROOMS, OutProxy, new_proxy, pipe_put}
use Rattle.law_role_outproxy.proofs.legible.events_read_back_through_an_out_proxy.Goals as goal

pub returns : goal.returns
returns c = λ config events own.
    let follows = c.roles_move_by_their_rules.ensures.run (new_proxy config) ROOMS events in
    record {
      follows = follows;
      keeps = subst (λ (p : Passage OutProxy). IsLegible pipe_put p) follows.leads.reached
          (c.what_an_out_proxy_puts_reads_back.ensures config follows.leads.moves own);
    }
