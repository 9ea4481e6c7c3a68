use Rattle.law_order.proofs.Vocabulary.{subst, sym}
use Rattle.law_moves.proofs.Vocabulary.{InR1B1, Has, Passage, of_leg}
use Rattle.law_role_inproxy.proofs.Vocabulary.{InProxy, is_leg}
use Rattle.law_node_marks.proofs.NodesGoOn.{done_goes_on}
use Rattle.law_node_marks.proofs.in_proxy.no_end_closes_an_in_proxy_that_was_told.Goals as goal

pub returns : goal.returns
returns c = λ config pipe events stream heads n told leg.
    done_goes_on config pipe events stream
    (c.an_in_proxy_is_done_where_it_was_told.ensures config stream.leads.moves
    stream.leads.allowed heads n
    (subst (λ (p : Passage InProxy). Has InR1B1 (of_leg (is_leg n) p.came))
    (sym stream.leads.reached) told)) leg
