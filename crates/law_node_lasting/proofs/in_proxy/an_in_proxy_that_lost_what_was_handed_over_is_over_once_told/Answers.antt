use Rattle.law_order.proofs.Vocabulary.{[], ◌∷◌}
use Rattle.law_role_marks.specs.Marks.{marks_handed}
use Rattle.law_node_lasting.proofs.InProxyHanded.{handed_behind}
use Rattle.law_node_lasting.proofs.InProxyLasts.{let_go}
use Rattle.law_node_lasting.proofs.in_proxy.an_in_proxy_that_lost_what_was_handed_over_is_over_once_told.Goals as goal

pub returns : goal.returns
returns c = λ config pipe events stream heads agree.
    let_go config pipe events stream
    (c.an_in_proxy_is_over_once_told_or_left.ensures config stream.leads.moves
    stream.leads.allowed heads)
    (handed_behind
    (λ node event one. c.a_node_goes_by_rules_that_mark_the_same.ensures marks_handed node
    (event ∷ []) (one, tt))
    config events agree)
