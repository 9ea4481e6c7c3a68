use Rattle.law_order.proofs.Vocabulary.{[], ◌∷◌}
use Rattle.law_node_lasting.specs.Lasting.{marks_left}
use Rattle.law_node_lasting.proofs.ServerEvents.{works_on}
use Rattle.law_node_lasting.proofs.server.a_server_that_lost_what_was_handed_over_works_on.Goals as goal

pub returns : goal.returns
returns c = λ window events agree.
    works_on window
    (λ node event one. c.a_node_goes_by_rules_that_mark_the_same.ensures marks_left node
    (event ∷ []) (one, tt))
    events agree (c.a_server_takes_in_order.ensures window)
