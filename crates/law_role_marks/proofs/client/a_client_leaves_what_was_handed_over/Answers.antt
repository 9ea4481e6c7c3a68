use Rattle.law_role_client.proofs.Vocabulary.{client_moved}
use Rattle.law_role_marks.proofs.ClientLeaves.{in_handed, in_left, out_handed, out_left}
use Rattle.law_role_marks.proofs.client.a_client_leaves_what_was_handed_over.Goals as goal

pub returns-clause-ins : goal.returns-clause-ins
returns-clause-ins c = λ config moves allowed n.
    in_left (client_moved config moves) n (c.a_client_gives_in_order.ensures config moves allowed)

pub returns-clause-outs : goal.returns-clause-outs
returns-clause-outs c = λ config moves allowed n.
    out_left (client_moved config moves) n
    (c.a_client_takes_in_order.ensures config moves allowed)

pub returns-clause-no_other_ins : goal.returns-clause-no_other_ins
returns-clause-no_other_ins c = λ config moves allowed n.
    in_handed (client_moved config moves) n
    (c.a_client_gives_in_order.ensures config moves allowed)

pub returns-clause-no_other_outs : goal.returns-clause-no_other_outs
returns-clause-no_other_outs c = λ config moves allowed n.
    out_handed (client_moved config moves) n
    (c.a_client_takes_in_order.ensures config moves allowed)
