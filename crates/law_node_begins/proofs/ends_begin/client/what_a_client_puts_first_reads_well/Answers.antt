use Rattle.law_node_begins.proofs.EndsBegin.ClientMoves.{client_well}
use Rattle.law_node_begins.proofs.ends_begin.client.what_a_client_puts_first_reads_well.Goals as goal

pub returns : goal.returns
returns c = λ well config moves allowed leg.
    client_well well
    (λ pipe text first whole. c.texts_read_well.ensures.head well pipe text first whole)
    c.texts_are_whole.ensures.in_request c.texts_are_whole.ensures.out_request config moves allowed
    leg
