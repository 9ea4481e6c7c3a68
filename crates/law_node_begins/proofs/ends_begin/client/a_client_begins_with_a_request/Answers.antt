use Rattle.law_node_begins.proofs.EndsBegin.ClientMoves.{client_begins}
use Rattle.law_node_begins.proofs.ends_begin.client.a_client_begins_with_a_request.Goals as goal

pub returns : goal.returns
returns c =
    client_begins c.texts_are_whole.ensures.in_request c.texts_are_whole.ensures.out_request
