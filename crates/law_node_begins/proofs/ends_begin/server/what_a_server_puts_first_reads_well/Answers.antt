use Rattle.law_node_begins.proofs.EndsBegin.ServerMoves.{server_well}
use Rattle.law_node_begins.proofs.ends_begin.server.what_a_server_puts_first_reads_well.Goals as goal

pub returns : goal.returns
returns c = λ well window moves allowed leg.
    server_well well (λ pipe first. c.texts_read_well.ensures.greeting well pipe first) window
    moves allowed leg
