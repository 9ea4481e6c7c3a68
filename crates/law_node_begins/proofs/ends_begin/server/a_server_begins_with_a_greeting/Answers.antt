use Rattle.law_node_begins.proofs.EndsBegin.ServerMoves.{server_begins}
use Rattle.law_node_begins.proofs.ends_begin.server.a_server_begins_with_a_greeting.Goals as goal

pub returns : goal.returns
returns c = server_begins c.texts_are_whole.ensures.greeting
