use Rattle.law_node_lasting.proofs.ServerHanded.{agrees_behind}
use Rattle.law_node_lasting.proofs.server.a_server_may_lose_what_was_handed_over.Goals as goal

pub returns : goal.returns
returns c = agrees_behind
