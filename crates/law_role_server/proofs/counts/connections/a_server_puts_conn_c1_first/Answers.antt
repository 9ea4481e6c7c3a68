use Rattle.law_role_server.proofs.Counted.BeforeC1Steps.{c1_first}
use Rattle.law_role_server.proofs.counts.connections.a_server_puts_conn_c1_first.Goals as goal

pub returns : goal.returns
returns c = c1_first
