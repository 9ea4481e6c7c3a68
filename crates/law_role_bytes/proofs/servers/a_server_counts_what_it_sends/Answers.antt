use Rattle.law_role_bytes.proofs.ServerSends.{server_sent}
use Rattle.law_role_bytes.proofs.servers.a_server_counts_what_it_sends.Goals as goal

pub returns : goal.returns
returns c = server_sent
