use Rattle.law_role_server.proofs.PutsReadBack.{puts_read_back}
use Rattle.law_role_server.proofs.legible.what_a_server_puts_reads_back.Goals as goal

pub returns : goal.returns
returns c = puts_read_back c.what_may_go_reads_back.ensures.log
