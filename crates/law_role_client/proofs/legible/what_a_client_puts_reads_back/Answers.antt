use Rattle.law_role_client.proofs.PutsReadBack.{puts_read_back}
use Rattle.law_role_client.proofs.legible.what_a_client_puts_reads_back.Goals as goal

pub returns : goal.returns
returns c = λ config moves fine sized cookies.
    puts_read_back c.what_may_go_reads_back.ensures.log config moves fine sized cookies
