use Rattle.law_role_outproxy.proofs.LegibleMoves.{all_read_back}
use Rattle.law_role_outproxy.proofs.legible.what_an_out_proxy_puts_reads_back.Goals as goal

pub returns : goal.returns
returns c = λ config moves own.
    all_read_back config moves own c.what_may_go_reads_back.ensures.log
