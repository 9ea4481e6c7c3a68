use Rattle.law_role_inproxy.proofs.LegibleMoves.{all_reads_back}
use Rattle.law_role_inproxy.proofs.legible.what_an_in_proxy_puts_reads_back.Goals as goal

pub returns : goal.returns
returns c = λ config moves ranges sizes.
    all_reads_back c.what_may_go_reads_back.ensures.log config ranges sizes moves
