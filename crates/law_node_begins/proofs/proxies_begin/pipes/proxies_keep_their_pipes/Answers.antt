use Rattle.law_node_begins.proofs.ProxiesBegin.InLaws.{in_has_pipes}
use Rattle.law_node_begins.proofs.ProxiesBegin.OutLaws.{out_has_pipes}
use Rattle.law_node_begins.proofs.proxies_begin.pipes.proxies_keep_their_pipes.Goals as goal

pub returns : goal.returns
returns c = record { in_proxy = in_has_pipes; out_proxy = out_has_pipes }
