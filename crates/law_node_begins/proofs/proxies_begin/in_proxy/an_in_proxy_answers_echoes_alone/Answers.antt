use Rattle.law_node_begins.proofs.ProxiesBegin.InLaws.{unechoed}
use Rattle.law_node_begins.proofs.proxies_begin.in_proxy.an_in_proxy_answers_echoes_alone.Goals as goal

pub returns : goal.returns
returns c config moves number allowed turn none = unechoed config moves allowed turn number none
