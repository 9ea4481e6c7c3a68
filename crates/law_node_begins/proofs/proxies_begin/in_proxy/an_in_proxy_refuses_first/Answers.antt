use Rattle.law_node_begins.proofs.ProxiesBegin.InLaws.{refuses_on_client, refuses_elsewhere}
use Rattle.law_node_begins.proofs.proxies_begin.in_proxy.an_in_proxy_refuses_first.Goals as goal

pub returns : goal.returns
returns c = record { client = refuses_on_client; elsewhere = refuses_elsewhere }
