use Rattle.law_node_marks.proofs.InProxyOver.{unput_on_client}
use Rattle.law_node_marks.proofs.in_proxy.an_in_proxy_puts_nothing_to_its_client.Goals as goal

pub returns : goal.returns
returns c = unput_on_client
