use Rattle.law_role_inproxy.proofs.Putting.Sends.{sends_where_told}
use Rattle.law_role_inproxy.proofs.puts.an_in_proxy_sends_where_it_was_told.Goals as goal

pub returns : goal.returns
returns c = sends_where_told
