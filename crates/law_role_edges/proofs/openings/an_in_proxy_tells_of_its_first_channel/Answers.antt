use Rattle.law_role_edges.proofs.InChannels.{opens_all}
use Rattle.law_role_edges.proofs.openings.an_in_proxy_tells_of_its_first_channel.Goals as goal

pub returns : goal.returns
returns c = opens_all
