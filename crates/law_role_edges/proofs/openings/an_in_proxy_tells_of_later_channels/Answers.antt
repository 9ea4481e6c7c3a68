use Rattle.law_role_edges.proofs.InChannels.{joins_all}
use Rattle.law_role_edges.proofs.openings.an_in_proxy_tells_of_later_channels.Goals as goal

pub returns : goal.returns
returns c = joins_all
