use Rattle.law_role_edges.proofs.OutChannels.{out_opens}
use Rattle.law_role_edges.proofs.openings.an_out_proxy_tells_of_its_channel.Goals as goal

pub returns : goal.returns
returns c = out_opens
