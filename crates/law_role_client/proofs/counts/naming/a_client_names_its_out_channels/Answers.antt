use Rattle.law_role_client.proofs.Counted.OutNames.{names_outs}
use Rattle.law_role_client.proofs.counts.naming.a_client_names_its_out_channels.Goals as goal

pub returns : goal.returns
returns c = names_outs
