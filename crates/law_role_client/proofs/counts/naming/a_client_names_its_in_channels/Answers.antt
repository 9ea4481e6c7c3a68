use Rattle.law_role_client.proofs.Counted.InNames.{names_ins}
use Rattle.law_role_client.proofs.counts.naming.a_client_names_its_in_channels.Goals as goal

pub returns : goal.returns
returns c = names_ins
