use Rattle.law_role_client.proofs.Counted.InCounts.{replaces_ins}
use Rattle.law_role_client.proofs.counts.replacing.a_client_replaces_in_channels_one_by_one.Goals as goal

pub returns : goal.returns
returns c = replaces_ins
