use Rattle.law_role_client.proofs.Counted.OutCounts.{replaces_outs}
use Rattle.law_role_client.proofs.counts.replacing.a_client_replaces_out_channels_one_by_one.Goals as goal

pub returns : goal.returns
returns c = replaces_outs
