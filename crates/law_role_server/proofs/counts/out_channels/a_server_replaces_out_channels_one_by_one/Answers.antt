use Rattle.law_role_server.proofs.Counted.Replacing.{are_replaced, are_in_turn, are_put_in_turn}
use Rattle.law_role_server.proofs.counts.out_channels.a_server_replaces_out_channels_one_by_one.Goals as goal

pub returns-clause-counts : goal.returns-clause-counts
returns-clause-counts c = are_replaced

pub returns-clause-order : goal.returns-clause-order
returns-clause-order c = are_in_turn

pub returns-clause-legs : goal.returns-clause-legs
returns-clause-legs c = are_put_in_turn
