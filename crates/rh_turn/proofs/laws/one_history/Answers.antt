use Rattle.rh_turn.proofs.Histories.{reply_last, reply_stays, all_are_as_many}
use Rattle.rh_turn.proofs.laws.one_history.Goals as goal

pub returns-clause-last : goal.returns-clause-last
returns-clause-last g c = reply_last g.M.Machine.next g.M.Machine.reply

pub returns-clause-stays : goal.returns-clause-stays
returns-clause-stays g c = reply_stays g.M.Machine.next g.M.Machine.reply

pub returns-clause-count : goal.returns-clause-count
returns-clause-count g c = all_are_as_many
