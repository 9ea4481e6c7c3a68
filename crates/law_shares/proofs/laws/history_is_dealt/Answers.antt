use Rattle.law_shares.proofs.Dealing.{history-is-dealt}
use Rattle.law_shares.proofs.laws.history_is_dealt.Goals as goal

pub returns : goal.returns
returns g c = history-is-dealt c.calls_stand.ensures
