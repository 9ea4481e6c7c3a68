use Rattle.law_peers_forwarding.proofs.Answered.{one_is_due}
use Rattle.law_peers_forwarding.proofs.due.one_answer_is_due.Goals as goal

pub returns : goal.returns
returns c numbers reader moves moment =
    one_is_due numbers reader moves moment (c.replacements_go_round.ensures numbers)
    (c.a_server_answers_each_in_channel_once.ensures.answers numbers.window)
