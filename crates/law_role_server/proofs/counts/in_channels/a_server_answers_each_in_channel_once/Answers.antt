use Rattle.law_role_server.proofs.Counted.EndMarks.{end_once}
use Rattle.law_role_server.proofs.Counted.Steps.{p, are_answered, begin_once}
use Rattle.law_role_server.proofs.counts.in_channels.a_server_answers_each_in_channel_once.Goals as goal

pub returns-clause-answers : goal.returns-clause-answers
returns-clause-answers c = are_answered

pub returns-clause-once : goal.returns-clause-once
returns-clause-once c = begin_once

pub returns-clause-ended : goal.returns-clause-ended
returns-clause-ended c = λ window moves may.
    let law = c.a_server_takes_in_order.ensures window moves may in record {
      in_r1_a6 = λ n. (end_once n (p window moves).came (law.channel n)).0;
      end_a2 = λ n. (end_once n (p window moves).came (law.channel n)).1;
    }
