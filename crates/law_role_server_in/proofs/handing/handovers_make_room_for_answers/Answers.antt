use Rattle.law_role_server_in.proofs.Follows.{answers_enough, few_answers, two_are_open}
use Rattle.law_role_server_in.proofs.handing.handovers_make_room_for_answers.Goals as goal

pub returns-clause-least : goal.returns-clause-least
returns-clause-least c = λ window moves may.
    answers_enough window moves may
    (λ front. c.a_server_answers_each_in_channel_once.ensures.answers window front)

pub returns-clause-most : goal.returns-clause-most
returns-clause-most c = λ window moves may.
    few_answers window moves may
    (λ front. c.a_server_answers_each_in_channel_once.ensures.answers window front)

pub returns-clause-two : goal.returns-clause-two
returns-clause-two c = λ window moves may.
    two_are_open window moves may
    (λ front. c.a_server_answers_each_in_channel_once.ensures.answers window front)
