use Rattle.law_moves.proofs.Vocabulary.{EndPassage, all_end_moved, end_started}
use Rattle.law_role_server.proofs.Vocabulary.{acts, first, rules as server_rules, Server, has_leg}
use Rattle.law_role_server_in.proofs.CameUp.{kept_up}
use Rattle.law_role_server_in.proofs.Handed.{refuses_in_r1_a6}
use Rattle.law_role_server_in.proofs.Numbers.{numbers_given}
use Rattle.law_role_server_in.proofs.Orders.{unleft}
use Rattle.law_role_server_in.proofs.Replaced.{refuses_in_for}
use Rattle.law_role_server_in.proofs.Steps.{known}
use Rattle.law_role_server_in.proofs.refusals.what_a_server_refuses_of_in_channels.Goals as goal

pub returns-clause-handovers : goal.returns-clause-handovers
returns-clause-handovers c = λ window moves may.
    let p : EndPassage Server =
    all_end_moved server_rules acts (end_started (first window)) moves in
    refuses_in_r1_a6 window moves may
    (λ front. c.a_server_answers_each_in_channel_once.ensures.answers window front)
    (unleft p (has_leg moves p.passage.role)
    (c.a_server_takes_in_order.ensures window moves may))

pub returns-clause-legs : goal.returns-clause-legs
returns-clause-legs c = kept_up

pub returns-clause-numbers : goal.returns-clause-numbers
returns-clause-numbers c = numbers_given

pub returns-clause-refuses : goal.returns-clause-refuses
returns-clause-refuses c = λ window moves may.
    let p : EndPassage Server =
    all_end_moved server_rules acts (end_started (first window)) moves in
    refuses_in_for p.passage (known window moves may)
    (c.a_server_answers_each_in_channel_once.ensures.answers window moves)
    (c.a_server_opens_once.ensures window moves)
