use Rattle.rh_client.specs.Client as client
use Rattle.law_role_client.proofs.Vocabulary.{ClientRole, first}
use Rattle.law_world_reports.proofs.Ordering.UntilClosing.{gives_until_closing}
use Rattle.law_world_reports.proofs.ordered.ends.a_client_gives_until_it_is_told_to_close.Goals as goal

pub returns : goal.returns
returns c = λ config.
    gives_until_closing client.rules client.acts (λ (s : ClientRole). s.is_closing)
    c.a_client_that_closes_gives_no_more.ensures.close
    c.a_client_that_closes_gives_no_more.ensures.events
    c.a_client_that_closes_gives_no_more.ensures.closed (client.first_client config)
    (λ events. (c.ends_move_by_their_rules.ensures.run (first config) client.rooms
    events).held)
