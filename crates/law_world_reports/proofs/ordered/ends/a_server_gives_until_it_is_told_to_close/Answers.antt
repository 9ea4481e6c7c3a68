use Rattle.rh_server.specs.Servers as server
use Rattle.law_role_server.proofs.Vocabulary.{Server, is_closing}
use Rattle.law_world_reports.proofs.Ordering.UntilClosing.{gives_until_closing}
use Rattle.law_world_reports.proofs.ordered.ends.a_server_gives_until_it_is_told_to_close.Goals as goal

pub returns : goal.returns
returns c = λ window.
    gives_until_closing server.rules server.acts (λ (s : Server). is_closing s.giving)
    c.a_server_that_closes_gives_no_more.ensures.close
    c.a_server_that_closes_gives_no_more.ensures.events
    c.a_server_that_closes_gives_no_more.ensures.closed (server.new_server window)
    (λ events. (c.ends_move_by_their_rules.ensures.run (server.first window) server.rooms
    events).held)
