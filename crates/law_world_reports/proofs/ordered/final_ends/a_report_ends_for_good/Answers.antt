use Rattle.law_order.proofs.Vocabulary.{◌≡◌, List, true, sym, subst}
use Rattle.law_moves.proofs.Vocabulary.{Shell, EndEvent, IsClosed, after_end_events}
use Rattle.law_role_client.proofs.Vocabulary.{ClientRole}
use Rattle.law_role_server.proofs.Vocabulary.{Server, is_closing}
use Rattle.law_node_history.proofs.Vocabulary.{events, offered, told, IsOneOf, nothing}
use Rattle.law_node_traces.proofs.Vocabulary.{deeds, rules}
use Rattle.law_world_reports.proofs.Ordering.Final.{none_given_behind_end, told_before_end}
use Rattle.law_world_reports.proofs.Ordering.Ordering.{Telling}
use Rattle.law_world_reports.proofs.Vocabulary.{GivesUntilClosing}
use Rattle.law_world_reports.proofs.ordered.final_ends.a_report_ends_for_good.Goals as goal

pub returns : goal.returns
returns g c = λ m lines w ours new none law.
    let pdus = offered lines in
    let all = events (told rules m deeds w lines) in
    let telling : Telling m w pdus all = record {
      moment = c.a_report_tells_what_was_given_and_taken.ensures rules m deeds lines w none;
      gives_no_more = c.what_passes_no_more_is_not_told.ensures.given rules m deeds w pdus;
      closed_takes = c.nothing_is_told_of_a_closed_end.ensures.taken rules m deeds lines w none;
      closed_gives = c.nothing_is_told_of_a_closed_end.ensures.given rules m deeds lines w none;
      goes_on = c.the_history_of_an_end_goes_on.ensures.ever rules m deeds;
      closes_on = c.the_history_of_an_end_goes_on.ensures.closes rules m deeds;
      runs = λ v leads.
          c.each_node_is_what_its_history_made.ensures.changes rules m deeds w.company w v nothing
          leads (c.each_node_is_what_its_history_made.ensures.begins rules m deeds w new);
      client = subst (GivesUntilClosing rules.client deeds.client
          (λ (s : ClientRole). s.is_closing)) (sym ours.client)
          (c.a_client_gives_until_it_is_told_to_close.ensures ours.config);
      server = subst (GivesUntilClosing rules.server deeds.server
          (λ (s : Server). is_closing s.giving)) (sym ours.server)
          (c.a_server_gives_until_it_is_told_to_close.ensures ours.window);
    } in
    let client_told : (events : List EndEvent)
    → (after_end_events rules.client deeds.client w.company.client events).role.is_closing ≡ true
    → IsOneOf IsClosed events =
    subst (λ (s : Shell ClientRole). (events : List EndEvent)
    → (after_end_events rules.client deeds.client s events).role.is_closing ≡ true
    → IsOneOf IsClosed events) (sym ours.client)
    (c.a_client_that_closes_was_told.ensures ours.config) in
    let server_told : (events : List EndEvent)
    → is_closing (after_end_events rules.server deeds.server w.company.server events).role.giving
    ≡ true
    → IsOneOf IsClosed events =
    subst (λ (s : Shell Server). (events : List EndEvent)
    → is_closing (after_end_events rules.server deeds.server s events).role.giving ≡ true
    → IsOneOf IsClosed events) (sym ours.server)
    (c.a_server_that_closes_was_told.ensures ours.window) in
    record {
      told = told_before_end m w pdus all telling law client_told server_told;
      gives_none = none_given_behind_end m w pdus all telling law client_told server_told;
    }
