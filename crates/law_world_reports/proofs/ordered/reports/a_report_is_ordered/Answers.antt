use Rattle.law_order.proofs.Vocabulary.{sym, subst}
use Rattle.law_role_client.proofs.Vocabulary.{ClientRole}
use Rattle.law_role_server.proofs.Vocabulary.{Server, is_closing}
use Rattle.law_node_history.proofs.Vocabulary.{events, offered, told, nothing}
use Rattle.law_node_traces.proofs.Vocabulary.{deeds, rules}
use Rattle.law_world_reports.proofs.Ordering.Ordering.{Telling, in_order, none_taken_after, none_given_after, all_at_clean_end}
use Rattle.law_world_reports.proofs.Vocabulary.{GivesUntilClosing}
use Rattle.law_world_reports.proofs.ordered.reports.a_report_is_ordered.Goals as goal

pub returns : goal.returns
returns g c = λ m lines w ours new none law.
    let pdus = offered lines in
    let all = events (told rules m deeds w lines) in
    let telling : Telling m w pdus all = record {
      moment = c.a_report_tells_what_was_given_and_taken.ensures rules m deeds lines w none;
      gives_no_more = c.what_passes_no_more_is_not_told.ensures.given rules m deeds w pdus;
      closed_takes = c.nothing_is_told_of_a_closed_end.ensures.taken rules m deeds lines w none;
      closed_gives = c.nothing_is_told_of_a_closed_end.ensures.given rules m deeds lines w none;
      goes_on = c.the_history_of_an_end_goes_on.ensures.ever rules m deeds;
      closes_on = c.the_history_of_an_end_goes_on.ensures.closes rules m deeds;
      runs = λ v leads.
          c.each_node_is_what_its_history_made.ensures.changes rules m deeds w.company w v nothing
          leads (c.each_node_is_what_its_history_made.ensures.begins rules m deeds w new);
      client = subst (GivesUntilClosing rules.client deeds.client
          (λ (s : ClientRole). s.is_closing)) (sym ours.client)
          (c.a_client_gives_until_it_is_told_to_close.ensures ours.config);
      server = subst (GivesUntilClosing rules.server deeds.server
          (λ (s : Server). is_closing s.giving)) (sym ours.server)
          (c.a_server_gives_until_it_is_told_to_close.ensures ours.window);
    } in
    record {
      in_order = in_order m w pdus all telling law;
      none_taken_after = none_taken_after m w pdus all telling law;
      none_given_after = none_given_after m w pdus all telling;
      all_at_clean_end = all_at_clean_end m w pdus all telling law;
    }
