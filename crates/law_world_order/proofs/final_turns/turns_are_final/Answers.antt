use Rattle.std.proofs.Common.{sym, subst}
use Rattle.rh_client.specs.declared.state.ClientRole.{ClientRole}
use Rattle.rh_server.specs.States.{Server, is_closing}
use Rattle.law_node_history.specs.Changes.{after_turns}
use Rattle.law_node_history.specs.Histories.{nothing}
use Rattle.law_node_traces.specs.Traced.Ours.{deeds, rules}
use Rattle.law_world_reports.specs.Ordering.Ends.{GivesUntilClosing}
use Rattle.law_world_order.proofs.Finality.{Finals, is_final}
use Rattle.law_world_order.proofs.final_turns.turns_are_final.Goals as goal

pub returns : goal.returns
returns g c = λ m w new ours ranges before later whole whole_later.
    let v = after_turns rules m deeds w before in
    let u = after_turns rules m deeds v later in
    let law : Finals m w = record {
      goes_on = c.the_history_of_an_end_goes_on.ensures.ever rules m deeds;
      runs = λ x leads.
          c.each_node_is_what_its_history_made.ensures.changes rules m deeds w.company w x nothing
          leads (c.each_node_is_what_its_history_made.ensures.begins rules m deeds w new);
      still = c.what_a_closed_end_takes_and_gives.ensures rules m deeds w.company;
      client = subst (GivesUntilClosing rules.client deeds.client
          (λ (s : ClientRole). s.is_closing)) (sym ours.client)
          (c.a_client_gives_until_it_is_told_to_close.ensures ours.config);
      server = subst (GivesUntilClosing rules.server deeds.server
          (λ (s : Server). is_closing s.giving)) (sym ours.server)
          (c.a_server_gives_until_it_is_told_to_close.ensures ours.window);
      keeps = c.roles_keep_order.ensures m w new ours ranges;
    } in
    is_final m w law v u (c.turns_are_changes.ensures.turns rules m deeds before w whole)
    (c.turns_are_changes.ensures.turns rules m deeds later v whole_later)
