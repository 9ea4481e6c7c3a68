use Rattle.law_world_reports.proofs.Naming.Standing.{Stands}
use Rattle.law_world_reports.proofs.Naming.Telling.{told_name_it}
use Rattle.law_world_reports.proofs.named.a_closed_end_names_its_cause.Goals as goal

pub returns : goal.returns
returns g c = λ r m d.
    let stands : Stands r m d = record {
      client = c.a_closed_end_tells_its_cause.ensures.client r d;
      server = c.a_closed_end_tells_its_cause.ensures.server r d;
      change = c.a_node_closes_once.ensures.change r m d;
      ever = c.a_node_closes_once.ensures.ever r m d;
      opens = c.what_carries_is_quiet.ensures.opens r m d;
      carries = c.what_carries_is_quiet.ensures.carries r m d;
      ends = c.what_carries_is_quiet.ensures.ends r m d;
      line = c.a_line_is_changes.ensures.line r m d;
      unreported = c.a_line_is_changes.ensures.unreported r m d;
      to_report = c.what_is_to_be_reported_has_closed.ensures r m d;
    } in
    told_name_it r m d stands
