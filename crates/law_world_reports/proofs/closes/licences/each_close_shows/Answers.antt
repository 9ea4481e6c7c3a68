use Rattle.law_node_history.proofs.Vocabulary.{rules_of}
use Rattle.law_world_reports.proofs.Closed.Licensed.{line_licenses}
use Rattle.law_world_reports.proofs.closes.licences.each_close_shows.Goals as goal

pub returns : goal.returns
returns g c = λ m d line w node why.
    line_licenses (rules_of g.C.Role.rules g.S.Role.rules g.I.Role.rules g.O.Role.rules) m d
    (record {
      client = c.events_close_with_their_causes.ensures;
      server = c.events_close_with_their_causes-2.ensures;
      in_proxy = c.events_close_with_their_causes-3.ensures;
      out_proxy = c.events_close_with_their_causes-4.ensures;
    }) line w node why
