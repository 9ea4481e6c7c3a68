use Rattle.rh_world.specs.Roles as roles
use Rattle.law_world_reports.proofs.Naming.Made.{makes_going}
use Rattle.law_world_reports.proofs.Naming.Reporting.{Reports, names_reported}
use Rattle.law_world_reports.proofs.close_lines.an_end_of_a_recording_names_what_was_reported.Goals as goal

pub returns : goal.returns
returns c =
    let reports : Reports = record {
      works = c.a_line_is_changes.ensures.unreported roles.rules roles.makers roles.deeds;
      reported =
          c.what_is_reported_closed_was_closed.ensures.reported roles.rules roles.makers
          roles.deeds;
      stands =
          c.what_stands_closed_was_closed.ensures roles.rules roles.makers roles.deeds makes_going;
    } in
    names_reported reports
