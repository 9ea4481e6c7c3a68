use Rattle.law_world_reports.proofs.Vocabulary.{Before, after, prepared}
use Rattle.law_world_reports.proofs.Closed.Reported.{report_shows}
use Rattle.law_world_reports.proofs.closes.recordings.each_cause_of_a_recording_shows.Goals as goal

pub returns : goal.returns
returns c = λ before line node why h.
    report_shows (prepared (after Before before) line) line node why
    (c.each_close_of_a_recording_shows.ensures before line node why h)
