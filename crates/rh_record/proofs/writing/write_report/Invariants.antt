-- the answers before a place are written, and those from it on are left
use Rattle.std.proofs.Common.{drop, string_bytes}
use Rattle.rh_text.proofs.Appending.{IsWritten}
use Rattle.rh_record.specs.Report.{report_text}
use Rattle.rh_record.proofs.writing.write_report.Given as goal

abbrev pub invariant-loop-answer : goal.invariant-loop-answer
invariant-loop-answer l =
    IsWritten (report_text l.answers) (string_bytes l.fn.out) (string_bytes l.out)
    (report_text (drop l.answer-index l.answers))
