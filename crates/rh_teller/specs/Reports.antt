-- a report tells nothing of a line, and of each answer its text
use Rattle.std.specs.Prelude.{[], ◌∷◌}
use Rattle.rh_record.specs.Report.{report_text}
use Rattle.rh_teller.specs.declared.reporter.Reporter.{Reporter}
use Rattle.rh_teller.specs.Tales.{Tale}

abbrev pub report : Tale Reporter
report = record {
  first = record {};
  line = λ teller line. [];
  heard = λ teller line. teller;
  answer = λ teller answer. report_text (answer ∷ []);
  after = λ teller answer. teller;
}
