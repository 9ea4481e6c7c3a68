-- the capture of a run is told while it runs: its first line with that of the recording, and a line
-- with each answer that has one
use Rattle.std.specs.Prelude.{ℕ, List, []}
use Rattle.rh_line.specs.declared.leg.Leg.{Leg}
use Rattle.rh_record.specs.declared.line.Line.{Line}
use Rattle.rh_record.specs.declared.line.Line.TheVariants.{First}
use Rattle.rh_teller.specs.Tales.{Tale}
use Rattle.rh_capture.specs.Captured.{line_of, met}
use Rattle.rh_capture.specs.Texts.{first_text, lines_text}

abbrev pub first_told : Line → List ℕ
first_told (First roles) = first_text
first_told _ = []

abbrev pub capturing : Tale (List Leg)
capturing = record {
  first = [];
  line = λ legs line. first_told line;
  heard = λ legs line. legs;
  answer = λ legs answer. lines_text (line_of legs answer);
  after = λ legs answer. met legs answer;
}
