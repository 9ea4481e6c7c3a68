-- a replay can do any line and end at any time, and what it writes line by line is the report of
-- the recording
use Rattle.std.proofs.Common.{◌≡◌, ℕ, List, [], ◌∷◌, ◌++◌, sym, ◌∙◌, ap}
use Rattle.rh_record.specs.declared.line.Line.{Line}
use Rattle.rh_record.specs.declared.place.Place.{Place}
use Rattle.rh_record.specs.Places.{Stands, recording}
use Rattle.rh_record.specs.Report.{report_text}
use Rattle.rh_record.proofs.Reports.{report_text-append}
use Rattle.rh_teller.specs.declared.reporter.Reporter.{Reporter}
use Rattle.rh_teller.specs.Reports.{report}
use Rattle.rh_teller.specs.ReportLaws.{told_report}
use Rattle.rh_world.specs.declared.any_world.AnyWorld.{AnyWorld}
use Rattle.rh_world.specs.Any.{step, last, told}
use Rattle.rh_world.proofs.Either.{direct_in_order}
use Rattle.rh_word.specs.Words.{SaysOf}
use Rattle.rh_words.specs.Replay.{IsReplayed}
use Rattle.rh_words.specs.Retelling.{Retold, line_behind, retelling, retold}
use Rattle.rh_words.specs.Retellings as laws

pub goes_on : (s : Retold Reporter) (place : Place) (text : List ℕ) (line : Line)
    → Stands place text line
    → (said : List ℕ) × (next : Retold Reporter) × (retelling report).Does s line said next
goes_on s place text line h = laws.goes_on report s line

pub comes_to_end : (s : Retold Reporter) → (said : List ℕ) × (retelling report).Ends s said
comes_to_end s = laws.comes_to_end report s

-- what is told of lines is the text of what they are answered
reported : (s : Retold Reporter) (lines : List Line)
    → retold report s lines ≡ report_text (told s.world lines)
reported s [] = told_report s.teller (last s.world)
reported s (line ∷ lines) =
    ap (λ (x : List ℕ). x ++ retold report (line_behind report s line) lines)
    (told_report s.teller (step s.world line).1)
    ∙ ap (λ (x : List ℕ). report_text (step s.world line).1 ++ x)
    (reported (line_behind report s line) lines)
    ∙ sym (report_text-append (step s.world line).1 (told (step s.world line).0 lines))

pub means : (text written : List ℕ) → SaysOf recording (retelling report) text written
    → IsReplayed text written
means text written h = record {
  lines = h.lines;
  is_text = h.is_text;
  report = laws.tells_retold report h.word h.lines written h.tells
      ∙ reported h.word h.lines
      ∙ ap (λ (w : AnyWorld). report_text (told w h.lines)) h.starts.0;
  in_order = direct_in_order h.lines;
}
