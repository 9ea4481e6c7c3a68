-- what the word `capture` writes of the recording that came
use Rattle.std.specs.Prelude.{◌≡◌, ℕ, List}
use Rattle.rh_text.specs.Lines.{TextOf}
use Rattle.rh_record.specs.declared.line.Line.{Line}
use Rattle.rh_capture.specs.Captured.{captured}
use Rattle.rh_capture.specs.Recordings.{roles_recording}
use Rattle.rh_capture.specs.Texts.{capture_text}
use Rattle.rh_world.specs.Any.{run}

-- what came is a recording of roles, and what was written is the capture of its run
pub record IsCaptured (came written : List ℕ) : Type 0 where
  pub lines : List Line
  pub is_text : TextOf roles_recording came lines
  pub captured : written ≡ capture_text (captured (run lines))
