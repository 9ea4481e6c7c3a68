-- what the word `replay` writes of the recording that came
use Rattle.std.specs.Prelude.{◌≡◌, ℕ, List, ◌∷◌, false}
use Rattle.rh_text.specs.Lines.{TextOf}
use Rattle.rh_record.specs.declared.line.Line.{Line}
use Rattle.rh_record.specs.declared.line.Line.TheVariants.{First}
use Rattle.rh_record.specs.Places.{recording}
use Rattle.rh_record.specs.Report.{report_text}
use Rattle.rh_world.specs.Any.{run}
use Rattle.rh_record.specs.Events.Order.{InOrder}

-- what came is a recording, and what was written is its report, which is in order where the
-- recording is a direct one
pub record IsReplayed (came written : List ℕ) : Type 0 where
  pub lines : List Line
  pub is_text : TextOf recording came lines
  pub report : written ≡ report_text (run lines)
  pub in_order : (behind : List Line) → lines ≡ First false ∷ behind → InOrder lines (run lines)
