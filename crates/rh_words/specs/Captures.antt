-- a run can be captured line by line and end at any time, and what is written line by line is the
-- text of its capture
use Rattle.std.proofs.Common.{◌≡◌, ℕ, List, [], ◌∷◌, ◌++◌, true, sym, ◌∙◌, ap}
use Rattle.rh_line.specs.declared.leg.Leg.{Leg}
use Rattle.rh_record.specs.declared.line.Line.{Line}
use Rattle.rh_record.specs.declared.line.Line.TheVariants.{First}
use Rattle.rh_record.specs.declared.place.Place.{Place}
use Rattle.rh_teller.specs.Tales as tales
use Rattle.rh_capture.specs.Captured.{captured, captured_behind}
use Rattle.rh_capture.specs.Recordings.{StandsInRoles, roles_recording}
use Rattle.rh_capture.specs.Telling.{capturing}
use Rattle.rh_capture.specs.TellingLaws.{NoFirst, captured-append, lines_text-append, of_roles, told_captured}
use Rattle.rh_capture.specs.Texts.{capture_text, first_text, lines_text}
use Rattle.rh_world.specs.declared.any_world.AnyWorld.{AnyWorld}
use Rattle.rh_world.specs.declared.any_world.AnyWorld.TheVariants.{Before, Settings}
use Rattle.rh_world.specs.Config.{roles_config}
use Rattle.rh_world.specs.Any.{step, last, told, run}
use Rattle.rh_word.specs.Words.{SaysOf}
use Rattle.rh_words.specs.Capture.{IsCaptured}
use Rattle.rh_words.specs.Retelling.{Retold, line_behind, retelling, retold}
use Rattle.rh_words.specs.Retellings as laws

pub goes_on : (s : Retold (List Leg)) (place : Place) (text : List ℕ) (line : Line)
    → StandsInRoles place text line
    → (said : List ℕ) × (next : Retold (List Leg)) × (retelling capturing).Does s line said next
goes_on s place text line h = laws.goes_on capturing s line

pub comes_to_end : (s : Retold (List Leg)) → (said : List ℕ) × (retelling capturing).Ends s said
comes_to_end s = laws.comes_to_end capturing s

-- what is told of lines behind the first is the text of their capture
captured_lines : (s : Retold (List Leg)) (lines : List Line) → NoFirst lines
    → retold capturing s lines ≡ lines_text (captured_behind s.teller (told s.world lines))
captured_lines s [] none = told_captured s.teller (last s.world)
captured_lines s (line ∷ lines) (none, more) =
    let answers = (step s.world line).1 in
    let next = line_behind capturing s line in
    let rest = told next.world lines in
    ap (λ (x : List ℕ). (x ++ tales.told capturing s.teller answers) ++ retold capturing next lines)
    none
    ∙ ap (λ (x : List ℕ). x ++ retold capturing next lines) (told_captured s.teller answers)
    ∙ ap (λ (x : List ℕ). lines_text (captured_behind s.teller answers) ++ x)
    (captured_lines next lines more)
    ∙ sym (lines_text-append (captured_behind s.teller answers) (captured_behind next.teller rest))
    ∙ ap lines_text (sym (captured-append s.teller answers rest))

-- and the first line of the capture stands before them
captured_first : (lines : List Line) → NoFirst lines
    → retold capturing (record { world = Before; teller = [] }) (First true ∷ lines)
    ≡ capture_text (captured (run (First true ∷ lines)))
captured_first lines none =
    ap (λ (x : List ℕ). first_text ++ x)
    (captured_lines (record { world = Settings roles_config; teller = [] }) lines none)

abbrev retold_of : AnyWorld → List Leg → Retold (List Leg)
retold_of world legs = record { world = world; teller = legs }

pub means : (text written : List ℕ) → SaysOf roles_recording (retelling capturing) text written
    → IsCaptured text written
means text written h =
    let roles = of_roles text h.lines h.is_text in
    let start : Retold (List Leg) = record { world = Before; teller = [] } in
    let starts : h.word ≡ start = by h.word h.starts.0 h.starts.1 in
    record {
      lines = h.lines;
      is_text = h.is_text;
      captured = laws.tells_retold capturing h.word h.lines written h.tells
          ∙ ap (λ (s : Retold (List Leg)). retold capturing s h.lines) starts
          ∙ ap (λ (l : List Line). retold capturing start l) roles.is
          ∙ captured_first roles.others roles.none
          ∙ ap (λ (l : List Line). capture_text (captured (run l))) (sym roles.is);
    }
  where
    by : (s : Retold (List Leg)) → s.world ≡ Before → s.teller ≡ []
        → s ≡ record { world = Before; teller = [] }
    by s e f =
        ap (λ (w : AnyWorld). retold_of w s.teller) e ∙ ap (λ (l : List Leg). retold_of Before l) f
