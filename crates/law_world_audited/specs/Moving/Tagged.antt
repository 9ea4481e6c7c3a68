-- the legs that have tags in a capture (profile)
use Rattle.std.specs.Prelude.{◌≡◌, List, [], Bool, true, Some}
use Rattle.std.specs.List.{list_any}
use Rattle.rh_text.specs.declared.ends.Dir.{Dir}
use Rattle.rh_line.specs.declared.leg.Leg.{Leg}
use Rattle.rh_record.specs.declared.answer.Answer.{Answer}
use Rattle.rh_teller.specs.Tales.{behind}
use Rattle.rh_audit.specs.declared.seen.Seen.{Seen}
use Rattle.rh_capture.specs.Legs.{same_leg, tag_of}
use Rattle.rh_capture.specs.Moves.{pipe_of}
use Rattle.rh_capture.specs.Telling.{capturing}

abbrev pub is_met : List Leg → Leg → Bool
is_met legs leg = list_any (λ one. same_leg one leg) legs

-- those that have a line of the capture of a report
abbrev pub legs_met : List Answer → List Leg
legs_met report = behind capturing [] report

-- the line is one of a pipe of a leg that has this tag among these
pub record IsLineOf (legs : List Leg) (line : Seen) : Type 0 where
  pub leg : Leg
  pub dir : Dir
  pub met : is_met legs leg ≡ true
  pub tag : line.tag ≡ tag_of legs leg
  pub pipe : pipe_of leg.kind dir ≡ Some line.pipe
