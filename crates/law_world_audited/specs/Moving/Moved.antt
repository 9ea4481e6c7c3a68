-- the bytes that a report tells moved on a leg in a direction (profile)
use Rattle.std.specs.Prelude.{ℕ, ◌&&◌, ◌++◌, List, [], ◌∷◌, Bool, true, false, if◌then◌else◌, Some}
use Rattle.rh_text.specs.declared.ends.Dir.{Dir}
use Rattle.rh_text.specs.declared.ends.Dir.TheVariants.{U, D}
use Rattle.rh_line.specs.declared.leg.Leg.{Leg}
use Rattle.rh_record.specs.declared.answer.Answer.{Answer}
use Rattle.rh_record.specs.declared.answer.Answer.TheVariants as answer
use Rattle.rh_shell.specs.Shells.{same_leg}

abbrev pub same_dir : Dir → Dir → Bool
same_dir U U = true
same_dir U D = false
same_dir D U = false
same_dir D D = true

-- what an answer tells
abbrev pub moved_by : Leg → Dir → Answer → List ℕ
moved_by leg dir (answer.Move (Some other) way (Some bytes)) =
    if same_leg other leg && same_dir way dir then bytes else []
moved_by leg dir one = []

-- what answers tell, one behind the other
abbrev pub moved_on : Leg → Dir → List Answer → List ℕ
moved_on leg dir [] = []
moved_on leg dir (one ∷ answers) = moved_by leg dir one ++ moved_on leg dir answers
