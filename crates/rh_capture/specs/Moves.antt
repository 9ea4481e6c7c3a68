-- bytes that were moved on legs, by the pipes that a capture has (MS-RPCH 3.2)
use Rattle.std.specs.Prelude.{ℕ, List, [], ◌∷◌, Some, None}
use Rattle.std.specs.declared.option.Option.{Option}
use Rattle.rh_text.specs.declared.ends.Dir.{Dir}
use Rattle.rh_text.specs.declared.ends.Dir.TheVariants.{U, D}
use Rattle.rh_sig.specs.declared.name.Pipe.{Pipe}
use Rattle.rh_sig.specs.declared.name.Pipe.TheVariants.{CiU, IsU, CoU, CoD, OsU, OsD}
use Rattle.rh_line.specs.declared.leg.Leg.{Leg}
use Rattle.rh_line.specs.declared.leg.LegKind.{LegKind}
use Rattle.rh_line.specs.declared.leg.LegKind.TheVariants.{ClientOut, OutServer, ClientIn, InServer}
use Rattle.rh_record.specs.declared.answer.Answer.{Answer}
use Rattle.rh_record.specs.declared.answer.Answer.TheVariants as answers

-- the pipe of a leg in a direction, where a capture has it
abbrev pub pipe_of : LegKind → Dir → Option Pipe
pipe_of ClientIn U = Some CiU
pipe_of ClientIn D = None
pipe_of InServer U = Some IsU
pipe_of InServer D = None
pipe_of ClientOut U = Some CoU
pipe_of ClientOut D = Some CoD
pipe_of OutServer U = Some OsU
pipe_of OutServer D = Some OsD

pub record Move : Type 0 where
  pub leg : Leg
  pub pipe : Pipe
  pub bytes : List ℕ

-- some bytes on such a pipe
abbrev pub move_on : Leg → Option Pipe → List ℕ → List Move
move_on leg None bytes = []
move_on leg (Some pipe) [] = []
move_on leg (Some pipe) (b ∷ bytes) =
    record { leg = leg; pipe = pipe; bytes = b ∷ bytes } ∷ []

-- what an answer says was moved
abbrev pub moves : Answer → List Move
moves (answers.Move (Some leg) dir (Some bytes)) = move_on leg (pipe_of leg.kind dir) bytes
moves _ = []
