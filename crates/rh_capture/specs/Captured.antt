-- the capture of a run: a line for each move of bytes, in the order of the report (profile)
use Rattle.std.specs.Prelude.{ℕ, List, [], ◌∷◌, ◌++◌, map, Some, None}
use Rattle.std.specs.declared.option.Option.{Option}
use Rattle.rh_line.specs.declared.leg.Leg.{Leg}
use Rattle.rh_record.specs.declared.answer.Answer.{Answer}
use Rattle.rh_audit.specs.declared.seen.Seen.{Seen}
use Rattle.rh_capture.specs.declared.capturing.Moved.{Moved}
use Rattle.rh_capture.specs.Legs.{tag_of, with_leg}
use Rattle.rh_capture.specs.Moves.{Move, moves}

-- the lines of moves behind legs that have a line
abbrev pub lines_of : List Leg → List Move → List Seen
lines_of legs [] = []
lines_of legs (move ∷ moved) =
    record { tag = tag_of legs move.leg; pipe = move.pipe; bytes = move.bytes }
    ∷ lines_of (with_leg legs move.leg) moved

-- the legs that have a line then
abbrev pub legs_behind : List Leg → List Move → List Leg
legs_behind legs [] = legs
legs_behind legs (move ∷ moved) = legs_behind (with_leg legs move.leg) moved

-- an answer has a line at most
abbrev pub line_of : List Leg → Answer → List Seen
line_of legs answer = lines_of legs (moves answer)

abbrev pub met : List Leg → Answer → List Leg
met legs answer = legs_behind legs (moves answer)

-- the lines of answers behind legs that have a line
abbrev pub captured_behind : List Leg → List Answer → List Seen
captured_behind legs [] = []
captured_behind legs (answer ∷ answers) =
    line_of legs answer ++ captured_behind (met legs answer) answers

-- tags count from 1 in the order in which a leg first has a line
abbrev pub captured : List Answer → List Seen
captured report = captured_behind [] report

-- ---- lines whose bytes stand elsewhere

abbrev pub seen_of : Moved → Seen
seen_of line = record { tag = line.tag; pipe = line.pipe; bytes = line.bytes.now }

abbrev pub all_seen : Option Moved → List Seen
all_seen None = []
all_seen (Some line) = seen_of line ∷ []
