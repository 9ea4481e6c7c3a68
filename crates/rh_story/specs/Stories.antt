-- the story of a recording: what is told of each line and of each answer (profile)
use Rattle.std.specs.Prelude.{ℕ, Bool, true, false, List, [], ◌∷◌, ◌++◌, codes, Some, None, Ok}
use Rattle.std.specs.declared.option.Option.{Option}
use Rattle.std.specs.Fmt.{decimal}
use Rattle.hex.specs.Hex.{encode_lower}
use Rattle.rh_text.specs.declared.ends.Dir.{Dir}
use Rattle.rh_text.specs.declared.ends.Side.{Side}
use Rattle.rh_text.specs.Ends.{side_word}
use Rattle.rh_line.specs.declared.leg.Leg.{Leg}
use Rattle.rh_record.specs.declared.answer.TakeAnswer.TheVariants as takes
use Rattle.rh_record.specs.declared.answer.Answer.{Answer}
use Rattle.rh_record.specs.declared.answer.Answer.TheVariants as answers
use Rattle.rh_record.specs.declared.line.Line.{Line}
use Rattle.rh_record.specs.declared.line.Line.TheVariants as lines
use Rattle.rh_record.specs.Report.{report_text, route_text}
use Rattle.rh_story.specs.declared.rounds.Settling.{Settling}
use Rattle.rh_story.specs.Rounds.{begins, behind, settling_of}
use Rattle.rh_story.specs.Streams.{held_of, key_of, pipe_of, way_word, with_held}
use Rattle.rh_story.specs.Items.{items_from, held_from}
use Rattle.rh_story.specs.Brief.{frame_brief, item_brief}

-- the moment in milliseconds, whether bytes are told as hex too, what is held of each stream, and
-- the settling that goes on
pub record Telling : Type 0 where
  pub moment : ℕ
  pub hex : Bool
  pub held : List (List ℕ × List ℕ)
  pub settling : Option Settling

-- nothing happened yet
abbrev pub begun : Bool → Telling
begun hex = record { moment = 0; hex = hex; held = []; settling = None }

-- ---- lines of the story

-- the moment, and what is told
abbrev pub stamped : ℕ → List ℕ → List ℕ
stamped moment text = decimal moment ++ codes " " ++ text

-- the bytes in hex, where they are asked for, and the end of the line
abbrev pub end_text : Bool → List ℕ → List ℕ
end_text true bytes = codes " " ++ encode_lower bytes ++ codes "\n"
end_text false bytes = codes "\n"

-- the moment, a verb and an end
abbrev pub side_text : ℕ → List ℕ → Side → List ℕ
side_text moment verb side = stamped moment (verb ++ side_word side ++ codes " ")

-- a PDU at an end
abbrev pub pdu_line : ℕ → Bool → List ℕ → Side → List ℕ → List ℕ
pdu_line moment hex verb side bytes =
    side_text moment verb side ++ (frame_brief None bytes ++ end_text hex bytes)

-- the moment and the stream
abbrev pub stream_text : ℕ → Option Leg → Dir → List ℕ
stream_text moment leg dir =
    stamped moment (route_text leg ++ codes " " ++ way_word leg dir ++ codes " ")

-- an item of a stream
abbrev pub item_line : ℕ → Bool → Option Leg → Dir → List ℕ → List ℕ
item_line moment hex leg dir bytes =
    stream_text moment leg dir ++ (item_brief (pipe_of leg dir) bytes ++ end_text hex bytes)

abbrev pub item_lines : ℕ → Bool → Option Leg → Dir → List (List ℕ) → List ℕ
item_lines moment hex leg dir [] = []
item_lines moment hex leg dir (item ∷ items) =
    item_line moment hex leg dir item ++ item_lines moment hex leg dir items

-- ---- what is told

-- an answer is of a round
abbrev pub in_round : Telling → Answer → Telling
in_round s answer = record s { settling = behind s.settling answer }

-- the round that begins
abbrev pub round_text : ℕ → Option ℕ → List ℕ
round_text moment None = []
round_text moment (Some number) =
    stamped moment (codes "round " ++ decimal number ++ codes "\n")

-- of a line, before it is answered: the PDU that is given
abbrev pub line_told : Telling → Line → List ℕ
line_told s (lines.Give side pdu) = pdu_line s.moment s.hex (codes "give ") side pdu
line_told s _ = []

-- of a move: the items that it makes whole
abbrev pub moved_told : Telling → Option Leg → Dir → List ℕ → List ℕ
moved_told s leg dir bytes =
    item_lines s.moment s.hex leg dir (items_from (held_of s.held (key_of leg dir)) bytes)

-- of an answer: a give that was taken says no more; any other stands as in the report
abbrev pub answer_told : Telling → Answer → List ℕ
answer_told s (answers.Give side (Ok len)) = []
answer_told s (answers.Take side (takes.Pdu pdu)) =
    pdu_line s.moment s.hex (codes "take ") side pdu
answer_told s (answers.Move leg dir (Some bytes)) = moved_told s leg dir bytes
answer_told s (answers.Move leg dir None) = []
answer_told s answer = stamped s.moment (report_text (answer ∷ []))

-- and before it, of the round that it begins
abbrev pub told : Telling → Answer → List ℕ
told s answer =
    round_text s.moment (begins s.settling answer) ++ answer_told (in_round s answer) answer

-- ---- what is so behind a line or an answer

-- a line ends the settling of the line before it, and may begin one
abbrev pub heard : Telling → Line → Telling
heard s line = record s { settling = settling_of line }

-- behind a move: of its stream the bytes that make no whole item are held
abbrev pub after_move : Telling → Option Leg → Dir → List ℕ → Telling
after_move s leg dir bytes = record s {
  held = with_held s.held (key_of leg dir)
      (held_from (held_of s.held (key_of leg dir)) bytes);
}

abbrev pub after_answer : Telling → Answer → Telling
after_answer s (answers.Tick now true) = record s { moment = now }
after_answer s (answers.Move leg dir (Some bytes)) = after_move s leg dir bytes
after_answer s _ = s

abbrev pub after : Telling → Answer → Telling
after s answer = after_answer (in_round s answer) answer
