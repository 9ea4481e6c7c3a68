-- the text of a report: one answer a line, each ended by LF (profile)
use Rattle.std.specs.Prelude.{ℕ, List, [], ◌∷◌, ◌++◌, Bool, true, false, length, codes, Ok, Err, Some, None}
use Rattle.std.specs.declared.result.Result.{Result}
use Rattle.std.specs.declared.option.Option.{Option}
use Rattle.std.specs.Fmt.{decimal}
use Rattle.hex.specs.Hex.{encode_lower}
use Rattle.rh_text.specs.declared.ends.Side.{Side}
use Rattle.rh_text.specs.declared.ends.Side.TheVariants.{Client, Server}
use Rattle.rh_text.specs.Ends.{side_word, dir_word}
use Rattle.rh_text.specs.declared.lines.TheConstants.{LINE_FEED}
use Rattle.rh_pdu.specs.Texts.{pdu_fault_text}
use Rattle.rh_line.specs.declared.leg.Leg.{Leg}
use Rattle.rh_line.specs.declared.state.State.{State}
use Rattle.rh_line.specs.declared.state.State.TheVariants as states
use Rattle.rh_line.specs.declared.give_fault.GiveFault.{GiveFault}
use Rattle.rh_line.specs.declared.give_fault.GiveFault.TheVariants as gives
use Rattle.rh_line.specs.declared.recycle_fault.RecycleFault.{RecycleFault}
use Rattle.rh_line.specs.declared.recycle_fault.RecycleFault.TheVariants as recycles
use Rattle.rh_line.specs.Texts.{leg_text, cause_text}
use Rattle.rh_record.specs.declared.answer.Who.{Who}
use Rattle.rh_record.specs.declared.answer.Who.TheVariants as nodes
use Rattle.rh_record.specs.declared.answer.TakeAnswer.{TakeAnswer}
use Rattle.rh_record.specs.declared.answer.TakeAnswer.TheVariants as takes
use Rattle.rh_record.specs.declared.answer.Answer.{Answer}
use Rattle.rh_record.specs.declared.answer.Answer.TheVariants.{Give, Take, Close, Send, Move, OpenLeg, OpenSame, BreakLeg, EndLeg, Tick}
use Rattle.rh_record.specs.declared.answer.Answer.TheVariants.{RecycleIn, RecycleOut, Quiet, Spent, NodeClosed, Up, Down, Last}

-- the one leg of a direct recording is cs, and those of a recording of roles have their names
abbrev pub route_text : Option Leg → List ℕ
route_text None = codes "cs"
route_text (Some leg) = leg_text leg

-- whether it could be done
abbrev pub done_text : Bool → List ℕ
done_text true = codes " ok"
done_text false = codes " no"

-- what was answered to a give
abbrev pub give_text : Result ℕ GiveFault → List ℕ
give_text (Ok len) = codes " ok " ++ decimal len
give_text (Err (gives.Full held len)) = codes " full " ++ decimal held ++ codes " " ++ decimal len
give_text (Err (gives.BadPdu fault)) = codes " bad " ++ pdu_fault_text fault
give_text (Err gives.Closing) = codes " closing"
give_text (Err (gives.Closed cause)) = codes " closed " ++ cause_text cause

-- what a take gave
abbrev pub take_text : TakeAnswer → List ℕ
take_text (takes.Pdu bytes) = codes " pdu " ++ encode_lower bytes
take_text takes.Empty = codes " empty"
take_text takes.Ended = codes " ended"
take_text (takes.Closed cause) = codes " closed " ++ cause_text cause

-- how many bytes a send drew into flight
abbrev pub drawn_text : Option ℕ → List ℕ
drawn_text None = codes " no"
drawn_text (Some count) = codes " " ++ decimal count

-- the bytes of a move: none are no word
abbrev pub moved_text : Option (List ℕ) → List ℕ
moved_text None = codes " no"
moved_text (Some []) = codes " 0"
moved_text (Some (b ∷ bytes)) =
    codes " " ++ decimal (length (b ∷ bytes)) ++ codes " " ++ encode_lower (b ∷ bytes)

-- whether a channel is being replaced
abbrev pub recycle_text : Result (Unit {0}) RecycleFault → List ℕ
recycle_text (Ok done) = codes " ok"
recycle_text (Err (recycles.Busy leg)) = codes " busy " ++ leg_text leg
recycle_text (Err recycles.NotOpen) = codes " notopen"
recycle_text (Err recycles.Last) = codes " last"

-- a node
abbrev pub node_text : Who → List ℕ
node_text nodes.Client = codes "c"
node_text nodes.Server = codes "s"
node_text (nodes.In number) = codes "i" ++ decimal number
node_text (nodes.Out number) = codes "o" ++ decimal number

-- an end, in the last lines
abbrev pub end_name : Side → List ℕ
end_name Client = codes "client "
end_name Server = codes "server "

-- the numbers of the channels of an end
abbrev pub channels_text : ℕ → ℕ → List ℕ
channels_text inbound outbound =
    codes " in " ++ decimal inbound ++ codes " out " ++ decimal outbound

-- what an end is; those of a closed end are not told
abbrev pub state_text : State → ℕ → ℕ → List ℕ
state_text states.Opening inbound outbound = codes "opening" ++ channels_text inbound outbound
state_text states.Open inbound outbound = codes "open" ++ channels_text inbound outbound
state_text states.Ended inbound outbound = codes "ended" ++ channels_text inbound outbound
state_text (states.Closed cause) inbound outbound = codes "closed " ++ cause_text cause

-- the text of an answer
abbrev pub answer_text : Answer → List ℕ
answer_text (Give side answer) = codes "give " ++ side_word side ++ give_text answer
answer_text (Take side answer) = codes "take " ++ side_word side ++ take_text answer
answer_text (Close side) = codes "close " ++ side_word side ++ codes " ok"
answer_text (Send leg dir count) =
    codes "send " ++ route_text leg ++ codes " " ++ dir_word dir ++ drawn_text count
answer_text (Move leg dir bytes) =
    codes "move " ++ route_text leg ++ codes " " ++ dir_word dir ++ moved_text bytes
answer_text (OpenLeg leg ok) = codes "open " ++ leg_text leg ++ done_text ok
answer_text (OpenSame leg ok) = codes "open " ++ leg_text leg ++ codes " same" ++ done_text ok
answer_text (BreakLeg leg ok) = codes "break " ++ leg_text leg ++ done_text ok
answer_text (EndLeg leg dir ok) =
    codes "end " ++ leg_text leg ++ codes " " ++ dir_word dir ++ done_text ok
answer_text (Tick now ok) = codes "tick " ++ decimal now ++ done_text ok
answer_text (RecycleIn answer) = codes "recycle in" ++ recycle_text answer
answer_text (RecycleOut answer) = codes "recycle out" ++ recycle_text answer
answer_text (Quiet rounds) = codes "quiet " ++ decimal rounds
answer_text (Spent rounds) = codes "spent " ++ decimal rounds
answer_text (NodeClosed who cause) =
    codes "closed " ++ node_text who ++ codes " " ++ cause_text cause
answer_text (Up given taken) =
    codes "up given " ++ decimal given ++ codes " taken " ++ decimal taken
answer_text (Down given taken) =
    codes "down given " ++ decimal given ++ codes " taken " ++ decimal taken
answer_text (Last side state inbound outbound) = end_name side ++ state_text state inbound outbound

-- the answers, each ended by LF
abbrev pub report_text : List Answer → List ℕ
report_text [] = []
report_text (answer ∷ answers) = answer_text answer ++ LINE_FEED ∷ report_text answers
