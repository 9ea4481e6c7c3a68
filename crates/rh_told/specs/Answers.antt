-- the texts of what is answered, each a line ended by LF, or nothing (profile)
use Rattle.std.specs.Prelude.{ℕ, List, [], ◌∷◌, ◌++◌, Bool, true, false, codes, Some, None}
use Rattle.std.specs.declared.option.Option.{Option}
use Rattle.std.specs.Fmt.{decimal}
use Rattle.rh_line.specs.declared.leg.Leg.{Leg}
use Rattle.rh_line.specs.declared.state.State.{State}
use Rattle.rh_line.specs.declared.state.State.TheVariants as states
use Rattle.rh_line.specs.declared.state.Verdict.{Verdict}
use Rattle.rh_line.specs.declared.state.Verdict.TheVariants as verdicts
use Rattle.rh_line.specs.Texts.{leg_text, cause_text}
use Rattle.rh_record.specs.Report.{moved_text, report_text}
use Rattle.rh_server.specs.declared.first_frame.FirstKind.{FirstKind}
use Rattle.rh_server.specs.declared.first_frame.FirstKind.TheVariants as kinds
use Rattle.rh_script.specs.declared.step.Part.{Part}
use Rattle.rh_script.specs.declared.step.Part.TheVariants as parts
use Rattle.rh_script.specs.Steps.{ask_word, cut_word, loss_word}
use Rattle.rh_told.specs.declared.told.Told.{Told}
use Rattle.rh_told.specs.Names.{names_among}
use Rattle.rh_told.specs.declared.told.Told.TheVariants as told

-- ---- lines

abbrev pub yes_text : Bool → List ℕ
yes_text true = codes " yes\n"
yes_text false = codes " no\n"

-- a word and a leg
abbrev pub on_leg : List ℕ → Leg → List ℕ
on_leg word leg = word ++ codes " " ++ leg_text leg

abbrev pub verdict_text : Verdict → List ℕ
verdict_text verdicts.Going = codes " going\n"
verdict_text verdicts.Ended = codes " ended\n"
verdict_text (verdicts.Closed why) = codes " closed " ++ cause_text why ++ codes "\n"

abbrev pub tick_text : ℕ → Verdict → List ℕ
tick_text now verdict = codes "tick " ++ decimal now ++ verdict_text verdict

-- the bytes that were drawn, as those of a move: none are no word
abbrev pub drawn_text : Leg → List ℕ → List ℕ
drawn_text leg bytes = on_leg (codes "draw") leg ++ moved_text (Some bytes) ++ codes "\n"

abbrev pub case_text : List ℕ → List ℕ
case_text words = codes "case " ++ words ++ codes "\n"

abbrev pub part_text : Part → List ℕ
part_text parts.Client = codes "client\n"
part_text parts.Server = codes "server\n"
part_text (parts.InProxy number) = codes "inproxy " ++ decimal number ++ codes "\n"
part_text (parts.OutProxy number) = codes "outproxy " ++ decimal number ++ codes "\n"

abbrev pub state_text : State → List ℕ
state_text states.Opening = codes "state opening\n"
state_text states.Open = codes "state open\n"
state_text states.Ended = codes "state ended\n"
state_text (states.Closed why) = codes "state closed " ++ cause_text why ++ codes "\n"

abbrev pub channels_text : ℕ → ℕ → List ℕ
channels_text inbound outbound =
    codes "channels in " ++ decimal inbound ++ codes " out " ++ decimal outbound ++ codes "\n"

abbrev pub server_text : List ℕ × ℕ → List ℕ
server_text server = server.0 ++ (codes " " ++ (decimal server.1 ++ codes "\n"))

abbrev pub target_text : Option (List ℕ × ℕ) → List ℕ
target_text None = codes "target none\n"
target_text (Some server) = codes "target " ++ server_text server

abbrev pub first_text : FirstKind → List ℕ
first_text kinds.Need = codes "first need\n"
first_text kinds.In = codes "first in\n"
first_text kinds.Out = codes "first out\n"
first_text kinds.Stranger = codes "first stranger\n"

-- what is written of an answer
abbrev pub told_text : Told → List ℕ
told_text told.Silent = []
told_text told.None = codes "none\n"
told_text (told.Case words) = case_text words
told_text (told.Begun part) = part_text part
told_text (told.Asked ask leg ok) = on_leg (ask_word ask) leg ++ yes_text ok
told_text (told.Up leg ok) = on_leg (codes "up") leg ++ yes_text ok
told_text (told.Fed cut leg verdict) = on_leg (cut_word cut) leg ++ verdict_text verdict
told_text (told.Drawn leg bytes) = drawn_text leg bytes
told_text (told.Named leg pipe bytes) = drawn_text leg bytes ++ names_among pipe bytes
told_text (told.Lost loss leg verdict) = on_leg (loss_word loss) leg ++ verdict_text verdict
told_text (told.Ticked now verdict) = tick_text now verdict
told_text (told.End answer) = report_text (answer ∷ [])
told_text (told.State state) = state_text state
told_text (told.Channels inbound outbound) = channels_text inbound outbound
told_text (told.Target target) = target_text target
told_text (told.First kind) = first_text kind

-- what is written of answers, one after the other
abbrev pub script_text : List Told → List ℕ
script_text [] = []
script_text (told ∷ more) = told_text told ++ script_text more
