-- each line of a recording, its last lines, and its report (profile)
use Rattle.std.specs.Prelude.{ℕ, List, [], ◌∷◌, ◌++◌, Some, None}
use Rattle.std.specs.declared.option.Option.{Option}
use Rattle.rh_text.specs.declared.ends.Side.{Side}
use Rattle.rh_text.specs.declared.ends.Side.TheVariants.{Client, Server}
use Rattle.rh_line.specs.declared.state.State.{State}
use Rattle.rh_record.specs.declared.answer.Answer.{Answer}
use Rattle.rh_record.specs.declared.answer.Answer.TheVariants as answer
use Rattle.rh_record.specs.declared.line.Line.{Line}
use Rattle.rh_record.specs.declared.line.Line.TheVariants as line
use Rattle.rh_shell.specs.Shells.{state_of}
use Rattle.rh_company.specs.Closings.{lines}
use Rattle.rh_company.specs.Company.{Rulebook}
use Rattle.rh_nodes.specs.Breaking.{break_leg, end_leg}
use Rattle.rh_nodes.specs.Carrying.{send, feed}
use Rattle.rh_nodes.specs.Giving.{Deeds, give, take, close, recycle_in, recycle_out}
use Rattle.rh_nodes.specs.Opening.{Makers, open_leg, open_same}
use Rattle.rh_nodes.specs.Reports.{and_then}
use Rattle.rh_nodes.specs.Settling.{settle}
use Rattle.rh_nodes.specs.Time.{tick}
use Rattle.rh_nodes.specs.World.{World}

-- ---- the lines that have one answer

abbrev pub answered : {W A : Type 0} → (A → Answer) → W × A → W × Option Answer
answered to did = (did.0, Some (to did.1))

-- a leg is lost, or time passes
abbrev pub ending_answer : {K C S I O : Type 0} → Rulebook C S I O → World K C S I O → Line
    → World K C S I O × Option Answer
ending_answer r w (line.BreakLeg leg) =
    answered (λ ok. answer.BreakLeg leg ok) (break_leg r w leg)
ending_answer r w (line.EndLeg leg dir) =
    answered (λ ok. answer.EndLeg leg dir ok) (end_leg r w leg dir)
ending_answer r w (line.Tick now) = answered (λ ok. answer.Tick now ok) (tick r w now)
ending_answer r w _ = (w, None)

-- bytes are carried, or a leg is connected
abbrev pub leg_answer : {K C S I O : Type 0} → Rulebook C S I O → Makers K I O → World K C S I O
    → Line → World K C S I O × Option Answer
leg_answer r m w (line.Send (Some leg) dir count) =
    answered (λ drawn. answer.Send (Some leg) dir drawn) (send r w leg dir count)
leg_answer r m w (line.Move (Some leg) dir count) =
    answered (λ fed. answer.Move (Some leg) dir fed) (feed r w leg dir count)
leg_answer r m w (line.OpenLeg leg) =
    answered (λ ok. answer.OpenLeg leg ok) (open_leg r m w leg)
leg_answer r m w (line.OpenSame leg) =
    answered (λ ok. answer.OpenSame leg ok) (open_same r w leg)
leg_answer r m w other = ending_answer r w other

abbrev pub answer_of : {K C S I O : Type 0} → Rulebook C S I O → Makers K I O → Deeds C S
    → World K C S I O → Line → World K C S I O × Option Answer
answer_of r m d w (line.Give side pdu) = answered (λ given. given) (give d w side pdu)
answer_of r m d w (line.Take side) =
    answered (λ taken. answer.Take side taken) (take d w side)
answer_of r m d w (line.Close side) = answered (λ closed. closed) (close d w side)
answer_of r m d w line.RecycleIn =
    answered (λ recycled. recycled) (recycle_in d.client r.client w)
answer_of r m d w line.RecycleOut =
    answered (λ recycled. recycled) (recycle_out d.server r.server w)
answer_of r m d w other = leg_answer r m w other

-- ---- the lines

abbrev pub reported : {W : Type 0} → W × Option Answer → W × List Answer
reported (w, None) = (w, [])
reported (w, Some one) = (w, one ∷ [])

-- what a line does, but for the nodes that it closed
abbrev pub step_line : {K C S I O : Type 0} → Rulebook C S I O → Makers K I O → Deeds C S → Line
    → World K C S I O → World K C S I O × List Answer
step_line r m d (line.Settle rounds) w = settle r m d rounds w
step_line r m d other w = reported (answer_of r m d w other)

-- the nodes that closed are told
abbrev pub tell_closed : {K C S I O : Type 0} → World K C S I O
    → World K C S I O × List Answer
tell_closed w = (record w { closed = [] }, lines w.closed)

abbrev pub step : {K C S I O : Type 0} → Rulebook C S I O → Makers K I O → Deeds C S → Line
    → World K C S I O → World K C S I O × List Answer
step r m d one w = and_then (step_line r m d one w) tell_closed

-- ---- the last lines

abbrev pub last_with : Side → State → ℕ × ℕ → Answer
last_with side state channels = answer.Last side state channels.0 channels.1

abbrev pub last_of : {K C S I O : Type 0} → Rulebook C S I O → Deeds C S → World K C S I O → Side
    → Answer
last_of r d w Client =
    last_with Client (state_of r.client w.company.client)
    (d.client.channels w.company.client.role)
last_of r d w Server =
    last_with Server (state_of r.server w.company.server)
    (d.server.channels w.company.server.role)

abbrev pub last : {K C S I O : Type 0} → Rulebook C S I O → Deeds C S → World K C S I O
    → List Answer
last r d w =
    answer.Up w.up.given w.up.taken ∷ answer.Down w.down.given w.down.taken
    ∷ last_of r d w Client ∷ last_of r d w Server ∷ []

-- ---- recordings

-- what lines are answered, one after the other, and the last lines of the report
abbrev pub told : {K C S I O : Type 0} → Rulebook C S I O → Makers K I O → Deeds C S
    → World K C S I O → List Line → List Answer
told r m d w [] = last r d w
told r m d w (one ∷ lines_behind) =
    (step r m d one w).1 ++ told r m d (step r m d one w).0 lines_behind
