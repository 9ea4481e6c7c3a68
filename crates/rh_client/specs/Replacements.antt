-- how far a replacement has come, and what waits behind it (profile)
use Rattle.std.specs.Prelude.{Bool, true, false}
use Rattle.rh_client.specs.declared.replacement.Replacement.{Replacement}
use Rattle.rh_client.specs.declared.replacement.Replacement.TheVariants.{NoneUnderWay, In, Out}
use Rattle.rh_client.specs.declared.replacement.OutStage.{OutStage}
use Rattle.rh_client.specs.declared.replacement.OutStage.TheVariants as out
use Rattle.rh_client.specs.declared.replacement.Waits.{Waits}
use Rattle.rh_client.specs.declared.replacement.Waits.TheVariants as waits

abbrev pub is_none : Replacement → Bool
is_none NoneUnderWay = true
is_none (In stage out_waits) = false
is_none (Out stage waiting) = false

abbrev pub is_in : Replacement → Bool
is_in NoneUnderWay = false
is_in (In stage out_waits) = true
is_in (Out stage waiting) = false

abbrev pub is_out : Replacement → Bool
is_out NoneUnderWay = false
is_out (In stage out_waits) = false
is_out (Out stage waiting) = true

-- OUT_R1/A7 was put
abbrev pub is_switched_stage : OutStage → Bool
is_switched_stage out.Asked = false
is_switched_stage out.Answered = false
is_switched_stage out.Switched = true
is_switched_stage out.Finished = true

-- OUT_R1/A10 came
abbrev pub is_finished_stage : OutStage → Bool
is_finished_stage out.Asked = false
is_finished_stage out.Answered = false
is_finished_stage out.Switched = false
is_finished_stage out.Finished = true

-- and the predecessor is still the current channel
abbrev pub is_finished : Replacement → Bool
is_finished NoneUnderWay = false
is_finished (In stage out_waits) = false
is_finished (Out stage waiting) = is_finished_stage stage

-- ---- what waits, the first that was wanted first

abbrev pub has_out : Waits → Bool
has_out waits.Nothing = false
has_out waits.In = false
has_out waits.Out = true
has_out waits.InThenOut = true
has_out waits.OutThenIn = true

abbrev pub with_in : Waits → Waits
with_in waits.Nothing = waits.In
with_in waits.In = waits.In
with_in waits.Out = waits.OutThenIn
with_in waits.InThenOut = waits.InThenOut
with_in waits.OutThenIn = waits.OutThenIn

abbrev pub with_out : Waits → Waits
with_out waits.Nothing = waits.Out
with_out waits.In = waits.InThenOut
with_out waits.Out = waits.Out
with_out waits.InThenOut = waits.InThenOut
with_out waits.OutThenIn = waits.OutThenIn
