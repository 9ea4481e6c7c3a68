-- the replacement of an OUT channel (profile)
use Rattle.std.specs.Prelude.{ℕ, ◌==◌, ◌&&◌, true, false, not, if◌then◌else◌, nat_lt, Some}
use Rattle.rh_rts.specs.declared.command.TheConstants.{TO_CLIENT}
use Rattle.rh_line.specs.Lines.{after_finish}
use Rattle.rh_shell.specs.declared.answers.Phase.TheVariants as phase
use Rattle.rh_client.specs.declared.channels.TheConstants.{LAST_NUMBER}
use Rattle.rh_client.specs.declared.replacement.Replacement.{Replacement}
use Rattle.rh_client.specs.declared.replacement.Replacement.TheVariants.{NoneUnderWay, In, Out}
use Rattle.rh_client.specs.declared.replacement.OutStage.{OutStage}
use Rattle.rh_client.specs.declared.replacement.OutStage.TheVariants.{Asked, Answered, Switched, Finished}
use Rattle.rh_client.specs.declared.replacement.Waits.{Waits}
use Rattle.rh_client.specs.declared.replacement.Waits.TheVariants.{Nothing}
use Rattle.rh_client.specs.declared.state.ClientRole.{ClientRole}
use Rattle.rh_client.specs.Channels.{unopened_out, is_asked}
use Rattle.rh_client.specs.Replacements.{has_out, with_out}
use Rattle.rh_client.specs.State.{Done, taken, unexpected, is_open, is_current, is_out_successor, is_over, begin_out, after_out}

-- ---- it is wanted

abbrev pub a2_by : ClientRole → ℕ → Replacement → Done
a2_by s n NoneUnderWay = taken (begin_out s Nothing)
a2_by s n (In stage false) = taken (record s { replacement = In stage true })
a2_by s n (In stage true) = unexpected s
a2_by s n (Out stage waiting) =
    if is_out_successor s n && not (has_out waiting)
    then taken (record s { replacement = Out stage (with_out waiting) })
    else unexpected s

-- OUT_R1/A2 asks for it, and waits while another replacement is under way; while that is of an OUT
-- channel it comes on the successor's leg alone. None other waits, and there is a number for the
-- successor
abbrev pub on_out_r1_a2 : ClientRole → ℕ → ℕ → Done
on_out_r1_a2 s n to =
    if is_open s.phase && (to == TO_CLIENT && nat_lt n LAST_NUMBER)
    then a2_by s n s.replacement
    else unexpected s

-- ---- it is answered

abbrev pub a6_at : ClientRole → Waits → ℕ → OutStage → Done
a6_at s waiting timeout Asked =
    if is_asked s.out_successor.opening
    then taken (record s {
      out_successor = record (s.out_successor) { timeout = Some timeout };
      replacement = Out Answered waiting;
    })
    else unexpected s
a6_at s waiting timeout Answered = unexpected s
a6_at s waiting timeout Switched = unexpected s
a6_at s waiting timeout Finished = unexpected s

abbrev pub a6_by : ClientRole → ℕ → Replacement → Done
a6_by s timeout NoneUnderWay = unexpected s
a6_by s timeout (In stage out_waits) = unexpected s
a6_by s timeout (Out stage waiting) = a6_at s waiting timeout stage

-- OUT_R1/A6 on the current leg, once for a replacement whose OUT_R1/A3 was put: the successor's
-- timeout is kept
abbrev pub on_out_r1_a6 : ClientRole → ℕ → ℕ → ℕ → Done
on_out_r1_a6 s n to timeout =
    if to == TO_CLIENT && is_current s n then a6_by s timeout s.replacement else unexpected s

-- ---- it is over

-- the successor is the current channel
abbrev pub succeeded : ClientRole → ClientRole
succeeded s = record s {
  current = s.out_successor;
  out_successor = unopened_out 0;
  replacement = NoneUnderWay;
}

-- then the work may be done, and what waits is dropped; else what waits goes on
abbrev pub ended_or : ClientRole → Waits → ClientRole
ended_or s waiting =
    if is_over s then record s { phase = phase.Ended } else after_out s waiting

abbrev pub pass_at : ClientRole → Waits → OutStage → ClientRole
pass_at s waiting Asked = s
pass_at s waiting Answered = s
pass_at s waiting Switched = s
pass_at s waiting Finished = if s.line.has_next then s else ended_or (succeeded s) waiting

abbrev pub pass_by : ClientRole → Replacement → ClientRole
pass_by s NoneUnderWay = s
pass_by s (In stage out_waits) = s
pass_by s (Out stage waiting) = pass_at s waiting stage

-- that is so once nothing more comes on the predecessor and its last PDU was taken: the line has
-- moved on to the next channel
abbrev pub passed : ClientRole → ClientRole
passed s = pass_by s s.replacement

abbrev pub a10_at : ClientRole → ℕ → Waits → OutStage → Done
a10_at s n waiting Asked = unexpected s
a10_at s n waiting Answered = unexpected s
a10_at s n waiting Switched =
    if s.line.has_next && is_current s n
    then taken (passed (record s {
      line = after_finish s.line;
      replacement = Out Finished waiting;
    }))
    else unexpected s
a10_at s n waiting Finished = unexpected s

abbrev pub a10_by : ClientRole → ℕ → Replacement → Done
a10_by s n NoneUnderWay = unexpected s
a10_by s n (In stage out_waits) = unexpected s
a10_by s n (Out stage waiting) = a10_at s n waiting stage

-- OUT_R1/A10 on the current leg, once OUT_R1/A7 was put: nothing more comes on that channel
abbrev pub on_out_r1_a10 : ClientRole → ℕ → Done
on_out_r1_a10 s n = a10_by s n s.replacement
