-- the replacement of an IN channel, by another in proxy or by the same one (profile)
use Rattle.std.specs.Prelude.{ℕ, ◌==◌, ◌&&◌, Bool, false, if◌then◌else◌, nat_lt, Ok, Err}
use Rattle.std.specs.declared.result.Result.{Result}
use Rattle.rh_keep.specs.Meters.{wanted}
use Rattle.rh_rts.specs.declared.command.TheConstants.{TO_CLIENT}
use Rattle.rh_shell.specs.declared.end_role.RecycleRefused.{RecycleRefused}
use Rattle.rh_shell.specs.declared.end_role.RecycleRefused.TheVariants.{Busy, Last}
use Rattle.rh_client.specs.declared.channels.TheConstants.{LAST_NUMBER}
use Rattle.rh_client.specs.declared.replacement.Replacement.{Replacement}
use Rattle.rh_client.specs.declared.replacement.Replacement.TheVariants.{NoneUnderWay, In, Out}
use Rattle.rh_client.specs.declared.replacement.InStage.{InStage}
use Rattle.rh_client.specs.declared.replacement.InStage.TheVariants.{Asked, Answered}
use Rattle.rh_client.specs.declared.state.ClientRole.{ClientRole}
use Rattle.rh_client.specs.Channels.{unopened_in, is_put, told_in}
use Rattle.rh_client.specs.Replacements.{with_in}
use Rattle.rh_client.specs.State.{Done, taken, unexpected, is_open, ci, co, begin_in, after_in}

-- ---- it is wanted

abbrev pub recycle_by : ClientRole → Replacement
    → ClientRole × Result (Unit {0}) RecycleRefused
recycle_by s NoneUnderWay =
    if nat_lt s.writing.number LAST_NUMBER then (begin_in s false, Ok tt) else (s, Err Last)
recycle_by s (In stage out_waits) = (s, Err (Busy (ci s.in_successor.number)))
recycle_by s (Out stage waiting) = (s, Err (Busy (co s.out_successor.number)))

-- by the client's caller, where no replacement is under way
abbrev pub recycle : ClientRole → ClientRole × Result (Unit {0}) RecycleRefused
recycle s = recycle_by s s.replacement

abbrev pub wish_by : ClientRole → Replacement → ClientRole
wish_by s NoneUnderWay = begin_in s false
wish_by s (In stage out_waits) = s
wish_by s (Out stage waiting) = record s { replacement = Out stage (with_in waiting) }

-- by the writing channel's meter, once the client is Open; it begins, or waits behind that of an
-- OUT channel. A channel of the last number is not replaced
abbrev pub wants_successor : ClientRole → Bool
wants_successor s =
    is_open s.phase && (wanted s.writing.meter && nat_lt s.writing.number LAST_NUMBER)

abbrev pub wished : ClientRole → ClientRole
wished s = if wants_successor s then wish_by s s.replacement else s

-- ---- it is answered

abbrev pub answer_at : ClientRole → Bool → ℕ → ℕ → InStage → Done
answer_at s out_waits window timeout Asked =
    if is_put s.in_successor.opening
    then taken (record s {
      in_successor = told_in s.in_successor window timeout;
      replacement = In Answered out_waits;
    })
    else unexpected s
answer_at s out_waits window timeout Answered = unexpected s

abbrev pub answer_by : ClientRole → ℕ → ℕ → Replacement → Done
answer_by s window timeout NoneUnderWay = unexpected s
answer_by s window timeout (In stage out_waits) = answer_at s out_waits window timeout stage
answer_by s window timeout (Out stage waiting) = unexpected s

-- the window and the timeout of the successor, once for a replacement whose IN_R1/A1 was put
abbrev pub answered : ClientRole → ℕ → ℕ → Done
answered s window timeout = answer_by s window timeout s.replacement

-- IN_R1/A4: another in proxy tells its window and its timeout
abbrev pub on_in_r1_a4 : ClientRole → ℕ → ℕ → ℕ → Done
on_in_r1_a4 s to window timeout =
    if to == TO_CLIENT then answered s window timeout else unexpected s

-- IN_R2/A4: the same in proxy has those that it told for the predecessor
abbrev pub on_in_r2_a4 : ClientRole → ℕ → Done
on_in_r2_a4 s to =
    if to == TO_CLIENT then answered s s.writing.told s.writing.timeout else unexpected s

-- ---- it is over

-- IN_R1/A5 was put: the successor is the writing channel, and the predecessor's leg is of no use
-- once that packet is drawn
abbrev pub handed_over : ClientRole → Bool → ClientRole
handed_over s out_waits = after_in (record s {
  leaving = s.writing;
  writing = s.in_successor;
  in_successor = unopened_in 0 s.config.lifetime;
}) out_waits
