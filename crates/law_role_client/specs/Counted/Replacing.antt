-- how many replacements a client asked for, and how far they have come, by what came and what it
-- put (profile)
use Rattle.std.specs.Prelude.{ℕ, ◌≡◌, ◌+◌, ◌≤◌, Bool, false, not}
use Rattle.rh_line.specs.declared.leg.LegKind.TheVariants.{ClientIn, ClientOut}
use Rattle.rh_shell.specs.NearEnds.{is_ended}
use Rattle.rh_client.specs.declared.replacement.Replacement.{Replacement}
use Rattle.rh_client.specs.declared.replacement.Replacement.TheVariants.{NoneUnderWay, In, Out}
use Rattle.rh_client.specs.declared.replacement.InStage.TheVariants as in_stage
use Rattle.rh_client.specs.declared.replacement.OutStage.TheVariants as out_stage
use Rattle.rh_client.specs.declared.state.ClientRole.{ClientRole}
use Rattle.rh_client.specs.Channels.{is_put, is_asked}
use Rattle.rh_client.specs.Replacements.{has_out}
use Rattle.law_moves.specs.Moves.{Passage}
use Rattle.law_role_client.specs.Counted.Counting.{is_in_r1_a1, is_in_a4, is_in_r1_a5, is_out_r1_a2, is_out_r1_a3, is_out_r1_a6, is_out_r1_a7, is_out_r1_a10, total, once_if, StandsOnEach}

-- ---- IN channels

-- IN_R1/A1 that were put, IN_R1/A4 and IN_R2/A4 that came, and IN_R1/A5 that were put
abbrev pub in_asked : Passage ClientRole → ℕ
in_asked p = total is_in_r1_a1 ClientIn p.put

abbrev pub in_answered : Passage ClientRole → ℕ
in_answered p = total is_in_a4 ClientOut p.came

abbrev pub in_handed_over : Passage ClientRole → ℕ
in_handed_over p = total is_in_r1_a5 ClientIn p.put

-- the successor has the next number, and is asked for and answered at most once
abbrev pub InIsAt : Passage ClientRole → Replacement → Type 0
InIsAt p (In in_stage.Asked out_waits) =
    (in_answered p ≡ in_handed_over p)
    × (in_asked p ≡ in_handed_over p + once_if (is_put p.role.in_successor.opening))
    × (p.role.in_successor.number ≡ p.role.writing.number + 1)
InIsAt p (In in_stage.Answered out_waits) =
    (in_answered p ≡ in_handed_over p + 1)
    × (in_asked p ≡ in_handed_over p + 1)
    × (p.role.in_successor.number ≡ p.role.writing.number + 1)
InIsAt p NoneUnderWay = (in_answered p ≡ in_handed_over p) × (in_asked p ≡ in_handed_over p)
InIsAt p (Out stage waiting) = (in_answered p ≡ in_handed_over p) × (in_asked p ≡ in_handed_over p)

-- a successor is asked for only once the one before it is the writing channel
pub record ReplacesIns (p : Passage ClientRole) : Type 0 where
  pub writing : p.role.writing.number ≡ in_handed_over p + 1
  pub at : InIsAt p p.role.replacement
  pub answered : in_handed_over p ≤ in_answered p
  pub asked : in_answered p ≤ in_asked p
  pub one : in_asked p ≤ in_answered p + 1
  pub asks_on : StandsOnEach is_in_r1_a1 ClientIn 2 p.put
  pub hands_over_on : StandsOnEach is_in_r1_a5 ClientIn 1 p.put

-- ---- OUT channels

-- OUT_R1/A2 that came, OUT_R1/A3 that were put, OUT_R1/A6 that came, OUT_R1/A7 that were put, and
-- OUT_R1/A10 that came
abbrev pub out_wanted : Passage ClientRole → ℕ
out_wanted p = total is_out_r1_a2 ClientOut p.came

abbrev pub out_asked : Passage ClientRole → ℕ
out_asked p = total is_out_r1_a3 ClientOut p.put

abbrev pub out_answered : Passage ClientRole → ℕ
out_answered p = total is_out_r1_a6 ClientOut p.came

abbrev pub out_switched : Passage ClientRole → ℕ
out_switched p = total is_out_r1_a7 ClientIn p.put

abbrev pub out_finished : Passage ClientRole → ℕ
out_finished p = total is_out_r1_a10 ClientOut p.came

-- by how many more than channels are finished a successor was asked for, answered and switched to,
-- and the number of the current channel
pub record OutStands (p : Passage ClientRole) (more_asked more_answered more_switched more : ℕ)
    : Type 0 where
  pub asked : out_asked p ≡ out_finished p + more_asked
  pub answered : out_answered p ≡ out_finished p + more_answered
  pub switched : out_switched p ≡ out_finished p + more_switched
  pub current : p.role.current.number ≡ out_finished p + more

-- the successor has the next number
abbrev pub OutFollows : Passage ClientRole → Type 0
OutFollows p = p.role.out_successor.number ≡ p.role.current.number + 1

-- it is asked for, answered and switched to once, before the current channel is finished
abbrev pub OutIsAt : Passage ClientRole → Replacement → Type 0
OutIsAt p (Out out_stage.Asked waiting) =
    OutStands p (once_if (is_asked p.role.out_successor.opening)) 0 0 1 × OutFollows p
OutIsAt p (Out out_stage.Answered waiting) = OutStands p 1 1 0 1 × OutFollows p
OutIsAt p (Out out_stage.Switched waiting) = OutStands p 1 1 1 1 × OutFollows p
OutIsAt p (Out out_stage.Finished waiting) = OutStands p 0 0 0 0 × OutFollows p
OutIsAt p NoneUnderWay = OutStands p 0 0 0 1
OutIsAt p (In stage out_waits) = OutStands p 0 0 0 1

-- a successor is asked for only once the one before it is finished
pub record ReplacesOuts (p : Passage ClientRole) : Type 0 where
  pub at : OutIsAt p p.role.replacement
  pub switched : out_finished p ≤ out_switched p
  pub answered : out_switched p ≤ out_answered p
  pub asked : out_answered p ≤ out_asked p
  pub one : out_asked p ≤ out_finished p + 1
  pub asks_on : StandsOnEach is_out_r1_a3 ClientOut 2 p.put
  pub answers_on : StandsOnEach is_out_r1_a6 ClientOut 1 p.came
  pub finishes_on : StandsOnEach is_out_r1_a10 ClientOut 1 p.came

-- ---- what is wanted

-- the replacement of an OUT channel is under way, and OUT_R1/A3 was not put
abbrev pub is_to_ask : ClientRole → Replacement → Bool
is_to_ask s (Out out_stage.Asked waiting) = not (is_asked s.out_successor.opening)
is_to_ask s replacement = false

-- one more waits
abbrev pub out_waits : Replacement → Bool
out_waits NoneUnderWay = false
out_waits (In stage waits) = waits
out_waits (Out stage waiting) = has_out waiting

-- each OUT_R1/A3 has an OUT_R1/A2 that asked for it; and what was asked for is put or will be, as
-- long as the work is not done
pub record AsksWhereWanted (p : Passage ClientRole) : Type 0 where
  pub wanted : out_asked p ≤ out_wanted p
  pub waits : is_ended p.role.phase ≡ false
      → out_wanted p ≡ out_asked p + once_if (is_to_ask p.role p.role.replacement)
      + once_if (out_waits p.role.replacement)
