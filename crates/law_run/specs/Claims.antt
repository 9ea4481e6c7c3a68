-- what holds of every recording, beside its report
use Rattle.std.specs.Prelude.{◌≡◌, ◌≤◌, ◌++◌, ℕ, List, [], ◌∷◌, false, true}
use Rattle.std.specs.List.{list_all}
use Rattle.rh_http.specs.declared.lengths.TheConstants.{SERVICE_UNAVAILABLE}
use Rattle.rh_line.specs.declared.cause.Cause.{Cause}
use Rattle.rh_line.specs.declared.cause.Cause.TheVariants.{HttpRefused, LegBroken, LegEnded, Silent}
use Rattle.rh_line.specs.declared.leg.Leg.{Leg}
use Rattle.rh_line.specs.declared.leg.LegKind.TheVariants.{ClientIn, ClientOut, InServer, OutServer}
use Rattle.rh_record.specs.declared.answer.Answer.TheVariants.{NodeClosed}
use Rattle.rh_record.specs.declared.answer.Who.{Who}
use Rattle.rh_record.specs.declared.line.Line.{Line}
use Rattle.rh_record.specs.declared.line.Line.TheVariants.{First, Settle}
use Rattle.rh_record.specs.Events.Order.{IsOrdered}
use Rattle.rh_nodes.specs.Settling.{leg_at}
use Rattle.rh_audit.specs.declared.fault.AuditFault.{AuditFault}
use Rattle.rh_audit.specs.declared.prefixed.Prefixed.{Prefixed}
use Rattle.rh_audit.specs.Audits.{IsAudit}
use Rattle.rh_capture.specs.Captured.{captured}
use Rattle.law_node_history.specs.Closes.{IsOneOf, closings_of}
use Rattle.rh_world.specs.declared.any_world.AnyWorld.{AnyWorld}
use Rattle.rh_world.specs.declared.any_world.AnyWorld.TheVariants.{Before}
use Rattle.rh_world.specs.Any.{after, prepared, run, step}
use Rattle.law_world_reports.specs.Bounded.{WindowsHold}
use Rattle.law_world_reports.specs.CloseLines.{NamesReported, ReportsCloses}
use Rattle.law_world_reports.specs.Closed.Recordings.{IsLicensedIn, IsRefusedIn}
use Rattle.law_world_reports.specs.Closed.Reports.{ShowsIn}
use Rattle.law_world_reports.specs.Closed.Silences.{IsSilentIn}
use Rattle.law_world_reports.specs.Naming.{NamesIt}
use Rattle.law_world_reports.specs.Ordering.Counted.{CountsCapped}
use Rattle.law_world_reports.specs.Ordering.Final.{EndsForGood}
use Rattle.law_world_reports.specs.Ordering.LastLines.{EndsWithLast}
use Rattle.law_world_reports.specs.Ordering.Recordings.{OffersBehindFirst}
use Rattle.law_world_reports.specs.Ordering.Sides.{NamesSides}
use Rattle.law_world_reports.specs.Throughout.{WindowsHoldOnwards}
use Rattle.law_world_ways.specs.DirectWays.{KeepsDirectly}
use Rattle.law_world_ways.specs.EndsInTime.Losses.{AllLoseInTime, loses_no_leg}
use Rattle.law_world_ways.specs.ExactPaths.Exact.{KeepsAll}
use Rattle.law_world_ways.specs.OnPaths.Recordings.{KeepsWays}
use Rattle.law_world_ways.specs.ToldExactly.{TellsAllOf}
use Rattle.law_world_ways.specs.ToldWays.{TellsWays}
use Rattle.law_world_honest.specs.Refusals.Reported.{ReportsBreak}
use Rattle.law_world_windows.specs.KeptHops.{KeepsHops}
use Rattle.law_world_expected.specs.PdusInRecordings.{PassesInTurn}
use Rattle.law_world_rest.specs.Recordings.{RestsWhereQuiet}
use Rattle.law_world_waits.specs.Recordings.{WaitsWhereQuiet}
use Rattle.law_world_audited.specs.WholeAudits.Findings.{FindsNothing}
use Rattle.law_world_calm.specs.Calm.{IsEndOfLeg, is_calm, settles}

-- a line reports a node as closed only for what it told that node, and its answers show that
pub record ClosesForReason (world : AnyWorld) (line : Line) : Type 0 where
  pub licensed : (node : Who) (why : Cause) → IsOneOf (NodeClosed node why) (step world line).1
      → IsLicensedIn (prepared world line) line node why
  pub shown : (node : Who) (why : Cause) → IsOneOf (NodeClosed node why) (step world line).1
      → ShowsIn (step world line).1 why
  pub refused : (node : Who) (leg : Leg) (status : ℕ)
      → IsOneOf (NodeClosed node (HttpRefused leg status)) (step world line).1
      → IsRefusedIn (prepared world line) line node leg status
  pub silent : (node : Who) (leg : Leg) (since now : ℕ)
      → IsOneOf (NodeClosed node (Silent leg since now)) (step world line).1
      → IsSilentIn (prepared world line) line node leg since now

-- where a line reports a node as closed for a response, its status is 503, and that line or one
-- before it reports that the channel's leg to the server broke
pub record RefusesForBreak (before : List Line) (line : Line) : Type 0 where
  pub out_channel : (node : Who) (n status : ℕ)
      → IsOneOf (NodeClosed node (HttpRefused (leg_at ClientOut n) status))
      (step (after Before before) line).1
      → (status ≡ SERVICE_UNAVAILABLE) × ReportsBreak (before ++ line ∷ []) (leg_at OutServer n)
  pub in_channel : (node : Who) (n status : ℕ)
      → IsOneOf (NodeClosed node (HttpRefused (leg_at ClientIn n) status))
      (step (after Before before) line).1
      → (status ≡ SERVICE_UNAVAILABLE) × ReportsBreak (before ++ line ∷ []) (leg_at InServer n)

-- what no node did: a leg broke or ended, a channel's proxy refused its request, or no byte came
-- for too long
abbrev pub IsFromOutside : Cause → Type 0
IsFromOutside (LegBroken leg) = Unit {0}
IsFromOutside (LegEnded leg partial) = Unit {0}
IsFromOutside (HttpRefused leg status) = Unit {0}
IsFromOutside (Silent leg since now) = Unit {0}
IsFromOutside why = ⊥

-- no line reports a node as closed for what another node put or how much of it: each frame, packet
-- and head is good; what comes is in its turn and names the cookies that the node knows; RPC PDUs
-- are within the window, values in their range, and bodies no longer than their heads told; and
-- there is room for what is to be forwarded (MS-RPCH 3.2)
abbrev pub RolesAreHonest : AnyWorld → Line → Type 0
RolesAreHonest world line =
    (node : Who) (why : Cause) → IsOneOf (NodeClosed node why) (step world line).1
    → IsFromOutside why

-- where no leg is broken or ended by a line, and none could be silent for long, only settling closes
-- a node: since a leg ended there which the other end has finished
pub record ClosesBySettling (world : AnyWorld) (line : Line) : Type 0 where
  pub only : (node : Who) (why : Cause) → IsOneOf (NodeClosed node why) (step world line).1
      → settles line ≡ true
  pub cause : (node : Who) (why : Cause) → IsOneOf (NodeClosed node why) (step world line).1
      → IsEndOfLeg why

-- what both ends gave is exactly what was taken and what is on its way while no node closed, where
-- the `break` and `end` lines that were answered ok are of legs that were over, and so where there
-- are none
pub record LosesNothing (before : List Line) : Type 0 where
  pub in_time : AllLoseInTime Before before → KeepsAll (after Before before)
  pub unbroken : list_all loses_no_leg before ≡ true → KeepsAll (after Before before)

-- so it is of what the report of a recording of roles tells as given and as taken
pub record TellsNothingLost (before : List Line) : Type 0 where
  pub in_time : AllLoseInTime Before (First true ∷ before) → TellsAllOf (First true ∷ before)
  pub unbroken : list_all loses_no_leg before ≡ true → TellsAllOf (First true ∷ before)

-- at every line of the report what an end took is a front of what the other end gave, each PDU once
-- and in order, and all of it at a clean end, which is final; and a report of roles counts what it
-- tells, by its last lines, behind which nothing stands. Each answer to a give names the end of its
-- line. Behind each front of the lines, and in each state that changes lead to from there, no more
-- is held for a channel than its window; each hop is kept, nothing stands behind a handover
-- mark, no in proxy put an RPC PDU of a successor early, and what was given is what was taken and
-- what is on its way, unless a leg is lost; and none is lost where nothing broke, so in no direct
-- recording. Each line closes nodes for a reason, and none for what another node did; where nothing
-- breaks from outside only settling does, for a leg that ends there. In all of the
-- report each node is closed once at most, and each later answer of an end that closed names the
-- same cause. Each node that stands closed was reported so, and an answer names no cause that was
-- not reported before. Where a settling is answered quiet, nothing goes on behind it by itself; and
-- while all nodes go on and no leg was lost but such as were over, what was given and not taken
-- waits at nodes. An audit of the capture of a recording of roles tells no fault, and says yes both
-- ways.
pub record Claims (lines : List Line) : Type 0 where
  pub ordered : OffersBehindFirst lines → IsOrdered lines (run lines)
  pub sides : OffersBehindFirst lines → NamesSides lines (run lines)
  pub ends : OffersBehindFirst lines → EndsForGood lines (run lines)
  pub counted : (behind : List Line) → lines ≡ First true ∷ behind
      → CountsCapped lines (run lines)
  pub last : (behind : List Line) → lines ≡ First true ∷ behind → EndsWithLast Before lines
  pub held : (before behind : List Line) → lines ≡ before ++ behind
      → WindowsHold (after Before before)
  pub onwards : (before behind : List Line) → lines ≡ before ++ behind
      → WindowsHoldOnwards (after Before before)
  pub hops : (before behind : List Line) → lines ≡ before ++ behind
      → KeepsHops (after Before before)
  pub reasons : (before behind : List Line) (line : Line) → lines ≡ before ++ line ∷ behind
      → ClosesForReason (after Before before) line
  pub directly : (before behind : List Line) → lines ≡ First false ∷ (before ++ behind)
      → KeepsDirectly (First false ∷ before)
  pub ways : (before behind : List Line) → lines ≡ before ++ behind
      → KeepsWays (after Before before)
  pub told : (before behind : List Line) → lines ≡ First true ∷ (before ++ behind)
      → TellsWays (First true ∷ before)
  pub turns : (before behind : List Line) → lines ≡ before ++ behind
      → PassesInTurn (after Before before)
  pub exact : (before behind : List Line) → lines ≡ before ++ behind → LosesNothing before
  pub told_exactly : (before behind : List Line) → lines ≡ First true ∷ (before ++ behind)
      → TellsNothingLost before
  pub refusals : (before behind : List Line) (line : Line) → lines ≡ before ++ line ∷ behind
      → RefusesForBreak before line
  pub honest : (before behind : List Line) (line : Line) → lines ≡ before ++ line ∷ behind
      → RolesAreHonest (after Before before) line
  pub calm : (before behind : List Line) (line : Line) → lines ≡ before ++ line ∷ behind
      → list_all is_calm (before ++ line ∷ []) ≡ true
      → ClosesBySettling (after Before before) line
  pub once : (node : Who) → closings_of node (run lines) ≤ 1
  pub named : NamesIt (run lines)
  pub closes : (before behind : List Line) → lines ≡ before ++ behind → ReportsCloses before
  pub reported : NamesReported (run lines)
  pub rests : (before behind : List Line) (rounds : ℕ)
      → lines ≡ before ++ Settle rounds ∷ behind → RestsWhereQuiet (after Before before) rounds
  pub waits : (before behind : List Line) (rounds : ℕ)
      → lines ≡ First true ∷ (before ++ Settle rounds ∷ behind) → WaitsWhereQuiet before rounds
  pub audited : (behind : List Line) (told : List AuditFault) (up down : Prefixed)
      → lines ≡ First true ∷ behind → IsAudit (captured (run lines)) told up down
      → FindsNothing told up down
