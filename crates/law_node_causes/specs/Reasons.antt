-- what may be amiss at a node: a leg that ends, one that is silent, and what comes (profile; heads
-- are of MS-RPCH 2.1.2, and what a role makes of what comes of MS-RPCH 3.2)
use Rattle.std.specs.Prelude.{ℕ, ◌≡◌, ◌≤◌, ◌-◌, ◌++◌, List, length, true, false, slice_get, Some, Err}
use Rattle.rh_line.specs.declared.leg.Leg.{Leg}
use Rattle.rh_line.specs.declared.cause.Cause.{Cause}
use Rattle.rh_line.specs.declared.cause.Cause.TheVariants as cause
use Rattle.rh_shell.specs.declared.answers.HeadRefused.TheVariants.{Status}
use Rattle.rh_shell.specs.declared.stage.Stage.TheVariants as stage
use Rattle.rh_shell.specs.Intakes.{is_whole_head}
use Rattle.rh_shell.specs.NearEnds.{NearEnd, is_finished}
use Rattle.rh_shell.specs.Rules.{Rules}
use Rattle.rh_shell.specs.Shells.{Shell, end_at, is_before}

-- ---- a leg ends

-- the leg ended where this much is held of an unfinished head, greeting or frame
pub record EndsPartly {S : Type 0} (rules : Rules S) (node : Shell S) (leg : Leg) (why : Cause)
    : Type 0 where
  pub end : NearEnd
  pub at : end_at node leg ≡ Some end
  pub unfinished : is_finished rules node.role end ≡ false
  pub cause : why ≡ cause.LegEnded leg (length end.intake.held)

-- ---- time passes

-- an unfinished leg was silent as long as its role allows
pub record WasSilent {S : Type 0} (rules : Rules S) (role : S) (now : ℕ) (end : NearEnd)
    : Type 0 where
  pub unfinished : is_finished rules role end ≡ false
  pub limit : ℕ
  pub watched : rules.silence role end.leg ≡ Some limit
  pub long : limit ≤ now - end.since

-- the end stands at a place among the node's legs
pub record StandsIn (legs : List NearEnd) (end : NearEnd) : Type 0 where
  pub place : ℕ
  pub at : slice_get legs place ≡ Some end

-- of the legs that were silent so long it is the first in the order of legs
pub record IsFirstSilent {S : Type 0} (rules : Rules S) (role : S) (now : ℕ) (legs : List NearEnd)
    (end : NearEnd) : Type 0 where
  pub there : StandsIn legs end
  pub silent : WasSilent rules role now end
  pub first : (other : NearEnd) → StandsIn legs other → WasSilent rules role now other
      → is_before other.leg end.leg ≡ false

pub record FallsSilent {S : Type 0} (rules : Rules S) (node : Shell S) (now : ℕ) (why : Cause)
    : Type 0 where
  pub end : NearEnd
  pub later : node.now ≤ now
  pub first : IsFirstSilent rules node.role now node.legs end
  pub cause : why ≡ cause.Silent end.leg end.since now

-- ---- a piece comes

-- the first bytes of a piece make a head whole, behind those that are held, and the role refuses
-- that head with this status
pub record RefusesHead {S : Type 0} (rules : Rules S) (role : S) (end : NearEnd) (piece : List ℕ)
    (status : ℕ) : Type 0 where
  pub stage : end.intake.stage ≡ stage.Head
  pub front : List ℕ
  pub behind : List ℕ
  pub cut : front ++ behind ≡ piece
  pub whole : is_whole_head (end.intake.held ++ front) ≡ true
  pub refused : (rules.head role end.leg (end.intake.held ++ front)).1 ≡ Err (Status status)

-- a cause that what came on a leg may have: it tells of that leg. Forwarding may find another leg
-- full
abbrev pub IsOfPiece : Leg → (ℕ → Type 0) → Cause → Type 0
IsOfPiece leg Refuses (cause.LegBroken l) = ⊥
IsOfPiece leg Refuses (cause.LegEnded l partial) = ⊥
IsOfPiece leg Refuses (cause.BadFrame l place fault) = l ≡ leg
IsOfPiece leg Refuses (cause.BadPacket l place fault) = l ≡ leg
IsOfPiece leg Refuses (cause.Unexpected l place) = l ≡ leg
IsOfPiece leg Refuses (cause.CookieMismatch l expected got) = l ≡ leg
IsOfPiece leg Refuses (cause.WindowExceeded l reached edge) = l ≡ leg
IsOfPiece leg Refuses (cause.OutOfRange l command value) = l ≡ leg
IsOfPiece leg Refuses (cause.HttpRefused l status) = (l ≡ leg) × Refuses status
IsOfPiece leg Refuses (cause.BadHead l place fault) = l ≡ leg
IsOfPiece leg Refuses (cause.Silent l since now) = ⊥
IsOfPiece leg Refuses (cause.ControlFull l) = Unit {0}
IsOfPiece leg Refuses (cause.BodyOver l count length) = l ≡ leg

pub record ComesAmiss {S : Type 0} (rules : Rules S) (node : Shell S) (leg : Leg)
    (piece : List ℕ) (why : Cause) : Type 0 where
  pub end : NearEnd
  pub at : end_at node leg ≡ Some end
  pub same : end.leg ≡ leg
  pub cause : IsOfPiece leg (RefusesHead rules node.role end piece) why
