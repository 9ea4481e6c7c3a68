-- why a node closes: what each event may close it with, and where each cause comes from (profile)
use Rattle.std.specs.Prelude.{ℕ, ◌≡◌, ◌++◌, List, Some}
use Rattle.rh_line.specs.declared.leg.Leg.{Leg}
use Rattle.rh_line.specs.declared.cause.Cause.{Cause}
use Rattle.rh_line.specs.declared.cause.Cause.TheVariants as cause
use Rattle.rh_shell.specs.NearEnds.{NearEnd}
use Rattle.rh_shell.specs.Rules.{Rules}
use Rattle.rh_shell.specs.Shells.{Shell, end_at}
use Rattle.rh_client.specs.declared.state.ClientRole.{ClientRole}
use Rattle.rh_company.specs.declared.event.Event.{Event}
use Rattle.rh_company.specs.declared.event.Event.TheVariants.{Comes, Ends, Breaks, Passes}
use Rattle.rh_company.specs.Telling.{tell}
use Rattle.law_node_causes.specs.Refusals.{IsRefusedBy}
use Rattle.law_node_causes.specs.Reasons.{EndsPartly, FallsSilent, RefusesHead, ComesAmiss}

-- the event closed the node with this cause
abbrev pub ClosesWith : {S : Type 0} → Rules S → Shell S → Event → Cause → Type 0
ClosesWith rules node event why = (tell rules node event).1 ≡ Some why

-- ---- the cause of each event

abbrev pub MayClose : {S : Type 0} → Rules S → Shell S → Event → Cause → Type 0
MayClose rules node (Comes leg piece) why = ComesAmiss rules node leg piece why
MayClose rules node (Ends leg) why = EndsPartly rules node leg why
MayClose rules node (Breaks leg) why = why ≡ cause.LegBroken leg
MayClose rules node (Passes now) why = FallsSilent rules node now why

-- ---- the event of each cause

-- a piece came, on some leg
pub record IsPiece (event : Event) : Type 0 where
  pub leg : Leg
  pub piece : List ℕ
  pub is : event ≡ Comes leg piece

-- a piece came on the leg, in which the role refused a head with the status
pub record IsRefusal {S : Type 0} (rules : Rules S) (node : Shell S) (event : Event) (leg : Leg)
    (status : ℕ) : Type 0 where
  pub piece : List ℕ
  pub is : event ≡ Comes leg piece
  pub end : NearEnd
  pub at : end_at node leg ≡ Some end
  pub refuses : RefusesHead rules node.role end piece status

abbrev pub ComesFrom : {S : Type 0} → Rules S → Shell S → Event → Cause → Type 0
ComesFrom rules node event (cause.LegBroken leg) = event ≡ Breaks leg
ComesFrom rules node event (cause.LegEnded leg partial) = event ≡ Ends leg
ComesFrom rules node event (cause.Silent leg since now) = event ≡ Passes now
ComesFrom rules node event (cause.HttpRefused leg status) = IsRefusal rules node event leg status
ComesFrom rules node event why = IsPiece event

-- ---- a client's responses

-- a piece came on the leg, whose first bytes make a response whole, behind those that are held: it
-- refuses the channel with this status
pub record IsResponse (node : Shell ClientRole) (event : Event) (leg : Leg) (status : ℕ)
    : Type 0 where
  pub piece : List ℕ
  pub is : event ≡ Comes leg piece
  pub end : NearEnd
  pub at : end_at node leg ≡ Some end
  pub front : List ℕ
  pub behind : List ℕ
  pub cut : front ++ behind ≡ piece
  pub refused : IsRefusedBy leg (end.intake.held ++ front) status
