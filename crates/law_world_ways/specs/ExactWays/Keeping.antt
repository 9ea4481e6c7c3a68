-- the legs that a node keeps while its role has use for them (MS-RPCH 3.2; profile)
use Rattle.std.specs.Prelude.{◌≡◌, ◌⊎◌, Bool, true, false, Some, None}
use Rattle.rh_line.specs.declared.leg.Leg.{Leg}
use Rattle.rh_shell.specs.declared.course.Course.TheVariants.{Going}
use Rattle.rh_shell.specs.NearEnds.{NearEnd, is_marked}
use Rattle.rh_shell.specs.Rules.{Rules}
use Rattle.rh_shell.specs.Shells.{Shell, end_at}
use Rattle.law_moves.specs.Moves.{is_in_use}

-- it keeps an end of the leg, and was not told that this ended or broke
pub record KeepsEnd {S : Type 0} (node : Shell S) (leg : Leg) : Type 0 where
  pub end : NearEnd
  pub at : end_at node leg ≡ Some end
  pub unmarked : is_marked end.standing ≡ false

-- or the role has no use for it, or its work is done
abbrev pub KeepsIfOfUse : {S : Type 0} → Rules S → Shell S → Leg → Type 0
KeepsIfOfUse rules node leg =
    node.course ≡ Going → KeepsEnd node leg ⊎ (is_in_use rules node.role leg ≡ false)

-- a leg that came up is one that the role knows so; of one that did not the node keeps nothing
pub record KnowsLeg {S : Type 0} (rules : Rules S) (node : Shell S) (leg : Leg) (up : Bool)
    : Type 0 where
  pub known : up ≡ true → rules.was_up node.role leg ≡ true
  pub absent : up ≡ false → end_at node leg ≡ None
