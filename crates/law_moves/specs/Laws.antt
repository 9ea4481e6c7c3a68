-- laws of nodes
use Rattle.std.specs.Prelude.{◌≡◌, ◌+◌, ◌++◌, ℕ, List, [], ◌∷◌}
use Rattle.rh_line.specs.declared.leg.Leg.{Leg}
use Rattle.rh_line.specs.declared.leg.LegKind.{LegKind}
use Rattle.rh_line.specs.declared.cause.Cause.{Cause}
use Rattle.rh_line.specs.declared.state.Verdict.TheVariants as verdict
use Rattle.rh_shell.specs.declared.course.Course.{Course}
use Rattle.rh_shell.specs.declared.course.Course.TheVariants.{Going, Closed, Refusing}
use Rattle.rh_shell.specs.Rules.{Rules}
use Rattle.rh_shell.specs.NearEnds.{NearEnd}
use Rattle.rh_shell.specs.Shells.{Shell, bytes, ended, broken, drawn, tick, is_of, one_if}

-- the node closed with this cause
abbrev pub ClosedWith : Cause → Course → Type 0
ClosedWith why Going = ⊥
ClosedWith why (Closed first) = first ≡ why
ClosedWith why (Refusing first leg rest) = first ≡ why

-- whatever comes then, nothing changes, and the answer is that cause
pub record Stays {S : Type 0} (rules : Rules S) (s : Shell S) (why : Cause) : Type 0 where
  pub bytes : (leg : Leg) (piece : List ℕ) → bytes rules s leg piece ≡ (s, verdict.Closed why)
  pub ended : (leg : Leg) → ended rules s leg ≡ (s, verdict.Closed why)
  pub broken : (leg : Leg) → broken rules s leg ≡ (s, verdict.Closed why)
  pub tick : (now : ℕ) → tick rules s now ≡ (s, verdict.Closed why)
  -- drawing keeps the cause
  pub draw : (leg : Leg) (room : ℕ) → ClosedWith why (drawn rules s leg room).0.course

-- up to so many bytes more are drawn, behind those that were drawn
abbrev pub then_drawn : {S : Type 0} → Rules S → Shell S × List ℕ → Leg → ℕ → Shell S × List ℕ
then_drawn rules first leg room =
    let next = drawn rules first.0 leg room in (next.0, first.1 ++ next.1)

-- how many legs of a kind are kept, unfinished or finished
abbrev pub kept : LegKind → List NearEnd → ℕ
kept kind [] = 0
kept kind (end ∷ ends) = one_if (is_of kind end.leg) + kept kind ends
