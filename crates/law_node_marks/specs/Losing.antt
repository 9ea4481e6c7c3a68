-- nodes that lose legs, and rules that differ in the legs that are only marked (profile)
use Rattle.std.specs.Prelude.{◌≡◌, ◌⊎◌, List, [], ◌∷◌, Bool, true, false, Some}
use Rattle.rh_line.specs.declared.leg.Leg.{Leg}
use Rattle.rh_shell.specs.NearEnds.{NearEnd}
use Rattle.rh_shell.specs.Rules.{Rules}
use Rattle.rh_shell.specs.Shells.{Shell, end_at, same_leg}
use Rattle.law_moves.specs.Moves.{is_at_work}
use Rattle.law_moves.specs.Moving.{Event, Ends, Breaks, after_event}

-- nothing that was put on the leg is left to draw, as far as the node keeps it
abbrev pub DrewAll : {S : Type 0} → Shell S → Leg → Type 0
DrewAll node leg = (end : NearEnd) → end_at node leg ≡ Some end → end.begun ≡ []

-- while its work goes on, the role only marks the leg; or it has no use for that, and drew all
abbrev pub MayLose : {S : Type 0} → Rules S → Shell S → Leg → Type 0
MayLose rules node leg =
    is_at_work rules node.role ≡ true
    → (rules.only_marks node.role leg ≡ true)
    ⊎ ((rules.is_done node.role leg ≡ true) × DrewAll node leg)

-- the same rules, by which these legs are only marked
abbrev pub marking : {S : Type 0} → Rules S → (S → Leg → Bool) → Rules S
marking rules marks = record rules { only_marks = marks }

-- the event doesn't lose the leg
abbrev pub KeepsLeg : Leg → Event → Type 0
KeepsLeg leg (Ends other) = same_leg other leg ≡ false
KeepsLeg leg (Breaks other) = same_leg other leg ≡ false
KeepsLeg leg event = Unit {0}

-- where the event loses a leg, both say the same of it
abbrev pub AgreeOn : {S : Type 0} → Rules S → (S → Leg → Bool) → S → Event → Type 0
AgreeOn rules marks s (Ends leg) = marks s leg ≡ rules.only_marks s leg
AgreeOn rules marks s (Breaks leg) = marks s leg ≡ rules.only_marks s leg
AgreeOn rules marks s event = Unit {0}

-- so it is at each of these events
abbrev pub AllAgree : {S : Type 0} → Rules S → (S → Leg → Bool) → Shell S → List Event → Type 0
AllAgree rules marks node [] = Unit {0}
AllAgree rules marks node (event ∷ events) =
    AgreeOn rules marks node.role event
    × AllAgree rules marks (after_event rules node event) events
