-- the legs whose bytes a node reads (MS-RPCH 3.2; profile)
use Rattle.std.specs.Prelude.{◌≡◌, List, Bool, ℕ, true, Some}
use Rattle.std.specs.declared.option.Option.{Option}
use Rattle.rh_sig.specs.declared.name.Pipe.{Pipe}
use Rattle.rh_line.specs.declared.leg.Leg.{Leg}
use Rattle.rh_shell.specs.declared.course.Course.TheVariants.{Going}
use Rattle.rh_shell.specs.declared.stage.Stage.TheVariants as stage
use Rattle.rh_shell.specs.NearEnds.{NearEnd, first_stage}
use Rattle.rh_shell.specs.Shells.{Shell, end_at}
use Rattle.law_node_streams.specs.Streams.{IsFirstHead, is_live}
use Rattle.law_node_ends.specs.Passed.{AsksNoEcho}

-- while it goes on, the node reads what comes on the leg if it keeps an end of it
abbrev pub ReadsLeg : {S : Type 0} → Shell S → Leg → Type 0
ReadsLeg node leg =
    node.course ≡ Going → (end : NearEnd) → end_at node leg ≡ Some end
    → is_live end.intake.stage ≡ true

-- where a head comes first: none with which the bytes begin asks for an echo, as a request for an
-- IN channel (true) or an OUT channel (MS-RPCH 2.1.2)
abbrev pub BeginsNoEcho : Bool → Option Pipe → List ℕ → Type 0
BeginsNoEcho inbound pipe heard =
    first_stage pipe ≡ stage.Head → (text : List ℕ) → IsFirstHead text heard
    → AsksNoEcho inbound text
