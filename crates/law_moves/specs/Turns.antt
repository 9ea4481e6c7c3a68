-- moves in the turn in which a node makes them: what comes on a leg comes behind what is to come
-- first there (MS-RPCH 2.1.2, profile)
use Rattle.std.specs.Prelude.{ℕ, ◌≡◌, List, [], ◌∷◌, Bool, true, false, if◌then◌else◌, is_some, Some, None, Ok, Err}
use Rattle.std.specs.List.{list_any}
use Rattle.std.specs.declared.option.Option.{Option}
use Rattle.std.specs.declared.result.Result.{Result}
use Rattle.rh_sig.specs.declared.name.Pipe.{Pipe}
use Rattle.rh_http.specs.declared.fault.HttpFault.{HttpFault}
use Rattle.rh_line.specs.declared.leg.Leg.{Leg}
use Rattle.rh_shell.specs.declared.answers.HeadRefused.{HeadRefused}
use Rattle.rh_shell.specs.declared.answers.HeadRefused.TheVariants as head
use Rattle.rh_shell.specs.declared.answers.HeadTaken.{HeadTaken}
use Rattle.rh_shell.specs.declared.stage.Stage.{Stage}
use Rattle.rh_shell.specs.declared.stage.Stage.TheVariants as stage
use Rattle.rh_shell.specs.Hearing.{stage_of}
use Rattle.rh_shell.specs.NearEnds.{first_stage}
use Rattle.rh_shell.specs.Rules.{Rules}
use Rattle.rh_shell.specs.Shells.{same_leg}
use Rattle.law_moves.specs.Moves.{Move, Up, HeadCame, PduCame, PacketCame, Puts, IsDrawn, Marks, Pings, Passage, started, moved, all_moved, AreAllowed}
use Rattle.law_moves.specs.Wires.{of_leg}

-- what comes next on each leg; none where it did not come up
abbrev pub Stages : Type 0
Stages = Leg → Option Stage

abbrev pub none_up : Stages
none_up leg = None

abbrev pub with_stage : Leg → Stage → Stages → Stages
with_stage leg next stages other = if same_leg leg other then Some next else stages other

-- behind a head come frames, or a body that is passed over; behind one that is refused nothing
abbrev pub behind_head : Result HeadTaken HeadRefused → Stage
behind_head (Ok taken) = stage_of taken.behind
behind_head (Err refused) = stage.Shut

abbrev pub stages_after : {S : Type 0} → Rules S → S → Stages → Move → Stages
stages_after rules s stages (Up leg cookie) =
    with_stage leg (first_stage (rules.pipe s leg)) stages
stages_after rules s stages (HeadCame leg text) =
    with_stage leg (behind_head (rules.head s leg text).1) stages
stages_after rules s stages (PduCame leg count pdu) = stages
stages_after rules s stages (PacketCame leg count named) = stages
stages_after rules s stages (Puts leg) = stages
stages_after rules s stages (IsDrawn leg) = stages
stages_after rules s stages (Marks leg) = stages
stages_after rules s stages (Pings leg) = stages

-- frames come next, or come behind the greeting
abbrev pub takes_frames : Option Stage → Bool
takes_frames (Some stage.Greeting) = true
takes_frames (Some stage.Frames) = true
takes_frames next = false

-- a leg comes up once; one head comes on it, where a head comes first; PDUs and packets come where
-- frames do; messages are put where it came up; and a Ping is due where the role says after which
-- time
abbrev pub IsInTurn : {S : Type 0} → Rules S → S → Stages → Move → Type 0
IsInTurn rules s stages (Up leg cookie) = stages leg ≡ None
IsInTurn rules s stages (HeadCame leg text) = stages leg ≡ Some stage.Head
IsInTurn rules s stages (PduCame leg count pdu) = takes_frames (stages leg) ≡ true
IsInTurn rules s stages (PacketCame leg count named) = takes_frames (stages leg) ≡ true
IsInTurn rules s stages (Puts leg) = is_some (stages leg) ≡ true
IsInTurn rules s stages (IsDrawn leg) = Unit {0}
IsInTurn rules s stages (Marks leg) = Unit {0}
IsInTurn rules s stages (Pings leg) = is_some (rules.ping_after s leg) ≡ true

abbrev pub AreInTurnFrom : {S : Type 0} → Rules S → Passage S → Stages → List Move → Type 0
AreInTurnFrom rules p stages [] = Unit {0}
AreInTurnFrom rules p stages (move ∷ moves) =
    IsInTurn rules p.role stages move
    × AreInTurnFrom rules (moved rules p move) (stages_after rules p.role stages move) moves

-- each move is in its turn, from the start
abbrev pub AreInTurn : {S : Type 0} → Rules S → S → List Move → Type 0
AreInTurn rules first moves = AreInTurnFrom rules (started first) none_up moves

-- ---- where a client is refused

-- a head comes on the leg by the move
abbrev pub is_head_on : Leg → Move → Bool
is_head_on leg (HeadCame other text) = same_leg other leg
is_head_on leg move = false

-- where moves are in their turn: a client is refused on a leg only where nothing was put there
pub record RefusesInTurn {S : Type 0} (rules : Rules S) (first : S) (pipe : Leg → Option Pipe)
    (leg : Leg) : Type 0 where
  pub asked : (moves : List Move) (text : List ℕ) (fault : HttpFault)
      → AreAllowed rules (started first) moves → AreInTurn rules first moves
      → first_stage (pipe leg) ≡ stage.Head → list_any (is_head_on leg) moves ≡ false
      → (rules.head (all_moved rules (started first) moves).role leg text).1
      ≡ Err (head.Request fault)
      → of_leg leg (all_moved rules (started first) moves).put ≡ []
  pub unreached : (moves : List Move) (wanted : Leg) → AreAllowed rules (started first) moves
      → AreInTurn rules first moves
      → rules.answers_on (all_moved rules (started first) moves).role ≡ Some leg
      → rules.wants (all_moved rules (started first) moves).role wanted ≡ true
      → of_leg leg (all_moved rules (started first) moves).put ≡ []
