-- a script is played: what each line does, and what is answered (profile)
use Rattle.std.specs.Prelude.{ℕ, List, [], ◌∷◌, Bool, Some, None}
use Rattle.std.specs.declared.option.Option.{Option}
use Rattle.rh_rts.specs.declared.command.Cookie.{Cookie}
use Rattle.rh_rts.specs.declared.command.TheConstants.{NO_COOKIE}
use Rattle.rh_sig.specs.declared.name.Pipe.{Pipe}
use Rattle.rh_line.specs.declared.leg.Leg.{Leg}
use Rattle.rh_line.specs.declared.state.Verdict.{Verdict}
use Rattle.rh_record.specs.declared.answer.Answer.{Answer}
use Rattle.rh_record.specs.declared.line.Key.{Key}
use Rattle.rh_server.specs.declared.first_frame.FirstKind.{FirstKind}
use Rattle.rh_world.specs.declared.config.WorldConfig.{WorldConfig}
use Rattle.rh_world.specs.Config.{roles_config, with_number}
use Rattle.rh_play.specs.declared.node.Node.{Node}
use Rattle.rh_script.specs.declared.step.Part.{Part}
use Rattle.rh_script.specs.declared.step.Naming.{Naming}
use Rattle.rh_script.specs.declared.step.Naming.TheVariants.{On, Off}
use Rattle.rh_script.specs.declared.step.Act.{Act}
use Rattle.rh_script.specs.declared.step.Act.TheVariants as acts
use Rattle.rh_script.specs.declared.step.Step.{Step}
use Rattle.rh_script.specs.declared.step.Step.TheVariants as steps
use Rattle.rh_told.specs.declared.told.Told.{Told}
use Rattle.rh_told.specs.declared.told.Told.TheVariants as told
use Rattle.rh_play.specs.Nodes as nodes

-- the numbers of the nodes that will begin, whether packets are named, and the node that plays,
-- where one began
pub record Player : Type 0 where
  pub config : WorldConfig
  pub naming : Naming
  pub node : Option Node

abbrev pub first : Player
first = record { config = roles_config; naming = Off; node = None }

-- ---- what a node is told or asked

abbrev pub told_end : Option Answer → Told
told_end None = told.None
told_end (Some answer) = told.End answer

abbrev pub told_channels : Option (ℕ × ℕ) → Told
told_channels None = told.None
told_channels (Some numbers) = told.Channels numbers.0 numbers.1

abbrev pub told_target : Option (Option (List ℕ × ℕ)) → Told
told_target None = told.None
told_target (Some target) = told.Target target

abbrev pub told_first : Option FirstKind → Told
told_first None = told.None
told_first (Some kind) = told.First kind

abbrev pub as_end : Node × Option Answer → Node × Told
as_end did = (did.0, told_end did.1)

abbrev pub acted : Node → Act → Node × Told
acted node acts.Take = as_end (nodes.taken node)
acted node acts.Close = as_end (nodes.closed node)
acted node acts.Recycle = as_end (nodes.recycled node)
acted node acts.State = (node, told.State (nodes.state node))
acted node acts.Channels = (node, told_channels (nodes.channels node))
acted node acts.Target = (node, told_target (nodes.target node))

abbrev pub told_as : {X : Type 0} → (X → Told) → Node × X → Node × Told
told_as tell did = (did.0, tell did.1)

-- bytes that were drawn, and where packets are named, the pipe on which they were put
abbrev pub told_drawn : Naming → Option Pipe → Leg → List ℕ → Told
told_drawn On pipe leg bytes = told.Named leg pipe bytes
told_drawn Off pipe leg bytes = told.Drawn leg bytes

-- the cookie of a leg, or that of no channel
abbrev pub cookie_of : Option Cookie → Cookie
cookie_of None = NO_COOKIE
cookie_of (Some cookie) = cookie

abbrev pub done : Naming → Node → Step → Node × Told
done naming node steps.Note = (node, told.Silent)
done naming node (steps.Case words) = (node, told.Silent)
done naming node (steps.Set key value) = (node, told.Silent)
done naming node (steps.Names other) = (node, told.Silent)
done naming node (steps.Begin part) = (node, told.Silent)
done naming node (steps.Ask ask leg) = (node, told.Asked ask leg (nodes.asked node ask leg))
done naming node (steps.Up leg cookie) = told_as (told.Up leg) (nodes.up node leg (cookie_of cookie))
done naming node (steps.Feed cut leg bytes) = told_as (told.Fed cut leg) (nodes.fed node cut leg bytes)
done naming node (steps.Draw leg count) =
    told_as (told_drawn naming (nodes.put_on node leg.kind) leg) (nodes.drawn node leg count)
done naming node (steps.Lose loss leg) = told_as (told.Lost loss leg) (nodes.lost node loss leg)
done naming node (steps.Tick now) = told_as (told.Ticked now) (nodes.ticked node now)
done naming node (steps.Give pdu) = as_end (nodes.given node pdu)
done naming node (steps.Act act) = acted node act
done naming node (steps.First bytes) = (node, told_first (nodes.first node bytes))

-- ---- lines

abbrev pub set : Player → Key → ℕ → Player
set p key value = record p { config = with_number p.config key value }

abbrev pub named : Player → Naming → Player
named p naming = record p { naming = naming }

-- a node begins, and ends the one before
abbrev pub begun : Player → Part → Player
begun p part = record p { node = Some (nodes.made p.config part) }

abbrev pub with_node : Player → Node × Told → Player × Told
with_node p did = (record p { node = Some did.0 }, did.1)

abbrev pub passed_to : Player → Step → Option Node → Player × Told
passed_to p step None = (p, told.None)
passed_to p step (Some node) = with_node p (done p.naming node step)

abbrev pub passed_on : Player → Step → Player × Told
passed_on p step = passed_to p step p.node

-- what a line does, and what is answered
abbrev pub step : Player → Step → Player × Told
step p steps.Note = (p, told.Silent)
step p (steps.Case words) = (p, told.Case words)
step p (steps.Set key value) = (set p key value, told.Silent)
step p (steps.Names naming) = (named p naming, told.Silent)
step p (steps.Begin part) = (begun p part, told.Begun part)
step p line = passed_on p line

-- the answers to lines, one after the other
abbrev pub answers : Player → List Step → List Told
answers p [] = []
answers p (line ∷ lines) = (step p line).1 ∷ answers (step p line).0 lines
