-- what a node keeps of a leg that is up
use Rattle.std.specs.Prelude.{ℕ, List, [], ◌∷◌, Bool, true, false, ◌||◌, ◌&&◌, Some, None}
use Rattle.std.specs.declared.option.Option.{Option}
use Rattle.rh_sig.specs.declared.name.Pipe.{Pipe}
use Rattle.rh_sig.specs.declared.name.Pipe.TheVariants.{CiU, IsU, IsD, CoU, CoD, OsU, OsD}
use Rattle.rh_line.specs.declared.leg.Leg.{Leg}
use Rattle.rh_shell.specs.declared.answers.Count.{Count}
use Rattle.rh_shell.specs.declared.answers.Count.TheVariants.{Zero}
use Rattle.rh_shell.specs.declared.answers.Phase.{Phase}
use Rattle.rh_shell.specs.declared.answers.Phase.TheVariants as phase
use Rattle.rh_shell.specs.declared.stage.Stage.{Stage}
use Rattle.rh_shell.specs.declared.stage.Stage.TheVariants as stage
use Rattle.rh_shell.specs.declared.standing.Standing.{Standing}
use Rattle.rh_shell.specs.declared.standing.Standing.TheVariants.{Up, Marked}
use Rattle.rh_shell.specs.Intakes.{Intake, fresh}
use Rattle.rh_shell.specs.Rules.{Rules}

pub record NearEnd : Type 0 where
  pub leg : Leg
  -- the pipe that is read here; none where no packets come
  pub pipe : Option Pipe
  pub intake : Intake
  -- the packets that came, Pings apart
  pub count : Count
  -- what is left to draw of the last message that was put
  pub begun : List ℕ
  -- whether the other side ended or broke the leg
  pub standing : Standing
  -- the moments of the last bytes, and of the last put; at first that of `up`
  pub since : ℕ
  pub put_at : ℕ

-- ---- what comes first

-- clients and proxies begin with heads, servers with a greeting on the legs from them (MS-RPCH
-- 2.1.2; the greeting is this profile's)
abbrev pub first_on : Pipe → Stage
first_on CiU = stage.Head
first_on CoU = stage.Head
first_on CoD = stage.Head
first_on IsD = stage.Greeting
first_on OsD = stage.Greeting
first_on IsU = stage.Frames
first_on OsU = stage.Frames

-- where no packets come, a head alone may come
abbrev pub first_stage : Option Pipe → Stage
first_stage None = stage.Head
first_stage (Some pipe) = first_on pipe

abbrev pub new_end : Leg → Option Pipe → ℕ → NearEnd
new_end leg pipe now = record {
  leg = leg;
  pipe = pipe;
  intake = fresh (first_stage pipe);
  count = Zero;
  begun = [];
  standing = Up;
  since = now;
  put_at = now;
}

-- ---- the end of its use

abbrev pub is_empty : List ℕ → Bool
is_empty [] = true
is_empty (b ∷ bs) = false

-- the first of a list of messages, or no bytes
abbrev pub first_of : List (List ℕ) → List ℕ
first_of [] = []
first_of (message ∷ messages) = message

abbrev pub is_marked : Standing → Bool
is_marked Up = false
is_marked Marked = true

abbrev pub is_ended : Phase → Bool
is_ended phase.Ended = true
is_ended p = false

-- the role has no use for the leg any more, or its work is done
abbrev pub is_useless : {S : Type 0} → Rules S → NearEnd → S → Bool
is_useless rules end role = rules.is_done role end.leg || is_ended (rules.phase role)

-- nothing is taken or put there any more
abbrev pub is_over : {S : Type 0} → Rules S → NearEnd → S → Bool
is_over rules end role = is_marked end.standing || is_useless rules end role

-- the role has no use for the leg any more, and nothing is left to draw
abbrev pub is_finished : {S : Type 0} → Rules S → S → NearEnd → Bool
is_finished rules role end =
    is_marked end.standing || (is_useless rules end role && is_empty end.begun)

-- the other side ended or broke the leg
abbrev pub marked : NearEnd → NearEnd
marked end = record end { standing = Marked }
