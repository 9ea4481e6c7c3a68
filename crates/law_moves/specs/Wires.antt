-- what a leg carries over many calls: its messages in the logs, and the bytes (profile)
use Rattle.std.specs.Prelude.{ℕ, ◌≡◌, ◌++◌, List, [], ◌∷◌, if◌then◌else◌}
use Rattle.std.specs.List.{concat, AllByRecursion}
use Rattle.std.specs.declared.option.Option.{Option}
use Rattle.rh_pdu.specs.Frames.{IsFrame}
use Rattle.rh_sig.specs.declared.name.Pipe.{Pipe}
use Rattle.rh_line.specs.declared.leg.Leg.{Leg}
use Rattle.rh_shell.specs.Rules.{Message}
use Rattle.rh_shell.specs.Shells.{same_leg}
use Rattle.law_moves.specs.Moves.{Passage, OnLeg}
use Rattle.law_moves.specs.Carrying.{spelled, messages_in}

-- the messages of a leg in a log
abbrev pub of_leg : Leg → List OnLeg → List Message
of_leg leg [] = []
of_leg leg (one ∷ log) =
    if same_leg one.0 leg then one.1 ∷ of_leg leg log else of_leg leg log

-- from one passage to the other messages were put on the leg; begun was left to draw before, left
-- is left now, and these bytes were drawn
pub record Out {S : Type 0} (p q : Passage S) (leg : Leg) (begun bytes left : List ℕ)
    : Type 0 where
  pub messages : List Message
  pub put : of_leg leg q.put ≡ of_leg leg p.put ++ messages
  pub spells : begun ++ spelled messages ≡ bytes ++ left

-- frames were taken on the leg; held was held before, left is held now, and these bytes came
pub record In {S : Type 0} (p q : Passage S) (leg : Leg) (pipe : Option Pipe)
    (held bytes left : List ℕ) : Type 0 where
  pub frames : List (List ℕ)
  pub each : AllByRecursion IsFrame frames
  pub came : of_leg leg q.came ≡ of_leg leg p.came ++ messages_in pipe frames
  pub joined : held ++ bytes ≡ concat frames ++ left
