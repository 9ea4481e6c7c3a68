-- what the answers of a line show of what its nodes were told (profile)
use Rattle.std.specs.Prelude.{◌≡◌, ◌⊎◌, ℕ, List, [], ◌∷◌, true, Some, None}
use Rattle.std.specs.declared.option.Option.{Option}
use Rattle.rh_text.specs.declared.ends.Dir.{Dir}
use Rattle.rh_line.specs.declared.leg.Leg.{Leg}
use Rattle.rh_record.specs.declared.answer.Answer.{Answer}
use Rattle.rh_record.specs.declared.answer.Answer.TheVariants as answer
use Rattle.rh_record.specs.declared.answer.Who.{Who}
use Rattle.rh_wires.specs.Legs as legs
use Rattle.rh_wires.specs.Wires.{sender, receiver}
use Rattle.rh_company.specs.declared.event.Event.{Event}
use Rattle.rh_company.specs.declared.event.Event.TheVariants.{Comes, Ends, Breaks, Passes}
use Rattle.rh_company.specs.Company.{Rulebook}
use Rattle.rh_nodes.specs.Giving.{Deeds}
use Rattle.rh_nodes.specs.Opening.{Makers}
use Rattle.rh_nodes.specs.World.{World, at}
use Rattle.law_node_history.specs.Changes.{Change, Works, changed}
use Rattle.law_node_history.specs.Closes.{IsOneOf, told_by}
use Rattle.law_node_history.specs.Drawn.{AreDrawnFor, all_risen}

-- the leg, which was up for the node, ended in a direction in which it puts there
pub record ShowsLoss {K C S I O : Type 0} (answers : List Answer) (w : World K C S I O)
    (node : Who) (leg : Leg) : Type 0 where
  pub dir : Dir
  pub puts : at w leg (sender dir) ≡ node
  pub up : legs.is_up leg (sender dir) w.legs ≡ true
  pub shown : IsOneOf (answer.EndLeg leg dir true) answers

-- the leg ended in a direction in which the node is put to there
pub record ShowsEnd {K C S I O : Type 0} (answers : List Answer) (w : World K C S I O)
    (node : Who) (leg : Leg) : Type 0 where
  pub dir : Dir
  pub reads : at w leg (receiver dir) ≡ node
  pub shown : IsOneOf (answer.EndLeg leg dir true) answers

-- the piece moved to the node; a settling does not tell of an empty one
pub record ShowsPiece {K C S I O : Type 0} (answers : List Answer) (w : World K C S I O)
    (node : Who) (leg : Leg) (piece : List ℕ) : Type 0 where
  pub dir : Dir
  pub reads : at w leg (receiver dir) ≡ node
  pub shown : (piece ≡ []) ⊎ IsOneOf (answer.Move (Some leg) dir (Some piece)) answers

-- the answers show what the node was told in that world
abbrev pub Shows : {K C S I O : Type 0} → List Answer → World K C S I O → Who → Event → Type 0
Shows answers w node (Comes leg piece) = ShowsPiece answers w node leg piece
Shows answers w node (Ends leg) = ShowsEnd answers w node leg
Shows answers w node (Breaks leg) =
    IsOneOf (answer.BreakLeg leg true) answers ⊎ ShowsLoss answers w node leg
Shows answers w node (Passes now) = IsOneOf (answer.Tick now true) answers

abbrev pub IsShown : {K C S I O : Type 0} → List Answer → World K C S I O → Option (Who × Event)
    → Type 0
IsShown answers w None = Unit {0}
IsShown answers w (Some told) = Shows answers w told.0 told.1

-- whatever the changes tell a node, from the first to the last
abbrev pub AreShown : {K C S I O : Type 0} → Rulebook C S I O → Makers K I O → Deeds C S
    → List Answer → World K C S I O → List Change → Type 0
AreShown r m d answers w [] = Unit {0}
AreShown r m d answers w (change ∷ changes) =
    IsShown answers w (told_by w change)
    × AreShown r m d answers (changed r m d w change) changes

-- changes lead from one world to the other, and the answers show what they tell; the legs of the
-- client that come up by them get cookies that are drawn for them
pub record ShownWorks {K C S I O : Type 0} (r : Rulebook C S I O) (m : Makers K I O)
    (d : Deeds C S) (answers : List Answer) (w v : World K C S I O) : Type 0 where
  pub works : Works r m d w v
  pub shown : AreShown r m d answers w works.leads.changes
  pub drawn : AreDrawnFor (all_risen works.leads.changes) w.cookies v.cookies
