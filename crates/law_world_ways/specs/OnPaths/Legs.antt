-- what stands on one direction of a leg in a world (profile)
use Rattle.std.specs.Prelude.{◌≡◌, ◌⊎◌, ◌&&◌, ◌||◌, not, List, Bool, true, false, Some}
use Rattle.std.specs.declared.option.Option.{Option}
use Rattle.rh_text.specs.declared.ends.Dir.{Dir}
use Rattle.rh_text.specs.declared.ends.Side.{Side}
use Rattle.law_order.specs.Items.{Item, has_end, has_handover}
use Rattle.rh_sig.specs.declared.name.Pipe.{Pipe}
use Rattle.rh_line.specs.declared.leg.Leg.{Leg}
use Rattle.rh_shell.specs.declared.course.Course.TheVariants.{Going}
use Rattle.rh_shell.specs.NearEnds.{NearEnd, is_empty, is_over}
use Rattle.rh_shell.specs.Rules.{Message, Rules}
use Rattle.rh_shell.specs.Shells.{Shell, end_at}
use Rattle.rh_wires.specs.Wires.{in_flight, is_up, receiver, sender}
use Rattle.rh_nodes.specs.World.{World, at}
use Rattle.law_node_history.specs.Carried.{came_up, events_of, wire_at}
use Rattle.law_node_history.specs.Histories.{History}
use Rattle.law_node_streams.specs.Streams.{is_live, is_refused_on}
use Rattle.law_world_ways.specs.OnPaths.Lost.{was_lost}
use Rattle.law_world_ways.specs.OnPaths.OnWay.{left_on, on_way, read_on}

-- the leg came up for the node at an end
abbrev pub was_up : {K C S I O : Type 0} → World K C S I O → History → Leg → Side → Bool
was_up v h leg end = came_up leg (events_of h (at v leg end))

-- and is not up there any more
abbrev pub was_left : {K C S I O : Type 0} → World K C S I O → History → Leg → Side → Bool
was_left v h leg end = was_up v h leg end && not (is_up end (wire_at v.legs leg))

-- and was told that it ended or broke
abbrev pub was_told : {K C S I O : Type 0} → World K C S I O → History → Leg → Side → Bool
was_told v h leg end = was_lost leg (events_of h (at v leg end))

-- nothing is in flight, and nothing came to the end that takes
abbrev pub is_unheard : {K C S I O : Type 0} → World K C S I O → History → Leg → Dir → Bool
is_unheard v h leg dir =
    is_empty (in_flight dir (wire_at v.legs leg))
    && is_empty (h.fed (at v leg (receiver dir)) leg)

-- the end that takes left; or the one that puts did, maybe before the other end came up, so that
-- some may have been lost
abbrev pub is_cut : {K C S I O : Type 0} → World K C S I O → History → Leg → Dir → Bool
is_cut v h leg dir =
    was_left v h leg (receiver dir)
    || (was_left v h leg (sender dir) && is_unheard v h leg dir)

-- the messages that stand on it, between the node that puts and the one that takes
abbrev pub on_leg : {K C S I O P T : Type 0} → World K C S I O → History → Leg → Dir
    → Option Pipe → Shell P → Rules T → Shell T → Option (List Message)
on_leg v h leg dir pipe puts rules takes =
    on_way pipe (is_cut v h leg dir)
    (read_on rules takes pipe leg (was_up v h leg (receiver dir)))
    (in_flight dir (wire_at v.legs leg))
    (left_on puts leg (was_up v h leg (sender dir)) (was_told v h leg (sender dir)))

-- it is up for the end that takes, whose node keeps it, goes on and has use for it. It is up for the
-- end that puts as well, or that one left once something came or was in flight; its node keeps the
-- leg and refuses nobody there, and may have closed
pub record IsInUse {K C S I O P T : Type 0} (v : World K C S I O) (h : History) (leg : Leg)
    (dir : Dir) (puts : Shell P) (rules : Rules T) (takes : Shell T) : Type 0 where
  pub heard : (is_up (sender dir) (wire_at v.legs leg) ≡ true)
      ⊎ (is_unheard v h leg dir ≡ false)
  pub up_there : is_up (receiver dir) (wire_at v.legs leg) ≡ true
  pub free : is_refused_on leg puts.course ≡ false
  pub takes_on : takes.course ≡ Going
  pub near : NearEnd
  pub far : NearEnd
  pub kept_here : end_at puts leg ≡ Some near
  pub kept_there : end_at takes leg ≡ Some far
  pub of_use : is_over rules far takes.role ≡ false
  pub live : is_live far.intake.stage ≡ true

-- or its handover mark or END passed
abbrev pub has_passed : List Item → Bool
has_passed came = has_handover came || has_end came
