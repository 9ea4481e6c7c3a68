-- the lines by which a leg is lost (profile)
use Rattle.std.specs.Prelude.{◌&&◌, ◌||◌, Bool, true, false, if◌then◌else◌}
use Rattle.rh_text.specs.declared.ends.Dir.{Dir}
use Rattle.rh_text.specs.declared.ends.Side.{Side}
use Rattle.rh_text.specs.declared.ends.Side.TheVariants as side
use Rattle.rh_line.specs.declared.leg.Leg.{Leg}
use Rattle.rh_record.specs.declared.answer.Who.{Who}
use Rattle.rh_wires.specs.Legs as legs
use Rattle.rh_wires.specs.Wires.{sender, receiver}
use Rattle.rh_company.specs.declared.event.Event.{Event}
use Rattle.rh_company.specs.declared.event.Event.TheVariants.{Breaks, Ends}
use Rattle.rh_company.specs.Company as company
use Rattle.rh_company.specs.Company.{Rulebook}
use Rattle.rh_nodes.specs.World.{World, at, tell}

-- ---- one end

-- the leg is down for an end
abbrev pub without : {K C S I O : Type 0} → Rulebook C S I O → World K C S I O → Who → Leg → Side
    → World K C S I O
without r w node leg end = record w {
  company = company.leave r w.company node;
  legs = legs.lower leg end w.legs;
}

abbrev pub lost : {K C S I O : Type 0} → Rulebook C S I O → World K C S I O → Who → Leg → Side
    → Event → World K C S I O
lost r w node leg end event = without r (tell r w node event) node leg end

-- an end is told that the leg is lost, where it was up for it
abbrev pub lose : {K C S I O : Type 0} → Rulebook C S I O → World K C S I O → Leg → Side → Event
    → World K C S I O
lose r w leg end event =
    if legs.is_up leg end w.legs then lost r w (at w leg end) leg end event else w

-- up for one end at least
abbrev pub is_up : {K C S I O : Type 0} → World K C S I O → Leg → Bool
is_up w leg = legs.is_up leg side.Client w.legs || legs.is_up leg side.Server w.legs

-- ---- a leg fails

abbrev pub refuse_at : {K C S I O : Type 0} → Rulebook C S I O → World K C S I O → Leg → Who
    → Who → World K C S I O × Bool
refuse_at r w leg client server =
    if company.wants r w.company client leg then (tell r w client (Breaks leg), true)
    else (if company.wants r w.company server leg then (tell r w server (Breaks leg), true)
    else (w, false))

-- the node that wants a leg is told that it cannot be connected
abbrev pub refuse : {K C S I O : Type 0} → Rulebook C S I O → World K C S I O → Leg
    → World K C S I O × Bool
refuse r w leg = refuse_at r w leg (at w leg side.Client) (at w leg side.Server)

-- both ends of a leg that is up are told so, and what is in flight is lost
abbrev pub break_leg : {K C S I O : Type 0} → Rulebook C S I O → World K C S I O → Leg
    → World K C S I O × Bool
break_leg r w leg =
    if is_up w leg
    then (lose r (lose r w leg side.Client (Breaks leg)) leg side.Server (Breaks leg), true)
    else refuse r w leg

-- ---- a leg ends in order

-- the end that puts what goes in this direction is told first, and nothing may be in flight there
abbrev pub end_leg : {K C S I O : Type 0} → Rulebook C S I O → World K C S I O → Leg → Dir
    → World K C S I O × Bool
end_leg r w leg dir =
    if is_up w leg && legs.is_clear leg dir w.legs
    then (
      lose r (lose r w leg (sender dir) (Breaks leg)) leg (receiver dir) (Ends leg),
      true,
    )
    else (w, false)
