-- the lines that carry bytes: they are drawn into flight at one end of a leg, and fed at the other
-- (profile)
use Rattle.std.specs.Prelude.{ℕ, List, if◌then◌else◌, length, Some, None}
use Rattle.std.specs.declared.option.Option.{Option}
use Rattle.rh_text.specs.declared.ends.Dir.{Dir}
use Rattle.rh_line.specs.declared.leg.Leg.{Leg}
use Rattle.rh_record.specs.declared.answer.Who.{Who}
use Rattle.rh_wires.specs.declared.legs.Legs.{Legs}
use Rattle.rh_wires.specs.Legs as legs
use Rattle.rh_wires.specs.Wires.{sender, receiver}
use Rattle.rh_company.specs.declared.event.Event.TheVariants.{Comes}
use Rattle.rh_company.specs.Company as company
use Rattle.rh_company.specs.Company.{Company, Rulebook}
use Rattle.rh_nodes.specs.World.{World, at, tell}

-- ---- drawn into flight

abbrev pub put_drawn : {C S I O : Type 0} → Legs → Leg → Dir → Company C S I O × List ℕ
    → Company C S I O × Legs × ℕ
put_drawn all leg dir drawn = (drawn.0, legs.put leg dir drawn.1 all, length drawn.1)

abbrev pub draw_into : {C S I O : Type 0} → Rulebook C S I O → Company C S I O → Legs → Who
    → Leg → Dir → ℕ → Company C S I O × Legs × ℕ
draw_into r c all node leg dir room = put_drawn all leg dir (company.draw r c node leg room)

abbrev pub sent : {K C S I O : Type 0} → World K C S I O → Company C S I O × Legs × ℕ
    → World K C S I O × Option ℕ
sent w did = (record w { company = did.0; legs = did.1 }, Some did.2)

-- up to so many bytes are drawn, where the leg is up for the end that puts there
abbrev pub send : {K C S I O : Type 0} → Rulebook C S I O → World K C S I O → Leg → Dir → ℕ
    → World K C S I O × Option ℕ
send r w leg dir count =
    if legs.is_up leg (sender dir) w.legs
    then sent w (draw_into r w.company w.legs (at w leg (sender dir)) leg dir count)
    else (w, None)

-- ---- fed

abbrev pub fed : {K C S I O : Type 0} → Rulebook C S I O → World K C S I O → Leg → Dir
    → Legs × List ℕ → World K C S I O × Option (List ℕ)
fed r w leg dir taken = (
  tell r (record w { legs = taken.0 }) (at w leg (receiver dir)) (Comes leg taken.1),
  Some taken.1,
)

-- the first bytes in flight are fed: so many, or all where there are fewer
abbrev pub feed : {K C S I O : Type 0} → Rulebook C S I O → World K C S I O → Leg → Dir → ℕ
    → World K C S I O × Option (List ℕ)
feed r w leg dir count =
    if legs.is_up leg (receiver dir) w.legs
    then fed r w leg dir (legs.take_out leg dir count w.legs)
    else (w, None)
