-- legs that are up for both of their ends (profile)
use Rattle.std.specs.Prelude.{◌≡◌}
use Rattle.rh_text.specs.declared.ends.Side.TheVariants.{Client, Server}
use Rattle.rh_line.specs.declared.leg.Leg.{Leg}
use Rattle.rh_wires.specs.Legs as legs
use Rattle.rh_nodes.specs.World.{World}

-- each leg is up for both of its ends, or for neither
abbrev pub AreUpAtBoth : {K C S I O : Type 0} → World K C S I O → Type 0
AreUpAtBoth w = (leg : Leg) → legs.is_up leg Client w.legs ≡ legs.is_up leg Server w.legs
