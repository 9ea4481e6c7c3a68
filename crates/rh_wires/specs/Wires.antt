-- legs between their ends (profile)
use Rattle.std.specs.Prelude.{ℕ, List, [], ◌++◌, Bool, true, false, not, ◌||◌, ◌==◌, if◌then◌else◌, length, take, drop}
use Rattle.rh_text.specs.declared.ends.Side.{Side}
use Rattle.rh_text.specs.declared.ends.Side.TheVariants.{Client, Server}
use Rattle.rh_text.specs.declared.ends.Dir.{Dir}
use Rattle.rh_text.specs.declared.ends.Dir.TheVariants.{U, D}
use Rattle.rh_wires.specs.declared.wire.Wire.{Wire}

-- the end that puts what goes in a direction, and the one that takes it; an end of a leg is named
-- by the end of the virtual connection to which it is nearer
abbrev pub sender : Dir → Side
sender U = Client
sender D = Server

abbrev pub receiver : Dir → Side
receiver U = Server
receiver D = Client

-- down for both ends, with nothing in flight
abbrev pub blank : Wire
blank = record { client = false; server = false; up = []; down = [] }

abbrev pub is_up : Side → Wire → Bool
is_up Client wire = wire.client
is_up Server wire = wire.server

-- up for neither end
abbrev pub is_low : Wire → Bool
is_low wire = not (wire.client || wire.server)

abbrev pub in_flight : Dir → Wire → List ℕ
in_flight U wire = wire.up
in_flight D wire = wire.down

abbrev pub with_flight : Dir → List ℕ → Wire → Wire
with_flight U bytes wire = record wire { up = bytes }
with_flight D bytes wire = record wire { down = bytes }

abbrev pub is_clear : Dir → Wire → Bool
is_clear dir wire = length (in_flight dir wire) == 0

-- bytes are put behind those in flight
abbrev pub put : Dir → List ℕ → Wire → Wire
put dir bytes wire = with_flight dir (in_flight dir wire ++ bytes) wire

-- the first bytes in flight: so many, or all where there are fewer
abbrev pub take_out : Dir → ℕ → Wire → Wire × List ℕ
take_out dir count wire =
    (with_flight dir (drop count (in_flight dir wire)) wire, take count (in_flight dir wire))

abbrev pub raise : Side → Wire → Wire
raise Client wire = record wire { client = true }
raise Server wire = record wire { server = true }

-- down for an end; where it is down for both, what was in flight is lost
abbrev pub lower : Side → Wire → Wire
lower Client wire = if wire.server then record wire { client = false } else blank
lower Server wire = if wire.client then record wire { server = false } else blank
