-- all legs of the virtual connection (profile)
use Rattle.std.specs.Prelude.{ℕ, ◌+◌, List, [], Bool, true, false}
use Rattle.rh_text.specs.declared.ends.Side.{Side}
use Rattle.rh_text.specs.declared.ends.Dir.{Dir}
use Rattle.rh_line.specs.declared.leg.Leg.{Leg}
use Rattle.rh_line.specs.declared.leg.LegKind.{LegKind}
use Rattle.rh_line.specs.declared.leg.LegKind.TheVariants.{ClientOut, OutServer, ClientIn, InServer}
use Rattle.rh_wires.specs.declared.wire.Wire.{Wire}
use Rattle.rh_wires.specs.declared.legs.Legs.{Legs}
use Rattle.rh_wires.specs.Numbered.{ask, act, change, grown}
use Rattle.rh_wires.specs.Wires as wires

abbrev pub none : Legs
none = record { client_out = []; out_server = []; client_in = []; in_server = [] }

-- the legs of a kind
abbrev pub of : LegKind → Legs → List Wire
of ClientOut legs = legs.client_out
of OutServer legs = legs.out_server
of ClientIn legs = legs.client_in
of InServer legs = legs.in_server

abbrev pub with_kind : LegKind → List Wire → Legs → Legs
with_kind ClientOut list legs = record legs { client_out = list }
with_kind OutServer list legs = record legs { out_server = list }
with_kind ClientIn list legs = record legs { client_in = list }
with_kind InServer list legs = record legs { in_server = list }

-- ---- one leg

-- up for an end
abbrev pub is_up : Leg → Side → Legs → Bool
is_up leg side legs = ask (wires.is_up side) false (of leg.kind legs) leg.number

-- nothing is in flight in a direction
abbrev pub is_clear : Leg → Dir → Legs → Bool
is_clear leg dir legs = ask (wires.is_clear dir) true (of leg.kind legs) leg.number

abbrev pub put : Leg → Dir → List ℕ → Legs → Legs
put leg dir bytes legs =
    with_kind leg.kind (change (wires.put dir bytes) (of leg.kind legs) leg.number) legs

abbrev pub with_taken : LegKind → List Wire × List ℕ → Legs → Legs × List ℕ
with_taken kind taken legs = (with_kind kind taken.0 legs, taken.1)

abbrev pub take_out : Leg → Dir → ℕ → Legs → Legs × List ℕ
take_out leg dir count legs =
    with_taken leg.kind (act (wires.take_out dir count) [] (of leg.kind legs) leg.number) legs

abbrev pub raised : Side → ℕ → List Wire → List Wire
raised side number list =
    change (wires.raise side) (grown (number + 1) wires.blank list) number

abbrev pub raise : Leg → Side → Legs → Legs
raise leg side legs = with_kind leg.kind (raised side leg.number (of leg.kind legs)) legs

abbrev pub lower : Leg → Side → Legs → Legs
lower leg side legs =
    with_kind leg.kind (change (wires.lower side) (of leg.kind legs) leg.number) legs
