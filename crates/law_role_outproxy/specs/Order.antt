-- what order sees of an out proxy: it is fed on the server's leg and puts on the client's (profile)
use Rattle.std.specs.Prelude.{ℕ, suc, List, [], ◌∷◌, ◌++◌, false, if◌then◌else◌}
use Rattle.law_order.specs.Items.{Item, Piece, Stop, Handover}
use Rattle.law_order.specs.Logs.{Log}
use Rattle.law_order.specs.Shelves.{Shelf, Shelves, blank}
use Rattle.law_order.specs.Passing.{Passer, PasserLaw}
use Rattle.rh_sig.specs.declared.named.Named.TheVariants.{EndB1, EndB2, OutR1A9, OutR1A10}
use Rattle.rh_line.specs.declared.leg.Leg.{Leg}
use Rattle.rh_line.specs.declared.leg.LegKind.TheVariants.{ClientOut, OutServer}
use Rattle.rh_shell.specs.Rules.{Message, Pdu, Packet}
use Rattle.rh_shell.specs.Shells.{same_leg}
use Rattle.rh_outproxy.specs.OutProxy.{OutProxy, has_come, is_put}
use Rattle.law_moves.specs.Moves.{OnLeg, Passage}

-- ---- the proxy as order sees it

abbrev pub shelf_of : OutProxy → Shelf
shelf_of s = record {
  held = s.line.current.pdus;
  ended = has_come s.end;
  finished = has_come s.handover;
}

-- there is one channel, of the proxy's number
abbrev pub shelves_of : OutProxy → Shelves
shelves_of s = record {
  current = s.config.number;
  now = shelf_of s;
  was_ended = false;
  following = suc s.config.number;
  next = blank;
  later = λ n. false;
}

abbrev pub passer_of : OutProxy → Passer
passer_of s = record {
  shelves = shelves_of s;
  end_put = is_put s.end;
  handover_put = is_put s.handover;
}

-- ---- what it took and what it put, as order sees them

-- END is END/B1, and the handover mark is OUT_R1/A9
abbrev pub from_server : Message → List Item
from_server (Pdu pdu) = Piece pdu ∷ []
from_server (Packet EndB1) = Stop ∷ []
from_server (Packet OutR1A9) = Handover ∷ []
from_server message = []

-- END is END/B2, and the handover mark is OUT_R1/A10
abbrev pub to_client : Message → List Item
to_client (Pdu pdu) = Piece pdu ∷ []
to_client (Packet EndB2) = Stop ∷ []
to_client (Packet OutR1A10) = Handover ∷ []
to_client message = []

abbrev pub items_of : Leg → (Message → List Item) → OnLeg → List Item
items_of leg view one = if same_leg leg one.0 then view one.1 else []

-- the items of the messages of one leg
abbrev pub items_on : Leg → (Message → List Item) → List OnLeg → List Item
items_on leg view [] = []
items_on leg view (one ∷ ones) = items_of leg view one ++ items_on leg view ones

abbrev pub client_leg : ℕ → Leg
client_leg number = record { kind = ClientOut; number = number }

abbrev pub server_leg : ℕ → Leg
server_leg number = record { kind = OutServer; number = number }

-- what was taken on the server's legs, by the numbers of these
abbrev pub came_log : List OnLeg → Log
came_log came number = items_on (server_leg number) from_server came

-- what was put on the client's leg
abbrev pub put_items : ℕ → List OnLeg → List Item
put_items number put = items_on (client_leg number) to_client put

-- the law of a proxy holds of what it took and put
abbrev pub KeepsOrder : ℕ → Passage OutProxy → Type 0
KeepsOrder number p =
    PasserLaw (passer_of p.role) number (came_log p.came) (put_items number p.put)
