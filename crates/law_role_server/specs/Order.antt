-- what order sees of a server: a giver towards the client, and a taker of what the client gave
-- (profile)
use Rattle.std.specs.Prelude.{ℕ, suc, ◌&&◌, ◌||◌, ◌++◌, List, [], ◌∷◌, Bool, true, false, if◌then◌else◌, nat_eq, nat_lt, Some, None}
use Rattle.std.specs.declared.option.Option.{Option}
use Rattle.law_order.specs.Items.{Item, Piece, Stop, Handover}
use Rattle.law_order.specs.Logs.{Log}
use Rattle.law_order.specs.Giving.{Giver}
use Rattle.law_order.specs.Shelves.{Shelf, Shelves}
use Rattle.law_order.specs.Taking.{Taker}
use Rattle.rh_sig.specs.declared.named.Named.TheVariants as named
use Rattle.rh_line.specs.Lines.{Incoming}
use Rattle.rh_line.specs.declared.leg.LegKind.{LegKind}
use Rattle.rh_line.specs.declared.leg.LegKind.TheVariants.{OutServer, InServer}
use Rattle.rh_shell.specs.Rules.{Message, Text, Pdu, Packet}
use Rattle.rh_shell.specs.Shells.{is_of}
use Rattle.rh_server.specs.declared.state.InLeg.{InLeg}
use Rattle.rh_server.specs.declared.state.InStage.{InStage}
use Rattle.rh_server.specs.declared.state.InStage.TheVariants.{Fresh, Waits, Opened}
use Rattle.rh_server.specs.States.{Server, is_closing, is_put, in_leg}
use Rattle.law_moves.specs.Moves.{OnLeg, Up, EndMove, Moves, EndPassage}

-- ---- what passes on the legs

-- towards the client: RPC PDUs, END/B1 and OUT_R1/A9
abbrev pub out_items : Message → List Item
out_items (Text bytes) = []
out_items (Pdu pdu) = Piece pdu ∷ []
out_items (Packet named.EndB1) = Stop ∷ []
out_items (Packet named.OutR1A9) = Handover ∷ []
out_items (Packet packet) = []

-- towards the server: RPC PDUs, END/A2 and IN_R1/A6
abbrev pub in_items : Message → List Item
in_items (Text bytes) = []
in_items (Pdu pdu) = Piece pdu ∷ []
in_items (Packet named.EndA2) = Stop ∷ []
in_items (Packet (named.InR1A6 successor)) = Handover ∷ []
in_items (Packet packet) = []

abbrev pub items_if : Bool → List Item → List Item
items_if true items = items
items_if false items = []

-- the items of the leg of this kind and number, in order
abbrev pub items_on : (Message → List Item) → LegKind → List OnLeg → ℕ → List Item
items_on view kind [] n = []
items_on view kind ((leg, message) ∷ messages) n =
    items_if (is_of kind leg && nat_eq n leg.number) (view message)
    ++ items_on view kind messages n

-- what the server put on its os legs, by their numbers
abbrev pub sent : EndPassage Server → Log
sent p = λ n. items_on out_items OutServer p.passage.put n

-- what it took on its is legs, by their numbers
abbrev pub got : EndPassage Server → Log
got p = λ n. items_on in_items InServer p.passage.came n

-- ---- the giver

abbrev pub giver_of : List (List ℕ) → Server → Giver
giver_of given s = record {
  given = given;
  queue = s.queue;
  closing = is_closing s.giving;
  writing = s.writing;
  end_put = is_put s.end_mark;
}

-- ---- the taker

-- an is leg of this number comes up
abbrev pub is_up : ℕ → EndMove → Bool
is_up n (Moves (Up leg cookie)) = is_of InServer leg && nat_eq n leg.number
is_up n move = false

abbrev pub came_up : List EndMove → ℕ → Bool
came_up [] n = false
came_up (move ∷ moves) n = is_up n move || came_up moves n

-- channel n has an is leg of its own: that came up, or its number is above all that were given. A
-- number that IN_R2/A2 gave has none
abbrev pub has_leg : List EndMove → Server → ℕ → Bool
has_leg moves s = λ n. nat_lt s.newest_in n || came_up moves n

abbrev pub shelf : Incoming → Bool → Shelf
shelf c finished = record { held = c.pdus; ended = c.ended; finished = finished }

-- the number of the leg whose channel follows the current one: that of the next channel, or the
-- number above where none is open
abbrev pub following : Server → ℕ
following s = if s.line.has_next then s.next.leg else suc s.current.leg

-- END came on a leg whose channel waits
abbrev pub waits_ended : InStage → Bool
waits_ended Fresh = false
waits_ended Opened = false
waits_ended (Waits window timeout ended) = ended

abbrev pub ended_by : Option InLeg → Bool
ended_by None = false
ended_by (Some leg) = waits_ended leg.stage

-- END came on is leg n, whose channel is not open yet
abbrev pub later_of : Server → ℕ → Bool
later_of s n = ended_by (in_leg n s.ins)

-- what the server has of the channels that come on its is legs
abbrev pub shelves_of : Server → Shelves
shelves_of s = record {
  current = s.current.leg;
  now = shelf s.line.current s.line.finished;
  was_ended = s.line.was_ended;
  following = following s;
  next = shelf s.line.next false;
  later = λ n. later_of s n;
}

abbrev pub taker_of : List (List ℕ) → Server → Taker
taker_of taken s = record { taken = taken; shelves = shelves_of s }
