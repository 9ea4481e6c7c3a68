-- what order sees of a client: it gives towards the server, and takes what the server gives
-- (profile)
use Rattle.std.specs.Prelude.{ℕ, suc, ◌&&◌, ◌++◌, List, [], ◌∷◌, Bool, false, if◌then◌else◌, nat_eq, nat_lt}
use Rattle.law_order.specs.Items.{Item, Piece, Stop, Handover}
use Rattle.law_order.specs.Logs.{Log}
use Rattle.law_order.specs.Giving.{Giver, GiverLaw}
use Rattle.law_order.specs.Shelves.{Shelf, Shelves}
use Rattle.law_order.specs.Taking.{Taker, TakerLaw}
use Rattle.rh_sig.specs.declared.named.Named.{Named}
use Rattle.rh_sig.specs.declared.named.Named.TheVariants as named
use Rattle.rh_http.specs.declared.config.ClientConfig.{ClientConfig}
use Rattle.rh_line.specs.Lines.{Incoming}
use Rattle.rh_line.specs.declared.leg.LegKind.{LegKind}
use Rattle.rh_line.specs.declared.leg.LegKind.TheVariants.{ClientIn, ClientOut}
use Rattle.rh_shell.specs.Rules.{Message, Text, Pdu, Packet}
use Rattle.rh_shell.specs.Shells.{is_of}
use Rattle.rh_client.specs.declared.state.ClientRole.{ClientRole}
use Rattle.rh_client.specs.Replacements.{is_finished}
use Rattle.rh_client.specs.State.{first}
use Rattle.rh_client.specs.Client.{rules, acts}
use Rattle.law_moves.specs.Moves.{OnLeg, EndMove, EndPassage, end_started, all_end_moved, AreAllowedAtEnd}

-- ---- messages

-- END and the handover mark of an IN channel
abbrev pub up_mark : Named → List Item
up_mark named.EndA1 = Stop ∷ []
up_mark (named.InR1A5 successor) = Handover ∷ []
up_mark packet = []

abbrev pub up_items : Message → List Item
up_items (Text bytes) = []
up_items (Pdu pdu) = Piece pdu ∷ []
up_items (Packet packet) = up_mark packet

-- and of an OUT channel
abbrev pub down_mark : Named → List Item
down_mark named.EndB2 = Stop ∷ []
down_mark named.OutR1A10 = Handover ∷ []
down_mark packet = []

abbrev pub down_items : Message → List Item
down_items (Text bytes) = []
down_items (Pdu pdu) = Piece pdu ∷ []
down_items (Packet packet) = down_mark packet

-- ---- logs

abbrev pub items_on : (Message → List Item) → LegKind → ℕ → OnLeg → List Item
items_on view kind n m = if is_of kind m.0 && nat_eq n m.0.number then view m.1 else []

-- what stands on the leg of each channel, among messages on legs
abbrev pub log_of : (Message → List Item) → LegKind → List OnLeg → ℕ → List Item
log_of view kind [] n = []
log_of view kind (m ∷ ms) n = items_on view kind n m ++ log_of view kind ms n

-- what it put on each IN channel
abbrev pub put_log : List OnLeg → Log
put_log ms = log_of up_items ClientIn ms

-- what it took on each OUT channel
abbrev pub came_log : List OnLeg → Log
came_log ms = log_of down_items ClientOut ms

-- ---- towards the server

abbrev pub giver_of : List (List ℕ) → ClientRole → Giver
giver_of given s = record {
  given = given;
  queue = s.queue;
  closing = s.is_closing;
  writing = s.writing.number;
  end_put = s.writing.is_end_put;
}

-- what it accepted is what it put on its channels, in order, and then its queue; END is put only
-- once no more is accepted and the queue is empty; and nothing on a channel before the mark of the
-- one before it
abbrev pub GivesInOrder : EndPassage ClientRole → Type 0
GivesInOrder p = GiverLaw (giver_of p.given p.passage.role) (put_log p.passage.put)

-- ---- from the server

abbrev pub shelf_of : Incoming → Bool → Shelf
shelf_of c finished = record { held = c.pdus; ended = c.ended; finished = finished }

abbrev pub shelves_of : ClientRole → Shelves
shelves_of s = record {
  current = s.current.number;
  now = shelf_of s.line.current (is_finished s.replacement);
  was_ended = s.line.was_ended;
  following = suc s.current.number;
  next = shelf_of s.line.next false;
  later = λ n. false;
}

abbrev pub taker_of : List (List ℕ) → ClientRole → Taker
taker_of taken s = record { taken = taken; shelves = shelves_of s }

-- each OUT channel has a leg of its own; there is none of number 0
abbrev pub has_leg : ℕ → Bool
has_leg n = nat_lt 0 n

-- what was taken, and then what is held, came on the channels up to the current one, in order; a
-- channel is current only behind the mark of the one before it; and the end is kept where END came
-- on one of these
abbrev pub TakesInOrder : EndPassage ClientRole → Type 0
TakesInOrder p = TakerLaw (taker_of p.taken p.passage.role) has_leg (came_log p.passage.came)

-- ---- whatever happens to a client

abbrev pub client_started : ClientConfig → EndPassage ClientRole
client_started config = end_started (first config)

abbrev pub client_moved : ClientConfig → List EndMove → EndPassage ClientRole
client_moved config moves = all_end_moved rules acts (client_started config) moves

abbrev pub AreAllowedMoves : ClientConfig → List EndMove → Type 0
AreAllowedMoves config moves = AreAllowedAtEnd rules acts (client_started config) moves
