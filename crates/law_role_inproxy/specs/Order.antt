-- order through an in proxy: what comes on its ci legs, what it puts on the is leg, and what it
-- holds (profile)
use Rattle.std.specs.Prelude.{ℕ, suc, ◌++◌, ◌&&◌, List, [], ◌∷◌, Bool, false, if◌then◌else◌, nat_eq}
use Rattle.law_order.specs.Items.{Item, Piece, Stop}
use Rattle.law_order.specs.Items as items
use Rattle.law_order.specs.Logs.{Log}
use Rattle.law_order.specs.Passing.{Passer, PasserLaw}
use Rattle.law_order.specs.Shelves.{Shelf, Shelves, blank}
use Rattle.rh_sig.specs.declared.named.Named.TheVariants.{EndA1, EndA2, InR1A5, InR1A6}
use Rattle.rh_line.specs.Lines.{Incoming}
use Rattle.rh_line.specs.declared.leg.LegKind.TheVariants.{InServer}
use Rattle.rh_shell.specs.Rules.{Message, Pdu, Packet}
use Rattle.rh_shell.specs.Shells.{is_of}
use Rattle.rh_inproxy.specs.declared.state.Handover.{Handover}
use Rattle.rh_inproxy.specs.declared.state.Successor.{Successor}
use Rattle.rh_inproxy.specs.declared.state.Successor.TheVariants.{Joined}
use Rattle.rh_inproxy.specs.InReplacement.{has_passed}
use Rattle.rh_inproxy.specs.State.{InProxy, has_come, hands_over, is_client_leg}
use Rattle.law_moves.specs.Moves.{OnLeg, Passage}

-- ---- what order sees of messages

-- of one on a ci leg: IN_R1/A5 is the handover mark
abbrev pub item_came : Message → List Item
item_came (Pdu pdu) = Piece pdu ∷ []
item_came (Packet EndA1) = Stop ∷ []
item_came (Packet (InR1A5 successor)) = items.Handover ∷ []
item_came message = []

-- of one on the is leg: IN_R1/A6 is
abbrev pub item_put : Message → List Item
item_put (Pdu pdu) = Piece pdu ∷ []
item_put (Packet EndA2) = Stop ∷ []
item_put (Packet (InR1A6 successor)) = items.Handover ∷ []
item_put message = []

abbrev pub is_on : ℕ → OnLeg → Bool
is_on n one = is_client_leg one.0 && nat_eq n one.0.number

abbrev pub came_on : ℕ → OnLeg → List Item
came_on n one = if is_on n one then item_came one.1 else []

-- the items that came on each ci leg, by its number
abbrev pub came_log : List OnLeg → Log
came_log [] n = []
came_log (one ∷ ones) n = came_on n one ++ came_log ones n

abbrev pub put_on_server : OnLeg → List Item
put_on_server one = if is_of InServer one.0 then item_put one.1 else []

-- the items that were put on the is leg
abbrev pub put_items : List OnLeg → List Item
put_items [] = []
put_items (one ∷ ones) = put_on_server one ++ put_items ones

-- ---- what an in proxy has of them

abbrev pub shelf : Incoming → Bool → Shelf
shelf channel finished =
    record { held = channel.pdus; ended = channel.ended; finished = finished }

abbrev pub next_shelf : Incoming → Successor → Handover → Shelf
next_shelf next (Joined leg stage) handover = shelf next (has_come handover)
next_shelf next successor handover = blank

-- the channel of the current ci leg, and that of the one behind it
abbrev pub shelves_of : InProxy → Shelves
shelves_of s = record {
  current = s.current.number;
  now = shelf s.line.current (hands_over s.successor s.handover);
  was_ended = s.line.was_ended;
  following = suc s.current.number;
  next = next_shelf s.line.next s.successor s.handover;
  later = λ n. false;
}

abbrev pub passer_of : InProxy → Passer
passer_of s = record {
  shelves = shelves_of s;
  end_put = s.end_put;
  handover_put = has_passed s.handover;
}

-- all PDUs that came on the ci legs, in order of their numbers, were put on the is leg or are held;
-- nothing was put behind the handover mark, and no PDU or END behind END
abbrev pub KeepsOrder : ℕ → Passage InProxy → Type 0
KeepsOrder first passage =
    PasserLaw (passer_of passage.role) first (came_log passage.came) (put_items passage.put)
