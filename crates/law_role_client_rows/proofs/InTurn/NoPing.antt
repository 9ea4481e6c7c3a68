-- no leg of a client begins by a Ping
use Rattle.law_order.proofs.Vocabulary.{List, [], ◌∷◌, subst}
use Rattle.law_moves.proofs.Vocabulary.{Named, Ping, Message, Text, Pdu, Packet, OnLeg, of_leg}
use Rattle.law_role_client.proofs.Vocabulary.{ci, co}
use Rattle.law_role_client_rows.specs.Putting.{IsPacket}
use Rattle.law_role_client_rows.specs.InTurn.Asking.{AsksIn, AsksOut, IsNoAsk, IsText, AsksOnce, AsksOnceOnEach}
use Rattle.law_role_client_rows.specs.InTurn.Pings.{HasNoPingFirst, BeginsWithoutPing}

text_no_ping : (text : Message) (later : List Message) → IsText text → HasNoPingFirst later
    → HasNoPingFirst (text ∷ later)
text_no_ping (Text bytes) later is h = h
text_no_ping (Pdu pdu) later is h = absurd is
text_no_ping (Packet named) later is h = absurd is

no_ping_first : (Asks : Named → Type 0) (IsLater : Message → Type 0) → (Asks Ping → ⊥)
    → (ms : List Message) → AsksOnce Asks IsLater ms → HasNoPingFirst ms
no_ping_first Asks IsLater never [] h = tt
no_ping_first Asks IsLater never (text ∷ []) h = text_no_ping text [] h tt
no_ping_first Asks IsLater never (text ∷ first ∷ rest) h =
    text_no_ping text (first ∷ rest) h.0 (by first h.1)
  where
    by : (m : Message) → IsPacket Asks m → HasNoPingFirst (m ∷ rest)
    by (Text bytes) is = absurd is
    by (Pdu pdu) is = absurd is
    by (Packet named) is = λ e. never (subst Asks e is)

pub begins_without_ping : (put : List OnLeg) → AsksOnceOnEach put → BeginsWithoutPing put
begins_without_ping put h = record {
  ins = λ n. no_ping_first (AsksIn n) IsNoAsk (λ is. is) (of_leg (ci n) put) (h.ins n);
  outs = λ n. no_ping_first (AsksOut n) IsNoAsk (λ is. is) (of_leg (co n) put) (h.outs n);
}
