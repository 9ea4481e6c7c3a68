-- each text that a client puts is a request, which has bytes
use Rattle.law_order.proofs.Vocabulary.{◌≡◌, ℕ, false, List, Some, None, refl, ap, ◌∙◌, inl, inr}
use Rattle.rh_shell.specs.NearEnds.{is_empty}
use Rattle.rh_client.specs.Putting as putting
use Rattle.law_moves.proofs.Vocabulary.{ClientConfig, Leg, LegKind, ClientOut, OutServer, ClientIn, InServer, Message, Text, Pdu, Packet, in_request, out_request, request_text}
use Rattle.law_role_client.proofs.Vocabulary.{CONN_A1_LEN, OUT_R1_A3_C1_LEN, ClientRole}
use Rattle.law_node_begins.proofs.EndsBegin.ClientAsks.{Fine, put_fine}
use Rattle.law_node_begins.specs.EndsBegin.{Asks, IsRequestOf}
use Rattle.law_world_rest.proofs.Texts.Having.{HasText, HasTexts}

in_asks : (config : ClientConfig) → is_empty (in_request config) ≡ false
unfolding request_text
in_asks config = refl

out_asks : (config : ClientConfig) (n : ℕ) → is_empty (out_request config n) ≡ false
unfolding request_text
out_asks config n = refl

request_has : (config : ClientConfig) (kind : LegKind) (text : List ℕ)
    → IsRequestOf config kind text → is_empty text ≡ false
request_has config ClientIn text is = ap is_empty is ∙ in_asks config
request_has config ClientOut text (inl is) = ap is_empty is ∙ out_asks config CONN_A1_LEN
request_has config ClientOut text (inr is) = ap is_empty is ∙ out_asks config OUT_R1_A3_C1_LEN
request_has config OutServer text is = absurd is
request_has config InServer text is = absurd is

asking_has : (config : ClientConfig) (kind : LegKind) (message : Message)
    → Asks config kind message → HasText message
asking_has config kind (Text text) asks = request_has config kind text asks
asking_has config kind (Pdu pdu) asks = tt
asking_has config kind (Packet named) asks = tt

pub client_has : (s : ClientRole) (leg : Leg) → HasTexts (putting.put s leg)
client_has s leg = by (putting.put s leg) (put_fine s leg)
  where
    by : (pick : putting.Pick) → Fine s.config leg.kind pick → HasTexts pick
    by None fine = tt
    by (Some put) fine = asking_has s.config leg.kind put.1 fine
