-- which channels an in proxy acknowledges to the client, and where on its is leg (MS-RPCH 3.2.1;
-- several ci legs over one is leg are this profile's)
use Rattle.std.specs.Prelude.{ℕ, suc, ◌≡◌, ◌⊎◌, List, [], ◌∷◌}
use Rattle.rh_rts.specs.declared.command.Cookie.{Cookie}
use Rattle.rh_rts.specs.declared.command.TheConstants.{TO_CLIENT}
use Rattle.rh_sig.specs.declared.named.Named.TheVariants.{AckTo, InR2A2}
use Rattle.rh_shell.specs.Rules.{Message, Packet}
use Rattle.rh_inproxy.specs.declared.state.InProxyConfig.{InProxyConfig}
use Rattle.rh_inproxy.specs.State.{InProxy}
use Rattle.law_moves.specs.Moves.{OnLeg, Passage}
use Rattle.law_moves.specs.Wires.{of_leg}
use Rattle.law_moves.specs.Passages.Passing.{BeginsIn}
use Rattle.law_role_inproxy.specs.Putting.Puts.{CameOn, HasPdu, ci, is_leg}

-- a channel of this cookie began on ci leg n, and an RPC PDU came there
pub record IsUsed (came : List OnLeg) (n : ℕ) (channel : Cookie) : Type 0 where
  pub begun : CameOn n (BeginsIn channel) came
  pub sent : (pdu : List ℕ) × HasPdu pdu (of_leg (ci n) came)

-- it is so on ci leg n or on the one before it
abbrev pub IsOfTwo : List OnLeg → ℕ → Cookie → Type 0
IsOfTwo came n channel =
    IsUsed came n channel ⊎ ((k : ℕ) × (suc k ≡ n) × IsUsed came k channel)

-- where the channel of ci leg n was the last that the server was told, each acknowledgement to the
-- client is of that channel or of the one before it; IN_R2/A2 tells the next one
abbrev pub Acknowledge : List OnLeg → ℕ → List Message → Type 0
Acknowledge came n [] = Unit {0}
Acknowledge came n (Packet (InR2A2 successor) ∷ messages) = Acknowledge came (suc n) messages
Acknowledge came n (Packet (AckTo to received available channel) ∷ messages) =
    (to ≡ TO_CLIENT → IsOfTwo came n channel) × Acknowledge came n messages
Acknowledge came n (message ∷ messages) = Acknowledge came n messages

-- ---- the law

abbrev pub AcknowledgesInOrder : InProxyConfig → Passage InProxy → Type 0
AcknowledgesInOrder config p =
    Acknowledge p.came config.number (of_leg (is_leg config.number) p.put)
