-- what the messages of a log are: bytes of RPC PDUs, packets, and channels that begin (profile)
use Rattle.std.specs.Prelude.{◌≡◌, ◌⊎◌, ◌+◌, ℕ, suc, Bool, if◌then◌else◌, List, [], ◌∷◌, length}
use Rattle.rh_rts.specs.declared.command.Cookie.{Cookie}
use Rattle.rh_sig.specs.declared.named.Named.{Named}
use Rattle.rh_sig.specs.declared.named.Named.TheVariants.{ConnA1, ConnB1, InR1A1, OutR1A3}
use Rattle.rh_line.specs.declared.leg.LegKind.{LegKind}
use Rattle.rh_shell.specs.Rules.{Message, Text, Pdu, Packet}
use Rattle.rh_shell.specs.Shells.{is_of}
use Rattle.law_moves.specs.Moves.{OnLeg}
use Rattle.law_moves.specs.Wires.{of_leg}

-- the bytes of the RPC PDUs; RTS PDUs don't count (MS-RPCH 3.2)
abbrev pub pdu_bytes : List Message → ℕ
pdu_bytes [] = 0
pdu_bytes (Text bytes ∷ messages) = pdu_bytes messages
pdu_bytes (Pdu pdu ∷ messages) = length pdu + pdu_bytes messages
pdu_bytes (Packet named ∷ messages) = pdu_bytes messages

-- the packet is among them
abbrev pub Has : Named → List Message → Type 0
Has named [] = ⊥
Has named (message ∷ messages) = (message ≡ Packet named) ⊎ Has named messages

-- it is, on some leg of this kind
abbrev pub HasOn : LegKind → Named → List OnLeg → Type 0
HasOn kind named log =
    (n : ℕ) × Has named (of_leg (record { kind = kind; number = n }) log)

-- how many packets pass the test
abbrev pub count_of : (Named → Bool) → List Message → ℕ
count_of test [] = 0
count_of test (Text bytes ∷ messages) = count_of test messages
count_of test (Pdu pdu ∷ messages) = count_of test messages
count_of test (Packet named ∷ messages) =
    if test named then suc (count_of test messages) else count_of test messages

-- the messages on all legs of a kind
abbrev pub of_kind : LegKind → List OnLeg → List Message
of_kind kind [] = []
of_kind kind (one ∷ log) =
    if is_of kind one.0 then one.1 ∷ of_kind kind log else of_kind kind log

-- ---- channels that begin (MS-RPCH 2.2.4)

-- the packet begins an IN channel of this cookie
abbrev pub BeginsIn : Cookie → Named → Type 0
BeginsIn cookie (ConnB1 version connection channel lifetime keepalive group) = channel ≡ cookie
BeginsIn cookie (InR1A1 version connection predecessor channel) = channel ≡ cookie
BeginsIn cookie packet = ⊥

-- or an OUT channel
abbrev pub BeginsOut : Cookie → Named → Type 0
BeginsOut cookie (ConnA1 version connection channel window) = channel ≡ cookie
BeginsOut cookie (OutR1A3 version connection predecessor channel window) = channel ≡ cookie
BeginsOut cookie packet = ⊥

-- one of these messages is a packet that is so
abbrev pub HasOne : (Named → Type 0) → List Message → Type 0
HasOne Is [] = ⊥
HasOne Is (Text bytes ∷ messages) = HasOne Is messages
HasOne Is (Pdu pdu ∷ messages) = HasOne Is messages
HasOne Is (Packet named ∷ messages) = Is named ⊎ HasOne Is messages

abbrev pub HasBegunIn : Cookie → List Message → Type 0
HasBegunIn cookie messages = HasOne (BeginsIn cookie) messages

abbrev pub HasBegunOut : Cookie → List Message → Type 0
HasBegunOut cookie messages = HasOne (BeginsOut cookie) messages
