-- the commands of RTS packets and their bytes (MS-RPCH 2.2.3.5)
use Rattle.std.specs.Prelude.{◌≡◌, ◌≤◌, ◌<◌, ◌^◌, ℕ, List, [], ◌∷◌, ◌++◌, length, get_or}
use Rattle.std.specs.Int.{w32, to_le_bytes}
use Rattle.rh_rts.specs.declared.command.Address4or16.{Address4or16}
use Rattle.rh_rts.specs.declared.command.Address4or16.TheVariants.{V4, V6}
use Rattle.rh_rts.specs.declared.command.TheConstants.{COOKIE_LEN, V4_LEN, V6_LEN}
use Rattle.rh_rts.specs.declared.command.TheConstants.{ADDRESS_PADDING_LEN}
use Rattle.rh_rts.specs.declared.command.TheConstants.{GREATEST_DESTINATION}
use Rattle.rh_rts.specs.declared.command.Command.{Command}
use Rattle.rh_rts.specs.declared.command.Command.TheVariants as commands
use Rattle.rh_rts.specs.declared.layout.Layout.{Layout}
use Rattle.rh_rts.specs.declared.layout.Layout.TheVariants as layouts
use Rattle.rh_rts.specs.declared.layout.TheConstants.{TYPE_OF_V4, TYPE_OF_V6, GREATEST_COUNT}
use Rattle.rh_rts.specs.declared.kinds.TheConstants as kinds
use Rattle.rh_rts.specs.Layouts.{Values}

-- each is a byte
abbrev pub IsBytes : List ℕ → Type 0
IsBytes bytes = (i : ℕ) → get_or bytes i 0 < 256

-- a number of four bytes, the least first
abbrev pub le4 : ℕ → List ℕ
le4 n = to_le_bytes w32 n

-- an address type and the address (MS-RPCH 2.2.3.2)
abbrev pub address_bytes : Address4or16 → List ℕ
address_bytes (V4 bytes) = le4 TYPE_OF_V4 ++ bytes
address_bytes (V6 bytes) = le4 TYPE_OF_V6 ++ bytes

-- ---- the types of commands

-- the type of a command
abbrev pub kind_of : Command → ℕ
kind_of (commands.ReceiveWindowSize n) = kinds.RECEIVE_WINDOW_SIZE
kind_of (commands.FlowControlAck received window of) = kinds.FLOW_CONTROL_ACK
kind_of (commands.ConnectionTimeout n) = kinds.CONNECTION_TIMEOUT
kind_of (commands.Cookie c) = kinds.COOKIE
kind_of (commands.ChannelLifetime n) = kinds.CHANNEL_LIFETIME
kind_of (commands.ClientKeepalive n) = kinds.CLIENT_KEEPALIVE
kind_of (commands.Version n) = kinds.VERSION
kind_of commands.Empty = kinds.EMPTY
kind_of (commands.Padding bytes) = kinds.PADDING
kind_of commands.NegativeAnce = kinds.NEGATIVE_ANCE
kind_of commands.Ance = kinds.ANCE
kind_of (commands.ClientAddress address behind) = kinds.CLIENT_ADDRESS
kind_of (commands.AssociationGroupId c) = kinds.ASSOCIATION_GROUP_ID
kind_of (commands.Destination n) = kinds.DESTINATION
kind_of (commands.PingTrafficSentNotify n) = kinds.PING_TRAFFIC_SENT_NOTIFY

-- ---- the fields of commands

-- what holds of a layout and of values, said of the fields of a command
abbrev pub by_fields {ℓ} : {A : Type ℓ} → ((layout : Layout) → Values layout → A) → Command → A
by_fields f (commands.ReceiveWindowSize n) = f layouts.Number n
by_fields f (commands.FlowControlAck received window of) = f layouts.Ack (received, window, of)
by_fields f (commands.ConnectionTimeout n) = f layouts.Number n
by_fields f (commands.Cookie c) = f layouts.Cookie c
by_fields f (commands.ChannelLifetime n) = f layouts.Number n
by_fields f (commands.ClientKeepalive n) = f layouts.Number n
by_fields f (commands.Version n) = f layouts.Number n
by_fields f commands.Empty = f layouts.Nothing tt
by_fields f (commands.Padding bytes) = f layouts.Counted bytes
by_fields f commands.NegativeAnce = f layouts.Nothing tt
by_fields f commands.Ance = f layouts.Nothing tt
by_fields f (commands.ClientAddress address behind) = f layouts.Address (address, behind)
by_fields f (commands.AssociationGroupId c) = f layouts.Cookie c
by_fields f (commands.Destination n) = f layouts.Destination n
by_fields f (commands.PingTrafficSentNotify n) = f layouts.Number n

-- the bytes of fields
abbrev pub field_bytes : (layout : Layout) → Values layout → List ℕ
field_bytes layouts.Nothing v = []
field_bytes layouts.Number n = le4 n
field_bytes layouts.Destination n = le4 n
field_bytes layouts.Cookie c = c.0
field_bytes layouts.Ack v = le4 v.0 ++ (le4 v.1 ++ v.2.0)
field_bytes layouts.Counted bytes = le4 (length bytes) ++ bytes
field_bytes layouts.Address v = address_bytes v.0 ++ v.1

-- the bytes of a command: its type and its fields
unfoldable pub spelling : Command → List ℕ
spelling c = le4 (kind_of c) ++ by_fields field_bytes c

-- the bytes of commands, one after the other
abbrev pub spellings : List Command → List ℕ
spellings [] = []
spellings (c ∷ cs) = spelling c ++ spellings cs

-- ---- which are commands

-- an address has 4 or 16 bytes
abbrev pub IsAddress : Address4or16 → Type 0
IsAddress (V4 bytes) = length bytes ≡ V4_LEN
IsAddress (V6 bytes) = length bytes ≡ V6_LEN

-- fields have their size: numbers four bytes, cookies 16, the padding of an address 12
abbrev pub AreSized : (layout : Layout) → Values layout → Type 0
AreSized layouts.Nothing v = Unit {0}
AreSized layouts.Number n = n < 2 ^ 32
AreSized layouts.Destination n = n < 2 ^ 32
AreSized layouts.Cookie c = length c.0 ≡ COOKIE_LEN
AreSized layouts.Ack v = (v.0 < 2 ^ 32) × (v.1 < 2 ^ 32) × (length v.2.0 ≡ COOKIE_LEN)
AreSized layouts.Counted bytes = Unit {0}
AreSized layouts.Address v = IsAddress v.0 × (length v.1 ≡ ADDRESS_PADDING_LEN)

abbrev pub HasSize : Command → Type 0
HasSize c = by_fields AreSized c

abbrev pub HaveSizes : List Command → Type 0
HaveSizes [] = Unit {0}
HaveSizes (c ∷ cs) = HasSize c × HaveSizes cs

-- a destination and the count of a padding are in their range
abbrev pub AreInRange : (layout : Layout) → Values layout → Type 0
AreInRange layouts.Destination n = n ≤ GREATEST_DESTINATION
AreInRange layouts.Counted bytes = length bytes ≤ GREATEST_COUNT
AreInRange _ v = Unit {0}

-- fields of a command
abbrev pub AreFields : (layout : Layout) → Values layout → Type 0
AreFields layout v = AreSized layout v × AreInRange layout v

abbrev pub IsCommand : Command → Type 0
IsCommand c = by_fields AreFields c

-- each is a command
abbrev pub AreCommands : List Command → Type 0
AreCommands [] = Unit {0}
AreCommands (c ∷ cs) = IsCommand c × AreCommands cs
