-- the fields of packets as text, each behind its word (profile)
use Rattle.std.specs.Prelude.{◌==◌, ◌+◌, ℕ, List, [], ◌∷◌, ◌++◌, min, map, slice_index, codes, if◌then◌else◌}
use Rattle.std.specs.Fmt.{decimal}
use Rattle.hex.specs.Hex.{encode_lower}
use Rattle.rh_rts.specs.declared.command.Address4or16.{Address4or16}
use Rattle.rh_rts.specs.declared.command.Address4or16.TheVariants.{V4, V6}
use Rattle.rh_rts.specs.declared.command.Command.{Command}
use Rattle.rh_rts.specs.declared.command.Command.TheVariants as commands
use Rattle.rh_rts.specs.declared.command.TheConstants.{TO_CLIENT, TO_IN_PROXY, TO_SERVER}
use Rattle.rh_rts.specs.Packets.{Parts}
use Rattle.rh_rts.specs.Texts.{command_name}
use Rattle.rh_show.specs.Shown.{flags_text}
use Rattle.rh_sig.specs.Cookies.{text_of_cookie}
use Rattle.rh_sig.specs.declared.name.Name.{Name}
use Rattle.rh_sig.specs.declared.name.Name.TheVariants.{ConnA1, ConnA2, ConnB1, ConnB2}
use Rattle.rh_sig.specs.declared.name.Name.TheVariants.{InR1A1, InR1A2, OutR1A3, OutR1A4}
use Rattle.rh_sig.specs.declared.ranges.TheConstants.{PROTOCOL_VERSION}

-- ---- values

-- the bytes of a cookie as a GUID tells them: its first fields are numbers of four, two and two
-- bytes, which stand with their least byte first
abbrev pub turned : List ℕ → List ℕ
turned bytes =
    map (λ (at : ℕ). slice_index bytes at)
    (3 ∷ 2 ∷ 1 ∷ 0 ∷ 5 ∷ 4 ∷ 7 ∷ 6 ∷ 8 ∷ 9 ∷ 10 ∷ 11 ∷ 12 ∷ 13 ∷ 14 ∷ 15 ∷ [])

-- the same as a GUID
unfoldable pub guid_text : List ℕ → List ℕ
guid_text bytes = codes " (" ++ text_of_cookie (turned bytes) ++ codes ")"

-- a cookie, and behind it the same as a GUID
unfoldable pub id_text : List ℕ → List ℕ
id_text bytes = (codes " " ++ text_of_cookie bytes) ++ guid_text bytes

-- a cookie behind its word
abbrev pub cookie_field : List ℕ → List ℕ → List ℕ
cookie_field word bytes = word ++ id_text bytes

abbrev pub number_text : ℕ → List ℕ
number_text n = codes " " ++ decimal n

-- the role that a destination names (MS-RPCH 2.2.3.3); that of a packet is at most 3
abbrev pub role_word : ℕ → List ℕ
role_word n =
    if n == TO_CLIENT then codes " client"
    else (if n == TO_IN_PROXY then codes " in-proxy"
    else (if n == TO_SERVER then codes " server" else codes " out-proxy"))

-- two bytes of an address from that place on
unfoldable pub pair : ℕ → List ℕ → List ℕ
pair at b = slice_index b at ∷ slice_index b (at + 1) ∷ []

abbrev pub group : ℕ → List ℕ → List ℕ
group at b = encode_lower (pair at b)

-- an address of IPv4 as four numbers, and one of IPv6 as eight groups of hex digits
unfoldable pub v4_text : List ℕ → List ℕ
v4_text b =
    codes " " ++ (decimal (slice_index b 0) ++ (codes "." ++ (decimal (slice_index b 1)
    ++ (codes "." ++ (decimal (slice_index b 2) ++ (codes "." ++ decimal (slice_index b 3)))))))

unfoldable pub v6_text : List ℕ → List ℕ
v6_text b =
    codes " " ++ (group 0 b ++ (codes ":" ++ (group 2 b ++ (codes ":" ++ (group 4 b ++ (codes ":"
    ++ (group 6 b ++ (codes ":" ++ (group 8 b ++ (codes ":" ++ (group 10 b ++ (codes ":"
    ++ (group 12 b ++ (codes ":" ++ group 14 b))))))))))))))

abbrev pub address_text : Address4or16 → List ℕ
address_text (V4 b) = v4_text b
address_text (V6 b) = v6_text b

-- an acknowledgement: bytes received and available window
unfoldable pub counts_field : List ℕ → ℕ → ℕ → List ℕ
counts_field word received window =
    word ++ codes " received " ++ decimal received ++ codes " window " ++ decimal window

-- and the channel behind them
abbrev pub ack_field : List ℕ → ℕ → ℕ → List ℕ → List ℕ
ack_field word received window cookie =
    counts_field word received window ++ cookie_field (codes " channel") cookie

-- the bytes of a padding, or a hyphen where there are none
abbrev pub padding_text : List ℕ → List ℕ
padding_text [] = codes " -"
padding_text (b ∷ bytes) = codes " " ++ encode_lower (b ∷ bytes)

-- the values of a command behind its word
abbrev pub field_text : List ℕ → Command → List ℕ
field_text word (commands.ReceiveWindowSize n) = word ++ number_text n
field_text word (commands.FlowControlAck received window cookie) =
    ack_field word received window cookie.0
field_text word (commands.ConnectionTimeout n) = word ++ number_text n
field_text word (commands.Cookie cookie) = cookie_field word cookie.0
field_text word (commands.ChannelLifetime n) = word ++ number_text n
field_text word (commands.ClientKeepalive n) = word ++ number_text n
field_text word (commands.Version n) = word ++ number_text n
field_text word commands.Empty = word
field_text word (commands.Padding bytes) = word ++ padding_text bytes
field_text word commands.NegativeAnce = word
field_text word commands.Ance = word
field_text word (commands.ClientAddress address padding) = word ++ address_text address
field_text word (commands.AssociationGroupId cookie) = cookie_field word cookie.0
field_text word (commands.Destination n) = word ++ role_word n
field_text word (commands.PingTrafficSentNotify n) = word ++ number_text n

-- ---- the words for fields, each with a space before it

-- the first cookie is that of the connection, another that of the channel
abbrev pub of_channel : List ℕ → ℕ → List ℕ
of_channel word n = if n == 0 then codes " virtual" else word

-- the cookies of the connection, the channel and its successor
abbrev pub of_replacement : ℕ → List ℕ
of_replacement n =
    if n == 0 then codes " virtual"
    else (if n == 1 then codes " predecessor" else codes " successor")

-- a cookie of a packet, before which so many stand
abbrev pub cookie_word : Name → ℕ → List ℕ
cookie_word ConnA1 n = of_channel (codes " out") n
cookie_word ConnA2 n = of_channel (codes " out") n
cookie_word ConnB1 n = of_channel (codes " in") n
cookie_word ConnB2 n = of_channel (codes " in") n
cookie_word InR1A1 n = of_replacement n
cookie_word InR1A2 n = of_replacement n
cookie_word OutR1A3 n = of_replacement n
cookie_word OutR1A4 n = of_replacement n
cookie_word _ n = codes " successor"

-- a command of a packet of that name, before which so many cookies stand
abbrev pub word_of : Name → ℕ → Command → List ℕ
word_of name n (commands.ReceiveWindowSize _) = codes " window"
word_of name n (commands.FlowControlAck _ _ _) = []
word_of name n (commands.ConnectionTimeout _) = codes " timeout"
word_of name n (commands.Cookie _) = cookie_word name n
word_of name n (commands.ChannelLifetime _) = codes " lifetime"
word_of name n (commands.ClientKeepalive _) = codes " keepalive"
word_of name n (commands.Version _) = codes " version"
word_of name n commands.Empty = []
word_of name n (commands.Padding _) = []
word_of name n commands.NegativeAnce = []
word_of name n commands.Ance = []
word_of name n (commands.ClientAddress _ _) = codes " address"
word_of name n (commands.AssociationGroupId _) = codes " group"
word_of name n (commands.Destination _) = codes " to"
word_of name n (commands.PingTrafficSentNotify _) = codes " bytes"

-- ---- packets

-- how many cookies stand before the next command; words tell three apart
abbrev pub counted : ℕ → Command → ℕ
counted n (commands.Cookie _) = min (n + 1) 255
counted n _ = n

-- the one version of the protocol isn't told
abbrev pub version_text : ℕ → List ℕ
version_text n = if n == PROTOCOL_VERSION then [] else codes " version" ++ number_text n

-- a field of a packet of that name; a padding says nothing
abbrev pub named_field : Name → ℕ → Command → List ℕ
named_field name n (commands.Version v) = version_text v
named_field name n (commands.Padding bytes) = []
named_field name n c = field_text (word_of name n c) c

-- the fields of a packet of that name, in their order
abbrev pub fields_text : Name → ℕ → List Command → List ℕ
fields_text name n [] = []
fields_text name n (c ∷ cs) = named_field name n c ++ fields_text name (counted n c) cs

-- commands by their own names
abbrev pub command_text : Command → List ℕ
command_text c = codes " " ++ field_text (command_name c) c

abbrev pub commands_text : List Command → List ℕ
commands_text [] = []
commands_text (c ∷ cs) = command_text c ++ commands_text cs

-- a packet that has no name: its flags and its commands
abbrev pub unnamed_text : Parts → List ℕ
unnamed_text p = (codes "unnamed " ++ flags_text p.flags) ++ commands_text p.commands
