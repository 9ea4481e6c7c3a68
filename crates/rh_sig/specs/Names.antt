-- the names of packets: those of opening, flow control and pings (MS-RPCH 2.2.4), and the profile's
-- own of replacement and of a clean end, after the same pattern
use Rattle.std.specs.Prelude.{◌≡◌, ◌+◌, ℕ, List, [], ◌∷◌}
use Rattle.std.specs.Prelude.{map}
use Rattle.std.specs.List.{Contains}
use Rattle.rh_sig.specs.declared.name.Name.{Name}
use Rattle.rh_sig.specs.declared.name.Name.TheVariants.{ConnA1, ConnA2, ConnA3, ConnB1, ConnB2}
use Rattle.rh_sig.specs.declared.name.Name.TheVariants.{ConnB3, ConnC1, ConnC2, InR1A1, InR1A2}
use Rattle.rh_sig.specs.declared.name.Name.TheVariants.{InR1A3, InR1A4, InR1A5, InR1A6, InR1B1}
use Rattle.rh_sig.specs.declared.name.Name.TheVariants.{InR1B2, InR2A2, InR2A3, InR2A4}
use Rattle.rh_sig.specs.declared.name.Name.TheVariants.{OutR1A1, OutR1A2, OutR1A3, OutR2C1, OutR1A4}
use Rattle.rh_sig.specs.declared.name.Name.TheVariants.{OutR1A5, OutR1A6, OutR1A7, OutR1A8, OutR1A9}
use Rattle.rh_sig.specs.declared.name.Name.TheVariants.{OutR1A10, EndA1, EndA2, EndB1, EndB2, Ack}
use Rattle.rh_sig.specs.declared.name.Name.TheVariants.{AckTo, KeepAlive, PingTraffic, Ping}
use Rattle.rh_sig.specs.declared.name.Pipe.{Pipe}
use Rattle.rh_sig.specs.declared.name.Pipe.TheVariants.{CiU, IsU, IsD, CoU, CoD, OsU, OsD}
use Rattle.rh_rts.specs.declared.command.Command.{Command}
use Rattle.rh_rts.specs.declared.command.Command.TheVariants as commands
use Rattle.rh_rts.specs.Commands.{kind_of}
use Rattle.rh_rts.specs.Packets.{Parts}
use Rattle.rh_rts.specs.declared.kinds.TheConstants.{VERSION, COOKIE, RECEIVE_WINDOW_SIZE, EMPTY}
use Rattle.rh_rts.specs.declared.kinds.TheConstants.{ANCE}
use Rattle.rh_rts.specs.declared.kinds.TheConstants.{CONNECTION_TIMEOUT, CHANNEL_LIFETIME}
use Rattle.rh_rts.specs.declared.kinds.TheConstants.{DESTINATION}
use Rattle.rh_rts.specs.declared.kinds.TheConstants.{CLIENT_KEEPALIVE, ASSOCIATION_GROUP_ID}
use Rattle.rh_rts.specs.declared.kinds.TheConstants.{CLIENT_ADDRESS}
use Rattle.rh_rts.specs.declared.kinds.TheConstants.{FLOW_CONTROL_ACK, PING_TRAFFIC_SENT_NOTIFY}
use Rattle.rh_rts.specs.declared.packet.TheConstants.{NONE, PING, OTHER_CMD, RECYCLE_CHANNEL}
use Rattle.rh_rts.specs.declared.packet.TheConstants.{IN_CHANNEL, OUT_CHANNEL, EOF}

-- the types of commands, in their order
abbrev pub types_of : List Command → List ℕ
types_of cs = map kind_of cs

-- the commands without those of type Padding
abbrev pub unpadded : List Command → List Command
unpadded [] = []
unpadded (commands.Padding bytes ∷ cs) = unpadded cs
unpadded (c ∷ cs) = c ∷ unpadded cs

-- ---- the table

-- the pipes that carry a packet, its flags and the types of its commands
pub record Row : Type 0 where
  pub pipes : List Pipe
  pub flags : ℕ
  pub types : List ℕ

abbrev pub row : List Pipe → ℕ → List ℕ → Row
row pipes flags types = record { pipes = pipes; flags = flags; types = types }

-- the row of each name: opening (MS-RPCH 2.2.4), replacement of an IN and of an OUT channel and a
-- clean end
-- (profile), and what may come again (MS-RPCH 2.2.4)
abbrev pub row_of : Name → Row
row_of ConnA1 = row (CoU ∷ []) NONE (VERSION ∷ COOKIE ∷ COOKIE ∷ RECEIVE_WINDOW_SIZE ∷ [])
row_of ConnA2 =
    row (OsU ∷ []) OUT_CHANNEL
    (VERSION ∷ COOKIE ∷ COOKIE ∷ CHANNEL_LIFETIME ∷ RECEIVE_WINDOW_SIZE ∷ [])
row_of ConnA3 = row (CoD ∷ []) NONE (CONNECTION_TIMEOUT ∷ [])
row_of ConnB1 =
    row (CiU ∷ []) NONE
    (VERSION ∷ COOKIE ∷ COOKIE ∷ CHANNEL_LIFETIME ∷ CLIENT_KEEPALIVE ∷ ASSOCIATION_GROUP_ID ∷ [])
row_of ConnB2 =
    row (IsU ∷ []) IN_CHANNEL
    (VERSION ∷ COOKIE ∷ COOKIE ∷ RECEIVE_WINDOW_SIZE ∷ CONNECTION_TIMEOUT ∷ ASSOCIATION_GROUP_ID
    ∷ CLIENT_ADDRESS ∷ [])
row_of ConnB3 = row (IsD ∷ []) NONE (RECEIVE_WINDOW_SIZE ∷ VERSION ∷ [])
row_of ConnC1 = row (OsD ∷ []) NONE (VERSION ∷ RECEIVE_WINDOW_SIZE ∷ CONNECTION_TIMEOUT ∷ [])
row_of ConnC2 = row (CoD ∷ []) NONE (VERSION ∷ RECEIVE_WINDOW_SIZE ∷ CONNECTION_TIMEOUT ∷ [])
row_of InR1A1 = row (CiU ∷ []) RECYCLE_CHANNEL (VERSION ∷ COOKIE ∷ COOKIE ∷ COOKIE ∷ [])
row_of InR1A2 =
    row (IsU ∷ []) (IN_CHANNEL + RECYCLE_CHANNEL)
    (VERSION ∷ COOKIE ∷ COOKIE ∷ COOKIE ∷ RECEIVE_WINDOW_SIZE ∷ CONNECTION_TIMEOUT ∷ [])
row_of InR1A3 =
    row (OsD ∷ []) NONE (DESTINATION ∷ VERSION ∷ RECEIVE_WINDOW_SIZE ∷ CONNECTION_TIMEOUT ∷ [])
row_of InR1A4 =
    row (CoD ∷ []) NONE (DESTINATION ∷ VERSION ∷ RECEIVE_WINDOW_SIZE ∷ CONNECTION_TIMEOUT ∷ [])
row_of InR1A5 = row (CiU ∷ []) NONE (COOKIE ∷ [])
row_of InR1A6 = row (IsU ∷ []) NONE (COOKIE ∷ [])
row_of InR1B1 = row (IsD ∷ []) NONE (EMPTY ∷ [])
row_of InR1B2 = row (IsD ∷ []) NONE (RECEIVE_WINDOW_SIZE ∷ [])
row_of InR2A2 = row (IsU ∷ []) (IN_CHANNEL + RECYCLE_CHANNEL) (COOKIE ∷ [])
row_of InR2A3 = row (OsD ∷ []) NONE (DESTINATION ∷ [])
row_of InR2A4 = row (CoD ∷ []) NONE (DESTINATION ∷ [])
row_of OutR1A1 = row (OsD ∷ []) RECYCLE_CHANNEL (DESTINATION ∷ [])
row_of OutR1A2 = row (CoD ∷ []) RECYCLE_CHANNEL (DESTINATION ∷ [])
row_of OutR1A3 =
    row (CoU ∷ []) RECYCLE_CHANNEL (VERSION ∷ COOKIE ∷ COOKIE ∷ COOKIE ∷ RECEIVE_WINDOW_SIZE ∷ [])
row_of OutR2C1 = row (CoU ∷ []) PING (EMPTY ∷ [])
row_of OutR1A4 =
    row (OsU ∷ []) (OUT_CHANNEL + RECYCLE_CHANNEL)
    (VERSION ∷ COOKIE ∷ COOKIE ∷ COOKIE ∷ CHANNEL_LIFETIME ∷ RECEIVE_WINDOW_SIZE
    ∷ CONNECTION_TIMEOUT ∷ [])
row_of OutR1A5 = row (OsD ∷ []) OUT_CHANNEL (DESTINATION ∷ VERSION ∷ CONNECTION_TIMEOUT ∷ [])
row_of OutR1A6 = row (CoD ∷ []) OUT_CHANNEL (DESTINATION ∷ VERSION ∷ CONNECTION_TIMEOUT ∷ [])
row_of OutR1A7 = row (CiU ∷ []) OUT_CHANNEL (DESTINATION ∷ COOKIE ∷ [])
row_of OutR1A8 = row (IsU ∷ []) OUT_CHANNEL (DESTINATION ∷ COOKIE ∷ [])
row_of OutR1A9 = row (OsD ∷ []) NONE (ANCE ∷ [])
row_of OutR1A10 = row (CoD ∷ []) NONE (ANCE ∷ [])
row_of EndA1 = row (CiU ∷ []) EOF (EMPTY ∷ [])
row_of EndA2 = row (IsU ∷ []) EOF (EMPTY ∷ [])
row_of EndB1 = row (OsD ∷ []) EOF (EMPTY ∷ [])
row_of EndB2 = row (CoD ∷ []) EOF (EMPTY ∷ [])
row_of Ack = row (IsD ∷ OsU ∷ []) OTHER_CMD (FLOW_CONTROL_ACK ∷ [])
row_of AckTo = row (CiU ∷ IsU ∷ OsD ∷ CoD ∷ []) OTHER_CMD (DESTINATION ∷ FLOW_CONTROL_ACK ∷ [])
row_of KeepAlive = row (CiU ∷ []) OTHER_CMD (CLIENT_KEEPALIVE ∷ [])
row_of PingTraffic = row (OsU ∷ []) OTHER_CMD (PING_TRAFFIC_SENT_NOTIFY ∷ [])
row_of Ping = row (CiU ∷ IsU ∷ IsD ∷ CoD ∷ OsU ∷ OsD ∷ []) PING []

-- on that pipe the packet has that name: that of a row, without the Padding
pub record IsNamed (p : Parts) (pipe : Pipe) (name : Name) : Type 0 where
  pub carried : Contains (row_of name).pipes pipe
  pub flags : (row_of name).flags ≡ p.flags
  pub types : (row_of name).types ≡ types_of (unpadded p.commands)

-- the row of that name lists the pipe
abbrev pub IsCarried : Name → Pipe → Type 0
IsCarried name pipe = Contains (row_of name).pipes pipe

-- on that pipe the packet has no name
abbrev pub IsNameless : Parts → Pipe → Type 0
IsNameless p pipe = (name : Name) → IsNamed p pipe name → ⊥
