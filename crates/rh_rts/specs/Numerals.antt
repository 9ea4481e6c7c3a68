-- the numbers of RTS packets, written out
use Rattle.std.specs.Prelude.{◌≡◌}
use Rattle.rh_rts.specs.declared.kinds.TheConstants.{RECEIVE_WINDOW_SIZE, FLOW_CONTROL_ACK}
use Rattle.rh_rts.specs.declared.kinds.TheConstants.{CONNECTION_TIMEOUT, COOKIE, CHANNEL_LIFETIME}
use Rattle.rh_rts.specs.declared.kinds.TheConstants.{CLIENT_KEEPALIVE, VERSION, EMPTY, PADDING}
use Rattle.rh_rts.specs.declared.kinds.TheConstants.{NEGATIVE_ANCE, ANCE, CLIENT_ADDRESS}
use Rattle.rh_rts.specs.declared.kinds.TheConstants.{ASSOCIATION_GROUP_ID, DESTINATION}
use Rattle.rh_rts.specs.declared.kinds.TheConstants.{PING_TRAFFIC_SENT_NOTIFY}
use Rattle.rh_rts.specs.declared.packet.TheConstants.{NONE, PING, OTHER_CMD, RECYCLE_CHANNEL}
use Rattle.rh_rts.specs.declared.packet.TheConstants.{IN_CHANNEL, OUT_CHANNEL, EOF, ECHO, ALL_FLAGS}
use Rattle.rh_rts.specs.declared.packet.TheConstants.{GREATEST_PACKET_LENGTH}
use Rattle.rh_rts.specs.declared.header.TheConstants.{PACKET_HEADER_LEN}
use Rattle.rh_rts.specs.declared.command.TheConstants.{TO_CLIENT, TO_IN_PROXY, TO_SERVER}
use Rattle.rh_rts.specs.declared.command.TheConstants.{TO_OUT_PROXY, GREATEST_DESTINATION}
use Rattle.rh_rts.specs.declared.command.TheConstants.{COOKIE_LEN, V4_LEN, V6_LEN}
use Rattle.rh_rts.specs.declared.command.TheConstants.{ADDRESS_PADDING_LEN}
use Rattle.rh_rts.specs.declared.layout.TheConstants.{TYPE_OF_V4, TYPE_OF_V6, GREATEST_COUNT}

pub record AreFixed : Type 0 where
  -- the types of commands (MS-RPCH 2.2.3)
  pub receive_window_size : RECEIVE_WINDOW_SIZE ≡ 0
  pub flow_control_ack : FLOW_CONTROL_ACK ≡ 1
  pub connection_timeout : CONNECTION_TIMEOUT ≡ 2
  pub cookie : COOKIE ≡ 3
  pub channel_lifetime : CHANNEL_LIFETIME ≡ 4
  pub client_keepalive : CLIENT_KEEPALIVE ≡ 5
  pub version : VERSION ≡ 6
  pub empty : EMPTY ≡ 7
  pub padding : PADDING ≡ 8
  pub negative_ance : NEGATIVE_ANCE ≡ 9
  pub ance : ANCE ≡ 10
  pub client_address : CLIENT_ADDRESS ≡ 11
  pub association_group_id : ASSOCIATION_GROUP_ID ≡ 12
  pub destination : DESTINATION ≡ 13
  pub ping_traffic_sent_notify : PING_TRAFFIC_SENT_NOTIFY ≡ 14
  -- the flags (MS-RPCH 2.2.3)
  pub no_flags : NONE ≡ 0
  pub ping : PING ≡ 1
  pub other_command : OTHER_CMD ≡ 2
  pub recycle_channel : RECYCLE_CHANNEL ≡ 4
  pub in_channel : IN_CHANNEL ≡ 8
  pub out_channel : OUT_CHANNEL ≡ 16
  pub eof : EOF ≡ 32
  pub echo : ECHO ≡ 64
  pub all_flags : ALL_FLAGS ≡ 127
  -- the length of the header, and the greatest of a packet, in bytes (MS-RPCH 2.2.3)
  pub header_length : PACKET_HEADER_LEN ≡ 20
  pub greatest_length : GREATEST_PACKET_LENGTH ≡ 65_535
  -- the destinations (MS-RPCH 2.2.3)
  pub to_client : TO_CLIENT ≡ 0
  pub to_in_proxy : TO_IN_PROXY ≡ 1
  pub to_server : TO_SERVER ≡ 2
  pub to_out_proxy : TO_OUT_PROXY ≡ 3
  pub greatest_destination : GREATEST_DESTINATION ≡ 3
  -- the length of a cookie, in bytes (MS-RPCH 2.2.3)
  pub cookie_length : COOKIE_LEN ≡ 16
  -- addresses: their types, their lengths and that of what stands behind one, in bytes
  -- (MS-RPCH 2.2.3)
  pub v4 : TYPE_OF_V4 ≡ 0
  pub v6 : TYPE_OF_V6 ≡ 1
  pub v4_length : V4_LEN ≡ 4
  pub v6_length : V6_LEN ≡ 16
  pub address_padding : ADDRESS_PADDING_LEN ≡ 12
  -- the most bytes of a padding (profile)
  pub greatest_count : GREATEST_COUNT ≡ 65_535
