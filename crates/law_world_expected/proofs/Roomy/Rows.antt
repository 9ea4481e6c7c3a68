-- the rows of the roles find no leg full, but those of what is forwarded
use Rattle.rh_inproxy.specs.Machine as in_proxy
use Rattle.rh_outproxy.specs.Machine as out_proxy
use Rattle.rh_client.specs.Client as client
use Rattle.rh_server.specs.Servers as server
use Rattle.law_moves.proofs.Vocabulary.{LegKind, ClientOut, OutServer, InServer}
use Rattle.law_node_history.proofs.Vocabulary.{leg_at}
use Rattle.law_role_outproxy.proofs.Vocabulary.{is_co}
use Rattle.law_world_honest.proofs.Honesty.AckRows.{plain}
use Rattle.law_world_honest.proofs.Honesty.ClientRows as clients
use Rattle.law_world_honest.proofs.Honesty.InRows as in_proxies
use Rattle.law_world_honest.proofs.Honesty.OutRows as out_proxies
use Rattle.law_world_honest.proofs.Honesty.ServerRows as servers
use Rattle.law_world_expected.proofs.Roomy.Fitting.{finds_room}
use Rattle.law_world_expected.specs.Roomy.{PacketsFindRoom, PdusFindRoom}

pub client_pdus : PdusFindRoom client.rules
client_pdus s leg count pdu = finds_room _ (clients.any_pdu s leg.number pdu leg.kind)

pub client_packets : (kind : LegKind) → PacketsFindRoom client.rules kind
client_packets kind s number count packet =
    finds_room _ (clients.any_packet s number count packet kind)

pub in_pdus : PdusFindRoom in_proxy.rules
in_pdus s leg count pdu = finds_room _ (in_proxies.any_pdu s leg count pdu)

-- an is leg is no leg of the client
pub in_packets : PacketsFindRoom in_proxy.rules InServer
in_packets s number count packet =
    finds_room _ (in_proxies.server_packet s (leg_at InServer number) packet)

pub out_pdus : PdusFindRoom out_proxy.rules
out_pdus s leg count pdu = finds_room _ (out_proxies.any_pdu s leg count pdu)

-- a co leg is no leg of the server
pub out_packets : PacketsFindRoom out_proxy.rules ClientOut
out_packets s number count packet =
    finds_room _ (plain (is_co s (leg_at ClientOut number)) _ _ (out_proxies.co_rows s count packet)
    (out_proxies.no_row s))

pub server_pdus : PdusFindRoom server.rules
server_pdus s leg count pdu = finds_room _ (servers.any_pdu s leg.number pdu leg.kind)

pub server_packets : PacketsFindRoom server.rules OutServer
server_packets s number count packet = finds_room _ (servers.os_rows s number count packet)
