-- what the four roles are fed, and where they put it (MS-RPCH 2.2.4; the marks and END are this
-- profile's)
use Rattle.std.specs.Prelude.{List}
use Rattle.law_order.specs.Logs.{Log}
use Rattle.rh_line.specs.declared.leg.LegKind.TheVariants.{OutServer}
use Rattle.law_moves.specs.Moves.{OnLeg}
use Rattle.law_role_client.specs.Order.{down_items}
use Rattle.law_role_inproxy.specs.Order.{item_came}
use Rattle.law_role_outproxy.specs.Order.{from_server}
use Rattle.law_role_server.specs.Order.{in_items, items_on, out_items}
use Rattle.law_node_begins.specs.ProxiesBegin.Pipes.{ci, is, co, os}
use Rattle.law_node_order.specs.Streams.{Feed}

-- an in proxy by its client, an out proxy by the server, a client by out proxies, a server by in
-- proxies
abbrev pub in_feed : Feed
in_feed = record { leg = ci; view = item_came }

abbrev pub out_feed : Feed
out_feed = record { leg = os; view = from_server }

abbrev pub client_feed : Feed
client_feed = record { leg = co; view = down_items }

abbrev pub server_feed : Feed
server_feed = record { leg = is; view = in_items }

-- what a server put on each os leg
abbrev pub server_put : List OnLeg → Log
server_put put n = items_on out_items OutServer put n
