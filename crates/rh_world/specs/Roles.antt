-- the world of the real roles (profile)
use Rattle.std.specs.Prelude.{ℕ, List, Bool}
use Rattle.rh_record.specs.declared.answer.Answer.{Answer}
use Rattle.rh_record.specs.declared.line.Line.{Line}
use Rattle.rh_rts.specs.declared.command.Cookie.{Cookie}
use Rattle.rh_http.specs.declared.config.ClientConfig.{ClientConfig}
use Rattle.rh_shell.specs.Shells as shells
use Rattle.rh_shell.specs.Shells.{Shell}
use Rattle.rh_client.specs.declared.state.ClientRole.{ClientRole}
use Rattle.rh_client.specs.Client as clients
use Rattle.rh_server.specs.States as states
use Rattle.rh_server.specs.Servers as servers
use Rattle.rh_inproxy.specs.declared.state.InProxyConfig.{InProxyConfig}
use Rattle.rh_inproxy.specs.State as ins
use Rattle.rh_inproxy.specs.Machine as in_proxies
use Rattle.rh_outproxy.specs.declared.out_proxy.TheConstants as outs
use Rattle.rh_outproxy.specs.declared.state.OutProxyConfig.{OutProxyConfig}
use Rattle.rh_outproxy.specs.OutProxy as proxies
use Rattle.rh_outproxy.specs.Machine as out_proxies
use Rattle.rh_company.specs.Company.{Rulebook, rules_of}
use Rattle.rh_nodes.specs.Giving.{Deeds, deeds_of}
use Rattle.rh_nodes.specs.Opening.{Makers, makers_of}
use Rattle.rh_nodes.specs.declared.half.Half.{Half}
use Rattle.rh_nodes.specs.Halves as halves
use Rattle.rh_nodes.specs.Settling as settling
use Rattle.rh_nodes.specs.Steps as steps
use Rattle.rh_nodes.specs.World as nodes
use Rattle.rh_world.specs.declared.config.WorldConfig.{WorldConfig}
use Rattle.rh_world.specs.declared.roles.TheConstants.{PORT, CLIENT_ADDRESS}
use Rattle.rh_world.specs.Hosts.{server_host, proxy_host}

-- ---- how the nodes are made

-- a client of the server `server` at its port by way of the host `proxy`
abbrev pub client_config : WorldConfig → Cookie → Cookie → ClientConfig
client_config config connection group = record {
  connection = connection;
  group = group;
  window = config.cwin;
  lifetime = config.ilife;
  keepalive = config.keep;
  host = server_host;
  port = PORT;
  proxy_host = proxy_host;
}

abbrev pub client : WorldConfig → Cookie → Cookie → Shell ClientRole
client config connection group = clients.first_client (client_config config connection group)

abbrev pub server : WorldConfig → Shell states.Server
server config = servers.new_server config.swin

-- an in proxy that is told this as the client's address
abbrev pub in_config : WorldConfig → ℕ → InProxyConfig
in_config config number = record {
  number = number;
  window = config.iwin;
  timeout = config.itime;
  address = CLIENT_ADDRESS;
}

abbrev pub in_proxy : WorldConfig → ℕ → Shell ins.InProxy
in_proxy config number = in_proxies.first_node (in_config config number)

abbrev pub out_config : WorldConfig → ℕ → OutProxyConfig
out_config config number = record {
  number = number;
  window = config.owin;
  lifetime = config.olife;
  timeout = config.otime;
}

abbrev pub out_proxy : WorldConfig → ℕ → Shell proxies.OutProxy
out_proxy config number = shells.begun (proxies.new_proxy (out_config config number)) outs.ROOMS

-- ---- their world

abbrev pub World : Type 0
World =
    nodes.World WorldConfig ClientRole states.Server ins.InProxy proxies.OutProxy

abbrev pub rules : Rulebook ClientRole states.Server ins.InProxy proxies.OutProxy
rules = rules_of clients.rules servers.rules in_proxies.rules out_proxies.rules

abbrev pub makers : Makers WorldConfig ins.InProxy proxies.OutProxy
makers = makers_of in_proxy out_proxy

abbrev pub deeds : Deeds ClientRole states.Server
deeds = deeds_of clients.acts servers.acts

-- with no legs, and no cookie drawn but those of the connection and the group
abbrev pub begun : WorldConfig → World
begun config = nodes.started client server config 0 config.same

abbrev pub step : Line → World → World × List Answer
step line world = steps.step rules makers deeds line world

-- a round of settling, and what is told of the nodes that closed
abbrev pub round : World → World × List Answer
round world = settling.round rules makers deeds world

abbrev pub tell_closed : World → World × List Answer
tell_closed world = steps.tell_closed world

-- one node alone is told something, or may not be told it
abbrev pub half : World → Half → World × Bool
half world one = halves.half rules makers world one

abbrev pub last : World → List Answer
last world = steps.last rules deeds world
