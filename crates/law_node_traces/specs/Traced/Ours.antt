-- the nodes of a virtual connection of the real roles (MS-RPCH 3.2)
use Rattle.std.specs.Prelude.{◌≡◌, ℕ}
use Rattle.rh_http.specs.declared.config.ClientConfig.{ClientConfig}
use Rattle.rh_shell.specs.Shells.{begun}
use Rattle.rh_inproxy.specs.declared.state.InProxyConfig.{InProxyConfig}
use Rattle.rh_inproxy.specs.State.{InProxy}
use Rattle.rh_inproxy.specs.Machine as in_proxy
use Rattle.rh_outproxy.specs.declared.out_proxy.TheConstants as out_proxies
use Rattle.rh_outproxy.specs.declared.state.OutProxyConfig.{OutProxyConfig}
use Rattle.rh_outproxy.specs.OutProxy.{OutProxy, new_proxy}
use Rattle.rh_outproxy.specs.Machine as out_proxy
use Rattle.rh_client.specs.declared.state.ClientRole.{ClientRole}
use Rattle.rh_client.specs.Client as client
use Rattle.rh_server.specs.States.{Server}
use Rattle.rh_server.specs.Servers as server
use Rattle.rh_company.specs.Company.{Company, Rulebook, rules_of}
use Rattle.rh_nodes.specs.Giving.{Deeds, deeds_of}
use Rattle.rh_nodes.specs.Opening.{Makers}

-- the rules of the four roles, and what the two ends do besides
abbrev pub rules : Rulebook ClientRole Server InProxy OutProxy
rules = rules_of client.rules server.rules in_proxy.rules out_proxy.rules

abbrev pub deeds : Deeds ClientRole Server
deeds = deeds_of client.acts server.acts

-- the client and the server are new, and each proxy is made by its configuration, which has its
-- number
pub record AreOurs {K : Type 0} (m : Makers K InProxy OutProxy)
    (first : Company ClientRole Server InProxy OutProxy) (cast : K) : Type 0 where
  pub config : ClientConfig
  pub window : ℕ
  pub in_config : ℕ → InProxyConfig
  pub out_config : ℕ → OutProxyConfig
  pub client : first.client ≡ client.first_client config
  pub server : first.server ≡ server.new_server window
  pub ins : (n : ℕ) → m.in_proxy cast n ≡ in_proxy.first_node (in_config n)
  pub outs : (n : ℕ)
      → m.out_proxy cast n ≡ begun (new_proxy (out_config n)) out_proxies.ROOMS
  pub in_number : (n : ℕ) → (in_config n).number ≡ n
  pub out_number : (n : ℕ) → (out_config n).number ≡ n
