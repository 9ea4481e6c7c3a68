-- what the nodes of a role are made with (profile)
use Rattle.std.specs.Prelude.{◌≡◌, ℕ, zero, suc, List, [], ◌∷◌, ◌++◌, None, Some, replicate, take}
use Rattle.rh_http.specs.Requests.{host_text}
use Rattle.rh_net.specs.declared.address.Address.{Address}
use Rattle.rh_keepers.specs.declared.plan.Plan.{Plan}
use Rattle.rh_inproxy.specs.declared.state.InProxyConfig.{InProxyConfig}
use Rattle.rh_outproxy.specs.declared.state.OutProxyConfig.{OutProxyConfig}
use Rattle.rh_role_words.specs.declared.addresses.HostPort.{HostPort}
use Rattle.rh_role_words.specs.declared.addresses.HostPorts.{HostPorts}
use Rattle.rh_role_words.specs.declared.configs.Limits.{Limits}
use Rattle.rh_role_words.specs.declared.form.RoleForm.{RoleForm}
use Rattle.rh_role_words.specs.declared.form.RoleForm.TheVariants.{Client, InProxy, OutProxy, Server}

-- ---- numbers

-- the node of a channel of an in proxy: it knows no address of a client
abbrev pub in_proxy_of : Limits → ℕ → InProxyConfig
in_proxy_of limits number = record {
  number = number;
  window = limits.window;
  timeout = limits.timeout;
  address = replicate 4 0;
}

-- the node of a channel of an out proxy
abbrev pub out_proxy_of : Limits → ℕ → OutProxyConfig
out_proxy_of limits number = record {
  number = number;
  window = limits.window;
  lifetime = limits.lifetime;
  timeout = limits.timeout;
}

-- those of the channels from 1 on, so many
abbrev pub numbered : {Config : Type 0} → (ℕ → Config) → ℕ → List Config
numbered config zero = []
numbered config (suc n) = numbered config n ++ config (suc n) ∷ []

-- ---- addresses

-- the address of this host and port
abbrev pub Names : Address → HostPort → Type 0
Names address at = (take address.len address.host ≡ host_text at.host) × (address.port ≡ at.port)

-- the addresses of these, in order
abbrev pub NamesEach : List Address → List HostPort → Type 0
NamesEach [] [] = Unit {0}
NamesEach [] (at ∷ more) = ⊥
NamesEach (address ∷ addresses) [] = ⊥
NamesEach (address ∷ addresses) (at ∷ more) = Names address at × NamesEach addresses more

-- all addresses of a word
abbrev pub all_of : HostPorts → List HostPort
all_of at = at.first ∷ at.more.items

-- it listens there, and uses no proxy
pub record ListensAt (plan : Plan) (at : HostPort) : Type 0 where
  pub address : Address
  pub is : plan.at ≡ Some address
  pub names : Names address at
  pub no_ins : plan.ins.items ≡ []
  pub no_outs : plan.outs.items ≡ []

-- it listens nowhere, and uses these proxies
pub record UsesProxies (plan : Plan) (ins outs : HostPorts) : Type 0 where
  pub nowhere : plan.at ≡ None
  pub in_proxies : NamesEach plan.ins.items (all_of ins)
  pub out_proxies : NamesEach plan.outs.items (all_of outs)

-- where the nodes of a role listen, and which proxies they use
abbrev pub IsPlanOf : RoleForm → Plan → Type 0
IsPlanOf (Client server ins outs) plan = UsesProxies plan ins outs
IsPlanOf (InProxy at count) plan = ListensAt plan at
IsPlanOf (OutProxy at count) plan = ListensAt plan at
IsPlanOf (Server at) plan = ListensAt plan at
