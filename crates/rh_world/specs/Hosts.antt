-- the hosts of a world of roles (profile)
use Rattle.std.proofs.Common.{ℕ, ◌-◌, List, ◌++◌, length, replicate, refl, lit≤}
use Rattle.std.specs.Prelude.{codes}
use Rattle.rh_http.specs.declared.host.Host.{Host}
use Rattle.rh_http.specs.Hosts.{IsHost, greatest_host}

-- the bytes of a text, and 0 behind them
abbrev pub padded : List ℕ → List ℕ
padded text = text ++ replicate (greatest_host - length text) 0

-- the server, and the proxy of the client
pub server_is_host : IsHost (codes "server")
server_is_host = record { some = lit≤ tt; most = lit≤ tt; characters = refl }

pub proxy_is_host : IsHost (codes "proxy")
proxy_is_host = record { some = lit≤ tt; most = lit≤ tt; characters = refl }

abbrev pub server_host : Host
server_host = record {
  bytes = padded (codes "server");
  len = 6;
  kept = record { text = server_is_host; counted = refl; behind = refl };
}

abbrev pub proxy_host : Host
proxy_host = record {
  bytes = padded (codes "proxy");
  len = 5;
  kept = record { text = proxy_is_host; counted = refl; behind = refl };
}
