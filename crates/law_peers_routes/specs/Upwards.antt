-- what goes up: a client, in proxies and a server, joined by legs that carry bytes (profile)
use Rattle.std.specs.Prelude.{ℕ, ◌≡◌, ◌≢◌, ◌⊎◌, ◌-◌, ◌==◌, ◌&&◌, ◌||◌, not, nat_lt, List, [], Bool, true, false, if◌then◌else◌}
use mathlib.Core.List.{IsPrefix}
use Rattle.rh_http.specs.declared.config.ClientConfig.{ClientConfig}
use Rattle.law_order.specs.Routes.{Route}
use Rattle.law_moves.specs.Moves.{Passage, EndPassage, EndMove}
use Rattle.law_moves.specs.Moving.{Event, EndEvent}
use Rattle.law_moves.specs.Legible.Legible.{AreLegible}
use Rattle.law_node_history.specs.Carried.{heard_on, drawn_on, end_drawn_on, came_up, happened}
use Rattle.law_node_streams.specs.Streams.{Stream, EndStream}
use Rattle.rh_client.specs.declared.state.ClientRole.{ClientRole}
use Rattle.rh_client.specs.Client as client
use Rattle.law_role_client.specs.Legible as client_legible
use Rattle.law_role_client.specs.Order as client_order
use Rattle.rh_client.specs.State as client_state
use Rattle.rh_inproxy.specs.declared.state.InProxyConfig.{InProxyConfig}
use Rattle.law_role_inproxy.specs.Legible as proxy_legible
use Rattle.rh_inproxy.specs.Machine as proxy
use Rattle.law_role_inproxy.specs.Order as proxy_order
use Rattle.rh_inproxy.specs.State.{InProxy}
use Rattle.rh_inproxy.specs.State as proxy_state
use Rattle.law_role_server.specs.Order as server_order
use Rattle.rh_server.specs.Servers as server
use Rattle.rh_server.specs.States.{Server}
use Rattle.law_node_begins.specs.EndsBegin.{client_reads, server_reads}
use Rattle.law_node_begins.specs.ProxiesBegin.Pipes.{ci as client_leg, is as server_leg, in_pipe}

-- ---- the route

-- a channel has a far leg where its in proxy is that of its number; or where it has none, so that
-- nothing is put there. There is no channel 0
abbrev pub has_leg : (ℕ → ℕ) → ℕ → Bool
has_leg reader n = nat_lt 0 n && (reader n == n || reader n == 0)

-- the server comes to the channels before the one that follows its current one; of those it knows
-- which have a leg
abbrev pub is_known : List EndMove → Server → ℕ → Bool
is_known moves s n =
    not (nat_lt n (server_order.following s)) || server_order.has_leg moves s n

-- what a client gave, by the in proxies, to what a server took by these moves
abbrev pub up_route : (ℕ → ℕ) → EndPassage ClientRole → (ℕ → Passage InProxy) → List EndMove
    → EndPassage Server → Route
up_route reader c i moves s = record {
  giver = client_order.giver_of c.given c.passage.role;
  proxies = λ m. proxy_order.passer_of (i m).role;
  taker = server_order.taker_of s.taken s.passage.role;
  legs = has_leg reader;
  known = is_known moves s.passage.role;
  sent = client_order.put_log c.passage.put;
  came = λ m. proxy_order.came_log (i m).came;
  put = λ m. if has_leg reader m then proxy_order.put_items (i m).put else [];
  got = server_order.got s;
}

-- ---- which in proxy reads which channel

-- which in proxies were made, and the number of the one that reads each channel, 0 where none does
pub record AreReaders (ins : ℕ → List Event) (made : ℕ → Bool) (reader : ℕ → ℕ) : Type 0 where
  pub none : made 0 ≡ false
  -- nothing happens at one that was not made
  pub unmade : (n : ℕ) → made n ≡ false → ins n ≡ []
  -- one that was made reads the channel of its number
  pub own : (n : ℕ) → made n ≡ true → reader n ≡ n
  pub reads : (m n : ℕ) → came_up (client_leg n) (ins m) ≡ true → reader n ≡ m
  -- a channel that is read has an in proxy of its own, or came up at that of the one before it
  pub opened : (n : ℕ) → reader n ≢ 0
      → (made n ≡ true)
      ⊎ ((reader n ≡ reader (n - 1)) × (came_up (client_leg n) (ins (reader n)) ≡ true))
  pub unread : reader 0 ≡ 0

-- ---- what happened

-- the streams of a client, of a server and of each in proxy; what was heard on each leg is a front
-- of what was drawn there
pub record GoesUp (config : ClientConfig) (window : ℕ) (in_config : ℕ → InProxyConfig)
    (client_events server_events : List EndEvent) (ins : ℕ → List Event) (made : ℕ → Bool)
    (reader : ℕ → ℕ) : Type 0 where
  pub giver : EndStream client.rules client.acts (client_state.first config) client.rooms
      client_reads client_events
  pub taker : EndStream server.rules server.acts (server.first window) server.rooms server_reads
      server_events
  pub proxies : (n : ℕ) → Stream proxy.rules (proxy_state.first (in_config n)) proxy.rooms
      (in_pipe (in_config n)) (ins n)
  pub numbered : (n : ℕ) → (in_config n).number ≡ n
  -- from the client to an in proxy, and from there to the server
  pub near : (m n : ℕ) → IsPrefix (heard_on (client_leg n) (ins m))
      (end_drawn_on client.rules client.acts (client.first_client config) (client_leg n)
      client_events)
  pub far : (m : ℕ) → IsPrefix (heard_on (server_leg m) (happened server_events))
      (drawn_on proxy.rules (proxy.first_node (in_config m)) (server_leg m) (ins m))
  pub readers : AreReaders ins made reader
  -- what was put reads back
  pub client_legible : AreLegible client_legible.pipe_put giver.passage.passage.put
  pub proxies_legible : (n : ℕ) → AreLegible proxy_legible.pipe_put (proxies n).passage.put
