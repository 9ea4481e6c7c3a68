-- the streams of nodes, and where the handover mark or END passed
use Rattle.law_order.proofs.Vocabulary.{◌≡◌, ◌||◌, ℕ, true, has_end, below}
use Rattle.rh_inproxy.specs.Machine as in_proxy
use Rattle.rh_inproxy.specs.State as in_state
use Rattle.rh_outproxy.specs.Machine as out_proxy
use Rattle.rh_client.specs.Client as client
use Rattle.rh_client.specs.State as client_state
use Rattle.rh_server.specs.Servers as server
use Rattle.law_moves.proofs.Vocabulary.{EndPassage, Passage}
use Rattle.law_role_inproxy.proofs.Vocabulary.{InProxy}
use Rattle.law_role_inproxy.specs.Order as in_order
use Rattle.law_role_client.proofs.Vocabulary.{ClientRole}
use Rattle.law_role_client.specs.Order as client_order
use Rattle.law_role_server.proofs.Vocabulary.{Server}
use Rattle.law_role_server.specs.Order as server_order
use Rattle.law_node_history.proofs.Vocabulary.{History}
use Rattle.law_role_outproxy.proofs.Vocabulary.{ROOMS, OutProxy, new_proxy}
use Rattle.law_role_outproxy.specs.Order as out_order
use Rattle.law_node_streams.specs.Streams.{EndStream, Stream}
use Rattle.law_node_begins.specs.ProxiesBegin.Pipes.{in_pipe}
use Rattle.law_peers_routes.specs.Downwards.{client_reads, proxy_reads, server_reads}
use Rattle.law_world_order.proofs.Vocabulary.{Numbers}
use Rattle.law_world_ways.specs.OnPaths.Legs.{has_passed}

-- the streams of the nodes
abbrev pub ClientStream : Numbers → History → Type 0
ClientStream numbers h =
    EndStream client.rules client.acts (client_state.first numbers.client) client.rooms
    client_reads h.client

abbrev pub ServerStream : Numbers → History → Type 0
ServerStream numbers h =
    EndStream server.rules server.acts (server.first numbers.window) server.rooms server_reads
    h.server

abbrev pub InStream : Numbers → History → ℕ → Type 0
InStream numbers h n =
    Stream in_proxy.rules (in_state.first (numbers.ins n)) in_proxy.rooms
    (in_pipe (numbers.ins n)) (h.ins n)

abbrev pub OutStream : Numbers → History → ℕ → Type 0
OutStream numbers h n =
    Stream out_proxy.rules (new_proxy (numbers.outs n)) ROOMS (proxy_reads (numbers.outs n))
    (h.outs n)

-- where the handover mark or END came on a leg, or for an in proxy END on a channel below
abbrev pub os_passed : Passage OutProxy → ℕ → Type 0
os_passed p n = has_passed (out_order.came_log p.came n) ≡ true

abbrev pub co_passed : EndPassage ClientRole → ℕ → Type 0
co_passed p n = has_passed (client_order.came_log p.passage.came n) ≡ true

abbrev pub ci_passed : Passage InProxy → ℕ → Type 0
ci_passed p n =
    (has_passed (in_order.came_log p.came n) || has_end (below (in_order.came_log p.came) n))
    ≡ true

abbrev pub is_passed : EndPassage Server → ℕ → Type 0
is_passed p n = has_passed (server_order.got p n) ≡ true
