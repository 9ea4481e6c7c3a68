-- what a node put on a leg that came up and is in use no more: its handover mark or END
use Rattle.law_order.proofs.Vocabulary.{◌≡◌, ◌≤◌, ◌<◌, ℕ, List, true, false, sym, ap, ◌∙◌, subst, AllByRecursion, list_any}
use Rattle.rh_inproxy.specs.Machine as in_proxy
use Rattle.rh_inproxy.specs.State as in_state
use Rattle.rh_outproxy.specs.Machine as out_proxy
use Rattle.rh_client.specs.Client as client
use Rattle.rh_client.specs.State as client_state
use Rattle.rh_server.specs.Servers as server
use Rattle.law_moves.proofs.Vocabulary.{ClientConfig, Leg, begun, AreAllowed, AreAllowedAtEnd, EndMove, EndPassage, Move, Passage, all_moved, end_started, is_at_work, is_in_use, started, EndEvent, Event, after_end_events, after_events}
use Rattle.law_role_inproxy.proofs.Vocabulary.{InProxyConfig, InProxy}
use Rattle.law_role_inproxy.specs.Order as in_order
use Rattle.law_role_client.proofs.Vocabulary.{ClientRole, AreAllowedMoves, client_moved, put_log}
use Rattle.law_role_server.proofs.Vocabulary.{Server, sent}
use Rattle.law_node_history.proofs.Vocabulary.{came_up, happened}
use Rattle.law_role_outproxy.proofs.Vocabulary.{ROOMS, OutProxyConfig, OutProxy, new_proxy}
use Rattle.law_role_outproxy.specs.Order as out_order
use Rattle.law_node_streams.specs.Streams.{EndStream, Stream, is_end_up_on}
use Rattle.law_node_ends.specs.Passed.{AsksNoEcho, HeadsAre, IsDoneBehindEnd}
use Rattle.law_node_begins.specs.ProxiesBegin.Pipes.{ci, co, in_pipe, is, os}
use Rattle.law_peers_routes.proofs.Upwards.Laws.{server_moved as moved_by}
use Rattle.law_peers_routes.specs.Downwards.{client_reads, proxy_reads, server_reads}
use Rattle.law_world_ways.specs.OnPaths.Legs.{has_passed}

-- ---- a client

abbrev pub ClientMarks : Type 0
ClientMarks =
    (config : ClientConfig) (moves : List EndMove) → AreAllowedMoves config moves
    → (let p = client_moved config moves in (n : ℕ)
    → list_any (is_end_up_on (ci n)) moves ≡ true
    → IsDoneBehindEnd client.rules p.passage.role (ci n) (put_log p.passage.put n))

pub client_puts : ClientMarks → (config : ClientConfig) (n : ℕ) (events : List EndEvent)
    → (s : EndStream client.rules client.acts (client_state.first config) client.rooms
    client_reads events)
    → came_up (ci n) (happened events) ≡ true
    → is_in_use client.rules
    (after_end_events client.rules client.acts (client.first_client config) events).role (ci n)
    ≡ false
    → has_passed (put_log s.passage.passage.put n) ≡ true
client_puts law config n events s up unused =
    subst (λ (p : EndPassage ClientRole). IsDoneBehindEnd client.rules p.passage.role (ci n)
    (put_log p.passage.put n)) s.leads.reached
    (law config s.leads.moves s.leads.allowed n (s.ups (ci n) ∙ up))
    (ap (λ (r : ClientRole). is_in_use client.rules r (ci n)) s.role ∙ unused)

-- ---- a server

-- up to the writing channel
abbrev pub ServerMarks : Type 0
ServerMarks =
    (window : ℕ) (moves : List EndMove)
    → AreAllowedAtEnd server.rules server.acts (end_started (server.first window)) moves
    → (let p = moved_by window moves in (n : ℕ) → n ≤ p.passage.role.writing
    → list_any (is_end_up_on (os n)) moves ≡ true
    → IsDoneBehindEnd server.rules p.passage.role (os n) (sent p n))

-- behind it a leg is of use while the work is not done
abbrev pub ServerUses : Type 0
ServerUses =
    (window : ℕ) (moves : List EndMove)
    → AreAllowedAtEnd server.rules server.acts (end_started (server.first window)) moves
    → (let p = moved_by window moves in (n : ℕ) → p.passage.role.writing < n
    → list_any (is_end_up_on (os n)) moves ≡ true
    → is_at_work server.rules p.passage.role ≡ true
    → is_in_use server.rules p.passage.role (os n) ≡ true)

module _ (window n : ℕ) (events : List EndEvent)
    (s : EndStream server.rules server.acts (server.first window) server.rooms server_reads
    events) (up : came_up (os n) (happened events) ≡ true) where
  abbrev node : Server
  node = (after_end_events server.rules server.acts (server.new_server window) events).role

  pub server_puts : ServerMarks → n ≤ node.writing
      → is_in_use server.rules node (os n) ≡ false → has_passed (sent s.passage n) ≡ true
  server_puts law within unused =
      subst (λ (p : EndPassage Server). n ≤ p.passage.role.writing
      → IsDoneBehindEnd server.rules p.passage.role (os n) (sent p n)) s.leads.reached
      (λ low. law window s.leads.moves s.leads.allowed n low (s.ups (os n) ∙ up))
      (subst (λ (r : Server). n ≤ r.writing) (sym s.role) within)
      (ap (λ (r : Server). is_in_use server.rules r (os n)) s.role ∙ unused)

  pub server_uses : ServerUses → node.writing < n → is_at_work server.rules node ≡ true
      → is_in_use server.rules node (os n) ≡ true
  server_uses law behind work =
      subst (λ (r : Server). r.writing < n → is_at_work server.rules r ≡ true
      → is_in_use server.rules r (os n) ≡ true) s.role
      (subst (λ (p : EndPassage Server). p.passage.role.writing < n
      → is_at_work server.rules p.passage.role ≡ true
      → is_in_use server.rules p.passage.role (os n) ≡ true) s.leads.reached
      (λ above. law window s.leads.moves s.leads.allowed n above (s.ups (os n) ∙ up)))
      behind work

-- ---- an in proxy

abbrev pub InMarks : Type 0
InMarks =
    (config : InProxyConfig) (moves : List Move)
    → AreAllowed in_proxy.rules (started (in_state.first config)) moves
    → AllByRecursion (HeadsAre (AsksNoEcho true)) moves
    → (let p = all_moved in_proxy.rules (started (in_state.first config)) moves in (n : ℕ)
    → IsDoneBehindEnd in_proxy.rules p.role (is n) (in_order.put_items p.put))

pub in_puts : InMarks → (config : InProxyConfig) (n : ℕ) (events : List Event)
    → (s : Stream in_proxy.rules (in_state.first config) in_proxy.rooms (in_pipe config) events)
    → AllByRecursion (HeadsAre (AsksNoEcho true)) s.leads.moves
    → is_in_use in_proxy.rules
    (after_events in_proxy.rules (in_proxy.first_node config) events).role (is n) ≡ false
    → has_passed (in_order.put_items s.passage.put) ≡ true
in_puts law config n events s heads unused =
    subst (λ (p : Passage InProxy). IsDoneBehindEnd in_proxy.rules p.role (is n)
    (in_order.put_items p.put)) s.leads.reached
    (law config s.leads.moves s.leads.allowed heads n)
    (ap (λ (r : InProxy). is_in_use in_proxy.rules r (is n)) s.role ∙ unused)

-- ---- an out proxy

abbrev pub OutMarks : Type 0
OutMarks =
    (config : OutProxyConfig) (moves : List Move)
    → AreAllowed out_proxy.rules (started (new_proxy config)) moves
    → AllByRecursion (HeadsAre (AsksNoEcho false)) moves
    → (let p = all_moved out_proxy.rules (started (new_proxy config)) moves in (leg : Leg)
    → IsDoneBehindEnd out_proxy.rules p.role leg (out_order.put_items config.number p.put))

pub out_puts : OutMarks → (config : OutProxyConfig) (n : ℕ) → config.number ≡ n
    → (events : List Event)
    → (s : Stream out_proxy.rules (new_proxy config) ROOMS (proxy_reads config) events)
    → AllByRecursion (HeadsAre (AsksNoEcho false)) s.leads.moves
    → is_in_use out_proxy.rules
    (after_events out_proxy.rules (begun (new_proxy config) ROOMS) events).role (co n) ≡ false
    → has_passed (out_order.put_items n s.passage.put) ≡ true
out_puts law config n number events s heads unused =
    subst (λ (k : ℕ). has_passed (out_order.put_items k s.passage.put) ≡ true) number
    (subst (λ (p : Passage OutProxy). IsDoneBehindEnd out_proxy.rules p.role (co n)
    (out_order.put_items config.number p.put)) s.leads.reached
    (law config s.leads.moves s.leads.allowed heads (co n))
    (ap (λ (r : OutProxy). is_in_use out_proxy.rules r (co n)) s.role ∙ unused))
