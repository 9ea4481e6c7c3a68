-- each role's line is sound at a node of a history
use Rattle.law_order.proofs.Vocabulary.{ℕ, refl, subst}
use Rattle.rh_inproxy.specs.Machine as in_proxy
use Rattle.rh_inproxy.specs.State as in_state
use Rattle.rh_outproxy.specs.Machine as out_proxy
use Rattle.rh_client.specs.Client as client
use Rattle.rh_client.specs.State as client_state
use Rattle.rh_server.specs.Servers as server
use Rattle.law_moves.proofs.Vocabulary.{ClientConfig, EndLeads, EndPassage, IsWindow, Leads, Passage, end_started, started}
use Rattle.rh_line.specs.Lines.{IsLine}
use Rattle.law_role_inproxy.proofs.Vocabulary.{InProxy, InProxyConfig}
use Rattle.law_role_client.proofs.Vocabulary.{ClientRole}
use Rattle.law_role_server.proofs.Vocabulary.{Server}
use Rattle.law_role_outproxy.proofs.Vocabulary.{OutProxy, OutProxyConfig, new_proxy}
use Rattle.law_role_windows.proofs.Held.Lines.{first_kept}
use Rattle.law_role_windows.proofs.Held.Roles.{end_moves_keep, moves_keep}
use Rattle.law_role_windows.proofs.Held.ClientLine as client_line
use Rattle.law_role_windows.proofs.Held.InProxyLine as in_line
use Rattle.law_role_windows.proofs.Held.OutProxyLine as out_line
use Rattle.law_role_windows.proofs.Held.ServerLine as server_line

pub client_sound : (config : ClientConfig) (p : EndPassage ClientRole) → IsWindow config.window
    → EndLeads client.rules client.acts (end_started (client_state.first config)) p
    → IsLine p.passage.role.line
client_sound config p is leads =
    subst (λ (q : EndPassage ClientRole). IsLine q.passage.role.line) leads.reached
    (end_moves_keep client.rules (client_line.Kept config.window)
    (client_line.client_keeps config.window) client.acts
    (client_line.client_calls_keep config.window) (client_state.first config) leads.moves
    leads.allowed (first_kept config.window is)).sound

pub server_sound : (window : ℕ) (p : EndPassage Server) → IsWindow window
    → EndLeads server.rules server.acts (end_started (server.first window)) p
    → IsLine p.passage.role.line
server_sound window p is leads =
    subst (λ (q : EndPassage Server). IsLine q.passage.role.line) leads.reached
    (end_moves_keep server.rules (server_line.Kept window) (server_line.server_keeps window)
    server.acts (server_line.server_calls_keep window) (server.first window) leads.moves
    leads.allowed
    (record { kept = first_kept window is; shut = λ e. absurd cc; next = refl })).kept.sound

pub in_sound : (config : InProxyConfig) (p : Passage InProxy) → IsWindow config.window
    → Leads in_proxy.rules (started (in_state.first config)) p → IsLine p.role.line
in_sound config p is leads =
    subst (λ (q : Passage InProxy). IsLine q.role.line) leads.reached
    (moves_keep in_proxy.rules (in_line.Kept config.window)
    (in_line.in_proxy_keeps config.window) (in_state.first config) leads.moves leads.allowed
    (record { kept = first_kept config.window is; there = refl })).kept.sound

pub out_sound : (config : OutProxyConfig) (p : Passage OutProxy) → IsWindow config.window
    → Leads out_proxy.rules (started (new_proxy config)) p → IsLine p.role.line
out_sound config p is leads =
    subst (λ (q : Passage OutProxy). IsLine q.role.line) leads.reached
    (moves_keep out_proxy.rules (out_line.Kept config.window)
    (out_line.out_proxy_keeps config.window) (new_proxy config) leads.moves leads.allowed
    (first_kept config.window is)).sound
