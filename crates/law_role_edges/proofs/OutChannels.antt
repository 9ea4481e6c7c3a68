-- of its channel an out proxy tells the server, kind by kind
use Rattle.law_order.proofs.Vocabulary.{◌≡◌, Bool, true, false, ◌&&◌, List, arith, refl}
use Rattle.rh_outproxy.specs.declared.state.Channel.TheVariants as channels
use Rattle.law_moves.proofs.Vocabulary.{Move, started, all_moved, AreAllowed, one_if, is_conn_a1, is_conn_a2, is_out_r1_a3, is_out_r1_a4}
use Rattle.law_role_outproxy.proofs.Vocabulary.{Channel, OutProxyConfig, is_successor, new_proxy, rules as proxy_rules}
use Rattle.law_role_edges.proofs.OutOpens.{opened}
use Rattle.law_role_edges.proofs.OutOwing.{Leads, owed_by}
use Rattle.law_role_edges.specs.Openings.{TellsOfChannel, is_first, is_unbegun}

-- ---- kinds

a1_leads : Leads is_conn_a1 is_conn_a2
a1_leads = grind arith

a3_leads : Leads is_out_r1_a3 is_out_r1_a4
a3_leads = grind arith

first_owes : (unbegun : Bool) (config : OutProxyConfig) (c : Channel)
    → owed_by is_conn_a2 unbegun config c ≡ one_if (unbegun && is_first c)
first_owes false config c = refl
first_owes true config channels.Unknown = refl
first_owes true config (channels.New connection cookie) = refl
first_owes true config (channels.Joined connection cookie) = refl
first_owes true config (channels.Successor connection predecessor cookie) = refl

successor_owes : (unbegun : Bool) (config : OutProxyConfig) (c : Channel)
    → owed_by is_out_r1_a4 unbegun config c ≡ one_if (unbegun && is_successor c)
successor_owes false config c = refl
successor_owes true config channels.Unknown = refl
successor_owes true config (channels.New connection cookie) = refl
successor_owes true config (channels.Joined connection cookie) = refl
successor_owes true config (channels.Successor connection predecessor cookie) = refl

pub out_opens : (config : OutProxyConfig) (moves : List Move)
    → AreAllowed proxy_rules (started (new_proxy config)) moves
    → TellsOfChannel config.number (all_moved proxy_rules (started (new_proxy config)) moves)
out_opens config moves allowed once free =
    let p = all_moved proxy_rules (started (new_proxy config)) moves in
    let first = opened config is_conn_a1 is_conn_a2 a1_leads moves allowed once free in
    let next = opened config is_out_r1_a3 is_out_r1_a4 a3_leads moves allowed once free in
    let begun = first_owes (is_unbegun p.role.server) p.role.config p.role.channel in
    let later = successor_owes (is_unbegun p.role.server) p.role.config p.role.channel in
    record { connection = omega (arith, first, begun); successor = omega (arith, next, later) }
