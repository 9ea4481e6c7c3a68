use Rattle.law_order.proofs.Vocabulary.{ℕ, ap, ◌∙◌, subst, IsPrefix}
use Rattle.rh_line.specs.declared.cause.Cause.TheVariants as cause
use Rattle.rh_inproxy.specs.Machine as in_proxy
use Rattle.rh_inproxy.specs.State as in_state
use Rattle.rh_outproxy.specs.Machine as out_proxy
use Rattle.rh_client.specs.Client as client
use Rattle.rh_client.specs.State as client_state
use Rattle.rh_server.specs.Servers as server
use Rattle.law_moves.proofs.Vocabulary.{Dir, Leg, Shell}
use Rattle.law_role_inproxy.proofs.Vocabulary.{InProxy}
use Rattle.law_role_client.proofs.Vocabulary.{ClientRole}
use Rattle.law_role_server.proofs.Vocabulary.{Server}
use Rattle.law_node_history.proofs.Vocabulary.{receiver, sender, at, AreAccepted, AreAcceptedAtEnd, ComesUpOnce, ComesUpOnceAtEnd, drawn_by, end_node, events_of, heard_on, IsFed, noted}
use Rattle.law_role_outproxy.proofs.Vocabulary.{ROOMS, OutProxy, new_proxy}
use Rattle.law_node_begins.specs.ProxiesBegin.Pipes as pipes
use Rattle.law_node_traces.proofs.Vocabulary.{deeds, rules, history_at}
use Rattle.law_peers_routes.specs.Downwards as down
use Rattle.law_world_honest.proofs.Honesty.Closing.{EachComes, by_fed}
use Rattle.law_world_bodies.proofs.Lifetimes.{EachDrew, response_none}
use Rattle.law_world_bodies.proofs.Fits.{whole_requests}
use Rattle.law_world_bodies.proofs.Sent.{EachOver, keeps_put, sent_closes}
use Rattle.law_world_bodies.proofs.worlds.no_change_closes_a_node_for_a_long_body.Goals as goal

pub returns : goal.returns
returns g c = λ m w new ours ranges port v by change node named count told may is.
    let known = c.a_recording_of_roles_is_known.ensures.changes m w v new ours by.leads in
    let h = history_at m w v by.leads in
    let flowing = c.what_is_put_is_legible.ensures m w new ours ranges v by in
    let why = cause.BodyOver named count told in
    let each : EachOver ours.config = record {
      puts = c.what_a_client_puts_keeps_its_lengths.ensures.sized ours.config;
      whole =
          whole_requests c.texts_are_whole.ensures.in_request
          c.texts_are_whole.ensures.out_request ours.config;
      in_takes = λ leg text n length.
          c.heads_are_taken_by_their_lengths.ensures.in_proxy ours.config leg text n length
          ranges.client port;
      out_takes = λ leg text n length.
          c.heads_are_taken_by_their_lengths.ensures.out_proxy ours.config leg text n length port;
      client_takes = c.heads_are_taken_by_their_lengths.ensures.client;
      server_takes = c.heads_are_taken_by_their_lengths.ensures.server;
    } in
    let comes : EachComes = record {
      client = c.causes_come_from_their_events.ensures;
      server = c.causes_come_from_their_events-2.ensures;
      ins = c.causes_come_from_their_events-3.ensures;
      outs = c.causes_come_from_their_events-4.ensures;
    } in
    let drew_law : EachDrew = record {
      read = c.what_was_put_is_read.ensures;
      refuses = c.a_proxy_refuses_for_a_reason.ensures.out_proxy;
    } in
    let drew = λ (leg : Leg) (dir : Dir).
    subst (λ (k : g.row.K.Denot).
    IsPrefix (heard_on leg (events_of h (end_node v.readers leg (receiver dir))))
    (drawn_by rules m deeds w.company k h (end_node v.readers leg (sender dir)) leg)) flowing.cast
    (c.what_is_heard_was_drawn.ensures rules m deeds w.company v h known.traced leg dir) in
    let made_in = λ (n : ℕ). ap (λ (k : g.row.K.Denot). m.in_proxy k n) flowing.cast ∙ ours.ins n in
    let made_out = λ (n : ℕ).
    ap (λ (k : g.row.K.Denot). m.out_proxy k n) flowing.cast ∙ ours.outs n in
    by_fed v node why ⊥ (λ leg dir fed_count fed closes.
    sent_closes m w v ours each h known.traced flowing
    (response_none m w v ours h flowing drew_law drew
    (keeps_put m w v ours each h known.traced flowing) ranges.outs)
    (c.what_an_end_counts_came_behind_a_head.ensures.over (client_state.first ours.config)
    client.rooms down.client_reads h.client c.an_end_never_refuses.ensures.client_pipes
    c.an_end_never_refuses.ensures.client
    (c.a_leg_that_a_client_left_stays_unused.ensures.calls ours.config)
    (subst (λ (s : Shell ClientRole). ComesUpOnceAtEnd client.rules client.acts s) ours.client
    known.once.client)
    (subst (λ (s : Shell ClientRole). AreAcceptedAtEnd client.rules client.acts s h.client)
    ours.client known.traced.accepted.client) known.in_turn.client)
    (c.what_an_end_counts_came_behind_a_head-2.ensures.over (server.first ours.window)
    server.rooms down.server_reads h.server c.an_end_never_refuses.ensures.server_pipes
    c.an_end_never_refuses.ensures.server
    (c.a_leg_that_a_server_left_stays_unused.ensures.calls ours.window)
    (subst (λ (s : Shell Server). ComesUpOnceAtEnd server.rules server.acts s) ours.server
    known.once.server)
    (subst (λ (s : Shell Server). AreAcceptedAtEnd server.rules server.acts s h.server)
    ours.server known.traced.accepted.server) known.in_turn.server)
    (λ n.
    c.what_a_node_counts_came_behind_a_head.ensures.over (in_state.first (ours.in_config n))
    in_proxy.rooms (pipes.in_pipe (ours.in_config n)) (h.ins n)
    (c.proxies_keep_their_pipes.ensures.in_proxy (ours.in_config n))
    (c.a_leg_that_an_in_proxy_left_stays_unused.ensures (ours.in_config n))
    (subst (λ (s : Shell InProxy). ComesUpOnce in_proxy.rules s) (made_in n) (known.once.ins n))
    (subst (λ (s : Shell InProxy). AreAccepted in_proxy.rules s (h.ins n)) (made_in n)
    (known.traced.accepted.ins n)) (known.in_turn.ins n))
    (λ n.
    c.what_a_node_counts_came_behind_a_head-2.ensures.over (new_proxy (ours.out_config n)) ROOMS
    (pipes.out_pipe (ours.out_config n)) (h.outs n)
    (c.proxies_keep_their_pipes.ensures.out_proxy (ours.out_config n))
    (c.a_leg_that_an_out_proxy_left_stays_unused.ensures (ours.out_config n))
    (subst (λ (s : Shell OutProxy). ComesUpOnce out_proxy.rules s) (made_out n)
    (known.once.outs n))
    (subst (λ (s : Shell OutProxy). AreAccepted out_proxy.rules s (h.outs n)) (made_out n)
    (known.traced.accepted.outs n)) (known.in_turn.outs n))
    leg dir fed_count
    (subst (λ (k : g.row.K.Denot).
    IsPrefix (heard_on leg (events_of (noted v h (IsFed leg dir fed_count))
    (at v leg (receiver dir))))
    (drawn_by rules m deeds w.company k h (end_node v.readers leg (sender dir)) leg)) flowing.cast
    (c.what_is_heard_was_drawn_before.ensures rules m deeds w.company v h known.traced known.once
    (IsFed leg dir fed_count) fed leg dir))
    named count told node closes) comes change may is (λ S rules shell from. from)
