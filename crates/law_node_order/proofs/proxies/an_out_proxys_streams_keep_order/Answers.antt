use Rattle.rh_outproxy.specs.Machine as out_proxy
use Rattle.law_moves.proofs.Vocabulary.{begun}
use Rattle.law_role_outproxy.proofs.Vocabulary.{ROOMS, came_log, new_proxy, passer_of, put_items}
use Rattle.law_node_traces.proofs.Traced.Remembering.{comes_up_once, out_wanted}
use Rattle.law_node_begins.specs.ProxiesBegin.Pipes.{out_pipe}
use Rattle.law_node_order.proofs.Back.{out_back}
use Rattle.law_node_order.proofs.Joining.{through}
use Rattle.law_node_order.proofs.Sides.{out_refuses, out_sees}
use Rattle.law_node_order.specs.Sides.{out_feed}
use Rattle.law_node_order.proofs.proxies.an_out_proxys_streams_keep_order.Goals as goal

pub returns : goal.returns
returns c config events =
    let first = new_proxy config in
    through out_proxy.rules first ROOMS (out_pipe config) out_feed config.number
    (put_items config.number) came_log out_sees passer_of
    (c.an_out_proxy_keeps_order.ensures config) (out_back config)
    (out_refuses config (c.an_out_proxy_refuses_first.ensures.client config)
    (λ leg e.
    c.what_refuses_first_refuses_in_turn.ensures first (out_pipe config) leg
    (c.an_out_proxy_refuses_first.ensures.elsewhere config leg e)))
    (λ some accepted turn.
    c.a_nodes_stream.ensures first ROOMS (out_pipe config) some
    (c.proxies_keep_their_pipes.ensures.out_proxy config)
    (c.a_leg_that_an_out_proxy_left_stays_unused.ensures config)
    (comes_up_once out_proxy.rules (begun first ROOMS) out_wanted
    (c.an_out_proxys_leg_comes_up_once.ensures.comes config)
    (c.an_out_proxys_leg_comes_up_once.ensures.once config))
    accepted turn)
    events
