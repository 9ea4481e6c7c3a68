use Rattle.rh_inproxy.specs.Machine as in_proxy
use Rattle.rh_inproxy.specs.State as in_state
use Rattle.law_role_inproxy.proofs.Vocabulary.{came_log, passer_of, put_items}
use Rattle.law_node_traces.proofs.Traced.Remembering.{comes_up_once, in_wanted}
use Rattle.law_node_begins.specs.ProxiesBegin.Pipes.{in_pipe}
use Rattle.law_node_order.proofs.Back.{in_back}
use Rattle.law_node_order.proofs.Joining.{through}
use Rattle.law_node_order.proofs.Sides.{in_refuses, in_sees}
use Rattle.law_node_order.specs.Sides.{in_feed}
use Rattle.law_node_order.proofs.proxies.an_in_proxys_streams_keep_order.Goals as goal

pub returns : goal.returns
returns c config events =
    let first = in_state.first config in
    through in_proxy.rules first in_proxy.rooms (in_pipe config) in_feed config.number put_items
    came_log in_sees passer_of (c.an_in_proxy_keeps_order.ensures config) (in_back config)
    (in_refuses config (c.an_in_proxy_refuses_first.ensures.client config)
    (λ leg e.
    c.what_refuses_first_refuses_in_turn.ensures first (in_pipe config) leg
    (c.an_in_proxy_refuses_first.ensures.elsewhere config leg e)))
    (λ some accepted turn.
    c.a_nodes_stream.ensures first in_proxy.rooms (in_pipe config) some
    (c.proxies_keep_their_pipes.ensures.in_proxy config)
    (c.a_leg_that_an_in_proxy_left_stays_unused.ensures config)
    (comes_up_once in_proxy.rules (in_proxy.first_node config) in_wanted
    (c.an_in_proxys_leg_comes_up_once.ensures.comes config)
    (c.an_in_proxys_leg_comes_up_once.ensures.once config))
    accepted turn)
    events
