use Rattle.law_order.proofs.Vocabulary.{true, false}
use Rattle.rh_inproxy.specs.Machine as in_proxy
use Rattle.rh_inproxy.specs.State as in_state
use Rattle.rh_outproxy.specs.Machine as out_proxy
use Rattle.law_node_history.proofs.Vocabulary.{heard_on}
use Rattle.law_role_outproxy.proofs.Vocabulary.{new_proxy}
use Rattle.law_node_begins.specs.ProxiesBegin.Pipes.{in_pipe, out_pipe}
use Rattle.law_node_traces.proofs.Vocabulary.{history_at}
use Rattle.law_world_ways.proofs.ExactWays.HeadTexts.{no_echoes}
use Rattle.law_world_ways.proofs.exact_ways.heads.no_head_that_comes_asks_for_an_echo.Goals as goal

pub returns : goal.returns
returns g c = record {
  ins = λ m w new ours ranges port v by n stream.
      no_echoes in_proxy.rules (in_state.first (ours.in_config n)) (in_pipe (ours.in_config n))
      (c.proxies_keep_their_pipes.ensures.in_proxy (ours.in_config n)) true
      (λ leg. heard_on leg ((history_at m w v by.leads).ins n))
      (c.no_bytes_that_come_ask_for_an_echo.ensures.ins m w new ours ranges port v by n)
      stream.leads.moves stream.leads.allowed stream.in_turn stream.heads;
  outs = λ m w new ours ranges port v by n stream.
      no_echoes out_proxy.rules (new_proxy (ours.out_config n)) (out_pipe (ours.out_config n))
      (c.proxies_keep_their_pipes.ensures.out_proxy (ours.out_config n)) false
      (λ leg. heard_on leg ((history_at m w v by.leads).outs n))
      (c.no_bytes_that_come_ask_for_an_echo.ensures.outs m w new ours ranges port v by n)
      stream.leads.moves stream.leads.allowed stream.in_turn stream.heads;
}
