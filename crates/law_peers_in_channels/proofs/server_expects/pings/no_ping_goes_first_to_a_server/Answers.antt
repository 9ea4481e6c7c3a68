use Rattle.law_order.proofs.Vocabulary.{subst}
use Rattle.law_moves.proofs.Vocabulary.{of_leg}
use Rattle.law_role_inproxy.proofs.Vocabulary.{is_leg}
use Rattle.law_role_outproxy.proofs.Vocabulary.{co_leg, os_leg}
use Rattle.law_peers_moments.specs.Expecting.{HasNoPingFirst}
use Rattle.law_peers_moments.specs.Moments.{in_behind, out_behind}
use Rattle.law_peers_in_channels.proofs.ServerExpects.NoPing.{no_ping_in, no_ping_out}
use Rattle.law_peers_in_channels.proofs.server_expects.pings.no_ping_goes_first_to_a_server.Goals as goal

pub returns : goal.returns
returns c = record {
  outs = λ numbers moves made n.
      let p = out_behind numbers moves n in
      let config = numbers.outs n in
      subst (λ k. HasNoPingFirst (of_leg (os_leg k) p.put)) (made.out_number n)
      (no_ping_out config (of_leg (co_leg config.number) p.came)
      (of_leg (os_leg config.number) p.put)
      (c.an_out_proxy_opens_to_the_server_first.ensures config (moves.outs n) (made.outs n)
      (made.outs_counted n) (made.outs_turn n)));
  ins = λ numbers moves made n.
      let p = in_behind numbers moves n in
      let config = numbers.ins n in
      subst (λ k. HasNoPingFirst (of_leg (is_leg k) p.put)) (made.in_number n)
      (no_ping_in config p.came (of_leg (is_leg config.number) p.put)
      (c.an_in_proxy_in_turn_puts_in_order.ensures config (moves.ins n) (made.ins n)
      (made.ins_turn n)));
}
