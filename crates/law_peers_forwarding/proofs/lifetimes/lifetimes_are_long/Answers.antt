use Rattle.law_peers_forwarding.proofs.Told.{are_long}
use Rattle.law_peers_forwarding.proofs.lifetimes.lifetimes_are_long.Goals as goal

pub returns : goal.returns
returns c numbers reader moves moment lifetimes =
    let made = moment.now.made in
    are_long numbers reader moves moment.now lifetimes
    (record {
      ins = λ n.
          c.an_in_proxy_in_turn_puts_in_order.ensures (numbers.ins n) (moves.ins n) (made.ins n)
          (made.ins_turn n);
      outs = λ n.
          c.an_out_proxy_opens_to_the_server_first.ensures (numbers.outs n) (moves.outs n)
          (made.outs n) (made.outs_counted n) (made.outs_turn n);
    })
