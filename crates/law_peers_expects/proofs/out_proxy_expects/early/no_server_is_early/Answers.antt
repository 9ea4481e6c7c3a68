use Rattle.law_order.proofs.Vocabulary.{ℕ, subst}
use Rattle.law_moves.proofs.Vocabulary.{of_leg}
use Rattle.law_role_outproxy.proofs.Vocabulary.{co_leg, os_leg, IsToServer}
use Rattle.law_peers_moments.specs.Moments.{out_behind, passages}
use Rattle.law_peers_expects.proofs.OutProxyExpects.NotEarly.{Laws, has_room, no_acks, see_to_it, server_leaves}
use Rattle.law_peers_expects.proofs.out_proxy_expects.early.no_server_is_early.Goals as goal

pub returns-clause-acks : goal.returns-clause-acks
returns-clause-acks c = λ numbers reader moves joined none to.
    no_acks reader (passages numbers moves) joined.joined
    (see_to_it laws numbers moves joined.made) none to
  where
    laws : Laws
    laws = record {
      client = c.a_client_opens_once.ensures;
      ins = c.an_in_proxy_puts_quietly.ensures;
      outs = c.an_out_proxy_forwards_what_came.ensures;
    }

pub returns-clause-room : goal.returns-clause-room
returns-clause-room c = λ numbers reader moves joined lifetimes none.
    has_room reader (passages numbers moves) joined.joined
    (see_to_it laws numbers moves joined.made) none
    (λ n.
    let made = joined.made in
    let p = out_behind numbers moves n in
    server_leaves (numbers.outs n) (lifetimes n) (of_leg (co_leg n) p.came)
    (of_leg (os_leg n) p.put)
    (subst (λ (k : ℕ).
    IsToServer (numbers.outs n) (of_leg (co_leg k) p.came) (of_leg (os_leg k) p.put))
    (made.out_number n)
    (c.an_out_proxy_opens_to_the_server_first.ensures (numbers.outs n) (moves.outs n)
    (made.outs n) (made.outs_counted n) (made.outs_turn n))))
  where
    laws : Laws
    laws = record {
      client = c.a_client_opens_once.ensures;
      ins = c.an_in_proxy_puts_quietly.ensures;
      outs = c.an_out_proxy_forwards_what_came.ensures;
    }
