use Rattle.law_moves.proofs.Vocabulary.{all_moved, started}
use Rattle.law_role_inproxy.proofs.Vocabulary.{rules, first}
use Rattle.law_role_inproxy.proofs.Putting.Ends.{ends_last}
use Rattle.law_role_inproxy.proofs.puts.an_in_proxy_ends_last.Goals as goal

pub returns : goal.returns
returns c = λ config moves allowed.
    ends_last config.number (all_moved rules (started (first config)) moves).put
    (c.an_in_proxy_keeps_order.ensures config moves allowed).channel
