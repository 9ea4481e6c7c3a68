use Rattle.law_moves.proofs.Vocabulary.{all_moved, started, of_leg}
use Rattle.law_role_outproxy.proofs.Vocabulary.{rules, new_proxy, co_leg, os_leg}
use Rattle.law_peers_expects.proofs.Asked.Served.{serves}
use Rattle.law_peers_expects.proofs.Asked.Serving.{puts_no_echo}
use Rattle.law_peers_expects.proofs.requests.echoes.an_out_proxy_answers_echoes_alone.Goals as goal

pub returns : goal.returns
returns c = λ config moves may counted turn asks.
    let p = all_moved rules (started (new_proxy config)) moves in
    serves config (of_leg (co_leg config.number) p.came) (of_leg (os_leg config.number) p.came)
    (co_leg config.number) p.put
    (puts_no_echo c.texts_are_whole.ensures.response config moves turn asks)
    (c.an_out_proxy_opens_to_its_client_in_order.ensures config moves may counted turn)
