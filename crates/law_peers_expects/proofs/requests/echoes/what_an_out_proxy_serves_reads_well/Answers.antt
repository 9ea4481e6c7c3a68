use Rattle.law_order.proofs.Vocabulary.{refl, Some}
use Rattle.law_moves.proofs.Vocabulary.{CoD, response_text, all_moved, started, of_leg}
use Rattle.law_role_outproxy.proofs.Vocabulary.{rules, new_proxy, co_leg, os_leg}
use Rattle.law_peers_expects.proofs.Asked.Served.{served_well}
use Rattle.law_peers_expects.proofs.requests.echoes.what_an_out_proxy_serves_reads_well.Goals as goal

pub returns : goal.returns
returns c = λ well config moves may counted turn asks.
    let p = all_moved rules (started (new_proxy config)) moves in
    served_well config well
    (λ n. c.texts_read_well.ensures.head well (Some CoD) (response_text n) refl
    (c.texts_are_whole.ensures.response n))
    (of_leg (co_leg config.number) p.came) (of_leg (os_leg config.number) p.came)
    (of_leg (co_leg config.number) p.put)
    (c.an_out_proxy_answers_echoes_alone.ensures config moves may counted turn asks)
