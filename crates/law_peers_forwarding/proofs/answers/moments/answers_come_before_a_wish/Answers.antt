use Rattle.law_order.proofs.Vocabulary.{ℕ, subst}
use Rattle.law_peers_moments.specs.Moments.{out_behind, passages}
use Rattle.law_peers_forwarding.proofs.Answering.OnTheWay.{come_before}
use Rattle.law_peers_forwarding.proofs.answers.moments.answers_come_before_a_wish.Goals as goal
use Rattle.law_peers_forwarding.specs.Answering.Passing.{AnswersKeepBefore}

pub returns : goal.returns
returns c numbers reader moves made joined =
    come_before reader (passages numbers moves) joined
    (λ n. subst (λ (k : ℕ). AnswersKeepBefore k (out_behind numbers moves n)) (made.out_number n)
    (c.an_out_proxy_keeps_answers_before_a_wish.ensures (numbers.outs n) (moves.outs n)
    (made.outs n)))
