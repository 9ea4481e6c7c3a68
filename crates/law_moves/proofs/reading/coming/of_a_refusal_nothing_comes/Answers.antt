use Rattle.law_order.proofs.Vocabulary.{ap, ◌∙◌, seen}
use Rattle.law_moves.proofs.Vocabulary.{nil_front, prefix_trans}
use Rattle.law_moves.proofs.reading.coming.of_a_refusal_nothing_comes.Goals as goal

pub returns : goal.returns
returns c = λ came_view pipe came text drawn heard nothing p q r.
    ap (seen came_view)
    (nil_front came r.0 (r.1 ∙ nothing heard (prefix_trans heard drawn text q p)))
