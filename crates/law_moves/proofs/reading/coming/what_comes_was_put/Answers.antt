use Rattle.law_order.proofs.Vocabulary.{List, refl, subst, IsPrefix, Item, seen}
use Rattle.law_moves.proofs.Vocabulary.{prefix_trans, first_stage, spelled, all_read_of, messages_read}
use Rattle.law_moves.proofs.ReadBack.Puts.{put_read}
use Rattle.law_moves.proofs.ReadBack.Seen.{seen_front, seen_read}
use Rattle.law_moves.proofs.reading.coming.what_comes_was_put.Goals as goal

pub returns : goal.returns
returns c = λ put_view came_view same pipe put came drawn heard begins back p q r.
    let read = put_read pipe (first_stage pipe) put refl begins back heard
    (prefix_trans heard drawn (spelled put) q p) in
    subst (λ (items : List Item). IsPrefix (seen came_view came) items)
    (seen_read put_view came_view same put)
    (seen_front came_view came (all_read_of put)
    (prefix_trans came (messages_read pipe heard) (all_read_of put) r read))
