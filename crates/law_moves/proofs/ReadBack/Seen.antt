-- what order sees of messages that came
use Rattle.law_order.proofs.Vocabulary.{◌≡◌, List, [], ◌∷◌, ◌++◌, refl, sym, ap, ◌∙◌, IsPrefix, Item, seen}
use Rattle.law_moves.proofs.Vocabulary.{seen-append, Message, all_read_of, read_of}

-- of a front of messages a front is seen
pub seen_front : (view : Message → List Item) (a b : List Message) → IsPrefix a b
    → IsPrefix (seen view a) (seen view b)
seen_front view a b p = (seen view p.0, sym (seen-append view a p.0) ∙ ap (seen view) p.1)

-- of what messages are read as just that is seen
pub seen_read : (put_view came_view : Message → List Item)
    → ((message : Message) → seen came_view (read_of message) ≡ put_view message)
    → (put : List Message) → seen came_view (all_read_of put) ≡ seen put_view put
seen_read put_view came_view same [] = refl
seen_read put_view came_view same (message ∷ put) =
    seen-append came_view (read_of message) (all_read_of put)
    ∙ ap (λ (items : List Item). items ++ seen came_view (all_read_of put)) (same message)
    ∙ ap (λ (items : List Item). put_view message ++ items)
    (seen_read put_view came_view same put)
