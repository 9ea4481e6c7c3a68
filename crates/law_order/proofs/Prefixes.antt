-- laws of prefixes
use Rattle.law_order.proofs.Vocabulary.{◌≡◌, List, [], ◌++◌, refl, sym, ap, ◌∙◌, append_assoc, append-nil, append_cancel_left, IsPrefix, Item, pdus}
use Rattle.law_order.proofs.ItemLists.{pdus-append, nil_front}

pub prefix_self : {X : Type 0} (a : List X) → IsPrefix a a
prefix_self a = ([], append-nil a)

pub prefix_more : {X : Type 0} (a b : List X) → IsPrefix a (a ++ b)
prefix_more a b = (b, refl)

pub prefix_trans : {X : Type 0} (a b c : List X) → IsPrefix a b → IsPrefix b c → IsPrefix a c
prefix_trans a b c p q =
    (p.0 ++ q.0, sym (append_assoc a p.0 q.0) ∙ rw p.1 q.1)

pub prefix_pdus : (a b : List Item) → IsPrefix a b → IsPrefix (pdus a) (pdus b)
prefix_pdus a b p = (pdus p.0, sym (pdus-append a p.0) ∙ ap pdus p.1)

-- the same lists ahead
pub prefix_behind : {X : Type 0} (a b c : List X) → IsPrefix b c → IsPrefix (a ++ b) (a ++ c)
prefix_behind a b c p = (p.0, append_assoc a b p.0 ∙ ap (λ x. a ++ x) p.1)

pub nothing_more : {X : Type 0} (a b : List X) → a ≡ a ++ b → b ≡ []
nothing_more a b e = append_cancel_left a b [] (sym e ∙ sym (append-nil a))

-- prefixes of one another are the same
pub prefix_both : {X : Type 0} (a b : List X) → IsPrefix a b → IsPrefix b a → a ≡ b
prefix_both a b p q =
    let none = nothing_more a (p.0 ++ q.0) (sym q.1 ∙ rw (sym p.1) (append_assoc a p.0 q.0)) in
    sym (append-nil a) ∙ rw (sym (nil_front p.0 q.0 none)) p.1
