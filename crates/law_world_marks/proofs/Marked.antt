-- handover marks and END among items, and among those of a longer list
use Rattle.law_order.proofs.Vocabulary.{◌≡◌, ◌⊎◌, inl, inr, ◌||◌, ◌∙◌, if◌then◌else◌, Bool, true, false, true≢false, List, [], refl, sym, subst, IsPrefix, Item, has_end, has_handover}
use Rattle.law_moves.proofs.Vocabulary.{has_end-append, has_handover-append}
use Rattle.law_role_marks.specs.Marking.{has_passed}

pub either : (a b : Bool) → (a || b) ≡ true → (a ≡ true) ⊎ (b ≡ true)
either true b e = inl refl
either false b e = inr e

pub or_more : (a b : Bool) → a ≡ true → (a || b) ≡ true
or_more true b e = refl
or_more false b e = absurd (true≢false (sym e))

pub or_second : (a b : Bool) → b ≡ true → (a || b) ≡ true
or_second true b e = refl
or_second false b e = e

pub handover_more : (a b : List Item) → IsPrefix a b → has_handover a ≡ true
    → has_handover b ≡ true
handover_more a b p e =
    subst (λ (x : List Item). has_handover x ≡ true) p.1
    (has_handover-append a p.0 ∙ or_more (has_handover a) (has_handover p.0) e)

pub end_more : (a b : List Item) → IsPrefix a b → has_end a ≡ true → has_end b ≡ true
end_more a b p e =
    subst (λ (x : List Item). has_end x ≡ true) p.1
    (has_end-append a p.0 ∙ or_more (has_end a) (has_end p.0) e)

pub passed_more : (a b : List Item) → IsPrefix a b → has_passed a ≡ true → has_passed b ≡ true
passed_more a b p e = by (either (has_handover a) (has_end a) e)
  where
    by : (has_handover a ≡ true) ⊎ (has_end a ≡ true) → has_passed b ≡ true
    by (inl handed) = or_more (has_handover b) (has_end b) (handover_more a b p handed)
    by (inr ended) = or_second (has_handover b) (has_end b) (end_more a b p ended)

pub of_there : (b : Bool) (items : List Item) → has_passed (if b then items else []) ≡ true
    → has_passed items ≡ true
of_there true items e = e
of_there false items e = absurd (true≢false (sym e))
