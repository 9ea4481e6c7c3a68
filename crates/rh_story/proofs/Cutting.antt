-- the items of a stream in two pieces
use Rattle.std.proofs.Common.{◌≡◌, ℕ, Bool, true, false, List, [], ◌∷◌, ◌++◌, if◌then◌else◌, refl, ap}
use Rattle.rh_story.specs.Items.{is_whole, items_from, held_from}

-- whether an item is whole by the first byte or not
items_by : (item bytes more : List ℕ) (t : Bool)
    → items_from [] (bytes ++ more) ≡ items_from [] bytes ++ items_from (held_from [] bytes) more
    → items_from item (bytes ++ more)
    ≡ items_from item bytes ++ items_from (held_from item bytes) more
    → (if t then item ∷ items_from [] (bytes ++ more) else items_from item (bytes ++ more))
    ≡ (if t then item ∷ items_from [] bytes else items_from item bytes)
    ++ items_from (if t then held_from [] bytes else held_from item bytes) more
items_by item bytes more true h k = ap (λ (items : List (List ℕ)). item ∷ items) h
items_by item bytes more false h k = k

pub items_append : (held bytes more : List ℕ) → items_from held (bytes ++ more)
    ≡ items_from held bytes ++ items_from (held_from held bytes) more
items_append held [] more = refl
items_append held (b ∷ bytes) more =
    items_by (held ++ b ∷ []) bytes more (is_whole (held ++ b ∷ []))
    (items_append [] bytes more) (items_append (held ++ b ∷ []) bytes more)

held_by : (item bytes more : List ℕ) (t : Bool)
    → held_from [] (bytes ++ more) ≡ held_from (held_from [] bytes) more
    → held_from item (bytes ++ more) ≡ held_from (held_from item bytes) more
    → (if t then held_from [] (bytes ++ more) else held_from item (bytes ++ more))
    ≡ held_from (if t then held_from [] bytes else held_from item bytes) more
held_by item bytes more true h k = h
held_by item bytes more false h k = k

pub held_append : (held bytes more : List ℕ) → held_from held (bytes ++ more)
    ≡ held_from (held_from held bytes) more
held_append held [] more = refl
held_append held (b ∷ bytes) more =
    held_by (held ++ b ∷ []) bytes more (is_whole (held ++ b ∷ []))
    (held_append [] bytes more) (held_append (held ++ b ∷ []) bytes more)
