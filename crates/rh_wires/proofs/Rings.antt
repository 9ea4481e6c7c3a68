-- filling rings that have room
use Rattle.std.proofs.Common.{◌≡◌, ℕ, ◌+◌, ◌-◌, ◌≤◌, List, [], ◌∷◌, ◌++◌, take, drop, length, min, arith, ◌∙◌, ap}
use Rattle.std.proofs.lemmas.List.{take_all, length_push}
use Rattle.circular_buffer.specs.Buffer.{Buffer, buffer, keep_last}

-- where there is room, all is put behind the items
pub filled : {X : Type 0} (ring new : Buffer X) (more : List X) (n : ℕ)
    → n ≡ min (length more) (ring.capacity - length ring.items)
    → new ≡ buffer (ring.items ++ take n more) ring.capacity
    → length ring.items + length more ≤ ring.capacity
    → (new.items ≡ ring.items ++ more) × (new.capacity ≡ ring.capacity)
filled ring new more n count is room =
    let all : length more ≤ n = omega arith in (
      ap (λ (b : Buffer _). b.items) is ∙ ap (λ x. ring.items ++ x) (take_all n more all),
      ap (λ (b : Buffer _). b.capacity) is,
    )

-- where there is room, an item is put behind the others
pub pushed : {X : Type 0} (ring new : Buffer X) (x : X)
    → new ≡ buffer (keep_last ring.capacity (ring.items ++ x ∷ [])) ring.capacity
    → length ring.items + 1 ≤ ring.capacity → (new.items ≡ ring.items ++ x ∷ [])
    × (new.capacity ≡ ring.capacity)
pushed ring new x is room =
    let none : length (ring.items ++ x ∷ []) - ring.capacity ≡ 0 =
    omega (arith, length_push ring.items x) in (
      ap (λ (b : Buffer _). b.items) is ∙ ap (λ n. drop n (ring.items ++ x ∷ [])) none,
      ap (λ (b : Buffer _). b.capacity) is,
    )
