-- the front of bytes in which a head is to end
use Rattle.std.proofs.Common.{◌≡◌, ℕ, ◌-◌, ◌≤◌, List, length, take, min, ap, ◌∙◌, subst, arith}
use Rattle.std.proofs.lemmas.List.{take_min, length-take}
use Rattle.rh_http.specs.Ends.{IsOpen, FirstEnd}
use Rattle.rh_http.specs.Reading.{greatest_head}
use Rattle.rh_http.specs.Extents.{IsExtent}
use Rattle.rh_http.specs.declared.got.Extent.TheVariants.{Ends}
use Rattle.rh_http.proofs.EndLemmas.{fits}

-- the front that is searched is that of the most bytes of a head
front_is : (bytes front : List ℕ) (m : ℕ) → m ≡ min 16384 (length bytes) → front ≡ take m bytes
    → front ≡ take greatest_head bytes
front_is bytes front m size cut = cut ∙ ap (λ (n : ℕ). take n bytes) size ∙ take_min 16384 bytes

-- an end in it is one within the most bytes, and within those that are there
pub ends_in_front : (bytes front : List ℕ) (m len : ℕ) → m ≡ min 16384 (length bytes)
    → front ≡ take m bytes
    → FirstEnd front len → IsExtent bytes (Ends len)
ends_in_front bytes front m len size cut h =
    let same : front ≡ take greatest_head bytes = front_is bytes front m size cut in
    let room : len ≤ length front = omega (arith, fits front (len - 4) h.ends.1, h.ends.0) in
    let short : length front ≡ min 16384 (length bytes) = ap length same
    ∙ length-take 16384 bytes in
    let P : List ℕ → Type 0 = λ x. FirstEnd x len in
    (subst P same h, omega (arith, room, short), omega (arith, room, short))

-- where none ends in it, none does within the most bytes
pub none_in_front : (bytes front : List ℕ) (m : ℕ) → m ≡ min 16384 (length bytes)
    → front ≡ take m bytes
    → IsOpen front → IsOpen (take greatest_head bytes)
none_in_front bytes front m size cut h =
    let P : List ℕ → Type 0 = λ x. IsOpen x in subst P (front_is bytes front m size cut) h
