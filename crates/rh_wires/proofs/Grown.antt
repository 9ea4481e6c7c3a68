-- blank items change what stands at no number
use Rattle.std.proofs.Common.{◌≡◌, ℕ, zero, suc, ◌-◌, ◌<◌, ◌≤◌, List, [], ◌∷◌, ◌++◌, length, get_or, refl, sym, ap, arith}
use Rattle.std.proofs.lemmas.List.{length_push}
use Rattle.rh_wires.specs.Numbered.{more, grown}

-- one more behind the end
pub get_or-blank : {X : Type 0} (blank : X) (list : List X) (k : ℕ)
    → get_or (list ++ blank ∷ []) k blank ≡ get_or list k blank
get_or-blank blank [] zero = refl
get_or-blank blank [] (suc k) = refl
get_or-blank blank (x ∷ list) zero = refl
get_or-blank blank (x ∷ list) (suc k) = get_or-blank blank list k

-- where the list is shorter, one blank item is the first of those that are added
pub grown_more : {X : Type 0} (blank : X) (list : List X) (len : ℕ) → length list < len
    → grown len blank (list ++ blank ∷ []) ≡ grown len blank list
grown_more blank list len short =
    let left : len - length list ≡ suc (len - length (list ++ blank ∷ [])) =
    omega (arith, length_push list blank) in
    sym (ap (λ n. more n blank list) left)

-- where it is long enough, none is added
pub grown_none : {X : Type 0} (blank : X) (list : List X) (len : ℕ) → len ≤ length list
    → grown len blank list ≡ list
grown_none blank list len long =
    let none : len - length list ≡ 0 = omega arith in ap (λ n. more n blank list) none
