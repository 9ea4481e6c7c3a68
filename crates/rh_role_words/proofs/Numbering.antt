-- numbered configurations, one after the other
use Rattle.std.proofs.Common.{◌≡◌, ℕ, zero, suc, List, [], ◌∷◌, ◌++◌, ap, length, refl, sym, ◌∙◌, arith}
use Rattle.std.proofs.lemmas.List.{length-append}
use Rattle.rh_role_words.specs.Making.{numbered}

-- the configuration of the next number stands behind the others
pub one_numbered_more : {Config : Type 0} (made : ℕ → Config) (before next number : ℕ)
    (old now : List Config) (config : Config) → old ≡ numbered made before → config ≡ made number
    → number ≡ suc before → next ≡ suc before → now ≡ old ++ config ∷ []
    → now ≡ numbered made next
one_numbered_more made before next number old now config were is counted at more =
    more ∙ ap (λ x. x ++ config ∷ []) were
    ∙ ap (λ x. numbered made before ++ x ∷ []) (is ∙ ap made counted)
    ∙ ap (numbered made) (sym at)

pub length-numbered : {Config : Type 0} (made : ℕ → Config) (count : ℕ)
    → length (numbered made count) ≡ count
length-numbered made zero = refl
length-numbered made (suc n) =
    let many = length-numbered made n in
    length-append (numbered made n) (made (suc n) ∷ []) ∙ omega (arith, many)

-- so many were handed on
pub all_numbered : {Config : Type 0} (made : ℕ → Config) (count : ℕ) (items handed : List Config)
    → handed ≡ items → items ≡ numbered made count → length handed ≡ count
all_numbered made count items handed same are =
    ap length same ∙ ap length are ∙ length-numbered made count
