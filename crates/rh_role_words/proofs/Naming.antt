-- addresses of hosts and ports, one after the other
use Rattle.std.proofs.Common.{◌≡◌, ℕ, ◌+◌, ◌<◌, List, [], ◌∷◌, ◌++◌, ap, get_or, length, subst, sym, take, ◌∙◌}
use Rattle.std.proofs.lemmas.List.{take_more}
use Rattle.rh_net.specs.declared.address.Address.{Address}
use Rattle.rh_role_words.specs.declared.addresses.HostPort.{HostPort}
use Rattle.rh_role_words.specs.Making.{Names, NamesEach}

name-more : (addresses : List Address) (ats : List HostPort) (address : Address) (at : HostPort)
    → NamesEach addresses ats → Names address at
    → NamesEach (addresses ++ address ∷ []) (ats ++ at ∷ [])
name-more [] [] address at names one = (one, tt)
name-more [] (other ∷ ats) address at names one = absurd names
name-more (other ∷ addresses) [] address at names one = absurd names
name-more (other ∷ addresses) (first ∷ ats) address at names one =
    (names.0, name-more addresses ats address at names.1 one)

pub first_named : (old now : List Address) (address : Address) (at : HostPort) → old ≡ []
    → now ≡ old ++ address ∷ [] → Names address at → NamesEach now (at ∷ [])
first_named old now address at none more one =
    subst (λ (x : List Address). NamesEach x (at ∷ []))
    (sym (more ∙ ap (λ (x : List Address). x ++ address ∷ []) none)) (one, tt)

pub one_named_more : (addresses now : List Address) (first : HostPort) (ats : List HostPort) (i : ℕ)
    (d : HostPort) (address : Address) → i < length ats → NamesEach addresses (first ∷ take i ats)
    → Names address (get_or ats i d) → now ≡ addresses ++ address ∷ []
    → NamesEach now (first ∷ take (i + 1) ats)
one_named_more addresses now first ats i d address below names one more =
    subst (λ (x : List HostPort). NamesEach now (first ∷ x)) (sym (take_more ats i d below))
    (subst (λ (x : List Address). NamesEach x (first ∷ take i ats ++ get_or ats i d ∷ []))
    (sym more) (name-more addresses (first ∷ take i ats) address (get_or ats i d) names one))
