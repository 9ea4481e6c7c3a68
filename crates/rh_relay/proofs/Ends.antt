-- one node more that ended so
use Rattle.std.proofs.Common.{◌≡◌, ℕ, ◌+◌, List, [], ◌∷◌, ◌++◌, ap, length, refl, subst, sym, ◌∙◌}
use Rattle.std.proofs.lemmas.List.{length-append}
use Rattle.rh_legs.specs.declared.end.NodeEnd.{NodeEnd}
use Rattle.rh_relay.specs.Runs.{AllAre}

all-more : (told : NodeEnd) (ends : List NodeEnd) → AllAre told ends
    → AllAre told (ends ++ told ∷ [])
all-more told [] all = (refl, tt)
all-more told (end ∷ ends) all = (all.0, all-more told ends all.1)

pub one-more : (told : NodeEnd) (ends now : List NodeEnd) (count : ℕ) → length ends ≡ count
    → AllAre told ends → now ≡ ends ++ told ∷ []
    → record { count : length now ≡ count + 1; all : AllAre told now }
one-more told ends now count many all is = record {
  count = ap length is ∙ length-append ends (told ∷ []) ∙ ap (λ n. n + 1) many;
  all = subst (AllAre told) (sym is) (all-more told ends all);
}
