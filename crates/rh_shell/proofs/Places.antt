-- the first place at which a test is passed, one leg after the other
use Rattle.std.proofs.Common.{◌≡◌, ℕ, ◌+◌, ◌≤◌, ◌<◌, List, [], ◌∷◌, drop, length, get_or, Bool, true, false, ap, ◌∙◌, refl}
use Rattle.std.proofs.lemmas.List.{drop_more, drop_all}
use Rattle.rh_shell.specs.NearEnds.{NearEnd}
use Rattle.rh_shell.specs.Shells.{first_where}

module _ (test : NearEnd → Bool) where
  here : (end : NearEnd) (ends : List NearEnd) → test end ≡ true → first_where test (end ∷ ends) ≡ 0
  unfolding first_where
  here end ends h = rw h refl

  behind : (end : NearEnd) (ends : List NearEnd) → test end ≡ false
      → first_where test (end ∷ ends) ≡ 1 + first_where test ends
  unfolding first_where
  behind end ends h = rw h refl

  none : first_where test [] ≡ 0
  unfolding first_where
  none = refl

  pub at_here : (ends : List NearEnd) (i : ℕ) (d : NearEnd) → i < length ends → test
      (get_or ends i d) ≡ true
      → first_where test (drop i ends) ≡ 0
  at_here ends i d below h =
      ap (first_where test) (drop_more ends i d below) ∙ here (get_or ends i d) (drop (i + 1) ends)
      h

  pub at_behind : (ends : List NearEnd) (i : ℕ) (d : NearEnd) → i < length ends → test
      (get_or ends i d) ≡ false
      → first_where test (drop i ends) ≡ 1 + first_where test (drop (i + 1) ends)
  at_behind ends i d below h =
      ap (first_where test) (drop_more ends i d below) ∙ behind (get_or ends i d)
      (drop (i + 1) ends) h

  pub at_end : (ends : List NearEnd) (i : ℕ) → length ends ≤ i → first_where test (drop i ends) ≡ 0
  at_end ends i all = ap (first_where test) (drop_all i ends all) ∙ none
