-- where a settling answers quiet its last round reported nothing, and the world is at rest
use Rattle.law_order.proofs.Vocabulary.{◌≡◌, ℕ, zero, suc, ◌+◌, List, [], ◌∷◌, true, refl, sym, ap, ◌∙◌, subst, ⊎_elim, list_all}
use Rattle.rh_record.specs.declared.answer.Answer.TheVariants.{Quiet, Spent}
use Rattle.law_node_history.proofs.Vocabulary.{Answer, Rulebook, Deeds, Makers, World, IsOneOf, behind_round, round, rounds_from, settle}
use Rattle.law_node_history.proofs.Lemmas.{one_of_both}
use Rattle.law_world_rest.proofs.Quiet.{is_plain, none_is_quiet, round_plain}
use Rattle.law_world_rest.specs.Rest.{IsAtRest, IsSilent}

module _ {K C S I O : Type 0} (r : Rulebook C S I O) (m : Makers K I O) (d : Deeds C S)
    (IsReached : World K C S I O → Type 0)
    (keeps : (w : World K C S I O) → IsReached w → IsReached (round r m d w).0)
    (same : (w : World K C S I O) → IsReached w → IsSilent (round r m d w)
    → (round r m d w).0 ≡ w)
    (rests : (w : World K C S I O) → IsReached w → IsSilent (round r m d w)
    → IsAtRest r m d w) where
  abbrev RestsThere : World K C S I O × List Answer → Type 0
  RestsThere did = (count : ℕ) → IsOneOf (Quiet count) did.1 → IsAtRest r m d did.0

  by_round : (w : World K C S I O) (done : ℕ) (did : World K C S I O × List Answer)
      (more : World K C S I O → World K C S I O × List Answer) → round r m d w ≡ did
      → IsReached w → ((v : World K C S I O) → IsReached v → RestsThere (more v))
      → RestsThere (behind_round done did more)
  by_round w done (v, []) more is reached behind count quiet =
      let silent : IsSilent (round r m d w) =
      ap (λ (did : World K C S I O × List Answer). did.1) is in
      subst (λ (u : World K C S I O). IsAtRest r m d u)
      (sym (same w reached silent)
      ∙ ap (λ (did : World K C S I O × List Answer). did.0) is)
      (rests w reached silent)
  by_round w done (v, one ∷ answers) more is reached behind count quiet =
      ⊎_elim (λ here. absurd (none_is_quiet count (one ∷ answers)
      (subst (λ (did : World K C S I O × List Answer). list_all is_plain did.1 ≡ true) is
      (round_plain r m d w)) here))
      (λ later. behind v
      (subst (λ (did : World K C S I O × List Answer). IsReached did.0) is (keeps w reached))
      count later)
      (one_of_both (Quiet count) (one ∷ answers) (more v).1 quiet)

  rounds_rest : (n done : ℕ) (w : World K C S I O) → IsReached w
      → RestsThere (rounds_from n done (round r m d) w)
  unfolding rounds_from
  rounds_rest zero done w reached = λ count quiet.
      absurd (none_is_quiet count (Spent done ∷ []) refl quiet)
  rounds_rest (suc n) done w reached =
      by_round w done (round r m d w)
      (λ next. rounds_from n (done + 1) (round r m d) next) refl reached
      (rounds_rest n (done + 1))

  pub settle_rests : (rounds : ℕ) (w : World K C S I O) → IsReached w
      → RestsThere (settle r m d rounds w)
  settle_rests rounds w reached = rounds_rest rounds 0 w reached
