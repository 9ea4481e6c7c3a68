-- no leg of the client comes up under the cookie of zeros, where cookies are drawn from above 0
use Rattle.law_order.proofs.Vocabulary.{◌≡◌, ◌<◌, ◌++◌, ◌⊎◌, inl, inr, arith, List, Bool, subst, ap, ◌∙◌}
use Rattle.law_moves.proofs.Vocabulary.{Leg}
use Rattle.law_node_history.proofs.Vocabulary.{Rulebook, cookie_of, Deeds, Makers, World, happened, Change, AreDrawn, AreLeft, DrawsBy, RoseWith, all_risen, all_noted, nothing}
use Rattle.law_node_history.proofs.Lemmas.{risen_append, IsAmong, Risen, all_rose, drawn_between, drawn_front, same_number}

module _ {K C S I O : Type 0} (r : Rulebook C S I O) (m : Makers K I O) (d : Deeds C S) where
  pub some_cookies : {kind : Change → Bool} (w v : World K C S I O) (by : DrawsBy kind r m d w v)
      → AreLeft v.cookies → 0 < w.cookies.next → (front rest : List Change)
      → by.works.leads.changes ≡ front ++ rest → (leg : Leg)
      → RoseWith (happened (all_noted r m d w nothing front).client) leg (cookie_of 0) → ⊥
  some_cookies w v by left above front rest split leg rose =
      let at = drawn_between w.cookies.next v.cookies.next (all_risen front) leg (cookie_of 0) drawn
      (from (all_rose r m d w nothing front leg (cookie_of 0) rose)) in
      let low = at.1 in
      let below = at.2 in
      let same : 0 ≡ at.0 =
      same_number 0 at.0 (omega arith) (omega (arith, below, left)) at.3 in
      omega (arith, low, same, above)
    where
      drawn : AreDrawn w.cookies.next (all_risen front) v.cookies.next
      drawn =
          drawn_front w.cookies.next v.cookies.next (all_risen front) (all_risen rest)
          (subst (λ (legs : Risen). AreDrawn w.cookies.next legs v.cookies.next)
          (ap all_risen split ∙ risen_append front rest) (by.drawn.numbers left))

      from : ⊥ ⊎ IsAmong (all_risen front) leg (cookie_of 0)
          → IsAmong (all_risen front) leg (cookie_of 0)
      from (inl none) = absurd none
      from (inr is) = is
