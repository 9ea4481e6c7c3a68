-- in all worlds that changes lead to, no leg is up for a proxy that was let go
use Rattle.law_order.proofs.Vocabulary.{◌≡◌, [], true, false, refl, sym, ◌∙◌, subst, ⊎_elim, arith, cases_Bool}
use Rattle.rh_wires.specs.Legs as legs
use Rattle.law_moves.proofs.Vocabulary.{Side, Leg}
use Rattle.law_node_history.proofs.Vocabulary.{Who, Legs, Rulebook, Deeds, Makers, World, at, Leads, nothing, IsNew, LegsComeUpOnce}
use Rattle.law_node_history.proofs.Lemmas.{traced_first, is_up_at}
use Rattle.law_node_traces.proofs.Traced.Along.{kept_along}
use Rattle.law_node_traces.proofs.LetGo.Lists.{AtMost, at_most_none}
use Rattle.law_node_traces.proofs.LetGo.Standing.{IsUp, none_is_up}
use Rattle.law_node_traces.proofs.LetGo.Counts.{count_at, let_go_has_none, let_go_is_proxy}
use Rattle.law_node_traces.proofs.LetGo.Counting.{AreUp, IsCounted, AreCounted, change_counted}
use Rattle.law_node_traces.proofs.Vocabulary.{was_let_go}

module _ {K C S I O : Type 0} (r : Rulebook C S I O) (m : Makers K I O) (d : Deeds C S) where
  counted_first : (w : World K C S I O) → IsNew w → AreCounted w nothing
  counted_first w new x is = record {
    counted = λ moves. record {
      list = [];
      has = λ leg up. absurd (none_is_up w.readers x leg
          (subst (λ (all : Legs). IsUp all w.readers x leg) new.low up));
      short = omega arith;
    };
  }

  pub none_up : (w v : World K C S I O) → IsNew w → LegsComeUpOnce r m d w.company w.cast
      → Leads r m d w v → (leg : Leg) (end : Side) → was_let_go v.company (at v leg end) ≡ true
      → legs.is_up leg end v.legs ≡ false
  none_up w v new once leads leg end gone =
      ⊎_elim
      (λ up. absurd (at_most_none (AreUp v x)
      (subst (AtMost (AreUp v x)) none (k.counted (λ end. absurd (omega (arith, none, end)))))
      leg (record { end = end; stands = refl; up = sym (is_up_at v.legs leg end) ∙ up })))
      (λ down. down) (cases_Bool (legs.is_up leg end v.legs))
    where
      x : Who
      x = at v leg end

      none : count_at v.company x ≡ 0
      none = let_go_has_none r v.company x gone

      k : IsCounted v x
      k =
          kept_along r m d w.company AreCounted
          (λ u g t once k change may. change_counted r m d w.company u g t once k change may) w v
          nothing leads once (traced_first r m d w new) (counted_first w new) x
          (let_go_is_proxy r v.company x gone)
