-- the histories of the ends go on
use Rattle.law_order.proofs.Vocabulary.{◌≡◌, ◌++◌, List, [], ◌∷◌, refl, sym, ap, ◌∙◌, append_assoc, append-nil}
use Rattle.law_moves.proofs.Vocabulary.{Side, Client, Server, IsClosed}
use Rattle.law_node_history.proofs.Vocabulary.{Rulebook, Deeds, Makers, World, Change, Closes, changed, History, all_noted, noted, nothing}
use Rattle.law_world_reports.proofs.Vocabulary.{end_events, GoesOn}

module _ {K C S I O : Type 0} (r : Rulebook C S I O) (m : Makers K I O) (d : Deeds C S) where
  -- what a change notes at an end
  noted_is : (v : World K C S I O) (h : History) (change : Change) (end : Side)
      → end_events (noted v h change) end
      ≡ end_events h end ++ end_events (noted v nothing change) end
  noted_is v h change Client = refl
  noted_is v h change Server = refl

  pub goes_on : (v : World K C S I O) (h : History) (later : List Change) (end : Side)
      → GoesOn (end_events (all_noted r m d v h later) end) (end_events h end)
  goes_on v h [] end = ([], sym (append-nil (end_events h end)))
  goes_on v h (change ∷ later) end =
      let new = end_events (noted v nothing change) end in
      let on = goes_on (changed r m d v change) (noted v h change) later end in (
        new ++ on.0,
        on.1 ∙ ap (λ front. front ++ on.0) (noted_is v h change end)
            ∙ append_assoc (end_events h end) new on.0,
      )

  noted_closed : (v : World K C S I O) (h : History) (end : Side)
      → end_events (noted v h (Closes end)) end ≡ end_events h end ++ IsClosed ∷ []
  noted_closed v h Client = refl
  noted_closed v h Server = refl

  pub goes_on_closed : (v : World K C S I O) (h : History) (rest : List Change) (end : Side)
      → GoesOn (end_events (all_noted r m d v h (Closes end ∷ rest)) end)
      (end_events h end ++ IsClosed ∷ [])
  goes_on_closed v h rest end =
      let on = goes_on (changed r m d v (Closes end)) (noted v h (Closes end)) rest end in
      (on.0, on.1 ∙ ap (λ front. front ++ on.0) (noted_closed v h end))
