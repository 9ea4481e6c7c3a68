-- the lines that connect a leg are changes that tell no node anything
use Rattle.law_order.proofs.Vocabulary.{◌≡◌, List, [], ◌∷◌, true, list_all, and_parts}
use Rattle.law_moves.proofs.Vocabulary.{Leg}
use Rattle.law_node_history.proofs.Vocabulary.{Answer, Rulebook, Deeds, Makers, open_leg, open_same, World, Change, IsTold, IsFed, changed, is_work, told_by}
use Rattle.law_node_history.proofs.Lemmas.{Joins, connects, joins_open_leg, joins_open_same, quiet_connects, all_wider, quiet_work}
use Rattle.law_world_reports.proofs.Vocabulary.{AreShown, IsShown, ShownWorks}

module _ {K C S I O : Type 0} (r : Rulebook C S I O) (m : Makers K I O) (d : Deeds C S)
    (all : List Answer) where
  untold : (w : World K C S I O) (change : Change) → connects change ≡ true
      → IsShown all w (told_by w change)
  untold w (IsTold node event) is = absurd cc
  untold w (IsFed leg dir count) is = absurd cc
  untold w change is = tt

  all_untold : (w : World K C S I O) (changes : List Change) → list_all connects changes ≡ true
      → AreShown r m d all w changes
  all_untold w [] is = tt
  all_untold w (change ∷ changes) is =
      let parts = and_parts (connects change) (list_all connects changes) is in
      (untold w change parts.0, all_untold (changed r m d w change) changes parts.1)

  shown_joins : (w v : World K C S I O) → Joins r m d w v → ShownWorks r m d all w v
  shown_joins w v a =
      let leads = a.works.leads in
      record {
        works = record {
          leads = leads;
          work =
              all_wider connects is_work
              (λ change is. quiet_work change (quiet_connects change is)) leads.changes
              a.works.work;
        };
        shown = all_untold w leads.changes a.works.work;
        drawn = a.drawn;
      }

  pub shown_open_leg : (w : World K C S I O) (leg : Leg)
      → ShownWorks r m d all w (open_leg r m w leg).0
  shown_open_leg w leg = shown_joins w (open_leg r m w leg).0 (joins_open_leg r m d w leg)

  pub shown_open_same : (w : World K C S I O) (leg : Leg)
      → ShownWorks r m d all w (open_same r w leg).0
  shown_open_same w leg =
      shown_joins w (open_same r w leg).0 (joins_open_same r m d w leg)
