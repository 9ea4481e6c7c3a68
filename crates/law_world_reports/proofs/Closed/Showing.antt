-- changes behind changes, whose tellings some answers show
use Rattle.law_order.proofs.Vocabulary.{◌≡◌, ℕ, zero, suc, List, [], ◌∷◌, ◌++◌, Bool, true, ◌&&◌, sym, subst}
use Rattle.law_node_history.proofs.Vocabulary.{Answer, Rulebook, Deeds, Makers, for_each, World, Change, MayChange, changed, all_changed, is_work, told_by}
use Rattle.law_node_history.proofs.Lemmas.{DrawsWork, draws_none, draws_one, draws_then, is_steady, works_none}
use Rattle.law_world_reports.proofs.Vocabulary.{IsShown, AreShown, ShownWorks}

module _ {K C S I O : Type 0} (r : Rulebook C S I O) (m : Makers K I O) (d : Deeds C S)
    (all : List Answer) where
  -- to the world behind something that was done or refused
  abbrev pub ShownOk : World K C S I O → World K C S I O × Bool → Type 0
  ShownOk w did = ShownWorks r m d all w did.0

  pub shown_none : (w : World K C S I O) → ShownWorks r m d all w w
  shown_none w = record {
    works = works_none r m d w;
    shown = tt;
    drawn = (draws_none {kind = is_work} r m d w).drawn;
  }

  pub shown_one : (w : World K C S I O) (change : Change) → MayChange r w change
      → (is_steady change && is_work change) ≡ true → IsShown all w (told_by w change)
      → ShownWorks r m d all w (changed r m d w change)
  shown_one w change may is shows =
      let draws = draws_one {kind = is_work} r m d w change may is in
      record { works = draws.works; shown = (shows, tt); drawn = draws.drawn }

  shown_append : (w : World K C S I O) (cs ds : List Change) → AreShown r m d all w cs
      → AreShown r m d all (all_changed r m d w cs) ds → AreShown r m d all w (cs ++ ds)
  shown_append w [] ds a b = b
  shown_append w (c ∷ cs) ds a b = (a.0, shown_append (changed r m d w c) cs ds a.1 b)

  -- without what is shown
  abbrev pub shown_draws : (w v : World K C S I O) → ShownWorks r m d all w v → DrawsWork r m d w v
  shown_draws w v a = record { works = a.works; drawn = a.drawn }

  pub shown_then : (w v u : World K C S I O) → ShownWorks r m d all w v
      → ShownWorks r m d all v u → ShownWorks r m d all w u
  shown_then w v u a b =
      let ds = b.works.leads.changes in
      let draws = draws_then r m d w v u (shown_draws w v a) (shown_draws v u b) in
      record {
        works = draws.works;
        shown =
            shown_append w a.works.leads.changes ds a.shown
            (subst (λ x. AreShown r m d all x ds) (sym a.works.leads.reached) b.shown);
        drawn = draws.drawn;
      }

  -- one more change
  pub shown_more : (w v : World K C S I O) (change : Change) → ShownWorks r m d all w v
      → MayChange r v change → (is_steady change && is_work change) ≡ true
      → IsShown all v (told_by v change) → ShownWorks r m d all w (changed r m d v change)
  shown_more w v change a may work shows =
      shown_then w v (changed r m d v change) a (shown_one v change may work shows)

  -- something is done for each number
  pub shown_for_each : (n : ℕ) (act : ℕ → World K C S I O → World K C S I O)
      (w : World K C S I O)
      → ((k : ℕ) (v : World K C S I O) → ShownWorks r m d all v (act k v))
      → ShownWorks r m d all w (for_each n act w)
  shown_for_each zero act w a = shown_none w
  shown_for_each (suc n) act w a =
      shown_then w (for_each n act w) (act n (for_each n act w)) (shown_for_each n act w a)
      (a n (for_each n act w))
