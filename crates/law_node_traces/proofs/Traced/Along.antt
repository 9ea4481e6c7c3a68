-- what each change from a traced world keeps of the world and its history, lists of changes keep
use Rattle.law_order.proofs.Vocabulary.{◌≡◌, Bool, true, List, [], ◌∷◌, refl, sym, subst, list_all, and_parts}
use Rattle.law_node_history.proofs.Vocabulary.{Company, Rulebook, Deeds, Makers, World, Change, MayChange, AreAllowed, changed, all_changed, Leads, WorksBy, History, noted, all_noted, IsTraced, LegsComeUpOnce}
use Rattle.law_node_history.proofs.Lemmas.{cast_stays, change_is_traced}

all_true : (changes : List Change) → list_all (λ (change : Change). true) changes ≡ true
all_true [] = refl
all_true (change ∷ changes) = all_true changes

module _ {K C S I O : Type 0} (r : Rulebook C S I O) (m : Makers K I O) (d : Deeds C S)
    (first : Company C S I O) where
  -- changes of one kind
  module _ (kind : Change → Bool) (P : World K C S I O → History → Type 0)
      (keeps : (w : World K C S I O) (h : History) → IsTraced r m d first w h
      → LegsComeUpOnce r m d first w.cast → P w h → (change : Change) → MayChange r w change
      → kind change ≡ true → P (changed r m d w change) (noted w h change)) where
    all_keep : (w : World K C S I O) (h : History) (changes : List Change)
        → AreAllowed r m d w changes → list_all kind changes ≡ true
        → LegsComeUpOnce r m d first w.cast → IsTraced r m d first w h → P w h
        → P (all_changed r m d w changes) (all_noted r m d w h changes)
    all_keep w h [] allowed are once t holds = holds
    all_keep w h (change ∷ changes) allowed are once t holds =
        let parts = and_parts (kind change) (list_all kind changes) are in
        all_keep (changed r m d w change) (noted w h change) changes allowed.1 parts.1
        (subst (λ (x : K). LegsComeUpOnce r m d first x)
        (sym (cast_stays r m d w change)) once)
        (change_is_traced r m d first w h t once change allowed.0)
        (keeps w h t once holds change allowed.0 parts.0)

    pub kept_by : (w v : World K C S I O) (h : History) (by : WorksBy kind r m d w v)
        → LegsComeUpOnce r m d first w.cast → IsTraced r m d first w h → P w h
        → P v (all_noted r m d w h by.leads.changes)
    kept_by w v h by once t holds =
        subst (λ (x : World K C S I O). P x (all_noted r m d w h by.leads.changes))
        by.leads.reached
        (all_keep w h by.leads.changes by.leads.allowed by.work once t holds)

  -- all changes
  module _ (P : World K C S I O → History → Type 0)
      (keeps : (w : World K C S I O) (h : History) → IsTraced r m d first w h
      → LegsComeUpOnce r m d first w.cast → P w h → (change : Change) → MayChange r w change
      → P (changed r m d w change) (noted w h change)) where
    pub kept_along : (w v : World K C S I O) (h : History) (leads : Leads r m d w v)
        → LegsComeUpOnce r m d first w.cast → IsTraced r m d first w h → P w h
        → P v (all_noted r m d w h leads.changes)
    kept_along w v h leads =
        kept_by (λ change. true) P
        (λ u g t once holds change may is. keeps u g t once holds change may) w v h
        (record { leads = leads; work = all_true leads.changes })
