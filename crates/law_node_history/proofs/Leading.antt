-- changes behind changes
use Rattle.rh_text.specs.declared.ends.Side.TheVariants as side
use Rattle.law_order.proofs.Vocabulary.{◌≡◌, List, [], ◌∷◌, ◌++◌, refl, sym, ap, ◌∙◌, subst}
use Rattle.law_node_history.proofs.Vocabulary.{Rulebook, Deeds, Makers, World, Change, IsTold, IsFed, IsDrawn, GoesUp, RaisesAlone, GoesDown, OpensIn, OpensOut, OpensSame, Gives, Takes, Closes, RecyclesIn, RecyclesOut, MovesTo, Draws, Reports, MayChange, AreAllowed, changed, all_changed, Leads}

module _ {K C S I O : Type 0} (r : Rulebook C S I O) (m : Makers K I O) (d : Deeds C S) where
  pub changed_append : (w : World K C S I O) (cs ds : List Change)
      → all_changed r m d w (cs ++ ds) ≡ all_changed r m d (all_changed r m d w cs) ds
  changed_append w [] ds = refl
  changed_append w (c ∷ cs) ds = changed_append (changed r m d w c) cs ds

  pub allowed_append : (w : World K C S I O) (cs ds : List Change) → AreAllowed r m d w cs
      → AreAllowed r m d (all_changed r m d w cs) ds → AreAllowed r m d w (cs ++ ds)
  allowed_append w [] ds a b = b
  allowed_append w (c ∷ cs) ds a b = (a.0, allowed_append (changed r m d w c) cs ds a.1 b)

  abbrev pub leads_none : (w : World K C S I O) → Leads r m d w w
  leads_none w = record { changes = []; allowed = tt; reached = refl }

  abbrev pub leads_one : (w : World K C S I O) (change : Change) → MayChange r w change
      → Leads r m d w (changed r m d w change)
  leads_one w change may = record { changes = change ∷ []; allowed = (may, tt); reached = refl }

  abbrev pub leads_then : (w v u : World K C S I O) → Leads r m d w v → Leads r m d v u
      → Leads r m d w u
  leads_then w v u a b = record {
    changes = a.changes ++ b.changes;
    allowed =
        allowed_append w a.changes b.changes a.allowed
        (subst (λ x. AreAllowed r m d x b.changes) (sym a.reached) b.allowed);
    reached =
        changed_append w a.changes b.changes
        ∙ ap (λ x. all_changed r m d x b.changes) a.reached ∙ b.reached;
  }

  -- one more change
  pub leads_more : (w v : World K C S I O) (change : Change) → Leads r m d w v
      → MayChange r v change → Leads r m d w (changed r m d v change)
  leads_more w v change a may =
      leads_then w v (changed r m d v change) a (leads_one v change may)

  -- ---- what each change keeps

  -- what each change keeps that may be, changes keep
  all_keep : (P : World K C S I O → Type 0)
      → ((w : World K C S I O) (change : Change) → P w → MayChange r w change
      → P (changed r m d w change))
      → (w : World K C S I O) (changes : List Change) → AreAllowed r m d w changes → P w
      → P (all_changed r m d w changes)
  all_keep P keeps w [] allowed holds = holds
  all_keep P keeps w (c ∷ cs) allowed holds =
      all_keep P keeps (changed r m d w c) cs allowed.1 (keeps w c holds allowed.0)

  pub leads_keep : (P : World K C S I O → Type 0)
      → ((w : World K C S I O) (change : Change) → P w → MayChange r w change
      → P (changed r m d w change))
      → (w v : World K C S I O) → Leads r m d w v → P w → P v
  leads_keep P keeps w v leads holds =
      subst P leads.reached (all_keep P keeps w leads.changes leads.allowed holds)

  -- the cast stays
  pub cast_stays : (w : World K C S I O) (change : Change) → (changed r m d w change).cast ≡ w.cast
  cast_stays w (IsTold node event) = refl
  cast_stays w (IsFed leg dir count) = refl
  cast_stays w (IsDrawn leg dir count) = refl
  cast_stays w (GoesUp node leg end cookie) = refl
  cast_stays w (RaisesAlone node leg end cookie) = refl
  cast_stays w (GoesDown node leg end) = refl
  cast_stays w (OpensIn n cookie) = refl
  cast_stays w (OpensOut n cookie) = refl
  cast_stays w (OpensSame n cookie) = refl
  cast_stays w (Gives side.Client pdu) = refl
  cast_stays w (Gives side.Server pdu) = refl
  cast_stays w (Takes side.Client) = refl
  cast_stays w (Takes side.Server) = refl
  cast_stays w (Closes side.Client) = refl
  cast_stays w (Closes side.Server) = refl
  cast_stays w RecyclesIn = refl
  cast_stays w RecyclesOut = refl
  cast_stays w (MovesTo now) = refl
  cast_stays w (Draws cookies) = refl
  cast_stays w Reports = refl

  pub cast_kept : (w v : World K C S I O) → Leads r m d w v → v.cast ≡ w.cast
  cast_kept w v leads =
      leads_keep (λ (u : World K C S I O). u.cast ≡ w.cast)
      (λ u change same may. cast_stays u change ∙ same) w v leads refl
