-- what is known behind changes of lines that end legs in time and close no node
use Rattle.law_order.proofs.Vocabulary.{◌≡◌, inl, List, [], ◌∷◌, ◌++◌, true, None, Some, IfSome, refl, sym, ap, ◌∙◌, subst, and_from, list_all, list_all-append, Option}
use Rattle.rh_company.specs.Company as company
use Rattle.law_moves.proofs.Vocabulary.{Dir, Cause, Leg}
use Rattle.law_node_history.proofs.Vocabulary.{Who, receiver, sender, Event, Ends, Breaks, Rulebook, is_up, Deeds, Makers, is_finished, World, at, IsTraced, LegsComeUpOnce, AreAllowed, Change, IsTold, GoesDown, MayChange, Leads, all_changed, changed, of_line, ClosesNode, History, all_noted, noted, nothing}
use Rattle.law_node_history.proofs.Lemmas.{change_is_traced, changed_append}
use Rattle.law_node_history.proofs.Leading.{allowed_append}
use Rattle.law_world_ways.specs.EndsInTime.Both.{AreUpAtBoth}
use Rattle.law_world_ways.specs.EndsInTime.InTime.{EndsInTime, ended_by}
use Rattle.law_world_ways.proofs.EndsInTime.Behind.{EndBehind, NoLeg, OrNow, all_in_time, ends_append}
use Rattle.law_world_unclosed.proofs.Changing.{AllOpen, ending, ending_allowed, ending_in_time, noted_behind, open_append, up_still, up_there}
use Rattle.law_world_unclosed.proofs.Untold.{IsUntold, untold_first, untold_lost, untold_more}

module _ {K C S I O : Type 0} (r : Rulebook C S I O) (m : Makers K I O) (d : Deeds C S)
    (first : World K C S I O) where
  pub record Until (w : World K C S I O) (h : History) : Type 0 where
    pub changes : List Change
    pub allowed : AreAllowed r m d first changes
    pub reached : all_changed r m d first changes ≡ w
    pub history : all_noted r m d first nothing changes ≡ h
    pub works : list_all of_line changes ≡ true
    pub in_time : EndBehind r m d NoLeg first changes
    pub unclosed : AllOpen r m d first changes
    pub untold : IsUntold r m d first.company w h

  pub until_first : Until first nothing
  until_first = record {
    changes = [];
    allowed = tt;
    reached = refl;
    history = refl;
    works = refl;
    in_time = tt;
    unclosed = tt;
    untold = untold_first r m d first.company first;
  }

  module _ (w : World K C S I O) (h : History) (u : Until w h) where
    abbrev pub leads : Leads r m d first w
    leads = record { changes = u.changes; allowed = u.allowed; reached = u.reached }

    abbrev pub in_time : EndsInTime r m d first w
    in_time = record {
      lines = record { leads = leads; work = u.works };
      in_time = all_in_time r m d first u.changes u.in_time;
    }

    -- more changes
    more : (ds : List Change) → AreAllowed r m d w ds → list_all of_line ds ≡ true
        → EndBehind r m d NoLeg w ds → AllOpen r m d w ds
        → IsUntold r m d first.company (all_changed r m d w ds) (all_noted r m d w h ds)
        → Until (all_changed r m d w ds) (all_noted r m d w h ds)
    more ds allowed works ends unclosed untold = record {
      changes = u.changes ++ ds;
      allowed =
          allowed_append r m d first u.changes ds u.allowed
          (subst (λ (x : World K C S I O). AreAllowed r m d x ds) (sym u.reached) allowed);
      reached =
          changed_append r m d first u.changes ds
          ∙ ap (λ (x : World K C S I O). all_changed r m d x ds) u.reached;
      history =
          noted_behind r m d first nothing u.changes ds
          ∙ ap (λ (x : World K C S I O).
          all_noted r m d x (all_noted r m d first nothing u.changes) ds) u.reached
          ∙ ap (λ (g : History). all_noted r m d w g ds) u.history;
      works =
          list_all-append of_line u.changes ds
          ∙ and_from (list_all of_line u.changes) (list_all of_line ds) u.works works;
      in_time =
          ends_append r m d NoLeg first u.changes ds u.in_time
          (subst (λ (x : World K C S I O). EndBehind r m d NoLeg x ds) (sym u.reached) ends);
      unclosed =
          open_append r m d first u.changes ds u.unclosed
          (subst (λ (x : World K C S I O). AllOpen r m d x ds) (sym u.reached) unclosed);
      untold = untold;
    }

    module _ (t : IsTraced r m d first.company w h)
        (once : LegsComeUpOnce r m d first.company w.cast) where
      -- a change that ends no leg
      pub until_plain : (c : Change) → MayChange r w c → of_line c ≡ true → ended_by c ≡ None
          → ((node : Who) (why : Cause) → ClosesNode r w c node why → ⊥)
          → Until (changed r m d w c) (noted w h c)
      until_plain c may is none open_still =
          more (c ∷ []) (may, tt) (and_from (of_line c) true is refl)
          (subst (λ (o : Option Leg). IfSome o (OrNow r m d NoLeg w)) (sym none) tt, tt)
          (open_still, tt)
          (untold_more r m d first.company w h t once u.untold c may none)

      -- a leg ends
      module _ (leg : Leg) (dir : Dir) (both : AreUpAtBoth w) (up : is_up w leg ≡ true)
          (done : is_finished r leg dir w ≡ true) where
        abbrev giver : Change
        giver = IsTold (at w leg (sender dir)) (Breaks leg)

        abbrev gone : Change
        gone = GoesDown (at w leg (sender dir)) leg (sender dir)

        abbrev behind_giver : World K C S I O
        behind_giver = all_changed r m d w (giver ∷ gone ∷ [])

        abbrev meanwhile : History
        meanwhile = all_noted r m d w h (giver ∷ gone ∷ [])

        giver_may : MayChange r w giver
        giver_may =
            inl (sender dir, record { stands = refl; up = up_there r m d w leg dir both up done })

        traced_behind : IsTraced r m d first.company behind_giver meanwhile
        traced_behind =
            change_is_traced r m d first.company (changed r m d w giver) (noted w h giver)
            (change_is_traced r m d first.company w h t once giver giver_may) once gone
            (record { stands = refl; up = up_there r m d w leg dir both up done })

        not_told : (node : Who) (event : Event)
            → (company.tell r w.company node event).1 ≡ None → (other : Who) (why : Cause)
            → ClosesNode r w (IsTold node event) other why → ⊥
        not_told node event silent other why closes =
            let same : ◌≡◌ {A = Who × Event} (node, event) (other, closes.event) = cc in
            absurd (let bad = sym silent
            ∙ ap (λ (p : Who × Event). (company.tell r w.company p.0 p.1).1) same
            ∙ closes.closes in cc)

        not_told_behind : (node : Who) (event : Event)
            → (company.tell r behind_giver.company node event).1 ≡ None → (other : Who)
            (why : Cause) → ClosesNode r behind_giver (IsTold node event) other why → ⊥
        not_told_behind node event silent other why closes =
            let same : ◌≡◌ {A = Who × Event} (node, event) (other, closes.event) = cc in
            absurd (let bad = sym silent
            ∙ ap (λ (p : Who × Event). (company.tell r behind_giver.company p.0 p.1).1) same
            ∙ closes.closes in cc)

        pub until_ending : (company.tell r w.company (at w leg (sender dir)) (Breaks leg)).1 ≡ None
            → (company.tell r behind_giver.company (at w leg (receiver dir)) (Ends leg)).1 ≡ None
            → Until (all_changed r m d w (ending r m d w leg dir))
            (all_noted r m d w h (ending r m d w leg dir))
        until_ending gives takes =
            more (ending r m d w leg dir) (ending_allowed r m d w leg dir both up done) refl
            (ending_in_time r m d w leg dir both up done) (
              not_told (at w leg (sender dir)) (Breaks leg) gives,
              (
                (λ node why closes. none_said (node, closes.event) closes.told),
                (
                  not_told_behind (at w leg (receiver dir)) (Ends leg) takes,
                  ((λ node why closes. none_said (node, closes.event) closes.told), tt),
                ),
              ),
            )
            (untold_lost r m d first.company behind_giver meanwhile traced_behind once
            (untold_lost r m d first.company w h t once u.untold leg (sender dir) (Breaks leg)
            (λ other. refl) giver_may (up_there r m d w leg dir both up done)) leg (receiver dir)
            (Ends leg) (λ other. refl)
            (receiver dir, record { stands = refl; up = up_still r m d w leg dir both up done })
            (up_still r m d w leg dir both up done))
          where
            none_said : (said : Who × Event)
                → ◌≡◌ {A = Option (Who × Event)} None (Some said) → ⊥
            none_said said told = absurd cc
