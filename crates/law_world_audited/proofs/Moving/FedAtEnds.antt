-- what was fed on a leg in a direction was fed to the node that reads it
use Rattle.rh_text.specs.declared.ends.Side.TheVariants as side
use Rattle.law_order.proofs.Vocabulary.{◌≡◌, ◌==◌, ◌++◌, ℕ, List, [], ◌∷◌, Bool, true, false, ◌&&◌, cond, refl, sym, ap, ap₂, ◌∙◌, subst, inl, inr, ◌⊎◌, eq-eqb, append_assoc, append-nil, true≢false}
use Rattle.rh_record.specs.declared.answer.Who.TheVariants as who
use Rattle.law_moves.proofs.Vocabulary.{Dir, U, D, Side, Leg, LegKind, ClientOut, OutServer, ClientIn, InServer, same_leg}
use Rattle.rh_wires.specs.Legs as legs
use Rattle.law_node_history.proofs.Lemmas.{cases_leg, same_itself}
use Rattle.law_node_history.proofs.Vocabulary.{Who, receiver, reader_of, Rulebook, Deeds, Makers, is_same, leg_at, World, at, IsFed, Change, AreCarried, Ledger, Legs, end_node, changed, History, all_noted, fed_by, noted, nothing}
use Rattle.law_world_audited.specs.Moving.Fed.{all_fed, fed_there}
use Rattle.law_world_audited.specs.Moving.Moved.{same_dir}

front_none : (a b : List ℕ) → a ++ b ≡ [] → a ≡ []
front_none [] b e = refl
front_none (x ∷ a) b e = absurd cc

rest_none : (a b : List ℕ) → a ++ b ≡ [] → b ≡ []
rest_none [] b e = e
rest_none (x ∷ a) b e = absurd cc

module _ {K C S I O : Type 0} (r : Rulebook C S I O) (m : Makers K I O) (d : Deeds C S) where
  -- ---- the bytes that changes feed to a node

  abbrev fed_to : World K C S I O → Who → Leg → List Change → List ℕ
  fed_to w node leg [] = []
  fed_to w node leg (change ∷ changes) =
      fed_by w change node leg ++ fed_to (changed r m d w change) node leg changes

  noted_fed : (w : World K C S I O) (h : History) (node : Who) (leg : Leg) (cs : List Change)
      → (all_noted r m d w h cs).fed node leg ≡ h.fed node leg ++ fed_to w node leg cs
  noted_fed w h node leg [] = sym (append-nil (h.fed node leg))
  noted_fed w h node leg (c ∷ cs) =
      noted_fed (changed r m d w c) (noted w h c) node leg cs
      ∙ append_assoc (h.fed node leg) (fed_by w c node leg)
      (fed_to (changed r m d w c) node leg cs)

  -- ---- the node that reads a leg in the end

  module _ (readers : List ℕ) where
    abbrev IsAway : Leg → Who → Type 0
    IsAway leg node = (end : Side) → end_node readers leg end ≡ node → ⊥

    other_reader : (n a b : ℕ) → reader_of readers n ≡ b → (a == b) ≡ false
        → IsAway (leg_at ClientIn n) (who.In a)
    other_reader n a b is differs side.Client same = absurd cc
    other_reader n a b is differs side.Server same =
        true≢false
        (sym (ap (λ (node : Who). is_same (who.In a) node) same ∙ eq-eqb a a refl)
        ∙ ap (λ (k : ℕ). a == k) is ∙ differs)

    -- a piece goes to that node, or is none
    module _ (w : World K C S I O) (piece : List ℕ) where
      abbrev NoneElse : Leg → Dir → Type 0
      NoneElse leg way =
          (node : Who) → IsAway leg node
          → cond (is_same (at w leg (receiver way)) node) piece [] ≡ []

      abbrev Goes : Leg → Dir → Dir → Type 0
      Goes leg way dir =
          cond (same_dir way dir) piece []
          ≡ cond (is_same (at w leg (receiver way)) (end_node readers leg (receiver dir))) piece []

      itself : (n : ℕ) → cond true piece [] ≡ cond (n == n) piece []
      itself n = ap (λ t. cond t piece []) (sym (eq-eqb n n refl))

      to_reader : (n a b : ℕ) (t : Bool) → (a == b) ≡ t → reader_of readers n ≡ b
          → ((node : Who) → IsAway (leg_at ClientIn n) node
          → cond (is_same (who.In a) node) piece [] ≡ [])
          → piece ≡ cond (a == b) piece []
      to_reader n a b true e is none = ap (λ t. cond t piece []) (sym e)
      to_reader n a b false e is none =
          itself a ∙ none (who.In a) (other_reader n a b is e)
          ∙ ap (λ t. cond t piece []) (sym e)

      goes : (kind : LegKind) (n : ℕ) (way dir : Dir) → NoneElse (leg_at kind n) way
          → Goes (leg_at kind n) way dir
      goes ClientOut n U U none = itself n
      goes ClientOut n U D none = refl
      goes ClientOut n D U none = refl
      goes ClientOut n D D none = refl
      goes OutServer n U U none = refl
      goes OutServer n U D none = refl
      goes OutServer n D U none = refl
      goes OutServer n D D none = itself n
      goes InServer n U U none = refl
      goes InServer n U D none = refl
      goes InServer n D U none = refl
      goes InServer n D D none = itself n
      goes ClientIn n U U none =
          let a = reader_of w.readers n in
          let b = reader_of readers n in
          to_reader n a b (a == b) refl refl none
      goes ClientIn n U D none = refl
      goes ClientIn n D U none = refl
      goes ClientIn n D D none = refl

    -- ---- a change

    module _ (leg : Leg) (dir : Dir) where
      abbrev reads : Who
      reads = end_node readers leg (receiver dir)

      -- on the leg itself
      here : (w : World K C S I O) (way : Dir) (count : ℕ)
          → ((node : Who) → IsAway leg node → fed_by w (IsFed leg way count) node leg ≡ [])
          → fed_there w leg dir (IsFed leg way count) ≡ fed_by w (IsFed leg way count) reads leg
      here w way count none =
          let piece = (legs.take_out leg way count w.legs).1 in
          let is = same_itself leg in
          ap (λ t. cond (t && same_dir way dir) piece []) is
          ∙ goes w piece leg.kind leg.number way dir (λ node away.
          ap (λ t. cond (t && is_same (at w leg (receiver way)) node) piece []) (sym is)
          ∙ none node away)
          ∙ ap (λ t. cond (t && is_same (at w leg (receiver way)) reads) piece []) (sym is)

      at_leg : (w : World K C S I O) (other : Leg) (way : Dir) (count : ℕ)
          → (other ≡ leg) ⊎ (same_leg other leg ≡ false)
          → ((node : Who) → IsAway leg node → fed_by w (IsFed other way count) node leg ≡ [])
          → fed_there w leg dir (IsFed other way count)
          ≡ fed_by w (IsFed other way count) reads leg
      at_leg w other way count (inl same) none =
          subst (λ (l : Leg). fed_there w leg dir (IsFed l way count)
          ≡ fed_by w (IsFed l way count) reads leg) (sym same)
          (here w way count (λ node away.
          subst (λ (l : Leg). fed_by w (IsFed l way count) node leg ≡ []) same (none node away)))
      at_leg w other way count (inr e) none =
          let piece = (legs.take_out other way count w.legs).1 in
          ap (λ t. cond (t && same_dir way dir) piece []) e
          ∙ ap (λ t. cond (t && is_same (at w other (receiver way)) reads) piece []) (sym e)

      change_feeds : (w : World K C S I O) (c : Change)
          → ((node : Who) → IsAway leg node → fed_by w c node leg ≡ [])
          → fed_there w leg dir c ≡ fed_by w c reads leg
      change_feeds w (IsFed other way count) none =
          at_leg w other way count (cases_leg other leg) none
      change_feeds w c none = refl

      changes_feed : (w : World K C S I O) (cs : List Change)
          → ((node : Who) → IsAway leg node → fed_to w node leg cs ≡ [])
          → all_fed r m d w leg dir cs ≡ fed_to w reads leg cs
      changes_feed w [] none = refl
      changes_feed w (c ∷ cs) none =
          let v = changed r m d w c in
          ap₂ (λ (front rest : List ℕ). front ++ rest)
          (change_feeds w c (λ node away.
          front_none (fed_by w c node leg) (fed_to v node leg cs) (none node away)))
          (changes_feed v cs (λ node away.
          rest_none (fed_by w c node leg) (fed_to v node leg cs) (none node away)))

  -- ---- by the history

  -- nothing was fed to a node that stands at no end
  fed_away : (g : Ledger) (all : Legs) (readers : List ℕ) → AreCarried g all readers
      → (leg : Leg) (node : Who) → IsAway readers leg node → g.fed node leg ≡ []
  fed_away g all readers carried leg node away = by (g.was_up node leg) refl
    where
      by : (t : Bool) → g.was_up node leg ≡ t → g.fed node leg ≡ []
      by true e = let stands = carried.stands node leg e in absurd (away stands.0 stands.1)
      by false e = (carried.idle node leg e).1

  -- what changes fed on a leg is what the history says of its reader
  pub fed_is : (w : World K C S I O) (cs : List Change) (g : Ledger) (all : Legs)
      (readers : List ℕ) → AreCarried g all readers
      → ((node : Who) (leg : Leg) → g.fed node leg ≡ (all_noted r m d w nothing cs).fed node leg)
      → (leg : Leg) (dir : Dir)
      → all_fed r m d w leg dir cs
      ≡ (all_noted r m d w nothing cs).fed (end_node readers leg (receiver dir)) leg
  fed_is w cs g all readers carried same leg dir =
      let node = end_node readers leg (receiver dir) in
      changes_feed readers leg dir w cs (λ other away.
      sym (noted_fed w nothing other leg cs) ∙ sym (same other leg)
      ∙ fed_away g all readers carried leg other away)
      ∙ sym (noted_fed w nothing node leg cs)
