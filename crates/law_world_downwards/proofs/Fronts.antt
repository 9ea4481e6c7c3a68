-- fronts of changes: what happened until then, and that nodes that go on did so then
use Rattle.rh_text.specs.declared.ends.Side.TheVariants as side
use Rattle.rh_record.specs.declared.answer.Who.TheVariants as who
use Rattle.law_order.proofs.Vocabulary.{◌≡◌, ◌⊎◌, inl, inr, ◌&&◌, ℕ, List, [], ◌∷◌, ◌++◌, Bool, true, refl, sym, ap, ap₂, ◌∙◌, subst, map, and_parts, list_all, IsPrefix}
use Rattle.law_moves.proofs.Vocabulary.{nil_front, prefix_more, prefix_self, prefix_trans, Cause, Course, Going, Closed, Refusing, Acts, Rules, Shell, ClosedWith, EndEvent, Event, Happens, after_end_events, after_events}
use Rattle.law_node_history.proofs.Vocabulary.{Rulebook, Deeds, Makers, World, AreAllowed, Change, all_changed, changed, History, acts_by, all_noted, at_place, made_by, noted, nothing, out_place, told_to}
use Rattle.law_node_history.proofs.Lemmas.{end_events_append, events_append}
use Rattle.law_node_causes.proofs.StaysClosed.{run_keeps, run_keeps_at_end}

-- ---- lists

cons_either : {X : Type 0} (x y : X) (a done all : List X) → x ≡ y
    → IsPrefix a done ⊎ (a ≡ all) → IsPrefix (x ∷ a) (y ∷ done) ⊎ (x ∷ a ≡ y ∷ all)
cons_either x y a done all same (inl p) = inl (p.0, ap₂ (λ z l. z ∷ l) same p.1)
cons_either x y a done all same (inr e) = inr (ap₂ (λ z l. z ∷ l) same e)

-- a front of a list that grew by one is a front of it as it was, or all of it
pub front_of_more : {X : Type 0} (a done : List X) (c : X) → IsPrefix a (done ++ c ∷ [])
    → IsPrefix a done ⊎ (a ≡ done ++ c ∷ [])
front_of_more [] done c p = inl (done, refl)
front_of_more (x ∷ a) [] c p =
    let all : x ∷ (a ++ p.0) ≡ c ∷ [] = p.1 in
    let same : x ≡ c = cc in
    let rest : a ++ p.0 ≡ [] = cc in
    inr (ap₂ (λ z l. z ∷ l) same (nil_front a p.0 rest))
front_of_more (x ∷ a) (y ∷ done) c p =
    let all : x ∷ (a ++ p.0) ≡ y ∷ (done ++ c ∷ []) = p.1 in
    let same : x ≡ y = cc in
    let rest : a ++ p.0 ≡ done ++ c ∷ [] = cc in
    cons_either x y a done (done ++ c ∷ []) same (front_of_more a done c (p.0, rest))

pub all_front : {X : Type 0} (test : X → Bool) (a b : List X) → list_all test (a ++ b) ≡ true
    → list_all test a ≡ true
all_front test [] b e = refl
all_front test (x ∷ a) b e =
    let parts = and_parts (test x) (list_all test (a ++ b)) e in
    ap (λ (t : Bool). t && list_all test a) parts.0 ∙ all_front test a b parts.1

module _ {K C S I O : Type 0} (r : Rulebook C S I O) (m : Makers K I O) (d : Deeds C S) where
  pub allowed_front : (u : World K C S I O) (a b : List Change) → AreAllowed r m d u (a ++ b)
      → AreAllowed r m d u a
  allowed_front u [] b allowed = tt
  allowed_front u (c ∷ a) b allowed = (
    allowed.0,
    allowed_front (changed r m d u c) a b allowed.1,
  )

  -- ---- what happened until then

  module _ {X : Type 0} (at : History → List X) (added : World K C S I O → Change → List X)
      (one : (u : World K C S I O) (h : History) (c : Change)
      → at (noted u h c) ≡ at h ++ added u c) where
    grown : (u : World K C S I O) (h : History) (changes : List Change)
        → IsPrefix (at h) (at (all_noted r m d u h changes))
    grown u h [] = prefix_self (at h)
    grown u h (c ∷ changes) =
        prefix_trans (at h) (at (noted u h c)) (at (all_noted r m d u h (c ∷ changes)))
        (subst (IsPrefix (at h)) (sym (one u h c)) (prefix_more (at h) (added u c)))
        (grown (changed r m d u c) (noted u h c) changes)

    grown_by : (u : World K C S I O) (h : History) (e more : List Change)
        → IsPrefix (at (all_noted r m d u h e)) (at (all_noted r m d u h (e ++ more)))
    grown_by u h [] more = grown u h more
    grown_by u h (c ∷ e) more = grown_by (changed r m d u c) (noted u h c) e more

  module _ (w : World K C S I O) (e more : List Change) where
    abbrev before : History
    before = all_noted r m d w nothing e

    abbrev after : History
    after = all_noted r m d w nothing (e ++ more)

    pub server_grown : IsPrefix before.server after.server
    server_grown =
        grown_by (λ h. h.server)
        (λ u c. map Happens (told_to u c who.Server) ++ acts_by c side.Server)
        (λ u h c. refl) w nothing e more

    pub out_grown : (n : ℕ) → IsPrefix (before.outs n) (after.outs n)
    out_grown n =
        grown_by (λ h. h.outs n)
        (λ u c.
        at_place (out_place u.company n) (told_to u c (who.Out n)) (made_by u c (who.Out n)))
        (λ u h c. refl) w nothing e more

  -- ---- one more

  pub noted_more : (u : World K C S I O) (h : History) (cs ds : List Change)
      → all_noted r m d u h (cs ++ ds)
      ≡ all_noted r m d (all_changed r m d u cs) (all_noted r m d u h cs) ds
  noted_more u h [] ds = refl
  noted_more u h (c ∷ cs) ds = noted_more (changed r m d u c) (noted u h c) cs ds

-- ---- a node that goes on did so before

module _ {S : Type 0} (rules : Rules S) where
  not_closed : (c : Course) → c ≡ Going → (why : Cause) → ClosedWith why c → ⊥
  not_closed c is why closed = subst (ClosedWith why) is closed

  pub going_before : (s : Shell S) (front all : List Event) → IsPrefix front all
      → (after_events rules s all).course ≡ Going
      → (after_events rules s front).course ≡ Going
  going_before s front all p going = by (after_events rules s front).course refl
    where
      here : Shell S
      here = after_events rules s front

      at_last : (after_events rules here p.0).course ≡ Going
      at_last =
          ap (λ (x : Shell S). x.course)
          (sym (events_append rules s front p.0) ∙ ap (after_events rules s) p.1)
          ∙ going

      never : (why : Cause) → ClosedWith why here.course → ⊥
      never why closed =
          not_closed (after_events rules here p.0).course at_last why
          (run_keeps rules why here p.0 closed)

      by : (c : Course) → here.course ≡ c → here.course ≡ Going
      by Going is = is
      by (Closed why) is = absurd (never why (subst (ClosedWith why) (sym is) refl))
      by (Refusing why leg rest) is = absurd (never why (subst (ClosedWith why) (sym is) refl))

  module _ (acts : Acts S) where
    pub end_going_before : (s : Shell S) (front all : List EndEvent) → IsPrefix front all
        → (after_end_events rules acts s all).course ≡ Going
        → (after_end_events rules acts s front).course ≡ Going
    end_going_before s front all p going = by (after_end_events rules acts s front).course refl
      where
        here : Shell S
        here = after_end_events rules acts s front

        at_last : (after_end_events rules acts here p.0).course ≡ Going
        at_last =
            ap (λ (x : Shell S). x.course)
            (sym (end_events_append rules acts s front p.0)
            ∙ ap (after_end_events rules acts s) p.1)
            ∙ going

        never : (why : Cause) → ClosedWith why here.course → ⊥
        never why closed =
            not_closed (after_end_events rules acts here p.0).course at_last why
            (run_keeps_at_end rules why acts here p.0 closed)

        by : (c : Course) → here.course ≡ c → here.course ≡ Going
        by Going is = is
        by (Closed why) is = absurd (never why (subst (ClosedWith why) (sym is) refl))
        by (Refusing why leg rest) is =
            absurd (never why (subst (ClosedWith why) (sym is) refl))
