-- what happened until a front of changes is a front of what happened until all of them
use Rattle.rh_text.specs.declared.ends.Side.TheVariants as side
use Rattle.law_order.proofs.Vocabulary.{◌≡◌, ℕ, List, [], ◌∷◌, ◌++◌, refl, sym, ap, ◌∙◌, subst, map, IsPrefix}
use Rattle.rh_record.specs.declared.answer.Who.TheVariants as who
use Rattle.law_moves.proofs.Vocabulary.{prefix_more, prefix_self, prefix_trans, Cause, Course, Going, Closed, Refusing, Acts, Rules, Shell, ClosedWith, EndEvent, Event, Happens, after_end_event, after_end_events, after_event, after_events}
use Rattle.law_node_history.proofs.Vocabulary.{Rulebook, Deeds, Makers, World, Change, changed, History, acts_by, all_noted, at_place, in_place, made_by, noted, nothing, out_place, told_to}
use Rattle.law_node_causes.proofs.StaysClosed.{run_keeps, run_keeps_at_end}

module _ {K C S I O : Type 0} (r : Rulebook C S I O) (m : Makers K I O) (d : Deeds C S) where
  module _ {X : Type 0} (at : History → List X) (added : World K C S I O → Change → List X)
      (one : (u : World K C S I O) (h : History) (c : Change)
      → at (noted u h c) ≡ at h ++ added u c) where
    grown : (u : World K C S I O) (h : History) (changes : List Change)
        → IsPrefix (at h) (at (all_noted r m d u h changes))
    grown u h [] = prefix_self (at h)
    grown u h (c ∷ changes) =
        prefix_trans (at h) (at (noted u h c)) (at (all_noted r m d u h (c ∷ changes)))
        (subst (IsPrefix (at h)) (sym (one u h c)) (prefix_more (at h) (added u c)))
        (grown (changed r m d u c) (noted u h c) changes)

    grown_by : (u : World K C S I O) (h : History) (e more : List Change)
        → IsPrefix (at (all_noted r m d u h e)) (at (all_noted r m d u h (e ++ more)))
    grown_by u h [] more = grown u h more
    grown_by u h (c ∷ e) more = grown_by (changed r m d u c) (noted u h c) e more

  module _ (w : World K C S I O) (e more : List Change) where
    abbrev before : History
    before = all_noted r m d w nothing e

    abbrev after : History
    after = all_noted r m d w nothing (e ++ more)

    pub client_grown : IsPrefix before.client after.client
    client_grown =
        grown_by (λ h. h.client)
        (λ u c. map Happens (told_to u c who.Client) ++ acts_by c side.Client)
        (λ u h c. refl) w nothing e more

    pub server_grown : IsPrefix before.server after.server
    server_grown =
        grown_by (λ h. h.server)
        (λ u c. map Happens (told_to u c who.Server) ++ acts_by c side.Server)
        (λ u h c. refl) w nothing e more

    pub in_grown : (n : ℕ) → IsPrefix (before.ins n) (after.ins n)
    in_grown n =
        grown_by (λ h. h.ins n)
        (λ u c. at_place (in_place u.company n) (told_to u c (who.In n)) (made_by u c (who.In n)))
        (λ u h c. refl) w nothing e more

    pub out_grown : (n : ℕ) → IsPrefix (before.outs n) (after.outs n)
    out_grown n =
        grown_by (λ h. h.outs n)
        (λ u c.
        at_place (out_place u.company n) (told_to u c (who.Out n)) (made_by u c (who.Out n)))
        (λ u h c. refl) w nothing e more

-- ---- a node that goes on did so before

module _ {S : Type 0} (rules : Rules S) where
  events_append : (s : Shell S) (a b : List Event)
      → after_events rules s (a ++ b) ≡ after_events rules (after_events rules s a) b
  events_append s [] b = refl
  events_append s (x ∷ a) b = events_append (after_event rules s x) a b

  not_closed : (c : Course) → c ≡ Going → (why : Cause) → ClosedWith why c → ⊥
  not_closed c is why closed = subst (ClosedWith why) is closed

  pub going_before : (s : Shell S) (front all : List Event) → IsPrefix front all
      → (after_events rules s all).course ≡ Going
      → (after_events rules s front).course ≡ Going
  going_before s front all p going = by (after_events rules s front).course refl
    where
      here : Shell S
      here = after_events rules s front

      at_last : (after_events rules here p.0).course ≡ Going
      at_last =
          ap (λ (x : Shell S). x.course)
          (sym (events_append s front p.0) ∙ ap (after_events rules s) p.1)
          ∙ going

      never : (why : Cause) → ClosedWith why here.course → ⊥
      never why closed =
          not_closed (after_events rules here p.0).course at_last why
          (run_keeps rules why here p.0 closed)

      by : (c : Course) → here.course ≡ c → here.course ≡ Going
      by Going is = is
      by (Closed why) is = absurd (never why (subst (ClosedWith why) (sym is) refl))
      by (Refusing why leg rest) is = absurd (never why (subst (ClosedWith why) (sym is) refl))

  module _ (acts : Acts S) where
    end_append : (s : Shell S) (a b : List EndEvent)
        → after_end_events rules acts s (a ++ b)
        ≡ after_end_events rules acts (after_end_events rules acts s a) b
    end_append s [] b = refl
    end_append s (x ∷ a) b = end_append (after_end_event rules acts s x) a b

    pub end_going_before : (s : Shell S) (front all : List EndEvent) → IsPrefix front all
        → (after_end_events rules acts s all).course ≡ Going
        → (after_end_events rules acts s front).course ≡ Going
    end_going_before s front all p going = by (after_end_events rules acts s front).course refl
      where
        here : Shell S
        here = after_end_events rules acts s front

        at_last : (after_end_events rules acts here p.0).course ≡ Going
        at_last =
            ap (λ (x : Shell S). x.course)
            (sym (end_append s front p.0) ∙ ap (after_end_events rules acts s) p.1)
            ∙ going

        never : (why : Cause) → ClosedWith why here.course → ⊥
        never why closed =
            not_closed (after_end_events rules acts here p.0).course at_last why
            (run_keeps_at_end rules why acts here p.0 closed)

        by : (c : Course) → here.course ≡ c → here.course ≡ Going
        by Going is = is
        by (Closed why) is = absurd (never why (subst (ClosedWith why) (sym is) refl))
        by (Refusing why leg rest) is =
            absurd (never why (subst (ClosedWith why) (sym is) refl))
