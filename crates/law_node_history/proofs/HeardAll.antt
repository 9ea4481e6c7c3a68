-- a node that is there heard all that it was fed
use Rattle.law_order.proofs.Vocabulary.{◌≡◌, ℕ, List, [], ◌∷◌, ◌++◌, Bool, true, false, ◌&&◌, ◌||◌, if◌then◌else◌, get_or, refl, sym, ap, ap₂, ◌∙◌, subst, ◌⊎◌, inl, inr, append_assoc, nat_lt, ◌==◌, true≢false, cases_eq, ne_eqb, append-nil, IsPrefix}
use Rattle.rh_company.specs.Places as places
use Rattle.law_moves.proofs.Vocabulary.{Leg, Rules, Shell, same_leg}
use Rattle.law_moves.specs.Moving as moving
use Rattle.law_node_history.proofs.Vocabulary.{change, put_at, Place, Absent, Here, Gone, is_working, one_fewer, at_place, IsRun, heard_on, IsHeard}
use Rattle.law_node_history.proofs.Appended.{heard_append}
use Rattle.law_node_history.proofs.Numbers.{changed_here, changes_elsewhere, put_here, put_elsewhere}
use Rattle.law_node_history.proofs.Runs.{Runs}

-- ---- what an event is heard as

abbrev pub is_hears : moving.Event → Bool
is_hears (moving.Hears leg piece) = true
is_hears event = false

pub unheard : (leg : Leg) (e : moving.Event) → is_hears e ≡ false → (b : Bool)
    → heard_on leg (if b then e ∷ [] else []) ≡ []
unheard leg e q false = refl
unheard leg (moving.Hears other piece) q true = absurd (true≢false q)
unheard leg e q true = refl

pub heard_piece : (leg other : Leg) (piece : List ℕ) (b : Bool)
    → heard_on leg (if b then moving.Hears other piece ∷ [] else [])
    ≡ (if same_leg other leg && b then piece else [])
heard_piece leg other piece false = by (same_leg other leg)
  where
    by : (a : Bool) → ◌≡◌ {A = List ℕ} [] (if a && false then piece else [])
    by true = refl
    by false = refl
heard_piece leg other piece true = by (same_leg other leg)
  where
    by : (a : Bool) → (if a then piece else []) ++ [] ≡ (if a && true then piece else [])
    by true = append-nil piece
    by false = refl

-- ---- the place of a proxy

prefix_of_same : (a b : List ℕ) → a ≡ b → IsPrefix a b
prefix_of_same a b e = ([], append-nil a ∙ e)

prefix_on : (a b c : List ℕ) → IsPrefix a b → IsPrefix a (b ++ c)
prefix_on a b c p = (p.0 ++ c, sym (append_assoc a p.0 c) ∙ ap (λ x. x ++ c) p.1)

module _ {S : Type 0} (rules : Rules S) (leg : Leg) where
  -- the proxy that is there heard this piece; none is fed where none is
  pub hear_on : (p q : Place S) (events told : List moving.Event) (fed piece : List ℕ)
      → Runs rules p q told → heard_on leg told ≡ piece → (p ≡ Absent → piece ≡ [])
      → IsHeard p (heard_on leg events) fed
      → IsHeard q (heard_on leg (events ++ at_place p told [])) (fed ++ piece)
  hear_on Absent q events told fed piece run is none h =
      subst (λ (x : Place S). IsHeard x (heard_on leg (events ++ [])) (fed ++ piece)) (sym run)
      (ap₂ (λ a b. a ++ b) h (none refl))
  hear_on (Here node legs) q events told fed piece run is none h =
      subst (λ (x : Place S). IsHeard x (heard_on leg (events ++ told)) (fed ++ piece)) (sym run.1)
      (heard_append leg events told ∙ ap₂ (λ a b. a ++ b) h is)
  hear_on (Gone now) q events told fed piece run is none h =
      subst (λ (x : Place S). IsHeard x (heard_on leg (events ++ [])) (fed ++ piece)) (sym run)
      (subst (λ x. IsPrefix x (fed ++ piece)) (sym (ap (heard_on leg) (append-nil events)))
      (prefix_on (heard_on leg events) fed piece h))

  -- nothing is heard
  pub hear_none : (p : Place S) (events : List moving.Event) (fed : List ℕ)
      → IsHeard p (heard_on leg events) fed
      → IsHeard p (heard_on leg (events ++ at_place p [] [])) (fed ++ [])
  hear_none Absent events fed h = append-nil fed ∙ h
  hear_none (Here node legs) events fed h =
      ap (heard_on leg) (append-nil events) ∙ h ∙ sym (append-nil fed)
  hear_none (Gone now) events fed h =
      subst (λ x. IsPrefix x (fed ++ [])) (sym (ap (heard_on leg) (append-nil events)))
      (prefix_on (heard_on leg events) fed [] h)

  -- a leg is not up any more
  hear_left : (p : Place S) (heard fed : List ℕ) → IsHeard p heard fed
      → IsHeard (places.leave rules p) heard fed
  hear_left Absent heard fed h = h
  hear_left (Here node legs) heard fed h = by (nat_lt 1 legs || is_working rules node)
    where
      by : (t : Bool) → IsHeard (if t then Here node (one_fewer legs) else Gone node.now) heard fed
      by true = h
      by false = prefix_of_same heard fed h
  hear_left (Gone now) heard fed h = h

  pub hear_leaving : (list : List (Place S)) (k n : ℕ) (events : List moving.Event)
      (fed : List ℕ) → IsHeard (get_or list n Absent) (heard_on leg events) fed
      → IsHeard (get_or (change (places.leave rules) list k) n Absent)
      (heard_on leg (events ++ at_place (get_or list n Absent) [] [])) (fed ++ [])
  hear_leaving list k n events fed h = by (cases_eq n k)
    where
      old : IsHeard (get_or list n Absent)
          (heard_on leg (events ++ at_place (get_or list n Absent) [] [])) (fed ++ [])
      old = hear_none (get_or list n Absent) events fed h

      by : (n ≡ k) ⊎ (n ≡ k → ⊥)
          → IsHeard (get_or (change (places.leave rules) list k) n Absent)
          (heard_on leg (events ++ at_place (get_or list n Absent) [] [])) (fed ++ [])
      by (inl same) =
          subst (λ (q : Place S). IsHeard q
          (heard_on leg (events ++ at_place (get_or list n Absent) [] [])) (fed ++ []))
          (sym (ap (λ j. get_or (change (places.leave rules) list k) j Absent) same
          ∙ changed_here Absent (places.leave rules) refl list k
          ∙ ap (λ j. places.leave rules (get_or list j Absent)) (sym same)))
          (hear_left (get_or list n Absent)
          (heard_on leg (events ++ at_place (get_or list n Absent) [] [])) (fed ++ []) old)
      by (inr other) =
          subst (λ (q : Place S). IsHeard q
          (heard_on leg (events ++ at_place (get_or list n Absent) [] [])) (fed ++ []))
          (sym (changes_elsewhere Absent (places.leave rules) list k n other)) old

  -- a proxy that is made was fed nothing, and hears the moment
  pub hear_made : (make : ℕ → Shell S) (list : List (Place S)) (k now : ℕ) (new : Place S)
      → ((heard fed : List ℕ) → heard ≡ fed → IsHeard new heard fed)
      → get_or list k Absent ≡ Absent → (n : ℕ) (events : List moving.Event) (fed : List ℕ)
      → IsRun rules (make n) events (get_or list n Absent)
      → IsHeard (get_or list n Absent) (heard_on leg events) fed
      → IsHeard (get_or (put_at Absent list k new) n Absent)
      (heard_on leg (events ++ at_place (get_or list n Absent) []
      (if k == n then moving.Ticks now ∷ [] else []))) (fed ++ [])
  hear_made make list k now new is absent n events fed run h = by (cases_eq k n)
    where
      only_moment : (b : Bool) → events ≡ [] → fed ≡ [] → (p : Place S) → p ≡ Absent
          → heard_on leg (events ++ at_place p [] (if b then moving.Ticks now ∷ [] else []))
          ≡ fed ++ []
      only_moment b no_events no_fed p e =
          ap (λ (q : Place S). heard_on leg
          (events ++ at_place q [] (if b then moving.Ticks now ∷ [] else []))) e
          ∙ heard_append leg events (if b then moving.Ticks now ∷ [] else [])
          ∙ ap₂ (λ x y. x ++ y) (ap (heard_on leg) no_events ∙ sym no_fed)
          (unheard leg (moving.Ticks now) refl b)

      by : (k ≡ n) ⊎ (k ≡ n → ⊥)
          → IsHeard (get_or (put_at Absent list k new) n Absent)
          (heard_on leg (events ++ at_place (get_or list n Absent) []
          (if k == n then moving.Ticks now ∷ [] else []))) (fed ++ [])
      by (inl same) =
          let here : get_or list n Absent ≡ Absent =
          ap (λ j. get_or list j Absent) (sym same) ∙ absent in
          let no_events : events ≡ [] =
          subst (λ (p : Place S). IsRun rules (make n) events p) here run in
          let no_fed : fed ≡ [] =
          subst (λ (p : Place S). IsHeard p (heard_on leg events) fed) here h in
          subst (λ (q : Place S). IsHeard q (heard_on leg (events
          ++ at_place (get_or list n Absent) []
          (if k == n then moving.Ticks now ∷ [] else []))) (fed ++ []))
          (sym (ap (λ j. get_or (put_at Absent list k new) j Absent) (sym same)
          ∙ put_here Absent list k new))
          (is (heard_on leg (events ++ at_place (get_or list n Absent) []
          (if k == n then moving.Ticks now ∷ [] else []))) (fed ++ [])
          (only_moment (k == n) no_events no_fed (get_or list n Absent) here))
      by (inr other) =
          subst (λ (b : Bool). IsHeard (get_or (put_at Absent list k new) n Absent)
          (heard_on leg (events ++ at_place (get_or list n Absent) []
          (if b then moving.Ticks now ∷ [] else []))) (fed ++ [])) (sym (ne_eqb k n other))
          (subst (λ (q : Place S). IsHeard q
          (heard_on leg (events ++ at_place (get_or list n Absent) [] [])) (fed ++ []))
          (sym (put_elsewhere Absent list k n new (λ e. other (sym e))))
          (hear_none (get_or list n Absent) events fed h))
