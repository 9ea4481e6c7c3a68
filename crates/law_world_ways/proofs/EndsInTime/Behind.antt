-- what was over before changes counts for them as well: so lists of changes are put behind each
-- other
use Rattle.law_order.proofs.Vocabulary.{◌≡◌, ◌++◌, List, [], ◌∷◌, Some, None, refl, ap, subst, ◌⊎◌, inl, inr, IfSome, Option}
use Rattle.law_moves.proofs.Vocabulary.{Leg}
use Rattle.law_node_history.proofs.Vocabulary.{Rulebook, Deeds, Makers, World, Change, all_changed, changed}
use Rattle.law_world_ways.specs.EndsInTime.InTime.{AllEndInTime, IsOver, WasOver, ended_by}

-- what holds of an option's value may be less
some_wider : (o : Option Leg) (P Q : Leg → Type 0) → ((leg : Leg) → P leg → Q leg)
    → IfSome o P → IfSome o Q
some_wider None P Q wider h = tt
some_wider (Some leg) P Q wider h = wider leg h

-- no leg
abbrev pub NoLeg : Leg → Type 0
NoLeg leg = ⊥

module _ {K C S I O : Type 0} (r : Rulebook C S I O) (m : Makers K I O) (d : Deeds C S) where
  -- the leg was over before, or is over now
  abbrev pub OrNow : (Leg → Type 0) → World K C S I O → Leg → Type 0
  OrNow P w leg = P leg ⊎ IsOver r w leg

  -- each change ends a leg only where that was over before all of them, or is or was over
  abbrev pub EndBehind : (Leg → Type 0) → World K C S I O → List Change → Type 0
  EndBehind P w [] = Unit {0}
  EndBehind P w (c ∷ cs) =
      IfSome (ended_by c) (OrNow P w) × EndBehind (OrNow P w) (changed r m d w c) cs

  now_wider : (P Q : Leg → Type 0) (w : World K C S I O) → ((leg : Leg) → P leg → Q leg)
      → (leg : Leg) → OrNow P w leg → OrNow Q w leg
  now_wider P Q w wider leg (inl was) = inl (wider leg was)
  now_wider P Q w wider leg (inr over) = inr over

  pub ends_wider : (P Q : Leg → Type 0) → ((leg : Leg) → P leg → Q leg)
      → (w : World K C S I O) (cs : List Change) → EndBehind P w cs → EndBehind Q w cs
  ends_wider P Q wider w [] h = tt
  ends_wider P Q wider w (c ∷ cs) h = (
    some_wider (ended_by c) (OrNow P w) (OrNow Q w) (now_wider P Q w wider) h.0,
    ends_wider (OrNow P w) (OrNow Q w) (now_wider P Q w wider) (changed r m d w c) cs h.1,
  )

  -- what is over now need not be known before
  over_now : (P Q : Leg → Type 0) (w : World K C S I O)
      → ((leg : Leg) → P leg → OrNow Q w leg) → (leg : Leg) → OrNow P w leg → OrNow Q w leg
  over_now P Q w over leg (inl was) = over leg was
  over_now P Q w over leg (inr now) = inr now

  pub ends_over : (P Q : Leg → Type 0) (w : World K C S I O)
      → ((leg : Leg) → P leg → OrNow Q w leg) → (cs : List Change) → EndBehind P w cs
      → EndBehind Q w cs
  ends_over P Q w over [] h = tt
  ends_over P Q w over (c ∷ cs) h = (
    some_wider (ended_by c) (OrNow P w) (OrNow Q w) (over_now P Q w over) h.0,
    ends_wider (OrNow P w) (OrNow Q w) (over_now P Q w over) (changed r m d w c) cs h.1,
  )

  pub ends_append : (P : Leg → Type 0) (w : World K C S I O) (cs ds : List Change)
      → EndBehind P w cs → EndBehind P (all_changed r m d w cs) ds → EndBehind P w (cs ++ ds)
  ends_append P w [] ds a b = b
  ends_append P w (c ∷ cs) ds a b = (
    a.0,
    ends_append (OrNow P w) (changed r m d w c) cs ds a.1
        (ends_wider P (OrNow P w) (λ leg was. inl was) (all_changed r m d (changed r m d w c) cs)
        ds b),
  )

  -- ---- as each change of them sees it

  abbrev Saw : (Leg → Type 0) → World K C S I O → List Change → Leg → Type 0
  Saw P w before leg = P leg ⊎ WasOver r m d w before leg

  first_saw : (P : Leg → Type 0) (w : World K C S I O) (leg : Leg) → OrNow P w leg
      → Saw P w [] leg
  first_saw P w leg (inl was) = inl was
  first_saw P w leg (inr over) =
      inr (record { earlier = []; later = []; front = refl; over = over })

  more_saw : (P : Leg → Type 0) (w : World K C S I O) (c : Change) (before : List Change)
      (leg : Leg) → Saw (OrNow P w) (changed r m d w c) before leg → Saw P w (c ∷ before) leg
  more_saw P w c before leg (inl (inl was)) = inl was
  more_saw P w c before leg (inl (inr over)) =
      inr (record { earlier = []; later = c ∷ before; front = refl; over = over })
  more_saw P w c before leg (inr saw) =
      inr (record {
        earlier = c ∷ saw.earlier;
        later = saw.later;
        front = ap (λ (cs : List Change). c ∷ cs) saw.front;
        over = saw.over;
      })

  each_saw : (P : Leg → Type 0) (w : World K C S I O) (before : List Change) (change : Change)
      (behind : List Change) → EndBehind P w (before ++ change ∷ behind)
      → IfSome (ended_by change) (Saw P w before)
  each_saw P w [] change behind h =
      some_wider (ended_by change) (OrNow P w) (Saw P w []) (first_saw P w) h.0
  each_saw P w (c ∷ before) change behind h =
      some_wider (ended_by change) (Saw (OrNow P w) (changed r m d w c) before)
      (Saw P w (c ∷ before)) (more_saw P w c before)
      (each_saw (OrNow P w) (changed r m d w c) before change behind h.1)

  none_before : (w : World K C S I O) (before : List Change) (leg : Leg)
      → Saw NoLeg w before leg → WasOver r m d w before leg
  none_before w before leg (inl never) = absurd never
  none_before w before leg (inr was) = was

  pub all_in_time : (w : World K C S I O) (cs : List Change) → EndBehind NoLeg w cs
      → AllEndInTime r m d w cs
  all_in_time w cs h before change behind split =
      some_wider (ended_by change) (Saw NoLeg w before) (WasOver r m d w before)
      (none_before w before)
      (each_saw NoLeg w before change behind
      (subst (λ (list : List Change). EndBehind NoLeg w list) split h))

  -- ---- and the other way round

  now_front : (w : World K C S I O) (leg : Leg) (earlier later : List Change)
      → [] ≡ earlier ++ later → IsOver r (all_changed r m d w earlier) leg → IsOver r w leg
  now_front w leg [] later front over = over
  now_front w leg (c ∷ earlier) later front over = absurd cc

  first_now : (P : Leg → Type 0) (w : World K C S I O) (leg : Leg) → Saw P w [] leg
      → OrNow P w leg
  first_now P w leg (inl was) = inl was
  first_now P w leg (inr saw) =
      inr (now_front w leg saw.earlier saw.later saw.front saw.over)

  less_front : (P : Leg → Type 0) (w : World K C S I O) (c : Change) (before : List Change)
      (leg : Leg) (earlier later : List Change) → c ∷ before ≡ earlier ++ later
      → IsOver r (all_changed r m d w earlier) leg
      → Saw (OrNow P w) (changed r m d w c) before leg
  less_front P w c before leg [] later front over = inl (inr over)
  less_front P w c before leg (x ∷ earlier) later front over =
      let same : x ≡ c = cc in
      inr (record {
        earlier = earlier;
        later = later;
        front = cc;
        over =
            subst (λ y. IsOver r (all_changed r m d (changed r m d w y) earlier) leg) same over;
      })

  less_saw : (P : Leg → Type 0) (w : World K C S I O) (c : Change) (before : List Change)
      (leg : Leg) → Saw P w (c ∷ before) leg → Saw (OrNow P w) (changed r m d w c) before leg
  less_saw P w c before leg (inl was) = inl (inl was)
  less_saw P w c before leg (inr saw) =
      less_front P w c before leg saw.earlier saw.later saw.front saw.over

  all_behind : (P : Leg → Type 0) (w : World K C S I O) (cs : List Change)
      → ((before : List Change) (change : Change) (behind : List Change)
      → cs ≡ before ++ change ∷ behind → IfSome (ended_by change) (Saw P w before))
      → EndBehind P w cs
  all_behind P w [] saw = tt
  all_behind P w (c ∷ cs) saw = (
    some_wider (ended_by c) (Saw P w []) (OrNow P w) (first_now P w) (saw [] c cs refl),
    all_behind (OrNow P w) (changed r m d w c) cs (λ before change behind split.
        some_wider (ended_by change) (Saw P w (c ∷ before))
        (Saw (OrNow P w) (changed r m d w c) before) (less_saw P w c before)
        (saw (c ∷ before) change behind (ap (λ (list : List Change). c ∷ list) split))),
  )

  pub in_time_behind : (w : World K C S I O) (cs : List Change) → AllEndInTime r m d w cs
      → EndBehind NoLeg w cs
  in_time_behind w cs all =
      all_behind NoLeg w cs (λ before change behind split.
      some_wider (ended_by change) (WasOver r m d w before) (Saw NoLeg w before)
      (λ leg was. inr was) (all before change behind split))
