-- what passed an end by events behind events
use Rattle.law_order.proofs.Vocabulary.{◌≡◌, ◌++◌, ℕ, List, [], ◌∷◌, map, refl, sym, ap, ◌∙◌, append_assoc}
use Rattle.law_moves.proofs.Vocabulary.{Rules, Acts, Shell, EndEvent, Happens, IsGiven, IsTaken, IsClosed, IsRecycled, after_events, after_event, after_end_event, after_end_events}
use Rattle.law_moves.specs.Moving as moving
use Rattle.law_node_streams.specs.Streams.{all_given, given_by, all_taken, taken_by}
use Rattle.law_world_reports.proofs.Vocabulary.{all_stopped}

-- for a log of what passed in each event, and nothing in one that just happens
module _ {S : Type 0} (rules : Rules S) (acts : Acts S)
    (one : Shell S → EndEvent → List (List ℕ)) (all : Shell S → List EndEvent → List (List ℕ))
    (none : (s : Shell S) → all s [] ≡ [])
    (more : (s : Shell S) (e : EndEvent) (es : List EndEvent)
    → all s (e ∷ es) ≡ one s e ++ all (after_end_event rules acts s e) es)
    (quiet : (s : Shell S) (e : moving.Event) → one s (Happens e) ≡ []) where
  passed_append : (s : Shell S) (xs ys : List EndEvent)
      → all s (xs ++ ys) ≡ all s xs ++ all (after_end_events rules acts s xs) ys
  passed_append s [] ys = sym (ap (λ passed. passed ++ all s ys) (none s))
  passed_append s (x ∷ xs) ys =
      let t = after_end_event rules acts s x in
      more s x (xs ++ ys)
      ∙ ap (λ passed. one s x ++ passed) (passed_append t xs ys)
      ∙ sym (append_assoc (one s x) (all t xs) (all (after_end_events rules acts t xs) ys))
      ∙ sym (ap (λ passed. passed ++ all (after_end_events rules acts t xs) ys) (more s x xs))

  -- behind the events that made of a node what it is
  passed_more : (s t : Shell S) (xs ys : List EndEvent) → t ≡ after_end_events rules acts s xs
      → all s (xs ++ ys) ≡ all s xs ++ all t ys
  passed_more s t xs ys is =
      passed_append s xs ys ∙ ap (λ now. all s xs ++ all now ys) (sym is)

  -- where no end acts
  passed_quiet : (s : Shell S) (es : List moving.Event) (more_acts : List EndEvent)
      → more_acts ≡ [] → all s (map Happens es ++ more_acts) ≡ []
  passed_quiet s [] more_acts is = ap (all s) is ∙ none s
  passed_quiet s (e ∷ es) more_acts is =
      let t = after_event rules s e in
      more s (Happens e) (map Happens es ++ more_acts)
      ∙ ap (λ passed. passed ++ all t (map Happens es ++ more_acts)) (quiet s e)
      ∙ passed_quiet t es more_acts is

module _ {S : Type 0} (rules : Rules S) (acts : Acts S) where
  pub given_more : (s t : Shell S) (xs ys : List EndEvent) → t ≡ after_end_events rules acts s xs
      → all_given rules acts s (xs ++ ys)
      ≡ all_given rules acts s xs ++ all_given rules acts t ys
  given_more =
      passed_more rules acts (given_by acts) (all_given rules acts) (λ s. refl)
      (λ s e es. refl) (λ s e. refl)

  pub given_quiet : (s : Shell S) (es : List moving.Event) (more_acts : List EndEvent)
      → more_acts ≡ [] → all_given rules acts s (map Happens es ++ more_acts) ≡ []
  given_quiet =
      passed_quiet rules acts (given_by acts) (all_given rules acts) (λ s. refl)
      (λ s e es. refl) (λ s e. refl)

  pub taken_more : (s t : Shell S) (xs ys : List EndEvent) → t ≡ after_end_events rules acts s xs
      → all_taken rules acts s (xs ++ ys)
      ≡ all_taken rules acts s xs ++ all_taken rules acts t ys
  taken_more =
      passed_more rules acts (taken_by acts) (all_taken rules acts) (λ s. refl)
      (λ s e es. refl) (λ s e. refl)

  pub taken_quiet : (s : Shell S) (es : List moving.Event) (more_acts : List EndEvent)
      → more_acts ≡ [] → all_taken rules acts s (map Happens es ++ more_acts) ≡ []
  taken_quiet =
      passed_quiet rules acts (taken_by acts) (all_taken rules acts) (λ s. refl)
      (λ s e es. refl) (λ s e. refl)

-- ---- what tells an end to give no more

pub stopped_more : (xs ys : List EndEvent)
    → all_stopped (xs ++ ys) ≡ all_stopped xs ++ all_stopped ys
stopped_more [] ys = refl
stopped_more (Happens event ∷ xs) ys = stopped_more xs ys
stopped_more (IsGiven pdu ∷ xs) ys = stopped_more xs ys
stopped_more (IsTaken ∷ xs) ys = stopped_more xs ys
stopped_more (IsClosed ∷ xs) ys = ap (λ behind. [] ∷ behind) (stopped_more xs ys)
stopped_more (IsRecycled ∷ xs) ys = stopped_more xs ys

pub stopped_quiet : (es : List moving.Event) (acts : List EndEvent) → acts ≡ []
    → all_stopped (map Happens es ++ acts) ≡ []
stopped_quiet [] acts is = ap all_stopped is
stopped_quiet (e ∷ es) acts is = stopped_quiet es acts is
