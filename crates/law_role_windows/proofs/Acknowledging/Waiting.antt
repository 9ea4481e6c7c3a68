-- the packets that wait for a leg, and what each of them is
use Rattle.law_order.proofs.Vocabulary.{◌≡◌, Bool, true, false, nat_lt, List, [], ◌∷◌, Some, refl, if◌then◌else◌, IfSome, find, AllByRecursion, list_any}
use Rattle.law_moves.proofs.Vocabulary.{by_test, Named, each_push, Due, Forwarded, Waiting, better, edge_of, merged, takes, with_due, pushed, to_forward, count, forwarded, without_first}

-- ---- what is so of each packet that waits

module _ (P : Named → Type 0) where
  abbrev pub EachIs : List Due → Type 0
  EachIs dues = AllByRecursion (λ (due : Due). P due.packet) dues

  better_is : (due : Due) (packet : Named) → P packet → P due.packet → P (better due packet).packet
  better_is due packet new old =
      by_test (λ (d : Due). P d.packet) (nat_lt (edge_of packet) (edge_of due.packet)) due
      (record { packet = packet; origin = due.origin }) (λ t. old) (λ t. new)

  merged_are : (dues : List Due) (packet : Named) → P packet → EachIs dues
      → EachIs (merged dues packet)
  merged_are [] packet new old = tt
  merged_are (due ∷ dues) packet new old =
      by_test EachIs (takes packet due) (better due packet ∷ dues) (due ∷ merged dues packet)
      (λ t. (better_is due packet new old.0, old.1))
      (λ t. (old.0, merged_are dues packet new old.1))

  -- where one more waits that is so, each is; else the same ones wait
  abbrev pub Joins : Named → Waiting → Waiting × Bool → Type 0
  Joins packet w (others, true) = P packet → EachIs w.due → EachIs others.due
  Joins packet w (others, false) = others ≡ w

  pub forwarded_joins : (w : Waiting) (packet : Named) → Joins packet w (forwarded w packet)
  forwarded_joins w packet =
      by_test (Joins packet w) (list_any (takes packet) w.due)
      (with_due w (merged w.due packet), true)
      (if nat_lt (count Forwarded w.due) w.room then (pushed w (to_forward packet), true)
      else (w, false))
      (λ t new old. merged_are w.due packet new old)
      (λ t. by_test (Joins packet w) (nat_lt (count Forwarded w.due) w.room)
      (pushed w (to_forward packet), true) (w, false)
      (λ u new old. each_push (λ (due : Due). P due.packet) w.due (to_forward packet) old new)
      (λ u. refl))

  -- the first that may go goes
  pub others_are : (may_go : Due → Bool) (dues : List Due) → EachIs dues
      → EachIs (without_first may_go dues)
  others_are may_go [] old = tt
  others_are may_go (due ∷ dues) old =
      by_test EachIs (may_go due) dues (due ∷ without_first may_go dues) (λ t. old.1)
      (λ t. (old.0, others_are may_go dues old.1))

  pub found_is : (may_go : Due → Bool) (dues : List Due) → EachIs dues
      → IfSome (find may_go dues) (λ (due : Due). P due.packet)
  found_is may_go [] old = tt
  found_is may_go (due ∷ dues) old =
      by_test (λ o. IfSome o (λ (d : Due). P d.packet)) (may_go due) (Some due)
      (find may_go dues) (λ t. old.0) (λ t. found_is may_go dues old.1)
