-- the packets that wait for the is leg, and what is so of each of them
use Rattle.law_order.proofs.Vocabulary.{◌≡◌, Bool, true, false, nat_lt, List, [], ◌∷◌, refl, if◌then◌else◌, AllByRecursion, list_any}
use Rattle.law_moves.proofs.Vocabulary.{by_test, Named, Due, Forwarded, Waiting, better, edge_of, merged, takes, with_due, pushed, to_forward, count, forwarded}
use Rattle.law_moves.proofs.Lemmas.{all_append}

module _ (P : Named → Type 0) where
  abbrev pub EachIs : List Due → Type 0
  EachIs dues = AllByRecursion (λ (due : Due). P due.packet) dues

  better_is : (due : Due) (packet : Named) → P packet → P due.packet → P (better due packet).packet
  better_is due packet new old =
      by_test (λ (d : Due). P d.packet) (nat_lt (edge_of packet) (edge_of due.packet)) due
      (record { packet = packet; origin = due.origin }) (λ t. old) (λ t. new)

  merged_are : (dues : List Due) (packet : Named) → P packet → EachIs dues
      → EachIs (merged dues packet)
  merged_are [] packet new old = tt
  merged_are (due ∷ dues) packet new old =
      by_test EachIs (takes packet due) (better due packet ∷ dues) (due ∷ merged dues packet)
      (λ t. (better_is due packet new old.0, old.1))
      (λ t. (old.0, merged_are dues packet new old.1))

  -- where one more waits, each is so; else the same ones wait
  abbrev pub Joins : Waiting → Waiting × Bool → Type 0
  Joins w (others, true) = EachIs others.due
  Joins w (others, false) = others ≡ w

  pub forwarded_joins : (w : Waiting) (packet : Named) → P packet → EachIs w.due
      → Joins w (forwarded w packet)
  forwarded_joins w packet new old =
      by_test (Joins w) (list_any (takes packet) w.due)
      (with_due w (merged w.due packet), true)
      (if nat_lt (count Forwarded w.due) w.room then (pushed w (to_forward packet), true)
      else (w, false))
      (λ t. merged_are w.due packet new old)
      (λ t. by_test (Joins w) (nat_lt (count Forwarded w.due) w.room)
      (pushed w (to_forward packet), true) (w, false)
      (λ u. all_append (λ (due : Due). P due.packet) w.due (to_forward packet ∷ []) old (new, tt))
      (λ u. refl))
