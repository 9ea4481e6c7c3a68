-- the packets that wait for the is leg of an in proxy: what they are, and how many
use Rattle.law_order.proofs.Vocabulary.{◌≤◌, Bool, true, false, nat_lt, if◌then◌else◌, List, [], ◌∷◌, ◌++◌, length, arith, list_any}
use Rattle.law_moves.proofs.Vocabulary.{by_test, Named, Due, Forwarded, Waiting, better, edge_of, merged, takes, with_due, pushed, to_forward, count, forwarded}
use Rattle.law_moves.proofs.Lemmas.{all_append}
use Rattle.law_peers_room.proofs.ServerRoom.Channels.{MayWait, Wait}

-- they wait, and are no fewer
pub record Joins (dues others : List Due) : Type 0 where
  pub each : Wait others
  pub more : length dues ≤ length others

better_waits : (due : Due) (packet : Named) → MayWait packet → MayWait due.packet
    → MayWait (better due packet).packet
better_waits due packet new old =
    by_test (λ (d : Due). MayWait d.packet) (nat_lt (edge_of packet) (edge_of due.packet)) due
    (record { packet = packet; origin = due.origin }) (λ t. old) (λ t. new)

merged_joins : (dues : List Due) (packet : Named) → MayWait packet → Wait dues
    → Joins dues (merged dues packet)
merged_joins [] packet new old = record { each = tt; more = omega arith }
merged_joins (due ∷ dues) packet new old =
    by_test (Joins (due ∷ dues)) (takes packet due) (better due packet ∷ dues)
    (due ∷ merged dues packet)
    (λ t. record { each = (better_waits due packet new old.0, old.1); more = omega arith })
    (λ t. let rest = merged_joins dues packet new old.1 in record {
      each = (old.0, rest.each);
      more = let more = rest.more in omega (arith, more);
    })

more_by_one : (dues : List Due) (due : Due) → length dues ≤ length (dues ++ due ∷ [])
more_by_one [] due = omega arith
more_by_one (first ∷ dues) due = let rest = more_by_one dues due in omega (arith, rest)

pub forwarded_joins : (w : Waiting) (packet : Named) → MayWait packet → Wait w.due
    → Joins w.due (forwarded w packet).0.due
forwarded_joins w packet new old =
    by_test IsSo (list_any (takes packet) w.due) (with_due w (merged w.due packet), true)
    (if nat_lt (count Forwarded w.due) w.room then (pushed w (to_forward packet), true)
    else (w, false))
    (λ t. merged_joins w.due packet new old)
    (λ t. by_test IsSo (nat_lt (count Forwarded w.due) w.room)
    (pushed w (to_forward packet), true) (w, false)
    (λ u. record {
      each = all_append (λ (due : Due). MayWait due.packet) w.due (to_forward packet ∷ []) old
          (new, tt);
      more = more_by_one w.due (to_forward packet);
    })
    (λ u. record { each = old; more = omega arith }))
  where
    IsSo : Waiting × Bool → Type 0
    IsSo x = Joins w.due x.0.due
