-- all that was put on the legs of a direction and did not come
use Rattle.law_order.proofs.Vocabulary.{◌≡◌, ◌<◌, ℕ, zero, suc, List, [], ◌++◌, arith, sym, IsPrefix, Item, IsWhole, OnLegs, reader, IsRoute, Route}
use Rattle.law_moves.proofs.Vocabulary.{reader_at}

module _ (r : Route) (l : IsRoute r) where
  near_rest : (n : ℕ) → 0 < n → IsPrefix (r.came (reader r.legs n) n) (r.sent n)
  near_rest n some = l.near (reader r.legs n) n (reader_at r l n some).is_leg

  rest_by : (n : ℕ) → List Item
  rest_by zero = []
  rest_by (suc n) = (near_rest (suc n) (omega arith)).0

  pub rests : OnLegs
  rests = record { near = rest_by; far = λ m. (l.far m).0 }

  pub rests_whole : IsWhole r rests
  unfolding rests rest_by
  rests_whole = record { near = near; far = λ m. sym (l.far m).1 }
    where
      near : (n : ℕ) → 0 < n → r.sent n ≡ r.came (reader r.legs n) n ++ rest_by n
      near zero some = absurd (omega (arith, some))
      near (suc n) some = sym (near_rest (suc n) (omega arith)).1
