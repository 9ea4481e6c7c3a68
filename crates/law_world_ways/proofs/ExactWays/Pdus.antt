-- what is on its way in a direction, by its PDUs alone
use Rattle.law_order.proofs.Vocabulary.{◌≡◌, ◌<◌, ◌≤◌, ℕ, zero, suc, List, ◌++◌, arith, refl, sym, ap, ◌∙◌, append_cancel_left, Item, pdus, below, OnLegs, held_of, part, path, reader, IsRoute, Route}
use Rattle.law_moves.proofs.Vocabulary.{pdus-append, exact}
use Rattle.law_world_ways.proofs.ExactWays.Rests.{rests, rests_whole}
use Rattle.law_world_ways.specs.ExactWays.Pdus.{HasAllPdus}

-- the PDUs of what did not come are those that stand there
same_rest : (put came rest on : List Item) → put ≡ came ++ rest
    → pdus put ≡ pdus came ++ pdus on → pdus rest ≡ pdus on
same_rest put came rest on is all =
    append_cancel_left (pdus came) (pdus rest) (pdus on)
    (sym (pdus-append came rest) ∙ ap pdus (sym is) ∙ all)

module _ (r : Route) (on : OnLegs) (l : IsRoute r) (all : HasAllPdus r on) where
  same_part : (n : ℕ) → suc n ≤ r.giver.writing → part r (rests r l) (suc n) ≡ part r on (suc n)
  same_part n within =
      let some : 0 < suc n = omega arith in
      let k = suc n in
      let m = reader r.legs k in
      ap (λ (x : List (List ℕ)). held_of r.taker.shelves k
      ++ (x ++ (held_of (r.proxies m).shelves k ++ pdus ((rests r l).near k))))
      (same_rest (r.put k) (r.got k) ((rests r l).far k) (on.far k) ((rests_whole r l).far k)
      (all.far k some within))
      ∙ ap (λ (x : List (List ℕ)). held_of r.taker.shelves k
      ++ (pdus (on.far k) ++ (held_of (r.proxies m).shelves k ++ x)))
      (same_rest (r.sent k) (r.came m k) ((rests r l).near k) (on.near k)
      ((rests_whole r l).near k some)
      (all.near k some within))

  same_parts : (n : ℕ) → n ≤ r.giver.writing
      → below (λ k. part r (rests r l) (suc k)) n ≡ below (λ k. part r on (suc k)) n
  same_parts zero within = refl
  same_parts (suc n) within =
      ap (λ (x : List (List ℕ)). x ++ part r (rests r l) (suc n))
      (same_parts n (omega (arith, within)))
      ∙ ap (λ (x : List (List ℕ)). below (λ k. part r on (suc k)) n ++ x) (same_part n within)

  pub all_on_path : r.giver.given ≡ r.taker.taken ++ path r on
  all_on_path =
      exact r (rests r l) l (rests_whole r l)
      ∙ ap (λ (x : List (List ℕ)). r.taker.taken ++ (x ++ r.giver.queue))
      (same_parts r.giver.writing (omega arith))
