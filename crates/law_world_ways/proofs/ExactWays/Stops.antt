-- what is on its way in a direction on whose legs nothing was lost, but behind END
use Rattle.law_order.proofs.Vocabulary.{◌≡◌, ◌⊎◌, inl, inr, ◌<◌, ◌≤◌, ℕ, Bool, true, false, nat_lt, List, [], ◌++◌, arith, refl, sym, ap, ◌∙◌, nat_tests, IsChannel, Item, pdus, Arrives, Losses, OnLegs, held_of, path, reader, stops_at, IsRoute, Route}
use Rattle.law_moves.proofs.Vocabulary.{nil_back, nil_front, pdus-append, part_past}
use Rattle.law_world_ways.proofs.ExactWays.Ended.{none_behind}
use Rattle.law_world_ways.proofs.ExactWays.Pdus.{all_on_path}
use Rattle.law_world_ways.proofs.ExactWays.Rests.{rests, rests_whole}
use Rattle.law_world_ways.proofs.OnPaths.OnPath.{same_pdus, same_none}
use Rattle.law_world_ways.specs.ExactWays.Pdus.{IsBehindEnd, NoneStopsButBehindEnd}

with_rest : (put came rest on : List Item) → put ≡ came ++ rest → pdus rest ≡ pdus on
    → pdus put ≡ pdus came ++ pdus on
with_rest put came rest on is same =
    ap pdus is ∙ pdus-append came rest ∙ ap (λ (x : List (List ℕ)). pdus came ++ x) same

module _ (r : Route) (on : OnLegs) (lost : Losses) (l : IsRoute r)
    (channels : (m : ℕ) → IsChannel (r.put m)) (arrives : Arrives r on lost)
    (near_none : (n : ℕ) → lost.near n ≡ true → on.near n ≡ [])
    (far_none : (n : ℕ) → lost.far n ≡ true → on.far n ≡ [])
    (goes : NoneStopsButBehindEnd r lost) where
  abbrev left : OnLegs
  left = rests r l

  -- of a channel below the taker's current one no PDU is left
  record NoneLeft (k : ℕ) : Type 0 where
    near : pdus (left.near k) ≡ []
    far : pdus (left.far k) ≡ []

  past : (k : ℕ) → 0 < k → k < r.taker.shelves.current → NoneLeft k
  past k some before =
      let m = reader r.legs k in
      let near = pdus (left.near k) in
      let far = pdus (left.far k) in
      let held = held_of (r.proxies m).shelves k in
      let behind : far ++ (held ++ near) ≡ [] =
      nil_back (held_of r.taker.shelves k) (far ++ (held ++ near))
      (part_past r left l (rests_whole r l) k some before) in
      record {
        near = nil_back held near (nil_back far (held ++ near) behind);
        far = nil_front far (held ++ near) behind;
      }

  near_by : (k : ℕ) (some : 0 < k) → k ≤ r.giver.writing → (t : Bool)
      → nat_lt k r.taker.shelves.current ≡ t → pdus (left.near k) ≡ pdus (on.near k)
  near_by k some within true e =
      same_none (r.sent k) (r.came (reader r.legs k) k) (left.near k) (on.near k) (lost.near k)
      ((rests_whole r l).near k some) (arrives.near k some) (near_none k)
      (past k some (grind (arith, nat_tests))).near
  near_by k some within false e = by (goes.near k (grind (arith, nat_tests)) within)
    where
      came : List Item
      came = r.came (reader r.legs k) k

      by : (stops_at (lost.near k) (r.came (reader r.legs k) k) ≡ false) ⊎ IsBehindEnd r k
          → pdus (left.near k) ≡ pdus (on.near k)
      by (inl on_way) =
          same_pdus (r.sent k) (r.came (reader r.legs k) k) (left.near k) (on.near k)
          (lost.near k) ((rests_whole r l).near k some) (l.giver.channel k)
          (arrives.near k some) (near_none k) on_way
      by (inr behind) =
          same_none (r.sent k) (r.came (reader r.legs k) k) (left.near k) (on.near k)
          (lost.near k) ((rests_whole r l).near k some) (arrives.near k some) (near_none k)
          (nil_back (pdus (r.came (reader r.legs k) k)) (pdus (left.near k))
          (sym (pdus-append (r.came (reader r.legs k) k) (left.near k))
          ∙ ap pdus (sym ((rests_whole r l).near k some))
          ∙ (none_behind r l k some behind).0))

  far_by : (k : ℕ) (some : 0 < k) → k ≤ r.giver.writing → (t : Bool)
      → nat_lt k r.taker.shelves.current ≡ t → (b : Bool) → r.legs k ≡ b
      → pdus (left.far k) ≡ pdus (on.far k)
  far_by k some within true e b f =
      same_none (r.put k) (r.got k) (left.far k) (on.far k) (lost.far k)
      ((rests_whole r l).far k) (arrives.far k) (far_none k)
      (past k some (grind (arith, nat_tests))).far
  far_by k some within false e true f =
      same_pdus (r.put k) (r.got k) (left.far k) (on.far k) (lost.far k)
      ((rests_whole r l).far k) (channels k) (arrives.far k) (far_none k)
      (goes.far k (grind (arith, nat_tests)) within f)
  far_by k some within false e false f =
      same_none (r.put k) (r.got k) (left.far k) (on.far k) (lost.far k)
      ((rests_whole r l).far k) (arrives.far k) (far_none k)
      (ap pdus (nil_back (r.got k) (left.far k)
      (sym ((rests_whole r l).far k) ∙ l.numbered.unused k f)))

  pub exact_way : r.giver.given ≡ r.taker.taken ++ path r on
  exact_way = all_on_path r on l (record {
    near = λ n some within.
        with_rest (r.sent n) (r.came (reader r.legs n) n) (left.near n) (on.near n)
        ((rests_whole r l).near n some)
        (near_by n some within (nat_lt n r.taker.shelves.current) refl);
    far = λ m some within.
        with_rest (r.put m) (r.got m) (left.far m) (on.far m) ((rests_whole r l).far m)
        (far_by m some within (nat_lt m r.taker.shelves.current) refl (r.legs m) refl);
  })
