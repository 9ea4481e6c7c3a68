-- what is on its way in a direction on whose legs nothing was lost
use Rattle.law_order.proofs.Vocabulary.{◌≡◌, ◌<◌, ◌≤◌, ℕ, zero, suc, Bool, true, false, nat_lt, not, ◌||◌, if◌then◌else◌, List, [], ◌++◌, arith, refl, sym, ap, ◌∙◌, subst, nat_tests, append-nil, append_cancel_left, IsPrefix, IsChannel, Item, has_end, has_handover, pdus, below, Arrives, IsWhole, Losses, OnLegs, held_of, part, path, reader, stops_at, IsRoute, Route}
use Rattle.law_moves.proofs.Vocabulary.{ended_whole, handed_whole, nil_back, nil_front, part_past, reader_at}
use Rattle.law_world_ways.specs.OnPaths.Laws.{NoneStops}

-- what was put on a channel and did not come has the PDUs that stand there, unless the way stops
pub same_pdus : (put came rest on : List Item) (lost : Bool) → put ≡ came ++ rest → IsChannel put
    → (lost ≡ false → put ≡ came ++ on) → (lost ≡ true → on ≡ [])
    → stops_at lost came ≡ false → pdus rest ≡ pdus on
same_pdus put came rest on false is channel arrives none goes =
    ap pdus (append_cancel_left came rest on (sym is ∙ arrives refl))
same_pdus put came rest on true is channel arrives none goes =
    passed (has_handover came) refl (has_end came) refl goes ∙ ap pdus (sym (none refl))
  where
    passed : (t : Bool) → has_handover came ≡ t → (u : Bool) → has_end came ≡ u
        → not (t || u) ≡ false → pdus rest ≡ []
    passed true e u f goes = ap pdus (handed_whole came rest e (subst IsChannel is channel))
    passed false e true f goes = ended_whole came rest f (subst IsChannel is channel)
    passed false e false f goes = absurd (cc)

-- where no PDU is left, none stands there
pub same_none : (put came rest on : List Item) (lost : Bool) → put ≡ came ++ rest
    → (lost ≡ false → put ≡ came ++ on) → (lost ≡ true → on ≡ []) → pdus rest ≡ []
    → pdus rest ≡ pdus on
same_none put came rest on false is arrives none nothing =
    ap pdus (append_cancel_left came rest on (sym is ∙ arrives refl))
same_none put came rest on true is arrives none nothing = nothing ∙ ap pdus (sym (none refl))

-- on a channel that has no far leg nothing came, and nothing stands
pub where_leg : (r : Route) → IsRoute r → (n : ℕ) (put on : List Item) (b : Bool)
    → r.legs n ≡ b → put ≡ r.got n ++ on
    → (if b then put else []) ≡ r.got n ++ (if b then on else [])
where_leg r route n put on true e arrives = arrives
where_leg r route n put on false e arrives =
    let front = route.far n in
    let none = nil_front (r.got n) front.0 (front.1 ∙ route.numbered.unused n e) in
    sym none ∙ sym (append-nil (r.got n))

module _ (r : Route) (on : OnLegs) (lost : Losses) (l : IsRoute r)
    (whole : (on : OnLegs) → IsWhole r on → r.giver.given ≡ r.taker.taken ++ path r on)
    (channels : (m : ℕ) → IsChannel (r.put m)) (arrives : Arrives r on lost)
    (near_none : (n : ℕ) → lost.near n ≡ true → on.near n ≡ [])
    (far_none : (n : ℕ) → lost.far n ≡ true → on.far n ≡ []) (goes : NoneStops r lost) where
  near_rest : (n : ℕ) → 0 < n → IsPrefix (r.came (reader r.legs n) n) (r.sent n)
  near_rest n some = l.near (reader r.legs n) n (reader_at r l n some).is_leg

  rest_by : (n : ℕ) → List Item
  rest_by zero = []
  rest_by (suc n) = (near_rest (suc n) (omega arith)).0

  rests : OnLegs
  rests = record { near = rest_by; far = λ m. (l.far m).0 }

  rests_whole : IsWhole r rests
  unfolding rests rest_by
  rests_whole = record { near = near; far = λ m. sym (l.far m).1 }
    where
      near : (n : ℕ) → 0 < n → r.sent n ≡ r.came (reader r.legs n) n ++ rest_by n
      near zero some = absurd (omega (arith, some))
      near (suc n) some = sym (near_rest (suc n) (omega arith)).1

  -- the same PDUs on both legs of a channel make the same part
  record IsSame (k : ℕ) : Type 0 where
    near : pdus (rests.near k) ≡ pdus (on.near k)
    far : pdus (rests.far k) ≡ pdus (on.far k)

  same_as : (k : ℕ) → IsSame k → part r rests k ≡ part r on k
  same_as k same =
      let m = reader r.legs k in
      ap (λ (x : List (List ℕ)). held_of r.taker.shelves k
      ++ (x ++ (held_of (r.proxies m).shelves k ++ pdus (rests.near k)))) same.far
      ∙ ap (λ (x : List (List ℕ)). held_of r.taker.shelves k
      ++ (pdus (on.far k) ++ (held_of (r.proxies m).shelves k ++ x))) same.near

  -- of a channel below the taker's current one nothing is on its way
  same_past : (n : ℕ) → suc n < r.taker.shelves.current → IsSame (suc n)
  same_past n past =
      let some : 0 < suc n = omega arith in
      let k = suc n in
      let m = reader r.legs k in
      let near = pdus (rests.near k) in
      let far = pdus (rests.far k) in
      let held = held_of (r.proxies m).shelves k in
      let behind : far ++ (held ++ near) ≡ [] =
      nil_back (held_of r.taker.shelves k) (far ++ (held ++ near))
      (part_past r rests l rests_whole k some past) in
      record {
        near = same_none (r.sent k) (r.came m k) (rests.near k) (on.near k) (lost.near k)
            (rests_whole.near k some) (arrives.near k some) (near_none k)
            (nil_back held near (nil_back far (held ++ near) behind));
        far = same_none (r.put k) (r.got k) (rests.far k) (on.far k) (lost.far k)
            (rests_whole.far k) (arrives.far k) (far_none k)
            (nil_front far (held ++ near) behind);
      }

  same_here : (n : ℕ) → r.taker.shelves.current ≤ suc n → suc n ≤ r.giver.writing
      → IsSame (suc n)
  same_here n from within =
      let some : 0 < suc n = omega arith in
      let k = suc n in
      record {
        near = same_pdus (r.sent k) (r.came (reader r.legs k) k) (rests.near k) (on.near k)
            (lost.near k) (rests_whole.near k some) (l.giver.channel k) (arrives.near k some)
            (near_none k) (goes.near k from within);
        far = far_by (r.legs k) refl;
      }
    where
      far_by : (b : Bool) → r.legs (suc n) ≡ b
          → pdus (rests.far (suc n)) ≡ pdus (on.far (suc n))
      far_by true e =
          let k = suc n in
          same_pdus (r.put k) (r.got k) (rests.far k) (on.far k) (lost.far k)
          (rests_whole.far k) (channels k) (arrives.far k) (far_none k)
          (goes.far k from within e)
      far_by false e =
          let k = suc n in
          same_none (r.put k) (r.got k) (rests.far k) (on.far k) (lost.far k)
          (rests_whole.far k) (arrives.far k) (far_none k)
          (ap pdus (nil_back (r.got k) (rests.far k)
          (sym (rests_whole.far k) ∙ l.numbered.unused k e)))

  same_part : (n : ℕ) → suc n ≤ r.giver.writing → part r rests (suc n) ≡ part r on (suc n)
  same_part n within = by (nat_lt (suc n) r.taker.shelves.current) refl
    where
      by : (b : Bool) → nat_lt (suc n) r.taker.shelves.current ≡ b
          → part r rests (suc n) ≡ part r on (suc n)
      by true e = same_as (suc n) (same_past n (grind (arith, nat_tests)))
      by false e = same_as (suc n) (same_here n (grind (arith, nat_tests)) within)

  same_parts : (n : ℕ) → n ≤ r.giver.writing
      → below (λ k. part r rests (suc k)) n ≡ below (λ k. part r on (suc k)) n
  same_parts zero within = refl
  same_parts (suc n) within =
      ap (λ (x : List (List ℕ)). x ++ part r rests (suc n))
      (same_parts n (omega (arith, within)))
      ∙ ap (λ (x : List (List ℕ)). below (λ k. part r on (suc k)) n ++ x) (same_part n within)

  pub all_on_path : r.giver.given ≡ r.taker.taken ++ path r on
  all_on_path =
      whole rests rests_whole
      ∙ ap (λ (x : List (List ℕ)). r.taker.taken ++ (x ++ r.giver.queue))
      (same_parts r.giver.writing (omega arith))
