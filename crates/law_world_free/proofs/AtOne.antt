-- a direction whose ends are at one channel, and whose nodes hold nothing there
use Rattle.law_order.proofs.Vocabulary.{◌≡◌, ℕ, suc, ◌<◌, ◌≤◌, ◌⊎◌, inl, inr, Bool, true, false, true≢false, List, [], nat_eq, if◌then◌else◌, arith, refl, sym, ap, ◌∙◌, subst, or_right, cases_lt, Shelves, Route, IsRoute, below, has_end, has_handover, held_of, pdus, reader}
use Rattle.law_order.proofs.ByNumber.{same_number}
use Rattle.law_order.proofs.ItemLists.{has_end-append}
use Rattle.law_order.proofs.OnTheWay.{IsReader, reader_at}
use Rattle.law_order.proofs.Streams.{at_near, end_stays, handed_over, no_leg, whole_if_handed}
use Rattle.law_world_free.specs.AtOne.{GiveAll, HoldsNone, HoldsNoneOf, IsAtOne}

-- nothing is held of a channel
none_held : (s : Shelves) (n : ℕ) → (n ≡ s.current → s.now.held ≡ [])
    → (n ≡ s.following → s.next.held ≡ []) → held_of s n ≡ []
none_held s n now next = by (nat_eq n s.current) refl (nat_eq n s.following) refl
  where
    by : (t : Bool) → nat_eq n s.current ≡ t → (u : Bool) → nat_eq n s.following ≡ u
        → (if t then s.now.held else (if u then s.next.held else [])) ≡ []
    by true e u f = now (same_number n s.current e)
    by false e true f = next (same_number n s.following f)
    by false e false f = refl

module _ (r : Route) (is : IsRoute r) where
  -- the taker's channel, which is that of its proxy's far leg
  abbrev m : ℕ
  m = r.taker.shelves.current

  abbrev held_there : List (List ℕ)
  held_there = (r.proxies m).shelves.now.held

  -- ---- where the channel is over

  -- END came to the taker: its proxy put it behind all PDUs
  taken_end : r.taker.shelves.now.ended ≡ true → held_there ≡ []
  taken_end ended =
      let x = is.passers m is.numbered.here in
      (x.end_came (x.end_put
      ∙ end_stays (r.got m) (r.put m) (is.far m) (sym is.taker.holds.ended ∙ ended))).1

  -- and so it is of the handover mark
  taken_mark : r.taker.shelves.now.finished ≡ true → held_there ≡ []
  taken_mark finished =
      let x = is.passers m is.numbered.here in
      let came : has_handover (r.got m) ≡ true = sym is.taker.holds.finished ∙ finished in
      (x.handover_came (x.handover_put
      ∙ ap has_handover (sym (whole_if_handed (r.got m) (r.put m) (is.far m) x.channel came))
      ∙ came)).1

  -- ---- where giver and taker are at one channel

  module _ (one : IsAtOne r) where
    abbrev v : ℕ
    v = r.giver.writing

    -- END came to the proxy: the giver put it behind all PDUs
    given_end : (r.proxies m).shelves.now.ended ≡ true → r.giver.queue ≡ []
    given_end ended =
        let x = is.passers m is.numbered.here in
        let came : has_end (r.came m v) ≡ true =
        subst (λ (n : ℕ). has_end (r.came m n) ≡ true) one
        (sym x.shelved.holds.ended ∙ ended) in
        let sent = end_stays (r.came m v) (r.sent v) (is.near m v is.numbered.here) came in
        (is.giver.over (has_end-append (below r.sent v) (r.sent v)
        ∙ or_right (has_end (below r.sent v)) (has_end (r.sent v)) sent)).1

    -- the handover mark did not
    given_mark : (r.proxies m).shelves.now.finished ≡ true → ⊥
    given_mark finished =
        let x = is.passers m is.numbered.here in
        let came : has_handover (r.came m v) ≡ true =
        subst (λ (n : ℕ). has_handover (r.came m n) ≡ true) one
        (sym x.shelved.holds.finished ∙ finished) in
        let same = whole_if_handed (r.came m v) (r.sent v) (is.near m v is.numbered.here)
        (is.giver.channel v) came in
        true≢false (sym came ∙ ap has_handover same ∙ is.giver.unhanded)

    -- a channel behind the taker's has no far leg
    no_far : (n : ℕ) → m < n → n ≤ v → r.legs n ≡ false
    no_far n above up =
        is.numbered.reads m n is.numbered.here above (omega (arith, up, one))

    -- ---- lists

    module _ (untaken : r.taker.shelves.now.held ≡ []) (unpassed : held_there ≡ []) where
      -- the taker's
      none_taken : (n : ℕ) → n ≤ v → held_of r.taker.shelves n ≡ []
      none_taken n up =
          none_held r.taker.shelves n (λ e. untaken) (λ e.
          let above = is.taker.above in
          let leg = no_far n (omega (arith, above, e)) up in
          is.taker.holds.follows
          ∙ ap pdus (subst (λ (k : ℕ). r.got k ≡ []) e (no_leg r is n leg)))

      -- that of the proxy that reads the channel
      none_passed : (n : ℕ) → n ≤ v → (k : ℕ) → IsReader r n k
          → held_of (r.proxies k).shelves n ≡ []
      none_passed n up k i = by (cases_lt k m)
        where
          before : k < m → held_of (r.proxies k).shelves n ≡ []
          before less =
              let h = handed_over r is k i.is_leg less in
              let x = is.passers k i.is_leg in
              let from = x.from in
              let above = x.shelved.above in
              none_held (r.proxies k).shelves n (λ e. h.empty) (λ e.
              let none = i.none (suc (at_near r k)) (omega (arith, from))
              (omega (arith, above, e)) in
              absurd (true≢false (sym h.next ∙ none)))

          here : k ≡ m → held_of (r.proxies k).shelves n ≡ []
          here same =
              subst (λ (j : ℕ). held_of (r.proxies j).shelves n ≡ []) (sym same)
              (let above = (is.passers m is.numbered.here).shelved.above in
              none_held (r.proxies m).shelves n (λ e. unpassed)
              (λ e. absurd (omega (arith, above, e, up, one))))

          behind : m < k → held_of (r.proxies k).shelves n ≡ []
          behind more =
              let low = i.up in
              let none = no_far k more (omega (arith, low, up)) in
              absurd (true≢false (sym i.is_leg ∙ none))

          by : (k < m) ⊎ (m ≤ k) → held_of (r.proxies k).shelves n ≡ []
          by (inl less) = before less
          by (inr not_less) = by_other (cases_lt m k)
            where
              by_other : (m < k) ⊎ (k ≤ m) → held_of (r.proxies k).shelves n ≡ []
              by_other (inl more) = behind more
              by_other (inr not_more) = here (omega (arith, not_less, not_more))

      none_of : (n : ℕ) → 0 < n → n ≤ v → HoldsNoneOf r n
      none_of n some up =
          let k = reader r.legs n in
          record {
            taker = none_taken n up;
            proxy = none_passed n up k (reader_at r is n some);
          }

    -- ---- all of them

    pub hold_none : r.taker.shelves.now.held ≡ [] → GiveAll r → HoldsNone r
    hold_none untaken all = record {
      queue = given (r.proxies m).shelves.now.ended refl (r.proxies m).shelves.now.finished refl;
      channels = none_of untaken unpassed;
    }
      where
        passed : (t : Bool) → r.taker.shelves.now.ended ≡ t → (u : Bool)
            → r.taker.shelves.now.finished ≡ u → held_there ≡ []
        passed true e u f = taken_end e
        passed false e true f = taken_mark f
        passed false e false f = all.far e f

        unpassed : held_there ≡ []
        unpassed = passed r.taker.shelves.now.ended refl r.taker.shelves.now.finished refl

        given : (t : Bool) → (r.proxies m).shelves.now.ended ≡ t → (u : Bool)
            → (r.proxies m).shelves.now.finished ≡ u → r.giver.queue ≡ []
        given true e u f = given_end e
        given false e true f = absurd (given_mark f)
        given false e false f = all.near unpassed e f
