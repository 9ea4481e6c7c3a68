-- what is seen far is a front of what is seen near
use Rattle.law_order.proofs.Vocabulary.{◌≡◌, ◌<◌, ◌≤◌, ◌+◌, ◌-◌, ◌++◌, ◌⊎◌, ℕ, zero, suc, Bool, true, false, List, [], arith, refl, sym, ap, ◌∙◌, subst, inl, inr, cases_lt, le-leb, append-nil, IsPrefix, Item, below, pdus, has_handover, IsRoute, Route, PasserLaw}
use Rattle.law_order.proofs.Prefixes.{prefix_behind, prefix_both, prefix_pdus, prefix_trans}
use Rattle.law_order.proofs.Streams.{whole_if_handed}
use Rattle.law_audit.specs.FarAndNear.Seen.{IsSeenFar, IsSeenNear, Side, pdus_seen, walked}
use Rattle.law_audit.proofs.FarAndNear.Spans.{span, span_front, span_same, through_span}
use Rattle.law_audit.proofs.FarAndNear.Walks.{Next, Past, next_from, span_walk, walk_marked, walk_past, walk_unmarked, whole_walk}

module _ (r : Route) (near far : Side) (is : IsRoute r) (n : IsSeenNear r near)
    (f : IsSeenFar r far) where
  -- ---- near legs

  -- where the mark came, all that was put was seen and came
  all_came : (m k : ℕ) → r.legs m ≡ true → has_handover (r.came m k) ≡ true
      → r.came m k ≡ near.seen k
  all_came m k leg mark =
      let came = r.came m k in
      let seen = near.seen k in
      let sent = r.sent k in
      let front = n.came m k leg in
      let whole = whole_if_handed came sent (prefix_trans came seen sent front (n.of_sent k))
      (is.giver.channel k) mark in
      prefix_both came seen front
      (subst (λ (items : List Item). IsPrefix seen items) (sym whole) (n.of_sent k))

  -- ---- a proxy

  module _ (m : ℕ) (leg : r.legs m ≡ true) where
    abbrev passer : PasserLaw (r.proxies m) m (r.came m) (r.put m)
    passer = is.passers m leg

    abbrev last : ℕ
    last = (r.proxies m).shelves.current

    abbrev many : ℕ
    many = last - m

    at_last : m + many ≡ last
    at_last = let from = passer.from in omega (arith, from)

    came_before : (k : ℕ) → m ≤ k → k < last → r.came m k ≡ near.seen k
    came_before k least less =
        all_came m k leg (passer.shelved.past k less (le-leb m k least))

    -- all that came there
    all_here : pdus (r.put m) ++ (r.proxies m).shelves.now.held
        ≡ pdus (span (r.came m) m many)
    all_here =
        passer.shelved.holds.all
        ∙ ap (λ (k : ℕ). pdus (below (r.came m) k ++ r.came m k)) (sym at_last)
        ∙ ap pdus (through_span (r.came m) m many passer.unused)

    -- what is seen far was seen near
    pub here : IsPrefix (pdus (far.seen m)) (pdus (span near.seen m many))
    here =
        prefix_trans (pdus (far.seen m)) (pdus (r.put m)) (pdus (span near.seen m many))
        (prefix_pdus (far.seen m) (r.put m) (f.of_put m))
        (prefix_trans (pdus (r.put m)) (pdus (span (r.came m) m many))
        (pdus (span near.seen m many))
        ((r.proxies m).shelves.now.held, all_here)
        (prefix_pdus (span (r.came m) m many) (span near.seen m many)
        (span_front (r.came m) near.seen m many
        (λ k least less. came_before k least (omega (arith, less, at_last)))
        (n.came m (m + many) leg))))

    pub marked_before : (k : ℕ) → m ≤ k → k < m + many → has_handover (near.seen k) ≡ true
    marked_before k least less =
        let below_last : k < last = omega (arith, less, at_last) in
        subst (λ (items : List Item). has_handover items ≡ true) (came_before k least below_last)
        (passer.shelved.past k below_last (le-leb m k least))

    -- ---- its mark is seen

    module _ (mark : has_handover (far.seen m) ≡ true) where
      whole : far.seen m ≡ r.put m
      whole = whole_if_handed (far.seen m) (r.put m) (f.of_put m) passer.channel mark

      handed : (r.proxies m).handover_put ≡ true
      handed = passer.handover_put ∙ ap has_handover (sym whole) ∙ mark

      last_marked : has_handover (r.came m last) ≡ true
      last_marked =
          sym passer.shelved.holds.finished ∙ (passer.handover_came handed).0

      came_all : (k : ℕ) → m ≤ k → k ≤ m + many → r.came m k ≡ near.seen k
      came_all k least most = by (cases_lt k last)
        where
          by : (k < last) ⊎ (last ≤ k) → r.came m k ≡ near.seen k
          by (inl less) = came_before k least less
          by (inr above) =
              let same : last ≡ k = omega (arith, most, above, at_last) in
              subst (λ (j : ℕ). r.came m j ≡ near.seen j) same
              (all_came m last leg last_marked)

      pub all_marked : (k : ℕ) → m ≤ k → k ≤ m + many → has_handover (near.seen k) ≡ true
      all_marked k least most = by (cases_lt k last)
        where
          by : (k < last) ⊎ (last ≤ k) → has_handover (near.seen k) ≡ true
          by (inl less) = marked_before k least (omega (arith, less, at_last))
          by (inr above) =
              let same : last ≡ k = omega (arith, most, above, at_last) in
              subst (λ (j : ℕ). has_handover (near.seen j) ≡ true) same
              (subst (λ (items : List Item). has_handover items ≡ true)
              (all_came m last leg last_marked) last_marked)

      pub all_seen : pdus (far.seen m) ≡ pdus (span near.seen m many)
      all_seen =
          ap pdus whole
          ∙ sym (append-nil (pdus (r.put m)))
          ∙ ap (λ (held : List (List ℕ)). pdus (r.put m) ++ held)
          (sym (passer.handover_came handed).1)
          ∙ all_here
          ∙ ap pdus (span_same (r.came m) near.seen m many came_all)

      pub next_leg : r.legs (suc (m + many)) ≡ true
      next_leg =
          ap (λ (k : ℕ). r.legs (suc k)) at_last ∙ is.numbered.handed m leg handed

  -- ---- walks

  abbrev IsFront : ℕ → ℕ → ℕ → Type 0
  IsFront m more room =
      r.legs m ≡ true → far.there m ≡ true → Past near.there near.seen n.none m room
      → IsPrefix (walked far.there far.seen m (suc more))
      (walked near.there near.seen m room)

  step : (m more room : ℕ)
      → ((k less room : ℕ) → less < more → IsFront k less room) → IsFront m more room
  step m more room later leg there past = by (has_handover (far.seen m)) refl
    where
      on : (mark : has_handover (far.seen m) ≡ true) (rest : ℕ)
          → Past near.there near.seen n.none (suc (m + many m leg)) rest
          → (walked far.there far.seen (suc m) more ≡ [])
          ⊎ Next far.there far.seen (suc m) more
          → IsPrefix (walked far.there far.seen (suc m) more)
          (walked near.there near.seen (suc (m + many m leg)) rest)
      on mark rest behind (inl none) =
          subst (λ (w : List (List ℕ)). IsPrefix w
          (walked near.there near.seen (suc (m + many m leg)) rest)) (sym none)
          (walked near.there near.seen (suc (m + many m leg)) rest, refl)
      on mark rest behind (inr next) =
          let at : next.leg ≡ suc (m + many m leg) =
          f.next m next.leg there next.is next.up (λ k above less. next.none k above less) mark
          ∙ ap suc (sym (at_last m leg)) in
          subst (λ (w : List (List ℕ)). IsPrefix w
          (walked near.there near.seen (suc (m + many m leg)) rest)) (sym next.same)
          (subst (λ (k : ℕ). IsPrefix (walked far.there far.seen k (suc next.rest))
          (walked near.there near.seen (suc (m + many m leg)) rest)) (sym at)
          (later (suc (m + many m leg)) next.rest rest next.fewer (next_leg m leg mark)
          (subst (λ (k : ℕ). far.there k ≡ true) at next.is) behind))

      by : (t : Bool) → has_handover (far.seen m) ≡ t
          → IsPrefix (walked far.there far.seen m (suc more))
          (walked near.there near.seen m room)
      by false e =
          subst (λ (w : List (List ℕ)). IsPrefix w (walked near.there near.seen m room))
          (sym (walk_unmarked far.there far.seen m more there e))
          (prefix_trans (pdus (far.seen m)) (pdus (span near.seen m (many m leg)))
          (walked near.there near.seen m room) (here m leg)
          (span_walk near.there near.seen n.none (many m leg) room m (marked_before m leg) past))
      by true mark =
          let goes = whole_walk near.there near.seen n.none (many m leg) room m
          (all_marked m leg mark) past in
          let front = pdus (span near.seen m (many m leg)) in
          let rest = walked near.there near.seen (suc (m + many m leg)) goes.rest in
          subst (λ (w : List (List ℕ)). IsPrefix w (walked near.there near.seen m room))
          (sym (walk_marked far.there far.seen m more there mark
          ∙ ap (λ (x : List (List ℕ)). x ++ walked far.there far.seen (suc m) more)
          (all_seen m leg mark)))
          (subst (λ (w : List (List ℕ)). IsPrefix
          (front ++ walked far.there far.seen (suc m) more) w) (sym goes.is)
          (prefix_behind front (walked far.there far.seen (suc m) more) rest
          (on mark goes.rest goes.past (next_from far.there far.seen (suc m) more))))

  walks : (fuel m more room : ℕ) → more ≤ fuel → IsFront m more room
  walks zero m more room few =
      step m more room (λ k less x fewer. absurd (omega (arith, few, fewer)))
  walks (suc fuel) m more room few =
      step m more room (λ k less x fewer. walks fuel k less x (omega (arith, few, fewer)))

  front : IsPrefix (pdus_seen far) (pdus_seen near)
  front = by (next_from far.there far.seen 0 (suc far.most))
    where
      by : (pdus_seen far ≡ []) ⊎ Next far.there far.seen 0 (suc far.most)
          → IsPrefix (pdus_seen far) (pdus_seen near)
      by (inl none) =
          subst (λ (w : List (List ℕ)). IsPrefix w (pdus_seen near)) (sym none)
          (pdus_seen near, refl)
      by (inr next) =
          let at : next.leg ≡ 1 =
          f.first next.leg next.is (λ k less. next.none k (omega arith) less) in
          subst (λ (w : List (List ℕ)). IsPrefix w (pdus_seen near)) (sym next.same)
          (subst (λ (k : ℕ). IsPrefix (walked far.there far.seen k (suc next.rest))
          (pdus_seen near)) (sym at)
          (subst (λ (w : List (List ℕ)). IsPrefix
          (walked far.there far.seen 1 (suc next.rest)) w)
          (sym (walk_past near.there near.seen 0 near.most n.zero))
          (walks next.rest 1 next.rest near.most (omega arith) is.numbered.first
          (subst (λ (k : ℕ). far.there k ≡ true) at next.is)
          (λ k above. n.past k (omega (arith, above))))))

pub far_is_front : (r : Route) (near far : Side) → IsRoute r → IsSeenNear r near
    → IsSeenFar r far → IsPrefix (pdus_seen far) (pdus_seen near)
far_is_front r near far is n f = front r near far is n f
