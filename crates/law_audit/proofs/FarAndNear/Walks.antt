-- walks along legs
use Rattle.law_order.proofs.Vocabulary.{◌≡◌, ◌<◌, ◌≤◌, ◌+◌, ◌++◌, ◌⊎◌, ℕ, zero, suc, Bool, true, false, if◌then◌else◌, List, [], arith, cases_lt, true≢false, refl, sym, ap, ◌∙◌, subst, inl, inr, append_assoc, append-nil, IsPrefix, Item, Log, pdus, has_handover}
use Rattle.law_order.proofs.ByNumber.{by_test}
use Rattle.law_order.proofs.ItemLists.{pdus-append}
use Rattle.law_order.proofs.Prefixes.{prefix_behind}
use Rattle.law_audit.specs.FarAndNear.Seen.{walked}
use Rattle.law_audit.proofs.FarAndNear.Spans.{span}

module _ (there : ℕ → Bool) (log : Log) where
  -- a leg that is there, and is marked or not
  pub walk_marked : (n more : ℕ) → there n ≡ true → has_handover (log n) ≡ true
      → walked there log n (suc more) ≡ pdus (log n) ++ walked there log (suc n) more
  walk_marked n more is mark =
      ap (λ t. if t
      then pdus (log n) ++ (if has_handover (log n) then walked there log (suc n) more else [])
      else walked there log (suc n) more) is
      ∙ ap (λ t. pdus (log n) ++ (if t then walked there log (suc n) more else [])) mark

  pub walk_unmarked : (n more : ℕ) → there n ≡ true → has_handover (log n) ≡ false
      → walked there log n (suc more) ≡ pdus (log n)
  walk_unmarked n more is mark =
      ap (λ t. if t
      then pdus (log n) ++ (if has_handover (log n) then walked there log (suc n) more else [])
      else walked there log (suc n) more) is
      ∙ ap (λ t. pdus (log n) ++ (if t then walked there log (suc n) more else [])) mark
      ∙ append-nil (pdus (log n))

  pub walk_past : (n more : ℕ) → there n ≡ false
      → walked there log n (suc more) ≡ walked there log (suc n) more
  walk_past n more is =
      ap (λ t. if t
      then pdus (log n) ++ (if has_handover (log n) then walked there log (suc n) more else [])
      else walked there log (suc n) more) is

  -- ---- the next leg

  pub record Next (n more : ℕ) : Type 0 where
    pub leg : ℕ
    pub rest : ℕ
    pub is : there leg ≡ true
    pub up : n ≤ leg
    pub fewer : rest < more
    pub none : (k : ℕ) → n ≤ k → k < leg → there k ≡ false
    pub same : walked there log n more ≡ walked there log leg (suc rest)

  -- none before it, if none is at the first number either
  before_next : (n leg : ℕ) → there n ≡ false
      → ((k : ℕ) → suc n ≤ k → k < leg → there k ≡ false) → (k : ℕ) → n ≤ k → k < leg
      → there k ≡ false
  before_next n leg e none k least less = by (cases_lt n k)
    where
      by : (n < k) ⊎ (k ≤ n) → there k ≡ false
      by (inl more) = none k more less
      by (inr most) =
          let same : n ≡ k = omega (arith, least, most) in
          subst (λ (j : ℕ). there j ≡ false) same e

  pub next_from : (n more : ℕ) → (walked there log n more ≡ []) ⊎ Next n more
  next_from n zero = inl refl
  next_from n (suc more) = by (there n) refl (next_from (suc n) more)
    where
      by : (t : Bool) → there n ≡ t
          → (walked there log (suc n) more ≡ []) ⊎ Next (suc n) more
          → (walked there log n (suc more) ≡ []) ⊎ Next n (suc more)
      by true e later =
          inr (record {
            leg = n;
            rest = more;
            is = e;
            up = omega arith;
            fewer = omega arith;
            none = λ k least less. absurd (omega (arith, least, less));
            same = refl;
          })
      by false e (inl none) = inl (walk_past n more e ∙ none)
      by false e (inr next) =
          inr (record {
            leg = next.leg;
            rest = next.rest;
            is = next.is;
            up = omega (arith, next.up);
            fewer = omega (arith, next.fewer);
            none = before_next n next.leg e next.none;
            same = walk_past n more e ∙ next.same;
          })

-- ---- along legs of which those that are not there carry nothing

module _ (there : ℕ → Bool) (log : Log) (none : (n : ℕ) → there n ≡ false → log n ≡ []) where
  -- so many numbers on there is nothing any more
  abbrev pub Past : ℕ → ℕ → Type 0
  Past n more = (k : ℕ) → n + more ≤ k → log k ≡ []

  marked_there : (n : ℕ) → has_handover (log n) ≡ true → there n ≡ true
  marked_there n mark = by (there n) refl
    where
      by : (t : Bool) → there n ≡ t → there n ≡ true
      by true e = e
      by false e = absurd (true≢false (sym mark ∙ ap has_handover (none n e)))

  no_mark : (n : ℕ) → has_handover (log n) ≡ true → Past n zero → ⊥
  no_mark n mark past = true≢false (sym mark ∙ ap has_handover (past n (omega arith)))

  -- marked but for the last
  pub span_walk : (d more n : ℕ)
      → ((k : ℕ) → n ≤ k → k < n + d → has_handover (log k) ≡ true) → Past n more
      → IsPrefix (pdus (span log n d)) (walked there log n more)
  span_walk zero zero n marked past =
      subst (λ (items : List Item). IsPrefix (pdus items) []) (sym (past n (omega arith)))
      ([], refl)
  span_walk zero (suc more) n marked past =
      let marks = if has_handover (log n) then walked there log (suc n) more else [] in
      let skips = walked there log (suc n) more in
      by_test (λ (w : List (List ℕ)). IsPrefix (pdus (log n)) w) (there n)
      (pdus (log n) ++ marks) skips (λ e. (marks, refl))
      (λ e. subst (λ (items : List Item). IsPrefix (pdus items) skips) (sym (none n e))
      (skips, refl))
  span_walk (suc d) zero n marked past =
      absurd (no_mark n (marked n (omega arith) (omega arith)) past)
  span_walk (suc d) (suc more) n marked past =
      let mark = marked n (omega arith) (omega arith) in
      subst (λ (w : List (List ℕ)). IsPrefix (pdus (log n ++ span log (suc n) d)) w)
      (sym (walk_marked there log n more (marked_there n mark) mark))
      (subst (λ (front : List (List ℕ)). IsPrefix front
      (pdus (log n) ++ walked there log (suc n) more))
      (sym (pdus-append (log n) (span log (suc n) d)))
      (prefix_behind (pdus (log n)) (pdus (span log (suc n) d)) (walked there log (suc n) more)
      (span_walk d more (suc n)
      (λ k least less. marked k (omega (arith, least)) (omega (arith, less)))
      (λ k least. past k (omega (arith, least))))))

  -- all marked: the walk goes on behind them
  pub record GoesOn (n d more : ℕ) : Type 0 where
    pub rest : ℕ
    pub past : Past (suc (n + d)) rest
    pub is : walked there log n more
        ≡ pdus (span log n d) ++ walked there log (suc (n + d)) rest

  pub whole_walk : (d more n : ℕ)
      → ((k : ℕ) → n ≤ k → k ≤ n + d → has_handover (log k) ≡ true) → Past n more
      → GoesOn n d more
  whole_walk d zero n marked past =
      absurd (no_mark n (marked n (omega arith) (omega arith)) past)
  whole_walk zero (suc more) n marked past =
      let mark = marked n (omega arith) (omega arith) in
      let at : suc n ≡ suc (n + 0) = omega arith in
      record {
        rest = more;
        past = λ k least. past k (omega (arith, least));
        is = walk_marked there log n more (marked_there n mark) mark
            ∙ ap (λ (k : ℕ). pdus (log n) ++ walked there log k more) at;
      }
  whole_walk (suc d) (suc more) n marked past =
      let mark = marked n (omega arith) (omega arith) in
      let later = whole_walk d more (suc n)
      (λ k least most. marked k (omega (arith, least)) (omega (arith, most)))
      (λ k least. past k (omega (arith, least))) in
      let at : suc (suc n + d) ≡ suc (n + suc d) = omega arith in
      record {
        rest = later.rest;
        past = λ k least. later.past k (omega (arith, least));
        is =
            walk_marked there log n more (marked_there n mark) mark
            ∙ ap (λ (w : List (List ℕ)). pdus (log n) ++ w) later.is
            ∙ sym (append_assoc (pdus (log n)) (pdus (span log (suc n) d))
            (walked there log (suc (suc n + d)) later.rest))
            ∙ ap (λ (front : List (List ℕ)).
            front ++ walked there log (suc (suc n + d)) later.rest)
            (sym (pdus-append (log n) (span log (suc n) d)))
            ∙ ap (λ (k : ℕ). pdus (span log n (suc d)) ++ walked there log k later.rest) at;
      }
