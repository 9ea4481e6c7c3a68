-- a client has no use for a leg behind its handover mark; and while its work goes on, for no other
-- has it none
use Rattle.law_order.proofs.Vocabulary.{◌≡◌, ◌<◌, ◌≤◌, ◌⊎◌, inl, inr, ◌&&◌, ◌∙◌, ℕ, suc, Bool, true, false, true≢false, not, nat_lt, List, arith, refl, sym, ap, cases_lt, eq-eqb, eqb-true, lt-ltb, ltb-true, if◌then◌else◌, Item, has_handover}
use Rattle.law_moves.proofs.Vocabulary.{by_test, EndPassage, is_ended, is_at_work, is_in_use}
use Rattle.law_role_client.proofs.Vocabulary.{ClientRole, ci, co, is_current, is_finished, GivesInOrder, TakesInOrder, came_log, put_log, rules as client_rules}

-- while the work goes on a leg is in use that is not done
unused : (ended done : Bool) → done ≡ true → (not ended && not done) ≡ false
unused true done e = refl
unused false true e = refl
unused false false e = absurd (true≢false (sym e))

is_done : (ended done : Bool) → not ended ≡ true → (not ended && not done) ≡ false
    → done ≡ true
is_done true done work e = absurd (true≢false (sym work))
is_done false true work e = refl
is_done false false work e = absurd (true≢false e)

module _ (p : EndPassage ClientRole) (n : ℕ) where
  abbrev s : ClientRole
  s = p.passage.role

  -- ---- IN channels

  abbrev put : ℕ → List Item
  put = put_log p.passage.put

  module _ (law : GivesInOrder p) where
    -- none was put on the writing channel, nor behind it
    below : has_handover (put n) ≡ true → n < s.writing.number
    below handed = by (cases_lt n s.writing.number)
      where
        on : s.writing.number ≤ n → (s.writing.number < n) ⊎ (n ≤ s.writing.number)
            → n < s.writing.number
        on from (inl above) =
            absurd (true≢false (sym handed ∙ ap has_handover (law.later n above)))
        on from (inr upto) =
            let same : n ≡ s.writing.number = omega (arith, from, upto) in
            absurd (true≢false (sym handed
            ∙ ap (λ (k : ℕ). has_handover (put k)) same ∙ law.unhanded))

        by : (n < s.writing.number) ⊎ (s.writing.number ≤ n) → n < s.writing.number
        by (inl less) = less
        by (inr from) = on from (cases_lt s.writing.number n)

    pub in_left : has_handover (put n) ≡ true → is_in_use client_rules s (ci n) ≡ false
    in_left handed =
        unused (is_ended s.phase) (nat_lt n s.writing.number)
        (lt-ltb n s.writing.number (below handed))

    pub in_handed : 0 < n → is_at_work client_rules s ≡ true
        → is_in_use client_rules s (ci n) ≡ false → has_handover (put n) ≡ true
    in_handed some work none =
        let less = is_done (is_ended s.phase) (nat_lt n s.writing.number) work none in
        law.handed n some (ltb-true n s.writing.number less)

  -- ---- OUT channels

  abbrev came : ℕ → List Item
  came = came_log p.passage.came

  module _ (law : TakesInOrder p) where
    done_below : n < s.current.number → client_rules.is_done s (co n) ≡ true
    done_below less =
        by_test (λ (t : Bool). t ≡ true) (is_current s n) (is_finished s.replacement)
        (nat_lt n s.current.number)
        (λ here. absurd (let same = eqb-true n s.current.number here in
        omega (arith, less, same)))
        (λ other. lt-ltb n s.current.number less)

    done_here : n ≡ s.current.number → is_finished s.replacement ≡ true
        → client_rules.is_done s (co n) ≡ true
    done_here same finished =
        by_test (λ (t : Bool). t ≡ true) (is_current s n) (is_finished s.replacement)
        (nat_lt n s.current.number) (λ here. finished)
        (λ other. absurd (true≢false (sym (eq-eqb n s.current.number same) ∙ other)))

    -- on the successor's, and behind it, none came
    beyond : has_handover (came n) ≡ true → s.current.number < n → ⊥
    beyond handed above = by (cases_lt (suc s.current.number) n)
      where
        by : (suc s.current.number < n) ⊎ (n ≤ suc s.current.number) → ⊥
        by (inl behind) = true≢false (sym handed ∙ law.unfinished n behind)
        by (inr upto) =
            let same : n ≡ suc s.current.number = omega (arith, above, upto) in
            true≢false (sym handed
            ∙ ap (λ (k : ℕ). has_handover (came k)) same ∙ sym law.holds.next_finished)

    out_done : has_handover (came n) ≡ true → client_rules.is_done s (co n) ≡ true
    out_done handed = by (cases_lt n s.current.number)
      where
        on : s.current.number ≤ n → (s.current.number < n) ⊎ (n ≤ s.current.number)
            → client_rules.is_done s (co n) ≡ true
        on from (inl above) = absurd (beyond handed above)
        on from (inr upto) =
            let same : n ≡ s.current.number = omega (arith, from, upto) in
            done_here same (law.holds.finished
            ∙ ap (λ (k : ℕ). has_handover (came k)) (sym same) ∙ handed)

        by : (n < s.current.number) ⊎ (s.current.number ≤ n)
            → client_rules.is_done s (co n) ≡ true
        by (inl less) = done_below less
        by (inr from) = on from (cases_lt s.current.number n)

    pub out_left : has_handover (came n) ≡ true → is_in_use client_rules s (co n) ≡ false
    out_left handed =
        unused (is_ended s.phase) (client_rules.is_done s (co n)) (out_done handed)

    pub out_handed : 0 < n → is_at_work client_rules s ≡ true
        → is_in_use client_rules s (co n) ≡ false → has_handover (came n) ≡ true
    out_handed some work none =
        by (is_current s n) refl
        (is_done (is_ended s.phase) (client_rules.is_done s (co n)) work none)
      where
        by : (b : Bool) → is_current s n ≡ b
            → (if b then is_finished s.replacement else nat_lt n s.current.number) ≡ true
            → has_handover (came n) ≡ true
        by true e finished =
            let same = eqb-true n s.current.number e in
            ap (λ (k : ℕ). has_handover (came k)) same ∙ sym law.holds.finished ∙ finished
        by false e less =
            law.past n (ltb-true n s.current.number less) (lt-ltb 0 n some)
