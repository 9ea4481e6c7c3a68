-- what a machine has of a channel tells whether its handover mark or END came
use Rattle.law_order.proofs.Vocabulary.{◌≡◌, ◌≢◌, ◌⊎◌, inl, inr, ◌<◌, ◌≤◌, ℕ, zero, suc, Bool, true, false, true≢false, ◌||◌, List, ◌++◌, arith, refl, sym, ap, ap₂, ◌∙◌, subst, cases_eq, cases_lt, Item, has_end, has_handover, Log, below, Shelved, Shelves}
use Rattle.law_moves.proofs.Vocabulary.{has_end-append, has_handover-append}
use Rattle.law_node_history.proofs.Lemmas.{or_left as more_true, or_left as or_first, or_true as or_second}
use Rattle.law_world_ways.specs.OnPaths.Legs.{has_passed}

-- ---- behind more

pub end_more : (a b : List Item) → has_end a ≡ true → has_end (a ++ b) ≡ true
end_more a b e = has_end-append a b ∙ more_true (has_end a) (has_end b) e

handover_more : (a b : List Item) → has_handover a ≡ true → has_handover (a ++ b) ≡ true
handover_more a b e =
    has_handover-append a b ∙ more_true (has_handover a) (has_handover b) e

pub either : (a b : Bool) → (a || b) ≡ true → (a ≡ true) ⊎ (b ≡ true)
either true b e = inl refl
either false b e = inr e

pub passed_more : (a b : List Item) → has_passed a ≡ true → has_passed (a ++ b) ≡ true
passed_more a b e = by (either (has_handover a) (has_end a) e)
  where
    by : (has_handover a ≡ true) ⊎ (has_end a ≡ true) → has_passed (a ++ b) ≡ true
    by (inl handed) =
        or_first (has_handover (a ++ b)) (has_end (a ++ b)) (handover_more a b handed)
    by (inr ended) =
        or_second (has_handover (a ++ b)) (has_end (a ++ b)) (end_more a b ended)

strictly : (a b : ℕ) → a ≤ b → b ≢ a → a < b
strictly a b within apart = by (cases_lt a b)
  where
    by : (a < b) ⊎ (b ≤ a) → a < b
    by (inl less) = less
    by (inr back) = absurd (apart (omega (arith, within, back)))

-- ---- two logs of what came to the same shelves

module _ (s : Shelves) (legs other_legs : ℕ → Bool) (out other_out : List (List ℕ))
    (came other : Log) (a : Shelved s legs out came) (b : Shelved s other_legs other_out other)
  where
    handed : (n : ℕ) → n < s.current → legs n ≡ true → has_passed (came n) ≡ true
    handed n before leg =
        or_first (has_handover (came n)) (has_end (came n)) (a.past n before leg)

    ended_as : (n : ℕ) → s.current ≤ n → has_end (came n) ≡ has_end (other n)
    ended_as n from = by (cases_eq n s.current) (cases_lt n s.following) (cases_eq n s.following)
      where
        by : (n ≡ s.current) ⊎ (n ≢ s.current) → (n < s.following) ⊎ (s.following ≤ n)
            → (n ≡ s.following) ⊎ (n ≢ s.following) → has_end (came n) ≡ has_end (other n)
        by (inl now) c d =
            ap (λ (k : ℕ). has_end (came k)) now ∙ sym a.holds.ended ∙ b.holds.ended
            ∙ ap (λ (k : ℕ). has_end (other k)) (sym now)
        by (inr apart) (inl inside) d =
            let within : s.current < n = strictly s.current n from apart in
            ap has_end ((a.between n within inside).1 ∙ sym (b.between n within inside).1)
        by (inr apart) (inr past) (inl next) =
            ap (λ (k : ℕ). has_end (came k)) next ∙ sym a.holds.next_ended ∙ b.holds.next_ended
            ∙ ap (λ (k : ℕ). has_end (other k)) (sym next)
        by (inr apart) (inr past) (inr beyond) =
            let behind : s.following < n = strictly s.following n past beyond in
            sym (a.later n behind).1 ∙ (b.later n behind).1

    pub passed_as : (n : ℕ) → legs n ≡ true → other_legs n ≡ true
        → has_passed (came n) ≡ has_passed (other n)
    passed_as n leg other_leg =
        by (cases_lt n s.current) (cases_eq n s.current) (cases_lt n s.following)
        (cases_eq n s.following)
      where
        both : has_handover (came n) ≡ has_handover (other n) → s.current ≤ n
            → has_passed (came n) ≡ has_passed (other n)
        both same from = ap₂ (λ x y. x || y) same (ended_as n from)

        by : (n < s.current) ⊎ (s.current ≤ n) → (n ≡ s.current) ⊎ (n ≢ s.current)
            → (n < s.following) ⊎ (s.following ≤ n) → (n ≡ s.following) ⊎ (n ≢ s.following)
            → has_passed (came n) ≡ has_passed (other n)
        by (inl before) c d e =
            handed n before leg
            ∙ sym (or_first (has_handover (other n)) (has_end (other n))
            (b.past n before other_leg))
        by (inr from) (inl now) d e =
            both (ap (λ (k : ℕ). has_handover (came k)) now ∙ sym a.holds.finished
            ∙ b.holds.finished ∙ ap (λ (k : ℕ). has_handover (other k)) (sym now)) from
        by (inr from) (inr apart) (inl inside) e =
            absurd (true≢false (sym leg
            ∙ (a.between n (strictly s.current n from apart) inside).0))
        by (inr from) (inr apart) (inr past) (inl next) =
            both (ap (λ (k : ℕ). has_handover (came k)) next ∙ sym a.holds.next_finished
            ∙ b.holds.next_finished ∙ ap (λ (k : ℕ). has_handover (other k)) (sym next)) from
        by (inr from) (inr apart) (inr past) (inr beyond) =
            let behind : s.following < n = strictly s.following n past beyond in
            both (a.unfinished n behind ∙ sym (b.unfinished n behind)) from

    -- and END on a channel below one that is not behind
    pub ended_below : (n : ℕ) → s.current ≤ n
        → has_end (below came n) ≡ has_end (below other n)
    ended_below zero from = refl
    ended_below (suc n) from = by (cases_lt n s.current) (λ above. ended_below n above)
      where
        by : (n < s.current) ⊎ (s.current ≤ n)
            → (s.current ≤ n → has_end (below came n) ≡ has_end (below other n))
            → has_end (below came (suc n)) ≡ has_end (below other (suc n))
        by (inl before) rest =
            let now : s.current ≡ suc n = omega (arith, from, before) in
            subst (λ (k : ℕ). has_end (below came k) ≡ has_end (below other k)) now
            (sym a.holds.was_ended ∙ b.holds.was_ended)
        by (inr above) rest =
            has_end-append (below came n) (came n)
            ∙ ap₂ (λ x y. x || y) (rest above) (ended_as n above)
            ∙ sym (has_end-append (below other n) (other n))

-- ---- END below, behind more

pub ended_below_more : (came other : Log)
    → ((k : ℕ) → has_end (came k) ≡ true → has_end (other k) ≡ true) → (n : ℕ)
    → has_end (below came n) ≡ true → has_end (below other n) ≡ true
ended_below_more came other more zero e = e
ended_below_more came other more (suc n) e =
    by (ended_below_more came other more n)
    (either (has_end (below came n)) (has_end (came n))
    (sym (has_end-append (below came n) (came n)) ∙ e))
  where
    by : (has_end (below came n) ≡ true → has_end (below other n) ≡ true)
        → (has_end (below came n) ≡ true) ⊎ (has_end (came n) ≡ true)
        → has_end (below other (suc n)) ≡ true
    by rest (inl below_it) =
        has_end-append (below other n) (other n)
        ∙ or_first (has_end (below other n)) (has_end (other n)) (rest below_it)
    by rest (inr here) =
        has_end-append (below other n) (other n)
        ∙ or_second (has_end (below other n)) (has_end (other n)) (more n here)
