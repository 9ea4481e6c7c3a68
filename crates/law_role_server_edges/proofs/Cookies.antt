-- how many os legs that a server keeps have a cookie
use Rattle.law_order.proofs.Vocabulary.{◌≡◌, ℕ, zero, suc, ◌+◌, ◌≤◌, cond, Bool, true, false, true≢false, false≢true, List, [], ◌∷◌, ◌++◌, Some, None, arith, refl, sym, ap, ◌∙◌, bytes_eq-Decides, position, position-Some, slice_get, slice_get-get_or, slice_set, remove, Option}
use Rattle.law_moves.proofs.Vocabulary.{Cookie, one_if}
use Rattle.law_role_server.proofs.Vocabulary.{OutLeg, is_of_channel, is_some, channel_leg, channel_place, cookie_by, number_by, out_at, out_cookie, out_leg_up, out_place}
use Rattle.law_role_server.proofs.Counted.InLegs.{next_place, place_step}

module _ (cookie : Cookie) where
  abbrev pub has : OutLeg → Bool
  has leg = is_of_channel cookie leg.cookie

  abbrev pub kept : List OutLeg → ℕ
  kept [] = 0
  kept (leg ∷ legs) = one_if (has leg) + kept legs

  -- ---- a leg changes, comes, or goes

  abbrev has_by : Option OutLeg → ℕ
  has_by None = 0
  has_by (Some leg) = one_if (has leg)

  same_at : (x y : OutLeg) → Some x ≡ Some y → one_if (has x) ≡ one_if (has y)
  same_at x y e = ap has_by e

  pub kept_push : (legs : List OutLeg) (leg : OutLeg)
      → kept (legs ++ leg ∷ []) ≡ kept legs + one_if (has leg)
  kept_push [] leg = omega arith
  kept_push (x ∷ legs) leg = let rest = kept_push legs leg in omega (arith, rest)

  pub kept_set : (legs : List OutLeg) (place : ℕ) (x y : OutLeg)
      → slice_get legs place ≡ Some x
      → kept (slice_set legs place y) + one_if (has x) ≡ kept legs + one_if (has y)
  kept_set [] place x y at = absurd cc
  kept_set (z ∷ legs) zero x y at =
      let same = same_at z x at in omega (arith, same)
  kept_set (z ∷ legs) (suc place) x y at =
      let rest = kept_set legs place x y at in omega (arith, rest)

  pub kept_removed : (legs : List OutLeg) (place : ℕ) (x : OutLeg)
      → slice_get legs place ≡ Some x → kept (remove legs place) + one_if (has x) ≡ kept legs
  kept_removed [] place x at = absurd cc
  kept_removed (z ∷ legs) zero x at =
      let same = same_at z x at in omega (arith, same)
  kept_removed (z ∷ legs) (suc place) x at =
      let rest = kept_removed legs place x at in omega (arith, rest)

  pub kept_fewer : (legs : List OutLeg) (place : ℕ) → kept (remove legs place) ≤ kept legs
  kept_fewer [] zero = omega arith
  kept_fewer [] (suc place) = omega arith
  kept_fewer (z ∷ legs) zero = omega arith
  kept_fewer (z ∷ legs) (suc place) =
      let rest = kept_fewer legs place in omega (arith, rest)

  -- ---- one is found

  kept_at : (legs : List OutLeg) (place : ℕ) (x : OutLeg) → slice_get legs place ≡ Some x
      → has x ≡ true → 1 ≤ kept legs
  kept_at [] place x at is = absurd cc
  kept_at (z ∷ legs) zero x at is =
      let same = same_at z x at in let one = ap one_if is in omega (arith, same, one)
  kept_at (z ∷ legs) (suc place) x at is =
      let rest = kept_at legs place x at is in omega (arith, rest)

  -- the leg of a number has it
  pub kept_one : (legs : List OutLeg) (n : ℕ) → out_cookie n legs ≡ Some cookie → 1 ≤ kept legs
  kept_one legs n = by (out_place n legs)
    where
      itself : is_of_channel cookie (Some cookie) ≡ true
      itself = (bytes_eq-Decides cookie.0 cookie.0).1 refl

      by_leg : (place : ℕ) (o : Option OutLeg) → slice_get legs place ≡ o
          → cookie_by o ≡ Some cookie → 1 ≤ kept legs
      by_leg place None at e = absurd (false≢true (ap (λ (o : Option Cookie). is_some o) e))
      by_leg place (Some x) at e = kept_at legs place x at (ap (is_of_channel cookie) e ∙ itself)

      by : (place : Option ℕ) → cookie_by (out_at legs place) ≡ Some cookie → 1 ≤ kept legs
      by None e = absurd (false≢true (ap (λ (o : Option Cookie). is_some o) e))
      by (Some place) e = by_leg place (slice_get legs place) refl e

  none_kept : (legs : List OutLeg) → is_some (channel_place cookie legs) ≡ false → kept legs ≡ 0
  none_kept [] none = refl
  none_kept (leg ∷ legs) none =
      by (has leg) refl (channel_place cookie legs) (none_kept legs)
      (sym (ap (λ (o : Option ℕ). is_some o)
      (place_step (λ (x : OutLeg). is_of_channel cookie x.cookie) leg legs)) ∙ none)
    where
      further : (place : Option ℕ) → is_some (next_place place) ≡ false → is_some place ≡ false
      further None e = refl
      further (Some place) e = absurd (true≢false e)

      by : (b : Bool) → has leg ≡ b → (place : Option ℕ)
          → (is_some place ≡ false → kept legs ≡ 0)
          → is_some (cond b (Some 0) (next_place place)) ≡ false
          → one_if (has leg) + kept legs ≡ 0
      by true e place rest none = absurd (true≢false none)
      by false e place rest none =
          let zero = ap one_if e in
          let others = rest (further place none) in omega (arith, zero, others)

  -- where none is found, none has it
  pub none_leg : (legs : List OutLeg) → channel_leg cookie legs ≡ None → kept legs ≡ 0
  none_leg legs = by (channel_place cookie legs) refl
    where
      by_leg : (place : ℕ) → channel_place cookie legs ≡ Some place → (o : Option OutLeg)
          → slice_get legs place ≡ o → number_by o ≡ None → kept legs ≡ 0
      by_leg place found (Some x) at e =
          absurd (true≢false (ap (λ (o : Option ℕ). is_some o) e))
      by_leg place found None at e =
          let less = (position-Some (λ (x : OutLeg). is_of_channel cookie x.cookie) legs place
          (out_leg_up 0) found).0 in
          absurd (false≢true (ap (λ (o : Option OutLeg). is_some o)
          (sym at ∙ slice_get-get_or legs place (out_leg_up 0) less)))

      by : (place : Option ℕ) → channel_place cookie legs ≡ place
          → number_by (out_at legs place) ≡ None → kept legs ≡ 0
      by None found e = none_kept legs (ap (λ (o : Option ℕ). is_some o) found)
      by (Some place) found e = by_leg place found (slice_get legs place) refl e
