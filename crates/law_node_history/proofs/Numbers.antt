-- what stands at a number, where something is put there, acts or changes
use Rattle.std.specs.Option.{unwrap_or}
use Rattle.law_order.proofs.Vocabulary.{◌≡◌, ℕ, zero, suc, ◌+◌, ◌-◌, ◌<◌, ◌≤◌, List, [], ◌∷◌, ◌++◌, length, get_or, Some, None, Bool, true, false, refl, sym, ap, ◌∙◌, arith, ◌⊎◌, inl, inr, slice_get, ◌≢◌, Option, true≢false, cases_lt, length_push, get_or-set_same, get_or-set_other, get_or_past, slice_get_within, get_or_from_slice_get, unwrap_or-slice_get, slice_get-get_or}
use Rattle.rh_wires.proofs.Grown.{get_or-blank}
use Rattle.law_node_history.proofs.Vocabulary.{more, grown, put_at, ask, act, act_by, change, change_by}

module _ {X : Type 0} (blank : X) where
  -- ---- lengths

  more_length : (n : ℕ) (list : List X) → length (more n blank list) ≡ length list + n
  more_length zero list = omega arith
  more_length (suc n) list =
      let l = more_length n (list ++ blank ∷ []) in
      let p = length_push list blank in
      omega (arith, l, p)

  pub grown_length : (len : ℕ) (list : List X) → len ≤ length (grown len blank list)
  grown_length len list =
      let l = more_length (len - length list) list in
      omega (arith, l)

  -- ---- blank items change nothing

  more_at : (n : ℕ) (list : List X) (k : ℕ)
      → get_or (more n blank list) k blank ≡ get_or list k blank
  more_at zero list k = refl
  more_at (suc n) list k = more_at n (list ++ blank ∷ []) k ∙ get_or-blank blank list k

  pub grown_at : (len : ℕ) (list : List X) (k : ℕ)
      → get_or (grown len blank list) k blank ≡ get_or list k blank
  grown_at len list k = more_at (len - length list) list k

  -- ---- an item is put

  pub put_here : (list : List X) (n : ℕ) (x : X) → get_or (put_at blank list n x) n blank ≡ x
  put_here list n x =
      let l = grown_length (n + 1) list in
      get_or-set_same (grown (n + 1) blank list) n x blank (omega (arith, l))

  pub put_elsewhere : (list : List X) (n k : ℕ) (x : X) → k ≢ n
      → get_or (put_at blank list n x) k blank ≡ get_or list k blank
  put_elsewhere list n k x other =
      get_or-set_other (grown (n + 1) blank list) n k x blank other
      ∙ more_at (n + 1 - length list) list k

  -- ---- an item is asked

  pub asked : {A : Type 0} (f : X → A) (list : List X) (n : ℕ)
      → ask f (f blank) list n ≡ f (get_or list n blank)
  asked f [] n = refl
  asked f (x ∷ list) zero = refl
  asked f (x ∷ list) (suc n) = asked f list n

  -- ---- an item acts, or changes

  none_at : (list : List X) (n : ℕ) → slice_get list n ≡ None → get_or list n blank ≡ blank
  none_at list n e =
      sym (unwrap_or-slice_get list n blank) ∙ ap (λ o. unwrap_or o blank) e

  module _ {A : Type 0} (f : X → X × A) (a : A) (idle : f blank ≡ (blank, a)) where
    acted_by : (list : List X) (n : ℕ) (o : Option X) → slice_get list n ≡ o
        → get_or (act_by f a list n o).0 n blank ≡ (f (get_or list n blank)).0
    acted_by list n None e =
        let none = none_at list n e in
        none ∙ sym (ap (λ x. (f x).0) none ∙ ap (λ did. did.0) idle)
    acted_by list n (Some x) e =
        get_or-set_same list n (f x).0 blank (slice_get_within list n x e)
        ∙ ap (λ y. (f y).0) (sym (get_or_from_slice_get list n x blank e))

    pub acted : (list : List X) (n : ℕ)
        → get_or (act f a list n).0 n blank ≡ (f (get_or list n blank)).0
    acted list n = acted_by list n (slice_get list n) refl

    answered_by : (list : List X) (n : ℕ) (o : Option X) → slice_get list n ≡ o
        → (act_by f a list n o).1 ≡ (f (get_or list n blank)).1
    answered_by list n None e =
        sym (ap (λ x. (f x).1) (none_at list n e) ∙ ap (λ did. did.1) idle)
    answered_by list n (Some x) e =
        ap (λ y. (f y).1) (sym (get_or_from_slice_get list n x blank e))

    pub answered : (list : List X) (n : ℕ) → (act f a list n).1 ≡ (f (get_or list n blank)).1
    answered list n = answered_by list n (slice_get list n) refl

  acts_elsewhere_by : {A : Type 0} (f : X → X × A) (a : A) (list : List X) (n k : ℕ)
      (o : Option X) → k ≢ n → get_or (act_by f a list n o).0 k blank ≡ get_or list k blank
  acts_elsewhere_by f a list n k None other = refl
  acts_elsewhere_by f a list n k (Some x) other =
      get_or-set_other list n k (f x).0 blank other

  pub acts_elsewhere : {A : Type 0} (f : X → X × A) (a : A) (list : List X) (n k : ℕ) → k ≢ n
      → get_or (act f a list n).0 k blank ≡ get_or list k blank
  acts_elsewhere f a list n k other =
      acts_elsewhere_by f a list n k (slice_get list n) other

  module _ (f : X → X) (idle : f blank ≡ blank) where
    changed_by : (list : List X) (n : ℕ) (o : Option X) → slice_get list n ≡ o
        → get_or (change_by f list n o) n blank ≡ f (get_or list n blank)
    changed_by list n None e =
        let none = none_at list n e in none ∙ sym (ap f none ∙ idle)
    changed_by list n (Some x) e =
        get_or-set_same list n (f x) blank (slice_get_within list n x e)
        ∙ ap f (sym (get_or_from_slice_get list n x blank e))

    pub changed_here : (list : List X) (n : ℕ)
        → get_or (change f list n) n blank ≡ f (get_or list n blank)
    changed_here list n = changed_by list n (slice_get list n) refl

  changes_elsewhere_by : (f : X → X) (list : List X) (n k : ℕ) (o : Option X) → k ≢ n
      → get_or (change_by f list n o) k blank ≡ get_or list k blank
  changes_elsewhere_by f list n k None other = refl
  changes_elsewhere_by f list n k (Some x) other = get_or-set_other list n k (f x) blank other

  pub changes_elsewhere : (f : X → X) (list : List X) (n k : ℕ) → k ≢ n
      → get_or (change f list n) k blank ≡ get_or list k blank
  changes_elsewhere f list n k other =
      changes_elsewhere_by f list n k (slice_get list n) other

  -- ---- where there is an item

  pub within : (test : X → Bool) (list : List X) (n : ℕ) → test (get_or list n blank) ≡ true
      → test blank ≡ false → n < length list
  within test list n yes_here no_blank = by (cases_lt n (length list))
    where
      by : (n < length list) ⊎ (length list ≤ n) → n < length list
      by (inl inside) = inside
      by (inr past) =
          absurd (true≢false (sym yes_here ∙ ap test (get_or_past list n blank past) ∙ no_blank))

  module _ (list : List X) (n : ℕ) (inside : n < length list) where
    some_at : slice_get list n ≡ Some (get_or list n blank)
    some_at = slice_get-get_or list n blank inside

    pub changed_within : (f : X → X)
        → get_or (change f list n) n blank ≡ f (get_or list n blank)
    changed_within f =
        ap (λ o. get_or (change_by f list n o) n blank) some_at
        ∙ get_or-set_same list n (f (get_or list n blank)) blank inside

    pub acted_within : {A : Type 0} (f : X → X × A) (a : A)
        → get_or (act f a list n).0 n blank ≡ (f (get_or list n blank)).0
    acted_within f a =
        ap (λ o. get_or (act_by f a list n o).0 n blank) some_at
        ∙ get_or-set_same list n (f (get_or list n blank)).0 blank inside

    pub answered_within : {A : Type 0} (f : X → X × A) (a : A)
        → (act f a list n).1 ≡ (f (get_or list n blank)).1
    answered_within f a = ap (λ o. (act_by f a list n o).1) some_at
