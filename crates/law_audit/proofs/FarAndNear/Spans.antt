-- channels from one number to another, joined
use Rattle.law_order.proofs.Vocabulary.{◌≡◌, ◌<◌, ◌≤◌, ◌+◌, ◌++◌, ℕ, zero, suc, List, [], arith, refl, sym, ap, ap₂, ◌∙◌, subst, append_assoc, IsPrefix, Item, Log, below}
use Rattle.law_order.proofs.Prefixes.{prefix_behind}

-- so many channels behind one, and that
abbrev pub span : Log → ℕ → ℕ → List Item
span log n zero = log n
span log n (suc d) = log n ++ span log (suc n) d

-- the last one put at the end
span_last : (log : Log) (n d : ℕ) → span log n (suc d) ≡ span log n d ++ log (n + suc d)
span_last log n zero =
    let at : suc n ≡ n + 1 = omega arith in ap (λ (k : ℕ). log n ++ log k) at
span_last log n (suc d) =
    let at : suc n + suc d ≡ n + suc (suc d) = omega arith in
    ap (λ (items : List Item). log n ++ items) (span_last log (suc n) d)
    ∙ sym (append_assoc (log n) (span log (suc n) d) (log (suc n + suc d)))
    ∙ ap (λ (k : ℕ). (log n ++ span log (suc n) d) ++ log k) at

none_below : (log : Log) (n : ℕ) → ((k : ℕ) → k < n → log k ≡ []) → below log n ≡ []
none_below log zero none = refl
none_below log (suc n) none =
    ap₂ (λ (a b : List Item). a ++ b)
    (none_below log n (λ k less. none k (omega (arith, less)))) (none n (omega arith))

-- all channels up to one, where there is nothing before the first of them
pub through_span : (log : Log) (n d : ℕ) → ((k : ℕ) → k < n → log k ≡ [])
    → below log (n + d) ++ log (n + d) ≡ span log n d
through_span log n zero none =
    let at : n + 0 ≡ n = omega arith in
    ap (λ (k : ℕ). below log k ++ log k) at
    ∙ ap (λ (front : List Item). front ++ log n) (none_below log n none)
through_span log n (suc d) none =
    let at : n + suc d ≡ suc (n + d) = omega arith in
    ap (λ (k : ℕ). below log k ++ log k) at
    ∙ ap₂ (λ (front : List Item) (k : ℕ). front ++ log k) (through_span log n d none) (sym at)
    ∙ sym (span_last log n d)

-- the same but for the last, of which one has a front of the other's
pub span_front : (a b : Log) (n d : ℕ) → ((k : ℕ) → n ≤ k → k < n + d → a k ≡ b k)
    → IsPrefix (a (n + d)) (b (n + d)) → IsPrefix (span a n d) (span b n d)
span_front a b n zero same p =
    let at : n + 0 ≡ n = omega arith in
    subst (λ (k : ℕ). IsPrefix (a k) (b k)) at p
span_front a b n (suc d) same p =
    let at : n + suc d ≡ suc n + d = omega arith in
    let here = same n (omega arith) (omega arith) in
    subst (λ (front : List Item). IsPrefix (front ++ span a (suc n) d) (b n ++ span b (suc n) d))
    (sym here)
    (prefix_behind (b n) (span a (suc n) d) (span b (suc n) d)
    (span_front a b (suc n) d
    (λ k least less. same k (omega (arith, least)) (omega (arith, less)))
    (subst (λ (k : ℕ). IsPrefix (a k) (b k)) at p)))

-- and the same
pub span_same : (a b : Log) (n d : ℕ) → ((k : ℕ) → n ≤ k → k ≤ n + d → a k ≡ b k)
    → span a n d ≡ span b n d
span_same a b n zero same = same n (omega arith) (omega arith)
span_same a b n (suc d) same =
    ap₂ (λ (x y : List Item). x ++ y) (same n (omega arith) (omega arith))
    (span_same a b (suc n) d (λ k least most. same k (omega (arith, least)) (omega (arith, most))))
