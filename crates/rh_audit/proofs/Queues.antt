-- queues by keys of bytes, of which one is taken out, changed and put back
use Rattle.std.proofs.Common.{◌≡◌, ℕ, List, [], ◌∷◌, ◌++◌, Bool, true, false, Some, None, refl, sym, ap, ◌∙◌, subst, arith}
use Rattle.std.specs.Prelude.{◌==◌, ◌&&◌, bytes_eq, cond, if◌then◌else◌, nat_lt}
use Rattle.std.specs.Cmp.Lexicographic.{slice_cmp}
use Rattle.std.specs.Ordering.{is_eq, nat_cmp, ordering_then}
use Rattle.std.specs.declared.cmp.Ordering.TheVariants.{Less, Equal, Greater}
use Rattle.std.specs.declared.option.Option.{Option}
use Rattle.std.proofs.lemmas.Bool.Decides.{nat_tests}
use Rattle.std.proofs.lemmas.Slice.Eq.{bytes_eq-Decides}
use Rattle.rh_audit.specs.Queues.{items_in}

-- keys are the same where they compare so
pub same_test : (a b : List ℕ) → is_eq (slice_cmp nat_cmp a b) ≡ bytes_eq a b
same_test [] [] = refl
same_test [] (y ∷ ys) = refl
same_test (x ∷ xs) [] = refl
same_test (x ∷ xs) (y ∷ ys) = by (nat_lt x y) refl (x == y) refl (same_test xs ys)
  where
    by : (less : Bool) → nat_lt x y ≡ less → (same : Bool) → (x == y) ≡ same
        → is_eq (slice_cmp nat_cmp xs ys) ≡ bytes_eq xs ys
        → is_eq (ordering_then (cond less Less (cond same Equal Greater)) (slice_cmp nat_cmp xs ys))
        ≡ (same && bytes_eq xs ys)
    by true e true k h = absurd (let both : true ≡ false = grind (arith, nat_tests, e, k) in cc)
    by true e false k h = refl
    by false e true k h = h
    by false e false k h = refl

pub same_self : (a : List ℕ) → bytes_eq a a ≡ true
same_self a = (bytes_eq-Decides a a).1 refl

-- a queue that is put at a key, and one that is taken from there
pub put_is : {Q X : Type 0} (items : Q → List X) (key : List ℕ) (old new : List ℕ → Option Q)
    (queue : Q)
    → ((q : List ℕ) → new q ≡ cond (is_eq (slice_cmp nat_cmp key q)) (Some queue) (old q))
    → (other : List ℕ) → items_in items (new other)
    ≡ (if bytes_eq key other then items queue else items_in items (old other))
put_is items key old new queue h other =
    ap (items_in items) (h other ∙ ap (λ t. cond t (Some queue) (old other)) (same_test key other))
    ∙ by (bytes_eq key other)
  where
    by : (t : Bool) → items_in items (cond t (Some queue) (old other))
        ≡ (if t then items queue else items_in items (old other))
    by true = refl
    by false = refl

pub out_is : {Q X : Type 0} (items : Q → List X) (key : List ℕ) (old new : List ℕ → Option Q)
    → ((q : List ℕ) → new q ≡ cond (is_eq (slice_cmp nat_cmp key q)) None (old q))
    → (other : List ℕ) → items_in items (new other)
    ≡ (if bytes_eq key other then [] else items_in items (old other))
out_is items key old new h other =
    ap (items_in items) (h other ∙ ap (λ t. cond t None (old other)) (same_test key other))
    ∙ by (bytes_eq key other)
  where
    by : (t : Bool) → items_in items (cond t None (old other))
        ≡ (if t then [] else items_in items (old other))
    by true = refl
    by false = refl
