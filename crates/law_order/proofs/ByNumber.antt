-- laws of values by number, and of logs
use Rattle.law_order.proofs.Vocabulary.{◌≡◌, ◌≢◌, ℕ, zero, suc, ◌+◌, ◌-◌, ◌<◌, ◌≤◌, Bool, true, false, nat_eq, if◌then◌else◌, List, [], ◌∷◌, ◌++◌, arith, refl, sym, subst, append_assoc, append-nil, nat_tests, fun_ext, IsPrefix, Item, Log, change, more, below, seen}
use Rattle.law_order.proofs.Prefixes.{prefix_self, prefix_more, prefix_trans}

-- a fact of either side of a test
pub by_test : {X : Type 0} (P : X → Type 0) (b : Bool) (x y : X) → (b ≡ true → P x)
    → (b ≡ false → P y) → P (if b then x else y)
by_test P true x y then_so else_so = then_so refl
by_test P false x y then_so else_so = else_so refl

pub same_number : (n k : ℕ) → nat_eq n k ≡ true → n ≡ k
same_number n k e = grind (arith, nat_tests)

pub other_number : (n k : ℕ) → nat_eq n k ≡ false → n ≢ k
other_number n k e = grind (arith, nat_tests)

pub test_same : (n : ℕ) → nat_eq n n ≡ true
test_same n = grind (arith, nat_tests)

pub test_other : (n k : ℕ) → n ≢ k → nat_eq n k ≡ false
test_other n k e = grind (arith, nat_tests)

-- ---- a value is changed

pub change_here : {X : Type 0} (n : ℕ) (f : X → X) (values : ℕ → X)
    → change n f values n ≡ f (values n)
change_here n f values = rw (test_same n) refl

pub change_other : {X : Type 0} (n : ℕ) (f : X → X) (values : ℕ → X) (k : ℕ) → k ≢ n
    → change n f values k ≡ values k
change_other n f values k o = rw (test_other k n o) refl

-- a fact of each number
pub change_each : {X : Type 0} (P : ℕ → X → Type 0) (n : ℕ) (f : X → X) (values : ℕ → X)
    → ((k : ℕ) → P k (values k)) → P n (f (values n)) → (k : ℕ) → P k (change n f values k)
change_each P n f values each here k =
    by_test (P k) (nat_eq k n) (f (values k)) (values k)
    (λ e. subst (λ j. P j (f (values j))) (sym (same_number k n e)) here)
    (λ e. each k)

-- ---- logs

pub more_here : {X : Type 0} (n : ℕ) (items : List X) (log : ℕ → List X)
    → more n items log n ≡ log n ++ items
more_here n items log = change_here n (λ before. before ++ items) log

pub more_other : {X : Type 0} (n : ℕ) (items : List X) (log : ℕ → List X) (k : ℕ) → k ≢ n
    → more n items log k ≡ log k
more_other n items log k o = change_other n (λ before. before ++ items) log k o

-- nothing more
pub more_none : {X : Type 0} (n : ℕ) (log : ℕ → List X) → more n [] log ≡ log
more_none n log =
    fun_ext (λ k. change_each (λ j items. items ≡ log j) n (λ before. before ++ []) log
    (λ j. refl) (append-nil (log n)) k)

-- ---- what order sees

pub seen-append : {M : Type 0} (view : M → List Item) (a b : List M)
    → seen view (a ++ b) ≡ seen view a ++ seen view b
seen-append view [] b = refl
seen-append view (m ∷ a) b =
    rw (seen-append view a b) (sym (append_assoc (view m) (seen view a) (seen view b)))

-- ---- joined

pub below_same : {X : Type 0} (a b : ℕ → List X) (n : ℕ) → ((k : ℕ) → k < n → a k ≡ b k)
    → below a n ≡ below b n
below_same a b zero same = refl
below_same a b (suc n) same =
    rw (below_same a b n (λ k l. same k (omega arith)), same n (omega arith)) refl

-- what is put on a channel leaves those below
pub below_more : (log : Log) (n : ℕ) (items : List Item) (k : ℕ) → k ≤ n
    → below (more n items log) k ≡ below log k
below_more log n items k l =
    below_same (more n items log) log k
    (λ j i. more_other n items log j (λ e. absurd (omega arith)))

pub below_further : (log : Log) (n count k : ℕ) → n + count ≡ k
    → IsPrefix (below log n) (below log k)
below_further log n zero k e =
    let same : n ≡ k = omega arith in
    subst (λ j. IsPrefix (below log n) (below log j)) same (prefix_self (below log n))
below_further log n (suc count) k e =
    let shorter = below_further log n count (n + count) refl in
    let same : suc (n + count) ≡ k = omega arith in
    subst (λ j. IsPrefix (below log n) (below log j)) same
    (prefix_trans (below log n) (below log (n + count)) (below log (suc (n + count))) shorter
    (prefix_more (below log (n + count)) (log (n + count))))

-- the channels below a number are a front of those below a greater one
pub below_prefix : (log : Log) (n k : ℕ) → n ≤ k → IsPrefix (below log n) (below log k)
below_prefix log n k l = below_further log n (k - n) k (omega arith)

-- channels of which nothing was put add nothing
pub below_empty : {X : Type 0} (log : ℕ → List X) (n : ℕ) → ((k : ℕ) → k < n → log k ≡ [])
    → below log n ≡ []
below_empty log zero none = refl
below_empty log (suc n) none =
    rw (below_empty log n (λ k l. none k (omega arith)), none n (omega arith)) refl
