-- lines in the order of their tags
use Rattle.std.proofs.Common.{◌≡◌, ◌≢◌, ℕ, zero, suc, ◌<◌, ◌≤◌, List, [], ◌∷◌, ◌++◌, length, map, get_or, take, drop, Bool, true, false, ⊎_elim, refl, sym, ap, ◌∙◌, subst, arith}
use Rattle.std.specs.Prelude.{◌==◌, ◌&&◌, ◌||◌, cond, not, slice_index_or}
use Rattle.std.specs.List.{AllByRecursion, filter, list_any}
use Rattle.std.specs.List.Sorted.{IsBinarySearchResult, IsNonDecreasing, IsNonDecreasingBy, ties}
use Rattle.std.proofs.lemmas.Bool.{cases_lt}
use Rattle.std.proofs.lemmas.List.Sorted.{searched}
use Rattle.std.specs.Ordering.{is_lt, nat_cmp}
use Rattle.std.specs.Result.{MatchResult}
use Rattle.std.specs.Prelude.{is_ok, Ok, Err}
use Rattle.std.specs.declared.result.Result.{Result}
use Rattle.std.proofs.lemmas.Bool.Decides.{nat_tests}
use Rattle.rh_audit.specs.declared.pieces.Piece.{Piece}
use Rattle.rh_audit.specs.declared.seen.Seen.{Seen}
use Rattle.std.proofs.lemmas.List.{length-take-le, take-append-drop}
use Rattle.rh_audit.specs.declared.sorting.Run.{Run}
use Rattle.rh_audit.specs.Captures.{has_tag, of_tag}
use Rattle.rh_audit.specs.Pipes.{kind_of}
use Rattle.rh_audit.specs.Runs.{IsFirstRun}
use Rattle.rh_audit.specs.Pieces.{all_seen, seen_of}
use Rattle.rh_audit.specs.Tags.{HasOther, IsRising}

-- ---- filters

pub filter_same : {X : Type 0} (p q : X → Bool) (xs : List X) → ((x : X) → p x ≡ q x)
    → filter p xs ≡ filter q xs
filter_same p q [] h = refl
filter_same p q (x ∷ xs) h =
    ap (λ t. cond t (x ∷ filter p xs) (filter p xs)) (h x)
    ∙ ap (λ more. cond (q x) (x ∷ more) more) (filter_same p q xs h)

pub map_filter : {X Y : Type 0} (f : X → Y) (q : Y → Bool) (xs : List X)
    → map f (filter (λ x. q (f x)) xs) ≡ filter q (map f xs)
map_filter f q [] = refl
map_filter f q (x ∷ xs) = by (q (f x)) (map_filter f q xs)
  where
    by : (t : Bool) → map f (filter (λ x. q (f x)) xs) ≡ filter q (map f xs)
        → map f (cond t (x ∷ filter (λ x. q (f x)) xs) (filter (λ x. q (f x)) xs))
        ≡ cond t (f x ∷ filter q (map f xs)) (filter q (map f xs))
    by true h = ap (λ more. f x ∷ more) h
    by false h = h

abbrev is_some_list : {X : Type 0} → List X → Bool
is_some_list [] = false
is_some_list (x ∷ xs) = true

pub any_filter : {X : Type 0} (p : X → Bool) (xs : List X)
    → list_any p xs ≡ is_some_list (filter p xs)
any_filter p [] = refl
any_filter p (x ∷ xs) = by (p x) (any_filter p xs)
  where
    by : (t : Bool) → list_any p xs ≡ is_some_list (filter p xs)
        → (t || list_any p xs) ≡ is_some_list (cond t (x ∷ filter p xs) (filter p xs))
    by true h = refl
    by false h = h

-- what is filtered in the same way is there in the same way
pub any_same : {X : Type 0} (p : X → Bool) (xs ys : List X) → filter p xs ≡ filter p ys
    → list_any p xs ≡ list_any p ys
any_same p xs ys h = any_filter p xs ∙ ap is_some_list h ∙ sym (any_filter p ys)

-- numbers that tie are the same
pub ties_is : (x y : ℕ)
    → (not (is_lt (nat_cmp x y)) && not (is_lt (nat_cmp y x))) ≡ (y == x)
ties_is x y = grind (arith, nat_tests)

-- ---- lines

-- what was sorted by a number has the lines of each number as they stood
pub tags_kept : (xs ys : List Piece)
    → ((x : Piece) → filter (ties (λ (a b : Piece). is_lt (nat_cmp a.tag b.tag)) x) ys
    ≡ filter (ties (λ (a b : Piece). is_lt (nat_cmp a.tag b.tag)) x) xs)
    → length ys ≡ length xs
    → (tag : ℕ) → of_tag tag (all_seen ys) ≡ of_tag tag (all_seen xs)
tags_kept [] [] stable size tag = refl
tags_kept [] (y ∷ ys) stable size tag = absurd (omega (arith, size))
tags_kept (p ∷ xs) ys stable size tag =
    let x : Piece = record p { tag = tag } in
    let test : Piece → Bool = ties (λ (a b : Piece). is_lt (nat_cmp a.tag b.tag)) x in
    let is : (y : Piece) → test y ≡ has_tag tag (seen_of y) = λ y. ties_is tag y.tag in
    sym (map_filter seen_of (has_tag tag) ys)
    ∙ ap (map seen_of) (sym (filter_same test (λ y. has_tag tag (seen_of y)) ys is))
    ∙ ap (map seen_of) (stable x)
    ∙ ap (map seen_of) (filter_same test (λ y. has_tag tag (seen_of y)) (p ∷ xs) is)
    ∙ map_filter seen_of (has_tag tag) (p ∷ xs)

all_from : (least : ℕ) (pieces : List Piece)
    → ((j : ℕ) (d : Piece) → j < length pieces → least ≤ (slice_index_or pieces j d).tag)
    → AllByRecursion (λ line. least ≤ line.tag) (all_seen pieces)
all_from least [] h = tt
all_from least (p ∷ pieces) h =
    (h 0 p (omega arith), all_from least pieces (λ j d below. h (suc j) d (omega (arith, below))))

pub rising_from : (pieces : List Piece) → IsNonDecreasingBy (λ p. p.tag) pieces
    → IsRising (all_seen pieces)
rising_from [] up = tt
rising_from (p ∷ pieces) up = (
  all_from p.tag pieces (λ j d below. up 0 (suc j) d (omega arith) (omega (arith, below))),
  rising_from pieces (λ i j d le below. up (suc i) (suc j) d (omega (arith, le)) (omega (arith, below))),
)

-- ---- tags

pub any_at : (xs : List ℕ) (x i : ℕ) → i < length xs → get_or xs i 0 ≡ x
    → list_any (λ y. y == x) xs ≡ true
any_at [] x i below is = absurd (omega (arith, below))
any_at (y ∷ xs) x zero below is =
    let here : (y == x) ≡ true = grind (arith, nat_tests, is) in
    ap (λ t. t || list_any (λ y. y == x) xs) here
any_at (y ∷ xs) x (suc i) below is =
    ap (λ t. (y == x) || t) (any_at xs x i (omega (arith, below)) is) ∙ or_true (y == x)
  where
    or_true : (b : Bool) → (b || true) ≡ true
    or_true true = refl
    or_true false = refl

pub none_at : (xs : List ℕ) (x : ℕ) → ((k : ℕ) → k < length xs → get_or xs k 0 ≢ x)
    → list_any (λ y. y == x) xs ≡ false
none_at [] x h = refl
none_at (y ∷ xs) x h =
    let here : (y == x) ≡ false = (let other = h 0 (omega arith) in grind (arith, nat_tests, other)) in
    ap (λ t. t || list_any (λ y. y == x) xs) here
    ∙ none_at xs x (λ k below. h (suc k) (omega (arith, below)))

pub any_map : {X Y : Type 0} (f : X → Y) (q : Y → Bool) (xs : List X)
    → list_any q (map f xs) ≡ list_any (λ x. q (f x)) xs
any_map f q [] = refl
any_map f q (x ∷ xs) = ap (λ t. q (f x) || t) (any_map f q xs)

-- a number is among sorted ones as it was before
pub any_sorted : (tag : ℕ) (xs ys : List ℕ)
    → filter (ties (λ x y. is_lt (nat_cmp x y)) tag) ys
    ≡ filter (ties (λ x y. is_lt (nat_cmp x y)) tag) xs
    → list_any (λ other. other == tag) ys ≡ list_any (λ other. other == tag) xs
any_sorted tag xs ys h =
    let same = λ (other : ℕ). ties_is tag other in
    any_same (λ other. other == tag) ys xs
    (sym (filter_same (ties (λ x y. is_lt (nat_cmp x y)) tag) (λ other. other == tag) ys same)
    ∙ h ∙ filter_same (ties (λ x y. is_lt (nat_cmp x y)) tag) (λ other. other == tag) xs same)

-- and a search finds it just where it is there
pub found_is : (xs : List ℕ) (x : ℕ) (r : Result ℕ ℕ)
    → IsBinarySearchResult (λ y. nat_cmp y x) xs r → IsNonDecreasing xs
    → is_ok r ≡ list_any (λ other. other == x) xs
found_is xs x r h up = by r (searched xs x r h (λ i j le below. up i j 0 le below))
  where
    by : (r : Result ℕ ℕ)
        → MatchResult r (λ i. (i < length xs) × (get_or xs i 0 ≡ x))
        (λ i. (i ≤ length xs) × ((k : ℕ) → k < i → get_or xs k 0 < x)
        × ((k : ℕ) → i ≤ k → k < length xs → x < get_or xs k 0))
        → is_ok r ≡ list_any (λ other. other == x) xs
    by (Ok i) k = sym (any_at xs x i k.0 k.1)
    by (Err i) k = sym (none_at xs x (λ n below is.
        ⊎_elim (λ less. absurd (omega (arith, k.1 n less, is)))
        (λ more. absurd (omega (arith, k.2 n more below, is))) (cases_lt n i)))

-- ---- a run of lines

pub same_more : (tag n : ℕ) (pieces : List Piece) (d : Piece) → n < length pieces
    → AllByRecursion (λ (line : Seen). line.tag ≡ tag) (all_seen (take n pieces))
    → (slice_index_or pieces n d).tag ≡ tag
    → AllByRecursion (λ (line : Seen). line.tag ≡ tag) (all_seen (take (suc n) pieces))
same_more tag n [] d below all is = absurd (omega (arith, below))
same_more tag zero (p ∷ pieces) d below all is = (is, tt)
same_more tag (suc n) (p ∷ pieces) d below all is =
    (all.0, same_more tag n pieces d (omega (arith, below)) all.1 is)

pub other_here : (tag n : ℕ) (pieces : List Piece) (d : Piece) → n < length pieces
    → (slice_index_or pieces n d).tag ≢ tag
    → HasOther tag (all_seen (drop n pieces))
other_here tag n [] d below other = absurd (omega (arith, below))
other_here tag zero (p ∷ pieces) d below other = other
other_here tag (suc n) (p ∷ pieces) d below other =
    other_here tag n pieces d (omega (arith, below)) other

-- the lines with the first tag
pub run_is : (lines : List Piece) (d : Piece) (count : ℕ) (run : Run)
    → 0 < length lines → count ≤ length lines
    → AllByRecursion (λ (line : Seen). line.tag ≡ (slice_index_or lines 0 d).tag)
    (all_seen (take count lines))
    → HasOther (slice_index_or lines 0 d).tag (all_seen (drop count lines))
    → run.lines.now ≡ take count lines
    → run.tag ≡ (slice_index_or lines 0 d).tag
    → run.kind ≡ kind_of (slice_index_or lines 0 d).pipe
    → IsFirstRun lines run (drop (length run.lines.now) lines)
run_is [] d count run some most same other front tag kind = absurd (omega (arith, some))
run_is (p ∷ ps) d zero run some most same other front tag kind = absurd (other refl)
run_is (p ∷ ps) d (suc n) run some most same other front tag kind =
    let size : length run.lines.now ≡ suc n =
    ap length front ∙ length-take-le (suc n) (p ∷ ps) most in
    let behind : drop (length run.lines.now) (p ∷ ps) ≡ drop n ps =
    ap (λ k. drop k (p ∷ ps)) size in
    record {
      first = p;
      later = take n ps;
      begins = front;
      joined = ap (λ x. p ∷ x) (sym (take-append-drop n ps)
          ∙ ap (λ x. take n ps ++ x) (sym behind));
      tag = tag;
      kind = kind;
      same = same.1;
      other = subst (λ x. HasOther p.tag (all_seen x)) (sym behind) other;
    }
