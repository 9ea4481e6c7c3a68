-- legs that wait for the cookie of the channel that they replace
use Rattle.std.proofs.Common.{◌≡◌, ℕ, suc, ◌≤◌, List, [], ◌∷◌, ◌++◌, length, arith, Bool, true, false, Some, None, refl, sym, ap, ◌∙◌, subst}
use Rattle.std.specs.Prelude.{bytes_eq, cond, if◌then◌else◌, map}
use Rattle.std.specs.List.{filter}
use Rattle.std.specs.declared.option.Option.{Option}
use Rattle.std.proofs.lemmas.List.{append-nil, append_assoc}
use Rattle.std.proofs.lemmas.Slice.Eq.{bytes_eq-Decides}
use Rattle.rh_rts.specs.declared.command.Cookie.{Cookie}
use Rattle.rh_audit.specs.declared.link.Link.{Link}
use Rattle.rh_audit.specs.Chains.{Leg, chain, connects, first_and_others, follow, is_connected, is_cookie, next_by, replaces}
use Rattle.rh_audit.specs.Links.{leg_of, legs_of}
use Rattle.rh_audit.specs.Waiting.{StartsBy, Waits}
use Rattle.rh_audit.proofs.Chains.{Picks, follow_enough, picked_size, picks}

-- ---- filters

filter_append : (p : Leg → Bool) (xs ys : List Leg)
    → filter p (xs ++ ys) ≡ filter p xs ++ filter p ys
filter_append p [] ys = refl
filter_append p (x ∷ xs) ys = by (p x) (filter_append p xs ys)
  where
    by : (t : Bool) → filter p (xs ++ ys) ≡ filter p xs ++ filter p ys
        → cond t (x ∷ filter p (xs ++ ys)) (filter p (xs ++ ys))
        ≡ cond t (x ∷ filter p xs) (filter p xs) ++ filter p ys
    by true h = ap (λ more. x ∷ more) h
    by false h = h

-- with one leg more
pub filter_more : (p : Leg → Bool) (legs : List Leg) (leg : Leg)
    → filter p (legs ++ leg ∷ []) ≡ (if p leg then filter p legs ++ leg ∷ [] else filter p legs)
filter_more p legs leg = filter_append p legs (leg ∷ []) ∙ by (p leg)
  where
    by : (t : Bool) → filter p legs ++ cond t (leg ∷ []) []
        ≡ (if t then filter p legs ++ leg ∷ [] else filter p legs)
    by true = refl
    by false = append-nil (filter p legs)

legs_append : (xs ys : List Link) → legs_of (xs ++ ys) ≡ legs_of xs ++ legs_of ys
legs_append [] ys = refl
legs_append (x ∷ xs) ys = ap (λ more. leg_of x ∷ more) (legs_append xs ys)

-- ---- sorting them

-- a leg that replaces none waits for nothing
pub waits_not : (waiting : List ℕ → List Link) (legs : List Leg) (leg : Leg)
    → Waits waiting legs → leg.predecessor ≡ None
    → Waits waiting (legs ++ leg ∷ [])
waits_not waiting legs leg h none cookie =
    h cookie ∙ sym (filter_more (replaces cookie) legs leg
    ∙ ap (λ o. if is_cookie cookie o then filter (replaces cookie) legs ++ leg ∷ []
    else filter (replaces cookie) legs) none)

-- a leg that replaces one waits behind the others that do
pub waits_more : (waiting next : List ℕ → List Link) (legs : List Leg) (link : Link)
    (cookie : Cookie) → Waits waiting legs → link.predecessor ≡ Some cookie
    → ((other : List ℕ) → next other
    ≡ (if bytes_eq cookie.0 other then waiting other ++ link ∷ [] else waiting other))
    → Waits next (legs ++ leg_of link ∷ [])
waits_more waiting next legs link cookie h is adds query =
    ap legs_of (adds query.0) ∙ by (bytes_eq cookie.0 query.0)
    ∙ sym (filter_more (replaces query) legs (leg_of link)
    ∙ ap (λ o. if is_cookie query o then filter (replaces query) legs ++ leg_of link ∷ []
    else filter (replaces query) legs) is)
  where
    by : (t : Bool)
        → legs_of (if t then waiting query.0 ++ link ∷ [] else waiting query.0)
        ≡ (if t then filter (replaces query) legs ++ leg_of link ∷ []
        else filter (replaces query) legs)
    by true = legs_append (waiting query.0) (link ∷ [])
        ∙ ap (λ x. x ++ leg_of link ∷ []) (h query)
    by false = h query

-- the first that replaces none
pub starts_first : (legs : List Leg) (link : Link) → StartsBy None (filter connects legs)
    → link.predecessor ≡ None
    → StartsBy (Some link) (filter connects (legs ++ leg_of link ∷ []))
starts_first legs link h none = (
  [],
  filter_more connects legs (leg_of link)
      ∙ ap (λ o. if is_connected o then filter connects legs ++ leg_of link ∷ []
      else filter connects legs) none
      ∙ ap (λ x. x ++ leg_of link ∷ []) h,
)

pub starts_other : (legs : List Leg) (leg : Leg) (start : Option Link) (cookie : Cookie)
    → StartsBy start (filter connects legs) → leg.predecessor ≡ Some cookie
    → StartsBy start (filter connects (legs ++ leg ∷ []))
starts_other legs leg start cookie h some =
    subst (StartsBy start) (sym (filter_more connects legs leg
    ∙ ap (λ o. if is_connected o then filter connects legs ++ leg ∷ [] else filter connects legs)
    some)) h

pub starts_later : (legs : List Leg) (leg : Leg) (start : Link)
    → StartsBy (Some start) (filter connects legs) → leg.predecessor ≡ None
    → StartsBy (Some start) (filter connects (legs ++ leg ∷ []))
starts_later legs leg start h none = (
  h.0 ++ leg ∷ [],
  filter_more connects legs leg
      ∙ ap (λ o. if is_connected o then filter connects legs ++ leg ∷ [] else filter connects legs)
      none
      ∙ ap (λ x. x ++ leg ∷ []) h.1,
)

-- ---- taking them

head_is : (x y : Leg) (xs ys : List Leg) → x ∷ xs ≡ y ∷ ys → (x ≡ y) × (xs ≡ ys)
head_is x y xs ys h = ((cc), (cc))

-- none waits
pub picks_none : (passes : Leg → Bool) (legs : List Leg) → filter passes legs ≡ []
    → first_and_others passes legs ≡ None
picks_none passes legs h = by (first_and_others passes legs) refl (picks passes legs)
  where
    by : (o : Option (Leg × List Leg)) → first_and_others passes legs ≡ o → Picks passes legs o
        → first_and_others passes legs ≡ None
    by None e k = e
    by (Some (leg, left)) e k = absurd (let both = sym k.here ∙ h in cc)

-- the first that waits is taken, and a leg is left for each that another test passes
pub record IsTaken (passes : Leg → Bool) (legs : List Leg) (leg : Leg) (rest : List Leg)
    : Type 0 where
  pub left : List Leg
  pub found : first_and_others passes legs ≡ Some (leg, left)
  pub passed : passes leg ≡ true
  pub here : filter passes left ≡ rest
  pub others : (q : Leg → Bool) → q leg ≡ false → filter q legs ≡ filter q left

pub picks_first : (passes : Leg → Bool) (legs : List Leg) (leg : Leg) (rest : List Leg)
    → filter passes legs ≡ leg ∷ rest → IsTaken passes legs leg rest
picks_first passes legs leg rest h = by (first_and_others passes legs) refl (picks passes legs)
  where
    by : (o : Option (Leg × List Leg)) → first_and_others passes legs ≡ o → Picks passes legs o
        → IsTaken passes legs leg rest
    by None e k = absurd (let both = sym k ∙ h in cc)
    by (Some (found, left)) e k =
        let same = head_is found leg (filter passes left) rest (sym k.here ∙ h) in
        let P : Leg → Type 0 = λ x. passes x ≡ true in
        record {
          left = left;
          found = e ∙ ap (λ x. Some (x, left)) same.0;
          passed = subst P same.0 k.passed;
          here = same.1;
          others = λ q fails. k.others q (ap q same.0 ∙ fails);
        }

-- where legs wait, what replaces a cookie waits for it
pub record AreLeft (others : List Leg) (newest : Cookie) (link : Link)
    (next : List ℕ → List Link) : Type 0 where
  pub left : List Leg
  pub found : first_and_others (replaces newest) others ≡ Some (leg_of link, left)
  pub waits : Waits next left

replaced : (cookie other : Cookie) (o : Option Cookie) → is_cookie cookie o ≡ true
    → bytes_eq cookie.0 other.0 ≡ false → is_cookie other o ≡ false
replaced cookie other None h k = absurd (let both = h in cc)
replaced cookie other (Some own) h k =
    ap (λ (x : List ℕ). bytes_eq x other.0) ((bytes_eq-Decides own.0 cookie.0).0 h) ∙ k

pub taken : (waiting next : List ℕ → List Link) (others : List Leg) (newest : Cookie) (link : Link)
    → Waits waiting others → waiting newest.0 ≡ link ∷ next newest.0
    → ((other : List ℕ) → bytes_eq newest.0 other ≡ false → next other ≡ waiting other)
    → AreLeft others newest link next
taken waiting next others newest link h here apart =
    let is = picks_first (replaces newest) others (leg_of link) (legs_of (next newest.0))
    (sym (h newest) ∙ ap legs_of here) in
    record {
      left = is.left;
      found = is.found;
      waits = λ cookie. by cookie is (bytes_eq newest.0 cookie.0) refl;
    }
  where
    by : (cookie : Cookie)
        → (is : IsTaken (replaces newest) others (leg_of link) (legs_of (next newest.0)))
        → (t : Bool) → bytes_eq newest.0 cookie.0 ≡ t
        → legs_of (next cookie.0) ≡ filter (replaces cookie) is.left
    by cookie is true e =
        let same : newest.0 ≡ cookie.0 = (bytes_eq-Decides newest.0 cookie.0).0 e in
        let P : List ℕ → Type 0 = λ x. legs_of (next x) ≡ filter (replaces (record { 0 = x })) is.left
        in subst P same (sym is.here)
    by cookie is false e =
        ap legs_of (apart cookie.0 e) ∙ h cookie
        ∙ is.others (replaces cookie)
        (replaced newest cookie link.predecessor is.passed e)

-- ---- a chain goes on

pub follow_none : (n : ℕ) (newest : Cookie) (others : List Leg)
    → filter (replaces newest) others ≡ [] → follow (suc n) newest others ≡ []
follow_none n newest others h =
    ap (next_by (λ leg left. follow n leg.newest left)) (picks_none (replaces newest) others h)

pub follow_one : (n : ℕ) (newest : Cookie) (others left : List Leg) (leg : Leg)
    → first_and_others (replaces newest) others ≡ Some (leg, left)
    → follow (suc n) newest others ≡ leg ∷ follow n leg.newest left
follow_one n newest others left leg h = ap (next_by (λ leg left. follow n leg.newest left)) h

-- ---- a chain begins

pub chain_none : (legs : List Leg) → StartsBy None (filter connects legs) → chain legs ≡ []
unfolding chain
chain_none legs h =
    ap (next_by (λ leg left. follow (length left) leg.newest left)) (picks_none connects legs h)

-- the legs that are left behind the first, and the chain from it on
pub record Begins (legs : List Leg) (start : Link) (waiting : List ℕ → List Link) (most : ℕ)
    : Type 0 where
  pub left : List Leg
  pub waits : Waits waiting left
  pub chain_is : chain legs ≡ leg_of start ∷ follow most start.newest left

connects_not : (cookie : Cookie) (o : Option Cookie) → is_connected o ≡ true
    → is_cookie cookie o ≡ false
connects_not cookie None h = refl
connects_not cookie (Some other) h = absurd (let both = h in cc)

pub chain_some : (legs : List Leg) (start : Link) (waiting : List ℕ → List Link) (most : ℕ)
    → StartsBy (Some start) (filter connects legs) → Waits waiting legs → length legs ≤ most
    → Begins legs start waiting most
unfolding chain
chain_some legs start waiting most h waits fits =
    let is = picks_first connects legs (leg_of start) h.0 h.1 in
    let size : length legs ≡ suc (length is.left) = picked_size connects legs (leg_of start) is.left
    is.found in
    record {
      left = is.left;
      waits = λ cookie. waits cookie
          ∙ is.others (replaces cookie) (connects_not cookie start.predecessor is.passed);
      chain_is = ap (next_by (λ leg left. follow (length left) leg.newest left)) is.found
          ∙ ap (λ more. leg_of start ∷ more)
          (follow_enough (length is.left) most start.newest is.left (omega arith)
          (omega (arith, size, fits)));
    }

-- ---- a chain is found, leg by leg

-- what was found, and what follows of the legs that still wait, are what follows of all
abbrev pub Going : (first waiting : List ℕ → List Link) (start : Link) (most : ℕ)
    (found : List Link) (left : ℕ) (newest : Cookie) → Type 0
Going first waiting start most found left newest =
    (others : List Leg) → Waits first others
    → (still : List Leg) × Waits waiting still
    × (legs_of found ++ follow left newest still
    ≡ leg_of start ∷ follow most start.newest others)

pub going_on : (first waiting next : List ℕ → List Link) (start : Link) (most : ℕ)
    (found : List Link) (left : ℕ) (newest : Cookie) (link : Link)
    → Going first waiting start most found (suc left) newest
    → waiting newest.0 ≡ link ∷ next newest.0
    → ((other : List ℕ) → bytes_eq newest.0 other ≡ false → next other ≡ waiting other)
    → Going first next start most (found ++ link ∷ []) left link.newest
going_on first waiting next start most found left newest link h here apart others waits =
    let was = h others waits in
    let is = taken waiting next was.0 newest link was.1 here apart in (
      is.left,
      is.waits,
      ap (λ x. x ++ follow left link.newest is.left) (legs_append found (link ∷ []))
          ∙ append_assoc (legs_of found) (leg_of link ∷ []) (follow left link.newest is.left)
          ∙ ap (λ x. legs_of found ++ x) (sym (follow_one left newest was.0 is.left (leg_of link) is.found))
          ∙ was.2,
    )

pub going_ends : (first waiting : List ℕ → List Link) (start : Link) (most : ℕ)
    (found : List Link) (left : ℕ) (newest : Cookie)
    → Going first waiting start most found (suc left) newest → waiting newest.0 ≡ []
    → (others : List Leg) → Waits first others
    → legs_of found ≡ leg_of start ∷ follow most start.newest others
going_ends first waiting start most found left newest h none others waits =
    let was = h others waits in
    sym (append-nil (legs_of found))
    ∙ ap (λ x. legs_of found ++ x)
    (sym (follow_none left newest was.0 (sym (was.1 newest) ∙ ap legs_of none)))
    ∙ was.2

pub going_over : (first waiting : List ℕ → List Link) (start : Link) (most : ℕ)
    (found : List Link) (left : ℕ) (newest : Cookie)
    → Going first waiting start most found left newest → left ≡ 0
    → (others : List Leg) → Waits first others
    → legs_of found ≡ leg_of start ∷ follow most start.newest others
going_over first waiting start most found left newest h over others waits =
    let was = h others waits in
    sym (append-nil (legs_of found))
    ∙ ap (λ n. legs_of found ++ follow n newest was.0) (sym over) ∙ was.2
