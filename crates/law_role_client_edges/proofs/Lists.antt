-- windows that came, in a log that grows
use Rattle.law_order.proofs.Vocabulary.{◌≡◌, ℕ, zero, suc, ◌+◌, ◌≤◌, ◌<◌, Bool, true, false, if◌then◌else◌, List, [], ◌∷◌, ◌++◌, arith, refl, sym, subst, AllByRecursion}
use Rattle.law_moves.proofs.Vocabulary.{Leg, LegKind, Named, Packet, OnLeg, is_of, of_kind, HasOne}
use Rattle.law_moves.proofs.Lemmas.{all_append, kind_more, last_one_so, one_more_so}
use Rattle.law_role_client_edges.specs.Knowing.{is_window, told_by, told_last, came_since}

-- how many of the packets that tell windows came
abbrev pub windows : List OnLeg → ℕ
windows [] = 0
windows (one ∷ came) = if is_window one.1 then suc (windows came) else windows came

pub windows_stay : (came : List OnLeg) (one : OnLeg) → is_window one.1 ≡ false
    → windows (came ++ one ∷ []) ≡ windows came
windows_stay [] one e =
    subst (λ (b : Bool). ◌≡◌ {A = ℕ} (if b then 1 else 0) 0) (sym e) refl
windows_stay (first ∷ came) one e = by (is_window first.1) (windows_stay came one e)
  where
    by : (b : Bool) → windows (came ++ one ∷ []) ≡ windows came
        → (if b then suc (windows (came ++ one ∷ [])) else windows (came ++ one ∷ []))
        ≡ (if b then suc (windows came) else windows came)
    by true rest = omega (arith, rest)
    by false rest = rest

pub windows_rise : (came : List OnLeg) (one : OnLeg) → is_window one.1 ≡ true
    → windows (came ++ one ∷ []) ≡ windows came + 1
windows_rise [] one e =
    subst (λ (b : Bool). ◌≡◌ {A = ℕ} (if b then 1 else 0) 1) (sym e) refl
windows_rise (first ∷ came) one e = by (is_window first.1) (windows_rise came one e)
  where
    by : (b : Bool) → windows (came ++ one ∷ []) ≡ windows came + 1
        → (if b then suc (windows (came ++ one ∷ [])) else windows (came ++ one ∷ []))
        ≡ (if b then suc (windows came) else windows came) + 1
    by true rest = omega (arith, rest)
    by false rest = rest

-- ---- what the last one told

pub told_stays : (before n : ℕ) (came : List OnLeg) (one : OnLeg) → n ≤ windows came
    → told_last before n (came ++ one ∷ []) ≡ told_last before n came
told_stays before zero came one low = refl
told_stays before (suc n) [] one low = absurd (omega (arith, low))
told_stays before (suc n) (first ∷ came) one low =
    by (is_window first.1) low (told_stays (told_by before first.1) n came one)
    (told_stays before (suc n) came one)
  where
    by : (b : Bool) → suc n ≤ (if b then suc (windows came) else windows came)
        → (n ≤ windows came → told_last (told_by before first.1) n (came ++ one ∷ [])
        ≡ told_last (told_by before first.1) n came)
        → (suc n ≤ windows came
        → told_last before (suc n) (came ++ one ∷ []) ≡ told_last before (suc n) came)
        → (if b then told_last (told_by before first.1) n (came ++ one ∷ [])
        else told_last before (suc n) (came ++ one ∷ []))
        ≡ (if b then told_last (told_by before first.1) n came
        else told_last before (suc n) came)
    by true low here later = here (omega (arith, low))
    by false low here later = later low

pub told_next : (before n : ℕ) (came : List OnLeg) (one : OnLeg) → windows came ≡ n
    → is_window one.1 ≡ true
    → told_last before (suc n) (came ++ one ∷ []) ≡ told_by (told_last before n came) one.1
told_next before zero [] one all e =
    subst (λ (b : Bool). (if b then told_by before one.1 else before) ≡ told_by before one.1)
    (sym e) refl
told_next before (suc n) [] one all e = absurd (omega (arith, all))
told_next before zero (first ∷ came) one all e =
    by (is_window first.1) all (λ none. told_next before zero came one none e)
  where
    by : (b : Bool) → (if b then suc (windows came) else windows came) ≡ 0
        → (windows came ≡ 0 → told_last before 1 (came ++ one ∷ []) ≡ told_by before one.1)
        → (if b then told_by before first.1 else told_last before 1 (came ++ one ∷ []))
        ≡ told_by before one.1
    by true none later = absurd (omega (arith, none))
    by false none later = later none
told_next before (suc n) (first ∷ came) one all e =
    by (is_window first.1) all (λ so. told_next (told_by before first.1) n came one so e)
    (λ so. told_next before (suc n) came one so e)
  where
    by : (b : Bool) → (if b then suc (windows came) else windows came) ≡ suc n
        → (windows came ≡ n → told_last (told_by before first.1) (suc n) (came ++ one ∷ [])
        ≡ told_by (told_last (told_by before first.1) n came) one.1)
        → (windows came ≡ suc n → told_last before (suc (suc n)) (came ++ one ∷ [])
        ≡ told_by (told_last before (suc n) came) one.1)
        → (if b then told_last (told_by before first.1) (suc n) (came ++ one ∷ [])
        else told_last before (suc (suc n)) (came ++ one ∷ []))
        ≡ told_by (if b then told_last (told_by before first.1) n came
        else told_last before (suc n) came) one.1
    by true so here later = here (omega (arith, so))
    by false so here later = later so

-- ---- what came since

pub since_more : (P : OnLeg → Type 0) (n : ℕ) (came : List OnLeg) (one : OnLeg) → P one
    → AllByRecursion P (came_since n came) → AllByRecursion P (came_since n (came ++ one ∷ []))
since_more P zero came one is all = all_append P came (one ∷ []) all (is, tt)
since_more P (suc n) [] one is all = by (is_window one.1) n
  where
    by : (b : Bool) (k : ℕ)
        → AllByRecursion P (if b then came_since k [] else came_since (suc k) [])
    by true zero = tt
    by true (suc k) = tt
    by false k = tt
since_more P (suc n) (first ∷ came) one is all =
    by (is_window first.1) (since_more P n came one is) (since_more P (suc n) came one is) all
  where
    by : (b : Bool)
        → (AllByRecursion P (came_since n came)
        → AllByRecursion P (came_since n (came ++ one ∷ [])))
        → (AllByRecursion P (came_since (suc n) came)
        → AllByRecursion P (came_since (suc n) (came ++ one ∷ [])))
        → AllByRecursion P (if b then came_since n came else came_since (suc n) came)
        → AllByRecursion P
        (if b then came_since n (came ++ one ∷ []) else came_since (suc n) (came ++ one ∷ []))
    by true here later all = here all
    by false here later all = later all

-- nothing came behind the last message
pub since_last : (P : OnLeg → Type 0) (n : ℕ) (came : List OnLeg) (one : OnLeg)
    → windows came < n → AllByRecursion P (came_since n (came ++ one ∷ []))
since_last P zero came one low = absurd (omega (arith, low))
since_last P (suc n) [] one low = by (is_window one.1) n
  where
    by : (b : Bool) (k : ℕ)
        → AllByRecursion P (if b then came_since k [] else came_since (suc k) [])
    by true zero = tt
    by true (suc k) = tt
    by false k = tt
since_last P (suc n) (first ∷ came) one low =
    by (is_window first.1) low (since_last P n came one) (since_last P (suc n) came one)
  where
    by : (b : Bool) → (if b then suc (windows came) else windows came) < suc n
        → (windows came < n → AllByRecursion P (came_since n (came ++ one ∷ [])))
        → (windows came < suc n → AllByRecursion P (came_since (suc n) (came ++ one ∷ [])))
        → AllByRecursion P
        (if b then came_since n (came ++ one ∷ []) else came_since (suc n) (came ++ one ∷ []))
    by true low here later = here (omega (arith, low))
    by false low here later = later low

-- ---- on the legs of a kind

pub kind_stays : (Is : Named → Type 0) (kind : LegKind) (put : List OnLeg) (one : OnLeg)
    → HasOne Is (of_kind kind put) → HasOne Is (of_kind kind (put ++ one ∷ []))
kind_stays Is kind put one h =
    subst (HasOne Is) (sym (kind_more kind put one))
    (one_more_so Is (of_kind kind put) (of_kind kind (one ∷ [])) h)

pub kind_last : (Is : Named → Type 0) (kind : LegKind) (put : List OnLeg) (leg : Leg) (m : Named)
    → is_of kind leg ≡ true → Is m
    → HasOne Is (of_kind kind (put ++ (leg, Packet m) ∷ []))
kind_last Is kind put leg m e is =
    subst (HasOne Is) (sym (kind_more kind put (leg, Packet m)))
    (subst (λ (b : Bool). HasOne Is (of_kind kind put ++ (if b then Packet m ∷ [] else [])))
    (sym e) (last_one_so Is (of_kind kind put) m is))
