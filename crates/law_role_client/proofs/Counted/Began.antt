-- the channel in use and its successor, on IN or on OUT legs: which of them began
use Rattle.law_order.proofs.Vocabulary.{◌≡◌, ◌⊎◌, ℕ, ◌+◌, ◌<◌, ◌≤◌, Bool, true, false, true≢false, List, [], ◌∷◌, ◌++◌, inl, inr, arith, refl, sym, ◌∙◌, subst}
use Rattle.law_moves.proofs.Vocabulary.{Cookie, Named, Leg, LegKind, OnLeg, of_leg, HasOne}
use Rattle.law_role_client.proofs.ClientLogs.{of_kind}
use Rattle.law_role_client.proofs.Counted.Standing.{Stands, passes, stands_none, stands_stays, stands_next}
use Rattle.law_role_client.proofs.Counted.Behind.{still_has, now_has}
use Rattle.law_role_client.proofs.Vocabulary.{total}

-- the packet that begins the first channel, and those that begin a channel of a cookie
module _ (kind : LegKind) (first : Named → Bool) (Begins : Cookie → Named → Type 0) where
  abbrev on : ℕ → Leg
  on n = record { kind = kind; number = n }

  -- by their cookies, whether their first packets were put, and their numbers
  pub record Began (cookie next : Cookie) (begun asked : Bool) (number behind : ℕ)
      (put : List OnLeg) : Type 0 where
    pub count : ℕ
    pub most : count ≤ 1
    pub none : begun ≡ false → count ≡ 0
    pub firsts : Stands first kind 1 count put
    pub low : 1 ≤ number
    pub later : 2 ≤ number → begun ≡ true
    pub used : begun ≡ true → HasOne (Begins cookie) (of_leg (on number) put)
    pub successor : asked ≡ true → HasOne (Begins next) (of_leg (on behind) put)

  pub began_not : (c d : Cookie) (n : ℕ) → Began c d false false 1 n []
  began_not c d n = record {
    count = 0;
    most = omega arith;
    none = λ e. refl;
    firsts = stands_none first kind 1;
    low = omega arith;
    later = λ l. absurd (omega (arith, l));
    used = λ e. absurd (true≢false (sym e));
    successor = λ e. absurd (true≢false (sym e));
  }

  -- another message is put
  pub began_more : (c d : Cookie) (b a : Bool) (n m : ℕ) (put : List OnLeg) (one : OnLeg)
      → passes first one.1 ≡ false → Began c d b a n m put
      → Began c d b a n m (put ++ one ∷ [])
  began_more c d b a n m put one other h = record {
    count = h.count;
    most = h.most;
    none = h.none;
    firsts = stands_stays first kind 1 h.count put one other h.firsts;
    low = h.low;
    later = h.later;
    used = λ e. still_has (Begins c) (on n) put one (h.used e);
    successor = λ e. still_has (Begins d) (on m) put one (h.successor e);
  }

  -- a leg is up, with a cookie
  pub began_up : (c d cookie : Cookie) (b a : Bool) (n m : ℕ) (put : List OnLeg) → b ≡ false
      → Began c d b a n m put → Began cookie d false a n m put
  began_up c d cookie b a n m put down h = record {
    count = h.count;
    most = h.most;
    none = λ e. h.none down;
    firsts = h.firsts;
    low = h.low;
    later = λ l. absurd (true≢false (sym (h.later l) ∙ down));
    used = λ e. absurd (true≢false (sym e));
    successor = h.successor;
  }

  -- there is another successor, of which nothing was put
  pub began_anew : (c d e : Cookie) (b a : Bool) (n m k : ℕ) (put : List OnLeg)
      → Began c d b a n m put → Began c e b false n k put
  began_anew c d e b a n m k put h = record {
    count = h.count;
    most = h.most;
    none = h.none;
    firsts = h.firsts;
    low = h.low;
    later = h.later;
    used = h.used;
    successor = λ t. absurd (true≢false (sym t));
  }

  -- the first channel begins
  pub began_first : (c d : Cookie) (a : Bool) (n m : ℕ) (put : List OnLeg) (one : OnLeg)
      → passes first one.1 ≡ true → HasOne (Begins c) (one.1 ∷ []) → one.0.kind ≡ kind
      → one.0.number ≡ n → Began c d false a n m put → Began c d true a n m (put ++ one ∷ [])
  began_first c d a n m put one is begins k at h =
      let none = h.none refl in
      let low = h.low in
      let small : (2 ≤ n) → ⊥ = λ l. true≢false (sym (h.later l)) in
      record {
        count = h.count + 1;
        most = omega (arith, none);
        none = λ e. absurd (true≢false e);
        firsts =
            stands_next first kind 1 h.count put one is (of_kind kind one.0 k)
            (omega (arith, none, small, low, at)) h.firsts;
        low = h.low;
        later = λ l. refl;
        used = λ e. now_has (Begins c) kind n put one k at begins;
        successor = λ e. still_has (Begins d) (on m) put one (h.successor e);
      }

  -- the successor begins
  pub began_asked : (c d : Cookie) (b : Bool) (n m : ℕ) (put : List OnLeg) (one : OnLeg)
      → passes first one.1 ≡ false → HasOne (Begins d) (one.1 ∷ []) → one.0.kind ≡ kind
      → one.0.number ≡ m → Began c d b false n m put → Began c d b true n m (put ++ one ∷ [])
  began_asked c d b n m put one other begins k at h = record {
    count = h.count;
    most = h.most;
    none = h.none;
    firsts = stands_stays first kind 1 h.count put one other h.firsts;
    low = h.low;
    later = h.later;
    used = λ e. still_has (Begins c) (on n) put one (h.used e);
    successor = λ e. now_has (Begins d) kind m put one k at begins;
  }

  -- it is the channel in use
  pub began_follows : (c d e : Cookie) (b a : Bool) (n m k : ℕ) (put : List OnLeg) → a ≡ true
      → m ≡ n + 1 → Began c d b a n m put → Began d e a false m k put
  began_follows c d e b a n m k put asked next h = record {
    count = h.count;
    most = h.most;
    none = λ t. absurd (true≢false (sym asked ∙ t));
    firsts = h.firsts;
    low = omega (arith, next);
    later = λ l. asked;
    used = h.successor;
    successor = λ t. absurd (true≢false (sym t));
  }

  -- the channel before the successor began, if the first one did or it is a later one
  pub began_before : (c d : Cookie) (b a : Bool) (n m : ℕ) (put : List OnLeg) → m ≡ n + 1
      → Began c d b a n m put → (k : ℕ) → m ≡ k + 1 → (2 ≤ k) ⊎ (0 < total first kind put)
      → HasOne (Begins c) (of_leg (on k) put)
  began_before c d b a n m put next h k number there =
      let same : n ≡ k = omega (arith, number, next) in
      subst (λ (x : ℕ). HasOne (Begins c) (of_leg (on x) put)) same
      (h.used (begun (subst (λ (x : ℕ). (2 ≤ x) ⊎ (0 < total first kind put)) (sym same) there) b
      refl))
    where
      begun : (2 ≤ n) ⊎ (0 < total first kind put) → (x : Bool) → b ≡ x → b ≡ true
      begun so true e = e
      begun (inl l) false e = h.later l
      begun (inr l) false e =
          let none = h.none e in
          let all = h.firsts.all in absurd (omega (arith, none, all, l))
