-- the channels of a direction, by what was put on their legs: a channel in use and its successor
use Rattle.law_order.proofs.Vocabulary.{◌≡◌, ◌≢◌, ◌⊎◌, ℕ, suc, ◌+◌, ◌<◌, nat_eq, Bool, true, false, true≢false, ◌&&◌, ◌||◌, not, List, [], ◌∷◌, ◌++◌, arith, inl, inr, refl, sym, ap, ◌∙◌, subst, false≢true, and_parts}
use Rattle.law_moves.proofs.Vocabulary.{same_number, other_number, test_same, test_other, Cookie, Leg, Message, kind_number, same_leg, OnLeg, of_leg}
use Rattle.law_moves.proofs.Lemmas.{other_more as leg_other}
use Rattle.law_role_client.proofs.Vocabulary.{Opening, NotUp, Request, First, Second, Put, no_cookie, is_up, is_asked}
use Rattle.law_role_client.proofs.Sending.Laws.{not_so, wanted_parts}
use Rattle.law_role_client.proofs.Sending.Facts.{SeenOut as Channel}
use Rattle.law_role_client.proofs.Sending.Logs.{leg_here}
use Rattle.law_role_client_rows.proofs.Putting.Fronts.{HasNone, IsAt, is_none, none_is_so}
use Rattle.law_role_client_rows.specs.Putting.{Direction, leg_of, IsChannel}

-- ---- what is known of a channel

abbrev pub unopened : ℕ → Channel
unopened number = record { number = number; cookie = no_cookie; opening = NotUp }

-- the last channel that is there
abbrev pub last : Bool → ℕ → ℕ
last true n = suc n
last false n = n

pub down_none : (opening : Opening) (ms : List Message) → is_up opening ≡ false → IsAt opening ms
    → HasNone ms
down_none NotUp ms e h = h
down_none Request ms e h = h
down_none First ms e h = absurd (true≢false e)
down_none Second ms e h = absurd (true≢false e)
down_none Put ms e h = absurd (true≢false e)

pub down_unasked : (opening : Opening) → is_up opening ≡ false → is_asked opening ≡ false
down_unasked NotUp e = refl
down_unasked Request e = refl
down_unasked First e = refl
down_unasked Second e = e
down_unasked Put e = e

module _ (way : Direction) (Comes : Leg → Cookie → Type 0) (Early : Leg → Type 0) where
  abbrev Is : ℕ → List Message → Type 0
  Is n ms = IsChannel way Comes Early n ms

  abbrev pub on : ℕ → List OnLeg → List Message
  on n put = of_leg (leg_of way n) put

  -- of the legs, by the numbers of the two: nothing was put behind the last
  pub record Legs (x y : ℕ) (replaces : Bool) (put : List OnLeg) : Type 0 where
    pub below : ℕ
    pub is : x ≡ suc below
    pub next : replaces ≡ true → y ≡ suc x
    pub each : (n : ℕ) → Is n (on n put)
    pub later : (n : ℕ) → last replaces x < n → on n put ≡ []

  -- a channel and its successor, of a direction where the successor is under way, and was answered
  pub record AreSo (x y : Channel) (replaces answered : Bool) (put : List OnLeg) : Type 0 where
    pub legs : Legs x.number y.number replaces put
    pub now : IsAt x.opening (on x.number put)
    pub following : replaces ≡ true → IsAt y.opening (on y.number put)
    pub up : is_up x.opening ≡ true → Comes (leg_of way x.number) x.cookie
    pub next_up : is_up y.opening ≡ true → Comes (leg_of way y.number) y.cookie
    -- only the first is in use before its first packet was put
    pub lowest : is_asked x.opening ≡ false → x.number ≡ 1
    pub asked : answered ≡ true → is_asked y.opening ≡ true

  pub starts : AreSo (unopened 1) (unopened 0) false false []
  starts = record {
    legs = record {
      below = 0;
      is = refl;
      next = λ e. absurd (false≢true e);
      each = none_is_so way Comes Early;
      later = λ n l. refl;
    };
    now = tt;
    following = λ e. absurd (false≢true e);
    up = λ e. absurd (false≢true e);
    next_up = λ e. absurd (false≢true e);
    lowest = λ e. refl;
    asked = λ e. absurd (false≢true e);
  }

  -- ---- a message is put

  same_kind : (k n : ℕ) → same_leg (leg_of way k) (leg_of way n) ≡ nat_eq k n
  same_kind k n = ap (λ (b : Bool). b && nat_eq k n) (test_same (kind_number way.kind))

  put_here : (k : ℕ) (m : Message) (put : List OnLeg)
      → on k (put ++ (leg_of way k, m) ∷ []) ≡ on k put ++ m ∷ []
  put_here k m put =
      leg_here (leg_of way k) put (leg_of way k, m) (same_kind k k ∙ test_same k)

  put_apart : (k n : ℕ) (m : Message) (put : List OnLeg) → k ≢ n
      → on n (put ++ (leg_of way k, m) ∷ []) ≡ on n put
  put_apart k n m put other =
      leg_other (leg_of way n) put (leg_of way k, m) (same_kind k n ∙ test_other k n other)

  legs_put : (x y : ℕ) (replaces : Bool) (k : ℕ) (m : Message) (put : List OnLeg)
      → (last replaces x < k → ⊥) → Is k (on k put ++ m ∷ []) → Legs x y replaces put
      → Legs x y replaces (put ++ (leg_of way k, m) ∷ [])
  legs_put x y replaces k m put within is h = record {
    below = h.below;
    is = h.is;
    next = h.next;
    each = λ n. by n (nat_eq k n) refl;
    later = λ n l.
        put_apart k n m put
        (λ e. within (subst (λ (j : ℕ). last replaces x < j) (sym e) l))
        ∙ h.later n l;
  }
    where
      by : (n : ℕ) (b : Bool) → nat_eq k n ≡ b → Is n (on n (put ++ (leg_of way k, m) ∷ []))
      by n true e =
          subst (λ (j : ℕ). Is j (on j (put ++ (leg_of way k, m) ∷ []))) (same_number k n e)
          (subst (Is k) (sym (put_here k m put)) is)
      by n false e = subst (Is n) (sym (put_apart k n m put (other_number k n e))) (h.each n)

  last_no_less : (replaces : Bool) (x : ℕ) → last replaces x < x → ⊥
  last_no_less true x l = omega (arith, l)
  last_no_less false x l = omega (arith, l)

  -- on the leg in use, which is then so far
  pub puts_now : {x y : Channel} {replaces answered : Bool} {put : List OnLeg}
      (h : AreSo x y replaces answered put) (m : Message) (opening : Opening)
      → is_up x.opening ≡ true → (is_asked opening ≡ false → x.number ≡ 1)
      → Is x.number (on x.number put ++ m ∷ []) × IsAt opening (on x.number put ++ m ∷ [])
      → AreSo (record x { opening = opening }) y replaces answered
      (put ++ (leg_of way x.number, m) ∷ [])
  puts_now {x} {y} {replaces} {answered} {put} h m opening is_it lowest so = record {
    legs = legs_put x.number y.number replaces x.number m put (last_no_less replaces x.number)
        so.0 h.legs;
    now = subst (IsAt opening) (sym (put_here x.number m put)) so.1;
    following = λ e.
        let next = h.legs.next e in
        subst (IsAt y.opening)
        (sym (put_apart x.number y.number m put (λ f. absurd (omega (arith, next, f)))))
        (h.following e);
    up = λ e. h.up is_it;
    next_up = h.next_up;
    lowest = lowest;
    asked = h.asked;
  }

  -- on its successor's
  pub puts_next : {x y : Channel} {replaces answered : Bool} {put : List OnLeg}
      (h : AreSo x y replaces answered put) (m : Message) (opening : Opening)
      → replaces ≡ true → is_up y.opening ≡ true
      → (is_asked y.opening ≡ true → is_asked opening ≡ true)
      → Is y.number (on y.number put ++ m ∷ []) × IsAt opening (on y.number put ++ m ∷ [])
      → AreSo x (record y { opening = opening }) replaces answered
      (put ++ (leg_of way y.number, m) ∷ [])
  puts_next {x} {y} {replaces} {answered} {put} h m opening e is_it still so =
      let next = h.legs.next e in
      record {
        legs = legs_put x.number y.number replaces y.number m put
            (λ l.
            let less : suc x.number < y.number =
            subst (λ (b : Bool). last b x.number < y.number) e l in
            omega (arith, next, less))
            so.0 h.legs;
        now = subst (IsAt x.opening)
            (sym (put_apart y.number x.number m put (λ f. absurd (omega (arith, next, f)))))
            h.now;
        following = λ f. subst (IsAt opening) (sym (put_here y.number m put)) so.1;
        up = h.up;
        next_up = λ f. h.next_up is_it;
        lowest = h.lowest;
        asked = λ f. still (h.asked f);
      }

  -- on a leg of another kind
  pub puts_elsewhere : {x y : Channel} {replaces answered : Bool} {put : List OnLeg}
      (h : AreSo x y replaces answered put) (one : OnLeg)
      → ((n : ℕ) → same_leg one.0 (leg_of way n) ≡ false)
      → AreSo x y replaces answered (put ++ one ∷ [])
  puts_elsewhere {x} {y} {replaces} {answered} {put} h one other = record {
    legs = record {
      below = h.legs.below;
      is = h.legs.is;
      next = h.legs.next;
      each = λ n. subst (Is n) (sym (same n)) (h.legs.each n);
      later = λ n l. same n ∙ h.legs.later n l;
    };
    now = subst (IsAt x.opening) (sym (same x.number)) h.now;
    following = λ e. subst (IsAt y.opening) (sym (same y.number)) (h.following e);
    up = h.up;
    next_up = h.next_up;
    lowest = h.lowest;
    asked = h.asked;
  }
    where
      same : (n : ℕ) → on n (put ++ one ∷ []) ≡ on n put
      same n = leg_other (leg_of way n) put one (other n)

  -- ---- a leg comes up

  -- one of the two is wanted, and it is up with its cookie
  pub ups : {x y : Channel} {replaces answered : Bool} {put : List OnLeg}
      (h : AreSo x y replaces answered put) (n : ℕ) (cookie : Cookie)
      → ((nat_eq n x.number && not (is_up x.opening))
      || ((replaces && nat_eq n y.number) && not (is_up y.opening))) ≡ true
      → Comes (leg_of way n) cookie
      → (nat_eq n x.number ≡ true
      → AreSo (record x { cookie = cookie; opening = Request }) y replaces answered put)
      × (nat_eq n x.number ≡ false
      → AreSo x (record y { cookie = cookie; opening = Request }) replaces answered put)
  ups {x} {y} {replaces} {answered} {put} h n cookie may comes =
      by (wanted_parts (nat_eq n x.number) (not (is_up x.opening))
      (replaces && nat_eq n y.number) (not (is_up y.opening)) may)
    where
      up_now : is_up x.opening ≡ false → Comes (leg_of way x.number) cookie
          → AreSo (record x { cookie = cookie; opening = Request }) y replaces answered put
      up_now down is = record {
        legs = h.legs;
        now = down_none x.opening (on x.number put) down h.now;
        following = h.following;
        up = λ e. is;
        next_up = h.next_up;
        lowest = λ e. h.lowest (down_unasked x.opening down);
        asked = h.asked;
      }

      up_next : is_up y.opening ≡ false → Comes (leg_of way y.number) cookie
          → AreSo x (record y { cookie = cookie; opening = Request }) replaces answered put
      up_next down is = record {
        legs = h.legs;
        now = h.now;
        following = λ e. down_none y.opening (on y.number put) down (h.following e);
        up = h.up;
        next_up = λ e. is;
        lowest = h.lowest;
        asked = λ e. absurd (true≢false (sym (h.asked e) ∙ down_unasked y.opening down));
      }

      by : ((nat_eq n x.number ≡ true) × (not (is_up x.opening) ≡ true))
          ⊎ (((replaces && nat_eq n y.number) ≡ true) × (not (is_up y.opening) ≡ true))
          → (nat_eq n x.number ≡ true
          → AreSo (record x { cookie = cookie; opening = Request }) y replaces answered put)
          × (nat_eq n x.number ≡ false
          → AreSo x (record y { cookie = cookie; opening = Request }) replaces answered put)
      by (inl is) = (
        λ e. up_now (not_so (is_up x.opening) is.1)
            (subst (λ (k : ℕ). Comes (leg_of way k) cookie) (same_number n x.number is.0) comes),
        λ e. absurd (true≢false (sym is.0 ∙ e)),
      )
      by (inr is) =
          let both = and_parts replaces (nat_eq n y.number) is.0 in
          let same = same_number n y.number both.1 in (
            λ e.
                let next = h.legs.next both.0 in
                let other = same_number n x.number e in
                absurd (omega (arith, same, next, other)),
            λ e. up_next (not_so (is_up y.opening) is.1)
                (subst (λ (k : ℕ). Comes (leg_of way k) cookie) same comes),
          )

  -- ---- a replacement

  pub begins : {x y : Channel} {answered : Bool} {put : List OnLeg}
      (h : AreSo x y false answered put) → AreSo x (unopened (x.number + 1)) true false put
  begins {x} {y} {answered} {put} h =
      let none : (n : ℕ) → x.number < n → on n put ≡ [] = h.legs.later in
      record {
        legs = record {
          below = h.legs.below;
          is = h.legs.is;
          next = λ e. omega arith;
          each = h.legs.each;
          later = λ n l. none n (omega (arith, l));
        };
        now = h.now;
        following = λ e. is_none (on (x.number + 1) put) (none (x.number + 1) (omega arith));
        up = h.up;
        next_up = λ e. absurd (false≢true e);
        lowest = h.lowest;
        asked = λ e. absurd (false≢true e);
      }

  -- it is answered
  pub answers : {x y : Channel} {replaces answered : Bool} {put : List OnLeg}
      (h : AreSo x y replaces answered put) → is_asked y.opening ≡ true
      → AreSo x y replaces true put
  answers h e = record {
    legs = h.legs;
    now = h.now;
    following = h.following;
    up = h.up;
    next_up = h.next_up;
    lowest = h.lowest;
    asked = λ f. e;
  }

  -- the successor is the channel in use
  pub succeeds : {x y : Channel} {put : List OnLeg} (h : AreSo x y true true put) (number : ℕ)
      → AreSo y (unopened number) false false put
  succeeds {x} {y} {put} h number =
      let next : y.number ≡ suc x.number = h.legs.next refl in
      record {
        legs = record {
          below = x.number;
          is = next;
          next = λ e. absurd (false≢true e);
          each = h.legs.each;
          later = λ n l. h.legs.later n (omega (arith, next, l));
        };
        now = h.following refl;
        following = λ e. absurd (false≢true e);
        up = h.next_up;
        next_up = λ e. absurd (false≢true e);
        lowest = λ e. absurd (true≢false (sym (h.asked refl) ∙ e));
        asked = λ e. absurd (false≢true e);
      }
