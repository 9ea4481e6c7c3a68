-- what is known of an is leg: what came there and was put, by what the server keeps of it
use Rattle.law_order.proofs.Vocabulary.{◌≡◌, ◌⊎◌, inl, inr, ℕ, ◌==◌, ◌<◌, ◌≤◌, ◌+◌, Bool, true, false, true≢false, List, [], ◌∷◌, ◌++◌, Some, None, arith, refl, sym, ap, ◌∙◌, subst, false≢true, IfSome, slice_get, remove, Option}
use Rattle.rh_server.specs.declared.state.InStage.TheVariants as in_stage
use Rattle.rh_server.specs.declared.state.Stage.TheVariants as stage
use Rattle.rh_server.specs.declared.state.Tells.TheVariants as tells
use Rattle.law_moves.proofs.Vocabulary.{same_number, test_same, test_other, Cookie}
use Rattle.law_role_server.proofs.Vocabulary.{InLeg, InStage, Server, is_fresh, is_waiting, stays, in_at, in_place, removed_at, set_at, in_leg_up, waits_ended}
use Rattle.law_role_server.proofs.Numbered.{Absent, Once, absent_at, absent_back, absent_front, absent_missing, absent_push, absent_removed, absent_set, absent_unset, once_at, once_first, once_map, once_push, once_removed, once_set}
use Rattle.law_role_server.proofs.TakesKept.{has_begun as is_begun}
use Rattle.law_role_server_rows.proofs.InTurn.InKept.{number_of, is_opened}
use Rattle.law_role_server_rows.proofs.InTurn.InPlaces.{Found, Placed, placed}
use Rattle.law_role_server_in.proofs.Tallies.{Tally, Grows}

-- ---- what the facts are about, beside the legs

pub record Top : Type 0 where
  pub begun : Bool
  -- the legs of the current channel and of the next
  pub current : ℕ
  pub next : ℕ
  pub has_next : Bool
  pub finished : Bool
  pub now_ended : Bool
  pub next_ended : Bool
  -- the leg of the newest channel, its cookie, and that of the next channel
  pub newest_leg : ℕ
  pub newest_cookie : Cookie
  pub next_cookie : Cookie

pub record Look : Type 0 where
  pub top : Top
  pub newest : ℕ
  pub ins : List InLeg

abbrev pub top_of : Server → Top
top_of s = record {
  begun = is_begun s.stage;
  current = s.current.leg;
  next = s.next.leg;
  has_next = s.line.has_next;
  finished = s.line.finished;
  now_ended = s.line.current.ended;
  next_ended = s.line.next.ended;
  newest_leg = s.newest.leg;
  newest_cookie = s.newest.cookie;
  next_cookie = s.next.cookie;
}

abbrev pub look : Server → Look
look s = record { top = top_of s; newest = s.newest_in; ins = s.ins }

module _ (n : ℕ) where
  -- the channel of the leg is current, or next, or left
  abbrev pub IsOpen : Top → Tally → Type 0
  IsOpen x c = (n ≡ x.current) ⊎ ((x.has_next ≡ true) × (n ≡ x.next)) ⊎ (1 ≤ c.left)

  -- of the leg of that number
  pub record So (x : Top) (c : Tally) (leg : InLeg) : Type 0 where
    pub fresh : is_fresh leg.stage ≡ true → c.first ≡ 0
    pub stale : is_fresh leg.stage ≡ false → 1 ≤ c.first
    pub waits : is_waiting leg.stage ≡ true → 1 ≤ c.announced
    pub ended : waits_ended leg.stage ≡ true → 1 ≤ c.over
    pub opened : is_opened leg.stage ≡ true → IsOpen x c
    pub untold : is_opened leg.stage ≡ false → (leg.tells ≡ tells.Nothing) × (c.told ≡ 0)
    pub calm : is_opened leg.stage ≡ false → stays leg.leaving ≡ true
    pub current : x.begun ≡ true → n ≡ x.current → is_opened leg.stage ≡ true
    pub next : x.has_next ≡ true → n ≡ x.next → is_opened leg.stage ≡ true
    pub above : x.begun ≡ true → is_fresh leg.stage ≡ true → x.newest_leg < n
    pub cookie : is_waiting leg.stage ≡ true → c.successor ≡ Some leg.cookie
    pub positive : 1 ≤ n

  -- it didn't come up
  pub record Apart (x : Top) : Type 0 where
    pub current : x.begun ≡ true → n ≡ x.current → ⊥
    pub next : x.has_next ≡ true → n ≡ x.next → ⊥
    pub above : x.begun ≡ true → x.newest_leg < n

  pub record Unborn (x : Top) (c : Tally) (ins : List InLeg) : Type 0 where
    pub absent : Absent number_of n ins
    pub first : c.first ≡ 0
    pub told : c.told ≡ 0
    pub apart : Apart x

  pub record Tail (x : Top) (c : Tally) : Type 0 where
    pub left : x.finished ≡ true → n ≡ x.current → 1 ≤ c.left
    pub now_over : x.now_ended ≡ true → n ≡ x.current → 1 ≤ c.over
    pub next_over : x.has_next ≡ true → x.next_ended ≡ true → n ≡ x.next → 1 ≤ c.over
    pub followed : x.finished ≡ true → x.has_next ≡ true
    pub early : x.begun ≡ false → (x.current ≡ 1) × (x.has_next ≡ false)
    pub once : c.first ≤ 1
    pub none_first : x.begun ≡ false → c.first ≡ 0
    pub began : x.begun ≡ true → n ≡ x.current → 1 ≤ c.first
    pub next_began : x.has_next ≡ true → n ≡ x.next → 1 ≤ c.first
    pub named : x.begun ≡ true → n ≡ x.newest_leg → c.named ≡ Some x.newest_cookie
    pub beyond : x.begun ≡ true → x.newest_leg < n → c.first ≡ 0
    pub next_named : x.has_next ≡ true → n ≡ x.next → c.successor ≡ Some x.next_cookie

  pub record Kept (x : Top) (newest : ℕ) (ins : List InLeg) (c : Tally) : Type 0 where
    pub unborn : newest < n → Unborn x c ins
    pub legs : Once number_of n (So x c) ins
    pub tail : Tail x c
    -- it began and is gone
    pub gone : Absent number_of n ins → 1 ≤ c.first → IsOpen x c

  -- ---- more passed

  pub open_more : (x : Top) (c d : Tally) → c.left ≤ d.left → IsOpen x c → IsOpen x d
  open_more x c d up (inl now) = inl now
  open_more x c d up (inr (inl next)) = inr (inl next)
  open_more x c d up (inr (inr left)) = inr (inr (omega (arith, up, left)))

  pub so_more : (x : Top) (c d : Tally) (leg : InLeg) → Grows c d → So x c leg → So x d leg
  so_more x c d leg g q = record {
    fresh = λ e. g.first ∙ q.fresh e;
    stale = λ e. let was = q.stale e in omega (arith, was, g.first);
    waits = λ e. let was = q.waits e in omega (arith, was, g.announced);
    ended = λ e. let was = q.ended e in omega (arith, was, g.over);
    opened = λ e. open_more x c d g.left (q.opened e);
    untold = λ e. let was = q.untold e in (was.0, g.told ∙ was.1);
    calm = q.calm;
    current = q.current;
    next = q.next;
    above = q.above;
    cookie = λ e. g.successor ∙ q.cookie e;
    positive = q.positive;
  }

  pub tail_more : (x : Top) (c d : Tally) → Grows c d → Tail x c → Tail x d
  tail_more x c d g h = record {
    left = λ e f. let was = h.left e f in omega (arith, was, g.left);
    now_over = λ e f. let was = h.now_over e f in omega (arith, was, g.over);
    next_over = λ e f k. let was = h.next_over e f k in omega (arith, was, g.over);
    followed = h.followed;
    early = h.early;
    once = omega (arith, h.once, g.first);
    none_first = λ e. g.first ∙ h.none_first e;
    began = λ e f. let was = h.began e f in omega (arith, was, g.first);
    next_began = λ e f. let was = h.next_began e f in omega (arith, was, g.first);
    named = λ e f. g.named ∙ h.named e f;
    beyond = λ e f. g.first ∙ h.beyond e f;
    next_named = λ e f. g.successor ∙ h.next_named e f;
  }

  pub kept_more : (x : Top) (newest : ℕ) (ins : List InLeg) (c d : Tally) → Grows c d
      → Kept x newest ins c → Kept x newest ins d
  kept_more x newest ins c d g h = record {
    unborn = λ less. let u = h.unborn less in record {
      absent = u.absent;
      first = g.first ∙ u.first;
      told = g.told ∙ u.told;
      apart = u.apart;
    };
    legs = once_map number_of n (So x c) (So x d) ins (λ leg q. so_more x c d leg g q) h.legs;
    tail = tail_more x c d g h.tail;
    gone = λ none some. open_more x c d g.left (h.gone none (omega (arith, some, g.first)));
  }

  -- what is said of a leg, where another channel is the current one, or the next
  pub so_top : (x y : Top) (c : Tally) (leg : InLeg) → (IsOpen x c → IsOpen y c)
      → (y.begun ≡ true → n ≡ y.current → is_opened leg.stage ≡ true)
      → (y.has_next ≡ true → n ≡ y.next → is_opened leg.stage ≡ true)
      → (y.begun ≡ true → is_fresh leg.stage ≡ true → y.newest_leg < n)
      → So x c leg → So y c leg
  so_top x y c leg goes current next above q = record {
    fresh = q.fresh;
    stale = q.stale;
    waits = q.waits;
    ended = q.ended;
    opened = λ e. goes (q.opened e);
    untold = q.untold;
    calm = q.calm;
    current = current;
    next = next;
    above = above;
    cookie = q.cookie;
    positive = q.positive;
  }

  -- ---- no leg changes

  pub top_kept : (x y : Top) (newest : ℕ) (ins : List InLeg) (c : Tally)
      → (IsOpen x c → IsOpen y c)
      → ((leg : InLeg) → So x c leg → So y c leg) → (Apart x → Apart y) → (Tail x c → Tail y c)
      → Kept x newest ins c → Kept y newest ins c
  top_kept x y newest ins c goes so apart tail h = record {
    unborn = λ less. let u = h.unborn less in record {
      absent = u.absent;
      first = u.first;
      told = u.told;
      apart = apart u.apart;
    };
    legs = once_map number_of n (So x c) (So y c) ins so h.legs;
    tail = tail h.tail;
    gone = λ none some. goes (h.gone none some);
  }

  -- another channel is the newest one on its leg
  pub renamed_kept : (x : Top) (newest : ℕ) (ins : List InLeg) (c : Tally) (o : Option Cookie)
      (cookie : Cookie) → (x.begun ≡ true → n ≡ x.newest_leg → o ≡ Some cookie)
      → Kept x newest ins c
      → Kept (record x { newest_cookie = cookie }) newest ins (record c { named = o })
  renamed_kept x newest ins c o cookie names h = record {
    unborn = λ less. let u = h.unborn less in record {
      absent = u.absent;
      first = u.first;
      told = u.told;
      apart =
          record { current = u.apart.current; next = u.apart.next; above = u.apart.above };
    };
    legs = once_map number_of n (So x c) (So y d) ins
        (λ leg q. record {
          fresh = q.fresh;
          stale = q.stale;
          waits = q.waits;
          ended = q.ended;
          opened = λ e. opens (q.opened e);
          untold = q.untold;
          calm = q.calm;
          current = q.current;
          next = q.next;
          above = q.above;
          cookie = q.cookie;
          positive = q.positive;
        }) h.legs;
    tail = record {
      left = h.tail.left;
      now_over = h.tail.now_over;
      next_over = h.tail.next_over;
      followed = h.tail.followed;
      early = h.tail.early;
      once = h.tail.once;
      none_first = h.tail.none_first;
      began = h.tail.began;
      next_began = h.tail.next_began;
      named = names;
      beyond = h.tail.beyond;
      next_named = h.tail.next_named;
    };
    gone = λ none some. opens (h.gone none some);
  }
    where
      y : Top
      y = record x { newest_cookie = cookie }

      d : Tally
      d = record c { named = o }

      opens : IsOpen x c → IsOpen y d
      opens (inl now) = inl now
      opens (inr (inl next)) = inr (inl next)
      opens (inr (inr left)) = inr (inr left)

  -- a greater number was given
  pub newer_kept : (x : Top) (newest : ℕ) (ins : List InLeg) (c : Tally)
      → Kept x newest ins c → Kept x (newest + 1) ins c
  newer_kept x newest ins c h = record {
    unborn = λ less. h.unborn (omega (arith, less));
    legs = h.legs;
    tail = h.tail;
    gone = h.gone;
  }

  -- ---- a leg changes

  absurd_at : (ins : List InLeg) (leg : InLeg) → Found ins leg → Absent number_of n ins
      → n ≡ leg.number → ⊥
  absurd_at ins leg f none e =
      true≢false (sym (test_same n)
      ∙ ap (λ (k : ℕ). k == n) e ∙ absent_at number_of n ins f.place leg f.at none)

  pub leg_at_place : (x : Top) (newest : ℕ) (ins : List InLeg) (c : Tally) (leg : InLeg)
      → Found ins leg → n ≡ leg.number → Kept x newest ins c → So x c leg
  leg_at_place x newest ins c leg f is h =
      once_at number_of n (So x c) ins f.place leg f.at
      (ap (λ (k : ℕ). k == n) (sym is) ∙ test_same n) h.legs

  pub set_kept : (x y : Top) (c d : Tally) (newest : ℕ) (ins : List InLeg) (leg z : InLeg)
      → Found ins leg → z.number ≡ leg.number → (n ≡ leg.number → So x c leg → So y d z)
      → ((n ≡ leg.number → ⊥) → (w : InLeg) → So x c w → So y d w)
      → ((n ≡ leg.number → ⊥) → (d.first ≡ c.first) × (d.told ≡ c.told))
      → ((n ≡ leg.number → ⊥) → IsOpen x c → IsOpen y d)
      → ((n ≡ leg.number → ⊥) → newest < n → Apart x → Apart y)
      → Tail y d → Kept x newest ins c
      → Kept y newest (set_at ins z (in_place z.number ins)) d
  set_kept x y c d newest ins leg z f same here other apart goes from tail h =
      subst (λ (o : Option ℕ). Kept y newest (set_at ins z o) d)
      (sym (ap (λ (k : ℕ). in_place k ins) same ∙ p.is)) (record {
        unborn = λ less.
            let u = h.unborn less in
            let differ = absurd_at ins leg f u.absent in
            let still = apart differ in record {
              absent = absent_set number_of n ins p.place p.leg z p.at (same ∙ sym p.same)
                  u.absent;
              first = still.0 ∙ u.first;
              told = still.1 ∙ u.told;
              apart = from differ less u.apart;
            };
        legs = once_set number_of n (So x c) (So y d) ins p.place p.leg z p.at
            (same ∙ sym p.same)
            (λ e was. here (at e)
            (once_at number_of n (So x c) ins f.place leg f.at
            (ap (λ (k : ℕ). k == n) (sym p.same) ∙ e) h.legs))
            (λ e w was. other
            (λ is. true≢false (sym (test_same n)
            ∙ ap (λ (k : ℕ). k == n) (is ∙ sym p.same) ∙ e)) w was) h.legs;
        tail = tail;
        gone = λ none some.
            let was = absent_unset number_of n ins p.place p.leg z p.at (same ∙ sym p.same) none
            in
            let differ = absurd_at ins leg f was in
            let still = (apart differ).0 in
            goes differ (h.gone was (omega (arith, some, still)));
      })
    where
      p : Placed ins leg.number
      p = placed ins leg f

      at : p.leg.number == n ≡ true → n ≡ leg.number
      at e = sym (same_number p.leg.number n e) ∙ p.same

  -- a leg goes whose channel doesn't wait
  pub gone_kept : (x : Top) (newest : ℕ) (ins : List InLeg) (c : Tally) (place : Option ℕ)
      → IfSome (in_at ins place) (λ (leg : InLeg). n ≡ leg.number → So x c leg
      → is_waiting leg.stage ≡ false)
      → Kept x newest ins c → Kept x newest (removed_at ins place) c
  gone_kept x newest ins c None calm h = h
  gone_kept x newest ins c (Some place) calm h = record {
    unborn = λ less. let u = h.unborn less in record {
      absent = absent_removed number_of n ins place u.absent;
      first = u.first;
      told = u.told;
      apart = u.apart;
    };
    legs = once_removed number_of n (So x c) ins place h.legs;
    tail = h.tail;
    gone = λ none some. by (slice_get ins place) refl calm none some;
  }
    where
      staged : (leg : InLeg) → So x c leg → is_waiting leg.stage ≡ false → 1 ≤ c.first
          → (s : InStage) → leg.stage ≡ s → IsOpen x c
      staged leg q calm some in_stage.Fresh e =
          let none = q.fresh (ap is_fresh e) in absurd (omega (arith, some, none))
      staged leg q calm some (in_stage.Waits window timeout ended) e =
          absurd (true≢false (sym (ap is_waiting e) ∙ calm))
      staged leg q calm some in_stage.Opened e = q.opened (ap is_opened e)

      by : (o : Option InLeg) → slice_get ins place ≡ o
          → IfSome o (λ (leg : InLeg). n ≡ leg.number → So x c leg
          → is_waiting leg.stage ≡ false)
          → Absent number_of n (remove ins place) → 1 ≤ c.first → IsOpen x c
      by None e calm none some = h.gone (absent_missing number_of n ins place e none) some
      by (Some leg) e calm none some = at (leg.number == n) refl
        where
          at : (b : Bool) → leg.number == n ≡ b → IsOpen x c
          at true t =
              let is = sym (same_number leg.number n t) in
              let q = once_at number_of n (So x c) ins place leg e t h.legs in
              staged leg q (calm is q) some leg.stage refl
          at false t = h.gone (absent_back number_of n ins place leg e t none) some

  -- a leg comes up
  pub up_kept : (x : Top) (newest m : ℕ) (ins : List InLeg) (c : Tally)
      → m ≡ newest + 1 → Kept x newest ins c → Kept x m (ins ++ in_leg_up m ∷ []) c
  up_kept x newest m ins c next h = record {
    unborn = λ less. let u = h.unborn (omega (arith, next, less)) in record {
      absent = absent_push number_of n ins (in_leg_up m)
          (test_other m n (λ is. absurd (omega (arith, is, less)))) u.absent;
      first = u.first;
      told = u.told;
      apart = u.apart;
    };
    legs = by (m == n) refl;
    tail = h.tail;
    gone = λ none some. h.gone (absent_front number_of n ins (in_leg_up m) none) some;
  }
    where
      by : (b : Bool) → (m == n) ≡ b → Once number_of n (So x c) (ins ++ in_leg_up m ∷ [])
      by true e =
          let is = same_number m n e in
          let u = h.unborn (omega (arith, next, is)) in
          once_first number_of n (So x c) ins (in_leg_up m) u.absent (record {
            fresh = λ f. u.first;
            stale = λ f. absurd (true≢false f);
            waits = λ f. absurd (false≢true f);
            ended = λ f. absurd (false≢true f);
            opened = λ f. absurd (false≢true f);
            untold = λ f. (refl, u.told);
            calm = λ f. refl;
            current = λ e f. absurd (u.apart.current e f);
            next = λ e f. absurd (u.apart.next e f);
            above = λ e f. u.apart.above e;
            cookie = λ f. absurd (false≢true f);
            positive = omega (arith, is, next);
          })
      by false e = once_push number_of n (So x c) ins (in_leg_up m) e h.legs

  pub kept_start : (x : Top) (c : Tally) → x.begun ≡ false → x.current ≡ 1 → x.has_next ≡ false
      → x.finished ≡ false → x.now_ended ≡ false → c.first ≡ 0 → c.told ≡ 0 → Kept x 0 [] c
  kept_start x c early current none going calm first told = record {
    unborn = λ less. record {
      absent = tt;
      first = first;
      told = told;
      apart = record {
        current = λ e. absurd (true≢false (sym e ∙ early));
        next = λ e. absurd (true≢false (sym e ∙ none));
        above = λ e. absurd (true≢false (sym e ∙ early));
      };
    };
    legs = tt;
    tail = record {
      left = λ e. absurd (true≢false (sym e ∙ going));
      now_over = λ e. absurd (true≢false (sym e ∙ calm));
      next_over = λ e. absurd (true≢false (sym e ∙ none));
      followed = λ e. absurd (true≢false (sym e ∙ going));
      early = λ e. (current, none);
      once = omega (arith, first);
      none_first = λ e. first;
      began = λ e. absurd (true≢false (sym e ∙ early));
      next_began = λ e. absurd (true≢false (sym e ∙ none));
      named = λ e. absurd (true≢false (sym e ∙ early));
      beyond = λ e f. first;
      next_named = λ e. absurd (true≢false (sym e ∙ none));
    };
    gone = λ e some. absurd (omega (arith, some, first));
  }
