-- a server's steps keep what it knows of its is legs
use Rattle.law_order.proofs.Vocabulary.{◌≡◌, inl, inr, ℕ, ◌≤◌, ◌<◌, ◌==◌, nat_lt, ◌&&◌, ◌||◌, Bool, true, false, true≢false, not, List, [], ◌∷◌, Some, None, arith, refl, sym, ap, ◌∙◌, subst, false≢true, and_parts, or_parts, nat_tests, IfSome, Option}
use Rattle.rh_line.specs.Lines.{taken as line_taken}
use Rattle.rh_server.specs.declared.state.InStage.TheVariants as in_stage
use Rattle.rh_server.specs.declared.state.Tells.TheVariants as tells
use Rattle.rh_server.specs.declared.out_line.Kind.TheVariants as kinds
use Rattle.law_moves.proofs.Vocabulary.{by_test, other_number, same_number, Cookie, Line, is_empty, released, moved_on, settled as line_settled}
use Rattle.law_role_server.proofs.Vocabulary.{Shut, InLeg, InStage, Stage, waits, Server, is_fresh, is_waiting, stays, in_place, set_at, with_in, first_in, waits_ended, opens_next, opens_leg, first_waiting, waiting_place, next_opened, becomes_current, moved_if, take, announced, is_fresh_below, has_fresh_below}
use Rattle.law_role_server.proofs.Numbered.{none_any, once_all, once_map}
use Rattle.law_role_server.proofs.TakesKept.{has_begun as is_begun}
use Rattle.law_role_server_rows.proofs.InTurn.InRows.{fresh_unopened}
use Rattle.law_role_server_rows.proofs.InTurn.InPlaces.{Found, found_at}
use Rattle.law_role_server_rows.proofs.InTurn.InKept.{is_opened, number_of}
use Rattle.law_role_server_in.proofs.Tallies.{Begins, Grows, Tally}
use Rattle.law_role_server_in.proofs.Kept.{IsOpen, Kept, Look, So, Tail, Top, kept_more, leg_at_place, look, open_more, set_kept, so_more, so_top, tail_more, top_kept, top_of}

module _ (n : ℕ) where
  abbrev pub Fine : Server → Tally → Type 0
  Fine s c = Kept n (top_of s) s.newest_in s.ins c

  pub same_fine : (s t : Server) (c : Tally) → look t ≡ look s → Fine s c → Fine t c
  same_fine s t c same h =
      subst (λ (v : Look). Kept n v.top v.newest v.ins c) (sym same) h

  -- what is said of a leg hangs on its stage, on what it is to tell, on its cookie, and on
  -- whether it stays
  pub so_same : (x : Top) (c : Tally) (leg z : InLeg) → z.stage ≡ leg.stage → z.tells ≡ leg.tells
      → z.cookie ≡ leg.cookie → (is_opened leg.stage ≡ false → stays z.leaving ≡ true)
      → So n x c leg → So n x c z
  so_same x c leg z stage told cookie calm q = record {
    fresh = λ e. q.fresh (ap is_fresh (sym stage) ∙ e);
    stale = λ e. q.stale (ap is_fresh (sym stage) ∙ e);
    waits = λ e. q.waits (ap is_waiting (sym stage) ∙ e);
    ended = λ e. q.ended (ap waits_ended (sym stage) ∙ e);
    opened = λ e. q.opened (ap is_opened (sym stage) ∙ e);
    untold = λ e. let was = q.untold (ap is_opened (sym stage) ∙ e) in (told ∙ was.0, was.1);
    calm = λ e. calm (ap is_opened (sym stage) ∙ e);
    current = λ e f. ap is_opened stage ∙ q.current e f;
    next = λ e f. ap is_opened stage ∙ q.next e f;
    above = λ e f. q.above e (ap is_fresh (sym stage) ∙ f);
    cookie = λ e.
        q.cookie (ap is_waiting (sym stage) ∙ e) ∙ ap (λ (k : Cookie). Some k) (sym cookie);
    positive = q.positive;
  }

  module _ (c : Tally) where
    abbrev FineNow : Server → Type 0
    FineNow s = Fine s c

    -- a leg changes that has the same stage, the same to tell, and the same cookie
    pub leg_same : (s : Server) (leg z : InLeg) → Found s.ins leg → z.number ≡ leg.number
        → z.stage ≡ leg.stage → z.tells ≡ leg.tells → z.cookie ≡ leg.cookie
        → (n ≡ leg.number → So n (top_of s) c leg → is_opened leg.stage ≡ false
        → stays z.leaving ≡ true)
        → FineNow s → FineNow (with_in s z)
    leg_same s leg z f same stage told cookie calm h =
        set_kept n (top_of s) (top_of s) c c s.newest_in s.ins leg z f same
        (λ is q. so_same (top_of s) c leg z stage told cookie (calm is q) q)
        (λ apart w q. q) (λ apart. (refl, refl)) (λ apart o. o) (λ apart less a. a) h.tail h

    -- ---- channels

    module _ (x : Top) (leg : InLeg) (next_ended : Bool) where
      abbrev opens_top : Top
      opens_top = record x {
        has_next = true;
        next = leg.number;
        next_ended = next_ended;
        next_cookie = leg.cookie;
      }

      -- a leg whose channel waited is that of the next one
      opens_so : (z : InLeg) → is_fresh leg.stage ≡ false → z.stage ≡ in_stage.Opened
          → n ≡ leg.number → So n x c leg → So n opens_top c z
      opens_so z stale opened is q = record {
        fresh = λ e. absurd (false≢true (sym (ap is_fresh opened) ∙ e));
        stale = λ e. q.stale stale;
        waits = λ e. absurd (false≢true (sym (ap is_waiting opened) ∙ e));
        ended = λ e. absurd (false≢true (sym (ap waits_ended opened) ∙ e));
        opened = λ e. inr (inl (refl, is));
        untold = λ e. absurd (true≢false (sym (ap is_opened opened) ∙ e));
        calm = λ e. absurd (true≢false (sym (ap is_opened opened) ∙ e));
        current = λ e f. ap is_opened opened;
        next = λ e f. ap is_opened opened;
        above = λ e f. absurd (false≢true (sym (ap is_fresh opened) ∙ f));
        cookie = λ e. absurd (false≢true (sym (ap is_waiting opened) ∙ e));
        positive = q.positive;
      }

      opens_open : x.has_next ≡ false → IsOpen n x c → IsOpen n opens_top c
      opens_open none (inl now) = inl now
      opens_open none (inr (inl has)) = absurd (true≢false (sym has.0 ∙ none))
      opens_open none (inr (inr left)) = inr (inr left)

      opens_tail : x.begun ≡ true → (n ≡ leg.number → So n x c leg)
          → is_fresh leg.stage ≡ false → is_waiting leg.stage ≡ true
          → (next_ended ≡ true → waits_ended leg.stage ≡ true) → Tail n x c
          → Tail n opens_top c
      opens_tail begun at stale waits over h = record {
        left = h.left;
        now_over = h.now_over;
        next_over = λ e f g. (at g).ended (over f);
        followed = λ e. refl;
        early = λ e. absurd (true≢false (sym begun ∙ e));
        once = h.once;
        none_first = h.none_first;
        began = h.began;
        next_began = λ e f. (at f).stale stale;
        named = h.named;
        beyond = h.beyond;
        next_named = λ e f. (at f).cookie waits;
      }

    opens_by : (s : Server) (leg : InLeg) (next_ended : Bool) → Found s.ins leg
        → is_begun s.stage ≡ true → s.line.has_next ≡ false → is_fresh leg.stage ≡ false
        → is_waiting leg.stage ≡ true → (next_ended ≡ true → waits_ended leg.stage ≡ true)
        → FineNow s
        → let z : InLeg = record leg { stage = in_stage.Opened; tells = tells.InR1B2 } in
        Kept n (opens_top (top_of s) leg next_ended) s.newest_in
        (set_at s.ins z (in_place z.number s.ins)) c
    opens_by s leg next_ended f begun none stale waits over h =
        set_kept n (top_of s) (opens_top (top_of s) leg next_ended) c c s.newest_in s.ins leg
        (record leg { stage = in_stage.Opened; tells = tells.InR1B2 }) f refl
        (λ is q. opens_so (top_of s) leg next_ended
        (record leg { stage = in_stage.Opened; tells = tells.InR1B2 }) stale refl is q)
        (λ apart w q. so_top n (top_of s) (opens_top (top_of s) leg next_ended) c w
        (opens_open (top_of s) leg next_ended none) q.current (λ e g. absurd (apart g)) q.above q)
        (λ apart. (refl, refl))
        (λ apart. opens_open (top_of s) leg next_ended none)
        (λ apart less a. record { current = a.current; next = λ e. apart; above = a.above })
        (opens_tail (top_of s) leg next_ended begun
        (λ is. leg_at_place n (top_of s) s.newest_in s.ins c leg f is h) stale waits over h.tail)
        h

    opens_fine : (s : Server) (leg : InLeg) (x : InStage) → leg.stage ≡ x → Found s.ins leg
        → is_begun s.stage ≡ true → s.line.has_next ≡ false → FineNow s
        → FineNow (opens_next s leg x)
    opens_fine s leg in_stage.Fresh st f begun none h = h
    opens_fine s leg in_stage.Opened st f begun none h = h
    opens_fine s leg (in_stage.Waits window timeout true) st f begun none h =
        opens_by s leg true f begun none (ap is_fresh st) (ap is_waiting st)
        (λ e. ap waits_ended st) h
    opens_fine s leg (in_stage.Waits window timeout false) st f begun none h =
        opens_by s leg false f begun none (ap is_fresh st) (ap is_waiting st)
        (λ e. absurd (false≢true e)) h

    pub next_fine : (s : Server) → is_begun s.stage ≡ true → FineNow s → FineNow (next_opened s)
    next_fine s begun h =
        by_test FineNow (s.line.has_next || waits kinds.InR1A3 s.waiting) s
        (opens_leg s (first_waiting s.ins)) (λ e. h)
        (λ e. by (or_parts s.line.has_next _ e).0 (first_waiting s.ins)
        (found_at s.ins (waiting_place s.ins)))
      where
        by : s.line.has_next ≡ false → (o : Option InLeg) → IfSome o (Found s.ins)
            → FineNow (opens_leg s o)
        by none None f = h
        by none (Some leg) f = opens_fine s leg leg.stage refl f begun none h

    -- the next channel is the current one
    moves_on : (s : Server) → s.line.has_next ≡ true → s.line.finished ≡ true → FineNow s
        → FineNow (becomes_current (record s { line = moved_on s.line }))
    moves_on s has finished h =
        next_fine (record s { line = moved_on s.line; current = s.next; edge = Shut })
        (begun (is_begun s.stage) refl)
        (top_kept n (top_of s) y s.newest_in s.ins c open_so
        (λ leg q. so_top n (top_of s) y c leg open_so (λ e f. q.next has f)
        (λ e. absurd (false≢true e)) q.above q)
        (λ a. record {
          current = λ e f. a.next has f;
          next = λ e. absurd (false≢true e);
          above = a.above;
        })
        tail_so h)
      where
        begun : (b : Bool) → is_begun s.stage ≡ b → is_begun s.stage ≡ true
        begun true e = e
        begun false e = absurd (true≢false (sym has ∙ (h.tail.early e).1))

        y : Top
        y = record (top_of s) {
          current = s.next.leg;
          has_next = false;
          finished = false;
          now_ended = s.line.next.ended;
          next_ended = false;
        }

        open_so : IsOpen n (top_of s) c → IsOpen n y c
        open_so (inl now) = inr (inr (h.tail.left finished now))
        open_so (inr (inl next)) = inl next.1
        open_so (inr (inr left)) = inr (inr left)

        tail_so : Tail n (top_of s) c → Tail n y c
        tail_so t = record {
          left = λ e. absurd (false≢true e);
          now_over = λ e f. t.next_over has e f;
          next_over = λ e. absurd (false≢true e);
          followed = λ e. absurd (false≢true e);
          early = λ e. absurd (true≢false (sym has ∙ (t.early e).1));
          once = t.once;
          none_first = t.none_first;
          began = λ e f. t.next_began has f;
          next_began = λ e. absurd (false≢true e);
          named = t.named;
          beyond = t.beyond;
          next_named = λ e. absurd (false≢true e);
        }

    -- where the current one is finished and empty
    pub settles : (s : Server) → FineNow s
        → FineNow (moved_if s.line.has_next (record s { line = line_settled s.line }))
    settles s h =
        by_test (λ (l : Line). FineNow (moved_if s.line.has_next (record s { line = l })))
        (s.line.finished && is_empty s.line.current.pdus) (moved_on s.line) s.line
        (λ e. goes (and_parts s.line.finished _ e).0)
        (λ e. by_test FineNow (s.line.has_next && not s.line.has_next) (becomes_current s) s
        (λ f. absurd (never s.line.has_next f)) (λ f. h))
      where
        never : (b : Bool) → b && not b ≡ true → ⊥
        never true e = false≢true e
        never false e = false≢true e

        goes : s.line.finished ≡ true
            → FineNow (moved_if s.line.has_next (record s { line = moved_on s.line }))
        goes finished =
            let has = h.tail.followed finished in
            subst (λ (b : Bool). FineNow (moved_if b (record s { line = moved_on s.line })))
            (sym has) (moves_on s has finished h)

    pub take_fine : (s : Server) → FineNow s → FineNow (take s)
    take_fine s h = by s.line.current.pdus
      where
        by : (pdus : List (List ℕ))
            → FineNow (moved_if s.line.has_next (record s { line = line_taken pdus s.line }))
        by [] =
            by_test FineNow (s.line.has_next && not s.line.has_next) (becomes_current s) s
            (λ f. absurd (never s.line.has_next f)) (λ f. h)
          where
            never : (b : Bool) → b && not b ≡ true → ⊥
            never true e = false≢true e
            never false e = false≢true e
        by (pdu ∷ pdus) =
            let t : Server = record s {
              line = record (s.line) {
                current = released (pdu ∷ pdus) s.line.current;
              };
            } in settles t (same_fine s t c refl h)

  -- ---- a channel begins

  -- the first one, on leg 1
  module _ (s : Server) (new : Stage) (cookie : Cookie) (leg : InLeg) (c d : Tally)
      (f : Found s.ins leg) (number : leg.number ≡ 1) (early : is_begun s.stage ≡ false)
      (begun : is_begun new ≡ true) (h : Fine s c) where
    abbrev y : Top
    y = record (top_of s) {
      begun = is_begun new;
      current = 1;
      newest_leg = 1;
      newest_cookie = cookie;
    }

    abbrev z : InLeg
    z = record leg { cookie = cookie; stage = in_stage.Opened; tells = tells.ConnB3 }

    was : (s.current.leg ≡ 1) × (s.line.has_next ≡ false)
    was = h.tail.early early

    moves : IsOpen n (top_of s) d → IsOpen n y d
    moves (inl now) = inl (now ∙ was.0)
    moves (inr (inl next)) = inr (inl next)
    moves (inr (inr left)) = inr (inr left)

    begins_so : Begins cookie c d → n ≡ 1 → So n (top_of s) c leg → So n y d z
    begins_so g is q = record {
      fresh = λ e. absurd (false≢true e);
      stale = λ e. omega (arith, g.first);
      waits = λ e. absurd (false≢true e);
      ended = λ e. absurd (false≢true e);
      opened = λ e. inl is;
      untold = λ e. absurd (true≢false e);
      calm = λ e. absurd (true≢false e);
      current = λ e k. refl;
      next = λ e k. refl;
      above = λ e k. absurd (false≢true k);
      cookie = λ e. absurd (false≢true e);
      positive = q.positive;
    }

    other_so : Grows c d → (n ≡ 1 → ⊥) → (w : InLeg) → So n (top_of s) c w → So n y d w
    other_so g apart w q =
        so_top n (top_of s) y d w moves (λ e is. absurd (apart is)) q.next
        (λ e k. omega (arith, apart, q.positive)) (so_more n (top_of s) c d w g q)

    begins_tail : Begins cookie c d → n ≡ 1 → Tail n y d
    begins_tail g is =
        let none = h.tail.none_first early in record {
          left = λ e k. absurd (true≢false (sym (h.tail.followed e) ∙ was.1));
          now_over = λ e k. let o = h.tail.now_over e (k ∙ sym was.0) in
              omega (arith, o, g.over);
          next_over = λ e. absurd (true≢false (sym e ∙ was.1));
          followed = h.tail.followed;
          early = λ e. absurd (true≢false (sym begun ∙ e));
          once = omega (arith, none, g.first);
          none_first = λ e. absurd (true≢false (sym begun ∙ e));
          began = λ e k. omega (arith, g.first);
          next_began = λ e k. omega (arith, g.first);
          named = λ e k. g.named;
          beyond = λ e k. absurd (omega (arith, is, k));
          next_named = λ e. absurd (true≢false (sym e ∙ was.1));
        }

    other_tail : Grows c d → (n ≡ 1 → ⊥) → Tail n y d
    other_tail g apart =
        let t = tail_more n (top_of s) c d g h.tail in record {
          left = λ e is. absurd (apart is);
          now_over = λ e is. absurd (apart is);
          next_over = t.next_over;
          followed = t.followed;
          early = λ e. absurd (true≢false (sym begun ∙ e));
          once = t.once;
          none_first = λ e. absurd (true≢false (sym begun ∙ e));
          began = λ e is. absurd (apart is);
          next_began = t.next_began;
          named = λ e is. absurd (apart is);
          beyond = λ e k. t.none_first early;
          next_named = t.next_named;
        }

    pub first_fine : (n ≡ 1 → Begins cookie c d) → ((n ≡ 1 → ⊥) → Grows c d)
        → Fine (record (first_in s cookie (Some leg)) { stage = new }) d
    first_fine here other =
        set_kept n (top_of s) y c d s.newest_in s.ins leg z f refl
        (λ is q. begins_so (here (is ∙ number)) (is ∙ number) q)
        (λ apart w q. other_so (other (differ apart)) (differ apart) w q)
        (λ apart. let g = other (differ apart) in (g.first, g.told))
        (λ apart o. moves (open_more n (top_of s) c d (other (differ apart)).left o))
        (λ apart less a. record {
          current = λ e is. differ apart is;
          next = a.next;
          above = λ e. let far = differ apart in omega (arith, far, less);
        })
        (by (n == 1) refl) h
      where
        differ : (n ≡ leg.number → ⊥) → n ≡ 1 → ⊥
        differ apart is = apart (is ∙ sym number)

        by : (b : Bool) → (n == 1) ≡ b → Tail n y d
        by true e = let is = same_number n 1 e in begins_tail (here is) is
        by false e = let is = other_number n 1 e in other_tail (other is) is

  -- IN_R1/A2 was taken on a leg behind which no packet came
  module _ (s : Server) (leg : InLeg) (cookie : Cookie) (window timeout : ℕ) (c d : Tally)
      (f : Found s.ins leg) (fresh : is_fresh leg.stage ≡ true) (begun : is_begun s.stage ≡ true)
      (within : leg.number ≤ s.newest_in) (higher : s.newest.leg < leg.number)
      (below : has_fresh_below leg.number s.ins ≡ false) (h : Fine s c) where
    abbrev newer : Top
    newer = record (top_of s) { newest_leg = leg.number; newest_cookie = cookie }

    abbrev waiting : InLeg
    waiting = record leg { cookie = cookie; stage = in_stage.Waits window timeout false }

    -- on another leg
    module _ (apart : n ≡ leg.number → ⊥) where
      renewed : Kept n newer s.newest_in s.ins c
      renewed = record {
        unborn = λ less. let u = h.unborn less in record {
          absent = u.absent;
          first = u.first;
          told = u.told;
          apart = record {
            current = u.apart.current;
            next = u.apart.next;
            above = λ e. omega (arith, less, within);
          };
        };
        legs = once_map number_of n
            (λ w. So n (top_of s) c w × (is_fresh_below leg.number w ≡ false)
            × (number_of w ≡ n))
            (So n newer c) s.ins
            (λ w q. so_top n (top_of s) newer c w (λ o. o) q.0.current q.0.next
            (λ e k. not_below w q.2 k q.1) q.0)
            (once_all number_of n (So n (top_of s) c)
            (λ w. is_fresh_below leg.number w ≡ false) s.ins
            (none_any (is_fresh_below leg.number) s.ins below) h.legs);
        tail = record {
          left = h.tail.left;
          now_over = h.tail.now_over;
          next_over = h.tail.next_over;
          followed = h.tail.followed;
          early = h.tail.early;
          once = h.tail.once;
          none_first = h.tail.none_first;
          began = h.tail.began;
          next_began = h.tail.next_began;
          named = λ e is. absurd (apart is);
          beyond = λ e less. h.tail.beyond e (omega (arith, less, higher));
          next_named = h.tail.next_named;
        };
        gone = h.gone;
      }
        where
          at_least : (a b : ℕ) → nat_lt a b && true ≡ false → b ≤ a
          at_least a b e = grind (arith, nat_tests, e)

          not_below : (w : InLeg) → w.number ≡ n → is_fresh w.stage ≡ true
              → is_fresh_below leg.number w ≡ false → leg.number < n
          not_below w is k e =
              let most = at_least w.number leg.number
              (ap (λ (b : Bool). nat_lt w.number leg.number && b) (sym k) ∙ e) in
              omega (arith, most, is, apart)

      announced_apart : Grows c d → Kept n newer s.newest_in
          (set_at s.ins waiting (in_place waiting.number s.ins)) d
      announced_apart g =
          set_kept n newer newer d d s.newest_in s.ins leg waiting f refl
          (λ is q. absurd (apart is)) (λ differ w q. q) (λ differ. (refl, refl))
          (λ differ o. o) (λ differ less a. a) grown.tail grown
        where
          grown : Kept n newer s.newest_in s.ins d
          grown = kept_more n newer s.newest_in s.ins c d g renewed

    -- on this one
    module _ (is : n ≡ leg.number) (g : Begins cookie c d) (announces_one : 1 ≤ d.announced)
        (succeeds : d.successor ≡ Some cookie) where
      at : So n (top_of s) c leg
      at = leg_at_place n (top_of s) s.newest_in s.ins c leg f is h

      unopened : is_opened leg.stage ≡ true → ⊥
      unopened e = true≢false (sym e ∙ fresh_unopened leg.stage fresh)

      announced_here : Kept n newer s.newest_in
          (set_at s.ins waiting (in_place waiting.number s.ins)) d
      announced_here =
          set_kept n (top_of s) newer c d s.newest_in s.ins leg waiting f refl
          (λ same q. let was = q.untold (fresh_unopened leg.stage fresh) in record {
            fresh = λ e. absurd (false≢true e);
            stale = λ e. omega (arith, g.first);
            waits = λ e. announces_one;
            ended = λ e. absurd (false≢true e);
            opened = λ e. absurd (false≢true e);
            untold = λ e. (was.0, g.told ∙ was.1);
            calm = λ e. q.calm (fresh_unopened leg.stage fresh);
            current = λ e k. absurd (unopened (q.current e k));
            next = λ e k. absurd (unopened (q.next e k));
            above = λ e k. absurd (false≢true k);
            cookie = λ e. succeeds;
            positive = q.positive;
          })
          (λ apart w q. absurd (apart is)) (λ apart. absurd (apart is))
          (λ apart o. absurd (apart is)) (λ apart less a. absurd (apart is))
          (let none = at.fresh fresh in record {
            left = λ e k. let t = h.tail.left e k in omega (arith, t, g.left);
            now_over = λ e k. let t = h.tail.now_over e k in omega (arith, t, g.over);
            next_over = λ e k l. let t = h.tail.next_over e k l in omega (arith, t, g.over);
            followed = h.tail.followed;
            early = h.tail.early;
            once = omega (arith, none, g.first);
            none_first = λ e. absurd (true≢false (sym begun ∙ e));
            began = λ e k. omega (arith, g.first);
            next_began = λ e k. omega (arith, g.first);
            named = λ e k. g.named;
            beyond = λ e k. absurd (omega (arith, is, k));
            next_named = λ e k. absurd (unopened (at.next e k));
          }) h

    pub announces : (n ≡ leg.number
        → Begins cookie c d × (1 ≤ d.announced) × (d.successor ≡ Some cookie))
        → ((n ≡ leg.number → ⊥) → Grows c d) → Fine (announced s leg cookie window timeout) d
    announces here other =
        next_fine d (with_in
        (record s { newest = record { leg = leg.number; cookie = cookie } }) waiting) begun
        (by (n == leg.number) refl)
      where
        by : (b : Bool) → (n == leg.number) ≡ b → Kept n newer s.newest_in
            (set_at s.ins waiting (in_place waiting.number s.ins)) d
        by true e =
            let is = same_number n leg.number e in
            let g = here is in announced_here is g.0 g.1 g.2
        by false e =
            let is = other_number n leg.number e in announced_apart is (other is)
