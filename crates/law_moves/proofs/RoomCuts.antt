-- bytes are drawn into two rooms as into one
use Rattle.law_order.proofs.Vocabulary.{◌≡◌, ℕ, zero, suc, ◌+◌, ◌<◌, List, [], ◌∷◌, ◌++◌, length, take, drop, cond, Bool, true, false, Some, None, arith, refl, sym, ap, ◌∙◌, ◌&&◌, not, Option, take-add, take_all, drop_all, drop-drop, length-take}
use Rattle.rh_shell.proofs.Draws.{behind}
use Rattle.rh_shell.specs.NearEnds.{is_empty}
use Rattle.rh_shell.specs.Shells.{drawn as drawn_from}
use Rattle.law_moves.proofs.Vocabulary.{Leg, Cause, Course, Going, Closed, Refusing, Rules, put_into, NearEnd, is_over, is_marked, Drawn, drawn, put_on, begun_now, filled, left_by, next_byte, draw, Shell, end_at, with_end, put_back, same_leg, drawn_at, drawn_by, then_drawn}
use Rattle.law_moves.proofs.Puttings.{no_bytes}
use Rattle.law_moves.proofs.Cuttings.{end_is, end_again}

-- the leg and the standing of an end stay
pub record Stays (end new : NearEnd) : Type 0 where
  pub leg : new.leg ≡ end.leg
  pub standing : new.standing ≡ end.standing

same : (end : NearEnd) → Stays end end
same end = record { leg = refl; standing = refl }

then : (a b c : NearEnd) → Stays a b → Stays b c → Stays a c
then a b c p q = record { leg = q.leg ∙ p.leg; standing = q.standing ∙ p.standing }

begun_stays : (now : ℕ) (end : NearEnd) (text : List ℕ) → Stays end (begun_now now end text)
begun_stays now end [] = record { leg = refl; standing = refl }
begun_stays now end (b ∷ bs) = record { leg = refl; standing = refl }

module _ {S : Type 0} (rules : Rules S) (now : ℕ) where
  filled_stays : (end : NearEnd) (role : S) → Stays end (filled rules now end role).end
  filled_stays end role = by (is_empty end.begun && not (is_over rules end role))
    where
      put : S × List ℕ
      put = put_into role (rules.put role end.leg)

      by : (t : Bool) → Stays end (cond t (put_on now end put) (drawn end role [])).end
      by true = begun_stays now end put.1
      by false = same end

  left_stays : (end : NearEnd) (role : S) (bs : List ℕ) → Stays end (left_by rules end role bs).end
  left_stays end role [] = record { leg = refl; standing = refl }
  left_stays end role (b ∷ bs) = record { leg = refl; standing = refl }

  next_stays : (end : NearEnd) (f : Drawn S) (bytes : List ℕ) (more : NearEnd → S → Drawn S)
      → Stays end f.end → ((e : NearEnd) (r : S) → Stays e (more e r).end)
      → Stays end (next_byte rules f bytes more).end
  next_stays end f [] more first rest = first
  next_stays end f (b ∷ bs) more first rest =
      let left = left_by rules f.end f.role bs in
      then end left.end (more left.end left.role).end
      (then end f.end left.end first (left_stays f.end f.role bs)) (rest left.end left.role)

  pub draw_stays : (n : ℕ) (end : NearEnd) (role : S) → Stays end (draw rules now n end role).end
  unfolding draw
  draw_stays zero end role = same end
  draw_stays (suc n) end role =
      let f = filled rules now end role in
      next_stays end f f.end.begun (draw rules now n) (filled_stays end role) (draw_stays n)

  -- ---- a room that was filled

  on_filled : (f : Drawn S) (k m n : ℕ) (bytes : List ℕ) → f.bytes ≡ []
      → ((e : NearEnd) (r : S) → length (draw rules now k e r).bytes ≡ k
      → (let d = draw rules now k e r in
      draw rules now n e r ≡ behind d.bytes (draw rules now m d.end d.role)))
      → length (next_byte rules f bytes (draw rules now k)).bytes ≡ suc k
      → (let d = next_byte rules f bytes (draw rules now k) in
      next_byte rules f bytes (draw rules now n)
      ≡ behind d.bytes (draw rules now m d.end d.role))
  on_filled f k m n [] none more full =
      absurd (let size : length f.bytes ≡ 0 = ap (λ (x : List ℕ). length x) none in
      omega (arith, size, full))
  on_filled f k m n (b ∷ bs) none more full =
      let left = left_by rules f.end f.role bs in
      ap (behind (b ∷ [])) (more left.end left.role (omega (arith, full)))

  draw_filled : (k m : ℕ) (end : NearEnd) (role : S)
      → length (draw rules now k end role).bytes ≡ k
      → (let d = draw rules now k end role in
      draw rules now (k + m) end role ≡ behind d.bytes (draw rules now m d.end d.role))
  unfolding draw
  draw_filled zero m end role full =
      ap (λ n. draw rules now n end role) {x = zero + m} {y = m} (omega arith)
  draw_filled (suc k) m end role full =
      let f = filled rules now end role in
      ap (λ n. draw rules now n end role) {x = suc k + m} {y = suc (k + m)} (omega arith)
      ∙ on_filled f k m (k + m) f.end.begun (no_bytes rules now end role) (draw_filled k m) full

  -- ---- a room that was not filled

  on_short : (f : Drawn S) (k n : ℕ) (bytes : List ℕ)
      → ((e : NearEnd) (r : S) → length (draw rules now k e r).bytes < k
      → draw rules now n e r ≡ draw rules now k e r)
      → length (next_byte rules f bytes (draw rules now k)).bytes < suc k
      → next_byte rules f bytes (draw rules now n) ≡ next_byte rules f bytes (draw rules now k)
  on_short f k n [] more short = refl
  on_short f k n (b ∷ bs) more short =
      let left = left_by rules f.end f.role bs in
      ap (behind (b ∷ [])) (more left.end left.role (omega (arith, short)))

  draw_short : (k m : ℕ) (end : NearEnd) (role : S)
      → length (draw rules now k end role).bytes < k
      → draw rules now (k + m) end role ≡ draw rules now k end role
  unfolding draw
  draw_short zero m end role short = absurd (omega (arith, short))
  draw_short (suc k) m end role short =
      let f = filled rules now end role in
      ap (λ n. draw rules now n end role) {x = suc k + m} {y = suc (k + m)} (omega arith)
      ∙ on_short f k (k + m) f.end.begun (draw_short k m) short

-- ---- a node

module _ {S : Type 0} (rules : Rules S) (s : Shell S) (leg : Leg) (k m : ℕ) where
  -- what is drawn into the first room, and into one of both sizes
  abbrev pub Filled : Shell S × List ℕ → Shell S × List ℕ → Type 0
  Filled first all = length first.1 ≡ k → all ≡ then_drawn rules first leg m

  abbrev pub Short : Shell S × List ℕ → Shell S × List ℕ → Type 0
  Short first all = length first.1 < k → all ≡ first

  abbrev pub Cuts : Shell S × List ℕ → Shell S × List ℕ → Type 0
  Cuts first all = Filled first all × Short first all

  -- nothing is drawn
  no_more : drawn_from rules s leg m ≡ (s, []) → Cuts (s, []) (s, [])
  no_more none = (
    λ full. ap (λ (x : Shell S × List ℕ). (x.0, [] ++ x.1)) (sym none),
    λ short. refl,
  )

  -- ---- a node that is going

  module _ (going : s.course ≡ Going) (end : NearEnd) (at : end_at s leg ≡ Some end) where
    on_end : is_marked end.standing ≡ false
        → Cuts (put_back s leg (draw rules s.now k end s.role))
        (put_back s leg (draw rules s.now (k + m) end s.role))
    on_end marked =
        let d = draw rules s.now k end s.role in
        let st = draw_stays rules s.now k end s.role in
        let next = with_end s leg d.end d.role in
        let e = draw rules s.now m d.end d.role in
        let second : drawn_from rules next leg m ≡ put_back next leg e =
        ap (drawn_by rules next leg m) going
        ∙ ap (drawn_at rules next leg m) (end_is s leg end d.end at st.leg d.role)
        ∙ ap (λ t. cond {A = Shell S × List ℕ} t (next, []) (put_back next leg e))
        (ap is_marked st.standing ∙ marked) in (
          λ full.
              ap (put_back s leg) (draw_filled rules s.now k m end s.role full)
              ∙ ap (λ (x : Shell S). (x, d.bytes ++ e.bytes))
              (end_again s leg end d.end at st.leg d.role e.role e.end)
              ∙ ap (λ (x : Shell S × List ℕ). (x.0, d.bytes ++ x.1)) (sym second),
          λ short. ap (put_back s leg) (draw_short rules s.now k m end s.role short),
        )

    by_marked : (t : Bool) → is_marked end.standing ≡ t
        → Cuts (cond {A = Shell S × List ℕ} t (s, [])
        (put_back s leg (draw rules s.now k end s.role)))
        (cond {A = Shell S × List ℕ} t (s, [])
        (put_back s leg (draw rules s.now (k + m) end s.role)))
    by_marked true marked =
        no_more (rw (going, at, marked) refl)
    by_marked false marked = on_end marked

  by_end : s.course ≡ Going → (o : Option NearEnd) → end_at s leg ≡ o
      → Cuts (drawn_at rules s leg k o) (drawn_at rules s leg (k + m) o)
  by_end going None none = no_more (rw (going, none) refl)
  by_end going (Some end) at = by_marked going end at (is_marked end.standing) refl

  -- ---- the rest of a refusal

  by_client : (why : Cause) (client : Leg) (rest : List ℕ)
      → s.course ≡ Refusing why client rest → (t : Bool) → same_leg client leg ≡ t
      → Cuts (cond {A = Shell S × List ℕ} t
      (record s { course = Refusing why client (drop k rest) }, take k rest) (s, []))
      (cond {A = Shell S × List ℕ} t
      (record s { course = Refusing why client (drop (k + m) rest) }, take (k + m) rest) (s, []))
  by_client why client rest is true e =
      let next = record s { course = Refusing why client (drop k rest) } in
      let second : drawn_from rules next leg m
      ≡ (record s { course = Refusing why client (drop m (drop k rest)) }, take m (drop k rest)) =
      rw e refl in (
        λ full.
            ap (λ (x : List ℕ). (record s { course = Refusing why client x }, take (k + m) rest))
            (sym (drop-drop m k rest))
            ∙ ap (λ (x : List ℕ).
            (record s { course = Refusing why client (drop m (drop k rest)) }, x))
            (take-add k m rest)
            ∙ ap (λ (x : Shell S × List ℕ). (x.0, take k rest ++ x.1)) (sym second),
        λ short.
            let few : length rest < k = omega (arith, short, length-take k rest) in
            ap (λ (x : List ℕ). (record s { course = Refusing why client x }, take (k + m) rest))
            (drop_all (k + m) rest (omega (arith, few))
            ∙ sym (drop_all k rest (omega (arith, few))))
            ∙ ap (λ (x : List ℕ).
            (record s { course = Refusing why client (drop k rest) }, x))
            (take_all (k + m) rest (omega (arith, few))
            ∙ sym (take_all k rest (omega (arith, few)))),
      )
  by_client why client rest is false e = no_more (rw (is, e) refl)

  pub rooms_cut : Cuts (drawn_from rules s leg k) (drawn_from rules s leg (k + m))
  rooms_cut = by_course s.course refl
    where
      by_course : (c : Course) → s.course ≡ c
          → Cuts (drawn_by rules s leg k c) (drawn_by rules s leg (k + m) c)
      by_course Going is = by_end is (end_at s leg) refl
      by_course (Closed why) is = no_more (rw is refl)
      by_course (Refusing why client rest) is =
          by_client why client rest is (same_leg client leg) refl
