-- a node that draws no byte, and has not finished the leg, puts nothing there
use Rattle.law_order.proofs.Vocabulary.{◌≡◌, ℕ, suc, ◌<◌, ◌&&◌, ◌||◌, not, List, [], ◌∷◌, Bool, true, false, if◌then◌else◌, Some, None, Option, refl, sym, ap, ◌∙◌}
use Rattle.rh_shell.specs.NearEnds.{is_empty}
use Rattle.rh_shell.specs.Shells as shell
use Rattle.rh_company.specs.Places as places
use Rattle.law_moves.proofs.Vocabulary.{Leg, Course, NearEnd, is_finished, is_marked, is_over, is_useless, Rules, Message, put_into, spell, Drawn, begun_now, drawn, draw, filled, next_byte, put_on, Shell, drawn_at, drawn_by, finished_at, finished_by, put_back}
use Rattle.law_node_history.proofs.Vocabulary.{Place, Absent, Here, Gone}
use Rattle.law_world_rest.specs.Steady.{PutsBytes, PutsBytesThere}
use Rattle.law_world_waits.specs.Puts.{PutsNone, PutsNoneOn, PutsNoneThere}

-- ---- tests

unmarked : (marked rest : Bool) → (marked || rest) ≡ false → marked ≡ false
unmarked true rest none = absurd cc
unmarked false rest none = refl

-- an end at which nothing is begun is of use
of_use : (marked useless : Bool) (begun : List ℕ) → begun ≡ []
    → (marked || (useless && is_empty begun)) ≡ false → (marked || useless) ≡ false
of_use true useless begun is none = absurd cc
of_use false false begun is none = refl
of_use false true [] is none = absurd cc
of_use false true (b ∷ bs) is none = absurd cc

-- ---- at the end of a leg

module _ {S : Type 0} (rules : Rules S) (now : ℕ) (end : NearEnd) (role : S) where
  abbrev filled_if : Bool → Option (S × Message) → Drawn S
  filled_if test put = if test then put_on now end (put_into role put) else drawn end role []

  next_none : (f : Drawn S) (bytes : List ℕ) (more : NearEnd → S → Drawn S)
      → (next_byte rules f bytes more).bytes ≡ [] → bytes ≡ []
  next_none f [] more none = refl
  next_none f (b ∷ bs) more none = absurd cc

  begun_none : (bytes : List ℕ) → end.begun ≡ bytes
      → (filled_if (is_empty bytes && not (is_over rules end role))
      (rules.put role end.leg)).end.begun ≡ []
      → end.begun ≡ []
  begun_none [] is none = is
  begun_none (b ∷ bs) is none = none

  some_begun : (bytes : List ℕ) → is_empty bytes ≡ false → (begun_now now end bytes).begun ≡ []
      → ⊥
  some_begun [] some none = absurd cc
  some_begun (b ∷ bs) some none = absurd cc

  put_none : PutsBytes rules role → (put : Option (S × Message)) → rules.put role end.leg ≡ put
      → (filled_if true put).end.begun ≡ [] → put ≡ None
  put_none bytes None is none = refl
  put_none bytes (Some put) is none =
      absurd (some_begun (spell put.1) (bytes end.leg put is) none)

  fills_none : PutsBytes rules role → (filled rules now end role).end.begun ≡ []
      → is_finished rules role end ≡ false → PutsNone rules role end
  fills_none bytes none unfinished =
      let begun = begun_none end.begun refl none in
      let over : is_over rules end role ≡ false =
      of_use (is_marked end.standing) (is_useless rules end role) end.begun begun unfinished in
      record {
        begun = begun;
        puts =
            put_none bytes (rules.put role end.leg) refl
            (sym (ap (λ (list : List ℕ). (filled_if (is_empty list && not (is_over rules end role))
            (rules.put role end.leg)).end.begun) begun
            ∙ ap (λ (test : Bool). (filled_if (true && not test)
            (rules.put role end.leg)).end.begun) over)
            ∙ none);
      }

  draws_none : (n : ℕ) → PutsBytes rules role → (draw rules now (suc n) end role).bytes ≡ []
      → is_finished rules role end ≡ false → PutsNone rules role end
  unfolding draw
  draws_none n bytes none =
      let f = filled rules now end role in
      fills_none bytes (next_none f f.end.begun (draw rules now n) none)

-- ---- at a node

module _ {S : Type 0} (rules : Rules S) (s : Shell S) (leg : Leg) (bytes : PutsBytes rules s.role)
    (n : ℕ) where
  at_end : (end : NearEnd) → (drawn_at rules s leg (suc n) (Some end)).1 ≡ []
      → is_finished rules s.role end ≡ false → PutsNone rules s.role end
  at_end end none unfinished =
      let mark = unmarked (is_marked end.standing) (is_useless rules end s.role
      && is_empty end.begun) unfinished in
      draws_none rules s.now end s.role n bytes
      (sym (ap (λ (test : Bool). (if test then (s, [])
      else put_back s leg (draw rules s.now (suc n) end s.role)).1) mark) ∙ none) unfinished

  pub node_puts_none : (shell.drawn rules s leg (suc n)).1 ≡ []
      → shell.finished rules s leg ≡ false → PutsNoneOn rules s leg
  node_puts_none none unfinished end going at =
      at_end end
      (sym (ap (λ (c : Course). (drawn_by rules s leg (suc n) c).1) going
      ∙ ap (λ (o : Option NearEnd). (drawn_at rules s leg (suc n) o).1) at) ∙ none)
      (sym (ap (finished_by rules s leg) going ∙ ap (finished_at rules s leg) at) ∙ unfinished)

-- ---- at the place of a proxy

module _ {S : Type 0} (rules : Rules S) (leg : Leg) where
  pub place_puts_none : (n : ℕ) (place : Place S) → PutsBytesThere rules place
      → (places.draw rules leg (suc n) place).1 ≡ [] → places.finished rules leg place ≡ false
      → PutsNoneThere rules place leg
  place_puts_none n Absent bytes none unfinished = tt
  place_puts_none n (Here node legs) bytes none unfinished =
      node_puts_none rules node leg bytes n none unfinished
  place_puts_none n (Gone now) bytes none unfinished = tt
