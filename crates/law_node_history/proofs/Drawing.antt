-- changes of one kind behind each other, by which the legs of the client come up with cookies that
-- are drawn
use Rattle.std.proofs.Common.{length-append}
use Rattle.rh_text.specs.declared.ends.Side.TheVariants as side
use Rattle.law_order.proofs.Vocabulary.{◌≡◌, ◌≤◌, ◌<◌, ◌+◌, ◌-◌, ◌^◌, ◌&&◌, ◌++◌, append_assoc, arith, Bool, ℕ, zero, suc, List, [], ◌∷◌, true, false, refl, sym, subst, ap, ◌∙◌, and_parts, nat_tests}
use Rattle.rh_record.specs.declared.answer.Who.TheVariants as who
use Rattle.law_moves.proofs.Vocabulary.{by_test, Cookie, Leg}
use Rattle.law_node_history.proofs.Vocabulary.{Rulebook, Cookies, behind, is_one_of, past_one, past, draw, Deeds, Makers, for_each, World, Change, IsTold, IsFed, IsDrawn, GoesUp, RaisesAlone, GoesDown, OpensIn, OpensOut, OpensSame, Gives, Takes, Closes, RecyclesIn, RecyclesOut, MovesTo, Draws, Reports, MayChange, changed, is_work, is_quiet, AreDrawn, AreDrawnFor, AreLeft, DrawnByLines, DrawsBy, all_risen, risen}
use Rattle.law_node_history.proofs.Working.{works_none, works_one, works_then, works_more, works_quietly, works_by_lines}

-- ---- numbers that rise

pub drawn_rises : (low high : ℕ) (legs : List (Leg × Cookie)) → AreDrawn low legs high → low ≤ high
drawn_rises low high [] h = h
drawn_rises low high (one ∷ legs) h =
    let more = drawn_rises (h.0 + 1) high legs h.3 in
    let first = h.1 in
    omega (arith, more, first)

drawn_lower : (low middle high : ℕ) (legs : List (Leg × Cookie)) → low ≤ middle
    → AreDrawn middle legs high → AreDrawn low legs high
drawn_lower low middle high [] le h = omega (arith, le, h)
drawn_lower low middle high (one ∷ legs) le h =
    let first = h.1 in
    (h.0, omega (arith, le, first), h.2, h.3)

pub drawn_append : (low middle high : ℕ) (legs more : List (Leg × Cookie))
    → AreDrawn low legs middle → AreDrawn middle more high → AreDrawn low (legs ++ more) high
drawn_append low middle high [] more a b = drawn_lower low middle high more a b
drawn_append low middle high (one ∷ legs) more a b =
    (a.0, a.1, a.2, drawn_append (a.0 + 1) middle high legs more a.3 b)

pub risen_append : (cs ds : List Change) → all_risen (cs ++ ds) ≡ all_risen cs ++ all_risen ds
risen_append [] ds = refl
risen_append (c ∷ cs) ds =
    ap (λ (legs : List (Leg × Cookie)). risen c ++ legs) (risen_append cs ds)
    ∙ sym (append_assoc (risen c) (all_risen cs) (all_risen ds))

-- ---- a cookie that is drawn

-- a number that is passed over is followed by a greater one, before the end of the type
one_rises : (others : List ℕ) (number : ℕ) → past_one others number < 2 ^ 64 - 1
    → number ≤ past_one others number
one_rises others number left =
    by_test (λ (n : ℕ). n < 2 ^ 64 - 1 → number ≤ n) (is_one_of others number) (behind number)
    number (λ e below. omega (arith, below)) (λ e below. omega arith) left

past_rises : (others rest : List ℕ) (number : ℕ) → past others rest number < 2 ^ 64 - 1
    → number ≤ past others rest number
past_rises others [] number left = omega arith
past_rises others (other ∷ rest) number left =
    let more = past_rises others rest (past_one others number) left in
    let first = one_rises others number (omega (arith, more, left)) in
    omega (arith, more, first)

numbers_drawn : (cookies : Cookies) (leg : Leg) → AreLeft (draw cookies).0
    → AreDrawn cookies.next ((leg, (draw cookies).1) ∷ []) (draw cookies).0.next
numbers_drawn cookies leg left =
    let number = past cookies.others cookies.others cookies.next in (
      number,
      past_rises cookies.others cookies.others cookies.next (omega (arith, left)),
      refl,
      omega (arith, left),
    )

-- nothing is passed over where there are no others
none_passed : (others : List ℕ) (number : ℕ) → others ≡ [] → past others others number ≡ number
none_passed [] number is = refl
none_passed (other ∷ rest) number is = absurd cc

pub draw_is_drawn : (cookies : Cookies) (leg : Leg)
    → AreDrawnFor ((leg, (draw cookies).1) ∷ []) cookies (draw cookies).0
draw_is_drawn cookies leg = record {
  numbers = numbers_drawn cookies leg;
  others = λ none. none;
  count = λ none.
      let same = none_passed cookies.others cookies.next none in
      grind (arith, nat_tests, same);
}

-- no leg came up, and no cookie was drawn
pub none_drawn : (cookies : Cookies) → AreDrawnFor [] cookies cookies
none_drawn cookies = record {
  numbers = λ left. omega arith;
  others = λ none. none;
  count = λ none. omega arith;
}

pub drawn_behind : (low middle high : Cookies) (legs more : List (Leg × Cookie))
    → AreDrawnFor legs low middle → AreDrawnFor more middle high
    → AreDrawnFor (legs ++ more) low high
drawn_behind low middle high legs more a b = record {
  numbers = λ left.
      let rest = b.numbers left in
      let rises = drawn_rises middle.next high.next more rest in
      drawn_append low.next middle.next high.next legs more
      (a.numbers (omega (arith, rises, left))) rest;
  others = λ none. b.others (a.others none);
  count = λ none.
      let first = a.count none in
      let rest = b.count (a.others none) in
      let sum = length-append legs more in
      omega (arith, first, rest, sum);
}

-- ---- changes that draw no cookie and have no leg of the client up

abbrev pub is_steady : Change → Bool
is_steady (GoesUp who.Client leg end cookie) = false
is_steady (RaisesAlone node leg end cookie) = false
is_steady (OpensIn number cookie) = false
is_steady (OpensOut number cookie) = false
is_steady (OpensSame number cookie) = false
is_steady (Draws cookies) = false
is_steady change = true

module _ {K C S I O : Type 0} (r : Rulebook C S I O) (m : Makers K I O) (d : Deeds C S) where
  abbrev pub IsStill : World K C S I O → Change → Type 0
  IsStill w change =
      AreDrawnFor (all_risen (change ∷ [])) w.cookies (changed r m d w change).cookies

  pub stands : (w : World K C S I O) → AreDrawnFor [] w.cookies w.cookies
  stands w = none_drawn w.cookies

  pub steady_is_still : (w : World K C S I O) (change : Change) → is_steady change ≡ true
      → IsStill w change
  steady_is_still w (IsTold node event) is = stands w
  steady_is_still w (IsFed leg dir count) is = stands w
  steady_is_still w (IsDrawn leg dir count) is = stands w
  steady_is_still w (GoesUp who.Client leg end cookie) is = absurd cc
  steady_is_still w (GoesUp who.Server leg end cookie) is = stands w
  steady_is_still w (GoesUp (who.In n) leg end cookie) is = stands w
  steady_is_still w (GoesUp (who.Out n) leg end cookie) is = stands w
  steady_is_still w (RaisesAlone node leg end cookie) is = absurd cc
  steady_is_still w (GoesDown node leg end) is = stands w
  steady_is_still w (OpensIn n cookie) is = absurd cc
  steady_is_still w (OpensOut n cookie) is = absurd cc
  steady_is_still w (OpensSame n cookie) is = absurd cc
  steady_is_still w (Gives side.Client pdu) is = stands w
  steady_is_still w (Gives side.Server pdu) is = stands w
  steady_is_still w (Takes side.Client) is = stands w
  steady_is_still w (Takes side.Server) is = stands w
  steady_is_still w (Closes side.Client) is = stands w
  steady_is_still w (Closes side.Server) is = stands w
  steady_is_still w RecyclesIn is = stands w
  steady_is_still w RecyclesOut is = stands w
  steady_is_still w (MovesTo now) is = stands w
  steady_is_still w (Draws cookies) is = absurd cc
  steady_is_still w Reports is = stands w

-- ---- changes behind each other

module _ {K C S I O : Type 0} {kind : Change → Bool} (r : Rulebook C S I O) (m : Makers K I O)
    (d : Deeds C S) where
  abbrev pub draws_none : (w : World K C S I O) → DrawsBy kind r m d w w
  draws_none w = record { works = works_none r m d w; drawn = stands r m d w }

  abbrev pub draws_one : (w : World K C S I O) (change : Change) → MayChange r w change
      → (is_steady change && kind change) ≡ true → DrawsBy kind r m d w (changed r m d w change)
  draws_one w change may is =
      let parts = and_parts (is_steady change) (kind change) is in
      record {
        works = works_one r m d w change may parts.1;
        drawn = steady_is_still r m d w change parts.0;
      }

  abbrev pub draws_then : (w v u : World K C S I O) → DrawsBy kind r m d w v
      → DrawsBy kind r m d v u → DrawsBy kind r m d w u
  draws_then w v u a b = record {
    works = works_then r m d w v u a.works b.works;
    drawn =
        subst (λ (legs : List (Leg × Cookie)). AreDrawnFor legs w.cookies u.cookies)
        (sym (risen_append a.works.leads.changes b.works.leads.changes))
        (drawn_behind w.cookies v.cookies u.cookies (all_risen a.works.leads.changes)
        (all_risen b.works.leads.changes) a.drawn b.drawn);
  }

  -- one more change
  abbrev pub draws_more : (w v : World K C S I O) (change : Change) → DrawsBy kind r m d w v
      → MayChange r v change → (is_steady change && kind change) ≡ true
      → DrawsBy kind r m d w (changed r m d v change)
  draws_more w v change a may is =
      draws_then w v (changed r m d v change) a (draws_one v change may is)

  -- something is done for each number
  pub draws_for_each : (n : ℕ) (act : ℕ → World K C S I O → World K C S I O)
      (w : World K C S I O) → ((k : ℕ) (v : World K C S I O) → DrawsBy kind r m d v (act k v))
      → DrawsBy kind r m d w (for_each n act w)
  draws_for_each zero act w a = draws_none w
  draws_for_each (suc n) act w a =
      draws_then w (for_each n act w) (act n (for_each n act w)) (draws_for_each n act w a)
      (a n (for_each n act w))

  -- a cookie is drawn, and a leg of the client comes up with it
  abbrev pub draws_leg : (w : World K C S I O) (leg : Leg) (change : Change)
      → (let x = record w { cookies = (draw w.cookies).0 } in
      risen change ≡ (leg, (draw w.cookies).1) ∷ []
      → (changed r m d x change).cookies ≡ x.cookies → MayChange r x change
      → kind (Draws (draw w.cookies).0) ≡ true → kind change ≡ true
      → DrawsBy kind r m d w (changed r m d x change))
  draws_leg w leg change rises stays may is_drawn is =
      let x = record w { cookies = (draw w.cookies).0 } in
      record {
        works = works_more r m d w x change
            (works_one r m d w (Draws (draw w.cookies).0) tt is_drawn) may is;
        drawn =
            subst (λ (legs : List (Leg × Cookie)).
            AreDrawnFor (legs ++ []) w.cookies (changed r m d x change).cookies)
            (sym rises)
            (subst (λ (cookies : Cookies).
            AreDrawnFor ((leg, (draw w.cookies).1) ∷ []) w.cookies cookies) (sym stays)
            (draw_is_drawn w.cookies leg));
      }

module _ {K C S I O : Type 0} (r : Rulebook C S I O) (m : Makers K I O) (d : Deeds C S) where
  -- quiet changes, and those of work
  abbrev pub DrawsQuietly : World K C S I O → World K C S I O → Type 0
  DrawsQuietly w v = DrawsBy is_quiet r m d w v

  abbrev pub DrawsWork : World K C S I O → World K C S I O → Type 0
  DrawsWork w v = DrawsBy is_work r m d w v

  -- behind something that was done or refused
  abbrev pub DrawsOk : World K C S I O → World K C S I O × Bool → Type 0
  DrawsOk w did = DrawsQuietly w did.0

  abbrev pub draws_quietly : (w v : World K C S I O) → DrawsQuietly w v → DrawsWork w v
  draws_quietly w v a = record { works = works_quietly r m d w v a.works; drawn = a.drawn }

  abbrev pub draws_by_lines : (w v : World K C S I O) → DrawsWork w v → DrawnByLines r m d w v
  draws_by_lines w v a = record { works = works_by_lines r m d w v a.works; drawn = a.drawn }
