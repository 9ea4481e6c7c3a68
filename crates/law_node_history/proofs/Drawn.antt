-- the legs of the client that came up with cookies that were drawn have cookies of their own
use Rattle.std.specs.Int.{w64, from_be_bytes}
use Rattle.std.proofs.lemmas.Nat.{from_be_bytes-to_be_bytes_8}
use Rattle.rh_text.specs.declared.ends.Side.TheVariants as side
use Rattle.law_order.proofs.Vocabulary.{◌≡◌, ◌≤◌, ◌<◌, ◌+◌, ◌^◌, ◌++◌, ◌⊎◌, inl, inr, arith, ℕ, List, [], ◌∷◌, Bool, drop, map, sym, subst, ap, ◌∙◌}
use Rattle.law_moves.proofs.Vocabulary.{Cookie, Leg, ComesUp, Happens}
use Rattle.law_moves.specs.Moving as moving
use Rattle.law_node_history.proofs.Vocabulary.{Who, Client, Server, In, Out, Comes, Ends, Breaks, Passes, Rulebook, cookie_of, Deeds, Makers, World, happened, Change, IsTold, IsFed, IsDrawn, GoesUp, RaisesAlone, GoesDown, OpensIn, OpensOut, OpensSame, Gives, Takes, Closes, RecyclesIn, RecyclesOut, MovesTo, Draws, Reports, changed, AreDrawn, AreLeft, DrawsBy, HaveOwnCookies, RoseWith, all_risen, risen, History, acts_by, all_noted, noted, nothing, to_node, told_to}
use Rattle.law_node_history.proofs.Appended.{happened_append}
use Rattle.law_node_history.proofs.Drawing.{drawn_rises, risen_append}

-- ---- numbers of 64 bits have cookies of their own

pub same_number : (a b : ℕ) → a < 2 ^ 64 → b < 2 ^ 64 → cookie_of a ≡ cookie_of b → a ≡ b
same_number a b small below same =
    sym (from_be_bytes-to_be_bytes_8 a small)
    ∙ ap (λ (c : Cookie). from_be_bytes w64 (drop 8 c.0)) same
    ∙ from_be_bytes-to_be_bytes_8 b below

-- ---- legs and their cookies

abbrev pub Risen : Type 0
Risen = List (Leg × Cookie)

-- the leg is one of them, with this cookie
abbrev pub IsAmong : Risen → Leg → Cookie → Type 0
IsAmong [] leg cookie = ⊥
IsAmong (one ∷ legs) leg cookie = (one ≡ (leg, cookie)) ⊎ IsAmong legs leg cookie

-- its cookie is that of a number in between
pub drawn_between : (low high : ℕ) (legs : Risen) (leg : Leg) (cookie : Cookie)
    → AreDrawn low legs high → IsAmong legs leg cookie
    → (number : ℕ) × (low ≤ number) × (number < high) × (cookie ≡ cookie_of number)
drawn_between low high [] leg cookie drawn among = absurd among
drawn_between low high (one ∷ legs) leg cookie drawn (inl is) =
    let rises = drawn_rises (drawn.0 + 1) high legs drawn.3 in
    (drawn.0, drawn.1, omega (arith, rises), sym (ap (λ x. x.1) is) ∙ drawn.2)
drawn_between low high (one ∷ legs) leg cookie drawn (inr among) =
    let more = drawn_between (drawn.0 + 1) high legs leg cookie drawn.3 among in
    let first = drawn.1 in
    let later = more.1 in
    (more.0, omega (arith, first, later), more.2, more.3)

-- none behind the first has the cookie of that
drawn_behind : (number high : ℕ) (legs : Risen) (leg : Leg) (cookie : Cookie) → high < 2 ^ 64
    → AreDrawn (number + 1) legs high → cookie ≡ cookie_of number → IsAmong legs leg cookie → ⊥
drawn_behind number high legs leg cookie small drawn is among =
    let at = drawn_between (number + 1) high legs leg cookie drawn among in
    let low = at.1 in
    let below = at.2 in
    let same : number ≡ at.0 =
    same_number number at.0 (omega (arith, low, below, small)) (omega (arith, below, small))
    (sym is ∙ at.3) in
    omega (arith, low, same)

drawn_apart : (low high : ℕ) (legs : Risen) (one other : Leg) (cookie : Cookie)
    → high < 2 ^ 64 → AreDrawn low legs high → IsAmong legs one cookie
    → IsAmong legs other cookie → one ≡ other
drawn_apart low high [] one other cookie small drawn a b = absurd a
drawn_apart low high (x ∷ legs) one other cookie small drawn (inl a) (inl b) =
    ap (λ y. y.0) (sym a ∙ b)
drawn_apart low high (x ∷ legs) one other cookie small drawn (inl a) (inr b) =
    absurd (drawn_behind drawn.0 high legs other cookie small drawn.3
    (sym (ap (λ y. y.1) a) ∙ drawn.2) b)
drawn_apart low high (x ∷ legs) one other cookie small drawn (inr a) (inl b) =
    absurd (drawn_behind drawn.0 high legs one cookie small drawn.3
    (sym (ap (λ y. y.1) b) ∙ drawn.2) a)
drawn_apart low high (x ∷ legs) one other cookie small drawn (inr a) (inr b) =
    drawn_apart (drawn.0 + 1) high legs one other cookie small drawn.3 a b

-- those of a front are drawn as well
pub drawn_front : (low high : ℕ) (legs more : Risen) → AreDrawn low (legs ++ more) high
    → AreDrawn low legs high
drawn_front low high [] more drawn = drawn_rises low high more drawn
drawn_front low high (one ∷ legs) more drawn =
    (drawn.0, drawn.1, drawn.2, drawn_front (drawn.0 + 1) high legs more drawn.3)

among_first : (legs more : Risen) (leg : Leg) (cookie : Cookie) → IsAmong legs leg cookie
    → IsAmong (legs ++ more) leg cookie
among_first [] more leg cookie among = absurd among
among_first (one ∷ legs) more leg cookie (inl is) = inl is
among_first (one ∷ legs) more leg cookie (inr among) =
    inr (among_first legs more leg cookie among)

among_last : (legs more : Risen) (leg : Leg) (cookie : Cookie) → IsAmong more leg cookie
    → IsAmong (legs ++ more) leg cookie
among_last [] more leg cookie among = among
among_last (one ∷ legs) more leg cookie among = inr (among_last legs more leg cookie among)

-- ---- the legs that came up are those of the changes

rose_append : (es fs : List moving.Event) (leg : Leg) (cookie : Cookie)
    → RoseWith (es ++ fs) leg cookie → RoseWith es leg cookie ⊎ RoseWith fs leg cookie
rose_append [] fs leg cookie rose = inr rose
rose_append (e ∷ es) fs leg cookie (inl is) = inl (inl is)
rose_append (e ∷ es) fs leg cookie (inr rose) = by (rose_append es fs leg cookie rose)
  where
    by : RoseWith es leg cookie ⊎ RoseWith fs leg cookie
        → RoseWith (e ∷ es) leg cookie ⊎ RoseWith fs leg cookie
    by (inl a) = inl (inr a)
    by (inr b) = inr b

-- what is told to a node, and is no leg that comes up
told_no_leg : (node : Who) (event : moving.Event) (leg : Leg) (cookie : Cookie)
    → (event ≡ ComesUp leg cookie → ⊥)
    → RoseWith (happened (map Happens (to_node node Client event) ++ [])) leg cookie → ⊥
told_no_leg Client event leg cookie never (inl is) = never is
told_no_leg Client event leg cookie never (inr rose) = rose
told_no_leg Server event leg cookie never rose = rose
told_no_leg (In n) event leg cookie never rose = rose
told_no_leg (Out n) event leg cookie never rose = rose

same_parts : (leg other : Leg) (cookie second : Cookie)
    → ComesUp leg cookie ≡ ComesUp other second
    → ◌≡◌ {A = Leg × Cookie} (leg, cookie) (other, second)
same_parts leg other cookie second same = cc

module _ {K C S I O : Type 0} (w : World K C S I O) (leg : Leg) (cookie : Cookie) where
  -- what a change is to the client
  abbrev noted_by : Change → List moving.Event
  noted_by change = happened (map Happens (told_to w change Client) ++ acts_by change side.Client)

  one_rose : (change : Change) → RoseWith (noted_by change) leg cookie
      → IsAmong (risen change) leg cookie
  one_rose (IsTold node (Comes on piece)) rose =
      absurd (told_no_leg node (moving.Hears on piece) leg cookie (λ e. absurd cc) rose)
  one_rose (IsTold node (Ends on)) rose =
      absurd (told_no_leg node (moving.Ends on) leg cookie (λ e. absurd cc) rose)
  one_rose (IsTold node (Breaks on)) rose =
      absurd (told_no_leg node (moving.Breaks on) leg cookie (λ e. absurd cc) rose)
  one_rose (IsTold node (Passes now)) rose =
      absurd (told_no_leg node (moving.Ticks now) leg cookie (λ e. absurd cc) rose)
  one_rose (IsFed on dir count) rose =
      absurd (told_no_leg _ _ leg cookie (λ e. absurd cc) rose)
  one_rose (IsDrawn on dir count) rose =
      absurd (told_no_leg _ _ leg cookie (λ e. absurd cc) rose)
  one_rose (GoesUp Client on end with) (inl is) = inl (same_parts on leg with cookie is)
  one_rose (GoesUp Client on end with) (inr rose) = absurd rose
  one_rose (GoesUp Server on end with) rose = rose
  one_rose (GoesUp (In n) on end with) rose = rose
  one_rose (GoesUp (Out n) on end with) rose = rose
  one_rose (RaisesAlone Client on end with) (inl is) = inl (same_parts on leg with cookie is)
  one_rose (RaisesAlone Client on end with) (inr rose) = absurd rose
  one_rose (RaisesAlone Server on end with) rose = rose
  one_rose (RaisesAlone (In n) on end with) rose = rose
  one_rose (RaisesAlone (Out n) on end with) rose = rose
  one_rose (GoesDown node on end) rose = rose
  one_rose (OpensIn n with) (inl is) = inl (same_parts _ leg with cookie is)
  one_rose (OpensIn n with) (inr rose) = absurd rose
  one_rose (OpensOut n with) (inl is) = inl (same_parts _ leg with cookie is)
  one_rose (OpensOut n with) (inr rose) = absurd rose
  one_rose (OpensSame n with) (inl is) = inl (same_parts _ leg with cookie is)
  one_rose (OpensSame n with) (inr rose) = absurd rose
  one_rose (Gives side.Client pdu) rose = rose
  one_rose (Gives side.Server pdu) rose = rose
  one_rose (Takes side.Client) rose = rose
  one_rose (Takes side.Server) rose = rose
  one_rose (Closes side.Client) rose = rose
  one_rose (Closes side.Server) rose = rose
  one_rose RecyclesIn rose = rose
  one_rose RecyclesOut rose = rose
  one_rose (MovesTo now) rose = rose
  one_rose (Draws cookies) rose = rose
  one_rose Reports rose = rose

  -- behind one change
  noted_rose : (h : History) (change : Change)
      → RoseWith (happened (noted w h change).client) leg cookie
      → RoseWith (happened h.client) leg cookie ⊎ IsAmong (risen change) leg cookie
  noted_rose h change rose =
      by (rose_append (happened h.client) (noted_by change) leg cookie
      (subst (λ (es : List moving.Event). RoseWith es leg cookie)
      (happened_append h.client
      (map Happens (told_to w change Client) ++ acts_by change side.Client)) rose))
    where
      by : RoseWith (happened h.client) leg cookie ⊎ RoseWith (noted_by change) leg cookie
          → RoseWith (happened h.client) leg cookie ⊎ IsAmong (risen change) leg cookie
      by (inl a) = inl a
      by (inr b) = inr (one_rose change b)

module _ {K C S I O : Type 0} (r : Rulebook C S I O) (m : Makers K I O) (d : Deeds C S) where
  pub all_rose : (w : World K C S I O) (h : History) (changes : List Change) (leg : Leg)
      (cookie : Cookie) → RoseWith (happened (all_noted r m d w h changes).client) leg cookie
      → RoseWith (happened h.client) leg cookie ⊎ IsAmong (all_risen changes) leg cookie
  all_rose w h [] leg cookie rose = inl rose
  all_rose w h (c ∷ cs) leg cookie rose =
      by (all_rose (changed r m d w c) (noted w h c) cs leg cookie rose)
    where
      first : RoseWith (happened h.client) leg cookie ⊎ IsAmong (risen c) leg cookie
          → RoseWith (happened h.client) leg cookie ⊎ IsAmong (all_risen (c ∷ cs)) leg cookie
      first (inl a) = inl a
      first (inr b) = inr (among_first (risen c) (all_risen cs) leg cookie b)

      by : RoseWith (happened (noted w h c).client) leg cookie ⊎ IsAmong (all_risen cs) leg cookie
          → RoseWith (happened h.client) leg cookie ⊎ IsAmong (all_risen (c ∷ cs)) leg cookie
      by (inl a) = first (noted_rose w leg cookie h c a)
      by (inr b) = inr (among_last (risen c) (all_risen cs) leg cookie b)

  -- behind each front of changes that draw them
  pub own_cookies : {kind : Change → Bool} (w v : World K C S I O) (by : DrawsBy kind r m d w v)
      → AreLeft v.cookies → (front rest : List Change) → by.works.leads.changes ≡ front ++ rest
      → HaveOwnCookies (happened (all_noted r m d w nothing front).client)
  own_cookies w v by left front rest split one other cookie a b =
      drawn_apart w.cookies.next v.cookies.next (all_risen front) one other cookie
      (omega (arith, left)) drawn (among one a) (among other b)
    where
      drawn : AreDrawn w.cookies.next (all_risen front) v.cookies.next
      drawn =
          drawn_front w.cookies.next v.cookies.next (all_risen front) (all_risen rest)
          (subst (λ (legs : Risen). AreDrawn w.cookies.next legs v.cookies.next)
          (ap all_risen split ∙ risen_append front rest) (by.drawn.numbers left))

      among : (leg : Leg) → RoseWith (happened (all_noted r m d w nothing front).client) leg cookie
          → IsAmong (all_risen front) leg cookie
      among leg rose = from (all_rose w nothing front leg cookie rose)
        where
          from : ⊥ ⊎ IsAmong (all_risen front) leg cookie → IsAmong (all_risen front) leg cookie
          from (inl none) = absurd none
          from (inr is) = is
