-- moves behind moves, and on which legs they bring heads and come up
use Rattle.law_order.proofs.Vocabulary.{◌≡◌, List, [], ◌∷◌, ◌++◌, Bool, true, false, ◌||◌, refl, sym, ap, ◌∙◌, subst, AllByRecursion, list_any, list_any-append}
use Rattle.law_moves.proofs.Vocabulary.{Cookie, Leg, Rules, Move, Up, Passage, MayMove, AreAllowed, moved, all_moved, Event, ComesUp}
use Rattle.law_node_streams.specs.Streams.{is_head_on, is_up_on}

-- heads came on these legs alone, and these alone came up
pub record Way {S : Type 0} (rules : Rules S) (heads ups : Leg → Bool) (p q : Passage S)
    : Type 0 where
  pub moves : List Move
  pub allowed : AreAllowed rules p moves
  pub reached : all_moved rules p moves ≡ q
  pub headless : (leg : Leg) → heads leg ≡ false → list_any (is_head_on leg) moves ≡ false
  pub raised : (leg : Leg) → list_any (is_up_on leg) moves ≡ ups leg

-- if a leg comes up, it and its cookie have this
abbrev pub Lifts : (Leg → Cookie → Type 0) → Move → Type 0
Lifts With (Up leg cookie) = With leg cookie
Lifts With move = Unit {0}

-- and if it comes up by an event
abbrev pub IsRaised : (Leg → Cookie → Type 0) → Event → Type 0
IsRaised With (ComesUp leg cookie) = With leg cookie
IsRaised With event = Unit {0}

abbrev pub nowhere : Leg → Bool
nowhere leg = false

pub any_none : {X : Type 0} (test : X → Bool) (xs ys : List X) → list_any test xs ≡ false
    → list_any test ys ≡ false → list_any test (xs ++ ys) ≡ false
any_none test xs ys e f =
    list_any-append test xs ys ∙ ap (λ b. b || list_any test ys) e ∙ f

pub or_false : (b : Bool) → (b || false) ≡ b
or_false true = refl
or_false false = refl

-- what holds of each of both holds of each of all
pub each_joined : {X : Type 0} (P : X → Type 0) (xs ys : List X) → AllByRecursion P xs
    → AllByRecursion P ys → AllByRecursion P (xs ++ ys)
each_joined P [] ys h k = k
each_joined P (x ∷ xs) ys h k = (h.0, each_joined P xs ys h.1 k)

-- and of each of both, if of each of all
pub each_of : {X : Type 0} (P : X → Type 0) (xs ys : List X) → AllByRecursion P (xs ++ ys)
    → AllByRecursion P xs × AllByRecursion P ys
each_of P [] ys h = (tt, h)
each_of P (x ∷ xs) ys h = let two = each_of P xs ys h.1 in ((h.0, two.0), two.1)

module _ {S : Type 0} (rules : Rules S) where
  pub all_moved_append : (p : Passage S) (ms ns : List Move)
      → all_moved rules p (ms ++ ns) ≡ all_moved rules (all_moved rules p ms) ns
  all_moved_append p [] ns = refl
  all_moved_append p (m ∷ ms) ns = all_moved_append (moved rules p m) ms ns

  pub all_allowed_append : (p : Passage S) (ms ns : List Move) → AreAllowed rules p ms
      → AreAllowed rules (all_moved rules p ms) ns → AreAllowed rules p (ms ++ ns)
  all_allowed_append p [] ns a b = b
  all_allowed_append p (m ∷ ms) ns a b =
      (a.0, all_allowed_append (moved rules p m) ms ns a.1 b)

  abbrev pub way_none : (heads : Leg → Bool) (p : Passage S) → Way rules heads nowhere p p
  way_none heads p = record {
    moves = [];
    allowed = tt;
    reached = refl;
    headless = λ leg. λ h. refl;
    raised = λ leg. refl;
  }

  abbrev pub way_one : (heads ups : Leg → Bool) (p : Passage S) (move : Move)
      → MayMove rules p.role move
      → ((leg : Leg) → heads leg ≡ false → is_head_on leg move ≡ false)
      → ((leg : Leg) → is_up_on leg move ≡ ups leg)
      → Way rules heads ups p (moved rules p move)
  way_one heads ups p move may headless raised = record {
    moves = move ∷ [];
    allowed = (may, tt);
    reached = refl;
    headless = λ leg. λ h. ap (λ b. b || false) (headless leg h);
    raised = λ leg. or_false (is_up_on leg move) ∙ raised leg;
  }

  abbrev pub way_then : (heads : Leg → Bool) (p q r : Passage S) → Way rules heads nowhere p q
      → Way rules heads nowhere q r → Way rules heads nowhere p r
  way_then heads p q r a b = record {
    moves = a.moves ++ b.moves;
    allowed =
        all_allowed_append p a.moves b.moves a.allowed
        (subst (λ x. AreAllowed rules x b.moves) (sym a.reached) b.allowed);
    reached =
        all_moved_append p a.moves b.moves
        ∙ ap (λ x. all_moved rules x b.moves) a.reached ∙ b.reached;
    headless = λ leg. λ h.
        any_none (is_head_on leg) a.moves b.moves (a.headless leg h) (b.headless leg h);
    raised = λ leg. any_none (is_up_on leg) a.moves b.moves (a.raised leg) (b.raised leg);
  }

  -- on fewer legs
  abbrev pub way_as : (heads others : Leg → Bool) (p q : Passage S)
      → ((leg : Leg) → others leg ≡ false → heads leg ≡ false)
      → Way rules heads nowhere p q → Way rules others nowhere p q
  way_as heads others p q fewer a = record {
    moves = a.moves;
    allowed = a.allowed;
    reached = a.reached;
    headless = λ leg. λ h. a.headless leg (fewer leg h);
    raised = a.raised;
  }
