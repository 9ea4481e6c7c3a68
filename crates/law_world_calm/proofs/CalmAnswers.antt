-- what the lines of a calm recording answer: of no leg that broke, of one that ended only where a
-- line settles, and of no moment that is late
use Rattle.rh_text.specs.declared.ends.Side.TheVariants as side
use Rattle.law_order.proofs.Vocabulary.{◌≡◌, ℕ, List, [], ◌∷◌, ◌++◌, Bool, true, false, Some, None, refl, sym, ap, ◌∙◌, inl, inr, nat_lt, list_all, list_all-append, and_from, and_parts, Option}
use Rattle.rh_record.specs.declared.answer.Answer.TheVariants as answer
use Rattle.rh_record.specs.declared.answer.TakeAnswer.TheVariants as takes
use Rattle.rh_record.specs.declared.line.Line.TheVariants as line
use Rattle.rh_sig.specs.declared.ranges.TheConstants.{LEAST_TIMEOUT}
use Rattle.law_moves.proofs.Vocabulary.{Dir, Side, Leg}
use Rattle.law_node_history.proofs.Vocabulary.{Answer, TakeAnswer, Line, Closing, lines, Rulebook, Deeds, take, has_ended, Makers, open_leg, open_same, and_then, opened, opened_same, carry_bytes, carried, took, settle, step, step_line, World, IsOneOf}
use Rattle.law_node_history.proofs.Lemmas.{carries_go, ends_go, opens_go, rounds_go}
use Rattle.rh_world.specs.Direct as direct
use Rattle.rh_world.specs.Roles as roles
use Rattle.law_world_reports.proofs.Vocabulary.{AnyWorld, Before, Direct, Settings, Roles, act, Deed, Offers, Asks, Draws, Feeds, Nothing, deed}
use Rattle.law_world_calm.specs.Calm.{is_calm, settles}

-- where a line settles or not
abbrev pub is_of_calm : Bool → Answer → Bool
is_of_calm settling (answer.BreakLeg leg ok) = false
is_of_calm settling (answer.EndLeg leg dir ok) = settling
is_of_calm settling (answer.Tick now ok) = nat_lt now LEAST_TIMEOUT
is_of_calm settling one = true

-- ---- lists

pub one_of_all : {X : Type 0} (test : X → Bool) (x : X) (xs : List X)
    → list_all test xs ≡ true → IsOneOf x xs → test x ≡ true
one_of_all test x [] all h = absurd h
one_of_all test x (y ∷ xs) all (inl here) =
    ap test (sym here) ∙ (and_parts (test y) (list_all test xs) all).0
one_of_all test x (y ∷ xs) all (inr behind) =
    one_of_all test x xs (and_parts (test y) (list_all test xs) all).1 behind

pub all_middle : {X : Type 0} (test : X → Bool) (before : List X) (x : X) (behind : List X)
    → list_all test (before ++ x ∷ behind) ≡ true → test x ≡ true
all_middle test before x behind all =
    let rest = and_parts (list_all test before) (list_all test (x ∷ behind))
    (sym (list_all-append test before (x ∷ behind)) ∙ all) in
    (and_parts (test x) (list_all test behind) rest.1).0

-- ---- a settling

module _ {K C S I O : Type 0} (r : Rulebook C S I O) (m : Makers K I O) (d : Deeds C S) where
  abbrev Tells : World K C S I O → World K C S I O × List Answer → Type 0
  Tells w did = list_all (is_of_calm true) did.1 ≡ true

  none : (w : World K C S I O) → Tells w (w, [])
  none w = refl

  behind : (w : World K C S I O) (did : World K C S I O × List Answer)
      (more : World K C S I O → World K C S I O × List Answer) → Tells w did
      → ((v : World K C S I O) → Tells v (more v)) → Tells w (and_then did more)
  behind w did more a b =
      list_all-append (is_of_calm true) did.1 (more did.0).1
      ∙ and_from (list_all (is_of_calm true) did.1) (list_all (is_of_calm true) (more did.0).1) a
      (b did.0)

  opened_tells : (w : World K C S I O) (leg : Leg) (did : World K C S I O × Bool)
      → Tells w (opened leg did)
  opened_tells w leg (v, true) = refl
  opened_tells w leg (v, false) = refl

  opened_same_tells : (w : World K C S I O) (leg : Leg) (did : World K C S I O × Bool)
      → Tells w (opened_same leg did)
  opened_same_tells w leg (v, true) = refl
  opened_same_tells w leg (v, false) = refl

  carried_tells : (w : World K C S I O) (leg : Leg) (dir : Dir)
      (did : World K C S I O × Option (List ℕ)) → Tells w (carried leg dir did)
  carried_tells w leg dir (v, None) = refl
  carried_tells w leg dir (v, Some []) = refl
  carried_tells w leg dir (v, Some (b ∷ bytes)) = refl

  took_tells : (w : World K C S I O) (end : Side) (ended : Bool)
      (did : World K C S I O × TakeAnswer) → Tells w (took end ended did)
  took_tells w end ended (v, takes.Pdu pdu) = refl
  took_tells w end ended (v, takes.Empty) = refl
  took_tells w end false (v, takes.Ended) = refl
  took_tells w end true (v, takes.Ended) = refl
  took_tells w end ended (v, takes.Closed why) = refl

  settle_tells : (rounds : ℕ) (w : World K C S I O) → Tells w (settle r m d rounds w)
  settle_tells rounds =
      rounds_go r m d Tells none behind
      (opens_go r m d Tells none behind
      (λ w leg. opened_tells w leg (open_leg r m w leg))
      (λ w leg. opened_same_tells w leg (open_same r w leg)))
      (carries_go r m d Tells none behind
      (λ leg dir w. carried_tells w leg dir (carry_bytes r leg dir w)))
      (λ end w. took_tells w end (has_ended w end) (take d w end))
      (ends_go r m d Tells none behind (λ leg dir w. refl))
      (λ w v count a. refl) (λ w count. refl) rounds 0

  -- ---- a line

  line_tells : (one : Line) (w : World K C S I O) → is_calm one ≡ true
      → list_all (is_of_calm (settles one)) (step_line r m d one w).1 ≡ true
  line_tells (line.Settle rounds) w calm = settle_tells rounds w
  line_tells (line.BreakLeg leg) w calm = absurd cc
  line_tells (line.EndLeg leg dir) w calm = absurd cc
  line_tells (line.Tick now) w calm = and_from (nat_lt now LEAST_TIMEOUT) true calm refl
  line_tells (line.First roles) w calm = refl
  line_tells (line.Set key value) w calm = refl
  line_tells (line.Give side.Client pdu) w calm = refl
  line_tells (line.Give side.Server pdu) w calm = refl
  line_tells (line.Take end) w calm = refl
  line_tells (line.Close side.Client) w calm = refl
  line_tells (line.Close side.Server) w calm = refl
  line_tells (line.Send None dir count) w calm = refl
  line_tells (line.Send (Some leg) dir count) w calm = refl
  line_tells (line.Move None dir count) w calm = refl
  line_tells (line.Move (Some leg) dir count) w calm = refl
  line_tells (line.OpenLeg leg) w calm = refl
  line_tells (line.OpenSame leg) w calm = refl
  line_tells line.RecycleIn w calm = refl
  line_tells line.RecycleOut w calm = refl

  closings_tell : (settling : Bool) (list : List Closing)
      → list_all (is_of_calm settling) (lines list) ≡ true
  closings_tell settling [] = refl
  closings_tell settling (x ∷ list) = closings_tell settling list

  pub step_tells : (one : Line) (w : World K C S I O) → is_calm one ≡ true
      → list_all (is_of_calm (settles one)) (step r m d one w).1 ≡ true
  step_tells one w calm =
      let did = step_line r m d one w in
      let test = is_of_calm (settles one) in
      list_all-append test did.1 (lines did.0.closed)
      ∙ and_from (list_all test did.1) (list_all test (lines did.0.closed))
      (line_tells one w calm) (closings_tell (settles one) did.0.closed)

-- ---- a line of a recording

direct_tells : (settling : Bool) (w : direct.World) (done : Deed)
    → list_all (is_of_calm settling) (direct.act w done).1 ≡ true
direct_tells settling w (Offers end pdu) = refl
direct_tells settling w (Asks end) = refl
direct_tells settling w (Draws dir count) = refl
direct_tells settling w (Feeds dir count) = refl
direct_tells settling w Nothing = refl

pub act_tells : (world : AnyWorld) (one : Line) → is_calm one ≡ true
    → list_all (is_of_calm (settles one)) (act world one).1 ≡ true
act_tells Before one calm = refl
act_tells (Direct w) one calm = direct_tells (settles one) w (deed one)
act_tells (Settings config) one calm = refl
act_tells (Roles w) one calm = step_tells roles.rules roles.makers roles.deeds one w calm
