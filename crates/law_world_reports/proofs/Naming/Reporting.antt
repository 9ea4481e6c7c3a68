-- each close of a recording is reported, and before an answer names its cause
use Rattle.law_order.proofs.Vocabulary.{◌≡◌, ◌++◌, ℕ, List, [], ◌∷◌, Bool, true, false, IsTrue, Some, None, refl, sym, ap, ◌∙◌, subst, ◌⊎◌, inl, inr, ⊎_elim, if◌then◌else◌, append_assoc, length, nat_lt, ◌+◌, Option, append-nil}
use Rattle.rh_line.specs.declared.give_fault.GiveFault.TheVariants.{Full}
use Rattle.rh_record.specs.declared.answer.Answer.TheVariants as answer
use Rattle.law_moves.proofs.Vocabulary.{Side, pdu_fault, PduFault, Cause, queue_bytes, total}
use Rattle.law_node_history.proofs.Vocabulary.{Answer, Who, Client, Server, In, Out, Line, First, Set, step, step_line, Leads, Works, IsClosedBy, IsOneOf, StandsClosed}
use Rattle.law_node_history.proofs.Lemmas.{one_behind}
use Rattle.rh_world.specs.Any as any
use Rattle.rh_world.specs.Direct as direct
use Rattle.rh_world.specs.Roles as roles
use Rattle.law_world_reports.proofs.Vocabulary.{AnyWorld, Before, Direct, Settings, Roles, WorldConfig, act, after, answers, prepared, run, told, Deed, Offers, Asks, Draws, Feeds, Nothing, deed, cause_told, tells_of, node_of}
use Rattle.law_world_reports.proofs.Naming.Causes.{NamesStanding, last_standing_all, step_standing}
use Rattle.law_world_reports.specs.CloseLines.{NamesReported, ReportsCloses, StandsClosedIn}

-- ---- lists of answers

pub one_front : {X : Type 0} (x : X) (xs ys : List X) → IsOneOf x xs → IsOneOf x (xs ++ ys)
one_front x [] ys h = absurd h
one_front x (z ∷ xs) ys (inl here) = inl here
one_front x (z ∷ xs) ys (inr behind) = inr (one_front x xs ys behind)

-- where the answer is of an end and names a cause, that is among what was answered before
abbrev NamesOf : List Answer → Answer → Type 0
NamesOf before one =
    (end : Side) (why : Cause) → IsTrue (tells_of end one) → cause_told one ≡ Some why
    → IsOneOf (answer.NodeClosed (node_of end) why) before

-- so of each of these answers
abbrev NamesTold : List Answer → List Answer → Type 0
NamesTold before [] = Unit {0}
NamesTold before (one ∷ more) = NamesOf before one × NamesTold (before ++ one ∷ []) more

named_from : (before xs : List Answer)
    → ((one : Answer) → IsOneOf one xs → NamesOf before one) → NamesTold before xs
named_from before [] all = tt
named_from before (x ∷ xs) all = (
  all x (inl refl),
  named_from (before ++ x ∷ []) xs (λ one there end why tells e.
      one_front (answer.NodeClosed (node_of end) why) before (x ∷ [])
      (all one (inr there) end why tells e)),
)

named_both : (before xs ys : List Answer) → NamesTold before xs → NamesTold (before ++ xs) ys
    → NamesTold before (xs ++ ys)
named_both before [] ys a b = subst (λ t. NamesTold t ys) (append-nil before) b
named_both before (x ∷ xs) ys a b = (
  a.0,
  named_both (before ++ x ∷ []) xs ys a.1
      (subst (λ t. NamesTold t ys) (sym (append_assoc before (x ∷ []) xs)) b),
)

-- the first answer of some, or another, and those behind
first_of : Answer → List Answer → Answer
first_of other [] = other
first_of other (one ∷ more) = one

rest_of : List Answer → List Answer
rest_of [] = []
rest_of (one ∷ more) = more

named_at : (before report : List Answer) → NamesTold before report
    → (front behind : List Answer) (one : Answer) → report ≡ front ++ one ∷ behind
    → NamesOf (before ++ front) one
unfolding first_of rest_of
named_at before [] names [] behind one is = absurd cc
named_at before [] names (x ∷ front) behind one is = absurd cc
named_at before (x ∷ report) names [] behind one is =
    subst (λ t. NamesOf t one) (sym (append-nil before))
    (subst (NamesOf before) (ap (first_of x) is) names.0)
named_at before (x ∷ report) names (y ∷ front) behind one is =
    subst (λ t. NamesOf t one) (append_assoc before (y ∷ []) front)
    (named_at (before ++ y ∷ []) report
    (subst (λ z. NamesTold (before ++ z ∷ []) report) (ap (first_of x) is) names.1) front behind
    one (ap rest_of is))

-- ---- direct worlds, in which no end closes

none_some : (why : Cause) → None ≡ Some why → ⊥
none_some why e = absurd cc

names_none : (before : List Answer) (one : Answer) → cause_told one ≡ None → NamesOf before one
names_none before one none end why tells e = absurd (none_some why (sym none ∙ e))

offers_none : (side : Side) (way : direct.Way) (pdu : List ℕ) (o : Option PduFault)
    → cause_told (answer.Give side
    (direct.give_by (direct.refusal_by o (total way.queue) (length pdu)) way pdu).1) ≡ None
offers_none side way pdu (Some fault) = refl
offers_none side way pdu None = by (nat_lt queue_bytes (total way.queue + length pdu))
  where
    by : (t : Bool) → cause_told (answer.Give side (direct.give_by
        (if t then Some (Full (total way.queue) (length pdu)) else None) way pdu).1) ≡ None
    by true = refl
    by false = refl

asks_none : (side : Side) (way : direct.Way) (pdus : List (List ℕ))
    → cause_told (answer.Take side (direct.take_from pdus way).1) ≡ None
asks_none side way [] = refl
asks_none side way (pdu ∷ pdus) = refl

direct_names : (before : List Answer) (w : direct.World) (done : Deed)
    → NamesTold before (direct.act w done).1
direct_names before w (Offers side pdu) =
    let way = direct.way_of w (direct.giving side) in (
      names_none before (answer.Give side (direct.give way pdu).1)
          (offers_none side way pdu (pdu_fault pdu)),
      tt,
    )
direct_names before w (Asks side) =
    let way = direct.way_of w (direct.taking side) in (
      names_none before (answer.Take side (direct.take_pdu way).1)
          (asks_none side way way.untaken),
      tt,
    )
direct_names before w (Draws dir count) = (
  names_none before (direct.sent dir (direct.send (direct.way_of w dir) count).1) refl,
  tt,
)
direct_names before w (Feeds dir count) = (
  names_none before (direct.moved dir (direct.move (direct.way_of w dir) count).1) refl,
  tt,
)
direct_names before w Nothing = tt

-- ---- recordings

-- each node that stands closed was reported so by the answers so far
abbrev Knows : List Answer → AnyWorld → Type 0
Knows before world =
    (node : Who) (why : Cause) → StandsClosedIn world node why
    → IsOneOf (answer.NodeClosed node why) before

begun_knows : (before : List Answer) (config : WorldConfig)
    → Knows before (any.of_roles config)
begun_knows before config Client why stands = absurd stands
begun_knows before config Server why stands = absurd stands
begun_knows before config (In n) why stands = absurd stands
begun_knows before config (Out n) why stands = absurd stands

knows_prepared : (before : List Answer) (world : AnyWorld) (line : Line) → Knows before world
    → Knows before (prepared world line)
knows_prepared before Before (First false) knows node why stands = absurd stands
knows_prepared before Before (First true) knows node why stands = absurd stands
knows_prepared before Before line knows node why stands = absurd stands
knows_prepared before (Direct w) line knows node why stands = absurd stands
knows_prepared before (Settings config) (Set key value) knows node why stands = absurd stands
knows_prepared before (Settings config) line knows node why stands =
    begun_knows before config node why stands
knows_prepared before (Roles w) line knows node why stands = knows node why stands

-- where what stands closed was told so, and each line reports what it closed
pub record Reports : Type 0 where
  pub works : (line : Line) (w : roles.World)
      → Works roles.rules roles.makers roles.deeds w
      (step_line roles.rules roles.makers roles.deeds line w).0
  pub reported : (line : Line) (w : roles.World) (node : Who) (why : Cause)
      (works : Works roles.rules roles.makers roles.deeds w
      (step_line roles.rules roles.makers roles.deeds line w).0)
      → IsClosedBy roles.rules roles.makers roles.deeds w works.leads.changes node why
      → IsOneOf (answer.NodeClosed node why) (roles.step line w).1
  pub stands : (w v : roles.World) (leads : Leads roles.rules roles.makers roles.deeds w v)
      (node : Who) (why : Cause) → StandsClosed v.company node why
      → StandsClosed w.company node why
      ⊎ IsClosedBy roles.rules roles.makers roles.deeds w leads.changes node why

module _ (reports : Reports) where
  roles_know : (before : List Answer) (line : Line) (w : roles.World) → Knows before (Roles w)
      → Knows (before ++ (roles.step line w).1) (Roles (roles.step line w).0)
  roles_know before line w knows node why stands =
      let did = step_line roles.rules roles.makers roles.deeds line w in
      let works = reports.works line w in
      let one = answer.NodeClosed node why in
      ⊎_elim (λ old. one_front one before (roles.step line w).1 (knows node why old))
      (λ by. one_behind one before (roles.step line w).1 (reports.reported line w node why works
      by))
      (reports.stands w did.0 works.leads node why stands)

  act_knows : (before : List Answer) (world : AnyWorld) (line : Line) → Knows before world
      → Knows (before ++ (act world line).1) (act world line).0
  act_knows before Before line knows node why stands = absurd stands
  act_knows before (Direct w) line knows node why stands = absurd stands
  act_knows before (Settings config) line knows node why stands = absurd stands
  act_knows before (Roles w) line knows node why stands =
      roles_know before line w knows node why stands

  step_knows : (before : List Answer) (world : AnyWorld) (line : Line) → Knows before world
      → Knows (before ++ (any.step world line).1) (any.step world line).0
  step_knows before world line knows =
      act_knows before (prepared world line) line (knows_prepared before world line knows)

  after_knows : (lines : List Line) (before : List Answer) (world : AnyWorld)
      → Knows before world → Knows (before ++ answers world lines) (after world lines)
  after_knows [] before world knows =
      subst (λ t. Knows t world) (sym (append-nil before)) knows
  after_knows (line ∷ lines) before world knows =
      let did = any.step world line in
      subst (λ t. Knows t (after did.0 lines))
      (append_assoc before did.1 (answers did.0 lines))
      (after_knows lines (before ++ did.1) did.0 (step_knows before world line knows))

  -- ---- what answers name

  roles_name : (before : List Answer) (w : roles.World) (xs : List Answer)
      → Knows before (Roles w) → NamesStanding roles.rules roles.makers roles.deeds w xs
      → NamesTold before xs
  roles_name before w xs knows names =
      named_from before xs (λ one there end why tells e.
      knows (node_of end) why (names one there end why tells e))

  act_names : (before : List Answer) (world : AnyWorld) (line : Line) → Knows before world
      → NamesTold before (act world line).1
  act_names before Before line knows = tt
  act_names before (Direct w) line knows = direct_names before w (deed line)
  act_names before (Settings config) line knows = tt
  act_names before (Roles w) line knows =
      roles_name before w (roles.step line w).1 knows
      (step_standing roles.rules roles.makers roles.deeds line w)

  last_roles : (before : List Answer) (w : roles.World) → Knows before (Roles w)
      → NamesTold before (roles.last w)
  last_roles before w knows =
      roles_name before w (roles.last w) knows
      (last_standing_all roles.rules roles.makers roles.deeds w)

  last_names : (before : List Answer) (world : AnyWorld) → Knows before world
      → NamesTold before (any.last world)
  last_names before Before knows = tt
  last_names before (Direct w) knows = (
    names_none before (answer.Up w.up.given w.up.taken) refl,
    (
      names_none (before ++ answer.Up w.up.given w.up.taken ∷ [])
          (answer.Down w.down.given w.down.taken) refl,
      tt,
    ),
  )
  last_names before (Settings config) knows =
      last_roles before (roles.begun config) (begun_knows before config)
  last_names before (Roles w) knows = last_roles before w knows

  told_names : (lines : List Line) (before : List Answer) (world : AnyWorld)
      → Knows before world → NamesTold before (told world lines)
  told_names [] before world knows = last_names before world knows
  told_names (line ∷ lines) before world knows =
      let did = any.step world line in
      named_both before did.1 (told did.0 lines)
      (act_names before (prepared world line) line (knows_prepared before world line knows))
      (told_names lines (before ++ did.1) did.0 (step_knows before world line knows))

  -- ---- from the first line on

  knows_before : Knows [] Before
  knows_before node why stands = absurd stands

  pub reports_closes : (lines : List Line) → ReportsCloses lines
  reports_closes lines = after_knows lines [] Before knows_before

  pub names_reported : (lines : List Line) → NamesReported (run lines)
  names_reported lines end front behind one why is =
      named_at [] (run lines) (told_names lines [] Before knows_before) front behind one is end why
