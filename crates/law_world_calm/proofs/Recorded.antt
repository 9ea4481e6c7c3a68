-- a node of a calm recording closes only for a leg that settling ends
use Rattle.law_order.proofs.Vocabulary.{◌≡◌, inl, inr, ◌<◌, ◌≤◌, ℕ, List, [], ◌∷◌, ◌++◌, true, false, false≢true, ◌∙◌, subst, arith, ltb-true, list_all}
use Rattle.rh_sig.specs.declared.ranges.TheConstants.{LEAST_TIMEOUT}
use Rattle.rh_line.specs.declared.cause.Cause.TheVariants as cause
use Rattle.rh_record.specs.declared.answer.Answer.TheVariants as answer
use Rattle.rh_record.specs.declared.answer.Who.TheVariants as who
use Rattle.rh_record.specs.declared.line.Line.TheVariants as line
use Rattle.law_moves.proofs.Vocabulary.{Cause, Dir, U, D, Leg, LegKind, ClientOut, OutServer, ClientIn, InServer}
use Rattle.law_node_history.proofs.Vocabulary.{Answer, NodeClosed, Who, Line, First, Set, reader_of, receiver, leg_at, node_by, Change, Leads, ClosesNode, IsOneOf}
use Rattle.rh_world.specs.Roles as roles
use Rattle.law_node_traces.proofs.Vocabulary.{ByChanges}
use Rattle.law_world_reports.proofs.Vocabulary.{AnyWorld, Before, Direct, Settings, Roles, WorldConfig, act, after, prepared, step, midst, IsLicensedIn, IsRefusedIn}
use Rattle.law_world_reports.specs.Closed.Reports.{Ended, ShowsIn}
use Rattle.law_world_reports.proofs.Closed.Recorded.{Reached, reached_in}
use Rattle.law_world_order.proofs.Recorded.{ours}
use Rattle.law_world_order.proofs.Vocabulary.{AreInRange, numbers_of}
use Rattle.law_world_ways.specs.EndsInTime.Both.{AreUpAtBoth}
use Rattle.law_world_ways.proofs.EndsInTime.Both.{none_up}
use Rattle.law_world_ways.proofs.EndsInTime.EachLine.{step_keeps}
use Rattle.law_world_honest.specs.Refusals.Reported.{ReportsBreak}
use Rattle.law_world_honest.proofs.Honesty.Recorded.{of_recording}
use Rattle.law_world_calm.proofs.CalmAnswers.{act_tells, all_middle, is_of_calm, one_of_all}
use Rattle.law_world_calm.specs.Calm.{IsEndOfLeg, is_calm, settles}

-- ---- each leg is up for both of its ends, or for neither

abbrev BothAt : AnyWorld → Type 0
BothAt (Roles w) = AreUpAtBoth w
BothAt world = Unit {0}

both_prepared : (world : AnyWorld) (one : Line) → BothAt world → BothAt (prepared world one)
both_prepared Before (First false) both = tt
both_prepared Before (First true) both = tt
both_prepared Before one both = tt
both_prepared (Direct w) one both = tt
both_prepared (Settings config) (Set key value) both = tt
both_prepared (Settings config) one both = none_up
both_prepared (Roles w) one both = both

both_acted : (world : AnyWorld) (one : Line) → BothAt world → BothAt (act world one).0
both_acted Before one both = tt
both_acted (Direct w) one both = tt
both_acted (Settings config) one both = tt
both_acted (Roles w) one both =
    step_keeps roles.rules roles.makers roles.deeds one w both

both_behind : (world : AnyWorld) (lines : List Line) → BothAt world → BothAt (after world lines)
both_behind world [] both = both
both_behind world (one ∷ lines) both =
    both_behind (step world one).0 lines
    (both_acted (prepared world one) one (both_prepared world one both))

-- what no node did
abbrev pub IsOutside : Cause → Type 0
IsOutside (cause.LegBroken leg) = Unit {0}
IsOutside (cause.LegEnded leg partial) = Unit {0}
IsOutside (cause.HttpRefused leg status) = Unit {0}
IsOutside (cause.Silent leg since now) = Unit {0}
IsOutside why = ⊥

-- ---- what this stands on

pub record CalmLaws : Type 0 where
  pub licensed : (before : List Line) (one : Line) (node : Who) (why : Cause)
      → IsOneOf (NodeClosed node why) (step (after Before before) one).1
      → IsLicensedIn (prepared (after Before before) one) one node why
  pub shown : (before : List Line) (one : Line) (node : Who) (why : Cause)
      → IsOneOf (NodeClosed node why) (step (after Before before) one).1
      → ShowsIn (step (after Before before) one).1 why
  pub refused : (before : List Line) (one : Line) (node : Who) (leg : Leg) (status : ℕ)
      → IsOneOf (NodeClosed node (cause.HttpRefused leg status)) (step (after Before before) one).1
      → IsRefusedIn (prepared (after Before before) one) one node leg status
  pub out_channel : (before : List Line) (one : Line) (node : Who) (n status : ℕ)
      → IsOneOf (NodeClosed node (cause.HttpRefused (leg_at ClientOut n) status))
      (step (after Before before) one).1
      → ReportsBreak (before ++ one ∷ []) (leg_at OutServer n)
  pub in_channel : (before : List Line) (one : Line) (node : Who) (n status : ℕ)
      → IsOneOf (NodeClosed node (cause.HttpRefused (leg_at ClientIn n) status))
      (step (after Before before) one).1
      → ReportsBreak (before ++ one ∷ []) (leg_at InServer n)
  pub silent : (config : WorldConfig) → AreInRange (numbers_of (ours config))
      → (v : roles.World)
      → ByChanges roles.rules roles.makers roles.deeds (roles.begun config) v
      → (change : Change) (node : Who) (leg : Leg) (since now : ℕ)
      → ClosesNode roles.rules v change node (cause.Silent leg since now) → LEAST_TIMEOUT ≤ now
  pub unbroken : (config : WorldConfig) (w : roles.World)
      → Leads roles.rules roles.makers roles.deeds (roles.begun config) w → AreUpAtBoth w
      → w.closed ≡ [] → (rounds : ℕ) (node : Who) (leg : Leg)
      → IsOneOf (NodeClosed node (cause.LegBroken leg)) (roles.step (line.Settle rounds) w).1 → ⊥
  -- no node closes for what another one did
  pub honest : (before : List Line) (one : Line) (node : Who) (why : Cause)
      → IsOneOf (NodeClosed node why) (step (after Before before) one).1 → IsOutside why

module _ (law : CalmLaws) (before : List Line) (one : Line)
    (calm : list_all is_calm (before ++ one ∷ []) ≡ true) where
  abbrev answers : List Answer
  answers = (step (after Before before) one).1

  abbrev world : AnyWorld
  world = prepared (after Before before) one

  here_calm : is_calm one ≡ true
  here_calm = all_middle is_calm before one [] calm

  answers_calm : list_all (is_of_calm (settles one)) answers ≡ true
  answers_calm = act_tells world one here_calm

  -- ---- a leg that ended, or broke

  by_settling : (leg : Leg) → Ended answers leg → settles one ≡ true
  by_settling leg ended =
      one_of_all (is_of_calm (settles one)) (answer.EndLeg leg ended.dir true) answers answers_calm
      ended.shown

  no_break_told : (leg : Leg) → IsOneOf (answer.BreakLeg leg true) answers → ⊥
  no_break_told leg told =
      false≢true (one_of_all (is_of_calm (settles one)) (answer.BreakLeg leg true) answers
      answers_calm told)

  -- ---- no earlier line reports a break either

  no_break : (leg : Leg) → ReportsBreak (before ++ one ∷ []) leg → ⊥
  no_break leg r =
      let there : is_calm r.line ≡ true =
      all_middle is_calm r.before r.line r.behind
      (subst (λ (lines : List Line). list_all is_calm lines ≡ true) r.split calm) in
      false≢true (one_of_all (is_of_calm (settles r.line)) (answer.BreakLeg leg true)
      (step (after Before r.before) r.line).1
      (act_tells (prepared (after Before r.before) r.line) r.line there) r.told)

  -- ---- a refused client stands at the client's end of its legs

  other_out : (reader n : ℕ) (dir : Dir) → node_by reader n OutServer (receiver dir) ≡ who.Client
      → ⊥
  other_out reader n U e = absurd cc
  other_out reader n D e = absurd cc

  other_in : (reader n : ℕ) (dir : Dir) → node_by reader n InServer (receiver dir) ≡ who.Client
      → ⊥
  other_in reader n U e = absurd cc
  other_in reader n D e = absurd cc

  -- the response moved to it
  response_moved : (node : Who) (leg : Leg) (status : ℕ) (at : AnyWorld)
      → IsRefusedIn at one node leg status
      → (reader : ℕ) × (dir : Dir) × (node_by reader leg.number leg.kind (receiver dir) ≡ who.Client)
  response_moved node leg status Before is = absurd is
  response_moved node leg status (Direct w) is = absurd is
  response_moved node leg status (Settings config) is = absurd is
  response_moved node leg status (Roles w) is =
      let why = cause.HttpRefused leg status in
      let v = midst roles.rules roles.makers roles.deeds one w node why is.0 in
      let move = is.0.shows in
      (reader_of v.readers leg.number, move.dir, move.reads ∙ is.1.client)

  not_refused : (node : Who) (kind : LegKind) (n status : ℕ)
      → IsOneOf (NodeClosed node (cause.HttpRefused (leg_at kind n) status)) answers → ⊥
  not_refused node ClientOut n status told =
      no_break (leg_at OutServer n) (law.out_channel before one node n status told)
  not_refused node ClientIn n status told =
      no_break (leg_at InServer n) (law.in_channel before one node n status told)
  not_refused node OutServer n status told =
      let moved = response_moved node (leg_at OutServer n) status world
      (law.refused before one node (leg_at OutServer n) status told) in
      other_out moved.0 n moved.1 moved.2
  not_refused node InServer n status told =
      let moved = response_moved node (leg_at InServer n) status world
      (law.refused before one node (leg_at InServer n) status told) in
      other_in moved.0 n moved.1 moved.2

  -- ---- no leg is silent for long

  not_silent : (node : Who) (leg : Leg) (since now : ℕ)
      → IsOneOf (NodeClosed node (cause.Silent leg since now)) answers → ⊥
  not_silent node leg since now told =
      let why = cause.Silent leg since now in
      let soon : now < LEAST_TIMEOUT =
      ltb-true now LEAST_TIMEOUT (one_of_all (is_of_calm (settles one)) (answer.Tick now true)
      answers answers_calm (law.shown before one node why told)) in
      let late : LEAST_TIMEOUT ≤ now =
      of_recording node why (LEAST_TIMEOUT ≤ now) (λ config ranges v by change may closes.
      law.silent config ranges v by change node leg since now closes) before one
      (law.licensed before one node why told) in
      absurd (omega (arith, soon, late))

-- ---- no leg breaks by settling

module _ (law : CalmLaws) (before : List Line) (node : Who) (leg : Leg) where
  settled_at : (at : AnyWorld) (rounds : ℕ) → Reached at → BothAt at
      → IsOneOf (NodeClosed node (cause.LegBroken leg)) (act at (line.Settle rounds)).1
      → IsLicensedIn at (line.Settle rounds) node (cause.LegBroken leg) → ⊥
  settled_at Before rounds reached both told is = is
  settled_at (Direct w) rounds reached both told is = is
  settled_at (Settings config) rounds reached both told is = is
  settled_at (Roles w) rounds reached both told is =
      law.unbroken reached.config w reached.leads both reached.none rounds node leg told

  not_broken : (one : Line) → settles one ≡ true
      → IsOneOf (NodeClosed node (cause.LegBroken leg)) (step (after Before before) one).1 → ⊥
  not_broken (line.Settle rounds) is told =
      settled_at (prepared (after Before before) (line.Settle rounds)) rounds
      (reached_in before (line.Settle rounds))
      (both_prepared (after Before before) (line.Settle rounds) (both_behind Before before tt)) told
      (law.licensed before (line.Settle rounds) node (cause.LegBroken leg) told)
  not_broken one is told = absurd cc

-- ---- each cause

module _ (law : CalmLaws) (before : List Line) (one : Line)
    (calm : list_all is_calm (before ++ one ∷ []) ≡ true) (node : Who) where
  broken : (leg : Leg)
      → IsOneOf (NodeClosed node (cause.LegBroken leg)) (step (after Before before) one).1 → ⊥
  broken leg told =
      by (law.shown before one node (cause.LegBroken leg) told)
    where
      by : ShowsIn (step (after Before before) one).1 (cause.LegBroken leg) → ⊥
      by (inl break) = no_break_told law before one calm leg break
      by (inr ended) =
          not_broken law before node leg one (by_settling law before one calm leg ended) told

  pub closes_for : (why : Cause)
      → IsOneOf (NodeClosed node why) (step (after Before before) one).1
      → (settles one ≡ true) × IsEndOfLeg why
  closes_for (cause.LegEnded leg partial) told = (
    by_settling law before one calm leg
        (law.shown before one node (cause.LegEnded leg partial) told),
    tt,
  )
  closes_for (cause.LegBroken leg) told = absurd (broken leg told)
  closes_for (cause.HttpRefused leg status) told =
      absurd (not_refused law before one calm node leg.kind leg.number status told)
  closes_for (cause.Silent leg since now) told =
      absurd (not_silent law before one calm node leg since now told)
  closes_for why told = absurd (law.honest before one node why told)
