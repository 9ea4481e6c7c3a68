-- each world that a recording comes to is reached by changes of lines, and has its legs up at both
-- of their ends or at neither; so a settling of it that answers quiet leaves it at rest
use Rattle.law_order.proofs.Vocabulary.{◌≡◌, ℕ, List, [], ◌∷◌, true, false, ⊎_elim, inl, inr}
use Rattle.rh_record.specs.declared.answer.Answer.TheVariants.{Quiet}
use Rattle.law_node_history.proofs.Vocabulary.{Answer, ByLines, Closing, First, IsOneOf, Line, Set, Settle, lines, settle}
use Rattle.law_node_history.proofs.Lemmas.{one_of_both, works_then}
use Rattle.rh_world.specs.Roles as roles
use Rattle.law_world_reports.proofs.Vocabulary.{AnyWorld, Before, Direct, Settings, Roles, WorldConfig, act, after, prepared, step, AreInRange}
use Rattle.law_world_reports.proofs.Bounded.Reached.{IsRecorded, behind_lines, prepared_is_recorded}
use Rattle.law_world_ways.specs.EndsInTime.Both.{AreUpAtBoth}
use Rattle.law_world_ways.specs.EndsInTime.InTime.{EndsInTime}
use Rattle.law_world_rest.proofs.Settled.{settle_rests}
use Rattle.law_world_rest.proofs.Told.{rests_told}
use Rattle.law_world_rest.specs.Recordings.{RestsIn, RestsWhereQuiet}
use Rattle.law_world_rest.specs.Rest.{IsAtRest, IsSilent}
use Rattle.law_world_rest.specs.Steady.{AreSteady}

-- ---- what this stands on

pub record Laws : Type 0 where
  pub steady : (config : WorldConfig) → AreInRange config → (world : roles.World)
      → ByLines roles.rules roles.makers roles.deeds (roles.begun config) world
      → AreSteady roles.rules roles.deeds world.company
  pub round : (world : roles.World) → AreUpAtBoth world
      → EndsInTime roles.rules roles.makers roles.deeds world (roles.round world).0
  pub both : (world : roles.World) → AreUpAtBoth world → AreUpAtBoth (roles.round world).0
  pub first : (config : WorldConfig) → AreUpAtBoth (roles.begun config)
  pub line : (line : Line) (world : roles.World) → AreUpAtBoth world
      → AreUpAtBoth (roles.step line world).0
  pub same : (world : roles.World) → AreUpAtBoth world
      → AreSteady roles.rules roles.deeds world.company → IsSilent (roles.round world)
      → (roles.round world).0 ≡ world
  pub rests : (world : roles.World) → AreUpAtBoth world
      → AreSteady roles.rules roles.deeds world.company → IsSilent (roles.round world)
      → IsAtRest roles.rules roles.makers roles.deeds world

module _ (law : Laws) where
  -- ---- rounds

  record IsReached (world : roles.World) : Type 0 where
    config : WorldConfig
    ranges : AreInRange config
    by : ByLines roles.rules roles.makers roles.deeds (roles.begun config) world
    both : AreUpAtBoth world

  round_reached : (world : roles.World) → IsReached world → IsReached (roles.round world).0
  round_reached world reached = record {
    config = reached.config;
    ranges = reached.ranges;
    by =
        works_then roles.rules roles.makers roles.deeds (roles.begun reached.config) world
        (roles.round world).0 reached.by (law.round world reached.both).lines;
    both = law.both world reached.both;
  }

  is_steady : (world : roles.World) → IsReached world
      → AreSteady roles.rules roles.deeds world.company
  is_steady world reached = law.steady reached.config reached.ranges world reached.by

  -- ---- the line

  none_in_lines : (count : ℕ) (list : List Closing) → IsOneOf (Quiet count) (lines list) → ⊥
  none_in_lines count [] one = one
  none_in_lines count (closing ∷ list) (inl here) = absurd cc
  none_in_lines count (closing ∷ list) (inr behind) = none_in_lines count list behind

  abbrev settled : ℕ → roles.World → roles.World × List Answer
  settled rounds world = settle roles.rules roles.makers roles.deeds rounds world

  step_rests : (rounds : ℕ) (world : roles.World) → IsReached world → (count : ℕ)
      → IsOneOf (Quiet count) (roles.step (Settle rounds) world).1
      → IsAtRest roles.rules roles.makers roles.deeds (roles.step (Settle rounds) world).0
  step_rests rounds world reached count quiet =
      let did = settled rounds world in
      ⊎_elim (λ answered. rests_told roles.rules did.0 roles.makers roles.deeds
      (settle_rests roles.rules roles.makers roles.deeds IsReached round_reached
      (λ v r. law.same v r.both (is_steady v r)) (λ v r. law.rests v r.both (is_steady v r))
      rounds world reached count answered))
      (λ told. absurd (none_in_lines count did.0.closed told))
      (one_of_both (Quiet count) did.1 (lines did.0.closed) quiet)

  -- ---- recordings

  -- only a world of roles has legs
  abbrev pub BothIn : AnyWorld → Type 0
  BothIn Before = Unit {0}
  BothIn (Direct world) = Unit {0}
  BothIn (Settings config) = Unit {0}
  BothIn (Roles world) = AreUpAtBoth world

  both_prepared : (world : AnyWorld) (line : Line) → BothIn world → BothIn (prepared world line)
  both_prepared Before (First false) both = tt
  both_prepared Before (First true) both = tt
  both_prepared Before line both = tt
  both_prepared (Direct world) line both = tt
  both_prepared (Settings config) (Set key value) both = tt
  both_prepared (Settings config) line both = law.first config
  both_prepared (Roles world) line both = both

  both_acted : (world : AnyWorld) (line : Line) → BothIn world → BothIn (act world line).0
  both_acted Before line both = both
  both_acted (Direct world) line both = tt
  both_acted (Settings config) line both = both
  both_acted (Roles world) line both = law.line line world both

  pub both_behind : (world : AnyWorld) (lines : List Line) → BothIn world
      → BothIn (after world lines)
  both_behind world [] both = both
  both_behind world (line ∷ lines) both =
      both_behind (step world line).0 lines
      (both_acted (prepared world line) line (both_prepared world line both))

  acted_rests : (rounds : ℕ) (world : AnyWorld) → IsRecorded world → BothIn world
      → (count : ℕ) → IsOneOf (Quiet count) (act world (Settle rounds)).1
      → RestsIn (act world (Settle rounds)).0
  acted_rests rounds Before recorded both count quiet = tt
  acted_rests rounds (Direct world) recorded both count quiet = tt
  acted_rests rounds (Settings config) recorded both count quiet = tt
  acted_rests rounds (Roles world) recorded both count quiet =
      step_rests rounds world (record {
        config = recorded.config;
        ranges = recorded.ranges;
        by = recorded.lines;
        both = both;
      }) count quiet

  pub settle_line_rests : (before : List Line) (rounds : ℕ)
      → RestsWhereQuiet (after Before before) rounds
  settle_line_rests before rounds =
      let world = after Before before in
      acted_rests rounds (prepared world (Settle rounds))
      (prepared_is_recorded world (Settle rounds) (behind_lines Before before tt))
      (both_prepared world (Settle rounds) (both_behind Before before tt))
