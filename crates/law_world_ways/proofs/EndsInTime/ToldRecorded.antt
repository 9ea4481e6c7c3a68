-- a recording that ends legs in time does so by a history that its answers tell
use Rattle.std.proofs.Common.{◌≡◌, ◌++◌, ℕ, List, [], ◌∷◌, true, refl, sym, ap, ◌∙◌, subst}
use Rattle.std.proofs.lemmas.List.{append-nil}
use Rattle.rh_text.specs.declared.ends.Side.TheVariants.{Client, Server}
use Rattle.law_order.specs.Paths.{path}
use Rattle.rh_record.specs.declared.answer.Answer.{Answer}
use Rattle.rh_record.specs.declared.line.Line.{Line}
use Rattle.rh_record.specs.declared.line.Line.TheVariants.{First, Set}
use Rattle.rh_record.specs.Events.Events.{Event, events, offered}
use Rattle.rh_world.specs.declared.any_world.AnyWorld.{AnyWorld}
use Rattle.rh_world.specs.declared.any_world.AnyWorld.TheVariants.{Before, Direct, Settings, Roles}
use Rattle.rh_world.specs.declared.config.WorldConfig.{WorldConfig}
use Rattle.rh_world.specs.Any.{after, answers}
use Rattle.rh_world.specs.Config.{AreInRange, roles_config, with_number}
use Rattle.rh_world.specs.Roles as roles
use Rattle.law_world_reports.specs.Telling.{Agrees}
use Rattle.law_world_reports.specs.ToldHistories.{HasTold, IsLedTo, history_of}
use Rattle.law_world_reports.proofs.Bounded.Reached.{behind_lines}
use Rattle.law_world_reports.proofs.Telling.Parts.{events_append, said, said_none}
use Rattle.law_world_reports.proofs.Telling.Recorded.{told_by}
use Rattle.law_world_reports.proofs.Telling.Splits.{Whole}
use Rattle.law_world_order.specs.Directions.{down_route_of, up_route_of}
use Rattle.law_world_order.specs.Flows.{numbers_of}
use Rattle.law_world_order.proofs.Recorded.{ours}
use Rattle.law_world_ways.specs.EndsInTime.Both.{AreUpAtBoth}
use Rattle.law_world_ways.specs.EndsInTime.InTime.{AllEndInTime}
use Rattle.law_world_ways.specs.EndsInTime.Losses.{AllLoseInTime}
use Rattle.law_world_ways.specs.ExactPaths.Exact.{IsExact}
use Rattle.law_world_ways.specs.ExactPaths.GoingOn.{AllGoOn}
use Rattle.law_world_ways.specs.OnPaths.Ways.{AreOnTheirWay, down_on, up_on}
use Rattle.law_world_ways.specs.ToldExactly.{TellsAll, TellsAllIn, TellsAllOf}
use Rattle.law_world_ways.proofs.EndsInTime.Behind.{NoLeg, all_in_time}
use Rattle.law_world_ways.proofs.EndsInTime.Both.{none_up}
use Rattle.law_world_ways.proofs.EndsInTime.EachLine.{step_keeps}
use Rattle.law_world_ways.proofs.EndsInTime.Goes.{goes_none}
use Rattle.law_world_ways.proofs.EndsInTime.Told.{Timed, step_timed, timed_quiet, timed_then}

-- ---- worlds of roles

record IsTimed (lines : List Line) (w : roles.World) : Type 0 where
  v : roles.World
  is : after (Roles w) lines ≡ Roles v
  timed : Timed roles.rules roles.makers roles.deeds w v (offered lines) []
      (events (answers (Roles w) lines))

is_timed : (lines : List Line) (w : roles.World) → AreUpAtBoth w → AllLoseInTime (Roles w) lines
    → IsTimed lines w
is_timed [] w both all = record {
  v = w;
  is = refl;
  timed = timed_quiet roles.rules roles.makers roles.deeds [] w w []
      (goes_none roles.rules roles.makers roles.deeds NoLeg w) refl;
}
is_timed (one ∷ lines) w both all =
    let did = roles.step one w in
    let rest = is_timed lines did.0
    (step_keeps roles.rules roles.makers roles.deeds one w both) all.1 in
    record {
      v = rest.v;
      is = rest.is;
      timed = subst (λ (es : List Event). Timed roles.rules roles.makers roles.deeds w rest.v
          (offered (one ∷ lines)) [] es)
          (sym (events_append did.1 (answers (Roles did.0) lines)))
          (timed_then roles.rules roles.makers roles.deeds w did.0 rest.v
          (offered (one ∷ lines)) (offered lines) [] (events did.1)
          (events (answers (Roles did.0) lines))
          (step_timed roles.rules roles.makers roles.deeds one (offered lines) w both all.0)
          rest.timed);
    }

-- what was added is all that the events say
abbrev all_said : (w v : roles.World) (pdus : List (List ℕ)) (told : List Event)
    → Timed roles.rules roles.makers roles.deeds w v pdus [] told
    → Whole roles.rules roles.makers roles.deeds w v pdus told
all_said w v pdus told timed = record {
  lines = timed.goes.lines;
  gain = λ way end.
      timed.gain way end
      ∙ sym (ap (said way end pdus) (sym (append-nil told)) ∙ timed.says way end []
      ∙ ap (λ xs. timed.log way end ++ xs) (said_none way end [])
      ∙ append-nil (timed.log way end));
}

-- ---- recordings

-- what holds of worlds that are reached by changes that end legs in time
pub record ExactLaws : Type 0 where
  pub ways : (config : WorldConfig) → AreInRange config → (world : roles.World)
      (by : IsLedTo config world)
      → AreOnTheirWay (numbers_of (ours config)) world (history_of config world by)
  pub exact : (config : WorldConfig) → AreInRange config → (world : roles.World)
      (by : IsLedTo config world)
      → AllEndInTime roles.rules roles.makers roles.deeds (roles.begun config) by.leads.changes
      → AllGoOn (numbers_of (ours config)) (history_of config world by)
      → (ways : AreOnTheirWay (numbers_of (ours config)) world (history_of config world by))
      → IsExact (numbers_of (ours config)) world (history_of config world by) ways

module _ (law : ExactLaws) where
  tells_all : (lines : List Line) (answered : List Answer) (world : roles.World)
      (told : HasTold lines answered world)
      → AllEndInTime roles.rules roles.makers roles.deeds (roles.begun told.config)
      told.by.leads.changes
      → TellsAll lines answered world
  tells_all lines answered world told in_time =
      let config = told.config in
      let h = history_of config world told.by in
      let numbers = numbers_of (ours config) in
      let ways = law.ways config told.ranges world told.by in
      record {
        told = told;
        in_time = in_time;
        ours = ours config;
        ways = ways;
        exact = λ going.
            let all = law.exact config told.ranges world told.by in_time going ways in
            record {
              down = told.agrees.gives Server ∙ all.down
                  ∙ ap (λ xs. xs ++ path (down_route_of ways.directions)
                  (down_on numbers world h)) (sym (told.agrees.takes Client));
              up = told.agrees.gives Client ∙ all.up
                  ∙ ap (λ xs. xs ++ path (up_route_of ways.directions) (up_on numbers world h))
                  (sym (told.agrees.takes Server));
            };
      }

  begun_tells : (config : WorldConfig) → AreInRange config → (lines : List Line)
      → AllLoseInTime (Roles (roles.begun config)) lines
      → TellsAllIn lines (answers (Roles (roles.begun config)) lines)
      (after (Roles (roles.begun config)) lines)
  begun_tells config ranges lines all =
      let w = roles.begun config in
      let at = is_timed lines w none_up all in
      let answered = answers (Roles w) lines in
      let whole = all_said w at.v (offered lines) (events answered) at.timed in
      subst (λ (world : AnyWorld). TellsAllIn lines answered world) (sym at.is)
      (tells_all lines answered at.v (told_by config ranges lines at.v answered whole)
      (all_in_time roles.rules roles.makers roles.deeds w at.timed.goes.lines.leads.changes
      at.timed.goes.ends))

  -- a line that offers nothing and is answered nothing
  past : (line : Line) (lines : List Line) (answered : List Answer) (world : AnyWorld)
      → offered (line ∷ lines) ≡ offered lines → TellsAllIn lines answered world
      → TellsAllIn (line ∷ lines) answered world
  past line lines answered Before same h = tt
  past line lines answered (Direct w) same h = tt
  past line lines answered (Settings config) same h = tt
  past line lines answered (Roles w) same h =
      tells_all (line ∷ lines) answered w (record {
        config = h.told.config;
        ranges = h.told.ranges;
        by = h.told.by;
        agrees = subst (λ pdus. Agrees roles.rules roles.deeds (roles.begun h.told.config).company
            (history_of h.told.config w h.told.by) pdus (events answered)) (sym same)
            h.told.agrees;
      }) h.in_time

  settings_tell : (lines : List Line) (config : WorldConfig) → AreInRange config
      → AllLoseInTime (Settings config) lines
      → TellsAllIn lines (answers (Settings config) lines) (after (Settings config) lines)
  settings_tell [] config ranges all = tt
  settings_tell (Set key value ∷ lines) config ranges all =
      let next = with_number config key value in
      past (Set key value) lines (answers (Settings next) lines) (after (Settings next) lines) refl
      (settings_tell lines next (behind_lines (Settings config) (Set key value ∷ []) ranges) all.1)
  settings_tell (line ∷ lines) config ranges all = begun_tells config ranges (line ∷ lines) all

  pub recording_tells_all : (behind : List Line) → AllLoseInTime Before (First true ∷ behind)
      → TellsAllOf (First true ∷ behind)
  recording_tells_all behind all =
      past (First true) behind (answers (Settings roles_config) behind)
      (after (Settings roles_config) behind) refl
      (settings_tell behind roles_config (behind_lines Before (First true ∷ []) tt) all.1)
