-- what answers tell of gives and takes is what lies at both ends of the way
use Rattle.std.proofs.Common.{◌≡◌, ◌++◌, ℕ, List, ◌∷◌, true, sym, ap, ◌∙◌, subst}
use mathlib.Core.List.{IsPrefix}
use Rattle.rh_text.specs.declared.ends.Side.TheVariants.{Client, Server}
use Rattle.law_order.specs.Paths.{Losses, OnLegs, path, reach}
use Rattle.law_order.specs.Routes.{Route}
use Rattle.rh_record.specs.declared.answer.Answer.{Answer}
use Rattle.rh_record.specs.declared.line.Line.{Line}
use Rattle.rh_record.specs.declared.line.Line.TheVariants.{First}
use Rattle.rh_record.specs.Events.Events.{events, given, offered, taken}
use Rattle.rh_world.specs.declared.any_world.AnyWorld.{AnyWorld}
use Rattle.rh_world.specs.declared.any_world.AnyWorld.TheVariants.{Before, Direct, Settings, Roles}
use Rattle.rh_world.specs.declared.config.WorldConfig.{WorldConfig}
use Rattle.rh_world.specs.Any.{after, answers}
use Rattle.rh_world.specs.Config.{AreInRange}
use Rattle.rh_world.specs.Roles as roles
use Rattle.law_world_reports.specs.ToldHistories.{HasTold, HasToldIn, IsLedTo, TellsHistory, history_of}
use Rattle.law_world_order.specs.Directions.{down_route_of, up_route_of}
use Rattle.law_world_order.specs.Flows.{numbers_of}
use Rattle.law_world_order.proofs.Recorded.{ours}
use Rattle.law_world_ways.specs.OnPaths.Laws.{IsOnItsWay}
use Rattle.law_world_ways.specs.OnPaths.Ways.{AreOnTheirWay, IsBetween, down_lost, down_on, up_lost, up_on}
use Rattle.law_world_ways.specs.ToldWays.{IsTold, TellsBoth, TellsIn, TellsWays}

-- ---- one direction

told_way : (r : Route) (on : OnLegs) (lost : Losses) (accepted handed gave took : List (List ℕ))
    → IsOnItsWay r on lost → IsBetween r accepted handed → gave ≡ accepted → took ≡ handed
    → IsTold r on lost gave took
told_way r on lost accepted handed gave took way between gives takes =
    let gave_is : r.giver.given ≡ gave = between.given ∙ sym gives in
    let took_is : r.taker.taken ≡ took = between.taken ∙ sym takes in
    record {
      all = λ none. sym gave_is ∙ way.all none ∙ ap (λ xs. xs ++ path r on) took_is;
      front = subst (λ xs. IsPrefix (took ++ reach r on lost) xs) gave_is
          (subst (λ xs. IsPrefix (xs ++ reach r on lost) r.giver.given) took_is way.front);
    }

-- ---- both

module _ (law : (config : WorldConfig) → AreInRange config → (world : roles.World)
    (by : IsLedTo config world)
    → AreOnTheirWay (numbers_of (ours config)) world (history_of config world by)) where
  tells_both : (lines : List Line) (answered : List Answer) (world : roles.World)
      → HasTold lines answered world → TellsBoth lines answered world
  tells_both lines answered world told =
      let config = told.config in
      let h = history_of config world told.by in
      let numbers = numbers_of (ours config) in
      let ways = law config told.ranges world told.by in
      let es = events answered in
      record {
        told = told;
        ours = ours config;
        ways = ways;
        down = told_way (down_route_of ways.directions) (down_on numbers world h)
            (down_lost numbers world h) _ _ (given Server (offered lines) es) (taken Client es)
            ways.down ways.down_ends (told.agrees.gives Server) (told.agrees.takes Client);
        up = told_way (up_route_of ways.directions) (up_on numbers world h)
            (up_lost numbers world h) _ _ (given Client (offered lines) es) (taken Server es)
            ways.up ways.up_ends (told.agrees.gives Client) (told.agrees.takes Server);
      }

  tells_in : (lines : List Line) (answered : List Answer) (world : AnyWorld)
      → HasToldIn lines answered world → TellsIn lines answered world
  tells_in lines answered Before told = tt
  tells_in lines answered (Direct world) told = tt
  tells_in lines answered (Settings config) told = tt
  tells_in lines answered (Roles world) told = tells_both lines answered world told

  pub tells_ways : ((behind : List Line) → TellsHistory (First true ∷ behind))
      → (behind : List Line) → TellsWays (First true ∷ behind)
  tells_ways history behind =
      tells_in (First true ∷ behind) (answers Before (First true ∷ behind))
      (after Before (First true ∷ behind)) (history behind)
