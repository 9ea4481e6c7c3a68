-- what was given and not taken in a recording waits at nodes where its last settling was quiet
use Rattle.law_order.proofs.Vocabulary.{◌≡◌, ◌++◌, ℕ, List, [], ◌∷◌, true, refl, sym, ap, ◌∙◌, subst, Item, path}
use Rattle.law_moves.proofs.Vocabulary.{Client, Server, Leg, Going, Shell, by_test}
use Rattle.law_role_inproxy.proofs.Vocabulary.{InProxy}
use Rattle.law_role_client.proofs.Vocabulary.{ClientRole, down_items, has_leg}
use Rattle.law_role_server.proofs.Vocabulary.{Server as Serving, in_items}
use Rattle.law_node_history.proofs.Vocabulary.{Answer, Company, First, History, Line, Settle, events, is_up, reader_of, taken}
use Rattle.law_node_history.proofs.Lemmas.{cast_kept}
use Rattle.law_role_outproxy.proofs.Vocabulary.{OutProxy}
use Rattle.rh_world.specs.Roles as roles
use Rattle.law_node_traces.proofs.Vocabulary.{IsKnown}
use Rattle.law_peers_routes.specs.Upwards as goes_up
use Rattle.law_world_reports.proofs.Vocabulary.{AnyWorld, Before, Direct, Settings, Roles, WorldConfig, after, answers, step, AreInRange}
use Rattle.law_world_reports.specs.ToldHistories.{IsLedTo, history_of}
use Rattle.law_world_order.proofs.Vocabulary.{Numbers, down_route_of, numbers_of, up_route_of}
use Rattle.law_world_rest.proofs.Recorded.{Laws as RestLaws, BothIn, both_behind}
use Rattle.law_world_rest.specs.Recordings.{RestsIn, RestsWhereQuiet}
use Rattle.law_world_rest.specs.Rest.{IsAtRest}
use Rattle.law_world_rest.specs.Steady.{AreSteady}
use Rattle.law_world_ways.specs.EndsInTime.Both.{AreUpAtBoth}
use Rattle.law_world_ways.specs.EndsInTime.Losses.{AllLoseInTime}
use Rattle.law_world_ways.specs.ExactPaths.GoingOn.{AllGoOn}
use Rattle.law_world_ways.specs.OnPaths.OnWay.{items_on_way}
use Rattle.law_world_ways.specs.OnPaths.Ways.{down_far, down_on, up_far, up_on}
use Rattle.law_world_ways.specs.ToldExactly.{TellsAll, TellsAllIn, TellsAllOf}
use Rattle.law_world_waits.proofs.HeldWorlds.{are_held_up}
use Rattle.law_world_waits.proofs.Knowing.{KnowLaws, roles_know}
use Rattle.law_world_waits.proofs.Kept.{rose}
use Rattle.law_world_waits.proofs.Low.{AreLowClear, all_low, none_low}
use Rattle.law_world_waits.proofs.Paths.{path_waits}
use Rattle.law_world_waits.proofs.Taken.{client_holds_none, server_holds_none}
use Rattle.law_world_waits.proofs.Worlds.{far_down, far_up, near_down, near_up}
use Rattle.law_world_waits.specs.HeldUpWorlds.{AreHeldUp}
use Rattle.law_world_waits.specs.Puts.{PutNothing}
use Rattle.law_world_waits.specs.Recordings.{TellsWaits, TellsWaitsIn, WaitsWhereQuiet}
use Rattle.law_world_waits.specs.Waits.{waits}

-- ---- what this stands on

pub record Laws : Type 0 where
  pub steady : (config : WorldConfig) → AreInRange config → (world : roles.World)
      → IsLedTo config world → AreSteady roles.rules roles.deeds world.company
  pub known : (config : WorldConfig) (world : roles.World) (by : IsLedTo config world)
      → IsKnown roles.makers (roles.begun config) world by.leads
  pub puts : (world : roles.World) → AreUpAtBoth world → AreSteady roles.rules roles.deeds world.company
      → IsAtRest roles.rules roles.makers roles.deeds world → (leg : Leg)
      → is_up world leg ≡ true → PutNothing roles.rules world leg
  pub knows : KnowLaws
  pub tells : (behind : List Line) → AllLoseInTime Before (First true ∷ behind)
      → TellsAllOf (First true ∷ behind)
  pub rests : (before : List Line) (rounds : ℕ) → RestsWhereQuiet (after Before before) rounds
  pub resting : RestLaws

module _ (law : Laws) where
  -- ---- a world of roles at rest

  module _ (lines : List Line) (answered : List Answer) (world : roles.World)
      (tells : TellsAll lines answered world) (both : AreUpAtBoth world)
      (rest : IsAtRest roles.rules roles.makers roles.deeds world) where
    abbrev h : History
    h = history_of tells.told.config world tells.told.by

    low : AreLowClear world.legs
    low =
        subst (λ (w : roles.World). AreLowClear w.legs) tells.told.by.leads.reached
        (all_low roles.rules roles.makers roles.deeds (roles.begun tells.told.config)
        tells.told.by.leads.changes tells.told.by.leads.allowed none_low)

    put_none : (leg : Leg) → is_up world leg ≡ true → PutNothing roles.rules world leg
    put_none =
        law.puts world both (law.steady tells.told.config tells.told.ranges world tells.told.by) rest

    abbrev known : IsKnown roles.makers (roles.begun tells.told.config) world tells.told.by.leads
    known = law.known tells.told.config world tells.told.by

    abbrev first : Company ClientRole Serving InProxy OutProxy
    first = (roles.begun tells.told.config).company

    held : AreHeldUp world
    held =
        are_held_up roles.makers (numbers_of tells.ours) world h tells.ways.nodes rest put_none
        (rose roles.rules roles.makers roles.deeds first world.cast world h known.traced.carried
        both)
        (roles_know law.knows roles.makers first tells.told.config tells.ours world h
        known.traced.accepted
        (cast_kept roles.rules roles.makers roles.deeds (roles.begun tells.told.config) world
        tells.told.by.leads) tells.ways)

    module _ (going : AllGoOn (numbers_of tells.ours) h) where
      client_goes : world.company.client.course ≡ Going
      client_goes = ap (λ (s : Shell ClientRole). s.course) tells.ways.nodes.client ∙ going.client

      server_goes : world.company.server.course ≡ Going
      server_goes = ap (λ (s : Shell Serving). s.course) tells.ways.nodes.server ∙ going.server

      down_none : (down_route_of tells.ways.directions).taker.shelves.now.held ≡ []
      down_none =
          ap (λ (s : ClientRole). s.line.current.pdus)
          (tells.ways.directions.down.taker.role
          ∙ sym (ap (λ (s : Shell ClientRole). s.role) tells.ways.nodes.client))
          ∙ client_holds_none roles.deeds world (rest.takes Client) client_goes

      up_none : (up_route_of tells.ways.directions).taker.shelves.now.held ≡ []
      up_none =
          ap (λ (s : Serving). s.line.current.pdus)
          (tells.ways.directions.up.taker.role
          ∙ sym (ap (λ (s : Shell Serving). s.role) tells.ways.nodes.server))
          ∙ server_holds_none roles.deeds world (rest.takes Server) server_goes

      abbrev numbers : Numbers
      numbers = numbers_of tells.ours

      down_path : path (down_route_of tells.ways.directions) (down_on numbers world h)
          ≡ waits (down_route_of tells.ways.directions)
      down_path =
          path_waits (down_route_of tells.ways.directions) (down_on numbers world h)
          (near_down roles.makers first world.cast numbers world h known.traced.carried rest low
          put_none tells.ways going)
          (λ n. by_test (λ (items : List Item). items ≡ []) (has_leg n)
          (items_on_way down_items (down_far numbers world h n)) []
          (λ has. far_down roles.makers first world.cast numbers world h known.traced.carried rest
          low put_none tells.ways going n) (λ none. refl))

      up_path : path (up_route_of tells.ways.directions) (up_on numbers world h)
          ≡ waits (up_route_of tells.ways.directions)
      up_path =
          path_waits (up_route_of tells.ways.directions) (up_on numbers world h)
          (near_up roles.makers first world.cast numbers world h known.traced.carried rest low
          put_none tells.ways going)
          (λ n. by_test (λ (items : List Item). items ≡ [])
          (goes_up.has_leg (reader_of world.readers) n)
          (items_on_way in_items (up_far numbers world h n)) []
          (λ has. far_up roles.makers first world.cast numbers world h known.traced.carried rest
          low put_none tells.ways going n) (λ none. refl))

    pub tells_waits : TellsWaits lines answered world
    tells_waits = record {
      told = tells.told;
      ours = tells.ours;
      ways = tells.ways;
      down = λ going. record {
        untaken = down_none going;
        all =
            (tells.exact going).down
            ∙ ap (λ list. taken Client (events answered) ++ list) (down_path going);
      };
      up = λ going. record {
        untaken = up_none going;
        all =
            (tells.exact going).up
            ∙ ap (λ list. taken Server (events answered) ++ list) (up_path going);
      };
      puts = put_none;
      held_up = held;
    }

  -- ---- recordings

  at_last : (world : AnyWorld) (lines : List Line) (line : Line)
      → after world (lines ++ line ∷ []) ≡ (step (after world lines) line).0
  at_last world [] line = refl
  at_last world (first ∷ lines) line = at_last (step world first).0 lines line

  in_roles : (lines : List Line) (answered : List Answer) (world : AnyWorld)
      → TellsAllIn lines answered world → BothIn law.resting world → RestsIn world
      → TellsWaitsIn lines answered world
  in_roles lines answered Before tells both rest = tt
  in_roles lines answered (Direct world) tells both rest = tt
  in_roles lines answered (Settings config) tells both rest = tt
  in_roles lines answered (Roles world) tells both rest =
      tells_waits lines answered world tells both rest

  pub waits_where_quiet : (before : List Line) (rounds : ℕ) → WaitsWhereQuiet before rounds
  waits_where_quiet before rounds all count quiet =
      let lines = First true ∷ (before ++ Settle rounds ∷ []) in
      in_roles lines (answers Before lines) (after Before lines)
      (law.tells (before ++ Settle rounds ∷ []) all) (both_behind law.resting Before lines tt)
      (subst RestsIn (sym (at_last Before (First true ∷ before) (Settle rounds)))
      (law.rests (First true ∷ before) rounds count quiet))
