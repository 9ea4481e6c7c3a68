-- the route by which a recording's RPC PDUs go down (profile)
use Rattle.std.specs.Prelude.{List}
use Rattle.rh_record.specs.declared.answer.Answer.{Answer}
use Rattle.rh_world.specs.Roles as roles
use Rattle.law_order.specs.Routes.{Route}
use Rattle.law_peers_routes.specs.Downwards.{down_route}
use Rattle.law_world_audited.specs.Moving.Streams.{TellsStreams}

-- by the streams of its nodes
abbrev pub way_down : (answered : List Answer) (world : roles.World)
    → TellsStreams answered world → Route
way_down answered world told =
    let flows = told.told.flowing.flows in
    down_route flows.server.passage (λ n. (flows.outs n).passage) flows.client.passage
