-- the route by which a recording's RPC PDUs go up (profile)
use Rattle.std.specs.Prelude.{List}
use Rattle.rh_record.specs.declared.answer.Answer.{Answer}
use Rattle.rh_wires.specs.Readers.{reader_of}
use Rattle.rh_world.specs.Roles as roles
use Rattle.law_order.specs.Routes.{Route}
use Rattle.law_peers_routes.specs.Upwards.{up_route}
use Rattle.law_world_audited.specs.Moving.Streams.{TellsStreams}

-- by the streams of its nodes
abbrev pub way_up : (answered : List Answer) (world : roles.World) → TellsStreams answered world
    → Route
way_up answered world told =
    let flows = told.told.flowing.flows in
    up_route (reader_of world.readers) flows.client.passage (λ n. (flows.ins n).passage)
    flows.server.leads.moves flows.server.passage
