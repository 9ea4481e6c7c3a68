-- the nodes were made, and their jobs handed to the spawner
use Rattle.std.proofs.Common.{length, vec_len}
use Rattle.std.proofs.lemmas.Result.{IfOk-weaker}
use Rattle.rh_net.specs.Calls.{CountsFault}
use Rattle.rh_relay.proofs.Went.{went}
use Rattle.rh_relay.proofs.run.run_node.Goals as goal

pub returns : goal.returns
returns g c = record {
  went = IfOk-weaker c.run_nodes.result _ _
      (λ ran is. went {S = g.row.S.Denot} {W = g.row.W.Denot} (length c.args.configs.now)
      (vec_len c.in_ok-nodes.nodes.actors) (vec_len c.in_ok-nodes.nodes.jobs)
      (c.args.outside.input, c.args.outside.output)
      (CountsFault (g.N.Net.counts c.args.outside.net) (g.N.Net.counts ran.net))
      (g.P.Spawner.faults c.args.spawner.now, g.P.Spawner.faults c.run_nodes.new.spawner)
      (g.P.Spawner.ran c.args.spawner.now, g.P.Spawner.ran c.run_nodes.new.spawner)
      ran.input ran.output ran.ends.items c.in_ok-nodes.ensures.nodes c.in_ok-nodes.ensures.jobs is)
      c.run_nodes.ensures.ended;
}
