-- two cookies came, or none
use Rattle.std.proofs.Common.{refl}
use Rattle.std.proofs.lemmas.Result.{IfOk-weaker}
use Rattle.rh_role_words.proofs.Endings.{came_so, left_so}
use Rattle.rh_role_words.proofs.running.run_client.Goals as goal

pub returns-in-Ok : goal.returns-in-Ok
returns-in-Ok g c = record {
  ran = IfOk-weaker c.run_nodes.result _ _
      (λ ran went. came_so (record {
        counts = g.N.Net.counts;
        faults = g.K.Cookies.faults;
        answered = g.K.Cookies.answered;
      })
      (g.P.Spawner.faults c.args.spawner.now, g.P.Spawner.faults c.run_nodes.new.spawner)
      (g.P.Spawner.ran c.args.spawner.now, g.P.Spawner.ran c.run_nodes.new.spawner)
      c.args.outside ran c.two_cookies.new.cookies c.in-Ok.two.0.0 c.in-Ok.two.1.0
      c.in-Ok.ensures.came c.in-Ok.ensures.ok went) c.run_nodes.ensures.went;
}

pub returns-in-Err : goal.returns-in-Err
returns-in-Err g c = record {
  ran = IfOk-weaker c.without_cookies.result _ _
      (λ ran left. left_so (record {
        counts = g.N.Net.counts;
        faults = g.K.Cookies.faults;
        answered = g.K.Cookies.answered;
      })
      (g.P.Spawner.faults c.args.spawner.now, g.P.Spawner.faults c.args.spawner.now)
      (g.P.Spawner.ran c.args.spawner.now, g.P.Spawner.ran c.args.spawner.now)
      c.args.outside ran c.two_cookies.new.cookies c.in-Err.ensures.err left refl refl)
      c.without_cookies.ensures;
}
