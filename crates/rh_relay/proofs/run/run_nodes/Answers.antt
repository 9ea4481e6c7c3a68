-- the jobs ran, or none of them began
use Rattle.std.proofs.Common.{◌≡◌, inl, inr, ap, subst, vec_len, ◌∙◌}
use Rattle.std.proofs.lemmas.Result.{IfOk-weaker}
use Rattle.rh_jobs.specs.Counts.{raised}
use Rattle.rh_legs.specs.declared.end.NodeEnd.TheVariants.{SpawnFault}
use Rattle.rh_relay.specs.Runs.{AllEnd}
use Rattle.rh_relay.proofs.run.run_nodes.Goals as goal

pub returns-in-Ok : goal.returns-in-Ok
returns-in-Ok g c =
    let rose = c.in-Ok.ensures.rose ∙ ap (raised (g.P.Spawner.ran c.args.spawner.now))
    c.in-Ok.ensures.count in
    record {
      ended = IfOk-weaker c.finish.result _ _ (λ ran is. inr (is, rose)) c.finish.ensures;
    }

pub returns-in-Err-Failed-default : goal.returns-in-Err-Failed-default
returns-in-Err-Failed-default g c =
    let refused = c.in-Err-Failed-default.ensures in
    let rose = refused.failed c.in-Err-Failed-default.field-0-0-is in
    let none = refused.none_ran in
    let same : c.len.result ≡ vec_len c.args.nodes.actors = c.len.ensures in
    record {
      ended = IfOk-weaker c.refused.result _ _
          (λ ran is. inl (subst (λ n. AllEnd SpawnFault n ran.ends.items) same is, rose, none))
          c.refused.ensures;
    }
