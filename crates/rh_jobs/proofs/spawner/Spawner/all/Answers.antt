-- as many answers as jobs
use Rattle.std.proofs.Common.{arith}
use Rattle.rh_jobs.proofs.AnswerLemmas.{as_many}
use Rattle.rh_jobs.proofs.spawner.Spawner.all.Goals as goal

pub returns-in-Ok-run_beside-clause-count : goal.returns-in-Ok-run_beside-clause-count
returns-in-Ok-run_beside-clause-count g c =
    let outs = c.in-Ok-run_beside.outs in
    let jobs = c.args.jobs in
    let each = c.in-Ok-run_beside.ensures.ok in
    omega (arith, as_many g.J.Job.answers jobs.items outs.items each, outs.ok.0, jobs.ok.0)
