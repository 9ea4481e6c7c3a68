-- the thread that could not be started, run here, gives its job back
use Rattle.rh_jobs.proofs.started.Starter.start.Goals as goal

pub returns-in-Err-clause-err : goal.returns-in-Err-clause-err
returns-in-Err-clause-err g c =
    let same = c.in-Err.ensures.err in
    let settles = c.worker.ensures in
    c.unbegun-job.ensures c.args.job (rw same at settles)
