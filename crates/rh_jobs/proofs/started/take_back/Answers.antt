-- the job of the last thread stands behind those that wait
use Rattle.std.proofs.Common.{rules, ◌++◌}
use Rattle.rh_jobs.specs.Workers.{jobs_of}
use Rattle.rh_jobs.proofs.Handed.{from_thread}
use Rattle.rh_jobs.proofs.started.take_back.Goals as goal

pub loop-handle-preserved : goal.loop-handle-preserved
loop-handle-preserved g c =
    let h = c.in-Some.handle in
    let jobs = c.args.waiting.now.items ++ jobs_of c.args.handles.now.items in
    record {
      room = search rules;
      jobs = rw c.put.ensures.items
          (from_thread (λ h. h.promise.job.value) c.loop-handle.handles.items c.pop.new.self.items h
          c.loop-handle.waiting.items c.unbegun-job.result jobs c.in-Some.ensures.items
          (c.unbegun-job.ensures h.promise.job.value c.join.ensures) c.loop-handle.invariant.jobs);
    }
