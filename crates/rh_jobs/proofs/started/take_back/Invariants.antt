-- the jobs that wait and those of the threads left are all jobs
use Rattle.std.proofs.Common.{◌≡◌, ◌≤◌, ◌+◌, ◌++◌, vec_len, vec_capacity}
use Rattle.rh_jobs.specs.Workers.{jobs_of}
use Rattle.rh_jobs.proofs.started.take_back.Given as goal

abbrev pub decreases-loop-handle : goal.decreases-loop-handle
decreases-loop-handle g l = vec_len l.handles

abbrev pub invariant-loop-handle : goal.invariant-loop-handle
invariant-loop-handle g l = record {
  room : vec_len l.waiting + vec_len l.handles ≤ vec_capacity l.waiting;
  jobs : l.waiting.items ++ jobs_of l.handles.items
      ≡ l.fn.waiting.items ++ jobs_of l.fn.handles.items;
}
