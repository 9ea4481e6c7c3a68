-- the jobs that wait and those of the threads are all jobs; each that waits has a pass and room
use Rattle.std.proofs.Common.{◌≡◌, ◌≤◌, ◌+◌, ◌++◌, vec_len, vec_capacity}
use Rattle.rh_jobs.specs.Workers.{jobs_of}
use Rattle.rh_jobs.proofs.started.Starter.start_all.Given as goal

abbrev pub decreases-loop-job : goal.decreases-loop-job
decreases-loop-job g l = vec_len l.waiting

abbrev pub invariant-loop-job : goal.invariant-loop-job
invariant-loop-job g l = record {
  passes : l.undecided.go_passes.parts ≡ vec_len l.waiting;
  room : vec_len l.handles + vec_len l.waiting ≤ vec_capacity l.handles;
  back : vec_len l.waiting + vec_len l.handles ≤ vec_capacity l.waiting;
  jobs : l.waiting.items ++ jobs_of l.handles.items ≡ l.fn.waiting.items;
}
