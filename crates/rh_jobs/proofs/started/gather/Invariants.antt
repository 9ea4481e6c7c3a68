-- the answers so far are those of the first jobs, and the threads left have the others
use Rattle.std.proofs.Common.{◌≡◌, ◌≤◌, ◌+◌, ◌++◌, vec_len, vec_capacity, List}
use Rattle.rh_jobs.specs.Workers.{jobs_of}
use Rattle.rh_jobs.specs.Answers.{AnswersEach}
use Rattle.rh_jobs.proofs.started.gather.Given as goal

abbrev pub decreases-loop-handle : goal.decreases-loop-handle
decreases-loop-handle g l = vec_len l.handles

abbrev pub invariant-loop-handle : goal.invariant-loop-handle
invariant-loop-handle g l = record {
  room : vec_len l.handles + vec_len l.answers ≤ vec_capacity l.answers;
  answered : (done : List g.row.J.Denot) × AnswersEach g.J.Job.answers done l.answers.items
      × (done ++ jobs_of l.handles.items ≡ jobs_of l.fn.handles.items);
}
