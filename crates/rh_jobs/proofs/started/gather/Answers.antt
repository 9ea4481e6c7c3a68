-- the answer of the last thread is that of the next job
use Rattle.std.proofs.Common.{rules, refl, ◌++◌, ◌∷◌, []}
use Rattle.rh_jobs.proofs.AnswerLemmas.{one_more}
use Rattle.rh_jobs.proofs.Handed.{from_thread}
use Rattle.rh_jobs.proofs.started.gather.Goals as goal

pub loop-handle-preserved : goal.loop-handle-preserved
loop-handle-preserved g c =
    let h = c.in-Some.handle in
    let job = h.promise.job.value in
    let before = c.loop-handle.invariant.answered in
    record {
      room = search rules;
      answered = rw c.put.ensures.items (
        before.0 ++ job ∷ [],
        one_more g.J.Job.answers before.0 c.loop-handle.answers.items job c.answer-out.result
            before.1 (c.answer-out.ensures job c.join.ensures),
        from_thread (λ h. h.promise.job.value) c.loop-handle.handles.items c.pop.new.self.items h
            before.0 job _ c.in-Some.ensures.items refl before.2,
      );
    }
