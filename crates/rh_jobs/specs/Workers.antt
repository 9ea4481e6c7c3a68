-- what threads have and hand in
use Rattle.std.specs.Prelude.{◌≡◌, List, map, reverse}
use Rattle.std.specs.declared.thread.PromisedHandle.{PromisedHandle}
use Rattle.rh_jobs.specs.declared.latch.Decided.{Decided}
use Rattle.rh_jobs.specs.declared.latch.Decided.TheVariants.{Begin, CallOff}
use Rattle.rh_jobs.specs.declared.worker.Owed.{Owed}
use Rattle.rh_jobs.specs.declared.worker.Returned.{Returned}
use Rattle.rh_jobs.specs.declared.worker.Returned.TheVariants.{Answer, Unbegun}

-- what a thread brought, whatever was decided
abbrev pub brought : {T G F : Type 0} → Decided T G F → T
brought (Begin value witness) = value
brought (CallOff value witness) = value

-- a thread hands in an answer of its job, or the job as it was
abbrev pub Settles : {J O G F : Type 0} → (J → O → Type 0) → J → Returned J O G F → Type 0
Settles answers job (Answer out witness) = answers job out
Settles answers job (Unbegun same witness) = same ≡ job

-- the jobs of the threads in their order: the thread of the last job was started first
abbrev pub jobs_of : {J O G F : Type 0}
    → List (PromisedHandle (Returned J O G F) (Owed J O)) → List J
jobs_of handles = reverse (map (λ h. h.promise.job.value) handles)
