-- laws about the answers of jobs
use Rattle.std.proofs.Common.{◌≡◌, List, [], ◌∷◌, ◌++◌, length, refl, arith}
use Rattle.rh_jobs.specs.Answers.{AnswersEach}

-- as many answers as jobs
pub as_many : {J O : Type 0} (answers : J → O → Type 0) (jobs : List J) (outs : List O)
    → AnswersEach answers jobs outs → length outs ≡ length jobs
as_many answers [] [] each = refl
as_many answers [] (out ∷ outs) each = absurd each
as_many answers (job ∷ jobs) [] each = absurd each
as_many answers (job ∷ jobs) (out ∷ outs) each = omega (arith, as_many answers jobs outs each.1)

-- one more job, and one more answer
pub one_more : {J O : Type 0} (answers : J → O → Type 0) (jobs : List J) (outs : List O) (job : J)
    (out : O) → AnswersEach answers jobs outs → answers job out
    → AnswersEach answers (jobs ++ job ∷ []) (outs ++ out ∷ [])
one_more answers [] [] job out each next = (next, tt)
one_more answers [] (o ∷ outs) job out each next = absurd each
one_more answers (j ∷ jobs) [] job out each next = absurd each
one_more answers (j ∷ jobs) (o ∷ outs) job out each next =
    (each.0, one_more answers jobs outs job out each.1 next)
