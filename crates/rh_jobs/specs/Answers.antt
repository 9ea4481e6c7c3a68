-- what jobs answered
use Rattle.std.specs.Prelude.{List, [], ◌∷◌}

-- one answer for each job, in the order of the jobs, each in the relation to its job
abbrev pub AnswersEach : {J O : Type 0} → (J → O → Type 0) → List J → List O → Type 0
AnswersEach answers [] [] = Unit {0}
AnswersEach answers [] (out ∷ outs) = ⊥
AnswersEach answers (job ∷ jobs) [] = ⊥
AnswersEach answers (job ∷ jobs) (out ∷ outs) = answers job out × AnswersEach answers jobs outs
