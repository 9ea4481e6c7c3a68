-- what came is a text of the grammar, or its first bad line is told
use Rattle.std.proofs.Common.{◌≡◌, List, ℕ, [], ◌++◌, refl, ◌∙◌, ap, subst, Err, inl, inr}
use Rattle.std.proofs.KnownBytes.{Appends-nil}
use Rattle.rh_word.specs.Words.{IsBegun, SaysOf}
use Rattle.rh_word.proofs.Coming.{all_came}
use Rattle.rh_word.proofs.word.answer.Goals as goal

pub returns-in_default-start-clause-answers : goal.returns-in_default-start-clause-answers
returns-in_default-start-clause-answers g c =
    let came = c.in-Ok.ensures.came in
    (came.0, [], came.1, Appends-nil (g.W.Sink.written c.args.output.now), inl refl)

-- what is begun of the text read is begun of what came
begun : {Says SaysWord : List ℕ → List ℕ → Type 0} → ((text whole : List ℕ) → SaysWord text whole
    → Says text whole)
    → (read came written : List ℕ) → read ≡ came → IsBegun SaysWord read written
    → IsBegun Says came written
begun {Says} {SaysWord} means read came written same (behind, says) = (
  behind,
  means came (written ++ behind)
      (subst (λ (x : List ℕ). SaysWord x (written ++ behind)) same says),
)

pub returns-in-Err-WriteFault-clause-answers : goal.returns-in-Err-WriteFault-clause-answers
returns-in-Err-WriteFault-clause-answers g c =
    let came = c.in-Ok.ensures.came in
    let wrote = c.in-Err-WriteFault.ensures.err in
    let is = c.deref-2.ensures.value ∙ came.2.0 in (
      came.0,
      wrote.0,
      came.1,
      wrote.1,
      (
        came.2.1,
        c.in-Ok.ensures.ok.1,
        begun g.met.X.Word.means c.deref-2.result.now came.0 wrote.0 is wrote.2,
      ),
    )

pub returns-in-Err-WriteFault-clause-takes : goal.returns-in-Err-WriteFault-clause-takes
returns-in-Err-WriteFault-clause-takes g c = λ text left all said.
    let came = c.in-Ok.ensures.came in
    let is = c.deref-2.ensures.value ∙ came.2.0
    ∙ all_came _ _ text came.0 left came.1.from c.in-Ok.ensures.ok.1 in
    c.in-Err-WriteFault.ensures.takes
    (λ whole h. all whole (g.met.X.Word.means text whole
    (subst (λ (x : List ℕ). SaysOf g.G.Grammar.rules g.X.Word.deeds x whole) is h)))
    (ap Err c.in-Err-WriteFault.field-0-is)

pub returns-clause-answers : goal.returns-clause-answers
returns-clause-answers g c =
    let came = c.in-Ok.ensures.came in
    let wrote = c.in-Err-NoMemory-write_all.ensures.err in
    let is = c.deref-2.ensures.value ∙ came.2.0 in (
      came.0,
      wrote.0,
      came.1,
      wrote.1,
      inr (
        came.2.1,
        c.in-Ok.ensures.ok.1,
        begun g.met.X.Word.means c.deref-2.result.now came.0 wrote.0 is wrote.2,
      ),
    )
