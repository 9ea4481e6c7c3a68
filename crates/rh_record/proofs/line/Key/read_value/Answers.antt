-- a word spells one number
use Rattle.std.proofs.Common.{◌≡◌, ◌∙◌, IsTrue, sym, subst, true, false, arith}
use Rattle.rh_record.specs.Words.{takes}
use Rattle.rh_record.specs.WordLaws.{one_number}
use Rattle.rh_record.proofs.line.Key.read_value.Goals as goal

pub returns-else-takes : goal.returns-else-takes
returns-else-takes c = λ value h.
    let same = one_number 0 4294967295 c.args.word.now value c.in_ok-value.value
    (omega arith) h.spelled c.in_ok-value.ensures in
    let taken = subst (λ v. IsTrue (takes c.args.self v)) same h.taken in
    let both : false ≡ true = sym c.if-takes.false ∙ c.takes.ensures ∙ taken in cc
