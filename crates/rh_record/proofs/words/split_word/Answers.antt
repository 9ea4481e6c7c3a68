-- a text with no blank begins with no word that one ends
use Rattle.std.proofs.Common.{rules, ◌≡◌, ◌≢◌, length, arith}
use Rattle.std.proofs.lemmas.Iterator.{IsFirst-from_position, YieldsList-from_slice}
use borrow.Author.Tests.{tests}
use Rattle.rh_record.specs.WordLaws.{cut_blank}
use Rattle.rh_record.proofs.words.split_word.Goals as goal

pub returns-in-None : goal.returns-in-None
returns-in-None c = λ word rest cut.
    let here = cut_blank c.args.text.now word rest cut in
    let none =
    IsFirst-from_position _ _ _ (λ x. x ≡ 32) (λ x. x ≢ 32) c.in-None.ensures.ran
    (YieldsList-from_slice c.args.text.now cc) (λ x q k. search (rules, tests))
    (λ x q k. search (rules, tests)) in
    none (length word) 0 (omega arith) here.0 here.1
