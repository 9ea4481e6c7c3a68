-- each stands in the table
use Rattle.std.proofs.Common.{arith}
use Rattle.rh_script.proofs.WordTables.{no_verb}
use Rattle.rh_script.proofs.verb.Verb.of_word.Goals as goal

pub returns : goal.returns
returns c =
    no_verb c.args.word.now c.verbs.at (omega (arith, c.verbs-test.false)) c.verbs.invariant
