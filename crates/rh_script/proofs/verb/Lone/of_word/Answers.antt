-- each stands in the table
use Rattle.std.proofs.Common.{arith}
use Rattle.rh_script.proofs.WordTables.{no_lone}
use Rattle.rh_script.proofs.verb.Lone.of_word.Goals as goal

pub returns : goal.returns
returns c =
    no_lone c.args.word.now c.lones.at (omega (arith, c.lones-test.false)) c.lones.invariant
