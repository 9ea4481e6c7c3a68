-- each stands in the table
use Rattle.std.proofs.Common.{arith}
use Rattle.rh_record.proofs.WordTables.{no_key}
use Rattle.rh_record.proofs.line.Key.of_word.Goals as goal

pub returns : goal.returns
returns c =
    no_key c.args.word.now c.keys.at (omega (arith, c.keys-test.false)) c.keys.invariant
