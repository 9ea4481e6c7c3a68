use Rattle.rh_sig.proofs.Computing.{read_so}
use Rattle.rh_sig.proofs.reading.read_named.Goals as goal

pub returns-clause-reads : goal.returns-clause-reads
returns-clause-reads c = read_so c.args.view.now c.args.pipe c.read.result c.read.ensures
