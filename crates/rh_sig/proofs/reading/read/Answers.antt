use Rattle.std.proofs.Common.{refl}
use Rattle.rh_sig.specs.Naming.{named_of}
use Rattle.rh_sig.proofs.Table.{too_many}
use Rattle.rh_sig.proofs.reading.read.Goals as goal

pub returns-in_default : goal.returns-in_default
unfolding named_of
returns-in_default c = rw (too_many c.args.view.now c.args.pipe c.in_default.ensures) refl
