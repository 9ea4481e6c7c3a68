use Rattle.std.proofs.Common.{sym}
use Rattle.rh_sig.proofs.Table.{too_many}
use Rattle.rh_sig.proofs.reading.find_name.Goals as goal

pub returns-in_err-kept : goal.returns-in_err-kept
returns-in_err-kept c =
    rw c.from_residual.ensures
    (sym (too_many c.args.view.now c.args.pipe c.in_err-kept.ensures))
