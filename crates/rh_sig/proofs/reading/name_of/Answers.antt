use Rattle.rh_sig.proofs.Table.{is_named}
use Rattle.rh_sig.proofs.reading.name_of.Goals as goal

pub returns-clause-named : goal.returns-clause-named
returns-clause-named c =
    is_named c.args.view.now c.args.pipe c.find_name.result c.find_name.ensures
