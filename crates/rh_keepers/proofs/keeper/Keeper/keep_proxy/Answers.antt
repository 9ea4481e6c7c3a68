-- its client came, and then it was kept
use Rattle.rh_keepers.proofs.Keeping.{asked-at, kept-then}
use Rattle.rh_keepers.proofs.keeper.Keeper.keep_proxy.Goals as goal

pub returns-in-Ok-clause-kept : goal.returns-in-Ok-clause-kept
returns-in-Ok-clause-kept g c = kept-then c.accept_client.ensures.kept c.keep_met.ensures.kept

pub returns-in-Ok-clause-left : goal.returns-in-Ok-clause-left
returns-in-Ok-clause-left g c = λ _. asked-at c.accept_client.ensures.kept c.keep_met.ensures.left
