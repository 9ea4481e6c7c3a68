-- the callers, one after the other
use Rattle.rh_keepers.proofs.Keeping.{asked-at, kept-any, kept-none, kept-then}
use Rattle.rh_keepers.proofs.keeper.Keeper.accept_client.Goals as goal

pub callers-init : goal.callers-init
callers-init g c = kept-none

pub returns-in-Err-clause-kept : goal.returns-in-Err-clause-kept
returns-in-Err-clause-kept g c =
    kept-then c.callers.invariant (kept-any c.accept_in_turn.ensures.kept)

pub returns-in-Err-clause-left : goal.returns-in-Err-clause-left
returns-in-Err-clause-left g c = λ ended.
    asked-at c.callers.invariant (c.in-Err.ensures.left ended)

pub returns-then-meet_client-clause-kept : goal.returns-then-meet_client-clause-kept
returns-then-meet_client-clause-kept g c =
    kept-then (kept-then c.callers.invariant (kept-any c.accept_in_turn.ensures.kept))
    c.meet_client.ensures

pub callers-preserved : goal.callers-preserved
callers-preserved g c =
    kept-then (kept-then c.callers.invariant (kept-any c.accept_in_turn.ensures.kept))
    c.meet_client.ensures
