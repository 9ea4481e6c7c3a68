-- asked, and connected
use Rattle.std.proofs.Common.{inl, refl}
use Rattle.rh_keepers.proofs.Keeping.{kept-any, kept-connect, kept-then}
use Rattle.rh_keepers.proofs.keeper.Keeper.connect_server.Goals as goal

pub returns-then-not-wants-clause-kept : goal.returns-then-not-wants-clause-kept
returns-then-not-wants-clause-kept g c = kept-any c.wants.ensures.asked

pub returns-in_default-clause-kept : goal.returns-in_default-clause-kept
returns-in_default-clause-kept g c =
    kept-then (kept-any c.wants.ensures.asked) (kept-any c.target.ensures.asked)

pub returns-clause-kept : goal.returns-clause-kept
returns-clause-kept g c =
    kept-then (kept-then (kept-any c.wants.ensures.asked) (kept-any c.target.ensures.asked))
    (kept-connect _ _ _ (λ _ is. is) refl
    (λ net. inl (c.wants.ensures.wanted c.if-not-wants.false, net)) c.connect.ensures)
