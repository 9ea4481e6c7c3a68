-- asked, and connected with its cookie
use Rattle.rh_keepers.proofs.Keeping.{kept-any, kept-connect, kept-then}
use Rattle.rh_keepers.proofs.keeper.Keeper.connect_wanted.Goals as goal

pub returns-then-not-wants-clause-kept : goal.returns-then-not-wants-clause-kept
returns-then-not-wants-clause-kept g c = kept-any c.wants.ensures.asked

pub returns-in_default-clause-kept : goal.returns-in_default-clause-kept
returns-in_default-clause-kept g c = kept-any c.wants.ensures.asked

pub returns-in_default-cookie-clause-kept : goal.returns-in_default-cookie-clause-kept
returns-in_default-cookie-clause-kept g c = kept-any c.wants.ensures.asked

pub returns-clause-kept : goal.returns-clause-kept
returns-clause-kept g c =
    let wanted = c.wants.ensures.wanted c.if-not-wants.false in
    kept-then (kept-any c.wants.ensures.asked)
    (kept-connect _ _ _ (λ _ is. is) (wanted, c.in-Ok.ensures.answered) (λ net. (wanted, net))
    c.connect-end.ensures)
