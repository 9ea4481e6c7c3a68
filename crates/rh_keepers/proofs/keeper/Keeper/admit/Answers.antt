-- a leg is brought up
use Rattle.std.proofs.Common.{refl}
use Rattle.rh_keepers.proofs.Keeping.{kept-brought}
use Rattle.rh_keepers.proofs.keeper.Keeper.admit.Goals as goal

pub returns-then-bring_up : goal.returns-then-bring_up
returns-then-bring_up g c = kept-brought (λ _ is. is) refl c.bring_up.ensures

pub returns-else-bring_up : goal.returns-else-bring_up
returns-else-bring_up g c = kept-brought (λ _ is. is) refl c.bring_up.ensures
