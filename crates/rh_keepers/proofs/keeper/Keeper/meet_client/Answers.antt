-- a leg is brought up, or lost
use Rattle.std.proofs.Common.{refl}
use Rattle.rh_keepers.proofs.Keeping.{kept-brought}
use Rattle.rh_keepers.proofs.keeper.Keeper.meet_client.Goals as goal

pub returns-in-Ok-Some : goal.returns-in-Ok-Some
returns-in-Ok-Some g c = kept-brought (λ _ is. is) refl c.bring_up.ensures
