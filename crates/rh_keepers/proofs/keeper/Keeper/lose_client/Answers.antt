-- up, and broken by its source
use Rattle.std.proofs.Common.{inr, refl}
use Rattle.rh_keepers.proofs.Keeping.{kept-act, kept-then, kept-up}
use Rattle.rh_keepers.proofs.keeper.Keeper.lose_client.Goals as goal

pub returns : goal.returns
returns g c = kept-then (kept-up c.tell_up.ensures c.now-now.ensures refl)
    (kept-act c.tell_broken.ensures (inr (c.args.source, c.requires)) refl)
