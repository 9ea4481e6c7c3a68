use Rattle.std.proofs.Common.{◌∷◌, []}
use Rattle.std.proofs.lemmas.Result.{err_from_is_err_and}
use Rattle.rh_text.proofs.Appending.{writes_one}
use Rattle.rh_show.proofs.showing.show_packet.Goals as goal

pub returns-in_err-write_shown : goal.returns-in_err-write_shown
returns-in_err-write_shown c =
    let p = err_from_is_err_and c.from_residual.result c.from_residual.ensures.1 in
    let shown = c.in_err-write_shown.ensures in
    (shown.0, shown.1, rw p.1 (writes_one shown.0 (10 ∷ []) p.0 _ _ shown.2))
