use Rattle.law_order.proofs.Vocabulary.{subst}
use Rattle.rh_line.specs.declared.cause.Cause.TheVariants as cause
use Rattle.law_node_history.proofs.Vocabulary.{Event, Comes, tell}
use Rattle.law_node_causes.specs.Closings.{ClosesWith}
use Rattle.law_world_honest.proofs.Honesty.HeardWell.{going_is}
use Rattle.law_world_windows.proofs.Windowed.Exceeded.{piece_is}
use Rattle.law_world_windows.proofs.windows.rows.a_window_is_exceeded_for_a_row.Goals as goal

pub returns : goal.returns
returns g c = λ node event leg reached edge closes.
    let rules = g.R.Role.rules in
    let why = cause.WindowExceeded leg reached edge in
    let from = c.causes_come_from_their_events.ensures node event why closes in
    let told = subst (λ (e : Event). ClosesWith rules node e why) from.is closes in
    piece_is rules node from.leg from.piece why
    (going_is node (tell rules node (Comes from.leg from.piece)).1 why
    (λ first h. c.a_node_closes_once.ensures.again node first (Comes from.leg from.piece) h) told)
    (c.a_node_closes_once.ensures.closed node (Comes from.leg from.piece) why told)
