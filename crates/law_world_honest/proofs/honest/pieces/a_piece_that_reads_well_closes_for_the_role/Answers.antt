use Rattle.law_order.proofs.Vocabulary.{refl}
use Rattle.law_node_history.proofs.Vocabulary.{Comes, tell}
use Rattle.law_world_honest.proofs.Honesty.HeardWell.{going_is, piece_closes}
use Rattle.law_world_honest.proofs.honest.pieces.a_piece_that_reads_well_closes_for_the_role.Goals as goal

pub returns : goal.returns
returns g c = λ well node leg piece why end start from bytes strict at reads waits closes.
    let rules = g.R.Role.rules in
    piece_closes well strict rules end.leg end.pipe start from bytes node leg piece why end refl
    refl
    (going_is node (tell rules node (Comes leg piece)).1 why
    (λ first h. c.a_node_closes_once.ensures.again node first (Comes leg piece) h) closes) at reads
    waits
    (c.a_node_closes_once.ensures.closed node (Comes leg piece) why closes)
