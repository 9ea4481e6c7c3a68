use Rattle.law_order.proofs.Vocabulary.{◌++◌, sym, ap, subst, Option}
use Rattle.law_moves.proofs.Vocabulary.{Pipe, Leg, first_stage, Reading, reading, ReadsWellFrom}
use Rattle.law_node_history.proofs.Vocabulary.{Comes, tell}
use Rattle.law_node_streams.specs.Streams.{is_live}
use Rattle.law_world_honest.proofs.Honesty.HeardWell.{going_is}
use Rattle.law_world_honest.proofs.Honesty.WaitedHeads.{still_waits}
use Rattle.law_world_honest.proofs.honest.pieces.what_is_heard_well_closes_for_the_role.Goals as goal
use Rattle.law_world_honest.specs.Honesty.Causes.{IsOfHeard}

pub returns : goal.returns
returns g c = λ well node leg piece why pipe came put heard drawn strict reads seats closes.
    let rules = g.R.Role.rules in
    let amiss = c.events_close_with_their_causes.ensures node (Comes leg piece) why closes in
    let end = amiss.end in
    let going = going_is node (tell rules node (Comes leg piece)).1 why
    (λ first h. c.a_node_closes_once.ensures.again node first (Comes leg piece) h) closes in
    let seat = seats end going amiss.at in
    subst (λ (l : Leg). IsOfHeard rules l pipe (heard ++ piece) why) amiss.same
    (c.a_piece_that_reads_well_closes_for_the_role.ensures well node leg piece why end
    (first_stage pipe) 0 (heard ++ piece) strict amiss.at (λ over live.
    subst (λ (p : Option Pipe).
    ReadsWellFrom well p (reading end.intake.stage end.intake.held) piece) (sym seat.pipe_is)
    (subst (λ (r : Reading). ReadsWellFrom well pipe r piece) (seat.reads over live).after
    (c.a_piece_reads_well.ensures well pipe heard piece reads))) (λ over waiting.
    still_waits pipe heard piece end.intake.stage end.intake.held waiting
    (seat.reads over (ap is_live waiting)).after) closes)
