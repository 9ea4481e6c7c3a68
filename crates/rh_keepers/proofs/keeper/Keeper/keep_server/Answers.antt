-- round by round
use Rattle.rh_keepers.proofs.Keeping.{kept-any, kept-asked, kept-none, kept-then, kept-told, asked-then}
use Rattle.rh_keepers.proofs.keeper.Keeper.keep_server.Goals as goal

pub rounds-init : goal.rounds-init
rounds-init g c = kept-none

pub returns-then-not-is_live-clause-kept : goal.returns-then-not-is_live-clause-kept
returns-then-not-is_live-clause-kept g c =
    kept-then (kept-then c.rounds.invariant (kept-told (λ _ is. is) c.tick_in_time.ensures))
    (kept-asked c.is_live.ensures)

pub returns-then-not-is_live-clause-left : goal.returns-then-not-is_live-clause-left
returns-then-not-is_live-clause-left g c = λ _.
    asked-then (kept-then c.rounds.invariant (kept-told (λ _ is. is) c.tick_in_time.ensures))
    c.is_live.ensures

pub returns-in-Err-clause-kept : goal.returns-in-Err-clause-kept
returns-in-Err-clause-kept g c =
    kept-then (kept-then (kept-then c.rounds.invariant
    (kept-told (λ _ is. is) c.tick_in_time.ensures)) (kept-asked c.is_live.ensures))
    (kept-any c.accept_stranger.ensures.still)

pub returns-in-Err-clause-left : goal.returns-in-Err-clause-left
returns-in-Err-clause-left g c = λ ended. absurd (c.in-Err.ensures.failed ended)

pub rounds-preserved : goal.rounds-preserved
rounds-preserved g c =
    kept-then (kept-then (kept-then (kept-then c.rounds.invariant
    (kept-told (λ _ is. is) c.tick_in_time.ensures)) (kept-asked c.is_live.ensures))
    (kept-any c.accept_stranger.ensures.still)) c.meet_all.ensures
