-- round by round
use Rattle.rh_keepers.proofs.Keeping.{end-of, kept-any, kept-asked, kept-none, kept-then, kept-told, asked-then}
use Rattle.rh_keepers.proofs.keeper.Keeper.keep_met.Goals as goal

pub rounds-init : goal.rounds-init
rounds-init g c = record { kept = kept-none; end = tt }

pub returns-then-not-is_live-clause-kept : goal.returns-then-not-is_live-clause-kept
returns-then-not-is_live-clause-kept g c =
    kept-then (kept-then (kept-then (kept-then c.rounds.invariant.kept
    (kept-any c.heard-heard.ensures)) (kept-told (λ _ is. is) c.tick_in_time.ensures))
    c.connect_server.ensures.kept) (kept-asked c.is_live.ensures)

pub returns-then-not-is_live-clause-end : goal.returns-then-not-is_live-clause-end
returns-then-not-is_live-clause-end g c = end-of _ _ _ _ _ c.rounds.invariant.end
    c.connect_server.ensures.end c.or-end.ensures.either

pub returns-then-not-is_live-clause-left : goal.returns-then-not-is_live-clause-left
returns-then-not-is_live-clause-left g c =
    asked-then (kept-then (kept-then (kept-then c.rounds.invariant.kept
    (kept-any c.heard-heard.ensures)) (kept-told (λ _ is. is) c.tick_in_time.ensures))
    c.connect_server.ensures.kept) c.is_live.ensures

pub rounds-preserved : goal.rounds-preserved
rounds-preserved g c = record {
  kept = kept-then (kept-then (kept-then (kept-then c.rounds.invariant.kept
      (kept-any c.heard-heard.ensures)) (kept-told (λ _ is. is) c.tick_in_time.ensures))
      c.connect_server.ensures.kept) (kept-asked c.is_live.ensures);
  end = end-of _ _ _ _ _ c.rounds.invariant.end c.connect_server.ensures.end
      c.or-end.ensures.either;
}
