-- what is under way at a client changes, and its turn doesn't
use Rattle.law_order.proofs.Vocabulary.{◌+◌, nat_lt, Bool, true, false, List, Ok, Err, arith, Result}
use Rattle.rh_shell.specs.declared.answers.Phase.TheVariants as phase
use Rattle.rh_client.specs.declared.replacement.InStage.TheVariants as in_stage
use Rattle.rh_client.specs.declared.replacement.OutStage.TheVariants as out_stage
use Rattle.rh_client.specs.declared.replacement.Waits.TheVariants as waits
use Rattle.law_moves.proofs.Vocabulary.{by_test, RecycleRefused, Last, OnLeg}
use Rattle.law_role_client.proofs.Vocabulary.{LAST_NUMBER, Replacement, NoneUnderWay, In, Out, OutStage, Waits, ClientRole, unopened_in, unopened_out, is_over, begin_in, begin_out, after_in, after_out, wish_by, wants_successor, wished, recycle_by, succeeded, ended_or, pass_at, pass_by, passed, settled_or_wished}
use Rattle.law_role_client_rows.proofs.InTurn.Facts.{IsSo, view, idle, idles, replacing}

module _ (put : List OnLeg) where
  abbrev pub So : ClientRole → Type 0
  So s = IsSo (view s) put

  -- where no IN channel is replaced
  abbrev pub IdleSo : ClientRole → Type 0
  IdleSo s = IsSo (idle (view s)) put

  -- ---- a replacement begins

  begin_in_so : (s : ClientRole) (out_waits : Bool) → IdleSo s → So (begin_in s out_waits)
  begin_in_so s out_waits h =
      by_test So (nat_lt s.writing.number LAST_NUMBER)
      (record s {
        in_successor = unopened_in (s.writing.number + 1) s.config.lifetime;
        replacement = In in_stage.Asked out_waits;
      })
      (record s { replacement = NoneUnderWay })
      (λ e. replacing h (s.writing.number + 1) (omega arith)) (λ e. h)

  pub begin_out_so : (s : ClientRole) (waiting : Waits) → IdleSo s → So (begin_out s waiting)
  begin_out_so s waiting h =
      by_test So (nat_lt s.current.number LAST_NUMBER)
      (record s {
        out_successor = unopened_out (s.current.number + 1);
        replacement = Out out_stage.Asked waiting;
      })
      (record s { replacement = NoneUnderWay }) (λ e. h) (λ e. h)

  wish_so : (s : ClientRole) (r : Replacement) → So s → So (wish_by s r)
  wish_so s NoneUnderWay h = begin_in_so s false (idles h)
  wish_so s (In stage out_waits) h = h
  wish_so s (Out stage waiting) h = idles h

  pub recycle_so : (s : ClientRole) (r : Replacement) → So s → So (recycle_by s r).0
  recycle_so s NoneUnderWay h =
      by_test (λ (x : ClientRole × Result (Unit {0}) RecycleRefused). So x.0)
      (nat_lt s.writing.number LAST_NUMBER) (begin_in s false, Ok tt) (s, Err Last)
      (λ e. begin_in_so s false (idles h)) (λ e. h)
  recycle_so s (In stage out_waits) h = h
  recycle_so s (Out stage waiting) h = h

  -- ---- behind a put

  pub settled_so : (s : ClientRole) → So s → So (settled_or_wished s)
  settled_so s h =
      by_test So (is_over s) (record s { phase = phase.Ended }) (wished s) (λ e. h)
      (λ e. by_test So (wants_successor s) (wish_by s s.replacement) s
      (λ f. wish_so s s.replacement h) (λ f. h))

  -- ---- a replacement is over

  pub after_in_so : (s : ClientRole) (out_waits : Bool) → IdleSo s → So (after_in s out_waits)
  after_in_so s true h = begin_out_so s waits.Nothing h
  after_in_so s false h = h

  after_out_so : (s : ClientRole) (waiting : Waits) → IdleSo s → So (after_out s waiting)
  after_out_so s waits.Nothing h = h
  after_out_so s waits.In h = begin_in_so s false h
  after_out_so s waits.Out h = begin_out_so s waits.Nothing h
  after_out_so s waits.InThenOut h = begin_in_so s true h
  after_out_so s waits.OutThenIn h = begin_out_so s waits.In h

  ended_so : (s : ClientRole) (waiting : Waits) → So s → So (ended_or s waiting)
  ended_so s waiting h =
      by_test So (is_over s) (record s { phase = phase.Ended }) (after_out s waiting) (λ e. h)
      (λ e. after_out_so s waiting (idles h))

  pass_so : (s : ClientRole) (waiting : Waits) (stage : OutStage) → So s
      → So (pass_at s waiting stage)
  pass_so s waiting out_stage.Asked h = h
  pass_so s waiting out_stage.Answered h = h
  pass_so s waiting out_stage.Switched h = h
  pass_so s waiting out_stage.Finished h =
      by_test So s.line.has_next s (ended_or (succeeded s) waiting) (λ e. h)
      (λ e. ended_so (succeeded s) waiting (idles h))

  pub passed_so : (s : ClientRole) → So s → So (passed s)
  passed_so s h = by s.replacement
    where
      by : (r : Replacement) → So (pass_by s r)
      by NoneUnderWay = h
      by (In stage out_waits) = h
      by (Out stage waiting) = pass_so s waiting stage h
