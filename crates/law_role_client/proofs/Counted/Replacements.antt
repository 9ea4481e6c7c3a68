-- a replacement at a client begins and is over, and its work is done: events of its replacements
use Rattle.law_order.proofs.Vocabulary.{◌≡◌, ◌+◌, Bool, true, false, ◌&&◌, nat_lt, List, Ok, Err, refl, sym, ap, subst, and_parts, Result}
use Rattle.rh_shell.specs.declared.answers.Phase.TheVariants as phase
use Rattle.rh_client.specs.declared.replacement.InStage.TheVariants as in_stage
use Rattle.rh_client.specs.declared.replacement.OutStage.TheVariants as out_stage
use Rattle.rh_client.specs.declared.replacement.Waits.TheVariants as waits
use Rattle.law_moves.proofs.Vocabulary.{by_test, after_take, RecycleRefused, Last, OnLeg}
use Rattle.law_moves.proofs.Lemmas.{Fact}
use Rattle.law_role_client.proofs.Vocabulary.{LAST_NUMBER, Replacement, NoneUnderWay, In, Out, Waits, ClientRole, unopened_in, unopened_out, is_none, has_out, settled, is_open, is_over, begin_in, begin_out, after_in, after_out, recycle_by, wish_by, wished, wants_successor, succeeded, ended_or, pass_by, passed, take, settled_or_wished}
use Rattle.law_role_client.proofs.Counted.Views.{View, view, view_by, Free, out_if, has_in, is_in_first, behind_out, EventsKeep}

free : (r : Replacement) → is_none r ≡ true → r ≡ NoneUnderWay
free NoneUnderWay e = refl
free (In stage w) e = absurd (cc)
free (Out stage w) e = absurd (cc)

module _ (P : Fact View) (events : EventsKeep P) where
  abbrev pub Holds : Fact ClientRole
  Holds s came put = P (view s) came put

  pub at_replacement : (s : ClientRole) (r : Replacement) (came put : List OnLeg)
      → s.replacement ≡ r → Holds s came put → P (view_by s r) came put
  at_replacement s r came put e h = subst (λ (x : Replacement). P (view_by s x) came put) e h

  pub same_holds : (s t : ClientRole) (came put : List OnLeg) → view t ≡ view s
      → Holds s came put → Holds t came put
  same_holds s t came put same h = subst (λ (v : View). P v came put) (sym same) h

  -- ---- a replacement begins

  begin_in_holds : (s : ClientRole) (w : Waits) (came put : List OnLeg) → has_in w ≡ true
      → is_in_first w ≡ true → P (record (view s) { way = Free; waiting = w }) came put
      → Holds (begin_in s (has_out w)) came put
  begin_in_holds s w came put is at h =
      by_test (λ (t : ClientRole). Holds t came put) (nat_lt s.writing.number LAST_NUMBER)
      (record s {
        in_successor = unopened_in (s.writing.number + 1) s.config.lifetime;
        replacement = In in_stage.Asked (has_out w);
      })
      (record s { replacement = NoneUnderWay })
      (λ e. events.begins_in (record (view s) { waiting = w }) came put at e h)
      (λ e. events.drops_in (record (view s) { waiting = w }) came put is e h)

  pub begin_out_holds : (s : ClientRole) (w : Waits) (came put : List OnLeg) → has_out w ≡ true
      → P (record (view s) { way = Free; waiting = w }) came put
      → Holds (begin_out s (behind_out w)) came put
  begin_out_holds s w came put is h =
      by_test (λ (t : ClientRole). Holds t came put) (nat_lt s.current.number LAST_NUMBER)
      (record s {
        out_successor = unopened_out (s.current.number + 1);
        replacement = Out out_stage.Asked (behind_out w);
      })
      (record s { replacement = NoneUnderWay })
      (λ e. events.begins_out (record (view s) { waiting = w }) came put is e h)
      (λ e. events.drops_out (record (view s) { waiting = w }) came put is e h)

  pub after_in_holds : (s : ClientRole) (b : Bool) (came put : List OnLeg)
      → P (record (view s) { way = Free; waiting = out_if b }) came put
      → Holds (after_in s b) came put
  after_in_holds s true came put h = begin_out_holds s waits.Out came put refl h
  after_in_holds s false came put h = h

  after_out_holds : (s : ClientRole) (w : Waits) (came put : List OnLeg)
      → P (record (view s) { way = Free; waiting = w }) came put
      → Holds (after_out s w) came put
  after_out_holds s waits.Nothing came put h = h
  after_out_holds s waits.In came put h = begin_in_holds s waits.In came put refl refl h
  after_out_holds s waits.Out came put h = begin_out_holds s waits.Out came put refl h
  after_out_holds s waits.InThenOut came put h =
      begin_in_holds s waits.InThenOut came put refl refl h
  after_out_holds s waits.OutThenIn came put h =
      begin_out_holds s waits.OutThenIn came put refl h

  -- where the client is open, and the writing channel has not the last number
  wish_holds : (s : ClientRole) (r : Replacement) (came put : List OnLeg) → s.replacement ≡ r
      → is_open s.phase ≡ true → nat_lt s.writing.number LAST_NUMBER ≡ true
      → Holds s came put → Holds (wish_by s r) came put
  wish_holds s NoneUnderWay came put e open' lower h =
      begin_in_holds s waits.In came put refl refl
      (events.wants_in (view_by s NoneUnderWay) came put open' lower
      (at_replacement s NoneUnderWay came put e h))
  wish_holds s (In stage w) came put e open' lower h = h
  wish_holds s (Out stage w) came put e open' lower h =
      events.wants_in (view_by s (Out stage w)) came put open' lower
      (at_replacement s (Out stage w) came put e h)

  recycle_holds : (s : ClientRole) (r : Replacement) (came put : List OnLeg)
      → s.replacement ≡ r → is_open s.phase ≡ true → Holds s came put
      → Holds (recycle_by s r).0 came put
  recycle_holds s NoneUnderWay came put e open' h =
      by_test (λ (x : ClientRole × Result (Unit {0}) RecycleRefused). Holds x.0 came put)
      (nat_lt s.writing.number LAST_NUMBER) (begin_in s false, Ok tt) (s, Err Last)
      (λ lower. wish_holds s NoneUnderWay came put e open' lower h) (λ o. h)
  recycle_holds s (In stage w) came put e open' h = h
  recycle_holds s (Out stage w) came put e open' h = h

  pub recycled : (s : ClientRole) (came put : List OnLeg) → s.phase ≡ phase.Open
      → Holds s came put → Holds (recycle_by s s.replacement).0 came put
  recycled s came put e h = recycle_holds s s.replacement came put refl (ap is_open e) h

  -- ---- the work is done

  over_holds : (s : ClientRole) (w : Waits) (came put : List OnLeg) → is_over s ≡ true
      → P (record (view s) { way = Free; waiting = w }) came put
      → Holds (record s { phase = phase.Ended }) came put
  over_holds s w came put e h =
      let parts =
      and_parts (s.is_closing && s.writing.is_end_put)
      (s.line.current.ended && is_none s.replacement) e in
      let end_put = (and_parts s.is_closing s.writing.is_end_put parts.0).1 in
      let none =
      free s.replacement (and_parts s.line.current.ended (is_none s.replacement) parts.1).1 in
      subst (λ (x : Replacement). P (record (view_by s x) { phase = phase.Ended }) came put)
      (sym none) (events.ends (record (view s) { waiting = w }) came put end_put h)

  over_now : (s : ClientRole) (came put : List OnLeg) → is_over s ≡ true → Holds s came put
      → Holds (record s { phase = phase.Ended }) came put
  over_now s came put e h =
      let parts =
      and_parts (s.is_closing && s.writing.is_end_put)
      (s.line.current.ended && is_none s.replacement) e in
      let none =
      free s.replacement (and_parts s.line.current.ended (is_none s.replacement) parts.1).1 in
      over_holds s waits.Nothing came put e (at_replacement s NoneUnderWay came put none h)

  pub settled_holds : (s : ClientRole) (came put : List OnLeg) → Holds s came put
      → Holds (settled s) came put
  settled_holds s came put h =
      by_test (λ (t : ClientRole). Holds t came put) (is_over s)
      (record s { phase = phase.Ended }) s (λ e. over_now s came put e h) (λ e. h)

  wished_holds : (s : ClientRole) (came put : List OnLeg) → Holds s came put
      → Holds (wished s) came put
  wished_holds s came put h =
      by_test (λ (t : ClientRole). Holds t came put) (wants_successor s)
      (wish_by s s.replacement) s
      (λ e. let parts = and_parts (is_open s.phase) _ e in
      wish_holds s s.replacement came put refl parts.0 (and_parts _ _ parts.1).1 h)
      (λ e. h)

  pub settled_or_wished_holds : (s : ClientRole) (came put : List OnLeg) → Holds s came put
      → Holds (settled_or_wished s) came put
  settled_or_wished_holds s came put h =
      by_test (λ (t : ClientRole). Holds t came put) (is_over s)
      (record s { phase = phase.Ended }) (wished s) (λ e. over_now s came put e h)
      (λ e. wished_holds s came put h)

  -- ---- the successor of an OUT channel is the current one

  ended_or_holds : (s : ClientRole) (w : Waits) (came put : List OnLeg)
      → P (record (view s) { way = Free; waiting = w }) came put
      → Holds (ended_or s w) came put
  ended_or_holds s w came put h =
      by_test (λ (t : ClientRole). Holds t came put) (is_over s)
      (record s { phase = phase.Ended }) (after_out s w)
      (λ e. over_holds s w came put e h) (λ e. after_out_holds s w came put h)

  pass_holds : (s : ClientRole) (r : Replacement) (came put : List OnLeg)
      → s.replacement ≡ r → Holds s came put → Holds (pass_by s r) came put
  pass_holds s NoneUnderWay came put e h = h
  pass_holds s (In stage w) came put e h = h
  pass_holds s (Out out_stage.Asked w) came put e h = h
  pass_holds s (Out out_stage.Answered w) came put e h = h
  pass_holds s (Out out_stage.Switched w) came put e h = h
  pass_holds s (Out out_stage.Finished w) came put e h =
      by_test (λ (t : ClientRole). Holds t came put) s.line.has_next s
      (ended_or (succeeded s) w) (λ o. h)
      (λ o. ended_or_holds (succeeded s) w came put
      (events.succeeds (view_by s (Out out_stage.Finished w)) came put
      (at_replacement s (Out out_stage.Finished w) came put e h)))

  pub take_holds : (s : ClientRole) (came put : List OnLeg) → Holds s came put
      → Holds (take s) came put
  take_holds s came put h =
      pass_holds (record s { line = after_take s.line }) s.replacement came put refl
      (events.takes (view s) came put h)

  pub passed_holds : (s : ClientRole) (came put : List OnLeg) → Holds s came put
      → Holds (passed s) came put
  passed_holds s came put h = pass_holds s s.replacement came put refl h
