-- what is under way at a client changes
use Rattle.law_order.proofs.Vocabulary.{◌≡◌, ◌+◌, nat_lt, Bool, true, false, true≢false, ◌&&◌, List, Ok, Err, refl, sym, ◌∙◌, subst, false≢true, and_parts, Result}
use Rattle.rh_shell.specs.declared.answers.Phase.TheVariants as phase
use Rattle.rh_client.specs.declared.replacement.InStage.TheVariants as in_stage
use Rattle.rh_client.specs.declared.replacement.OutStage.TheVariants as out_stage
use Rattle.rh_client.specs.declared.replacement.Waits.TheVariants as waits
use Rattle.law_moves.proofs.Vocabulary.{wanted, by_test, Cookie, ClientConfig, Leg, RecycleRefused, Last, OnLeg}
use Rattle.law_role_client.proofs.Vocabulary.{LAST_NUMBER, Replacement, NoneUnderWay, In, Out, OutStage, Waits, ClientRole, unopened_in, unopened_out, is_open, is_over, begin_in, begin_out, after_in, after_out, wish_by, wants_successor, wished, recycle_by, handed_over, succeeded, ended_or, pass_at, pass_by, passed, settled_or_wished}
use Rattle.law_role_client_rows.proofs.Putting.Channels.{begins, succeeds}
use Rattle.law_role_client_rows.proofs.Putting.Facts.{Kept}
use Rattle.law_role_client_rows.specs.Putting.{in_way, out_way, HasOpened}

-- with another replacement, or none
abbrev pub turned : ClientRole → Replacement → ClientRole
turned s r = record s { replacement = r }

abbrev pub idle : ClientRole → ClientRole
idle s = turned s NoneUnderWay

module _ (config : ClientConfig) (Comes : Leg → Cookie → Type 0) (Early : Leg → Type 0) where
  abbrev pub Holds : ClientRole → List OnLeg → List OnLeg → Type 0
  Holds s came put = Kept config Comes Early s came put

  -- what is under way is this
  pub at : (s : ClientRole) (r : Replacement) (came put : List OnLeg) → s.replacement ≡ r
      → Holds s came put → Holds (turned s r) came put
  at s r came put e h = subst (λ (q : Replacement). Holds (turned s q) came put) e h

  pub ended : (s : ClientRole) (came put : List OnLeg) → Holds s came put
      → Holds (record s { phase = phase.Ended }) came put
  ended s came put h = record {
    same = h.same;
    opens = λ e. absurd (false≢true e);
    under_way = h.under_way;
    ins = h.ins;
    outs = h.outs;
    switches = h.switches;
  }

  -- ---- a replacement begins

  begin_in_kept : (s : ClientRole) (out_waits : Bool) (came put : List OnLeg) → HasOpened came
      → Holds (idle s) came put → Holds (begin_in s out_waits) came put
  begin_in_kept s out_waits came put opened h =
      by_test (λ (t : ClientRole). Holds t came put) (nat_lt s.writing.number LAST_NUMBER)
      (record s {
        in_successor = unopened_in (s.writing.number + 1) s.config.lifetime;
        replacement = In in_stage.Asked out_waits;
      })
      (idle s)
      (λ e. record {
        same = h.same;
        opens = h.opens;
        under_way = λ f. opened;
        ins = begins (in_way config Comes) Comes Early h.ins;
        outs = h.outs;
        switches = h.switches;
      })
      (λ e. h)

  pub begin_out_kept : (s : ClientRole) (waiting : Waits) (came put : List OnLeg)
      → HasOpened came → Holds (idle s) came put → Holds (begin_out s waiting) came put
  begin_out_kept s waiting came put opened h =
      by_test (λ (t : ClientRole). Holds t came put) (nat_lt s.current.number LAST_NUMBER)
      (record s {
        out_successor = unopened_out (s.current.number + 1);
        replacement = Out out_stage.Asked waiting;
      })
      (idle s)
      (λ e. record {
        same = h.same;
        opens = h.opens;
        under_way = λ f. opened;
        ins = h.ins;
        outs = begins (out_way config) Comes Early h.outs;
        switches = h.switches;
      })
      (λ e. h)

  wish_kept : (s : ClientRole) (r : Replacement) (came put : List OnLeg) → s.replacement ≡ r
      → HasOpened came → Holds s came put → Holds (wish_by s r) came put
  wish_kept s NoneUnderWay came put e opened h =
      begin_in_kept s false came put opened (at s NoneUnderWay came put e h)
  wish_kept s (In stage out_waits) came put e opened h = h
  wish_kept s (Out stage waiting) came put e opened h = at s (Out stage waiting) came put e h

  pub recycle_kept : (s : ClientRole) (r : Replacement) (came put : List OnLeg)
      → s.replacement ≡ r → HasOpened came → Holds s came put
      → Holds (recycle_by s r).0 came put
  recycle_kept s NoneUnderWay came put e opened h =
      by_test (λ (x : ClientRole × Result (Unit {0}) RecycleRefused). Holds x.0 came put)
      (nat_lt s.writing.number LAST_NUMBER) (begin_in s false, Ok tt) (s, Err Last)
      (λ f. wish_kept s NoneUnderWay came put e opened h) (λ f. h)
  recycle_kept s (In stage out_waits) came put e opened h = h
  recycle_kept s (Out stage waiting) came put e opened h = h

  -- ---- behind a put

  pub settled_kept : (s : ClientRole) (came put : List OnLeg) → Holds s came put
      → Holds (settled_or_wished s) came put
  settled_kept s came put h =
      by_test (λ (t : ClientRole). Holds t came put) (is_over s)
      (record s { phase = phase.Ended }) (wished s) (λ e. ended s came put h)
      (λ e. by_test (λ (t : ClientRole). Holds t came put) (wants_successor s)
      (wish_by s s.replacement) s
      (λ f. wish_kept s s.replacement came put refl (h.opens (open_of f)) h) (λ f. h))
    where
      open_of : wants_successor s ≡ true → is_open s.phase ≡ true
      open_of f =
          (and_parts (is_open s.phase)
          (wanted s.writing.meter && nat_lt s.writing.number LAST_NUMBER) f).0

  -- ---- a replacement is over

  after_in_kept : (s : ClientRole) (out_waits : Bool) (came put : List OnLeg) → HasOpened came
      → Holds (idle s) came put → Holds (after_in s out_waits) came put
  after_in_kept s true came put opened h = begin_out_kept s waits.Nothing came put opened h
  after_in_kept s false came put opened h = h

  after_out_kept : (s : ClientRole) (waiting : Waits) (came put : List OnLeg) → HasOpened came
      → Holds (idle s) came put → Holds (after_out s waiting) came put
  after_out_kept s waits.Nothing came put opened h = h
  after_out_kept s waits.In came put opened h = begin_in_kept s false came put opened h
  after_out_kept s waits.Out came put opened h = begin_out_kept s waits.Nothing came put opened h
  after_out_kept s waits.InThenOut came put opened h = begin_in_kept s true came put opened h
  after_out_kept s waits.OutThenIn came put opened h = begin_out_kept s waits.In came put opened h

  -- the IN successor is the writing channel
  pub handed_kept : (s : ClientRole) (out_waits : Bool) (came put : List OnLeg)
      → Holds (turned s (In in_stage.Answered out_waits)) came put
      → Holds (handed_over s out_waits) came put
  handed_kept s out_waits came put h =
      after_in_kept (record s {
        leaving = s.writing;
        writing = s.in_successor;
        in_successor = unopened_in 0 s.config.lifetime;
      }) out_waits came put (h.under_way refl) (record {
        same = h.same;
        opens = h.opens;
        under_way = λ f. absurd (true≢false f);
        ins = succeeds (in_way config Comes) Comes Early h.ins 0;
        outs = h.outs;
        switches = h.switches;
      })

  -- the OUT successor is the current channel
  succeeded_kept : (s : ClientRole) (waiting : Waits) (came put : List OnLeg)
      → Holds (turned s (Out out_stage.Finished waiting)) came put
      → Holds (succeeded s) came put
  succeeded_kept s waiting came put h = record {
    same = h.same;
    opens = h.opens;
    under_way = λ f. absurd (true≢false f);
    ins = h.ins;
    outs = succeeds (out_way config) Comes Early h.outs 0;
    switches = record {
      each = h.switches.each;
      counted = h.switches.counted ∙ sym (h.outs.legs.next refl);
    };
  }

  ended_kept : (s : ClientRole) (waiting : Waits) (came put : List OnLeg) → HasOpened came
      → Holds (idle s) came put → Holds s came put → Holds (ended_or s waiting) came put
  ended_kept s waiting came put opened idles h =
      by_test (λ (t : ClientRole). Holds t came put) (is_over s)
      (record s { phase = phase.Ended }) (after_out s waiting) (λ e. ended s came put h)
      (λ e. after_out_kept s waiting came put opened idles)

  pass_kept : (s : ClientRole) (waiting : Waits) (stage : OutStage) (came put : List OnLeg)
      → s.replacement ≡ Out stage waiting → Holds s came put
      → Holds (pass_at s waiting stage) came put
  pass_kept s waiting out_stage.Asked came put e h = h
  pass_kept s waiting out_stage.Answered came put e h = h
  pass_kept s waiting out_stage.Switched came put e h = h
  pass_kept s waiting out_stage.Finished came put e h =
      let here = at s (Out out_stage.Finished waiting) came put e h in
      let over = succeeded_kept s waiting came put here in
      by_test (λ (t : ClientRole). Holds t came put) s.line.has_next s
      (ended_or (succeeded s) waiting) (λ f. h)
      (λ f. ended_kept (succeeded s) waiting came put (here.under_way refl) over over)

  pub passed_kept : (s : ClientRole) (came put : List OnLeg) → Holds s came put
      → Holds (passed s) came put
  passed_kept s came put h = by s.replacement refl
    where
      by : (r : Replacement) → s.replacement ≡ r → Holds (pass_by s r) came put
      by NoneUnderWay e = h
      by (In stage out_waits) e = h
      by (Out stage waiting) e = pass_kept s waiting stage came put e h
