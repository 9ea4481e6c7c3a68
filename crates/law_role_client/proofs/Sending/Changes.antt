-- what is under way at a client changes
use Rattle.law_order.proofs.Vocabulary.{◌≡◌, suc, ◌+◌, nat_lt, Bool, true, false, if◌then◌else◌, List, Ok, Err, arith, refl, sym, ap, ◌∙◌, subst, false≢true, Result}
use Rattle.rh_shell.specs.declared.answers.Phase.TheVariants as phase
use Rattle.rh_client.specs.declared.replacement.InStage.TheVariants as in_stage
use Rattle.rh_client.specs.declared.replacement.OutStage.TheVariants as out_stage
use Rattle.rh_client.specs.declared.replacement.Waits.TheVariants as waits
use Rattle.law_moves.proofs.Vocabulary.{by_test, Cookie, Leg, RecycleRefused, Last, OnLeg}
use Rattle.law_role_client.proofs.Vocabulary.{LAST_NUMBER, Replacement, NoneUnderWay, In, Out, OutStage, Waits, ClientRole, unopened_in, unopened_out, is_in, with_in, is_opening, is_over, settled, begin_in, begin_out, after_in, after_out, wish_by, wants_successor, wished, recycle_by, handed_over, succeeded, ended_or, pass_at, pass_by, passed, settled_or_wished}
use Rattle.law_role_client.proofs.Sending.Facts.{Seen, seen, put_bytes, IsSo, Kept}
use Rattle.law_role_client.proofs.Sending.Channels.{unknown, with_out_successor}

-- ---- what the facts are about stays

pub record Same (s t : ClientRole) : Type 0 where
  pub same : seen t ≡ seen s
  pub still : is_opening t.phase ≡ true → is_opening s.phase ≡ true

pub quiet : (s t : ClientRole) → seen t ≡ seen s → t.phase ≡ s.phase → Same s t
quiet s t same stage = record { same = same; still = λ e. ap is_opening (sym stage) ∙ e }

pub itself : (s : ClientRole) → Same s s
itself s = quiet s s refl refl

-- its work is done
pub ended_same : (s t : ClientRole) → seen t ≡ seen s → Same s (record t { phase = phase.Ended })
ended_same s t same = record { same = same; still = λ e. absurd (false≢true e) }

pub settled_same : (s t : ClientRole) → seen t ≡ seen s → t.phase ≡ s.phase → Same s (settled t)
settled_same s t same stage =
    by_test (Same s) (is_over t) (record t { phase = phase.Ended }) t (λ e. ended_same s t same)
    (λ e. quiet s t same stage)

-- what is under way is no other direction's
pub turned : (s : ClientRole) (r : Replacement) → is_in r ≡ is_in s.replacement
    → seen (record s { replacement = r }) ≡ seen s
turned s r e = ap (λ (b : Bool). record (seen s) { replaces_in = b }) e

abbrev pub idle : ClientRole → ClientRole
idle s = record s { replacement = NoneUnderWay }

module _ (Comes : Leg → Cookie → Type 0) where
  pub same_kept : (s t : ClientRole) (came put : List OnLeg) → Same s t → Kept Comes s came put
      → Kept Comes t came put
  same_kept s t came put same h = record {
    so = subst (λ (x : Seen). IsSo Comes x came put) (sym same.same) h.so;
    still = λ e. ap (λ (x : Seen). x.writing.window.sent) same.same ∙ h.still (same.still e);
  }

  pub turned_kept : (s : ClientRole) (r : Replacement) (came put : List OnLeg)
      → is_in r ≡ is_in s.replacement → Kept Comes s came put
      → Kept Comes (record s { replacement = r }) came put
  turned_kept s r came put e h =
      same_kept s (record s { replacement = r }) came put
      (quiet s (record s { replacement = r }) (turned s r e) refl) h

  -- of a successor
  pub successor_next : (s : ClientRole) (came put : List OnLeg) → is_in s.replacement ≡ true
      → Kept Comes s came put → s.in_successor.number ≡ suc s.writing.number
  successor_next s came put e h =
      h.so.numbers.next ∙ ap (λ (b : Bool). if b then suc s.writing.number else 0) e

  pub successor_none : (s : ClientRole) (came put : List OnLeg) → is_in s.replacement ≡ true
      → Kept Comes s came put → put_bytes put s.in_successor.number ≡ 0
  successor_none s came put e h =
      let next = successor_next s came put e h in
      h.so.numbers.later s.in_successor.number (omega (arith, next))

  -- ---- a replacement begins

  begin_in_kept : (s : ClientRole) (out_waits : Bool) (came put : List OnLeg)
      → Kept Comes (idle s) came put → Kept Comes (begin_in s out_waits) came put
  begin_in_kept s out_waits came put h =
      let so = h.so in
      by_test (λ (t : ClientRole). Kept Comes t came put) (nat_lt s.writing.number LAST_NUMBER)
      (record s {
        in_successor = unopened_in (s.writing.number + 1) s.config.lifetime;
        replacement = In in_stage.Asked out_waits;
      })
      (idle s)
      (λ e. record {
        so = record {
          numbers = record {
            positive = so.numbers.positive;
            next = omega arith;
            before = so.numbers.before;
            none = so.numbers.none;
            later = so.numbers.later;
          };
          logs = so.logs;
          writing = so.writing;
          in_successor = unknown Comes (s.writing.number + 1) s.config.lifetime came put
              (so.numbers.later (s.writing.number + 1) (omega arith));
          leaving = so.leaving;
          current = so.current;
          out_successor = so.out_successor;
        };
        still = h.still;
      })
      (λ e. h)

  begin_out_kept : (s : ClientRole) (waiting : Waits) (came put : List OnLeg)
      → Kept Comes (idle s) came put → Kept Comes (begin_out s waiting) came put
  begin_out_kept s waiting came put h =
      let next = unopened_out (s.current.number + 1) in
      by_test (λ (t : ClientRole). Kept Comes t came put) (nat_lt s.current.number LAST_NUMBER)
      (record s { out_successor = next; replacement = Out out_stage.Asked waiting }) (idle s)
      (λ e. turned_kept (record (idle s) { out_successor = next })
      (Out out_stage.Asked waiting) came put refl
      (with_out_successor Comes (idle s) next came put (λ up. absurd (false≢true up)) h))
      (λ e. h)

  pub wish_kept : (s : ClientRole) (r : Replacement) (came put : List OnLeg) → s.replacement ≡ r
      → Kept Comes s came put → Kept Comes (wish_by s r) came put
  wish_kept s NoneUnderWay came put e h =
      begin_in_kept s false came put (turned_kept s NoneUnderWay came put (sym (ap is_in e)) h)
  wish_kept s (In stage out_waits) came put e h = h
  wish_kept s (Out stage waiting) came put e h =
      turned_kept s (Out stage (with_in waiting)) came put (sym (ap is_in e)) h

  pub recycle_kept : (s : ClientRole) (r : Replacement) (came put : List OnLeg)
      → s.replacement ≡ r → Kept Comes s came put → Kept Comes (recycle_by s r).0 came put
  recycle_kept s NoneUnderWay came put e h =
      by_test (λ (x : ClientRole × Result (Unit {0}) RecycleRefused). Kept Comes x.0 came put)
      (nat_lt s.writing.number LAST_NUMBER) (begin_in s false, Ok tt) (s, Err Last)
      (λ f. wish_kept s NoneUnderWay came put e h) (λ f. h)
  recycle_kept s (In stage out_waits) came put e h = h
  recycle_kept s (Out stage waiting) came put e h = h

  pub a2_kept : (s : ClientRole) (came put : List OnLeg) → is_in s.replacement ≡ false
      → Kept Comes s came put → Kept Comes (begin_out s waits.Nothing) came put
  a2_kept s came put e h =
      begin_out_kept s waits.Nothing came put (turned_kept s NoneUnderWay came put (sym e) h)

  -- ---- behind a put

  pub settled_kept : (s : ClientRole) (came put : List OnLeg) → Kept Comes s came put
      → Kept Comes (settled_or_wished s) came put
  settled_kept s came put h =
      by_test (λ (t : ClientRole). Kept Comes t came put) (is_over s)
      (record s { phase = phase.Ended }) (wished s)
      (λ e. same_kept s (record s { phase = phase.Ended }) came put (ended_same s s refl) h)
      (λ e. by_test (λ (t : ClientRole). Kept Comes t came put) (wants_successor s)
      (wish_by s s.replacement) s (λ f. wish_kept s s.replacement came put refl h) (λ f. h))

  -- ---- a replacement is over

  after_in_kept : (s : ClientRole) (out_waits : Bool) (came put : List OnLeg)
      → Kept Comes (idle s) came put → Kept Comes (after_in s out_waits) came put
  after_in_kept s true came put h = begin_out_kept s waits.Nothing came put h
  after_in_kept s false came put h = h

  after_out_kept : (s : ClientRole) (waiting : Waits) (came put : List OnLeg)
      → Kept Comes (idle s) came put → Kept Comes (after_out s waiting) came put
  after_out_kept s waits.Nothing came put h = h
  after_out_kept s waits.In came put h = begin_in_kept s false came put h
  after_out_kept s waits.Out came put h = begin_out_kept s waits.Nothing came put h
  after_out_kept s waits.InThenOut came put h = begin_in_kept s true came put h
  after_out_kept s waits.OutThenIn came put h = begin_out_kept s waits.In came put h

  -- the successor is the writing channel, on which nothing was sent
  pub handed_kept : (s : ClientRole) (out_waits : Bool) (came put : List OnLeg)
      → is_in s.replacement ≡ true → Kept Comes s came put
      → Kept Comes (handed_over s out_waits) came put
  handed_kept s out_waits came put e h =
      let so = h.so in
      let next = successor_next s came put e h in
      after_in_kept (record s {
        leaving = s.writing;
        writing = s.in_successor;
        in_successor = unopened_in 0 s.config.lifetime;
      }) out_waits came put (record {
        so = record {
          numbers = record {
            positive = omega (arith, next);
            next = refl;
            before = omega (arith, next);
            none = so.numbers.none;
            later = λ n l. so.numbers.later n (omega (arith, l, next));
          };
          logs = so.logs;
          writing = so.in_successor;
          in_successor = unknown Comes 0 s.config.lifetime came put so.numbers.none;
          leaving = so.writing;
          current = so.current;
          out_successor = so.out_successor;
        };
        still = λ f. so.in_successor.counted ∙ successor_none s came put e h;
      })

  -- the OUT successor is the current channel
  succeeded_kept : (s : ClientRole) (came put : List OnLeg) → is_in s.replacement ≡ false
      → Kept Comes s came put → Kept Comes (succeeded s) came put
  succeeded_kept s came put e h =
      let so = h.so in
      turned_kept (record s {
        current = s.out_successor;
        out_successor = unopened_out 0;
      }) NoneUnderWay came put (sym e) (record {
        so = record {
          numbers = so.numbers;
          logs = so.logs;
          writing = so.writing;
          in_successor = so.in_successor;
          leaving = so.leaving;
          current = so.out_successor;
          out_successor = λ up. absurd (false≢true up);
        };
        still = h.still;
      })

  ended_kept : (s : ClientRole) (waiting : Waits) (came put : List OnLeg)
      → Kept Comes (idle s) came put → Kept Comes s came put
      → Kept Comes (ended_or s waiting) came put
  ended_kept s waiting came put idles h =
      by_test (λ (t : ClientRole). Kept Comes t came put) (is_over s)
      (record s { phase = phase.Ended }) (after_out s waiting)
      (λ e. same_kept s (record s { phase = phase.Ended }) came put (ended_same s s refl) h)
      (λ e. after_out_kept s waiting came put idles)

  pass_kept : (s : ClientRole) (waiting : Waits) (stage : OutStage) (came put : List OnLeg)
      → is_in s.replacement ≡ false → Kept Comes s came put
      → Kept Comes (pass_at s waiting stage) came put
  pass_kept s waiting out_stage.Asked came put e h = h
  pass_kept s waiting out_stage.Answered came put e h = h
  pass_kept s waiting out_stage.Switched came put e h = h
  pass_kept s waiting out_stage.Finished came put e h =
      let over = succeeded_kept s came put e h in
      by_test (λ (t : ClientRole). Kept Comes t came put) s.line.has_next s
      (ended_or (succeeded s) waiting) (λ f. h)
      (λ f. ended_kept (succeeded s) waiting came put over over)

  pub passed_kept : (s : ClientRole) (came put : List OnLeg) → Kept Comes s came put
      → Kept Comes (passed s) came put
  passed_kept s came put h = by s.replacement refl
    where
      by : (r : Replacement) → s.replacement ≡ r → Kept Comes (pass_by s r) came put
      by NoneUnderWay e = h
      by (In stage out_waits) e = h
      by (Out stage waiting) e = pass_kept s waiting stage came put (ap is_in e) h
