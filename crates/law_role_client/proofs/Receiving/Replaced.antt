-- what is known of a client's OUT channels stays so while channels are replaced
use Rattle.law_order.proofs.Vocabulary.{◌≡◌, ℕ, suc, ◌+◌, ◌≤◌, ◌<◌, Bool, true, false, true≢false, ◌&&◌, nat_lt, List, [], ◌∷◌, Ok, Err, arith, refl, sym, ap, ◌∙◌, subst, and_parts, Result}
use Rattle.rh_line.specs.Lines as lines
use Rattle.rh_shell.specs.declared.answers.Phase.TheVariants as phase
use Rattle.rh_client.specs.declared.replacement.InStage.TheVariants as in_stage
use Rattle.rh_client.specs.declared.replacement.OutStage.TheVariants as out_stage
use Rattle.rh_client.specs.declared.replacement.Waits.TheVariants as waits
use Rattle.law_moves.proofs.Vocabulary.{by_test, Incoming, after_open_next, is_empty, moved_on, released, settled as settled_line, RecycleRefused, Last, OnLeg, of_leg, pdu_bytes}
use Rattle.law_role_client.proofs.Vocabulary.{OutChannel, LAST_NUMBER, Replacement, NoneUnderWay, In, Out, OutStage, Waits, ClientRole, unopened_in, unopened_out, is_up, is_out, is_finished, co, is_over, begin_in, begin_out, after_in, after_out, recycle_by, wish_by, wished, wants_successor, succeeded, ended_or, pass_by, passed, settled_or_wished}
use Rattle.law_role_client.proofs.Receiving.Windows.{Counts, released_counts}
use Rattle.law_role_client.proofs.Receiving.Facts.{Channel, Seen, Known, IsRisen, Kept, told_grows}

-- ---- what is seen of a client

-- OUT_R1/A6 came
abbrev pub is_answered_stage : OutStage → Bool
is_answered_stage out_stage.Asked = false
is_answered_stage out_stage.Answered = true
is_answered_stage out_stage.Switched = true
is_answered_stage out_stage.Finished = true

abbrev pub is_answered : Replacement → Bool
is_answered NoneUnderWay = false
is_answered (In stage out_waits) = false
is_answered (Out stage waiting) = is_answered_stage stage

abbrev pub channel : OutChannel → Channel
channel c = record { number = c.number; cookie = c.cookie; up = is_up c.opening }

abbrev pub seen_by : ClientRole → Replacement → Seen
seen_by s r = record {
  window = s.config.window;
  line = s.line;
  current = channel s.current;
  successor = channel s.out_successor;
  replaces = is_out r;
  answered = is_answered r;
  finished = is_finished r;
}

abbrev pub seen : ClientRole → Seen
seen s = seen_by s s.replacement

abbrev pub Same : ClientRole → ClientRole → Type 0
Same s t = seen t ≡ seen s

module _ (window : ℕ) (known : Known) (came put : List OnLeg) where
  abbrev pub Of : Seen → Type 0
  Of x = Kept window known x came put

  abbrev pub Holds : ClientRole → Type 0
  Holds s = Of (seen s)

  pub same_holds : (s t : ClientRole) → Same s t → Holds s → Holds t
  same_holds s t same h = subst Of (sym same) h

  pub by_replacement : (s : ClientRole) (r : Replacement) → s.replacement ≡ r → Holds s
      → Of (seen_by s r)
  by_replacement s r e h = subst (λ (x : Replacement). Of (seen_by s x)) e h

  -- ---- another replacement, while OUT_R1/A10 did not come

  pub another : (x : Seen) (z : Channel) (replaces : Bool)
      → (replaces ≡ true → z.number ≡ suc x.current.number)
      → (replaces ≡ true → IsRisen known z) → x.finished ≡ false → Of x
      → Of (record x {
        successor = z;
        replaces = replaces;
        answered = false;
        finished = false;
      })
  another x z replaces follows risen e h = record {
    numbered = record {
      window_is = h.numbered.window_is;
      from_one = h.numbered.from_one;
      follows = follows;
      later = h.numbered.later;
      next_up = λ f. absurd (true≢false (sym f));
    };
    lined = record {
      size = h.lined.size;
      told = h.lined.told;
      next_told = h.lined.next_told;
      next_held = h.lined.next_held;
      finished = h.lined.finished ∙ e;
      there = λ f. absurd (true≢false (sym f));
    };
    counted = h.counted;
    risen = record { now = h.risen.now; next = risen; first = h.risen.first };
    says = h.says;
    up = h.up;
    acks = h.acks;
  }

  pub none_out : (s : ClientRole) (r : Replacement) → is_out r ≡ false → is_finished r ≡ false
      → is_answered r ≡ false → is_finished s.replacement ≡ false → Holds s → Of (seen_by s r)
  none_out s r out finished answered e h =
      subst Of (same (is_out r) (is_answered r) (is_finished r) out answered finished)
      (another (seen s) (channel s.out_successor) false (λ f. absurd (true≢false (sym f)))
      (λ f. absurd (true≢false (sym f))) e h)
    where
      same : (a b c : Bool) → a ≡ false → b ≡ false → c ≡ false
          → record (seen s) {
            successor = channel s.out_successor;
            replaces = false;
            answered = false;
            finished = false;
          }
          ≡ record (seen s) { replaces = a; answered = b; finished = c }
      same false false false f g i = refl
      same true b c f g i = absurd (true≢false f)
      same false true c f g i = absurd (true≢false g)
      same false false true f g i = absurd (true≢false i)

  pub begin_in_holds : (s : ClientRole) (out_waits : Bool) → is_finished s.replacement ≡ false
      → Holds s → Holds (begin_in s out_waits)
  begin_in_holds s out_waits e h =
      by_test Holds (nat_lt s.writing.number LAST_NUMBER)
      (record s {
        in_successor = unopened_in (s.writing.number + 1) s.config.lifetime;
        replacement = In in_stage.Asked out_waits;
      })
      (record s { replacement = NoneUnderWay })
      (λ f. none_out s (In in_stage.Asked out_waits) refl refl refl e h)
      (λ f. none_out s NoneUnderWay refl refl refl e h)

  pub begin_out_holds : (s : ClientRole) (waiting : Waits) → is_finished s.replacement ≡ false
      → Holds s → Holds (begin_out s waiting)
  begin_out_holds s waiting e h =
      by_test Holds (nat_lt s.current.number LAST_NUMBER)
      (record s {
        out_successor = unopened_out (s.current.number + 1);
        replacement = Out out_stage.Asked waiting;
      })
      (record s { replacement = NoneUnderWay })
      (λ f. another (seen s) (channel (unopened_out (s.current.number + 1))) true
      (λ g. omega arith) (λ g i. absurd (true≢false (sym i))) e h)
      (λ f. none_out s NoneUnderWay refl refl refl e h)

  pub after_in_holds : (s : ClientRole) (out_waits : Bool) → is_finished s.replacement ≡ false
      → Holds s → Holds (after_in s out_waits)
  after_in_holds s true e h = begin_out_holds s waits.Nothing e h
  after_in_holds s false e h = none_out s NoneUnderWay refl refl refl e h

  after_out_holds : (s : ClientRole) (waiting : Waits) → is_finished s.replacement ≡ false
      → Holds s → Holds (after_out s waiting)
  after_out_holds s waits.Nothing e h = none_out s NoneUnderWay refl refl refl e h
  after_out_holds s waits.In e h = begin_in_holds s false e h
  after_out_holds s waits.Out e h = begin_out_holds s waits.Nothing e h
  after_out_holds s waits.InThenOut e h = begin_in_holds s true e h
  after_out_holds s waits.OutThenIn e h = begin_out_holds s waits.In e h

  wish_holds : (s : ClientRole) (r : Replacement) → s.replacement ≡ r → Holds s
      → Holds (wish_by s r)
  wish_holds s NoneUnderWay e h = begin_in_holds s false (ap is_finished e) h
  wish_holds s (In stage out_waits) e h = h
  wish_holds s (Out stage waiting) e h = by_replacement s (Out stage waiting) e h

  pub settled_holds : (s : ClientRole) → Holds s → Holds (settled_or_wished s)
  settled_holds s h =
      by_test Holds (is_over s) (record s { phase = phase.Ended }) (wished s) (λ e. h)
      (λ e. by_test Holds (wants_successor s) (wish_by s s.replacement) s
      (λ f. wish_holds s s.replacement refl h) (λ f. h))

  pub recycle_holds : (s : ClientRole) (r : Replacement) → s.replacement ≡ r → Holds s
      → Holds (recycle_by s r).0
  recycle_holds s NoneUnderWay e h =
      by_test (λ (x : ClientRole × Result (Unit {0}) RecycleRefused). Holds x.0)
      (nat_lt s.writing.number LAST_NUMBER) (begin_in s false, Ok tt) (s, Err Last)
      (λ f. begin_in_holds s false (ap is_finished e) h) (λ f. h)
  recycle_holds s (In stage out_waits) e h = h
  recycle_holds s (Out stage waiting) e h = h

  -- ---- the successor is the current channel

  moves_on : (x : Seen) (z : Channel) → x.replaces ≡ true → x.answered ≡ true
      → x.finished ≡ true → Of x
      → Of (record x {
        line = moved_on x.line;
        current = x.successor;
        successor = z;
        replaces = false;
        answered = false;
        finished = false;
      })
  moves_on x z replaces answered finished h =
      let follows = h.numbered.follows replaces in
      let up = h.numbered.next_up answered in
      let is_told = h.lined.next_told (h.lined.there finished) in
      record {
        numbered = record {
          window_is = h.numbered.window_is;
          from_one = omega (arith, follows);
          follows = λ e. absurd (true≢false (sym e));
          later = λ e. up;
          next_up = λ e. absurd (true≢false (sym e));
        };
        lined = record {
          size = h.lined.size;
          told = omega (arith, is_told);
          next_told = λ e. absurd (true≢false (sym e));
          next_held = refl;
          finished = refl;
          there = λ e. absurd (true≢false (sym e));
        };
        counted = record {
          now =
              subst (λ (n : ℕ).
              Counts window x.line.next (pdu_bytes (of_leg (co n) came))) (sym follows)
              h.counted.next;
          next = record { received = omega arith; counted = refl; size = h.lined.size };
        };
        risen = record {
          now = h.risen.next replaces;
          next = λ e. absurd (true≢false (sym e));
          first = λ so e. up;
        };
        says = h.says;
        up = λ so e. up;
        acks = λ so.
            told_grows known x (record x {
              line = moved_on x.line;
              current = x.successor;
              successor = z;
              replaces = false;
              answered = false;
              finished = false;
            }) came came
            (record {
              arrived = λ n. omega arith;
              number = omega (arith, follows);
              told = λ e. absurd (omega (arith, e, follows));
            })
            put (h.acks so);
      }

  ended_or_holds : (s : ClientRole) (waiting : Waits) → is_finished s.replacement ≡ false
      → Holds s → Holds (ended_or s waiting)
  ended_or_holds s waiting e h =
      by_test Holds (is_over s) (record s { phase = phase.Ended }) (after_out s waiting) (λ f. h)
      (λ f. after_out_holds s waiting e h)

  -- the line stays, and so does the current channel
  stays : (s : ClientRole) (r : Replacement) → s.replacement ≡ r → Holds s → Holds (pass_by s r)
  stays s NoneUnderWay e h = h
  stays s (In stage out_waits) e h = h
  stays s (Out out_stage.Asked waiting) e h = h
  stays s (Out out_stage.Answered waiting) e h = h
  stays s (Out out_stage.Switched waiting) e h = h
  stays s (Out out_stage.Finished waiting) e h =
      by_test Holds s.line.has_next s (ended_or (succeeded s) waiting) (λ f. h)
      (λ f. absurd (true≢false (sym (h.lined.there (ap is_finished e)) ∙ f)))

  goes_on : (s : ClientRole) (r : Replacement) → s.replacement ≡ r → is_finished r ≡ true
      → Holds s → Holds (pass_by (record s { line = moved_on s.line }) r)
  goes_on s NoneUnderWay e f h = absurd (true≢false (sym f))
  goes_on s (In stage out_waits) e f h = absurd (true≢false (sym f))
  goes_on s (Out out_stage.Asked waiting) e f h = absurd (true≢false (sym f))
  goes_on s (Out out_stage.Answered waiting) e f h = absurd (true≢false (sym f))
  goes_on s (Out out_stage.Switched waiting) e f h = absurd (true≢false (sym f))
  goes_on s (Out out_stage.Finished waiting) e f h =
      ended_or_holds (succeeded (record s { line = moved_on s.line })) waiting refl
      (moves_on (seen_by s (Out out_stage.Finished waiting)) (channel (unopened_out 0)) refl refl
      refl (by_replacement s (Out out_stage.Finished waiting) e h))

  -- the line moves on where it is finished and empty
  pub settles : (s : ClientRole) → Holds s
      → Holds (passed (record s { line = settled_line s.line }))
  settles s h =
      by_test (λ (line : lines.Line). Holds (passed (record s { line = line })))
      (s.line.finished && is_empty s.line.current.pdus) (moved_on s.line) s.line
      (λ e. goes_on s s.replacement refl
      (sym h.lined.finished ∙ (and_parts s.line.finished (is_empty s.line.current.pdus) e).0) h)
      (λ e. stays s s.replacement refl h)

  -- ---- the receiver's side of one of the channels changes

  -- of the current one, which tells no less than before
  pub current_changes : (x : Seen) (c : Incoming)
      → x.line.current.window.told ≤ c.window.told
      → Counts window c (pdu_bytes (of_leg (co x.current.number) came))
      → (known.UpFirst → 0 < c.window.received → x.current.up ≡ true) → Of x
      → Of (record x { line = record (x.line) { current = c } })
  current_changes x c more counts up h =
      let now = record x { line = record (x.line) { current = c } } in
      record {
        numbered = h.numbered;
        lined = record {
          size = h.lined.size;
          told = let before = h.lined.told in omega (arith, before, more);
          next_told = h.lined.next_told;
          next_held = h.lined.next_held;
          finished = h.lined.finished;
          there = h.lined.there;
        };
        counted = record { now = counts; next = h.counted.next };
        risen = h.risen;
        says = h.says;
        up = up;
        acks = λ so.
            told_grows known x now came came
            (record {
              arrived = λ n. omega arith;
              number = omega arith;
              told = λ e. more;
            })
            put (h.acks so);
      }

  -- of the next one, which told a whole window if it is there, and released nothing
  pub next_changes : (x : Seen) (c : Incoming) → (x.line.has_next ≡ true → c.window.told ≡ window)
      → c.window.released ≡ 0
      → Counts window c (pdu_bytes (of_leg (co (suc x.current.number)) came)) → Of x
      → Of (record x { line = record (x.line) { next = c } })
  next_changes x c told released counts h = record {
    numbered = h.numbered;
    lined = record {
      size = h.lined.size;
      told = h.lined.told;
      next_told = told;
      next_held = released;
      finished = h.lined.finished;
      there = h.lined.there;
    };
    counted = record { now = h.counted.now; next = counts };
    risen = h.risen;
    says = h.says;
    up = h.up;
    acks = h.acks;
  }

  -- the next one is there, and has a whole window
  pub next_opens : (x : Seen) → Of x → Of (record x { line = after_open_next x.line false })
  next_opens x h = record {
    numbered = h.numbered;
    lined = record {
      size = h.lined.size;
      told = h.lined.told;
      next_told = λ e. h.lined.size;
      next_held = refl;
      finished = h.lined.finished;
      there = λ e. refl;
    };
    counted = record {
      now = h.counted.now;
      next = record { received = omega arith; counted = refl; size = h.lined.size };
    };
    risen = h.risen;
    says = h.says;
    up = h.up;
    acks = h.acks;
  }

  -- the first PDU is taken
  pub take_holds : (s : ClientRole) (pdus : List (List ℕ)) → s.line.current.pdus ≡ pdus
      → Holds s → Holds (passed (record s { line = lines.taken pdus s.line }))
  take_holds s [] e h = stays s s.replacement refl h
  take_holds s (pdu ∷ pdus) e h =
      settles (record s {
        line = record (s.line) { current = released (pdu ∷ pdus) s.line.current };
      })
      (current_changes (seen s) (released (pdu ∷ pdus) s.line.current) (omega arith)
      (released_counts window s.line.current (pdu ∷ pdus)
      (pdu_bytes (of_leg (co s.current.number) came)) e h.counted.now) h.up h)
