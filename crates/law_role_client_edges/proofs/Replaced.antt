-- what is known of a client's channels stays so while channels are replaced, and its work is done
use Rattle.law_order.proofs.Vocabulary.{◌≡◌, ℕ, suc, ◌+◌, Bool, true, false, true≢false, ◌&&◌, nat_lt, List, [], ◌∷◌, Ok, Err, inl, arith, refl, sym, ap, ◌∙◌, subst, and_parts, Result}
use Rattle.rh_line.specs.Lines as lines
use Rattle.rh_shell.specs.declared.answers.Phase.TheVariants as phase
use Rattle.rh_client.specs.declared.replacement.InStage.TheVariants as in_stage
use Rattle.rh_client.specs.declared.replacement.OutStage.TheVariants as out_stage
use Rattle.rh_client.specs.declared.replacement.Waits.TheVariants as waits
use Rattle.law_moves.proofs.Vocabulary.{by_test, Cookie, Phase, Line, Incoming, after_open_next, is_empty, moved_on, released, settled as settled_line, RecycleRefused, Last, Leg, OnLeg, is_ended}
use Rattle.law_role_client.proofs.Vocabulary.{LAST_NUMBER, Replacement, NoneUnderWay, In, Out, Waits, ClientRole, unopened_in, unopened_out, is_none, is_open, is_opening, is_over, begin_in, begin_out, after_in, after_out, recycle_by, wish_by, wished, wants_successor, succeeded, ended_or, pass_by, passed, settled, settled_or_wished}
use Rattle.law_role_client.proofs.Counted.Views.{Free, InIsAsked, OutIsAsked, OutIsFinished, way_of}
use Rattle.law_role_client_edges.proofs.Facts.{InSeen, OutSeen, Seen, seen, seen_by, in_seen, out_seen, is_finished_way, IsAcked, Kept, live, by_replacement}

-- an open client is not opening, and its work is not done
pub open_is : (p : Phase) → is_open p ≡ true → (is_opening p ≡ false) × (is_ended p ≡ false)
open_is phase.Opening e = absurd (true≢false (sym e))
open_is phase.Open e = (refl, refl)
open_is phase.Ended e = absurd (true≢false (sym e))

none_of : (r : Replacement) → is_none r ≡ true → r ≡ NoneUnderWay
none_of NoneUnderWay e = refl
none_of (In stage w) e = absurd (true≢false (sym e))
none_of (Out stage w) e = absurd (true≢false (sym e))

module _ (Answers Rises : Type 0) (Comes : Leg → Cookie → Type 0) (came put : List OnLeg) where
  abbrev pub Of : Seen → Type 0
  Of x = Kept Answers Rises Comes x came put

  abbrev pub Holds : ClientRole → Type 0
  Holds s = Of (seen s)

  -- the client is open
  abbrev pub IsLive : ClientRole → Type 0
  IsLive s = (is_opening s.phase ≡ false) × (is_ended s.phase ≡ false)

  at : (s : ClientRole) (r : Replacement) → s.replacement ≡ r → Holds s → Of (seen_by s r)
  at s r e h = by_replacement Answers Rises Comes s r came put e h

  -- ---- a replacement begins

  begins_in : (x : Seen) (next : InSeen) → is_opening x.phase ≡ false → is_ended x.phase ≡ false
      → next.number ≡ suc x.writing.number → next.up ≡ false → Of (record x { way = Free })
      → Of (record x { way = InIsAsked; in_successor = next })
  begins_in x next o e number down h = record {
    fresh = λ f. absurd (true≢false (sym f ∙ o));
    ins = record {
      follows = λ f. number;
      next_up = λ f. absurd (true≢false (sym f));
      next_in = λ f. refl;
      before = h.ins.before;
      comes = h.ins.comes;
      next_comes = λ f. absurd (true≢false (sym f ∙ down));
      leaving_comes = h.ins.leaving_comes;
      counted = h.ins.counted;
      up = h.ins.up;
      told = h.ins.told;
      next_told = λ f. absurd (true≢false (sym f));
      leaving_told = h.ins.leaving_told;
      knows = h.ins.knows;
      knows_next = λ a f. absurd (true≢false (sym f));
      knows_leaving = h.ins.knows_leaving;
    };
    outs = record {
      follows = λ f. absurd (true≢false (sym f));
      next_up = λ f. absurd (true≢false (sym f));
      up = h.outs.up;
      size_is = h.outs.size_is;
      acked = h.outs.acked;
      next_window = h.outs.next_window;
      next_held = h.outs.next_held;
      next_size = h.outs.next_size;
      begun = h.outs.begun;
      next_begun = h.outs.next_begun;
      finished = h.outs.finished;
      there = λ f. absurd (true≢false (sym f));
    };
    over = λ f. absurd (true≢false (sym f ∙ e));
  }

  begins_out : (x : Seen) (next : OutSeen) → is_opening x.phase ≡ false
      → is_ended x.phase ≡ false → next.number ≡ suc x.current.number → next.asked ≡ false
      → Of (record x { way = Free }) → Of (record x { way = OutIsAsked; out_successor = next })
  begins_out x next o e number down h = record {
    fresh = λ f. absurd (true≢false (sym f ∙ o));
    ins = record {
      follows = λ f. absurd (true≢false (sym f));
      next_up = λ f. absurd (true≢false (sym f));
      next_in = h.ins.next_in;
      before = h.ins.before;
      comes = h.ins.comes;
      next_comes = h.ins.next_comes;
      leaving_comes = h.ins.leaving_comes;
      counted = h.ins.counted;
      up = h.ins.up;
      told = h.ins.told;
      next_told = λ f. absurd (true≢false (sym f));
      leaving_told = h.ins.leaving_told;
      knows = h.ins.knows;
      knows_next = λ a f. absurd (true≢false (sym f));
      knows_leaving = h.ins.knows_leaving;
    };
    outs = record {
      follows = λ f. number;
      next_up = λ f. absurd (true≢false (sym f));
      up = h.outs.up;
      size_is = h.outs.size_is;
      acked = h.outs.acked;
      next_window = h.outs.next_window;
      next_held = h.outs.next_held;
      next_size = h.outs.next_size;
      begun = h.outs.begun;
      next_begun = λ f. absurd (true≢false (sym f ∙ down));
      finished = h.outs.finished;
      there = λ f. absurd (true≢false (sym f));
    };
    over = λ f. absurd (true≢false (sym f ∙ e));
  }

  begin_in_holds : (s : ClientRole) (out_waits : Bool) → IsLive s
      → Of (record (seen s) { way = Free }) → Holds (begin_in s out_waits)
  begin_in_holds s out_waits is h =
      by_test Holds (nat_lt s.writing.number LAST_NUMBER)
      (record s {
        in_successor = unopened_in (s.writing.number + 1) s.config.lifetime;
        replacement = In in_stage.Asked out_waits;
      })
      (record s { replacement = NoneUnderWay })
      (λ e. begins_in (seen s) (in_seen (unopened_in (s.writing.number + 1) s.config.lifetime)) is.0
      is.1 (omega arith) refl h)
      (λ e. h)

  pub begin_out_holds : (s : ClientRole) (waiting : Waits) → IsLive s
      → Of (record (seen s) { way = Free }) → Holds (begin_out s waiting)
  begin_out_holds s waiting is h =
      by_test Holds (nat_lt s.current.number LAST_NUMBER)
      (record s {
        out_successor = unopened_out (s.current.number + 1);
        replacement = Out out_stage.Asked waiting;
      })
      (record s { replacement = NoneUnderWay })
      (λ e. begins_out (seen s) (out_seen (unopened_out (s.current.number + 1))) is.0 is.1
      (omega arith) refl h)
      (λ e. h)

  pub after_in_holds : (s : ClientRole) (out_waits : Bool) → IsLive s
      → Of (record (seen s) { way = Free }) → Holds (after_in s out_waits)
  after_in_holds s true is h = begin_out_holds s waits.Nothing is h
  after_in_holds s false is h = h

  after_out_holds : (s : ClientRole) (waiting : Waits) → IsLive s
      → Of (record (seen s) { way = Free }) → Holds (after_out s waiting)
  after_out_holds s waits.Nothing is h = h
  after_out_holds s waits.In is h = begin_in_holds s false is h
  after_out_holds s waits.Out is h = begin_out_holds s waits.Nothing is h
  after_out_holds s waits.InThenOut is h = begin_in_holds s true is h
  after_out_holds s waits.OutThenIn is h = begin_out_holds s waits.In is h

  wish_holds : (s : ClientRole) (r : Replacement) → s.replacement ≡ r → IsLive s → Holds s
      → Holds (wish_by s r)
  wish_holds s NoneUnderWay e is h = begin_in_holds s false is (at s NoneUnderWay e h)
  wish_holds s (In stage out_waits) e is h = h
  wish_holds s (Out stage waiting) e is h = at s (Out stage waiting) e h

  pub recycle_holds : (s : ClientRole) (r : Replacement) → s.replacement ≡ r → IsLive s
      → Holds s → Holds (recycle_by s r).0
  recycle_holds s NoneUnderWay e is h =
      by_test (λ (x : ClientRole × Result (Unit {0}) RecycleRefused). Holds x.0)
      (nat_lt s.writing.number LAST_NUMBER) (begin_in s false, Ok tt) (s, Err Last)
      (λ f. begin_in_holds s false is (at s NoneUnderWay e h)) (λ f. h)
  recycle_holds s (In stage out_waits) e is h = h
  recycle_holds s (Out stage waiting) e is h = h

  -- ---- the work is done

  ends : (x : Seen) → x.line.current.ended ≡ true → x.end_put ≡ true
      → Of (record x { way = Free }) → Of (record x { phase = phase.Ended; way = Free })
  ends x ended is_put h = by (is_opening x.phase) refl
    where
      by : (b : Bool) → is_opening x.phase ≡ b
          → Of (record x { phase = phase.Ended; way = Free })
      by true o = absurd (true≢false (sym is_put ∙ (h.fresh o).not_put))
      by false o = record {
        fresh = λ f. absurd (true≢false (sym f));
        ins = record {
          follows = h.ins.follows;
          next_up = h.ins.next_up;
          next_in = h.ins.next_in;
          before = λ f. ((h.ins.before f).0, refl);
          comes = h.ins.comes;
          next_comes = h.ins.next_comes;
          leaving_comes = h.ins.leaving_comes;
          counted = λ f. h.ins.counted o;
          up = λ a f. h.ins.up a o;
          told = λ f. h.ins.told o;
          next_told = h.ins.next_told;
          leaving_told = h.ins.leaving_told;
          knows = λ a f own. h.ins.knows a o own;
          knows_next = h.ins.knows_next;
          knows_leaving = h.ins.knows_leaving;
        };
        outs = record {
          follows = h.outs.follows;
          next_up = h.outs.next_up;
          up = λ a f. h.outs.up a o;
          size_is = h.outs.size_is;
          acked = h.outs.acked;
          next_window = h.outs.next_window;
          next_held = h.outs.next_held;
          next_size = h.outs.next_size;
          begun = h.outs.begun;
          next_begun = h.outs.next_begun;
          finished = h.outs.finished;
          there = h.outs.there;
        };
        over = λ f. (refl, ended, is_put);
      }

  over_now : (s : ClientRole) → is_over s ≡ true → Holds s
      → Holds (record s { phase = phase.Ended })
  over_now s e h =
      let parts =
      and_parts (s.is_closing && s.writing.is_end_put)
      (s.line.current.ended && is_none s.replacement) e in
      let is_put = (and_parts s.is_closing s.writing.is_end_put parts.0).1 in
      let came_there = and_parts s.line.current.ended (is_none s.replacement) parts.1 in
      let none = none_of s.replacement came_there.1 in
      subst (λ (r : Replacement). Of (record (seen_by s r) { phase = phase.Ended })) (sym none)
      (ends (seen_by s NoneUnderWay) came_there.0 is_put (at s NoneUnderWay none h))

  pub settled_holds : (s : ClientRole) → Holds s → Holds (settled s)
  settled_holds s h =
      by_test Holds (is_over s) (record s { phase = phase.Ended }) s (λ e. over_now s e h)
      (λ e. h)

  pub settled_or_wished_holds : (s : ClientRole) → Holds s → Holds (settled_or_wished s)
  settled_or_wished_holds s h =
      by_test Holds (is_over s) (record s { phase = phase.Ended }) (wished s)
      (λ e. over_now s e h)
      (λ e. by_test Holds (wants_successor s) (wish_by s s.replacement) s
      (λ f. wish_holds s s.replacement refl
      (open_is s.phase (and_parts (is_open s.phase) _ f).0) h)
      (λ f. h))

  -- ---- the successor is the current channel

  moves_on : (x : Seen) (next : OutSeen) → next.asked ≡ false
      → Of (record x { way = OutIsFinished })
      → Of (record x {
        way = Free;
        current = x.out_successor;
        out_successor = next;
        line = moved_on x.line;
      })
  moves_on x next down h =
      let is = live Answers Rises Comes (record x { way = OutIsFinished }) came put refl h in
      record {
        fresh = λ f. absurd (true≢false (sym f ∙ is.0));
        ins = record {
          follows = h.ins.follows;
          next_up = h.ins.next_up;
          next_in = h.ins.next_in;
          before = h.ins.before;
          comes = h.ins.comes;
          next_comes = h.ins.next_comes;
          leaving_comes = h.ins.leaving_comes;
          counted = h.ins.counted;
          up = h.ins.up;
          told = h.ins.told;
          next_told = h.ins.next_told;
          leaving_told = h.ins.leaving_told;
          knows = h.ins.knows;
          knows_next = h.ins.knows_next;
          knows_leaving = h.ins.knows_leaving;
        };
        outs = record {
          follows = λ f. absurd (true≢false (sym f));
          next_up = λ f. absurd (true≢false (sym f));
          up = λ a f. h.outs.next_up refl;
          size_is = h.outs.size_is;
          acked = λ a.
              let told = h.outs.next_window (h.outs.there refl) in inl (omega (arith, told));
          next_window = λ f. absurd (true≢false (sym f));
          next_held = refl;
          next_size = h.outs.size_is;
          begun = h.outs.next_begun;
          next_begun = λ f. absurd (true≢false (sym f ∙ down));
          finished = refl;
          there = λ f. absurd (true≢false (sym f));
        };
        over = λ f. absurd (true≢false (sym f ∙ is.1));
      }

  ended_or_holds : (s : ClientRole) (waiting : Waits) → s.replacement ≡ NoneUnderWay → IsLive s
      → Holds s → Holds (ended_or s waiting)
  ended_or_holds s waiting none is h =
      by_test Holds (is_over s) (record s { phase = phase.Ended }) (after_out s waiting)
      (λ e. over_now s e h)
      (λ e. after_out_holds s waiting is (at s NoneUnderWay none h))

  -- the line stays, and so does the current channel
  stays : (s : ClientRole) (r : Replacement) → s.replacement ≡ r → Holds s → Holds (pass_by s r)
  stays s NoneUnderWay e h = h
  stays s (In stage out_waits) e h = h
  stays s (Out out_stage.Asked waiting) e h = h
  stays s (Out out_stage.Answered waiting) e h = h
  stays s (Out out_stage.Switched waiting) e h = h
  stays s (Out out_stage.Finished waiting) e h =
      by_test Holds s.line.has_next s (ended_or (succeeded s) waiting) (λ f. h)
      (λ f. absurd (true≢false
      (sym ((at s (Out out_stage.Finished waiting) e h).outs.there refl) ∙ f)))

  goes_on : (s : ClientRole) (r : Replacement) → s.replacement ≡ r
      → is_finished_way (way_of r) ≡ true → Holds s
      → Holds (pass_by (record s { line = moved_on s.line }) r)
  goes_on s NoneUnderWay e f h = absurd (true≢false (sym f))
  goes_on s (In in_stage.Asked out_waits) e f h = absurd (true≢false (sym f))
  goes_on s (In in_stage.Answered out_waits) e f h = absurd (true≢false (sym f))
  goes_on s (Out out_stage.Asked waiting) e f h = absurd (true≢false (sym f))
  goes_on s (Out out_stage.Answered waiting) e f h = absurd (true≢false (sym f))
  goes_on s (Out out_stage.Switched waiting) e f h = absurd (true≢false (sym f))
  goes_on s (Out out_stage.Finished waiting) e f h =
      let k = at s (Out out_stage.Finished waiting) e h in
      ended_or_holds (succeeded (record s { line = moved_on s.line })) waiting refl
      (live Answers Rises Comes (seen_by s (Out out_stage.Finished waiting)) came put refl k)
      (moves_on (seen_by s (Out out_stage.Finished waiting)) (out_seen (unopened_out 0)) refl k)

  -- the line moves on where it is finished and empty
  pub settles : (s : ClientRole) → Holds s
      → Holds (passed (record s { line = settled_line s.line }))
  settles s h =
      by_test (λ (line : Line). Holds (passed (record s { line = line })))
      (s.line.finished && is_empty s.line.current.pdus) (moved_on s.line) s.line
      (λ e. goes_on s s.replacement refl
      (sym h.outs.finished ∙ (and_parts s.line.finished (is_empty s.line.current.pdus) e).0) h)
      (λ e. stays s s.replacement refl h)

  -- ---- the receiver's side of one of the channels changes

  -- of the current one, which tells what it told, and END came as before or comes
  pub current_changes : (x : Seen) (c : Incoming) → is_opening x.phase ≡ false
      → c.window.told ≡ x.line.current.window.told
      → (x.line.current.ended ≡ true → c.ended ≡ true) → Of x
      → Of (record x { line = record (x.line) { current = c } })
  current_changes x c o told ended h = record {
    fresh = λ f. absurd (true≢false (sym f ∙ o));
    ins = h.ins;
    outs = record {
      follows = h.outs.follows;
      next_up = h.outs.next_up;
      up = h.outs.up;
      size_is = h.outs.size_is;
      acked = λ a.
          subst (λ (n : ℕ). IsAcked x.size x.current.cookie n put) (sym told)
          (h.outs.acked a);
      next_window = h.outs.next_window;
      next_held = h.outs.next_held;
      next_size = h.outs.next_size;
      begun = h.outs.begun;
      next_begun = h.outs.next_begun;
      finished = h.outs.finished;
      there = h.outs.there;
    };
    over = λ f. let is = h.over f in (is.0, ended is.1, is.2);
  }

  -- of the next one, which told a whole window if it is there, and released nothing
  pub next_changes : (x : Seen) (c : Incoming) → is_opening x.phase ≡ false
      → c.window.told ≡ x.line.next.window.told
      → c.window.released ≡ x.line.next.window.released
      → c.window.size ≡ x.line.next.window.size → Of x
      → Of (record x { line = record (x.line) { next = c } })
  next_changes x c o told released' size h = record {
    fresh = λ f. absurd (true≢false (sym f ∙ o));
    ins = h.ins;
    outs = record {
      follows = h.outs.follows;
      next_up = h.outs.next_up;
      up = h.outs.up;
      size_is = h.outs.size_is;
      acked = h.outs.acked;
      next_window = λ f. told ∙ h.outs.next_window f;
      next_held = released' ∙ h.outs.next_held;
      next_size = size ∙ h.outs.next_size;
      begun = h.outs.begun;
      next_begun = h.outs.next_begun;
      finished = h.outs.finished;
      there = h.outs.there;
    };
    over = h.over;
  }

  -- the next one is there, and has a whole window
  pub next_opens : (x : Seen) → is_opening x.phase ≡ false → Of x
      → Of (record x { line = after_open_next x.line false })
  next_opens x o h = record {
    fresh = λ f. absurd (true≢false (sym f ∙ o));
    ins = h.ins;
    outs = record {
      follows = h.outs.follows;
      next_up = h.outs.next_up;
      up = h.outs.up;
      size_is = h.outs.size_is;
      acked = h.outs.acked;
      next_window = λ f. h.outs.size_is;
      next_held = refl;
      next_size = h.outs.size_is;
      begun = h.outs.begun;
      next_begun = h.outs.next_begun;
      finished = h.outs.finished;
      there = λ f. refl;
    };
    over = h.over;
  }

  -- the first PDU is taken
  pub take_holds : (s : ClientRole) (pdus : List (List ℕ)) → s.line.current.pdus ≡ pdus
      → Holds s → Holds (passed (record s { line = lines.taken pdus s.line }))
  take_holds s [] e h = stays s s.replacement refl h
  take_holds s (pdu ∷ pdus) e h = by (is_opening s.phase) refl
    where
      by : (b : Bool) → is_opening s.phase ≡ b
          → Holds (passed (record s { line = lines.taken (pdu ∷ pdus) s.line }))
      by true o =
          absurd (true≢false (sym (ap is_empty (ap (λ (l : Line). l.current.pdus)
          (h.fresh o).line_is)) ∙ ap is_empty e))
      by false o =
          settles (record s {
            line = record (s.line) { current = released (pdu ∷ pdus) s.line.current };
          })
          (current_changes (seen s) (released (pdu ∷ pdus) s.line.current) o refl (λ f. f) h)
