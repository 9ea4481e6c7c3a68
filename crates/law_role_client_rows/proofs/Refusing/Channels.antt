-- what a client keeps of the first channel's timeout, and of a successor's place in its line
use Rattle.std.specs.Option.{is_some}
use Rattle.law_order.proofs.Vocabulary.{◌≡◌, ◌<◌, ℕ, ◌+◌, Bool, true, false, true≢false, ◌&&◌, nat_lt, List, [], ◌∷◌, Ok, Err, arith, refl, sym, ◌∙◌, subst, and_parts, Option, Result}
use Rattle.rh_line.specs.Lines as lines
use Rattle.rh_shell.specs.declared.answers.Phase.TheVariants as phase
use Rattle.rh_client.specs.declared.replacement.InStage.TheVariants as in_stage
use Rattle.rh_client.specs.declared.replacement.OutStage.TheVariants as out_stage
use Rattle.rh_client.specs.declared.replacement.Waits.TheVariants as waits
use Rattle.law_moves.proofs.Vocabulary.{by_test, Line, is_empty, released, settled as settled_line, moved_on, Phase, RecycleRefused, Last, OnLeg, of_leg, count_of}
use Rattle.law_role_client.proofs.Vocabulary.{LAST_NUMBER, Replacement, NoneUnderWay, In, Out, OutStage, Waits, ClientRole, is_up, unopened_in, unopened_out, is_none, is_out, is_finished, with_in, is_opening, is_open, is_over, co, settled, begin_in, begin_out, after_in, after_out, recycle_by, wish_by, wished, wants_successor, succeeded, ended_or, pass_by, passed, settled_or_wished}
use Rattle.law_role_client.proofs.Sending.Puts.{open_is as open_past}
use Rattle.law_role_client_rows.specs.Refusing.{is_conn_a3}

-- ---- what is read

pub record Seen : Type 0 where
  pub phase : Phase
  pub replacement : Replacement
  -- of the current OUT channel
  pub timeout : Option ℕ
  -- the successor of an OUT channel is up
  pub up : Bool
  -- of the line
  pub has_next : Bool
  pub finished : Bool
  -- the numbers of both
  pub current : ℕ
  pub successor : ℕ

abbrev pub sees_by : ClientRole → Replacement → Seen
sees_by s r = record {
  phase = s.phase;
  replacement = r;
  timeout = s.current.timeout;
  up = is_up s.out_successor.opening;
  has_next = s.line.has_next;
  finished = s.line.finished;
  current = s.current.number;
  successor = s.out_successor.number;
}

abbrev pub sees : ClientRole → Seen
sees s = sees_by s s.replacement

-- a successor that is up has its place in the line; and it is up once OUT_R1/A6 came
abbrev pub IsNext : Replacement → Bool → Bool → Type 0
IsNext (Out out_stage.Asked waiting) up next = up ≡ true → next ≡ true
IsNext (Out out_stage.Answered waiting) up next = next ≡ true
IsNext (Out out_stage.Switched waiting) up next = next ≡ true
IsNext (Out out_stage.Finished waiting) up next = next ≡ true
IsNext NoneUnderWay up next = Unit {0}
IsNext (In stage out_waits) up next = Unit {0}

-- the timeout of the first channel is known once CONN/A3 came
pub record Channels (v : Seen) (came : List OnLeg) : Type 0 where
  pub none : is_opening v.phase ≡ true → is_none v.replacement ≡ true
  pub told : is_opening v.phase ≡ true → 0 < count_of is_conn_a3 (of_leg (co 1) came)
      → is_some v.timeout ≡ true
  pub next : IsNext v.replacement v.up v.has_next
  pub unfinished : is_finished v.replacement ≡ false → v.finished ≡ false
  pub current : 0 < v.current
  pub successor : is_out v.replacement ≡ true → 0 < v.successor

-- ---- phases

pub past : (b n : Bool) → (b ≡ true → n ≡ true) → n ≡ false → b ≡ false
past true n so e = absurd (true≢false (sym (so refl) ∙ e))
past false n so e = refl

next_else : (stage : OutStage) (w u : Waits) (up next : Bool) → IsNext (Out stage w) up next
    → IsNext (Out stage u) up next
next_else out_stage.Asked w u up next h = h
next_else out_stage.Answered w u up next h = h
next_else out_stage.Switched w u up next h = h
next_else out_stage.Finished w u up next h = h

module _ (came : List OnLeg) where
  abbrev pub Keeps : ClientRole → Type 0
  Keeps s = Channels (sees s) came

  pub same : (s t : ClientRole) → sees t ≡ sees s → Keeps s → Keeps t
  same s t e h = subst (λ (v : Seen). Channels v came) (sym e) h

  pub at : (s : ClientRole) (r : Replacement) → s.replacement ≡ r → Keeps s
      → Channels (sees_by s r) came
  at s r e h = subst (λ (x : Replacement). Channels (sees_by s x) came) e h

  -- another replacement
  pub turned : (v : Seen) (r : Replacement) (up : Bool) (successor : ℕ)
      → is_opening v.phase ≡ false → v.finished ≡ false → IsNext r up v.has_next
      → (is_out r ≡ true → 0 < successor) → Channels v came
      → Channels (record v { replacement = r; up = up; successor = successor }) came
  turned v r up successor o f next number h = record {
    none = λ e. absurd (true≢false (sym e ∙ o));
    told = λ e. absurd (true≢false (sym e ∙ o));
    next = next;
    unfinished = λ e. f;
    current = h.current;
    successor = number;
  }

  ended : (v : Seen) → Channels v came → Channels (record v { phase = phase.Ended }) came
  ended v h = record {
    none = λ e. absurd (cc);
    told = λ e. absurd (cc);
    next = h.next;
    unfinished = h.unfinished;
    current = h.current;
    successor = h.successor;
  }

  -- ---- a replacement begins

  begin_in_keeps : (s : ClientRole) (b : Bool) → is_opening s.phase ≡ false
      → s.line.finished ≡ false → Keeps s → Keeps (begin_in s b)
  begin_in_keeps s b o f h =
      by_test Keeps (nat_lt s.writing.number LAST_NUMBER)
      (record s {
        in_successor = unopened_in (s.writing.number + 1) s.config.lifetime;
        replacement = In in_stage.Asked b;
      })
      (record s { replacement = NoneUnderWay })
      (λ e. turned (sees s) (In in_stage.Asked b) (is_up s.out_successor.opening)
      s.out_successor.number o f tt (λ is. absurd (cc)) h)
      (λ e. turned (sees s) NoneUnderWay (is_up s.out_successor.opening) s.out_successor.number o f
      tt (λ is. absurd (cc)) h)

  pub begin_out_keeps : (s : ClientRole) (w : Waits) → is_opening s.phase ≡ false
      → s.line.finished ≡ false → Keeps s → Keeps (begin_out s w)
  begin_out_keeps s w o f h =
      by_test Keeps (nat_lt s.current.number LAST_NUMBER)
      (record s {
        out_successor = unopened_out (s.current.number + 1);
        replacement = Out out_stage.Asked w;
      })
      (record s { replacement = NoneUnderWay })
      (λ e. turned (sees s) (Out out_stage.Asked w) false (s.current.number + 1) o f
      (λ is. absurd (cc)) (λ is. omega arith) h)
      (λ e. turned (sees s) NoneUnderWay (is_up s.out_successor.opening) s.out_successor.number o f
      tt (λ is. absurd (cc)) h)

  pub after_in_keeps : (s : ClientRole) (b : Bool) → is_opening s.phase ≡ false
      → s.line.finished ≡ false → Keeps s → Keeps (after_in s b)
  after_in_keeps s true o f h = begin_out_keeps s waits.Nothing o f h
  after_in_keeps s false o f h =
      turned (sees s) NoneUnderWay (is_up s.out_successor.opening) s.out_successor.number o f tt
      (λ is. absurd (cc)) h

  after_out_keeps : (s : ClientRole) (w : Waits) → is_opening s.phase ≡ false
      → s.line.finished ≡ false → Keeps s → Keeps (after_out s w)
  after_out_keeps s waits.Nothing o f h =
      turned (sees s) NoneUnderWay (is_up s.out_successor.opening) s.out_successor.number o f tt
      (λ is. absurd (cc)) h
  after_out_keeps s waits.In o f h = begin_in_keeps s false o f h
  after_out_keeps s waits.Out o f h = begin_out_keeps s waits.Nothing o f h
  after_out_keeps s waits.InThenOut o f h = begin_in_keeps s true o f h
  after_out_keeps s waits.OutThenIn o f h = begin_out_keeps s waits.In o f h

  -- something else waits behind it
  pub waits_else : (s : ClientRole) (stage : OutStage) (w u : Waits)
      → Channels (sees_by s (Out stage w)) came → Channels (sees_by s (Out stage u)) came
  waits_else s stage w u h = record {
    none = λ o. absurd (true≢false (sym (h.none o)));
    told = h.told;
    next = next_else stage w u (is_up s.out_successor.opening) s.line.has_next h.next;
    unfinished = h.unfinished;
    current = h.current;
    successor = h.successor;
  }

  wish_keeps : (s : ClientRole) (r : Replacement) → s.replacement ≡ r
      → is_opening s.phase ≡ false → Keeps s → Keeps (wish_by s r)
  wish_keeps s NoneUnderWay e o h =
      begin_in_keeps s false o ((at s NoneUnderWay e h).unfinished refl) h
  wish_keeps s (In stage w) e o h = h
  wish_keeps s (Out stage w) e o h = waits_else s stage w (with_in w) (at s (Out stage w) e h)

  pub recycle_keeps : (s : ClientRole) (r : Replacement) → s.replacement ≡ r
      → is_opening s.phase ≡ false → Keeps s → Keeps (recycle_by s r).0
  recycle_keeps s NoneUnderWay e o h =
      by_test (λ (x : ClientRole × Result (Unit {0}) RecycleRefused). Keeps x.0)
      (nat_lt s.writing.number LAST_NUMBER) (begin_in s false, Ok tt) (s, Err Last)
      (λ t. wish_keeps s NoneUnderWay e o h) (λ t. h)
  recycle_keeps s (In stage w) e o h = h
  recycle_keeps s (Out stage w) e o h = h

  pub settled_keeps : (s : ClientRole) → Keeps s → Keeps (settled s)
  settled_keeps s h =
      by_test Keeps (is_over s) (record s { phase = phase.Ended }) s (λ e. ended (sees s) h)
      (λ e. h)

  pub settled_or_wished_keeps : (s : ClientRole) → Keeps s → Keeps (settled_or_wished s)
  settled_or_wished_keeps s h =
      by_test Keeps (is_over s) (record s { phase = phase.Ended }) (wished s)
      (λ e. ended (sees s) h)
      (λ e. by_test Keeps (wants_successor s) (wish_by s s.replacement) s
      (λ o. wish_keeps s s.replacement refl
      (open_past s.phase (and_parts (is_open s.phase) _ o).0) h)
      (λ o. h))

  -- ---- the successor of an OUT channel is the current one

  ended_or_keeps : (s : ClientRole) (w : Waits) → is_opening s.phase ≡ false
      → s.line.finished ≡ false → Keeps s → Keeps (ended_or s w)
  ended_or_keeps s w o f h =
      by_test Keeps (is_over s) (record s { phase = phase.Ended }) (after_out s w)
      (λ e. ended (sees s) h) (λ e. after_out_keeps s w o f h)

  stays : (s : ClientRole) (r : Replacement) → s.replacement ≡ r → Keeps s
      → Keeps (pass_by s r)
  stays s NoneUnderWay e h = h
  stays s (In stage w) e h = h
  stays s (Out out_stage.Asked w) e h = h
  stays s (Out out_stage.Answered w) e h = h
  stays s (Out out_stage.Switched w) e h = h
  stays s (Out out_stage.Finished w) e h =
      by_test Keeps s.line.has_next s (ended_or (succeeded s) w) (λ t. h)
      (λ t. absurd (true≢false (sym (at s (Out out_stage.Finished w) e h).next ∙ t)))

  moves_on : (s : ClientRole) (r : Replacement) → s.replacement ≡ r → is_finished r ≡ true
      → Keeps s → Keeps (pass_by (record s { line = moved_on s.line }) r)
  moves_on s NoneUnderWay e f h = absurd (true≢false (sym f))
  moves_on s (In stage w) e f h = absurd (true≢false (sym f))
  moves_on s (Out out_stage.Asked w) e f h = absurd (true≢false (sym f))
  moves_on s (Out out_stage.Answered w) e f h = absurd (true≢false (sym f))
  moves_on s (Out out_stage.Switched w) e f h = absurd (true≢false (sym f))
  moves_on s (Out out_stage.Finished w) e f h =
      let now = at s (Out out_stage.Finished w) e h in
      let o : is_opening s.phase ≡ false = past (is_opening s.phase) false now.none refl in
      ended_or_keeps (succeeded (record s { line = moved_on s.line })) w o refl
      (record {
        none = λ t. refl;
        told = λ t. absurd (true≢false (sym t ∙ o));
        next = tt;
        unfinished = λ t. refl;
        current = now.successor refl;
        successor = λ t. absurd (cc);
      })

  -- the line moves on where it is finished and empty
  pub settles : (s : ClientRole) → Keeps s
      → Keeps (passed (record s { line = settled_line s.line }))
  settles s h =
      by_test (λ (line : Line). Keeps (passed (record s { line = line })))
      (s.line.finished && is_empty s.line.current.pdus) (moved_on s.line) s.line
      (λ e. moves_on s s.replacement refl
      (by (is_finished s.replacement) refl (and_parts s.line.finished _ e).0) h)
      (λ e. stays s s.replacement refl h)
    where
      by : (b : Bool) → is_finished s.replacement ≡ b → s.line.finished ≡ true → b ≡ true
      by true e f = refl
      by false e f = absurd (true≢false (sym f ∙ h.unfinished e))

  pub take_keeps : (s : ClientRole) (pdus : List (List ℕ)) → Keeps s
      → Keeps (passed (record s { line = lines.taken pdus s.line }))
  take_keeps s [] h = stays s s.replacement refl h
  take_keeps s (p ∷ ps) h =
      settles (record s {
        line = record (s.line) { current = released (p ∷ ps) s.line.current };
      }) h
