-- a client asks for one IN channel at most behind a wish for an OUT channel
use Rattle.law_order.proofs.Vocabulary.{◌≡◌, ℕ, ◌+◌, ◌<◌, ◌≤◌, Bool, true, false, true≢false, nat_lt, List, [], ◌∷◌, ◌++◌, arith, refl, sym, ap, ◌∙◌, subst}
use Rattle.rh_shell.specs.declared.answers.Phase.TheVariants as phase
use Rattle.rh_client.specs.declared.replacement.Waits.TheVariants as waits
use Rattle.law_moves.proofs.Vocabulary.{ClientConfig, ClientOut, ClientIn, Phase, is_ended, OnLeg, EndMove, EndPassage, Passage, end_started, end_moved, all_end_moved, AreAllowedAtEnd}
use Rattle.law_role_client.proofs.Vocabulary.{LAST_NUMBER, Waits, ClientRole, first, is_open, is_opening, has_out, with_in, with_out, acts, rules, AreAllowedMoves, client_moved, is_in_r1_a1, is_in_a4, is_out_r1_a2, is_out_r1_a10, total, once_if}
use Rattle.law_role_client.proofs.ClientLogs.{of_kind}
use Rattle.law_role_client.proofs.Counted.Allowed.{allowed_moves_keep}
use Rattle.law_role_client.proofs.Counted.Standing.{passes, total_stays, total_rises}
use Rattle.law_role_client.proofs.Counted.Views.{View, view, Way, Free, InIsAsked, InIsAnswered, OutIsAsked, OutIsAnswered, OutIsSwitched, OutIsFinished, is_in_way, out_if, has_in, is_in_first, behind_out, newest_out, Marks, EventsKeep}
use Rattle.law_role_client.proofs.Counted.Moves.{client_keeps}
use Rattle.law_role_client.proofs.Counted.Replacements as keeps
use Rattle.law_node_streams.proofs.Streams.EndMoves.{all_end_moved_append}
use Rattle.law_peers_forwarding.specs.Answering.Wishes.{AsksOneBehind}

-- an OUT channel is replaced, and not finished
abbrev under : Way → ℕ
under OutIsAsked = 1
under OutIsAnswered = 1
under OutIsSwitched = 1
under way = 0

-- IN channels that were asked for are answered, but for the one that is under way
abbrev AreAnswered : Way → Bool → ℕ → ℕ → Type 0
AreAnswered InIsAsked put asked answered = asked ≡ answered + once_if put
AreAnswered InIsAnswered put asked answered = (asked ≡ answered) × (put ≡ true)
AreAnswered way put asked answered = asked ≡ answered

-- how many are answered while fewer OUT channels are finished than were wanted, by how many were
-- answered then
abbrev Answers : Way → Waits → (wanted answered finished now : ℕ) → Type 0
Answers Free waits.InThenOut wanted answered finished now = now ≤ answered
Answers Free waiting wanted answered finished now = now ≤ answered + 1
Answers InIsAsked waiting wanted answered finished now = now ≤ answered
Answers InIsAnswered waiting wanted answered finished now = now ≤ answered + 1
Answers OutIsFinished waiting wanted answered finished now = now ≤ answered
Answers way waiting wanted answered finished now =
    (now ≤ answered + 1) × (finished + 1 < wanted → now ≤ answered)

-- since so many were wanted and answered
module _ (wanted answered : ℕ) where
  record Since (ended : Bool) (writing newest : ℕ) (put : Bool) (way : Way) (waiting : Waits)
      (wishes finished asked now : ℕ) : Type 0 where
    -- what waits is dropped where the work is done
    owed : ended ≡ false → wishes ≡ finished + under way + once_if (has_out waiting)
    still : ended ≡ true → (way ≡ Free) × (waiting ≡ waits.Nothing)
    -- what waits has a number for its successor
    ins : has_in waiting ≡ true → nat_lt writing LAST_NUMBER ≡ true
    outs : has_out waiting ≡ true → nat_lt newest LAST_NUMBER ≡ true
    are_answered : AreAnswered way put asked now
    later : wanted ≤ wishes
    answers : finished < wanted → Answers way waiting wanted answered finished now
    few : finished < wanted → asked ≤ answered + 1

  abbrev At : View → (wishes finished asked now : ℕ) → Type 0
  At v wishes finished asked now =
      Since (is_ended v.phase) v.writing (newest_out v) v.in_asked v.way v.waiting wishes finished
      asked now

  abbrev Holds : View → List OnLeg → List OnLeg → Type 0
  Holds v came put =
      At v (total is_out_r1_a2 ClientOut came) (total is_out_r1_a10 ClientOut came)
      (total is_in_r1_a1 ClientIn put) (total is_in_a4 ClientOut came)

  -- ---- counts

  same_counts : (v : View) (a b c d e f g h : ℕ) → a ≡ e → b ≡ f → c ≡ g → d ≡ h
      → At v a b c d → At v e f g h
  same_counts v a b c d e f g h p q r s x =
      subst (λ (n : ℕ). At v n f g h) p
      (subst (λ (n : ℕ). At v a n g h) q
      (subst (λ (n : ℕ). At v a b n h) r (subst (λ (n : ℕ). At v a b c n) s x)))

  stays_wanted : (came : List OnLeg) (one : OnLeg) → passes is_out_r1_a2 one.1 ≡ false
      → total is_out_r1_a2 ClientOut came ≡ total is_out_r1_a2 ClientOut (came ++ one ∷ [])
  stays_wanted came one other =
      sym (total_stays is_out_r1_a2 ClientOut (total is_out_r1_a2 ClientOut came) came one other
      refl)

  stays_finished : (came : List OnLeg) (one : OnLeg) → passes is_out_r1_a10 one.1 ≡ false
      → total is_out_r1_a10 ClientOut came ≡ total is_out_r1_a10 ClientOut (came ++ one ∷ [])
  stays_finished came one other =
      sym (total_stays is_out_r1_a10 ClientOut (total is_out_r1_a10 ClientOut came) came one other
      refl)

  stays_answered : (came : List OnLeg) (one : OnLeg) → passes is_in_a4 one.1 ≡ false
      → total is_in_a4 ClientOut came ≡ total is_in_a4 ClientOut (came ++ one ∷ [])
  stays_answered came one other =
      sym (total_stays is_in_a4 ClientOut (total is_in_a4 ClientOut came) came one other refl)

  comes : (v : View) (came put : List OnLeg) (one : OnLeg) → passes is_out_r1_a2 one.1 ≡ false
      → passes is_out_r1_a10 one.1 ≡ false → passes is_in_a4 one.1 ≡ false
      → Holds v came put → Holds v (came ++ one ∷ []) put
  comes v came put one wish finish answer h =
      same_counts v (total is_out_r1_a2 ClientOut came) (total is_out_r1_a10 ClientOut came)
      (total is_in_r1_a1 ClientIn put) (total is_in_a4 ClientOut came)
      (total is_out_r1_a2 ClientOut (came ++ one ∷ []))
      (total is_out_r1_a10 ClientOut (came ++ one ∷ [])) (total is_in_r1_a1 ClientIn put)
      (total is_in_a4 ClientOut (came ++ one ∷ [])) (stays_wanted came one wish)
      (stays_finished came one finish) refl (stays_answered came one answer) h

  goes : (v : View) (came put : List OnLeg) (one : OnLeg) → passes is_in_r1_a1 one.1 ≡ false
      → Holds v came put → Holds v came (put ++ one ∷ [])
  goes v came put one other h =
      same_counts v (total is_out_r1_a2 ClientOut came) (total is_out_r1_a10 ClientOut came)
      (total is_in_r1_a1 ClientIn put) (total is_in_a4 ClientOut came)
      (total is_out_r1_a2 ClientOut came) (total is_out_r1_a10 ClientOut came)
      (total is_in_r1_a1 ClientIn (put ++ one ∷ [])) (total is_in_a4 ClientOut came) refl refl
      (sym (total_stays is_in_r1_a1 ClientIn (total is_in_r1_a1 ClientIn put) put one other refl))
      refl h

  -- ---- phases

  not_ended : (p : Phase) → is_open p ≡ true → is_ended p ≡ false
  not_ended phase.Opening e = absurd (cc)
  not_ended phase.Open e = refl
  not_ended phase.Ended e = absurd (cc)

  not_yet_ended : (p : Phase) → is_opening p ≡ true → is_ended p ≡ false
  not_yet_ended phase.Opening e = refl
  not_yet_ended phase.Open e = absurd (cc)
  not_yet_ended phase.Ended e = absurd (cc)

  -- ---- events

  opened : (e : Bool) (w n : ℕ) (b : Bool) (way : Way) (x : Waits) (o f a i : ℕ) → e ≡ false
      → Since e w n b way x o f a i → Since false w n b way x o f a i
  opened e w n b way x o f a i live h =
      subst (λ (e : Bool). Since e w n b way x o f a i) live h

  -- another successor of an OUT channel, or way
  turned : (e : Bool) (w u n : ℕ) (b : Bool) (way other : Way) (x : Waits) (o f a i : ℕ)
      → (e ≡ true → way ≡ Free → ⊥) → under other ≡ under way
      → (has_in x ≡ true → nat_lt u LAST_NUMBER ≡ true)
      → AreAnswered other b a i
      → (Answers way x wanted answered f i → Answers other x wanted answered f i)
      → Since e w n b way x o f a i → Since e u n b other x o f a i
  turned e w u n b way other x o f a i on same ins all so h = record {
    owed = λ live. h.owed live ∙ ap (λ (k : ℕ). f + k + once_if (has_out x)) (sym same);
    still = λ over. absurd (on over (h.still over).0);
    ins = ins;
    outs = h.outs;
    are_answered = all;
    later = h.later;
    answers = λ less. so (h.answers less);
    few = h.few;
  }

  asks_in : (e : Bool) (w n : ℕ) (way : Way) (x : Waits) (o f a i more : ℕ)
      → is_in_way way ≡ true → more ≡ a + 1 → Since e w n false way x o f a i
      → Since e w n true way x o f more i
  asks_in e w n InIsAsked x o f a i more is one h = record {
    owed = h.owed;
    still = h.still;
    ins = h.ins;
    outs = h.outs;
    are_answered = let all = h.are_answered in omega (arith, all, one);
    later = h.later;
    answers = h.answers;
    few = λ less.
        let all = h.are_answered in
        let most = h.answers less in
        omega (arith, all, one, most);
  }
  asks_in e w n InIsAnswered x o f a i more is one h =
      absurd (true≢false (sym h.are_answered.1))
  asks_in e w n Free x o f a i more is one h = absurd (cc)
  asks_in e w n OutIsAsked x o f a i more is one h = absurd (cc)
  asks_in e w n OutIsAnswered x o f a i more is one h = absurd (cc)
  asks_in e w n OutIsSwitched x o f a i more is one h = absurd (cc)
  asks_in e w n OutIsFinished x o f a i more is one h = absurd (cc)

  answers_in : (e : Bool) (w n : ℕ) (b : Bool) (x : Waits) (o f a i more : ℕ) → b ≡ true
      → more ≡ i + 1 → Since e w n b InIsAsked x o f a i
      → Since e w n b InIsAnswered x o f a more
  answers_in e w n b x o f a i more put one h =
      let all : a ≡ i + 1 =
      subst (λ (t : Bool). a ≡ i + once_if t) put h.are_answered in
      record {
        owed = h.owed;
        still = λ over. absurd (busy (h.still over).0);
        ins = h.ins;
        outs = h.outs;
        are_answered = (omega (arith, all, one), put);
        later = h.later;
        answers = λ less. let most = h.answers less in omega (arith, most, one);
        few = h.few;
      }
    where
      busy : InIsAsked ≡ Free → ⊥
      busy same = absurd cc

  finishes : (e : Bool) (w n : ℕ) (b : Bool) (x : Waits) (o f a i more : ℕ) → more ≡ f + 1
      → Since e w n b OutIsSwitched x o f a i → Since e w n b OutIsFinished x o more a i
  finishes e w n b x o f a i more one h = record {
    owed = λ live. let before = h.owed live in omega (arith, before, one);
    still = λ over. absurd (busy (h.still over).0);
    ins = h.ins;
    outs = h.outs;
    are_answered = h.are_answered;
    later = h.later;
    answers = λ less.
        (h.answers (omega (arith, less, one))).1 (omega (arith, less, one));
    few = λ less. h.few (omega (arith, less, one));
  }
    where
      busy : OutIsSwitched ≡ Free → ⊥
      busy same = absurd cc

  answers_free : (x : Waits) (f i : ℕ) → Answers Free x wanted answered f i → i ≤ answered + 1
  answers_free waits.Nothing f i h = h
  answers_free waits.In f i h = h
  answers_free waits.Out f i h = h
  answers_free waits.InThenOut f i h = omega (arith, h)
  answers_free waits.OutThenIn f i h = h

  free_answers : (x : Waits) (f i : ℕ) → i ≤ answered → Answers Free x wanted answered f i
  free_answers waits.Nothing f i h = omega (arith, h)
  free_answers waits.In f i h = omega (arith, h)
  free_answers waits.Out f i h = omega (arith, h)
  free_answers waits.InThenOut f i h = h
  free_answers waits.OutThenIn f i h = omega (arith, h)

  handed_answers : (b : Bool) (f i : ℕ) → i ≤ answered + 1
      → Answers Free (out_if b) wanted answered f i
  handed_answers true f i h = h
  handed_answers false f i h = h

  ends : (e : Bool) (w n : ℕ) (b : Bool) (x : Waits) (o f a i : ℕ)
      → Since e w n b Free x o f a i → Since true w n b Free waits.Nothing o f a i
  ends e w n b x o f a i h = record {
    owed = λ live. absurd (true≢false live);
    still = λ over. (refl, refl);
    ins = λ o. absurd (cc);
    outs = λ o. absurd (cc);
    are_answered = h.are_answered;
    later = h.later;
    answers = λ less. answers_free x f i (h.answers less);
    few = h.few;
  }

  -- ---- what waits

  with_in_out : (x : Waits) → has_out (with_in x) ≡ has_out x
  with_in_out waits.Nothing = refl
  with_in_out waits.In = refl
  with_in_out waits.Out = refl
  with_in_out waits.InThenOut = refl
  with_in_out waits.OutThenIn = refl

  with_out_out : (x : Waits) → has_out (with_out x) ≡ true
  with_out_out waits.Nothing = refl
  with_out_out waits.In = refl
  with_out_out waits.Out = refl
  with_out_out waits.InThenOut = refl
  with_out_out waits.OutThenIn = refl

  with_out_in : (x : Waits) → has_in (with_out x) ≡ has_in x
  with_out_in waits.Nothing = refl
  with_out_in waits.In = refl
  with_out_in waits.Out = refl
  with_out_in waits.InThenOut = refl
  with_out_in waits.OutThenIn = refl

  behind_out_out : (x : Waits) → has_out (behind_out x) ≡ false
  behind_out_out waits.Nothing = refl
  behind_out_out waits.In = refl
  behind_out_out waits.Out = refl
  behind_out_out waits.InThenOut = refl
  behind_out_out waits.OutThenIn = refl

  behind_out_in : (x : Waits) → has_in (behind_out x) ≡ true → has_in x ≡ true
  behind_out_in waits.Nothing e = absurd (cc)
  behind_out_in waits.In e = absurd (cc)
  behind_out_in waits.Out e = absurd (cc)
  behind_out_in waits.InThenOut e = absurd (cc)
  behind_out_in waits.OutThenIn e = refl

  out_if_out : (b : Bool) → has_out (out_if b) ≡ b
  out_if_out true = refl
  out_if_out false = refl

  out_if_in : (b : Bool) → has_in (out_if b) ≡ true → ⊥
  out_if_in true e = absurd (cc)
  out_if_in false e = absurd (cc)

  wants_in_answers : (way : Way) (x : Waits) (f i : ℕ) → Answers way x wanted answered f i
      → Answers way (with_in x) wanted answered f i
  wants_in_answers Free waits.Nothing f i h = h
  wants_in_answers Free waits.In f i h = h
  wants_in_answers Free waits.Out f i h = h
  wants_in_answers Free waits.InThenOut f i h = h
  wants_in_answers Free waits.OutThenIn f i h = h
  wants_in_answers InIsAsked x f i h = h
  wants_in_answers InIsAnswered x f i h = h
  wants_in_answers OutIsAsked x f i h = h
  wants_in_answers OutIsAnswered x f i h = h
  wants_in_answers OutIsSwitched x f i h = h
  wants_in_answers OutIsFinished x f i h = h

  wants_in : (e : Bool) (w n : ℕ) (b : Bool) (way : Way) (x : Waits) (o f a i : ℕ)
      → e ≡ false → nat_lt w LAST_NUMBER ≡ true → Since e w n b way x o f a i
      → Since e w n b way (with_in x) o f a i
  wants_in e w n b way x o f a i live lower h = record {
    owed = λ l. h.owed l ∙ ap (λ (t : Bool). f + under way + once_if t) (sym (with_in_out x));
    still = λ over. absurd (true≢false (sym over ∙ live));
    ins = λ is. lower;
    outs = λ is. h.outs (sym (with_in_out x) ∙ is);
    are_answered = h.are_answered;
    later = h.later;
    answers = λ less. wants_in_answers way x f i (h.answers less);
    few = h.few;
  }

  -- where no OUT channel is under way, none was wanted that is not finished
  wants_out_answers : (way : Way) (x y : Waits) (f i : ℕ) → (f < wanted → under way ≡ 0 → ⊥)
      → f < wanted → Answers way x wanted answered f i → Answers way y wanted answered f i
  wants_out_answers Free x y f i none less h = absurd (none less refl)
  wants_out_answers InIsAsked x y f i none less h = h
  wants_out_answers InIsAnswered x y f i none less h = h
  wants_out_answers OutIsAsked x y f i none less h = h
  wants_out_answers OutIsAnswered x y f i none less h = h
  wants_out_answers OutIsSwitched x y f i none less h = h
  wants_out_answers OutIsFinished x y f i none less h = h

  wants_out : (e : Bool) (w n : ℕ) (b : Bool) (way : Way) (x : Waits) (o f a i more : ℕ)
      → e ≡ false → has_out x ≡ false → nat_lt n LAST_NUMBER ≡ true → more ≡ o + 1
      → Since e w n b way x o f a i → Since e w n b way (with_out x) more f a i
  wants_out e w n b way x o f a i more live none lower one h =
      let before : o ≡ f + under way + once_if false =
      subst (λ (t : Bool). o ≡ f + under way + once_if t) none (h.owed live) in
      let least = h.later in
      record {
        owed = λ l.
            subst (λ (t : Bool). more ≡ f + under way + once_if t) (sym (with_out_out x))
            (omega (arith, before, one));
        still = λ over. absurd (true≢false (sym over ∙ live));
        ins = λ is. h.ins (sym (with_out_in x) ∙ is);
        outs = λ is. lower;
        are_answered = h.are_answered;
        later = omega (arith, least, one);
        answers = λ less.
            wants_out_answers way x (with_out x) f i
            (λ l free. omega (arith, before, least, l, free)) less (h.answers less);
        few = h.few;
      }

  -- what is still to be done is not dropped
  busy_in : (x : Waits) → is_in_first x ≡ true → x ≡ waits.Nothing → ⊥
  busy_in waits.Nothing is e = absurd (cc)
  busy_in waits.In is e = absurd (cc)
  busy_in waits.Out is e = absurd (cc)
  busy_in waits.InThenOut is e = absurd (cc)
  busy_in waits.OutThenIn is e = absurd (cc)

  busy_out : (x : Waits) → has_out x ≡ true → x ≡ waits.Nothing → ⊥
  busy_out waits.Nothing is e = absurd (cc)
  busy_out waits.In is e = absurd (cc)
  busy_out waits.Out is e = absurd (cc)
  busy_out waits.InThenOut is e = absurd (cc)
  busy_out waits.OutThenIn is e = absurd (cc)

  live_by : (e : Bool) → (e ≡ true → ⊥) → e ≡ false
  live_by true h = absurd (h refl)
  live_by false h = refl

  -- where it goes first before an OUT channel
  in_answers : (x : Waits) (o f i : ℕ) → is_in_first x ≡ true
      → o ≡ f + 0 + once_if (has_out x) → wanted ≤ o → f < wanted
      → Answers Free x wanted answered f i → i ≤ answered
  in_answers waits.Nothing o f i is owed least less h = absurd (cc)
  in_answers waits.In o f i is owed least less h = absurd (omega (arith, owed, least, less))
  in_answers waits.Out o f i is owed least less h = absurd (cc)
  in_answers waits.InThenOut o f i is owed least less h = h
  in_answers waits.OutThenIn o f i is owed least less h = absurd (cc)

  begins_in : (e : Bool) (w n : ℕ) (b : Bool) (x : Waits) (o f a i : ℕ)
      → is_in_first x ≡ true → Since e w n b Free x o f a i
      → Since e w n false InIsAsked (out_if (has_out x)) o f a i
  begins_in e w n b x o f a i is h =
      let live : e ≡ false = live_by e (λ over. busy_in x is (h.still over).1) in
      record {
        owed = λ l.
            h.owed l ∙ ap (λ (t : Bool). f + 0 + once_if t) (sym (out_if_out (has_out x)));
        still = λ over. absurd (true≢false (sym over ∙ live));
        ins = λ o. absurd (out_if_in (has_out x) o);
        outs = λ o. h.outs (sym (out_if_out (has_out x)) ∙ o);
        are_answered = let all = h.are_answered in omega (arith, all);
        later = h.later;
        answers = λ less. in_answers x o f i is (h.owed live) h.later less (h.answers less);
        few = h.few;
      }

  begins_out : (e : Bool) (w n m : ℕ) (b : Bool) (x : Waits) (o f a i : ℕ)
      → has_out x ≡ true → Since e w n b Free x o f a i
      → Since e w m b OutIsAsked (behind_out x) o f a i
  begins_out e w n m b x o f a i is h =
      let live : e ≡ false = live_by e (λ over. busy_out x is (h.still over).1) in
      let none : once_if (has_out (behind_out x)) ≡ 0 = ap once_if (behind_out_out x) in
      let one : once_if (has_out x) ≡ 1 = ap once_if is in
      let owed = h.owed live in
      let least = h.later in
      record {
        owed = λ l. omega (arith, owed, none, one);
        still = λ over. absurd (true≢false (sym over ∙ live));
        ins = λ o. h.ins (behind_out_in x o);
        outs = λ o. absurd (true≢false (sym o ∙ behind_out_out x));
        are_answered = h.are_answered;
        later = h.later;
        answers = λ less. (
          answers_free x f i (h.answers less),
          λ more. absurd (omega (arith, owed, one, least, more)),
        );
        few = h.few;
      }

  events : EventsKeep Holds
  events = record {
    comes = λ v came put one q h.
        comes v came put one (ap (λ (m : Marks). m.wants_out) q)
        (ap (λ (m : Marks). m.finishes) q) (ap (λ (m : Marks). m.answers_in) q) h;
    goes = λ v came put one q o h. goes v came put one (ap (λ (m : Marks). m.asks_in) q) h;
    fills = λ v line came put past h. h;
    takes = λ v came put h. h;
    acks = λ v which ack came put one q is h.
        goes v came put one (ap (λ (m : Marks). m.asks_in) q) h;
    opens = λ v came put one q k o h.
        comes (record v { phase = phase.Open }) came put one
        (ap (λ (m : Marks). m.wants_out) q) (ap (λ (m : Marks). m.finishes) q)
        (ap (λ (m : Marks). m.answers_in) q)
        (opened (is_ended v.phase) v.writing (newest_out v) v.in_asked v.way v.waiting
        (total is_out_r1_a2 ClientOut came) (total is_out_r1_a10 ClientOut came)
        (total is_in_r1_a1 ClientIn put) (total is_in_a4 ClientOut came)
        (not_yet_ended v.phase o) h);
    closes = λ v came put o h. h;
    ends = λ v came put e h.
        ends (is_ended v.phase) v.writing v.current v.in_asked v.waiting
        (total is_out_r1_a2 ClientOut came) (total is_out_r1_a10 ClientOut came)
        (total is_in_r1_a1 ClientIn put) (total is_in_a4 ClientOut came) h;
    ups_writing = λ v cookie came put down h. h;
    ups_in = λ v cookie came put h. h;
    ups_current = λ v cookie came put down h. h;
    ups_out = λ v cookie came put h. h;
    begins_writing = λ v came put one q greets of is k at h.
        goes v came put one (ap (λ (m : Marks). m.asks_in) q) h;
    begins_current = λ v came put one q greets of is k at h.
        goes v came put one (ap (λ (m : Marks). m.asks_in) q) h;
    wants_in = λ v came put o l h.
        wants_in (is_ended v.phase) v.writing (newest_out v) v.in_asked v.way v.waiting
        (total is_out_r1_a2 ClientOut came) (total is_out_r1_a10 ClientOut came)
        (total is_in_r1_a1 ClientIn put) (total is_in_a4 ClientOut came) (not_ended v.phase o) l
        h;
    wants_out = λ v came put one q k o w l h.
        same_counts (record v { waiting = with_out v.waiting })
        (total is_out_r1_a2 ClientOut (came ++ one ∷ []))
        (total is_out_r1_a10 ClientOut came) (total is_in_r1_a1 ClientIn put)
        (total is_in_a4 ClientOut came) (total is_out_r1_a2 ClientOut (came ++ one ∷ []))
        (total is_out_r1_a10 ClientOut (came ++ one ∷ [])) (total is_in_r1_a1 ClientIn put)
        (total is_in_a4 ClientOut (came ++ one ∷ [])) refl
        (stays_finished came one (ap (λ (m : Marks). m.finishes) q)) refl
        (stays_answered came one (ap (λ (m : Marks). m.answers_in) q))
        (wants_out (is_ended v.phase) v.writing (newest_out v) v.in_asked v.way v.waiting
        (total is_out_r1_a2 ClientOut came) (total is_out_r1_a10 ClientOut came)
        (total is_in_r1_a1 ClientIn put) (total is_in_a4 ClientOut came)
        (total is_out_r1_a2 ClientOut (came ++ one ∷ [])) (not_ended v.phase o) w l
        (total_rises is_out_r1_a2 ClientOut (total is_out_r1_a2 ClientOut came) came one
        (ap (λ (m : Marks). m.wants_out) q) (of_kind ClientOut one.0 k) refl) h);
    begins_in = λ v came put w l h.
        begins_in (is_ended v.phase) v.writing v.current v.in_asked v.waiting
        (total is_out_r1_a2 ClientOut came) (total is_out_r1_a10 ClientOut came)
        (total is_in_r1_a1 ClientIn put) (total is_in_a4 ClientOut came) w h;
    begins_out = λ v came put w l h.
        begins_out (is_ended v.phase) v.writing v.current (v.current + 1) v.in_asked v.waiting
        (total is_out_r1_a2 ClientOut came) (total is_out_r1_a10 ClientOut came)
        (total is_in_r1_a1 ClientIn put) (total is_in_a4 ClientOut came) w h;
    drops_in = λ v came put w l h. absurd (true≢false (sym (h.ins w) ∙ l));
    drops_out = λ v came put w l h. absurd (true≢false (sym (h.outs w) ∙ l));
    asks_in = λ v came put one q is k on at h.
        asks_in (is_ended v.phase) v.writing (newest_out v) v.way v.waiting
        (total is_out_r1_a2 ClientOut came) (total is_out_r1_a10 ClientOut came)
        (total is_in_r1_a1 ClientIn put) (total is_in_a4 ClientOut came)
        (total is_in_r1_a1 ClientIn (put ++ one ∷ [])) at
        (total_rises is_in_r1_a1 ClientIn (total is_in_r1_a1 ClientIn put) put one
        (ap (λ (m : Marks). m.asks_in) q) (of_kind ClientIn one.0 k) refl) h;
    answers_in = λ v came put one q k asked h.
        same_counts (record v { way = InIsAnswered }) (total is_out_r1_a2 ClientOut came)
        (total is_out_r1_a10 ClientOut came) (total is_in_r1_a1 ClientIn put)
        (total is_in_a4 ClientOut (came ++ one ∷ []))
        (total is_out_r1_a2 ClientOut (came ++ one ∷ []))
        (total is_out_r1_a10 ClientOut (came ++ one ∷ [])) (total is_in_r1_a1 ClientIn put)
        (total is_in_a4 ClientOut (came ++ one ∷ []))
        (stays_wanted came one (ap (λ (m : Marks). m.wants_out) q))
        (stays_finished came one (ap (λ (m : Marks). m.finishes) q)) refl refl
        (answers_in (is_ended v.phase) v.writing v.current v.in_asked v.waiting
        (total is_out_r1_a2 ClientOut came) (total is_out_r1_a10 ClientOut came)
        (total is_in_r1_a1 ClientIn put) (total is_in_a4 ClientOut came)
        (total is_in_a4 ClientOut (came ++ one ∷ [])) asked
        (total_rises is_in_a4 ClientOut (total is_in_a4 ClientOut came) came one
        (ap (λ (m : Marks). m.answers_in) q) (of_kind ClientOut one.0 k) refl) h);
    hands_over = λ v w e came put one q is k on h.
        goes (record v {
          writing = v.in_successor;
          in_successor = 0;
          in_asked = false;
          way = Free;
          waiting = out_if w;
          end_put = e;
        }) came put one (ap (λ (m : Marks). m.asks_in) q)
        (hands_over (is_ended v.phase) v.writing v.in_successor v.current v.in_asked w
        (total is_out_r1_a2 ClientOut came) (total is_out_r1_a10 ClientOut came)
        (total is_in_r1_a1 ClientIn put) (total is_in_a4 ClientOut came) h);
    asks_out = λ v window came put one q is k on at h.
        goes (record v { out_asked = true }) came put one (ap (λ (m : Marks). m.asks_in) q) h;
    answers_out = λ v came put one q k on asked h.
        comes (record v { way = OutIsAnswered }) came put one
        (ap (λ (m : Marks). m.wants_out) q) (ap (λ (m : Marks). m.finishes) q)
        (ap (λ (m : Marks). m.answers_in) q)
        (turned (is_ended v.phase) v.writing v.writing v.out_successor v.in_asked OutIsAsked
        OutIsAnswered v.waiting (total is_out_r1_a2 ClientOut came)
        (total is_out_r1_a10 ClientOut came) (total is_in_r1_a1 ClientIn put)
        (total is_in_a4 ClientOut came) (λ o same. absurd cc) refl h.ins h.are_answered
        (λ i. i) h);
    switches = λ v came put one q is k h.
        goes (record v { way = OutIsSwitched }) came put one (ap (λ (m : Marks). m.asks_in) q)
        (turned (is_ended v.phase) v.writing v.writing v.out_successor v.in_asked OutIsAnswered
        OutIsSwitched v.waiting (total is_out_r1_a2 ClientOut came)
        (total is_out_r1_a10 ClientOut came) (total is_in_r1_a1 ClientIn put)
        (total is_in_a4 ClientOut came) (λ o same. absurd cc) refl h.ins h.are_answered
        (λ i. i) h);
    finishes = λ v came put one q k on h.
        same_counts (record v { way = OutIsFinished }) (total is_out_r1_a2 ClientOut came)
        (total is_out_r1_a10 ClientOut (came ++ one ∷ [])) (total is_in_r1_a1 ClientIn put)
        (total is_in_a4 ClientOut came) (total is_out_r1_a2 ClientOut (came ++ one ∷ []))
        (total is_out_r1_a10 ClientOut (came ++ one ∷ [])) (total is_in_r1_a1 ClientIn put)
        (total is_in_a4 ClientOut (came ++ one ∷ []))
        (stays_wanted came one (ap (λ (m : Marks). m.wants_out) q)) refl refl
        (stays_answered came one (ap (λ (m : Marks). m.answers_in) q))
        (finishes (is_ended v.phase) v.writing v.out_successor v.in_asked v.waiting
        (total is_out_r1_a2 ClientOut came) (total is_out_r1_a10 ClientOut came)
        (total is_in_r1_a1 ClientIn put) (total is_in_a4 ClientOut came)
        (total is_out_r1_a10 ClientOut (came ++ one ∷ []))
        (total_rises is_out_r1_a10 ClientOut (total is_out_r1_a10 ClientOut came) came one
        (ap (λ (m : Marks). m.finishes) q) (of_kind ClientOut one.0 k) refl) h);
    succeeds = λ v came put h.
        turned (is_ended v.phase) v.writing v.writing v.out_successor v.in_asked OutIsFinished
        Free v.waiting (total is_out_r1_a2 ClientOut came) (total is_out_r1_a10 ClientOut came)
        (total is_in_r1_a1 ClientIn put) (total is_in_a4 ClientOut came)
        (λ o same. absurd cc) refl h.ins h.are_answered
        (free_answers v.waiting (total is_out_r1_a10 ClientOut came)
        (total is_in_a4 ClientOut came)) h;
  }
    where
      hands_over : (e : Bool) (w u n : ℕ) (b x : Bool) (o f a i : ℕ)
          → Since e w n b InIsAnswered (out_if x) o f a i
          → Since e u n false Free (out_if x) o f a i
      hands_over e w u n b x o f a i h = record {
        owed = h.owed;
        still = λ over. absurd (busy (h.still over).0);
        ins = λ is. absurd (out_if_in x is);
        outs = h.outs;
        are_answered = h.are_answered.0;
        later = h.later;
        answers = λ less. handed_answers x f i (h.answers less);
        few = h.few;
      }
        where
          busy : InIsAnswered ≡ Free → ⊥
          busy same = absurd cc

-- ---- the law

-- from now on
anew : (wanted answered : ℕ) (e : Bool) (w n : ℕ) (b : Bool) (way : Way) (x : Waits)
    (o f a i : ℕ) → Since wanted answered e w n b way x o f a i
    → Since o i e w n b way x o f a i
anew wanted answered e w n b way x o f a i h = record {
  owed = h.owed;
  still = h.still;
  ins = h.ins;
  outs = h.outs;
  are_answered = h.are_answered;
  later = omega arith;
  answers = λ less. all way x;
  few = λ less. asked way b h.are_answered;
}
  where
    all : (way : Way) (x : Waits) → Answers way x o i f i
    all Free waits.Nothing = omega arith
    all Free waits.In = omega arith
    all Free waits.Out = omega arith
    all Free waits.InThenOut = omega arith
    all Free waits.OutThenIn = omega arith
    all InIsAsked x = omega arith
    all InIsAnswered x = omega arith
    all OutIsAsked x = (omega arith, λ l. omega arith)
    all OutIsAnswered x = (omega arith, λ l. omega arith)
    all OutIsSwitched x = (omega arith, λ l. omega arith)
    all OutIsFinished x = omega arith

    asked : (way : Way) (b : Bool) → AreAnswered way b a i → a ≤ i + 1
    asked InIsAsked true h = omega (arith, h)
    asked InIsAsked false h = omega (arith, h)
    asked InIsAnswered b h = let same = h.0 in omega (arith, same)
    asked Free b h = omega (arith, h)
    asked OutIsAsked b h = omega (arith, h)
    asked OutIsAnswered b h = omega (arith, h)
    asked OutIsSwitched b h = omega (arith, h)
    asked OutIsFinished b h = omega (arith, h)

abbrev HoldsAt : ℕ → ℕ → Passage ClientRole → Type 0
HoldsAt wanted answered p = Holds wanted answered (view p.role) p.came p.put

moves_keep : (wanted answered : ℕ) (p : EndPassage ClientRole) (moves : List EndMove)
    → AreAllowedAtEnd rules acts p moves → HoldsAt wanted answered p.passage
    → HoldsAt wanted answered (all_end_moved rules acts p moves).passage
moves_keep wanted answered p moves allowed h =
    allowed_moves_keep rules acts
    (keeps.Holds (Holds wanted answered) (events wanted answered))
    (client_keeps (Holds wanted answered) (events wanted answered)) p moves allowed h

pub allowed_parts : (p : EndPassage ClientRole) (before later : List EndMove)
    → AreAllowedAtEnd rules acts p (before ++ later)
    → AreAllowedAtEnd rules acts p before
    × AreAllowedAtEnd rules acts (all_end_moved rules acts p before) later
allowed_parts p [] later allowed = (tt, allowed)
allowed_parts p (move ∷ before) later allowed =
    let rest = allowed_parts (end_moved rules acts p move) before later allowed.1 in
    ((allowed.0, rest.0), rest.1)

pub asks_one_behind : (config : ClientConfig) (before later : List EndMove)
    → AreAllowedMoves config (before ++ later)
    → AsksOneBehind (client_moved config before).passage
    (client_moved config (before ++ later)).passage
asks_one_behind config before later allowed =
    subst (λ (p : EndPassage ClientRole). AsksOneBehind then.passage p.passage)
    (sym (all_end_moved_append rules acts start before later)) now.few
  where
    start : EndPassage ClientRole
    start = end_started (first config)

    then : EndPassage ClientRole
    then = all_end_moved rules acts start before

    parts : AreAllowedAtEnd rules acts start before × AreAllowedAtEnd rules acts then later
    parts = allowed_parts start before later allowed

    began : HoldsAt 0 0 start.passage
    began = record {
      owed = λ l. refl;
      still = λ o. absurd (cc);
      ins = λ o. absurd (cc);
      outs = λ o. absurd (cc);
      are_answered = refl;
      later = omega arith;
      answers = λ less. absurd (omega (arith, less));
      few = λ less. absurd (omega (arith, less));
    }

    so_far : HoldsAt 0 0 then.passage
    so_far = moves_keep 0 0 start before parts.0 began

    wanted : ℕ
    wanted = total is_out_r1_a2 ClientOut then.passage.came

    answered : ℕ
    answered = total is_in_a4 ClientOut then.passage.came

    again : HoldsAt wanted answered then.passage
    again =
        let v = view then.passage.role in
        anew 0 0 (is_ended v.phase) v.writing (newest_out v) v.in_asked v.way v.waiting wanted
        (total is_out_r1_a10 ClientOut then.passage.came)
        (total is_in_r1_a1 ClientIn then.passage.put) answered so_far

    now : HoldsAt wanted answered (all_end_moved rules acts then later).passage
    now = moves_keep wanted answered then later parts.1 again
