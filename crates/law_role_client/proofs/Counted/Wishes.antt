-- a client asks for a successor of an OUT channel where one is wanted
use Rattle.law_order.proofs.Vocabulary.{◌≡◌, ℕ, ◌+◌, ◌≤◌, Bool, true, false, true≢false, not, nat_lt, List, [], ◌∷◌, ◌++◌, arith, refl, sym, ap, ◌∙◌, subst}
use Rattle.rh_shell.specs.declared.answers.Phase.TheVariants as phase
use Rattle.rh_client.specs.declared.replacement.InStage.TheVariants as in_stage
use Rattle.rh_client.specs.declared.replacement.OutStage.TheVariants as out_stage
use Rattle.rh_client.specs.declared.replacement.Waits.TheVariants as waits
use Rattle.law_moves.proofs.Vocabulary.{ClientConfig, ClientOut, Phase, is_ended, OnLeg, Passage, EndMove, end_started, all_end_moved, AreAllowedAtEnd}
use Rattle.law_role_client.proofs.Vocabulary.{LAST_NUMBER, Replacement, NoneUnderWay, In, Out, Waits, ClientRole, first, is_open, is_opening, is_asked, has_out, with_in, with_out, acts, rules, is_out_r1_a2, is_out_r1_a3, total, once_if, is_to_ask, out_waits, AsksWhereWanted}
use Rattle.law_role_client.proofs.ClientLogs.{of_kind}
use Rattle.law_role_client.proofs.Counted.Allowed.{allowed_moves_keep}
use Rattle.law_role_client.proofs.Counted.Standing.{passes, total_stays, total_rises}
use Rattle.law_role_client.proofs.Counted.Views.{View, view, Way, way_of, waits_of, Free, InIsAsked, InIsAnswered, OutIsAsked, OutIsAnswered, OutIsSwitched, OutIsFinished, is_out_way, out_if, has_in, behind_out, newest_out, Marks, EventsKeep}
use Rattle.law_role_client.proofs.Counted.Moves.{client_keeps}
use Rattle.law_role_client.proofs.Counted.Replacements as keeps

abbrev to_ask : Bool → Way → Bool
to_ask asked OutIsAsked = not asked
to_ask asked way = false

-- OUT_R1/A3 was put before it is answered
abbrev IsAsked : Way → Bool → Type 0
IsAsked OutIsAnswered asked = asked ≡ true
IsAsked OutIsSwitched asked = asked ≡ true
IsAsked OutIsFinished asked = asked ≡ true
IsAsked way asked = Unit {0}

-- what waits is dropped where the work is done
abbrev Owed : Bool → ℕ → ℕ → Type 0
Owed true least count = least ≤ count
Owed false least count = count ≡ least

record Wished (ended : Bool) (writing newest : ℕ) (asked : Bool) (way : Way) (waiting : Waits)
    (o2 o3 : ℕ) : Type 0 where
  owed : Owed ended (o3 + once_if (to_ask asked way) + once_if (has_out waiting)) o2
  put_there : IsAsked way asked
  -- what waits has a number for its successor
  ins : has_in waiting ≡ true → nat_lt writing LAST_NUMBER ≡ true
  outs : has_out waiting ≡ true → nat_lt newest LAST_NUMBER ≡ true

abbrev At : View → ℕ → ℕ → Type 0
At v o2 o3 =
    Wished (is_ended v.phase) v.writing (newest_out v) v.out_asked v.way v.waiting o2 o3

abbrev Holds : View → List OnLeg → List OnLeg → Type 0
Holds v came put = At v (total is_out_r1_a2 ClientOut came) (total is_out_r1_a3 ClientOut put)

-- ---- counts

comes : (v : View) (came put : List OnLeg) (one : OnLeg) → passes is_out_r1_a2 one.1 ≡ false
    → Holds v came put → Holds v (came ++ one ∷ []) put
comes v came put one other h =
    subst (λ (n : ℕ). At v n (total is_out_r1_a3 ClientOut put))
    (sym (total_stays is_out_r1_a2 ClientOut (total is_out_r1_a2 ClientOut came) came one other
    refl)) h

goes : (v : View) (came put : List OnLeg) (one : OnLeg) → passes is_out_r1_a3 one.1 ≡ false
    → Holds v came put → Holds v came (put ++ one ∷ [])
goes v came put one other h =
    subst (λ (n : ℕ). At v (total is_out_r1_a2 ClientOut came) n)
    (sym (total_stays is_out_r1_a3 ClientOut (total is_out_r1_a3 ClientOut put) put one other
    refl)) h

least : (ended : Bool) (n count : ℕ) → Owed ended n count → n ≤ count
least true n count owed = owed
least false n count owed = omega (arith, owed)

same_least : (ended : Bool) (n m count : ℕ) → m ≡ n → Owed ended n count → Owed ended m count
same_least ended n m count e owed = subst (λ (k : ℕ). Owed ended k count) (sym e) owed

-- ---- phases

not_ended : (p : Phase) → is_open p ≡ true → is_ended p ≡ false
not_ended phase.Opening e = absurd (cc)
not_ended phase.Open e = refl
not_ended phase.Ended e = absurd (cc)

pub not_yet_ended : (p : Phase) → is_opening p ≡ true → is_ended p ≡ false
not_yet_ended phase.Opening e = refl
not_yet_ended phase.Open e = absurd (cc)
not_yet_ended phase.Ended e = absurd (cc)

-- ---- what waits

with_in_out : (w : Waits) → has_out (with_in w) ≡ has_out w
with_in_out waits.Nothing = refl
with_in_out waits.In = refl
with_in_out waits.Out = refl
with_in_out waits.InThenOut = refl
with_in_out waits.OutThenIn = refl

with_out_out : (w : Waits) → has_out (with_out w) ≡ true
with_out_out waits.Nothing = refl
with_out_out waits.In = refl
with_out_out waits.Out = refl
with_out_out waits.InThenOut = refl
with_out_out waits.OutThenIn = refl

with_out_in : (w : Waits) → has_in (with_out w) ≡ has_in w
with_out_in waits.Nothing = refl
with_out_in waits.In = refl
with_out_in waits.Out = refl
with_out_in waits.InThenOut = refl
with_out_in waits.OutThenIn = refl

behind_out_out : (w : Waits) → has_out (behind_out w) ≡ false
behind_out_out waits.Nothing = refl
behind_out_out waits.In = refl
behind_out_out waits.Out = refl
behind_out_out waits.InThenOut = refl
behind_out_out waits.OutThenIn = refl

behind_out_in : (w : Waits) → has_in (behind_out w) ≡ true → has_in w ≡ true
behind_out_in waits.Nothing e = absurd (cc)
behind_out_in waits.In e = absurd (cc)
behind_out_in waits.Out e = absurd (cc)
behind_out_in waits.InThenOut e = absurd (cc)
behind_out_in waits.OutThenIn e = refl

out_if_out : (b : Bool) → has_out (out_if b) ≡ b
out_if_out true = refl
out_if_out false = refl

out_if_in : (b : Bool) → has_in (out_if b) ≡ true → ⊥
out_if_in true e = absurd (cc)
out_if_in false e = absurd (cc)

-- ---- events

-- as much is to be asked for
turned : (e : Bool) (w u n : ℕ) (a b : Bool) (way other : Way) (x : Waits) (o2 o3 : ℕ)
    → to_ask b other ≡ to_ask a way → IsAsked other b
    → (has_in x ≡ true → nat_lt u LAST_NUMBER ≡ true) → Wished e w n a way x o2 o3
    → Wished e u n b other x o2 o3
turned e w u n a b way other x o2 o3 same put_there ins h = record {
  owed =
      same_least e (o3 + once_if (to_ask a way) + once_if (has_out x))
      (o3 + once_if (to_ask b other) + once_if (has_out x)) o2
      (ap (λ (t : Bool). o3 + once_if t + once_if (has_out x)) same) h.owed;
  put_there = put_there;
  ins = ins;
  outs = h.outs;
}

asks : (e : Bool) (w n o2 o3 more : ℕ) (way : Way) (x : Waits) → is_out_way way ≡ true
    → more ≡ o3 + 1 → Wished e w n false way x o2 o3 → Wished e w n true way x o2 more
asks e w n o2 o3 more OutIsAsked x is one h = record {
  owed =
      same_least e (o3 + 1 + once_if (has_out x)) (more + 0 + once_if (has_out x)) o2
      (omega (arith, one)) h.owed;
  put_there = tt;
  ins = h.ins;
  outs = h.outs;
}
asks e w n o2 o3 more OutIsAnswered x is one h = absurd (true≢false (sym h.put_there))
asks e w n o2 o3 more OutIsSwitched x is one h = absurd (true≢false (sym h.put_there))
asks e w n o2 o3 more OutIsFinished x is one h = absurd (true≢false (sym h.put_there))
asks e w n o2 o3 more Free x is one h = absurd (cc)
asks e w n o2 o3 more InIsAsked x is one h = absurd (cc)
asks e w n o2 o3 more InIsAnswered x is one h = absurd (cc)

ends : (e : Bool) (w n o2 o3 : ℕ) (a : Bool) (x : Waits) → Wished e w n a Free x o2 o3
    → Wished true w n a Free waits.Nothing o2 o3
ends e w n o2 o3 a x h =
    let at_least = least e (o3 + 0 + once_if (has_out x)) o2 h.owed in
    record {
      owed = omega (arith, at_least);
      put_there = tt;
      ins = λ o. absurd (cc);
      outs = λ o. absurd (cc);
    }

wants_in : (e : Bool) (w n o2 o3 : ℕ) (a : Bool) (way : Way) (x : Waits)
    → nat_lt w LAST_NUMBER ≡ true → Wished e w n a way x o2 o3
    → Wished e w n a way (with_in x) o2 o3
wants_in e w n o2 o3 a way x lower h = record {
  owed =
      same_least e (o3 + once_if (to_ask a way) + once_if (has_out x))
      (o3 + once_if (to_ask a way) + once_if (has_out (with_in x))) o2
      (ap (λ (t : Bool). o3 + once_if (to_ask a way) + once_if t) (with_in_out x)) h.owed;
  put_there = h.put_there;
  ins = λ o. lower;
  outs = λ o. h.outs (sym (with_in_out x) ∙ o);
}

wants_out : (e : Bool) (w n o2 o3 more : ℕ) (a : Bool) (way : Way) (x : Waits) → e ≡ false
    → has_out x ≡ false → nat_lt n LAST_NUMBER ≡ true → more ≡ o2 + 1
    → Wished e w n a way x o2 o3 → Wished e w n a way (with_out x) more o3
wants_out true w n o2 o3 more a way x live none lower one h = absurd (true≢false live)
wants_out false w n o2 o3 more a way x live none lower one h =
    let before : o2 ≡ o3 + once_if (to_ask a way) + once_if false =
    subst (λ (t : Bool). o2 ≡ o3 + once_if (to_ask a way) + once_if t) none h.owed in
    record {
      owed =
          subst (λ (t : Bool). more ≡ o3 + once_if (to_ask a way) + once_if t)
          (sym (with_out_out x)) (omega (arith, before, one));
      put_there = h.put_there;
      ins = λ o. h.ins (sym (with_out_in x) ∙ o);
      outs = λ o. lower;
    }

begins_in : (e : Bool) (w n o2 o3 : ℕ) (a : Bool) (x : Waits) → Wished e w n a Free x o2 o3
    → Wished e w n a InIsAsked (out_if (has_out x)) o2 o3
begins_in e w n o2 o3 a x h = record {
  owed =
      same_least e (o3 + 0 + once_if (has_out x)) (o3 + 0 + once_if (has_out (out_if (has_out x))))
      o2 (ap (λ (t : Bool). o3 + 0 + once_if t) (out_if_out (has_out x))) h.owed;
  put_there = tt;
  ins = λ o. absurd (out_if_in (has_out x) o);
  outs = λ o. h.outs (sym (out_if_out (has_out x)) ∙ o);
}

begins_out : (e : Bool) (w n m o2 o3 : ℕ) (a : Bool) (x : Waits) → has_out x ≡ true
    → Wished e w n a Free x o2 o3 → Wished e w m false OutIsAsked (behind_out x) o2 o3
begins_out e w n m o2 o3 a x is h =
    let none : once_if (has_out (behind_out x)) ≡ 0 = ap once_if (behind_out_out x) in
    let one : once_if (has_out x) ≡ 1 = ap once_if is in
    record {
      owed =
          same_least e (o3 + 0 + once_if (has_out x)) (o3 + 1 + once_if (has_out (behind_out x)))
          o2 (omega (arith, none, one)) h.owed;
      put_there = tt;
      ins = λ o. h.ins (behind_out_in x o);
      outs = λ o. absurd (true≢false (sym o ∙ behind_out_out x));
    }

wishes : EventsKeep Holds
wishes = record {
  comes = λ v came put one q h. comes v came put one (ap (λ (m : Marks). m.wants_out) q) h;
  goes = λ v came put one q o h. goes v came put one (ap (λ (m : Marks). m.asks_out) q) h;
  fills = λ v line came put past h. h;
  takes = λ v came put h. h;
  acks = λ v which ack came put one q is h.
      goes v came put one (ap (λ (m : Marks). m.asks_out) q) h;
  opens = λ v came put one q k o h.
      comes (record v { phase = phase.Open }) came put one (ap (λ (m : Marks). m.wants_out) q)
      (subst (λ (e : Bool).
      Wished e v.writing (newest_out v) v.out_asked v.way v.waiting
      (total is_out_r1_a2 ClientOut came) (total is_out_r1_a3 ClientOut put))
      (not_yet_ended v.phase o) h);
  closes = λ v came put o h. h;
  ends = λ v came put e h.
      ends (is_ended v.phase) v.writing v.current (total is_out_r1_a2 ClientOut came)
      (total is_out_r1_a3 ClientOut put) v.out_asked v.waiting h;
  ups_writing = λ v cookie came put down h. h;
  ups_in = λ v cookie came put h. h;
  ups_current = λ v cookie came put down h. h;
  ups_out = λ v cookie came put h. h;
  begins_writing = λ v came put one q greets of is k at h.
      goes v came put one (ap (λ (m : Marks). m.asks_out) q) h;
  begins_current = λ v came put one q greets of is k at h.
      goes v came put one (ap (λ (m : Marks). m.asks_out) q) h;
  wants_in = λ v came put o l h.
      wants_in (is_ended v.phase) v.writing (newest_out v) (total is_out_r1_a2 ClientOut came)
      (total is_out_r1_a3 ClientOut put) v.out_asked v.way v.waiting l h;
  wants_out = λ v came put one q k o w l h.
      wants_out (is_ended v.phase) v.writing (newest_out v) (total is_out_r1_a2 ClientOut came)
      (total is_out_r1_a3 ClientOut put) (total is_out_r1_a2 ClientOut (came ++ one ∷ []))
      v.out_asked v.way v.waiting (not_ended v.phase o) w l
      (total_rises is_out_r1_a2 ClientOut (total is_out_r1_a2 ClientOut came) came one
      (ap (λ (m : Marks). m.wants_out) q) (of_kind ClientOut one.0 k) refl) h;
  begins_in = λ v came put w l h.
      begins_in (is_ended v.phase) v.writing v.current (total is_out_r1_a2 ClientOut came)
      (total is_out_r1_a3 ClientOut put) v.out_asked v.waiting h;
  begins_out = λ v came put w l h.
      begins_out (is_ended v.phase) v.writing v.current (v.current + 1)
      (total is_out_r1_a2 ClientOut came) (total is_out_r1_a3 ClientOut put) v.out_asked v.waiting
      w h;
  drops_in = λ v came put w l h. absurd (true≢false (sym (h.ins w) ∙ l));
  drops_out = λ v came put w l h. absurd (true≢false (sym (h.outs w) ∙ l));
  asks_in = λ v came put one q is k on at h.
      goes v came put one (ap (λ (m : Marks). m.asks_out) q) h;
  answers_in = λ v came put one q k asked h.
      comes (record v { way = InIsAnswered }) came put one (ap (λ (m : Marks). m.wants_out) q)
      (turned (is_ended v.phase) v.writing v.writing v.current v.out_asked v.out_asked InIsAsked
      InIsAnswered v.waiting (total is_out_r1_a2 ClientOut came) (total is_out_r1_a3 ClientOut put)
      refl tt h.ins h);
  hands_over = λ v w e came put one q is k on h.
      goes (record v {
        writing = v.in_successor;
        in_successor = 0;
        in_asked = false;
        way = Free;
        waiting = out_if w;
        end_put = e;
      }) came put one (ap (λ (m : Marks). m.asks_out) q)
      (turned (is_ended v.phase) v.writing v.in_successor v.current v.out_asked v.out_asked
      InIsAnswered Free (out_if w) (total is_out_r1_a2 ClientOut came)
      (total is_out_r1_a3 ClientOut put) refl tt (λ o. absurd (out_if_in w o)) h);
  asks_out = λ v window came put one q is k on at h.
      asks (is_ended v.phase) v.writing (newest_out v) (total is_out_r1_a2 ClientOut came)
      (total is_out_r1_a3 ClientOut put) (total is_out_r1_a3 ClientOut (put ++ one ∷ [])) v.way
      v.waiting at
      (total_rises is_out_r1_a3 ClientOut (total is_out_r1_a3 ClientOut put) put one
      (ap (λ (m : Marks). m.asks_out) q) (of_kind ClientOut one.0 k) refl) h;
  answers_out = λ v came put one q k on asked h.
      comes (record v { way = OutIsAnswered }) came put one (ap (λ (m : Marks). m.wants_out) q)
      (turned (is_ended v.phase) v.writing v.writing v.out_successor v.out_asked v.out_asked
      OutIsAsked OutIsAnswered v.waiting (total is_out_r1_a2 ClientOut came)
      (total is_out_r1_a3 ClientOut put) (sym (ap not asked)) asked h.ins h);
  switches = λ v came put one q is k h.
      goes (record v { way = OutIsSwitched }) came put one (ap (λ (m : Marks). m.asks_out) q)
      (turned (is_ended v.phase) v.writing v.writing v.out_successor v.out_asked v.out_asked
      OutIsAnswered OutIsSwitched v.waiting (total is_out_r1_a2 ClientOut came)
      (total is_out_r1_a3 ClientOut put) refl h.put_there h.ins h);
  finishes = λ v came put one q k on h.
      comes (record v { way = OutIsFinished }) came put one (ap (λ (m : Marks). m.wants_out) q)
      (turned (is_ended v.phase) v.writing v.writing v.out_successor v.out_asked v.out_asked
      OutIsSwitched OutIsFinished v.waiting (total is_out_r1_a2 ClientOut came)
      (total is_out_r1_a3 ClientOut put) refl h.put_there h.ins h);
  succeeds = λ v came put h.
      turned (is_ended v.phase) v.writing v.writing v.out_successor v.out_asked false
      OutIsFinished Free v.waiting (total is_out_r1_a2 ClientOut came)
      (total is_out_r1_a3 ClientOut put) refl tt h.ins h;
}

-- ---- the law

same_to_ask : (s : ClientRole) (r : Replacement)
    → to_ask (is_asked s.out_successor.opening) (way_of r) ≡ is_to_ask s r
same_to_ask s NoneUnderWay = refl
same_to_ask s (In in_stage.Asked w) = refl
same_to_ask s (In in_stage.Answered w) = refl
same_to_ask s (Out out_stage.Asked w) = refl
same_to_ask s (Out out_stage.Answered w) = refl
same_to_ask s (Out out_stage.Switched w) = refl
same_to_ask s (Out out_stage.Finished w) = refl

same_waits : (r : Replacement) → has_out (waits_of r) ≡ out_waits r
same_waits NoneUnderWay = refl
same_waits (In stage w) = out_if_out w
same_waits (Out stage w) = refl

asked_where_wanted : (p : Passage ClientRole) → Holds (view p.role) p.came p.put
    → AsksWhereWanted p
asked_where_wanted p h =
    record { wanted = omega (arith, at_least); waits = λ live. all (is_ended s.phase) live h.owed }
  where
    s : ClientRole
    s = p.role

    o2 : ℕ
    o2 = total is_out_r1_a2 ClientOut p.came

    o3 : ℕ
    o3 = total is_out_r1_a3 ClientOut p.put

    asked : Bool
    asked = to_ask (is_asked s.out_successor.opening) (way_of s.replacement)

    waiting : Bool
    waiting = has_out (waits_of s.replacement)

    at_least : o3 + once_if asked + once_if waiting ≤ o2
    at_least = least (is_ended s.phase) (o3 + once_if asked + once_if waiting) o2 h.owed

    all : (e : Bool) → e ≡ false → Owed e (o3 + once_if asked + once_if waiting) o2
        → o2 ≡ o3 + once_if (is_to_ask s s.replacement) + once_if (out_waits s.replacement)
    all true live owed = absurd (true≢false live)
    all false live owed =
        owed ∙ ap (λ (t : Bool). o3 + once_if t + once_if waiting) (same_to_ask s s.replacement)
        ∙ ap (λ (t : Bool). o3 + once_if (is_to_ask s s.replacement) + once_if t)
        (same_waits s.replacement)

pub asks_where_wanted : (config : ClientConfig) (moves : List EndMove)
    → AreAllowedAtEnd rules acts (end_started (first config)) moves
    → AsksWhereWanted (all_end_moved rules acts (end_started (first config)) moves).passage
asks_where_wanted config moves allowed =
    asked_where_wanted (all_end_moved rules acts (end_started (first config)) moves).passage
    (allowed_moves_keep rules acts (keeps.Holds Holds wishes) (client_keeps Holds wishes)
    (end_started (first config)) moves allowed
    (record { owed = refl; put_there = tt; ins = λ o. absurd (cc); outs = λ o. absurd (cc) }))
