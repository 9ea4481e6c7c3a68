-- what stands on an os leg whose turn it is not, and behind END/B1
use Rattle.law_order.proofs.Vocabulary.{◌≡◌, ◌⊎◌, ℕ, suc, ◌+◌, ◌<◌, ◌≤◌, ◌==◌, List, [], ◌∷◌, ◌++◌, Bool, true, false, true≢false, if◌then◌else◌, inl, inr, arith, refl, sym, ap, ◌∙◌, subst, AllByRecursion}
use Rattle.rh_sig.specs.declared.named.Named.TheVariants as named
use Rattle.law_moves.proofs.Vocabulary.{by_test, Named, Leg, OutServer, InServer, Message, Text, Pdu, Packet, is_of, same_leg, OnLeg, Passage, of_leg, count_of, of_kind}
use Rattle.law_moves.proofs.Lemmas.{count_append, count_rises}
use Rattle.law_role_server.proofs.Vocabulary.{Server, is_out_r1_a9, often, MayGoBefore}
use Rattle.law_role_server_rows.proofs.InTurn.Splits.{kind_append, leg_is, split}
use Rattle.law_role_server_rows.specs.Putting.Greeting.{IsFrame, MayGreet, GreetsFirst}
use Rattle.law_role_server_rows.specs.Putting.Puts.{Turn, behind, behind_all, first_turn, os, Stands, StandFrom, WritesInTurn}
use Rattle.law_role_server_rows.specs.InTurn.Channels.{IsWritten, IsToOutProxy, MayFollowEnd, WritesOnBegun}

abbrev out_r1_a9s : List OnLeg → ℕ
out_r1_a9s log = often is_out_r1_a9 OutServer log

-- ---- the turn

out_is : (k n : ℕ) → os k ≡ os n → k ≡ n
out_is k n e = ap (λ (l : Leg). l.number) e

in_apart : {A : Type 0} → OutServer ≡ InServer → A
in_apart e = absurd (cc)

unseen : (test : Named → Bool) (m : Message) (ms : List Message) (b : Bool)
    → count_of test (m ∷ []) ≡ 0 → count_of test (if b then m ∷ ms else ms) ≡ count_of test ms
unseen test m ms true none = let all = count_append test (m ∷ []) ms in omega (arith, all, none)
unseen test m ms false none = refl

-- it moves on with each OUT_R1/A9
counts : (t : Turn) (leg : Leg) (m : Message) (log : List OnLeg) → Stands t (leg, m)
    → t.writing + out_r1_a9s ((leg, m) ∷ log) ≡ (behind t m).writing + out_r1_a9s log
counts t leg (Packet named.OutR1A9) log h =
    subst (λ (l : Leg). t.writing + out_r1_a9s ((l, Packet named.OutR1A9) ∷ log)
    ≡ suc t.writing + out_r1_a9s log) (sym h) (omega arith)
counts t leg m log h =
    ap (λ (k : ℕ). t.writing + k)
    (unseen is_out_r1_a9 m (of_kind OutServer log) (is_of OutServer leg) refl)

all_counts : (t : Turn) (log : List OnLeg) → StandFrom t log
    → t.writing + out_r1_a9s log ≡ (behind_all t log).writing
all_counts t [] h = omega arith
all_counts t ((leg, m) ∷ log) h =
    counts t leg m log h.0 ∙ all_counts (behind t m) log h.1

rises : (t : Turn) (m : Message) → t.writing ≤ (behind t m).writing
rises t (Packet named.OutR1A9) = omega arith
rises t (Packet named.EndB1) = omega arith
rises t m = omega arith

-- ---- what is written stands where the turn is

here : (t : Turn) (n : ℕ) (m : Message) → Stands t (os n, m)
    → MayGoBefore m ⊎ (n ≡ t.writing)
here t n (Text bytes) h = inl tt
here t n (Pdu pdu) h = inr (out_is n t.writing h.0)
here t n (Packet (named.ConnB3 size version)) h = in_apart h
here t n (Packet named.InR1B1) h = in_apart h
here t n (Packet (named.InR1B2 size)) h = in_apart h
here t n (Packet (named.Ack received window cookie)) h = in_apart h
here t n (Packet (named.AckTo to received window cookie)) (inl h) = inr (out_is n t.writing h)
here t n (Packet (named.AckTo to received window cookie)) (inr h) =
    inl (ap (λ (k : ℕ). k == 3) h.0)
here t n (Packet (named.ConnC1 version window timeout)) h = inr (out_is n t.writing h)
here t n (Packet (named.InR1A3 to version window timeout)) h = inr (out_is n t.writing h)
here t n (Packet (named.InR2A3 to)) h = inr (out_is n t.writing h)
here t n (Packet (named.OutR1A1 to)) h = inr (out_is n t.writing h)
here t n (Packet (named.OutR1A5 to version timeout)) h = inr (out_is n t.writing h)
here t n (Packet named.OutR1A9) h = inr (out_is n t.writing h)
here t n (Packet named.EndB1) h = inr (out_is n t.writing h.0)
here t n (Packet packet) h = absurd h

not_both : (m : Message) → IsWritten m → MayGoBefore m → ⊥
not_both (Text bytes) written before = written
not_both (Pdu pdu) written before = before
not_both (Packet packet) written before = true≢false (sym before ∙ written)

written_here : (t : Turn) (n : ℕ) (m : Message) → Stands t (os n, m) → IsWritten m
    → n ≡ t.writing
written_here t n m h written = by (here t n m h)
  where
    by : MayGoBefore m ⊎ (n ≡ t.writing) → n ≡ t.writing
    by (inl before) = absurd (not_both m written before)
    by (inr is) = is

-- ---- parts of a log

stand_behind : (t : Turn) (front rest : List OnLeg) → StandFrom t (front ++ rest)
    → StandFrom (behind_all t front) rest
stand_behind t [] rest h = h
stand_behind t (one ∷ front) rest h = stand_behind (behind t one.1) front rest h.1

stand_before : (t : Turn) (front rest : List OnLeg) → StandFrom t (front ++ rest)
    → StandFrom t front
stand_before t [] rest h = tt
stand_before t (one ∷ front) rest h = (h.0, stand_before (behind t one.1) front rest h.1)

-- ---- what stands on a leg whose turn is over

past_only : (n : ℕ) (t : Turn) (log : List OnLeg) → StandFrom t log → n < t.writing
    → AllByRecursion MayGoBefore (of_leg (os n) log)
past_only n t [] h less = tt
past_only n t ((leg, m) ∷ log) h less =
    let up = rises t m in
    let rest = past_only n (behind t m) log h.1 (omega (arith, up, less)) in
    by_test (AllByRecursion MayGoBefore) (same_leg leg (os n)) (m ∷ of_leg (os n) log)
    (of_leg (os n) log)
    (λ e. (
      by (here t n m (subst (λ (l : Leg). Stands t (l, m)) (leg_is OutServer n leg e) h.0)),
      rest,
    )) (λ e. rest)
  where
    by : MayGoBefore m ⊎ (n ≡ t.writing) → MayGoBefore m
    by (inl before) = before
    by (inr is) = absurd (omega (arith, is, less))

-- ---- behind END/B1

-- END/B1 stands on the leg, or its turn is over
abbrev Closed : ℕ → Turn → Type 0
Closed n t = (n < t.writing) ⊎ ((n ≡ t.writing) × (t.ended ≡ true))

closed_more : (n : ℕ) (t : Turn) (m : Message) → Closed n t → Closed n (behind t m)
closed_more n t (Packet named.OutR1A9) (inl less) = inl (omega (arith, less))
closed_more n t (Packet named.OutR1A9) (inr is) = inl (let e = is.0 in omega (arith, e))
closed_more n t (Packet named.EndB1) (inl less) = inl less
closed_more n t (Packet named.EndB1) (inr is) = inr (is.0, refl)
closed_more n t m closed = closed

over_more : (t : Turn) (m : Message) → t.over ≡ true → (behind t m).over ≡ true
over_more t (Packet named.OutR1A9) over = over
over_more t (Packet named.EndB1) over = refl
over_more t m over = over

follows : (n : ℕ) (t : Turn) (m : Message) → Stands t (os n, m) → t.over ≡ true → Closed n t
    → MayFollowEnd m
follows n t (Text bytes) h over closed = tt
follows n t (Pdu pdu) h over closed = absurd (true≢false (sym over ∙ h.1))
follows n t (Packet named.EndB1) h over (inl less) =
    let is = out_is n t.writing h.0 in omega (arith, is, less)
follows n t (Packet named.EndB1) h over (inr is) = true≢false (sym is.1 ∙ h.1)
follows n t (Packet packet) h over closed = tt

all_follow : (n : ℕ) (t : Turn) (log : List OnLeg) → StandFrom t log → t.over ≡ true
    → Closed n t → AllByRecursion MayFollowEnd (of_leg (os n) log)
all_follow n t [] h over closed = tt
all_follow n t ((leg, m) ∷ log) h over closed =
    let rest = all_follow n (behind t m) log h.1 (over_more t m over) (closed_more n t m closed) in
    by_test (AllByRecursion MayFollowEnd) (same_leg leg (os n)) (m ∷ of_leg (os n) log)
    (of_leg (os n) log)
    (λ e. (
      follows n t m (subst (λ (l : Leg). Stands t (l, m)) (leg_is OutServer n leg e) h.0)
          over closed,
      rest,
    )) (λ e. rest)

-- ---- no greeting stands behind a packet

frames_behind : (before : List Message) (m : Message) (behind : List Message)
    → IsFrame m → MayGreet (before ++ m ∷ behind) → AllByRecursion IsFrame behind
frames_behind [] (Text bytes) behind frame h = absurd frame
frames_behind [] (Pdu pdu) behind frame h = absurd (cc)
frames_behind [] (Packet packet) behind frame h = absurd (cc)
frames_behind (first ∷ before) m behind frame h = by before h.1
  where
    by : (before : List Message) → AllByRecursion IsFrame (before ++ m ∷ behind)
        → AllByRecursion IsFrame behind
    by [] all = all.1
    by (x ∷ before) all = by before all.1

to_proxies : (ms : List Message) → AllByRecursion MayGoBefore ms → AllByRecursion IsFrame ms
    → AllByRecursion IsToOutProxy ms
to_proxies [] before frames = tt
to_proxies (Text bytes ∷ ms) before frames = absurd frames.0
to_proxies (Pdu pdu ∷ ms) before frames = absurd before.0
to_proxies (Packet packet ∷ ms) before frames =
    (before.0, to_proxies ms before.1 frames.1)

-- ---- the law

module _ (p : Passage Server) (turns : WritesInTurn p.put) (greets : GreetsFirst p) where
  -- the turn behind a front of the log
  at_split : (front : List OnLeg) (one : OnLeg) (back : List OnLeg) → p.put ≡ front ++ one ∷ back
      → StandFrom (behind_all first_turn front) (one ∷ back)
  at_split front one back e =
      stand_behind first_turn front (one ∷ back) (subst (StandFrom first_turn) e turns)

  turn_at : (front : List OnLeg) (one : OnLeg) (back : List OnLeg) → p.put ≡ front ++ one ∷ back
      → (behind_all first_turn front).writing ≡ suc (out_r1_a9s front)
  turn_at front one back e =
      let all = all_counts first_turn front
      (stand_before first_turn front (one ∷ back) (subst (StandFrom first_turn) e turns)) in
      omega (arith, all)

  in_turn : (n : ℕ) (m : Message) (front back : List OnLeg)
      → p.put ≡ front ++ (os n, m) ∷ back → IsWritten m → n ≡ suc (out_r1_a9s front)
  in_turn n m front back e written =
      written_here (behind_all first_turn front) n m (at_split front (os n, m) back e).0 written
      ∙ turn_at front (os n, m) back e

  pub writes_on_begun : WritesOnBegun p
  writes_on_begun = record {
    in_turn = in_turn;
    handed_over = λ n m before after e written.
        let s = split OutServer (suc n) p.put before m after e in
        let is = in_turn (suc n) m s.front s.back s.whole written in
        let all = fewer s.front (os (suc n), m) s.back s.whole in
        omega (arith, is, all);
    behind_out_r1_a9 = λ n before after e.
        let s = split OutServer n p.put before (Packet named.OutR1A9) after e in
        let stand = at_split s.front (os n, Packet named.OutR1A9) s.back s.whole in
        let is = out_is n (behind_all first_turn s.front).writing stand.0 in
        to_proxies after
        (subst (AllByRecursion MayGoBefore) s.behind_is
        (past_only n (behind (behind_all first_turn s.front) (Packet named.OutR1A9)) s.back
        stand.1 (omega (arith, is))))
        (frames_behind before (Packet named.OutR1A9) after tt
        (subst MayGreet e (greets.out_proxies n)));
    behind_end = λ n before after e.
        let s = split OutServer n p.put before (Packet named.EndB1) after e in
        let stand = at_split s.front (os n, Packet named.EndB1) s.back s.whole in
        subst (AllByRecursion MayFollowEnd) s.behind_is
        (all_follow n (behind (behind_all first_turn s.front) (Packet named.EndB1)) s.back
        stand.1 refl (inr (out_is n (behind_all first_turn s.front).writing stand.0.0, refl)));
  }
    where
      fewer : (front : List OnLeg) (one : OnLeg) (back : List OnLeg)
          → p.put ≡ front ++ one ∷ back → out_r1_a9s front ≤ out_r1_a9s p.put
      fewer front one back e =
          subst (λ (log : List OnLeg). out_r1_a9s front ≤ out_r1_a9s log) (sym e)
          (subst (λ (ms : List Message). out_r1_a9s front ≤ count_of is_out_r1_a9 ms)
          (sym (kind_append OutServer front (one ∷ back)))
          (count_rises is_out_r1_a9 (of_kind OutServer front) (of_kind OutServer (one ∷ back))))
