-- an out proxy keeps answers for IN channels before wishes for OUT channels
use Rattle.law_order.proofs.Vocabulary.{◌≡◌, ℕ, zero, suc, true≢false, nat_lt, ◌≤◌, ◌==◌, ◌&&◌, ◌||◌, Bool, true, false, if◌then◌else◌, List, [], ◌∷◌, ◌++◌, Some, None, Ok, Err, inl, inr, ◌⊎◌, ◌+◌, refl, sym, ap, ◌∙◌, subst, arith, rules, and_parts, eqb-true, append-nil, append_assoc, IfSome, Option, list_any}
use Rattle.rh_sig.specs.declared.named.Named.TheVariants as named
use Rattle.rh_shell.specs.Waiting as waits
use Rattle.rh_shell.specs.declared.due.Origin.TheVariants as origins
use Rattle.rh_outproxy.specs.declared.state.Answer.TheVariants as answers
use Rattle.rh_outproxy.specs.declared.state.ServerLeg.TheVariants as servers
use Rattle.rh_outproxy.specs.declared.state.Channel.TheVariants as channels
use Rattle.rh_outproxy.specs.declared.state.ClientLeg.TheVariants as clients
use Rattle.law_moves.proofs.Vocabulary.{Ack, by_test, Cookie, TO_OUT_PROXY, Named, Leg, ClientOut, OutServer, Count, Due, Message, Pdu, Packet, same_leg, Waiting, AreAllowed, OnLeg, Move, all_moved, started, of_leg, is_out_r1_a1, is_out_r1_a2, count_of}
use Rattle.law_moves.proofs.Lemmas.{PutKeeps, RowKeeps, count_append, count_rises, leg_more, here_more, leg_is, IsNoAck}
use Rattle.law_role_client.proofs.Vocabulary.{is_in_a4}
use Rattle.law_role_outproxy.proofs.Vocabulary.{Answer, Channel, OutProxyConfig, OutProxy, is_client_down, is_client_marked, is_known, is_server_down, joined, new_proxy, Done, is_co, is_os, is_carrying, taken, unexpected, forwarded, forwarded_by, passed_on, up, head, conn_c1_by, may_up, ClientLeg, ack_due, on_ack, on_ack_to, drawn, mark, on_end_b1, on_out_r1_a9, Pick, or_else, answer_by, put_answer, waiting_by, put_waiting, pdu_by, put_pdu, put_mark, put_ping, next_co}
use Rattle.law_role_outproxy.proofs.Vocabulary.{put_first, ack_by, put_ack, next_os, put as put_of, pdu, packet, on_co, on_os, rules as proxy_rules, co_leg, os_leg}
use Rattle.law_peers_room.specs.OutRoom.Waits.{is_in_a3, packets_of}
use Rattle.law_peers_forwarding.proofs.Answering.Allowed.{MayKeep, may_moves_keep}
use Rattle.law_peers_forwarding.proofs.Answering.Until.{merged_count, merged_until, packets_more, until_behind, until_between, until_on, until_over, until_rises}
use Rattle.law_peers_forwarding.specs.Answering.Passing.{AnswersKeepBefore, count_until}

-- the packets that go to the client, and those that wait behind them
abbrev line_of : List Due → List Message → List Message
line_of dues put = put ++ packets_of dues

abbrev until_wish : List Due → List Message → ℕ
until_wish dues put = count_until is_in_a4 is_out_r1_a2 (line_of dues put)

abbrev until_came : List Message → ℕ
until_came came = count_until is_in_a3 is_out_r1_a1 came

-- a wish that came is forwarded, where the client's leg is not lost
record InLine (marked : Bool) (dues : List Due) (came put : List Message) : Type 0 where
  few : until_wish dues put ≤ until_came came
  wished : marked ≡ false → 1 ≤ count_of is_out_r1_a1 came
      → 1 ≤ count_of is_out_r1_a2 (line_of dues put)

no_answer : IsNoAck is_in_a4
no_answer to received available of = refl

no_wish : IsNoAck is_out_r1_a2
no_wish to received available of = refl

-- ---- more came

-- another message
module _ (b : Bool) (dues : List Due) (came put : List Message) where
  more_few : (more : List Message) → InLine b dues came put
      → until_wish dues put ≤ until_came (came ++ more)
  more_few more h =
      let few = h.few in
      let rise = until_rises is_in_a3 is_out_r1_a1 came more in
      omega (arith, few, rise)

  -- which is no wish
  more_came : (more : List Message) → count_of is_out_r1_a1 more ≡ 0 → InLine b dues came put
      → InLine b dues (came ++ more) put
  more_came more none h = record {
    few = more_few more h;
    wished = λ up one.
        let all = count_append is_out_r1_a1 came more in
        h.wished up (omega (arith, none, one, all));
  }

-- where the leg is lost
more_lost : (b : Bool) (dues : List Due) (came put more : List Message) → b ≡ true
    → InLine b dues came put → InLine b dues (came ++ more) put
more_lost b dues came put more lost h = record {
  few = more_few b dues came put more h;
  wished = λ up one. absurd (true≢false (sym lost ∙ up));
}

-- another leg is lost
more_marked : (a b : Bool) (dues : List Due) (came put : List Message)
    → (b ≡ false → a ≡ false) → InLine a dues came put → InLine b dues came put
more_marked a b dues came put so h =
    record { few = h.few; wished = λ up one. h.wished (so up) one }

-- ---- a packet to forward came

-- the one is forwarded as the other
record IsForwardedAs (m other : Named) : Type 0 where
  answers : is_in_a4 other ≡ is_in_a3 m
  wishes : is_out_r1_a2 other ≡ is_out_r1_a1 m
  -- a wish is not merged
  merges : (is_out_r1_a1 m ≡ false)
      ⊎ ((dues : List Due) → list_any (waits.takes other) dues ≡ false)

one_until : (m other : Named) → IsForwardedAs m other
    → count_until is_in_a4 is_out_r1_a2 (Packet other ∷ [])
    ≡ count_until is_in_a3 is_out_r1_a1 (Packet m ∷ [])
one_until m other is =
    ap (λ (t : Bool). if t then 0 else if is_in_a4 other then 1 else 0) is.wishes
    ∙ ap (λ (t : Bool). if is_out_r1_a1 m then 0 else if t then 1 else 0) is.answers

one_wish : (m other : Named) → IsForwardedAs m other
    → count_of is_out_r1_a2 (Packet other ∷ []) ≡ count_of is_out_r1_a1 (Packet m ∷ [])
one_wish m other is = ap (λ (t : Bool). if t then 1 else 0) is.wishes

-- it waits behind the others
pushed_line : (b : Bool) (dues : List Due) (came put : List Message) (m other : Named)
    → b ≡ false → IsForwardedAs m other → InLine b dues came put
    → InLine b (dues ++ waits.to_forward other ∷ []) (came ++ Packet m ∷ []) put
pushed_line b dues came put m other up is h =
    record {
      few =
          subst (λ (ms : List Message).
          count_until is_in_a4 is_out_r1_a2 ms ≤ until_came (came ++ Packet m ∷ [])) (sym same)
          (by (count_of is_out_r1_a2 line) refl);
      wished = λ still one.
          subst (λ (ms : List Message). 1 ≤ count_of is_out_r1_a2 ms) (sym same)
          (wish one);
    }
  where
    line : List Message
    line = line_of dues put

    same : line_of (dues ++ waits.to_forward other ∷ []) put ≡ line ++ Packet other ∷ []
    same =
        ap (λ (ms : List Message). put ++ ms) (packets_more dues (waits.to_forward other))
        ∙ sym (append_assoc put (packets_of dues) (Packet other ∷ []))

    by : (k : ℕ) → count_of is_out_r1_a2 line ≡ k
        → count_until is_in_a4 is_out_r1_a2 (line ++ Packet other ∷ [])
        ≤ until_came (came ++ Packet m ∷ [])
    by zero none =
        let so = h.wished up in
        let free : count_of is_out_r1_a1 came ≡ 0 = zero_by (count_of is_out_r1_a1 came)
        (λ one. let has = so one in omega (arith, has, none)) in
        let all = until_on is_in_a4 is_out_r1_a2 line (Packet other ∷ []) none in
        let both = until_on is_in_a3 is_out_r1_a1 came (Packet m ∷ []) free in
        let one = one_until m other is in
        let few = h.few in
        omega (arith, all, both, one, few)
      where
        zero_by : (k : ℕ) → (1 ≤ k → ⊥) → k ≡ 0
        zero_by zero f = refl
        zero_by (suc k) f = absurd (f (omega arith))
    by (suc k) some =
        let all = until_over is_in_a4 is_out_r1_a2 line (Packet other ∷ [])
        (omega (arith, some)) in
        let few = more_few b dues came put (Packet m ∷ []) h in
        omega (arith, all, few)

    wish : 1 ≤ count_of is_out_r1_a1 (came ++ Packet m ∷ [])
        → 1 ≤ count_of is_out_r1_a2 (line ++ Packet other ∷ [])
    wish one =
        let before = count_append is_out_r1_a1 came (Packet m ∷ []) in
        let after = count_append is_out_r1_a2 line (Packet other ∷ []) in
        let same_one = one_wish m other is in
        more (count_of is_out_r1_a1 came) refl before after same_one
      where
        more : (k : ℕ) → count_of is_out_r1_a1 came ≡ k
            → count_of is_out_r1_a1 (came ++ Packet m ∷ [])
            ≡ count_of is_out_r1_a1 came + count_of is_out_r1_a1 (Packet m ∷ [])
            → count_of is_out_r1_a2 (line ++ Packet other ∷ [])
            ≡ count_of is_out_r1_a2 line + count_of is_out_r1_a2 (Packet other ∷ [])
            → count_of is_out_r1_a2 (Packet other ∷ [])
            ≡ count_of is_out_r1_a1 (Packet m ∷ [])
            → 1 ≤ count_of is_out_r1_a2 (line ++ Packet other ∷ [])
        more zero none before after same_one = omega (arith, one, none, before, after, same_one)
        more (suc k) some before after same_one =
            let has = h.wished up (omega (arith, some)) in omega (arith, has, after)

-- it is merged with one that waits, and passes neither test
merged_line : (b : Bool) (dues : List Due) (came put : List Message) (m other : Named)
    → is_out_r1_a1 m ≡ false → InLine b dues came put
    → InLine b (waits.merged dues other) (came ++ Packet m ∷ []) put
merged_line b dues came put m other none h =
    let h' = more_came b dues came put (Packet m ∷ [])
    (ap (λ (t : Bool). if t then 1 else 0) none) h in
    record {
      few =
          subst (λ (k : ℕ). k ≤ until_came (came ++ Packet m ∷ []))
          (sym (until_behind is_in_a4 is_out_r1_a2 put (packets_of (waits.merged dues other))
          (packets_of dues)
          (merged_until is_in_a4 is_out_r1_a2 no_answer no_wish dues other))) h'.few;
      wished = λ up one.
          let has = h'.wished up one in
          let all = count_append is_out_r1_a2 put (packets_of dues) in
          let now = count_append is_out_r1_a2 put (packets_of (waits.merged dues other)) in
          let same = merged_count is_out_r1_a2 no_wish dues other in
          omega (arith, has, all, now, same);
    }

-- ---- puts

-- a message that is not forwarded
abbrev CountsNone : Message → Type 0
CountsNone m =
    (count_of is_in_a4 (m ∷ []) ≡ 0) × (count_of is_out_r1_a2 (m ∷ []) ≡ 0)

other_put : (b : Bool) (dues : List Due) (came put : List Message) (m : Message)
    → CountsNone m → InLine b dues came put → InLine b dues came (put ++ m ∷ [])
other_put b dues came put m none h = record {
  few =
      subst (λ (k : ℕ). k ≤ until_came came)
      (sym (ap (count_until is_in_a4 is_out_r1_a2) assoc
      ∙ until_between is_in_a4 is_out_r1_a2 put m (packets_of dues) none.0 none.1)) h.few;
  wished = λ up one.
      let has = h.wished up one in
      let all = count_append is_out_r1_a2 put (packets_of dues) in
      let now = count_append is_out_r1_a2 (put ++ m ∷ []) (packets_of dues) in
      let front = count_rises is_out_r1_a2 put (m ∷ []) in
      omega (arith, has, all, now, front);
}
  where
    assoc : (put ++ m ∷ []) ++ packets_of dues ≡ put ++ m ∷ packets_of dues
    assoc = append_assoc put (m ∷ []) (packets_of dues)

-- the first that waits
first_put : (b : Bool) (due : Due) (dues : List Due) (came put : List Message)
    → InLine b (due ∷ dues) came put → InLine b dues came (put ++ Packet due.packet ∷ [])
first_put b due dues came put h =
    let same = append_assoc put (Packet due.packet ∷ []) (packets_of dues) in
    record {
      few =
          subst (λ (ms : List Message). count_until is_in_a4 is_out_r1_a2 ms ≤ until_came came)
          (sym same) h.few;
      wished = λ up one.
          subst (λ (ms : List Message). 1 ≤ count_of is_out_r1_a2 ms) (sym same)
          (h.wished up one);
    }

-- ---- steps

record Seen : Type 0 where
  number : ℕ
  marked : Bool
  waiting : Waiting

abbrev seen : OutProxy → Seen
seen s =
    record { number = s.config.number; marked = is_client_marked s.client; waiting = s.waiting }

record Held (n : ℕ) (x : Seen) (came put : List OnLeg) : Type 0 where
  is : x.number ≡ n
  line : InLine x.marked x.waiting.due (of_leg (os_leg n) came) (of_leg (co_leg n) put)

-- ---- what leaves these alone

-- the client's leg comes up where it was not before
up_marked : (s : OutProxy) (leg : Leg) (cookie : Cookie) → may_up s leg ≡ true
    → is_client_marked (up s leg cookie).client ≡ false → is_client_marked s.client ≡ false
up_marked s leg cookie may = by (is_co s leg) refl
  where
    down : (c : ClientLeg) → is_client_down c ≡ true → is_client_marked c ≡ false
    down clients.Down e = refl
    down clients.Up e = absurd (cc)
    down clients.Marked e = absurd (cc)

    not_both : is_co s leg ≡ true → is_os s leg ≡ true → ⊥
    not_both e f =
        let one = leg_is (co_leg s.config.number) leg e in
        let other = leg_is (os_leg s.config.number) leg f in
        absurd (kinds (one ∙ sym other))
      where
        kinds : co_leg s.config.number ≡ os_leg s.config.number → ⊥
        kinds same =
            let kind : ClientOut ≡ OutServer = ap (λ (l : Leg). l.kind) same in absurd cc

    by : (b : Bool) → is_co s leg ≡ b
        → is_client_marked (if b then record s { client = clients.Up }
        else record s { server = servers.FirstDue; answer = answers.ResponseDue }).client ≡ false
        → is_client_marked s.client ≡ false
    by true e still =
        parts (is_os s leg && (is_known s.channel && is_server_down s.server)) refl
      where
        parts : (t : Bool)
            → (is_os s leg && (is_known s.channel && is_server_down s.server)) ≡ t
            → is_client_marked s.client ≡ false
        parts true f = absurd (not_both e (and_parts (is_os s leg) _ f).0)
        parts false f =
            let may' : (false || (is_co s leg && is_client_down s.client)) ≡ true =
            ap (λ (t : Bool). t || (is_co s leg && is_client_down s.client)) (sym f) ∙ may in
            down s.client (and_parts (is_co s leg) (is_client_down s.client) may').1
    by false e still = still

up_waiting : (s : OutProxy) (leg : Leg) (cookie : Cookie)
    → (up s leg cookie).waiting ≡ s.waiting
up_waiting s leg cookie = search rules

up_number : (s : OutProxy) (leg : Leg) (cookie : Cookie)
    → (up s leg cookie).config.number ≡ s.config.number
up_number s leg cookie = search rules

mark_marked : (s : OutProxy) (leg : Leg) → is_client_marked (mark s leg).client ≡ false
    → is_client_marked s.client ≡ false
mark_marked s leg = by (is_co s leg)
  where
    by : (b : Bool)
        → is_client_marked (if b then record s { client = clients.Marked }
        else record s { server = servers.Marked }).client ≡ false
        → is_client_marked s.client ≡ false
    by true still = absurd (true≢false still)
    by false still = still

mark_waiting : (s : OutProxy) (leg : Leg) → (mark s leg).waiting ≡ s.waiting
mark_waiting s leg = search rules

mark_number : (s : OutProxy) (leg : Leg) → (mark s leg).config.number ≡ s.config.number
mark_number s leg = search rules

same_head : (s : OutProxy) (leg : Leg) (text : List ℕ) → seen (head s leg text).0 ≡ seen s
same_head s leg text = search rules

same_drawn : (s : OutProxy) (leg : Leg) → seen (drawn s leg) ≡ seen s
same_drawn s leg = search rules

same_pdu : (s : OutProxy) (leg : Leg) (number : Count) (bytes : List ℕ)
    → seen (pdu s leg number bytes).0 ≡ seen s
same_pdu s leg number bytes = search rules

same_co : (s : OutProxy) (number : Count) (m : Named) → seen (on_co s number m).0 ≡ seen s
same_co s number m = search rules

same_ack : (s : OutProxy) (received available : ℕ) (cookie : Cookie)
    → seen (on_ack s received available cookie).0 ≡ seen s
same_ack s received available cookie = search rules

same_a9 : (s : OutProxy) → seen (on_out_r1_a9 s).0 ≡ seen s
same_a9 s = search rules

same_end : (s : OutProxy) → seen (on_end_b1 s).0 ≡ seen s
same_end s = search rules

-- puts that leave them alone, of what is not forwarded
abbrev IsQuiet : OutProxy → Pick → Type 0
IsQuiet s pick =
    IfSome pick (λ (one : OutProxy × Message). (seen one.0 ≡ seen s) × CountsNone one.1)

quiet_answer : (s : OutProxy) (a : Answer) → IsQuiet s (answer_by a s)
quiet_answer s a = search rules

quiet_pdu : (s : OutProxy) (pdus : List (List ℕ)) → IsQuiet s (pdu_by s pdus)
quiet_pdu s pdus = search rules

quiet_mark : (s : OutProxy) → IsQuiet s (put_mark s)
quiet_mark s = search rules

quiet_ping : (s : OutProxy) → IsQuiet s (put_ping s)
quiet_ping s = search rules

quiet_first : (s : OutProxy) → IsQuiet s (put_first s)
quiet_first s = search rules

quiet_ack : (s : OutProxy) (o : Option Cookie) (a : Option Ack) → IsQuiet s (ack_by s o a)
quiet_ack s o a = search rules

module _ (n : ℕ) where
  abbrev Holds : OutProxy → List OnLeg → List OnLeg → Type 0
  Holds s came put = Held n (seen s) came put

  same_holds : (s t : OutProxy) (came put : List OnLeg) → seen t ≡ seen s → Holds s came put
      → Holds t came put
  same_holds s t came put same h = subst (λ (x : Seen). Held n x came put) (sym same) h

  -- another client's leg
  other_marked : (s t : OutProxy) (came put : List OnLeg) → t.waiting ≡ s.waiting
      → t.config.number ≡ s.config.number
      → (is_client_marked t.client ≡ false → is_client_marked s.client ≡ false)
      → Holds s came put → Holds t came put
  other_marked s t came put same number so h = record {
    is = number ∙ h.is;
    line = subst (λ (w : Waiting).
        InLine (is_client_marked t.client) w.due (of_leg (os_leg n) came)
        (of_leg (co_leg n) put)) (sym same)
        (more_marked (is_client_marked s.client) (is_client_marked t.client) s.waiting.due
        (of_leg (os_leg n) came) (of_leg (co_leg n) put) so h.line);
  }

  -- a message more came, or was put
  came_holds : (x : Seen) (came put : List OnLeg) (one : OnLeg)
      → (x.marked ≡ true) ⊎ (count_of is_out_r1_a1 (of_leg (os_leg n) (one ∷ [])) ≡ 0)
      → Held n x came put → Held n x (came ++ one ∷ []) put
  came_holds x came put one (inl lost) h = record {
    is = h.is;
    line = subst (λ (ms : List Message). InLine x.marked x.waiting.due ms (of_leg (co_leg n) put))
        (sym (leg_more (os_leg n) came one))
        (more_lost x.marked x.waiting.due (of_leg (os_leg n) came) (of_leg (co_leg n) put)
        (of_leg (os_leg n) (one ∷ [])) lost h.line);
  }
  came_holds x came put one (inr none) h = record {
    is = h.is;
    line = subst (λ (ms : List Message). InLine x.marked x.waiting.due ms (of_leg (co_leg n) put))
        (sym (leg_more (os_leg n) came one))
        (more_came x.marked x.waiting.due (of_leg (os_leg n) came) (of_leg (co_leg n) put)
        (of_leg (os_leg n) (one ∷ [])) none h.line);
  }

  put_holds : (x : Seen) (came put : List OnLeg) (one : OnLeg) → CountsNone one.1
      → Held n x came put → Held n x came (put ++ one ∷ [])
  put_holds x came put one none h = record {
    is = h.is;
    line = subst (InLine x.marked x.waiting.due (of_leg (os_leg n) came))
        (sym (leg_more (co_leg n) put one)) (by (same_leg one.0 (co_leg n)));
  }
    where
      by : (b : Bool) → InLine x.marked x.waiting.due (of_leg (os_leg n) came)
          (of_leg (co_leg n) put ++ (if b then one.1 ∷ [] else []))
      by true =
          other_put x.marked x.waiting.due (of_leg (os_leg n) came) (of_leg (co_leg n) put) one.1
          none h.line
      by false =
          subst (InLine x.marked x.waiting.due (of_leg (os_leg n) came))
          (sym (append-nil (of_leg (co_leg n) put))) h.line

  -- a packet that is no wish
  no_wish_in : (leg : Leg) (m : Message) → count_of is_out_r1_a1 (m ∷ []) ≡ 0
      → count_of is_out_r1_a1 (of_leg (os_leg n) ((leg, m) ∷ [])) ≡ 0
  no_wish_in leg m none = by (same_leg leg (os_leg n))
    where
      by : (b : Bool) → count_of is_out_r1_a1 (if b then m ∷ [] else []) ≡ 0
      by true = none
      by false = refl

  -- on another leg
  no_wish_on : (leg : Leg) (m : Message) → same_leg leg (os_leg n) ≡ false
      → count_of is_out_r1_a1 (of_leg (os_leg n) ((leg, m) ∷ [])) ≡ 0
  no_wish_on leg m e =
      ap (λ (b : Bool). count_of is_out_r1_a1 (if b then m ∷ [] else [])) e

  is_client : (s : OutProxy) (leg : Leg) → s.config.number ≡ n → is_co s leg ≡ true
      → co_leg n ≡ leg
  is_client s leg is e = ap co_leg (sym is) ∙ leg_is (co_leg s.config.number) leg e

  is_server : (s : OutProxy) (leg : Leg) → s.config.number ≡ n → is_os s leg ≡ true
      → os_leg n ≡ leg
  is_server s leg is e = ap os_leg (sym is) ∙ leg_is (os_leg s.config.number) leg e

  module _ (s : OutProxy) (came put : List OnLeg) (h : Holds s came put) where
    abbrev Row : OnLeg → Done → Type 0
    Row one x = RowKeeps Holds one came put x

    same_row : (one : OnLeg) (x : Done)
        → count_of is_out_r1_a1 (of_leg (os_leg n) (one ∷ [])) ≡ 0 → seen x.0 ≡ seen s
        → Row one x
    same_row one (t, Ok taken) none same =
        came_holds (seen t) came put one (inr none) (same_holds s t came put same h)
    same_row one (t, Err why) none same = same_holds s t came put same h

  module _ (s : OutProxy) (came put : List OnLeg) (h : Holds s came put) where
    -- ---- rows of the server's leg

    abbrev on_server : Named → OnLeg
    on_server m = (os_leg n, Packet m)

    forwarded_row : (m other : Named) → IsForwardedAs m other
        → Row s came put h (on_server m) (forwarded s other)
    forwarded_row m other as_other =
        by_test (Row s came put h (on_server m)) (is_client_marked s.client) (taken s)
        (forwarded_by s (waits.forwarded s.waiting other))
        (λ e. came_holds (seen s) came put (on_server m) (inl e) h)
        (λ up. by_test (λ (r : Waiting × Bool). Row s came put h (on_server m) (forwarded_by s r))
        (list_any (waits.takes other) s.waiting.due)
        (waits.with_due s.waiting (waits.merged s.waiting.due other), true) _
        (λ e. next (waits.merged s.waiting.due other) (merged up e as_other.merges))
        (λ e. by_test
        (λ (r : Waiting × Bool). Row s came put h (on_server m) (forwarded_by s r))
        (nat_lt (waits.count origins.Forwarded s.waiting.due) s.waiting.room)
        (waits.pushed s.waiting (waits.to_forward other), true) (s.waiting, false)
        (λ f. next (s.waiting.due ++ waits.to_forward other ∷ [])
        (pushed_line (is_client_marked s.client) s.waiting.due (of_leg (os_leg n) came)
        (of_leg (co_leg n) put) m other up as_other h.line))
        (λ f. h)))
      where
        Now : List Due → Type 0
        Now dues =
            InLine (is_client_marked s.client) dues (of_leg (os_leg n) came ++ Packet m ∷ [])
            (of_leg (co_leg n) put)

        next : (dues : List Due) → Now dues
            → Held n (record {
              number = s.config.number;
              marked = is_client_marked s.client;
              waiting = record { room = s.waiting.room; due = dues };
            }) (came ++ on_server m ∷ []) put
        next dues now = record {
          is = h.is;
          line = subst (λ (ms : List Message).
              InLine (is_client_marked s.client) dues ms (of_leg (co_leg n) put))
              (sym (here_more (os_leg n) came (Packet m))) now;
        }

        merged : is_client_marked s.client ≡ false
            → list_any (waits.takes other) s.waiting.due ≡ true
            → (is_out_r1_a1 m ≡ false)
            ⊎ ((dues : List Due) → list_any (waits.takes other) dues ≡ false)
            → Now (waits.merged s.waiting.due other)
        merged up e (inl none) =
            merged_line (is_client_marked s.client) s.waiting.due (of_leg (os_leg n) came)
            (of_leg (co_leg n) put) m other none h.line
        merged up e (inr never) = absurd (true≢false (sym e ∙ never s.waiting.due))

    passed_row : (m other : Named) (to : ℕ) → (to ≡ 0 → IsForwardedAs m other)
        → Row s came put h (on_server m) (passed_on s to other)
    passed_row m other to as_other =
        by_test (Row s came put h (on_server m)) (is_carrying s && (to == 0))
        (forwarded s other) (unexpected s)
        (λ e. forwarded_row m other
        (as_other (eqb-true to 0 (and_parts (is_carrying s) (to == 0) e).1)))
        (λ e. h)

    ack_row : (to received available : ℕ) (cookie : Cookie)
        → Row s came put h (on_server (named.AckTo to received available cookie))
        (on_ack_to s to received available cookie)
    ack_row to received available cookie =
        by_test (Row s came put h (on_server (named.AckTo to received available cookie)))
        (to == TO_OUT_PROXY) (on_ack s received available cookie)
        (passed_on s to (named.AckTo 0 received available cookie))
        (λ e. same_row s came put h (on_server (named.AckTo to received available cookie))
        (on_ack s received available cookie)
        (no_wish_in (os_leg n) (Packet (named.AckTo to received available cookie)) refl)
        (same_ack s received available cookie))
        (λ e. passed_row (named.AckTo to received available cookie)
        (named.AckTo 0 received available cookie) to
        (λ is. record { answers = refl; wishes = refl; merges = inl refl }))

  -- CONN/C1 is forwarded where the channel then is joined
  c1_row : (s : OutProxy) (came put : List OnLeg) (h : Holds s came put)
      (version size timeout : ℕ) (c : Channel)
      → Row s came put h (on_server s came put h (named.ConnC1 version size timeout))
      (conn_c1_by c s version size timeout)
  c1_row s came put h version size timeout channels.Unknown = h
  c1_row s came put h version size timeout (channels.New connection cookie) =
      forwarded_row (record s { channel = channels.Joined connection cookie }) came put h
      (named.ConnC1 version size timeout) (named.ConnC2 version size timeout)
      (record { answers = refl; wishes = refl; merges = inl refl })
  c1_row s came put h version size timeout (channels.Joined connection cookie) = h
  c1_row s came put h version size timeout
      (channels.Successor connection predecessor cookie) = h

  module _ (s : OutProxy) (came put : List OnLeg) (h : Holds s came put) where
    no_merge : (dues : List Due) → list_any (waits.takes (named.OutR1A2 0)) dues ≡ false
    no_merge [] = refl
    no_merge (due ∷ dues) =
        ap (λ (t : Bool). t || list_any (waits.takes (named.OutR1A2 0)) dues)
        (no_key (waits.key_of due.packet))
        ∙ no_merge dues
      where
        no_key : (o : Option waits.Key) → waits.are_one o None ≡ false
        no_key None = refl
        no_key (Some key) = refl

    os_row : (m : Named) → Row s came put h (on_server s came put h m) (on_os s m)
    os_row (named.ConnC1 version size timeout) =
        c1_row s came put h version size timeout s.channel
    os_row (named.AckTo to received available cookie) =
        ack_row s came put h to received available cookie
    os_row (named.InR1A3 to version size timeout) =
        passed_row s came put h (named.InR1A3 to version size timeout)
        (named.InR1A4 0 version size timeout) to
        (λ is. record { answers = refl; wishes = refl; merges = inl refl })
    os_row (named.InR2A3 to) =
        passed_row s came put h (named.InR2A3 to) (named.InR2A4 0) to
        (λ is. record { answers = refl; wishes = refl; merges = inl refl })
    os_row (named.OutR1A1 to) =
        passed_row s came put h (named.OutR1A1 to) (named.OutR1A2 0) to
        (λ is. record { answers = refl; wishes = refl; merges = inr no_merge })
    os_row (named.OutR1A5 to version timeout) =
        passed_row s came put h (named.OutR1A5 to version timeout)
        (named.OutR1A6 0 version timeout) to
        (λ is. record { answers = refl; wishes = refl; merges = inl refl })
    os_row named.OutR1A9 =
        same_row s came put h (on_server s came put h named.OutR1A9) (on_out_r1_a9 s)
        (no_wish_in (os_leg n) (Packet named.OutR1A9) refl) (same_a9 s)
    os_row named.EndB1 =
        same_row s came put h (on_server s came put h named.EndB1) (on_end_b1 s)
        (no_wish_in (os_leg n) (Packet named.EndB1) refl) (same_end s)
    os_row m = h

    packet_row : (leg : Leg) (number : Count) (m : Named)
        → Row s came put h (leg, Packet m) (packet s leg number m)
    packet_row leg number m =
        by_test (Row s came put h (leg, Packet m)) (is_co s leg) (on_co s number m)
        (if is_os s leg then on_os s m else unexpected s)
        (λ e. same_row s came put h (leg, Packet m) (on_co s number m)
        (subst (λ (l : Leg). count_of is_out_r1_a1 (of_leg (os_leg n) ((l, Packet m) ∷ [])) ≡ 0)
        (is_client s leg h.is e) (no_wish_on (co_leg n) (Packet m) refl)) (same_co s number m))
        (λ e. by_test (Row s came put h (leg, Packet m)) (is_os s leg) (on_os s m)
        (unexpected s)
        (λ f. subst (λ (l : Leg). Row s came put h (l, Packet m) (on_os s m))
        (is_server s leg h.is f) (os_row m))
        (λ f. h))

    -- ---- puts

    abbrev Put : Leg → Pick → Type 0
    Put leg pick = PutKeeps Holds leg came put pick

    or_put : (leg : Leg) (a b : Pick) → Put leg a → Put leg b → Put leg (or_else a b)
    or_put leg None b g k = k
    or_put leg (Some pick) b g k = g

    quiet_put : (leg : Leg) (pick : Pick) → IsQuiet s pick → Put leg pick
    quiet_put leg None same = tt
    quiet_put leg (Some one) same =
        put_holds (seen one.0) came put (leg, one.1) same.1
        (same_holds s one.0 came put same.0 h)

    -- what waits first goes first
    waiting_goes : (dues : List Due) → s.waiting.due ≡ dues
        → Put (co_leg n) (waiting_by s dues)
    waiting_goes [] e = tt
    waiting_goes (due ∷ dues) e = record {
      is = h.is;
      line = subst (InLine (is_client_marked s.client) dues (of_leg (os_leg n) came))
          (sym (here_more (co_leg n) put (Packet due.packet)))
          (first_put (is_client_marked s.client) due dues (of_leg (os_leg n) came)
          (of_leg (co_leg n) put)
          (subst (λ (ds : List Due).
          InLine (is_client_marked s.client) ds (of_leg (os_leg n) came)
          (of_leg (co_leg n) put)) e h.line));
    }

    client_put : Put (co_leg n) (next_co s)
    client_put =
        or_put (co_leg n) (put_answer s) _
        (quiet_put (co_leg n) (put_answer s) (quiet_answer s s.answer))
        (or_put (co_leg n) (put_waiting s) _ (waiting_goes s.waiting.due refl)
        (or_put (co_leg n) (put_pdu s) _
        (quiet_put (co_leg n) (put_pdu s) (quiet_pdu s s.line.current.pdus))
        (or_put (co_leg n) (put_mark s) (put_ping s)
        (quiet_put (co_leg n) (put_mark s) (quiet_mark s))
        (quiet_put (co_leg n) (put_ping s) (quiet_ping s)))))

    any_put : (leg : Leg) → Put leg (put_of s leg)
    any_put leg =
        by_test (Put leg) (is_co s leg) (next_co s) (if is_os s leg then next_os s else None)
        (λ e. subst (λ (l : Leg). Put l (next_co s)) (is_client s leg h.is e) client_put)
        (λ e. by_test (Put leg) (is_os s leg) (next_os s) None
        (λ f. or_put leg (put_first s) (put_ack s)
        (quiet_put leg (put_first s) (quiet_first s))
        (quiet_put leg (put_ack s) (quiet_ack s (joined s.channel) (ack_due s))))
        (λ f. tt))

  steps : MayKeep proxy_rules Holds
  steps = record {
    up = λ s leg cookie came put may h.
        other_marked s (up s leg cookie) came put (up_waiting s leg cookie)
        (up_number s leg cookie) (up_marked s leg cookie may) h;
    head = λ s leg text came put h.
        same_holds s (head s leg text).0 came put (same_head s leg text) h;
    pdu = λ s leg number bytes came put h.
        same_row s came put h (leg, Pdu bytes) (pdu s leg number bytes)
        (no_wish_in leg (Pdu bytes) refl) (same_pdu s leg number bytes);
    packet = λ s leg number m came put h. packet_row s came put h leg number m;
    put = λ s leg came put h. any_put s came put h leg;
    drawn = λ s leg came put h. same_holds s (drawn s leg) came put (same_drawn s leg) h;
    mark = λ s leg came put h.
        other_marked s (mark s leg) came put (mark_waiting s leg) (mark_number s leg)
        (mark_marked s leg) h;
    ping = λ s leg came put h. h;
  }

-- what waits is behind what went
in_line : (b : Bool) (dues : List Due) (came put : List Message) → InLine b dues came put
    → count_until is_in_a4 is_out_r1_a2 put ≤ until_came came
in_line b dues came put h =
    let few = h.few in
    let rise = until_rises is_in_a4 is_out_r1_a2 put (packets_of dues) in
    omega (arith, few, rise)

pub proxy_keeps : (config : OutProxyConfig) (moves : List Move)
    → AreAllowed proxy_rules (started (new_proxy config)) moves
    → AnswersKeepBefore config.number
    (all_moved proxy_rules (started (new_proxy config)) moves)
proxy_keeps config moves allowed =
    let n = config.number in
    let p = all_moved proxy_rules (started (new_proxy config)) moves in
    let h : Holds n p.role p.came p.put =
    may_moves_keep proxy_rules (Holds n) (steps n) (started (new_proxy config)) moves allowed
    (record {
      is = refl;
      line = record { few = omega arith; wished = λ up one. absurd (omega (arith, one)) };
    }) in
    in_line (is_client_marked p.role.client) p.role.waiting.due (of_leg (os_leg n) p.came)
    (of_leg (co_leg n) p.put) h.line
