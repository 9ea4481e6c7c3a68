-- each allowed step of a client keeps these facts: what comes, and its legs
use Rattle.std.specs.Option.{is_some}
use Rattle.law_order.proofs.Vocabulary.{◌≡◌, ◌<◌, ℕ, ◌==◌, Bool, true, false, true≢false, not, ◌&&◌, ◌||◌, nat_lt, if◌then◌else◌, List, [], ◌∷◌, ◌++◌, Some, None, Ok, Err, arith, rules, refl, sym, ap, ◌∙◌, subst, and_parts, Option}
use Rattle.rh_sig.specs.declared.named.Named.TheVariants as named
use Rattle.rh_shell.specs.declared.answers.Phase.TheVariants as phase
use Rattle.rh_client.specs.declared.replacement.InStage.TheVariants as in_stage
use Rattle.rh_client.specs.declared.replacement.OutStage.TheVariants as out_stage
use Rattle.rh_client.specs.declared.replacement.Waits.TheVariants as waits
use Rattle.rh_client.specs.Client as client
use Rattle.law_moves.proofs.Vocabulary.{by_test, Cookie, Named, Line, admit_verdict, after_admit, after_end, after_finish, after_open_next, Leg, LegKind, ClientOut, OutServer, ClientIn, InServer, Which, Current, Next, Count, is_zero, Row, Message, Text, Pdu, Packet, same_leg, OnLeg, of_leg, count_of}
use Rattle.law_moves.proofs.Lemmas.{Fact, RowKeeps, count_append, leg_more}
use Rattle.law_role_client.proofs.Vocabulary.{Opening, NotUp, Request, First, Second, Put, LAST_NUMBER, Replacement, NoneUnderWay, In, Out, ClientRole, is_up, is_put, is_asked, is_named, told_in, out_up, is_none, has_out, with_out, Done, taken, unexpected, settled, is_open, is_opening, is_current, is_out_successor, co, up_by, on_conn_a3, on_conn_c2, with_next, pdu_on, pdu_channel, admit_row, on_ack_to, ack_named, acked, ack_row, answer_by, passed, a2_by, a6_by, a10_by}
use Rattle.law_role_client.proofs.Vocabulary.{on_out_r1_a2, on_out_r1_a6, end_on, end_channel, on_packet, packet_by}
use Rattle.law_role_client.proofs.Counted.Standing.{passes}
use Rattle.law_role_client.proofs.Sending.Puts.{open_is as open_past}
use Rattle.law_role_client_rows.proofs.Refusing.Channels.{Seen, sees_by, sees, IsNext, Channels, past, Keeps, same, at, turned, begin_out_keeps, waits_else, settled_keeps, settles}
use Rattle.law_role_client_rows.specs.Refusing.{is_conn_a3}

abbrev pub Holds : Fact ClientRole
Holds s came put = Keeps came s

-- ---- another message comes

none_counted : (b : Bool) (m : Message) → passes is_conn_a3 m ≡ false
    → count_of is_conn_a3 (if b then m ∷ [] else []) ≡ 0
none_counted false m e = refl
none_counted true (Text bytes) e = refl
none_counted true (Pdu pdu) e = refl
none_counted true (Packet named) e =
    ap (λ (t : Bool). if t then 1 else 0) e

a3_stays : (came : List OnLeg) (one : OnLeg) → passes is_conn_a3 one.1 ≡ false
    → count_of is_conn_a3 (of_leg (co 1) (came ++ one ∷ []))
    ≡ count_of is_conn_a3 (of_leg (co 1) came)
a3_stays came (leg, m) e =
    let more =
    ap (count_of is_conn_a3) (leg_more (co 1) came (leg, m))
    ∙ count_append is_conn_a3 (of_leg (co 1) came) (if same_leg leg (co 1) then m ∷ [] else []) in
    let none = none_counted (same_leg leg (co 1)) m e in
    omega (arith, more, none)

grows : (v : Seen) (came : List OnLeg) (one : OnLeg) → passes is_conn_a3 one.1 ≡ false
    → Channels v came → Channels v (came ++ one ∷ [])
grows v came one e h = record {
  none = h.none;
  told = λ o some. h.told o (subst (λ (k : ℕ). 0 < k) (a3_stays came one e) some);
  next = h.next;
  unfinished = h.unfinished;
  current = h.current;
  successor = h.successor;
}

-- ---- rows

module _ (leg : Leg) (came put : List OnLeg) where
  abbrev Rows : Message → Done → Type 0
  Rows m x = RowKeeps Holds (leg, m) came put x

  -- a row that leaves all of it alone
  quiet : (s : ClientRole) (m : Message) → passes is_conn_a3 m ≡ false → Keeps came s
      → (t : ClientRole) (row : Row) → sees t ≡ sees s → Rows m (t, row)
  quiet s m e h t (Ok took) q =
      same (came ++ (leg, m) ∷ []) s t q (grows (sees s) came (leg, m) e h)
  quiet s m e h t (Err why) q = same came s t q h

  a3_keeps : (s : ClientRole) (count : Count) (timeout : ℕ) → Keeps came s
      → Rows (Packet (named.ConnA3 timeout)) (on_conn_a3 s leg.number count timeout)
  a3_keeps s count timeout h =
      by_test (Rows (Packet (named.ConnA3 timeout)))
      (leg.number == 1 && (is_current s leg.number && is_zero count))
      (taken (record s { current = record (s.current) { timeout = Some timeout } }))
      (unexpected s)
      (λ e. record {
        none = h.none;
        told = λ o some. refl;
        next = h.next;
        unfinished = h.unfinished;
        current = h.current;
        successor = h.successor;
      })
      (λ e. h)

  c2_keeps : (s : ClientRole) (version window timeout : ℕ) → Keeps came s
      → Rows (Packet (named.ConnC2 version window timeout))
      (on_conn_c2 s leg.number window timeout)
  c2_keeps s version window timeout h =
      by_test (Rows (Packet (named.ConnC2 version window timeout)))
      ((leg.number == 1 && is_current s leg.number)
      && (is_opening s.phase && is_some s.current.timeout))
      (taken (record s { phase = phase.Open; writing = told_in s.writing window timeout }))
      (unexpected s)
      (λ e. record {
        none = λ o. absurd (cc);
        told = λ o. absurd (cc);
        next = h.next;
        unfinished = h.unfinished;
        current = h.current;
        successor = h.successor;
      })
      (λ e. h)

  ack_keeps : (s : ClientRole) (to received available : ℕ) (of : Cookie) → Keeps came s
      → Rows (Packet (named.AckTo to received available of))
      (on_ack_to s to received available of)
  ack_keeps s to received available of h =
      by_test Row' (is_open s.phase && to == 0) (ack_named s received available of) (unexpected s)
      (λ o. by_test Row' (is_named s.writing of) (
        record s { writing = acked s.writing received available },
        ack_row s.writing received available,
      ) _
      (λ e. quiet s m refl h (record s { writing = acked s.writing received available })
      (ack_row s.writing received available) refl)
      (λ e. by_test Row' (is_named s.in_successor of) (
        record s { in_successor = acked s.in_successor received available },
        ack_row s.in_successor received available,
      ) _
      (λ u. quiet s m refl h (record s { in_successor = acked s.in_successor received available })
      (ack_row s.in_successor received available) refl)
      (λ u. by_test Row' (is_named s.leaving of) (
        record s { leaving = acked s.leaving received available },
        ack_row s.leaving received available,
      ) (taken s)
      (λ x. quiet s m refl h (record s { leaving = acked s.leaving received available })
      (ack_row s.leaving received available) refl)
      (λ x. quiet s m refl h s (Ok tt) refl))))
      (λ o. h)
    where
      m : Message
      m = Packet (named.AckTo to received available of)

      Row' : Done → Type 0
      Row' x = Rows (Packet (named.AckTo to received available of)) x

  not_opening : (s : ClientRole) (r : Replacement) → s.replacement ≡ r → is_none r ≡ false
      → Keeps came s → is_opening s.phase ≡ false
  not_opening s r e none h = past (is_opening s.phase) (is_none r) (at came s r e h).none none

  answer_keeps : (s : ClientRole) (m : Message) (window timeout : ℕ) (r : Replacement)
      → s.replacement ≡ r → passes is_conn_a3 m ≡ false → Keeps came s
      → Rows m (answer_by s window timeout r)
  answer_keeps s m window timeout NoneUnderWay e q h = h
  answer_keeps s m window timeout (In in_stage.Asked w) e q h =
      by_test (Rows m) (is_put s.in_successor.opening)
      (taken (record s {
        in_successor = told_in s.in_successor window timeout;
        replacement = In in_stage.Answered w;
      }))
      (unexpected s)
      (λ t. let now = at came s (In in_stage.Asked w) e h in
      turned (came ++ (leg, m) ∷ []) (sees s) (In in_stage.Answered w)
      (is_up s.out_successor.opening) s.out_successor.number
      (not_opening s (In in_stage.Asked w) e refl h) (now.unfinished refl) tt
      (λ is. absurd (cc)) (grows (sees s) came (leg, m) q h))
      (λ t. h)
  answer_keeps s m window timeout (In in_stage.Answered w) e q h = h
  answer_keeps s m window timeout (Out stage w) e q h = h

  answer_if : (s : ClientRole) (m : Message) (to window timeout : ℕ)
      → passes is_conn_a3 m ≡ false → Keeps came s
      → Rows m (if to == 0 then answer_by s window timeout s.replacement else unexpected s)
  answer_if s m to window timeout q h =
      by_test (Rows m) (to == 0) (answer_by s window timeout s.replacement) (unexpected s)
      (λ e. answer_keeps s m window timeout s.replacement refl q h) (λ e. h)

  a2_keeps : (s : ClientRole) (to : ℕ) (r : Replacement) → s.replacement ≡ r
      → is_opening s.phase ≡ false → Keeps came s
      → Rows (Packet (named.OutR1A2 to)) (a2_by s leg.number r)
  a2_keeps s to NoneUnderWay e o h =
      begin_out_keeps (came ++ (leg, Packet (named.OutR1A2 to)) ∷ []) s waits.Nothing o
      ((at came s NoneUnderWay e h).unfinished refl)
      (grows (sees s) came (leg, Packet (named.OutR1A2 to)) refl h)
  a2_keeps s to (In stage false) e o h =
      turned (came ++ (leg, Packet (named.OutR1A2 to)) ∷ []) (sees s) (In stage true)
      (is_up s.out_successor.opening) s.out_successor.number o
      ((at came s (In stage false) e h).unfinished refl) tt (λ is. absurd (cc))
      (grows (sees s) came (leg, Packet (named.OutR1A2 to)) refl h)
  a2_keeps s to (In stage true) e o h = h
  a2_keeps s to (Out stage w) e o h =
      by_test (Rows (Packet (named.OutR1A2 to))) (is_out_successor s leg.number && not (has_out w))
      (taken (record s { replacement = Out stage (with_out w) })) (unexpected s)
      (λ t. grows (sees_by s (Out stage (with_out w))) came (leg, Packet (named.OutR1A2 to)) refl
      (waits_else came s stage w (with_out w) (at came s (Out stage w) e h)))
      (λ t. h)

  a2_if : (s : ClientRole) (to : ℕ) → Keeps came s
      → Rows (Packet (named.OutR1A2 to)) (on_out_r1_a2 s leg.number to)
  a2_if s to h =
      by_test (Rows (Packet (named.OutR1A2 to)))
      (is_open s.phase && (to == 0 && nat_lt leg.number LAST_NUMBER))
      (a2_by s leg.number s.replacement) (unexpected s)
      (λ e. a2_keeps s to s.replacement refl
      (open_past s.phase (and_parts (is_open s.phase) _ e).0) h)
      (λ e. h)

  asked_up : (o : Opening) → is_asked o ≡ true → is_up o ≡ true
  asked_up NotUp e = absurd (cc)
  asked_up Request e = refl
  asked_up First e = refl
  asked_up Second e = refl
  asked_up Put e = refl

  a6_keeps : (s : ClientRole) (m : Message) (timeout : ℕ) (r : Replacement)
      → s.replacement ≡ r → passes is_conn_a3 m ≡ false → Keeps came s
      → Rows m (a6_by s timeout r)
  a6_keeps s m timeout NoneUnderWay e q h = h
  a6_keeps s m timeout (In stage w) e q h = h
  a6_keeps s m timeout (Out out_stage.Asked w) e q h =
      by_test (Rows m) (is_asked s.out_successor.opening)
      (taken (record s {
        out_successor = record (s.out_successor) { timeout = Some timeout };
        replacement = Out out_stage.Answered w;
      }))
      (unexpected s)
      (λ t. let now = at came s (Out out_stage.Asked w) e h in
      turned (came ++ (leg, m) ∷ []) (sees s) (Out out_stage.Answered w)
      (is_up s.out_successor.opening) s.out_successor.number
      (not_opening s (Out out_stage.Asked w) e refl h) (now.unfinished refl)
      (now.next (asked_up s.out_successor.opening t)) now.successor
      (grows (sees s) came (leg, m) q h))
      (λ t. h)
  a6_keeps s m timeout (Out out_stage.Answered w) e q h = h
  a6_keeps s m timeout (Out out_stage.Switched w) e q h = h
  a6_keeps s m timeout (Out out_stage.Finished w) e q h = h

  a6_if : (s : ClientRole) (to version timeout : ℕ) → Keeps came s
      → Rows (Packet (named.OutR1A6 to version timeout)) (on_out_r1_a6 s leg.number to timeout)
  a6_if s to version timeout h =
      by_test (Rows (Packet (named.OutR1A6 to version timeout)))
      (to == 0 && is_current s leg.number) (a6_by s timeout s.replacement) (unexpected s)
      (λ e. a6_keeps s (Packet (named.OutR1A6 to version timeout)) timeout s.replacement refl refl
      h)
      (λ e. h)

  a10_keeps : (s : ClientRole) (r : Replacement) → s.replacement ≡ r → Keeps came s
      → Rows (Packet named.OutR1A10) (a10_by s leg.number r)
  a10_keeps s NoneUnderWay e h = h
  a10_keeps s (In stage w) e h = h
  a10_keeps s (Out out_stage.Asked w) e h = h
  a10_keeps s (Out out_stage.Answered w) e h = h
  a10_keeps s (Out out_stage.Switched w) e h =
      by_test (Rows (Packet named.OutR1A10)) (s.line.has_next && is_current s leg.number)
      (taken (passed (record s {
        line = after_finish s.line;
        replacement = Out out_stage.Finished w;
      })))
      (unexpected s)
      (λ t. let now = at came s (Out out_stage.Switched w) e h in
      settles (came ++ (leg, Packet named.OutR1A10) ∷ [])
      (record s {
        line = record (s.line) { finished = true };
        replacement = Out out_stage.Finished w;
      })
      (grows (record (sees s) { finished = true; replacement = Out out_stage.Finished w }) came
      (leg, Packet named.OutR1A10) refl
      (record {
        none = λ o. absurd (true≢false (sym (now.none o)));
        told = now.told;
        next = now.next;
        unfinished = λ o. absurd (true≢false o);
        current = now.current;
        successor = now.successor;
      })))
      (λ t. h)
  a10_keeps s (Out out_stage.Finished w) e h = h

  -- the line takes END, or an RPC PDU
  end_keeps : (s : ClientRole) (w : Option Which) → Keeps came s
      → Rows (Packet named.EndB2) (end_on s w)
  end_keeps s None h = h
  end_keeps s (Some Current) h =
      by_test (Rows (Packet named.EndB2)) s.line.current.ended (unexpected s)
      (taken (settled (record s { line = after_end s.line Current }))) (λ e. h)
      (λ e. settled_keeps (came ++ (leg, Packet named.EndB2) ∷ [])
      (record s { line = after_end s.line Current })
      (grows (sees s) came (leg, Packet named.EndB2) refl h))
  end_keeps s (Some Next) h =
      by_test (Rows (Packet named.EndB2)) s.line.next.ended (unexpected s)
      (taken (settled (record s { line = after_end s.line Next }))) (λ e. h)
      (λ e. settled_keeps (came ++ (leg, Packet named.EndB2) ∷ [])
      (record s { line = after_end s.line Next })
      (grows (sees s) came (leg, Packet named.EndB2) refl h))

  end_if : (s : ClientRole) → Keeps came s
      → Rows (Packet named.EndB2)
      (if is_open s.phase then end_on s (end_channel s leg.number) else unexpected s)
  end_if s h =
      by_test (Rows (Packet named.EndB2)) (is_open s.phase) (end_on s (end_channel s leg.number))
      (unexpected s) (λ e. end_keeps s (end_channel s leg.number) h) (λ e. h)

  pdu_keeps : (s : ClientRole) (pdu : List ℕ) (w : Option Which) → Keeps came s
      → Rows (Pdu pdu) (pdu_on s pdu w)
  pdu_keeps s pdu None h = h
  pdu_keeps s pdu (Some Current) h =
      quiet s (Pdu pdu) refl h (record s { line = after_admit s.line Current pdu })
      (admit_row (admit_verdict s.line Current pdu)) refl
  pdu_keeps s pdu (Some Next) h =
      quiet s (Pdu pdu) refl h (record s { line = after_admit s.line Next pdu })
      (admit_row (admit_verdict s.line Next pdu)) refl

  pub pdu_by_keeps : (s : ClientRole) (pdu : List ℕ) (k : LegKind) → Keeps came s
      → Rows (Pdu pdu) (client.pdu_by s leg.number pdu k)
  pdu_by_keeps s pdu ClientOut h = pdu_keeps s pdu (pdu_channel s leg.number) h
  pdu_by_keeps s pdu OutServer h = h
  pdu_by_keeps s pdu ClientIn h = h
  pdu_by_keeps s pdu InServer h = h

  -- ---- the table

  table_keeps : (s : ClientRole) (count : Count) (m : Named) → Keeps came s
      → Rows (Packet m) (on_packet s leg.number count m)
  table_keeps s count (named.ConnA3 t) h = a3_keeps s count t h
  table_keeps s count (named.ConnC2 v w t) h = c2_keeps s v w t h
  table_keeps s count (named.AckTo to r a of) h = ack_keeps s to r a of h
  table_keeps s count (named.InR1A4 to v w t) h =
      answer_if s (Packet (named.InR1A4 to v w t)) to w t refl h
  table_keeps s count (named.InR2A4 to) h =
      answer_if s (Packet (named.InR2A4 to)) to s.writing.told s.writing.timeout refl h
  table_keeps s count (named.OutR1A2 to) h = a2_if s to h
  table_keeps s count (named.OutR1A6 to v t) h = a6_if s to v t h
  table_keeps s count named.OutR1A10 h = a10_keeps s s.replacement refl h
  table_keeps s count named.EndB2 h = end_if s h
  table_keeps s count (named.ConnA1 v c d w) h = h
  table_keeps s count (named.ConnA2 v c d life w) h = h
  table_keeps s count (named.ConnB1 v c d life k g) h = h
  table_keeps s count (named.ConnB2 v c d w t g a b) h = h
  table_keeps s count (named.ConnB3 w v) h = h
  table_keeps s count (named.ConnC1 v w t) h = h
  table_keeps s count (named.InR1A1 v c d e) h = h
  table_keeps s count (named.InR1A2 v c d e w t) h = h
  table_keeps s count (named.InR1A3 to v w t) h = h
  table_keeps s count (named.InR1A5 c) h = h
  table_keeps s count (named.InR1A6 c) h = h
  table_keeps s count named.InR1B1 h = h
  table_keeps s count (named.InR1B2 w) h = h
  table_keeps s count (named.InR2A2 c) h = h
  table_keeps s count (named.InR2A3 to) h = h
  table_keeps s count (named.OutR1A1 to) h = h
  table_keeps s count (named.OutR1A3 v c d e w) h = h
  table_keeps s count named.OutR2C1 h = h
  table_keeps s count (named.OutR1A4 v c d e life w t) h = h
  table_keeps s count (named.OutR1A5 to v t) h = h
  table_keeps s count (named.OutR1A7 to c) h = h
  table_keeps s count (named.OutR1A8 to c) h = h
  table_keeps s count named.OutR1A9 h = h
  table_keeps s count named.EndA1 h = h
  table_keeps s count named.EndA2 h = h
  table_keeps s count named.EndB1 h = h
  table_keeps s count (named.Ack r w c) h = h
  table_keeps s count (named.KeepAlive k) h = h
  table_keeps s count (named.PingTraffic b) h = h
  table_keeps s count named.Ping h = h

  pub packet_by_keeps : (s : ClientRole) (count : Count) (m : Named) (k : LegKind)
      → Keeps came s → Rows (Packet m) (packet_by s leg.number count m k)
  packet_by_keeps s count m ClientOut h =
      by_test (Rows (Packet m)) (is_current s leg.number || is_out_successor s leg.number)
      (on_packet s leg.number count m) (unexpected s) (λ e. table_keeps s count m h) (λ e. h)
  packet_by_keeps s count m OutServer h = h
  packet_by_keeps s count m ClientIn h = h
  packet_by_keeps s count m InServer h = h

-- ---- legs

module _ (came : List OnLeg) where
  -- a successor that is up is in the line
  next_up : (r : Replacement) (up next : Bool) → IsNext r up next → IsNext r true true
  next_up NoneUnderWay up next h = tt
  next_up (In stage w) up next h = tt
  next_up (Out out_stage.Asked w) up next h = λ e. refl
  next_up (Out out_stage.Answered w) up next h = refl
  next_up (Out out_stage.Switched w) up next h = refl
  next_up (Out out_stage.Finished w) up next h = refl

  ups : (v : Seen) → Channels v came → Channels (record v { up = true; has_next = true }) came
  ups v h = record {
    none = h.none;
    told = h.told;
    next = next_up v.replacement v.up v.has_next h.next;
    unfinished = h.unfinished;
    current = h.current;
    successor = h.successor;
  }

  pub up_keeps : (s : ClientRole) (n : ℕ) (cookie : Cookie) (k : LegKind) → Keeps came s
      → Keeps came (up_by s n cookie k)
  up_keeps s n cookie ClientOut h =
      by_test (Keeps came) (is_current s n) (record s { current = out_up s.current cookie })
      (record s { out_successor = out_up s.out_successor cookie; line = with_next s.line })
      (λ e. h)
      (λ e. by_test (λ (line : Line). Keeps came (record s {
        out_successor = out_up s.out_successor cookie;
        line = line;
      }))
      s.line.has_next s.line (after_open_next s.line false)
      (λ o. subst (λ (b : Bool). Channels (record (sees s) { up = true; has_next = b }) came)
      (sym o) (ups (sees s) h))
      (λ o. ups (sees s) h))
  up_keeps s n cookie ClientIn h =
      same came s (up_by s n cookie ClientIn) (search rules) h
  up_keeps s n cookie OutServer h = h
  up_keeps s n cookie InServer h = h
