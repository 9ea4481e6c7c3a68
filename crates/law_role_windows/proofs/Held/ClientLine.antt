-- a client holds no more than its window of each OUT channel
use Rattle.law_order.proofs.Vocabulary.{◌≡◌, ℕ, List, Bool, true, false, ◌&&◌, ◌||◌, not, Some, None, refl, sym, subst, rules, and_parts, if◌then◌else◌, nat_eq, IfSome, Option}
use Rattle.rh_sig.specs.declared.named.Named.TheVariants as named
use Rattle.rh_line.specs.Histories.{Ends, Takes}
use Rattle.rh_line.specs.Lines as lines
use Rattle.rh_client.specs.Putting.{pdu_by as put_pdu_by}
use Rattle.rh_client.specs.declared.replacement.InStage.TheVariants as in_stage
use Rattle.rh_client.specs.declared.replacement.OutStage.TheVariants as out_stage
use Rattle.law_moves.proofs.Vocabulary.{Ack, may_put, fits, by_test, IsPdu, Cookie, Named, CONN_B1_LEN, IN_R1_A1_LEN, IN_R1_A5_LEN, OUT_R1_A7_LEN, END_A1_LEN, ACK_TO_LEN, PING_LEN, Line, IsThere, channel_of, after_take, after_finish, after_open_next, due, Admits, Finishes, OpensNext, Acknowledges, front_length, Leg, LegKind, ClientOut, OutServer, ClientIn, InServer, Which, Current, Next, Count, Message}
use Rattle.law_role_client.proofs.Vocabulary.{Opening, NotUp, Request, First, Second, Put, Replacement, NoneUnderWay, In, Out, Waits, ClientRole, Done, unexpected, taken, settled, is_open, is_writing, is_in_successor, is_current, is_out_successor, with_next, up_by, on_conn_a3, on_conn_c2, is_named, out_up, is_switched, pdu_channel, pdu_on, ack_named, on_ack_to, may_ack, ack_due, give, take, end_channel, end_on, on_end_b2, drawn, recycle, on_in_r1_a4, on_in_r2_a4, handed_over}
use Rattle.law_role_client.proofs.Vocabulary.{on_out_r1_a2, on_out_r1_a6, a10_by, a10_at, passed, ping, Pick, or_else, due_by, put_due, ack_by, put_ack_of, put_ack, lets_pdu, put_pdu, is_end_due, put_end, put_ping, put_next, put_conn_b1, put_in_r1_a1, put_current, put_out_successor, put_out, put_successor_ping, put_writing, put_in_successor, put_in, settled_or_wished, settled_pick, put_by, pdu_by, packet, packet_by, on_packet, acts as client_acts, rules as client_rules}
use Rattle.law_role_windows.proofs.Held.Lines.{IsKept, call_kept}
use Rattle.law_role_windows.proofs.Held.Roles.{RulesKeep, ActsKeep}

abbrev pub Kept : ℕ → ClientRole → Type 0
Kept window s = IsKept window s.line

-- the line stays
abbrev Same : ClientRole → ClientRole → Type 0
Same s t = t.line ≡ s.line

same_kept : (window : ℕ) (s t : ClientRole) → Same s t → Kept window s → Kept window t
same_kept window s t same k = subst (IsKept window) (sym same) k

-- ---- what leaves the line as it is

same_passed : (s : ClientRole) → Same s (passed s)
same_passed s = search rules

same_settled : (s : ClientRole) → Same s (settled s)
same_settled s = search rules

same_put : (s : ClientRole) → Same s (settled_or_wished s)
same_put s = search rules

same_handed : (s : ClientRole) (out_waits : Bool) → Same s (handed_over s out_waits)
same_handed s out_waits = search rules

same_give : (s : ClientRole) (bytes : List ℕ) → Same s (give s bytes).0
same_give s bytes = search rules

same_recycle : (s : ClientRole) → Same s (recycle s).0
same_recycle s = search rules

same_drawn : (s : ClientRole) (leg : Leg) → Same s (drawn s leg)
same_drawn s leg = search rules

same_ping : (s : ClientRole) (leg : Leg) → Same s (ping s leg)
same_ping s leg = search rules

same_conn_a3 : (s : ClientRole) (n : ℕ) (count : Count) (timeout : ℕ)
    → Same s (on_conn_a3 s n count timeout).0
same_conn_a3 s n count timeout = search rules

same_conn_c2 : (s : ClientRole) (n window timeout : ℕ) → Same s (on_conn_c2 s n window timeout).0
same_conn_c2 s n window timeout = search rules

same_ack_to : (s : ClientRole) (to received available : ℕ) (of : Cookie)
    → Same s (on_ack_to s to received available of).0
same_ack_to s to received available of =
    by_test (λ (d : Done). Same s d.0) (is_open s.phase && nat_eq to 0)
    (ack_named s received available of) (unexpected s)
    (λ e. by_test (λ (d : Done). Same s d.0) (is_named s.writing of) _ _ (λ f. refl)
    (λ f. by_test (λ (d : Done). Same s d.0) (is_named s.in_successor of) _ _ (λ g. refl)
    (λ g. by_test (λ (d : Done). Same s d.0) (is_named s.leaving of) _ _ (λ h. refl)
    (λ h. refl))))
    (λ e. refl)

same_in_r1_a4 : (s : ClientRole) (to window timeout : ℕ)
    → Same s (on_in_r1_a4 s to window timeout).0
same_in_r1_a4 s to window timeout = search rules

same_in_r2_a4 : (s : ClientRole) (to : ℕ) → Same s (on_in_r2_a4 s to).0
same_in_r2_a4 s to = search rules

same_out_r1_a2 : (s : ClientRole) (n to : ℕ) → Same s (on_out_r1_a2 s n to).0
same_out_r1_a2 s n to = search rules

same_out_r1_a6 : (s : ClientRole) (n to timeout : ℕ) → Same s (on_out_r1_a6 s n to timeout).0
same_out_r1_a6 s n to timeout = search rules

module _ (window : ℕ) where
  -- ---- what comes

  -- the channel on which a PDU may come is there
  pdu_there : (s : ClientRole) (n : ℕ) → IfSome (pdu_channel s n) (IsThere s.line)
  pdu_there s n =
      by_test (λ (o : Option Which). IfSome o (IsThere s.line)) (not (is_open s.phase)) None _
      (λ e. tt)
      (λ e. by_test (λ (o : Option Which). IfSome o (IsThere s.line)) (is_current s n)
      (Some Current) _ (λ f. tt)
      (λ f. by_test (λ (o : Option Which). IfSome o (IsThere s.line))
      (is_switched s && is_out_successor s n) (Some Next) None
      (λ g. (and_parts _ s.line.has_next (and_parts (is_switched s) (is_out_successor s n) g).0).1)
      (λ g. tt)))

  admit_kept : (s : ClientRole) (bytes : List ℕ) (o : Option Which) → IsPdu bytes
      → IfSome o (IsThere s.line) → Kept window s → Kept window (pdu_on s bytes o).0
  admit_kept s bytes None is there k = k
  admit_kept s bytes (Some which) is there k =
      call_kept window s.line (Admits which bytes) (there, is) k

  pdu_kept : (s : ClientRole) (n : ℕ) (bytes : List ℕ) (kind : LegKind) → IsPdu bytes
      → Kept window s → Kept window (pdu_by s n bytes kind).0
  pdu_kept s n bytes ClientOut is k =
      admit_kept s bytes (pdu_channel s n) is (pdu_there s n) k
  pdu_kept s n bytes OutServer is k = k
  pdu_kept s n bytes ClientIn is k = k
  pdu_kept s n bytes InServer is k = k

  end_there : (s : ClientRole) (n : ℕ) → IfSome (end_channel s n) (IsThere s.line)
  end_there s n =
      by_test (λ (o : Option Which). IfSome o (IsThere s.line)) (is_current s n) (Some Current) _
      (λ e. tt)
      (λ e. by_test (λ (o : Option Which). IfSome o (IsThere s.line))
      (s.line.has_next && is_out_successor s n) (Some Next) None
      (λ f. (and_parts s.line.has_next (is_out_successor s n) f).0) (λ f. tt))

  end_kept : (s : ClientRole) (o : Option Which) → IfSome o (IsThere s.line) → Kept window s
      → Kept window (end_on s o).0
  end_kept s None there k = k
  end_kept s (Some which) there k =
      let t : ClientRole = record s { line = lines.after_end s.line which } in
      by_test (λ (d : Done). Kept window d.0) (channel_of s.line which).ended (unexpected s)
      (taken (settled t)) (λ e. k)
      (λ e. same_kept window t (settled t) (same_settled t)
      (call_kept window s.line (Ends which) there k))

  end_b2_kept : (s : ClientRole) (n : ℕ) → Kept window s → Kept window (on_end_b2 s n).0
  end_b2_kept s n k =
      by_test (λ (d : Done). Kept window d.0) (is_open s.phase) (end_on s (end_channel s n))
      (unexpected s) (λ e. end_kept s (end_channel s n) (end_there s n) k) (λ e. k)

  -- OUT_R1/A10: nothing more comes on the current channel
  finish_kept : (s : ClientRole) (n : ℕ) (waiting : Waits) → Kept window s
      → Kept window (a10_at s n waiting out_stage.Switched).0
  finish_kept s n waiting k =
      let t : ClientRole = record s {
        line = after_finish s.line;
        replacement = Out out_stage.Finished waiting;
      } in
      by_test (λ (d : Done). Kept window d.0) (s.line.has_next && is_current s n) (taken (passed t))
      (unexpected s)
      (λ e. same_kept window t (passed t) (same_passed t)
      (call_kept window s.line Finishes (and_parts s.line.has_next (is_current s n) e).0 k))
      (λ e. k)

  out_r1_a10_kept : (s : ClientRole) (n : ℕ) (r : Replacement) → Kept window s
      → Kept window (a10_by s n r).0
  out_r1_a10_kept s n NoneUnderWay k = k
  out_r1_a10_kept s n (In stage out_waits) k = k
  out_r1_a10_kept s n (Out out_stage.Asked waiting) k = k
  out_r1_a10_kept s n (Out out_stage.Answered waiting) k = k
  out_r1_a10_kept s n (Out out_stage.Switched waiting) k = finish_kept s n waiting k
  out_r1_a10_kept s n (Out out_stage.Finished waiting) k = k

  row_kept : (s : ClientRole) (n : ℕ) (count : Count) (packet : Named) → Kept window s
      → Kept window (on_packet s n count packet).0
  row_kept s n count (named.ConnA3 v1) k =
      same_kept window s (on_conn_a3 s n count v1).0 (same_conn_a3 s n count v1) k
  row_kept s n count (named.ConnC2 v1 v2 v3) k =
      same_kept window s (on_conn_c2 s n v2 v3).0 (same_conn_c2 s n v2 v3) k
  row_kept s n count (named.AckTo v1 v2 v3 v4) k =
      same_kept window s (on_ack_to s v1 v2 v3 v4).0 (same_ack_to s v1 v2 v3 v4) k
  row_kept s n count (named.InR1A4 v1 v2 v3 v4) k =
      same_kept window s (on_in_r1_a4 s v1 v3 v4).0 (same_in_r1_a4 s v1 v3 v4) k
  row_kept s n count (named.InR2A4 v1) k =
      same_kept window s (on_in_r2_a4 s v1).0 (same_in_r2_a4 s v1) k
  row_kept s n count (named.OutR1A2 v1) k =
      same_kept window s (on_out_r1_a2 s n v1).0 (same_out_r1_a2 s n v1) k
  row_kept s n count (named.OutR1A6 v1 v2 v3) k =
      same_kept window s (on_out_r1_a6 s n v1 v3).0 (same_out_r1_a6 s n v1 v3) k
  row_kept s n count named.OutR1A10 k = out_r1_a10_kept s n s.replacement k
  row_kept s n count named.EndB2 k = end_b2_kept s n k
  row_kept s n count packet k = k

  packet_kept : (s : ClientRole) (n : ℕ) (count : Count) (packet : Named) (kind : LegKind)
      → Kept window s → Kept window (packet_by s n count packet kind).0
  packet_kept s n count packet ClientOut k =
      by_test (λ (d : Done). Kept window d.0) (is_current s n || is_out_successor s n)
      (on_packet s n count packet) (unexpected s) (λ e. row_kept s n count packet k) (λ e. k)
  packet_kept s n count packet OutServer k = k
  packet_kept s n count packet ClientIn k = k
  packet_kept s n count packet InServer k = k

  -- ---- a leg is up

  up_kept : (s : ClientRole) (n : ℕ) (cookie : Cookie) (kind : LegKind) → Kept window s
      → Kept window (up_by s n cookie kind)
  up_kept s n cookie ClientOut k =
      by_test (λ (t : ClientRole). Kept window t) (is_current s n) _
      (record s {
        out_successor = out_up s.out_successor cookie;
        line = with_next s.line;
      })
      (λ e. k)
      (λ e. by_test (λ (l : Line). IsKept window l) s.line.has_next s.line
      (after_open_next s.line false) (λ f. k)
      (λ f. call_kept window s.line (OpensNext false) f k))
  up_kept s n cookie ClientIn k =
      by_test (λ (t : ClientRole). Kept window t) (is_writing s n) _ _ (λ e. k) (λ e. k)
  up_kept s n cookie OutServer k = k
  up_kept s n cookie InServer k = k

  -- ---- what is put

  abbrev PickKept : Pick → Type 0
  PickKept pick = IfSome pick (λ (put : ClientRole × Message). Kept window put.0)

  or_kept : (a b : Pick) → PickKept a → PickKept b → PickKept (or_else a b)
  or_kept None b h k = k
  or_kept (Some pick) b h k = h

  due_kept : (s : ClientRole) (r : Replacement) → Kept window s → PickKept (due_by s r)
  due_kept s NoneUnderWay k = tt
  due_kept s (In in_stage.Asked out_waits) k = tt
  due_kept s (In in_stage.Answered out_waits) k =
      by_test PickKept (fits s.writing.meter IN_R1_A5_LEN) _ None
      (λ e. same_kept window s (handed_over s out_waits) (same_handed s out_waits) k) (λ e. tt)
  due_kept s (Out out_stage.Asked waiting) k = tt
  due_kept s (Out out_stage.Answered waiting) k =
      by_test PickKept (fits s.writing.meter OUT_R1_A7_LEN) _ None (λ e. k) (λ e. tt)
  due_kept s (Out out_stage.Switched waiting) k = tt
  due_kept s (Out out_stage.Finished waiting) k = tt

  may_ack_there : (s : ClientRole) (which : Which) → may_ack s which ≡ true → IsThere s.line which
  may_ack_there s Current e = tt
  may_ack_there s Next e = (and_parts s.line.has_next (not s.line.next.ended) e).0

  ack_kept : (s : ClientRole) (which : Which) (o : Option Ack)
      → IfSome o (λ (ack : Ack). IsThere s.line which × (due s.line which ≡ Some ack))
      → Kept window s → PickKept (ack_by s which o)
  ack_kept s which None is k = tt
  ack_kept s which (Some ack) is k =
      by_test PickKept (may_put s.writing.meter ACK_TO_LEN) _ None
      (λ e. call_kept window s.line (Acknowledges which ack) is k) (λ e. tt)

  ack_due_is : (s : ClientRole) (which : Which)
      → IfSome (ack_due s which)
      (λ (ack : Ack). IsThere s.line which × (due s.line which ≡ Some ack))
  ack_due_is s which =
      by_test (λ (o : Option Ack).
      IfSome o (λ (ack : Ack). IsThere s.line which × (due s.line which ≡ Some ack)))
      (may_ack s which) (due s.line which) None
      (λ e. by (due s.line which) (may_ack_there s which e)) (λ e. tt)
    where
      by : (o : Option Ack) → IsThere s.line which
          → IfSome o (λ (ack : Ack). IsThere s.line which × (o ≡ Some ack))
      by None there = tt
      by (Some ack) there = (there, refl)

  put_pdu_kept : (s : ClientRole) (len : Option ℕ) → Kept window s → PickKept (put_pdu_by s len)
  put_pdu_kept s None k = tt
  put_pdu_kept s (Some len) k = by_test PickKept (lets_pdu s len) _ None (λ e. k) (λ e. tt)

  put_next_kept : (s : ClientRole) → Kept window s → PickKept (put_next s)
  unfolding put_next put_due put_ack put_ack_of put_pdu put_end put_ping
  put_next_kept s k =
      or_kept (due_by s s.replacement) _ (due_kept s s.replacement k)
      (or_kept (put_ack s) _
      (or_kept (ack_by s Current (ack_due s Current)) (ack_by s Next (ack_due s Next))
      (ack_kept s Current (ack_due s Current) (ack_due_is s Current) k)
      (ack_kept s Next (ack_due s Next) (ack_due_is s Next) k))
      (or_kept (put_pdu s) _ (put_pdu_kept s (front_length s.queue) k)
      (or_kept (put_end s) (put_ping s)
      (by_test PickKept (is_end_due s && fits s.writing.meter END_A1_LEN) _ None (λ e. k)
      (λ e. tt))
      (by_test PickKept (s.writing.is_ping_due && may_put s.writing.meter PING_LEN) _ None
      (λ e. k) (λ e. tt)))))

  put_writing_kept : (s : ClientRole) (o : Opening) → Kept window s → PickKept (put_writing s o)
  unfolding put_writing put_conn_b1
  put_writing_kept s NotUp k = tt
  put_writing_kept s Request k = k
  put_writing_kept s First k =
      by_test PickKept (may_put s.writing.meter CONN_B1_LEN) _ None (λ e. k) (λ e. tt)
  put_writing_kept s Second k = tt
  put_writing_kept s Put k = put_next_kept s k

  put_in_successor_kept : (s : ClientRole) (o : Opening) → Kept window s
      → PickKept (put_in_successor s o)
  unfolding put_in_successor put_in_r1_a1 put_successor_ping
  put_in_successor_kept s NotUp k = tt
  put_in_successor_kept s Request k = k
  put_in_successor_kept s First k =
      by_test PickKept (may_put s.in_successor.meter IN_R1_A1_LEN) _ None (λ e. k) (λ e. tt)
  put_in_successor_kept s Second k = tt
  put_in_successor_kept s Put k =
      by_test PickKept (s.in_successor.is_ping_due && may_put s.in_successor.meter PING_LEN) _ None
      (λ e. k) (λ e. tt)

  put_in_kept : (s : ClientRole) (n : ℕ) → Kept window s → PickKept (put_in s n)
  unfolding put_in
  put_in_kept s n k =
      by_test PickKept (is_writing s n) (put_writing s s.writing.opening)
      (if is_in_successor s n then put_in_successor s s.in_successor.opening else None)
      (λ e. put_writing_kept s s.writing.opening k)
      (λ e. by_test PickKept (is_in_successor s n) (put_in_successor s s.in_successor.opening) None
      (λ f. put_in_successor_kept s s.in_successor.opening k) (λ f. tt))

  put_current_kept : (s : ClientRole) (o : Opening) → Kept window s → PickKept (put_current s o)
  unfolding put_current
  put_current_kept s NotUp k = tt
  put_current_kept s Request k = k
  put_current_kept s First k = k
  put_current_kept s Second k = tt
  put_current_kept s Put k = tt

  put_successor_kept : (s : ClientRole) (o : Opening) → Kept window s
      → PickKept (put_out_successor s o)
  unfolding put_out_successor
  put_successor_kept s NotUp k = tt
  put_successor_kept s Request k = k
  put_successor_kept s First k = k
  put_successor_kept s Second k = k
  put_successor_kept s Put k = tt

  put_by_kept : (s : ClientRole) (n : ℕ) (kind : LegKind) → Kept window s
      → PickKept (put_by s n kind)
  unfolding put_by put_out
  put_by_kept s n ClientOut k =
      by_test PickKept (is_current s n) (put_current s s.current.opening)
      (if is_out_successor s n then put_out_successor s s.out_successor.opening else None)
      (λ e. put_current_kept s s.current.opening k)
      (λ e. by_test PickKept (is_out_successor s n) (put_out_successor s s.out_successor.opening)
      None (λ f. put_successor_kept s s.out_successor.opening k) (λ f. tt))
  put_by_kept s n ClientIn k = put_in_kept s n k
  put_by_kept s n OutServer k = tt
  put_by_kept s n InServer k = tt

  settled_kept : (pick : Pick) → PickKept pick → PickKept (settled_pick pick)
  settled_kept None k = tt
  settled_kept (Some pick) k =
      same_kept window pick.0 (settled_or_wished pick.0) (same_put pick.0) k

  -- ---- the client

  pub client_keeps : RulesKeep client_rules (Kept window)
  client_keeps = record {
    up = λ s leg cookie k. up_kept s leg.number cookie leg.kind k;
    head = λ s leg text k. k;
    pdu = λ s leg count bytes is k. pdu_kept s leg.number bytes leg.kind is k;
    packet = λ s leg count named k. packet_kept s leg.number count named leg.kind k;
    put = λ s leg k.
        settled_kept (put_by s leg.number leg.kind) (put_by_kept s leg.number leg.kind k);
    drawn = λ s leg k. same_kept window s (drawn s leg) (same_drawn s leg) k;
    mark = λ s leg k. k;
    ping = λ s leg k. same_kept window s (ping s leg) (same_ping s leg) k;
  }

  take_kept : (s : ClientRole) → Kept window s → Kept window (take s)
  take_kept s k =
      let t : ClientRole = record s { line = after_take s.line } in
      same_kept window t (passed t) (same_passed t) (call_kept window s.line Takes tt k)

  pub client_calls_keep : ActsKeep client_acts (Kept window)
  client_calls_keep = record {
    give = λ s pdu k. same_kept window s (give s pdu).0 (same_give s pdu) k;
    take = take_kept;
    close = λ s k. k;
    recycle = λ s k. same_kept window s (recycle s).0 (same_recycle s) k;
  }
