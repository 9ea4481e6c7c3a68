-- a client takes in order: each move that is allowed keeps the law of an end that takes
use Rattle.rh_window.specs.Receiving as windows
use Rattle.law_order.proofs.Vocabulary.{◌≡◌, ℕ, suc, ◌==◌, Bool, true, false, not, ◌&&◌, ◌||◌, nat_lt, if◌then◌else◌, List, [], ◌∷◌, ◌++◌, length, is_ok, IsTrue, Some, None, Ok, Err, rules, refl, sym, ap, ◌∙◌, subst, Option, Result, Item, Piece, Stop, Handover, Log, more, PduNow, PduNext, EndNow, EndNext, HandoverNow, TakerLaw, Hears}
use Rattle.rh_sig.specs.declared.named.Named.TheVariants as named
use Rattle.rh_line.specs.Lines as lines
use Rattle.rh_line.specs.declared.line_fault.LineFault.TheVariants as line_fault
use Rattle.rh_shell.specs.declared.answers.Phase.TheVariants as phase
use Rattle.rh_client.specs.declared.replacement.InStage.TheVariants as in_stage
use Rattle.rh_client.specs.declared.replacement.OutStage.TheVariants as out_stage
use Rattle.rh_client.specs.declared.replacement.Waits.TheVariants as waits
use Rattle.rh_client.specs.Putting as putting
use Rattle.rh_client.specs.Client as client
use Rattle.law_moves.proofs.Vocabulary.{Ack, may_put, fits, by_test, same_number, more_none, taker_step, taker_starts, Cookie, Named, CONN_B1_LEN, IN_R1_A1_LEN, IN_R1_A5_LEN, OUT_R1_A7_LEN, END_A1_LEN, ACK_TO_LEN, PING_LEN, ClientConfig, Line, Incoming, channel_verdict, after_finish, after_end, after_told, after_open_next, front_length, LineFault, Leg, LegKind, ClientOut, OutServer, ClientIn, InServer, Which, Current, Next, Message, Pdu, Packet, Count, Passage, EndPassage}
use Rattle.law_moves.proofs.Vocabulary.{EndMove, Up, HeadCame, PduCame, PacketCame, Puts, IsDrawn, Marks, Pings, Moves, Gives, Takes, Recycles, taken_by, given_by, with_first, end_moved, all_end_moved}
use Rattle.law_moves.specs.Moves as moves
use Rattle.law_role_client.proofs.Vocabulary.{Opening, NotUp, Request, First, Second, Put, LAST_NUMBER, Replacement, NoneUnderWay, In, Out, Waits, ClientRole, unopened_in, metered, is_named, out_up, is_out, is_finished, has_out, with_out, Done, taken, unexpected, is_open, is_writing, is_in_successor, is_current, is_out_successor, is_over, settled, up_by, with_next, on_conn_a3, on_conn_c2, is_switched_by, is_switched, pdu_channel, pdu_on, admit_row, ack_due, cookie_of, on_pdu}
use Rattle.law_role_client.proofs.Vocabulary.{on_ack_to, ack_named, acked, ack_row, on_in_r1_a4, on_in_r2_a4, handed_over, passed, a2_by, a10_by, on_out_r1_a2, on_out_r1_a6, Given, give, end_channel, end_on, is_done_by, drawn_by, ping_by, Pick, or_else, put_conn_b1, put_in_r1_a1, put_current, put_out_successor, put_out, due_by, put_due, ack_by, put_ack_of, put_ack, put_pdu, put_end, put_ping, put_successor_ping, put_next, put_writing, put_in_successor, put_in, put_by}
use Rattle.law_role_client.proofs.Vocabulary.{settled_pick, rules as client_rules, acts, on_packet, packet_by, packet, pdu, down_items, down_mark, came_log, shelf_of, has_leg, TakesInOrder, AreAllowedMoves, client_started, client_moved}
use Rattle.law_role_client.proofs.ClientLogs.{log_here, of_kind}
use Rattle.law_role_client.proofs.TakesKept.{reads_by, reads, taker_by, LawBy, IsNext, Took, same, by_replacement, another, begin_out_took, after_in_took, settled_took, recycle_took, differ, both, settles, take_took}

-- ---- rows

-- behind a row's answer to a message on channel n: its items came, where it was taken
abbrev RowTook : List (List ℕ) → Log → ℕ → List Item → Done → Type 0
RowTook out came n items (f, Ok took) = Took out (reads f) (more n items came)
RowTook out came n items (f, Err why) = Took out (reads f) came

-- a message that order is not about
quiet_row : (out : List (List ℕ)) (came : Log) (n : ℕ) (x : Done) → Took out (reads x.0) came
    → RowTook out came n [] x
quiet_row out came n (f, Ok took) l = subst (Took out (reads f)) (sym (more_none n came)) l
quiet_row out came n (f, Err why) l = l

-- ---- RPC PDUs

not_over : (c : Incoming) (pdu : List ℕ) → channel_verdict c pdu ≡ Ok tt → c.ended ≡ false
not_over c pdu e = open' c.ended _ e
  where
    open' : (b : Bool) (x : Result (Unit {0}) LineFault)
        → (if b then Err line_fault.Over else x) ≡ Ok tt → b ≡ false
    open' true x e = absurd (cc)
    open' false x e = refl

abbrev with_pdu : Incoming → List ℕ → Incoming
with_pdu c pdu = record c {
  pdus = c.pdus ++ pdu ∷ [];
  window = windows.after_admit c.window (length pdu);
}

pdu_now : (out : List (List ℕ)) (came : Log) (s : ClientRole) (n : ℕ) (pdu : List ℕ)
    → n ≡ s.current.number → is_finished s.replacement ≡ false → Took out (reads s) came
    → (v : Result (Unit {0}) LineFault) → channel_verdict s.line.current pdu ≡ v
    → RowTook out came n (Piece pdu ∷ []) (
      record s {
        line = record (s.line) {
          current = if is_ok v then with_pdu s.line.current pdu else s.line.current;
        };
      },
      admit_row v,
    )
pdu_now out came s n pdu e f l (Ok tt) v = record {
  law = subst (λ k. LawBy out (record (s.line) { current = with_pdu s.line.current pdu })
      s.current.number (is_finished s.replacement) (more k (Piece pdu ∷ []) came)) (sym e)
      (taker_step (taker_by out s.line s.current.number (is_finished s.replacement)) has_leg came
      (Hears (PduNow pdu)) l.law (f, not_over s.line.current pdu v));
  next = l.next;
  blank = l.blank;
  finished = l.finished;
  there = l.there;
}
pdu_now out came s n pdu e f l (Err line_fault.Over) v = l
pdu_now out came s n pdu e f l (Err (line_fault.Window w)) v = l

pdu_next : (out : List (List ℕ)) (came : Log) (s : ClientRole) (n : ℕ) (pdu : List ℕ)
    → n ≡ suc s.current.number → s.line.has_next ≡ true → Took out (reads s) came
    → (v : Result (Unit {0}) LineFault) → channel_verdict s.line.next pdu ≡ v
    → RowTook out came n (Piece pdu ∷ []) (
      record s {
        line = record (s.line) {
          next = if is_ok v then with_pdu s.line.next pdu else s.line.next;
        };
      },
      admit_row v,
    )
pdu_next out came s n pdu e h l (Ok tt) v = record {
  law = subst (λ k. LawBy out (record (s.line) { next = with_pdu s.line.next pdu })
      s.current.number (is_finished s.replacement) (more k (Piece pdu ∷ []) came)) (sym e)
      (taker_step (taker_by out s.line s.current.number (is_finished s.replacement)) has_leg came
      (Hears (PduNext pdu)) l.law (refl, not_over s.line.next pdu v));
  next = l.next;
  blank = λ o. absurd (differ s.line.has_next h o);
  finished = l.finished;
  there = l.there;
}
pdu_next out came s n pdu e h l (Err line_fault.Over) v = l
pdu_next out came s n pdu e h l (Err (line_fault.Window w)) v = l

-- which channel it is
first_which : (o c x : Bool)
    → (if not o then None else (if c then Some Current else (if x then Some Next else None)))
    ≡ Some Current → c ≡ true
first_which false c x e = absurd (cc)
first_which true true x e = refl
first_which true false true e = absurd (cc)
first_which true false false e = absurd (cc)

second_which : (o c x : Bool)
    → (if not o then None else (if c then Some Current else (if x then Some Next else None)))
    ≡ Some Next → x ≡ true
second_which false c x e = absurd (cc)
second_which true true x e = absurd (cc)
second_which true false true e = refl
second_which true false false e = absurd (cc)

-- the successor's number
of_successor : (out : List (List ℕ)) (came : Log) (s : ClientRole) (n : ℕ)
    → is_out_successor s n ≡ true → Took out (reads s) came → n ≡ suc s.current.number
of_successor out came s n e l =
    let t = both (is_out s.replacement) (n == s.out_successor.number) e in
    same_number n s.out_successor.number t.1
    ∙ subst (λ b. IsNext b s.current.number s.out_successor.number) t.0 l.next

-- on the current channel's leg OUT_R1/A10 did not come
abbrev InUse : ClientRole → ℕ → Type 0
InUse s n = is_current s n ≡ true → is_finished s.replacement ≡ false

pdu_row : (out : List (List ℕ)) (came : Log) (s : ClientRole) (n : ℕ) (pdu : List ℕ)
    (w : Option Which) → pdu_channel s n ≡ w → InUse s n → Took out (reads s) came
    → RowTook out came n (Piece pdu ∷ []) (pdu_on s pdu w)
pdu_row out came s n pdu None e u l = l
pdu_row out came s n pdu (Some Current) e u l =
    let c = first_which (is_open s.phase) (is_current s n) (is_switched s && is_out_successor s n) e
    in
    pdu_now out came s n pdu (same_number n s.current.number c) (u c) l
    (channel_verdict s.line.current pdu) refl
pdu_row out came s n pdu (Some Next) e u l =
    let x = second_which (is_open s.phase) (is_current s n)
    (is_switched s && is_out_successor s n) e in
    let t = both (is_switched s) (is_out_successor s n) x in
    pdu_next out came s n pdu (of_successor out came s n t.1 l)
    (both (is_switched_by s.replacement) s.line.has_next t.0).1 l
    (channel_verdict s.line.next pdu) refl

-- ---- END

end_now : (out : List (List ℕ)) (came : Log) (s : ClientRole) (n : ℕ) → n ≡ s.current.number
    → is_finished s.replacement ≡ false → s.line.current.ended ≡ false → Took out (reads s) came
    → Took out (reads (record s { line = after_end s.line Current })) (more n (Stop ∷ []) came)
end_now out came s n e f o l = record {
  law = subst (λ k. LawBy out (after_end s.line Current) s.current.number
      (is_finished s.replacement) (more k (Stop ∷ []) came)) (sym e)
      (taker_step (taker_by out s.line s.current.number (is_finished s.replacement)) has_leg came
      (Hears EndNow) l.law (f, o));
  next = l.next;
  blank = l.blank;
  finished = l.finished;
  there = l.there;
}

end_next : (out : List (List ℕ)) (came : Log) (s : ClientRole) (n : ℕ)
    → n ≡ suc s.current.number → s.line.has_next ≡ true → s.line.next.ended ≡ false
    → Took out (reads s) came
    → Took out (reads (record s { line = after_end s.line Next })) (more n (Stop ∷ []) came)
end_next out came s n e h o l = record {
  law = subst (λ k. LawBy out (after_end s.line Next) s.current.number
      (is_finished s.replacement) (more k (Stop ∷ []) came)) (sym e)
      (taker_step (taker_by out s.line s.current.number (is_finished s.replacement)) has_leg came
      (Hears EndNext) l.law (refl, o));
  next = l.next;
  blank = λ x. absurd (differ s.line.has_next h x);
  finished = l.finished;
  there = l.there;
}

end_settled : (out : List (List ℕ)) (came : Log) (f : ClientRole) → Took out (reads f) came
    → Took out (reads (settled f)) came
end_settled out came f l =
    by_test (λ x. Took out (reads x) came) (is_over f) (record f { phase = phase.Ended }) f
    (λ e. l) (λ e. l)

first_end : (c x : Bool) → (if c then Some Current else (if x then Some Next else None))
    ≡ Some Current → c ≡ true
first_end true x e = refl
first_end false true e = absurd (cc)
first_end false false e = absurd (cc)

second_end : (c x : Bool) → (if c then Some Current else (if x then Some Next else None))
    ≡ Some Next → x ≡ true
second_end true x e = absurd (cc)
second_end false true e = refl
second_end false false e = absurd (cc)

end_row : (out : List (List ℕ)) (came : Log) (s : ClientRole) (n : ℕ) (w : Option Which)
    → end_channel s n ≡ w → InUse s n → Took out (reads s) came
    → RowTook out came n (Stop ∷ []) (end_on s w)
end_row out came s n None e u l = l
end_row out came s n (Some Current) e u l =
    let c = first_end (is_current s n) (s.line.has_next && is_out_successor s n) e in
    by_test (RowTook out came n (Stop ∷ [])) s.line.current.ended (unexpected s)
    (taken (settled (record s { line = after_end s.line Current }))) (λ o. l)
    (λ o. end_settled out (more n (Stop ∷ []) came) (record s { line = after_end s.line Current })
    (end_now out came s n (same_number n s.current.number c) (u c) o l))
end_row out came s n (Some Next) e u l =
    let t = both s.line.has_next (is_out_successor s n)
    (second_end (is_current s n) (s.line.has_next && is_out_successor s n) e) in
    by_test (RowTook out came n (Stop ∷ [])) s.line.next.ended (unexpected s)
    (taken (settled (record s { line = after_end s.line Next }))) (λ o. l)
    (λ o. end_settled out (more n (Stop ∷ []) came) (record s { line = after_end s.line Next })
    (end_next out came s n (of_successor out came s n t.1 l) t.0 o l))

-- ---- OUT_R1/A10

finished_took : (out : List (List ℕ)) (came : Log) (s : ClientRole) (n : ℕ) (w : Waits)
    → n ≡ s.current.number → s.line.has_next ≡ true
    → Took out (reads_by s (Out out_stage.Switched w)) came
    → Took out (reads (record s {
      line = record (s.line) { finished = true };
      replacement = Out out_stage.Finished w;
    })) (more n (Handover ∷ []) came)
finished_took out came s n w e h l = record {
  law = subst (λ k. LawBy out (record (s.line) { finished = true }) s.current.number true
      (more k (Handover ∷ []) came)) (sym e)
      (taker_step (taker_by out s.line s.current.number false) has_leg came (Hears HandoverNow)
      l.law refl);
  next = l.next;
  blank = l.blank;
  finished = refl;
  there = λ x. h;
}

a10_row : (out : List (List ℕ)) (came : Log) (s : ClientRole) (n : ℕ) (r : Replacement)
    → s.replacement ≡ r → Took out (reads s) came
    → RowTook out came n (Handover ∷ []) (a10_by s n r)
a10_row out came s n NoneUnderWay e l = l
a10_row out came s n (In stage w) e l = l
a10_row out came s n (Out out_stage.Asked w) e l = l
a10_row out came s n (Out out_stage.Answered w) e l = l
a10_row out came s n (Out out_stage.Switched w) e l =
    by_test (RowTook out came n (Handover ∷ [])) (s.line.has_next && is_current s n)
    (taken (passed (record s {
      line = after_finish s.line;
      replacement = Out out_stage.Finished w;
    })))
    (unexpected s)
    (λ o. let t = both s.line.has_next (is_current s n) o in
    settles out (record s {
      line = record (s.line) { finished = true };
      replacement = Out out_stage.Finished w;
    }) (more n (Handover ∷ []) came)
    (finished_took out came s n w (same_number n s.current.number t.1) t.0
    (by_replacement out s (Out out_stage.Switched w) came e l)))
    (λ o. l)
a10_row out came s n (Out out_stage.Finished w) e l = l

-- ---- OUT_R1/A2

a2_took : (out : List (List ℕ)) (came : Log) (s : ClientRole) (n : ℕ) (r : Replacement)
    → s.replacement ≡ r → Took out (reads s) came → Took out (reads (a2_by s n r).0) came
a2_took out came s n NoneUnderWay e l =
    begin_out_took out s waits.Nothing came (ap is_finished e) l
a2_took out came s n (In stage true) e l = l
a2_took out came s n (In stage false) e l =
    another out (reads s) came false s.out_successor.number tt (ap is_finished e) l
a2_took out came s n (Out stage w) e l =
    by_test (λ (x : Done). Took out (reads x.0) came) (is_out_successor s n && not (has_out w))
    (taken (record s { replacement = Out stage (with_out w) })) (unexpected s)
    (λ o. by_replacement out s (Out stage w) came e l) (λ o. l)

a2_row : (out : List (List ℕ)) (came : Log) (s : ClientRole) (n to : ℕ)
    → Took out (reads s) came → Took out (reads (on_out_r1_a2 s n to).0) came
a2_row out came s n to l =
    by_test (λ (x : Done). Took out (reads x.0) came)
    (is_open s.phase && (to == 0 && nat_lt n LAST_NUMBER)) (a2_by s n s.replacement) (unexpected s)
    (λ o. a2_took out came s n s.replacement refl l) (λ o. l)

-- ---- acknowledgements

either : (s : ClientRole) (b : Bool) (x y : Done) → reads x.0 ≡ reads s → reads y.0 ≡ reads s
    → reads (if b then x else y).0 ≡ reads s
either s true x y l m = l
either s false x y l m = m

ack_reads : (s : ClientRole) (to r a : ℕ) (of : Cookie)
    → reads (on_ack_to s to r a of).0 ≡ reads s
ack_reads s to r a of =
    either s (is_open s.phase && to == 0) (ack_named s r a of) (unexpected s)
    (either s (is_named s.writing of)
    (record s { writing = acked s.writing r a }, ack_row s.writing r a) _ refl
    (either s (is_named s.in_successor of)
    (record s { in_successor = acked s.in_successor r a }, ack_row s.in_successor r a) _ refl
    (either s (is_named s.leaving of)
    (record s { leaving = acked s.leaving r a }, ack_row s.leaving r a) (taken s) refl refl)))
    refl

-- ---- the table

row_took : (out : List (List ℕ)) (came : Log) (s : ClientRole) (n : ℕ) (count : Count)
    (packet : Named) → InUse s n → Took out (reads s) came
    → RowTook out came n (down_mark packet) (on_packet s n count packet)
row_took out came s n count (named.ConnA3 t) u l =
    quiet_row out came n (on_conn_a3 s n count t)
    (same out (reads s) (reads (on_conn_a3 s n count t).0) came (search rules) l)
row_took out came s n count (named.ConnC2 v w t) u l =
    quiet_row out came n (on_conn_c2 s n w t)
    (same out (reads s) (reads (on_conn_c2 s n w t).0) came (search rules) l)
row_took out came s n count (named.AckTo to r a of) u l =
    quiet_row out came n (on_ack_to s to r a of)
    (same out (reads s) (reads (on_ack_to s to r a of).0) came (ack_reads s to r a of) l)
row_took out came s n count (named.InR1A4 to v w t) u l =
    quiet_row out came n (on_in_r1_a4 s to w t)
    (same out (reads s) (reads (on_in_r1_a4 s to w t).0) came (search rules) l)
row_took out came s n count (named.InR2A4 to) u l =
    quiet_row out came n (on_in_r2_a4 s to)
    (same out (reads s) (reads (on_in_r2_a4 s to).0) came (search rules) l)
row_took out came s n count (named.OutR1A2 to) u l =
    quiet_row out came n (on_out_r1_a2 s n to) (a2_row out came s n to l)
row_took out came s n count (named.OutR1A6 to v t) u l =
    quiet_row out came n (on_out_r1_a6 s n to t)
    (same out (reads s) (reads (on_out_r1_a6 s n to t).0) came (search rules) l)
row_took out came s n count named.OutR1A10 u l = a10_row out came s n s.replacement refl l
row_took out came s n count named.EndB2 u l =
    by_test (RowTook out came n (Stop ∷ [])) (is_open s.phase) (end_on s (end_channel s n))
    (unexpected s) (λ o. end_row out came s n (end_channel s n) refl u l) (λ o. l)
row_took out came s n count (named.ConnA1 v c d w) u l = l
row_took out came s n count (named.ConnA2 v c d life w) u l = l
row_took out came s n count (named.ConnB1 v c d life k g) u l = l
row_took out came s n count (named.ConnB2 v c d w t g a b) u l = l
row_took out came s n count (named.ConnB3 w v) u l = l
row_took out came s n count (named.ConnC1 v w t) u l = l
row_took out came s n count (named.InR1A1 v c d e) u l = l
row_took out came s n count (named.InR1A2 v c d e w t) u l = l
row_took out came s n count (named.InR1A3 to v w t) u l = l
row_took out came s n count (named.InR1A5 c) u l = l
row_took out came s n count (named.InR1A6 c) u l = l
row_took out came s n count named.InR1B1 u l = l
row_took out came s n count (named.InR1B2 w) u l = l
row_took out came s n count (named.InR2A2 c) u l = l
row_took out came s n count (named.InR2A3 to) u l = l
row_took out came s n count (named.OutR1A1 to) u l = l
row_took out came s n count (named.OutR1A3 v c d e w) u l = l
row_took out came s n count named.OutR2C1 u l = l
row_took out came s n count (named.OutR1A4 v c d e life w t) u l = l
row_took out came s n count (named.OutR1A5 to v t) u l = l
row_took out came s n count (named.OutR1A7 to c) u l = l
row_took out came s n count (named.OutR1A8 to c) u l = l
row_took out came s n count named.OutR1A9 u l = l
row_took out came s n count named.EndA1 u l = l
row_took out came s n count named.EndA2 u l = l
row_took out came s n count named.EndB1 u l = l
row_took out came s n count (named.Ack r w c) u l = l
row_took out came s n count (named.KeepAlive k) u l = l
row_took out came s n count (named.PingTraffic b) u l = l
row_took out came s n count named.Ping u l = l

-- ---- puts

abbrev PickTook : List (List ℕ) → Log → Pick → Type 0
PickTook out came None = Unit {0}
PickTook out came (Some pick) = Took out (reads pick.0) came

or_took : (out : List (List ℕ)) (came : Log) (p q : Pick) → PickTook out came p
    → PickTook out came q → PickTook out came (or_else p q)
or_took out came None q a b = b
or_took out came (Some pick) q a b = a

took_if : (out : List (List ℕ)) (came : Log) (b : Bool) (f : ClientRole) (m : Message)
    → Took out (reads f) came → PickTook out came (if b then Some (f, m) else None)
took_if out came true f m l = l
took_if out came false f m l = tt

due_took : (out : List (List ℕ)) (came : Log) (s : ClientRole) (r : Replacement)
    → s.replacement ≡ r → Took out (reads s) came → PickTook out came (due_by s r)
due_took out came s NoneUnderWay e l = tt
due_took out came s (In in_stage.Asked w) e l = tt
due_took out came s (In in_stage.Answered w) e l =
    took_if out came (fits s.writing.meter IN_R1_A5_LEN) (handed_over s w)
    (Packet (named.InR1A5 s.in_successor.cookie))
    (after_in_took out (record s {
      leaving = s.writing;
      writing = s.in_successor;
      in_successor = unopened_in 0 s.config.lifetime;
    }) w came (ap is_finished e) l)
due_took out came s (Out out_stage.Asked w) e l = tt
due_took out came s (Out out_stage.Answered w) e l =
    took_if out came (fits s.writing.meter OUT_R1_A7_LEN) (record s {
      writing = metered s.writing OUT_R1_A7_LEN;
      replacement = Out out_stage.Switched w;
    }) (Packet (named.OutR1A7 2 s.out_successor.cookie))
    (by_replacement out s (Out out_stage.Answered w) came e l)
due_took out came s (Out out_stage.Switched w) e l = tt
due_took out came s (Out out_stage.Finished w) e l = tt

ack_took : (out : List (List ℕ)) (came : Log) (s : ClientRole) (which : Which) (ack : Option Ack)
    → Took out (reads s) came → PickTook out came (ack_by s which ack)
ack_took out came s which None l = tt
ack_took out came s Current (Some ack) l =
    took_if out came (may_put s.writing.meter ACK_TO_LEN)
    (record s {
      line = after_told s.line Current ack;
      writing = metered s.writing ACK_TO_LEN;
    }) (Packet (named.AckTo 3 ack.received ack.available (cookie_of s Current)))
    (record { law = l.law; next = l.next; blank = l.blank; finished = l.finished; there = l.there })
ack_took out came s Next (Some ack) l =
    took_if out came (may_put s.writing.meter ACK_TO_LEN)
    (record s {
      line = after_told s.line Next ack;
      writing = metered s.writing ACK_TO_LEN;
    }) (Packet (named.AckTo 3 ack.received ack.available (cookie_of s Next)))
    (record { law = l.law; next = l.next; blank = l.blank; finished = l.finished; there = l.there })

pdu_took : (out : List (List ℕ)) (came : Log) (s : ClientRole) (len : Option ℕ)
    → Took out (reads s) came → PickTook out came (putting.pdu_by s len)
pdu_took out came s None l = tt
pdu_took out came s (Some len) l =
    by_test (PickTook out came) (putting.lets_pdu s len) _ None (λ o. l) (λ o. tt)

put_next_took : (out : List (List ℕ)) (came : Log) (s : ClientRole) → Took out (reads s) came
    → PickTook out came (put_next s)
unfolding put_next put_due put_ack put_ack_of put_pdu put_end put_ping
put_next_took out came s l =
    or_took out came (due_by s s.replacement) _ (due_took out came s s.replacement refl l)
    (or_took out came (put_ack s) _
    (or_took out came (ack_by s Current (ack_due s Current)) (ack_by s Next (ack_due s Next))
    (ack_took out came s Current (ack_due s Current) l)
    (ack_took out came s Next (ack_due s Next) l))
    (or_took out came (put_pdu s) _ (pdu_took out came s (front_length s.queue) l)
    (or_took out came (put_end s) (put_ping s)
    (by_test (PickTook out came) (putting.is_end_due s && fits s.writing.meter END_A1_LEN) _ None
    (λ o. l) (λ o. tt))
    (by_test (PickTook out came) (s.writing.is_ping_due && may_put s.writing.meter PING_LEN) _ None
    (λ o. l) (λ o. tt)))))

put_writing_took : (out : List (List ℕ)) (came : Log) (s : ClientRole) (o : Opening)
    → Took out (reads s) came → PickTook out came (put_writing s o)
unfolding put_writing put_conn_b1
put_writing_took out came s NotUp l = tt
put_writing_took out came s Request l = l
put_writing_took out came s First l =
    by_test (PickTook out came) (may_put s.writing.meter CONN_B1_LEN) _ None (λ o. l) (λ o. tt)
put_writing_took out came s Second l = tt
put_writing_took out came s Put l = put_next_took out came s l

put_in_successor_took : (out : List (List ℕ)) (came : Log) (s : ClientRole) (o : Opening)
    → Took out (reads s) came → PickTook out came (put_in_successor s o)
unfolding put_in_successor put_in_r1_a1 put_successor_ping
put_in_successor_took out came s NotUp l = tt
put_in_successor_took out came s Request l = l
put_in_successor_took out came s First l =
    by_test (PickTook out came) (may_put s.in_successor.meter IN_R1_A1_LEN) _ None (λ o. l)
    (λ o. tt)
put_in_successor_took out came s Second l = tt
put_in_successor_took out came s Put l =
    by_test (PickTook out came)
    (s.in_successor.is_ping_due && may_put s.in_successor.meter PING_LEN) _ None (λ o. l) (λ o. tt)

put_in_took : (out : List (List ℕ)) (came : Log) (s : ClientRole) (n : ℕ)
    → Took out (reads s) came → PickTook out came (put_in s n)
unfolding put_in
put_in_took out came s n l =
    by_test (PickTook out came) (is_writing s n) (put_writing s s.writing.opening)
    (if is_in_successor s n then put_in_successor s s.in_successor.opening else None)
    (λ e. put_writing_took out came s s.writing.opening l)
    (λ e. by_test (PickTook out came) (is_in_successor s n)
    (put_in_successor s s.in_successor.opening) None
    (λ o. put_in_successor_took out came s s.in_successor.opening l) (λ o. tt))

current_took : (out : List (List ℕ)) (came : Log) (s : ClientRole) (o : Opening)
    → Took out (reads s) came → PickTook out came (put_current s o)
unfolding put_current
current_took out came s NotUp l = tt
current_took out came s Request l = l
current_took out came s First l = l
current_took out came s Second l = tt
current_took out came s Put l = tt

successor_took : (out : List (List ℕ)) (came : Log) (s : ClientRole) (o : Opening)
    → Took out (reads s) came → PickTook out came (put_out_successor s o)
unfolding put_out_successor
successor_took out came s NotUp l = tt
successor_took out came s Request l = l
successor_took out came s First l = l
successor_took out came s Second l = l
successor_took out came s Put l = tt

put_took : (out : List (List ℕ)) (came : Log) (s : ClientRole) (n : ℕ) (k : LegKind)
    → Took out (reads s) came → PickTook out came (putting.put_by s n k)
unfolding put_by put_out
put_took out came s n ClientOut l =
    by_test (PickTook out came) (is_current s n) (put_current s s.current.opening)
    (if is_out_successor s n then put_out_successor s s.out_successor.opening else None)
    (λ e. current_took out came s s.current.opening l)
    (λ e. by_test (PickTook out came) (is_out_successor s n)
    (put_out_successor s s.out_successor.opening) None
    (λ o. successor_took out came s s.out_successor.opening l) (λ o. tt))
put_took out came s n ClientIn l = put_in_took out came s n l
put_took out came s n OutServer l = tt
put_took out came s n InServer l = tt

-- ---- a leg is up

-- what stands for the next channel before it is there is as empty as the next channel is then
opened_law : (out : List (List ℕ)) (line : Line) (number : ℕ) (f : Bool) (came : Log)
    → line.next.pdus ≡ [] → line.next.ended ≡ false → LawBy out line number f came
    → LawBy out (after_open_next line false) number f came
opened_law out line number f came p e l =
    subst (λ t. TakerLaw t has_leg came) (opened line.next.pdus line.next.ended p e) l
  where
    opened : (pdus : List (List ℕ)) (ended : Bool) → pdus ≡ [] → ended ≡ false
        → record {
          taken = out;
          shelves = record {
            current = number;
            now = shelf_of line.current f;
            was_ended = line.was_ended;
            following = suc number;
            next = record { held = pdus; ended = ended; finished = false };
            later = λ n. false;
          };
        }
        ≡ taker_by out (after_open_next line false) number f
    opened pdus ended p e = cc

next_took : (out : List (List ℕ)) (came : Log) (s : ClientRole) (cookie : Cookie)
    → Took out (reads s) came
    → Took out (reads (record s { line = with_next s.line })) came
next_took out came s cookie l =
    by_test (λ line. Took out (reads (record s { line = line })) came) s.line.has_next s.line
    (after_open_next s.line false) (λ e. l)
    (λ e. record {
      law = opened_law out s.line s.current.number (is_finished s.replacement) came
          (l.blank e).0 (l.blank e).1 l.law;
      next = l.next;
      blank = λ o. absurd (cc);
      finished = l.finished;
      there = λ o. refl;
    })

up_took : (out : List (List ℕ)) (came : Log) (s : ClientRole) (n : ℕ) (cookie : Cookie)
    (k : LegKind) → Took out (reads s) came → Took out (reads (up_by s n cookie k)) came
up_took out came s n cookie ClientOut l =
    by_test (λ f. Took out (reads f) came) (is_current s n)
    (record s { current = out_up s.current cookie })
    (record s { out_successor = out_up s.out_successor cookie; line = with_next s.line })
    (λ e. l) (λ e. next_took out came s cookie l)
up_took out came s n cookie ClientIn l =
    same out (reads s) (reads (up_by s n cookie ClientIn)) came (search rules) l
up_took out came s n cookie OutServer l = l
up_took out came s n cookie InServer l = l

-- ---- moves

abbrev Holds : List (List ℕ) → Passage ClientRole → Type 0
Holds out p = Took out (reads p.role) (came_log p.came)

row_holds : (out : List (List ℕ)) (p : Passage ClientRole) (leg : Leg) (m : Message) (x : Done)
    → leg.kind ≡ ClientOut → RowTook out (came_log p.came) leg.number (down_items m) x
    → Holds out (taken_by p leg m x)
row_holds out p leg m (f, Ok took) k l =
    subst (Took out (reads f))
    (sym (log_here down_items ClientOut p.came leg m (of_kind ClientOut leg k))) l
row_holds out p leg m (f, Err why) k l = l

-- the leg is in use
not_done : (a d : Bool) → IsTrue (a && not d) → d ≡ false
not_done true false t = refl
not_done true true t = absurd (cc)
not_done false d t = absurd (cc)

used : (c f x : Bool) → (if c then f else x) ≡ false → c ≡ true → f ≡ false
used true f x e c = e
used false f x e c = absurd (cc)

in_use : (s : ClientRole) (leg : Leg) → leg.kind ≡ ClientOut
    → is_done_by s leg.number leg.kind ≡ false → InUse s leg.number
in_use s leg k e =
    used (is_current s leg.number) (is_finished s.replacement) (nat_lt leg.number s.current.number)
    (subst (λ j. is_done_by s leg.number j ≡ false) k e)

pdu_holds : (out : List (List ℕ)) (p : Passage ClientRole) (leg : Leg) (bytes : List ℕ)
    (k : LegKind) → leg.kind ≡ k → is_done_by p.role leg.number leg.kind ≡ false → Holds out p
    → Holds out (taken_by p leg (Pdu bytes) (client.pdu_by p.role leg.number bytes k))
pdu_holds out p leg bytes ClientOut k d l =
    row_holds out p leg (Pdu bytes) (on_pdu p.role leg.number bytes) k
    (pdu_row out (came_log p.came) p.role leg.number bytes (pdu_channel p.role leg.number) refl
    (in_use p.role leg k d) l)
pdu_holds out p leg bytes OutServer k d l = l
pdu_holds out p leg bytes ClientIn k d l = l
pdu_holds out p leg bytes InServer k d l = l

packet_holds : (out : List (List ℕ)) (p : Passage ClientRole) (leg : Leg) (count : Count)
    (named : Named) (k : LegKind) → leg.kind ≡ k
    → is_done_by p.role leg.number leg.kind ≡ false → Holds out p
    → Holds out (taken_by p leg (Packet named) (packet_by p.role leg.number count named k))
packet_holds out p leg count named ClientOut k d l =
    row_holds out p leg (Packet named) (packet_by p.role leg.number count named ClientOut) k
    (by_test (RowTook out (came_log p.came) leg.number (down_mark named))
    (is_current p.role leg.number || is_out_successor p.role leg.number)
    (on_packet p.role leg.number count named) (unexpected p.role)
    (λ o. row_took out (came_log p.came) p.role leg.number count named (in_use p.role leg k d) l)
    (λ o. l))
packet_holds out p leg count named OutServer k d l = l
packet_holds out p leg count named ClientIn k d l = l
packet_holds out p leg count named InServer k d l = l

puts_holds : (out : List (List ℕ)) (p : Passage ClientRole) (leg : Leg) (pick : Pick)
    → Holds out p → PickTook out (came_log p.came) pick
    → Holds out (moves.put_by p leg (settled_pick pick))
puts_holds out p leg None l o = l
puts_holds out p leg (Some (f, m)) l o = settled_took out f (came_log p.came) o

move_holds : (out : List (List ℕ)) (p : Passage ClientRole) (move : moves.Move)
    → moves.MayMove client_rules p.role move → Holds out p
    → Holds out (moves.moved client_rules p move)
move_holds out p (Up leg cookie) may l =
    up_took out (came_log p.came) p.role leg.number cookie leg.kind l
move_holds out p (HeadCame leg text) may l = l
move_holds out p (PduCame leg count bytes) may l =
    pdu_holds out p leg bytes leg.kind refl
    (not_done (moves.is_at_work client_rules p.role) (is_done_by p.role leg.number leg.kind) may.0)
    l
move_holds out p (PacketCame leg count named) may l =
    packet_holds out p leg count named leg.kind refl
    (not_done (moves.is_at_work client_rules p.role) (is_done_by p.role leg.number leg.kind) may) l
move_holds out p (Puts leg) may l =
    puts_holds out p leg (putting.put_by p.role leg.number leg.kind) l
    (put_took out (came_log p.came) p.role leg.number leg.kind l)
move_holds out p (IsDrawn leg) may l =
    same out (reads p.role) (reads (drawn_by p.role leg.number leg.kind)) (came_log p.came)
    (drawn_reads p.role leg.number leg.kind) l
  where
    drawn_reads : (s : ClientRole) (n : ℕ) (k : LegKind) → reads (drawn_by s n k) ≡ reads s
    drawn_reads s n k = search rules
move_holds out p (Marks leg) may l = l
move_holds out p (Pings leg) may l =
    same out (reads p.role) (reads (ping_by p.role leg.number leg.kind)) (came_log p.came)
    (ping_reads p.role leg.number leg.kind) l
  where
    ping_reads : (s : ClientRole) (n : ℕ) (k : LegKind) → reads (ping_by s n k) ≡ reads s
    ping_reads s n k = search rules

-- ---- the calls of an end

abbrev EndHolds : EndPassage ClientRole → Type 0
EndHolds p = Holds p.taken p.passage

given_holds : (p : EndPassage ClientRole) (bytes : List ℕ) (x : Given)
    → Took p.taken (reads x.0) (came_log p.passage.came) → EndHolds (given_by p bytes x)
given_holds p bytes (f, Ok accepted) l = l
given_holds p bytes (f, Err why) l = l

give_reads : (s : ClientRole) (bytes : List ℕ) → reads (give s bytes).0 ≡ reads s
give_reads s bytes = search rules

take_holds : (p : EndPassage ClientRole) (pdus : List (List ℕ))
    → p.passage.role.line.current.pdus ≡ pdus → EndHolds p
    → EndHolds (with_first (moves.end_now_at p (passed (record (p.passage.role) {
      line = lines.taken pdus p.passage.role.line;
    }))) pdus)
take_holds p [] e l = take_took p.taken p.passage.role [] (came_log p.passage.came) e l
take_holds p (x ∷ xs) e l =
    take_took p.taken p.passage.role (x ∷ xs) (came_log p.passage.came) e l

end_holds : (p : EndPassage ClientRole) (move : EndMove)
    → moves.MayEndMove client_rules p.passage.role move → EndHolds p
    → EndHolds (end_moved client_rules acts p move)
end_holds p (Moves move) may l = move_holds p.taken p.passage move may l
end_holds p (Gives bytes) may l =
    given_holds p bytes (give p.passage.role bytes)
    (same p.taken (reads p.passage.role) (reads (give p.passage.role bytes).0)
    (came_log p.passage.came) (give_reads p.passage.role bytes) l)
end_holds p Takes may l = take_holds p p.passage.role.line.current.pdus refl l
end_holds p moves.Closes may l = l
end_holds p Recycles may l =
    recycle_took p.taken p.passage.role p.passage.role.replacement (came_log p.passage.came) refl l

all_hold : (p : EndPassage ClientRole) (all : List EndMove)
    → moves.AreAllowedAtEnd client_rules acts p all → EndHolds p
    → EndHolds (all_end_moved client_rules acts p all)
all_hold p [] may l = l
all_hold p (move ∷ all) may l =
    all_hold (end_moved client_rules acts p move) all may.1 (end_holds p move may.0 l)

pub takes_in_order : (config : ClientConfig) (all : List EndMove) → AreAllowedMoves config all
    → TakesInOrder (client_moved config all)
takes_in_order config all may =
    (all_hold (client_started config) all may (record {
      law = taker_starts has_leg refl;
      next = tt;
      blank = λ o. (refl, refl);
      finished = refl;
      there = λ o. absurd (cc);
    })).law
