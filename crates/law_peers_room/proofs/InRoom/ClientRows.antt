-- what comes leaves a client's facts of its OUT channels
use Rattle.std.specs.Option.{is_some}
use Rattle.law_order.proofs.Vocabulary.{◌≡◌, ℕ, ◌==◌, nat_lt, Bool, true, false, ◌&&◌, ◌||◌, not, if◌then◌else◌, List, Some, None, refl, Option}
use Rattle.rh_sig.specs.declared.named.Named.TheVariants as named
use Rattle.rh_shell.specs.declared.answers.Phase.TheVariants as phase
use Rattle.rh_client.specs.declared.replacement.InStage.TheVariants as in_stage
use Rattle.rh_client.specs.declared.replacement.OutStage.TheVariants as out_stage
use Rattle.rh_client.specs.declared.replacement.Waits.TheVariants as waits
use Rattle.law_moves.proofs.Vocabulary.{by_test, Cookie, Named, channel_of, after_end, after_finish, Leg, LegKind, ClientOut, OutServer, ClientIn, InServer, Which, Count, is_zero, Message}
use Rattle.law_role_client.proofs.Vocabulary.{LAST_NUMBER, Replacement, NoneUnderWay, In, Out, InStage, OutStage, Waits, ClientRole, is_put, is_asked, is_named, told_in, has_out, with_out, Done, taken, unexpected, is_open, is_opening, is_over, is_current, is_out_successor, settled, on_conn_a3, on_conn_c2, pdu_channel, pdu_on, acked, ack_row, ack_named, on_ack_to, answer_at, answer_by, answered, on_in_r1_a4, on_in_r2_a4, a2_by, on_out_r1_a2, a6_at, a6_by, on_out_r1_a6, passed}
use Rattle.law_role_client.proofs.Vocabulary.{a10_at, a10_by, on_out_r1_a10, end_channel, end_on, on_end_b2, pdu_by, on_packet, packet_by}
use Rattle.law_peers_room.proofs.InRoom.Known.{So, at, begin_out_so, passed_so}

module _ (Comes : Leg → Cookie → Type 0) (s : ClientRole) (messages : List Message)
    (h : So Comes messages s) where
  abbrev pub Keeps : Done → Type 0
  Keeps x = So Comes messages x.0

  taken_or : (b : Bool) (t : ClientRole) → So Comes messages t
      → Keeps (if b then taken t else unexpected s)
  taken_or b t so = by_test Keeps b (taken t) (unexpected s) (λ e. so) (λ e. h)

  -- ---- rows that leave the replacement alone

  pub pdu_so : (n : ℕ) (bytes : List ℕ) (kind : LegKind) → Keeps (pdu_by s n bytes kind)
  pdu_so n bytes ClientOut = by (pdu_channel s n)
    where
      by : (o : Option Which) → Keeps (pdu_on s bytes o)
      by None = h
      by (Some which) = h
  pdu_so n bytes OutServer = h
  pdu_so n bytes ClientIn = h
  pdu_so n bytes InServer = h

  timeout_so : (n : ℕ) (count : Count) (timeout : ℕ) → Keeps (on_conn_a3 s n count timeout)
  timeout_so n count timeout =
      taken_or (n == 1 && (is_current s n && is_zero count))
      (record s { current = record (s.current) { timeout = Some timeout } }) h

  opened_so : (n window timeout : ℕ) → Keeps (on_conn_c2 s n window timeout)
  opened_so n window timeout =
      taken_or ((n == 1 && is_current s n) && (is_opening s.phase && is_some s.current.timeout))
      (record s { phase = phase.Open; writing = told_in s.writing window timeout }) h

  end_so : (n : ℕ) → Keeps (on_end_b2 s n)
  end_so n =
      by_test Keeps (is_open s.phase) (end_on s (end_channel s n)) (unexpected s)
      (λ e. by (end_channel s n)) (λ e. h)
    where
      by : (o : Option Which) → Keeps (end_on s o)
      by None = h
      by (Some which) =
          let t : ClientRole = record s { line = after_end s.line which } in
          by_test Keeps (channel_of s.line which).ended (unexpected s) (taken (settled t))
          (λ e. h)
          (λ e. by_test (So Comes messages) (is_over t) (record t { phase = phase.Ended }) t
          (λ f. h)
          (λ f. h))

  ack_so : (to received available : ℕ) (of : Cookie) → Keeps (on_ack_to s to received available of)
  ack_so to received available of =
      by_test Keeps (is_open s.phase && to == 0) (ack_named s received available of)
      (unexpected s) (λ e. named_so) (λ e. h)
    where
      named_so : Keeps (ack_named s received available of)
      named_so =
          by_test Keeps (is_named s.writing of) (
            record s { writing = acked s.writing received available },
            ack_row s.writing received available,
          ) _
          (λ e. h)
          (λ e. by_test Keeps (is_named s.in_successor of) (
            record s { in_successor = acked s.in_successor received available },
            ack_row s.in_successor received available,
          ) _
          (λ f. h)
          (λ f. by_test Keeps (is_named s.leaving of) (
            record s { leaving = acked s.leaving received available },
            ack_row s.leaving received available,
          ) (taken s)
          (λ g. h) (λ g. h)))

  -- ---- the replacement of an IN channel

  answered_so : (window timeout : ℕ) → Keeps (answered s window timeout)
  answered_so window timeout = by s.replacement refl
    where
      stands : (stage : InStage) (out_waits : Bool) → s.replacement ≡ In stage out_waits
          → Keeps (answer_at s out_waits window timeout stage)
      stands in_stage.Asked out_waits e =
          taken_or (is_put s.in_successor.opening)
          (record s {
            in_successor = told_in s.in_successor window timeout;
            replacement = In in_stage.Answered out_waits;
          })
          (at Comes messages s (In in_stage.Asked out_waits) e h)
      stands in_stage.Answered out_waits e = h

      by : (r : Replacement) → s.replacement ≡ r → Keeps (answer_by s window timeout r)
      by NoneUnderWay e = h
      by (In stage out_waits) e = stands stage out_waits e
      by (Out stage waiting) e = h

  in_told_so : (to window timeout : ℕ) → Keeps (on_in_r1_a4 s to window timeout)
  in_told_so to window timeout =
      by_test Keeps (to == 0) (answered s window timeout) (unexpected s)
      (λ e. answered_so window timeout) (λ e. h)

  in_told_before_so : (to : ℕ) → Keeps (on_in_r2_a4 s to)
  in_told_before_so to =
      by_test Keeps (to == 0) (answered s s.writing.told s.writing.timeout) (unexpected s)
      (λ e. answered_so s.writing.told s.writing.timeout) (λ e. h)

  -- ---- the replacement of an OUT channel

  out_asked_so : (n to : ℕ) → Keeps (on_out_r1_a2 s n to)
  out_asked_so n to =
      by_test Keeps (is_open s.phase && (to == 0 && nat_lt n LAST_NUMBER))
      (a2_by s n s.replacement) (unexpected s) (λ e. by s.replacement refl) (λ e. h)
    where
      by : (r : Replacement) → s.replacement ≡ r → Keeps (a2_by s n r)
      by NoneUnderWay e =
          begin_out_so Comes messages s waits.Nothing (at Comes messages s NoneUnderWay e h)
      by (In stage false) e = at Comes messages s (In stage false) e h
      by (In stage true) e = h
      by (Out stage waiting) e =
          taken_or (is_out_successor s n && not (has_out waiting))
          (record s { replacement = Out stage (with_out waiting) })
          (at Comes messages s (Out stage waiting) e h)

  out_answered_so : (n to timeout : ℕ) → Keeps (on_out_r1_a6 s n to timeout)
  out_answered_so n to timeout =
      by_test Keeps (to == 0 && is_current s n) (a6_by s timeout s.replacement) (unexpected s)
      (λ e. by s.replacement refl) (λ e. h)
    where
      stands : (waiting : Waits) (stage : OutStage) → s.replacement ≡ Out stage waiting
          → Keeps (a6_at s waiting timeout stage)
      stands waiting out_stage.Asked e =
          taken_or (is_asked s.out_successor.opening)
          (record s {
            out_successor = record (s.out_successor) { timeout = Some timeout };
            replacement = Out out_stage.Answered waiting;
          })
          (at Comes messages s (Out out_stage.Asked waiting) e h)
      stands waiting out_stage.Answered e = h
      stands waiting out_stage.Switched e = h
      stands waiting out_stage.Finished e = h

      by : (r : Replacement) → s.replacement ≡ r → Keeps (a6_by s timeout r)
      by NoneUnderWay e = h
      by (In stage out_waits) e = h
      by (Out stage waiting) e = stands waiting stage e

  out_finished_so : (n : ℕ) → Keeps (on_out_r1_a10 s n)
  out_finished_so n = by s.replacement refl
    where
      stands : (waiting : Waits) (stage : OutStage) → s.replacement ≡ Out stage waiting
          → Keeps (a10_at s n waiting stage)
      stands waiting out_stage.Asked e = h
      stands waiting out_stage.Answered e = h
      stands waiting out_stage.Switched e =
          let t : ClientRole = record s {
            line = after_finish s.line;
            replacement = Out out_stage.Finished waiting;
          } in
          taken_or (s.line.has_next && is_current s n) (passed t)
          (passed_so Comes messages t
          (at Comes messages s (Out out_stage.Switched waiting) e h))
      stands waiting out_stage.Finished e = h

      by : (r : Replacement) → s.replacement ≡ r → Keeps (a10_by s n r)
      by NoneUnderWay e = h
      by (In stage out_waits) e = h
      by (Out stage waiting) e = stands waiting stage e

  -- ---- the rows of a client

  on_so : (n : ℕ) (count : Count) (packet : Named) → Keeps (on_packet s n count packet)
  on_so n count (named.ConnA3 timeout) = timeout_so n count timeout
  on_so n count (named.ConnC2 version window timeout) = opened_so n window timeout
  on_so n count (named.AckTo to received available of) = ack_so to received available of
  on_so n count (named.InR1A4 to version window timeout) = in_told_so to window timeout
  on_so n count (named.InR2A4 to) = in_told_before_so to
  on_so n count (named.OutR1A2 to) = out_asked_so n to
  on_so n count (named.OutR1A6 to version timeout) = out_answered_so n to timeout
  on_so n count named.OutR1A10 = out_finished_so n
  on_so n count named.EndB2 = end_so n
  on_so n count packet = h

  pub packet_so : (n : ℕ) (count : Count) (packet : Named) (kind : LegKind)
      → Keeps (packet_by s n count packet kind)
  packet_so n count packet ClientOut =
      by_test Keeps (is_current s n || is_out_successor s n) (on_packet s n count packet)
      (unexpected s) (λ e. on_so n count packet) (λ e. h)
  packet_so n count packet OutServer = h
  packet_so n count packet ClientIn = h
  packet_so n count packet InServer = h
