-- what the rows of a client keep, as what comes is taken or refused
use Rattle.std.specs.Option.{is_some}
use Rattle.law_order.proofs.Vocabulary.{◌≡◌, ℕ, ◌==◌, nat_lt, Bool, true, false, ◌&&◌, ◌||◌, not, if◌then◌else◌, List, [], ◌∷◌, ◌++◌, Some, None, Ok, Err, refl, sym, subst, false≢true, and_parts, Option}
use Rattle.rh_sig.specs.declared.named.Named.TheVariants as named
use Rattle.rh_shell.specs.declared.answers.Phase.TheVariants as phase
use Rattle.rh_client.specs.declared.replacement.InStage.TheVariants as in_stage
use Rattle.rh_client.specs.declared.replacement.OutStage.TheVariants as out_stage
use Rattle.rh_client.specs.declared.replacement.Waits.TheVariants as waits
use Rattle.law_moves.proofs.Vocabulary.{by_test, same_number, Cookie, Named, ClientConfig, channel_of, after_end, after_finish, Leg, LegKind, ClientOut, OutServer, ClientIn, InServer, Which, Count, is_zero, Pdu, Packet, OnLeg}
use Rattle.law_moves.proofs.Lemmas.{RowKeeps}
use Rattle.law_role_client.proofs.Vocabulary.{Opening, NotUp, Request, First, Second, Put, LAST_NUMBER, Replacement, NoneUnderWay, In, Out, InStage, OutStage, Waits, ClientRole, is_put, is_asked, is_named, told_in, has_out, with_out, Done, taken, unexpected, is_open, is_opening, is_over, is_current, is_out_successor, settled, co, on_conn_a3, on_conn_c2, pdu_channel, pdu_on, acked, ack_row, ack_named, on_ack_to, answer_at, answer_by, answered, on_in_r1_a4, on_in_r2_a4, a2_by}
use Rattle.law_role_client.proofs.Vocabulary.{on_out_r1_a2, a6_at, a6_by, on_out_r1_a6, passed, a10_at, a10_by, on_out_r1_a10, end_channel, end_on, on_end_b2, pdu_by, on_packet, packet_by}
use Rattle.law_role_client_rows.proofs.Putting.Channels.{answers}
use Rattle.law_role_client_rows.proofs.Putting.Facts.{view, heard, with_ins, with_outs, opened_last}
use Rattle.law_role_client_rows.proofs.Putting.Changes.{Holds, at, ended, begin_out_kept, passed_kept}
use Rattle.law_role_client_rows.specs.Putting.{in_way, out_way, HasOpened}

put_asked : (opening : Opening) → is_put opening ≡ true → is_asked opening ≡ true
put_asked NotUp e = absurd (false≢true e)
put_asked Request e = absurd (false≢true e)
put_asked First e = absurd (false≢true e)
put_asked Second e = absurd (false≢true e)
put_asked Put e = refl

module _ (config : ClientConfig) (Comes : Leg → Cookie → Type 0) (Early : Leg → Type 0) where
  -- whether the row takes it or not
  row_kept : (one : OnLeg) (came put : List OnLeg) (x : Done)
      → Holds config Comes Early x.0 came put
      → RowKeeps (Holds config Comes Early) one came put x
  row_kept one came put (t, Ok done) h = heard config Comes Early (view t) came put one h
  row_kept one came put (t, Err refused) h = h

  module _ (s : ClientRole) (came put : List OnLeg) (h : Holds config Comes Early s came put) where
    abbrev Keeps : Done → Type 0
    Keeps x = Holds config Comes Early x.0 came put

    taken_or : (b : Bool) (t : ClientRole)
        → (b ≡ true → Holds config Comes Early t came put)
        → Keeps (if b then taken t else unexpected s)
    taken_or b t so = by_test Keeps b (taken t) (unexpected s) so (λ e. h)

    -- ---- rows that leave the channels alone

    pdu_same : (n : ℕ) (bytes : List ℕ) (kind : LegKind) → Keeps (pdu_by s n bytes kind)
    pdu_same n bytes ClientOut = by (pdu_channel s n)
      where
        by : (o : Option Which) → Keeps (pdu_on s bytes o)
        by None = h
        by (Some which) = h
    pdu_same n bytes OutServer = h
    pdu_same n bytes ClientIn = h
    pdu_same n bytes InServer = h

    timeout_same : (n : ℕ) (count : Count) (timeout : ℕ) → Keeps (on_conn_a3 s n count timeout)
    timeout_same n count timeout =
        taken_or (n == 1 && (is_current s n && is_zero count))
        (record s { current = record (s.current) { timeout = Some timeout } }) (λ e. h)

    end_same : (n : ℕ) → Keeps (on_end_b2 s n)
    end_same n =
        by_test Keeps (is_open s.phase) (end_on s (end_channel s n)) (unexpected s)
        (λ e. by (end_channel s n)) (λ e. h)
      where
        by : (o : Option Which) → Keeps (end_on s o)
        by None = h
        by (Some which) =
            let t : ClientRole = record s { line = after_end s.line which } in
            by_test Keeps (channel_of s.line which).ended (unexpected s) (taken (settled t))
            (λ e. h)
            (λ e. by_test (λ (u : ClientRole). Holds config Comes Early u came put) (is_over t)
            (record t { phase = phase.Ended }) t (λ f. ended config Comes Early t came put h)
            (λ f. h))

    ack_same : (to received available : ℕ) (of : Cookie)
        → Keeps (on_ack_to s to received available of)
    ack_same to received available of =
        by_test Keeps (is_open s.phase && to == 0) (ack_named s received available of)
        (unexpected s) (λ e. named_same) (λ e. h)
      where
        named_same : Keeps (ack_named s received available of)
        named_same =
            by_test Keeps (is_named s.writing of) (
              record s { writing = acked s.writing received available },
              ack_row s.writing received available,
            ) _
            (λ e. h)
            (λ e. by_test Keeps (is_named s.in_successor of) (
              record s { in_successor = acked s.in_successor received available },
              ack_row s.in_successor received available,
            ) _
            (λ f. h)
            (λ f. by_test Keeps (is_named s.leaving of) (
              record s { leaving = acked s.leaving received available },
              ack_row s.leaving received available,
            ) (taken s)
            (λ g. h) (λ g. h)))

    -- ---- the replacement of an IN channel

    in_answered : (window timeout : ℕ) → Keeps (answered s window timeout)
    in_answered window timeout = by s.replacement refl
      where
        stands : (stage : InStage) (out_waits : Bool) → s.replacement ≡ In stage out_waits
            → Keeps (answer_at s out_waits window timeout stage)
        stands in_stage.Asked out_waits e =
            taken_or (is_put s.in_successor.opening)
            (record s {
              in_successor = told_in s.in_successor window timeout;
              replacement = In in_stage.Answered out_waits;
            })
            (λ f.
            let here = at config Comes Early s (In in_stage.Asked out_waits) came put e h in
            with_ins config Comes Early here
            (answers (in_way config Comes) Comes Early here.ins
            (put_asked s.in_successor.opening f)))
        stands in_stage.Answered out_waits e = h

        by : (r : Replacement) → s.replacement ≡ r → Keeps (answer_by s window timeout r)
        by NoneUnderWay e = h
        by (In stage out_waits) e = stands stage out_waits e
        by (Out stage waiting) e = h

    in_told : (to window timeout : ℕ) → Keeps (on_in_r1_a4 s to window timeout)
    in_told to window timeout =
        by_test Keeps (to == 0) (answered s window timeout) (unexpected s)
        (λ e. in_answered window timeout) (λ e. h)

    in_told_before : (to : ℕ) → Keeps (on_in_r2_a4 s to)
    in_told_before to =
        by_test Keeps (to == 0) (answered s s.writing.told s.writing.timeout) (unexpected s)
        (λ e. in_answered s.writing.told s.writing.timeout) (λ e. h)

    -- ---- the replacement of an OUT channel

    out_asked : (n to : ℕ) → Keeps (on_out_r1_a2 s n to)
    out_asked n to =
        by_test Keeps (is_open s.phase && (to == 0 && nat_lt n LAST_NUMBER))
        (a2_by s n s.replacement) (unexpected s)
        (λ e. by (and_parts (is_open s.phase) (to == 0 && nat_lt n LAST_NUMBER) e).0
        s.replacement refl)
        (λ e. h)
      where
        by : is_open s.phase ≡ true → (r : Replacement) → s.replacement ≡ r
            → Keeps (a2_by s n r)
        by opened NoneUnderWay e =
            begin_out_kept config Comes Early s waits.Nothing came put (h.opens opened)
            (at config Comes Early s NoneUnderWay came put e h)
        by opened (In stage false) e =
            at config Comes Early s (In stage false) came put e h
        by opened (In stage true) e = h
        by opened (Out stage waiting) e =
            taken_or (is_out_successor s n && not (has_out waiting))
            (record s { replacement = Out stage (with_out waiting) })
            (λ f. at config Comes Early s (Out stage waiting) came put e h)

    out_answered : (n to timeout : ℕ) → Keeps (on_out_r1_a6 s n to timeout)
    out_answered n to timeout =
        by_test Keeps (to == 0 && is_current s n) (a6_by s timeout s.replacement) (unexpected s)
        (λ e. by s.replacement refl) (λ e. h)
      where
        stands : (waiting : Waits) (stage : OutStage) → s.replacement ≡ Out stage waiting
            → Keeps (a6_at s waiting timeout stage)
        stands waiting out_stage.Asked e =
            taken_or (is_asked s.out_successor.opening)
            (record s {
              out_successor = record (s.out_successor) { timeout = Some timeout };
              replacement = Out out_stage.Answered waiting;
            })
            (λ f.
            let here = at config Comes Early s (Out out_stage.Asked waiting) came put e h in
            with_outs config Comes Early here refl
            (answers (out_way config) Comes Early here.outs f))
        stands waiting out_stage.Answered e = h
        stands waiting out_stage.Switched e = h
        stands waiting out_stage.Finished e = h

        by : (r : Replacement) → s.replacement ≡ r → Keeps (a6_by s timeout r)
        by NoneUnderWay e = h
        by (In stage out_waits) e = h
        by (Out stage waiting) e = stands waiting stage e

    out_finished : (n : ℕ) → Keeps (on_out_r1_a10 s n)
    out_finished n = by s.replacement refl
      where
        stands : (waiting : Waits) (stage : OutStage) → s.replacement ≡ Out stage waiting
            → Keeps (a10_at s n waiting stage)
        stands waiting out_stage.Asked e = h
        stands waiting out_stage.Answered e = h
        stands waiting out_stage.Switched e =
            let t : ClientRole = record s {
              line = after_finish s.line;
              replacement = Out out_stage.Finished waiting;
            } in
            taken_or (s.line.has_next && is_current s n) (passed t)
            (λ f. passed_kept config Comes Early t came put
            (at config Comes Early s (Out out_stage.Switched waiting) came put e h))
        stands waiting out_stage.Finished e = h

        by : (r : Replacement) → s.replacement ≡ r → Keeps (a10_by s n r)
        by NoneUnderWay e = h
        by (In stage out_waits) e = h
        by (Out stage waiting) e = stands waiting stage e

  -- ---- CONN/C2

  conn_c2_kept : (s : ClientRole) (n : ℕ) (version window timeout : ℕ) (came put : List OnLeg)
      → Holds config Comes Early s came put
      → RowKeeps (Holds config Comes Early)
      (co n, Packet (named.ConnC2 version window timeout)) came put
      (on_conn_c2 s n window timeout)
  conn_c2_kept s n version window timeout came put h =
      let one : OnLeg = (co n, Packet (named.ConnC2 version window timeout)) in
      let test = (n == 1 && is_current s n)
      && (is_opening s.phase && is_some s.current.timeout) in
      by_test (RowKeeps (Holds config Comes Early) one came put) test
      (taken (record s {
        phase = phase.Open;
        writing = told_in s.writing window timeout;
      }))
      (unexpected s)
      (λ e.
      let is_first = same_number n 1 (and_parts (n == 1) (is_current s n)
      (and_parts (n == 1 && is_current s n)
      (is_opening s.phase && is_some s.current.timeout) e).0).0 in
      let k = heard config Comes Early (view s) came put one h in
      record {
        same = k.same;
        opens = λ f. subst (λ (j : ℕ). HasOpened
            (came ++ (co j, Packet (named.ConnC2 version window timeout)) ∷ [])) (sym is_first)
            (opened_last came version window timeout);
        under_way = k.under_way;
        ins = k.ins;
        outs = k.outs;
        switches = k.switches;
      })
      (λ e. h)

  -- ---- the rows of a client

  on_kept : (s : ClientRole) (n : ℕ) (count : Count) (packet : Named) (came put : List OnLeg)
      → Holds config Comes Early s came put
      → RowKeeps (Holds config Comes Early) (co n, Packet packet) came put
      (on_packet s n count packet)
  on_kept s n count (named.ConnA3 timeout) came put h =
      row_kept (co n, Packet (named.ConnA3 timeout)) came put (on_conn_a3 s n count timeout)
      (timeout_same s came put h n count timeout)
  on_kept s n count (named.ConnC2 version window timeout) came put h =
      conn_c2_kept s n version window timeout came put h
  on_kept s n count (named.AckTo to received available of) came put h =
      row_kept (co n, Packet (named.AckTo to received available of)) came put
      (on_ack_to s to received available of) (ack_same s came put h to received available of)
  on_kept s n count (named.InR1A4 to version window timeout) came put h =
      row_kept (co n, Packet (named.InR1A4 to version window timeout)) came put
      (on_in_r1_a4 s to window timeout) (in_told s came put h to window timeout)
  on_kept s n count (named.InR2A4 to) came put h =
      row_kept (co n, Packet (named.InR2A4 to)) came put (on_in_r2_a4 s to)
      (in_told_before s came put h to)
  on_kept s n count (named.OutR1A2 to) came put h =
      row_kept (co n, Packet (named.OutR1A2 to)) came put (on_out_r1_a2 s n to)
      (out_asked s came put h n to)
  on_kept s n count (named.OutR1A6 to version timeout) came put h =
      row_kept (co n, Packet (named.OutR1A6 to version timeout)) came put
      (on_out_r1_a6 s n to timeout) (out_answered s came put h n to timeout)
  on_kept s n count named.OutR1A10 came put h =
      row_kept (co n, Packet named.OutR1A10) came put (on_out_r1_a10 s n)
      (out_finished s came put h n)
  on_kept s n count named.EndB2 came put h =
      row_kept (co n, Packet named.EndB2) came put (on_end_b2 s n) (end_same s came put h n)
  on_kept s n count packet came put h = h

  pub packet_kept : (s : ClientRole) (n : ℕ) (count : Count) (packet : Named) (kind : LegKind)
      (came put : List OnLeg) → Holds config Comes Early s came put
      → RowKeeps (Holds config Comes Early) (record { kind = kind; number = n }, Packet packet)
      came put (packet_by s n count packet kind)
  packet_kept s n count packet ClientOut came put h =
      by_test (RowKeeps (Holds config Comes Early) (co n, Packet packet) came put)
      (is_current s n || is_out_successor s n) (on_packet s n count packet) (unexpected s)
      (λ e. on_kept s n count packet came put h) (λ e. h)
  packet_kept s n count packet OutServer came put h = h
  packet_kept s n count packet ClientIn came put h = h
  packet_kept s n count packet InServer came put h = h

  pub pdu_kept : (s : ClientRole) (n : ℕ) (bytes : List ℕ) (kind : LegKind)
      (came put : List OnLeg) → Holds config Comes Early s came put
      → RowKeeps (Holds config Comes Early) (record { kind = kind; number = n }, Pdu bytes) came
      put (pdu_by s n bytes kind)
  pdu_kept s n bytes kind came put h =
      row_kept (record { kind = kind; number = n }, Pdu bytes) came put (pdu_by s n bytes kind)
      (pdu_same s came put h n bytes kind)
