-- what the rows of a client keep, as what comes is taken or refused
use Rattle.std.specs.Option.{is_some}
use Rattle.law_order.proofs.Vocabulary.{◌≡◌, ℕ, ◌+◌, ◌==◌, nat_lt, Bool, true, false, ◌&&◌, ◌||◌, not, if◌then◌else◌, List, ◌++◌, ◌∷◌, [], Some, None, Ok, Err, refl, sym, ap, ◌∙◌, subst, false≢true, and_parts, bytes_eq-Decides, max, is_ok, bytes_eq, Option, Result}
use Rattle.rh_sig.specs.declared.named.Named.TheVariants as named
use Rattle.rh_shell.specs.declared.answers.Phase.TheVariants as phase
use Rattle.rh_client.specs.declared.replacement.InStage.TheVariants as in_stage
use Rattle.rh_client.specs.declared.replacement.OutStage.TheVariants as out_stage
use Rattle.law_moves.proofs.Vocabulary.{ack_verdict, BadAck, by_test, same_number, Cookie, Named, Leg, LegKind, ClientOut, OutServer, ClientIn, InServer, Which, after_admit, channel_of, after_end, after_finish, Count, Pdu, Packet, is_zero, OnLeg}
use Rattle.law_moves.proofs.Lemmas.{RowKeeps}
use Rattle.law_role_client.proofs.Vocabulary.{InChannel, LAST_NUMBER, Replacement, NoneUnderWay, In, Out, InStage, OutStage, Waits, ClientRole, is_up, is_put, is_asked, is_named, told_in, is_in, has_out, with_out, Done, taken, unexpected, is_open, is_opening, is_current, is_out_successor, settled, co, on_conn_a3, on_conn_c2, pdu_channel, pdu_on, acked, ack_row, ack_row_by, ack_named, on_ack_to, answer_at, answer_by, answered, on_in_r1_a4, on_in_r2_a4, a2_by, on_out_r1_a2}
use Rattle.law_role_client.proofs.Vocabulary.{a6_at, a6_by, on_out_r1_a6, passed, a10_at, a10_by, on_out_r1_a10, end_channel, end_on, on_end_b2, pdu_by, on_packet, packet_by, IsWithin}
use Rattle.law_role_client.proofs.Sending.Logs.{within_more, within_both, within_last}
use Rattle.law_role_client.proofs.Sending.Facts.{seen_in, IsCookieOf, IsOfNone, Kept, heard}
use Rattle.law_role_client.proofs.Sending.Channels.{known_told, known_edge, with_writing, with_successor, with_leaving}
use Rattle.law_role_client.proofs.Sending.Changes.{Same, quiet, itself, settled_same, turned, same_kept, turned_kept, successor_none, a2_kept, passed_kept}

-- a channel has the cookie
pub named_so : (c : InChannel) (of : Cookie) → is_named c of ≡ true → IsCookieOf (seen_in c) of
named_so c of e =
    let parts = and_parts (is_up c.opening) (bytes_eq c.cookie.0 of.0) e in
    let same : c.cookie.0 ≡ of.0 = (bytes_eq-Decides c.cookie.0 of.0).0 parts.1 in
    let cookie : List ℕ → Cookie = λ bytes. record { 0 = bytes } in
    (parts.0, ap cookie same)

-- ---- rows that leave it alone

conn_a3_same : (s : ClientRole) (n : ℕ) (count : Count) (timeout : ℕ)
    → Same s (on_conn_a3 s n count timeout).0
conn_a3_same s n count timeout =
    by_test (λ (x : Done). Same s x.0) (n == 1 && (is_current s n && is_zero count))
    (taken (record s { current = record (s.current) { timeout = Some timeout } })) (unexpected s)
    (λ e. quiet s (record s { current = record (s.current) { timeout = Some timeout } }) refl refl)
    (λ e. itself s)

end_b2_same : (s : ClientRole) (n : ℕ) → Same s (on_end_b2 s n).0
end_b2_same s n =
    by_test (λ (x : Done). Same s x.0) (is_open s.phase) (end_on s (end_channel s n))
    (unexpected s) (λ e. by (end_channel s n)) (λ e. itself s)
  where
    by : (o : Option Which) → Same s (end_on s o).0
    by None = itself s
    by (Some which) =
        by_test (λ (x : Done). Same s x.0) (channel_of s.line which).ended (unexpected s)
        (taken (settled (record s { line = after_end s.line which }))) (λ e. itself s)
        (λ e. settled_same s (record s { line = after_end s.line which }) refl refl)

pdu_same : (s : ClientRole) (n : ℕ) (bytes : List ℕ) (kind : LegKind)
    → Same s (pdu_by s n bytes kind).0
pdu_same s n bytes ClientOut = by (pdu_channel s n)
  where
    by : (o : Option Which) → Same s (pdu_on s bytes o).0
    by None = itself s
    by (Some which) =
        quiet s (record s { line = after_admit s.line which bytes }) refl refl
pdu_same s n bytes OutServer = itself s
pdu_same s n bytes ClientIn = itself s
pdu_same s n bytes InServer = itself s

module _ (Comes : Leg → Cookie → Type 0) where
  same_row : (one : OnLeg) (s : ClientRole) (x : Done) (came put : List OnLeg) → Same s x.0
      → Kept Comes s came put → RowKeeps (Kept Comes) one came put x
  same_row one s (t, Ok done) came put same h =
      heard Comes t came put one (same_kept Comes s t came put same h)
  same_row one s (t, Err refused) came put same h = same_kept Comes s t came put same h

  pub pdu_kept : (s : ClientRole) (n : ℕ) (bytes : List ℕ) (kind : LegKind) (came put : List OnLeg)
      → Kept Comes s came put
      → RowKeeps (Kept Comes) (record { kind = kind; number = n }, Pdu bytes) came put
      (pdu_by s n bytes kind)
  pdu_kept s n bytes kind came put h =
      same_row (record { kind = kind; number = n }, Pdu bytes) s (pdu_by s n bytes kind) came put
      (pdu_same s n bytes kind) h

  -- ---- a packet comes on an OUT channel

  module _ (s : ClientRole) (n : ℕ) (packet : Named) (came put : List OnLeg)
      (h : Kept Comes s came put) where
    abbrev one : OnLeg
    one = (co n, Packet packet)

    abbrev Keeps : Done → Type 0
    Keeps x = RowKeeps (Kept Comes) one came put x

    abbrev Heard : ClientRole → Type 0
    Heard t = Kept Comes t (came ++ one ∷ []) put

    hears : Heard s
    hears = heard Comes s came put one h

    -- where it is taken
    taken_or : (b : Bool) (t : ClientRole) → (b ≡ true → Heard t)
        → Keeps (if b then taken t else unexpected s)
    taken_or b t so = by_test Keeps b (taken t) (unexpected s) so (λ e. h)

    -- the out proxy asks for a successor of an OUT channel
    out_asked : (to : ℕ) → Keeps (on_out_r1_a2 s n to)
    out_asked to =
        by_test Keeps (is_open s.phase && (to == 0 && nat_lt n LAST_NUMBER))
        (a2_by s n s.replacement) (unexpected s) (λ e. by s.replacement refl) (λ e. h)
      where
        by : (r : Replacement) → s.replacement ≡ r → Keeps (a2_by s n r)
        by NoneUnderWay e = a2_kept Comes s (came ++ one ∷ []) put (ap is_in e) hears
        by (In stage false) e =
            turned_kept Comes s (In stage true) (came ++ one ∷ []) put (sym (ap is_in e)) hears
        by (In stage true) e = h
        by (Out stage waiting) e =
            taken_or (is_out_successor s n && not (has_out waiting))
            (record s { replacement = Out stage (with_out waiting) })
            (λ f. turned_kept Comes s (Out stage (with_out waiting)) (came ++ one ∷ []) put
            (sym (ap is_in e)) hears)

    out_answered : (to timeout : ℕ) → Keeps (on_out_r1_a6 s n to timeout)
    out_answered to timeout =
        by_test Keeps (to == 0 && is_current s n) (a6_by s timeout s.replacement) (unexpected s)
        (λ e. by s.replacement refl) (λ e. h)
      where
        at : (waiting : Waits) (stage : OutStage) → is_in s.replacement ≡ false
            → Keeps (a6_at s waiting timeout stage)
        at waiting out_stage.Asked e =
            taken_or (is_asked s.out_successor.opening)
            (record s {
              out_successor = record (s.out_successor) { timeout = Some timeout };
              replacement = Out out_stage.Answered waiting;
            })
            (λ f. same_kept Comes s (record s {
              out_successor = record (s.out_successor) { timeout = Some timeout };
              replacement = Out out_stage.Answered waiting;
            }) (came ++ one ∷ []) put
            (quiet s (record s {
              out_successor = record (s.out_successor) { timeout = Some timeout };
              replacement = Out out_stage.Answered waiting;
            }) (turned s (Out out_stage.Answered waiting) (sym e)) refl) hears)
        at waiting out_stage.Answered e = h
        at waiting out_stage.Switched e = h
        at waiting out_stage.Finished e = h

        by : (r : Replacement) → s.replacement ≡ r → Keeps (a6_by s timeout r)
        by NoneUnderWay e = h
        by (In stage out_waits) e = h
        by (Out stage waiting) e = at waiting stage (ap is_in e)

    out_finished : Keeps (on_out_r1_a10 s n)
    out_finished = by s.replacement refl
      where
        at : (waiting : Waits) (stage : OutStage) → is_in s.replacement ≡ false
            → Keeps (a10_at s n waiting stage)
        at waiting out_stage.Asked e = h
        at waiting out_stage.Answered e = h
        at waiting out_stage.Switched e =
            let t : ClientRole = record s {
              line = after_finish s.line;
              replacement = Out out_stage.Finished waiting;
            } in
            taken_or (s.line.has_next && is_current s n) (passed t)
            (λ f. passed_kept Comes t (came ++ one ∷ []) put
            (same_kept Comes s t (came ++ one ∷ []) put
            (quiet s t (turned s (Out out_stage.Finished waiting) (sym e)) refl) hears))
        at waiting out_stage.Finished e = h

        by : (r : Replacement) → s.replacement ≡ r → Keeps (a10_by s n r)
        by NoneUnderWay e = h
        by (In stage out_waits) e = h
        by (Out stage waiting) e = at waiting stage (ap is_in e)

    -- ---- windows

    -- of the first IN channel, on which nothing was sent
    opened : (window timeout : ℕ) → IsWithin IsOfNone (came ++ one ∷ []) window
        → Keeps (on_conn_c2 s n window timeout)
    opened window timeout is =
        let told = told_in s.writing window timeout in
        taken_or ((n == 1 && is_current s n) && (is_opening s.phase && is_some s.current.timeout))
        (record s { phase = phase.Open; writing = told_in s.writing window timeout })
        (λ e.
        let still = (and_parts (is_opening s.phase) (is_some s.current.timeout)
        (and_parts (n == 1 && is_current s n)
        (is_opening s.phase && is_some s.current.timeout)
        e).1).0 in
        let t : ClientRole = record s { writing = told } in
        same_kept Comes t (record t { phase = phase.Open }) (came ++ one ∷ []) put
        (record { same = refl; still = λ f. absurd (false≢true f) })
        (with_writing Comes s told (came ++ one ∷ []) put refl
        (known_told Comes (seen_in s.writing) window (came ++ one ∷ []) put
        (sym h.so.writing.counted ∙ h.still still) is hears.so.writing)
        (λ f. refl) hears))

    -- of a successor, on which nothing was sent
    in_answered : (window timeout : ℕ) → IsWithin IsOfNone (came ++ one ∷ []) window
        → Keeps (answered s window timeout)
    in_answered window timeout is = by s.replacement refl
      where
        told : InChannel
        told = told_in s.in_successor window timeout

        at : (stage : InStage) (out_waits : Bool) → is_in s.replacement ≡ true
            → Keeps (answer_at s out_waits window timeout stage)
        at in_stage.Asked out_waits e =
            taken_or (is_put s.in_successor.opening)
            (record s {
              in_successor = told_in s.in_successor window timeout;
              replacement = In in_stage.Answered out_waits;
            })
            (λ f. turned_kept Comes (record s { in_successor = told })
            (In in_stage.Answered out_waits) (came ++ one ∷ []) put (sym e)
            (with_successor Comes s told (came ++ one ∷ []) put refl
            (known_told Comes (seen_in s.in_successor) window (came ++ one ∷ []) put
            (successor_none Comes s came put e h) is hears.so.in_successor) hears))
        at in_stage.Answered out_waits e = h

        by : (r : Replacement) → s.replacement ≡ r → Keeps (answer_by s window timeout r)
        by NoneUnderWay e = h
        by (In stage out_waits) e = at stage out_waits (ap is_in e)
        by (Out stage waiting) e = h

    in_told : (to window timeout : ℕ) → IsWithin IsOfNone (came ++ one ∷ []) window
        → Keeps (on_in_r1_a4 s to window timeout)
    in_told to window timeout is =
        by_test Keeps (to == 0) (answered s window timeout) (unexpected s)
        (λ e. in_answered window timeout is) (λ e. h)

    -- the predecessor's is the successor's
    in_told_before : (to : ℕ) → Keeps (on_in_r2_a4 s to)
    in_told_before to =
        by_test Keeps (to == 0) (answered s s.writing.told s.writing.timeout) (unexpected s)
        (λ e. in_answered s.writing.told s.writing.timeout hears.so.writing.told) (λ e. h)

    -- ---- acknowledgements

    -- the edge of the channel to which it applies is told; what is refused changes nothing
    acked_row : (c : InChannel) (back : InChannel → ClientRole) (received available : ℕ)
        → Kept Comes (back c) came put → IsWithin (IsCookieOf (seen_in c)) came c.window.edge
        → IsWithin (IsCookieOf (seen_in c)) (came ++ one ∷ []) (received + available)
        → ((edge : ℕ) → IsWithin (IsCookieOf (seen_in c)) (came ++ one ∷ []) edge
        → Heard (back (record c { window = record (c.window) { edge = edge } })))
        → Keeps (back (acked c received available), ack_row c received available)
    acked_row c back received available before edge told change =
        by (ack_verdict c.window received available)
      where
        by : (v : Result (Unit {0}) BadAck)
            → Keeps (
              back (record c {
                window = if is_ok v
                    then record (c.window) { edge = max c.window.edge (received + available) }
                    else c.window;
              }),
              ack_row_by v,
            )
        by (Ok done) =
            change (max c.window.edge (received + available))
            (within_both (IsCookieOf (seen_in c)) (came ++ one ∷ []) c.window.edge
            (received + available)
            (within_more (IsCookieOf (seen_in c)) came one c.window.edge edge) told)
        by (Err bad) = before

    acked_kept : (to received available : ℕ) (of : Cookie)
        → packet ≡ named.AckTo to received available of
        → Keeps (on_ack_to s to received available of)
    acked_kept to received available of is =
        by_test Keeps (is_open s.phase && to == 0) (ack_named s received available of)
        (unexpected s)
        (λ e. by_name (same_number to 0 (and_parts (is_open s.phase) (to == 0) e).1)) (λ e. h)
      where
        tells : (c : InChannel) → to ≡ 0 → is_named c of ≡ true
            → IsWithin (IsCookieOf (seen_in c)) (came ++ one ∷ []) (received + available)
        tells c none e =
            subst (λ (p : Named). IsWithin (IsCookieOf (seen_in c))
            (came ++ (co n, Packet p) ∷ []) (received + available)) (sym is)
            (within_last (IsCookieOf (seen_in c)) n came (named.AckTo to received available of)
            (received + available)
            (none, refl, named_so c of e))

        by_name : to ≡ 0 → Keeps (ack_named s received available of)
        by_name none =
            by_test Keeps (is_named s.writing of) (
              record s { writing = acked s.writing received available },
              ack_row s.writing received available,
            ) _
            (λ e. acked_row s.writing (λ (c : InChannel). record s { writing = c }) received
            available h h.so.writing.edge (tells s.writing none e)
            (λ edge told. with_writing Comes s
            (record (s.writing) { window = record (s.writing.window) { edge = edge } })
            (came ++ one ∷ []) put refl
            (known_edge Comes (seen_in s.writing) edge (came ++ one ∷ []) put told
            hears.so.writing) h.still hears))
            (λ e. by_test Keeps (is_named s.in_successor of) (
              record s { in_successor = acked s.in_successor received available },
              ack_row s.in_successor received available,
            ) _
            (λ f. acked_row s.in_successor (λ (c : InChannel). record s { in_successor = c })
            received available h h.so.in_successor.edge (tells s.in_successor none f)
            (λ edge told. with_successor Comes s
            (record (s.in_successor) { window = record (s.in_successor.window) { edge = edge } })
            (came ++ one ∷ []) put refl
            (known_edge Comes (seen_in s.in_successor) edge (came ++ one ∷ []) put told
            hears.so.in_successor) hears))
            (λ f. by_test Keeps (is_named s.leaving of) (
              record s { leaving = acked s.leaving received available },
              ack_row s.leaving received available,
            ) (taken s)
            (λ g. acked_row s.leaving (λ (c : InChannel). record s { leaving = c }) received
            available h h.so.leaving.edge (tells s.leaving none g)
            (λ edge told. with_leaving Comes s
            (record (s.leaving) { window = record (s.leaving.window) { edge = edge } })
            (came ++ one ∷ []) put h.so.numbers.before
            (known_edge Comes (seen_in s.leaving) edge (came ++ one ∷ []) put told
            hears.so.leaving) hears))
            (λ g. hears)))

  -- ---- the rows of a client

  on_kept : (s : ClientRole) (n : ℕ) (count : Count) (packet : Named) (came put : List OnLeg)
      → Kept Comes s came put
      → RowKeeps (Kept Comes) (co n, Packet packet) came put (on_packet s n count packet)
  on_kept s n count (named.ConnA3 timeout) came put h =
      same_row (co n, Packet (named.ConnA3 timeout)) s (on_conn_a3 s n count timeout) came put
      (conn_a3_same s n count timeout) h
  on_kept s n count (named.ConnC2 version window timeout) came put h =
      opened s n (named.ConnC2 version window timeout) came put h window timeout
      (within_last IsOfNone n came (named.ConnC2 version window timeout) window refl)
  on_kept s n count (named.AckTo to received available of) came put h =
      acked_kept s n (named.AckTo to received available of) came put h to received available of
      refl
  on_kept s n count (named.InR1A4 to version window timeout) came put h =
      in_told s n (named.InR1A4 to version window timeout) came put h to window timeout
      (within_last IsOfNone n came (named.InR1A4 to version window timeout) window refl)
  on_kept s n count (named.InR2A4 to) came put h =
      in_told_before s n (named.InR2A4 to) came put h to
  on_kept s n count (named.OutR1A2 to) came put h =
      out_asked s n (named.OutR1A2 to) came put h to
  on_kept s n count (named.OutR1A6 to version timeout) came put h =
      out_answered s n (named.OutR1A6 to version timeout) came put h to timeout
  on_kept s n count named.OutR1A10 came put h = out_finished s n named.OutR1A10 came put h
  on_kept s n count named.EndB2 came put h =
      same_row (co n, Packet named.EndB2) s (on_end_b2 s n) came put (end_b2_same s n) h
  on_kept s n count packet came put h = h

  pub packet_kept : (s : ClientRole) (n : ℕ) (count : Count) (packet : Named) (kind : LegKind)
      (came put : List OnLeg) → Kept Comes s came put
      → RowKeeps (Kept Comes) (record { kind = kind; number = n }, Packet packet) came put
      (packet_by s n count packet kind)
  packet_kept s n count packet ClientOut came put h =
      by_test (RowKeeps (Kept Comes) (co n, Packet packet) came put)
      (is_current s n || is_out_successor s n) (on_packet s n count packet) (unexpected s)
      (λ e. on_kept s n count packet came put h) (λ e. h)
  packet_kept s n count packet OutServer came put h = h
  packet_kept s n count packet ClientIn came put h = h
  packet_kept s n count packet InServer came put h = h
