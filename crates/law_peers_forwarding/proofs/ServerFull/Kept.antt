-- what a server forwards to the client came, of each channel, and it forwards none twice
use Rattle.law_order.proofs.Vocabulary.{◌≡◌, ℕ, suc, ◌+◌, ◌≤◌, ◌==◌, ◌&&◌, Bool, true, false, nat_lt, if◌then◌else◌, List, [], ◌∷◌, ◌++◌, Some, None, Ok, Err, refl, sym, ap, ◌∙◌, subst, arith, IfSome, find, slice_get, list_any, Option}
use Rattle.rh_sig.specs.declared.named.Named.TheVariants as named
use Rattle.rh_shell.specs.declared.answers.Refused.TheVariants as refused
use Rattle.rh_shell.specs.Waiting as waits
use Rattle.rh_server.specs.OutLines as lines
use Rattle.law_moves.proofs.Vocabulary.{by_test, same_number, Cookie, Named, front_length, LegKind, ClientOut, OutServer, ClientIn, InServer, Count, Due, Forwarded, Message, Packet, Pdu, Waiting, better, merged, own, pushed, takes, to_forward, with_due, without_first, count_of, of_kind, OnLeg, EndMove, EndPassage, Passage, all_end_moved, end_started}
use Rattle.law_moves.proofs.Lemmas.{ActsKeep, PutKeeps, RowKeeps, StepsKeep, end_moves_keep, count_append, kind_more}
use Rattle.law_role_server.proofs.Vocabulary.{Kind, OutLeg, kind_of, lets, Server, is_due, is_open, out_place, Done, refuse, unexpected, is_first, up, channel_leg, forward_by, forwards, forwards_to, forwards_writing, on_ack_to, out_server, take, recycle, drawn_by, give, mark_by, Pick, or_else, counts, gate, gate_at, is_end_due, may_end_at, may_go_at, next_out, out_greeting_at, pdu_by, put_by as put_by_kind, put_end, put_in, put_open, put_out_at, put_out_greeting, put_pdu}
use Rattle.law_role_server.proofs.Vocabulary.{put_pdu_or_end, put_waiting, settled_pick, waiting_at, waiting_by, was_put, acts, first, on_is, on_os, packet_by, pdu, rules as server_rules, leg_at, often, waiting_of, waits_for}
use Rattle.law_role_server.proofs.Counted.Dues.{Went, alone_none, first_goes, one_waits, push_waits}
use Rattle.law_node_streams.proofs.Streams.EndMoves.{all_end_moved_append}
use Rattle.law_role_server_in.specs.Handovers.{passed}
use Rattle.law_peers_room.proofs.InRoom.Turns.{one_is as same_keys}
use Rattle.law_peers_room.specs.ServerRoom.Overtaking.{is_ack_for}
use Rattle.law_peers_forwarding.proofs.ServerFull.Adding.{Keeps, counts_same, drawn_serves, fewer, give_same, in_same, is_row, mark_serves, os_row, pdu_same, recycle_serves, same_serves, settled_serves, take_serves, up_same}
use Rattle.law_peers_forwarding.specs.ServerFull.Keeping.{ForwardsWhatCame}

-- ---- what waits

no_kind : (channel : Cookie) (packet : Named) (kind : Kind) → kind_of packet ≡ Some kind
    → is_ack_for channel packet ≡ false
no_kind channel (named.AckTo to received window of) kind e = absurd cc
no_kind channel packet kind e = refl

-- merged with one for the same channel, in its place
merged_same : (channel : Cookie) (dues : List Due) (packet : Named)
    → waiting_of (is_ack_for channel) (merged dues packet)
    ≡ waiting_of (is_ack_for channel) dues
merged_same channel [] packet = refl
merged_same channel (due ∷ dues) packet =
    by (takes packet due) refl (merged_same channel dues packet)
  where
    count : List Due → ℕ
    count all = waiting_of (is_ack_for channel) all

    better_same : takes packet due ≡ true
        → is_ack_for channel (better due packet).packet ≡ is_ack_for channel due.packet
    better_same e =
        by_test (λ (d : Due). is_ack_for channel d.packet ≡ is_ack_for channel due.packet)
        (nat_lt (waits.edge_of packet) (waits.edge_of due.packet)) due
        (record { packet = packet; origin = due.origin }) (λ t. refl)
        (λ t. ap (λ (key : Option waits.Key).
        waits.are_one key (Some (record { destination = 0; channel = channel })))
        (sym (same_keys (waits.key_of due.packet) (waits.key_of packet) e)))

    by : (b : Bool) → takes packet due ≡ b
        → waiting_of (is_ack_for channel) (merged dues packet)
        ≡ waiting_of (is_ack_for channel) dues
        → waiting_of (is_ack_for channel)
        (if b then better due packet ∷ dues else due ∷ merged dues packet)
        ≡ waiting_of (is_ack_for channel) (due ∷ dues)
    by true e rest =
        ap (λ (c : Bool). if c then suc (waiting_of (is_ack_for channel) dues)
        else waiting_of (is_ack_for channel) dues) (better_same e)
    by false e rest =
        ap (λ (n : ℕ). if is_ack_for channel due.packet then suc n else n) rest

module _ (channel : Cookie) (most : ℕ) where
  abbrev Right : Waiting → Type 0
  Right w = waiting_of (is_ack_for channel) w.due ≤ most

  abbrev Serves : Server → Type 0
  Serves s = Right s.waiting

  abbrev RowServes : Done → Type 0
  RowServes x = Serves x.0

  right_keeps : Keeps Right
  right_keeps = record {
    joins = λ w kind packet is none h.
        let more = push_waits (is_ack_for channel) w.due (own packet) in
        let zero = alone_none (is_ack_for channel) packet (no_kind channel packet kind is) in
        omega (arith, h, more, zero);
    goes = λ w may_go h.
        let less = fewer (is_ack_for channel) may_go w.due in omega (arith, less, h);
  }

  -- ---- acknowledgements

  -- one more waits only where the packet was taken
  abbrev RowCounts : Named → Done → Type 0
  RowCounts m (t, Ok taken) =
      waits_for (is_ack_for channel) t ≤ most + one_waits (is_ack_for channel) m
  RowCounts m (t, Err why) = Serves t

  row_counts : (m : Named) (x : Done) → RowServes x → RowCounts m x
  row_counts m (t, Ok taken) h = omega (arith, h)
  row_counts m (t, Err why) h = h

  forward_counts : (s : Server) (n : ℕ) (packet : Named) → Serves s
      → RowCounts packet (forwards s n packet)
  forward_counts s n packet h =
      by_test Answers (list_any (takes packet) s.waiting.due)
      (with_due s.waiting (merged s.waiting.due packet), true)
      (if nat_lt (waits.count Forwarded s.waiting.due) s.waiting.room
      then (pushed s.waiting (to_forward packet), true) else (s.waiting, false))
      (λ e. let same = merged_same channel s.waiting.due packet in omega (arith, h, same))
      (λ e. by_test Answers (nat_lt (waits.count Forwarded s.waiting.due) s.waiting.room)
      (pushed s.waiting (to_forward packet), true) (s.waiting, false)
      (λ f. let more = push_waits (is_ack_for channel) s.waiting.due (to_forward packet) in
      omega (arith, h, more))
      (λ f. h))
    where
      Answers : Waiting × Bool → Type 0
      Answers x = RowCounts packet (forward_by s n x)

  writing_counts : (s : Server) (packet : Named) → Serves s
      → RowCounts packet (forwards_writing s packet)
  writing_counts s packet h =
      by_test (RowCounts packet) _ (refuse s (refused.Full (out_server s.writing)))
      (forwards s s.writing packet) (λ e. h) (λ e. forward_counts s s.writing packet h)

  ack_to_counts : (s : Server) (count : Count) (to received window : ℕ) (cookie : Cookie)
      → Serves s
      → RowCounts (named.AckTo to received window cookie)
      (on_ack_to s count to received window cookie)
  ack_to_counts s count to received window cookie h =
      by_test Counts (is_first count) (unexpected s) _ (λ e. h)
      (λ e. by_test Counts (to == 0)
      (forwards_writing s (named.AckTo 0 received window cookie)) _
      (λ f. told 0 (forwards_writing s (named.AckTo 0 received window cookie))
      (same_number to 0 f)
      (writing_counts s (named.AckTo 0 received window cookie) h))
      (λ f. by_test Counts (to == 3)
      (forwards_to s (named.AckTo 3 received window cookie) (channel_leg cookie s.outs))
      (unexpected s)
      (λ g. told 3 (forwards_to s (named.AckTo 3 received window cookie)
      (channel_leg cookie s.outs))
      (same_number to 3 g) (by (channel_leg cookie s.outs))) (λ g. h)))
    where
      Counts : Done → Type 0
      Counts x = RowCounts (named.AckTo to received window cookie) x

      told : (n : ℕ) (x : Done) → to ≡ n → RowCounts (named.AckTo n received window cookie) x
          → RowCounts (named.AckTo to received window cookie) x
      told n x same k =
          subst (λ (m : ℕ). RowCounts (named.AckTo m received window cookie) x) (sym same) k

      by : (o : Option ℕ)
          → RowCounts (named.AckTo 3 received window cookie)
          (forwards_to s (named.AckTo 3 received window cookie) o)
      by None = omega (arith, h)
      by (Some n) =
          by_test (RowCounts (named.AckTo 3 received window cookie)) (n == s.writing)
          (forwards_writing s (named.AckTo 3 received window cookie))
          (forwards s n (named.AckTo 3 received window cookie))
          (λ e. writing_counts s (named.AckTo 3 received window cookie) h)
          (λ e. forward_counts s n (named.AckTo 3 received window cookie) h)

  is_counts : (s : Server) (n : ℕ) (count : Count) (m : Named) → Serves s
      → RowCounts m (on_is s n count m)
  is_counts s n count (named.AckTo to received window cookie) h =
      ack_to_counts s count to received window cookie h
  is_counts s n count m h =
      row_counts m (on_is s n count m) (is_row Right right_keeps s n count m refl h)

-- ---- what is put

module _ (channel : Cookie) where
  abbrev waiting : Server → ℕ
  waiting s = waits_for (is_ack_for channel) s

  abbrev one_put : Message → ℕ
  one_put m = count_of (is_ack_for channel) (m ∷ [])

  -- it waits no more
  abbrev Goes : Server → Pick → Type 0
  Goes s pick =
      IfSome pick (λ (one : Server × Message). waiting one.0 + one_put one.1 ≤ waiting s)

  or_goes : (s : Server) (a b : Pick) → Goes s a → Goes s b → Goes s (or_else a b)
  or_goes s None b one other = other
  or_goes s (Some pick) b one other = one

  put_same : (s : Server) (place : ℕ) (packet : Named)
      → (was_put s place packet).waiting ≡ s.waiting
  put_same s place (named.AckTo to received window cookie) =
      by_test (λ (t : Server). t.waiting ≡ s.waiting) (to == 3) s (counts s place 56) (λ e. refl)
      (λ e. counts_same s place 56)
  put_same s place named.OutR1A9 = counts_same s place 24
  put_same s place packet = counts_same s place (lines.length_of packet)

  as_many : (s t : Server) → t.waiting ≡ s.waiting → waiting t ≡ waiting s
  as_many s t e = ap (λ (w : Waiting). waiting_of (is_ack_for channel) w.due) e

  module _ (s : Server) where
    waiting_goes : (place : ℕ) (o : Option OutLeg) → Goes s (waiting_at s place (gate_at s o))
    waiting_goes place None = tt
    waiting_goes place (Some leg) =
        by (find (lets (gate s leg)) s.waiting.due)
        (first_goes (is_ack_for channel) (lets (gate s leg)) s.waiting.due)
      where
        left : Waiting
        left = with_due s.waiting (without_first (lets (gate s leg)) s.waiting.due)

        by : (o : Option Due)
            → Went (is_ack_for channel) s.waiting.due
            (without_first (lets (gate s leg)) s.waiting.due) o
            → Goes s (waiting_by s place (
              with_due s.waiting
                  (without_first (lets (gate s leg)) s.waiting.due),
              o,
            ))
        by None less = tt
        by (Some due) less =
            let same = as_many (record s {
              waiting = with_due s.waiting
                  (without_first (lets (gate s leg)) s.waiting.due);
            })
            (was_put (record s {
              waiting = with_due s.waiting
                  (without_first (lets (gate s leg)) s.waiting.due);
            }) place due.packet)
            (put_same (record s {
              waiting = with_due s.waiting
                  (without_first (lets (gate s leg)) s.waiting.due);
            }) place due.packet) in
            omega (arith, same, less)

    out_goes : (place : Option ℕ) → Goes s (put_out_at s place)
    out_goes None = tt
    out_goes (Some place) =
        or_goes s (put_out_greeting s place) (put_open s place) (greets (slice_get s.outs place))
        (by_test (Goes s) (is_open s.stage) (settled_pick (next_out s place)) None
        (λ e. settles (next_out s place)
        (or_goes s (put_waiting s place) (put_pdu_or_end s place)
        (waiting_goes place (slice_get s.outs place))
        (or_goes s (put_pdu s place) (put_end s place) (sends (front_length s.queue)) ends)))
        (λ e. tt))
      where
        settles : (pick : Pick) → Goes s pick → Goes s (settled_pick pick)
        settles None k = tt
        settles (Some one) k =
            let most = settled_serves (Right channel (waiting one.0))
            (right_keeps channel (waiting one.0)) one.0 (omega arith) in
            omega (arith, k, most)

        greets : (o : Option OutLeg) → Goes s (out_greeting_at s place o)
        greets None = tt
        greets (Some leg) =
            by_test (Goes s) (is_due leg.greeting) _ None (λ e. omega arith) (λ e. tt)

        sends : (len : Option ℕ) → Goes s (pdu_by s place len)
        sends None = tt
        sends (Some len) =
            by_test (Goes s) (may_go_at s len (slice_get s.outs place)) _ None (λ e. omega arith)
            (λ e. tt)

        ends : Goes s (put_end s place)
        ends =
            by_test (Goes s) (is_end_due s && may_end_at s (slice_get s.outs place)) _ None
            (λ e. let same = as_many s (counts s place 24) (counts_same s place 24) in
            omega (arith, same)) (λ e. tt)

-- ---- the role

-- a message more on a leg of a kind, and on one of another
more_there : (test : Named → Bool) (kind : LegKind) (log : List OnLeg) (one : OnLeg)
    → often test kind (log ++ one ∷ [])
    ≡ often test kind log + count_of test (of_kind kind (one ∷ []))
more_there test kind log one =
    ap (count_of test) (kind_more kind log one)
    ∙ count_append test (of_kind kind log) (of_kind kind (one ∷ []))

module _ (channel : Cookie) (before since : ℕ) where
  abbrev acked : List OnLeg → ℕ
  acked put = often (is_ack_for channel) OutServer put

  abbrev acks : List OnLeg → ℕ
  acks came = often (is_ack_for channel) InServer came

  abbrev Rightly : Server → Waiting → Type 0
  Rightly s = Right channel (waits_for (is_ack_for channel) s)

  rightly_keep : (s : Server) → Keeps (Rightly s)
  rightly_keep s = right_keeps channel (waits_for (is_ack_for channel) s)

  -- what waits or was put since came since, or waited before
  abbrev Holds : Server → List OnLeg → List OnLeg → Type 0
  Holds s came put = waits_for (is_ack_for channel) s + acked put + before ≤ acks came + since

  same_holds : (s t : Server) (came put : List OnLeg)
      → (Serves channel (waits_for (is_ack_for channel) s) s
      → Serves channel (waits_for (is_ack_for channel) s) t)
      → Holds s came put → Holds t came put
  same_holds s t came put so h = let most = so (omega arith) in omega (arith, h, most)

  row_keeps : (s : Server) (one : OnLeg) (came put : List OnLeg) (x : Done)
      → (Serves channel (waits_for (is_ack_for channel) s) s
      → Serves channel (waits_for (is_ack_for channel) s) x.0)
      → Holds s came put → RowKeeps Holds one came put x
  row_keeps s one came put (t, Ok taken) so h =
      let most = so (omega arith) in
      let more = more_there (is_ack_for channel) InServer came one in omega (arith, h, most, more)
  row_keeps s one came put (t, Err why) so h = same_holds s t came put so h

  is_keeps : (s : Server) (n : ℕ) (m : Named) (came put : List OnLeg) (x : Done)
      → (Serves channel (waits_for (is_ack_for channel) s) s
      → RowCounts channel (waits_for (is_ack_for channel) s) m x)
      → Holds s came put → RowKeeps Holds (leg_at InServer n, Packet m) came put x
  is_keeps s n m came put (t, Ok taken) so h =
      let most = so (omega arith) in
      let more = more_there (is_ack_for channel) InServer came (leg_at InServer n, Packet m) in
      let one : count_of (is_ack_for channel) (Packet m ∷ []) ≡ one_waits (is_ack_for channel) m =
      refl in
      omega (arith, h, most, more, one)
  is_keeps s n m came put (t, Err why) so h =
      let most = so (omega arith) in omega (arith, h, most)

  packet_keeps : (s : Server) (n : ℕ) (count : Count) (m : Named) (k : LegKind)
      (came put : List OnLeg) → Holds s came put
      → RowKeeps Holds (leg_at k n, Packet m) came put (packet_by s n count m k)
  packet_keeps s n count m InServer came put h =
      is_keeps s n m came put (on_is s n count m)
      (is_counts channel (waits_for (is_ack_for channel) s) s n count m) h
  packet_keeps s n count m OutServer came put h =
      row_keeps s (leg_at OutServer n, Packet m) came put (on_os s n count m)
      (os_row (Rightly s) (rightly_keep s) s n count m) h
  packet_keeps s n count m ClientIn came put h = h
  packet_keeps s n count m ClientOut came put h = h

  put_in_keeps : (s : Server) (n : ℕ) (came put : List OnLeg) (pick : Pick)
      → IfSome pick (λ (one : Server × Message). one.0.waiting ≡ s.waiting)
      → Holds s came put → PutKeeps Holds (leg_at InServer n) came put pick
  put_in_keeps s n came put None same h = tt
  put_in_keeps s n came put (Some one) same h =
      let more = more_there (is_ack_for channel) OutServer put (leg_at InServer n, one.1) in
      let as_before = as_many channel s one.0 same in omega (arith, h, more, as_before)

  put_out_keeps : (s : Server) (n : ℕ) (came put : List OnLeg) (pick : Pick)
      → Goes channel s pick → Holds s came put
      → PutKeeps Holds (leg_at OutServer n) came put pick
  put_out_keeps s n came put None goes h = tt
  put_out_keeps s n came put (Some one) goes h =
      let more = more_there (is_ack_for channel) OutServer put (leg_at OutServer n, one.1) in
      omega (arith, h, more, goes)

  put_keeps : (s : Server) (n : ℕ) (k : LegKind) (came put : List OnLeg) → Holds s came put
      → PutKeeps Holds (leg_at k n) came put (put_by_kind s n k)
  put_keeps s n InServer came put h =
      put_in_keeps s n came put (put_in s n) (in_same s n) h
  put_keeps s n OutServer came put h =
      put_out_keeps s n came put (put_out_at s (out_place n s.outs))
      (out_goes channel s (out_place n s.outs)) h
  put_keeps s n ClientIn came put h = tt
  put_keeps s n ClientOut came put h = tt

  steps : StepsKeep server_rules Holds
  steps = record {
    up = λ s leg cookie came put h.
        same_holds s (up s leg cookie) came put
        (same_serves (Rightly s) (rightly_keep s) s (up s leg cookie)
        (up_same s leg cookie)) h;
    head = λ s leg text came put h. h;
    pdu = λ s leg count bytes came put h.
        row_keeps s (leg, Pdu bytes) came put (pdu s leg count bytes)
        (same_serves (Rightly s) (rightly_keep s) s (pdu s leg count bytes).0
        (pdu_same s leg count bytes)) h;
    packet = λ s leg count m came put h.
        packet_keeps s leg.number count m leg.kind came put h;
    put = λ s leg came put h. put_keeps s leg.number leg.kind came put h;
    drawn = λ s leg came put h.
        same_holds s (drawn_by s leg.number leg.kind) came put
        (drawn_serves (Rightly s) (rightly_keep s) s leg.number leg.kind) h;
    mark = λ s leg came put h.
        same_holds s (mark_by s leg.number leg.kind) came put
        (mark_serves (Rightly s) (rightly_keep s) s leg.number leg.kind) h;
    ping = λ s leg came put h. h;
  }

  calls : ActsKeep acts Holds
  calls = record {
    give = λ s bytes came put h.
        same_holds s (give s bytes).0 came put
        (same_serves (Rightly s) (rightly_keep s) s (give s bytes).0
        (give_same s bytes)) h;
    take = λ s came put h.
        same_holds s (take s) came put
        (take_serves (Rightly s) (rightly_keep s) s) h;
    close = λ s came put h. h;
    recycle = λ s came put h.
        same_holds s (recycle s).0 came put
        (recycle_serves (Rightly s) (rightly_keep s) s) h;
  }

  pub kept_by : (p : EndPassage Server) (moves : List EndMove)
      → Holds p.passage.role p.passage.came p.passage.put
      → let q = (all_end_moved server_rules acts p moves).passage in Holds q.role q.came q.put
  kept_by p moves h = end_moves_keep server_rules Holds steps acts calls p moves h

pub what_came : (window : ℕ) (front later : List EndMove) → ForwardsWhatCame window front later
what_came window front later channel =
    subst (λ (q : Passage Server). Holds channel
    (often (is_ack_for channel) InServer (passed window front).came)
    (waits_for (is_ack_for channel) (passed window front).role
    + often (is_ack_for channel) OutServer (passed window front).put) q.role q.came q.put)
    (sym (ap (λ (e : EndPassage Server). e.passage)
    (all_end_moved_append server_rules acts (end_started (first window)) front later)))
    (kept_by channel (often (is_ack_for channel) InServer (passed window front).came)
    (waits_for (is_ack_for channel) (passed window front).role
    + often (is_ack_for channel) OutServer (passed window front).put)
    (all_end_moved server_rules acts (end_started (first window)) front) later (omega arith))
