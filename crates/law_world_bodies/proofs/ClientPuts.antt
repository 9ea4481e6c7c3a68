-- what a client puts leaves the room that its state says: each put fits in the lifetime of its
-- channel, or is one of the packets that open it
use Rattle.law_order.proofs.Vocabulary.{◌≡◌, ◌⊎◌, ℕ, ◌+◌, ◌≤◌, ◌==◌, Bool, true, false, ◌&&◌, if◌then◌else◌, List, [], ◌∷◌, length, Some, None, inl, inr, arith, refl, sym, subst, ap, and_parts, nat_tests, IfSome, Option, more}
use Rattle.rh_sig.specs.declared.named.Named.TheVariants as named
use Rattle.rh_client.specs.declared.replacement.InStage.TheVariants as in_stage
use Rattle.rh_client.specs.declared.replacement.OutStage.TheVariants as out_stage
use Rattle.rh_client.specs.Channels as channels
use Rattle.rh_client.specs.Putting as putting
use Rattle.law_moves.proofs.Vocabulary.{may_send, Ack, Meter, may_put, fits, after_put, by_test, same_number, CONN_B1_LEN, IN_R1_A1_LEN, IN_R1_A5_LEN, OUT_R1_A7_LEN, END_A1_LEN, ACK_TO_LEN, PING_LEN, ClientConfig, in_request, out_request, after_told, behind, front_length, LegKind, ClientOut, OutServer, ClientIn, InServer, Which, Current, Next, first_of, Message, Text, Pdu, Packet}
use Rattle.law_role_client.proofs.Vocabulary.{Opening, NotUp, Request, First, Second, Put, CONN_A1_LEN, OUT_R1_A3_C1_LEN, Replacement, NoneUnderWay, In, Out, Waits, ClientRole, unopened_in, metered, is_in, is_out, is_open, is_writing, is_in_successor, is_current, is_out_successor, ack_due, cookie_of, handed_over, Pick, or_else, conn_b1, in_r1_a1, begun_in, with_end_put, without_ping, put_in_r1_a5, put_out_r1_a7, put_by, put_conn_b1, put_in_r1_a1, put_current}
use Rattle.law_role_client.proofs.Vocabulary.{put_out_successor, put_out, due_by, put_due, ack_by, put_ack_of, put_ack, lets_pdu, put_pdu, is_end_due, put_end, put_ping, put_successor_ping, put_next, put_writing, put_in_successor, put_in, settled_pick}
use Rattle.law_node_begins.proofs.EndsBegin.ClientFronts.{has_begun}
use Rattle.law_world_bodies.proofs.Sizes.{size}
use Rattle.law_world_bodies.proofs.Rooms.{channel, GoesBehind, head_put, more_put, hands_over, now_put, next_put}
use Rattle.law_world_bodies.proofs.ClientRooms.{Kept, Keeps, Legs, TellsIn, TellsOut, after_in_keeps, by_replacement, flags, fronts, restated, room_in, room_next, room_now, settled_keeps}

-- ---- what the tests say

-- so many bytes are within the lifetime
abbrev Within : Meter → ℕ → Type 0
Within meter len = meter.count + len ≤ meter.length

if_fits : (meter : Meter) (len : ℕ) → fits meter len ≡ true → Within meter len
if_fits meter len e = grind (arith, nat_tests)

if_may : (meter : Meter) (len : ℕ) → may_put meter len ≡ true → Within meter len
if_may meter len e = grind (arith, nat_tests)

front_size : (queue : List (List ℕ)) (len : ℕ) → front_length queue ≡ Some len
    → length (first_of queue) ≡ len
front_size [] len e = absurd (cc)
front_size (pdu ∷ queue) len e = cc

-- ---- a message more on a leg

abbrev pub grown : LegKind → ℕ → Message → Legs → Legs
grown ClientIn n m logs = record logs { ins = more n (m ∷ []) logs.ins }
grown ClientOut n m logs = record logs { outs = more n (m ∷ []) logs.outs }
grown OutServer n m logs = logs
grown InServer n m logs = logs

module _ (config : ClientConfig) where
  abbrev Holds : Legs → ClientRole → Type 0
  Holds logs s = Keeps config logs s

  abbrev pub IsPicked : Legs → LegKind → ℕ → Pick → Type 0
  IsPicked logs kind n pick =
      IfSome pick (λ (put : ClientRole × Message). Holds (grown kind n put.1 logs) put.0)

  or_picked : (logs : Legs) (kind : LegKind) (n : ℕ) (p q : Pick) → IsPicked logs kind n p
      → IsPicked logs kind n q → IsPicked logs kind n (or_else p q)
  or_picked logs kind n None q a b = b
  or_picked logs kind n (Some pick) q a b = a

  picked_if : (logs : Legs) (kind : LegKind) (n : ℕ) (b : Bool) (f : ClientRole) (m : Message)
      → (b ≡ true → Holds (grown kind n m logs) f)
      → IsPicked logs kind n (if b then Some (f, m) else None)
  picked_if logs kind n true f m k = k refl
  picked_if logs kind n false f m k = tt

  -- ---- OUT channels

  abbrev OutBehind : Bool → ℕ → Message → Bool → ℕ → Type 0
  OutBehind before room m after left =
      GoesBehind (TellsOut config) OUT_R1_A3_C1_LEN before room m after left

  -- a request that tells this length, which is all room then
  out_request_goes : (s : ClientRole) (room len : ℕ) → s.config ≡ config
      → (len ≡ CONN_A1_LEN) ⊎ (len ≡ OUT_R1_A3_C1_LEN)
      → OutBehind false room (Text (out_request s.config len)) true len
  out_request_goes s room len e is messages h =
      head_put (TellsOut config) OUT_R1_A3_C1_LEN len len (out_request s.config len) messages
      (is, ap (λ (c : ClientConfig). out_request c len) e) (omega arith) h.0

  out_packet_goes : (room left : ℕ) (m : Message) → size m + left ≤ room
      → OutBehind true room m true left
  out_packet_goes room left m within messages h =
      more_put (TellsOut config) OUT_R1_A3_C1_LEN room left m messages within h

  -- the current channel, which was at that opening, has one message more
  now_out : (logs : Legs) (s t : ClientRole) (o : Opening) (m : Message) (left : ℕ)
      → s.current.opening ≡ o → OutBehind (has_begun o) (room_now o) m true left
      → fronts t ≡ record (fronts s) {
        outs = record ((fronts s).outs) { now = channel s.current.number true left };
      } → Holds logs s → Holds (grown ClientOut s.current.number m logs) t
  now_out logs s t o m left e behind is k =
      subst (Kept config (grown ClientOut s.current.number m logs)) (sym is) (record {
        config_stays = k.config_stays;
        ins = k.ins;
        outs = now_put (TellsOut config) OUT_R1_A3_C1_LEN (fronts s).outs true left m logs.outs
            (subst (λ (x : Opening). OutBehind (has_begun x) (room_now x) m true left) (sym e)
            behind) k.outs;
      })

  current_picked : (logs : Legs) (s : ClientRole) (o : Opening) → s.current.opening ≡ o
      → Holds logs s → IsPicked logs ClientOut s.current.number (put_current s o)
  unfolding put_current
  current_picked logs s NotUp e k = tt
  current_picked logs s Request e k =
      now_out logs s (record s { current = putting.begun_out s.current First }) Request
      (Text (out_request s.config CONN_A1_LEN)) 76 e
      (out_request_goes s 76 CONN_A1_LEN k.config_stays (inl refl)) refl k
  current_picked logs s First e k =
      now_out logs s (record s { current = putting.begun_out s.current Put }) First
      (Packet (putting.conn_a1 s)) 0 e
      (out_packet_goes 76 0 (Packet (putting.conn_a1 s)) (omega arith)) refl k
  current_picked logs s Second e k = tt
  current_picked logs s Put e k = tt

  -- so has its successor
  next_out : (logs : Legs) (s t : ClientRole) (o : Opening) (m : Message) (left : ℕ)
      → is_out s.replacement ≡ true → s.out_successor.opening ≡ o
      → OutBehind (has_begun o) (room_next o) m true left
      → fronts t ≡ record (fronts s) {
        outs = record ((fronts s).outs) { next = channel s.out_successor.number true left };
      } → Holds logs s → Holds (grown ClientOut s.out_successor.number m logs) t
  next_out logs s t o m left r e behind is k =
      subst (Kept config (grown ClientOut s.out_successor.number m logs)) (sym is) (record {
        config_stays = k.config_stays;
        ins = k.ins;
        outs = next_put (TellsOut config) OUT_R1_A3_C1_LEN (fronts s).outs true left m logs.outs r
            (subst (λ (x : Opening). OutBehind (has_begun x) (room_next x) m true left) (sym e)
            behind) k.outs;
      })

  out_successor_picked : (logs : Legs) (s : ClientRole) (o : Opening)
      → is_out s.replacement ≡ true → s.out_successor.opening ≡ o → Holds logs s
      → IsPicked logs ClientOut s.out_successor.number (put_out_successor s o)
  unfolding put_out_successor
  out_successor_picked logs s NotUp r e k = tt
  out_successor_picked logs s Request r e k =
      next_out logs s (record s { out_successor = putting.begun_out s.out_successor First }) Request
      (Text (out_request s.config OUT_R1_A3_C1_LEN)) 120 r e
      (out_request_goes s 120 OUT_R1_A3_C1_LEN k.config_stays (inr refl)) refl k
  out_successor_picked logs s First r e k =
      next_out logs s (record s { out_successor = putting.begun_out s.out_successor Second }) First
      (Packet (putting.out_r1_a3 s)) 24 r e
      (out_packet_goes 120 24 (Packet (putting.out_r1_a3 s)) (omega arith)) refl k
  out_successor_picked logs s Second r e k =
      next_out logs s (record s { out_successor = putting.begun_out s.out_successor Put }) Second
      (Packet named.OutR2C1) 0 r e
      (out_packet_goes 24 0 (Packet named.OutR2C1) (omega arith)) refl k
  out_successor_picked logs s Put r e k = tt

  out_picked : (logs : Legs) (s : ClientRole) (n : ℕ) → Holds logs s
      → IsPicked logs ClientOut n (put_out s n)
  unfolding put_out
  out_picked logs s n k =
      by_test (IsPicked logs ClientOut n) (is_current s n) (put_current s s.current.opening)
      (if is_out_successor s n then put_out_successor s s.out_successor.opening else None)
      (λ e. subst (λ j. IsPicked logs ClientOut j (put_current s s.current.opening))
      (sym (same_number n s.current.number e))
      (current_picked logs s s.current.opening refl k))
      (λ e. by_test (IsPicked logs ClientOut n) (is_out_successor s n)
      (put_out_successor s s.out_successor.opening) None
      (λ o.
      let both = and_parts (is_out s.replacement) (n == s.out_successor.number) o in
      subst (λ j. IsPicked logs ClientOut j (put_out_successor s s.out_successor.opening))
      (sym (same_number n s.out_successor.number both.1))
      (out_successor_picked logs s s.out_successor.opening both.0 refl k))
      (λ o. tt))

  -- ---- IN channels

  abbrev InBehind : Bool → ℕ → Message → Bool → ℕ → Type 0
  InBehind before room m after left =
      GoesBehind (TellsIn config) config.lifetime before room m after left

  -- a request leaves the room that the meter says, which is within the lifetime
  in_request_goes : (s : ClientRole) (room : ℕ) → s.config ≡ config
      → InBehind false room (Text (in_request s.config)) true room
  in_request_goes s room e messages h =
      head_put (TellsIn config) config.lifetime config.lifetime room (in_request s.config) messages
      (refl, ap in_request e) h.1 h.0

  -- a message that is within the lifetime counts in it
  counts : (meter : Meter) (len : ℕ) (m : Message) → size m ≡ len → Within meter len
      → InBehind true (room_in meter) m true (room_in (after_put meter len))
  counts meter len m is within messages h =
      more_put (TellsIn config) config.lifetime (room_in meter) (room_in (after_put meter len)) m
      messages (omega (arith, is, within)) h

  -- the writing channel, which was at that opening, has one message more
  now_in : (logs : Legs) (s t : ClientRole) (o : Opening) (m : Message) (left : ℕ)
      → s.writing.opening ≡ o → InBehind (has_begun o) (room_in s.writing.meter) m true left
      → fronts t ≡ record (fronts s) {
        ins = record ((fronts s).ins) { now = channel s.writing.number true left };
      } → Holds logs s → Holds (grown ClientIn s.writing.number m logs) t
  now_in logs s t o m left e behind is k =
      subst (Kept config (grown ClientIn s.writing.number m logs)) (sym is) (record {
        config_stays = k.config_stays;
        ins = now_put (TellsIn config) config.lifetime (fronts s).ins true left m logs.ins
            (subst (λ (x : Opening).
            InBehind (has_begun x) (room_in s.writing.meter) m true left) (sym e) behind) k.ins;
        outs = k.outs;
      })

  -- all was put that its leg begins with, and a message of so many bytes counts
  abbrev IsMetered : ClientRole → ℕ → ClientRole → Type 0
  IsMetered s len t =
      fronts t ≡ record (fronts s) {
        ins = record ((fronts s).ins) {
          now = channel s.writing.number true (room_in (after_put s.writing.meter len));
        };
      }

  writes : (logs : Legs) (s t : ClientRole) (m : Message) (len : ℕ) → s.writing.opening ≡ Put
      → size m ≡ len → Within s.writing.meter len → IsMetered s len t → Holds logs s
      → Holds (grown ClientIn s.writing.number m logs) t
  writes logs s t m len e is within same k =
      now_in logs s t Put m (room_in (after_put s.writing.meter len)) e
      (counts s.writing.meter len m is within) same k

  writes_if : (logs : Legs) (s : ClientRole) (b : Bool) (f : ClientRole) (m : Message) (len : ℕ)
      → s.writing.opening ≡ Put → size m ≡ len → (b ≡ true → Within s.writing.meter len)
      → IsMetered s len f → Holds logs s
      → IsPicked logs ClientIn s.writing.number (if b then Some (f, m) else None)
  writes_if logs s b f m len e is within same k =
      picked_if logs ClientIn s.writing.number b f m
      (λ t. writes logs s f m len e is (within t) same k)

  -- the state behind a put of so many bytes says that the head was put
  metered_is : (s : ClientRole) (len : ℕ) → s.writing.opening ≡ Put
      → IsMetered s len (record s { writing = metered s.writing len })
  metered_is s len e =
      ap (λ (o : Opening). record (fronts s) {
        ins = record ((fronts s).ins) {
          now = channel s.writing.number (has_begun o) (room_in (after_put s.writing.meter len));
        };
      }) e

  a5_picked : (logs : Legs) (s : ClientRole) (w : Bool) → s.replacement ≡ In in_stage.Answered w
      → s.writing.opening ≡ Put → Holds logs s
      → IsPicked logs ClientIn s.writing.number (put_in_r1_a5 s w)
  a5_picked logs s w r e k =
      let m = Packet (named.InR1A5 s.in_successor.cookie) in
      let behind = grown ClientIn s.writing.number m logs in
      let counted : ClientRole = record s { writing = metered s.writing IN_R1_A5_LEN } in
      picked_if logs ClientIn s.writing.number (fits s.writing.meter IN_R1_A5_LEN) (handed_over s w)
      m (λ t.
      let put = by_replacement config behind counted (flags (In in_stage.Answered w)) (ap flags r)
      (writes logs s counted m IN_R1_A5_LEN e refl (if_fits s.writing.meter IN_R1_A5_LEN t)
      (metered_is s IN_R1_A5_LEN e) k) in
      after_in_keeps config behind (record s {
        leaving = s.writing;
        writing = s.in_successor;
        in_successor = unopened_in 0 s.config.lifetime;
      }) w (record {
        config_stays = put.config_stays;
        ins =
            hands_over (TellsIn config) config.lifetime (fronts counted).ins.now
            (fronts counted).ins.next (room_in s.in_successor.meter) behind.ins (omega arith)
            put.ins.0 put.ins.1;
        outs = put.outs;
      }))

  a7_picked : (logs : Legs) (s : ClientRole) (w : Waits)
      → s.replacement ≡ Out out_stage.Answered w → s.writing.opening ≡ Put → Holds logs s
      → IsPicked logs ClientIn s.writing.number (put_out_r1_a7 s w)
  a7_picked logs s w r e k =
      let m = Packet (named.OutR1A7 2 s.out_successor.cookie) in
      let behind = grown ClientIn s.writing.number m logs in
      let counted : ClientRole = record s { writing = metered s.writing OUT_R1_A7_LEN } in
      picked_if logs ClientIn s.writing.number (fits s.writing.meter OUT_R1_A7_LEN)
      (record counted { replacement = Out out_stage.Switched w }) m (λ t.
      restated config behind counted (Out out_stage.Answered w) (Out out_stage.Switched w) r refl
      (writes logs s counted m OUT_R1_A7_LEN e refl (if_fits s.writing.meter OUT_R1_A7_LEN t)
      (metered_is s OUT_R1_A7_LEN e) k))

  due_picked : (logs : Legs) (s : ClientRole) (r : Replacement) → s.replacement ≡ r
      → s.writing.opening ≡ Put → Holds logs s
      → IsPicked logs ClientIn s.writing.number (due_by s r)
  due_picked logs s NoneUnderWay r e k = tt
  due_picked logs s (In in_stage.Asked w) r e k = tt
  due_picked logs s (In in_stage.Answered w) r e k = a5_picked logs s w r e k
  due_picked logs s (Out out_stage.Asked w) r e k = tt
  due_picked logs s (Out out_stage.Answered w) r e k = a7_picked logs s w r e k
  due_picked logs s (Out out_stage.Switched w) r e k = tt
  due_picked logs s (Out out_stage.Finished w) r e k = tt

  ack_picked : (logs : Legs) (s : ClientRole) (which : Which) (ack : Option Ack)
      → s.writing.opening ≡ Put → Holds logs s
      → IsPicked logs ClientIn s.writing.number (ack_by s which ack)
  ack_picked logs s which None e k = tt
  ack_picked logs s which (Some ack) e k =
      writes_if logs s (may_put s.writing.meter ACK_TO_LEN)
      (record s {
        line = after_told s.line which ack;
        writing = metered s.writing ACK_TO_LEN;
      })
      (Packet (named.AckTo 3 ack.received ack.available (cookie_of s which))) ACK_TO_LEN e refl
      (if_may s.writing.meter ACK_TO_LEN) (metered_is s ACK_TO_LEN e) k

  pdu_picked : (logs : Legs) (s : ClientRole) (len : Option ℕ) → front_length s.queue ≡ len
      → s.writing.opening ≡ Put → Holds logs s
      → IsPicked logs ClientIn s.writing.number (putting.pdu_by s len)
  pdu_picked logs s None q e k = tt
  pdu_picked logs s (Some len) q e k =
      writes_if logs s (lets_pdu s len)
      (record s { queue = behind s.queue; writing = channels.sent s.writing len })
      (Pdu (first_of s.queue)) len e (front_size s.queue len q)
      (λ t. if_may s.writing.meter len
      (and_parts (may_send s.writing.window len) (may_put s.writing.meter len)
      (and_parts (is_open s.phase) (may_send s.writing.window len && may_put s.writing.meter len)
      t).1).1)
      (metered_is s len e) k

  next_picked : (logs : Legs) (s : ClientRole) → s.writing.opening ≡ Put → Holds logs s
      → IsPicked logs ClientIn s.writing.number (put_next s)
  unfolding put_next put_due put_ack put_ack_of put_pdu put_end put_ping
  next_picked logs s e k =
      let n = s.writing.number in
      let meter = s.writing.meter in
      or_picked logs ClientIn n (due_by s s.replacement) _
      (due_picked logs s s.replacement refl e k)
      (or_picked logs ClientIn n (or_else (ack_by s Current (ack_due s Current))
      (ack_by s Next (ack_due s Next))) _
      (or_picked logs ClientIn n (ack_by s Current (ack_due s Current))
      (ack_by s Next (ack_due s Next))
      (ack_picked logs s Current (ack_due s Current) e k)
      (ack_picked logs s Next (ack_due s Next) e k))
      (or_picked logs ClientIn n (putting.pdu_by s (front_length s.queue)) _
      (pdu_picked logs s (front_length s.queue) refl e k)
      (or_picked logs ClientIn n _ _
      (writes_if logs s (is_end_due s && fits meter END_A1_LEN)
      (record s { writing = with_end_put (metered s.writing END_A1_LEN) }) (Packet named.EndA1)
      END_A1_LEN e refl
      (λ t. if_fits meter END_A1_LEN (and_parts (is_end_due s) (fits meter END_A1_LEN) t).1)
      (metered_is s END_A1_LEN e) k)
      (writes_if logs s (s.writing.is_ping_due && may_put meter PING_LEN)
      (record s { writing = without_ping (metered s.writing PING_LEN) }) (Packet named.Ping)
      PING_LEN e refl
      (λ t. if_may meter PING_LEN
      (and_parts s.writing.is_ping_due (may_put meter PING_LEN) t).1)
      (metered_is s PING_LEN e) k))))

  writing_picked : (logs : Legs) (s : ClientRole) (o : Opening) → s.writing.opening ≡ o
      → Holds logs s → IsPicked logs ClientIn s.writing.number (put_writing s o)
  unfolding put_writing put_conn_b1
  writing_picked logs s NotUp e k = tt
  writing_picked logs s Request e k =
      now_in logs s (record s { writing = begun_in s.writing First }) Request
      (Text (in_request s.config)) (room_in s.writing.meter) e
      (in_request_goes s (room_in s.writing.meter) k.config_stays) refl k
  writing_picked logs s First e k =
      picked_if logs ClientIn s.writing.number (may_put s.writing.meter CONN_B1_LEN)
      (record s { writing = begun_in (metered s.writing CONN_B1_LEN) Put }) (Packet (conn_b1 s))
      (λ t. now_in logs s (record s { writing = begun_in (metered s.writing CONN_B1_LEN) Put })
      First (Packet (conn_b1 s)) (room_in (after_put s.writing.meter CONN_B1_LEN)) e
      (counts s.writing.meter CONN_B1_LEN (Packet (conn_b1 s)) refl
      (if_may s.writing.meter CONN_B1_LEN t)) refl k)
  writing_picked logs s Second e k = tt
  writing_picked logs s Put e k = next_picked logs s e k

  -- the successor, which was at that opening, has one message more
  next_in : (logs : Legs) (s t : ClientRole) (o : Opening) (m : Message) (left : ℕ)
      → is_in s.replacement ≡ true → s.in_successor.opening ≡ o
      → InBehind (has_begun o) (room_in s.in_successor.meter) m true left
      → fronts t ≡ record (fronts s) {
        ins = record ((fronts s).ins) { next = channel s.in_successor.number true left };
      } → Holds logs s → Holds (grown ClientIn s.in_successor.number m logs) t
  next_in logs s t o m left r e behind is k =
      subst (Kept config (grown ClientIn s.in_successor.number m logs)) (sym is) (record {
        config_stays = k.config_stays;
        ins = next_put (TellsIn config) config.lifetime (fronts s).ins true left m logs.ins r
            (subst (λ (x : Opening).
            InBehind (has_begun x) (room_in s.in_successor.meter) m true left) (sym e) behind)
            k.ins;
        outs = k.outs;
      })

  in_successor_picked : (logs : Legs) (s : ClientRole) (o : Opening)
      → is_in s.replacement ≡ true → s.in_successor.opening ≡ o → Holds logs s
      → IsPicked logs ClientIn s.in_successor.number (put_in_successor s o)
  unfolding put_in_successor put_in_r1_a1 put_successor_ping
  in_successor_picked logs s NotUp r e k = tt
  in_successor_picked logs s Request r e k =
      next_in logs s (record s { in_successor = begun_in s.in_successor First }) Request
      (Text (in_request s.config)) (room_in s.in_successor.meter) r e
      (in_request_goes s (room_in s.in_successor.meter) k.config_stays) refl k
  in_successor_picked logs s First r e k =
      let f : ClientRole =
      record s { in_successor = begun_in (metered s.in_successor IN_R1_A1_LEN) Put } in
      picked_if logs ClientIn s.in_successor.number (may_put s.in_successor.meter IN_R1_A1_LEN) f
      (Packet (in_r1_a1 s))
      (λ t. next_in logs s f First (Packet (in_r1_a1 s))
      (room_in (after_put s.in_successor.meter IN_R1_A1_LEN)) r e
      (counts s.in_successor.meter IN_R1_A1_LEN (Packet (in_r1_a1 s)) refl
      (if_may s.in_successor.meter IN_R1_A1_LEN t)) refl k)
  in_successor_picked logs s Second r e k = tt
  in_successor_picked logs s Put r e k =
      let meter = s.in_successor.meter in
      let f : ClientRole =
      record s { in_successor = without_ping (metered s.in_successor PING_LEN) } in
      picked_if logs ClientIn s.in_successor.number
      (s.in_successor.is_ping_due && may_put meter PING_LEN) f (Packet named.Ping)
      (λ t. next_in logs s f Put (Packet named.Ping) (room_in (after_put meter PING_LEN)) r e
      (counts meter PING_LEN (Packet named.Ping) refl
      (if_may meter PING_LEN
      (and_parts s.in_successor.is_ping_due (may_put meter PING_LEN) t).1))
      (ap (λ (o : Opening). record (fronts s) {
        ins = record ((fronts s).ins) {
          next = channel s.in_successor.number (has_begun o) (room_in (after_put meter PING_LEN));
        };
      }) e) k)

  in_picked : (logs : Legs) (s : ClientRole) (n : ℕ) → Holds logs s
      → IsPicked logs ClientIn n (put_in s n)
  unfolding put_in
  in_picked logs s n k =
      by_test (IsPicked logs ClientIn n) (is_writing s n) (put_writing s s.writing.opening)
      (if is_in_successor s n then put_in_successor s s.in_successor.opening else None)
      (λ e. subst (λ j. IsPicked logs ClientIn j (put_writing s s.writing.opening))
      (sym (same_number n s.writing.number e))
      (writing_picked logs s s.writing.opening refl k))
      (λ e. by_test (IsPicked logs ClientIn n) (is_in_successor s n)
      (put_in_successor s s.in_successor.opening) None
      (λ o.
      let both = and_parts (is_in s.replacement) (n == s.in_successor.number) o in
      subst (λ j. IsPicked logs ClientIn j (put_in_successor s s.in_successor.opening))
      (sym (same_number n s.in_successor.number both.1))
      (in_successor_picked logs s s.in_successor.opening both.0 refl k))
      (λ o. tt))

  -- ---- on any leg

  settled : (logs : Legs) (kind : LegKind) (n : ℕ) (pick : Pick) → IsPicked logs kind n pick
      → IsPicked logs kind n (settled_pick pick)
  settled logs kind n None h = tt
  settled logs kind n (Some pick) h = settled_keeps config (grown kind n pick.1 logs) pick.0 h

  pub puts_by : (logs : Legs) (s : ClientRole) (n : ℕ) (kind : LegKind) → Holds logs s
      → IsPicked logs kind n (settled_pick (put_by s n kind))
  unfolding put_by
  puts_by logs s n ClientOut k = settled logs ClientOut n (put_out s n) (out_picked logs s n k)
  puts_by logs s n ClientIn k = settled logs ClientIn n (put_in s n) (in_picked logs s n k)
  puts_by logs s n OutServer k = tt
  puts_by logs s n InServer k = tt
