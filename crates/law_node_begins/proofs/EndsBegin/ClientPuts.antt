-- what a client puts: a request goes first on each leg, and no other text
use Rattle.law_order.proofs.Vocabulary.{◌≡◌, ℕ, ◌==◌, Bool, true, false, ◌&&◌, if◌then◌else◌, List, Some, None, refl, sym, subst, ap, ◌∙◌, and_parts, IfSome, Option}
use Rattle.rh_sig.specs.declared.named.Named.TheVariants as named
use Rattle.rh_client.specs.declared.replacement.InStage.TheVariants as in_stage
use Rattle.rh_client.specs.declared.replacement.OutStage.TheVariants as out_stage
use Rattle.rh_client.specs.Channels as channels
use Rattle.rh_client.specs.Putting as putting
use Rattle.law_moves.proofs.Vocabulary.{Ack, may_put, fits, by_test, same_number, CONN_B1_LEN, IN_R1_A1_LEN, IN_R1_A5_LEN, OUT_R1_A7_LEN, END_A1_LEN, ACK_TO_LEN, PING_LEN, ClientConfig, in_request, out_request, after_told, behind, front_length, Leg, LegKind, ClientOut, OutServer, ClientIn, InServer, Which, Current, Next, first_of, Message, Text, Pdu, Packet, IsNoText}
use Rattle.law_role_client.proofs.Vocabulary.{Opening, NotUp, Request, First, Second, Put, CONN_A1_LEN, OUT_R1_A3_C1_LEN, Replacement, NoneUnderWay, In, Out, Waits, ClientRole, is_up, unopened_in, metered, is_in, is_out, ci, co, is_writing, is_in_successor, is_current, is_out_successor, ack_due, cookie_of, handed_over, Pick, or_else, conn_b1, in_r1_a1, begun_in, with_end_put, without_ping, put_in_r1_a5, put_out_r1_a7, put_by, put_conn_b1, put_in_r1_a1, put_current}
use Rattle.law_role_client.proofs.Vocabulary.{put_out_successor, put_out, due_by, put_due, ack_by, put_ack_of, put_ack, lets_pdu, put_pdu, is_end_due, put_end, put_ping, put_successor_ping, put_next, put_writing, put_in_successor, put_in, settled_pick}
use Rattle.law_node_begins.proofs.EndsBegin.Stands.{Logs, grown, NumberLogs, grown_at, GoesBehind, no_text_behind, text_behind}
use Rattle.law_node_begins.proofs.EndsBegin.Fronts.{channel, Front, IsFront, hands_over, now_put, next_put}
use Rattle.law_node_begins.proofs.EndsBegin.ClientFronts.{has_begun, opened, flags, fronts, Kept, Keeps, by_replacement, restated, after_in_keeps, settled_keeps}

-- the requests of a configuration may go first
pub record AreFirst (config : ClientConfig) (IsFirst : List ℕ → Type 0) : Type 0 where
  pub ins : IsFirst (in_request config)
  pub outs : (len : ℕ) → IsFirst (out_request config len)

module _ (config : ClientConfig) (IsFirst : List ℕ → Type 0) (came : ℕ → Type 0)
    (first : AreFirst config IsFirst) where
  abbrev Holds : Logs → ClientRole → Type 0
  Holds logs s = Keeps config IsFirst came logs s

  abbrev OutUp : ℕ → Type 0
  OutUp n = Unit {0}

  -- what is picked for a leg stands behind what is there
  abbrev pub IsPicked : Logs → Leg → Pick → Type 0
  IsPicked logs leg pick =
      IfSome pick (λ (put : ClientRole × Message). Holds (grown leg put.1 logs) put.0)

  or_picked : (logs : Logs) (leg : Leg) (p q : Pick) → IsPicked logs leg p
      → IsPicked logs leg q → IsPicked logs leg (or_else p q)
  or_picked logs leg None q a b = b
  or_picked logs leg (Some pick) q a b = a

  picked_if : (logs : Logs) (leg : Leg) (b : Bool) (f : ClientRole) (m : Message)
      → Holds (grown leg m logs) f → IsPicked logs leg (if b then Some (f, m) else None)
  picked_if logs leg true f m k = k
  picked_if logs leg false f m k = tt

  -- ---- on the legs of either direction

  -- the channel in use, which was at that opening, has one message more
  now_goes : (up : ℕ → Type 0) (f : Front) (n : ℕ) (opening o : Opening) (begun : Bool)
      (m : Message) (on : NumberLogs) → opening ≡ o
      → GoesBehind IsFirst (has_begun o) m begun
      → IsFront IsFirst up (record f { now = opened n opening }) on
      → IsFront IsFirst up (record f { now = channel n (is_up o) begun }) (grown_at n m on)
  now_goes up f n opening o begun m on e behind is =
      now_put IsFirst up (record f { now = opened n o }) begun m on behind
      (subst (λ x. IsFront IsFirst up (record f { now = opened n x }) on) e is)

  -- so has the next one
  next_goes : (up : ℕ → Type 0) (f : Front) (n : ℕ) (opening o : Opening) (begun : Bool)
      (m : Message) (on : NumberLogs) → f.replaced ≡ true → opening ≡ o
      → GoesBehind IsFirst (has_begun o) m begun
      → IsFront IsFirst up (record f { next = opened n opening }) on
      → IsFront IsFirst up (record f { next = channel n (is_up o) begun }) (grown_at n m on)
  next_goes up f n opening o begun m on replaced e behind is =
      next_put IsFirst up (record f { next = opened n o }) begun m on replaced behind
      (subst (λ x. IsFront IsFirst up (record f { next = opened n x }) on) e is)

  -- ---- OUT channels

  -- where the request may go first
  asks_out : (s : ClientRole) (len : ℕ) → s.config ≡ config
      → GoesBehind IsFirst false (Text (out_request s.config len)) true
  asks_out s len e =
      text_behind IsFirst (out_request s.config len)
      (subst (λ c. IsFirst (out_request c len)) (sym e) (first.outs len))

  with_outs : (logs : Logs) (s t : ClientRole) (n : ℕ) (m : Message) → Holds logs s
      → (fronts t).config ≡ (fronts s).config → (fronts t).ins ≡ (fronts s).ins
      → IsFront IsFirst OutUp (fronts t).outs (grown_at n m (λ j. logs (co j)))
      → Holds (grown (co n) m logs) t
  with_outs logs s t n m k e same outs = record {
    config_stays = e ∙ k.config_stays;
    ins = subst (λ f. IsFront IsFirst came f (λ j. logs (ci j))) (sym same) k.ins;
    outs = outs;
    apart = k.apart;
  }

  current_picked : (logs : Logs) (s : ClientRole) (o : Opening) → s.current.opening ≡ o
      → Holds logs s → IsPicked logs (co s.current.number) (put_current s o)
  unfolding put_current
  current_picked logs s NotUp e k = tt
  current_picked logs s Request e k =
      let text = Text (out_request s.config CONN_A1_LEN) in
      with_outs logs s (record s { current = putting.begun_out s.current First })
      s.current.number text k refl refl
      (now_goes OutUp (fronts s).outs s.current.number s.current.opening Request true text
      (λ j. logs (co j)) e (asks_out s CONN_A1_LEN k.config_stays) k.outs)
  current_picked logs s First e k =
      let m = Packet (putting.conn_a1 s) in
      with_outs logs s (record s { current = putting.begun_out s.current Put })
      s.current.number m k refl refl
      (now_goes OutUp (fronts s).outs s.current.number s.current.opening First true m
      (λ j. logs (co j)) e (no_text_behind IsFirst true m refl tt) k.outs)
  current_picked logs s Second e k = tt
  current_picked logs s Put e k = tt

  out_successor_picked : (logs : Logs) (s : ClientRole) (o : Opening)
      → is_out s.replacement ≡ true → s.out_successor.opening ≡ o → Holds logs s
      → IsPicked logs (co s.out_successor.number) (put_out_successor s o)
  unfolding put_out_successor
  out_successor_picked logs s NotUp r e k = tt
  out_successor_picked logs s Request r e k =
      let text = Text (out_request s.config OUT_R1_A3_C1_LEN) in
      with_outs logs s (record s { out_successor = putting.begun_out s.out_successor First })
      s.out_successor.number text k refl refl
      (next_goes OutUp (fronts s).outs s.out_successor.number s.out_successor.opening Request true
      text (λ j. logs (co j)) r e (asks_out s OUT_R1_A3_C1_LEN k.config_stays)
      k.outs)
  out_successor_picked logs s First r e k =
      let m = Packet (putting.out_r1_a3 s) in
      with_outs logs s (record s { out_successor = putting.begun_out s.out_successor Second })
      s.out_successor.number m k refl refl
      (next_goes OutUp (fronts s).outs s.out_successor.number s.out_successor.opening First true m
      (λ j. logs (co j)) r e (no_text_behind IsFirst true m refl tt) k.outs)
  out_successor_picked logs s Second r e k =
      let m = Packet named.OutR2C1 in
      with_outs logs s (record s { out_successor = putting.begun_out s.out_successor Put })
      s.out_successor.number m k refl refl
      (next_goes OutUp (fronts s).outs s.out_successor.number s.out_successor.opening Second true m
      (λ j. logs (co j)) r e (no_text_behind IsFirst true m refl tt) k.outs)
  out_successor_picked logs s Put r e k = tt

  out_picked : (logs : Logs) (s : ClientRole) (n : ℕ) → Holds logs s
      → IsPicked logs (co n) (put_out s n)
  unfolding put_out
  out_picked logs s n k =
      by_test (IsPicked logs (co n)) (is_current s n) (put_current s s.current.opening)
      (if is_out_successor s n then put_out_successor s s.out_successor.opening else None)
      (λ e. subst (λ j. IsPicked logs (co j) (put_current s s.current.opening))
      (sym (same_number n s.current.number e))
      (current_picked logs s s.current.opening refl k))
      (λ e. by_test (IsPicked logs (co n)) (is_out_successor s n)
      (put_out_successor s s.out_successor.opening) None
      (λ o.
      let both = and_parts (is_out s.replacement) (n == s.out_successor.number) o in
      subst (λ j. IsPicked logs (co j) (put_out_successor s s.out_successor.opening))
      (sym (same_number n s.out_successor.number both.1))
      (out_successor_picked logs s s.out_successor.opening both.0 refl k))
      (λ o. tt))

  -- ---- IN channels

  with_ins : (logs : Logs) (s t : ClientRole) (n : ℕ) (m : Message) → Holds logs s
      → (fronts t).config ≡ (fronts s).config → (fronts t).outs ≡ (fronts s).outs
      → IsFront IsFirst came (fronts t).ins (grown_at n m (λ j. logs (ci j)))
      → Holds (grown (ci n) m logs) t
  with_ins logs s t n m k e same ins = record {
    config_stays = e ∙ k.config_stays;
    ins = ins;
    outs = subst (λ f. IsFront IsFirst OutUp f (λ j. logs (co j))) (sym same) k.outs;
    apart = k.apart;
  }

  asks_in : (s : ClientRole) → s.config ≡ config
      → GoesBehind IsFirst false (Text (in_request s.config)) true
  asks_in s e =
      text_behind IsFirst (in_request s.config)
      (subst (λ c. IsFirst (in_request c)) (sym e) first.ins)

  -- the writing channel, on which all was put that a leg begins with, has one message more
  writes : (logs : Logs) (s : ClientRole) (m : Message) → s.writing.opening ≡ Put → IsNoText m
      → Holds logs s → Holds (grown (ci s.writing.number) m logs) s
  writes logs s m e is k =
      with_ins logs s s s.writing.number m k refl refl
      (now_put IsFirst came (fronts s).ins (has_begun s.writing.opening) m (λ j. logs (ci j))
      (no_text_behind IsFirst (has_begun s.writing.opening) m (ap has_begun e) is) k.ins)

  writes_if : (logs : Logs) (s : ClientRole) (b : Bool) (f : ClientRole) (m : Message)
      → s.writing.opening ≡ Put → IsNoText m → fronts f ≡ fronts s → Holds logs s
      → IsPicked logs (ci s.writing.number) (if b then Some (f, m) else None)
  writes_if logs s b f m e is q k =
      picked_if logs (ci s.writing.number) b f m
      (subst (λ x. Kept config IsFirst came (grown (ci s.writing.number) m logs) x) (sym q)
      (writes logs s m e is k))

  a5_picked : (logs : Logs) (s : ClientRole) (w : Bool)
      → s.replacement ≡ In in_stage.Answered w → s.writing.opening ≡ Put → Holds logs s
      → IsPicked logs (ci s.writing.number) (put_in_r1_a5 s w)
  a5_picked logs s w r e k =
      let m = Packet (named.InR1A5 s.in_successor.cookie) in
      let behind = grown (ci s.writing.number) m logs in
      let put = by_replacement config IsFirst came behind s (flags (In in_stage.Answered w))
      (ap flags r) (writes logs s m e tt k) in
      picked_if logs (ci s.writing.number) (fits s.writing.meter IN_R1_A5_LEN) (handed_over s w) m
      (after_in_keeps config IsFirst came behind (record s {
        leaving = s.writing;
        writing = s.in_successor;
        in_successor = unopened_in 0 s.config.lifetime;
      }) w (record {
        config_stays = put.config_stays;
        ins =
            hands_over IsFirst came (opened s.writing.number s.writing.opening)
            (opened s.in_successor.number s.in_successor.opening) (λ j. behind (ci j)) put.ins.0
            put.ins.1 (put.ins.0.came_up (ap is_up e));
        outs = put.outs;
        apart = put.apart;
      }))

  a7_picked : (logs : Logs) (s : ClientRole) (w : Waits)
      → s.replacement ≡ Out out_stage.Answered w → s.writing.opening ≡ Put → Holds logs s
      → IsPicked logs (ci s.writing.number) (put_out_r1_a7 s w)
  a7_picked logs s w r e k =
      let m = Packet (named.OutR1A7 2 s.out_successor.cookie) in
      let f : ClientRole = record s {
        writing = metered s.writing OUT_R1_A7_LEN;
        replacement = Out out_stage.Switched w;
      } in
      picked_if logs (ci s.writing.number) (fits s.writing.meter OUT_R1_A7_LEN) f m
      (restated config IsFirst came (grown (ci s.writing.number) m logs) s
      (Out out_stage.Answered w) (Out out_stage.Switched w) r refl (writes logs s m e tt k))

  due_picked : (logs : Logs) (s : ClientRole) (r : Replacement) → s.replacement ≡ r
      → s.writing.opening ≡ Put → Holds logs s
      → IsPicked logs (ci s.writing.number) (due_by s r)
  due_picked logs s NoneUnderWay r e k = tt
  due_picked logs s (In in_stage.Asked w) r e k = tt
  due_picked logs s (In in_stage.Answered w) r e k = a5_picked logs s w r e k
  due_picked logs s (Out out_stage.Asked w) r e k = tt
  due_picked logs s (Out out_stage.Answered w) r e k = a7_picked logs s w r e k
  due_picked logs s (Out out_stage.Switched w) r e k = tt
  due_picked logs s (Out out_stage.Finished w) r e k = tt

  ack_picked : (logs : Logs) (s : ClientRole) (which : Which) (ack : Option Ack)
      → s.writing.opening ≡ Put → Holds logs s
      → IsPicked logs (ci s.writing.number) (ack_by s which ack)
  ack_picked logs s which None e k = tt
  ack_picked logs s which (Some ack) e k =
      writes_if logs s (may_put s.writing.meter ACK_TO_LEN)
      (record s {
        line = after_told s.line which ack;
        writing = metered s.writing ACK_TO_LEN;
      })
      (Packet (named.AckTo 3 ack.received ack.available (cookie_of s which))) e tt refl k

  pdu_picked : (logs : Logs) (s : ClientRole) (len : Option ℕ) → s.writing.opening ≡ Put
      → Holds logs s → IsPicked logs (ci s.writing.number) (putting.pdu_by s len)
  pdu_picked logs s None e k = tt
  pdu_picked logs s (Some len) e k =
      writes_if logs s (lets_pdu s len)
      (record s { queue = behind s.queue; writing = channels.sent s.writing len })
      (Pdu (first_of s.queue)) e tt refl k

  next_picked : (logs : Logs) (s : ClientRole) → s.writing.opening ≡ Put → Holds logs s
      → IsPicked logs (ci s.writing.number) (put_next s)
  unfolding put_next put_due put_ack put_ack_of put_pdu put_end put_ping
  next_picked logs s e k =
      let leg = ci s.writing.number in
      or_picked logs leg (due_by s s.replacement) _ (due_picked logs s s.replacement refl e k)
      (or_picked logs leg (or_else (ack_by s Current (ack_due s Current))
      (ack_by s Next (ack_due s Next))) _
      (or_picked logs leg (ack_by s Current (ack_due s Current)) (ack_by s Next (ack_due s Next))
      (ack_picked logs s Current (ack_due s Current) e k)
      (ack_picked logs s Next (ack_due s Next) e k))
      (or_picked logs leg (putting.pdu_by s (front_length s.queue)) _
      (pdu_picked logs s (front_length s.queue) e k)
      (or_picked logs leg _ _
      (writes_if logs s (is_end_due s && fits s.writing.meter END_A1_LEN)
      (record s { writing = with_end_put (metered s.writing END_A1_LEN) }) (Packet named.EndA1)
      e tt refl k)
      (writes_if logs s (s.writing.is_ping_due && may_put s.writing.meter PING_LEN)
      (record s { writing = without_ping (metered s.writing PING_LEN) }) (Packet named.Ping)
      e tt refl k))))

  writing_picked : (logs : Logs) (s : ClientRole) (o : Opening) → s.writing.opening ≡ o
      → Holds logs s → IsPicked logs (ci s.writing.number) (put_writing s o)
  unfolding put_writing put_conn_b1
  writing_picked logs s NotUp e k = tt
  writing_picked logs s Request e k =
      let text = Text (in_request s.config) in
      with_ins logs s (record s { writing = begun_in s.writing First }) s.writing.number text k
      refl refl
      (now_goes came (fronts s).ins s.writing.number s.writing.opening Request true text
      (λ j. logs (ci j)) e (asks_in s k.config_stays) k.ins)
  writing_picked logs s First e k =
      let m = Packet (conn_b1 s) in
      let f : ClientRole =
      record s { writing = begun_in (metered s.writing CONN_B1_LEN) Put } in
      picked_if logs (ci s.writing.number) (may_put s.writing.meter CONN_B1_LEN) f m
      (with_ins logs s f s.writing.number m k refl refl
      (now_goes came (fronts s).ins s.writing.number s.writing.opening First true m
      (λ j. logs (ci j)) e (no_text_behind IsFirst true m refl tt) k.ins))
  writing_picked logs s Second e k = tt
  writing_picked logs s Put e k = next_picked logs s e k

  in_successor_picked : (logs : Logs) (s : ClientRole) (o : Opening)
      → is_in s.replacement ≡ true → s.in_successor.opening ≡ o → Holds logs s
      → IsPicked logs (ci s.in_successor.number) (put_in_successor s o)
  unfolding put_in_successor put_in_r1_a1 put_successor_ping
  in_successor_picked logs s NotUp r e k = tt
  in_successor_picked logs s Request r e k =
      let text = Text (in_request s.config) in
      with_ins logs s (record s { in_successor = begun_in s.in_successor First })
      s.in_successor.number text k refl refl
      (next_goes came (fronts s).ins s.in_successor.number s.in_successor.opening Request true
      text (λ j. logs (ci j)) r e (asks_in s k.config_stays) k.ins)
  in_successor_picked logs s First r e k =
      let m = Packet (in_r1_a1 s) in
      let f : ClientRole =
      record s { in_successor = begun_in (metered s.in_successor IN_R1_A1_LEN) Put } in
      picked_if logs (ci s.in_successor.number) (may_put s.in_successor.meter IN_R1_A1_LEN) f m
      (with_ins logs s f s.in_successor.number m k refl refl
      (next_goes came (fronts s).ins s.in_successor.number s.in_successor.opening First true m
      (λ j. logs (ci j)) r e (no_text_behind IsFirst true m refl tt) k.ins))
  in_successor_picked logs s Second r e k = tt
  in_successor_picked logs s Put r e k =
      let m = Packet named.Ping in
      let begun = has_begun s.in_successor.opening in
      let f : ClientRole =
      record s { in_successor = without_ping (metered s.in_successor PING_LEN) } in
      picked_if logs (ci s.in_successor.number)
      (s.in_successor.is_ping_due && may_put s.in_successor.meter PING_LEN) f m
      (with_ins logs s f s.in_successor.number m k refl refl
      (next_put IsFirst came (fronts s).ins begun m (λ j. logs (ci j)) r
      (no_text_behind IsFirst begun m (ap has_begun e) tt) k.ins))

  in_picked : (logs : Logs) (s : ClientRole) (n : ℕ) → Holds logs s
      → IsPicked logs (ci n) (put_in s n)
  unfolding put_in
  in_picked logs s n k =
      by_test (IsPicked logs (ci n)) (is_writing s n) (put_writing s s.writing.opening)
      (if is_in_successor s n then put_in_successor s s.in_successor.opening else None)
      (λ e. subst (λ j. IsPicked logs (ci j) (put_writing s s.writing.opening))
      (sym (same_number n s.writing.number e))
      (writing_picked logs s s.writing.opening refl k))
      (λ e. by_test (IsPicked logs (ci n)) (is_in_successor s n)
      (put_in_successor s s.in_successor.opening) None
      (λ o.
      let both = and_parts (is_in s.replacement) (n == s.in_successor.number) o in
      subst (λ j. IsPicked logs (ci j) (put_in_successor s s.in_successor.opening))
      (sym (same_number n s.in_successor.number both.1))
      (in_successor_picked logs s s.in_successor.opening both.0 refl k))
      (λ o. tt))

  -- ---- on any leg

  puts_by : (logs : Logs) (s : ClientRole) (n : ℕ) (kind : LegKind) → Holds logs s
      → IsPicked logs (record { kind = kind; number = n }) (put_by s n kind)
  unfolding put_by
  puts_by logs s n ClientOut k = out_picked logs s n k
  puts_by logs s n ClientIn k = in_picked logs s n k
  puts_by logs s n OutServer k = tt
  puts_by logs s n InServer k = tt

  settled_picked : (logs : Logs) (leg : Leg) (pick : Pick) → IsPicked logs leg pick
      → IsPicked logs leg (settled_pick pick)
  settled_picked logs leg None h = tt
  settled_picked logs leg (Some pick) h =
      settled_keeps config IsFirst came (grown leg pick.1 logs) pick.0 h

  pub puts : (logs : Logs) (s : ClientRole) (leg : Leg) → Holds logs s
      → IsPicked logs leg (putting.put s leg)
  puts logs s leg k =
      settled_picked logs leg (put_by s leg.number leg.kind)
      (puts_by logs s leg.number leg.kind k)
