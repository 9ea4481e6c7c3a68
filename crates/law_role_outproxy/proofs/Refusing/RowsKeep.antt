-- the rows of an out proxy keep what its state tells of what came
use Rattle.law_order.proofs.Vocabulary.{◌≡◌, ℕ, ◌==◌, ◌&&◌, Bool, true, false, List, [], ◌∷◌, ◌++◌, Ok, Err, is_some, refl, sym, ap, subst, arith, and_parts}
use Rattle.rh_sig.specs.declared.named.Named.TheVariants as named
use Rattle.rh_shell.specs.Waiting as waits
use Rattle.rh_outproxy.specs.declared.state.Channel.TheVariants as channels
use Rattle.law_moves.proofs.Vocabulary.{by_test, Cookie, TO_OUT_PROXY, Named, Leg, Count, FORWARDED_ROOM, Message, Pdu, Packet, Waiting, empty, OnLeg, of_leg, count_of, HasBegunOut, BeginsOut, packets, is_any, Tells, is_conn_a1, is_conn_c1, is_out_r1_a3, is_out_r1_a9, is_end_b1}
use Rattle.law_moves.proofs.Lemmas.{last_one_so, here_more, other_more, leg_here, leg_rises}
use Rattle.law_role_outproxy.proofs.Vocabulary.{Channel, OutProxy, joined, is_successor, is_client_marked, Done, is_first, is_second, is_joined, is_carrying, takes_pdus, taken, unexpected, forwarded, forwarded_by, passed_on, told_length, new_length, successor_length, opened, conn_c1_by, on_ack, on_ack_to, on_pdu, on_end_b1, on_out_r1_a9, on_co, on_os, co_leg, os_leg}
use Rattle.law_role_outproxy.proofs.Refusing.Told.{seen, Same, Told, Counts, IsBegun, same_ack, same_pdu, successor_more, begun_more}
use Rattle.law_role_outproxy.proofs.Counted.OutProxyOnce.{is_zero}
use Rattle.law_role_outproxy.proofs.Refusing.Told as told

module _ (n : ℕ) where
  abbrev co : Leg
  co = co_leg n

  abbrev os : Leg
  os = os_leg n

  abbrev Holds : OutProxy → List OnLeg → Type 0
  Holds = told.Holds n

  abbrev Row : OnLeg → List OnLeg → Done → Type 0
  Row = told.Row n

  same_row : (m : Message) (s : OutProxy) (came : List OnLeg) → count_of is_conn_c1 (m ∷ []) ≡ 0
      → Holds s came → (x : Done) → Same s x.0 → Row (os, m) came x
  same_row m s came none h (t, Ok taken) same =
      told.one_more n (seen t) came (told.same_holds n s t came same h) m none
  same_row m s came none h (t, Err why) same = told.same_holds n s t came same h

  module _ (s : OutProxy) (came : List OnLeg) (h : Holds s came) where
    -- ---- from the server

    -- packets are forwarded where the opening came to its end
    forwarded_row : (m : Message) → count_of is_conn_c1 (m ∷ []) ≡ 0 → is_joined s ≡ true
        → (other : Named) → Row (os, m) came (forwarded s other)
    forwarded_row m none known other =
        by_test (Row (os, m) came) (is_client_marked s.client) (taken s)
        (forwarded_by s (waits.forwarded s.waiting other))
        (λ e. told.one_more n (seen s) came h m none)
        (λ e. by (waits.forwarded s.waiting other))
      where
        by : (r : Waiting × Bool) → Row (os, m) came (forwarded_by s r)
        by (w, true) =
            told.one_more n (record (seen s) { waiting = w }) came
            (told.waiting_holds n (seen s) came h w known) m none
        by (w, false) = told.waiting_holds n (seen s) came h w known

    passed_row : (m : Message) → count_of is_conn_c1 (m ∷ []) ≡ 0 → (to : ℕ) (other : Named)
        → Row (os, m) came (passed_on s to other)
    passed_row m none to other =
        by_test (Row (os, m) came) (is_carrying s && (to == 0)) (forwarded s other) (unexpected s)
        (λ e. forwarded_row m none
        (and_parts (is_joined s) _ (and_parts (is_carrying s) (to == 0) e).0).0 other)
        (λ e. h)

    -- CONN/C1 ends the opening; nothing waits before it, so it is forwarded
    joined_holds : (connection cookie : Cookie) (version size timeout : ℕ) (w : Waiting)
        → s.channel ≡ channels.New connection cookie
        → Told n (record (seen s) { channel = channels.Joined connection cookie; waiting = w })
        (came ++ (os, Packet (named.ConnC1 version size timeout)) ∷ [])
    joined_holds connection cookie version size timeout w e =
        let m : Message = Packet (named.ConnC1 version size timeout) in
        let counts : Counts (channels.New connection cookie) (packets (of_leg co came))
        (count_of is_conn_a1 (of_leg co came)) (count_of is_out_r1_a3 (of_leg co came))
        (count_of is_conn_c1 (of_leg os came))
        = subst (λ (c : Channel). Counts c (packets (of_leg co came))
        (count_of is_conn_a1 (of_leg co came)) (count_of is_out_r1_a3 (of_leg co came))
        (count_of is_conn_c1 (of_leg os came))) e h.channel in
        let begun : HasBegunOut cookie (of_leg co came)
        = subst (λ (c : Channel). IsBegun c (of_leg co came)) e h.begun in
        let same = told.still n came m in
        let all = ap packets same in
        let a3 = ap (count_of is_out_r1_a3) same in
        let c1 = leg_here is_conn_c1 os came (named.ConnC1 version size timeout) in
        record {
          is = h.is;
          channel = (
            (let at = counts.0 in omega (arith, at, all)),
            (let at = counts.1 in omega (arith, at, a3)),
            omega (arith, c1),
          );
          begun = subst (HasBegunOut cookie) same begun;
          idle = λ f. absurd cc;
          end = λ f.
              let before = h.end f in
              let rise = leg_rises is_end_b1 os came (os, m) in omega (arith, before, rise);
          handover = λ f.
              let before = h.handover f in
              let rise = leg_rises is_out_r1_a9 os came (os, m) in omega (arith, before, rise);
          finished = h.finished;
          ended = h.ended;
        }

    c1_row : (version size timeout : ℕ) (c : Channel) → s.channel ≡ c
        → Row (os, Packet (named.ConnC1 version size timeout)) came
        (conn_c1_by c s version size timeout)
    c1_row version size timeout channels.Unknown e = h
    c1_row version size timeout (channels.New connection cookie) e =
        by_test (Row (os, m) came) (is_client_marked s.client) (taken t)
        (forwarded_by t (waits.forwarded s.waiting c2))
        (λ f. joined_holds connection cookie version size timeout s.waiting e)
        (λ f. subst (λ (w : Waiting). Row (os, m) came (forwarded_by t (waits.forwarded w c2)))
        (sym (h.idle (ap (λ (c : Channel). is_some (joined c)) e)))
        (joined_holds connection cookie version size timeout
        (waits.forwarded (empty FORWARDED_ROOM) c2).0 e))
      where
        m : Message
        m = Packet (named.ConnC1 version size timeout)

        c2 : Named
        c2 = named.ConnC2 version size timeout

        t : OutProxy
        t = record s { channel = channels.Joined connection cookie }
    c1_row version size timeout (channels.Joined connection cookie) e = h
    c1_row version size timeout (channels.Successor connection predecessor cookie) e = h

    handover_row : Row (os, Packet named.OutR1A9) came (on_out_r1_a9 s)
    handover_row =
        by_test (Row (os, Packet named.OutR1A9) came) (is_carrying s) _ (unexpected s)
        (λ e. let k = told.one_more n (seen s) came h (Packet named.OutR1A9) refl in
        let one = leg_here is_out_r1_a9 os came named.OutR1A9 in record {
          is = k.is;
          channel = k.channel;
          begun = k.begun;
          idle = k.idle;
          end = k.end;
          handover = λ f. omega (arith, one);
          finished = k.finished;
          ended = k.ended;
        })
        (λ e. h)

    end_row : Row (os, Packet named.EndB1) came (on_end_b1 s)
    end_row =
        by_test (Row (os, Packet named.EndB1) came) (takes_pdus s) _ (unexpected s)
        (λ e. let k = told.one_more n (seen s) came h (Packet named.EndB1) refl in
        let one = leg_here is_end_b1 os came named.EndB1 in record {
          is = k.is;
          channel = k.channel;
          begun = k.begun;
          idle = k.idle;
          end = λ f. omega (arith, one);
          handover = k.handover;
          finished = k.finished;
          ended = k.ended;
        })
        (λ e. h)

    ack_row : (to received available : ℕ) (cookie : Cookie)
        → Row (os, Packet (named.AckTo to received available cookie)) came
        (on_ack_to s to received available cookie)
    ack_row to received available cookie =
        let m : Message = Packet (named.AckTo to received available cookie) in
        by_test (Row (os, m) came) (to == TO_OUT_PROXY) (on_ack s received available cookie) _
        (λ e. same_row m s came refl h (on_ack s received available cookie)
        (same_ack s received available cookie))
        (λ e. passed_row m refl to (named.AckTo 0 received available cookie))

    pub os_row : (m : Named) → Row (os, Packet m) came (on_os s m)
    os_row (named.ConnC1 version size timeout) = c1_row version size timeout s.channel refl
    os_row (named.AckTo to received available cookie) = ack_row to received available cookie
    os_row (named.InR1A3 to version size timeout) =
        passed_row (Packet (named.InR1A3 to version size timeout)) refl to
        (named.InR1A4 0 version size timeout)
    os_row (named.InR2A3 to) = passed_row (Packet (named.InR2A3 to)) refl to (named.InR2A4 0)
    os_row (named.OutR1A1 to) = passed_row (Packet (named.OutR1A1 to)) refl to (named.OutR1A2 0)
    os_row (named.OutR1A5 to version timeout) =
        passed_row (Packet (named.OutR1A5 to version timeout)) refl to
        (named.OutR1A6 0 version timeout)
    os_row named.OutR1A9 = handover_row
    os_row named.EndB1 = end_row
    os_row m = h

    pub pdu_row : (bytes : List ℕ) → Row (os, Pdu bytes) came (on_pdu s bytes)
    pdu_row bytes = same_row (Pdu bytes) s came refl h (on_pdu s bytes) (same_pdu s bytes)

    -- ---- from the client

    -- where no packet came, nothing is known
    fresh : packets (of_leg co came) ≡ 0
        → (is_some (joined s.channel) ≡ false) × (count_of is_conn_a1 (of_leg co came) ≡ 0)
        × (count_of is_out_r1_a3 (of_leg co came) ≡ 0) × (count_of is_conn_c1 (of_leg os came) ≡ 0)
    fresh nothing = by s.channel h.channel
      where
        by : (c : Channel) → Counts c (packets (of_leg co came))
            (count_of is_conn_a1 (of_leg co came)) (count_of is_out_r1_a3 (of_leg co came))
            (count_of is_conn_c1 (of_leg os came))
            → (is_some (joined c) ≡ false) × (count_of is_conn_a1 (of_leg co came) ≡ 0)
            × (count_of is_out_r1_a3 (of_leg co came) ≡ 0)
            × (count_of is_conn_c1 (of_leg os came) ≡ 0)
        by channels.Unknown k = (refl, k.1, k.2, k.3)
        by (channels.New connection cookie) k =
            let some = k.0 in absurd (omega (arith, some, nothing))
        by (channels.Joined connection cookie) k =
            let some = k.0 in absurd (omega (arith, some, nothing))
        by (channels.Successor connection predecessor cookie) k =
            let some = k.0 in absurd (omega (arith, some, nothing))

    -- the server's leg stands still
    beside : (m : Message) → of_leg os came ≡ of_leg os (came ++ (co, m) ∷ [])
    beside m = sym (other_more os came (co, m) refl)

    -- a channel begins
    opened_holds : (m : Named) (c : Channel) (size : ℕ)
        → Counts c (packets (of_leg co (came ++ (co, Packet m) ∷ [])))
        (count_of is_conn_a1 (of_leg co (came ++ (co, Packet m) ∷ [])))
        (count_of is_out_r1_a3 (of_leg co (came ++ (co, Packet m) ∷ [])))
        (count_of is_conn_c1 (of_leg os (came ++ (co, Packet m) ∷ [])))
        → IsBegun c (of_leg co came ++ Packet m ∷ [])
        → (is_some (joined c) ≡ false → s.waiting ≡ empty FORWARDED_ROOM)
        → Holds (opened s c size) (came ++ (co, Packet m) ∷ [])
    opened_holds m c size counts begun idle = record {
      is = h.is;
      channel = counts;
      begun = subst (IsBegun c) (sym (here_more co came (Packet m))) begun;
      idle = idle;
      end = λ f.
          let before = h.end f in
          let rise = leg_rises is_end_b1 os came (co, Packet m) in omega (arith, before, rise);
      handover = λ f.
          let before = h.handover f in
          let rise = leg_rises is_out_r1_a9 os came (co, Packet m) in omega (arith, before, rise);
      finished = h.finished;
      ended = h.ended;
    }

    pub co_row : (number : Count) (m : Named) → Tells number (packets (of_leg co came))
        → Row (co, Packet m) came (on_co s number m)
    co_row number (named.ConnA1 version connection cookie size) tells =
        by_test (Row (co, Packet m) came) (is_first number && told_length s.request new_length)
        _ (unexpected s)
        (λ e. first (subst (λ (c : Count). Tells c (packets (of_leg co came)))
        (is_zero number (and_parts (is_first number) _ e).0) tells))
        (λ e. h)
      where
        m : Named
        m = named.ConnA1 version connection cookie size

        first : packets (of_leg co came) ≡ 0
            → Holds (opened s (channels.New connection cookie) size) (came ++ (co, Packet m) ∷ [])
        first nothing =
            let none = fresh nothing in
            let all = leg_here is_any co came m in
            let a3 = leg_here is_out_r1_a3 co came m in
            let before = none.2 in
            opened_holds m (channels.New connection cookie) size (
              omega (arith, all),
              omega (arith, a3, before),
              subst (λ (ms : List Message). count_of is_conn_c1 ms ≡ 0) (beside (Packet m)) none.3,
            )
            (last_one_so (BeginsOut cookie) (of_leg co came) m refl) (λ f. h.idle none.0)
    co_row number (named.OutR1A3 version connection predecessor cookie size) tells =
        by_test (Row (co, Packet m) came)
        (is_first number && told_length s.request successor_length) _ (unexpected s)
        (λ e. first (subst (λ (c : Count). Tells c (packets (of_leg co came)))
        (is_zero number (and_parts (is_first number) _ e).0) tells))
        (λ e. h)
      where
        m : Named
        m = named.OutR1A3 version connection predecessor cookie size

        first : packets (of_leg co came) ≡ 0
            → Holds (opened s (channels.Successor connection predecessor cookie) size)
            (came ++ (co, Packet m) ∷ [])
        first nothing =
            let none = fresh nothing in
            let all = leg_here is_any co came m in
            let a1 = leg_here is_conn_a1 co came m in
            let before = none.1 in
            opened_holds m (channels.Successor connection predecessor cookie) size
            (omega (arith, all), omega (arith, a1, before))
            (last_one_so (BeginsOut cookie) (of_leg co came) m refl) (λ f. absurd cc)
    co_row number named.OutR2C1 tells =
        by_test (Row (co, Packet named.OutR2C1) came) (is_second number && is_successor s.channel)
        (taken s) (unexpected s)
        (λ e.
        let all = leg_here is_any co came named.OutR2C1 in
        let a1 = leg_here is_conn_a1 co came named.OutR2C1 in
        opened_holds named.OutR2C1 s.channel 0
        (subst (λ (ms : List Message). Counts s.channel
        (packets (of_leg co (came ++ (co, Packet named.OutR2C1) ∷ [])))
        (count_of is_conn_a1 (of_leg co (came ++ (co, Packet named.OutR2C1) ∷ [])))
        (count_of is_out_r1_a3 (of_leg co (came ++ (co, Packet named.OutR2C1) ∷ [])))
        (count_of is_conn_c1 ms)) (beside (Packet named.OutR2C1))
        (successor_more s.channel _ _ _ _ _ _ _ (and_parts (is_second number) _ e).1 h.channel
        (omega (arith, all)) (omega (arith, a1))))
        (begun_more s.channel (of_leg co came) (Packet named.OutR2C1 ∷ []) h.begun) h.idle)
        (λ e. h)
    co_row number m tells = h
