-- a client acknowledges the OUT channels that are near
use Rattle.law_order.proofs.Vocabulary.{◌≡◌, ◌⊎◌, ℕ, suc, ◌≤◌, ◌&&◌, Bool, true, false, if◌then◌else◌, List, [], ◌∷◌, ◌++◌, Some, None, arith, inl, inr, refl, sym, ap, ◌∙◌, subst, append-nil, Option}
use Rattle.rh_sig.specs.declared.named.Named.TheVariants as named
use Rattle.rh_client.specs.Putting.{pdu_by}
use Rattle.rh_client.specs.declared.replacement.InStage.TheVariants as in_stage
use Rattle.rh_client.specs.declared.replacement.OutStage.TheVariants as out_stage
use Rattle.law_moves.proofs.Vocabulary.{Ack, may_put, fits, by_test, Cookie, CONN_B1_LEN, IN_R1_A1_LEN, IN_R1_A5_LEN, OUT_R1_A7_LEN, END_A1_LEN, ACK_TO_LEN, PING_LEN, in_request, front_length, Leg, LegKind, ClientOut, OutServer, ClientIn, InServer, Which, Current, Next, first_of, Message, Text, Pdu, Packet, OnLeg, of_kind}
use Rattle.law_moves.proofs.Lemmas.{PutKeeps, count_append, kind_more}
use Rattle.law_role_client.proofs.Vocabulary.{Opening, NotUp, Request, First, Second, Put, Replacement, NoneUnderWay, In, Out, ClientRole, ack_due, cookie_of, no_cookie, unopened_in, ci, co, is_writing, is_in_successor, is_current, is_out_successor, handed_over, Pick, or_else, put_conn_b1, put_in_r1_a1, put_current, put_out_successor, put_out, due_by, put_due, ack_by, put_ack_of, put_ack, lets_pdu, put_pdu, is_end_due, put_end, put_ping, put_successor_ping, put_next}
use Rattle.law_role_client.proofs.Vocabulary.{put_writing, put_in_successor, put_in, settled_pick, put_by, is_out_r1_a7}
use Rattle.law_role_client_rows.proofs.Putting.Channels.{last}
use Rattle.law_peers_room.proofs.InRoom.Known.{IsSo, So, View, acks_more, after_in_so, at, idle, often_in, settled_so, view, with_stage}
use Rattle.law_peers_room.specs.InRoom.Acks.{AcksFrom, IsNear}

module _ (Comes : Leg → Cookie → Type 0) where
  abbrev pub Holds : ClientRole → List OnLeg → List OnLeg → Type 0
  Holds s came put = So Comes (of_kind ClientIn put) s

  -- ---- a message more

  often_more : (ms : List Message) (m : Message) → often_in (m ∷ []) ≡ 0
      → often_in (ms ++ m ∷ []) ≡ often_in ms
  often_more ms m none =
      let all = count_append is_out_r1_a7 ms (m ∷ []) in omega (arith, all, none)

  more_so : {v : View} {ms : List Message} (h : IsSo Comes v ms) (m : Message)
      → often_in (m ∷ []) ≡ 0 → AcksFrom Comes (often_in ms) (m ∷ [])
      → IsSo Comes v (ms ++ m ∷ [])
  more_so {v} {ms} h m none near = record {
    current = h.current;
    following = h.following;
    next = h.next;
    often = ap (λ (n : ℕ). suc n) (often_more ms m none) ∙ h.often;
    acks = acks_more Comes 0 ms (m ∷ []) h.acks
        (subst (λ (n : ℕ). AcksFrom Comes n (m ∷ [])) (omega arith) near);
  }

  in_more : (v : View) (put : List OnLeg) (n : ℕ) (m : Message)
      → IsSo Comes v (of_kind ClientIn put ++ m ∷ [])
      → IsSo Comes v (of_kind ClientIn (put ++ (ci n, m) ∷ []))
  in_more v put n m h = subst (IsSo Comes v) (sym (kind_more ClientIn put (ci n, m))) h

  out_more : (v : View) (put : List OnLeg) (n : ℕ) (m : Message)
      → IsSo Comes v (of_kind ClientIn put)
      → IsSo Comes v (of_kind ClientIn (put ++ (co n, m) ∷ []))
  out_more v put n m h =
      subst (IsSo Comes v)
      (sym (kind_more ClientIn put (co n, m) ∙ append-nil (of_kind ClientIn put))) h

  -- ---- what is put

  module _ (came put : List OnLeg) where
    abbrev Puts : Leg → Pick → Type 0
    Puts leg pick = PutKeeps Holds leg came put pick

    or_put : (leg : Leg) (a b : Pick) → Puts leg a → Puts leg b → Puts leg (or_else a b)
    or_put leg None b h k = k
    or_put leg (Some one) b h k = h

    module _ (s : ClientRole) (h : So Comes (of_kind ClientIn put) s) where
      abbrev ms : List Message
      ms = of_kind ClientIn put

      -- it acknowledges and switches nothing
      quiet : (n : ℕ) (m : Message) → often_in (m ∷ []) ≡ 0
          → ((k : ℕ) → AcksFrom Comes k (m ∷ [])) → Holds s came (put ++ (ci n, m) ∷ [])
      quiet n m none near = in_more (view s) put n m (more_so h m none (near (often_in ms)))

      module _ (n : ℕ) where
        due_puts : Puts (ci n) (put_due s)
        unfolding put_due
        due_puts = by s.replacement refl
          where
            by : (r : Replacement) → s.replacement ≡ r → Puts (ci n) (due_by s r)
            by NoneUnderWay e = tt
            by (In in_stage.Asked out_waits) e = tt
            by (In in_stage.Answered out_waits) e =
                let m : Message = Packet (named.InR1A5 s.in_successor.cookie) in
                let t : ClientRole = record s {
                  leaving = s.writing;
                  writing = s.in_successor;
                  in_successor = unopened_in 0 s.config.lifetime;
                } in
                by_test (Puts (ci n)) (fits s.writing.meter IN_R1_A5_LEN)
                (Some (handed_over s out_waits, m)) None
                (λ f. after_in_so Comes (of_kind ClientIn (put ++ (ci n, m) ∷ [])) t out_waits
                (in_more (idle Comes (view s)) put n m
                (more_so (at Comes ms s (In in_stage.Answered out_waits) e h) m refl tt)))
                (λ f. tt)
            by (Out out_stage.Asked waiting) e = tt
            by (Out out_stage.Answered waiting) e =
                let m : Message = Packet (named.OutR1A7 2 s.out_successor.cookie) in
                by_test (Puts (ci n)) (fits s.writing.meter OUT_R1_A7_LEN) _ None
                (λ f. in_more (with_stage Comes (view s) (Out out_stage.Switched waiting)) put n m
                (switched (at Comes ms s (Out out_stage.Answered waiting) e h)))
                (λ f. tt)
              where
                switched : IsSo Comes (with_stage Comes (view s) (Out out_stage.Answered waiting))
                    ms → IsSo Comes
                    (with_stage Comes (view s) (Out out_stage.Switched waiting))
                    (ms ++ Packet (named.OutR1A7 2 s.out_successor.cookie) ∷ [])
                switched k = record {
                  current = k.current;
                  following = k.following;
                  next = k.next;
                  often =
                      let all = count_append is_out_r1_a7 ms
                      (Packet (named.OutR1A7 2 s.out_successor.cookie) ∷ []) in
                      let often = k.often in
                      omega (arith, all, often);
                  acks = acks_more Comes 0 ms
                      (Packet (named.OutR1A7 2 s.out_successor.cookie) ∷ []) k.acks tt;
                }
            by (Out out_stage.Switched waiting) e = tt
            by (Out out_stage.Finished waiting) e = tt

        -- the current channel has the number of OUT_R1/A7 that were put, or one more
        near : (b : Bool) → suc (often_in ms) ≡ last b s.current.number
            → (often_in ms ≤ s.current.number) × (s.current.number ≤ suc (often_in ms))
        near true e = (omega (arith, e), omega (arith, e))
        near false e = (omega (arith, e), omega (arith, e))

        is_near : (which : Which) → IsNear Comes (often_in ms) (cookie_of s which)
        is_near Current = by h.current
          where
            by : (s.current.cookie ≡ no_cookie) ⊎ Comes (co s.current.number) s.current.cookie
                → IsNear Comes (often_in ms) s.current.cookie
            by (inl none) = inl none
            by (inr comes) =
                let both = near (view s).switched h.often in
                let low = both.0 in
                let high = both.1 in
                inr (record {
                  number = s.current.number;
                  comes = comes;
                  low = low;
                  high = omega (arith, high);
                })
        is_near Next = by h.following
          where
            by : (s.out_successor.cookie ≡ no_cookie)
                ⊎ (((view s).replaces ≡ true)
                × Comes (co (suc s.current.number)) s.out_successor.cookie)
                → IsNear Comes (often_in ms) s.out_successor.cookie
            by (inl none) = inl none
            by (inr comes) =
                let both = near (view s).switched h.often in
                let low = both.0 in
                let high = both.1 in
                inr (record {
                  number = suc s.current.number;
                  comes = comes.1;
                  low = omega (arith, low);
                  high = omega (arith, high);
                })

        ack_puts : (which : Which) (o : Option Ack) → Puts (ci n) (ack_by s which o)
        ack_puts which None = tt
        ack_puts which (Some ack) =
            let m : Message =
            Packet (named.AckTo 3 ack.received ack.available (cookie_of s which)) in
            by_test (Puts (ci n)) (may_put s.writing.meter ACK_TO_LEN) _ None
            (λ f. in_more (view s) put n m (more_so h m refl (is_near which, tt))) (λ f. tt)

        acks_puts : Puts (ci n) (put_ack s)
        unfolding put_ack put_ack_of
        acks_puts =
            or_put (ci n) (ack_by s Current (ack_due s Current)) (ack_by s Next (ack_due s Next))
            (ack_puts Current (ack_due s Current)) (ack_puts Next (ack_due s Next))

        pdu_puts : Puts (ci n) (put_pdu s)
        unfolding put_pdu
        pdu_puts = by (front_length s.queue)
          where
            by : (o : Option ℕ) → Puts (ci n) (pdu_by s o)
            by None = tt
            by (Some len) =
                by_test (Puts (ci n)) (lets_pdu s len) _ None
                (λ f. quiet n (Pdu (first_of s.queue)) refl (λ k. tt)) (λ f. tt)

        end_puts : Puts (ci n) (put_end s)
        unfolding put_end
        end_puts =
            by_test (Puts (ci n)) (is_end_due s && fits s.writing.meter END_A1_LEN) _ None
            (λ f. quiet n (Packet named.EndA1) refl (λ k. tt)) (λ f. tt)

        ping_puts : Puts (ci n) (put_ping s)
        unfolding put_ping
        ping_puts =
            by_test (Puts (ci n)) (s.writing.is_ping_due && may_put s.writing.meter PING_LEN) _
            None (λ f. quiet n (Packet named.Ping) refl (λ k. tt)) (λ f. tt)

        next_puts : Puts (ci n) (put_next s)
        unfolding put_next
        next_puts =
            or_put (ci n) (put_due s)
            (or_else (put_ack s) (or_else (put_pdu s) (or_else (put_end s) (put_ping s))))
            due_puts
            (or_put (ci n) (put_ack s)
            (or_else (put_pdu s) (or_else (put_end s) (put_ping s))) acks_puts
            (or_put (ci n) (put_pdu s) (or_else (put_end s) (put_ping s)) pdu_puts
            (or_put (ci n) (put_end s) (put_ping s) end_puts ping_puts)))

        writing_puts : (o : Opening) → Puts (ci n) (put_writing s o)
        unfolding put_writing put_conn_b1
        writing_puts NotUp = tt
        writing_puts Request = quiet n (Text (in_request s.config)) refl (λ k. tt)
        writing_puts First =
            by_test (Puts (ci n)) (may_put s.writing.meter CONN_B1_LEN) _ None
            (λ f. quiet n _ refl (λ k. tt)) (λ f. tt)
        writing_puts Second = tt
        writing_puts Put = next_puts

        successor_puts : (o : Opening) → Puts (ci n) (put_in_successor s o)
        unfolding put_in_successor put_in_r1_a1 put_successor_ping
        successor_puts NotUp = tt
        successor_puts Request = quiet n (Text (in_request s.config)) refl (λ k. tt)
        successor_puts First =
            by_test (Puts (ci n)) (may_put s.in_successor.meter IN_R1_A1_LEN) _ None
            (λ f. quiet n _ refl (λ k. tt)) (λ f. tt)
        successor_puts Second = tt
        successor_puts Put =
            by_test (Puts (ci n))
            (s.in_successor.is_ping_due && may_put s.in_successor.meter PING_LEN) _ None
            (λ f. quiet n (Packet named.Ping) refl (λ k. tt)) (λ f. tt)

        in_puts : Puts (ci n) (put_in s n)
        unfolding put_in
        in_puts =
            by_test (Puts (ci n)) (is_writing s n) (put_writing s s.writing.opening)
            (if is_in_successor s n then put_in_successor s s.in_successor.opening else None)
            (λ e. writing_puts s.writing.opening)
            (λ e. by_test (Puts (ci n)) (is_in_successor s n)
            (put_in_successor s s.in_successor.opening) None
            (λ f. successor_puts s.in_successor.opening) (λ f. tt))

        -- ---- on OUT channels

        quiet_out : (m : Message) → Holds s came (put ++ (co n, m) ∷ [])
        quiet_out m = out_more (view s) put n m h

        current_puts : (o : Opening) → Puts (co n) (put_current s o)
        unfolding put_current
        current_puts NotUp = tt
        current_puts Request = quiet_out _
        current_puts First = quiet_out _
        current_puts Second = tt
        current_puts Put = tt

        out_successor_puts : (o : Opening) → Puts (co n) (put_out_successor s o)
        unfolding put_out_successor
        out_successor_puts NotUp = tt
        out_successor_puts Request = quiet_out _
        out_successor_puts First = quiet_out _
        out_successor_puts Second = quiet_out _
        out_successor_puts Put = tt

        out_puts : Puts (co n) (put_out s n)
        unfolding put_out
        out_puts =
            by_test (Puts (co n)) (is_current s n) (put_current s s.current.opening)
            (if is_out_successor s n then put_out_successor s s.out_successor.opening else None)
            (λ e. current_puts s.current.opening)
            (λ e. by_test (Puts (co n)) (is_out_successor s n)
            (put_out_successor s s.out_successor.opening) None
            (λ f. out_successor_puts s.out_successor.opening) (λ f. tt))

      -- ---- on a leg

      settled_puts : (on : Leg) (pick : Pick) → Puts on pick → Puts on (settled_pick pick)
      settled_puts on None k = tt
      settled_puts on (Some one) k =
          settled_so Comes (of_kind ClientIn (put ++ (on, one.1) ∷ [])) one.0 k

      pub puts : (n : ℕ) (kind : LegKind)
          → Puts (record { kind = kind; number = n }) (settled_pick (put_by s n kind))
      unfolding put_by
      puts n ClientOut = settled_puts (co n) (put_out s n) (out_puts n)
      puts n ClientIn = settled_puts (ci n) (put_in s n) (in_puts n)
      puts n OutServer = tt
      puts n InServer = tt
