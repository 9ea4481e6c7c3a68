-- what is known of a client's OUT channels stays so behind each put
use Rattle.rh_window.specs.Receiving as windows
use Rattle.law_order.proofs.Vocabulary.{◌≡◌, ℕ, suc, Bool, true, false, not, ◌&&◌, if◌then◌else◌, List, [], ◌∷◌, ◌++◌, Some, None, arith, refl, sym, ap, ◌∙◌, and_parts, IfSome, Option}
use Rattle.rh_sig.specs.declared.named.Named.TheVariants as named
use Rattle.rh_line.specs.Lines as lines
use Rattle.rh_client.specs.Putting.{pdu_by as put_pdu_by}
use Rattle.rh_client.specs.declared.replacement.InStage.TheVariants as in_stage
use Rattle.rh_client.specs.declared.replacement.OutStage.TheVariants as out_stage
use Rattle.law_moves.proofs.Vocabulary.{IsWindow, Ack, may_put, fits, by_test, Named, CONN_B1_LEN, IN_R1_A1_LEN, IN_R1_A5_LEN, OUT_R1_A7_LEN, END_A1_LEN, ACK_TO_LEN, PING_LEN, Incoming, due, front_length, Leg, LegKind, ClientOut, OutServer, ClientIn, InServer, Current, Next, Message, Packet, OnLeg, of_leg, pdu_bytes}
use Rattle.law_moves.proofs.Lemmas.{PutKeeps}
use Rattle.law_role_client.proofs.Vocabulary.{Opening, NotUp, Request, First, Second, Put, Replacement, NoneUnderWay, In, Out, ClientRole, is_up, metered, unopened_in, is_finished, co, is_writing, is_in_successor, is_current, is_out_successor, may_ack, ack_due, handed_over, Pick, or_else, begun_out, conn_a1, out_r1_a3, due_by, put_due, ack_by, put_ack_of, put_ack, lets_pdu, put_pdu, is_end_due, put_end, put_ping, put_next, put_conn_b1, put_in_r1_a1, put_current}
use Rattle.law_role_client.proofs.Vocabulary.{put_out_successor, put_out, put_successor_ping, put_writing, put_in_successor, put_in, settled_pick, put_by}
use Rattle.law_role_client.proofs.Receiving.Windows.{IsDue, due_is, none_due}
use Rattle.law_role_client.proofs.Receiving.Facts.{Seen, Known, Says, IsToldBy, IsQuiet, kept_put, quiet_put}
use Rattle.law_role_client.proofs.Receiving.Replaced.{channel, seen, Of, same_holds, by_replacement, after_in_holds, settled_holds, current_changes}
use Rattle.law_role_client.proofs.Receiving.Rows.{Fits}

module _ (window : ℕ) (known : Known) (is_window : IsWindow window) (leg : Leg)
    (came put : List OnLeg) where
  abbrev pub Puts : Pick → Type 0
  Puts pick = PutKeeps (Fits window known) leg came put pick

  abbrev With : Seen → Message → Type 0
  With x m = Of window known came (put ++ (leg, m) ∷ []) x

  quiet : (t : ClientRole) (m : Message) → IsQuiet m → Fits window known t came put
      → With (seen t) m
  quiet t m is h = quiet_put window known (seen t) came put leg m is h

  or_puts : (a b : Pick) → Puts a → Puts b → Puts (or_else a b)
  or_puts None b h k = k
  or_puts (Some pick) b h k = h

  puts_if : (b : Bool) (t : ClientRole) (m : Message) → With (seen t) m
      → Puts (if b then Some (t, m) else None)
  puts_if true t m h = h
  puts_if false t m h = tt

  module _ (s : ClientRole) (h : Fits window known s came put) where
    -- ---- what is due

    due_puts : (r : Replacement) → s.replacement ≡ r → Puts (due_by s r)
    due_puts NoneUnderWay e = tt
    due_puts (In in_stage.Asked out_waits) e = tt
    due_puts (In in_stage.Answered out_waits) e =
        puts_if (fits s.writing.meter IN_R1_A5_LEN) (handed_over s out_waits)
        (Packet (named.InR1A5 s.in_successor.cookie))
        (quiet (handed_over s out_waits) (Packet (named.InR1A5 s.in_successor.cookie)) tt
        (after_in_holds window known came put (record s {
          leaving = s.writing;
          writing = s.in_successor;
          in_successor = unopened_in 0 s.config.lifetime;
        }) out_waits (ap is_finished e) h))
    due_puts (Out out_stage.Asked waiting) e = tt
    due_puts (Out out_stage.Answered waiting) e =
        puts_if (fits s.writing.meter OUT_R1_A7_LEN) t
        (Packet (named.OutR1A7 2 s.out_successor.cookie))
        (quiet t (Packet (named.OutR1A7 2 s.out_successor.cookie)) tt
        (by_replacement window known came put s (Out out_stage.Answered waiting) e h))
      where
        t : ClientRole
        t = record s {
          writing = metered s.writing OUT_R1_A7_LEN;
          replacement = Out out_stage.Switched waiting;
        }
    due_puts (Out out_stage.Switched waiting) e = tt
    due_puts (Out out_stage.Finished waiting) e = tt

    -- ---- acknowledgements

    -- of the current channel
    now_acked : (ack : Ack) → due s.line Current ≡ Some ack
        → With (seen (record s {
          line = lines.after_told s.line Current ack;
          writing = metered s.writing ACK_TO_LEN;
        })) (Packet (named.AckTo 3 ack.received ack.available s.current.cookie))
    now_acked ack e =
        kept_put window known y came put changed (leg, m) (refl, d.size)
        (λ so. record {
          channel = s.current.number;
          up = h.risen.now (h.up so d.came);
          arrived =
              let same = d.received in
              let counts = h.counted.now.received in omega (arith, same, counts);
          window =
              let size = d.size in
              let greatest = is_window.greatest in omega (arith, size, greatest);
          low = omega arith;
          within = λ f. omega arith;
        })
      where
        m : Message
        m = Packet (named.AckTo 3 ack.received ack.available s.current.cookie)

        c : Incoming
        c =
            lines.with_window s.line.current
            (windows.after_told s.line.current.window ack)

        y : Seen
        y = record (seen s) { line = record (s.line) { current = c } }

        d : IsDue window s.line.current ack
        d =
            due_is window s.line.current (pdu_bytes (of_leg (co s.current.number) came)) ack
            h.counted.now h.lined.told e

        changed : Of window known came put y
        changed =
            current_changes window known came put (seen s) c d.more
            (record {
              received = h.counted.now.received;
              counted = h.counted.now.counted;
              size = h.counted.now.size;
            }) h.up h

    current_puts : (o : Option Ack) → IfSome o (λ (ack : Ack). due s.line Current ≡ Some ack)
        → Puts (ack_by s Current o)
    current_puts None is = tt
    current_puts (Some ack) is =
        puts_if (may_put s.writing.meter ACK_TO_LEN)
        (record s {
          line = lines.after_told s.line Current ack;
          writing = metered s.writing ACK_TO_LEN;
        })
        (Packet (named.AckTo 3 ack.received ack.available s.current.cookie)) (now_acked ack is)

    -- of the next channel none is due
    next_puts : (o : Option Ack)
        → IfSome o (λ (ack : Ack). (s.line.has_next ≡ true) × (due s.line Next ≡ Some ack))
        → Puts (ack_by s Next o)
    next_puts None is = tt
    next_puts (Some ack) is =
        absurd (none_due window s.line.next
        (pdu_bytes (of_leg (co (suc s.current.number)) came)) ack h.counted.next
        (h.lined.next_told is.0) h.lined.next_held is.1)

    current_due : IfSome (ack_due s Current) (λ (ack : Ack). due s.line Current ≡ Some ack)
    current_due =
        by_test (λ (o : Option Ack). IfSome o (λ (ack : Ack). due s.line Current ≡ Some ack))
        (may_ack s Current) (due s.line Current) None (λ e. by (due s.line Current)) (λ e. tt)
      where
        by : (o : Option Ack) → IfSome o (λ (ack : Ack). o ≡ Some ack)
        by None = tt
        by (Some ack) = refl

    next_due : IfSome (ack_due s Next)
        (λ (ack : Ack). (s.line.has_next ≡ true) × (due s.line Next ≡ Some ack))
    next_due =
        by_test (λ (o : Option Ack).
        IfSome o (λ (ack : Ack). (s.line.has_next ≡ true) × (due s.line Next ≡ Some ack)))
        (may_ack s Next) (due s.line Next) None
        (λ e. by (due s.line Next) (and_parts s.line.has_next (not s.line.next.ended) e).0)
        (λ e. tt)
      where
        by : (o : Option Ack) → s.line.has_next ≡ true
            → IfSome o (λ (ack : Ack). (s.line.has_next ≡ true) × (o ≡ Some ack))
        by None f = tt
        by (Some ack) f = (f, refl)

    -- ---- on IN channels

    pdu_puts : (len : Option ℕ) → Puts (put_pdu_by s len)
    pdu_puts None = tt
    pdu_puts (Some len) =
        by_test Puts (lets_pdu s len) _ None (λ e. quiet s _ tt h) (λ e. tt)

    next_message : Puts (put_next s)
    unfolding put_next put_due put_ack put_ack_of put_pdu put_end put_ping
    next_message =
        or_puts (due_by s s.replacement) _ (due_puts s.replacement refl)
        (or_puts (put_ack s) _
        (or_puts (ack_by s Current (ack_due s Current)) (ack_by s Next (ack_due s Next))
        (current_puts (ack_due s Current) current_due) (next_puts (ack_due s Next) next_due))
        (or_puts (put_pdu s) _ (pdu_puts (front_length s.queue))
        (or_puts (put_end s) (put_ping s)
        (by_test Puts (is_end_due s && fits s.writing.meter END_A1_LEN) _ None
        (λ e. quiet s _ tt h) (λ e. tt))
        (by_test Puts (s.writing.is_ping_due && may_put s.writing.meter PING_LEN) _ None
        (λ e. quiet s _ tt h) (λ e. tt)))))

    writing_puts : (o : Opening) → Puts (put_writing s o)
    unfolding put_writing put_conn_b1
    writing_puts NotUp = tt
    writing_puts Request = quiet s _ tt h
    writing_puts First =
        by_test Puts (may_put s.writing.meter CONN_B1_LEN) _ None (λ e. quiet s _ tt h) (λ e. tt)
    writing_puts Second = tt
    writing_puts Put = next_message

    in_successor_puts : (o : Opening) → Puts (put_in_successor s o)
    unfolding put_in_successor put_in_r1_a1 put_successor_ping
    in_successor_puts NotUp = tt
    in_successor_puts Request = quiet s _ tt h
    in_successor_puts First =
        by_test Puts (may_put s.in_successor.meter IN_R1_A1_LEN) _ None (λ e. quiet s _ tt h)
        (λ e. tt)
    in_successor_puts Second = tt
    in_successor_puts Put =
        by_test Puts (s.in_successor.is_ping_due && may_put s.in_successor.meter PING_LEN) _ None
        (λ e. quiet s _ tt h) (λ e. tt)

    in_puts : (n : ℕ) → Puts (put_in s n)
    unfolding put_in
    in_puts n =
        by_test Puts (is_writing s n) (put_writing s s.writing.opening)
        (if is_in_successor s n then put_in_successor s s.in_successor.opening else None)
        (λ e. writing_puts s.writing.opening)
        (λ e. by_test Puts (is_in_successor s n) (put_in_successor s s.in_successor.opening) None
        (λ f. in_successor_puts s.in_successor.opening) (λ f. tt))

    -- ---- on OUT channels

    -- the leg of the current channel, or of its successor, is up as before
    now_stays : (o other : Opening) → s.current.opening ≡ o → is_up other ≡ is_up o
        → Fits window known (record s { current = begun_out s.current other }) came put
    now_stays o other e f =
        same_holds window known came put s (record s { current = begun_out s.current other })
        (ap (λ (b : Bool).
        record (seen s) { current = record (channel s.current) { up = b } })
        (f ∙ sym (ap is_up e))) h

    next_stays : (o other : Opening) → s.out_successor.opening ≡ o → is_up other ≡ is_up o
        → Fits window known (record s { out_successor = begun_out s.out_successor other })
        came put
    next_stays o other e f =
        same_holds window known came put s
        (record s { out_successor = begun_out s.out_successor other })
        (ap (λ (b : Bool).
        record (seen s) { successor = record (channel s.out_successor) { up = b } })
        (f ∙ sym (ap is_up e))) h

    -- CONN/A1 and OUT_R1/A3
    begins : (t : ClientRole) (m : Named) → Says window (leg, Packet m)
        → IsToldBy known (seen t) came (leg, Packet m) → Fits window known t came put
        → With (seen t) (Packet m)
    begins t m says is_told k =
        kept_put window known (seen t) came put k (leg, Packet m) says (λ so. is_told)

    now_puts : (o : Opening) → s.current.opening ≡ o → Puts (put_current s o)
    unfolding put_current
    now_puts NotUp e = tt
    now_puts Request e =
        quiet (record s { current = begun_out s.current First }) _ tt
        (now_stays Request First e refl)
    now_puts First e =
        begins (record s { current = begun_out s.current Put }) (conn_a1 s)
        h.numbered.window_is tt (now_stays First Put e refl)
    now_puts Second e = tt
    now_puts Put e = tt

    out_successor_puts : (o : Opening) → s.out_successor.opening ≡ o
        → Puts (put_out_successor s o)
    unfolding put_out_successor
    out_successor_puts NotUp e = tt
    out_successor_puts Request e =
        quiet (record s { out_successor = begun_out s.out_successor First }) _ tt
        (next_stays Request First e refl)
    out_successor_puts First e =
        begins (record s { out_successor = begun_out s.out_successor Second }) (out_r1_a3 s)
        h.numbered.window_is tt (next_stays First Second e refl)
    out_successor_puts Second e =
        quiet (record s { out_successor = begun_out s.out_successor Put }) _ tt
        (next_stays Second Put e refl)
    out_successor_puts Put e = tt

    out_puts : (n : ℕ) → Puts (put_out s n)
    unfolding put_out
    out_puts n =
        by_test Puts (is_current s n) (put_current s s.current.opening)
        (if is_out_successor s n then put_out_successor s s.out_successor.opening else None)
        (λ e. now_puts s.current.opening refl)
        (λ e. by_test Puts (is_out_successor s n)
        (put_out_successor s s.out_successor.opening) None
        (λ f. out_successor_puts s.out_successor.opening refl) (λ f. tt))

    -- ---- the next message of a leg

    kind_puts : (kind : LegKind) → Puts (put_by s leg.number kind)
    unfolding put_by
    kind_puts ClientOut = out_puts leg.number
    kind_puts ClientIn = in_puts leg.number
    kind_puts OutServer = tt
    kind_puts InServer = tt

  settled_puts : (pick : Pick) → Puts pick → Puts (settled_pick pick)
  settled_puts None h = tt
  settled_puts (Some pick) h =
      settled_holds window known came (put ++ (leg, pick.1) ∷ []) pick.0 h

  pub put_fits : (s : ClientRole) → Fits window known s came put
      → Puts (settled_pick (put_by s leg.number leg.kind))
  put_fits s h = settled_puts (put_by s leg.number leg.kind) (kind_puts s h leg.kind)
