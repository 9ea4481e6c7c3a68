-- a client puts in turn
use Rattle.std.specs.Option.{is_some}
use Rattle.law_order.proofs.Vocabulary.{◌≡◌, ℕ, suc, ◌==◌, ◌&&◌, not, Bool, true, false, if◌then◌else◌, List, [], ◌∷◌, ◌++◌, Some, None, inl, inr, refl, sym, ap, ◌∙◌, subst, false≢true, and_parts, not-true, Option}
use Rattle.rh_sig.specs.declared.named.Named.TheVariants as named
use Rattle.rh_client.specs.Putting.{pdu_by}
use Rattle.rh_client.specs.declared.replacement.InStage.TheVariants as in_stage
use Rattle.rh_client.specs.declared.replacement.OutStage.TheVariants as out_stage
use Rattle.law_moves.proofs.Vocabulary.{Ack, may_put, fits, by_test, same_number, CONN_B1_LEN, IN_R1_A1_LEN, IN_R1_A5_LEN, OUT_R1_A7_LEN, END_A1_LEN, ACK_TO_LEN, PING_LEN, in_request, is_empty, front_length, Leg, LegKind, ClientOut, OutServer, ClientIn, InServer, Which, Current, Next, first_of, Message, Text, Pdu, Packet, OnLeg}
use Rattle.law_moves.proofs.Lemmas.{PutKeeps}
use Rattle.law_role_client.proofs.Vocabulary.{Opening, NotUp, Request, First, Second, Put, Replacement, NoneUnderWay, In, Out, ClientRole, unopened_in, is_in, ci, co, is_open, is_writing, is_in_successor, is_current, is_out_successor, ack_due, handed_over, Pick, or_else, put_conn_b1, put_in_r1_a1, put_current, put_out_successor, put_out, due_by, put_due, ack_by, put_ack_of, put_ack, lets_pdu, put_pdu, is_end_due, put_end, put_ping, put_successor_ping, put_next, put_writing}
use Rattle.law_role_client.proofs.Vocabulary.{put_in_successor, put_in, settled_pick, put_by}
use Rattle.law_role_client_rows.proofs.InTurn.Facts.{view, Holds, idle, idles, more, quiet}
use Rattle.law_role_client_rows.proofs.InTurn.Changes.{So, settled_so, after_in_so}
use Rattle.law_role_client_rows.specs.InTurn.Turns.{Turn, behind, behind_all, first_turn, Stands}

module _ (came put : List OnLeg) where
  abbrev pub Puts : Leg → Pick → Type 0
  Puts leg pick = PutKeeps Holds leg came put pick

  or_put : (leg : Leg) (a b : Pick) → Puts leg a → Puts leg b → Puts leg (or_else a b)
  or_put leg None b h k = k
  or_put leg (Some one) b h k = h

  abbrev turn : Turn
  turn = behind_all first_turn put

  abbrev then_put : Leg → Message → List OnLeg
  then_put leg m = put ++ (leg, m) ∷ []

  module _ (s : ClientRole) (h : So put s) where
    abbrev leg : Leg
    leg = ci s.writing.number

    -- what leaves the turn alone, on the channel that is written on
    quiet_here : (m : Message) → ((t : Turn) → behind t m ≡ t)
        → ((t : Turn) (on : Leg) → on ≡ ci t.writing → Stands t (on, m))
        → So (then_put leg m) s
    quiet_here m same stands = quiet h leg m same (λ t e. stands t leg (ap ci e))

    -- ---- behind what the channel begins with

    handed_so : (out_waits : Bool) → is_in s.replacement ≡ true
        → So (then_put leg (Packet (named.InR1A5 s.in_successor.cookie)))
        (handed_over s out_waits)
    handed_so out_waits e =
        let m : Message = Packet (named.InR1A5 s.in_successor.cookie) in
        let t : ClientRole = record s {
          leaving = s.writing;
          writing = s.in_successor;
          in_successor = unopened_in 0 s.config.lifetime;
        } in
        after_in_so (then_put leg m) t out_waits
        (more h leg m (idle (view t)) (ap ci h.writing) (h.next e ∙ ap suc h.writing) (h.fresh e)
        h.over (λ f. absurd (false≢true f)) (λ f. absurd (false≢true f)))

    due_puts : Puts leg (put_due s)
    unfolding put_due
    due_puts = by s.replacement refl
      where
        by : (r : Replacement) → s.replacement ≡ r → Puts leg (due_by s r)
        by NoneUnderWay e = tt
        by (In in_stage.Asked out_waits) e = tt
        by (In in_stage.Answered out_waits) e =
            by_test (Puts leg) (fits s.writing.meter IN_R1_A5_LEN)
            (Some (handed_over s out_waits, Packet (named.InR1A5 s.in_successor.cookie))) None
            (λ f. handed_so out_waits (ap is_in e)) (λ f. tt)
        by (Out out_stage.Asked waiting) e = tt
        by (Out out_stage.Answered waiting) e =
            by_test (Puts leg) (fits s.writing.meter OUT_R1_A7_LEN) _ None
            (λ f. idles (quiet_here (Packet (named.OutR1A7 2 s.out_successor.cookie)) (λ t. refl)
            (λ t on is. is)))
            (λ f. tt)
        by (Out out_stage.Switched waiting) e = tt
        by (Out out_stage.Finished waiting) e = tt

    ack_puts : (which : Which) (o : Option Ack) → Puts leg (ack_by s which o)
    ack_puts which None = tt
    ack_puts which (Some ack) =
        by_test (Puts leg) (may_put s.writing.meter ACK_TO_LEN) _ None
        (λ f. quiet_here _ (λ t. refl) (λ t on is. is)) (λ f. tt)

    acks_puts : Puts leg (put_ack s)
    unfolding put_ack put_ack_of
    acks_puts =
        or_put leg (ack_by s Current (ack_due s Current)) (ack_by s Next (ack_due s Next))
        (ack_puts Current (ack_due s Current)) (ack_puts Next (ack_due s Next))

    -- a PDU is left, so that END/A1 stands on no channel
    not_over : (len : ℕ) → front_length s.queue ≡ Some len → turn.over ≡ false
    not_over len some = by turn.over refl
      where
        none_left : (queue : List (List ℕ)) → is_empty queue ≡ true
            → is_some (front_length queue) ≡ false
        none_left [] e = refl
        none_left (pdu ∷ queue) e = absurd (false≢true e)

        by : (b : Bool) → turn.over ≡ b → turn.over ≡ false
        by false e = e
        by true e =
            absurd (false≢true (sym (none_left s.queue (h.over e).1) ∙ ap is_some some))

    pdu_puts : Puts leg (put_pdu s)
    unfolding put_pdu
    pdu_puts = by (front_length s.queue) refl
      where
        by : (o : Option ℕ) → front_length s.queue ≡ o → Puts leg (pdu_by s o)
        by None e = tt
        by (Some len) e =
            by_test (Puts leg) (lets_pdu s len) _ None
            (λ f.
            let bare = not_over len e in
            more h leg (Pdu (first_of s.queue)) _ (ap ci h.writing, bare) h.writing h.ended
            (λ g. absurd (false≢true (sym bare ∙ g))) h.next h.fresh)
            (λ f. tt)

    end_puts : Puts leg (put_end s)
    unfolding put_end
    end_puts =
        by_test (Puts leg) (is_end_due s && fits s.writing.meter END_A1_LEN) _ None
        (λ f.
        let due = and_parts (is_open s.phase && s.is_closing)
        (is_empty s.queue && not s.writing.is_end_put)
        (and_parts (is_end_due s) (fits s.writing.meter END_A1_LEN) f).0 in
        let closing = (and_parts (is_open s.phase) s.is_closing due.0).1 in
        let bare = and_parts (is_empty s.queue) (not s.writing.is_end_put) due.1 in
        more h leg (Packet named.EndA1) _
        (ap ci h.writing, sym h.ended ∙ not-true s.writing.is_end_put bare.1) h.writing refl
        (λ g. (closing, bare.0)) h.next h.fresh)
        (λ f. tt)

    ping_puts : Puts leg (put_ping s)
    unfolding put_ping
    ping_puts =
        by_test (Puts leg) (s.writing.is_ping_due && may_put s.writing.meter PING_LEN) _ None
        (λ f. quiet_here (Packet named.Ping) (λ t. refl) (λ t on is. inl is)) (λ f. tt)

    next_puts : Puts leg (put_next s)
    unfolding put_next
    next_puts =
        or_put leg (put_due s)
        (or_else (put_ack s) (or_else (put_pdu s) (or_else (put_end s) (put_ping s))))
        due_puts
        (or_put leg (put_ack s) (or_else (put_pdu s) (or_else (put_end s) (put_ping s)))
        acks_puts
        (or_put leg (put_pdu s) (or_else (put_end s) (put_ping s)) pdu_puts
        (or_put leg (put_end s) (put_ping s) end_puts ping_puts)))

    -- ---- on IN channels

    writing_puts : (o : Opening) → Puts leg (put_writing s o)
    unfolding put_writing put_conn_b1
    writing_puts NotUp = tt
    writing_puts Request =
        quiet_here (Text (in_request s.config)) (λ t. refl) (λ t on is. inl (inl is))
    writing_puts First =
        by_test (Puts leg) (may_put s.writing.meter CONN_B1_LEN) _ None
        (λ f. quiet_here _ (λ t. refl) (λ t on is. is)) (λ f. tt)
    writing_puts Second = tt
    writing_puts Put = next_puts

    -- on its successor
    quiet_next : (m : Message) → is_in s.replacement ≡ true → ((t : Turn) → behind t m ≡ t)
        → ((t : Turn) (on : Leg) → on ≡ ci (suc t.writing) → Stands t (on, m))
        → So (then_put (ci s.in_successor.number) m) s
    quiet_next m e same stands =
        quiet h (ci s.in_successor.number) m same
        (λ t f. stands t (ci s.in_successor.number) (ap ci (h.next e ∙ ap suc f)))

    successor_puts : (o : Opening) → is_in s.replacement ≡ true
        → Puts (ci s.in_successor.number) (put_in_successor s o)
    unfolding put_in_successor put_in_r1_a1 put_successor_ping
    successor_puts NotUp e = tt
    successor_puts Request e =
        quiet_next (Text (in_request s.config)) e (λ t. refl) (λ t on is. inl (inr is))
    successor_puts First e =
        by_test (Puts (ci s.in_successor.number)) (may_put s.in_successor.meter IN_R1_A1_LEN) _
        None (λ f. quiet_next _ e (λ t. refl) (λ t on is. is)) (λ f. tt)
    successor_puts Second e = tt
    successor_puts Put e =
        by_test (Puts (ci s.in_successor.number))
        (s.in_successor.is_ping_due && may_put s.in_successor.meter PING_LEN) _ None
        (λ f. quiet_next (Packet named.Ping) e (λ t. refl) (λ t on is. inr is)) (λ f. tt)

    in_puts : (n : ℕ) → Puts (ci n) (put_in s n)
    unfolding put_in
    in_puts n =
        by_test (Puts (ci n)) (is_writing s n) (put_writing s s.writing.opening)
        (if is_in_successor s n then put_in_successor s s.in_successor.opening else None)
        (λ e. subst (λ (k : ℕ). Puts (ci k) (put_writing s s.writing.opening))
        (sym (same_number n s.writing.number e)) (writing_puts s.writing.opening))
        (λ e. by_test (Puts (ci n)) (is_in_successor s n)
        (put_in_successor s s.in_successor.opening) None
        (λ f.
        let both = and_parts (is_in s.replacement) (n == s.in_successor.number) f in
        subst (λ (k : ℕ). Puts (ci k) (put_in_successor s s.in_successor.opening))
        (sym (same_number n s.in_successor.number both.1))
        (successor_puts s.in_successor.opening both.0))
        (λ f. tt))

    -- ---- on OUT channels

    quiet_out : (n : ℕ) (m : Message) → ((t : Turn) → behind t m ≡ t)
        → ((t : Turn) → Stands t (co n, m)) → So (then_put (co n) m) s
    quiet_out n m same stands = quiet h (co n) m same (λ t e. stands t)

    current_puts : (n : ℕ) (o : Opening) → Puts (co n) (put_current s o)
    unfolding put_current
    current_puts n NotUp = tt
    current_puts n Request = quiet_out n _ (λ t. refl) (λ t. inr refl)
    current_puts n First = quiet_out n _ (λ t. refl) (λ t. refl)
    current_puts n Second = tt
    current_puts n Put = tt

    out_successor_puts : (n : ℕ) (o : Opening) → Puts (co n) (put_out_successor s o)
    unfolding put_out_successor
    out_successor_puts n NotUp = tt
    out_successor_puts n Request = quiet_out n _ (λ t. refl) (λ t. inr refl)
    out_successor_puts n First = quiet_out n _ (λ t. refl) (λ t. refl)
    out_successor_puts n Second = quiet_out n _ (λ t. refl) (λ t. refl)
    out_successor_puts n Put = tt

    out_puts : (n : ℕ) → Puts (co n) (put_out s n)
    unfolding put_out
    out_puts n =
        by_test (Puts (co n)) (is_current s n) (put_current s s.current.opening)
        (if is_out_successor s n then put_out_successor s s.out_successor.opening else None)
        (λ e. current_puts n s.current.opening)
        (λ e. by_test (Puts (co n)) (is_out_successor s n)
        (put_out_successor s s.out_successor.opening) None
        (λ f. out_successor_puts n s.out_successor.opening) (λ f. tt))

    -- ---- on a leg

    settled_puts : (on : Leg) (pick : Pick) → Puts on pick → Puts on (settled_pick pick)
    settled_puts on None k = tt
    settled_puts on (Some one) k = settled_so (then_put on one.1) one.0 k

    pub puts : (n : ℕ) (kind : LegKind)
        → Puts (record { kind = kind; number = n }) (settled_pick (put_by s n kind))
    unfolding put_by
    puts n ClientOut = settled_puts (co n) (put_out s n) (out_puts n)
    puts n ClientIn = settled_puts (ci n) (put_in s n) (in_puts n)
    puts n OutServer = tt
    puts n InServer = tt
