-- what is known of a client's channels stays so behind each put
use Rattle.rh_window.specs.Receiving as windows
use Rattle.law_order.proofs.Vocabulary.{◌≡◌, ℕ, ◌+◌, ◌==◌, Bool, true, false, true≢false, not, ◌&&◌, if◌then◌else◌, List, [], ◌∷◌, ◌++◌, Some, None, inl, inr, arith, refl, sym, ap, ◌∙◌, subst, and_parts, nat_tests, IfSome, Option}
use Rattle.rh_sig.specs.declared.named.Named.TheVariants as named
use Rattle.rh_line.specs.Lines as lines
use Rattle.rh_client.specs.Putting.{pdu_by as put_pdu_by}
use Rattle.rh_client.specs.declared.replacement.InStage.TheVariants as in_stage
use Rattle.rh_client.specs.declared.replacement.OutStage.TheVariants as out_stage
use Rattle.law_moves.proofs.Vocabulary.{Ack, may_put, fits, by_test, same_number, Cookie, CONN_B1_LEN, IN_R1_A1_LEN, IN_R1_A5_LEN, OUT_R1_A7_LEN, END_A1_LEN, ACK_TO_LEN, PING_LEN, Line, Incoming, due, front_length, Leg, LegKind, ClientOut, OutServer, ClientIn, InServer, Current, Next, Message, Packet, OnLeg}
use Rattle.law_moves.proofs.Lemmas.{PutKeeps}
use Rattle.law_role_client.proofs.Vocabulary.{Opening, NotUp, Request, First, Second, Put, Replacement, NoneUnderWay, In, Out, Waits, ClientRole, is_up, is_asked, metered, unopened_in, is_open, is_opening, is_out, is_writing, is_in_successor, is_current, is_out_successor, may_ack, ack_due, handed_over, Pick, or_else, begun_out, conn_a1, out_r1_a3, due_by, put_due, ack_by, put_ack_of, put_ack, lets_pdu, put_pdu, is_end_due, with_end_put, put_end, put_ping, put_next, put_conn_b1, put_in_r1_a1, put_current}
use Rattle.law_role_client.proofs.Vocabulary.{put_out_successor, put_out, put_successor_ping, put_writing, put_in_successor, put_in, settled_pick, put_by}
use Rattle.law_role_client.proofs.ClientLogs.{of_kind as kind_so}
use Rattle.law_role_client.proofs.Counted.Behind.{now_has}
use Rattle.law_role_client_edges.specs.Telling.{OpensTo, AcksTo}
use Rattle.law_role_client_edges.proofs.Lists.{kind_last}
use Rattle.law_role_client_edges.proofs.Facts.{Seen, seen, seen_by, in_seen, out_seen, by_replacement, live, was_put}
use Rattle.law_role_client_edges.proofs.Replaced.{Of, after_in_holds, settled_or_wished_holds, open_is}
use Rattle.law_role_client_edges.proofs.Rows.{Fits}

-- nothing is due on a first line
first_due : (window : ℕ) (ack : Ack) → windows.due (windows.opened window) ≡ Some ack → ⊥
first_due window ack e =
    subst (λ (o : Option Ack). IfSome o (λ (a : Ack). ⊥)) e
    (by_test (λ (o : Option Ack). IfSome o (λ (a : Ack). ⊥))
    (windows.is_due (windows.opened window)) _ None
    (λ due. absurd (grind (arith, nat_tests, due))) (λ due. tt))

-- nor before something was released
none_due : (window : ℕ) (c : Incoming) (ack : Ack) → c.window.told ≡ window
    → c.window.released ≡ 0 → c.window.size ≡ window → windows.due c.window ≡ Some ack → ⊥
none_due window c ack told released size e = grind (arith, nat_tests, e, size, told, released)

module _ (Answers Rises : Type 0) (Comes : Leg → Cookie → Type 0) (leg : Leg)
    (came put : List OnLeg) where
  abbrev Holds : ClientRole → List OnLeg → List OnLeg → Type 0
  Holds = Fits Answers Rises Comes

  abbrev pub Puts : Pick → Type 0
  Puts pick = PutKeeps Holds leg came put pick

  abbrev With : Seen → Message → Type 0
  With x m = Of Answers Rises Comes came (put ++ (leg, m) ∷ []) x

  -- a message more
  more : (x : Seen) (m : Message) → Of Answers Rises Comes came put x → With x m
  more x m h = was_put Answers Rises Comes x came put (leg, m) h

  quiet : (t : ClientRole) (m : Message) → Holds t came put → With (seen t) m
  quiet t m h = more (seen t) m h

  or_puts : (a b : Pick) → Puts a → Puts b → Puts (or_else a b)
  or_puts None b h k = k
  or_puts (Some pick) b h k = h

  puts_if : (b : Bool) (t : ClientRole) (m : Message) → With (seen t) m
      → Puts (if b then Some (t, m) else None)
  puts_if true t m h = h
  puts_if false t m h = tt

  module _ (s : ClientRole) (h : Holds s came put) where
    at : (r : Replacement) → s.replacement ≡ r
        → Of Answers Rises Comes came put (seen_by s r)
    at r e = by_replacement Answers Rises Comes s r came put e h

    -- ---- what is due

    -- IN_R1/A5: the successor is the writing channel
    hands_over : (out_waits end_put : Bool) → s.replacement ≡ In in_stage.Answered out_waits
        → Of Answers Rises Comes came put (record (seen_by s NoneUnderWay) {
          writing = in_seen s.in_successor;
          in_successor = in_seen (unopened_in 0 s.config.lifetime);
          leaving = in_seen s.writing;
          end_put = end_put;
        })
    hands_over out_waits end_put e =
        let k = at (In in_stage.Answered out_waits) e in
        let is =
        live Answers Rises Comes (seen_by s (In in_stage.Answered out_waits)) came put refl k in
        let number = k.ins.follows refl in
        let all = k.ins.counted is.0 in
        record {
          fresh = λ f. absurd (true≢false (sym f ∙ is.0));
          ins = record {
            follows = λ f. absurd (true≢false (sym f));
            next_up = λ f. absurd (true≢false (sym f));
            next_in = λ f. absurd (true≢false (sym f));
            before = λ f. (omega (arith, number), is.0);
            comes = k.ins.next_comes;
            next_comes = λ f. absurd (true≢false (sym f));
            leaving_comes = k.ins.comes;
            counted = λ f. omega (arith, all, number);
            up = λ a f. k.ins.next_up refl;
            told = λ f. k.ins.next_told refl;
            next_told = λ f. absurd (true≢false (sym f));
            leaving_told = λ f. k.ins.told is.0;
            knows = λ a f own. k.ins.knows_next a refl own;
            knows_next = λ a f. absurd (true≢false (sym f));
            knows_leaving = λ a f own. k.ins.knows a is.0 own;
          };
          outs = record {
            follows = λ f. absurd (true≢false (sym f));
            next_up = λ f. absurd (true≢false (sym f));
            up = k.outs.up;
            size_is = k.outs.size_is;
            acked = k.outs.acked;
            next_window = k.outs.next_window;
            next_held = k.outs.next_held;
            next_size = k.outs.next_size;
            begun = k.outs.begun;
            next_begun = k.outs.next_begun;
            finished = k.outs.finished;
            there = λ f. absurd (true≢false (sym f));
          };
          over = λ f. absurd (true≢false (sym f ∙ is.1));
        }

    -- OUT_R1/A7
    switches : (waiting : Waits) → s.replacement ≡ Out out_stage.Answered waiting
        → Of Answers Rises Comes came put (seen_by s (Out out_stage.Switched waiting))
    switches waiting e =
        let k = at (Out out_stage.Answered waiting) e in
        let is =
        live Answers Rises Comes (seen_by s (Out out_stage.Answered waiting)) came put refl k in
        record {
          fresh = λ f. absurd (true≢false (sym f ∙ is.0));
          ins = record {
            follows = k.ins.follows;
            next_up = k.ins.next_up;
            next_in = k.ins.next_in;
            before = k.ins.before;
            comes = k.ins.comes;
            next_comes = k.ins.next_comes;
            leaving_comes = k.ins.leaving_comes;
            counted = k.ins.counted;
            up = k.ins.up;
            told = k.ins.told;
            next_told = k.ins.next_told;
            leaving_told = k.ins.leaving_told;
            knows = k.ins.knows;
            knows_next = k.ins.knows_next;
            knows_leaving = k.ins.knows_leaving;
          };
          outs = record {
            follows = λ f. k.outs.follows refl;
            next_up = λ f. k.outs.next_up refl;
            up = k.outs.up;
            size_is = k.outs.size_is;
            acked = k.outs.acked;
            next_window = k.outs.next_window;
            next_held = k.outs.next_held;
            next_size = k.outs.next_size;
            begun = k.outs.begun;
            next_begun = k.outs.next_begun;
            finished = k.outs.finished;
            there = λ f. absurd (true≢false (sym f));
          };
          over = λ f. absurd (true≢false (sym f ∙ is.1));
        }

    due_puts : (r : Replacement) → s.replacement ≡ r → Puts (due_by s r)
    due_puts NoneUnderWay e = tt
    due_puts (In in_stage.Asked out_waits) e = tt
    due_puts (In in_stage.Answered out_waits) e =
        puts_if (fits s.writing.meter IN_R1_A5_LEN) (handed_over s out_waits)
        (Packet (named.InR1A5 s.in_successor.cookie))
        (quiet (handed_over s out_waits) (Packet (named.InR1A5 s.in_successor.cookie))
        (after_in_holds Answers Rises Comes came put (record s {
          leaving = s.writing;
          writing = s.in_successor;
          in_successor = unopened_in 0 s.config.lifetime;
        }) out_waits
        (live Answers Rises Comes (seen_by s (In in_stage.Answered out_waits)) came put refl
        (at (In in_stage.Answered out_waits) e))
        (hands_over out_waits s.in_successor.is_end_put e)))
    due_puts (Out out_stage.Asked waiting) e = tt
    due_puts (Out out_stage.Answered waiting) e =
        puts_if (fits s.writing.meter OUT_R1_A7_LEN) t
        (Packet (named.OutR1A7 2 s.out_successor.cookie))
        (quiet t (Packet (named.OutR1A7 2 s.out_successor.cookie)) (switches waiting e))
      where
        t : ClientRole
        t = record s {
          writing = metered s.writing OUT_R1_A7_LEN;
          replacement = Out out_stage.Switched waiting;
        }
    due_puts (Out out_stage.Switched waiting) e = tt
    due_puts (Out out_stage.Finished waiting) e = tt

    -- ---- acknowledgements

    -- of the current channel
    now_acked : (ack : Ack) → leg.kind ≡ ClientIn → due s.line Current ≡ Some ack
        → With (seen (record s {
          line = lines.after_told s.line Current ack;
          writing = metered s.writing ACK_TO_LEN;
        })) (Packet (named.AckTo 3 ack.received ack.available s.current.cookie))
    now_acked ack k e = by (is_opening s.phase) refl
      where
        m : Message
        m = Packet (named.AckTo 3 ack.received ack.available s.current.cookie)

        edge : ℕ
        edge = ack.received + ack.available

        later : With (seen s) m
        later = quiet s m h

        by : (b : Bool) → is_opening s.phase ≡ b
            → With (seen (record s {
              line = lines.after_told s.line Current ack;
              writing = metered s.writing ACK_TO_LEN;
            })) m
        by true o =
            absurd (first_due s.config.window ack
            (subst (λ (l : Line). due l Current ≡ Some ack) (h.fresh o).line_is e))
        by false o = record {
          fresh = λ f. absurd (true≢false (sym f ∙ o));
          ins = later.ins;
          outs = record {
            follows = later.outs.follows;
            next_up = later.outs.next_up;
            up = later.outs.up;
            size_is = later.outs.size_is;
            acked = λ a.
                inr (kind_last (AcksTo s.current.cookie edge) ClientIn put leg
                (named.AckTo 3 ack.received ack.available s.current.cookie)
                (kind_so ClientIn leg k) (refl, refl, omega arith));
            next_window = later.outs.next_window;
            next_held = later.outs.next_held;
            next_size = later.outs.next_size;
            begun = later.outs.begun;
            next_begun = later.outs.next_begun;
            finished = later.outs.finished;
            there = later.outs.there;
          };
          over = later.over;
        }

    current_puts : leg.kind ≡ ClientIn → (o : Option Ack)
        → IfSome o (λ (ack : Ack). due s.line Current ≡ Some ack) → Puts (ack_by s Current o)
    current_puts k None is = tt
    current_puts k (Some ack) is =
        puts_if (may_put s.writing.meter ACK_TO_LEN)
        (record s {
          line = lines.after_told s.line Current ack;
          writing = metered s.writing ACK_TO_LEN;
        })
        (Packet (named.AckTo 3 ack.received ack.available s.current.cookie)) (now_acked ack k is)

    -- of the next channel none is due
    next_puts : (o : Option Ack)
        → IfSome o (λ (ack : Ack). (s.line.has_next ≡ true) × (due s.line Next ≡ Some ack))
        → Puts (ack_by s Next o)
    next_puts None is = tt
    next_puts (Some ack) is =
        absurd (none_due s.config.window s.line.next ack (h.outs.next_window is.0)
        h.outs.next_held h.outs.next_size is.1)

    current_due : IfSome (ack_due s Current) (λ (ack : Ack). due s.line Current ≡ Some ack)
    current_due =
        by_test (λ (o : Option Ack). IfSome o (λ (ack : Ack). due s.line Current ≡ Some ack))
        (may_ack s Current) (due s.line Current) None (λ e. by (due s.line Current)) (λ e. tt)
      where
        by : (o : Option Ack) → IfSome o (λ (ack : Ack). o ≡ Some ack)
        by None = tt
        by (Some ack) = refl

    next_due : IfSome (ack_due s Next)
        (λ (ack : Ack). (s.line.has_next ≡ true) × (due s.line Next ≡ Some ack))
    next_due =
        by_test (λ (o : Option Ack).
        IfSome o (λ (ack : Ack). (s.line.has_next ≡ true) × (due s.line Next ≡ Some ack)))
        (may_ack s Next) (due s.line Next) None
        (λ e. by (due s.line Next) (and_parts s.line.has_next (not s.line.next.ended) e).0)
        (λ e. tt)
      where
        by : (o : Option Ack) → s.line.has_next ≡ true
            → IfSome o (λ (ack : Ack). (s.line.has_next ≡ true) × (o ≡ Some ack))
        by None f = tt
        by (Some ack) f = (f, refl)

    -- ---- on IN channels

    pdu_puts : (len : Option ℕ) → Puts (put_pdu_by s len)
    pdu_puts None = tt
    pdu_puts (Some len) =
        by_test Puts (lets_pdu s len) _ None (λ e. quiet s _ h) (λ e. tt)

    -- END/A1
    closes : is_open s.phase ≡ true
        → Of Answers Rises Comes came put (record (seen s) { end_put = true })
    closes open' =
        let o = open_is s.phase open' in
        record {
          fresh = λ f. absurd (true≢false (sym f ∙ o.0));
          ins = h.ins;
          outs = h.outs;
          over = λ f. absurd (true≢false (sym f ∙ o.1));
        }

    end_puts : Puts (put_end s)
    unfolding put_end
    end_puts =
        by_test Puts (is_end_due s && fits s.writing.meter END_A1_LEN)
        (Some (
          record s { writing = with_end_put (metered s.writing END_A1_LEN) },
          Packet named.EndA1,
        )) None
        (λ e. more (record (seen s) { end_put = true }) (Packet named.EndA1)
        (closes (and_parts (is_open s.phase) s.is_closing
        (and_parts (is_open s.phase && s.is_closing) _
        (and_parts (is_end_due s) (fits s.writing.meter END_A1_LEN) e).0).0).0))
        (λ e. tt)

    next_message : leg.kind ≡ ClientIn → Puts (put_next s)
    unfolding put_next put_due put_ack put_ack_of put_pdu put_ping
    next_message k =
        or_puts (due_by s s.replacement) _ (due_puts s.replacement refl)
        (or_puts (put_ack s) _
        (or_puts (ack_by s Current (ack_due s Current)) (ack_by s Next (ack_due s Next))
        (current_puts k (ack_due s Current) current_due)
        (next_puts (ack_due s Next) next_due))
        (or_puts (put_pdu s) _ (pdu_puts (front_length s.queue))
        (or_puts (put_end s) (put_ping s) end_puts
        (by_test Puts (s.writing.is_ping_due && may_put s.writing.meter PING_LEN) _ None
        (λ e. quiet s _ h) (λ e. tt)))))

    -- the leg of the writing channel, or of its successor, is up as before
    writing_stays : (o other : Opening) → s.writing.opening ≡ o → is_up other ≡ is_up o
        → Of Answers Rises Comes came put
        (record (seen s) { writing = record (in_seen s.writing) { up = is_up other } })
    writing_stays o other e f =
        subst (λ (b : Bool). Of Answers Rises Comes came put
        (record (seen s) { writing = record (in_seen s.writing) { up = b } }))
        (ap is_up e ∙ sym f) h

    successor_stays : (o other : Opening) → s.in_successor.opening ≡ o → is_up other ≡ is_up o
        → Of Answers Rises Comes came put
        (record (seen s) {
          in_successor = record (in_seen s.in_successor) { up = is_up other };
        })
    successor_stays o other e f =
        subst (λ (b : Bool). Of Answers Rises Comes came put
        (record (seen s) { in_successor = record (in_seen s.in_successor) { up = b } }))
        (ap is_up e ∙ sym f) h

    writing_puts : (o : Opening) → s.writing.opening ≡ o → leg.kind ≡ ClientIn
        → Puts (put_writing s o)
    unfolding put_writing put_conn_b1
    writing_puts NotUp e k = tt
    writing_puts Request e k =
        more (record (seen s) { writing = record (in_seen s.writing) { up = true } }) _
        (writing_stays Request First e refl)
    writing_puts First e k =
        by_test Puts (may_put s.writing.meter CONN_B1_LEN) _ None
        (λ f. more (record (seen s) { writing = record (in_seen s.writing) { up = true } }) _
        (writing_stays First Put e refl)) (λ f. tt)
    writing_puts Second e k = tt
    writing_puts Put e k = next_message k

    in_successor_puts : (o : Opening) → s.in_successor.opening ≡ o
        → Puts (put_in_successor s o)
    unfolding put_in_successor put_in_r1_a1 put_successor_ping
    in_successor_puts NotUp e = tt
    in_successor_puts Request e =
        more (record (seen s) {
          in_successor = record (in_seen s.in_successor) { up = true };
        }) _ (successor_stays Request First e refl)
    in_successor_puts First e =
        by_test Puts (may_put s.in_successor.meter IN_R1_A1_LEN) _ None
        (λ f. more (record (seen s) {
          in_successor = record (in_seen s.in_successor) { up = true };
        }) _ (successor_stays First Put e refl)) (λ f. tt)
    in_successor_puts Second e = tt
    in_successor_puts Put e =
        by_test Puts (s.in_successor.is_ping_due && may_put s.in_successor.meter PING_LEN) _ None
        (λ f. quiet s _ h) (λ f. tt)

    in_puts : leg.kind ≡ ClientIn → (n : ℕ) → Puts (put_in s n)
    unfolding put_in
    in_puts k n =
        by_test Puts (is_writing s n) (put_writing s s.writing.opening)
        (if is_in_successor s n then put_in_successor s s.in_successor.opening else None)
        (λ e. writing_puts s.writing.opening refl k)
        (λ e. by_test Puts (is_in_successor s n) (put_in_successor s s.in_successor.opening) None
        (λ f. in_successor_puts s.in_successor.opening refl) (λ f. tt))

    -- ---- on OUT channels

    -- so much was put of what the leg begins with
    current_at : (o : Opening) → s.current.opening ≡ o
        → Of Answers Rises Comes came put (record (seen s) {
          current = record (out_seen s.current) { up = is_up o; asked = is_asked o };
        })
    current_at o e =
        subst (λ (p : Opening). Of Answers Rises Comes came put (record (seen s) {
          current = record (out_seen s.current) { up = is_up p; asked = is_asked p };
        })) e h

    next_at : (o : Opening) → s.out_successor.opening ≡ o
        → Of Answers Rises Comes came put (record (seen s) {
          out_successor = record (out_seen s.out_successor) {
            up = is_up o;
            asked = is_asked o;
          };
        })
    next_at o e =
        subst (λ (p : Opening). Of Answers Rises Comes came put (record (seen s) {
          out_successor = record (out_seen s.out_successor) {
            up = is_up p;
            asked = is_asked p;
          };
        })) e h

    -- CONN/A1
    current_begins : s.current.opening ≡ First → leg.kind ≡ ClientOut
        → leg.number ≡ s.current.number
        → With (seen (record s { current = begun_out s.current Put })) (Packet (conn_a1 s))
    current_begins e k number =
        let later = more (record (seen s) {
          current = record (out_seen s.current) { up = true; asked = false };
        }) (Packet (conn_a1 s)) (current_at First e) in
        record {
          fresh = later.fresh;
          ins = later.ins;
          outs = record {
            follows = later.outs.follows;
            next_up = later.outs.next_up;
            up = later.outs.up;
            size_is = later.outs.size_is;
            acked = later.outs.acked;
            next_window = later.outs.next_window;
            next_held = later.outs.next_held;
            next_size = later.outs.next_size;
            begun = λ f.
                now_has (OpensTo s.config.window) ClientOut s.current.number put
                (leg, Packet (conn_a1 s)) k number (inl (omega arith));
            next_begun = later.outs.next_begun;
            finished = later.outs.finished;
            there = later.outs.there;
          };
          over = later.over;
        }

    -- OUT_R1/A3
    next_begins : s.out_successor.opening ≡ First → leg.kind ≡ ClientOut
        → leg.number ≡ s.out_successor.number
        → With (seen (record s { out_successor = begun_out s.out_successor Second }))
        (Packet (out_r1_a3 s))
    next_begins e k number =
        let later = more (record (seen s) {
          out_successor = record (out_seen s.out_successor) { up = true; asked = false };
        }) (Packet (out_r1_a3 s)) (next_at First e) in
        record {
          fresh = later.fresh;
          ins = later.ins;
          outs = record {
            follows = later.outs.follows;
            next_up = later.outs.next_up;
            up = later.outs.up;
            size_is = later.outs.size_is;
            acked = later.outs.acked;
            next_window = later.outs.next_window;
            next_held = later.outs.next_held;
            next_size = later.outs.next_size;
            begun = later.outs.begun;
            next_begun = λ f.
                now_has (OpensTo s.config.window) ClientOut s.out_successor.number put
                (leg, Packet (out_r1_a3 s)) k number (inl (omega arith));
            finished = later.outs.finished;
            there = later.outs.there;
          };
          over = later.over;
        }

    now_puts : (o : Opening) → s.current.opening ≡ o → leg.kind ≡ ClientOut
        → leg.number ≡ s.current.number → Puts (put_current s o)
    unfolding put_current
    now_puts NotUp e k number = tt
    now_puts Request e k number =
        more (record (seen s) {
          current = record (out_seen s.current) { up = true; asked = false };
        }) _ (current_at Request e)
    now_puts First e k number = current_begins e k number
    now_puts Second e k number = tt
    now_puts Put e k number = tt

    out_successor_puts : (o : Opening) → s.out_successor.opening ≡ o → leg.kind ≡ ClientOut
        → leg.number ≡ s.out_successor.number → Puts (put_out_successor s o)
    unfolding put_out_successor
    out_successor_puts NotUp e k number = tt
    out_successor_puts Request e k number =
        more (record (seen s) {
          out_successor = record (out_seen s.out_successor) { up = true; asked = false };
        }) _ (next_at Request e)
    out_successor_puts First e k number = next_begins e k number
    out_successor_puts Second e k number =
        more (record (seen s) {
          out_successor = record (out_seen s.out_successor) { up = true; asked = true };
        }) _ (next_at Second e)
    out_successor_puts Put e k number = tt

    out_puts : leg.kind ≡ ClientOut → Puts (put_out s leg.number)
    unfolding put_out
    out_puts k =
        by_test Puts (is_current s leg.number) (put_current s s.current.opening)
        (if is_out_successor s leg.number then put_out_successor s s.out_successor.opening
        else None)
        (λ e. now_puts s.current.opening refl k (same_number leg.number s.current.number e))
        (λ e. by_test Puts (is_out_successor s leg.number)
        (put_out_successor s s.out_successor.opening) None
        (λ f. out_successor_puts s.out_successor.opening refl k
        (same_number leg.number s.out_successor.number
        (and_parts (is_out s.replacement) (leg.number == s.out_successor.number) f).1))
        (λ f. tt))

    -- ---- the next message of a leg

    kind_puts : (kind : LegKind) → leg.kind ≡ kind → Puts (put_by s leg.number kind)
    unfolding put_by
    kind_puts ClientOut k = out_puts k
    kind_puts ClientIn k = in_puts k leg.number
    kind_puts OutServer k = tt
    kind_puts InServer k = tt

  settled_puts : (pick : Pick) → Puts pick → Puts (settled_pick pick)
  settled_puts None h = tt
  settled_puts (Some pick) h =
      settled_or_wished_holds Answers Rises Comes came (put ++ (leg, pick.1) ∷ []) pick.0 h

  pub put_fits : (s : ClientRole) → Holds s came put
      → Puts (settled_pick (put_by s leg.number leg.kind))
  put_fits s h = settled_puts (put_by s leg.number leg.kind) (kind_puts s h leg.kind refl)
