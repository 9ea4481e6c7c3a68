-- what an in proxy puts, and the channels that it reads
use Rattle.rh_window.specs.Receiving as windows
use Rattle.law_order.proofs.Vocabulary.{◌≡◌, ℕ, ◌+◌, ◌-◌, ◌≤◌, ◌==◌, Bool, true, false, true≢false, ◌||◌, List, [], ◌∷◌, ◌++◌, length, Some, None, arith, refl, rules, sym, ap, ◌∙◌, subst, if◌then◌else◌, IfSome, Option}
use Rattle.rh_line.specs.Lines as line
use Rattle.rh_shell.specs.Waiting as waits
use Rattle.rh_inproxy.specs.declared.state.ClientLeg.{ClientLeg}
use Rattle.rh_inproxy.specs.declared.state.Entry.{Entry}
use Rattle.rh_inproxy.specs.declared.state.Entry.TheVariants.{Connects, Replaces}
use Rattle.rh_inproxy.specs.declared.state.Joining.{Joining}
use Rattle.rh_inproxy.specs.declared.state.Joining.TheVariants.{TellsServer, Told, Follows}
use Rattle.rh_inproxy.specs.declared.state.Opener.{Opener}
use Rattle.rh_inproxy.specs.declared.state.Opening.{Opening}
use Rattle.rh_inproxy.specs.declared.state.Successor.{Successor}
use Rattle.rh_inproxy.specs.declared.state.Successor.TheVariants.{Absent, Up, Joined}
use Rattle.rh_inproxy.specs.declared.state.Work.{Work}
use Rattle.rh_inproxy.specs.Answers.{Pick, or_else}
use Rattle.rh_inproxy.specs.State.{InProxy, has_opened, has_a5, is_joined, is_client_leg, is_server_leg}
use Rattle.rh_inproxy.specs.Opening.{announcement, first_by, put_first, echo_by, put_echo}
use Rattle.rh_inproxy.specs.Acknowledging.{ack_due, ack_by, current_ack, next_ack, put_acks}
use Rattle.rh_inproxy.specs.Ending.{put_end, settled, settled_pick}
use Rattle.rh_inproxy.specs.InReplacement.{told_by, put_in_r2_a2, one_less, put_in_r1_a6}
use Rattle.rh_inproxy.specs.Passing.{passed, next_pdu, put_pdu}
use Rattle.rh_inproxy.specs.Putting.{put as put_of, next, waiting_by, put_waiting, put_control, put_early, put_stream, put_behind, put_mark}
use Rattle.rh_inproxy.specs.Time.{put_ping}
use Rattle.rh_inproxy.specs.Machine.{pdu}
use Rattle.rh_inproxy.specs.declared.state.Opening.TheVariants as openings
use Rattle.law_moves.proofs.Vocabulary.{IsWindow, may_send, Ack, by_test, InR2A2, AckTo, Line, Leg, Which, Current, Next, Due, Message, Pdu, Packet, OnLeg, of_leg}
use Rattle.law_moves.proofs.Lemmas.{PutKeeps}
use Rattle.law_role_windows.proofs.Acknowledging.Waiting.{EachIs}
use Rattle.law_role_windows.proofs.Acknowledging.InAcks.{IsNextNumber, IsTold, now_told, IsAck, AreAcks, IsOther, other_ack}
use Rattle.law_role_windows.proofs.Acknowledging.InChannels.{told_counts, IsDue, due_is, IsBehind, WasTold, Channels, channels_put, opened_held, first_due, current_due, moved_begun, taken_channels}
use Rattle.law_role_windows.proofs.Acknowledging.InPdus.{seen, Same, same_settled, same_holds, opened_by, acks_rise}
use Rattle.law_role_windows.proofs.Acknowledging.InPdus as pdus
use Rattle.law_role_windows.specs.Acknowledging.Acks.{ci_leg as ci, OfPacket}

module _ (window : ℕ) (is : IsWindow window) where
  abbrev Holds : InProxy → List OnLeg → List OnLeg → Type 0
  Holds = pdus.Holds window

  module _ (leg : Leg) (came put : List OnLeg) where
    abbrev Puts : Pick → Type 0
    Puts pick = PutKeeps Holds leg came put pick

    -- the message is no false acknowledgement
    abbrev Is : InProxy → Message → Type 0
    Is t m = OfPacket (IsAck window came (WasTold t.line t.current t.successor)) (leg, m)

    put_one : (t : InProxy) (m : Message) → Is t m → Holds t came put
        → Holds t came (put ++ (leg, m) ∷ [])
    put_one t m is_ack h = record {
      channels =
          channels_put window t.line t.current t.successor came put (leg, m) is_ack h.channels;
      shut = h.shut;
      begun = h.begun;
      others = h.others;
    }

    abbrev Quiet : InProxy → Pick → Type 0
    Quiet s pick = IfSome pick (λ (one : InProxy × Message). Same s one.0 × Is one.0 one.1)

    quiet_put : (s : InProxy) (pick : Pick) → Quiet s pick → Holds s came put → Puts pick
    quiet_put s None quiet h = tt
    quiet_put s (Some one) quiet h =
        put_one one.0 one.1 quiet.1 (same_holds window s one.0 came put quiet.0 h)

    or_put : (a b : Pick) → Puts a → Puts b → Puts (or_else a b)
    or_put None b h k = k
    or_put (Some pick) b h k = h

    announced : (s t : InProxy) (o : Opener) (entry : Entry)
        → Is t (Packet (announcement s o entry))
    announced s t o (Connects group) = tt
    announced s t o (Replaces predecessor) = tt

    first_put : (s : InProxy) (o : Opening) → s.opening ≡ o → Holds s came put
        → Puts (first_by s o)
    first_put s (openings.Announces o) e h =
        put_one (record s { opening = openings.Announced o }) (Packet (announcement s o o.entry))
        (announced s (record s { opening = openings.Announced o }) o o.entry)
        (same_holds window s (record s { opening = openings.Announced o }) came put
        (ap (λ (x : Opening). record (seen s) { opened = has_opened x }) (sym e)) h)
    first_put s openings.AwaitsClient e h = tt
    first_put s openings.AwaitsPacket e h = tt
    first_put s (openings.WantsServer o) e h = tt
    first_put s (openings.Announced o) e h = tt

    -- the stage of the successor is another
    staged : (s : InProxy) (client : ClientLeg) (stage other : Joining)
        → s.successor ≡ Joined client stage → Holds s came put
        → Holds (record s { successor = Joined client other }) came put
    staged s client stage other e h = record {
      channels = record {
        size = h.channels.size;
        there = h.channels.there ∙ ap is_joined e;
        finished = h.channels.finished;
        number = subst (IsNextNumber s.current.number) e h.channels.number;
        now = h.channels.now;
        behind =
            subst (λ (z : Successor). IsBehind window z s.line.next came) e h.channels.behind;
        acks = subst (λ (z : Successor). AreAcks window came (WasTold s.line s.current z) put) e
            h.channels.acks;
      };
      shut = h.shut;
      begun = h.begun;
      others = h.others;
    }

    told_put : (s : InProxy) (z : Successor) → s.successor ≡ z → Holds s came put
        → Puts (told_by s z)
    told_put s Absent e h = tt
    told_put s (Up number) e h = tt
    told_put s (Joined client Told) e h = tt
    told_put s (Joined client Follows) e h = tt
    told_put s (Joined client (TellsServer behind)) e h =
        by_test Puts (behind == 0)
        (Some (record s { successor = Joined client Told }, Packet (InR2A2 client.cookie))) None
        (λ f. put_one (record s { successor = Joined client Told }) (Packet (InR2A2 client.cookie))
        tt (staged s client (TellsServer behind) Told e h)) (λ f. tt)

    less : (s : InProxy) (z : Successor) → s.successor ≡ z → Holds s came put
        → Holds (record s { successor = one_less z }) came put
    less s Absent e h = subst (λ (z : Successor). Holds (record s { successor = z }) came put) e h
    less s (Up number) e h =
        subst (λ (z : Successor). Holds (record s { successor = z }) came put) e h
    less s (Joined client Told) e h = staged s client Told Told e h
    less s (Joined client Follows) e h = staged s client Follows Follows e h
    less s (Joined client (TellsServer behind)) e h =
        staged s client (TellsServer behind) (TellsServer (behind - 1)) e h

    waiting_put : (s : InProxy) (dues : List Due) → s.waiting.due ≡ dues → Holds s came put
        → Puts (waiting_by s dues)
    waiting_put s [] e h = tt
    waiting_put s (due ∷ dues) e h =
        let all = subst (EachIs IsOther) e h.others in
        let k = less s s.successor refl h in
        let t : InProxy = record s {
          waiting = waits.with_due s.waiting dues;
          successor = one_less s.successor;
        } in
        put_one t (Packet due.packet)
        (other_ack window came (WasTold t.line t.current t.successor) due.packet all.0) (record {
          channels = k.channels;
          shut = k.shut;
          begun = k.begun;
          others = all.1;
        })

    -- ---- acknowledgements

    due_else : (b : Bool) (o : Option Ack) (P : Ack → Type 0) → IfSome o P
        → IfSome (if b then None else o) P
    due_else true o P h = tt
    due_else false o P h = h

    -- an acknowledgement for this channel
    abbrev IsDueFor : InProxy → Which → ClientLeg → Ack → Type 0
    IsDueFor s which client =
        IsDue window (line.channel_of s.line which) (of_leg (ci client.number) came)
        client.cookie

    abbrev acked : InProxy → Which → Ack → InProxy
    acked s which ack = record s { line = line.after_told s.line which ack }

    ack_put : (s : InProxy) (which : Which) (client : ClientLeg) (o : Option Ack)
        → has_opened s.opening ≡ true → IfSome o (IsDueFor s which client)
        → ((ack : Ack)
        → WasTold (acked s which ack).line s.current s.successor client.number
        (ack.received + ack.available))
        → Holds s came put → Puts (ack_by s which client.cookie o)
    ack_put s which client None opened' due at h = tt
    ack_put s which client (Some ack) opened' due at h =
        put_one (acked s which ack) (Packet (AckTo 0 ack.received ack.available client.cookie))
        (λ e. (client.number, due.0, at ack, due.2))
        (record {
          channels = by which due.1;
          shut = λ f. absurd (true≢false (sym opened' ∙ f));
          begun = h.begun;
          others = h.others;
        })
      where
        edge : ℕ
        edge = ack.received + ack.available

        behind : (z : Successor) → s.line.next.window.told ≤ edge
            → IsBehind window z s.line.next came
            → IsBehind window z
            (line.with_window s.line.next (windows.after_told s.line.next.window ack)) came
        behind (Joined other stage) rises k =
            (told_counts window s.line.next ack (of_leg (ci other.number) came) rises k.0, k.1)
        behind (Up number) rises k = tt
        behind Absent rises k = tt

        by : (w : Which) → (line.channel_of s.line w).window.told ≤ edge
            → Channels window (line.after_told s.line w ack) s.current s.successor came put
        by Current rises = record {
          size = h.channels.size;
          there = h.channels.there;
          finished = h.channels.finished;
          number = h.channels.number;
          now = told_counts window s.line.current ack (of_leg (ci s.current.number) came) rises
              h.channels.now;
          behind = h.channels.behind;
          acks = acks_rise window s came put edge s.line.next.window.told rises (omega arith) h;
        }
        by Next rises = record {
          size = h.channels.size;
          there = h.channels.there;
          finished = h.channels.finished;
          number = h.channels.number;
          now = h.channels.now;
          behind = behind s.successor rises h.channels.behind;
          acks = acks_rise window s came put s.line.current.window.told edge (omega arith) rises h;
        }

    -- before the first packet none is due
    current_put : (s : InProxy) → Holds s came put → Puts (current_ack s)
    current_put s h = by (has_opened s.opening) refl
      where
        due : IfSome (ack_due s Current) (IsDueFor s Current s.current)
        due =
            due_else (s.line.current.ended || has_a5 s Current) (line.due s.line Current)
            (IsDueFor s Current s.current)
            (current_due window (has_opened s.opening) s.line s.current s.successor s.waiting.due
            came put is h)

        none : (o : Option Ack) → IfSome o (λ (ack : Ack). ⊥)
            → Puts (ack_by s Current s.current.cookie o)
        none None e = tt
        none (Some ack) e = absurd e

        by : (b : Bool) → has_opened s.opening ≡ b → Puts (current_ack s)
        by true e =
            ack_put s Current s.current (ack_due s Current) e due
            (λ ack. now_told s.current.number (ack.received + ack.available)
            s.line.next.window.told s.successor h.channels.number) h
        by false e =
            none (ack_due s Current)
            (due_else (s.line.current.ended || has_a5 s Current) (line.due s.line Current)
            (λ (ack : Ack). ⊥)
            (subst (λ (l : Line). IfSome (line.due l Current) (λ (ack : Ack). ⊥))
            (sym (h.shut e)) (first_due window (λ (ack : Ack). ⊥))))

    next_put : (s : InProxy) (z : Successor) → s.successor ≡ z → Holds s came put
        → Puts (next_ack s z)
    next_put s Absent e h = tt
    next_put s (Up number) e h = tt
    next_put s (Joined client stage) e h =
        let behind =
        subst (λ (z : Successor). IsBehind window z s.line.next came) e h.channels.behind in
        let number = subst (IsNextNumber s.current.number) e h.channels.number in
        ack_put s Next client (ack_due s Next) (opened_by window s came put h (ap is_joined e))
        (due_else (s.line.next.ended || has_a5 s Next) (line.due s.line Next)
        (IsDueFor s Next client)
        (due_is window s.line.next (of_leg (ci client.number) came) client.cookie is behind.0
        behind.1))
        (λ ack.
        let edge : ℕ = ack.received + ack.available in
        subst (λ (z : Successor).
        IsTold s.current.number s.line.current.window.told z edge client.number edge) (sym e)
        (omega arith, λ same. absurd (omega (arith, number, same)), λ same. omega arith)) h

    -- ---- the rest

    front_put : (s : InProxy) (pdus : List (List ℕ)) → s.line.current.pdus ≡ pdus
        → Holds s came put → Puts (next_pdu s pdus)
    front_put s [] e h = tt
    front_put s (pdu ∷ pdus) e h =
        by_test Puts (may_send s.window (length pdu)) (Some (passed s (length pdu), Pdu pdu)) None
        (λ f. put_one (passed s (length pdu)) (Pdu pdu) tt (record {
          channels =
              taken_channels window s.line s.current s.successor came put s.line.current.pdus refl
              h.channels;
          shut = λ g. absurd (true≢false (sym opened' ∙ g));
          begun = λ g.
              moved_begun window (line.after_take s.line).has_next s.current s.successor
              s.line.next came h.channels.behind (h.begun opened');
          others = h.others;
        })) (λ f. tt)
      where
        opened' : has_opened s.opening ≡ true
        opened' =
            opened_held window (has_opened s.opening) s.line s.current s.successor s.waiting.due
            came put pdu pdus e h

    quiet_end : (s : InProxy) → Quiet s (put_end s)
    quiet_end s = search rules

    quiet_mark : (s : InProxy) → Quiet s (put_in_r1_a6 s)
    quiet_mark s = search rules

    quiet_ping : (s : InProxy) → Quiet s (put_ping s)
    quiet_ping s = search rules

    quiet_echo : (s : InProxy) (work : Work) (n : ℕ) → Quiet s (echo_by s work n)
    quiet_echo s work n = search rules

    server_put : (s : InProxy) → Holds s came put → Puts (next s)
    server_put s h =
        or_put (put_control s) (put_stream s)
        (or_put (put_early s) (put_acks s)
        (or_put (put_first s) _ (first_put s s.opening refl h)
        (or_put (put_in_r2_a2 s) (put_waiting s) (told_put s s.successor refl h)
        (waiting_put s s.waiting.due refl h)))
        (or_put (current_ack s) (next_ack s s.successor) (current_put s h)
        (next_put s s.successor refl h)))
        (or_put (put_pdu s) (put_behind s) (front_put s s.line.current.pdus refl h)
        (or_put (put_mark s) (put_ping s)
        (or_put (put_end s) (put_in_r1_a6 s) (quiet_put s (put_end s) (quiet_end s) h)
        (quiet_put s (put_in_r1_a6 s) (quiet_mark s) h))
        (quiet_put s (put_ping s) (quiet_ping s) h)))

    settled_put : (pick : Pick) → Puts pick → Puts (settled_pick pick)
    settled_put None h = tt
    settled_put (Some pick) h =
        same_holds window pick.0 (settled pick.0) came (put ++ (leg, pick.1) ∷ [])
        (same_settled pick.0) h

    pub puts : (s : InProxy) → Holds s came put → Puts (put_of s leg)
    puts s h =
        by_test Puts (is_client_leg leg) (put_echo s leg.number)
        (if is_server_leg s leg then settled_pick (next s) else None)
        (λ e. quiet_put s (put_echo s leg.number) (quiet_echo s s.work leg.number) h)
        (λ e. by_test Puts (is_server_leg s leg) (settled_pick (next s)) None
        (λ f. settled_put (next s) (server_put s h)) (λ f. tt))
