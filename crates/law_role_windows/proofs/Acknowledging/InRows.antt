-- the packets that come to an in proxy, and the channels that it reads
use Rattle.law_order.proofs.Vocabulary.{◌≡◌, ℕ, ◌+◌, ◌==◌, Bool, true, false, true≢false, not, ◌&&◌, ◌||◌, List, [], ◌∷◌, ◌++◌, Some, None, arith, refl, rules, sym, ap, ◌∙◌, subst, and_parts, nat_tests, if◌then◌else◌, Option}
use Rattle.rh_line.specs.Lines as line
use Rattle.rh_shell.specs.declared.answers.Refused.TheVariants as refused
use Rattle.rh_shell.specs.Waiting as waits
use Rattle.rh_inproxy.specs.declared.opening.TheConstants.{KEEPALIVE}
use Rattle.rh_inproxy.specs.declared.state.ClientLeg.{ClientLeg}
use Rattle.rh_inproxy.specs.declared.state.Entry.TheVariants.{Connects, Replaces}
use Rattle.rh_inproxy.specs.declared.state.Joining.{Joining}
use Rattle.rh_inproxy.specs.declared.state.Joining.TheVariants.{TellsServer, Told, Follows}
use Rattle.rh_inproxy.specs.declared.state.Opener.{Opener}
use Rattle.rh_inproxy.specs.declared.state.Opening.{Opening}
use Rattle.rh_inproxy.specs.declared.state.Successor.{Successor}
use Rattle.rh_inproxy.specs.declared.state.Successor.TheVariants.{Absent, Up, Joined}
use Rattle.rh_inproxy.specs.Answers.{Done, taken, refuse, unexpected}
use Rattle.rh_inproxy.specs.State.{InProxy, next_of, has_opened, has_a5, is_joined, same_cookie, is_client_leg, is_server_leg}
use Rattle.rh_inproxy.specs.Opening.{is_first, awaits_packet, opener_of, opener, opened, leg_of, kept_for, on_conn_b1, on_first_in_r1_a1}
use Rattle.rh_inproxy.specs.Acknowledging.{forward_by, forwarded}
use Rattle.rh_inproxy.specs.Ending.{has_later, on_end_a1}
use Rattle.rh_inproxy.specs.InReplacement.{is_newcomer, joined, join, on_later_in_r1_a1, on_in_r1_a1, on_in_r1_a5, finished, finish_by, hand_over}
use Rattle.rh_inproxy.specs.Time.{on_keep_alive}
use Rattle.rh_inproxy.specs.Machine.{packet, on_channel, on_channel_by, on_ci, on_is}
use Rattle.rh_inproxy.specs.declared.state.Opening.TheVariants as openings
use Rattle.law_moves.proofs.Vocabulary.{by_test, Cookie, Named, ConnB1, InR1A1, InR1A5, AckTo, OutR1A7, OutR1A8, KeepAlive, EndA1, Incoming, Leg, Which, Current, Next, Count, Message, Packet, Forwarded, count, OnLeg, of_leg, BeginsIn, HasBegunIn}
use Rattle.law_moves.proofs.Lemmas.{RowKeeps}
use Rattle.law_role_windows.proofs.Acknowledging.Legs.{leg_begins}
use Rattle.law_role_windows.proofs.Acknowledging.Waiting.{Joins, forwarded_joins}
use Rattle.law_role_windows.proofs.Acknowledging.InAcks.{IsNextNumber, newcomer_number, IsTold, told_joins, AreAcks, acks_so, IsOther}
use Rattle.law_role_windows.proofs.Acknowledging.InChannels.{Counts, IsBehind, WasTold, Channels, moved_channels, moved_begun}
use Rattle.law_role_windows.proofs.Acknowledging.InPdus.{Same, opened_by}
use Rattle.law_role_windows.proofs.Acknowledging.InPdus as pdus
use Rattle.law_role_windows.specs.Acknowledging.Acks.{ci_leg as ci}

-- ---- what leaves these alone

same_is : (s : InProxy) (named : Named) → Same s (on_is s named).0
same_is s named = search rules

same_keep_alive : (s : InProxy) (which : Which) (n : ℕ) → Same s (on_keep_alive s which n).0
same_keep_alive s which n = search rules

itself : (n : ℕ) → (n == n) ≡ true
itself n = grind (arith, nat_tests)

module _ (window : ℕ) where
  abbrev Holds : InProxy → List OnLeg → List OnLeg → Type 0
  Holds = pdus.Holds window

  module _ (s : InProxy) (leg : Leg) (came put : List OnLeg) (h : Holds s came put) where
    more : (m : Message) → Holds s (came ++ (leg, m) ∷ []) put
    more = pdus.more window s leg came put h

    keep_row : (m : Message) (x : Done) → Holds x.0 came put
        → RowKeeps Holds (leg, m) came put x
    keep_row = pdus.keep_row window s leg came put h

    same_row : (m : Message) (x : Done) → Same s x.0 → RowKeeps Holds (leg, m) came put x
    same_row = pdus.same_row window s leg came put h

    -- ---- the first packet of a channel

    opens_row : (m : Named) (o : Opener) (keepalive : ℕ)
        → HasBegunIn o.channel (of_leg (ci s.current.number) (came ++ (leg, Packet m) ∷ []))
        → RowKeeps Holds (leg, Packet m) came put (opened s o keepalive)
    opens_row m o keepalive begun =
        let k = more (Packet m) in
        record {
          channels = record {
            size = k.channels.size;
            there = k.channels.there;
            finished = k.channels.finished;
            number = k.channels.number;
            now = k.channels.now;
            behind = k.channels.behind;
            acks = k.channels.acks;
          };
          shut = λ f. absurd (true≢false f);
          begun = λ f. begun;
          others = k.others;
        }

    begins_here : (m : Named) (cookie : Cookie) (n : ℕ) → is_client_leg leg ≡ true
        → (n == leg.number) ≡ true → BeginsIn cookie m
        → HasBegunIn cookie (of_leg (ci n) (came ++ (leg, Packet m) ∷ []))
    begins_here m cookie n e f begins =
        leg_begins (ci n) leg cookie came m (pdus.here window s leg came put h n e f) begins

    b1_row : (v1 : ℕ) (v2 v3 : Cookie) (v4 v5 : ℕ) (v6 : Cookie) → is_client_leg leg ≡ true
        → RowKeeps Holds (leg, Packet (ConnB1 v1 v2 v3 v4 v5 v6)) came put
        (on_conn_b1 s leg.number v2 v3 v5 v6)
    b1_row v1 v2 v3 v4 v5 v6 e =
        by_test (RowKeeps Holds (leg, Packet (ConnB1 v1 v2 v3 v4 v5 v6)) came put)
        (is_first s leg.number)
        (opened s (opener v2 v3 (Connects v6)) (kept_for v5)) (unexpected s)
        (λ f. opens_row (ConnB1 v1 v2 v3 v4 v5 v6) (opener v2 v3 (Connects v6)) (kept_for v5)
        (begins_here (ConnB1 v1 v2 v3 v4 v5 v6) v3 s.current.number e
        (and_parts (awaits_packet s.opening) (s.current.number == leg.number) f).1 refl))
        (λ f. h)

    opener_opened : (o : Opening) (x : Opener) → opener_of o ≡ Some x → has_opened o ≡ true
    opener_opened openings.AwaitsClient x e = absurd cc
    opener_opened openings.AwaitsPacket x e = absurd cc
    opener_opened (openings.WantsServer o) x e = refl
    opener_opened (openings.Announces o) x e = refl
    opener_opened (openings.Announced o) x e = refl

    a1_row : (v1 : ℕ) (v2 v3 v4 : Cookie) → is_client_leg leg ≡ true
        → RowKeeps Holds (leg, Packet (InR1A1 v1 v2 v3 v4)) came put
        (on_in_r1_a1 s leg.number v2 v3 v4)
    a1_row v1 v2 v3 v4 e =
        by_test Row (is_first s leg.number) (on_first_in_r1_a1 s v2 v3 v4)
        (on_later_in_r1_a1 s (opener_of s.opening) leg.number v2 v3 v4)
        (λ f. opens_row m (opener v2 v4 (Replaces v3)) KEEPALIVE
        (begins_here m v4 s.current.number e
        (and_parts (awaits_packet s.opening) (s.current.number == leg.number) f).1 refl))
        (λ f. later (opener_of s.opening) refl)
      where
        m : Named
        m = InR1A1 v1 v2 v3 v4

        Row : Done → Type 0
        Row x = RowKeeps Holds (leg, Packet m) came put x

        joins : has_opened s.opening ≡ true → is_newcomer s.successor leg.number ≡ true
            → Row (taken (joined s leg.number v4))
        joins opened' new =
            let k = more (Packet m) in
            let size = h.channels.size in
            let number : leg.number ≡ s.current.number + 1 =
            newcomer_number s.current.number leg.number s.successor new h.channels.number in
            let behind = TellsServer (count Forwarded s.waiting.due) in
            record {
              channels = record {
                size = size;
                there = refl;
                finished = λ f. refl;
                number = number;
                now = k.channels.now;
                behind = (
                  record {
                    received = omega arith;
                    told = omega (arith, size);
                    counted = refl;
                    size = size;
                  },
                  begins_here m v4 leg.number e (itself leg.number) refl,
                );
                acks = acks_so window (came ++ (leg, Packet m) ∷ [])
                    (WasTold s.line s.current s.successor)
                    (IsTold s.current.number s.line.current.window.told
                    (Joined (leg_of leg.number v4) behind) s.line.size)
                    (told_joins s.current.number s.line.current.window.told
                    s.line.next.window.told s.line.size leg.number v4 behind s.successor new number)
                    put k.channels.acks;
              };
              shut = λ f. absurd (true≢false (sym opened' ∙ f));
              begun = k.begun;
              others = k.others;
            }

        later : (o : Option Opener) → opener_of s.opening ≡ o
            → Row (on_later_in_r1_a1 s o leg.number v2 v3 v4)
        later None f = h
        later (Some o) f =
            by_test Row (is_newcomer s.successor leg.number) (join s o leg.number v2 v3 v4)
            (unexpected s)
            (λ g. by_test Row (not (same_cookie o.connection v2))
            (refuse s (refused.Cookie o.connection v2))
            (if not (same_cookie s.current.cookie v3)
            then refuse s (refused.Cookie s.current.cookie v3)
            else taken (joined s leg.number v4))
            (λ i. h)
            (λ i. by_test Row (not (same_cookie s.current.cookie v3))
            (refuse s (refused.Cookie s.current.cookie v3)) (taken (joined s leg.number v4))
            (λ j. h) (λ j. joins (opener_opened s.opening o f) g)))
            (λ g. h)

    -- ---- behind the first packet

    forward_row : (m named : Named) → IsOther named
        → RowKeeps Holds (leg, Packet m) came put (forwarded s named)
    forward_row m named other =
        by (waits.forwarded s.waiting named) (forwarded_joins IsOther s.waiting named)
      where
        k : Holds s (came ++ (leg, Packet m) ∷ []) put
        k = more (Packet m)

        by : (r : waits.Waiting × Bool) → Joins IsOther named s.waiting r
            → RowKeeps Holds (leg, Packet m) came put (forward_by s r)
        by (w, true) joins = record {
          channels = k.channels;
          shut = k.shut;
          begun = k.begun;
          others = joins other k.others;
        }
        by (w, false) same =
            subst (λ (v : waits.Waiting). Holds (record s { waiting = v }) came put) (sym same) h

    end_row : (which : Which) → has_opened s.opening ≡ true
        → RowKeeps Holds (leg, Packet EndA1) came put (on_end_a1 s which)
    end_row which opened' =
        by_test (RowKeeps Holds (leg, Packet EndA1) came put)
        (has_a5 s which || (line.channel_of s.line which).ended || has_later s which)
        (unexpected s) (taken (record s { line = line.after_end s.line which })) (λ e. h)
        (λ e. keep_row (Packet EndA1) (taken (record s { line = line.after_end s.line which }))
        (record {
          channels = by which;
          shut = λ f. absurd (true≢false (sym opened' ∙ f));
          begun = h.begun;
          others = h.others;
        }))
      where
        ended : (c : Incoming) (ms : List Message) → Counts window c ms
            → Counts window (line.with_end c) ms
        ended c ms k = record {
          received = k.received;
          told = k.told;
          counted = k.counted;
          size = k.size;
        }

        behind : (z : Successor) → IsBehind window z s.line.next came
            → IsBehind window z (line.with_end s.line.next) came
        behind (Joined client stage) b =
            (ended s.line.next (of_leg (ci client.number) came) b.0, b.1)
        behind (Up number) b = tt
        behind Absent b = tt

        by : (w : Which)
            → Channels window (line.after_end s.line w) s.current s.successor came put
        by Current = record {
          size = h.channels.size;
          there = h.channels.there;
          finished = h.channels.finished;
          number = h.channels.number;
          now = ended s.line.current (of_leg (ci s.current.number) came) h.channels.now;
          behind = h.channels.behind;
          acks = h.channels.acks;
        }
        by Next = record {
          size = h.channels.size;
          there = h.channels.there;
          finished = h.channels.finished;
          number = h.channels.number;
          now = h.channels.now;
          behind = behind s.successor h.channels.behind;
          acks = h.channels.acks;
        }

    finish : (client : ClientLeg) (stage : Joining) → s.successor ≡ Joined client stage
        → Holds (finished s client) came put
    finish client stage e =
        let behind =
        subst (λ (z : Successor). IsBehind window z s.line.next came) e h.channels.behind in
        let there : s.line.has_next ≡ true = h.channels.there ∙ ap is_joined e in
        let opened' = opened_by window s came put h (ap is_joined e) in
        let l = record (s.line) { finished = true } in
        record {
          channels = moved_channels window l s.current (Joined client Follows) came put (record {
            size = h.channels.size;
            there = there;
            finished = λ f. there;
            number = subst (IsNextNumber s.current.number) e h.channels.number;
            now = h.channels.now;
            behind = behind;
            acks = subst (λ (z : Successor). AreAcks window came (WasTold s.line s.current z) put) e
                h.channels.acks;
          });
          shut = λ f. absurd (true≢false (sym opened' ∙ f));
          begun = λ f.
              moved_begun window (line.settled l).has_next s.current (Joined client Follows)
              s.line.next came behind (h.begun opened');
          others = h.others;
        }

    finish_row : (m : Named) (z : Successor) (cookie : Cookie) → s.successor ≡ z
        → RowKeeps Holds (leg, Packet m) came put (finish_by s z cookie)
    finish_row m Absent cookie e = more (Packet m)
    finish_row m (Up number) cookie e = h
    finish_row m (Joined client (TellsServer behind)) cookie e = h
    finish_row m (Joined client Follows) cookie e = h
    finish_row m (Joined client Told) cookie e =
        by_test (RowKeeps Holds (leg, Packet m) came put) (same_cookie client.cookie cookie)
        (taken (finished s client)) (refuse s (refused.Cookie client.cookie cookie))
        (λ f. keep_row (Packet m) (taken (finished s client)) (finish client Told e)) (λ f. h)

    a5_row : (m : Named) (which : Which) (cookie : Cookie)
        → RowKeeps Holds (leg, Packet m) came put (on_in_r1_a5 s which cookie)
    a5_row m which cookie =
        by_test (RowKeeps Holds (leg, Packet m) came put) (has_a5 s which) (unexpected s)
        (hand_over s which cookie) (λ e. h) (λ e. by which)
      where
        by : (w : Which) → RowKeeps Holds (leg, Packet m) came put (hand_over s w cookie)
        by Current = finish_row m s.successor cookie refl
        by Next = more (Packet m)

    channel_row : (which : Which) (m : Named) → has_opened s.opening ≡ true
        → RowKeeps Holds (leg, Packet m) came put (on_channel s which m)
    channel_row which (AckTo to received available channel) e =
        by_test (RowKeeps Holds (leg, Packet (AckTo to received available channel)) came put)
        (not (has_a5 s which) && (to == 3)) (forwarded s (AckTo 3 received available channel))
        (unexpected s)
        (λ t. forward_row (AckTo to received available channel)
        (AckTo 3 received available channel) (λ f. absurd (omega (arith, f)))) (λ t. h)
    channel_row which (OutR1A7 to successor) e =
        by_test (RowKeeps Holds (leg, Packet (OutR1A7 to successor)) came put)
        (not (has_a5 s which) && (to == 2)) (forwarded s (OutR1A8 2 successor)) (unexpected s)
        (λ t. forward_row (OutR1A7 to successor) (OutR1A8 2 successor) tt) (λ t. h)
    channel_row which (KeepAlive keepalive) e =
        same_row (Packet (KeepAlive keepalive)) (on_keep_alive s which keepalive)
        (same_keep_alive s which keepalive)
    channel_row which EndA1 e = end_row which e
    channel_row which (InR1A5 successor) e = a5_row (InR1A5 successor) which successor
    channel_row which m e = h

    next_row : (m : Named) (z : Successor) → s.successor ≡ z
        → RowKeeps Holds (leg, Packet m) came put (on_channel_by s (next_of z leg.number) m)
    next_row m Absent e = h
    next_row m (Up number) e = h
    next_row m (Joined client stage) e =
        by_test (λ (o : Option Which).
        RowKeeps Holds (leg, Packet m) came put (on_channel_by s o m))
        (client.number == leg.number) (Some Next) None
        (λ f. channel_row Next m (opened_by window s came put h (ap is_joined e))) (λ f. h)

    ci_row : (m : Named) → is_client_leg leg ≡ true
        → RowKeeps Holds (leg, Packet m) came put (on_ci s leg.number m)
    ci_row (ConnB1 v1 v2 v3 v4 v5 v6) e = b1_row v1 v2 v3 v4 v5 v6 e
    ci_row (InR1A1 v1 v2 v3 v4) e = a1_row v1 v2 v3 v4 e
    ci_row m e =
        by_test (λ (o : Option Which).
        RowKeeps Holds (leg, Packet m) came put (on_channel_by s o m))
        (has_opened s.opening && (s.current.number == leg.number)) (Some Current)
        (next_of s.successor leg.number)
        (λ f. channel_row Current m
        (and_parts (has_opened s.opening) (s.current.number == leg.number) f).0)
        (λ f. next_row m s.successor refl)

    pub packet_row : (count : Count) (m : Named)
        → RowKeeps Holds (leg, Packet m) came put (packet s leg count m)
    packet_row count m =
        by_test (RowKeeps Holds (leg, Packet m) came put) (is_client_leg leg)
        (on_ci s leg.number m) (if is_server_leg s leg then on_is s m else unexpected s)
        (λ e. ci_row m e)
        (λ e. by_test (RowKeeps Holds (leg, Packet m) came put) (is_server_leg s leg)
        (on_is s m) (unexpected s) (λ f. same_row (Packet m) (on_is s m) (same_is s m)) (λ f. h))
