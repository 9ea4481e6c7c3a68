-- the newest ci leg of an in proxy changes where one comes up alone
use Rattle.law_order.proofs.Vocabulary.{◌≡◌, ℕ, ◌==◌, ◌&&◌, Bool, true, false, not, if◌then◌else◌, List, [], ◌∷◌, length, Some, None, refl, sym, ap, ◌∙◌, rules, and_parts, IfSome, Option}
use Rattle.rh_sig.specs.declared.named.Named.TheVariants as named
use Rattle.rh_line.specs.Lines as line
use Rattle.rh_shell.specs.declared.answers.Refused.TheVariants as refused
use Rattle.rh_shell.specs.Waiting as waiting
use Rattle.rh_inproxy.specs.declared.state.Opening.TheVariants as openings
use Rattle.law_moves.proofs.Vocabulary.{may_send, Ack, by_test, Cookie, Named, Leg, Which, Current, Next, Count, Due, Message, Pdu, Packet}
use Rattle.law_role_inproxy.proofs.Vocabulary.{KEEPALIVE, ClientLeg, Connects, Replaces, TellsServer, Told, Follows, Opener, Opening, Successor, Absent, Up, Joined, forward_by, forwarded, ack_due, ack_by, current_ack, next_ack, put_acks, Done, Pick, or_else, refuse, taken, unexpected, is_newest, mark, on_end_a1, put_end, settled, settled_pick, is_newcomer, joined, join, on_later_in_r1_a1, on_in_r1_a5, finish_by, finished, hand_over, one_less, put_in_r1_a6, put_in_r2_a2}
use Rattle.law_role_inproxy.proofs.Vocabulary.{told_by, head, drawn, awaits_packet, first_by, had_client, is_first, kept_for, leg_of, newest_by, on_first_in_r1_a1, opened, opener, opener_of, put_echo, put_first, next_pdu, passed, put_pdu, put as put_of, next, waiting_by, put_waiting, put_control, put_early, put_stream, put_behind, put_mark, InProxy, channel_of, follows, has_a5, is_client_leg, is_server_leg, same_cookie, on_keep_alive, ping, put_ping, pdu, packet, on_channel}
use Rattle.law_role_inproxy.proofs.Vocabulary.{on_channel_by, on_ci, on_is}
use Rattle.law_role_inproxy.proofs.Refusing.Steps.{newcomer_is}

-- what is seen: the newest ci leg, and whether any came up
pub record Seen : Type 0 where
  pub newest : ℕ
  pub had : Bool

abbrev pub seen : InProxy → Seen
seen s = record { newest = newest_by s.current s.successor; had = had_client s.opening }

abbrev pub Same : InProxy → InProxy → Type 0
Same s t = seen t ≡ seen s

-- ---- what leaves it alone

pub same_head : (s : InProxy) (leg : Leg) (text : List ℕ) → Same s (head s leg text).0
same_head s leg text = search rules

pub same_pdu : (s : InProxy) (leg : Leg) (count : Count) (bytes : List ℕ)
    → Same s (pdu s leg count bytes).0
same_pdu s leg count bytes = search rules

same_keep_alive : (s : InProxy) (which : Which) (keepalive : ℕ)
    → Same s (on_keep_alive s which keepalive).0
same_keep_alive s which keepalive = search rules

same_end : (s : InProxy) (which : Which) → Same s (on_end_a1 s which).0
same_end s which = search rules

same_is : (s : InProxy) (m : Named) → Same s (on_is s m).0
same_is s (named.ConnB3 size version) = search rules
same_is s (named.InR1B2 size) = search rules
same_is s named.InR1B1 = search rules
same_is s (named.Ack received available channel) = search rules
same_is s m = refl

pub same_drawn : (s : InProxy) (leg : Leg) → Same s (drawn s leg)
same_drawn s leg = search rules

same_settled : (s : InProxy) → Same s (settled s)
same_settled s = search rules

pub same_mark : (s : InProxy) (leg : Leg) → Same s (mark s leg)
same_mark s leg =
    same_settled (if is_newest s leg then record s { newest_lost = true } else s)
    ∙ by_test (Same s) (is_newest s leg) _ s (λ e. refl) (λ e. refl)

pub same_ping : (s : InProxy) (leg : Leg) → Same s (ping s leg)
same_ping s leg = search rules

-- ---- the ci leg behind becomes the current one

follow_newest : (b : Bool) (current : ClientLeg) (z : Successor)
    → newest_by (follows b current z).0 (follows b current z).1 ≡ newest_by current z
follow_newest true current z = refl
follow_newest false current Absent = refl
follow_newest false current (Up number) = refl
follow_newest false current (Joined leg stage) = refl

awaits_is : (o : Opening) → awaits_packet o ≡ true → o ≡ openings.AwaitsPacket
awaits_is openings.AwaitsPacket e = refl
awaits_is openings.AwaitsClient e = absurd cc
awaits_is (openings.WantsServer o) e = absurd cc
awaits_is (openings.Announces o) e = absurd cc
awaits_is (openings.Announced o) e = absurd cc

module _ (s : InProxy) where
  abbrev Keeps : Done → Type 0
  Keeps x = Same s x.0

  with_newest : (n : ℕ) → n ≡ newest_by s.current s.successor
      → (let x : Seen = record { newest = n; had = had_client s.opening } in x) ≡ seen s
  with_newest n e =
      ap (λ (k : ℕ). let x : Seen = record { newest = k; had = had_client s.opening } in x) e

  -- ---- rows

  forward_same : (m : Named) → Keeps (forwarded s m)
  forward_same m = by (waiting.forwarded s.waiting m)
    where
      by : (r : waiting.Waiting × Bool) → Keeps (forward_by s r)
      by (w, true) = refl
      by (w, false) = refl

  finish_same : (z : Successor) (cookie : Cookie) → s.successor ≡ z → Keeps (finish_by s z cookie)
  finish_same Absent cookie e = refl
  finish_same (Up number) cookie e = refl
  finish_same (Joined leg (TellsServer behind)) cookie e = refl
  finish_same (Joined leg Follows) cookie e = refl
  finish_same (Joined leg Told) cookie e =
      by_test Keeps (same_cookie leg.cookie cookie) (taken (finished s leg))
      (refuse s (refused.Cookie leg.cookie cookie))
      (λ t. with_newest _
      (follow_newest (line.after_finish s.line).has_next s.current (Joined leg Follows)
      ∙ ap (newest_by s.current) (sym e)))
      (λ t. refl)

  in_r1_a5_same : (which : Which) (cookie : Cookie) → Keeps (on_in_r1_a5 s which cookie)
  in_r1_a5_same which cookie =
      by_test Keeps (has_a5 s which) (unexpected s) (hand_over s which cookie) (λ e. refl)
      (λ e. by which)
    where
      by : (w : Which) → Keeps (hand_over s w cookie)
      by Current = finish_same s.successor cookie refl
      by Next = refl

  channel_same : (which : Which) (m : Named) → Keeps (on_channel s which m)
  channel_same which (named.AckTo to received available channel) =
      by_test Keeps (not (has_a5 s which) && (to == 3))
      (forwarded s (named.AckTo 3 received available channel)) (unexpected s)
      (λ e. forward_same (named.AckTo 3 received available channel)) (λ e. refl)
  channel_same which (named.OutR1A7 to successor) =
      by_test Keeps (not (has_a5 s which) && (to == 2)) (forwarded s (named.OutR1A8 2 successor))
      (unexpected s) (λ e. forward_same (named.OutR1A8 2 successor)) (λ e. refl)
  channel_same which (named.KeepAlive keepalive) = same_keep_alive s which keepalive
  channel_same which named.EndA1 = same_end s which
  channel_same which (named.InR1A5 successor) = in_r1_a5_same which successor
  channel_same which m = refl

  by_channel_same : (o : Option Which) (m : Named) → Keeps (on_channel_by s o m)
  by_channel_same None m = refl
  by_channel_same (Some which) m = channel_same which m

  later_same : (o : Option Opener) (number : ℕ) (connection predecessor channel : Cookie)
      → Keeps (on_later_in_r1_a1 s o number connection predecessor channel)
  later_same None number connection predecessor channel = refl
  later_same (Some o) number connection predecessor channel =
      by_test Keeps (is_newcomer s.successor number)
      (join s o number connection predecessor channel) (unexpected s)
      (λ t. by_test Keeps (not (same_cookie o.connection connection))
      (refuse s (refused.Cookie o.connection connection))
      (if not (same_cookie s.current.cookie predecessor)
      then refuse s (refused.Cookie s.current.cookie predecessor)
      else taken (joined s number channel)) (λ a. refl)
      (λ a. by_test Keeps (not (same_cookie s.current.cookie predecessor))
      (refuse s (refused.Cookie s.current.cookie predecessor)) (taken (joined s number channel))
      (λ b. refl)
      (λ b. with_newest number
      (ap (newest_by s.current) (sym (newcomer_is s.successor number t)))))) (λ t. refl)

  opened_same : (k : ℕ) (o : Opener) (keepalive : ℕ) → is_first s k ≡ true
      → Keeps (opened s o keepalive)
  opened_same k o keepalive e =
      by s.successor (awaits_is s.opening (and_parts (awaits_packet s.opening)
      (s.current.number == k) e).0)
    where
      by : (z : Successor) → s.opening ≡ openings.AwaitsPacket
          → (let x : Seen = record {
            newest = newest_by (leg_of s.current.number o.channel) z;
            had = true;
          } in x)
          ≡ (let x : Seen = record {
            newest = newest_by s.current z;
            had = had_client s.opening;
          } in x)
      by Absent is =
          ap (λ (p : Opening). let x : Seen = record {
            newest = s.current.number;
            had = had_client p;
          } in x) (sym is)
      by (Up number) is =
          ap (λ (p : Opening). let x : Seen = record { newest = number; had = had_client p } in x)
          (sym is)
      by (Joined leg stage) is =
          ap (λ (p : Opening). let x : Seen = record {
            newest = leg.number;
            had = had_client p;
          } in x) (sym is)

  ci_same : (k : ℕ) (m : Named) → Keeps (on_ci s k m)
  ci_same k (named.ConnB1 version connection channel lifetime keepalive group) =
      by_test Keeps (is_first s k)
      (opened s (opener connection channel (Connects group)) (kept_for keepalive)) (unexpected s)
      (opened_same k (opener connection channel (Connects group)) (kept_for keepalive))
      (λ e. refl)
  ci_same k (named.InR1A1 version connection predecessor channel) =
      by_test Keeps (is_first s k) (on_first_in_r1_a1 s connection predecessor channel)
      (on_later_in_r1_a1 s (opener_of s.opening) k connection predecessor channel)
      (opened_same k (opener connection channel (Replaces predecessor)) KEEPALIVE)
      (λ e. later_same (opener_of s.opening) k connection predecessor channel)
  ci_same k m = by_channel_same (channel_of s k) m

  pub same_packet : (leg : Leg) (count : Count) (m : Named) → Keeps (packet s leg count m)
  same_packet leg count m =
      by_test Keeps (is_client_leg leg) (on_ci s leg.number m)
      (if is_server_leg s leg then on_is s m else unexpected s) (λ e. ci_same leg.number m)
      (λ e. by_test Keeps (is_server_leg s leg) (on_is s m) (unexpected s)
      (λ f. same_is s m) (λ f. refl))

  -- ---- puts

  abbrev pub Goes : Pick → Type 0
  Goes pick = IfSome pick (λ (one : InProxy × Message). Same s one.0)

  or_goes : (a b : Pick) → Goes a → Goes b → Goes (or_else a b)
  or_goes None b p q = q
  or_goes (Some pick) b p q = p

  settled_goes : (pick : Pick) → Goes pick → Goes (settled_pick pick)
  settled_goes None p = tt
  settled_goes (Some pick) p = same_settled pick.0 ∙ p

  first_goes : (o : Opening) → s.opening ≡ o → Goes (first_by s o)
  first_goes (openings.Announces o) e =
      ap (λ (p : Opening). let x : Seen = record {
        newest = newest_by s.current s.successor;
        had = had_client p;
      } in x) (sym e)
  first_goes openings.AwaitsClient e = tt
  first_goes openings.AwaitsPacket e = tt
  first_goes (openings.WantsServer o) e = tt
  first_goes (openings.Announced o) e = tt

  told_goes : (z : Successor) → s.successor ≡ z → Goes (told_by s z)
  told_goes Absent e = tt
  told_goes (Up number) e = tt
  told_goes (Joined leg Told) e = tt
  told_goes (Joined leg Follows) e = tt
  told_goes (Joined leg (TellsServer behind)) e =
      by_test Goes (behind == 0)
      (Some (record s { successor = Joined leg Told }, Packet (named.InR2A2 leg.cookie))) None
      (λ t. with_newest leg.number (ap (newest_by s.current) (sym e))) (λ t. tt)

  less_newest : (z : Successor) → newest_by s.current (one_less z) ≡ newest_by s.current z
  less_newest Absent = refl
  less_newest (Up number) = refl
  less_newest (Joined leg Told) = refl
  less_newest (Joined leg Follows) = refl
  less_newest (Joined leg (TellsServer behind)) = refl

  waiting_goes : (dues : List Due) → Goes (waiting_by s dues)
  waiting_goes [] = tt
  waiting_goes (due ∷ dues) = with_newest _ (less_newest s.successor)

  pdu_goes : (pdus : List (List ℕ)) → Goes (next_pdu s pdus)
  pdu_goes [] = tt
  pdu_goes (one ∷ pdus) =
      by_test Goes (may_send s.window (length one)) (Some (passed s (length one), Pdu one)) None
      (λ t. with_newest _ (follow_newest (line.after_take s.line).has_next s.current s.successor))
      (λ t. tt)

  ack_goes : (which : Which) (cookie : Cookie) (o : Option Ack) → Goes (ack_by s which cookie o)
  ack_goes which cookie o = search rules

  next_ack_goes : (z : Successor) → Goes (next_ack s z)
  next_ack_goes Absent = tt
  next_ack_goes (Up number) = tt
  next_ack_goes (Joined leg stage) = ack_goes Next leg.cookie (ack_due s Next)

  end_goes : Goes (put_end s)
  end_goes = search rules

  mark_goes : Goes (put_in_r1_a6 s)
  mark_goes = search rules

  ping_goes : Goes (put_ping s)
  ping_goes = search rules

  echo_goes : (number : ℕ) → Goes (put_echo s number)
  echo_goes number = search rules

  next_goes : Goes (next s)
  next_goes =
      or_goes (put_control s) (put_stream s)
      (or_goes (put_early s) (put_acks s)
      (or_goes (put_first s) _ (first_goes s.opening refl)
      (or_goes (put_in_r2_a2 s) (put_waiting s) (told_goes s.successor refl)
      (waiting_goes s.waiting.due)))
      (or_goes (current_ack s) (next_ack s s.successor)
      (ack_goes Current s.current.cookie (ack_due s Current)) (next_ack_goes s.successor)))
      (or_goes (put_pdu s) (put_behind s) (pdu_goes s.line.current.pdus)
      (or_goes (put_mark s) (put_ping s)
      (or_goes (put_end s) (put_in_r1_a6 s) end_goes mark_goes) ping_goes))

  pub put_goes : (leg : Leg) → Goes (put_of s leg)
  put_goes leg =
      by_test Goes (is_client_leg leg) (put_echo s leg.number)
      (if is_server_leg s leg then settled_pick (next s) else None)
      (λ e. echo_goes leg.number)
      (λ e. by_test Goes (is_server_leg s leg) (settled_pick (next s)) None
      (λ f. settled_goes (next s) next_goes) (λ f. tt))
