-- an in proxy holds no more than its window of each ci leg
use Rattle.rh_window.specs.declared.recv_window.Ack as told
use Rattle.law_order.proofs.Vocabulary.{◌≡◌, ℕ, ◌+◌, ◌==◌, List, [], ◌∷◌, length, Bool, true, false, ◌&&◌, ◌||◌, not, Some, None, Ok, Err, refl, sym, ◌∙◌, subst, rules, and_parts, if◌then◌else◌, nat_le, IfSome, Option, Result}
use Rattle.rh_line.specs.Lines as line
use Rattle.rh_line.specs.Histories as calls
use Rattle.rh_shell.specs.declared.answers.Refused.TheVariants as refused
use Rattle.rh_inproxy.specs.declared.opening.TheConstants.{GREATEST_LENGTHS}
use Rattle.rh_inproxy.specs.declared.state.ClientLeg.{ClientLeg}
use Rattle.rh_inproxy.specs.declared.state.Handover.{Handover}
use Rattle.rh_inproxy.specs.declared.state.Handover.TheVariants.{Before, Came, Passed}
use Rattle.rh_inproxy.specs.declared.state.Joining.TheVariants.{TellsServer, Told, Follows}
use Rattle.rh_inproxy.specs.declared.state.Opener.{Opener}
use Rattle.rh_inproxy.specs.declared.state.Opening.{Opening}
use Rattle.rh_inproxy.specs.declared.state.Opening.TheVariants.{AwaitsClient, AwaitsPacket, WantsServer, Announces, Announced}
use Rattle.rh_inproxy.specs.declared.state.Successor.{Successor}
use Rattle.rh_inproxy.specs.declared.state.Successor.TheVariants.{Absent, Joined}
use Rattle.rh_inproxy.specs.declared.state.Work.{Work}
use Rattle.rh_inproxy.specs.Answers.{Done, Pick, or_else, taken, refuse, unexpected}
use Rattle.rh_inproxy.specs.State.{InProxy, is_joined, next_of, has_opened, channel_of, has_come, has_a5, follows, is_client_leg, is_server_leg, same_cookie}
use Rattle.rh_inproxy.specs.Opening.{is_absent, accepts, accepts_later, may_accept, accepted, connected, up, wants, head, drawn, is_first, opener_of, on_first_in_r1_a1, on_conn_b1, first_by, put_first, echo_by, put_echo}
use Rattle.rh_inproxy.specs.Acknowledging.{on_ack_to, ack_due, ack_by, current_ack, next_ack, put_acks}
use Rattle.rh_inproxy.specs.Ending.{has_later, is_newest, on_end_a1, mark, put_end, settled, settled_pick}
use Rattle.rh_inproxy.specs.InReplacement.{is_newcomer, joined, join, on_later_in_r1_a1, on_in_r1_a1, on_in_r1_a5, told_by, put_in_r2_a2, one_less, finished, finish_by, hand_over, mark_by, put_in_r1_a6}
use Rattle.rh_inproxy.specs.OutReplacement.{on_out_r1_a7}
use Rattle.rh_inproxy.specs.Passing.{on_pdu, pdu_by, next_pdu, put_pdu}
use Rattle.rh_inproxy.specs.Putting.{put, next, waiting_by, put_waiting, put_control, put_early, put_stream, put_behind, put_mark}
use Rattle.rh_inproxy.specs.Time.{on_keep_alive, ping, put_ping}
use Rattle.rh_inproxy.specs.Machine.{packet, pdu, on_ci, on_is, on_channel, on_channel_by, rules as proxy_rules}
use Rattle.rh_inproxy.specs.declared.state.Successor.TheVariants as successors
use Rattle.rh_inproxy.specs.declared.state.Work.TheVariants as works
use Rattle.rh_inproxy.specs.Machine as machine
use Rattle.law_moves.proofs.Vocabulary.{may_send, by_test, IsPdu, Cookie, Named, ConnB1, InR1A1, InR1A5, OutR1A7, EndA1, AckTo, KeepAlive, Line, IsThere, after_finish, after_take, LineFault, Window, Over, Leg, Which, Current, Next, Count, Due, Message}
use Rattle.law_role_windows.proofs.Held.Lines.{IsKept, call_kept, next_with, next_taken, due_else}
use Rattle.law_role_windows.proofs.Held.Roles.{RulesKeep}

-- the line has a next channel where a ci leg is behind the current one and its first packet came
pub record AreKept (window : ℕ) (line : Line) (successor : Successor) : Type 0 where
  pub kept : IsKept window line
  pub there : line.has_next ≡ is_joined successor

abbrev pub Kept : ℕ → InProxy → Type 0
Kept window s = AreKept window s.line s.successor

-- what these facts are about
record Seen : Type 0 where
  line : Line
  successor : Successor

abbrev seen : InProxy → Seen
seen s = record { line = s.line; successor = s.successor }

abbrev Same : InProxy → InProxy → Type 0
Same s t = seen t ≡ seen s

same_kept : (window : ℕ) (s t : InProxy) → Same s t → Kept window s → Kept window t
same_kept window s t same k =
    subst (λ (x : Seen). AreKept window x.line x.successor) (sym same) k

second : (a b c d : Bool) → a && b && c && d ≡ true → b ≡ true
second true true c d e = refl
second true false c d e = absurd cc
second false b c d e = absurd cc

-- ---- what leaves both as they are

same_conn_b1 : (s : InProxy) (n : ℕ) (a b : Cookie) (c : ℕ) (d : Cookie)
    → Same s (on_conn_b1 s n a b c d).0
same_conn_b1 s n a b c d = search rules

same_ack_to : (s : InProxy) (which : Which) (a b c : ℕ) (d : Cookie)
    → Same s (on_ack_to s which a b c d).0
same_ack_to s which a b c d = search rules

same_out_r1_a7 : (s : InProxy) (which : Which) (a : ℕ) (b : Cookie)
    → Same s (on_out_r1_a7 s which a b).0
same_out_r1_a7 s which a b = search rules

same_keep_alive : (s : InProxy) (which : Which) (a : ℕ) → Same s (on_keep_alive s which a).0
same_keep_alive s which a = search rules

same_is : (s : InProxy) (named : Named) → Same s (on_is s named).0
same_is s named = search rules

same_head : (s : InProxy) (leg : Leg) (text : List ℕ) → Same s (head s leg text).0
same_head s leg text = search rules

same_drawn : (s : InProxy) (leg : Leg) → Same s (drawn s leg)
same_drawn s leg = search rules

same_settled : (s : InProxy) → Same s (settled s)
same_settled s = search rules

same_mark : (s : InProxy) (leg : Leg) → Same s (mark s leg)
same_mark s leg =
    same_settled (if is_newest s leg then record s { newest_lost = true } else s)
    ∙ by_test (Same s) (is_newest s leg) _ s (λ e. refl) (λ e. refl)

same_ping : (s : InProxy) (leg : Leg) → Same s (ping s leg)
same_ping s leg = search rules

-- ---- channels

next_there : (line : Line) (z : Successor) (n : ℕ) → line.has_next ≡ is_joined z
    → IfSome (next_of z n) (IsThere line)
next_there line Absent n e = tt
next_there line (successors.Up number) n e = tt
next_there line (Joined leg stage) n e =
    by_test (λ (o : Option Which). IfSome o (IsThere line)) (leg.number == n) (Some Next) None
    (λ f. e) (λ f. tt)

-- the channel of a ci leg is there
channel_there : (window : ℕ) (s : InProxy) (n : ℕ) → Kept window s
    → IfSome (channel_of s n) (IsThere s.line)
channel_there window s n k =
    by_test (λ (o : Option Which). IfSome o (IsThere s.line))
    (has_opened s.opening && (s.current.number == n)) (Some Current) (next_of s.successor n)
    (λ e. tt) (λ e. next_there s.line s.successor n k.there)

-- where the line has moved on, no ci leg is behind
follows_there : (has_next : Bool) (current : ClientLeg) (z : Successor)
    → (has_next ≡ true → is_joined z ≡ true) → has_next ≡ is_joined (follows has_next current z).1
follows_there true current Absent f = sym (f refl)
follows_there true current (successors.Up number) f = sym (f refl)
follows_there true current (Joined leg stage) f = refl
follows_there false current Absent f = refl
follows_there false current (successors.Up number) f = refl
follows_there false current (Joined leg stage) f = refl

module _ (window : ℕ) where
  -- ---- PDUs and END

  admit_kept : (s : InProxy) (which : Which) (bytes : List ℕ) → IsThere s.line which
      → IsPdu bytes → Kept window s → Kept window (on_pdu s which bytes).0
  admit_kept s which bytes there is k =
      by_test (λ (d : Done). Kept window d.0) (has_a5 s which || line.is_ended s.line)
      (unexpected s) (pdu_by t (line.admit_verdict s.line which bytes))
      (λ e. k) (λ e. by (line.admit_verdict s.line which bytes))
    where
      t : InProxy
      t = record s { line = line.after_admit s.line which bytes }

      kept : Kept window t
      kept = record {
        kept = call_kept window s.line (calls.Admits which bytes) (there, is) k.kept;
        there = next_with s.line which (line.admitted (line.channel_of s.line which) bytes)
            ∙ k.there;
      }

      by : (v : Result (Unit {0}) LineFault) → Kept window (pdu_by t v).0
      by (Ok admitted) = kept
      by (Err (Window exceeded)) = kept
      by (Err Over) = kept

  pdu_at : (s : InProxy) (o : Option Which) (bytes : List ℕ) → IfSome o (IsThere s.line)
      → IsPdu bytes → Kept window s → Kept window (machine.pdu_by s o bytes).0
  pdu_at s None bytes there is k = k
  pdu_at s (Some which) bytes there is k = admit_kept s which bytes there is k

  pdu_kept : (s : InProxy) (leg : Leg) (count : Count) (bytes : List ℕ) → IsPdu bytes
      → Kept window s → Kept window (pdu s leg count bytes).0
  pdu_kept s leg count bytes is k =
      by_test (λ (d : Done). Kept window d.0) (is_client_leg leg)
      (machine.pdu_by s (channel_of s leg.number) bytes) (unexpected s)
      (λ e. pdu_at s (channel_of s leg.number) bytes (channel_there window s leg.number k) is k)
      (λ e. k)

  end_kept : (s : InProxy) (which : Which) → IsThere s.line which → Kept window s
      → Kept window (on_end_a1 s which).0
  end_kept s which there k =
      by_test (λ (d : Done). Kept window d.0)
      (has_a5 s which || (line.channel_of s.line which).ended || has_later s which)
      (unexpected s) (taken (record s { line = line.after_end s.line which })) (λ e. k)
      (λ e. record {
        kept = call_kept window s.line (calls.Ends which) there k.kept;
        there = next_with s.line which (line.with_end (line.channel_of s.line which)) ∙ k.there;
      })

  -- ---- IN_R1/A1

  not_joined : (z : Successor) (n : ℕ) → is_newcomer z n ≡ true → is_joined z ≡ false
  not_joined Absent n e = refl
  not_joined (successors.Up number) n e = refl
  not_joined (Joined leg stage) n e = absurd cc

  joined_kept : (s : InProxy) (n : ℕ) (cookie : Cookie) → is_newcomer s.successor n ≡ true
      → Kept window s → Kept window (joined s n cookie)
  joined_kept s n cookie e k = record {
    kept = call_kept window s.line (calls.OpensNext false)
        (k.there ∙ not_joined s.successor n e) k.kept;
    there = refl;
  }

  join_kept : (s : InProxy) (o : Opener) (n : ℕ) (a b c : Cookie)
      → is_newcomer s.successor n ≡ true → Kept window s → Kept window (join s o n a b c).0
  join_kept s o n a b c e k =
      by_test (λ (d : Done). Kept window d.0) (not (same_cookie o.connection a))
      (refuse s (refused.Cookie o.connection a))
      (if not (same_cookie s.current.cookie b) then refuse s (refused.Cookie s.current.cookie b)
      else taken (joined s n c))
      (λ f. k)
      (λ f. by_test (λ (d : Done). Kept window d.0) (not (same_cookie s.current.cookie b))
      (refuse s (refused.Cookie s.current.cookie b)) (taken (joined s n c))
      (λ g. k) (λ g. joined_kept s n c e k))

  later_kept : (s : InProxy) (o : Option Opener) (n : ℕ) (a b c : Cookie) → Kept window s
      → Kept window (on_later_in_r1_a1 s o n a b c).0
  later_kept s None n a b c k = k
  later_kept s (Some o) n a b c k =
      by_test (λ (d : Done). Kept window d.0) (is_newcomer s.successor n) (join s o n a b c)
      (unexpected s) (λ e. join_kept s o n a b c e k) (λ e. k)

  in_r1_a1_kept : (s : InProxy) (n : ℕ) (a b c : Cookie) → Kept window s
      → Kept window (on_in_r1_a1 s n a b c).0
  in_r1_a1_kept s n a b c k =
      by_test (λ (d : Done). Kept window d.0) (is_first s n) (on_first_in_r1_a1 s a b c)
      (on_later_in_r1_a1 s (opener_of s.opening) n a b c) (λ e. k)
      (λ e. later_kept s (opener_of s.opening) n a b c k)

  -- ---- IN_R1/A5

  finished_kept : (s : InProxy) (leg : ClientLeg) → s.line.has_next ≡ true → Kept window s
      → Kept window (finished s leg)
  finished_kept s leg there k = record {
    kept = call_kept window s.line calls.Finishes there k.kept;
    there = follows_there (after_finish s.line).has_next s.current (Joined leg Follows)
        (λ e. refl);
  }

  finish_kept : (s : InProxy) (z : Successor) (cookie : Cookie) → s.line.has_next ≡ is_joined z
      → Kept window s → Kept window (finish_by s z cookie).0
  finish_kept s Absent cookie e k = k
  finish_kept s (successors.Up number) cookie e k = k
  finish_kept s (Joined leg (TellsServer behind)) cookie e k = k
  finish_kept s (Joined leg Follows) cookie e k = k
  finish_kept s (Joined leg Told) cookie e k =
      by_test (λ (d : Done). Kept window d.0) (same_cookie leg.cookie cookie)
      (taken (finished s leg)) (refuse s (refused.Cookie leg.cookie cookie))
      (λ f. finished_kept s leg e k) (λ f. k)

  in_r1_a5_kept : (s : InProxy) (which : Which) (cookie : Cookie) → Kept window s
      → Kept window (on_in_r1_a5 s which cookie).0
  in_r1_a5_kept s which cookie k =
      by_test (λ (d : Done). Kept window d.0) (has_a5 s which) (unexpected s)
      (hand_over s which cookie) (λ e. k) (λ e. by which)
    where
      by : (w : Which) → Kept window (hand_over s w cookie).0
      by Current = finish_kept s s.successor cookie k.there k
      by Next = k

  -- ---- packets

  channel_kept : (s : InProxy) (which : Which) (named : Named) → IsThere s.line which
      → Kept window s → Kept window (on_channel s which named).0
  channel_kept s which (AckTo v1 v2 v3 v4) there k =
      same_kept window s (on_ack_to s which v1 v2 v3 v4).0 (same_ack_to s which v1 v2 v3 v4) k
  channel_kept s which (OutR1A7 v1 v2) there k =
      same_kept window s (on_out_r1_a7 s which v1 v2).0 (same_out_r1_a7 s which v1 v2) k
  channel_kept s which (KeepAlive v1) there k =
      same_kept window s (on_keep_alive s which v1).0 (same_keep_alive s which v1) k
  channel_kept s which EndA1 there k = end_kept s which there k
  channel_kept s which (InR1A5 v1) there k = in_r1_a5_kept s which v1 k
  channel_kept s which packet there k = k

  channel_at : (s : InProxy) (o : Option Which) (named : Named) → IfSome o (IsThere s.line)
      → Kept window s → Kept window (on_channel_by s o named).0
  channel_at s None named there k = k
  channel_at s (Some which) named there k = channel_kept s which named there k

  ci_kept : (s : InProxy) (n : ℕ) (named : Named) → Kept window s
      → Kept window (on_ci s n named).0
  ci_kept s n (ConnB1 v1 v2 v3 v4 v5 v6) k =
      same_kept window s (on_conn_b1 s n v2 v3 v5 v6).0 (same_conn_b1 s n v2 v3 v5 v6) k
  ci_kept s n (InR1A1 v1 v2 v3 v4) k = in_r1_a1_kept s n v2 v3 v4 k
  ci_kept s n packet k =
      channel_at s (channel_of s n) packet (channel_there window s n k) k

  packet_kept : (s : InProxy) (leg : Leg) (count : Count) (named : Named) → Kept window s
      → Kept window (packet s leg count named).0
  packet_kept s leg count named k =
      by_test (λ (d : Done). Kept window d.0) (is_client_leg leg) (on_ci s leg.number named)
      (if is_server_leg s leg then on_is s named else unexpected s)
      (λ e. ci_kept s leg.number named k)
      (λ e. by_test (λ (d : Done). Kept window d.0) (is_server_leg s leg) (on_is s named)
      (unexpected s) (λ f. same_kept window s (on_is s named).0 (same_is s named) k) (λ f. k))

  -- ---- legs come up

  absent : (z : Successor) → is_absent z ≡ true → is_joined z ≡ false
  absent Absent e = refl
  absent (successors.Up number) e = absurd cc
  absent (Joined leg stage) e = absurd cc

  accepted_kept : (s : InProxy) (o : Opening) (n : ℕ) → accepts s o n ≡ true → Kept window s
      → Kept window (accepted s o n)
  accepted_kept s o n e k = by o e
    where
      newcomer : accepts_later s n ≡ true
          → Kept window (record s { successor = successors.Up n; newest_lost = false })
      newcomer f = record {
        kept = k.kept;
        there = k.there ∙ absent s.successor (second (n == s.current.number + 1)
            (is_absent s.successor) (nat_le s.lengths GREATEST_LENGTHS) (not (has_come s.handover))
            f);
      }

      by : (x : Opening) → accepts s x n ≡ true → Kept window (accepted s x n)
      by AwaitsClient f = k
      by AwaitsPacket f = absurd cc
      by (WantsServer opener) f = newcomer f
      by (Announces opener) f = newcomer f
      by (Announced opener) f = newcomer f

  connected_kept : (s : InProxy) (o : Opening) → Kept window s → Kept window (connected s o)
  connected_kept s (WantsServer opener) k = k
  connected_kept s o k = k

  up_kept : (s : InProxy) (leg : Leg) → Kept window s → Kept window (up s leg)
  up_kept s leg k =
      by_test (λ (t : InProxy). Kept window t) (may_accept s leg)
      (accepted s s.opening leg.number) (if wants s leg then connected s s.opening else s)
      (λ e. accepted_kept s s.opening leg.number
      (and_parts (is_client_leg leg) (accepts s s.opening leg.number) e).1 k)
      (λ e. by_test (λ (t : InProxy). Kept window t) (wants s leg) (connected s s.opening) s
      (λ f. connected_kept s s.opening k) (λ f. k))

  -- ---- what is put

  abbrev PickKept : Pick → Type 0
  PickKept pick = IfSome pick (λ (put : InProxy × Message). Kept window put.0)

  or_kept : (a b : Pick) → PickKept a → PickKept b → PickKept (or_else a b)
  or_kept None b h k = k
  or_kept (Some pick) b h k = h

  first_put : (s : InProxy) (o : Opening) → Kept window s → PickKept (first_by s o)
  first_put s (Announces opener) k = k
  first_put s AwaitsClient k = tt
  first_put s AwaitsPacket k = tt
  first_put s (WantsServer opener) k = tt
  first_put s (Announced opener) k = tt

  told_put : (s : InProxy) (z : Successor) → s.line.has_next ≡ is_joined z → Kept window s
      → PickKept (told_by s z)
  told_put s Absent e k = tt
  told_put s (successors.Up number) e k = tt
  told_put s (Joined leg Told) e k = tt
  told_put s (Joined leg Follows) e k = tt
  told_put s (Joined leg (TellsServer behind)) e k =
      by_test PickKept (behind == 0) _ None (λ f. record { kept = k.kept; there = e }) (λ f. tt)

  less_joined : (z : Successor) → is_joined (one_less z) ≡ is_joined z
  less_joined Absent = refl
  less_joined (successors.Up number) = refl
  less_joined (Joined leg Told) = refl
  less_joined (Joined leg Follows) = refl
  less_joined (Joined leg (TellsServer behind)) = refl

  waiting_put : (s : InProxy) (dues : List Due) → Kept window s → PickKept (waiting_by s dues)
  waiting_put s [] k = tt
  waiting_put s (due ∷ dues) k =
      record { kept = k.kept; there = k.there ∙ sym (less_joined s.successor) }

  ack_put : (s : InProxy) (which : Which) (cookie : Cookie) (o : Option told.Ack)
      → IsThere s.line which → IfSome o (λ (ack : told.Ack). line.due s.line which ≡ Some ack)
      → Kept window s → PickKept (ack_by s which cookie o)
  ack_put s which cookie None there is k = tt
  ack_put s which cookie (Some ack) there is k = record {
    kept = call_kept window s.line (calls.Acknowledges which ack) (there, is) k.kept;
    there = next_with s.line which _ ∙ k.there;
  }

  due_is : (s : InProxy) (which : Which)
      → IfSome (ack_due s which) (λ (ack : told.Ack). line.due s.line which ≡ Some ack)
  due_is s which =
      due_else ((line.channel_of s.line which).ended || has_a5 s which) (line.due s.line which)

  next_put : (s : InProxy) (z : Successor) → s.line.has_next ≡ is_joined z → Kept window s
      → PickKept (next_ack s z)
  next_put s Absent e k = tt
  next_put s (successors.Up number) e k = tt
  next_put s (Joined leg stage) e k =
      ack_put s Next leg.cookie (ack_due s Next) e (due_is s Next) k

  -- the PDU that is put is released
  front_put : (s : InProxy) (pdus : List (List ℕ)) → Kept window s → PickKept (next_pdu s pdus)
  front_put s [] k = tt
  front_put s (pdu ∷ pdus) k =
      by_test PickKept (may_send s.window (length pdu)) _ None
      (λ e. record {
        kept = call_kept window s.line calls.Takes tt k.kept;
        there = follows_there (after_take s.line).has_next s.current s.successor
            (λ f. sym k.there ∙ next_taken s.line.current.pdus s.line f);
      })
      (λ e. tt)

  mark_put : (s : InProxy) (handover : Handover) → Kept window s → PickKept (mark_by s handover)
  mark_put s Before k = tt
  mark_put s (Came cookie) k = k
  mark_put s Passed k = tt

  control_put : (s : InProxy) → Kept window s → PickKept (put_control s)
  control_put s k =
      or_kept (put_early s) (put_acks s)
      (or_kept (put_first s) _ (first_put s s.opening k)
      (or_kept (put_in_r2_a2 s) (put_waiting s) (told_put s s.successor k.there k)
      (waiting_put s s.waiting.due k)))
      (or_kept (current_ack s) (next_ack s s.successor)
      (ack_put s Current s.current.cookie (ack_due s Current) tt (due_is s Current) k)
      (next_put s s.successor k.there k))

  behind_put : (s : InProxy) → Kept window s → PickKept (put_behind s)
  behind_put s k =
      or_kept (put_mark s) (put_ping s)
      (or_kept (put_end s) (put_in_r1_a6 s)
      (by_test PickKept
      (s.line.current.ended && not s.end_put && line.is_empty s.line.current.pdus) _ None
      (λ e. k) (λ e. tt))
      (by_test PickKept (is_absent s.successor && line.is_empty s.line.current.pdus)
      (mark_by s s.handover) None (λ e. mark_put s s.handover k) (λ e. tt)))
      (by_test PickKept s.ping_due _ None (λ e. k) (λ e. tt))

  server_put : (s : InProxy) → Kept window s → PickKept (next s)
  server_put s k =
      or_kept (put_control s) (put_stream s) (control_put s k)
      (or_kept (put_pdu s) (put_behind s) (front_put s s.line.current.pdus k) (behind_put s k))

  settled_put : (pick : Pick) → PickKept pick → PickKept (settled_pick pick)
  settled_put None k = tt
  settled_put (Some pick) k = same_kept window pick.0 (settled pick.0) (same_settled pick.0) k

  echo_put : (s : InProxy) (work : Work) (n : ℕ) → Kept window s → PickKept (echo_by s work n)
  echo_put s works.Underway n k = tt
  echo_put s (works.EchoPut asked_on) n k = tt
  echo_put s works.Done n k = tt
  echo_put s (works.EchoDue asked_on) n k =
      by_test PickKept (asked_on == n) _ None (λ e. k) (λ e. tt)

  put_kept : (s : InProxy) (leg : Leg) → Kept window s → PickKept (put s leg)
  put_kept s leg k =
      by_test PickKept (is_client_leg leg) (put_echo s leg.number)
      (if is_server_leg s leg then settled_pick (next s) else None)
      (λ e. echo_put s s.work leg.number k)
      (λ e. by_test PickKept (is_server_leg s leg) (settled_pick (next s)) None
      (λ f. settled_put (next s) (server_put s k)) (λ f. tt))

  -- ---- the role

  pub in_proxy_keeps : RulesKeep proxy_rules (Kept window)
  in_proxy_keeps = record {
    up = λ s leg cookie. up_kept s leg;
    head = λ s leg text. same_kept window s (head s leg text).0 (same_head s leg text);
    pdu = pdu_kept;
    packet = packet_kept;
    put = put_kept;
    drawn = λ s leg. same_kept window s (drawn s leg) (same_drawn s leg);
    mark = λ s leg. same_kept window s (mark s leg) (same_mark s leg);
    ping = λ s leg. same_kept window s (ping s leg) (same_ping s leg);
  }
