-- each step of an in proxy keeps that what its windows told was put
use Rattle.law_order.proofs.Vocabulary.{◌≡◌, ℕ, ◌==◌, ◌&&◌, ◌||◌, Bool, true, false, true≢false, not, if◌then◌else◌, List, Some, None, Ok, Err, refl, sym, ap, ◌∙◌, subst, arith, and_parts, nat_tests, Option, Result}
use Rattle.rh_sig.specs.declared.named.Named.TheVariants as named
use Rattle.rh_line.specs.Lines as line
use Rattle.rh_shell.specs.declared.answers.Refused.TheVariants as refused
use Rattle.rh_inproxy.specs.Passing.{pdu_by as admitted_by}
use Rattle.rh_inproxy.specs.declared.state.Opening.TheVariants as openings
use Rattle.rh_inproxy.specs.declared.state.Successor.TheVariants as successors
use Rattle.law_moves.proofs.Vocabulary.{Receiver, by_test, Cookie, Named, LineFault, Window, Over, Leg, Which, Current, Next, Count, OnLeg}
use Rattle.law_role_inproxy.proofs.Vocabulary.{Connects, Replaces, KEEPALIVE, InProxyConfig, TellsServer, Told, Follows, Opener, Opening, Successor, Done, taken, refuse, unexpected, InProxy, channel_of, next_of, has_a5, has_opened, is_client_leg, is_server_leg, is_joined, same_cookie, up, may_accept, accepted, wants, connected, opener_of, opener, opened, kept_for, is_first, awaits_packet, on_first_in_r1_a1, has_later}
use Rattle.law_role_inproxy.proofs.Vocabulary.{on_end_a1, is_newcomer, joined, join, on_later_in_r1_a1, on_in_r1_a5, finished, finish_by, handed_over, hand_over, on_pdu, on_ack_to, on_out_r1_a7, on_keep_alive, packet, pdu, pdu_by, on_channel, on_channel_by, on_ci, on_is}
use Rattle.law_role_edges.proofs.InPlaced.{Placed}
use Rattle.law_role_edges.proofs.InTold.{IsNext, Same, Seen, Tells, same_a7, same_ack_to, same_is, same_keep_alive, seen, settles}
use Rattle.law_role_edges.proofs.OutTells.{told_admitted}

module _ (n : ℕ) (config : InProxyConfig) (s : InProxy) (put : List OnLeg)
    (h : Tells config (seen s) put) (p : Placed n s) where
  abbrev pub Holds : InProxy → Type 0
  Holds t = Tells config (seen t) put

  abbrev pub Row : Done → Type 0
  Row x = Holds x.0

  pub kept : (t : InProxy) → Same s t → Holds t
  kept t same = subst (λ (x : Seen). Tells config x put) (sym same) h

  -- ---- ups

  pub up_row : (leg : Leg) → Holds (up s leg)
  up_row leg =
      by_test Holds (may_accept s leg) (accepted s s.opening leg.number)
      (if wants s leg then connected s s.opening else s) (λ e. accepts_row s.opening refl)
      (λ e. by_test Holds (wants s leg) (connected s s.opening) s (λ f. connects_row s.opening)
      (λ f. h))
    where
      rises : (number : ℕ)
          → Holds (record s { successor = successors.Up number; newest_lost = false })
      rises number = record {
        same = h.same;
        size = h.size;
        early = h.early;
        opened = h.opened;
        current = h.current;
        next = tt;
      }

      accepts_row : (o : Opening) → s.opening ≡ o → Holds (accepted s o leg.number)
      accepts_row openings.AwaitsClient e = record {
        same = h.same;
        size = h.size;
        early = λ f. h.early (ap has_opened e);
        opened = λ f. absurd cc;
        current = h.current;
        next = h.next;
      }
      accepts_row openings.AwaitsPacket e = rises leg.number
      accepts_row (openings.WantsServer o) e = rises leg.number
      accepts_row (openings.Announces o) e = rises leg.number
      accepts_row (openings.Announced o) e = rises leg.number

      connects_row : (o : Opening) → Holds (connected s o)
      connects_row (openings.WantsServer o) = record {
        same = h.same;
        size = h.size;
        early = λ f. absurd cc;
        opened = λ f. absurd cc;
        current = h.current;
        next = h.next;
      }
      connects_row openings.AwaitsClient = h
      connects_row openings.AwaitsPacket = h
      connects_row (openings.Announces o) = h
      connects_row (openings.Announced o) = h

  -- ---- channels that begin

  not_opened : (o : Opening) → awaits_packet o ≡ true → has_opened o ≡ false
  not_opened openings.AwaitsPacket e = refl
  not_opened openings.AwaitsClient e = absurd cc
  not_opened (openings.WantsServer o) e = absurd cc
  not_opened (openings.Announces o) e = absurd cc
  not_opened (openings.Announced o) e = absurd cc

  first_row : (k : ℕ) (o : Opener) (keepalive : ℕ) → is_first s k ≡ true
      → Row (opened s o keepalive)
  first_row k o keepalive e =
      let early = h.early (not_opened s.opening
      (and_parts (awaits_packet s.opening) (s.current.number == k) e).0) in
      let told : s.line.current.window.told ≡ config.window = ap (λ (w : Receiver). w.told) early.1 in
      record {
        same = h.same;
        size = h.size;
        early = λ f. absurd cc;
        opened = λ f. absurd cc;
        current = grind (arith, nat_tests, told);
        next = h.next;
      }

  join_row : (k : ℕ) (o : Opener) (connection predecessor channel : Cookie)
      → Row (join s o k connection predecessor channel)
  join_row k o connection predecessor channel =
      by_test Row (not (same_cookie o.connection connection))
      (refuse s (refused.Cookie o.connection connection)) _ (λ a. h)
      (λ a. by_test Row (not (same_cookie s.current.cookie predecessor))
      (refuse s (refused.Cookie s.current.cookie predecessor)) (taken (joined s k channel))
      (λ b. h)
      (λ b. record {
        same = h.same;
        size = h.size;
        early = h.early;
        opened = h.opened;
        current = h.current;
        next = let size = h.size in grind (arith, nat_tests, size);
      }))

  later_row : (k : ℕ) (o : Option Opener) (connection predecessor channel : Cookie)
      → Row (on_later_in_r1_a1 s o k connection predecessor channel)
  later_row k None connection predecessor channel = h
  later_row k (Some o) connection predecessor channel =
      by_test Row (is_newcomer s.successor k) (join s o k connection predecessor channel)
      (unexpected s) (λ e. join_row k o connection predecessor channel) (λ e. h)

  -- ---- behind the first packet

  -- a channel is there only behind the first packet of all
  next_opened : (z : Successor) (k : ℕ) (which : Which) → s.successor ≡ z
      → next_of z k ≡ Some which → has_opened s.opening ≡ true
  next_opened successors.Absent k which e f = absurd cc
  next_opened (successors.Up number) k which e f = absurd cc
  next_opened (successors.Joined leg stage) k which e f = p.opened leg stage e

  channel_opened : (k : ℕ) (which : Which) → channel_of s k ≡ Some which
      → has_opened s.opening ≡ true
  channel_opened k which e = by (has_opened s.opening && (s.current.number == k)) refl e
    where
      by : (t : Bool) → (has_opened s.opening && (s.current.number == k)) ≡ t
          → (if t then Some Current else next_of s.successor k) ≡ Some which
          → has_opened s.opening ≡ true
      by true t e = (and_parts (has_opened s.opening) (s.current.number == k) t).0
      by false t e = next_opened s.successor k which refl e

  module _ (begun : has_opened s.opening ≡ true) where
    late : {X : Type 0} → has_opened s.opening ≡ false → X
    late e = absurd (true≢false (sym begun ∙ e))

    end_row : (which : Which) → Row (on_end_a1 s which)
    end_row which =
        by_test Row
        (has_a5 s which || (line.channel_of s.line which).ended || has_later s which)
        (unexpected s) (taken (record s { line = line.after_end s.line which })) (λ e. h)
        (λ e. by which)
      where
        by : (w : Which) → Holds (record s { line = line.after_end s.line w })
        by Current = record {
          same = h.same;
          size = h.size;
          early = λ e. late e;
          opened = h.opened;
          current = h.current;
          next = h.next;
        }
        by Next = record {
          same = h.same;
          size = h.size;
          early = λ e. late e;
          opened = h.opened;
          current = h.current;
          next = h.next;
        }

    finish_row : (z : Successor) (cookie : Cookie) → s.successor ≡ z
        → Row (finish_by s z cookie)
    finish_row successors.Absent cookie e = kept (handed_over s cookie).0 refl
    finish_row (successors.Up number) cookie e = h
    finish_row (successors.Joined leg (TellsServer behind)) cookie e = h
    finish_row (successors.Joined leg Follows) cookie e = h
    finish_row (successors.Joined leg Told) cookie e =
        by_test Row (same_cookie leg.cookie cookie) (taken (finished s leg))
        (refuse s (refused.Cookie leg.cookie cookie))
        (λ t.
        let all = settles config put s.current (successors.Joined leg Follows)
        (record (s.line) { finished = true }) (p.joined ∙ ap is_joined e) refl h.size h.current
        (subst (λ (z : Successor). IsNext config s.line put z) e h.next) in
        record {
          same = h.same;
          size = all.0;
          early = λ f. late f;
          opened = h.opened;
          current = all.1;
          next = all.2;
        })
        (λ t. h)

    a5_row : (which : Which) (cookie : Cookie) → Row (on_in_r1_a5 s which cookie)
    a5_row which cookie =
        by_test Row (has_a5 s which) (unexpected s) (hand_over s which cookie) (λ e. h)
        (λ e. by which)
      where
        by : (w : Which) → Row (hand_over s w cookie)
        by Current = finish_row s.successor cookie refl
        by Next = kept (handed_over s cookie).0 refl

    channel_row : (which : Which) (m : Named) → Row (on_channel s which m)
    channel_row which (named.AckTo to received available channel) =
        kept (on_ack_to s which to received available channel).0
        (same_ack_to s which to received available channel)
    channel_row which (named.OutR1A7 to successor) =
        kept (on_out_r1_a7 s which to successor).0 (same_a7 s which to successor)
    channel_row which (named.KeepAlive keepalive) =
        kept (on_keep_alive s which keepalive).0 (same_keep_alive s which keepalive)
    channel_row which named.EndA1 = end_row which
    channel_row which (named.InR1A5 successor) = a5_row which successor
    channel_row which m = h

    admitted_row : (which : Which) (bytes : List ℕ)
        → Holds (record s { line = line.after_admit s.line which bytes })
    admitted_row Current bytes =
        let same = told_admitted s.line.current bytes in
        let was = h.current in
        record {
          same = h.same;
          size = h.size;
          early = λ e. late e;
          opened = h.opened;
          current = omega (arith, same, was);
          next = h.next;
        }
    admitted_row Next bytes =
        record {
          same = h.same;
          size = h.size;
          early = λ e. late e;
          opened = h.opened;
          current = h.current;
          next = next_admitted s.successor h.next;
        }
      where
        next_admitted : (z : Successor) → IsNext config s.line put z
            → IsNext config (line.after_admit s.line Next bytes) put z
        next_admitted successors.Absent g = tt
        next_admitted (successors.Up number) g = tt
        next_admitted (successors.Joined leg stage) g =
            let same = told_admitted s.line.next bytes in omega (arith, same, g)

    verdict_row : (which : Which) (bytes : List ℕ) (v : Result (Unit {0}) LineFault)
        → Row (admitted_by (record s { line = line.after_admit s.line which bytes }) v)
    verdict_row which bytes (Ok admitted) = admitted_row which bytes
    verdict_row which bytes (Err (Window exceeded)) = admitted_row which bytes
    verdict_row which bytes (Err Over) = admitted_row which bytes

    pdu_on : (which : Which) (bytes : List ℕ) → Row (on_pdu s which bytes)
    pdu_on which bytes =
        by_test Row (has_a5 s which || line.is_ended s.line) (unexpected s) _ (λ e. h)
        (λ e. verdict_row which bytes (line.admit_verdict s.line which bytes))

  -- ---- what comes

  by_channel_row : (k : ℕ) (o : Option Which) (m : Named) → channel_of s k ≡ o
      → Row (on_channel_by s o m)
  by_channel_row k None m e = h
  by_channel_row k (Some which) m e = channel_row (channel_opened k which e) which m

  ci_row : (k : ℕ) (m : Named) → Row (on_ci s k m)
  ci_row k (named.ConnB1 version connection channel lifetime keepalive group) =
      by_test Row (is_first s k)
      (opened s (opener connection channel (Connects group)) (kept_for keepalive)) (unexpected s)
      (λ e. first_row k (opener connection channel (Connects group)) (kept_for keepalive) e)
      (λ e. h)
  ci_row k (named.InR1A1 version connection predecessor channel) =
      by_test Row (is_first s k) (on_first_in_r1_a1 s connection predecessor channel)
      (on_later_in_r1_a1 s (opener_of s.opening) k connection predecessor channel)
      (λ e. first_row k (opener connection channel (Replaces predecessor)) KEEPALIVE e)
      (λ e. later_row k (opener_of s.opening) connection predecessor channel)
  ci_row k m = by_channel_row k (channel_of s k) m refl

  pub packet_row : (leg : Leg) (count : Count) (m : Named) → Row (packet s leg count m)
  packet_row leg count m =
      by_test Row (is_client_leg leg) (on_ci s leg.number m)
      (if is_server_leg s leg then on_is s m else unexpected s) (λ e. ci_row leg.number m)
      (λ e. by_test Row (is_server_leg s leg) (on_is s m) (unexpected s)
      (λ f. kept (on_is s m).0 (same_is s m)) (λ f. h))

  pub pdu_row : (leg : Leg) (count : Count) (bytes : List ℕ) → Row (pdu s leg count bytes)
  pdu_row leg count bytes =
      by_test Row (is_client_leg leg) (pdu_by s (channel_of s leg.number) bytes) (unexpected s)
      (λ e. by (channel_of s leg.number) refl) (λ e. h)
    where
      by : (o : Option Which) → channel_of s leg.number ≡ o → Row (pdu_by s o bytes)
      by None e = h
      by (Some which) e = pdu_on (channel_opened leg.number which e) which bytes
