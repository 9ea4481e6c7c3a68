-- what a server's state says of what it put first: each step that puts nothing keeps it
use Rattle.rh_keep.specs.Meters.{started}
use Rattle.law_order.proofs.Vocabulary.{◌≡◌, ℕ, ◌+◌, ◌==◌, ◌&&◌, Bool, true, false, not, if◌then◌else◌, List, [], Some, None, arith, rules, refl, sym, subst, ap, and_parts, slice_get, slice_set, Option}
use Rattle.rh_sig.specs.declared.named.Named.TheVariants as named
use Rattle.rh_shell.specs.declared.answers.Refused.TheVariants as refused
use Rattle.rh_server.specs.Servers.{pdu_by}
use Rattle.rh_server.specs.declared.out_line.Kind.TheVariants as kind
use Rattle.rh_server.specs.declared.state.Stage.TheVariants as stage
use Rattle.rh_server.specs.declared.state.Greeting.TheVariants as greeting
use Rattle.rh_server.specs.declared.state.InStage.TheVariants as in_stage
use Rattle.rh_server.specs.declared.state.Edge.TheVariants as edge
use Rattle.rh_server.specs.declared.state.Leaving.TheVariants as leaving
use Rattle.law_moves.proofs.Vocabulary.{by_test, same_number, Cookie, Named, after_finish, after_take, Leg, LegKind, ClientOut, OutServer, ClientIn, InServer, Which, Current, Next, Count}
use Rattle.law_role_server.proofs.Vocabulary.{Stage, Greeting, InStage, InLeg, OutLeg, length_of, waits, counted, acked, Server, same_cookie, is_fresh, in_place, in_at, in_leg, set_at, removed_at, with_in, without_in, out_place, out_at, out_cookie, without_out, Done, took, refuse, unexpected, opens, with_out_channel, first_out_at, with_first_out, conn_a2_at, on_conn_a2, first_in, with_first_in, conn_b2_at, on_conn_b2, may_up_by, has_room, in_leg_up, out_leg_up, up_by, counts}
use Rattle.law_role_server.proofs.Vocabulary.{counts_at, was_put, settled, give, end_a2_on_leg, end_a2_waiting, end_a2_at, on_end_a2, is_over_on, in_is_drawn, drawn_by, lost_in, with_ack_dropped, mark_by, channel_at, on_ack_to, acked_at, acked_in, acked_cookie, on_ack, on_ping_traffic, next_opened, opens_next, opens_leg, first_waiting, waiting_place, becomes_current, moved_if, take, announced, in_r1_a2_by, in_r1_a2_at, on_in_r1_a2, leaves, leaves_by, hands_over, on_in_r1_a6}
use Rattle.law_role_server.proofs.Vocabulary.{in_r2_a2_on, on_in_r2_a2, on_out_r1_a8, recycle, answered_by, answered_on, out_r1_a4_by, out_r1_a4_at, may_answer, on_out_r1_a4, on_is, on_os, packet_by}
use Rattle.law_node_begins.proofs.EndsBegin.Stands.{Logs}
use Rattle.law_node_begins.proofs.EndsBegin.KeptLegs.{Spot, spots, AreBegun, spots_set, spots_kept, kept_up, kept_past, kept_removed}

abbrev pub has_begun : Greeting → Bool
has_begun greeting.Due = false
has_begun greeting.Put = true

abbrev pub in_spot : InLeg → Spot
in_spot leg = record { number = leg.number; begun = has_begun leg.greeting }

abbrev pub out_spot : OutLeg → Spot
out_spot leg = record { number = leg.number; begun = has_begun leg.greeting }

-- the legs that are kept, and the newest number of each kind
pub record Seen : Type 0 where
  pub ins : List Spot
  pub newest_in : ℕ
  pub outs : List Spot
  pub newest_out : ℕ

abbrev pub seen : Server → Seen
seen s = record {
  ins = spots in_spot s.ins;
  newest_in = s.newest_in;
  outs = spots out_spot s.outs;
  newest_out = s.newest_out;
}

-- ---- what leaves it alone

pub settled_seen : (s : Server) → seen (settled s) ≡ seen s
settled_seen s = search rules

give_seen : (s : Server) (pdu : List ℕ) → seen (give s pdu).0 ≡ seen s
give_seen s pdu = search rules

recycle_seen : (s : Server) → seen (recycle s).0 ≡ seen s
recycle_seen s = search rules

ack_to_seen : (s : Server) (count : Count) (a b c : ℕ) (of : Cookie)
    → seen (on_ack_to s count a b c of).0 ≡ seen s
ack_to_seen s count a b c of = search rules

a8_seen : (s : Server) (count : Count) (d : ℕ) (of : Cookie)
    → seen (on_out_r1_a8 s count d of).0 ≡ seen s
a8_seen s count d of = search rules

-- an os leg is replaced by one that says the same
pub outs_seen : (s : Server) (place : ℕ) (leg other : OutLeg) → slice_get s.outs place ≡ Some leg
    → out_spot other ≡ out_spot leg
    → seen (record s { outs = slice_set s.outs place other }) ≡ seen s
outs_seen s place leg other e same =
    ap (λ outs. record (seen s) { outs = outs }) (spots_set out_spot s.outs place leg other e same)

pub counts_seen : (s : Server) (place len : ℕ) → seen (counts s place len) ≡ seen s
counts_seen s place len = by (slice_get s.outs place) refl
  where
    by : (leg : Option OutLeg) → slice_get s.outs place ≡ leg
        → seen (counts_at s place len leg) ≡ seen s
    by None e = refl
    by (Some leg) e = outs_seen s place leg (counted leg len) e refl

pub put_seen : (s : Server) (place : ℕ) (packet : Named) → seen (was_put s place packet) ≡ seen s
put_seen s place (named.AckTo a b c d) =
    by_test (λ t. seen t ≡ seen s) (a == 3) s (counts s place 56) (λ e. refl)
    (λ e. counts_seen s place 56)
put_seen s place named.OutR1A9 = counts_seen s place 24
put_seen s place packet = counts_seen s place (length_of packet)

-- the legs of the client's side have nothing
abbrev pub IsApart : Logs → Type 0
IsApart logs = (n : ℕ)
    → (logs (record { kind = ClientOut; number = n }) ≡ [])
    × (logs (record { kind = ClientIn; number = n }) ≡ [])

abbrev pub is_leg : ℕ → Leg
is_leg n = record { kind = InServer; number = n }

abbrev pub os_leg : ℕ → Leg
os_leg n = record { kind = OutServer; number = n }

-- the logs are as the state says
pub record Kept (IsFirst : List ℕ → Type 0) (logs : Logs) (d : Seen) : Type 0 where
  pub ins : AreBegun IsFirst d.newest_in d.ins (λ n. logs (is_leg n))
  pub outs : AreBegun IsFirst d.newest_out d.outs (λ n. logs (os_leg n))
  pub apart : IsApart logs

module _ (IsFirst : List ℕ → Type 0) (logs : Logs) where
  abbrev pub Keeps : Server → Type 0
  Keeps s = Kept IsFirst logs (seen s)

  abbrev RowKeeps : Done → Type 0
  RowKeeps d = Keeps d.0

  pub same : (s t : Server) → seen t ≡ seen s → Keeps s → Keeps t
  same s t e k = subst (λ d. Kept IsFirst logs d) (sym e) k

  -- ---- is legs

  -- a leg that is kept is replaced by one that says the same
  pub spots_with : (s : Server) (o : Option ℕ) (leg other : InLeg) → in_at s.ins o ≡ Some leg
      → in_spot other ≡ in_spot leg → Keeps s
      → spots in_spot (set_at s.ins other (in_place other.number s.ins)) ≡ spots in_spot s.ins
  spots_with s None leg other e is k = absurd (cc)
  spots_with s (Some i) leg other e is k = by (in_place other.number s.ins) refl
    where
      by : (j : Option ℕ) → in_place other.number s.ins ≡ j
          → spots in_spot (set_at s.ins other j) ≡ spots in_spot s.ins
      by None at = refl
      by (Some j) at =
          spots_kept IsFirst in_spot (λ n. logs (is_leg n)) 0 s.newest_in s.ins i j leg other e is
          at k.ins.rising

  pub with_keeps : (s : Server) (o : Option ℕ) (leg other : InLeg) → in_at s.ins o ≡ Some leg
      → in_spot other ≡ in_spot leg → Keeps s → Keeps (with_in s other)
  with_keeps s o leg other e is k =
      same s (with_in s other)
      (ap (λ ins. record (seen s) { ins = ins }) (spots_with s o leg other e is k)) k

  without_in_keeps : (s : Server) (n : ℕ) → Keeps s → Keeps (without_in s n)
  without_in_keeps s n k = by (in_place n s.ins)
    where
      by : (o : Option ℕ) → Keeps (record s { ins = removed_at s.ins o })
      by None = k
      by (Some place) = record {
        ins = kept_removed IsFirst in_spot (λ n. logs (is_leg n)) s.newest_in s.ins place k.ins;
        outs = k.outs;
        apart = k.apart;
      }

  without_out_keeps : (s : Server) (n : ℕ) → Keeps s → Keeps (without_out s n)
  without_out_keeps s n k = by (out_place n s.outs)
    where
      by : (o : Option ℕ) → Keeps (record s { outs = removed_at s.outs o })
      by None = k
      by (Some place) = record {
        ins = k.ins;
        outs =
            kept_removed IsFirst out_spot (λ n. logs (os_leg n)) s.newest_out s.outs place k.outs;
        apart = k.apart;
      }

  -- ---- CONN/A2 and CONN/B2

  first_out_keeps : (s : Server) (cookie : Cookie) (lifetime window : ℕ) → Keeps s
      → Keeps (with_first_out s cookie lifetime window)
  first_out_keeps s cookie lifetime window k =
      by (out_place 1 s.outs) (out_at s.outs (out_place 1 s.outs)) refl
    where
      by : (place : Option ℕ) (leg : Option OutLeg) → out_at s.outs place ≡ leg
          → Keeps (first_out_at s cookie lifetime window place leg)
      by (Some place) (Some leg) e =
          same s (with_out_channel s place leg cookie window (started lifetime 28))
          (outs_seen s place leg _ e refl) k
      by (Some place) None e = k
      by None leg e = k

  conn_a2_keeps : (s : Server) (n : ℕ) (count : Count) (connection cookie : Cookie)
      (lifetime window : ℕ) → Keeps s
      → RowKeeps (on_conn_a2 s n count connection cookie lifetime window)
  conn_a2_keeps s n count connection cookie lifetime window k =
      by_test RowKeeps _ (conn_a2_at s s.stage connection cookie lifetime window) (unexpected s)
      (λ e. by s.stage) (λ e. k)
    where
      opened : Keeps (with_first_out s cookie lifetime window)
      opened = first_out_keeps s cookie lifetime window k

      by : (x : Stage) → RowKeeps (conn_a2_at s x connection cookie lifetime window)
      by stage.Waits = opened
      by (stage.InCame first in_window timeout) =
          by_test RowKeeps (same_cookie first connection)
          (took (opens (with_first_out s cookie lifetime window) first in_window timeout)) _
          (λ e. opened) (λ e. k)
      by (stage.OutCame first) = k
      by (stage.Open first) = k
      by stage.Ended = k

  first_in_keeps : (s : Server) (cookie : Cookie) → Keeps s → Keeps (with_first_in s cookie)
  first_in_keeps s cookie k = by (in_leg 1 s.ins) refl
    where
      by : (leg : Option InLeg) → in_leg 1 s.ins ≡ leg → Keeps (first_in s cookie leg)
      by None e = k
      by (Some leg) e = with_keeps s (in_place 1 s.ins) leg _ e refl k

  conn_b2_keeps : (s : Server) (n : ℕ) (count : Count) (connection cookie : Cookie)
      (window timeout : ℕ) → Keeps s
      → RowKeeps (on_conn_b2 s n count connection cookie window timeout)
  conn_b2_keeps s n count connection cookie window timeout k =
      by_test RowKeeps _ (conn_b2_at s s.stage connection cookie window timeout) (unexpected s)
      (λ e. by s.stage) (λ e. k)
    where
      opened : Keeps (with_first_in s cookie)
      opened = first_in_keeps s cookie k

      by : (x : Stage) → RowKeeps (conn_b2_at s x connection cookie window timeout)
      by stage.Waits = opened
      by (stage.OutCame first) =
          by_test RowKeeps (same_cookie first connection)
          (took (opens (with_first_in s cookie) first window timeout)) _
          (λ e. opened) (λ e. k)
      by (stage.InCame first in_window in_timeout) = k
      by (stage.Open first) = k
      by stage.Ended = k

  -- ---- the IN channel is replaced

  opens_keeps : (s : Server) (o : Option ℕ) (leg : Option InLeg) → in_at s.ins o ≡ leg → Keeps s
      → Keeps (opens_leg s leg)
  opens_keeps s o None e k = k
  opens_keeps s o (Some leg) e k = by leg.stage
    where
      by : (x : InStage) → Keeps (opens_next s leg x)
      by in_stage.Fresh = k
      by in_stage.Opened = k
      by (in_stage.Waits window timeout ended) = with_keeps s o leg _ e refl k

  next_opened_keeps : (s : Server) → Keeps s → Keeps (next_opened s)
  next_opened_keeps s k =
      by_test Keeps _ s (opens_leg s (first_waiting s.ins)) (λ e. k)
      (λ e. opens_keeps s (waiting_place s.ins) (first_waiting s.ins) refl k)

  moved_keeps : (had : Bool) (s : Server) → Keeps s → Keeps (moved_if had s)
  moved_keeps had s k =
      by_test Keeps (had && not s.line.has_next) (becomes_current s) s
      (λ e. next_opened_keeps (record s { current = s.next; edge = edge.Shut }) k) (λ e. k)

  pub take_keeps : (s : Server) → Keeps s → Keeps (take s)
  take_keeps s k = moved_keeps s.line.has_next (record s { line = after_take s.line }) k

  announced_keeps : (s : Server) (o : Option ℕ) (leg : InLeg) (successor : Cookie)
      (window timeout : ℕ) → in_at s.ins o ≡ Some leg → Keeps s
      → Keeps (announced s leg successor window timeout)
  announced_keeps s o leg successor window timeout e k =
      let other : InLeg =
      record leg { cookie = successor; stage = in_stage.Waits window timeout false } in
      next_opened_keeps (with_in
      (record s { newest = record { leg = leg.number; cookie = successor } }) other)
      (with_keeps s o leg other e refl k)

  in_r1_a2_keeps : (s : Server) (n : ℕ) (count : Count) (connection predecessor successor : Cookie)
      (window timeout : ℕ) → Keeps s
      → RowKeeps (on_in_r1_a2 s n count connection predecessor successor window timeout)
  in_r1_a2_keeps s n count connection predecessor successor window timeout k =
      by_test RowKeeps _
      (in_r1_a2_at s s.stage n connection predecessor successor window timeout) (unexpected s)
      (λ e. staged s.stage) (λ e. k)
    where
      by : (first : Cookie) (leg : Option InLeg) → in_leg n s.ins ≡ leg
          → RowKeeps (in_r1_a2_by s first connection predecessor successor window timeout leg)
      by first None e = k
      by first (Some leg) e =
          let next = took (announced s leg successor window timeout) in
          let other = refuse s (refused.Cookie s.newest.cookie predecessor) in
          let beyond = if not (same_cookie s.newest.cookie predecessor) then other else next in
          let stranger = refuse s (refused.Cookie first connection) in
          by_test RowKeeps (not (is_fresh leg.stage)) (unexpected s)
          (if not (same_cookie first connection) then stranger else beyond) (λ f. k)
          (λ f. by_test RowKeeps (not (same_cookie first connection)) stranger beyond (λ g. k)
          (λ g. by_test RowKeeps (not (same_cookie s.newest.cookie predecessor)) other next
          (λ h. k)
          (λ h. announced_keeps s (in_place n s.ins) leg successor window timeout e k)))

      staged : (x : Stage)
          → RowKeeps (in_r1_a2_at s x n connection predecessor successor window timeout)
      staged (stage.Open first) = by first (in_leg n s.ins) refl
      staged stage.Waits = k
      staged (stage.OutCame first) = k
      staged (stage.InCame first in_window in_timeout) = k
      staged stage.Ended = k

  leaves_keeps : (s : Server) (n : ℕ) → Keeps s → Keeps (leaves s n)
  leaves_keeps s n k = by (in_leg n s.ins) refl
    where
      by : (leg : Option InLeg) → in_leg n s.ins ≡ leg → Keeps (leaves_by s leg)
      by None e = k
      by (Some leg) e = with_keeps s (in_place n s.ins) leg _ e refl k

  a6_keeps : (s : Server) (n : ℕ) (successor : Cookie) → Keeps s
      → RowKeeps (on_in_r1_a6 s n successor)
  a6_keeps s n successor k =
      by_test RowKeeps
      ((n == s.current.leg)
      && (not s.line.finished && (s.line.has_next && not (waits kind.InR1A3 s.waiting))))
      (if same_cookie s.next.cookie successor then took (hands_over s n)
      else refuse s (refused.Cookie s.next.cookie successor))
      (unexpected s)
      (λ e. by_test RowKeeps (same_cookie s.next.cookie successor) (took (hands_over s n))
      (refuse s (refused.Cookie s.next.cookie successor))
      (λ f. moved_keeps true (record (leaves s n) { line = after_finish s.line })
      (leaves_keeps s n k)) (λ f. k))
      (λ e. k)

  in_r2_a2_keeps : (s : Server) (n : ℕ) (count : Count) (successor : Cookie) → Keeps s
      → RowKeeps (on_in_r2_a2 s n count successor)
  in_r2_a2_keeps s n count successor k =
      by_test RowKeeps _ (in_r2_a2_on s n successor (channel_at s n)) (unexpected s)
      (λ e. by (channel_at s n)) (λ e. k)
    where
      past : AreBegun IsFirst (s.newest_in + 1) (spots in_spot s.ins) (λ n. logs (is_leg n))
      past = kept_past IsFirst in_spot (λ n. logs (is_leg n)) s.newest_in s.ins k.ins

      by : (which : Option Which) → RowKeeps (in_r2_a2_on s n successor which)
      by None = k
      by (Some Current) = record { ins = past; outs = k.outs; apart = k.apart }
      by (Some Next) = record { ins = past; outs = k.outs; apart = k.apart }

  -- ---- END/A2

  end_a2_keeps : (s : Server) (n : ℕ) (count : Count) → Keeps s → RowKeeps (on_end_a2 s n count)
  end_a2_keeps s n count k =
      by_test RowKeeps _ (unexpected s) (end_a2_at s n (channel_at s n)) (λ e. k)
      (λ e. by (channel_at s n))
    where
      staged : (leg : InLeg) → in_leg n s.ins ≡ Some leg → (x : InStage)
          → RowKeeps (end_a2_on_leg s leg x)
      staged leg e in_stage.Fresh = k
      staged leg e in_stage.Opened = k
      staged leg e (in_stage.Waits window timeout ended) =
          by_test RowKeeps ended (unexpected s) _ (λ f. k)
          (λ f. with_keeps s (in_place n s.ins) leg
          (record leg { stage = in_stage.Waits window timeout true }) e refl k)

      waiting : (leg : Option InLeg) → in_leg n s.ins ≡ leg → RowKeeps (end_a2_waiting s leg)
      waiting None e = k
      waiting (Some leg) e = staged leg e leg.stage

      by : (which : Option Which) → RowKeeps (end_a2_at s n which)
      by None = waiting (in_leg n s.ins) refl
      by (Some which) =
          by_test RowKeeps (is_over_on s which) (unexpected s) _ (λ e. k) (λ e. k)

  -- ---- os legs

  ack_keeps : (s : Server) (n : ℕ) (count : Count) (received window : ℕ) (cookie : Cookie)
      → Keeps s → RowKeeps (on_ack s n count received window cookie)
  ack_keeps s n count received window cookie k =
      by_test RowKeeps _ (unexpected s)
      (acked_cookie s n received window cookie (out_cookie n s.outs)) (λ e. k)
      (λ e. of_cookie (out_cookie n s.outs))
    where
      leg_at : (place : ℕ) (leg : Option OutLeg) → slice_get s.outs place ≡ leg
          → RowKeeps (acked_at s place received window leg)
      leg_at place None e = k
      leg_at place (Some leg) e =
          same s (record s { outs = slice_set s.outs place (acked leg received window).0 })
          (outs_seen s place leg (acked leg received window).0 e refl) k

      placed : (place : Option ℕ) → RowKeeps (acked_in s received window place)
      placed None = k
      placed (Some place) = leg_at place (slice_get s.outs place) refl

      of_cookie : (channel : Option Cookie)
          → RowKeeps (acked_cookie s n received window cookie channel)
      of_cookie None = k
      of_cookie (Some channel) =
          by_test RowKeeps (same_cookie channel cookie)
          (acked_in s received window (out_place n s.outs)) _
          (λ e. placed (out_place n s.outs)) (λ e. k)

  a4_keeps : (s : Server) (n : ℕ) (count : Count) (connection predecessor successor : Cookie)
      (lifetime window timeout : ℕ) → Keeps s
      → RowKeeps (on_out_r1_a4 s n count connection predecessor successor lifetime window timeout)
  a4_keeps s n count connection predecessor successor lifetime window timeout k =
      by_test RowKeeps (may_answer s n count)
      (out_r1_a4_at s s.stage n connection predecessor successor lifetime window timeout)
      (unexpected s) (λ e. staged s.stage) (λ e. k)
    where
      placed : (place : Option ℕ) (leg : Option OutLeg) → out_at s.outs place ≡ leg
          → RowKeeps (answered_by s successor lifetime window timeout place leg)
      placed (Some place) (Some leg) e =
          same s (with_out_channel s place leg successor window (started lifetime 0))
          (outs_seen s place leg _ e refl) k
      placed (Some place) None e = k
      placed None leg e = k

      of_writing : (first : Cookie) (writing : Option Cookie)
          → RowKeeps (out_r1_a4_by s n first connection predecessor successor lifetime window
          timeout writing)
      of_writing first None = k
      of_writing first (Some writing) =
          by_test RowKeeps (not (same_cookie first connection)) _ _ (λ e. k)
          (λ e. by_test RowKeeps (not (same_cookie writing predecessor)) _
          (answered_on s n successor lifetime window timeout) (λ f. k)
          (λ f. placed (out_place n s.outs) (out_at s.outs (out_place n s.outs)) refl))

      staged : (x : Stage) → RowKeeps (out_r1_a4_at s x n connection predecessor successor
          lifetime window timeout)
      staged (stage.Open first) = of_writing first (out_cookie s.writing s.outs)
      staged stage.Waits = k
      staged (stage.OutCame first) = k
      staged (stage.InCame first in_window in_timeout) = k
      staged stage.Ended = k

  -- ---- the tables

  is_keeps : (s : Server) (n : ℕ) (count : Count) (packet : Named) → Keeps s
      → RowKeeps (on_is s n count packet)
  is_keeps s n count (named.ConnB2 v c d w t g a b) k = conn_b2_keeps s n count c d w t k
  is_keeps s n count (named.InR1A2 v c p d w t) k = in_r1_a2_keeps s n count c p d w t k
  is_keeps s n count (named.InR1A6 c) k = a6_keeps s n c k
  is_keeps s n count (named.InR2A2 c) k = in_r2_a2_keeps s n count c k
  is_keeps s n count (named.AckTo to r w c) k =
      same s (on_ack_to s count to r w c).0 (ack_to_seen s count to r w c) k
  is_keeps s n count (named.OutR1A8 to c) k =
      same s (on_out_r1_a8 s count to c).0 (a8_seen s count to c) k
  is_keeps s n count named.EndA2 k = end_a2_keeps s n count k
  is_keeps s n count packet k = k

  os_keeps : (s : Server) (n : ℕ) (count : Count) (packet : Named) → Keeps s
      → RowKeeps (on_os s n count packet)
  os_keeps s n count (named.ConnA2 v c d life w) k = conn_a2_keeps s n count c d life w k
  os_keeps s n count (named.OutR1A4 v c p d life w t) k = a4_keeps s n count c p d life w t k
  os_keeps s n count (named.Ack r w c) k = ack_keeps s n count r w c k
  os_keeps s n count (named.PingTraffic b) k =
      same s (on_ping_traffic s count).0 (search rules) k
  os_keeps s n count packet k = k

  pub packet_keeps : (s : Server) (n : ℕ) (count : Count) (packet : Named) (kind : LegKind)
      → Keeps s → RowKeeps (packet_by s n count packet kind)
  packet_keeps s n count packet InServer k = is_keeps s n count packet k
  packet_keeps s n count packet OutServer k = os_keeps s n count packet k
  packet_keeps s n count packet ClientIn k = k
  packet_keeps s n count packet ClientOut k = k

  pub pdu_keeps : (s : Server) (n : ℕ) (bytes : List ℕ) (kind : LegKind) → Keeps s
      → RowKeeps (pdu_by s n bytes kind)
  pdu_keeps s n bytes kind k = same s (pdu_by s n bytes kind).0 (search rules) k

  -- ---- legs come up, are drawn and lost

  pub up_keeps : (s : Server) (n : ℕ) (kind : LegKind) → may_up_by s n kind ≡ true → Keeps s
      → Keeps (up_by s n kind)
  up_keeps s n InServer may k =
      let next = same_number n (s.newest_in + 1)
      (and_parts (n == s.newest_in + 1) (has_room s.ins) may).0 in
      record {
        ins = kept_up IsFirst in_spot (λ n. logs (is_leg n)) s.newest_in n s.ins (in_leg_up n)
            (omega (arith, next)) refl k.ins;
        outs = k.outs;
        apart = k.apart;
      }
  up_keeps s n OutServer may k =
      let next = same_number n (s.newest_out + 1)
      (and_parts (n == s.newest_out + 1) (has_room s.outs) may).0 in
      record {
        ins = k.ins;
        outs = kept_up IsFirst out_spot (λ n. logs (os_leg n)) s.newest_out n s.outs (out_leg_up n)
            (omega (arith, next)) refl k.outs;
        apart = k.apart;
      }
  up_keeps s n ClientIn may k = k
  up_keeps s n ClientOut may k = k

  pub settled_keeps : (s : Server) → Keeps s → Keeps (settled s)
  settled_keeps s k = same s (settled s) (settled_seen s) k

  pub drawn_keeps : (s : Server) (n : ℕ) (kind : LegKind) → Keeps s → Keeps (drawn_by s n kind)
  drawn_keeps s n InServer k =
      by_test Keeps (in_is_drawn (in_leg n s.ins)) (settled (without_in s n)) s
      (λ e. settled_keeps (without_in s n) (without_in_keeps s n k)) (λ e. k)
  drawn_keeps s n OutServer k = k
  drawn_keeps s n ClientIn k = k
  drawn_keeps s n ClientOut k = k

  lost_keeps : (s : Server) (n : ℕ) (leg : Option InLeg) → in_leg n s.ins ≡ leg → Keeps s
      → Keeps (lost_in s n leg)
  lost_keeps s n None e k = without_in_keeps s n k
  lost_keeps s n (Some leg) e k =
      by_test Keeps _ (with_in s (record leg { leaving = leaving.Lost })) (without_in s n)
      (λ f. with_keeps s (in_place n s.ins) leg (record leg { leaving = leaving.Lost }) e refl k)
      (λ f. without_in_keeps s n k)

  pub mark_keeps : (s : Server) (n : ℕ) (kind : LegKind) → Keeps s → Keeps (mark_by s n kind)
  mark_keeps s n InServer k =
      settled_keeps (lost_in s n (in_leg n s.ins)) (lost_keeps s n (in_leg n s.ins) refl k)
  mark_keeps s n OutServer k =
      settled_keeps (without_out (with_ack_dropped s n) n)
      (without_out_keeps (with_ack_dropped s n) n k)
  mark_keeps s n ClientIn k = k
  mark_keeps s n ClientOut k = k

  pub give_keeps : (s : Server) (pdu : List ℕ) → Keeps s → Keeps (give s pdu).0
  give_keeps s pdu k = same s (give s pdu).0 (give_seen s pdu) k

  pub recycle_keeps : (s : Server) → Keeps s → Keeps (recycle s).0
  recycle_keeps s k = same s (recycle s).0 (recycle_seen s) k
