-- an is leg that a server keeps, which is not lost there: each row and each put keeps it
use Rattle.law_order.proofs.Vocabulary.{◌≡◌, ℕ, ◌==◌, List, Bool, true, false, true≢false, Some, None, refl, rules, sym, ◌∙◌, IfSome, slice_get, Option}
use Rattle.rh_sig.specs.declared.named.Named.TheVariants as named
use Rattle.rh_server.specs.declared.state.Leaving.TheVariants as leaving
use Rattle.rh_server.specs.declared.state.Greeting.TheVariants as greeting
use Rattle.rh_server.specs.declared.state.Tells.TheVariants as tells
use Rattle.law_moves.proofs.Vocabulary.{by_test, Cookie, Named, each_push, Leg, LegKind, ClientOut, OutServer, ClientIn, InServer, front_length, after_take, Due, Waiting, taken, Count, Message}
use Rattle.law_role_server.proofs.Vocabulary.{InLeg, Leaving, OutLeg, Tells, Gate, lets, Server, is_lost, in_leg, in_place, is_due, is_open, out_place, without_in, without_out, in_leg_up, may_up, up, up_by, drawn_by, in_is_drawn, settled, Pick, or_else, put_in_greeting, put_tells_by, put_tells, told_by, was_current, put_b1_by, put_b1, put_ack, put_in_by, gate_at, next_out, out_greeting_at, pdu_by, put_by, put_end, put_open, put_out_at, put_out_greeting, put_pdu, put_pdu_or_end}
use Rattle.law_role_server.proofs.Vocabulary.{put_waiting, settled_pick, waiting_at, waiting_by, was_put, on_is, on_os, on_ack, on_ack_to, on_ping_traffic, on_in_r2_a2, on_out_r1_a4, on_out_r1_a8, packet, packet_by, pdu, lost_in, mark_by, with_ack_dropped, give, take, close, recycle}
use Rattle.law_node_lasting.proofs.ServerLegs.{each_found, each_gone, number_more}
use Rattle.law_node_lasting.proofs.ServerStays.{keeps_conn_a2, keeps_conn_b2, keeps_end_a2, keeps_in_r1_a2, keeps_in_r1_a6, keeps_gone, keeps_lost, keeps_moved, keeps_same, keeps_settled, same_ack, same_ack_to, same_in_r2_a2, same_out_r1_a4, same_out_r1_a8, same_pdu, same_traffic, with_stays}
use Rattle.law_node_lasting.proofs.ServerStays as kept

-- however it leaves, it is not lost
abbrev pub Unlost : Leaving → Type 0
Unlost x = is_lost x ≡ false

pub kept_not : Unlost leaving.Lost → ⊥
kept_not e = true≢false e

module _ (n : ℕ) where
  abbrev pub IsStaying : InLeg → Type 0
  IsStaying = kept.IsStaying n Unlost kept_not

  abbrev pub Stays : Bool → Server → Type 0
  Stays = kept.Stays n Unlost kept_not

  abbrev pub Keeps : Server → Server → Type 0
  Keeps = kept.Keeps n Unlost kept_not

  abbrev Same : Server → Server → Type 0
  Same = kept.Same n Unlost kept_not

  by_same : (s t : Server) → Same s t → Keeps s t
  by_same s t same = keeps_same n Unlost kept_not s t same

  -- ---- rows

  is_keeps : (s : Server) (k : ℕ) (count : Count) (m : Named) → Keeps s (on_is s k count m).0
  is_keeps s k count (named.ConnB2 v1 v2 v3 v4 v5 v6 v7 v8) =
      keeps_conn_b2 n Unlost kept_not s k count v2 v3 v4 v5
  is_keeps s k count (named.InR1A2 v1 v2 v3 v4 v5 v6) =
      keeps_in_r1_a2 n Unlost kept_not s k count v2 v3 v4 v5 v6
  is_keeps s k count (named.InR1A6 successor) =
      keeps_in_r1_a6 n Unlost kept_not s k successor (λ same. refl)
  is_keeps s k count (named.InR2A2 successor) =
      by_same s (on_in_r2_a2 s k count successor).0
      (same_in_r2_a2 n Unlost kept_not s k count successor)
  is_keeps s k count (named.AckTo v1 v2 v3 v4) =
      by_same s (on_ack_to s count v1 v2 v3 v4).0
      (same_ack_to n Unlost kept_not s count v1 v2 v3 v4)
  is_keeps s k count (named.OutR1A8 v1 v2) =
      by_same s (on_out_r1_a8 s count v1 v2).0
      (same_out_r1_a8 n Unlost kept_not s count v1 v2)
  is_keeps s k count named.EndA2 = keeps_end_a2 n Unlost kept_not s k count
  is_keeps s k count m = λ has_come h. h

  os_keeps : (s : Server) (k : ℕ) (count : Count) (m : Named) → Keeps s (on_os s k count m).0
  os_keeps s k count (named.ConnA2 v1 v2 v3 v4 v5) =
      keeps_conn_a2 n Unlost kept_not s k count v2 v3 v4 v5
  os_keeps s k count (named.OutR1A4 v1 v2 v3 v4 v5 v6 v7) =
      by_same s (on_out_r1_a4 s k count v2 v3 v4 v5 v6 v7).0
      (same_out_r1_a4 n Unlost kept_not s k count v2 v3 v4 v5 v6 v7)
  os_keeps s k count (named.Ack v1 v2 v3) =
      by_same s (on_ack s k count v1 v2 v3).0 (same_ack n Unlost kept_not s k count v1 v2 v3)
  os_keeps s k count (named.PingTraffic bytes) =
      by_same s (on_ping_traffic s count).0 (same_traffic n Unlost kept_not s count)
  os_keeps s k count m = λ has_come h. h

  packet_by_keeps : (s : Server) (k : ℕ) (count : Count) (m : Named) (kind : LegKind)
      → Keeps s (packet_by s k count m kind).0
  packet_by_keeps s k count m InServer = is_keeps s k count m
  packet_by_keeps s k count m OutServer = os_keeps s k count m
  packet_by_keeps s k count m ClientIn = λ has_come h. h
  packet_by_keeps s k count m ClientOut = λ has_come h. h

  pub packet_keeps : (s : Server) (leg : Leg) (count : Count) (m : Named)
      → Keeps s (packet s leg count m).0
  packet_keeps s leg count m = packet_by_keeps s leg.number count m leg.kind

  pub pdu_keeps : (s : Server) (leg : Leg) (count : Count) (bytes : List ℕ)
      → Keeps s (pdu s leg count bytes).0
  pdu_keeps s leg count bytes =
      by_same s (pdu s leg count bytes).0 (same_pdu n Unlost kept_not s leg count bytes)

  -- ---- what is put

  abbrev pub PutKeeps : Bool → Pick → Type 0
  PutKeeps has_come pick = IfSome pick (λ (one : Server × Message). Stays has_come one.0)

  module _ (has_come : Bool) where
    abbrev PutSame : Server → Pick → Type 0
    PutSame s pick = IfSome pick (λ (one : Server × Message). Same s one.0)

    same_put : (s : Server) (pick : Pick) → PutSame s pick → Stays has_come s
        → PutKeeps has_come pick
    same_put s None same h = tt
    same_put s (Some one) same h = by_same s one.0 same has_come h

    or_put : (a b : Pick) → PutKeeps has_come a → PutKeeps has_come b
        → PutKeeps has_come (or_else a b)
    or_put None b h other = other
    or_put (Some pick) b h other = h

    same_told : (s : Server) (number : ℕ) → Same s (told_by s number)
    same_told s number = search rules

    module _ (s : Server) (leg : InLeg) (is : IsStaying leg) (h : Stays has_come s) where
      tells_put : (t : Tells) → PutKeeps has_come (put_tells_by s leg t)
      tells_put tells.Nothing = tt
      tells_put tells.ConnB3 =
          by_test (PutKeeps has_come) (is_open s.stage) _ None
          (λ t. with_stays n Unlost kept_not s (record leg { tells = tells.Nothing }) has_come is
          h) (λ t. tt)
      tells_put tells.InR1B2 =
          by_test (PutKeeps has_come) (was_current s leg) _ None
          (λ t. with_stays n Unlost kept_not (told_by s leg.number)
          (record leg { tells = tells.Nothing }) has_come is
          (by_same s (told_by s leg.number) (same_told s leg.number) has_come h))
          (λ t. tt)

      b1_put : (x : Leaving) → PutKeeps has_come (put_b1_by s leg x)
      b1_put leaving.Stays = tt
      b1_put leaving.Left = tt
      b1_put leaving.Lost = tt
      b1_put leaving.InR1B1 =
          with_stays n Unlost kept_not s (record leg { leaving = leaving.Left }) has_come
          (λ same. refl) h

      same_put_ack : PutSame s (put_ack s leg)
      same_put_ack = search rules

      leg_put : PutKeeps has_come (put_in_by s (Some leg))
      leg_put =
          or_put (put_in_greeting s leg) _
          (by_test (PutKeeps has_come) (is_due leg.greeting) _ None
          (λ t. with_stays n Unlost kept_not s (record leg { greeting = greeting.Put }) has_come
          is h) (λ t. tt))
          (or_put (put_tells s leg) _ (tells_put leg.tells)
          (or_put (put_b1 s leg) (put_ack s leg) (b1_put leg.leaving)
          (same_put s (put_ack s leg) same_put_ack h)))

    in_put : (s : Server) (o : Option InLeg) → IfSome o IsStaying → Stays has_come s
        → PutKeeps has_come (put_in_by s o)
    in_put s None is h = tt
    in_put s (Some leg) is h = leg_put s leg is h

    same_out_greeting : (s : Server) (place : ℕ) (o : Option OutLeg)
        → PutSame s (out_greeting_at s place o)
    same_out_greeting s place o = search rules

    same_was_put : (s : Server) (place : ℕ) (m : Named) → Same s (was_put s place m)
    same_was_put s place m = search rules

    waiting_put : (s : Server) (place : ℕ) (o : Option Gate) → Stays has_come s
        → PutKeeps has_come (waiting_at s place o)
    waiting_put s place None h = tt
    waiting_put s place (Some gate) h =
        found (taken (lets gate) s.waiting).0 (taken (lets gate) s.waiting).1
      where
        found : (w : Waiting) (o : Option Due)
            → PutKeeps has_come (waiting_by s place (w, o))
        found w None = tt
        found w (Some due) =
            let t : Server = record s { waiting = w } in
            by_same t (was_put t place due.packet) (same_was_put t place due.packet) has_come
            (record { each = h.each; there = h.there; work = h.work })

    same_put_pdu : (s : Server) (place : ℕ) (o : Option ℕ) → PutSame s (pdu_by s place o)
    same_put_pdu s place o = search rules

    same_put_end : (s : Server) (place : ℕ) → PutSame s (put_end s place)
    same_put_end s place = search rules

    settled_put : (pick : Pick) → PutKeeps has_come pick → PutKeeps has_come (settled_pick pick)
    settled_put None h = tt
    settled_put (Some pick) h = keeps_settled n Unlost kept_not pick.0 has_come h

    next_put : (s : Server) (place : ℕ) → Stays has_come s
        → PutKeeps has_come (next_out s place)
    next_put s place h =
        or_put (put_waiting s place) (put_pdu_or_end s place)
        (waiting_put s place (gate_at s (slice_get s.outs place)) h)
        (or_put (put_pdu s place) (put_end s place)
        (same_put s (put_pdu s place) (same_put_pdu s place (front_length s.queue)) h)
        (same_put s (put_end s place) (same_put_end s place) h))

    out_put : (s : Server) (o : Option ℕ) → Stays has_come s
        → PutKeeps has_come (put_out_at s o)
    out_put s None h = tt
    out_put s (Some place) h =
        or_put (put_out_greeting s place) (put_open s place)
        (same_put s (put_out_greeting s place)
        (same_out_greeting s place (slice_get s.outs place)) h)
        (by_test (PutKeeps has_come) (is_open s.stage) (settled_pick (next_out s place)) None
        (λ t. settled_put (next_out s place) (next_put s place h)) (λ t. tt))

    pub put_keeps : (s : Server) (number : ℕ) (k : LegKind) → Stays has_come s
        → PutKeeps has_come (put_by s number k)
    put_keeps s number InServer h =
        in_put s (in_leg number s.ins)
        (each_found IsStaying s.ins (in_place number s.ins) h.each) h
    put_keeps s number OutServer h = out_put s (out_place number s.outs) h
    put_keeps s number ClientIn h = tt
    put_keeps s number ClientOut h = tt

  -- ---- legs come up, are drawn to their ends, and are lost

  pub up_keeps : (s : Server) (leg : Leg) (cookie : Cookie) → Keeps s (up s leg cookie)
  up_keeps s leg cookie has_come h =
      by_test (Stays has_come) (may_up s leg) (up_by s leg.number leg.kind) s (λ t. by leg.kind)
      (λ t. h)
    where
      by : (kind : LegKind) → Stays has_come (up_by s leg.number kind)
      by InServer = record {
        each = each_push IsStaying s.ins (in_leg_up leg.number) h.each (λ same. refl);
        there = λ e. number_more n s.ins (in_leg_up leg.number) (h.there e);
        work = h.work;
      }
      by OutServer = record { each = h.each; there = h.there; work = h.work }
      by ClientIn = h
      by ClientOut = h

  -- of another leg, unless nothing is asked of its being there
  gone_keeps : (s : Server) (k : ℕ) (has_come : Bool)
      → (k == n ≡ true → has_come ≡ false) → Stays has_come s
      → Stays has_come (without_in s k)
  gone_keeps s k has_come other h = by (k == n) refl
    where
      by : (b : Bool) → k == n ≡ b → Stays has_come (without_in s k)
      by false e = keeps_gone n Unlost kept_not s k e has_come h
      by true e = record {
        each = each_gone IsStaying s.ins (in_place k s.ins) h.each;
        there = λ t. absurd (true≢false (sym t ∙ other e));
        work = h.work;
      }

  pub drawn_keeps : (s : Server) (k : ℕ) (kind : LegKind) (has_come : Bool)
      → (k == n ≡ true → kind ≡ InServer → has_come ≡ false) → Stays has_come s
      → Stays has_come (drawn_by s k kind)
  drawn_keeps s k InServer has_come other h =
      by_test (Stays has_come) (in_is_drawn (in_leg k s.ins)) (settled (without_in s k)) s
      (λ t. keeps_settled n Unlost kept_not (without_in s k) has_come
      (gone_keeps s k has_come (λ e. other e refl) h))
      (λ t. h)
  drawn_keeps s k OutServer has_come other h = h
  drawn_keeps s k ClientIn has_come other h = h
  drawn_keeps s k ClientOut has_come other h = h

  pub mark_keeps : (s : Server) (k : ℕ) (kind : LegKind)
      → (kind ≡ InServer → k == n ≡ false) → Keeps s (mark_by s k kind)
  mark_keeps s k InServer other has_come h =
      keeps_settled n Unlost kept_not (lost_in s k (in_leg k s.ins)) has_come
      (keeps_lost n Unlost kept_not s k (other refl) has_come h)
  mark_keeps s k OutServer other has_come h =
      keeps_settled n Unlost kept_not (without_out (with_ack_dropped s k) k) has_come
      (record { each = h.each; there = h.there; work = h.work })
  mark_keeps s k ClientIn other has_come h = h
  mark_keeps s k ClientOut other has_come h = h

  -- ---- the calls of an end

  same_give : (s : Server) (bytes : List ℕ) → Same s (give s bytes).0
  same_give s bytes = search rules

  same_recycle : (s : Server) → Same s (recycle s).0
  same_recycle s = search rules

  pub give_keeps : (s : Server) (bytes : List ℕ) → Keeps s (give s bytes).0
  give_keeps s bytes = by_same s (give s bytes).0 (same_give s bytes)

  pub take_keeps : (s : Server) → Keeps s (take s)
  take_keeps s has_come h =
      keeps_moved n Unlost kept_not s.line.has_next (record s { line = after_take s.line })
      has_come (record { each = h.each; there = h.there; work = h.work })

  pub close_keeps : (s : Server) → Keeps s (close s)
  close_keeps s has_come h = record { each = h.each; there = h.there; work = h.work }

  pub recycle_keeps : (s : Server) → Keeps s (recycle s).0
  recycle_keeps s = by_same s (recycle s).0 (same_recycle s)
