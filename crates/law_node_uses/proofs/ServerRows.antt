-- an os leg that a server keeps stays behind each packet that comes
use Rattle.rh_keep.specs.Meters.{started}
use Rattle.law_order.proofs.Vocabulary.{◌≡◌, ℕ, ◌==◌, ◌&&◌, not, Some, None, refl, sym, ap, subst, rules, slice_get, slice_set, Option}
use Rattle.rh_sig.specs.declared.named.Named.TheVariants as named
use Rattle.rh_shell.specs.declared.answers.Refused.TheVariants as refused
use Rattle.rh_server.specs.declared.state.Stage.TheVariants as stage
use Rattle.rh_server.specs.declared.out_line.Kind.TheVariants as kind
use Rattle.law_moves.proofs.Vocabulary.{unsent, after_acked, by_test, Cookie, Named, LegKind, ClientOut, OutServer, ClientIn, InServer, Count}
use Rattle.law_role_server.proofs.Vocabulary.{OutLeg, Stage, waits, Server, same_cookie, out_place, out_at, out_cookie, Done, took, refuse, unexpected, is_first, opens, first_out_at, with_first_out, conn_a2_at, on_conn_a2, on_conn_b2, acked_at, acked_in, acked_cookie, on_ack, on_ping_traffic, answered_by, answered_on, out_r1_a4_by, out_r1_a4_at, may_answer, on_out_r1_a4, on_out_r1_a8, on_is, on_os, packet_by}
use Rattle.law_role_server_rows.proofs.Refusing.Told.{Seen, seen, in_r1_a2_same, in_r1_a6_same, in_r2_a2_same, ack_to_same, end_a2_same, ping_same}
use Rattle.law_role_server_rows.proofs.Refusing.Writing.{HasLeg, has_set}

-- the same os legs are kept
abbrev pub Same : Server → Server → Type 0
Same s t = t.outs ≡ s.outs

-- the leg of this number is
abbrev pub Stands : ℕ → Server → Type 0
Stands n s = HasLeg n s.outs

pub seen_same : (s t : Server) → seen t ≡ seen s → Same s t
seen_same s t same = ap (λ (x : Seen). x.outs) same

-- ---- rows that leave these alone

b2_same : (s : Server) (k : ℕ) (count : Count) (a b : Cookie) (c d : ℕ)
    → Same s (on_conn_b2 s k count a b c d).0
b2_same s k count a b c d = search rules

a8_same : (s : Server) (count : Count) (destination : ℕ) (successor : Cookie)
    → Same s (on_out_r1_a8 s count destination successor).0
a8_same s count destination successor = search rules

on_is_same : (s : Server) (k : ℕ) (count : Count) (m : Named) → Same s (on_is s k count m).0
on_is_same s k count (named.ConnB2 v1 v2 v3 v4 v5 v6 v7 v8) = b2_same s k count v2 v3 v4 v5
on_is_same s k count (named.InR1A2 v1 v2 v3 v4 v5 v6) =
    ap (λ (x : Seen). x.outs) (in_r1_a2_same s k count v2 v3 v4 v5 v6)
on_is_same s k count (named.InR1A6 v1) = ap (λ (x : Seen). x.outs) (in_r1_a6_same s k v1)
on_is_same s k count (named.InR2A2 v1) = ap (λ (x : Seen). x.outs) (in_r2_a2_same s k count v1)
on_is_same s k count (named.AckTo v1 v2 v3 v4) =
    ap (λ (x : Seen). x.outs) (ack_to_same s count v1 v2 v3 v4)
on_is_same s k count (named.OutR1A8 v1 v2) = a8_same s count v1 v2
on_is_same s k count named.EndA2 = ap (λ (x : Seen). x.outs) (end_a2_same s k count)
on_is_same s k count m = refl

-- ---- rows of os legs

module _ (n : ℕ) where
  pub same_stands : (s t : Server) → Same s t → Stands n s → Stands n t
  same_stands s t same h = subst (HasLeg n) (sym same) h

  -- a leg has changed, but for its number
  pub set_stands : (s : Server) (place : ℕ) (x y : OutLeg) → slice_get s.outs place ≡ Some x
      → y.number ≡ x.number → Stands n s → HasLeg n (slice_set s.outs place y)
  set_stands s place x y at same there = has_set n s.outs place x y at same there

  abbrev Row : Done → Type 0
  Row x = Stands n x.0

  first_out_stands : (s : Server) (cookie : Cookie) (lifetime window : ℕ) (place : Option ℕ)
      (o : Option OutLeg) → out_at s.outs place ≡ o → Stands n s
      → Stands n (first_out_at s cookie lifetime window place o)
  first_out_stands s cookie lifetime window None o at h = h
  first_out_stands s cookie lifetime window (Some place) None at h = h
  first_out_stands s cookie lifetime window (Some place) (Some x) at h =
      set_stands s place x (record x {
        cookie = Some cookie;
        window = unsent window;
        meter = started lifetime 28;
      }) at refl h

  conn_a2_stands : (s : Server) (k : ℕ) (count : Count) (a b : Cookie) (c d : ℕ) → Stands n s
      → Row (on_conn_a2 s k count a b c d)
  conn_a2_stands s k count a b c d h =
      by_test Row (is_first count && ((k == 1) && not (waits kind.ConnC1 s.waiting)))
      (conn_a2_at s s.stage a b c d) (unexpected s) (λ e. by s.stage) (λ e. h)
    where
      begins : Stands n (with_first_out s b c d)
      begins =
          first_out_stands s b c d (out_place 1 s.outs) (out_at s.outs (out_place 1 s.outs)) refl h

      by : (at : Stage) → Row (conn_a2_at s at a b c d)
      by stage.Waits = begins
      by (stage.InCame known window timeout) =
          by_test Row (same_cookie known a)
          (took (opens (with_first_out s b c d) known window timeout)) _ (λ f. begins) (λ f. h)
      by (stage.OutCame known) = h
      by (stage.Open known) = h
      by stage.Ended = h

  a4_stands : (s : Server) (k : ℕ) (count : Count) (a b c : Cookie) (d e f : ℕ) → Stands n s
      → Row (on_out_r1_a4 s k count a b c d e f)
  a4_stands s k count a b c d e f h =
      by_test Row (may_answer s k count) (out_r1_a4_at s s.stage k a b c d e f) (unexpected s)
      (λ g. by_stage s.stage) (λ g. h)
    where
      answers : (place : Option ℕ) (o : Option OutLeg) → out_at s.outs place ≡ o
          → Row (answered_by s c d e f place o)
      answers None o at = h
      answers (Some place) None at = h
      answers (Some place) (Some x) at =
          set_stands s place x (record x {
            cookie = Some c;
            window = unsent e;
            meter = started d 0;
          }) at refl h

      by_writing : (known : Cookie) (o : Option Cookie)
          → Row (out_r1_a4_by s k known a b c d e f o)
      by_writing known None = h
      by_writing known (Some writing) =
          by_test Row (not (same_cookie known a)) (refuse s (refused.Cookie known a)) _ (λ g. h)
          (λ g. by_test Row (not (same_cookie writing b)) (refuse s (refused.Cookie writing b))
          (answered_on s k c d e f) (λ i. h)
          (λ i. answers (out_place k s.outs) (out_at s.outs (out_place k s.outs)) refl))

      by_stage : (at : Stage) → Row (out_r1_a4_at s at k a b c d e f)
      by_stage (stage.Open known) = by_writing known (out_cookie s.writing s.outs)
      by_stage stage.Waits = h
      by_stage (stage.OutCame connection) = h
      by_stage (stage.InCame connection in_window timeout) = h
      by_stage stage.Ended = h

  ack_stands : (s : Server) (k : ℕ) (count : Count) (received window : ℕ) (cookie : Cookie)
      → Stands n s → Row (on_ack s k count received window cookie)
  ack_stands s k count received window cookie h =
      by_test Row (is_first count) (unexpected s) _ (λ e. h)
      (λ e. by_cookie (out_cookie k s.outs))
    where
      by_leg : (place : ℕ) (o : Option OutLeg) → slice_get s.outs place ≡ o
          → Row (acked_at s place received window o)
      by_leg place None at = h
      by_leg place (Some x) at =
          set_stands s place x (record x { window = after_acked x.window received window }) at refl
          h

      by_place : (place : Option ℕ) → Row (acked_in s received window place)
      by_place None = h
      by_place (Some place) = by_leg place (slice_get s.outs place) refl

      by_cookie : (o : Option Cookie) → Row (acked_cookie s k received window cookie o)
      by_cookie None = h
      by_cookie (Some channel) =
          by_test Row (same_cookie channel cookie) _ (refuse s (refused.Cookie channel cookie))
          (λ e. by_place (out_place k s.outs)) (λ e. h)

  on_os_stands : (s : Server) (k : ℕ) (count : Count) (m : Named) → Stands n s
      → Row (on_os s k count m)
  on_os_stands s k count (named.ConnA2 v1 v2 v3 v4 v5) h =
      conn_a2_stands s k count v2 v3 v4 v5 h
  on_os_stands s k count (named.OutR1A4 v1 v2 v3 v4 v5 v6 v7) h =
      a4_stands s k count v2 v3 v4 v5 v6 v7 h
  on_os_stands s k count (named.Ack v1 v2 v3) h = ack_stands s k count v1 v2 v3 h
  on_os_stands s k count (named.PingTraffic v1) h =
      same_stands s (on_ping_traffic s count).0 (ap (λ (x : Seen). x.outs) (ping_same s count)) h
  on_os_stands s k count m h = h

  -- ---- each packet

  pub packet_stands : (s : Server) (k : ℕ) (count : Count) (m : Named) (kind : LegKind)
      → Stands n s → Row (packet_by s k count m kind)
  packet_stands s k count m InServer h =
      same_stands s (on_is s k count m).0 (on_is_same s k count m) h
  packet_stands s k count m OutServer h = on_os_stands s k count m h
  packet_stands s k count m ClientIn h = h
  packet_stands s k count m ClientOut h = h
