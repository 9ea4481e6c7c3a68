-- while a server opens, nothing came on its line, and no acknowledgement is due
use Rattle.rh_window.specs.Receiving as windows
use Rattle.law_order.proofs.Vocabulary.{◌≡◌, ℕ, ◌==◌, ◌&&◌, List, [], Bool, true, false, not, nat_lt, Some, None, Ok, Err, arith, refl, rules, sym, ap, ◌∙◌, subst, false≢true, true≢false, and_parts, nat_tests, IfSome, slice_get, Option}
use Rattle.rh_sig.specs.declared.named.Named.TheVariants as named
use Rattle.rh_line.specs.Lines.{taken as line_taken}
use Rattle.rh_server.specs.Servers.{pdu_by}
use Rattle.rh_server.specs.declared.state.Leaving.TheVariants as leaving
use Rattle.rh_server.specs.declared.state.Stage.TheVariants as stage
use Rattle.rh_server.specs.declared.state.Tells.TheVariants as tells
use Rattle.rh_server.specs.declared.out_line.Kind.TheVariants as kinds
use Rattle.law_moves.proofs.Vocabulary.{Receiver, Ack, by_test, Cookie, Named, Line, due, after_end, after_tell, after_take, Leg, LegKind, ClientOut, OutServer, ClientIn, InServer, Which, Current, Next, Count, Message, Pdu, Packet, OnLeg, EndMove, end_started, all_end_moved}
use Rattle.law_moves.proofs.Lemmas.{RowKeeps, PutKeeps, StepsKeep, ActsKeep, end_moves_keep}
use Rattle.law_role_server.proofs.Vocabulary.{InLeg, OutLeg, Told, Leaving, Stage, Tells, waits, Server, is_open, is_due, is_shut, same_cookie, in_leg, out_place, without_in, without_out, Done, took, unexpected, is_first, up, opens, with_first_out, with_first_in, conn_a2_at, on_conn_a2, conn_b2_at, on_conn_b2, on_pdu, channel_at, take, moved_if, in_r1_a2_at, on_in_r1_a2, on_in_r1_a6, recycle, wished, give, settled, completed, is_complete, drawn_by, in_is_drawn, lost_in}
use Rattle.law_role_server.proofs.Vocabulary.{mark_by, with_ack_dropped, is_over_on, end_a2_waiting, end_a2_at, on_end_a2, Pick, or_else, put_in_greeting, told_by, was_current, put_tells_by, put_tells, put_b1_by, put_b1, put_ack_by, put_ack, ack_due, put_in_by, put_out_greeting, out_greeting_at, next_out, settled_pick, put_open, put_out_at, put_by as put_by_kind, acts, first, on_is, on_os, packet_by, rules as server_rules}
use Rattle.law_role_server.proofs.Counted.BeforeC1Open.{take_stage}
use Rattle.law_role_server_rows.proofs.InTurn.InView.{InView, Alone, out_alone}

abbrev pub is_opening : Stage → Bool
is_opening stage.Waits = true
is_opening (stage.OutCame connection) = true
is_opening (stage.InCame connection window timeout) = true
is_opening (stage.Open connection) = false
is_opening stage.Ended = false

pub record Quiet (line : Line) : Type 0 where
  pub alone : line.has_next ≡ false
  pub empty : line.current.pdus ≡ []
  pub released : line.current.window.released ≡ 0
  pub told : line.current.window.told ≡ line.current.window.size

-- no acknowledgement is due then
not_due : (r : Receiver) → r.released ≡ 0 → r.told ≡ r.size → windows.is_due r ≡ false
not_due r released told =
    let even : nat_lt r.told (windows.edge_of r) ≡ false =
    grind (arith, nat_tests, released, told) in
    grind (arith, nat_tests, even)

pub none_due : (line : Line) → Quiet line → due line Current ≡ None
none_due line q =
    by_test (λ (o : Option Ack). o ≡ None) (windows.is_due line.current.window) _ None
    (λ e. absurd (false≢true
    (sym (not_due line.current.window q.released q.told) ∙ e))) (λ e. refl)

abbrev pub Holds : Server → List OnLeg → List OnLeg → Type 0
Holds s came put = is_opening s.stage ≡ true → Quiet s.line

abbrev Fine : Server → Type 0
Fine s = is_opening s.stage ≡ true → Quiet s.line

record Seen : Type 0 where
  at : Stage
  line : Line

abbrev seen : Server → Seen
seen s = record { at = s.stage; line = s.line }

same_fine : (s t : Server) → seen t ≡ seen s → Fine s → Fine t
same_fine s t same h =
    subst (λ (x : Seen). is_opening x.at ≡ true → Quiet x.line) (sym same) h

-- it is open, or was
open_fine : (s t : Server) → t.stage ≡ s.stage → is_open s.stage ≡ true → Fine t
open_fine s t same is = λ e. absurd (by s.stage is (ap is_opening (sym same) ∙ e))
  where
    by : (x : Stage) → is_open x ≡ true → is_opening x ≡ true → ⊥
    by (stage.Open connection) is e = true≢false (sym e)
    by stage.Waits is e = false≢true is
    by (stage.OutCame connection) is e = false≢true is
    by (stage.InCame connection window timeout) is e = false≢true is
    by stage.Ended is e = false≢true is

-- the stage moves on
stage_fine : (s t : Server) → t.line ≡ s.line
    → (is_opening t.stage ≡ true → is_opening s.stage ≡ true) → Fine s → Fine t
stage_fine s t same moves h = λ e. subst Quiet (sym same) (h (moves e))

settled_fine : (s : Server) → Fine s → Fine (settled s)
settled_fine s h =
    same_fine (completed s) (settled s) (wished_same (completed s))
    (by_test Fine (is_complete s) (record s { stage = stage.Ended }) s
    (λ e f. absurd (false≢true f)) (λ e. h))
  where
    wished_same : (t : Server) → seen (wished t) ≡ seen t
    wished_same t = search rules

-- ---- rows

out_line : (s : Server) (b : Cookie) (c d : ℕ) → (with_first_out s b c d).line ≡ s.line
out_line s b c d = search rules

conn_a2_fine : (s : Server) (n : ℕ) (count : Count) (a b : Cookie) (c d : ℕ) → Fine s
    → Fine (on_conn_a2 s n count a b c d).0
conn_a2_fine s n count a b c d h =
    by_test Row (is_first count && ((n == 1) && not (waits kinds.ConnC1 s.waiting)))
    (conn_a2_at s s.stage a b c d) (unexpected s) (λ e. by s.stage refl) (λ e. h)
  where
    Row : Done → Type 0
    Row x = Fine x.0

    by : (x : Stage) → s.stage ≡ x → Row (conn_a2_at s x a b c d)
    by stage.Waits is =
        stage_fine s (record (with_first_out s b c d) { stage = stage.OutCame a })
        (out_line s b c d) (λ e. ap is_opening is) h
    by (stage.InCame known window timeout) is =
        by_test Row (same_cookie known a)
        (took (opens (with_first_out s b c d) known window timeout)) _
        (λ e f. absurd (false≢true f)) (λ e. h)
    by (stage.OutCame known) is = h
    by (stage.Open known) is = h
    by stage.Ended is = h

in_line : (s : Server) (b : Cookie) → (with_first_in s b).line ≡ s.line
in_line s b = search rules

conn_b2_fine : (s : Server) (n : ℕ) (count : Count) (a b : Cookie) (c d : ℕ) → Fine s
    → Fine (on_conn_b2 s n count a b c d).0
conn_b2_fine s n count a b c d h =
    by_test Row (is_first count && ((n == 1) && not (waits kinds.ConnC1 s.waiting)))
    (conn_b2_at s s.stage a b c d) (unexpected s) (λ e. by s.stage refl) (λ e. h)
  where
    Row : Done → Type 0
    Row x = Fine x.0

    by : (x : Stage) → s.stage ≡ x → Row (conn_b2_at s x a b c d)
    by stage.Waits is =
        stage_fine s (record (with_first_in s b) { stage = stage.InCame a c d })
        (in_line s b) (λ e. ap is_opening is) h
    by (stage.OutCame known) is =
        by_test Row (same_cookie known a) (took (opens (with_first_in s b) known c d)) _
        (λ e f. absurd (false≢true f)) (λ e. h)
    by (stage.InCame known window timeout) is = h
    by (stage.Open known) is = h
    by stage.Ended is = h

in_r1_a2_stage : (s : Server) (n : ℕ) (x : Stage) (a b c : Cookie) (d e : ℕ)
    → (in_r1_a2_at s x n a b c d e).0.stage ≡ s.stage
in_r1_a2_stage s n x a b c d e = search rules

in_r1_a2_fine : (s : Server) (n : ℕ) (count : Count) (a b c : Cookie) (d e : ℕ) → Fine s
    → Fine (on_in_r1_a2 s n count a b c d e).0
in_r1_a2_fine s n count a b c d e h =
    by_test Row _ (in_r1_a2_at s s.stage n a b c d e) (unexpected s) (λ t. by s.stage refl)
    (λ t. h)
  where
    Row : Done → Type 0
    Row x = Fine x.0

    by : (x : Stage) → s.stage ≡ x → Row (in_r1_a2_at s x n a b c d e)
    by (stage.Open known) is =
        open_fine s (in_r1_a2_at s (stage.Open known) n a b c d e).0
        (in_r1_a2_stage s n (stage.Open known) a b c d e) (ap is_open is)
    by stage.Waits is = h
    by (stage.OutCame known) is = h
    by (stage.InCame known window timeout) is = h
    by stage.Ended is = h

in_r1_a6_stage : (s : Server) (n : ℕ) (a : Cookie) → (on_in_r1_a6 s n a).0.stage ≡ s.stage
in_r1_a6_stage s n a = search rules

in_r1_a6_fine : (s : Server) (n : ℕ) (a : Cookie) → Fine s → Fine (on_in_r1_a6 s n a).0
in_r1_a6_fine s n a h = by (is_opening s.stage) refl
  where
    test : Bool
    test = (n == s.current.leg) && (not s.line.finished
        && (s.line.has_next && not (waits kinds.InR1A3 s.waiting)))

    Row : Done → Type 0
    Row x = Fine x.0

    has : test ≡ true → s.line.has_next ≡ true
    has e =
        (and_parts s.line.has_next _ (and_parts (not s.line.finished) _
        (and_parts (n == s.current.leg) _ e).1).1).0

    by : (b : Bool) → is_opening s.stage ≡ b → Fine (on_in_r1_a6 s n a).0
    by true is =
        by_test Row test _ (unexpected s)
        (λ e. absurd (true≢false (sym (has e) ∙ (h is).alone))) (λ e. h)
    by false is = λ e. absurd (false≢true (sym is ∙ ap is_opening (sym (in_r1_a6_stage s n a)) ∙ e))

end_quiet : (line : Line) (which : Which) → Quiet line → Quiet (after_end line which)
end_quiet line Current q =
    record { alone = q.alone; empty = q.empty; released = q.released; told = q.told }
end_quiet line Next q =
    record { alone = q.alone; empty = q.empty; released = q.released; told = q.told }

end_a2_fine : (s : Server) (n : ℕ) (count : Count) → Fine s → Fine (on_end_a2 s n count).0
end_a2_fine s n count h =
    by_test Row (is_first count) (unexpected s) (end_a2_at s n (channel_at s n)) (λ e. h)
    (λ e. on_channel (channel_at s n))
  where
    Row : Done → Type 0
    Row x = Fine x.0

    same : (o : Option InLeg) → seen (end_a2_waiting s o).0 ≡ seen s
    same o = search rules

    on_channel : (which : Option Which) → Row (end_a2_at s n which)
    on_channel None =
        same_fine s (end_a2_waiting s (in_leg n s.ins)).0 (same (in_leg n s.ins)) h
    on_channel (Some which) =
        by_test Row (is_over_on s which) (unexpected s) _ (λ e. h)
        (λ e f. end_quiet s.line which (h f))

is_fine : (s : Server) (n : ℕ) (count : Count) (m : Named) → Fine s → Fine (on_is s n count m).0
is_fine s n count (named.ConnB2 v a b c d e f g) h = conn_b2_fine s n count a b c d h
is_fine s n count (named.InR1A2 v a b c d e) h = in_r1_a2_fine s n count a b c d e h
is_fine s n count (named.InR1A6 a) h = in_r1_a6_fine s n a h
is_fine s n count named.EndA2 h = end_a2_fine s n count h
is_fine s n count m h = same_fine s (on_is s n count m).0 (search rules) h

os_fine : (s : Server) (n : ℕ) (count : Count) (m : Named) → Fine s → Fine (on_os s n count m).0
os_fine s n count (named.ConnA2 v a b c d) h = conn_a2_fine s n count a b c d h
os_fine s n count m h = same_fine s (on_os s n count m).0 (search rules) h

packet_fine : (s : Server) (n : ℕ) (count : Count) (m : Named) (k : LegKind) → Fine s
    → Fine (packet_by s n count m k).0
packet_fine s n count m InServer h = is_fine s n count m h
packet_fine s n count m OutServer h = os_fine s n count m h
packet_fine s n count m ClientIn h = h
packet_fine s n count m ClientOut h = h

pdu_stage : (s : Server) (n : ℕ) (bytes : List ℕ) → (on_pdu s n bytes).0.stage ≡ s.stage
pdu_stage s n bytes = search rules

pdu_fine : (s : Server) (n : ℕ) (bytes : List ℕ) (k : LegKind) → Fine s
    → Fine (pdu_by s n bytes k).0
pdu_fine s n bytes InServer h = by (is_open s.stage) refl
  where
    Row : Done → Type 0
    Row x = Fine x.0

    by : (b : Bool) → is_open s.stage ≡ b → Fine (on_pdu s n bytes).0
    by true is = open_fine s (on_pdu s n bytes).0 (pdu_stage s n bytes) is
    by false is =
        by_test Row (is_open s.stage) _ (unexpected s)
        (λ e. absurd (false≢true (sym is ∙ e))) (λ e. h)
pdu_fine s n bytes OutServer h = h
pdu_fine s n bytes ClientIn h = h
pdu_fine s n bytes ClientOut h = h

row_fine : (one : OnLeg) (came put : List OnLeg) (x : Done) → Fine x.0
    → RowKeeps Holds one came put x
row_fine one came put (t, Ok taken) h = h
row_fine one came put (t, Err why) h = h

-- ---- what is put

abbrev PickFine : Pick → Type 0
PickFine pick = IfSome pick (λ (one : Server × Message). Fine one.0)

or_fine : (a b : Pick) → PickFine a → PickFine b → PickFine (or_else a b)
or_fine None b h k = k
or_fine (Some pick) b h k = h

settled_pick_fine : (pick : Pick) → PickFine pick → PickFine (settled_pick pick)
settled_pick_fine None h = tt
settled_pick_fine (Some pick) h = settled_fine pick.0 h

-- while it opens, no acknowledgement is due on a leg
pub no_ack : (s : Server) (leg : InLeg) → Quiet s.line → ack_due s leg ≡ None
no_ack s leg q =
    by_test (λ (o : Option Ack). o ≡ None)
    ((leg.number == s.current.leg) && (not s.line.finished && not s.line.current.ended))
    (due s.line Current) None (λ e. none_due s.line q) (λ e. refl)

module _ (s : Server) (h : Fine s) where
  told_fine : (n : ℕ) → Fine (told_by s n)
  told_fine n =
      by_test Fine ((n == s.current.leg) && is_shut s.edge)
      (record s { line = after_tell s.line Current; edge = Told }) s
      (λ e f. let q = h f in
      record { alone = q.alone; empty = q.empty; released = q.released; told = refl })
      (λ e. h)

  in_fine : (o : Option InLeg) → PickFine (put_in_by s o)
  in_fine None = tt
  in_fine (Some leg) =
      or_fine (put_in_greeting s leg) _
      (by_test PickFine (is_due leg.greeting) _ None (λ e. h) (λ e. tt))
      (or_fine (put_tells s leg) _ (told leg.tells)
      (or_fine (put_b1 s leg) (put_ack s leg) (leaves leg.leaving) (ack (ack_due s leg) refl)))
    where
      told : (t : Tells) → PickFine (put_tells_by s leg t)
      told tells.Nothing = tt
      told tells.ConnB3 = by_test PickFine (is_open s.stage) _ None (λ e. h) (λ e. tt)
      told tells.InR1B2 =
          by_test PickFine (was_current s leg) _ None (λ e. told_fine leg.number) (λ e. tt)

      leaves : (x : Leaving) → PickFine (put_b1_by s leg x)
      leaves leaving.Stays = tt
      leaves leaving.InR1B1 = h
      leaves leaving.Left = tt
      leaves leaving.Lost = tt

      ack : (o : Option Ack) → ack_due s leg ≡ o → PickFine (put_ack_by s o)
      ack None is = tt
      ack (Some a) is = λ e. absurd (apart a (sym is ∙ no_ack s leg (h e)))
        where
          apart : (a : Ack) → Some a ≡ None → ⊥
          apart a e = cc

  out_fine : (place : Option ℕ) → PickFine (put_out_at s place)
  out_fine None = tt
  out_fine (Some place) =
      or_fine (put_out_greeting s place) (put_open s place) (greets (slice_get s.outs place))
      (by_test PickFine (is_open s.stage) (settled_pick (next_out s place)) None
      (λ e. settled_pick_fine (next_out s place) (opened e (next_out s place) (out_alone s place)))
      (λ e. tt))
    where
      greets : (o : Option OutLeg) → PickFine (out_greeting_at s place o)
      greets None = tt
      greets (Some leg) = by_test PickFine (is_due leg.greeting) _ None (λ e. h) (λ e. tt)

      opened : is_open s.stage ≡ true → (pick : Pick)
          → Alone s pick → PickFine pick
      opened is None alone = tt
      opened is (Some one) alone =
          open_fine s one.0 (ap (λ (v : InView). v.at) alone) is

  put_fine : (n : ℕ) (k : LegKind) → PickFine (put_by_kind s n k)
  put_fine n InServer = in_fine (in_leg n s.ins)
  put_fine n OutServer = out_fine (out_place n s.outs)
  put_fine n ClientIn = tt
  put_fine n ClientOut = tt

pick_fine : (leg : Leg) (came put : List OnLeg) (pick : Pick) → PickFine pick
    → PutKeeps Holds leg came put pick
pick_fine leg came put None h = tt
pick_fine leg came put (Some one) h = h

-- ---- legs are drawn, and lost

drawn_fine : (s : Server) (n : ℕ) (k : LegKind) → Fine s → Fine (drawn_by s n k)
drawn_fine s n InServer h =
    by_test Fine (in_is_drawn (in_leg n s.ins)) (settled (without_in s n)) s
    (λ e. settled_fine (without_in s n) h) (λ e. h)
drawn_fine s n OutServer h = h
drawn_fine s n ClientIn h = h
drawn_fine s n ClientOut h = h

lost_same : (s : Server) (n : ℕ) → seen (lost_in s n (in_leg n s.ins)) ≡ seen s
lost_same s n = search rules

mark_fine : (s : Server) (n : ℕ) (k : LegKind) → Fine s → Fine (mark_by s n k)
mark_fine s n InServer h =
    let t : Server = lost_in s n (in_leg n s.ins) in
    settled_fine t (same_fine s t (lost_same s n) h)
mark_fine s n OutServer h = settled_fine (without_out (with_ack_dropped s n) n) h
mark_fine s n ClientIn h = h
mark_fine s n ClientOut h = h

-- ---- the role

none_taken : (line : Line) → Quiet line → after_take line ≡ line
none_taken line q = ap (λ (pdus : List (List ℕ)). line_taken pdus line) q.empty

pub take_quiet : (s : Server) → Quiet s.line → take s ≡ s
take_quiet s q =
    ap (λ (l : Line). moved_if s.line.has_next (record s { line = l })) (none_taken s.line q)
    ∙ ap (λ (b : Bool). moved_if b s) q.alone

take_fine : (s : Server) → Fine s → Fine (take s)
take_fine s h e =
    let q = h (ap is_opening (sym (take_stage s)) ∙ e) in
    subst (λ (t : Server). Quiet t.line) (sym (take_quiet s q)) q

up_same : (s : Server) (leg : Leg) (cookie : Cookie) → seen (up s leg cookie) ≡ seen s
up_same s leg cookie = search rules

give_same : (s : Server) (bytes : List ℕ) → seen (give s bytes).0 ≡ seen s
give_same s bytes = search rules

recycle_same : (s : Server) → seen (recycle s).0 ≡ seen s
recycle_same s = search rules

steps : StepsKeep server_rules Holds
steps = record {
  up = λ s leg cookie came put h. same_fine s (up s leg cookie) (up_same s leg cookie) h;
  head = λ s leg text came put h. h;
  pdu = λ s leg count bytes came put h.
      row_fine (leg, Pdu bytes) came put (pdu_by s leg.number bytes leg.kind)
      (pdu_fine s leg.number bytes leg.kind h);
  packet = λ s leg count m came put h.
      row_fine (leg, Packet m) came put (packet_by s leg.number count m leg.kind)
      (packet_fine s leg.number count m leg.kind h);
  put = λ s leg came put h.
      pick_fine leg came put (put_by_kind s leg.number leg.kind)
      (put_fine s h leg.number leg.kind);
  drawn = λ s leg came put h. drawn_fine s leg.number leg.kind h;
  mark = λ s leg came put h. mark_fine s leg.number leg.kind h;
  ping = λ s leg came put h. h;
}

calls : ActsKeep acts Holds
calls = record {
  give = λ s bytes came put h. same_fine s (give s bytes).0 (give_same s bytes) h;
  take = λ s came put h. take_fine s h;
  close = λ s came put h. h;
  recycle = λ s came put h. same_fine s (recycle s).0 (recycle_same s) h;
}

pub quiet_opening : (window : ℕ) (moves : List EndMove)
    → let p = (all_end_moved server_rules acts (end_started (first window)) moves).passage in
    is_opening p.role.stage ≡ true → Quiet p.role.line
quiet_opening window moves =
    end_moves_keep server_rules Holds steps acts calls (end_started (first window)) moves
    (λ e. record { alone = refl; empty = refl; released = refl; told = refl })
