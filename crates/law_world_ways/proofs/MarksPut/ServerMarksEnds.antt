-- a server's work is done only where END was put on its writing channel
use Rattle.law_order.proofs.Vocabulary.{◌≡◌, ℕ, ◌==◌, List, Bool, true, true≢false, ◌&&◌, ◌||◌, not, Some, None, Ok, Err, refl, sym, ap, ◌∙◌, rules, and_parts, IfSome, Option}
use Rattle.rh_sig.specs.declared.named.Named.TheVariants as named
use Rattle.rh_server.specs.Servers.{pdu_by}
use Rattle.rh_server.specs.declared.state.Stage.TheVariants as stage
use Rattle.rh_server.specs.declared.out_line.Kind.TheVariants as kind
use Rattle.law_moves.proofs.Vocabulary.{by_test, Cookie, Named, Leg, LegKind, ClientOut, OutServer, ClientIn, InServer, Count, Message, Packet, Pdu, is_ended, OnLeg, EndMove, all_end_moved, end_started}
use Rattle.law_moves.proofs.Lemmas.{RowKeeps, PutKeeps, StepsKeep, ActsKeep, end_moves_keep}
use Rattle.law_role_server.proofs.Vocabulary.{EndMark, InLeg, Stage, waits, Server, phase_of, is_open, is_put, same_cookie, in_leg, out_place, without_in, without_out, Done, took, unexpected, is_first, opens, with_first_out, conn_a2_at, on_conn_a2, with_first_in, conn_b2_at, on_conn_b2, up, on_ack, on_ack_to, on_ping_traffic, take, on_in_r1_a2, on_in_r1_a6, on_in_r2_a2, wished, recycle, on_out_r1_a4, on_out_r1_a8, give, are_lost, completed, is_complete, settled, in_is_drawn}
use Rattle.law_role_server.proofs.Vocabulary.{drawn_by, with_ack_dropped, lost_in, mark_by, on_end_a2, Pick, or_else, put_in, put_out_greeting, put_waiting, put_pdu_or_end, next_out, settled_pick, put_open, put_out_at, put_by as put_by_kind, packet_by, on_is, on_os, first, acts, rules as server_rules}
use Rattle.law_role_server_rows.proofs.Refusing.Told.{Seen}
use Rattle.law_role_server_rows.proofs.Refusing.Steps.{in_same}
use Rattle.law_role_server_rows.proofs.Refusing.Steps as seen

-- what the fact is about
record Work : Type 0 where
  at : Stage
  mark : EndMark

abbrev work : Server → Work
work s = record { at = s.stage; mark = s.end_mark }

abbrev goes_or_put : Work → Bool
goes_or_put x = not (is_ended (phase_of x.at)) || is_put x.mark

-- the work is not done, or END was put
abbrev pub GoesOrPut : Server → Type 0
GoesOrPut s = (not (is_ended (phase_of s.stage)) || is_put s.end_mark) ≡ true

abbrev Same : Server → Server → Type 0
Same s t = work t ≡ work s

same_goes : (s t : Server) → Same s t → GoesOrPut s → GoesOrPut t
same_goes s t same h = ap goes_or_put same ∙ h

-- ---- rows

abbrev Row : Done → Type 0
Row x = GoesOrPut x.0

conn_b2_goes : (s : Server) (k : ℕ) (count : Count) (a b : Cookie) (c d : ℕ) → GoesOrPut s
    → Row (on_conn_b2 s k count a b c d)
conn_b2_goes s k count a b c d h =
    by_test Row _ (conn_b2_at s s.stage a b c d) (unexpected s) (λ e. by s.stage) (λ e. h)
  where
    by : (at : Stage) → Row (conn_b2_at s at a b c d)
    by stage.Waits = refl
    by (stage.OutCame known) =
        by_test Row (same_cookie known a) (took (opens (with_first_in s b) known c d)) _
        (λ f. refl) (λ f. h)
    by (stage.InCame known window timeout) = h
    by (stage.Open known) = h
    by stage.Ended = h

conn_a2_goes : (s : Server) (k : ℕ) (count : Count) (a b : Cookie) (c d : ℕ) → GoesOrPut s
    → Row (on_conn_a2 s k count a b c d)
conn_a2_goes s k count a b c d h =
    by_test Row (is_first count && ((k == 1) && not (waits kind.ConnC1 s.waiting)))
    (conn_a2_at s s.stage a b c d) (unexpected s) (λ e. by s.stage) (λ e. h)
  where
    by : (at : Stage) → Row (conn_a2_at s at a b c d)
    by stage.Waits = refl
    by (stage.InCame known window timeout) =
        by_test Row (same_cookie known a)
        (took (opens (with_first_out s b c d) known window timeout)) _ (λ f. refl) (λ f. h)
    by (stage.OutCame known) = h
    by (stage.Open known) = h
    by stage.Ended = h

in_r1_a2_same : (s : Server) (k : ℕ) (count : Count) (a b c : Cookie) (d e : ℕ)
    → Same s (on_in_r1_a2 s k count a b c d e).0
in_r1_a2_same s k count a b c d e = search rules

in_r1_a6_same : (s : Server) (k : ℕ) (a : Cookie) → Same s (on_in_r1_a6 s k a).0
in_r1_a6_same s k a = search rules

in_r2_a2_same : (s : Server) (k : ℕ) (count : Count) (a : Cookie)
    → Same s (on_in_r2_a2 s k count a).0
in_r2_a2_same s k count a = search rules

ack_to_same : (s : Server) (count : Count) (a b c : ℕ) (d : Cookie)
    → Same s (on_ack_to s count a b c d).0
ack_to_same s count a b c d = search rules

a8_same : (s : Server) (count : Count) (a : ℕ) (b : Cookie)
    → Same s (on_out_r1_a8 s count a b).0
a8_same s count a b = search rules

end_a2_same : (s : Server) (k : ℕ) (count : Count) → Same s (on_end_a2 s k count).0
end_a2_same s k count = search rules

a4_same : (s : Server) (k : ℕ) (count : Count) (a b c : Cookie) (d e f : ℕ)
    → Same s (on_out_r1_a4 s k count a b c d e f).0
a4_same s k count a b c d e f = search rules

ack_same : (s : Server) (k : ℕ) (count : Count) (a b : ℕ) (c : Cookie)
    → Same s (on_ack s k count a b c).0
ack_same s k count a b c = search rules

traffic_same : (s : Server) (count : Count) → Same s (on_ping_traffic s count).0
traffic_same s count = search rules

on_is_goes : (s : Server) (k : ℕ) (count : Count) (m : Named) → GoesOrPut s
    → Row (on_is s k count m)
on_is_goes s k count (named.ConnB2 v1 v2 v3 v4 v5 v6 v7 v8) h =
    conn_b2_goes s k count v2 v3 v4 v5 h
on_is_goes s k count (named.InR1A2 v1 v2 v3 v4 v5 v6) h =
    ap goes_or_put (in_r1_a2_same s k count v2 v3 v4 v5 v6) ∙ h
on_is_goes s k count (named.InR1A6 v1) h = ap goes_or_put (in_r1_a6_same s k v1) ∙ h
on_is_goes s k count (named.InR2A2 v1) h = ap goes_or_put (in_r2_a2_same s k count v1) ∙ h
on_is_goes s k count (named.AckTo v1 v2 v3 v4) h =
    ap goes_or_put (ack_to_same s count v1 v2 v3 v4) ∙ h
on_is_goes s k count (named.OutR1A8 v1 v2) h = ap goes_or_put (a8_same s count v1 v2) ∙ h
on_is_goes s k count named.EndA2 h = ap goes_or_put (end_a2_same s k count) ∙ h
on_is_goes s k count m h = h

on_os_goes : (s : Server) (k : ℕ) (count : Count) (m : Named) → GoesOrPut s
    → Row (on_os s k count m)
on_os_goes s k count (named.ConnA2 v1 v2 v3 v4 v5) h = conn_a2_goes s k count v2 v3 v4 v5 h
on_os_goes s k count (named.OutR1A4 v1 v2 v3 v4 v5 v6 v7) h =
    ap goes_or_put (a4_same s k count v2 v3 v4 v5 v6 v7) ∙ h
on_os_goes s k count (named.Ack v1 v2 v3) h = ap goes_or_put (ack_same s k count v1 v2 v3) ∙ h
on_os_goes s k count (named.PingTraffic v1) h = ap goes_or_put (traffic_same s count) ∙ h
on_os_goes s k count m h = h

packet_goes : (s : Server) (k : ℕ) (count : Count) (m : Named) (kind : LegKind) → GoesOrPut s
    → Row (packet_by s k count m kind)
packet_goes s k count m InServer h = on_is_goes s k count m h
packet_goes s k count m OutServer h = on_os_goes s k count m h
packet_goes s k count m ClientIn h = h
packet_goes s k count m ClientOut h = h

pdu_same : (s : Server) (k : ℕ) (bytes : List ℕ) (kind : LegKind)
    → Same s (pdu_by s k bytes kind).0
pdu_same s k bytes kind = search rules

-- ---- behind puts the work may be done

wished_same : (s : Server) → Same s (wished s)
wished_same s = search rules

settles : (s : Server) → GoesOrPut s → GoesOrPut (settled s)
settles s h = same_goes (completed s) (settled s) (wished_same (completed s)) done
  where
    done : GoesOrPut (completed s)
    done = by_test GoesOrPut (is_complete s) (record s { stage = stage.Ended }) s
        (λ e. (and_parts (is_put s.end_mark) (are_lost s.ins)
        (and_parts (is_open s.stage) (is_put s.end_mark && are_lost s.ins) e).1).0) (λ e. h)

abbrev PickGoes : Pick → Type 0
PickGoes pick = IfSome pick (λ (one : Server × Message). GoesOrPut one.0)

abbrev PickSame : Server → Pick → Type 0
PickSame s pick = IfSome pick (λ (one : Server × Message). Same s one.0)

same_pick : (s : Server) (pick : Pick) → PickSame s pick → GoesOrPut s → PickGoes pick
same_pick s None same h = tt
same_pick s (Some one) same h = same_goes s one.0 same h

or_goes : (a b : Pick) → PickGoes a → PickGoes b → PickGoes (or_else a b)
or_goes None b p q = q
or_goes (Some pick) b p q = p

-- on is legs
in_mark : (s : Server) (k : ℕ)
    → IfSome (put_in s k) (λ (one : Server × Message). one.0.end_mark ≡ s.end_mark)
in_mark s k = search rules

in_goes : (s : Server) (pick : Pick) → seen.PickSame s pick
    → IfSome pick (λ (one : Server × Message). one.0.end_mark ≡ s.end_mark) → GoesOrPut s
    → PickGoes pick
in_goes s None at mark h = tt
in_goes s (Some one) at mark h =
    ap (λ (x : Seen). not (is_ended (phase_of x.at)) || is_put one.0.end_mark) at
    ∙ ap (λ (mark : EndMark). not (is_ended (phase_of s.stage)) || is_put mark) mark ∙ h

greeting_same : (s : Server) (place : ℕ) → PickSame s (put_out_greeting s place)
greeting_same s place = search rules

-- what is put leaves the server open
abbrev StaysAt : Server → Pick → Type 0
StaysAt s pick = IfSome pick (λ (one : Server × Message). one.0.stage ≡ s.stage)

waiting_stays : (s : Server) (place : ℕ) → StaysAt s (put_waiting s place)
waiting_stays s place = search rules

pdu_or_end_stays : (s : Server) (place : ℕ) → StaysAt s (put_pdu_or_end s place)
pdu_or_end_stays s place = search rules

or_stays : (s : Server) (a b : Pick) → StaysAt s a → StaysAt s b → StaysAt s (or_else a b)
or_stays s None b p q = q
or_stays s (Some pick) b p q = p

open_goes : (at : Stage) (mark : EndMark) → is_open at ≡ true
    → (not (is_ended (phase_of at)) || is_put mark) ≡ true
open_goes stage.Waits mark e = refl
open_goes (stage.OutCame connection) mark e = refl
open_goes (stage.InCame connection window timeout) mark e = refl
open_goes (stage.Open connection) mark e = refl
open_goes stage.Ended mark e = absurd (true≢false (sym e))

settled_goes : (s : Server) (pick : Pick) → is_open s.stage ≡ true → StaysAt s pick
    → PickGoes (settled_pick pick)
settled_goes s None e stays = tt
settled_goes s (Some one) e stays =
    settles one.0 (open_goes one.0.stage one.0.end_mark (ap is_open stays ∙ e))

out_goes : (s : Server) (place : Option ℕ) → GoesOrPut s → PickGoes (put_out_at s place)
out_goes s None h = tt
out_goes s (Some place) h =
    or_goes (put_out_greeting s place) (put_open s place)
    (same_pick s (put_out_greeting s place) (greeting_same s place) h)
    (by_test PickGoes (is_open s.stage) (settled_pick (next_out s place)) None
    (λ e. settled_goes s (next_out s place) e
    (or_stays s (put_waiting s place) (put_pdu_or_end s place) (waiting_stays s place)
    (pdu_or_end_stays s place)))
    (λ e. tt))

put_goes : (s : Server) (k : ℕ) (kind : LegKind) → GoesOrPut s → PickGoes (put_by_kind s k kind)
put_goes s k InServer h = in_goes s (put_in s k) (in_same s k) (in_mark s k) h
put_goes s k OutServer h = out_goes s (out_place k s.outs) h
put_goes s k ClientIn h = tt
put_goes s k ClientOut h = tt

-- ---- legs come up, are drawn, and are lost

up_same : (s : Server) (leg : Leg) (cookie : Cookie) → Same s (up s leg cookie)
up_same s leg cookie = search rules

drawn_goes : (s : Server) (k : ℕ) (kind : LegKind) → GoesOrPut s → GoesOrPut (drawn_by s k kind)
drawn_goes s k InServer h =
    by_test GoesOrPut (in_is_drawn (in_leg k s.ins)) (settled (without_in s k)) s
    (λ e. settles (without_in s k) h) (λ e. h)
drawn_goes s k OutServer h = h
drawn_goes s k ClientIn h = h
drawn_goes s k ClientOut h = h

lost_same : (s : Server) (k : ℕ) (o : Option InLeg) → Same s (lost_in s k o)
lost_same s k o = search rules

mark_goes : (s : Server) (k : ℕ) (kind : LegKind) → GoesOrPut s → GoesOrPut (mark_by s k kind)
mark_goes s k InServer h =
    let t = lost_in s k (in_leg k s.ins) in
    settles t (same_goes s t (lost_same s k (in_leg k s.ins)) h)
mark_goes s k OutServer h = settles (without_out (with_ack_dropped s k) k) h
mark_goes s k ClientIn h = h
mark_goes s k ClientOut h = h

-- ---- moves

give_same : (s : Server) (bytes : List ℕ) → Same s (give s bytes).0
give_same s bytes = search rules

take_same : (s : Server) → Same s (take s)
take_same s = search rules

recycle_same : (s : Server) → Same s (recycle s).0
recycle_same s = search rules

abbrev Holds : Server → List OnLeg → List OnLeg → Type 0
Holds s came put = GoesOrPut s

row_holds : (one : OnLeg) (came put : List OnLeg) (x : Done) → Row x
    → RowKeeps Holds one came put x
row_holds one came put (t, Ok taken) h = h
row_holds one came put (t, Err why) h = h

put_holds : (leg : Leg) (came put : List OnLeg) (pick : Pick) → PickGoes pick
    → PutKeeps Holds leg came put pick
put_holds leg came put None h = tt
put_holds leg came put (Some one) h = h

steps : StepsKeep server_rules Holds
steps = record {
  up = λ s leg cookie came put h. same_goes s (up s leg cookie) (up_same s leg cookie) h;
  head = λ s leg text came put h. h;
  pdu = λ s leg count bytes came put h.
      let x = pdu_by s leg.number bytes leg.kind in
      row_holds (leg, Pdu bytes) came put x
      (same_goes s x.0 (pdu_same s leg.number bytes leg.kind) h);
  packet = λ s leg count packet came put h.
      row_holds (leg, Packet packet) came put (packet_by s leg.number count packet leg.kind)
      (packet_goes s leg.number count packet leg.kind h);
  put = λ s leg came put h.
      put_holds leg came put (put_by_kind s leg.number leg.kind)
      (put_goes s leg.number leg.kind h);
  drawn = λ s leg came put h. drawn_goes s leg.number leg.kind h;
  mark = λ s leg came put h. mark_goes s leg.number leg.kind h;
  ping = λ s leg came put h. h;
}

calls : ActsKeep acts Holds
calls = record {
  give = λ s bytes came put h. same_goes s (give s bytes).0 (give_same s bytes) h;
  take = λ s came put h. same_goes s (take s) (take_same s) h;
  close = λ s came put h. h;
  recycle = λ s came put h. same_goes s (recycle s).0 (recycle_same s) h;
}

pub goes_so : (window : ℕ) (moves : List EndMove)
    → GoesOrPut (all_end_moved server_rules acts (end_started (first window)) moves).passage.role
goes_so window moves =
    end_moves_keep server_rules Holds steps acts calls (end_started (first window)) moves refl
