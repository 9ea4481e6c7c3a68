-- what a server does that leaves alone what it takes
use Rattle.law_order.proofs.Vocabulary.{◌≡◌, ℕ, ◌+◌, ◌==◌, ◌&&◌, cond, List, [], Bool, true, false, not, Some, None, Ok, Err, arith, refl, sym, ap, ◌∙◌, subst, find, slice_get, Option, Result, sum_by_push, Item, Log, more}
use Rattle.rh_sig.specs.declared.named.Named.TheVariants as named
use Rattle.rh_server.specs.declared.out_line.Kind.TheVariants as kind
use Rattle.rh_server.specs.declared.state.Stage.TheVariants as stage
use Rattle.rh_server.specs.declared.state.EndMark.TheVariants as end_mark
use Rattle.rh_server.specs.declared.state.Greeting.TheVariants as greeting
use Rattle.rh_server.specs.declared.state.Tells.TheVariants as tells
use Rattle.rh_server.specs.declared.state.Leaving.TheVariants as leaving
use Rattle.rh_server.specs.declared.state.Replacement.TheVariants as replacement
use Rattle.law_moves.proofs.Vocabulary.{Ack, by_test, more_none, Cookie, Named, front_length, RecycleRefused, Count, Due, Packet, Waiting, added, own, taken, forwarded}
use Rattle.law_role_server.proofs.Vocabulary.{one_if, same_forwarded, none_taken, Stage, Tells, Leaving, Replacement, InLeg, OutLeg, Gate, is_own, is_kind, lets, is_ack_of, Server, is_open, is_put, is_due, is_shut, stays, same_cookie, set_at, in_place, in_leg, with_in, out_at, out_place, out_cookie, without_out, Done, took, unexpected, is_first, opens, with_first_out, first_out_at, conn_a2_at, on_conn_a2, forward_by, forwards, forwards_writing, forwards_to, channel_leg}
use Rattle.law_role_server.proofs.Vocabulary.{on_ack_to, acked_at, acked_in, acked_cookie, on_ack, on_ping_traffic, asks, wishes, wished, recycle, is_under_way, last_number, answered_by, answered_on, out_r1_a4_by, out_r1_a4_at, may_answer, on_out_r1_a4, confirms, out_r1_a8_at, on_out_r1_a8, handed, are_lost, is_complete, completed, settled, without_ack_of, with_ack_dropped, Pick, or_else, counts, counts_at, was_put, was_current, told_by, put_in_greeting, put_tells}
use Rattle.law_role_server.proofs.Vocabulary.{put_tells_by, put_b1, put_b1_by, put_ack, put_ack_by, ack_due, put_in, put_in_by, out_greeting_at, put_out_greeting, waiting_by, waiting_at, put_waiting, gate_at, may_go_at, pdu_by, put_pdu, may_end_at, is_end_due, put_end, put_pdu_or_end, next_out, settled_pick, put_open, put_out_place, put_out_at, put_out}
use Rattle.law_role_server.proofs.InSpots.{Spot, spot, spots, spot_by, at, put_at, leg_spot, set_spot, at_number, put_same}
use Rattle.law_role_server.proofs.TakesKept.{has_begun, Read, reads, due_a3, Took}
use Rattle.law_role_server.proofs.Gives.{both}

-- ---- what a server takes is left alone

pub record Quiet (s t : Server) : Type 0 where
  pub same : reads t ≡ reads s
  pub calm : due_a3 s.waiting ≡ 0 → due_a3 t.waiting ≡ 0

pub still : (s : Server) → Quiet s s
still s = record { same = refl; calm = λ e. e }

pub quiet_then : (s t u : Server) → Quiet s t → Quiet t u → Quiet s u
quiet_then s t u a b = record { same = b.same ∙ a.same; calm = λ e. b.calm (a.calm e) }

calmer : (out : List (List ℕ)) (up : ℕ → Bool) (came : Log) (d : Read) (w v : Waiting)
    → (due_a3 w ≡ 0 → due_a3 v ≡ 0) → Took out up came d w → Took out up came d v
calmer out up came d w v c l = record {
  later = l.later;
  known = l.known;
  law = l.law;
  behind = l.behind;
  kept = l.kept;
  ended = l.ended;
  all = l.all;
  low = l.low;
  idle = λ e. c (l.idle e);
  told = λ e. c (l.told e);
}

pub quietly : (out : List (List ℕ)) (up : ℕ → Bool) (came : Log) (s t : Server) → Quiet s t
    → Took out up came (reads s) s.waiting → Took out up came (reads t) t.waiting
quietly out up came s t q l =
    subst (λ d. Took out up came d t.waiting) (sym q.same)
    (calmer out up came (reads s) s.waiting t.waiting q.calm l)

-- behind a row's answer to a message on leg n: its items came, where it was taken
abbrev pub RowTook : List (List ℕ) → (ℕ → Bool) → Log → ℕ → List Item → Done → Type 0
RowTook out up came n items (t, Ok took) =
    Took out up (more n items came) (reads t) t.waiting
RowTook out up came n items (t, Err why) = Took out up came (reads t) t.waiting

-- a message that order is not about
pub quiet_row : (out : List (List ℕ)) (up : ℕ → Bool) (came : Log) (s : Server) (n : ℕ) (x : Done)
    → Quiet s x.0 → Took out up came (reads s) s.waiting → RowTook out up came n [] x
quiet_row out up came s n (t, Ok took) q l =
    subst (λ log. Took out up log (reads t) t.waiting) (sym (more_none n came))
    (quietly out up came s t q l)
quiet_row out up came s n (t, Err why) q l = quietly out up came s t q l

-- ---- packets that wait

pub calm_added : (w : Waiting) (packet : Named) → is_kind kind.InR1A3 packet ≡ false
    → due_a3 w ≡ 0 → due_a3 (added w packet) ≡ 0
calm_added w packet other e =
    let pushed : due_a3 (added w packet) ≡ due_a3 w + cond (is_kind kind.InR1A3 packet) 1 0 =
    sum_by_push (one_if (is_own kind.InR1A3)) w.due (own packet) in
    omega (arith, pushed, nothing (is_kind kind.InR1A3 packet) other, e)
  where
    nothing : (b : Bool) → b ≡ false → ◌≡◌ {A = ℕ} (cond b 1 0) 0
    nothing true e = absurd (cc)
    nothing false e = refl

-- ---- stages

pub open_begun : (x : Stage) → is_open x ≡ true → has_begun x ≡ true
open_begun stage.Waits e = absurd (cc)
open_begun (stage.OutCame connection) e = absurd (cc)
open_begun (stage.InCame connection window timeout) e = absurd (cc)
open_begun (stage.Open connection) e = refl
open_begun stage.Ended e = absurd (cc)

abbrev with_begun : Read → Bool → Read
with_begun d b = record d { begun = b }

staged : (s f : Server) (x : Stage) → reads f ≡ reads s → has_begun s.stage ≡ has_begun x
    → reads (record f { stage = x }) ≡ reads s
staged s f x same b =
    ap (λ d. with_begun d (has_begun x)) same ∙ ap (with_begun (reads s)) (sym b)

pub settled_quiet : (s : Server) → Quiet s (settled s)
settled_quiet s = quiet_then s (completed s) (settled s) complete (wish (completed s))
  where
    complete : Quiet s (completed s)
    complete = by_test (Quiet s) (is_complete s) (record s { stage = stage.Ended }) s
        (λ e. record {
          same = staged s s stage.Ended refl (open_begun s.stage
              (both (is_open s.stage) (is_put s.end_mark && are_lost s.ins) e).0);
          calm = λ c. c;
        })
        (λ e. still s)

    wish : (t : Server) → Quiet t (wished t)
    wish t = by_test (Quiet t) (wishes t) (asks t) t
        (λ e. record { same = refl; calm = calm_added t.waiting (named.OutR1A1 0) refl })
        (λ e. still t)

-- ---- CONN/A2

first_out : (s : Server) (cookie : Cookie) (lifetime window : ℕ) (place : Option ℕ)
    (leg : Option OutLeg) → Quiet s (first_out_at s cookie lifetime window place leg)
first_out s cookie lifetime window (Some place) (Some leg) = record { same = refl; calm = λ c. c }
first_out s cookie lifetime window (Some place) None = still s
first_out s cookie lifetime window None leg = still s

pub conn_a2_quiet : (s : Server) (n : ℕ) (count : Count) (connection cookie : Cookie)
    (lifetime window : ℕ) → Quiet s (on_conn_a2 s n count connection cookie lifetime window).0
conn_a2_quiet s n count connection cookie lifetime window =
    by_test (λ (x : Done). Quiet s x.0) _ (conn_a2_at s s.stage connection cookie lifetime window)
    (unexpected s) (λ e. by s.stage refl) (λ e. still s)
  where
    f : Server
    f = with_first_out s cookie lifetime window

    q : Quiet s f
    q = first_out s cookie lifetime window (out_place 1 s.outs)
        (out_at s.outs (out_place 1 s.outs))

    by : (x : Stage) → s.stage ≡ x
        → Quiet s (conn_a2_at s x connection cookie lifetime window).0
    by stage.Waits e = record {
      same = staged s f (stage.OutCame connection) q.same (ap has_begun e);
      calm = q.calm;
    }
    by (stage.InCame first in_window timeout) e =
        by_test (λ (x : Done). Quiet s x.0) (same_cookie first connection)
        (took (opens f first in_window timeout)) _
        (λ o. record {
          same = staged s f (stage.Open first) q.same (ap has_begun e);
          calm = λ c. calm_added f.waiting (named.ConnC1 1 in_window timeout) refl (q.calm c);
        })
        (λ o. still s)
    by (stage.OutCame first) e = still s
    by (stage.Open first) e = still s
    by stage.Ended e = still s

-- ---- acknowledgements

forward_quiet : (s : Server) (n : ℕ) (r : Waiting × Bool)
    → (due_a3 s.waiting ≡ 0 → due_a3 r.0 ≡ 0) → Quiet s (forward_by s n r).0
forward_quiet s n (waiting, true) c = record { same = refl; calm = c }
forward_quiet s n (waiting, false) c = still s

forwards_quiet : (s : Server) (n a b c : ℕ) (of : Cookie)
    → Quiet s (forwards s n (named.AckTo a b c of)).0
forwards_quiet s n a b c of =
    forward_quiet s n (forwarded s.waiting (named.AckTo a b c of))
    (λ e. same_forwarded s.waiting (named.AckTo a b c of) kind.InR1A3 refl ∙ e)

writing_quiet : (s : Server) (a b c : ℕ) (of : Cookie)
    → Quiet s (forwards_writing s (named.AckTo a b c of)).0
writing_quiet s a b c of =
    by_test (λ (x : Done). Quiet s x.0) _ _ (forwards s s.writing (named.AckTo a b c of))
    (λ e. still s) (λ e. forwards_quiet s s.writing a b c of)

to_quiet : (s : Server) (a b c : ℕ) (of : Cookie) (leg : Option ℕ)
    → Quiet s (forwards_to s (named.AckTo a b c of) leg).0
to_quiet s a b c of None = still s
to_quiet s a b c of (Some n) =
    by_test (λ (x : Done). Quiet s x.0) (n == s.writing)
    (forwards_writing s (named.AckTo a b c of)) (forwards s n (named.AckTo a b c of))
    (λ e. writing_quiet s a b c of) (λ e. forwards_quiet s n a b c of)

pub ack_to_quiet : (s : Server) (count : Count) (a b c : ℕ) (of : Cookie)
    → Quiet s (on_ack_to s count a b c of).0
ack_to_quiet s count a b c of =
    by_test (λ (x : Done). Quiet s x.0) (is_first count) (unexpected s) _ (λ e. still s)
    (λ e. by_test (λ (x : Done). Quiet s x.0) (a == 0)
    (forwards_writing s (named.AckTo 0 b c of)) _
    (λ e. writing_quiet s 0 b c of)
    (λ e. by_test (λ (x : Done). Quiet s x.0) (a == 3)
    (forwards_to s (named.AckTo 3 b c of) (channel_leg of s.outs)) (unexpected s)
    (λ e. to_quiet s 3 b c of (channel_leg of s.outs)) (λ e. still s)))

pub ack_quiet : (s : Server) (n : ℕ) (count : Count) (received window : ℕ) (cookie : Cookie)
    → Quiet s (on_ack s n count received window cookie).0
ack_quiet s n count received window cookie =
    by_test (λ (x : Done). Quiet s x.0) (is_first count) (unexpected s)
    (acked_cookie s n received window cookie (out_cookie n s.outs)) (λ e. still s)
    (λ e. of_cookie (out_cookie n s.outs))
  where
    leg_at : (place : ℕ) (leg : Option OutLeg) → Quiet s (acked_at s place received window leg).0
    leg_at place None = still s
    leg_at place (Some leg) = record { same = refl; calm = λ c. c }

    placed : (place : Option ℕ) → Quiet s (acked_in s received window place).0
    placed None = still s
    placed (Some place) = leg_at place (slice_get s.outs place)

    of_cookie : (channel : Option Cookie)
        → Quiet s (acked_cookie s n received window cookie channel).0
    of_cookie None = still s
    of_cookie (Some channel) =
        by_test (λ (x : Done). Quiet s x.0) (same_cookie channel cookie)
        (acked_in s received window (out_place n s.outs)) _
        (λ e. placed (out_place n s.outs)) (λ e. still s)

pub ping_quiet : (s : Server) (count : Count) → Quiet s (on_ping_traffic s count).0
ping_quiet s count =
    by_test (λ (x : Done). Quiet s x.0) (is_first count) (unexpected s) (took s) (λ e. still s)
    (λ e. still s)

-- ---- the OUT channel is replaced

pub recycle_quiet : (s : Server) → Quiet s (recycle s).0
recycle_quiet s =
    by_test (λ (x : Server × Result (Unit {0}) RecycleRefused). Quiet s x.0)
    (s.writing == last_number) _ _ (λ e. still s)
    (λ e. by_test (λ (x : Server × Result (Unit {0}) RecycleRefused). Quiet s x.0)
    (is_under_way s) _ (asks s, Ok tt) (λ e. still s)
    (λ e. record { same = refl; calm = calm_added s.waiting (named.OutR1A1 0) refl }))

pub a4_quiet : (s : Server) (n : ℕ) (count : Count) (connection predecessor successor : Cookie)
    (lifetime window timeout : ℕ)
    → Quiet s (on_out_r1_a4 s n count connection predecessor successor lifetime window timeout).0
a4_quiet s n count connection predecessor successor lifetime window timeout =
    by_test (λ (x : Done). Quiet s x.0) (may_answer s n count)
    (out_r1_a4_at s s.stage n connection predecessor successor lifetime window timeout)
    (unexpected s) (λ e. staged_by s.stage) (λ e. still s)
  where
    placed : (place : Option ℕ) (leg : Option OutLeg)
        → Quiet s (answered_by s successor lifetime window timeout place leg).0
    placed (Some place) (Some leg) = record {
      same = refl;
      calm = calm_added s.waiting (named.OutR1A5 0 1 timeout) refl;
    }
    placed (Some place) None = still s
    placed None leg = still s

    of_writing : (first : Cookie) (writing : Option Cookie)
        → Quiet s (out_r1_a4_by s n first connection predecessor successor lifetime window
        timeout writing).0
    of_writing first None = still s
    of_writing first (Some writing) =
        by_test (λ (x : Done). Quiet s x.0) (not (same_cookie first connection)) _ _
        (λ e. still s)
        (λ e. by_test (λ (x : Done). Quiet s x.0) (not (same_cookie writing predecessor)) _
        (answered_on s n successor lifetime window timeout) (λ e. still s)
        (λ e. placed (out_place n s.outs) (out_at s.outs (out_place n s.outs))))

    staged_by : (x : Stage) → Quiet s (out_r1_a4_at s x n connection predecessor successor
        lifetime window timeout).0
    staged_by stage.Waits = still s
    staged_by (stage.OutCame first) = still s
    staged_by (stage.InCame first in_window in_timeout) = still s
    staged_by (stage.Open first) = of_writing first (out_cookie s.writing s.outs)
    staged_by stage.Ended = still s

pub a8_quiet : (s : Server) (count : Count) (destination : ℕ) (successor : Cookie)
    → Quiet s (on_out_r1_a8 s count destination successor).0
a8_quiet s count destination successor =
    by_test (λ (x : Done). Quiet s x.0) _ (out_r1_a8_at s successor s.replacement) (unexpected s)
    (λ e. by s.replacement) (λ e. still s)
  where
    by : (r : Replacement) → Quiet s (out_r1_a8_at s successor r).0
    by (replacement.Answered cookie) =
        by_test (λ (x : Done). Quiet s x.0) (same_cookie cookie successor) (took (confirms s)) _
        (λ e. record { same = refl; calm = calm_added s.waiting named.OutR1A9 refl })
        (λ e. still s)
    by replacement.Steady = still s
    by replacement.Asked = still s
    by replacement.Confirmed = still s

-- ---- an os leg is lost

pub dropped_quiet : (s : Server) (n : ℕ)
    → Quiet s (without_out (with_ack_dropped s n) n)
dropped_quiet s n = by (out_cookie n s.outs)
  where
    by : (cookie : Option Cookie) → Quiet s (without_out (record s {
      waiting = without_ack_of s.waiting cookie;
    }) n)
    by None = record { same = refl; calm = λ c. c }
    by (Some cookie) = record {
      same = refl;
      calm = none_taken (is_own kind.InR1A3) (is_ack_of cookie) s.waiting.due;
    }

-- ---- what is put on an os leg

counts_quiet : (s : Server) (place len : ℕ) → Quiet s (counts s place len)
counts_quiet s place len = by (slice_get s.outs place)
  where
    by : (leg : Option OutLeg) → Quiet s (counts_at s place len leg)
    by None = still s
    by (Some leg) = record { same = refl; calm = λ c. c }

handed_quiet : (s t : Server) → Quiet s t → Quiet s (handed t)
handed_quiet s t q = record { same = q.same; calm = q.calm }

put_quiet : (s : Server) (place : ℕ) (packet : Named) → Quiet s (was_put s place packet)
put_quiet s place (named.ConnA1 v1 v2 v3 v4) = counts_quiet s place 0
put_quiet s place (named.ConnA2 v1 v2 v3 v4 v5) = counts_quiet s place 0
put_quiet s place (named.ConnA3 v1) = counts_quiet s place 0
put_quiet s place (named.ConnB1 v1 v2 v3 v4 v5 v6) = counts_quiet s place 0
put_quiet s place (named.ConnB2 v1 v2 v3 v4 v5 v6 v7 v8) = counts_quiet s place 0
put_quiet s place (named.ConnB3 v1 v2) = counts_quiet s place 0
put_quiet s place (named.ConnC1 v1 v2 v3) = counts_quiet s place 44
put_quiet s place (named.ConnC2 v1 v2 v3) = counts_quiet s place 0
put_quiet s place (named.InR1A1 v1 v2 v3 v4) = counts_quiet s place 0
put_quiet s place (named.InR1A2 v1 v2 v3 v4 v5 v6) = counts_quiet s place 0
put_quiet s place (named.InR1A3 v1 v2 v3 v4) = counts_quiet s place 52
put_quiet s place (named.InR1A4 v1 v2 v3 v4) = counts_quiet s place 0
put_quiet s place (named.InR1A5 v1) = counts_quiet s place 0
put_quiet s place (named.InR1A6 v1) = counts_quiet s place 0
put_quiet s place named.InR1B1 = counts_quiet s place 0
put_quiet s place (named.InR1B2 v1) = counts_quiet s place 0
put_quiet s place (named.InR2A2 v1) = counts_quiet s place 0
put_quiet s place (named.InR2A3 v1) = counts_quiet s place 28
put_quiet s place (named.InR2A4 v1) = counts_quiet s place 0
put_quiet s place (named.OutR1A1 v1) = counts_quiet s place 28
put_quiet s place (named.OutR1A2 v1) = counts_quiet s place 0
put_quiet s place (named.OutR1A3 v1 v2 v3 v4 v5) = counts_quiet s place 0
put_quiet s place named.OutR2C1 = counts_quiet s place 0
put_quiet s place (named.OutR1A4 v1 v2 v3 v4 v5 v6 v7) = counts_quiet s place 0
put_quiet s place (named.OutR1A5 v1 v2 v3) = counts_quiet s place 44
put_quiet s place (named.OutR1A6 v1 v2 v3) = counts_quiet s place 0
put_quiet s place (named.OutR1A7 v1 v2) = counts_quiet s place 0
put_quiet s place (named.OutR1A8 v1 v2) = counts_quiet s place 0
put_quiet s place named.OutR1A9 = handed_quiet s (counts s place 24) (counts_quiet s place 24)
put_quiet s place named.OutR1A10 = counts_quiet s place 0
put_quiet s place named.EndA1 = counts_quiet s place 0
put_quiet s place named.EndA2 = counts_quiet s place 0
put_quiet s place named.EndB1 = counts_quiet s place 0
put_quiet s place named.EndB2 = counts_quiet s place 0
put_quiet s place (named.Ack v1 v2 v3) = counts_quiet s place 0
put_quiet s place (named.AckTo v1 v2 v3 v4) =
    by_test (Quiet s) (v1 == 3) s (counts s place 56) (λ e. still s)
    (λ e. counts_quiet s place 56)
put_quiet s place (named.KeepAlive v1) = counts_quiet s place 0
put_quiet s place (named.PingTraffic v1) = counts_quiet s place 0
put_quiet s place named.Ping = counts_quiet s place 0

abbrev pub PickQuiet : Server → Pick → Type 0
PickQuiet s None = Unit {0}
PickQuiet s (Some pick) = Quiet s pick.0

or_quiet : (s : Server) (a b : Pick) → PickQuiet s a → PickQuiet s b → PickQuiet s (or_else a b)
or_quiet s None b first later = later
or_quiet s (Some pick) b first later = first

settled_pick_quiet : (s : Server) (pick : Pick) → PickQuiet s pick
    → PickQuiet s (settled_pick pick)
settled_pick_quiet s None q = tt
settled_pick_quiet s (Some (t, m)) q = quiet_then s t (settled t) q (settled_quiet t)

place_quiet : (s : Server) (place : ℕ) → PickQuiet s (put_out_place s place)
place_quiet s place =
    or_quiet s (put_out_greeting s place) (put_open s place)
    (greeting_at (slice_get s.outs place))
    (by_test (PickQuiet s) (is_open s.stage) (settled_pick (next_out s place)) None
    (λ e. settled_pick_quiet s (next_out s place)
    (or_quiet s (put_waiting s place) (put_pdu_or_end s place)
    (let_by (gate_at s (slice_get s.outs place)))
    (or_quiet s (put_pdu s place) (put_end s place) (sends (front_length s.queue)) ends)))
    (λ e. tt))
  where
    greeting_at : (leg : Option OutLeg) → PickQuiet s (out_greeting_at s place leg)
    greeting_at None = tt
    greeting_at (Some leg) = by_test (PickQuiet s) (is_due leg.greeting) _ None
        (λ e. record { same = refl; calm = λ c. c }) (λ e. tt)

    found : (gate : Gate) (due : Option Due)
        → PickQuiet s (waiting_by s place ((taken (lets gate) s.waiting).0, due))
    found gate None = tt
    found gate (Some due) =
        let w = (taken (lets gate) s.waiting).0 in
        quiet_then s (record s { waiting = w })
        (was_put (record s { waiting = w }) place due.packet)
        (record {
          same = refl;
          calm = none_taken (is_own kind.InR1A3) (lets gate) s.waiting.due;
        })
        (put_quiet (record s { waiting = w }) place due.packet)

    let_by : (gate : Option Gate) → PickQuiet s (waiting_at s place gate)
    let_by None = tt
    let_by (Some gate) = found gate (find (lets gate) s.waiting.due)

    sends : (len : Option ℕ) → PickQuiet s (pdu_by s place len)
    sends None = tt
    sends (Some len) = by_test (PickQuiet s) (may_go_at s len (slice_get s.outs place)) _ None
        (λ e. record { same = refl; calm = λ c. c }) (λ e. tt)

    ends : PickQuiet s (put_end s place)
    ends = by_test (PickQuiet s) (is_end_due s && may_end_at s (slice_get s.outs place))
        (Some (record (counts s place 24) { end_mark = end_mark.Put }, Packet named.EndB1)) None
        (λ e. let q = counts_quiet s place 24 in record { same = q.same; calm = q.calm })
        (λ e. tt)

pub out_quiet : (s : Server) (n : ℕ) → PickQuiet s (put_out s n)
out_quiet s n = by (out_place n s.outs)
  where
    by : (place : Option ℕ) → PickQuiet s (put_out_at s place)
    by None = tt
    by (Some place) = place_quiet s place

-- ---- what is put on an is leg

abbrev with_legs : Read → List Spot → Read
with_legs d legs = record d { legs = legs }

pub in_there : (n : ℕ) (legs : List InLeg) (leg : InLeg) → in_leg n legs ≡ Some leg
    → at leg.number (spots legs) ≡ Some (spot leg)
in_there n legs leg e =
    let found : at n (spots legs) ≡ Some (spot leg) = sym (leg_spot n legs) ∙ ap spot_by e in
    subst (λ k. at k (spots legs) ≡ Some (spot leg))
    (sym (at_number n (spots legs) (spot leg) found)) found

-- the leg is set, and order sees it as it was
pub set_quiet : (s t : Server) (n : ℕ) (leg other : InLeg) → Quiet s t → t.ins ≡ s.ins
    → in_leg n s.ins ≡ Some leg → spot other ≡ spot leg → Quiet s (with_in t other)
set_quiet s t n leg other q same e is = record {
  same = ap (λ d. with_legs d (spots (set_at t.ins other (in_place other.number t.ins)))) q.same
      ∙ ap (with_legs (reads s)) legs;
  calm = q.calm;
}
  where
    there : at (spot other).number (spots s.ins) ≡ Some (spot other)
    there = subst (λ x. at x.number (spots s.ins) ≡ Some x) (sym is) (in_there n s.ins leg e)

    legs : spots (set_at t.ins other (in_place other.number t.ins)) ≡ spots s.ins
    legs = set_spot t.ins other ∙ ap (λ ins. put_at (spot other) (spots ins)) same
        ∙ put_same (spot other) (spots s.ins) there

in_pick_quiet : (s : Server) (n : ℕ) (leg : Option InLeg) → in_leg n s.ins ≡ leg
    → PickQuiet s (put_in_by s leg)
in_pick_quiet s n None e = tt
in_pick_quiet s n (Some leg) e =
    or_quiet s (put_in_greeting s leg) _ greets
    (or_quiet s (put_tells s leg) _ (tells_by leg.tells)
    (or_quiet s (put_b1 s leg) (put_ack s leg) (b1 leg.leaving refl) (acks (ack_due s leg))))
  where
    greets : PickQuiet s (put_in_greeting s leg)
    greets = by_test (PickQuiet s) (is_due leg.greeting) _ None
        (λ o. set_quiet s s n leg (record leg { greeting = greeting.Put }) (still s) refl e refl)
        (λ o. tt)

    told : Quiet s (with_in (told_by s leg.number) (record leg { tells = tells.Nothing }))
    told = by_test (λ t. Quiet s (with_in t (record leg { tells = tells.Nothing })))
        ((leg.number == s.current.leg) && is_shut s.edge) _ s
        (λ o. set_quiet s _ n leg (record leg { tells = tells.Nothing })
        (record { same = refl; calm = λ c. c }) refl e refl)
        (λ o. set_quiet s s n leg (record leg { tells = tells.Nothing }) (still s) refl e refl)

    tells_by : (t : Tells) → PickQuiet s (put_tells_by s leg t)
    tells_by tells.Nothing = tt
    tells_by tells.ConnB3 = by_test (PickQuiet s) (is_open s.stage) _ None
        (λ o. set_quiet s s n leg (record leg { tells = tells.Nothing }) (still s) refl e refl)
        (λ o. tt)
    tells_by tells.InR1B2 =
        by_test (PickQuiet s) (was_current s leg) _ None (λ o. told) (λ o. tt)

    b1 : (l : Leaving) → leg.leaving ≡ l → PickQuiet s (put_b1_by s leg l)
    b1 leaving.Stays o = tt
    b1 leaving.InR1B1 o =
        set_quiet s s n leg (record leg { leaving = leaving.Left }) (still s) refl e
        (ap (λ b. record { number = leg.number; stage = leg.stage; stays = b })
        (sym (ap stays o)))
    b1 leaving.Left o = tt
    b1 leaving.Lost o = tt

    acks : (ack : Option Ack) → PickQuiet s (put_ack_by s ack)
    acks None = tt
    acks (Some ack) = record { same = refl; calm = λ c. c }

pub in_quiet : (s : Server) (n : ℕ) → PickQuiet s (put_in s n)
in_quiet s n = in_pick_quiet s n (in_leg n s.ins) refl
