-- the rows of a server keep what it may put fine, where what they took is
use Rattle.law_order.proofs.Vocabulary.{◌≡◌, ℕ, ◌==◌, ◌&&◌, List, [], ◌∷◌, Bool, true, false, not, Some, None, Ok, Err, arith, subst, if◌then◌else◌, IfSome, slice_get, nat_lt, AllByRecursion, list_any, Option, Result}
use Rattle.rh_sig.specs.declared.named.Named.TheVariants as named
use Rattle.rh_line.specs.Lines.{taken}
use Rattle.rh_shell.specs.declared.answers.Refused.TheVariants as refused
use Rattle.rh_server.specs.declared.state.Stage.TheVariants as stage
use Rattle.rh_server.specs.declared.state.InStage.TheVariants as in_stage
use Rattle.rh_server.specs.declared.state.Tells.TheVariants as tells
use Rattle.rh_server.specs.declared.state.Leaving.TheVariants as leaving
use Rattle.rh_server.specs.declared.state.Replacement.TheVariants as replacement
use Rattle.rh_server.specs.declared.out_line.Kind.TheVariants as kind
use Rattle.law_moves.proofs.Vocabulary.{by_test, Cookie, OsD, Named, IsTimeout, each_push, Line, after_admit, admit_verdict, after_end, after_finish, released, LineFault, Window, Over, Which, Current, Next, Count, Due, Forwarded, RecycleRefused, Waiting, to_forward, pushed, with_due, merged, better, takes, edge_of, count as count_of, forwarded, IsFine, MayGo}
use Rattle.law_role_server.proofs.Vocabulary.{Stage, InStage, Replacement, InLeg, OutLeg, has, waits, Server, is_open, is_fresh, same_cookie, in_leg, out_at, out_place, out_cookie, Done, took, refuse, unexpected, is_first, opens, first_out_at, with_first_out, conn_a2_at, on_conn_a2, first_in, with_first_in, conn_b2_at, on_conn_b2, channel_at, is_full, out_server, admitted_by, admitted_on, on_pdu, forward_by, forwards, forwards_writing, forwards_to, channel_leg, on_ack_to}
use Rattle.law_role_server.proofs.Vocabulary.{acked_at, acked_in, acked_cookie, on_ack, on_ping_traffic, moved_if, take, announced, in_r1_a2_by, in_r1_a2_at, on_in_r1_a2, leaves, leaves_by, hands_over, on_in_r1_a6, in_r2_a2_on, on_in_r2_a2, asks, recycle, is_under_way, last_number, answered_by, answered_on, out_r1_a4_by, out_r1_a4_at, may_answer, on_out_r1_a4, confirms, out_r1_a8_at, on_out_r1_a8, is_over_on, end_a2_on_leg, end_a2_waiting, end_a2_at, on_end_a2, on_is, on_os}
use Rattle.law_role_server.proofs.Each.{each_merged}
use Rattle.law_role_server.proofs.Putable.{IsCookie, AreOfAck, conn_c1, in_r2_a3, out_r1_a5, out_r1_a9, ack_to}
use Rattle.law_role_server.proofs.Telling.{admitted_tells, ended_tells, released_tells}
use Rattle.law_role_server.proofs.Sounds.{AreTold, IsStage, IsInStage, IsLeg, MayWait, Sound, stage_is, line_is, packets_are, packet_added, leg_found, leg_set, next_opens, no_both, moves, asks_sound}
use Rattle.law_role_server.proofs.Gives.{both}

-- behind a row's answer: where it took what came, by what F says of that
abbrev pub RowSound : Type 0 → Done → Type 0
RowSound F (t, Ok took) = F → Sound t
RowSound F (t, Err why) = Sound t

-- where it asks for less
row_by : (F G : Type 0) → (F → G) → (x : Done) → RowSound G x → RowSound F x
row_by F G less (t, Ok took) r = λ f. r (less f)
row_by F G less (t, Err why) r = r

-- or for nothing
pub row_any : (F : Type 0) (x : Done) → Sound x.0 → RowSound F x
row_any F (t, Ok took) h = λ f. h
row_any F (t, Err why) h = h

-- ---- opening

opened : (s : Server) (connection : Cookie) (window timeout : ℕ) → Sound s
    → AreTold window timeout → Sound (opens s connection window timeout)
opened s connection window timeout h told =
    packet_added (record s { stage = stage.Open connection }) (named.ConnC1 1 window timeout)
    (stage_is s (stage.Open connection) h tt) (conn_c1 window timeout told.0 told.1)

conn_a2_row : (s : Server) (n : ℕ) (count : Count) (connection cookie : Cookie)
    (lifetime window : ℕ) → Sound s
    → Sound (on_conn_a2 s n count connection cookie lifetime window).0
conn_a2_row s n count connection cookie lifetime window h =
    by_test (λ (x : Done). Sound x.0) _
    (conn_a2_at s s.stage connection cookie lifetime window) (unexpected s)
    (λ e. by s.stage h.staged) (λ e. h)
  where
    first_at : (place : Option ℕ) (leg : Option OutLeg)
        → Sound (first_out_at s cookie lifetime window place leg)
    first_at (Some place) (Some leg) = h
    first_at (Some place) None = h
    first_at None leg = h

    first : Sound (with_first_out s cookie lifetime window)
    first = first_at (out_place 1 s.outs) (out_at s.outs (out_place 1 s.outs))

    by : (x : Stage) → IsStage x → Sound (conn_a2_at s x connection cookie lifetime window).0
    by stage.Waits is =
        stage_is (with_first_out s cookie lifetime window) (stage.OutCame connection) first tt
    by (stage.InCame other in_window timeout) is =
        by_test (λ (x : Done). Sound x.0) (same_cookie other connection)
        (took (opens (with_first_out s cookie lifetime window) other in_window timeout)) _
        (λ e. opened (with_first_out s cookie lifetime window) other in_window timeout first is)
        (λ e. h)
    by (stage.OutCame other) is = h
    by (stage.Open other) is = h
    by stage.Ended is = h

-- what comes with a channel
abbrev AreOfChannel : Cookie → ℕ → ℕ → Type 0
AreOfChannel cookie window timeout = IsCookie cookie × AreTold window timeout

conn_b2_row : (s : Server) (n : ℕ) (count : Count) (connection cookie : Cookie)
    (window timeout : ℕ) → Sound s
    → RowSound (AreOfChannel cookie window timeout)
    (on_conn_b2 s n count connection cookie window timeout)
conn_b2_row s n count connection cookie window timeout h =
    by_test (RowSound (AreOfChannel cookie window timeout)) _
    (conn_b2_at s s.stage connection cookie window timeout) (unexpected s)
    (λ e. by s.stage) (λ e. h)
  where
    first_at : (leg : Option InLeg) → IsCookie cookie → Sound (first_in s cookie leg)
    first_at None is = h
    first_at (Some leg) is =
        leg_set (record s {
          current = record { leg = 1; number = 1; cookie = cookie };
          newest = record { leg = 1; cookie = cookie };
        })
        (record leg { cookie = cookie; stage = in_stage.Opened; tells = tells.ConnB3 })
        (record {
          staged = h.staged;
          telling = h.telling;
          current = is;
          following = h.following;
          legs = h.legs;
          pdus = h.pdus;
          packets = h.packets;
        })
        (is, tt)

    by : (x : Stage) → RowSound (AreOfChannel cookie window timeout)
        (conn_b2_at s x connection cookie window timeout)
    by stage.Waits = λ f.
        stage_is (with_first_in s cookie) (stage.InCame connection window timeout)
        (first_at (in_leg 1 s.ins) f.0) f.1
    by (stage.OutCame other) =
        by_test (RowSound (AreOfChannel cookie window timeout)) (same_cookie other connection)
        (took (opens (with_first_in s cookie) other window timeout)) _
        (λ e f. opened (with_first_in s cookie) other window timeout
        (first_at (in_leg 1 s.ins) f.0) f.1)
        (λ e. h)
    by (stage.InCame other in_window in_timeout) = h
    by (stage.Open other) = h
    by stage.Ended = h

-- ---- RPC PDUs and acknowledgements

pub pdu_row : (s : Server) (n : ℕ) (bytes : List ℕ) → Sound s → Sound (on_pdu s n bytes).0
pdu_row s n bytes h =
    by_test (λ (x : Done). Sound x.0) (is_open s.stage) (admitted_on s bytes (channel_at s n))
    (unexpected s) (λ e. on_channel (channel_at s n)) (λ e. h)
  where
    by : (which : Which) (verdict : Result (Unit {0}) LineFault)
        → Sound (admitted_by s which bytes verdict).0
    by which (Ok admitted) =
        line_is s (after_admit s.line which bytes) h
        (admitted_tells s.edge s.line which bytes h.telling)
    by which (Err (Window exceeded)) = h
    by which (Err Over) = h

    on_channel : (which : Option Which) → Sound (admitted_on s bytes which).0
    on_channel None = h
    on_channel (Some which) = by which (admit_verdict s.line which bytes)

better_waits : (packet : Named) → MayGo OsD packet → (due : Due) → MayWait due
    → MayWait (better due packet)
better_waits packet may due is =
    by_test MayWait (nat_lt (edge_of packet) (edge_of due.packet)) due _ (λ e. is) (λ e. may)

forwarded_are : (w : Waiting) (packet : Named) → AllByRecursion MayWait w.due
    → MayGo OsD packet → AllByRecursion MayWait (forwarded w packet).0.due
forwarded_are w packet are may =
    by_test (λ (r : Waiting × Bool). AllByRecursion MayWait r.0.due)
    (list_any (takes packet) w.due) (with_due w (merged w.due packet), true) _
    (λ e. each_merged MayWait packet (better_waits packet may) w.due are)
    (λ e. by_test (λ (r : Waiting × Bool). AllByRecursion MayWait r.0.due)
    (nat_lt (count_of Forwarded w.due) w.room) (pushed w (to_forward packet), true) (w, false)
    (λ e. each_push MayWait w.due (to_forward packet) are may) (λ e. are))

forwards_row : (s : Server) (n : ℕ) (packet : Named) → Sound s
    → RowSound (MayGo OsD packet) (forwards s n packet)
forwards_row s n packet h =
    by (forwarded s.waiting packet) (forwarded_are s.waiting packet h.packets)
  where
    by : (r : Waiting × Bool) → (MayGo OsD packet → AllByRecursion MayWait r.0.due)
        → RowSound (MayGo OsD packet) (forward_by s n r)
    by (w, true) are = λ f. packets_are s w h (are f)
    by (w, false) are = h

writing_row : (s : Server) (packet : Named) → Sound s
    → RowSound (MayGo OsD packet) (forwards_writing s packet)
writing_row s packet h =
    by_test (RowSound (MayGo OsD packet)) (is_full s && not (has (takes packet) s.waiting))
    (refuse s (refused.Full (out_server s.writing))) (forwards s s.writing packet) (λ e. h)
    (λ e. forwards_row s s.writing packet h)

to_row : (s : Server) (packet : Named) (leg : Option ℕ) → Sound s
    → RowSound (MayGo OsD packet) (forwards_to s packet leg)
to_row s packet None h = λ f. h
to_row s packet (Some n) h =
    by_test (RowSound (MayGo OsD packet)) (n == s.writing) (forwards_writing s packet)
    (forwards s n packet) (λ e. writing_row s packet h) (λ e. forwards_row s n packet h)

ack_to_row : (s : Server) (count : Count) (a b c : ℕ) (of : Cookie) → Sound s
    → RowSound (AreOfAck b c of) (on_ack_to s count a b c of)
ack_to_row s count a b c of h =
    by_test (RowSound (AreOfAck b c of)) (is_first count) (unexpected s) _ (λ e. h)
    (λ e. by_test (RowSound (AreOfAck b c of)) (a == 0)
    (forwards_writing s (named.AckTo 0 b c of)) _
    (λ e. row_by (AreOfAck b c of) (MayGo OsD (named.AckTo 0 b c of))
    (λ f. ack_to 0 b c of (omega arith) f) (forwards_writing s (named.AckTo 0 b c of))
    (writing_row s (named.AckTo 0 b c of) h))
    (λ e. by_test (RowSound (AreOfAck b c of)) (a == 3)
    (forwards_to s (named.AckTo 3 b c of) (channel_leg of s.outs)) (unexpected s)
    (λ e. row_by (AreOfAck b c of) (MayGo OsD (named.AckTo 3 b c of))
    (λ f. ack_to 3 b c of (omega arith) f)
    (forwards_to s (named.AckTo 3 b c of) (channel_leg of s.outs))
    (to_row s (named.AckTo 3 b c of) (channel_leg of s.outs) h)) (λ e. h)))

ack_row : (s : Server) (n : ℕ) (count : Count) (received window : ℕ) (cookie : Cookie) → Sound s
    → Sound (on_ack s n count received window cookie).0
ack_row s n count received window cookie h =
    by_test (λ (x : Done). Sound x.0) (is_first count) (unexpected s)
    (acked_cookie s n received window cookie (out_cookie n s.outs)) (λ e. h)
    (λ e. of_cookie (out_cookie n s.outs))
  where
    leg_acked : (place : ℕ) (leg : Option OutLeg)
        → Sound (acked_at s place received window leg).0
    leg_acked place None = h
    leg_acked place (Some leg) = h

    placed : (place : Option ℕ) → Sound (acked_in s received window place).0
    placed None = h
    placed (Some place) = leg_acked place (slice_get s.outs place)

    of_cookie : (channel : Option Cookie)
        → Sound (acked_cookie s n received window cookie channel).0
    of_cookie None = h
    of_cookie (Some channel) =
        by_test (λ (x : Done). Sound x.0) (same_cookie channel cookie)
        (acked_in s received window (out_place n s.outs)) _
        (λ e. placed (out_place n s.outs)) (λ e. h)

ping_row : (s : Server) (count : Count) → Sound s → Sound (on_ping_traffic s count).0
ping_row s count h =
    by_test (λ (x : Done). Sound x.0) (is_first count) (unexpected s) (took s) (λ e. h) (λ e. h)

-- ---- the IN channel is replaced

announces : (s : Server) (leg : InLeg) (successor : Cookie) (window timeout : ℕ) → Sound s
    → AreOfChannel successor window timeout → Sound (announced s leg successor window timeout)
announces s leg successor window timeout h f =
    let changed = record leg {
      cookie = successor;
      stage = in_stage.Waits window timeout false;
    } in
    let told = record s { newest = record { leg = leg.number; cookie = successor } } in
    next_opens _ (leg_set told changed h f)

in_r1_a2_row : (s : Server) (n : ℕ) (count : Count) (connection predecessor successor : Cookie)
    (window timeout : ℕ) → Sound s
    → RowSound (AreOfChannel successor window timeout)
    (on_in_r1_a2 s n count connection predecessor successor window timeout)
in_r1_a2_row s n count connection predecessor successor window timeout h =
    by_test (RowSound (AreOfChannel successor window timeout)) _
    (in_r1_a2_at s s.stage n connection predecessor successor window timeout) (unexpected s)
    (λ e. staged_by s.stage) (λ e. h)
  where
    on_leg : (first : Cookie) (leg : Option InLeg)
        → RowSound (AreOfChannel successor window timeout)
        (in_r1_a2_by s first connection predecessor successor window timeout leg)
    on_leg first None = h
    on_leg first (Some leg) =
        by_test (RowSound (AreOfChannel successor window timeout)) (not (is_fresh leg.stage)) _ _
        (λ e. h)
        (λ e. by_test (RowSound (AreOfChannel successor window timeout))
        (not (same_cookie first connection)) _ _ (λ e. h)
        (λ e. by_test (RowSound (AreOfChannel successor window timeout))
        (not (same_cookie s.newest.cookie predecessor)) _
        (took (announced s leg successor window timeout)) (λ e. h)
        (λ e f. announces s leg successor window timeout h f)))

    staged_by : (x : Stage) → RowSound (AreOfChannel successor window timeout)
        (in_r1_a2_at s x n connection predecessor successor window timeout)
    staged_by stage.Waits = h
    staged_by (stage.OutCame first) = h
    staged_by (stage.InCame first in_window in_timeout) = h
    staged_by (stage.Open first) = on_leg first (in_leg n s.ins)
    staged_by stage.Ended = h

in_r1_a6_row : (s : Server) (n : ℕ) (successor : Cookie) → Sound s
    → Sound (on_in_r1_a6 s n successor).0
in_r1_a6_row s n successor h =
    by_test (λ (x : Done). Sound x.0)
    ((n == s.current.leg) && (not s.line.finished
    && (s.line.has_next && not (waits kind.InR1A3 s.waiting))))
    (if same_cookie s.next.cookie successor then took (hands_over s n)
    else refuse s (refused.Cookie s.next.cookie successor)) (unexpected s)
    (λ e. by_test (λ (x : Done). Sound x.0) (same_cookie s.next.cookie successor)
    (took (hands_over s n)) (refuse s (refused.Cookie s.next.cookie successor))
    (λ f. handed (both s.line.has_next (not (waits kind.InR1A3 s.waiting))
    (both (not s.line.finished) (s.line.has_next && not (waits kind.InR1A3 s.waiting))
    (both (n == s.current.leg) (not s.line.finished
    && (s.line.has_next && not (waits kind.InR1A3 s.waiting))) e).1).1).0)
    (λ f. h))
    (λ e. h)
  where
    finished : Line
    finished = record s.line { finished = true }

    leaves_leg : (leg : Option InLeg) → IfSome leg IsLeg
        → Sound (record (leaves_by s leg) { line = finished })
    leaves_leg None is = line_is s finished h h.telling
    leaves_leg (Some leg) is =
        leg_set (record s { line = finished }) (record leg { leaving = leaving.InR1B1 })
        (line_is s finished h h.telling) is

    handed : s.line.has_next ≡ true → Sound (hands_over s n)
    handed is =
        subst (λ b. Sound (moved_if b (record (leaves s n) { line = after_finish s.line }))) is
        (moves (leaves s n) finished (leaves_leg (in_leg n s.ins) (leg_found s n h)))

in_r2_a2_row : (s : Server) (n : ℕ) (count : Count) (successor : Cookie) → Sound s
    → Sound (on_in_r2_a2 s n count successor).0
in_r2_a2_row s n count successor h =
    by_test (λ (x : Done). Sound x.0) _ (in_r2_a2_on s n successor (channel_at s n))
    (unexpected s) (λ e. on_channel (channel_at s n)) (λ e. h)
  where
    on_channel : (which : Option Which) → Sound (in_r2_a2_on s n successor which).0
    on_channel None = h
    on_channel (Some Current) = packet_added s (named.InR2A3 0) h in_r2_a3
    on_channel (Some Next) = packet_added s (named.InR2A3 0) h in_r2_a3

-- a PDU is taken
pub take_sound : (s : Server) → Sound s → Sound (take s)
take_sound s h = by s.line.current.pdus
  where
    by : (pdus : List (List ℕ))
        → Sound (moved_if s.line.has_next (record s { line = taken pdus s.line }))
    by [] = by_test Sound (s.line.has_next && not s.line.has_next) _ s
        (λ e. absurd (no_both s.line.has_next e)) (λ e. h)
    by (pdu ∷ pdus) =
        moves s (record s.line { current = released (pdu ∷ pdus) s.line.current })
        (line_is s (record s.line { current = released (pdu ∷ pdus) s.line.current }) h
        (released_tells s.edge s.line pdu pdus h.telling))

-- ---- the OUT channel is replaced

out_r1_a4_row : (s : Server) (n : ℕ) (count : Count) (connection predecessor successor : Cookie)
    (lifetime window timeout : ℕ) → Sound s
    → RowSound (IsTimeout timeout)
    (on_out_r1_a4 s n count connection predecessor successor lifetime window timeout)
out_r1_a4_row s n count connection predecessor successor lifetime window timeout h =
    by_test (RowSound (IsTimeout timeout)) (may_answer s n count)
    (out_r1_a4_at s s.stage n connection predecessor successor lifetime window timeout)
    (unexpected s) (λ e. staged_by s.stage) (λ e. h)
  where
    placed : (place : Option ℕ) (leg : Option OutLeg) → RowSound (IsTimeout timeout)
        (answered_by s successor lifetime window timeout place leg)
    placed (Some place) (Some leg) = λ f.
        packet_added s (named.OutR1A5 0 1 timeout) h (out_r1_a5 timeout f)
    placed (Some place) None = h
    placed None leg = h

    of_writing : (first : Cookie) (writing : Option Cookie) → RowSound (IsTimeout timeout)
        (out_r1_a4_by s n first connection predecessor successor lifetime window timeout writing)
    of_writing first None = h
    of_writing first (Some writing) =
        by_test (RowSound (IsTimeout timeout)) (not (same_cookie first connection)) _ _ (λ e. h)
        (λ e. by_test (RowSound (IsTimeout timeout)) (not (same_cookie writing predecessor)) _
        (answered_on s n successor lifetime window timeout) (λ e. h)
        (λ e. placed (out_place n s.outs) (out_at s.outs (out_place n s.outs))))

    staged_by : (x : Stage) → RowSound (IsTimeout timeout)
        (out_r1_a4_at s x n connection predecessor successor lifetime window timeout)
    staged_by stage.Waits = h
    staged_by (stage.OutCame first) = h
    staged_by (stage.InCame first in_window in_timeout) = h
    staged_by (stage.Open first) = of_writing first (out_cookie s.writing s.outs)
    staged_by stage.Ended = h

out_r1_a8_row : (s : Server) (count : Count) (destination : ℕ) (successor : Cookie) → Sound s
    → Sound (on_out_r1_a8 s count destination successor).0
out_r1_a8_row s count destination successor h =
    by_test (λ (x : Done). Sound x.0) _ (out_r1_a8_at s successor s.replacement) (unexpected s)
    (λ e. by s.replacement) (λ e. h)
  where
    by : (r : Replacement) → Sound (out_r1_a8_at s successor r).0
    by (replacement.Answered cookie) =
        by_test (λ (x : Done). Sound x.0) (same_cookie cookie successor) (took (confirms s)) _
        (λ e. packet_added s named.OutR1A9 h out_r1_a9) (λ e. h)
    by replacement.Steady = h
    by replacement.Asked = h
    by replacement.Confirmed = h

pub recycle_sound : (s : Server) → Sound s → Sound (recycle s).0
recycle_sound s h =
    by_test (λ (x : Server × Result (Unit {0}) RecycleRefused). Sound x.0)
    (s.writing == last_number) _ _ (λ e. h)
    (λ e. by_test (λ (x : Server × Result (Unit {0}) RecycleRefused). Sound x.0)
    (is_under_way s) _ (asks s, Ok tt) (λ e. h) (λ e. asks_sound s h))

-- ---- END/A2

end_a2_row : (s : Server) (n : ℕ) (count : Count) → Sound s → Sound (on_end_a2 s n count).0
end_a2_row s n count h =
    by_test (λ (x : Done). Sound x.0) (is_first count) (unexpected s)
    (end_a2_at s n (channel_at s n)) (λ e. h) (λ e. on_channel (channel_at s n))
  where
    staged_by : (leg : InLeg) (x : InStage) → IsCookie leg.cookie → IsInStage x
        → Sound (end_a2_on_leg s leg x).0
    staged_by leg in_stage.Fresh is told = h
    staged_by leg in_stage.Opened is told = h
    staged_by leg (in_stage.Waits window timeout ended) is told =
        by_test (λ (x : Done). Sound x.0) ended (unexpected s) _ (λ e. h)
        (λ e. leg_set s (record leg { stage = in_stage.Waits window timeout true }) h (is, told))

    on_leg : (leg : Option InLeg) → IfSome leg IsLeg → Sound (end_a2_waiting s leg).0
    on_leg None is = h
    on_leg (Some leg) is = staged_by leg leg.stage is.0 is.1

    on_channel : (which : Option Which) → Sound (end_a2_at s n which).0
    on_channel None = on_leg (in_leg n s.ins) (leg_found s n h)
    on_channel (Some which) =
        by_test (λ (x : Done). Sound x.0) (is_over_on s which) (unexpected s) _ (λ e. h)
        (λ e. line_is s (after_end s.line which) h (ended_tells s.edge s.line which h.telling))

-- ---- the rows of the legs

pub is_sound : (s : Server) (n : ℕ) (count : Count) (packet : Named) → Sound s
    → RowSound (IsFine packet) (on_is s n count packet)
is_sound s n count (named.ConnB2 v1 v2 v3 v4 v5 v6 v7 v8) h =
    row_by (IsFine (named.ConnB2 v1 v2 v3 v4 v5 v6 v7 v8)) (AreOfChannel v3 v4 v5)
    (λ f. (f.sizes.1.1.0, (f.ranges.1.1.1.0, f.ranges.1.1.1.1.0)))
    (on_conn_b2 s n count v2 v3 v4 v5) (conn_b2_row s n count v2 v3 v4 v5 h)
is_sound s n count (named.InR1A2 v1 v2 v3 v4 v5 v6) h =
    row_by (IsFine (named.InR1A2 v1 v2 v3 v4 v5 v6)) (AreOfChannel v4 v5 v6)
    (λ f. (f.sizes.1.1.1.0, (f.ranges.1.1.1.1.0, f.ranges.1.1.1.1.1.0)))
    (on_in_r1_a2 s n count v2 v3 v4 v5 v6) (in_r1_a2_row s n count v2 v3 v4 v5 v6 h)
is_sound s n count (named.InR1A6 v1) h =
    row_any (IsFine (named.InR1A6 v1)) (on_in_r1_a6 s n v1) (in_r1_a6_row s n v1 h)
is_sound s n count (named.InR2A2 v1) h =
    row_any (IsFine (named.InR2A2 v1)) (on_in_r2_a2 s n count v1) (in_r2_a2_row s n count v1 h)
is_sound s n count (named.AckTo v1 v2 v3 v4) h =
    row_by (IsFine (named.AckTo v1 v2 v3 v4)) (AreOfAck v2 v3 v4) (λ f. f.sizes.1.0)
    (on_ack_to s count v1 v2 v3 v4) (ack_to_row s count v1 v2 v3 v4 h)
is_sound s n count (named.OutR1A8 v1 v2) h =
    row_any (IsFine (named.OutR1A8 v1 v2)) (on_out_r1_a8 s count v1 v2)
    (out_r1_a8_row s count v1 v2 h)
is_sound s n count named.EndA2 h =
    row_any (IsFine named.EndA2) (on_end_a2 s n count) (end_a2_row s n count h)
is_sound s n count packet h = h

pub os_sound : (s : Server) (n : ℕ) (count : Count) (packet : Named) → Sound s
    → RowSound (IsFine packet) (on_os s n count packet)
os_sound s n count (named.ConnA2 v1 v2 v3 v4 v5) h =
    row_any (IsFine (named.ConnA2 v1 v2 v3 v4 v5)) (on_conn_a2 s n count v2 v3 v4 v5)
    (conn_a2_row s n count v2 v3 v4 v5 h)
os_sound s n count (named.OutR1A4 v1 v2 v3 v4 v5 v6 v7) h =
    row_by (IsFine (named.OutR1A4 v1 v2 v3 v4 v5 v6 v7)) (IsTimeout v7)
    (λ f. f.ranges.1.1.1.1.1.1.0) (on_out_r1_a4 s n count v2 v3 v4 v5 v6 v7)
    (out_r1_a4_row s n count v2 v3 v4 v5 v6 v7 h)
os_sound s n count (named.Ack v1 v2 v3) h =
    row_any (IsFine (named.Ack v1 v2 v3)) (on_ack s n count v1 v2 v3) (ack_row s n count v1 v2 v3 h)
os_sound s n count (named.PingTraffic v1) h =
    row_any (IsFine (named.PingTraffic v1)) (on_ping_traffic s count) (ping_row s count h)
os_sound s n count packet h = h
