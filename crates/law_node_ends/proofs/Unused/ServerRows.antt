-- the rows of a server leave its legs as they are, or one of them goes on
use Rattle.law_order.proofs.Vocabulary.{◌≡◌, ℕ, ◌==◌, ◌&&◌, ◌||◌, Bool, true, false, not, nat_lt, Some, None, arith, rules, refl, sym, ◌∙◌, slice_get, Option}
use Rattle.rh_sig.specs.declared.named.Named.TheVariants as named
use Rattle.rh_shell.specs.declared.answers.Refused.TheVariants as refused
use Rattle.rh_server.specs.declared.state.Stage.TheVariants.{Waits}
use Rattle.rh_server.specs.declared.out_line.Kind.TheVariants as kind
use Rattle.rh_server.specs.declared.state.InStage.TheVariants as in_stage
use Rattle.rh_server.specs.declared.state.Leaving.TheVariants as leaving
use Rattle.rh_server.specs.declared.state.Tells.TheVariants as tells
use Rattle.law_moves.proofs.Vocabulary.{by_test, Cookie, Named, LegKind, ClientOut, OutServer, ClientIn, InServer, Which, Current, Next, after_finish, Count}
use Rattle.law_role_server.proofs.Vocabulary.{InLeg, OutLeg, Shut, InStage, Stage, OutCame, InCame, Open, Server, in_leg, in_place, with_in, out_at, out_place, out_cookie, is_open, is_fresh, same_cookie, took, refuse, unexpected, is_first, first_in, conn_b2_at, conn_a2_at, first_out_at, waits, channel_at, acked_cookie, acked_in, acked_at, first_waiting, waiting_place, opens_leg, opens_next, next_opened, becomes_current, moved_if, announced, in_r1_a2_by, in_r1_a2_at}
use Rattle.law_role_server.proofs.Vocabulary.{has_fresh_below, leaves, leaves_by, hands_over, on_in_r1_a6, in_r2_a2_on, answered_by, out_r1_a4_by, out_r1_a4_at, may_answer, in_is_done, end_a2_at, end_a2_waiting, end_a2_on_leg, is_done_by, on_is, on_os, packet_by}
use Rattle.law_node_ends.proofs.Unused.Staying.{either}
use Rattle.law_node_ends.proofs.Unused.ServerLegs.{GoesOn, goes_self, goes_same, goes_then, IsAmong, in_among, out_among, in_goes, out_goes}

-- ---- rows of is legs

first_in_goes : (s : Server) (cookie : Cookie) (o : Option InLeg) → in_leg 1 s.ins ≡ o
    → GoesOn s (first_in s cookie o)
first_in_goes s cookie None e = goes_self s
first_in_goes s cookie (Some leg) e =
    in_goes s leg (record leg { cookie = cookie; stage = in_stage.Opened; tells = tells.ConnB3 })
    (in_among s.ins (in_place 1 s.ins) leg e) refl (λ o. o)

conn_b2_goes : (s : Server) (stage : Stage) (connection cookie : Cookie) (window timeout : ℕ)
    → GoesOn s (conn_b2_at s stage connection cookie window timeout).0
conn_b2_goes s Waits connection cookie window timeout =
    first_in_goes s cookie (in_leg 1 s.ins) refl
conn_b2_goes s (OutCame first) connection cookie window timeout =
    either (GoesOn s) (same_cookie first connection) _
    (refuse s (refused.Cookie first connection)) (first_in_goes s cookie (in_leg 1 s.ins) refl)
    (goes_self s)
conn_b2_goes s stage connection cookie window timeout = goes_self s

-- the first channel that waits is opened
opens_goes : (s : Server) (o : Option InLeg) → first_waiting s.ins ≡ o
    → GoesOn s (opens_leg s o)
opens_goes s None e = goes_self s
opens_goes s (Some leg) e = by leg.stage
  where
    by : (stage : InStage) → GoesOn s (opens_next s leg stage)
    by (in_stage.Waits window timeout ended) =
        in_goes s leg (record leg { stage = in_stage.Opened; tells = tells.InR1B2 })
        (in_among s.ins (waiting_place s.ins) leg e) refl (λ o. o)
    by in_stage.Fresh = goes_self s
    by in_stage.Opened = goes_self s

next_opened_goes : (s : Server) → GoesOn s (next_opened s)
next_opened_goes s =
    by_test (GoesOn s) (s.line.has_next || waits kind.InR1A3 s.waiting) s
    (opens_leg s (first_waiting s.ins)) (λ e. goes_self s)
    (λ e. opens_goes s (first_waiting s.ins) refl)

pub moved_goes : (s : Server) (had_next : Bool) → GoesOn s (moved_if had_next s)
moved_goes s had_next =
    by_test (GoesOn s) (had_next && not s.line.has_next) (becomes_current s) s
    (λ e. next_opened_goes (record s { current = s.next; edge = Shut })) (λ e. goes_self s)

announced_goes : (s : Server) (leg : InLeg) (cookie : Cookie) (window timeout : ℕ)
    → IsAmong s.ins leg → GoesOn s (announced s leg cookie window timeout)
announced_goes s leg cookie window timeout among =
    let with_stage : InLeg = record leg {
      cookie = cookie;
      stage = in_stage.Waits window timeout false;
    } in
    let t : Server = with_in (record s { newest = record { leg = leg.number; cookie = cookie } })
    with_stage in
    goes_then s t (next_opened t) (in_goes s leg with_stage among refl (λ o. o))
    (next_opened_goes t)

in_r1_a2_goes : (s : Server) (first connection predecessor successor : Cookie)
    (window timeout number : ℕ) (o : Option InLeg) → in_leg number s.ins ≡ o
    → GoesOn s (in_r1_a2_by s first connection predecessor successor window timeout o).0
in_r1_a2_goes s first connection predecessor successor window timeout number None e = goes_self s
in_r1_a2_goes s first connection predecessor successor window timeout number (Some leg) e =
    either (GoesOn s) (not (is_fresh leg.stage)) (unexpected s) _ (goes_self s)
    (either (GoesOn s) (not (same_cookie first connection))
    (refuse s (refused.Cookie first connection)) _ (goes_self s)
    (either (GoesOn s) (not (same_cookie s.newest.cookie predecessor))
    (refuse s (refused.Cookie s.newest.cookie predecessor))
    (took (announced s leg successor window timeout)) (goes_self s)
    (announced_goes s leg successor window timeout
    (in_among s.ins (in_place number s.ins) leg e))))

in_r1_a2_at_goes : (s : Server) (stage : Stage) (number : ℕ)
    (connection predecessor successor : Cookie) (window timeout : ℕ)
    → GoesOn s (in_r1_a2_at s stage number connection predecessor successor window timeout).0
in_r1_a2_at_goes s (Open first) number connection predecessor successor window timeout =
    in_r1_a2_goes s first connection predecessor successor window timeout number
    (in_leg number s.ins) refl
in_r1_a2_at_goes s stage number connection predecessor successor window timeout = goes_self s

-- IN_R1/B1 is due on a leg that was in use
leaves_goes : (s : Server) (number : ℕ) (o : Option InLeg) → in_leg number s.ins ≡ o
    → in_is_done o ≡ false → GoesOn s (leaves_by s o)
leaves_goes s number None e used = goes_self s
leaves_goes s number (Some leg) e used =
    in_goes s leg (record leg { leaving = leaving.InR1B1 })
    (in_among s.ins (in_place number s.ins) leg e) refl (λ o. sym used ∙ o)

hands_over_goes : (s : Server) (number : ℕ) → in_is_done (in_leg number s.ins) ≡ false
    → GoesOn s (hands_over s number)
hands_over_goes s number used =
    let t = leaves s number in
    let u : Server = record t { line = after_finish s.line } in
    goes_then s u (moved_if true u) (leaves_goes s number (in_leg number s.ins) refl used)
    (moved_goes u true)

in_r1_a6_goes : (s : Server) (number : ℕ) (successor : Cookie)
    → in_is_done (in_leg number s.ins) ≡ false → GoesOn s (on_in_r1_a6 s number successor).0
in_r1_a6_goes s number successor used =
    either (GoesOn s) ((number == s.current.leg)
    && (not s.line.finished && (s.line.has_next && not (waits kind.InR1A3 s.waiting)))) _
    (unexpected s)
    (either (GoesOn s) (same_cookie s.next.cookie successor) (took (hands_over s number))
    (refuse s (refused.Cookie s.next.cookie successor)) (hands_over_goes s number used)
    (goes_self s))
    (goes_self s)

-- IN_R2/A2 gives the next number to a channel
in_r2_a2_goes : (s : Server) (number : ℕ) (successor : Cookie) (o : Option Which)
    → GoesOn s (in_r2_a2_on s number successor o).0
in_r2_a2_goes s number successor None = goes_self s
in_r2_a2_goes s number successor (Some Current) = record {
  used = λ n h. h;
  ins = λ n h. h;
  outs = λ n h. h;
  distinct = λ d. d;
  newest = omega arith;
}
in_r2_a2_goes s number successor (Some Next) = record {
  used = λ n h. h;
  ins = λ n h. h;
  outs = λ n h. h;
  distinct = λ d. d;
  newest = omega arith;
}

end_a2_goes : (s : Server) (number : ℕ) (o : Option Which) → GoesOn s (end_a2_at s number o).0
end_a2_goes s number (Some which) =
    goes_same s (end_a2_at s number (Some which)).0 (search rules)
end_a2_goes s number None = by (in_leg number s.ins) refl
  where
    by_stage : (leg : InLeg) (stage : InStage) → IsAmong s.ins leg
        → GoesOn s (end_a2_on_leg s leg stage).0
    by_stage leg (in_stage.Waits window timeout ended) among =
        either (GoesOn s) ended (unexpected s)
        (took (with_in s (record leg { stage = in_stage.Waits window timeout true })))
        (goes_self s)
        (in_goes s leg (record leg { stage = in_stage.Waits window timeout true }) among refl
        (λ o. o))
    by_stage leg in_stage.Fresh among = goes_self s
    by_stage leg in_stage.Opened among = goes_self s

    by : (o : Option InLeg) → in_leg number s.ins ≡ o → GoesOn s (end_a2_waiting s o).0
    by None e = goes_self s
    by (Some leg) e = by_stage leg leg.stage (in_among s.ins (in_place number s.ins) leg e)

on_is_goes : (s : Server) (n : ℕ) (count : Count) (packet : Named)
    → in_is_done (in_leg n s.ins) ≡ false → GoesOn s (on_is s n count packet).0
on_is_goes s n count (named.ConnB2 v1 v2 v3 v4 v5 v6 v7 v8) used =
    either (GoesOn s) (is_first count && ((n == 1) && not (waits kind.ConnC1 s.waiting)))
    (conn_b2_at s s.stage v2 v3 v4 v5) (unexpected s) (conn_b2_goes s s.stage v2 v3 v4 v5)
    (goes_self s)
on_is_goes s n count (named.InR1A2 v1 v2 v3 v4 v5 v6) used =
    either (GoesOn s) (is_first count && not (has_fresh_below n s.ins))
    (in_r1_a2_at s s.stage n v2 v3 v4 v5 v6) (unexpected s)
    (in_r1_a2_at_goes s s.stage n v2 v3 v4 v5 v6) (goes_self s)
on_is_goes s n count (named.InR1A6 v1) used = in_r1_a6_goes s n v1 used
on_is_goes s n count (named.InR2A2 v1) used =
    either (GoesOn s) (not (is_first count) && (is_open s.stage
    && (not (waits kind.InR2A3 s.waiting) && nat_lt s.newest_in 4294967295)))
    (in_r2_a2_on s n v1 (channel_at s n)) (unexpected s) (in_r2_a2_goes s n v1 (channel_at s n))
    (goes_self s)
on_is_goes s n count named.EndA2 used =
    either (GoesOn s) (is_first count) (unexpected s) (end_a2_at s n (channel_at s n)) (goes_self s)
    (end_a2_goes s n (channel_at s n))
on_is_goes s n count packet used = goes_same s (on_is s n count packet).0 (search rules)

-- ---- rows of os legs

first_out_goes : (s : Server) (cookie : Cookie) (lifetime window : ℕ) (place : Option ℕ)
    (leg : Option OutLeg) → out_at s.outs place ≡ leg
    → GoesOn s (first_out_at s cookie lifetime window place leg)
first_out_goes s cookie lifetime window (Some place) (Some leg) e =
    out_goes s place leg _ (out_among s.outs (Some place) leg e) refl
first_out_goes s cookie lifetime window place leg e = search rules

conn_a2_goes : (s : Server) (stage : Stage) (connection cookie : Cookie) (lifetime window : ℕ)
    → GoesOn s (conn_a2_at s stage connection cookie lifetime window).0
conn_a2_goes s Waits connection cookie lifetime window =
    first_out_goes s cookie lifetime window (out_place 1 s.outs)
    (out_at s.outs (out_place 1 s.outs)) refl
conn_a2_goes s (InCame first in_window timeout) connection cookie lifetime window =
    either (GoesOn s) (same_cookie first connection) _ (refuse s (refused.Cookie first connection))
    (first_out_goes s cookie lifetime window (out_place 1 s.outs)
    (out_at s.outs (out_place 1 s.outs)) refl)
    (goes_self s)
conn_a2_goes s stage connection cookie lifetime window = goes_self s

answered_goes : (s : Server) (successor : Cookie) (lifetime window timeout : ℕ)
    (place : Option ℕ) (leg : Option OutLeg) → out_at s.outs place ≡ leg
    → GoesOn s (answered_by s successor lifetime window timeout place leg).0
answered_goes s successor lifetime window timeout (Some place) (Some leg) e =
    out_goes s place leg _ (out_among s.outs (Some place) leg e) refl
answered_goes s successor lifetime window timeout place leg e = search rules

out_r1_a4_goes : (s : Server) (number : ℕ) (first connection predecessor successor : Cookie)
    (lifetime window timeout : ℕ) (o : Option Cookie)
    → GoesOn s (out_r1_a4_by s number first connection predecessor successor lifetime window
    timeout o).0
out_r1_a4_goes s number first connection predecessor successor lifetime window timeout None =
    goes_self s
out_r1_a4_goes s number first connection predecessor successor lifetime window timeout
    (Some writing) =
    either (GoesOn s) (not (same_cookie first connection))
    (refuse s (refused.Cookie first connection)) _ (goes_self s)
    (either (GoesOn s) (not (same_cookie writing predecessor))
    (refuse s (refused.Cookie writing predecessor)) _ (goes_self s)
    (answered_goes s successor lifetime window timeout (out_place number s.outs)
    (out_at s.outs (out_place number s.outs)) refl))

out_r1_a4_at_goes : (s : Server) (stage : Stage) (number : ℕ)
    (connection predecessor successor : Cookie) (lifetime window timeout : ℕ)
    → GoesOn s (out_r1_a4_at s stage number connection predecessor successor lifetime window
    timeout).0
out_r1_a4_at_goes s (Open first) number connection predecessor successor lifetime window timeout =
    out_r1_a4_goes s number first connection predecessor successor lifetime window timeout
    (out_cookie s.writing s.outs)
out_r1_a4_at_goes s stage number connection predecessor successor lifetime window timeout =
    goes_self s

acked_goes : (s : Server) (number received window : ℕ) (cookie : Cookie) (o : Option Cookie)
    → GoesOn s (acked_cookie s number received window cookie o).0
acked_goes s number received window cookie None = goes_self s
acked_goes s number received window cookie (Some channel) =
    either (GoesOn s) (same_cookie channel cookie)
    (acked_in s received window (out_place number s.outs))
    (refuse s (refused.Cookie channel cookie)) (by_place (out_place number s.outs)) (goes_self s)
  where
    by : (place : ℕ) (leg : Option OutLeg) → slice_get s.outs place ≡ leg
        → GoesOn s (acked_at s place received window leg).0
    by place None e = goes_self s
    by place (Some leg) e = out_goes s place leg _ (out_among s.outs (Some place) leg e) refl

    by_place : (place : Option ℕ) → GoesOn s (acked_in s received window place).0
    by_place None = goes_self s
    by_place (Some place) = by place (slice_get s.outs place) refl

on_os_goes : (s : Server) (n : ℕ) (count : Count) (packet : Named)
    → GoesOn s (on_os s n count packet).0
on_os_goes s n count (named.ConnA2 v1 v2 v3 v4 v5) =
    either (GoesOn s) (is_first count && ((n == 1) && not (waits kind.ConnC1 s.waiting)))
    (conn_a2_at s s.stage v2 v3 v4 v5) (unexpected s) (conn_a2_goes s s.stage v2 v3 v4 v5)
    (goes_self s)
on_os_goes s n count (named.OutR1A4 v1 v2 v3 v4 v5 v6 v7) =
    either (GoesOn s) (may_answer s n count) (out_r1_a4_at s s.stage n v2 v3 v4 v5 v6 v7)
    (unexpected s) (out_r1_a4_at_goes s s.stage n v2 v3 v4 v5 v6 v7) (goes_self s)
on_os_goes s n count (named.Ack v1 v2 v3) =
    either (GoesOn s) (is_first count) (unexpected s)
    (acked_cookie s n v1 v2 v3 (out_cookie n s.outs)) (goes_self s)
    (acked_goes s n v1 v2 v3 (out_cookie n s.outs))
on_os_goes s n count packet = goes_same s (on_os s n count packet).0 (search rules)

pub packet_goes : (s : Server) (n : ℕ) (count : Count) (packet : Named) (kind : LegKind)
    → is_done_by s n kind ≡ false → GoesOn s (packet_by s n count packet kind).0
packet_goes s n count packet InServer used = on_is_goes s n count packet used
packet_goes s n count packet OutServer used = on_os_goes s n count packet
packet_goes s n count packet ClientIn used = goes_self s
packet_goes s n count packet ClientOut used = goes_self s
