-- which packets the steps of a server add to those that wait
use Rattle.law_order.proofs.Vocabulary.{◌≡◌, ℕ, ◌+◌, ◌==◌, Bool, true, false, not, ◌&&◌, ◌||◌, Some, None, Ok, Err, refl, rules, sym, subst, if◌then◌else◌, nat_lt, Option, Result}
use Rattle.rh_sig.specs.declared.named.Named.TheVariants as named
use Rattle.rh_shell.specs.declared.answers.Refused.TheVariants as refused
use Rattle.rh_server.specs.declared.state.Stage.TheVariants as stage
use Rattle.rh_server.specs.declared.state.InStage.TheVariants as in_stage
use Rattle.rh_server.specs.declared.out_line.Kind.TheVariants as kind
use Rattle.law_moves.proofs.Vocabulary.{by_test, Cookie, Named, Which, after_finish, after_take, Count, RecycleRefused, Busy, Last, Waiting, takes, forwarded}
use Rattle.law_role_server.proofs.Vocabulary.{Stage, Shut, InStage, InLeg, OutLeg, Replacement, Steady, Asked, Answered, Confirmed, has, is_ack, is_kind, waits, Server, is_open, is_fresh, same_cookie, in_leg, with_in, out_at, out_place, out_cookie, Done, took, refuse, unexpected, is_first, opens, with_first_out, conn_a2_at, on_conn_a2, with_first_in, conn_b2_at, on_conn_b2, channel_at, forward_by, forwards, forwards_writing, forwards_to, channel_leg, is_full, out_server}
use Rattle.law_role_server.proofs.Vocabulary.{on_ack_to, opens_next, opens_leg, first_waiting, next_opened, becomes_current, moved_if, take, announced, in_r1_a2_by, in_r1_a2_at, on_in_r1_a2, has_fresh_below, leaves, hands_over, on_in_r1_a6, in_r2_a2_on, on_in_r2_a2, asks, recycle, is_under_way, last_number, wishes, wished, answered_by, answered_on, out_r1_a4_by, out_r1_a4_at, may_answer, on_out_r1_a4, confirms, out_r1_a8_at, on_out_r1_a8, completed, settled, without_ack_of}
use Rattle.law_role_server.proofs.Vocabulary.{with_ack_dropped, is_conn_c1, is_in_r1_a3, is_in_r2_a3}
use Rattle.law_role_server.proofs.Counted.Dues.{Adds, adds_none, adds_own, adds_forwarded, adds_dropped}

module _ (kind : Named → Bool) where
  abbrev pub MayAdd : Server → Server → Type 0
  MayAdd s t = Adds kind s.waiting.due t.waiting.due

  pub adds_same : (s t : Server) → t.waiting ≡ s.waiting → MayAdd s t
  adds_same s t same =
      subst (λ (w : Waiting). Adds kind s.waiting.due w.due) (sym same)
      (adds_none kind s.waiting.due)

  either : (s : Server) (b : Bool) (x y : Done) → MayAdd s x.0 → MayAdd s y.0
      → MayAdd s (if b then x else y).0
  either s b x y h k = by_test (λ (z : Done). MayAdd s z.0) b x y (λ e. h) (λ e. k)

  pub either_state : (s : Server) (b : Bool) (t u : Server) → MayAdd s t → MayAdd s u
      → MayAdd s (if b then t else u)
  either_state s b t u h k = by_test (MayAdd s) b t u (λ e. h) (λ e. k)

  nothing : (s : Server) → MayAdd s s
  nothing s = adds_none kind s.waiting.due

-- ---- CONN/C1

pub first_out_same : (s : Server) (cookie : Cookie) (lifetime window : ℕ)
    → (with_first_out s cookie lifetime window).waiting ≡ s.waiting
first_out_same s cookie lifetime window = search rules

pub first_in_same : (s : Server) (cookie : Cookie) → (with_first_in s cookie).waiting ≡ s.waiting
first_in_same s cookie = search rules

opens_adds : (s t : Server) (connection : Cookie) (window timeout : ℕ) → t.waiting ≡ s.waiting
    → MayAdd is_conn_c1 s (opens t connection window timeout)
opens_adds s t connection window timeout same =
    subst (λ (w : Waiting).
    Adds is_conn_c1 w.due (opens t connection window timeout).waiting.due) same
    (adds_own is_conn_c1 (named.ConnC1 1 window timeout) refl t.waiting.due)

conn_a2_at_adds : (s : Server) (at : Stage) (connection cookie : Cookie) (lifetime window : ℕ)
    → MayAdd is_conn_c1 s (conn_a2_at s at connection cookie lifetime window).0
conn_a2_at_adds s stage.Waits connection cookie lifetime window =
    adds_same is_conn_c1 s (with_first_out s cookie lifetime window)
    (first_out_same s cookie lifetime window)
conn_a2_at_adds s (stage.InCame known in_window timeout) connection cookie lifetime window =
    either is_conn_c1 s (same_cookie known connection)
    (took (opens (with_first_out s cookie lifetime window) known in_window timeout))
    (refuse s (refused.Cookie known connection))
    (opens_adds s (with_first_out s cookie lifetime window) known in_window timeout
    (first_out_same s cookie lifetime window))
    (nothing is_conn_c1 s)
conn_a2_at_adds s (stage.OutCame known) connection cookie lifetime window = nothing is_conn_c1 s
conn_a2_at_adds s (stage.Open known) connection cookie lifetime window = nothing is_conn_c1 s
conn_a2_at_adds s stage.Ended connection cookie lifetime window = nothing is_conn_c1 s

pub conn_a2_adds : (s : Server) (n : ℕ) (count : Count) (connection cookie : Cookie)
    (lifetime window : ℕ)
    → MayAdd is_conn_c1 s (on_conn_a2 s n count connection cookie lifetime window).0
conn_a2_adds s n count connection cookie lifetime window =
    either is_conn_c1 s (is_first count && ((n == 1) && not (waits kind.ConnC1 s.waiting)))
    (conn_a2_at s s.stage connection cookie lifetime window) (unexpected s)
    (conn_a2_at_adds s s.stage connection cookie lifetime window) (nothing is_conn_c1 s)

conn_b2_at_adds : (s : Server) (at : Stage) (connection cookie : Cookie) (window timeout : ℕ)
    → MayAdd is_conn_c1 s (conn_b2_at s at connection cookie window timeout).0
conn_b2_at_adds s stage.Waits connection cookie window timeout =
    adds_same is_conn_c1 s (with_first_in s cookie) (first_in_same s cookie)
conn_b2_at_adds s (stage.OutCame known) connection cookie window timeout =
    either is_conn_c1 s (same_cookie known connection)
    (took (opens (with_first_in s cookie) known window timeout))
    (refuse s (refused.Cookie known connection))
    (opens_adds s (with_first_in s cookie) known window timeout (first_in_same s cookie))
    (nothing is_conn_c1 s)
conn_b2_at_adds s (stage.InCame known in_window in_timeout) connection cookie window timeout =
    nothing is_conn_c1 s
conn_b2_at_adds s (stage.Open known) connection cookie window timeout = nothing is_conn_c1 s
conn_b2_at_adds s stage.Ended connection cookie window timeout = nothing is_conn_c1 s

pub conn_b2_adds : (s : Server) (n : ℕ) (count : Count) (connection cookie : Cookie)
    (window timeout : ℕ)
    → MayAdd is_conn_c1 s (on_conn_b2 s n count connection cookie window timeout).0
conn_b2_adds s n count connection cookie window timeout =
    either is_conn_c1 s (is_first count && ((n == 1) && not (waits kind.ConnC1 s.waiting)))
    (conn_b2_at s s.stage connection cookie window timeout) (unexpected s)
    (conn_b2_at_adds s s.stage connection cookie window timeout) (nothing is_conn_c1 s)

-- ---- IN_R1/A3

opens_next_adds : (s : Server) (leg : InLeg) (at : InStage)
    → MayAdd is_in_r1_a3 s (opens_next s leg at)
opens_next_adds s leg in_stage.Fresh = nothing is_in_r1_a3 s
opens_next_adds s leg in_stage.Opened = nothing is_in_r1_a3 s
opens_next_adds s leg (in_stage.Waits window timeout ended) =
    adds_own is_in_r1_a3 (named.InR1A3 0 1 window timeout) refl s.waiting.due

opens_leg_adds : (s : Server) (o : Option InLeg) → MayAdd is_in_r1_a3 s (opens_leg s o)
opens_leg_adds s None = nothing is_in_r1_a3 s
opens_leg_adds s (Some leg) = opens_next_adds s leg leg.stage

pub next_adds : (s : Server) → MayAdd is_in_r1_a3 s (next_opened s)
next_adds s =
    either_state is_in_r1_a3 s (s.line.has_next || waits kind.InR1A3 s.waiting) s
    (opens_leg s (first_waiting s.ins)) (nothing is_in_r1_a3 s)
    (opens_leg_adds s (first_waiting s.ins))

pub moved_adds : (had_next : Bool) (s : Server) → MayAdd is_in_r1_a3 s (moved_if had_next s)
moved_adds had_next s =
    either_state is_in_r1_a3 s (had_next && not s.line.has_next) (becomes_current s) s
    (next_adds (record s { current = s.next; edge = Shut })) (nothing is_in_r1_a3 s)

pub take_adds : (s : Server) → MayAdd is_in_r1_a3 s (take s)
take_adds s = moved_adds s.line.has_next (record s { line = after_take s.line })

in_r1_a2_by_adds : (s : Server) (known connection predecessor successor : Cookie)
    (window timeout : ℕ) (o : Option InLeg) → MayAdd is_in_r1_a3 s
    (in_r1_a2_by s known connection predecessor successor window timeout o).0
in_r1_a2_by_adds s known connection predecessor successor window timeout None =
    nothing is_in_r1_a3 s
in_r1_a2_by_adds s known connection predecessor successor window timeout (Some leg) =
    either is_in_r1_a3 s (not (is_fresh leg.stage)) (unexpected s)
    (if not (same_cookie known connection) then refuse s (refused.Cookie known connection)
    else (if not (same_cookie s.newest.cookie predecessor)
    then refuse s (refused.Cookie s.newest.cookie predecessor)
    else took (announced s leg successor window timeout)))
    (nothing is_in_r1_a3 s)
    (either is_in_r1_a3 s (not (same_cookie known connection))
    (refuse s (refused.Cookie known connection))
    (if not (same_cookie s.newest.cookie predecessor)
    then refuse s (refused.Cookie s.newest.cookie predecessor)
    else took (announced s leg successor window timeout))
    (nothing is_in_r1_a3 s)
    (either is_in_r1_a3 s (not (same_cookie s.newest.cookie predecessor))
    (refuse s (refused.Cookie s.newest.cookie predecessor))
    (took (announced s leg successor window timeout)) (nothing is_in_r1_a3 s)
    (next_adds (with_in
    (record s { newest = record { leg = leg.number; cookie = successor } })
    (record leg { cookie = successor; stage = in_stage.Waits window timeout false })))))

in_r1_a2_at_adds : (s : Server) (at : Stage) (n : ℕ) (connection predecessor successor : Cookie)
    (window timeout : ℕ) → MayAdd is_in_r1_a3 s
    (in_r1_a2_at s at n connection predecessor successor window timeout).0
in_r1_a2_at_adds s (stage.Open known) n connection predecessor successor window timeout =
    in_r1_a2_by_adds s known connection predecessor successor window timeout (in_leg n s.ins)
in_r1_a2_at_adds s opening n connection predecessor successor window timeout =
    nothing is_in_r1_a3 s

pub in_r1_a2_adds : (s : Server) (n : ℕ) (count : Count)
    (connection predecessor successor : Cookie) (window timeout : ℕ) → MayAdd is_in_r1_a3 s
    (on_in_r1_a2 s n count connection predecessor successor window timeout).0
in_r1_a2_adds s n count connection predecessor successor window timeout =
    either is_in_r1_a3 s (is_first count && not (has_fresh_below n s.ins))
    (in_r1_a2_at s s.stage n connection predecessor successor window timeout) (unexpected s)
    (in_r1_a2_at_adds s s.stage n connection predecessor successor window timeout)
    (nothing is_in_r1_a3 s)

leaves_same : (s : Server) (n : ℕ) → (leaves s n).waiting ≡ s.waiting
leaves_same s n = search rules

hands_over_adds : (s : Server) (n : ℕ) → MayAdd is_in_r1_a3 s (hands_over s n)
hands_over_adds s n =
    subst (λ (w : Waiting). Adds is_in_r1_a3 w.due (hands_over s n).waiting.due)
    (leaves_same s n) (moved_adds true (record (leaves s n) { line = after_finish s.line }))

pub in_r1_a6_adds : (s : Server) (n : ℕ) (successor : Cookie)
    → MayAdd is_in_r1_a3 s (on_in_r1_a6 s n successor).0
in_r1_a6_adds s n successor =
    either is_in_r1_a3 s ((n == s.current.leg)
    && (not s.line.finished && (s.line.has_next && not (waits kind.InR1A3 s.waiting))))
    (if same_cookie s.next.cookie successor then took (hands_over s n)
    else refuse s (refused.Cookie s.next.cookie successor)) (unexpected s)
    (either is_in_r1_a3 s (same_cookie s.next.cookie successor) (took (hands_over s n))
    (refuse s (refused.Cookie s.next.cookie successor)) (hands_over_adds s n)
    (nothing is_in_r1_a3 s))
    (nothing is_in_r1_a3 s)

-- ---- IN_R2/A3

in_r2_a2_on_adds : (s : Server) (n : ℕ) (successor : Cookie) (o : Option Which)
    → MayAdd is_in_r2_a3 s (in_r2_a2_on s n successor o).0
in_r2_a2_on_adds s n successor None = nothing is_in_r2_a3 s
in_r2_a2_on_adds s n successor (Some which) =
    adds_own is_in_r2_a3 (named.InR2A3 0) refl s.waiting.due

pub in_r2_a2_adds : (s : Server) (n : ℕ) (count : Count) (successor : Cookie)
    → MayAdd is_in_r2_a3 s (on_in_r2_a2 s n count successor).0
in_r2_a2_adds s n count successor =
    either is_in_r2_a3 s (not (is_first count) && (is_open s.stage
    && (not (waits kind.InR2A3 s.waiting) && nat_lt s.newest_in 4294967295)))
    (in_r2_a2_on s n successor (channel_at s n)) (unexpected s)
    (in_r2_a2_on_adds s n successor (channel_at s n)) (nothing is_in_r2_a3 s)

-- ---- acknowledgements

forwards_adds : (s : Server) (n : ℕ) (packet : Named) → is_ack packet ≡ true
    → MayAdd is_ack s (forwards s n packet).0
forwards_adds s n packet is =
    by (forwarded s.waiting packet) (adds_forwarded packet is s.waiting)
  where
    by : (x : Waiting × Bool) → Adds is_ack s.waiting.due x.0.due
        → MayAdd is_ack s (forward_by s n x).0
    by (w, true) adds = adds
    by (w, false) adds = nothing is_ack s

writing_adds : (s : Server) (packet : Named) → is_ack packet ≡ true
    → MayAdd is_ack s (forwards_writing s packet).0
writing_adds s packet is =
    either is_ack s (is_full s && not (has (takes packet) s.waiting))
    (refuse s (refused.Full (out_server s.writing))) (forwards s s.writing packet)
    (nothing is_ack s) (forwards_adds s s.writing packet is)

to_adds : (s : Server) (packet : Named) (o : Option ℕ) → is_ack packet ≡ true
    → MayAdd is_ack s (forwards_to s packet o).0
to_adds s packet None is = nothing is_ack s
to_adds s packet (Some n) is =
    either is_ack s (n == s.writing) (forwards_writing s packet) (forwards s n packet)
    (writing_adds s packet is) (forwards_adds s n packet is)

pub ack_to_adds : (s : Server) (count : Count) (destination received window : ℕ)
    (cookie : Cookie)
    → MayAdd is_ack s (on_ack_to s count destination received window cookie).0
ack_to_adds s count destination received window cookie =
    either is_ack s (is_first count) (unexpected s) other (nothing is_ack s)
    (either is_ack s (destination == 0)
    (forwards_writing s (named.AckTo 0 received window cookie)) third
    (writing_adds s (named.AckTo 0 received window cookie) refl)
    (either is_ack s (destination == 3)
    (forwards_to s (named.AckTo 3 received window cookie) (channel_leg cookie s.outs))
    (unexpected s)
    (to_adds s (named.AckTo 3 received window cookie) (channel_leg cookie s.outs) refl)
    (nothing is_ack s)))
  where
    third : Done
    third =
        if destination == 3
        then forwards_to s (named.AckTo 3 received window cookie) (channel_leg cookie s.outs)
        else unexpected s

    other : Done
    other =
        if destination == 0 then forwards_writing s (named.AckTo 0 received window cookie)
        else third

pub dropped_adds : (s : Server) (n : ℕ) → MayAdd is_ack s (with_ack_dropped s n)
dropped_adds s n = by (out_cookie n s.outs)
  where
    by : (o : Option Cookie) → Adds is_ack s.waiting.due (without_ack_of s.waiting o).due
    by None = nothing is_ack s
    by (Some cookie) = adds_dropped cookie s.waiting

-- ---- OUT_R1/A1, OUT_R1/A5 and OUT_R1/A9

abbrev pub of_out : Named → Bool
of_out packet = is_kind kind.OutR1 packet

wished_adds : (s : Server) → MayAdd of_out s (wished s)
wished_adds s =
    either_state of_out s (wishes s) (asks s) s
    (adds_own of_out (named.OutR1A1 0) refl s.waiting.due) (nothing of_out s)

pub completed_same : (s : Server) → (completed s).waiting ≡ s.waiting
completed_same s = search rules

pub settled_adds : (s : Server) → MayAdd of_out s (settled s)
settled_adds s =
    subst (λ (w : Waiting). Adds of_out w.due (settled s).waiting.due) (completed_same s)
    (wished_adds (completed s))

pub recycle_adds : (s : Server) → MayAdd of_out s (recycle s).0
recycle_adds s =
    by_test Recycles (s.writing == last_number) (s, Err Last) other (λ e. nothing of_out s)
    (λ e. by_test Recycles (is_under_way s) (s, Err (Busy (out_server (s.writing + 1))))
    (asks s, Ok tt) (λ f. nothing of_out s)
    (λ f. adds_own of_out (named.OutR1A1 0) refl s.waiting.due))
  where
    Recycles : Server × Result (Unit {0}) RecycleRefused → Type 0
    Recycles x = MayAdd of_out s x.0

    other : Server × Result (Unit {0}) RecycleRefused
    other =
        if is_under_way s then (s, Err (Busy (out_server (s.writing + 1)))) else (asks s, Ok tt)

answered_adds : (s : Server) (successor : Cookie) (lifetime window timeout : ℕ)
    (place : Option ℕ) (leg : Option OutLeg)
    → MayAdd of_out s (answered_by s successor lifetime window timeout place leg).0
answered_adds s successor lifetime window timeout (Some place) (Some leg) =
    adds_own of_out (named.OutR1A5 0 1 timeout) refl s.waiting.due
answered_adds s successor lifetime window timeout (Some place) None = nothing of_out s
answered_adds s successor lifetime window timeout None leg = nothing of_out s

a4_by_adds : (s : Server) (n : ℕ) (known connection predecessor successor : Cookie)
    (lifetime window timeout : ℕ) (o : Option Cookie) → MayAdd of_out s
    (out_r1_a4_by s n known connection predecessor successor lifetime window timeout o).0
a4_by_adds s n known connection predecessor successor lifetime window timeout None =
    nothing of_out s
a4_by_adds s n known connection predecessor successor lifetime window timeout (Some writing) =
    either of_out s (not (same_cookie known connection))
    (refuse s (refused.Cookie known connection))
    (if not (same_cookie writing predecessor) then refuse s (refused.Cookie writing predecessor)
    else answered_on s n successor lifetime window timeout)
    (nothing of_out s)
    (either of_out s (not (same_cookie writing predecessor))
    (refuse s (refused.Cookie writing predecessor))
    (answered_on s n successor lifetime window timeout) (nothing of_out s)
    (answered_adds s successor lifetime window timeout (out_place n s.outs)
    (out_at s.outs (out_place n s.outs))))

a4_at_adds : (s : Server) (at : Stage) (n : ℕ) (connection predecessor successor : Cookie)
    (lifetime window timeout : ℕ) → MayAdd of_out s
    (out_r1_a4_at s at n connection predecessor successor lifetime window timeout).0
a4_at_adds s (stage.Open known) n connection predecessor successor lifetime window timeout =
    a4_by_adds s n known connection predecessor successor lifetime window timeout
    (out_cookie s.writing s.outs)
a4_at_adds s opening n connection predecessor successor lifetime window timeout =
    nothing of_out s

pub out_r1_a4_adds : (s : Server) (n : ℕ) (count : Count)
    (connection predecessor successor : Cookie) (lifetime window timeout : ℕ) → MayAdd of_out s
    (on_out_r1_a4 s n count connection predecessor successor lifetime window timeout).0
out_r1_a4_adds s n count connection predecessor successor lifetime window timeout =
    either of_out s (may_answer s n count)
    (out_r1_a4_at s s.stage n connection predecessor successor lifetime window timeout)
    (unexpected s)
    (a4_at_adds s s.stage n connection predecessor successor lifetime window timeout)
    (nothing of_out s)

a8_at_adds : (s : Server) (successor : Cookie) (at : Replacement)
    → MayAdd of_out s (out_r1_a8_at s successor at).0
a8_at_adds s successor (Answered cookie) =
    either of_out s (same_cookie cookie successor) (took (confirms s))
    (refuse s (refused.Cookie cookie successor))
    (adds_own of_out named.OutR1A9 refl s.waiting.due) (nothing of_out s)
a8_at_adds s successor Steady = nothing of_out s
a8_at_adds s successor Asked = nothing of_out s
a8_at_adds s successor Confirmed = nothing of_out s

pub out_r1_a8_adds : (s : Server) (count : Count) (destination : ℕ) (successor : Cookie)
    → MayAdd of_out s (on_out_r1_a8 s count destination successor).0
out_r1_a8_adds s count destination successor =
    either of_out s (not (is_first count) && ((destination == 2)
    && not (waits kind.OutR1 s.waiting)))
    (out_r1_a8_at s successor s.replacement) (unexpected s)
    (a8_at_adds s successor s.replacement) (nothing of_out s)
