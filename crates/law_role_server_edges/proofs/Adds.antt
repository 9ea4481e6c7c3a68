-- steps of a server that lower no edge that waits, and leave its os legs alone
use Rattle.law_order.proofs.Vocabulary.{◌≡◌, ℕ, ◌+◌, ◌==◌, List, Bool, true, false, ◌&&◌, ◌||◌, not, Some, None, Ok, Err, arith, refl, ap, ◌∙◌, rules, if◌then◌else◌, nat_lt, IfSome, Option, Result}
use Rattle.rh_sig.specs.declared.named.Named.TheVariants as named
use Rattle.rh_shell.specs.declared.answers.Refused.TheVariants as refused
use Rattle.rh_server.specs.Servers.{pdu_by}
use Rattle.rh_server.specs.declared.out_line.Kind.TheVariants as kind
use Rattle.rh_server.specs.declared.state.Edge.TheVariants as edges
use Rattle.rh_server.specs.declared.state.InStage.TheVariants as in_stage
use Rattle.rh_server.specs.declared.state.Leaving.TheVariants as leaving
use Rattle.rh_server.specs.declared.state.Stage.TheVariants as stages
use Rattle.rh_server.specs.declared.state.Tells.TheVariants as tells
use Rattle.law_moves.proofs.Vocabulary.{Ack, by_test, Cookie, LegKind, Which, Current, Next, after_finish, after_take, Count, own, RecycleRefused, Busy, Last, Message, Waiting}
use Rattle.law_moves.specs.Merging.{greatest}
use Rattle.law_role_server.proofs.Vocabulary.{InLeg, InStage, Leaving, OutLeg, Replacement, Steady, Asked, Answered, Confirmed, Stage, Tells, Server, waits, in_leg, is_due, is_fresh, is_open, same_cookie, with_in, Done, took, refuse, unexpected, is_first, opens, first_in, with_first_in, conn_b2_at, on_conn_b2, out_server, channel_at, opens_next, opens_leg, first_waiting, next_opened, becomes_current, moved_if, take, has_fresh_below, announced, in_r1_a2_by, in_r1_a2_at, on_in_r1_a2, leaves_by, hands_over, on_in_r1_a6, in_r2_a2_on, on_in_r2_a2, asks, last_number, is_under_way, recycle, wishes, confirms, out_r1_a8_at, on_out_r1_a8, on_end_a2, give, completed, is_complete, settled, lost_in}
use Rattle.law_role_server.proofs.Vocabulary.{Pick, or_else, put_in_greeting, was_current, put_tells_by, put_tells, put_b1_by, put_b1, ack_due, put_ack_by, put_ack, put_in_by, put_in}
use Rattle.law_role_server_edges.proofs.Edges.{Rises, rises_push}

pub record Seen : Type 0 where
  pub waiting : Waiting
  pub outs : List OutLeg

abbrev pub seen : Server → Seen
seen s = record { waiting = s.waiting; outs = s.outs }

abbrev pub Same : Server → Server → Type 0
Same s t = seen t ≡ seen s

abbrev pub Adds : Server → Server → Type 0
Adds s t = Rises s.waiting.due t.waiting.due × (t.outs ≡ s.outs)

pub adds_same : (s t : Server) → Same s t → Adds s t
adds_same s t same = (
  λ key. let e = ap (λ (x : Seen). greatest key x.waiting.due) same in omega (arith, e),
  ap (λ (x : Seen). x.outs) same,
)

adds_itself : (s : Server) → Adds s s
adds_itself s = (λ key. omega arith, refl)

pub adds_then : (s t u : Server) → Adds s t → Adds t u → Adds s u
adds_then s t u a b =
    (λ key. let first = a.0 key in let second = b.0 key in omega (arith, first, second), b.1 ∙ a.1)

adds_test : (s : Server) (b : Bool) (t u : Server) → Adds s t → Adds s u
    → Adds s (if b then t else u)
adds_test s b t u h k = by_test (Adds s) b t u (λ e. h) (λ e. k)

adds_if : (s : Server) (b : Bool) (x y : Done) → Adds s x.0 → Adds s y.0
    → Adds s (if b then x else y).0
adds_if s b x y h k = by_test (λ (z : Done). Adds s z.0) b x y (λ e. h) (λ e. k)

-- ---- behind puts

adds_asks : (s : Server) → Adds s (asks s)
adds_asks s = (rises_push s.waiting.due (own (named.OutR1A1 0)), refl)

adds_completed : (s : Server) → Adds s (completed s)
adds_completed s =
    adds_test s (is_complete s) (record s { stage = stages.Ended }) s (λ key. omega arith, refl)
    (adds_itself s)

pub adds_settled : (s : Server) → Adds s (settled s)
adds_settled s =
    adds_then s (completed s) (settled s) (adds_completed s)
    (adds_test (completed s) (wishes (completed s)) (asks (completed s)) (completed s)
    (adds_asks (completed s)) (adds_itself (completed s)))

pub adds_recycle : (s : Server) → Adds s (recycle s).0
adds_recycle s =
    by_test Recycles (s.writing == last_number) (s, Err Last) other (λ t. adds_itself s)
    (λ t. by_test Recycles (is_under_way s) (s, Err (Busy (out_server (s.writing + 1))))
    (asks s, Ok tt) (λ u. adds_itself s) (λ u. adds_asks s))
  where
    Recycles : Server × Result (Unit {0}) RecycleRefused → Type 0
    Recycles x = Adds s x.0

    other : Server × Result (Unit {0}) RecycleRefused
    other =
        if is_under_way s then (s, Err (Busy (out_server (s.writing + 1))))
        else (asks s, Ok tt)

-- ---- the next channel

adds_opens : (s : Server) (leg : InLeg) (at : InStage) → Adds s (opens_next s leg at)
adds_opens s leg in_stage.Fresh = adds_itself s
adds_opens s leg in_stage.Opened = adds_itself s
adds_opens s leg (in_stage.Waits window timeout ended) =
    (rises_push s.waiting.due (own (named.InR1A3 0 1 window timeout)), refl)

adds_opens_leg : (s : Server) (o : Option InLeg) → Adds s (opens_leg s o)
adds_opens_leg s None = adds_itself s
adds_opens_leg s (Some leg) = adds_opens s leg leg.stage

adds_next_opened : (s : Server) → Adds s (next_opened s)
adds_next_opened s =
    adds_test s (s.line.has_next || waits kind.InR1A3 s.waiting) s
    (opens_leg s (first_waiting s.ins)) (adds_itself s) (adds_opens_leg s (first_waiting s.ins))

adds_moved : (had_next : Bool) (s : Server) → Adds s (moved_if had_next s)
adds_moved had_next s =
    adds_test s (had_next && not s.line.has_next) (becomes_current s) s
    (adds_next_opened (record s { current = s.next; edge = edges.Shut })) (adds_itself s)

pub adds_take : (s : Server) → Adds s (take s)
adds_take s = adds_moved s.line.has_next (record s { line = after_take s.line })

-- ---- rows on is legs

adds_a2_by : (s : Server) (a b c d : Cookie) (e f : ℕ) (o : Option InLeg)
    → Adds s (in_r1_a2_by s a b c d e f o).0
adds_a2_by s a b c d e f None = adds_itself s
adds_a2_by s a b c d e f (Some leg) =
    adds_if s (not (is_fresh leg.stage)) (unexpected s) _ (adds_itself s)
    (adds_if s (not (same_cookie a b)) (refuse s (refused.Cookie a b)) _ (adds_itself s)
    (adds_if s (not (same_cookie s.newest.cookie c)) (refuse s (refused.Cookie s.newest.cookie c))
    (took (announced s leg d e f)) (adds_itself s)
    (adds_next_opened (with_in (record s { newest = record { leg = leg.number; cookie = d } })
    (record leg { cookie = d; stage = in_stage.Waits e f false })))))

adds_a2_at : (s : Server) (at : Stage) (n : ℕ) (a b c : Cookie) (d e : ℕ)
    → Adds s (in_r1_a2_at s at n a b c d e).0
adds_a2_at s (stages.Open known) n a b c d e = adds_a2_by s known a b c d e (in_leg n s.ins)
adds_a2_at s stages.Waits n a b c d e = adds_itself s
adds_a2_at s (stages.OutCame known) n a b c d e = adds_itself s
adds_a2_at s (stages.InCame known in_window timeout) n a b c d e = adds_itself s
adds_a2_at s stages.Ended n a b c d e = adds_itself s

pub adds_in_r1_a2 : (s : Server) (n : ℕ) (count : Count) (a b c : Cookie) (d e : ℕ)
    → Adds s (on_in_r1_a2 s n count a b c d e).0
adds_in_r1_a2 s n count a b c d e =
    adds_if s (is_first count && not (has_fresh_below n s.ins)) (in_r1_a2_at s s.stage n a b c d e)
    (unexpected s) (adds_a2_at s s.stage n a b c d e) (adds_itself s)

adds_hands : (s : Server) (n : ℕ) → Adds s (hands_over s n)
adds_hands s n = by (in_leg n s.ins)
  where
    by : (o : Option InLeg)
        → Adds s (moved_if true (record (leaves_by s o) { line = after_finish s.line }))
    by None = adds_moved true (record s { line = after_finish s.line })
    by (Some leg) =
        adds_moved true (record (leaves_by s (Some leg)) { line = after_finish s.line })

pub adds_in_r1_a6 : (s : Server) (n : ℕ) (successor : Cookie)
    → Adds s (on_in_r1_a6 s n successor).0
adds_in_r1_a6 s n successor =
    adds_if s ((n == s.current.leg)
    && (not s.line.finished && (s.line.has_next && not (waits kind.InR1A3 s.waiting))))
    (if same_cookie s.next.cookie successor then took (hands_over s n)
    else refuse s (refused.Cookie s.next.cookie successor)) (unexpected s)
    (adds_if s (same_cookie s.next.cookie successor) (took (hands_over s n))
    (refuse s (refused.Cookie s.next.cookie successor)) (adds_hands s n) (adds_itself s))
    (adds_itself s)

adds_r2_on : (s : Server) (n : ℕ) (successor : Cookie) (o : Option Which)
    → Adds s (in_r2_a2_on s n successor o).0
adds_r2_on s n successor None = adds_itself s
adds_r2_on s n successor (Some Current) =
    (rises_push s.waiting.due (own (named.InR2A3 0)), refl)
adds_r2_on s n successor (Some Next) =
    (rises_push s.waiting.due (own (named.InR2A3 0)), refl)

pub adds_in_r2_a2 : (s : Server) (n : ℕ) (count : Count) (successor : Cookie)
    → Adds s (on_in_r2_a2 s n count successor).0
adds_in_r2_a2 s n count successor =
    adds_if s (not (is_first count) && (is_open s.stage
    && (not (waits kind.InR2A3 s.waiting) && nat_lt s.newest_in 4294967295)))
    (in_r2_a2_on s n successor (channel_at s n)) (unexpected s)
    (adds_r2_on s n successor (channel_at s n)) (adds_itself s)

adds_a8_at : (s : Server) (successor : Cookie) (r : Replacement)
    → Adds s (out_r1_a8_at s successor r).0
adds_a8_at s successor (Answered known) =
    adds_if s (same_cookie known successor) (took (confirms s))
    (refuse s (refused.Cookie known successor))
    (rises_push s.waiting.due (own named.OutR1A9), refl) (adds_itself s)
adds_a8_at s successor Steady = adds_itself s
adds_a8_at s successor Asked = adds_itself s
adds_a8_at s successor Confirmed = adds_itself s

pub adds_out_r1_a8 : (s : Server) (count : Count) (to : ℕ) (successor : Cookie)
    → Adds s (on_out_r1_a8 s count to successor).0
adds_out_r1_a8 s count to successor =
    adds_if s (not (is_first count) && ((to == 2) && not (waits kind.OutR1 s.waiting)))
    (out_r1_a8_at s successor s.replacement) (unexpected s)
    (adds_a8_at s successor s.replacement) (adds_itself s)

first_in_same : (s : Server) (known : Cookie) (at : Stage) (o : Option InLeg)
    → Same s (record (first_in s known o) { stage = at })
first_in_same s known at None = refl
first_in_same s known at (Some leg) = refl

pub adds_conn_b2 : (s : Server) (n : ℕ) (count : Count) (a b : Cookie) (c d : ℕ)
    → Adds s (on_conn_b2 s n count a b c d).0
adds_conn_b2 s n count a b c d =
    adds_if s (is_first count && ((n == 1) && not (waits kind.ConnC1 s.waiting)))
    (conn_b2_at s s.stage a b c d) (unexpected s) (by s.stage) (adds_itself s)
  where
    began : (at : Stage) → Adds s (record (with_first_in s b) { stage = at })
    began at =
        adds_same s (record (with_first_in s b) { stage = at })
        (first_in_same s b at (in_leg 1 s.ins))

    by : (at : Stage) → Adds s (conn_b2_at s at a b c d).0
    by stages.Waits = began (stages.InCame a c d)
    by (stages.OutCame known) =
        let t : Server = record (with_first_in s b) { stage = stages.Open known } in
        let more : Adds t (opens (with_first_in s b) known c d) =
        (rises_push t.waiting.due (own (named.ConnC1 1 c d)), refl) in
        adds_if s (same_cookie known a) (took (opens (with_first_in s b) known c d))
        (refuse s (refused.Cookie known a))
        (adds_then s t (opens (with_first_in s b) known c d) (began (stages.Open known)) more)
        (adds_itself s)
    by (stages.InCame known in_window timeout) = adds_itself s
    by (stages.Open known) = adds_itself s
    by stages.Ended = adds_itself s

-- ---- what leaves these alone

same_end : (s : Server) (n : ℕ) (count : Count) → Same s (on_end_a2 s n count).0
same_end s n count = search rules

pub adds_end_a2 : (s : Server) (n : ℕ) (count : Count) → Adds s (on_end_a2 s n count).0
adds_end_a2 s n count = adds_same s (on_end_a2 s n count).0 (same_end s n count)

same_pdu : (s : Server) (n : ℕ) (bytes : List ℕ) (k : LegKind) → Same s (pdu_by s n bytes k).0
same_pdu s n bytes k = search rules

pub adds_pdu : (s : Server) (n : ℕ) (bytes : List ℕ) (k : LegKind)
    → Adds s (pdu_by s n bytes k).0
adds_pdu s n bytes k = adds_same s (pdu_by s n bytes k).0 (same_pdu s n bytes k)

same_give : (s : Server) (bytes : List ℕ) → Same s (give s bytes).0
same_give s bytes = search rules

pub adds_give : (s : Server) (bytes : List ℕ) → Adds s (give s bytes).0
adds_give s bytes = adds_same s (give s bytes).0 (same_give s bytes)

pub same_lost : (s : Server) (n : ℕ) (o : Option InLeg) → Same s (lost_in s n o)
same_lost s n o = search rules

-- ---- what is put on an is leg

abbrev pub PickSame : Server → Pick → Type 0
PickSame s pick = IfSome pick (λ (one : Server × Message). Same s one.0)

or_same : (s : Server) (a b : Pick) → PickSame s a → PickSame s b → PickSame s (or_else a b)
or_same s None b p q = q
or_same s (Some pick) b p q = p

tells_same : (s : Server) (leg : InLeg) (what : Tells) → PickSame s (put_tells_by s leg what)
tells_same s leg tells.Nothing = tt
tells_same s leg tells.ConnB3 =
    by_test (PickSame s) (is_open s.stage) _ None (λ e. refl) (λ e. tt)
tells_same s leg tells.InR1B2 =
    by_test (PickSame s) (was_current s leg) _ None (λ e. search rules) (λ e. tt)

b1_same : (s : Server) (leg : InLeg) (how : Leaving) → PickSame s (put_b1_by s leg how)
b1_same s leg leaving.Stays = tt
b1_same s leg leaving.InR1B1 = refl
b1_same s leg leaving.Left = tt
b1_same s leg leaving.Lost = tt

put_ack_same : (s : Server) (o : Option Ack) → PickSame s (put_ack_by s o)
put_ack_same s None = tt
put_ack_same s (Some ack) = refl

pub in_same : (s : Server) (n : ℕ) → PickSame s (put_in s n)
in_same s n = by (in_leg n s.ins)
  where
    by : (o : Option InLeg) → PickSame s (put_in_by s o)
    by None = tt
    by (Some leg) =
        or_same s (put_in_greeting s leg) _
        (by_test (PickSame s) (is_due leg.greeting) _ None (λ e. refl) (λ e. tt))
        (or_same s (put_tells s leg) _ (tells_same s leg leg.tells)
        (or_same s (put_b1 s leg) (put_ack s leg) (b1_same s leg leg.leaving)
        (put_ack_same s (ack_due s leg))))
