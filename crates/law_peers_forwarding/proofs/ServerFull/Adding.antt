-- what holds of the packets that wait at a server, where its own become due and others go
use Rattle.law_order.proofs.Vocabulary.{◌≡◌, ℕ, ◌+◌, ◌≤◌, ◌==◌, ◌&&◌, ◌||◌, Bool, true, false, nat_lt, not, if◌then◌else◌, Some, None, List, refl, sym, subst, rules, arith, and_parts, not-true, or_parts, IfSome, find, slice_get, Option, Result}
use Rattle.rh_sig.specs.declared.named.Named.TheVariants as named
use Rattle.rh_shell.specs.declared.answers.Refused.TheVariants as refused
use Rattle.rh_server.specs.declared.state.InStage.TheVariants as in_stage
use Rattle.rh_server.specs.declared.state.Replacement.TheVariants as replacement
use Rattle.rh_server.specs.declared.state.Stage.TheVariants as stage
use Rattle.rh_server.specs.declared.out_line.Kind.TheVariants as kinds
use Rattle.rh_server.specs.OutLines as lines
use Rattle.law_moves.proofs.Vocabulary.{by_test, Cookie, Named, front_length, Leg, LegKind, ClientOut, OutServer, ClientIn, InServer, Which, Current, Next, after_finish, after_take, Count, Due, RecycleRefused, Message, Waiting, added, with_due, without_first}
use Rattle.law_role_server.proofs.Vocabulary.{Shut, InLeg, InStage, OutLeg, Replacement, Stage, Kind, is_ack_of, kind_of, lets, Server, in_leg, is_due, is_fresh, is_open, is_steady, out_at, out_place, out_cookie, same_cookie, with_in, without_in, without_out, Done, took, refuse, unexpected, is_first, opens, with_first_in, with_first_out, conn_a2_at, on_conn_a2, conn_b2_at, on_conn_b2, channel_at, announced, becomes_current, first_waiting, hands_over, has_fresh_below}
use Rattle.law_role_server.proofs.Vocabulary.{in_r1_a2_at, in_r1_a2_by, in_r2_a2_on, leaves_by, moved_if, next_opened, on_in_r1_a2, on_in_r1_a6, on_in_r2_a2, opens_leg, opens_next, take, answered_by, answered_on, asks, confirms, is_asked, is_under_way, last_number, may_answer, on_out_r1_a4, on_out_r1_a8, out_r1_a4_at, out_r1_a4_by, out_r1_a8_at, recycle, wishes, completed, drawn_by, in_is_drawn, lost_in, mark_by, settled, with_ack_dropped, without_ack_of, Pick, or_else}
use Rattle.law_role_server.proofs.Vocabulary.{counts, counts_at, up, give, pdu, gate, gate_at, is_end_due, may_end_at, may_go_at, next_out, out_greeting_at, pdu_by, put_by as put_by_kind, put_end, put_in, put_open, put_out_at, put_out_greeting, put_pdu, put_pdu_or_end, put_waiting, settled_pick, waiting_at, waiting_by, was_put, on_is, on_os, waiting_of}
use Rattle.law_role_server.proofs.Counted.Dues.{Went, first_goes}
use Rattle.law_role_server.proofs.Counted.Adding.{first_out_same, completed_same, first_in_same}

-- ---- where none of a kind waits

-- no packet of a replacement waits
unasked : (s : Server) → is_under_way s ≡ false → lines.waits kinds.OutR1 s.waiting ≡ false
unasked s e = (or_parts (not (is_steady s.replacement)) (lines.waits kinds.OutR1 s.waiting) e).1

unwished : (s : Server) → wishes s ≡ true → lines.waits kinds.OutR1 s.waiting ≡ false
unwished s e =
    unasked s (not-true (is_under_way s) (and_parts (not (is_under_way s)) _
    (and_parts (nat_lt s.writing last_number) _ (and_parts (is_open s.stage) _ e).1).1).0)

third_not : (a b c : Bool) → a && (b && not c) ≡ true → c ≡ false
third_not a b c e = not-true c (and_parts b (not c) (and_parts a (b && not c) e).1).1

-- one is gone, or none
pub fewer : (test : Named → Bool) (may_go : Due → Bool) (dues : List Due)
    → waiting_of test (without_first may_go dues) ≤ waiting_of test dues
fewer test may_go dues = by (find may_go dues) (first_goes test may_go dues)
  where
    by : (o : Option Due) → Went test dues (without_first may_go dues) o
        → waiting_of test (without_first may_go dues) ≤ waiting_of test dues
    by None same = omega (arith, same)
    by (Some due) less = omega (arith, less)

-- ---- what leaves alone what waits

pub counts_same : (s : Server) (place len : ℕ) → (counts s place len).waiting ≡ s.waiting
counts_same s place len = by (slice_get s.outs place)
  where
    by : (o : Option OutLeg) → (counts_at s place len o).waiting ≡ s.waiting
    by None = refl
    by (Some leg) = refl

pub in_same : (s : Server) (n : ℕ)
    → IfSome (put_in s n) (λ (one : Server × Message). one.0.waiting ≡ s.waiting)
in_same s n = search rules

pub up_same : (s : Server) (leg : Leg) (cookie : Cookie) → (up s leg cookie).waiting ≡ s.waiting
up_same s leg cookie = search rules

pub pdu_same : (s : Server) (leg : Leg) (count : Count) (bytes : List ℕ)
    → (pdu s leg count bytes).0.waiting ≡ s.waiting
pdu_same s leg count bytes = search rules

pub give_same : (s : Server) (bytes : List ℕ) → (give s bytes).0.waiting ≡ s.waiting
give_same s bytes = search rules

-- ---- rows

-- a packet of the server's own becomes due where none of its kind waits, and one may go
pub record Keeps (Right : Waiting → Type 0) : Type 0 where
  pub joins : (w : Waiting) (kind : Kind) (packet : Named) → kind_of packet ≡ Some kind
      → lines.waits kind w ≡ false → Right w → Right (added w packet)
  pub goes : (w : Waiting) (may_go : Due → Bool) → Right w
      → Right (with_due w (without_first may_go w.due))

module _ (Right : Waiting → Type 0) (keeps : Keeps Right) where
  abbrev pub Serves : Server → Type 0
  Serves s = Right s.waiting

  abbrev pub RowServes : Done → Type 0
  RowServes x = Serves x.0

  pub same_serves : (s t : Server) → t.waiting ≡ s.waiting → Serves s → Serves t
  same_serves s t same h = subst Right (sym same) h

  pub settled_serves : (s : Server) → Serves s → Serves (settled s)
  settled_serves s h =
      by_test Serves (wishes (completed s)) (asks (completed s)) (completed s)
      (λ e. keeps.joins (completed s).waiting kinds.OutR1 (named.OutR1A1 0) refl
      (unwished (completed s) e) done) (λ e. done)
    where
      done : Serves (completed s)
      done = same_serves s (completed s) (completed_same s) h

  pub recycle_serves : (s : Server) → Serves s → Serves (recycle s).0
  recycle_serves s h =
      by_test Recycles (s.writing == last_number) _ _ (λ e. h)
      (λ e. by_test Recycles (is_under_way s) _ _ (λ f. h)
      (λ f. keeps.joins s.waiting kinds.OutR1 (named.OutR1A1 0) refl (unasked s f) h))
    where
      Recycles : Server × Result (Unit {0}) RecycleRefused → Type 0
      Recycles x = Serves x.0

  -- ---- IN channels

  opens_serves : (s : Server) (leg : InLeg) (x : InStage)
      → lines.waits kinds.InR1A3 s.waiting ≡ false → Serves s → Serves (opens_next s leg x)
  opens_serves s leg in_stage.Fresh none h = h
  opens_serves s leg in_stage.Opened none h = h
  opens_serves s leg (in_stage.Waits window timeout ended) none h =
      keeps.joins s.waiting kinds.InR1A3 (named.InR1A3 0 1 window timeout) refl none h

  next_serves : (s : Server) → Serves s → Serves (next_opened s)
  next_serves s h =
      by_test Serves (s.line.has_next || lines.waits kinds.InR1A3 s.waiting) s
      (opens_leg s (first_waiting s.ins)) (λ e. h)
      (λ e. by (or_parts s.line.has_next (lines.waits kinds.InR1A3 s.waiting) e).1
      (first_waiting s.ins))
    where
      by : lines.waits kinds.InR1A3 s.waiting ≡ false → (o : Option InLeg)
          → Serves (opens_leg s o)
      by none None = h
      by none (Some leg) = opens_serves s leg leg.stage none h

  moved_serves : (b : Bool) (s : Server) → Serves s → Serves (moved_if b s)
  moved_serves b s h =
      by_test Serves (b && not s.line.has_next) (becomes_current s) s
      (λ e. next_serves (record s { current = s.next; edge = Shut }) h) (λ e. h)

  pub take_serves : (s : Server) → Serves s → Serves (take s)
  take_serves s h = moved_serves s.line.has_next (record s { line = after_take s.line }) h

  pub conn_b2_row : (s : Server) (n : ℕ) (count : Count) (a b : Cookie) (c d : ℕ) → Serves s
      → RowServes (on_conn_b2 s n count a b c d)
  conn_b2_row s n count a b c d h =
      by_test RowServes
      (is_first count && ((n == 1) && not (lines.waits kinds.ConnC1 s.waiting)))
      (conn_b2_at s s.stage a b c d) (unexpected s)
      (λ e. by (third_not (is_first count) (n == 1) (lines.waits kinds.ConnC1 s.waiting) e)
      s.stage) (λ e. h)
    where
      here : Right (with_first_in s b).waiting
      here = subst Right (sym (first_in_same s b)) h

      by : lines.waits kinds.ConnC1 s.waiting ≡ false → (x : Stage)
          → RowServes (conn_b2_at s x a b c d)
      by none stage.Waits = here
      by none (stage.OutCame known) =
          by_test RowServes (same_cookie known a) (took (opens (with_first_in s b) known c d)) _
          (λ f. keeps.joins (with_first_in s b).waiting kinds.ConnC1 (named.ConnC1 1 c d) refl
          (subst (λ (w : Waiting). lines.waits kinds.ConnC1 w ≡ false)
          (sym (first_in_same s b)) none) here) (λ f. h)
      by none (stage.InCame known window timeout) = h
      by none (stage.Open known) = h
      by none stage.Ended = h

  pub in_r1_a2_row : (s : Server) (n : ℕ) (count : Count) (a b c : Cookie) (d e : ℕ) → Serves s
      → RowServes (on_in_r1_a2 s n count a b c d e)
  in_r1_a2_row s n count a b c d e h =
      by_test RowServes (is_first count && not (has_fresh_below n s.ins))
      (in_r1_a2_at s s.stage n a b c d e) (unexpected s) (λ f. by s.stage) (λ f. h)
    where
      on : (known : Cookie) (o : Option InLeg) → RowServes (in_r1_a2_by s known a b c d e o)
      on known None = h
      on known (Some leg) =
          by_test RowServes (not (is_fresh leg.stage)) (unexpected s) _ (λ f. h)
          (λ f. by_test RowServes (not (same_cookie known a))
          (refuse s (refused.Cookie known a)) _ (λ g. h)
          (λ g. by_test RowServes (not (same_cookie s.newest.cookie b))
          (refuse s (refused.Cookie s.newest.cookie b)) (took (announced s leg c d e)) (λ i. h)
          (λ i. next_serves
          (with_in (record s { newest = record { leg = leg.number; cookie = c } })
          (record leg { cookie = c; stage = in_stage.Waits d e false })) h)))

      by : (x : Stage) → RowServes (in_r1_a2_at s x n a b c d e)
      by stage.Waits = h
      by (stage.OutCame known) = h
      by (stage.InCame known window timeout) = h
      by (stage.Open known) = on known (in_leg n s.ins)
      by stage.Ended = h

  pub in_r1_a6_row : (s : Server) (n : ℕ) (successor : Cookie) → Serves s
      → RowServes (on_in_r1_a6 s n successor)
  in_r1_a6_row s n successor h =
      by_test RowServes _ (if same_cookie s.next.cookie successor
      then took (hands_over s n)
      else refuse s (refused.Cookie s.next.cookie successor)) (unexpected s)
      (λ e. by_test RowServes (same_cookie s.next.cookie successor) (took (hands_over s n)) _
      (λ f. by (in_leg n s.ins)) (λ f. h)) (λ e. h)
    where
      by : (o : Option InLeg)
          → Serves (moved_if true (record (leaves_by s o) { line = after_finish s.line }))
      by None = moved_serves true (record s { line = after_finish s.line }) h
      by (Some leg) =
          moved_serves true (record (leaves_by s (Some leg)) { line = after_finish s.line }) h

  pub in_r2_a2_row : (s : Server) (n : ℕ) (count : Count) (successor : Cookie) → Serves s
      → RowServes (on_in_r2_a2 s n count successor)
  in_r2_a2_row s n count successor h =
      by_test RowServes (not (is_first count) && (is_open s.stage
      && (not (lines.waits kinds.InR2A3 s.waiting) && nat_lt s.newest_in 4294967295)))
      (in_r2_a2_on s n successor (channel_at s n)) (unexpected s)
      (λ e. by (none e) (channel_at s n)) (λ e. h)
    where
      none : not (is_first count) && (is_open s.stage
          && (not (lines.waits kinds.InR2A3 s.waiting) && nat_lt s.newest_in 4294967295)) ≡ true
          → lines.waits kinds.InR2A3 s.waiting ≡ false
      none e =
          not-true (lines.waits kinds.InR2A3 s.waiting)
          (and_parts (not (lines.waits kinds.InR2A3 s.waiting)) _
          (and_parts (is_open s.stage) _ (and_parts (not (is_first count)) _ e).1).1).0

      by : lines.waits kinds.InR2A3 s.waiting ≡ false → (o : Option Which)
          → RowServes (in_r2_a2_on s n successor o)
      by none None = h
      by none (Some Current) =
          keeps.joins s.waiting kinds.InR2A3 (named.InR2A3 0) refl none h
      by none (Some Next) = keeps.joins s.waiting kinds.InR2A3 (named.InR2A3 0) refl none h

  -- ---- OUT channels

  pub a8_row : (s : Server) (count : Count) (to : ℕ) (successor : Cookie) → Serves s
      → RowServes (on_out_r1_a8 s count to successor)
  a8_row s count to successor h =
      by_test RowServes
      (not (is_first count) && ((to == 2) && not (lines.waits kinds.OutR1 s.waiting)))
      (out_r1_a8_at s successor s.replacement) (unexpected s)
      (λ e. by (third_not (not (is_first count)) (to == 2)
      (lines.waits kinds.OutR1 s.waiting) e) s.replacement) (λ e. h)
    where
      by : lines.waits kinds.OutR1 s.waiting ≡ false → (x : Replacement)
          → RowServes (out_r1_a8_at s successor x)
      by none replacement.Steady = h
      by none replacement.Asked = h
      by none replacement.Confirmed = h
      by none (replacement.Answered cookie) =
          by_test RowServes (same_cookie cookie successor) (took (confirms s)) _
          (λ f. keeps.joins s.waiting kinds.OutR1 named.OutR1A9 refl none h) (λ f. h)

  conn_a2_row : (s : Server) (n : ℕ) (count : Count) (a b : Cookie) (c d : ℕ) → Serves s
      → RowServes (on_conn_a2 s n count a b c d)
  conn_a2_row s n count a b c d h =
      by_test RowServes
      (is_first count && ((n == 1) && not (lines.waits kinds.ConnC1 s.waiting)))
      (conn_a2_at s s.stage a b c d) (unexpected s)
      (λ e. by (third_not (is_first count) (n == 1) (lines.waits kinds.ConnC1 s.waiting) e)
      s.stage) (λ e. h)
    where
      here : Right (with_first_out s b c d).waiting
      here = subst Right (sym (first_out_same s b c d)) h

      by : lines.waits kinds.ConnC1 s.waiting ≡ false → (x : Stage)
          → RowServes (conn_a2_at s x a b c d)
      by none stage.Waits = here
      by none (stage.InCame known window timeout) =
          by_test RowServes (same_cookie known a)
          (took (opens (with_first_out s b c d) known window timeout)) _
          (λ f. keeps.joins (with_first_out s b c d).waiting kinds.ConnC1
          (named.ConnC1 1 window timeout) refl
          (subst (λ (w : Waiting). lines.waits kinds.ConnC1 w ≡ false)
          (sym (first_out_same s b c d)) none) here) (λ f. h)
      by none (stage.OutCame known) = h
      by none (stage.Open known) = h
      by none stage.Ended = h

  a4_row : (s : Server) (n : ℕ) (count : Count) (a b c : Cookie) (d e f : ℕ) → Serves s
      → RowServes (on_out_r1_a4 s n count a b c d e f)
  a4_row s n count a b c d e f h =
      by_test RowServes (may_answer s n count) (out_r1_a4_at s s.stage n a b c d e f)
      (unexpected s) (λ g. by_stage (gone g) s.stage) (λ g. h)
    where
      Gone : Type 0
      Gone = lines.waits kinds.OutR1 s.waiting ≡ false

      gone : may_answer s n count ≡ true → Gone
      gone g =
          third_not (n == s.writing + 1) (is_asked s.replacement)
          (lines.waits kinds.OutR1 s.waiting) (and_parts (is_first count) _ g).1

      answers : Gone → (place : Option ℕ) (o : Option OutLeg)
          → RowServes (answered_by s c d e f place o)
      answers none (Some place) (Some leg) =
          keeps.joins s.waiting kinds.OutR1 (named.OutR1A5 0 1 f) refl none h
      answers none (Some place) None = h
      answers none None o = h

      by_writing : Gone → (known : Cookie) (o : Option Cookie)
          → RowServes (out_r1_a4_by s n known a b c d e f o)
      by_writing none known None = h
      by_writing none known (Some writing) =
          by_test RowServes (not (same_cookie known a)) (refuse s (refused.Cookie known a)) _
          (λ g. h)
          (λ g. by_test RowServes (not (same_cookie writing b))
          (refuse s (refused.Cookie writing b)) (answered_on s n c d e f) (λ i. h)
          (λ i. answers none (out_place n s.outs) (out_at s.outs (out_place n s.outs))))

      by_stage : Gone → (at : Stage) → RowServes (out_r1_a4_at s at n a b c d e f)
      by_stage none (stage.Open known) = by_writing none known (out_cookie s.writing s.outs)
      by_stage none stage.Waits = h
      by_stage none (stage.OutCame connection) = h
      by_stage none (stage.InCame connection in_window timeout) = h
      by_stage none stage.Ended = h

  pub os_row : (s : Server) (n : ℕ) (count : Count) (m : Named) → Serves s
      → RowServes (on_os s n count m)
  os_row s n count (named.ConnA2 v a b c d) h = conn_a2_row s n count a b c d h
  os_row s n count (named.OutR1A4 v a b c d e f) h = a4_row s n count a b c d e f h
  os_row s n count m h = same_serves s (on_os s n count m).0 (search rules) h

  -- but for acknowledgements
  pub is_row : (s : Server) (n : ℕ) (count : Count) (m : Named) → lines.is_ack m ≡ false
      → Serves s → RowServes (on_is s n count m)
  is_row s n count (named.ConnB2 v a b c d e f g) no_ack h = conn_b2_row s n count a b c d h
  is_row s n count (named.InR1A2 v a b c d e) no_ack h = in_r1_a2_row s n count a b c d e h
  is_row s n count (named.InR1A6 successor) no_ack h = in_r1_a6_row s n successor h
  is_row s n count (named.InR2A2 successor) no_ack h = in_r2_a2_row s n count successor h
  is_row s n count (named.AckTo to received window cookie) no_ack h = absurd cc
  is_row s n count (named.OutR1A8 to successor) no_ack h = a8_row s count to successor h
  is_row s n count m no_ack h = same_serves s (on_is s n count m).0 (search rules) h

  -- ---- legs are drawn and lost

  pub drawn_serves : (s : Server) (n : ℕ) (k : LegKind) → Serves s → Serves (drawn_by s n k)
  drawn_serves s n InServer h =
      by_test Serves (in_is_drawn (in_leg n s.ins)) (settled (without_in s n)) s
      (λ e. settled_serves (without_in s n) h) (λ e. h)
  drawn_serves s n OutServer h = h
  drawn_serves s n ClientIn h = h
  drawn_serves s n ClientOut h = h

  pub mark_serves : (s : Server) (n : ℕ) (k : LegKind) → Serves s → Serves (mark_by s n k)
  mark_serves s n InServer h =
      settled_serves (lost_in s n (in_leg n s.ins)) (lost (in_leg n s.ins))
    where
      lost : (o : Option InLeg) → Serves (lost_in s n o)
      lost None = h
      lost (Some leg) = by_test Serves _ (with_in s _) (without_in s n) (λ e. h) (λ e. h)
  mark_serves s n OutServer h =
      settled_serves (without_out (with_ack_dropped s n) n) (dropped (out_cookie n s.outs))
    where
      dropped : (o : Option Cookie) → Right (without_ack_of s.waiting o)
      dropped None = h
      dropped (Some cookie) = keeps.goes s.waiting (is_ack_of cookie) h
  mark_serves s n ClientIn h = h
  mark_serves s n ClientOut h = h

  -- ---- what is put

  abbrev pub Goes : Pick → Type 0
  Goes pick = IfSome pick (λ (one : Server × Message). Serves one.0)

  or_goes : (a b : Pick) → Goes a → Goes b → Goes (or_else a b)
  or_goes None b one other = other
  or_goes (Some pick) b one other = one

  put_serves : (s : Server) (place : ℕ) (packet : Named) → Serves s
      → Serves (was_put s place packet)
  put_serves s place (named.AckTo to received window cookie) h =
      by_test Serves (to == 3) s (counts s place 56) (λ e. h)
      (λ e. subst Right (sym (counts_same s place 56)) h)
  put_serves s place named.OutR1A9 h = subst Right (sym (counts_same s place 24)) h
  put_serves s place packet h =
      subst Right (sym (counts_same s place (lines.length_of packet))) h

  module _ (s : Server) (h : Serves s) where
    waiting_goes : (place : ℕ) (o : Option OutLeg) → Goes (waiting_at s place (gate_at s o))
    waiting_goes place None = tt
    waiting_goes place (Some leg) = by (find (lets (gate s leg)) s.waiting.due)
      where
        left : Waiting
        left = with_due s.waiting (without_first (lets (gate s leg)) s.waiting.due)

        by : (o : Option Due) → Goes (waiting_by s place (left, o))
        by None = tt
        by (Some due) =
            put_serves (record s { waiting = left }) place due.packet
            (keeps.goes s.waiting (lets (gate s leg)) h)

    out_goes : (place : Option ℕ) → Goes (put_out_at s place)
    out_goes None = tt
    out_goes (Some place) =
        or_goes (put_out_greeting s place) (put_open s place) (greets (slice_get s.outs place))
        (by_test Goes (is_open s.stage) (settled_pick (next_out s place)) None
        (λ e. settles (next_out s place)
        (or_goes (put_waiting s place) (put_pdu_or_end s place)
        (waiting_goes place (slice_get s.outs place))
        (or_goes (put_pdu s place) (put_end s place) (sends (front_length s.queue)) ends)))
        (λ e. tt))
      where
        settles : (pick : Pick) → Goes pick → Goes (settled_pick pick)
        settles None k = tt
        settles (Some one) k = settled_serves one.0 k

        greets : (o : Option OutLeg) → Goes (out_greeting_at s place o)
        greets None = tt
        greets (Some leg) = by_test Goes (is_due leg.greeting) _ None (λ e. h) (λ e. tt)

        sends : (len : Option ℕ) → Goes (pdu_by s place len)
        sends None = tt
        sends (Some len) =
            by_test Goes (may_go_at s len (slice_get s.outs place)) _ None (λ e. h) (λ e. tt)

        ends : Goes (put_end s place)
        ends =
            by_test Goes (is_end_due s && may_end_at s (slice_get s.outs place)) _ None
            (λ e. subst Right (sym (counts_same s place 24)) h) (λ e. tt)

    pub all_go : (n : ℕ) (k : LegKind) → Goes (put_by_kind s n k)
    all_go n InServer = by (put_in s n) (in_same s n)
      where
        by : (pick : Pick)
            → IfSome pick (λ (one : Server × Message). one.0.waiting ≡ s.waiting) → Goes pick
        by None same = tt
        by (Some one) same = subst Right (sym same) h
    all_go n OutServer = out_goes (out_place n s.outs)
    all_go n ClientIn = tt
    all_go n ClientOut = tt
