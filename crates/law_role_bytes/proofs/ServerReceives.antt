-- the window of a server's current channel counts what came on the channel's is leg
use Rattle.law_order.proofs.Vocabulary.{◌≡◌, ℕ, ◌+◌, ◌<◌, ◌==◌, List, [], ◌∷◌, ◌++◌, Bool, true, false, true≢false, if◌then◌else◌, ◌&&◌, ◌||◌, not, Some, None, Ok, Err, arith, refl, sym, ap, ◌∙◌, subst, rules, false≢true, and_parts, slice_get, IfSome, Option, Result}
use Rattle.rh_sig.specs.declared.named.Named.TheVariants as named
use Rattle.rh_line.specs.Lines.{taken as taken_line}
use Rattle.rh_line.specs.Lines as lines
use Rattle.rh_line.specs.declared.line_fault.LineFault.TheVariants as line_fault
use Rattle.rh_shell.specs.declared.answers.Refused.TheVariants as refused
use Rattle.rh_server.specs.Servers.{pdu_by}
use Rattle.rh_server.specs.declared.out_line.Kind.TheVariants as kind
use Rattle.rh_server.specs.declared.state.Edge.TheVariants as edges
use Rattle.rh_server.specs.declared.state.InStage.TheVariants as in_stage
use Rattle.rh_server.specs.declared.state.Stage.TheVariants as stages
use Rattle.rh_server.specs.declared.state.Tells.TheVariants as tells
use Rattle.law_moves.proofs.Vocabulary.{Ack, by_test, same_number, test_other, Cookie, Named, Line, channel_verdict, released, settled as settled_line, moved_on, is_empty, due, after_admit, front_length, LineFault, Leg, LegKind, ClientOut, OutServer, ClientIn, InServer, Which, Current, Next, Count, Due, Message, Pdu, Packet, Waiting, taken as taken_out, EndMove, OnLeg, of_leg, pdu_bytes}
use Rattle.law_moves.proofs.Vocabulary.{AreAllowedAtEnd, end_started, all_end_moved}
use Rattle.law_moves.proofs.Lemmas.{PutKeeps, RowKeeps, other_more}
use Rattle.law_role_server.proofs.Vocabulary.{InStage, InLeg, Leaving, OutLeg, Stage, Tells, Server, is_open, is_due, is_shut, is_fresh, same_cookie, in_leg, with_in, without_in, without_out, out_place, waits, Gate, lets, Done, took, refuse, unexpected, is_first, up, opens, first_in, with_first_in, conn_b2_at, on_conn_a2, on_conn_b2, channel_at, admitted_by, admitted_on, on_ack_to}
use Rattle.law_role_server.proofs.Vocabulary.{on_ack, on_ping_traffic, opens_next, opens_leg, first_waiting, next_opened, becomes_current, moved_if, take, has_fresh_below, announced, in_r1_a2_by, in_r1_a2_at, on_in_r1_a2, leaves_by, hands_over, on_in_r1_a6, on_in_r2_a2, recycle, on_out_r1_a4, on_out_r1_a8, give, end_a2_waiting, end_a2_at, on_end_a2, settled, in_is_drawn, drawn_by, with_ack_dropped, lost_in, mark_by, Pick}
use Rattle.law_role_server.proofs.Vocabulary.{or_else, put_in_greeting, was_current, put_tells_by, put_tells, put_b1_by, put_b1, ack_due, put_ack_by, put_ack, put_in, put_in_by, out_greeting_at, put_out_greeting, gate_at, counts, was_put, waiting_by, waiting_at, put_waiting, may_go_at, pdu_by as put_pdu_by, put_pdu, is_end_due, may_end_at, put_end, put_pdu_or_end, next_out, settled_pick, put_open, put_out_at, put_out, put_by as put_by_kind, on_is, on_os, packet_by, first}
use Rattle.law_role_server.proofs.Vocabulary.{acts as server_acts, rules as server_rules}
use Rattle.law_role_inproxy.proofs.Vocabulary.{is_leg}
use Rattle.law_role_server_rows.proofs.InTurn.Quiet.{is_opening}
use Rattle.law_role_outproxy.proofs.Sending.Legs.{bytes_here, bytes_still}
use Rattle.law_role_bytes.proofs.Steps.{ActsKeep, StepsKeep, end_moves_keep}
use Rattle.law_role_bytes.proofs.Windows.{admitted_more}
use Rattle.law_role_bytes.specs.Bytes.{CountsCame}

-- ---- what the facts are about

record Seen : Type 0 where
  received : ℕ
  has_next : Bool
  -- the leg of the current channel
  leg : ℕ

abbrev seen : Server → Seen
seen s = record {
  received = s.line.current.window.received;
  has_next = s.line.has_next;
  leg = s.current.leg;
}

-- the next channel, where there is one, is behind the current one, and its window counts what came
pub record Known (s : Server) (came put : List OnLeg) : Type 0 where
  pub above : s.line.has_next ≡ true → s.current.leg < s.next.leg
  pub behind : s.line.has_next ≡ true → CountsCame (is_leg s.next.leg) came s.line.next.window
  pub followed : s.line.finished ≡ true → s.line.has_next ≡ true

-- until the server is open the first leg is the current one
record Kept (s : Server) (came put : List OnLeg) : Type 0 where
  counted : CountsCame (is_leg s.current.leg) came s.line.current.window
  opening : is_opening s.stage ≡ true → (s.current.leg ≡ 1) × (s.line.has_next ≡ false)

-- these stay as they are, and no stage comes again
record Same (s t : Server) : Type 0 where
  same : seen t ≡ seen s
  stage : is_opening t.stage ≡ true → is_opening s.stage ≡ true

quiet : (s t : Server) → seen t ≡ seen s → t.stage ≡ s.stage → Same s t
quiet s t same stage = record {
  same = same;
  stage = λ e. ap is_opening (sym stage) ∙ e;
}

same_kept : (s t : Server) (came put : List OnLeg) → Same s t → Kept s came put
    → Kept t came put
same_kept s t came put same h = record {
  counted =
      ap (λ (x : Seen). x.received) same.same ∙ h.counted
      ∙ sym (ap (λ (x : Seen). pdu_bytes (of_leg (is_leg x.leg) came)) same.same);
  opening = λ e.
      let before = h.opening (same.stage e) in (
        ap (λ (x : Seen). x.leg) same.same ∙ before.0,
        ap (λ (x : Seen). x.has_next) same.same ∙ before.1,
      );
}

same_then : (s t u : Server) → Same s t → Same t u → Same s u
same_then s t u a b = record {
  same = b.same ∙ a.same;
  stage = λ e. a.stage (b.stage e);
}

-- ---- what leaves these alone

conn_a2_same : (s : Server) (n : ℕ) (count : Count) (a b : Cookie) (c d : ℕ)
    → Same s (on_conn_a2 s n count a b c d).0
conn_a2_same s n count a b c d = record { same = search rules; stage = search rules }

ack_to_same : (s : Server) (count : Count) (a b c : ℕ) (d : Cookie)
    → Same s (on_ack_to s count a b c d).0
ack_to_same s count a b c d = quiet s _ (search rules) (search rules)

ack_same : (s : Server) (n : ℕ) (count : Count) (a b : ℕ) (c : Cookie)
    → Same s (on_ack s n count a b c).0
ack_same s n count a b c = record { same = search rules; stage = search rules }

ping_same : (s : Server) (count : Count) → Same s (on_ping_traffic s count).0
ping_same s count = record { same = search rules; stage = search rules }

in_r2_a2_same : (s : Server) (n : ℕ) (count : Count) (a : Cookie)
    → Same s (on_in_r2_a2 s n count a).0
in_r2_a2_same s n count a = record { same = search rules; stage = search rules }

out_r1_a4_same : (s : Server) (n : ℕ) (count : Count) (a b c : Cookie) (d e f : ℕ)
    → Same s (on_out_r1_a4 s n count a b c d e f).0
out_r1_a4_same s n count a b c d e f = record { same = search rules; stage = search rules }

out_r1_a8_same : (s : Server) (count : Count) (a : ℕ) (b : Cookie)
    → Same s (on_out_r1_a8 s count a b).0
out_r1_a8_same s count a b = record { same = search rules; stage = search rules }

end_waiting_same : (s : Server) (o : Option InLeg) → Same s (end_a2_waiting s o).0
end_waiting_same s o = quiet s _ (search rules) (search rules)

end_same : (s : Server) (n : ℕ) (o : Option Which) → Same s (end_a2_at s n o).0
end_same s n None = end_waiting_same s (in_leg n s.ins)
end_same s n (Some Current) = quiet s _ (search rules) (search rules)
end_same s n (Some Next) = quiet s _ (search rules) (search rules)

end_a2_same : (s : Server) (n : ℕ) (count : Count) → Same s (on_end_a2 s n count).0
end_a2_same s n count =
    by_test (λ (d : Done). Same s d.0) (is_first count) (unexpected s)
    (end_a2_at s n (channel_at s n)) (λ e. quiet s s refl refl)
    (λ e. end_same s n (channel_at s n))

settled_same : (s : Server) → Same s (settled s)
settled_same s = record { same = search rules; stage = search rules }

give_same : (s : Server) (bytes : List ℕ) → Same s (give s bytes).0
give_same s bytes = record { same = search rules; stage = search rules }

recycle_same : (s : Server) → Same s (recycle s).0
recycle_same s = record { same = search rules; stage = search rules }

up_same : (s : Server) (leg : Leg) (cookie : Cookie) → Same s (up s leg cookie)
up_same s leg cookie = quiet s _ (search rules) (search rules)

lost_same : (s : Server) (n : ℕ) (o : Option InLeg) → Same s (lost_in s n o)
lost_same s n o = quiet s _ (search rules) (search rules)

drawn_same : (s : Server) (n : ℕ) (kind : LegKind) → Same s (drawn_by s n kind)
drawn_same s n InServer =
    by_test (Same s) (in_is_drawn (in_leg n s.ins)) (settled (without_in s n)) s
    (λ e. same_then s (without_in s n) (settled (without_in s n)) (quiet s _ refl refl)
    (settled_same (without_in s n)))
    (λ e. quiet s s refl refl)
drawn_same s n OutServer = quiet s s refl refl
drawn_same s n ClientIn = quiet s s refl refl
drawn_same s n ClientOut = quiet s s refl refl

mark_same : (s : Server) (n : ℕ) (kind : LegKind) → Same s (mark_by s n kind)
mark_same s n InServer =
    let t : Server = lost_in s n (in_leg n s.ins) in
    same_then s t (settled t) (lost_same s n (in_leg n s.ins)) (settled_same t)
mark_same s n OutServer =
    let t : Server = without_out (with_ack_dropped s n) n in
    same_then s t (settled t) (quiet s t refl refl) (settled_same t)
mark_same s n ClientIn = quiet s s refl refl
mark_same s n ClientOut = quiet s s refl refl

-- ---- what is put

abbrev PickSame : Server → Pick → Type 0
PickSame s pick = IfSome pick (λ (one : Server × Message). Same s one.0)

or_same : (s : Server) (a b : Pick) → PickSame s a → PickSame s b → PickSame s (or_else a b)
or_same s None b p q = q
or_same s (Some pick) b p q = p

-- on an is leg
tells_same : (s : Server) (leg : InLeg) (what : Tells) → PickSame s (put_tells_by s leg what)
tells_same s leg tells.Nothing = tt
tells_same s leg tells.ConnB3 =
    by_test (PickSame s) (is_open s.stage) _ None (λ e. quiet s _ refl refl) (λ e. tt)
tells_same s leg tells.InR1B2 =
    by_test (PickSame s) (was_current s leg) _ None
    (λ e. by ((leg.number == s.current.leg) && is_shut s.edge)) (λ e. tt)
  where
    by : (b : Bool)
        → Same s (with_in (if b then
        record s { line = lines.after_tell s.line Current; edge = edges.Told } else s)
        (record leg { tells = tells.Nothing }))
    by true = quiet s _ refl refl
    by false = quiet s _ refl refl

b1_same : (s : Server) (leg : InLeg) (how : Leaving) → PickSame s (put_b1_by s leg how)
b1_same s leg how = search rules

put_ack_same : (s : Server) (o : Option Ack) → PickSame s (put_ack_by s o)
put_ack_same s None = tt
put_ack_same s (Some ack) = quiet s _ refl refl

in_same : (s : Server) (n : ℕ) → PickSame s (put_in s n)
in_same s n = by (in_leg n s.ins)
  where
    by : (o : Option InLeg) → PickSame s (put_in_by s o)
    by None = tt
    by (Some leg) =
        or_same s (put_in_greeting s leg) _
        (by_test (PickSame s) (is_due leg.greeting) _ None (λ e. quiet s _ refl refl) (λ e. tt))
        (or_same s (put_tells s leg) _ (tells_same s leg leg.tells)
        (or_same s (put_b1 s leg) (put_ack s leg) (b1_same s leg leg.leaving)
        (put_ack_same s (ack_due s leg))))

-- on an os leg
counts_same : (s : Server) (place len : ℕ) → Same s (counts s place len)
counts_same s place len = record { same = search rules; stage = search rules }

was_put_same : (s : Server) (place : ℕ) (packet : Named) → Same s (was_put s place packet)
was_put_same s place packet = record { same = search rules; stage = search rules }

waiting_same : (s : Server) (place : ℕ) (x : Waiting × Option Due)
    → PickSame s (waiting_by s place x)
waiting_same s place (w, None) = tt
waiting_same s place (w, Some due) =
    let t : Server = record s { waiting = w } in
    same_then s t (was_put t place due.packet) (quiet s t refl refl)
    (was_put_same t place due.packet)

gate_same : (s : Server) (place : ℕ) (o : Option Gate) → PickSame s (waiting_at s place o)
gate_same s place None = tt
gate_same s place (Some gate) = waiting_same s place (taken_out (lets gate) s.waiting)

out_pdu_same : (s : Server) (place : ℕ) (o : Option ℕ) → PickSame s (put_pdu_by s place o)
out_pdu_same s place None = tt
out_pdu_same s place (Some len) =
    by_test (PickSame s) (may_go_at s len (slice_get s.outs place)) _ None
    (λ e. quiet s _ refl refl) (λ e. tt)

out_end_same : (s : Server) (place : ℕ) → PickSame s (put_end s place)
out_end_same s place =
    by_test (PickSame s) (is_end_due s && may_end_at s (slice_get s.outs place)) _ None
    (λ e. same_then s (counts s place 24) _ (counts_same s place 24) (quiet _ _ refl refl))
    (λ e. tt)

next_out_same : (s : Server) (place : ℕ) → PickSame s (next_out s place)
next_out_same s place =
    or_same s (put_waiting s place) (put_pdu_or_end s place)
    (gate_same s place (gate_at s (slice_get s.outs place)))
    (or_same s (put_pdu s place) (put_end s place)
    (out_pdu_same s place (front_length s.queue)) (out_end_same s place))

out_greeting_same : (s : Server) (place : ℕ) (o : Option OutLeg)
    → PickSame s (out_greeting_at s place o)
out_greeting_same s place None = tt
out_greeting_same s place (Some leg) =
    by_test (PickSame s) (is_due leg.greeting) _ None (λ e. quiet s _ refl refl) (λ e. tt)

out_settled_same : (s : Server) (pick : Pick) → PickSame s pick → PickSame s (settled_pick pick)
out_settled_same s None same = tt
out_settled_same s (Some pick) same =
    same_then s pick.0 (settled pick.0) same (settled_same pick.0)

out_same : (s : Server) (number : ℕ) → PickSame s (put_out s number)
out_same s number = by (out_place number s.outs)
  where
    by : (o : Option ℕ) → PickSame s (put_out_at s o)
    by None = tt
    by (Some place) =
        or_same s (put_out_greeting s place) (put_open s place)
        (out_greeting_same s place (slice_get s.outs place))
        (by_test (PickSame s) (is_open s.stage) (settled_pick (next_out s place)) None
        (λ e. out_settled_same s (next_out s place) (next_out_same s place)) (λ e. tt))

put_same : (s : Server) (number : ℕ) (kind : LegKind) → PickSame s (put_by_kind s number kind)
put_same s number InServer = in_same s number
put_same s number OutServer = out_same s number
put_same s number ClientIn = tt
put_same s number ClientOut = tt

-- ---- the next channel

module _ (came put : List OnLeg) where
  abbrev Fine : Server → Type 0
  Fine s = Kept s came put

  opens_kept : (s : Server) (o : Option InLeg) → is_opening s.stage ≡ false → Fine s
      → Fine (opens_leg s o)
  opens_kept s None opened h = h
  opens_kept s (Some l) opened h = by l.stage
    where
      by : (stage : InStage) → Fine (opens_next s l stage)
      by in_stage.Fresh = h
      by in_stage.Opened = h
      by (in_stage.Waits window timeout true) = record {
        counted = h.counted;
        opening = λ e. absurd (true≢false (sym e ∙ opened));
      }
      by (in_stage.Waits window timeout false) = record {
        counted = h.counted;
        opening = λ e. absurd (true≢false (sym e ∙ opened));
      }

  next_kept : (s : Server) → is_opening s.stage ≡ false → Fine s → Fine (next_opened s)
  next_kept s opened h =
      by_test Fine (s.line.has_next || waits kind.InR1A3 s.waiting) s
      (opens_leg s (first_waiting s.ins)) (λ e. h)
      (λ e. opens_kept s (first_waiting s.ins) opened h)

  not_opening : (s : Server) → Fine s → s.line.has_next ≡ true → is_opening s.stage ≡ false
  not_opening s h there = by (is_opening s.stage) refl
    where
      by : (b : Bool) → is_opening s.stage ≡ b → b ≡ false
      by true e = absurd (true≢false (sym there ∙ (h.opening e).1))
      by false e = refl

  not_moved : (had has : Bool) → has ≡ had → had && not has ≡ true → false ≡ true
  not_moved true true e f = f
  not_moved true false e f = e
  not_moved false has e f = f

  -- the next channel becomes the current one
  module _ (s : Server) (l : Line) (opened : l.has_next ≡ true → is_opening s.stage ≡ false)
      (behind : l.has_next ≡ true → CountsCame (is_leg s.next.leg) came l.next.window)
      (followed : l.finished ≡ true → l.has_next ≡ true) (h : Fine (record s { line = l })) where
    current_kept : l.has_next ≡ true → Fine (becomes_current (record s { line = moved_on l }))
    current_kept there =
        next_kept (record s { line = moved_on l; current = s.next; edge = edges.Shut })
        (opened there) (record {
          counted = behind there;
          opening = λ e. absurd (true≢false (sym e ∙ opened there));
        })

    settles_kept : Fine (moved_if l.has_next (record s { line = settled_line l }))
    settles_kept =
        by (l.finished && is_empty l.current.pdus)
        (λ e. followed (and_parts l.finished (is_empty l.current.pdus) e).0)
      where
        moves : (had : Bool) → l.has_next ≡ had → had ≡ true
            → Fine (moved_if had (record s { line = moved_on l }))
        moves true e f = current_kept e
        moves false e f = absurd (false≢true f)

        by : (b : Bool) → (b ≡ true → l.has_next ≡ true)
            → Fine (moved_if l.has_next (record s { line = if b then moved_on l else l }))
        by true there = moves l.has_next refl (there refl)
        by false there =
            by_test Fine (l.has_next && not l.has_next)
            (becomes_current (record s { line = l })) (record s { line = l })
            (λ f. absurd (false≢true (not_moved l.has_next l.has_next refl f))) (λ f. h)

  -- ---- a PDU is taken

  take_kept : (s : Server) → Known s came put → Fine s → Fine (take s)
  take_kept s k h = by s.line.current.pdus
    where
      by : (pdus : List (List ℕ))
          → Fine (moved_if s.line.has_next (record s { line = taken_line pdus s.line }))
      by [] =
          by_test Fine (s.line.has_next && not s.line.has_next) (becomes_current s) s
          (λ f. absurd (false≢true (not_moved s.line.has_next s.line.has_next refl f))) (λ f. h)
      by (pdu ∷ pdus) =
          settles_kept s (record s.line { current = released (pdu ∷ pdus) s.line.current })
          (not_opening s h) k.behind k.followed
          (record { counted = h.counted; opening = h.opening })

  -- ---- CONN/B2

  first_kept : (s : Server) (cookie : Cookie) (o : Option InLeg) → s.current.leg ≡ 1
      → Fine s
      → CountsCame (is_leg (first_in s cookie o).current.leg) came
      (first_in s cookie o).line.current.window
  first_kept s cookie None one h = h.counted
  first_kept s cookie (Some l) one h =
      h.counted ∙ ap (λ (n : ℕ). pdu_bytes (of_leg (is_leg n) came)) one

  first_leg : (s : Server) (cookie : Cookie) (o : Option InLeg) → s.current.leg ≡ 1
      → (first_in s cookie o).current.leg ≡ 1
  first_leg s cookie None one = one
  first_leg s cookie (Some l) one = refl

  first_next : (s : Server) (cookie : Cookie) (o : Option InLeg)
      → (first_in s cookie o).line.has_next ≡ s.line.has_next
  first_next s cookie None = refl
  first_next s cookie (Some l) = refl

  conn_b2_kept : (s : Server) (number : ℕ) (count : Count) (a b : Cookie) (c d : ℕ) → Fine s
      → Fine (on_conn_b2 s number count a b c d).0
  conn_b2_kept s number count a b c d h =
      by_test (λ (x : Done). Fine x.0) _ (conn_b2_at s s.stage a b c d) (unexpected s)
      (λ e. by s.stage refl) (λ e. h)
    where
      o : Option InLeg
      o = in_leg 1 s.ins

      one : (t : Stage) → s.stage ≡ t → is_opening t ≡ true
          → (s.current.leg ≡ 1) × (s.line.has_next ≡ false)
      one t e f = h.opening (ap is_opening e ∙ f)

      by : (stage : Stage) → s.stage ≡ stage → Fine (conn_b2_at s stage a b c d).0
      by stages.Waits e =
          let is = one stages.Waits e refl in record {
            counted = first_kept s b o is.0 h;
            opening = λ f. (first_leg s b o is.0, first_next s b o ∙ is.1);
          }
      by (stages.OutCame known) e =
          let is = one (stages.OutCame known) e refl in
          by_test (λ (x : Done). Fine x.0) (same_cookie known a)
          (took (opens (with_first_in s b) known c d)) (refuse s (refused.Cookie known a))
          (λ f. record {
            counted = first_kept s b o is.0 h;
            opening = λ g. absurd (false≢true g);
          })
          (λ f. h)
      by (stages.InCame known in_window timeout) e = h
      by (stages.Open known) e = h
      by stages.Ended e = h

  -- ---- IN_R1/A2

  a2_leg : (s : Server) (a b c d : Cookie) (e f : ℕ) (o : Option InLeg)
      → is_opening s.stage ≡ false → Fine s → Fine (in_r1_a2_by s a b c d e f o).0
  a2_leg s a b c d e f None opened h = h
  a2_leg s a b c d e f (Some l) opened h =
      by_test (λ (x : Done). Fine x.0) (not (is_fresh l.stage)) (unexpected s) _ (λ g. h)
      (λ g. by_test (λ (x : Done). Fine x.0) (not (same_cookie a b))
      (refuse s (refused.Cookie a b)) _ (λ g. h)
      (λ g. by_test (λ (x : Done). Fine x.0) (not (same_cookie s.newest.cookie c))
      (refuse s (refused.Cookie s.newest.cookie c)) (took (announced s l d e f)) (λ g. h)
      (λ g. next_kept (with_in (record s { newest = record { leg = l.number; cookie = d } })
      (record l { cookie = d; stage = in_stage.Waits e f false })) opened
      (record { counted = h.counted; opening = h.opening }))))

  a2_stage : (s : Server) (stage : Stage) (number : ℕ) (a b c : Cookie) (d e : ℕ)
      → s.stage ≡ stage → Fine s → Fine (in_r1_a2_at s stage number a b c d e).0
  a2_stage s (stages.Open known) number a b c d e at h =
      a2_leg s known a b c d e (in_leg number s.ins) (ap is_opening at) h
  a2_stage s stages.Waits number a b c d e at h = h
  a2_stage s (stages.OutCame known) number a b c d e at h = h
  a2_stage s (stages.InCame known in_window timeout) number a b c d e at h = h
  a2_stage s stages.Ended number a b c d e at h = h

  in_r1_a2_kept : (s : Server) (number : ℕ) (count : Count) (a b c : Cookie) (d e : ℕ)
      → Fine s → Fine (on_in_r1_a2 s number count a b c d e).0
  in_r1_a2_kept s number count a b c d e h =
      by_test (λ (x : Done). Fine x.0) (is_first count && not (has_fresh_below number s.ins))
      (in_r1_a2_at s s.stage number a b c d e) (unexpected s)
      (λ f. a2_stage s s.stage number a b c d e refl h) (λ f. h)

  -- ---- IN_R1/A6

  hands_kept : (s : Server) (number : ℕ) → s.line.has_next ≡ true → Known s came put → Fine s
      → Fine (hands_over s number)
  hands_kept s number there k h =
      subst (λ (had : Bool). Fine (moved_if had
      (record (leaves_by s (in_leg number s.ins)) { line = settled_line l }))) there
      (by (in_leg number s.ins))
    where
      l : Line
      l = record s.line { finished = true }

      by : (o : Option InLeg)
          → Fine (moved_if l.has_next (record (leaves_by s o) { line = settled_line l }))
      by None =
          settles_kept s l (not_opening s h) k.behind (λ e. there)
          (record { counted = h.counted; opening = h.opening })
      by (Some one) =
          settles_kept (leaves_by s (Some one)) l (not_opening s h) k.behind (λ e. there)
          (record { counted = h.counted; opening = h.opening })

  in_r1_a6_kept : (s : Server) (number : ℕ) (cookie : Cookie) → Known s came put → Fine s
      → Fine (on_in_r1_a6 s number cookie).0
  in_r1_a6_kept s number cookie k h =
      by_test (λ (d : Done). Fine d.0)
      ((number == s.current.leg)
      && (not s.line.finished && (s.line.has_next && not (waits kind.InR1A3 s.waiting))))
      (if same_cookie s.next.cookie cookie then took (hands_over s number)
      else refuse s (refused.Cookie s.next.cookie cookie))
      (unexpected s)
      (λ e. by_test (λ (d : Done). Fine d.0) (same_cookie s.next.cookie cookie)
      (took (hands_over s number)) (refuse s (refused.Cookie s.next.cookie cookie))
      (λ f. hands_kept s number (there e) k h) (λ f. h))
      (λ e. h)
    where
      there : (number == s.current.leg)
          && (not s.line.finished && (s.line.has_next && not (waits kind.InR1A3 s.waiting))) ≡ true
          → s.line.has_next ≡ true
      there e =
          (and_parts s.line.has_next (not (waits kind.InR1A3 s.waiting))
          (and_parts (not s.line.finished) _ (and_parts (number == s.current.leg) _ e).1).1).0

  -- ---- all packets

  is_kept : (s : Server) (number : ℕ) (count : Count) (packet : Named) → Known s came put
      → Fine s → Fine (on_is s number count packet).0
  is_kept s number count (named.ConnB2 v1 v2 v3 v4 v5 v6 v7 v8) k h =
      conn_b2_kept s number count v2 v3 v4 v5 h
  is_kept s number count (named.InR1A2 v1 v2 v3 v4 v5 v6) k h =
      in_r1_a2_kept s number count v2 v3 v4 v5 v6 h
  is_kept s number count (named.InR1A6 v1) k h = in_r1_a6_kept s number v1 k h
  is_kept s number count (named.InR2A2 v1) k h =
      same_kept s (on_in_r2_a2 s number count v1).0 came put (in_r2_a2_same s number count v1) h
  is_kept s number count (named.AckTo v1 v2 v3 v4) k h =
      same_kept s (on_ack_to s count v1 v2 v3 v4).0 came put (ack_to_same s count v1 v2 v3 v4) h
  is_kept s number count (named.OutR1A8 v1 v2) k h =
      same_kept s (on_out_r1_a8 s count v1 v2).0 came put (out_r1_a8_same s count v1 v2) h
  is_kept s number count named.EndA2 k h =
      same_kept s (on_end_a2 s number count).0 came put (end_a2_same s number count) h
  is_kept s number count packet k h = h

  os_kept : (s : Server) (number : ℕ) (count : Count) (packet : Named) → Fine s
      → Fine (on_os s number count packet).0
  os_kept s number count (named.ConnA2 v1 v2 v3 v4 v5) h =
      same_kept s (on_conn_a2 s number count v2 v3 v4 v5).0 came put
      (conn_a2_same s number count v2 v3 v4 v5) h
  os_kept s number count (named.OutR1A4 v1 v2 v3 v4 v5 v6 v7) h =
      same_kept s (on_out_r1_a4 s number count v2 v3 v4 v5 v6 v7).0 came put
      (out_r1_a4_same s number count v2 v3 v4 v5 v6 v7) h
  os_kept s number count (named.Ack v1 v2 v3) h =
      same_kept s (on_ack s number count v1 v2 v3).0 came put (ack_same s number count v1 v2 v3) h
  os_kept s number count (named.PingTraffic v1) h =
      same_kept s (on_ping_traffic s count).0 came put (ping_same s count) h
  os_kept s number count packet h = h

  packet_kept : (s : Server) (number : ℕ) (count : Count) (packet : Named) (kind : LegKind)
      → Known s came put → Fine s → Fine (packet_by s number count packet kind).0
  packet_kept s number count packet InServer k h = is_kept s number count packet k h
  packet_kept s number count packet OutServer k h = os_kept s number count packet h
  packet_kept s number count packet ClientIn k h = h
  packet_kept s number count packet ClientOut k h = h

  -- what is no PDU
  quiet_row : (one : OnLeg) (x : Done) → pdu_bytes (one.1 ∷ []) ≡ 0 → Fine x.0
      → RowKeeps Kept one came put x
  quiet_row one (t, Ok taken) none h = record {
    counted = h.counted ∙ sym (bytes_still (is_leg t.current.leg) came one none);
    opening = h.opening;
  }
  quiet_row one (t, Err why) none h = h

  -- ---- PDUs

  module _ (s : Server) (number : ℕ) (bytes : List ℕ) (k : Known s came put) (h : Fine s) where
    abbrev one : OnLeg
    one = (is_leg number, Pdu bytes)

    abbrev Row : Done → Type 0
    Row x = RowKeeps Kept one came put x

    now : number ≡ s.current.leg → channel_verdict s.line.current bytes ≡ Ok tt
        → Kept (record s { line = after_admit s.line Current bytes }) (came ++ one ∷ []) put
    now same e = record {
      counted =
          let more = admitted_more s.line.current bytes e in
          let before = h.counted in
          let all = subst (λ (n : ℕ). pdu_bytes (of_leg (is_leg n)
          (came ++ (is_leg number, Pdu bytes) ∷ []))
          ≡ pdu_bytes (of_leg (is_leg n) came) + pdu_bytes (Pdu bytes ∷ [])) same
          (bytes_here (is_leg number) came (Pdu bytes)) in omega (arith, more, before, all);
      opening = h.opening;
    }

    next : s.line.has_next ≡ true → number ≡ s.next.leg
        → Kept (record s { line = after_admit s.line Next bytes }) (came ++ one ∷ []) put
    next there same = record {
      counted =
          h.counted
          ∙ sym (ap pdu_bytes (other_more (is_leg s.current.leg) came one
          (test_other number s.current.leg
          (λ (e : number ≡ s.current.leg).
          let above = k.above there in absurd (omega (arith, above, same, e))))));
      opening = h.opening;
    }

    by : (which : Which) (v : Result (Unit {0}) LineFault)
        → (v ≡ Ok tt
        → Kept (record s { line = after_admit s.line which bytes }) (came ++ one ∷ []) put)
        → Row (admitted_by s which bytes v)
    by which (Ok taken) f = f refl
    by which (Err (line_fault.Window exceeded)) f = h
    by which (Err line_fault.Over) f = h

    pdu_row : Row (pdu_by s number bytes InServer)
    pdu_row =
        by_test Row (is_open s.stage) (admitted_on s bytes (channel_at s number)) (unexpected s)
        (λ e. by_test (λ (o : Option Which). Row (admitted_on s bytes o))
        ((number == s.current.leg) && not s.line.finished) (Some Current) _
        (λ f. by Current (lines.admit_verdict s.line Current bytes)
        (now (same_number number s.current.leg
        (and_parts (number == s.current.leg) (not s.line.finished) f).0)))
        (λ f. by_test (λ (o : Option Which). Row (admitted_on s bytes o))
        (s.line.has_next && (number == s.next.leg)) (Some Next) None
        (λ g. by Next (lines.admit_verdict s.line Next bytes)
        (λ ok. next (and_parts s.line.has_next (number == s.next.leg) g).0
        (same_number number s.next.leg (and_parts s.line.has_next (number == s.next.leg) g).1)))
        (λ g. h)))
        (λ e. h)

  pdu_kept : (s : Server) (number : ℕ) (bytes : List ℕ) (kind : LegKind) → Known s came put
      → Fine s
      → RowKeeps Kept (record { kind = kind; number = number }, Pdu bytes) came put
      (pdu_by s number bytes kind)
  pdu_kept s number bytes InServer k h = pdu_row s number bytes k h
  pdu_kept s number bytes OutServer k h = h
  pdu_kept s number bytes ClientIn k h = h
  pdu_kept s number bytes ClientOut k h = h

-- ---- the server

put_kept : (s : Server) (leg : Leg) (came put : List OnLeg) → Kept s came put
    → PutKeeps Kept leg came put (put_by_kind s leg.number leg.kind)
put_kept s leg came put h =
    by (put_by_kind s leg.number leg.kind) (put_same s leg.number leg.kind)
  where
    by : (pick : Pick) → PickSame s pick → PutKeeps Kept leg came put pick
    by None same = tt
    by (Some one) same =
        let k = same_kept s one.0 came put same h in
        record { counted = k.counted; opening = k.opening }

steps : StepsKeep server_rules Known Kept
steps = record {
  up = λ s leg cookie came put k. same_kept s (up s leg cookie) came put (up_same s leg cookie);
  head = λ s leg text came put k h. h;
  pdu = λ s leg count bytes came put. pdu_kept came put s leg.number bytes leg.kind;
  packet = λ s leg count packet came put k h.
      quiet_row came put (leg, Packet packet) (packet_by s leg.number count packet leg.kind) refl
      (packet_kept came put s leg.number count packet leg.kind k h);
  put = λ s leg came put k. put_kept s leg came put;
  drawn = λ s leg came put k.
      same_kept s (drawn_by s leg.number leg.kind) came put (drawn_same s leg.number leg.kind);
  mark = λ s leg came put k.
      same_kept s (mark_by s leg.number leg.kind) came put (mark_same s leg.number leg.kind);
  ping = λ s leg came put k h. h;
}

calls : ActsKeep server_acts Known Kept
calls = record {
  give = λ s bytes came put k. same_kept s (give s bytes).0 came put (give_same s bytes);
  take = λ s came put. take_kept came put s;
  close = λ s came put k h. record { counted = h.counted; opening = h.opening };
  recycle = λ s came put k. same_kept s (recycle s).0 came put (recycle_same s);
}

pub server_received : (window : ℕ) (moves : List EndMove)
    → ((front : List EndMove)
    → AreAllowedAtEnd server_rules server_acts (end_started (first window)) front
    → let p = (all_end_moved server_rules server_acts (end_started (first window)) front).passage
    in Known p.role p.came p.put)
    → AreAllowedAtEnd server_rules server_acts (end_started (first window)) moves
    → let p = (all_end_moved server_rules server_acts (end_started (first window)) moves).passage
    in CountsCame (is_leg p.role.current.leg) p.came p.role.line.current.window
server_received window moves known allowed =
    (end_moves_keep server_rules Known Kept steps server_acts calls
    (end_started (first window)) moves allowed known
    (record { counted = refl; opening = λ e. (refl, refl) })).counted
