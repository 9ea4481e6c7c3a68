-- a number is left for the successor of an OUT channel that is asked for
use Rattle.law_order.proofs.Vocabulary.{◌≡◌, ℕ, ◌+◌, ◌<◌, ◌≤◌, ◌==◌, ◌&&◌, List, true, nat_lt, not, if◌then◌else◌, Some, None, Ok, Err, arith, refl, rules, sym, ◌∙◌, subst, false≢true, and_parts, nat_tests, IfSome, slice_get, find, Option, Result}
use Rattle.rh_sig.specs.declared.named.Named.TheVariants as named
use Rattle.rh_shell.specs.declared.answers.Refused.TheVariants as refused
use Rattle.rh_server.specs.declared.state.Stage.TheVariants as stage
use Rattle.rh_server.specs.declared.out_line.Kind.TheVariants as kind
use Rattle.law_moves.proofs.Vocabulary.{by_test, other_number, Cookie, Named, front_length, Leg, LegKind, ClientOut, OutServer, ClientIn, InServer, Count, Due, RecycleRefused, Busy, Last, Message, Pdu, Packet, Waiting, taken, OnLeg, EndMove, end_started, all_end_moved}
use Rattle.law_moves.proofs.Lemmas.{RowKeeps, PutKeeps, StepsKeep, ActsKeep, end_moves_keep}
use Rattle.law_role_server.proofs.Vocabulary.{OutLeg, Replacement, Steady, Asked, Answered, Confirmed, Stage, lets, lets_packet, length_of, waits, Server, is_open, is_due, is_confirmed, same_cookie, in_leg, out_at, out_place, out_cookie, without_out, Done, took, refuse, unexpected, is_first, up, out_server, take, last_number, asks, is_asked, is_under_way, wishes, wished, recycle, answered_by, answered_on, out_r1_a4_by, out_r1_a4_at, may_answer, on_out_r1_a4, confirms}
use Rattle.law_role_server.proofs.Vocabulary.{out_r1_a8_at, on_out_r1_a8, give, completed, settled, drawn_by, in_is_drawn, lost_in, mark_by, with_ack_dropped, without_in, Pick, or_else, put_in, out_greeting_at, put_out_greeting, gate, gate_at, counts, was_put, waiting_by, waiting_at, put_waiting, may_go_at, pdu_by, put_pdu, is_end_due, may_end_at, put_end, put_pdu_or_end, next_out, settled_pick, put_open, put_out_at, put_by as put_by_kind, acts, first, on_is, on_os, packet_by}
use Rattle.law_role_server.proofs.Vocabulary.{pdu, rules as server_rules, since_asked, AreReplaced}
use Rattle.law_role_server.proofs.Counted.Dues.{found_may}
use Rattle.law_role_server_rows.specs.InTurn.Numbers.{HasNumbers}

record Seen : Type 0 where
  writing : ℕ
  at : Replacement

abbrev seen : Server → Seen
seen s = record { writing = s.writing; at = s.replacement }

abbrev Room : Seen → Type 0
Room x = x.writing + since_asked x.at ≤ last_number

abbrev Fits : Server → Type 0
Fits s = Room (seen s)

abbrev Holds : Server → List OnLeg → List OnLeg → Type 0
Holds s came put = Fits s

same_fits : (s t : Server) → seen t ≡ seen s → Fits s → Fits t
same_fits s t same h = subst Room (sym same) h

less_so : (a b : ℕ) → nat_lt a b ≡ true → a < b
less_so a b e = grind (arith, nat_tests)

-- ---- a successor is asked for

wished_fits : (s : Server) → Fits s → Fits (wished s)
wished_fits s h =
    by_test Fits (wishes s) (asks s) s
    (λ e.
    let less = less_so s.writing last_number
    (and_parts (nat_lt s.writing last_number) _ (and_parts (is_open s.stage) _ e).1).0 in
    omega (arith, less))
    (λ e. h)

completed_same : (s : Server) → seen (completed s) ≡ seen s
completed_same s = search rules

settled_fits : (s : Server) → Fits s → Fits (settled s)
settled_fits s h = wished_fits (completed s) (same_fits s (completed s) (completed_same s) h)

recycle_fits : (s : Server) → Fits s → Fits (recycle s).0
recycle_fits s h =
    by_test Recycles (s.writing == last_number) (s, Err Last) other (λ e. h)
    (λ e. by_test Recycles (is_under_way s) (s, Err (Busy (out_server (s.writing + 1))))
    (asks s, Ok tt) (λ f. h)
    (λ f. let apart = other_number s.writing last_number e in omega (arith, apart, h)))
  where
    Recycles : Server × Result (Unit {0}) RecycleRefused → Type 0
    Recycles x = Fits x.0

    other : Server × Result (Unit {0}) RecycleRefused
    other =
        if is_under_way s then (s, Err (Busy (out_server (s.writing + 1)))) else (asks s, Ok tt)

-- ---- rows

out_r1_a4_fits : (s : Server) (n : ℕ) (count : Count) (a b c : Cookie) (d e f : ℕ) → Fits s
    → Fits (on_out_r1_a4 s n count a b c d e f).0
out_r1_a4_fits s n count a b c d e f h =
    by_test Answers (may_answer s n count) (out_r1_a4_at s s.stage n a b c d e f) (unexpected s)
    (λ g. by_stage s.stage (asked s.replacement h
    (and_parts (is_asked s.replacement) _ (and_parts (n == s.writing + 1) _
    (and_parts (is_first count) _ g).1).1).0)) (λ g. h)
  where
    Answers : Done → Type 0
    Answers x = Fits x.0

    asked : (at : Replacement) → Room (record { writing = s.writing; at = at })
        → is_asked at ≡ true → s.writing + 1 ≤ last_number
    asked Asked h e = h
    asked Steady h e = absurd (false≢true e)
    asked (Answered cookie) h e = absurd (false≢true e)
    asked Confirmed h e = absurd (false≢true e)

    answers : s.writing + 1 ≤ last_number → (place : Option ℕ) (o : Option OutLeg)
        → Answers (answered_by s c d e f place o)
    answers less (Some place) (Some leg) = less
    answers less (Some place) None = h
    answers less None o = h

    by_writing : s.writing + 1 ≤ last_number → (known : Cookie) (o : Option Cookie)
        → Answers (out_r1_a4_by s n known a b c d e f o)
    by_writing less known None = h
    by_writing less known (Some writing) =
        by_test Answers (not (same_cookie known a)) (refuse s (refused.Cookie known a)) _ (λ g. h)
        (λ g. by_test Answers (not (same_cookie writing b)) (refuse s (refused.Cookie writing b))
        (answered_on s n c d e f) (λ i. h)
        (λ i. answers less (out_place n s.outs) (out_at s.outs (out_place n s.outs))))

    by_stage : (at : Stage) → s.writing + 1 ≤ last_number
        → Answers (out_r1_a4_at s at n a b c d e f)
    by_stage (stage.Open known) less = by_writing less known (out_cookie s.writing s.outs)
    by_stage stage.Waits less = h
    by_stage (stage.OutCame connection) less = h
    by_stage (stage.InCame connection in_window timeout) less = h
    by_stage stage.Ended less = h

out_r1_a8_fits : (s : Server) (count : Count) (to : ℕ) (successor : Cookie) → Fits s
    → Fits (on_out_r1_a8 s count to successor).0
out_r1_a8_fits s count to successor h =
    by_test Confirms (not (is_first count) && ((to == 2) && not (waits kind.OutR1 s.waiting)))
    (out_r1_a8_at s successor s.replacement) (unexpected s) (λ e. by_stage s.replacement h)
    (λ e. h)
  where
    Confirms : Done → Type 0
    Confirms x = Fits x.0

    by_stage : (at : Replacement) → Room (record { writing = s.writing; at = at })
        → Confirms (out_r1_a8_at s successor at)
    by_stage (Answered cookie) k =
        by_test Confirms (same_cookie cookie successor) (took (confirms s))
        (refuse s (refused.Cookie cookie successor)) (λ e. k) (λ e. h)
    by_stage Steady k = h
    by_stage Asked k = h
    by_stage Confirmed k = h

is_fits : (s : Server) (n : ℕ) (count : Count) (m : Named) → Fits s
    → Fits (on_is s n count m).0
is_fits s n count (named.OutR1A8 a b) h = out_r1_a8_fits s count a b h
is_fits s n count m h = same_fits s (on_is s n count m).0 (search rules) h

os_fits : (s : Server) (n : ℕ) (count : Count) (m : Named) → Fits s
    → Fits (on_os s n count m).0
os_fits s n count (named.OutR1A4 v a b c d e f) h = out_r1_a4_fits s n count a b c d e f h
os_fits s n count m h = same_fits s (on_os s n count m).0 (search rules) h

packet_fits : (s : Server) (n : ℕ) (count : Count) (m : Named) (k : LegKind) → Fits s
    → Fits (packet_by s n count m k).0
packet_fits s n count m InServer h = is_fits s n count m h
packet_fits s n count m OutServer h = os_fits s n count m h
packet_fits s n count m ClientIn h = h
packet_fits s n count m ClientOut h = h

row_fits : (one : OnLeg) (came put : List OnLeg) (x : Done) → Fits x.0
    → RowKeeps Holds one came put x
row_fits one came put (t, Ok taken) h = h
row_fits one came put (t, Err why) h = h

-- ---- what is put

abbrev PickFits : Pick → Type 0
PickFits pick = IfSome pick (λ (one : Server × Message). Fits one.0)

or_fits : (a b : Pick) → PickFits a → PickFits b → PickFits (or_else a b)
or_fits None b h k = k
or_fits (Some pick) b h k = h

settled_pick_fits : (pick : Pick) → PickFits pick → PickFits (settled_pick pick)
settled_pick_fits None h = tt
settled_pick_fits (Some pick) h = settled_fits pick.0 h

counts_same : (s : Server) (place len : ℕ) → seen (counts s place len) ≡ seen s
counts_same s place len = search rules

in_same : (s : Server) (n : ℕ)
    → IfSome (put_in s n) (λ (one : Server × Message). seen one.0 ≡ seen s)
in_same s n = search rules

module _ (s : Server) (h : Fits s) where
  let_fits : (t : Server) (leg : OutLeg) (place : ℕ) (packet : Named) → seen t ≡ seen s
      → lets_packet (gate s leg) packet ≡ true → Fits (was_put t place packet)
  let_fits t leg place named.OutR1A9 same e =
      let hands = (and_parts (leg.number == s.writing) _ e).1 in
      let less = less_so s.writing last_number
      (and_parts (is_confirmed s.replacement) _
      (and_parts (is_confirmed s.replacement && nat_lt s.writing last_number) _ hands).0).1 in
      subst (λ (x : Seen). x.writing + 1 + 0 ≤ last_number)
      (sym (counts_same t place 24 ∙ same)) (omega (arith, less))
  let_fits t leg place (named.AckTo to received window cookie) same e =
      by_test Fits (to == 3) t (counts t place 56) (λ f. same_fits s t same h)
      (λ f. same_fits s (counts t place 56) (counts_same t place 56 ∙ same) h)
  let_fits t leg place packet same e =
      same_fits s (counts t place (length_of packet))
      (counts_same t place (length_of packet) ∙ same) h

  waiting_fits : (place : ℕ) (o : Option OutLeg) → PickFits (waiting_at s place (gate_at s o))
  waiting_fits place None = tt
  waiting_fits place (Some leg) =
      by (find (lets (gate s leg)) s.waiting.due)
      (found_may (lets (gate s leg)) s.waiting.due)
    where
      left : Waiting
      left = (taken (lets (gate s leg)) s.waiting).0

      by : (x : Option Due) → IfSome x (λ (due : Due). lets (gate s leg) due ≡ true)
          → PickFits (waiting_by s place (left, x))
      by None may = tt
      by (Some due) may =
          let_fits (record s { waiting = left }) leg place due.packet refl may

  out_fits : (place : Option ℕ) → PickFits (put_out_at s place)
  out_fits None = tt
  out_fits (Some place) =
      or_fits (put_out_greeting s place) (put_open s place) (greets (slice_get s.outs place))
      (by_test PickFits (is_open s.stage) (settled_pick (next_out s place)) None
      (λ e. settled_pick_fits (next_out s place)
      (or_fits (put_waiting s place) (put_pdu_or_end s place)
      (waiting_fits place (slice_get s.outs place))
      (or_fits (put_pdu s place) (put_end s place) (sends (front_length s.queue)) ends)))
      (λ e. tt))
    where
      greets : (o : Option OutLeg) → PickFits (out_greeting_at s place o)
      greets None = tt
      greets (Some leg) = by_test PickFits (is_due leg.greeting) _ None (λ e. h) (λ e. tt)

      sends : (len : Option ℕ) → PickFits (pdu_by s place len)
      sends None = tt
      sends (Some len) =
          by_test PickFits (may_go_at s len (slice_get s.outs place)) _ None (λ e. h) (λ e. tt)

      ends : PickFits (put_end s place)
      ends = by_test PickFits (is_end_due s && may_end_at s (slice_get s.outs place)) _ None
          (λ e. same_fits s (counts s place 24) (counts_same s place 24) h) (λ e. tt)

  put_fits : (n : ℕ) (k : LegKind) → PickFits (put_by_kind s n k)
  put_fits n InServer = by (put_in s n) (in_same s n)
    where
      by : (pick : Pick) → IfSome pick (λ (one : Server × Message). seen one.0 ≡ seen s)
          → PickFits pick
      by None same = tt
      by (Some one) same = same_fits s one.0 same h
  put_fits n OutServer = out_fits (out_place n s.outs)
  put_fits n ClientIn = tt
  put_fits n ClientOut = tt

pick_fits : (leg : Leg) (came put : List OnLeg) (pick : Pick) → PickFits pick
    → PutKeeps Holds leg came put pick
pick_fits leg came put None h = tt
pick_fits leg came put (Some one) h = h

-- ---- legs are drawn, and lost

drawn_fits : (s : Server) (n : ℕ) (k : LegKind) → Fits s → Fits (drawn_by s n k)
drawn_fits s n InServer h =
    by_test Fits (in_is_drawn (in_leg n s.ins)) (settled (without_in s n)) s
    (λ e. settled_fits (without_in s n) h) (λ e. h)
drawn_fits s n OutServer h = h
drawn_fits s n ClientIn h = h
drawn_fits s n ClientOut h = h

lost_same : (s : Server) (n : ℕ) → seen (lost_in s n (in_leg n s.ins)) ≡ seen s
lost_same s n = search rules

mark_fits : (s : Server) (n : ℕ) (k : LegKind) → Fits s → Fits (mark_by s n k)
mark_fits s n InServer h =
    let t : Server = lost_in s n (in_leg n s.ins) in
    settled_fits t (same_fits s t (lost_same s n) h)
mark_fits s n OutServer h = settled_fits (without_out (with_ack_dropped s n) n) h
mark_fits s n ClientIn h = h
mark_fits s n ClientOut h = h

-- ---- the role

up_same : (s : Server) (leg : Leg) (cookie : Cookie) → seen (up s leg cookie) ≡ seen s
up_same s leg cookie = search rules

pdu_same : (s : Server) (leg : Leg) (count : Count) (bytes : List ℕ)
    → seen (pdu s leg count bytes).0 ≡ seen s
pdu_same s leg count bytes = search rules

give_same : (s : Server) (bytes : List ℕ) → seen (give s bytes).0 ≡ seen s
give_same s bytes = search rules

take_same : (s : Server) → seen (take s) ≡ seen s
take_same s = search rules

steps : StepsKeep server_rules Holds
steps = record {
  up = λ s leg cookie came put h. same_fits s (up s leg cookie) (up_same s leg cookie) h;
  head = λ s leg text came put h. h;
  pdu = λ s leg count bytes came put h.
      row_fits (leg, Pdu bytes) came put (pdu s leg count bytes)
      (same_fits s (pdu s leg count bytes).0 (pdu_same s leg count bytes) h);
  packet = λ s leg count m came put h.
      row_fits (leg, Packet m) came put (packet_by s leg.number count m leg.kind)
      (packet_fits s leg.number count m leg.kind h);
  put = λ s leg came put h.
      pick_fits leg came put (put_by_kind s leg.number leg.kind)
      (put_fits s h leg.number leg.kind);
  drawn = λ s leg came put h. drawn_fits s leg.number leg.kind h;
  mark = λ s leg came put h. mark_fits s leg.number leg.kind h;
  ping = λ s leg came put h. h;
}

calls : ActsKeep acts Holds
calls = record {
  give = λ s bytes came put h. same_fits s (give s bytes).0 (give_same s bytes) h;
  take = λ s came put h. same_fits s (take s) (take_same s) h;
  close = λ s came put h. h;
  recycle = λ s came put h. recycle_fits s h;
}

pub has_numbers : (window : ℕ) (moves : List EndMove)
    → let p = (all_end_moved server_rules acts (end_started (first window)) moves).passage in
    AreReplaced p → HasNumbers p
has_numbers window moves counts =
    let room = end_moves_keep server_rules Holds steps acts calls (end_started (first window))
    moves (omega arith) in
    let writing = counts.writing in
    let asked = counts.asked in record {
      asked = omega (arith, room, writing, asked);
      handed_over = omega (arith, room, writing);
    }
