-- the rows of a server, and how far it is with the replacement of OUT channels
use Rattle.law_order.proofs.Vocabulary.{◌≡◌, ℕ, ◌+◌, ◌==◌, Bool, true, false, not, ◌&&◌, if◌then◌else◌, List, [], ◌∷◌, ◌++◌, Some, None, Ok, Err, refl, rules, sym, subst, and_parts, or_parts, not-true, not-false, nat_lt, Option, Result}
use Rattle.rh_sig.specs.declared.named.Named.TheVariants as named
use Rattle.rh_shell.specs.declared.answers.Refused.TheVariants as refused
use Rattle.rh_server.specs.declared.state.Stage.TheVariants as stage
use Rattle.rh_server.specs.declared.out_line.Kind.TheVariants as kind
use Rattle.law_moves.proofs.Vocabulary.{by_test, same_number, Cookie, Named, LegKind, ClientOut, OutServer, ClientIn, InServer, Count, RecycleRefused, Busy, Last, Packet, Waiting, OnLeg}
use Rattle.law_moves.proofs.Lemmas.{RowKeeps}
use Rattle.law_role_server.proofs.Vocabulary.{Stage, OutLeg, Replacement, Steady, Asked, Answered, Confirmed, is_ack, waits, Server, is_open, is_steady, same_cookie, out_at, out_place, out_cookie, Done, took, refuse, unexpected, is_first, on_conn_a2, on_conn_b2, out_server, on_ack_to, on_ack, on_ping_traffic, on_in_r1_a2, on_in_r1_a6, on_in_r2_a2, asks, recycle, is_under_way, last_number, wishes, wished, answered_by, answered_on, out_r1_a4_by, out_r1_a4_at, is_asked}
use Rattle.law_role_server.proofs.Vocabulary.{may_answer, on_out_r1_a4, confirms, out_r1_a8_at, on_out_r1_a8, on_end_a2, completed, settled, packet_by, on_is, on_os, is_conn_c1, is_in_r1_a3, is_in_r2_a3, is_out_r1_a1, is_out_r1_a5, leg_at, waiting_of}
use Rattle.law_role_server.proofs.Counted.Dues.{none_waits}
use Rattle.law_role_server.proofs.Counted.Adding.{MayAdd, conn_a2_adds, conn_b2_adds, in_r1_a2_adds, in_r1_a6_adds, in_r2_a2_adds, ack_to_adds}
use Rattle.law_role_server.proofs.Counted.Stages.{Kept, IsQuiet, came_quiet, others_wait, asks_kept, begins_kept, confirms_kept}
use Rattle.law_role_server.proofs.Counted.Packets.{LeavesAlone, a1_kind, a5_kind, c1_apart, r1_apart, r2_apart, ack_apart}

-- ---- what the facts are about

-- the replacement, and the channel that writes
pub record Channel : Type 0 where
  pub at : Replacement
  pub writing : ℕ

abbrev pub channel : Server → Channel
channel s = record { at = s.replacement; writing = s.writing }

-- and what waits
pub record Seen : Type 0 where
  pub now : Channel
  pub waiting : Waiting

abbrev pub seen : Server → Seen
seen s = record { now = channel s; waiting = s.waiting }

abbrev pub Holds : Server → List OnLeg → List OnLeg → Type 0
Holds s came put = Kept s.replacement s.writing s.waiting.due came put

pub same_holds : (s t : Server) (came put : List OnLeg) → seen t ≡ seen s → Holds s came put
    → Holds t came put
same_holds s t came put same h =
    subst (λ (x : Seen). Kept x.now.at x.now.writing x.waiting.due came put) (sym same) h

pub added_holds : (kind : Named → Bool) → LeavesAlone kind → (s t : Server) (came put : List OnLeg)
    → channel t ≡ channel s → MayAdd kind s t → Holds s came put → Holds t came put
added_holds kind alone s t came put same adds h =
    subst (λ (x : Channel). Kept x.at x.writing t.waiting.due came put) (sym same)
    (others_wait kind alone s.replacement s.writing s.waiting.due t.waiting.due came put adds h)

-- ---- a replacement is asked for

not_under_way : (s : Server) → is_under_way s ≡ false → is_steady s.replacement ≡ true
not_under_way s e =
    not-false (is_steady s.replacement)
    (or_parts (not (is_steady s.replacement)) (waits kind.OutR1 s.waiting) e).0

asks_holds : (s : Server) (came put : List OnLeg) → is_under_way s ≡ false → Holds s came put
    → Holds (asks s) came put
asks_holds s came put e h =
    asks_kept s.replacement s.writing s.waiting.due came put (not_under_way s e) h

completed_same : (s : Server) → seen (completed s) ≡ seen s
completed_same s = search rules

wished_holds : (s : Server) (came put : List OnLeg) → Holds s came put
    → Holds (wished s) came put
wished_holds s came put h =
    by_test (λ (t : Server). Holds t came put) (wishes s) (asks s) s
    (λ e. asks_holds s came put (not-true (is_under_way s)
    (and_parts (not (is_under_way s)) _ (and_parts (nat_lt s.writing last_number) _
    (and_parts (is_open s.stage) _ e).1).1).0) h)
    (λ e. h)

pub settled_holds : (s : Server) (came put : List OnLeg) → Holds s came put
    → Holds (settled s) came put
settled_holds s came put h =
    wished_holds (completed s) came put
    (same_holds s (completed s) came put (completed_same s) h)

pub recycle_holds : (s : Server) (came put : List OnLeg) → Holds s came put
    → Holds (recycle s).0 came put
recycle_holds s came put h =
    by_test Recycles (s.writing == last_number) (s, Err Last) other (λ e. h)
    (λ e. by_test Recycles (is_under_way s) (s, Err (Busy (out_server (s.writing + 1))))
    (asks s, Ok tt) (λ f. h) (λ f. asks_holds s came put f h))
  where
    Recycles : Server × Result (Unit {0}) RecycleRefused → Type 0
    Recycles x = Holds x.0 came put

    other : Server × Result (Unit {0}) RecycleRefused
    other =
        if is_under_way s then (s, Err (Busy (out_server (s.writing + 1)))) else (asks s, Ok tt)

-- ---- rows

module _ (s : Server) (one : OnLeg) (came put : List OnLeg) (h : Holds s came put) where
  abbrev pub Row : Done → Type 0
  Row x = RowKeeps Holds one came put x

  -- one that leaves these alone
  pub row_same : IsQuiet one → (x : Done) → seen x.0 ≡ seen s → Row x
  row_same quiet (t, Ok took') same =
      same_holds s t (came ++ one ∷ []) put same
      (came_quiet s.replacement s.writing s.waiting.due came put one quiet h)
  row_same quiet (t, Err why) same = same_holds s t came put same h

  -- one that adds others to those that wait
  row_adds : IsQuiet one → (kind : Named → Bool) → LeavesAlone kind → (x : Done)
      → channel x.0 ≡ channel s → MayAdd kind s x.0 → Row x
  row_adds quiet kind alone (t, Ok took') same adds =
      added_holds kind alone s t (came ++ one ∷ []) put same adds
      (came_quiet s.replacement s.writing s.waiting.due came put one quiet h)
  row_adds quiet kind alone (t, Err why) same adds =
      added_holds kind alone s t came put same adds h

-- where OUT_R1/A4 is taken
record MayAnswer (s : Server) (n : ℕ) : Type 0 where
  next : n ≡ s.writing + 1
  asked : is_asked s.replacement ≡ true
  gone : waits kind.OutR1 s.waiting ≡ false

a4_row : (s : Server) (n : ℕ) (count : Count) (v : ℕ) (a b c : Cookie) (d e f : ℕ)
    (came put : List OnLeg) → Holds s came put
    → RowKeeps Holds (leg_at OutServer n, Packet (named.OutR1A4 v a b c d e f)) came put
    (on_out_r1_a4 s n count a b c d e f)
a4_row s n count v a b c d e f came put h =
    by_test Answers (may_answer s n count) (out_r1_a4_at s s.stage n a b c d e f) (unexpected s)
    (λ g. by_stage (may g) s.stage) (λ g. h)
  where
    Answers : Done → Type 0
    Answers x =
        RowKeeps Holds (leg_at OutServer n, Packet (named.OutR1A4 v a b c d e f)) came put x

    May : Type 0
    May = MayAnswer s n

    may : may_answer s n count ≡ true → May
    may g =
        let one = (and_parts (is_first count) _ g).1 in
        let two = (and_parts (n == s.writing + 1) _ one).1 in
        let three = and_parts (is_asked s.replacement) _ two in record {
          next = same_number n (s.writing + 1) (and_parts (n == s.writing + 1) _ one).0;
          asked = three.0;
          gone = not-true (waits kind.OutR1 s.waiting) three.1;
        }

    answers : May → (place : Option ℕ) (o : Option OutLeg)
        → Answers (answered_by s c d e f place o)
    answers is (Some place) (Some leg) =
        begins_kept s.replacement s.writing s.waiting.due came put n v a b c d e f is.asked
        (none_waits kind.OutR1 is_out_r1_a1 a1_kind s.waiting.due h.origins is.gone) is.next h
    answers is (Some place) None = h
    answers is None o = h

    by_writing : May → (known : Cookie) (o : Option Cookie)
        → Answers (out_r1_a4_by s n known a b c d e f o)
    by_writing is known None = h
    by_writing is known (Some writing) =
        by_test Answers (not (same_cookie known a)) (refuse s (refused.Cookie known a)) _ (λ g. h)
        (λ g. by_test Answers (not (same_cookie writing b)) (refuse s (refused.Cookie writing b))
        (answered_on s n c d e f) (λ i. h)
        (λ i. answers is (out_place n s.outs) (out_at s.outs (out_place n s.outs))))

    by_stage : May → (at : Stage) → Answers (out_r1_a4_at s at n a b c d e f)
    by_stage is (stage.Open known) = by_writing is known (out_cookie s.writing s.outs)
    by_stage is stage.Waits = h
    by_stage is (stage.OutCame connection) = h
    by_stage is (stage.InCame connection in_window timeout) = h
    by_stage is stage.Ended = h

-- OUT_R1/A8
a8_row : (s : Server) (n : ℕ) (count : Count) (to : ℕ) (successor : Cookie)
    (came put : List OnLeg) → Holds s came put
    → RowKeeps Holds (leg_at InServer n, Packet (named.OutR1A8 to successor)) came put
    (on_out_r1_a8 s count to successor)
a8_row s n count to successor came put h =
    by_test Confirms (not (is_first count) && ((to == 2) && not (waits kind.OutR1 s.waiting)))
    (out_r1_a8_at s successor s.replacement) (unexpected s)
    (λ e. by_stage (gone e) s.replacement h) (λ e. h)
  where
    Confirms : Done → Type 0
    Confirms x =
        RowKeeps Holds (leg_at InServer n, Packet (named.OutR1A8 to successor)) came put x

    gone : not (is_first count) && ((to == 2) && not (waits kind.OutR1 s.waiting)) ≡ true
        → waiting_of is_out_r1_a5 s.waiting.due ≡ 0
    gone e =
        none_waits kind.OutR1 is_out_r1_a5 a5_kind s.waiting.due h.origins
        (not-true (waits kind.OutR1 s.waiting)
        (and_parts (to == 2) _ (and_parts (not (is_first count)) _ e).1).1)

    by_stage : waiting_of is_out_r1_a5 s.waiting.due ≡ 0 → (at : Replacement)
        → Kept at s.writing s.waiting.due came put → Confirms (out_r1_a8_at s successor at)
    by_stage none (Answered cookie) k =
        by_test Confirms (same_cookie cookie successor) (took (confirms s))
        (refuse s (refused.Cookie cookie successor))
        (λ e. confirms_kept cookie s.writing s.waiting.due came put n to successor none k)
        (λ e. h)
    by_stage none Steady k = h
    by_stage none Asked k = h
    by_stage none Confirmed k = h

is_row : (s : Server) (n : ℕ) (count : Count) (m : Named) (came put : List OnLeg)
    → Holds s came put
    → RowKeeps Holds (leg_at InServer n, Packet m) came put (on_is s n count m)
is_row s n count (named.ConnB2 v a b c d e f g) came put h =
    row_adds s (leg_at InServer n, Packet (named.ConnB2 v a b c d e f g)) came put h (refl, refl)
    is_conn_c1 c1_apart (on_conn_b2 s n count a b c d) (search rules)
    (conn_b2_adds s n count a b c d)
is_row s n count (named.InR1A2 v a b c d e) came put h =
    row_adds s (leg_at InServer n, Packet (named.InR1A2 v a b c d e)) came put h (refl, refl)
    is_in_r1_a3 r1_apart (on_in_r1_a2 s n count a b c d e) (search rules)
    (in_r1_a2_adds s n count a b c d e)
is_row s n count (named.InR1A6 a) came put h =
    row_adds s (leg_at InServer n, Packet (named.InR1A6 a)) came put h (refl, refl)
    is_in_r1_a3 r1_apart (on_in_r1_a6 s n a) (search rules) (in_r1_a6_adds s n a)
is_row s n count (named.InR2A2 a) came put h =
    row_adds s (leg_at InServer n, Packet (named.InR2A2 a)) came put h (refl, refl)
    is_in_r2_a3 r2_apart (on_in_r2_a2 s n count a) (search rules) (in_r2_a2_adds s n count a)
is_row s n count (named.AckTo a b c d) came put h =
    row_adds s (leg_at InServer n, Packet (named.AckTo a b c d)) came put h (refl, refl)
    is_ack ack_apart (on_ack_to s count a b c d) (search rules) (ack_to_adds s count a b c d)
is_row s n count (named.OutR1A8 a b) came put h = a8_row s n count a b came put h
is_row s n count named.EndA2 came put h =
    row_same s (leg_at InServer n, Packet named.EndA2) came put h (refl, refl)
    (on_end_a2 s n count) (search rules)
is_row s n count m came put h = h

os_row : (s : Server) (n : ℕ) (count : Count) (m : Named) (came put : List OnLeg)
    → Holds s came put
    → RowKeeps Holds (leg_at OutServer n, Packet m) came put (on_os s n count m)
os_row s n count (named.ConnA2 v a b c d) came put h =
    row_adds s (leg_at OutServer n, Packet (named.ConnA2 v a b c d)) came put h (refl, refl)
    is_conn_c1 c1_apart (on_conn_a2 s n count a b c d) (search rules)
    (conn_a2_adds s n count a b c d)
os_row s n count (named.OutR1A4 v a b c d e f) came put h =
    a4_row s n count v a b c d e f came put h
os_row s n count (named.Ack a b c) came put h =
    row_same s (leg_at OutServer n, Packet (named.Ack a b c)) came put h (refl, refl)
    (on_ack s n count a b c) (search rules)
os_row s n count (named.PingTraffic a) came put h =
    row_same s (leg_at OutServer n, Packet (named.PingTraffic a)) came put h (refl, refl)
    (on_ping_traffic s count) (search rules)
os_row s n count m came put h = h

pub packet_row : (s : Server) (n : ℕ) (count : Count) (m : Named) (k : LegKind)
    (came put : List OnLeg) → Holds s came put
    → RowKeeps Holds (leg_at k n, Packet m) came put (packet_by s n count m k)
packet_row s n count m InServer came put h = is_row s n count m came put h
packet_row s n count m OutServer came put h = os_row s n count m came put h
packet_row s n count m ClientIn came put h = h
packet_row s n count m ClientOut came put h = h
