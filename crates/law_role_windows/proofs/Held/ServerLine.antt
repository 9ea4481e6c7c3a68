-- a server holds no more than its window of each IN channel
use Rattle.rh_window.specs.Receiving as windows
use Rattle.law_order.proofs.Vocabulary.{◌≡◌, ℕ, ◌-◌, ◌*◌, ◌^◌, ◌==◌, List, [], ◌∷◌, length, Bool, true, false, ◌&&◌, ◌||◌, not, Some, None, Ok, Err, refl, sym, ◌∙◌, subst, rules, false≢true, and_parts, or_parts, if◌then◌else◌, nat_le, nat_lt, is_ok, slice_get, IfSome, Option, Result}
use Rattle.rh_sig.specs.declared.named.Named.TheVariants as named
use Rattle.rh_line.specs.Lines.{taken as taken_line}
use Rattle.rh_line.specs.Lines as lines
use Rattle.rh_line.specs.Histories as calls
use Rattle.rh_shell.specs.declared.answers.Refused.TheVariants as refused
use Rattle.rh_server.specs.declared.state.Edge.{Edge}
use Rattle.rh_server.specs.declared.state.InStage.{InStage}
use Rattle.rh_server.specs.declared.state.InLeg.{InLeg}
use Rattle.rh_server.specs.declared.state.Leaving.{Leaving}
use Rattle.rh_server.specs.declared.state.OutLeg.{OutLeg}
use Rattle.rh_server.specs.declared.state.Stage.{Stage}
use Rattle.rh_server.specs.declared.state.Tells.{Tells}
use Rattle.rh_server.specs.States.{Server, is_open, is_due, is_shut, is_fresh, is_waiting, stays, same_cookie, in_leg, with_in, without_in, without_out, out_place}
use Rattle.rh_server.specs.OutLines.{waits, Gate, lets}
use Rattle.rh_server.specs.Opening.{Done, took, refuse, unexpected, is_first, up, on_conn_a2, on_conn_b2}
use Rattle.rh_server.specs.Acknowledging.{channel_at, admitted_by, admitted_on, on_ack_to, on_ack}
use Rattle.rh_server.specs.InReplacement.{ended_if, opens_next, opens_leg, first_waiting, next_opened, becomes_current, moved_if, take, has_fresh_below, announced, in_r1_a2_by, in_r1_a2_at, on_in_r1_a2, leaves_by, hands_over, on_in_r1_a6, on_in_r2_a2}
use Rattle.rh_server.specs.OutReplacement.{recycle, on_out_r1_a4, on_out_r1_a8}
use Rattle.rh_server.specs.Ending.{give, is_over_on, end_a2_waiting, end_a2_at, on_end_a2, settled, in_is_drawn, drawn_by, with_ack_dropped, lost_in, mark_by}
use Rattle.rh_server.specs.Putting.{Pick, or_else, put_in_greeting, told_by, was_current, put_tells_by, put_tells, put_b1_by, put_b1, ack_due, put_ack_by, put_ack, next_in, put_in_by, out_greeting_at, put_out_greeting, gate_at, counts, was_put, waiting_by, waiting_at, put_waiting, may_go_at, pdu_by as put_pdu_by, put_pdu, is_end_due, may_end_at, put_end, put_pdu_or_end, next_out, settled_pick, put_open, put_out_at, put_by}
use Rattle.rh_server.specs.Servers.{on_is, on_os, packet_by, pdu_by, acts as server_acts, rules as server_rules}
use Rattle.rh_server.specs.declared.out_line.Kind.TheVariants as kind
use Rattle.rh_server.specs.declared.state.Edge.TheVariants as edges
use Rattle.rh_server.specs.declared.state.InStage.TheVariants as in_stage
use Rattle.rh_server.specs.declared.state.Leaving.TheVariants as leaving
use Rattle.rh_server.specs.declared.state.Stage.TheVariants as stages
use Rattle.rh_server.specs.declared.state.Tells.TheVariants as tells
use Rattle.law_moves.proofs.Vocabulary.{Receiver, Ack, LEAST_WINDOW, by_test, IsPdu, Cookie, Named, Incoming, Line, IsThere, admitted, channel_verdict, released, settled as settled_line, moved_on, is_empty, due, after_admit, after_end, after_open_next, after_tell, front_length, LineFault, Window, Over, Leg, LegKind, ClientOut, OutServer, ClientIn, InServer, Which, Current, Next, Count, Due, Message, Waiting, taken as taken_out}
use Rattle.law_role_windows.proofs.Held.Lines.{IsKept, call_kept, due_then}
use Rattle.law_role_windows.proofs.Held.Roles.{RulesKeep, ActsKeep}

-- a window that is still to be told is shut, and so is that of a next channel
pub record AreKept (window : ℕ) (edge : Edge) (line : Line) : Type 0 where
  pub kept : IsKept window line
  pub shut : is_shut edge ≡ true → line.current.window.told ≡ 0
  pub next : line.next.window.told ≡ 0

abbrev pub Kept : ℕ → Server → Type 0
Kept window s = AreKept window s.edge s.line

-- what these facts are about
record Seen : Type 0 where
  edge : Edge
  line : Line

abbrev seen : Server → Seen
seen s = record { edge = s.edge; line = s.line }

abbrev Same : Server → Server → Type 0
Same s t = seen t ≡ seen s

same_kept : (window : ℕ) (s t : Server) → Same s t → Kept window s → Kept window t
same_kept window s t same k = subst (λ (x : Seen). AreKept window x.edge x.line) (sym same) k

-- ---- what leaves both as they are

same_up : (s : Server) (leg : Leg) (cookie : Cookie) → Same s (up s leg cookie)
same_up s leg cookie = search rules

same_conn_a2 : (s : Server) (n : ℕ) (count : Count) (a b : Cookie) (c d : ℕ)
    → Same s (on_conn_a2 s n count a b c d).0
same_conn_a2 s n count a b c d = search rules

same_conn_b2 : (s : Server) (n : ℕ) (count : Count) (a b : Cookie) (c d : ℕ)
    → Same s (on_conn_b2 s n count a b c d).0
same_conn_b2 s n count a b c d = search rules

same_ack_to : (s : Server) (count : Count) (a b c : ℕ) (d : Cookie)
    → Same s (on_ack_to s count a b c d).0
same_ack_to s count a b c d = search rules

same_ack : (s : Server) (n : ℕ) (count : Count) (a b : ℕ) (c : Cookie)
    → Same s (on_ack s n count a b c).0
same_ack s n count a b c = search rules

same_in_r2_a2 : (s : Server) (n : ℕ) (count : Count) (a : Cookie)
    → Same s (on_in_r2_a2 s n count a).0
same_in_r2_a2 s n count a = search rules

same_out_r1_a4 : (s : Server) (n : ℕ) (count : Count) (a b c : Cookie) (d e f : ℕ)
    → Same s (on_out_r1_a4 s n count a b c d e f).0
same_out_r1_a4 s n count a b c d e f = search rules

same_out_r1_a8 : (s : Server) (count : Count) (a : ℕ) (b : Cookie)
    → Same s (on_out_r1_a8 s count a b).0
same_out_r1_a8 s count a b = search rules

same_end_waiting : (s : Server) (o : Option InLeg) → Same s (end_a2_waiting s o).0
same_end_waiting s o = search rules

same_settled : (s : Server) → Same s (settled s)
same_settled s = search rules

same_drawn : (s : Server) (n : ℕ) (kind : LegKind) → Same s (drawn_by s n kind)
same_drawn s n InServer =
    by_test (Same s) (in_is_drawn (in_leg n s.ins)) (settled (without_in s n)) s
    (λ e. same_settled (without_in s n)) (λ e. refl)
same_drawn s n OutServer = refl
same_drawn s n ClientIn = refl
same_drawn s n ClientOut = refl

same_lost : (s : Server) (n : ℕ) (o : Option InLeg) → Same s (lost_in s n o)
same_lost s n None = refl
same_lost s n (Some leg) =
    by_test (Same s) (is_waiting leg.stage && stays leg.leaving) _ _ (λ e. refl) (λ e. refl)

same_mark : (s : Server) (n : ℕ) (kind : LegKind) → Same s (mark_by s n kind)
same_mark s n InServer =
    same_settled (lost_in s n (in_leg n s.ins)) ∙ same_lost s n (in_leg n s.ins)
same_mark s n OutServer = same_settled (without_out (with_ack_dropped s n) n)
same_mark s n ClientIn = refl
same_mark s n ClientOut = refl

same_give : (s : Server) (bytes : List ℕ) → Same s (give s bytes).0
same_give s bytes = search rules

same_recycle : (s : Server) → Same s (recycle s).0
same_recycle s = search rules

same_counts : (s : Server) (place len : ℕ) → Same s (counts s place len)
same_counts s place len = search rules

same_was_put : (s : Server) (place : ℕ) (packet : Named) → Same s (was_put s place packet)
same_was_put s place packet = search rules

-- ---- windows

pub told_admitted : (c : Incoming) (pdu : List ℕ) → (admitted c pdu).window.told ≡ c.window.told
told_admitted c pdu =
    by_test (λ (d : Incoming). d.window.told ≡ c.window.told) (is_ok (channel_verdict c pdu)) _ c
    (λ e. by_test (λ (r : Receiver). r.told ≡ c.window.told)
    (is_ok (windows.admit_verdict c.window (length pdu))) _ c.window (λ f. refl) (λ f. refl))
    (λ e. refl)

-- of a shut window no acknowledgement is due
not_due : (r : Receiver) (ack : Ack) → windows.due r ≡ Some ack → r.told ≡ 0 → false ≡ true
not_due r ack e shut =
    subst (λ (told : ℕ). nat_lt 0 told ≡ true) shut
    (first_of (nat_lt 0 r.told) (nat_lt r.told (windows.edge_of r))
    (nat_lt (windows.edge_of r) (2 ^ 32))
    (nat_le r.size (2 * (windows.edge_of r - r.told))
    || nat_lt (r.told - r.received) LEAST_WINDOW)
    (is_some (windows.is_due r) _ ack e))
  where
    first_of : (a b c d : Bool) → a && b && c && d ≡ true → a ≡ true
    first_of true b c d f = refl
    first_of false b c d f = absurd cc

    is_some : (b : Bool) (x y : Ack) → (if b then Some x else None) ≡ Some y → b ≡ true
    is_some true x y f = refl
    is_some false x y f = absurd cc

module _ (window : ℕ) where
  -- ---- PDUs

  admitted_kept : (s : Server) (which : Which) (bytes : List ℕ) → IsThere s.line which
      → IsPdu bytes → Kept window s
      → AreKept window s.edge (after_admit s.line which bytes)
  admitted_kept s which bytes there is k = record {
    kept = call_kept window s.line (calls.Admits which bytes) (there, is) k.kept;
    shut = λ e. current which ∙ k.shut e;
    next = following which ∙ k.next;
  }
    where
      current : (w : Which)
          → (after_admit s.line w bytes).current.window.told ≡ s.line.current.window.told
      current Current = told_admitted s.line.current bytes
      current Next = refl

      following : (w : Which)
          → (after_admit s.line w bytes).next.window.told ≡ s.line.next.window.told
      following Current = refl
      following Next = told_admitted s.line.next bytes

  admit_kept : (s : Server) (which : Which) (bytes : List ℕ) (v : Result (Unit {0}) LineFault)
      → IsThere s.line which → IsPdu bytes → Kept window s
      → Kept window (admitted_by s which bytes v).0
  admit_kept s which bytes (Ok admitted) there is k = admitted_kept s which bytes there is k
  admit_kept s which bytes (Err (Window exceeded)) there is k = k
  admit_kept s which bytes (Err Over) there is k = k

  pdu_at : (s : Server) (bytes : List ℕ) (o : Option Which) → IfSome o (IsThere s.line)
      → IsPdu bytes → Kept window s → Kept window (admitted_on s bytes o).0
  pdu_at s bytes None there is k = k
  pdu_at s bytes (Some which) there is k =
      admit_kept s which bytes (lines.admit_verdict s.line which bytes) there is k

  -- the channel of the line that a leg has is there
  channel_there : (s : Server) (n : ℕ) → IfSome (channel_at s n) (IsThere s.line)
  channel_there s n =
      by_test (λ (o : Option Which). IfSome o (IsThere s.line))
      ((n == s.current.leg) && not s.line.finished) (Some Current) _ (λ e. tt)
      (λ e. by_test (λ (o : Option Which). IfSome o (IsThere s.line))
      (s.line.has_next && (n == s.next.leg)) (Some Next) None
      (λ f. (and_parts s.line.has_next (n == s.next.leg) f).0) (λ f. tt))

  pdu_kept : (s : Server) (n : ℕ) (bytes : List ℕ) (kind : LegKind) → IsPdu bytes
      → Kept window s → Kept window (pdu_by s n bytes kind).0
  pdu_kept s n bytes InServer is k =
      by_test (λ (d : Done). Kept window d.0) (is_open s.stage)
      (admitted_on s bytes (channel_at s n)) (unexpected s)
      (λ e. pdu_at s bytes (channel_at s n) (channel_there s n) is k) (λ e. k)
  pdu_kept s n bytes OutServer is k = k
  pdu_kept s n bytes ClientIn is k = k
  pdu_kept s n bytes ClientOut is k = k

  -- ---- END

  ended_kept : (edge : Edge) (line : Line) (which : Which) → IsThere line which
      → AreKept window edge line → AreKept window edge (after_end line which)
  ended_kept edge line Current there k = record {
    kept = call_kept window line (calls.Ends Current) there k.kept;
    shut = k.shut;
    next = k.next;
  }
  ended_kept edge line Next there k = record {
    kept = call_kept window line (calls.Ends Next) there k.kept;
    shut = k.shut;
    next = k.next;
  }

  end_at : (s : Server) (n : ℕ) (o : Option Which) → IfSome o (IsThere s.line) → Kept window s
      → Kept window (end_a2_at s n o).0
  end_at s n None there k =
      same_kept window s (end_a2_waiting s (in_leg n s.ins)).0
      (same_end_waiting s (in_leg n s.ins)) k
  end_at s n (Some which) there k =
      by_test (λ (d : Done). Kept window d.0) (is_over_on s which) (unexpected s)
      (took (record s { line = after_end s.line which })) (λ e. k)
      (λ e. ended_kept s.edge s.line which there k)

  end_kept : (s : Server) (n : ℕ) (count : Count) → Kept window s
      → Kept window (on_end_a2 s n count).0
  end_kept s n count k =
      by_test (λ (d : Done). Kept window d.0) (is_first count) (unexpected s)
      (end_a2_at s n (channel_at s n)) (λ e. k)
      (λ e. end_at s n (channel_at s n) (channel_there s n) k)

  -- ---- the next channel

  opened_kept : (edge : Edge) (line : Line) (ended : Bool) → line.has_next ≡ false
      → AreKept window edge line
      → AreKept window edge (ended_if ended (after_open_next line true))
  opened_kept edge line ended there k = by ended
    where
      opened : AreKept window edge (after_open_next line true)
      opened = record {
        kept = call_kept window line (calls.OpensNext true) there k.kept;
        shut = k.shut;
        next = refl;
      }

      by : (e : Bool) → AreKept window edge (ended_if e (after_open_next line true))
      by false = opened
      by true = ended_kept edge (after_open_next line true) Next refl opened

  opens_kept : (s : Server) (o : Option InLeg) → s.line.has_next ≡ false → Kept window s
      → Kept window (opens_leg s o)
  opens_kept s None there k = k
  opens_kept s (Some leg) there k = by leg.stage
    where
      by : (stage : InStage) → Kept window (opens_next s leg stage)
      by in_stage.Fresh = k
      by in_stage.Opened = k
      by (in_stage.Waits in_window timeout ended) = opened_kept s.edge s.line ended there k

  next_kept : (s : Server) → Kept window s → Kept window (next_opened s)
  next_kept s k =
      by_test (λ (t : Server). Kept window t) (s.line.has_next || waits kind.InR1A3 s.waiting) s
      (opens_leg s (first_waiting s.ins)) (λ e. k)
      (λ e. opens_kept s (first_waiting s.ins)
      (or_parts s.line.has_next (waits kind.InR1A3 s.waiting) e).0 k)

  -- the channel that becomes current has a window that is shut
  current_kept : (s : Server) → IsKept window s.line → s.line.current.window.told ≡ 0
      → s.line.next.window.told ≡ 0 → Kept window (becomes_current s)
  current_kept s k current next =
      next_kept (record s { current = s.next; edge = edges.Shut })
      (record { kept = k; shut = λ e. current; next = next })

  not_moved : (had has : Bool) → has ≡ had → had && not has ≡ true → false ≡ true
  not_moved true true e f = f
  not_moved true false e f = e
  not_moved false has e f = f

  -- where the line didn't move on
  stays_kept : (s : Server) (had : Bool) → s.line.has_next ≡ had → Kept window s
      → Kept window (moved_if had s)
  stays_kept s had e k =
      by_test (λ (t : Server). Kept window t) (had && not s.line.has_next) (becomes_current s) s
      (λ f. absurd (false≢true (not_moved had s.line.has_next e f))) (λ f. k)

  -- where it may have: a line that is finished has a next channel
  settles_kept : (s : Server) (l : Line) → (l.finished ≡ true → l.has_next ≡ true)
      → IsKept window (settled_line l) → (is_shut s.edge ≡ true → l.current.window.told ≡ 0)
      → l.next.window.told ≡ 0
      → Kept window (moved_if l.has_next (record s { line = settled_line l }))
  settles_kept s l finished k shut next =
      by (l.finished && is_empty l.current.pdus)
      (λ e. finished (and_parts l.finished (is_empty l.current.pdus) e).0) k
    where
      moves : (had : Bool) → had ≡ true → IsKept window (moved_on l)
          → Kept window (moved_if had (record s { line = moved_on l }))
      moves true e k = current_kept (record s { line = moved_on l }) k next refl
      moves false e k = absurd (false≢true e)

      by : (b : Bool) → (b ≡ true → l.has_next ≡ true)
          → IsKept window (if b then moved_on l else l)
          → Kept window (moved_if l.has_next (record s { line = if b then moved_on l else l }))
      by true there k = moves l.has_next (there refl) k
      by false there k =
          stays_kept (record s { line = l }) l.has_next refl
          (record { kept = k; shut = shut; next = next })

  take_kept : (s : Server) → Kept window s → Kept window (take s)
  take_kept s k =
      by s.line.current.pdus (call_kept window s.line calls.Takes tt k.kept)
    where
      by : (pdus : List (List ℕ)) → IsKept window (taken_line pdus s.line)
          → Kept window (moved_if s.line.has_next (record s { line = taken_line pdus s.line }))
      by [] kept = stays_kept s s.line.has_next refl k
      by (pdu ∷ pdus) kept =
          settles_kept s (record s.line { current = released (pdu ∷ pdus) s.line.current })
          (λ e. (k.kept.sound.finished e).0) kept k.shut k.next

  -- ---- IN_R1/A2

  announced_kept : (s : Server) (leg : InLeg) (cookie : Cookie) (a b : ℕ) → Kept window s
      → Kept window (announced s leg cookie a b)
  announced_kept s leg cookie a b k =
      next_kept (with_in
      (record s { newest = record { leg = leg.number; cookie = cookie } })
      (record leg { cookie = cookie; stage = in_stage.Waits a b false })) k

  in_r1_a2_leg : (s : Server) (a b c d : Cookie) (e f : ℕ) (o : Option InLeg) → Kept window s
      → Kept window (in_r1_a2_by s a b c d e f o).0
  in_r1_a2_leg s a b c d e f None k = k
  in_r1_a2_leg s a b c d e f (Some leg) k =
      by_test (λ (x : Done). Kept window x.0) (not (is_fresh leg.stage)) (unexpected s) _ (λ g. k)
      (λ g. by_test (λ (x : Done). Kept window x.0) (not (same_cookie a b))
      (refuse s (refused.Cookie a b)) _ (λ h. k)
      (λ h. by_test (λ (x : Done). Kept window x.0) (not (same_cookie s.newest.cookie c))
      (refuse s (refused.Cookie s.newest.cookie c)) (took (announced s leg d e f)) (λ i. k)
      (λ i. announced_kept s leg d e f k)))

  in_r1_a2_stage : (s : Server) (stage : Stage) (n : ℕ) (a b c : Cookie) (d e : ℕ)
      → Kept window s → Kept window (in_r1_a2_at s stage n a b c d e).0
  in_r1_a2_stage s (stages.Open first) n a b c d e k =
      in_r1_a2_leg s first a b c d e (in_leg n s.ins) k
  in_r1_a2_stage s stages.Waits n a b c d e k = k
  in_r1_a2_stage s (stages.OutCame first) n a b c d e k = k
  in_r1_a2_stage s (stages.InCame first in_window timeout) n a b c d e k = k
  in_r1_a2_stage s stages.Ended n a b c d e k = k

  in_r1_a2_kept : (s : Server) (n : ℕ) (count : Count) (a b c : Cookie) (d e : ℕ) → Kept window s
      → Kept window (on_in_r1_a2 s n count a b c d e).0
  in_r1_a2_kept s n count a b c d e k =
      by_test (λ (x : Done). Kept window x.0) (is_first count && not (has_fresh_below n s.ins))
      (in_r1_a2_at s s.stage n a b c d e) (unexpected s)
      (λ f. in_r1_a2_stage s s.stage n a b c d e k) (λ f. k)

  -- ---- IN_R1/A6

  hands_kept : (s : Server) (n : ℕ) → s.line.has_next ≡ true → Kept window s
      → Kept window (hands_over s n)
  hands_kept s n there k =
      subst (λ (had : Bool). Kept window (moved_if had
      (record (leaves_by s (in_leg n s.ins)) { line = settled_line l }))) there
      (by (in_leg n s.ins))
    where
      l : Line
      l = record s.line { finished = true }

      by : (o : Option InLeg)
          → Kept window (moved_if l.has_next (record (leaves_by s o) { line = settled_line l }))
      by None =
          settles_kept s l (λ e. there) (call_kept window s.line calls.Finishes there k.kept) k.shut
          k.next
      by (Some leg) =
          settles_kept (leaves_by s (Some leg)) l (λ e. there)
          (call_kept window s.line calls.Finishes there k.kept) k.shut k.next

  in_r1_a6_kept : (s : Server) (n : ℕ) (cookie : Cookie) → Kept window s
      → Kept window (on_in_r1_a6 s n cookie).0
  in_r1_a6_kept s n cookie k =
      by_test (λ (d : Done). Kept window d.0)
      ((n == s.current.leg)
      && (not s.line.finished && (s.line.has_next && not (waits kind.InR1A3 s.waiting))))
      (if same_cookie s.next.cookie cookie then took (hands_over s n)
      else refuse s (refused.Cookie s.next.cookie cookie))
      (unexpected s)
      (λ e. by_test (λ (d : Done). Kept window d.0) (same_cookie s.next.cookie cookie)
      (took (hands_over s n)) (refuse s (refused.Cookie s.next.cookie cookie))
      (λ f. hands_kept s n (there e) k) (λ f. k))
      (λ e. k)
    where
      there : (n == s.current.leg)
          && (not s.line.finished && (s.line.has_next && not (waits kind.InR1A3 s.waiting))) ≡ true
          → s.line.has_next ≡ true
      there e =
          (and_parts s.line.has_next (not (waits kind.InR1A3 s.waiting))
          (and_parts (not s.line.finished) _ (and_parts (n == s.current.leg) _ e).1).1).0

  -- ---- packets

  is_kept : (s : Server) (n : ℕ) (count : Count) (named : Named) → Kept window s
      → Kept window (on_is s n count named).0
  is_kept s n count (named.ConnB2 v1 v2 v3 v4 v5 v6 v7 v8) k =
      same_kept window s (on_conn_b2 s n count v2 v3 v4 v5).0
      (same_conn_b2 s n count v2 v3 v4 v5) k
  is_kept s n count (named.InR1A2 v1 v2 v3 v4 v5 v6) k = in_r1_a2_kept s n count v2 v3 v4 v5 v6 k
  is_kept s n count (named.InR1A6 v1) k = in_r1_a6_kept s n v1 k
  is_kept s n count (named.InR2A2 v1) k =
      same_kept window s (on_in_r2_a2 s n count v1).0 (same_in_r2_a2 s n count v1) k
  is_kept s n count (named.AckTo v1 v2 v3 v4) k =
      same_kept window s (on_ack_to s count v1 v2 v3 v4).0 (same_ack_to s count v1 v2 v3 v4) k
  is_kept s n count (named.OutR1A8 v1 v2) k =
      same_kept window s (on_out_r1_a8 s count v1 v2).0 (same_out_r1_a8 s count v1 v2) k
  is_kept s n count named.EndA2 k = end_kept s n count k
  is_kept s n count packet k = k

  os_kept : (s : Server) (n : ℕ) (count : Count) (named : Named) → Kept window s
      → Kept window (on_os s n count named).0
  os_kept s n count (named.ConnA2 v1 v2 v3 v4 v5) k =
      same_kept window s (on_conn_a2 s n count v2 v3 v4 v5).0
      (same_conn_a2 s n count v2 v3 v4 v5) k
  os_kept s n count (named.OutR1A4 v1 v2 v3 v4 v5 v6 v7) k =
      same_kept window s (on_out_r1_a4 s n count v2 v3 v4 v5 v6 v7).0
      (same_out_r1_a4 s n count v2 v3 v4 v5 v6 v7) k
  os_kept s n count (named.Ack v1 v2 v3) k =
      same_kept window s (on_ack s n count v1 v2 v3).0 (same_ack s n count v1 v2 v3) k
  os_kept s n count (named.PingTraffic v1) k =
      by_test (λ (d : Done). Kept window d.0) (is_first count) (unexpected s) (took s) (λ e. k)
      (λ e. k)
  os_kept s n count packet k = k

  packet_kept : (s : Server) (n : ℕ) (count : Count) (named : Named) (kind : LegKind)
      → Kept window s → Kept window (packet_by s n count named kind).0
  packet_kept s n count named InServer k = is_kept s n count named k
  packet_kept s n count named OutServer k = os_kept s n count named k
  packet_kept s n count named ClientIn k = k
  packet_kept s n count named ClientOut k = k

  -- ---- what is put

  abbrev PickKept : Pick → Type 0
  PickKept pick = IfSome pick (λ (put : Server × Message). Kept window put.0)

  or_kept : (a b : Pick) → PickKept a → PickKept b → PickKept (or_else a b)
  or_kept None b h k = k
  or_kept (Some pick) b h k = h

  -- IN_R1/B2 tells the window
  told_kept : (s : Server) (n : ℕ) → Kept window s → Kept window (told_by s n)
  told_kept s n k =
      by_test (λ (t : Server). Kept window t) ((n == s.current.leg) && is_shut s.edge)
      (record s { line = after_tell s.line Current; edge = edges.Told }) s
      (λ e. record {
        kept = call_kept window s.line (calls.Tells Current)
            (tt, k.shut (and_parts (n == s.current.leg) (is_shut s.edge) e).1) k.kept;
        shut = λ f. absurd (false≢true f);
        next = k.next;
      })
      (λ e. k)

  tells_put : (s : Server) (leg : InLeg) (what : Tells) → Kept window s
      → PickKept (put_tells_by s leg what)
  tells_put s leg tells.Nothing k = tt
  tells_put s leg tells.ConnB3 k = by_test PickKept (is_open s.stage) _ None (λ e. k) (λ e. tt)
  tells_put s leg tells.InR1B2 k =
      by_test PickKept (was_current s leg) _ None (λ e. told_kept s leg.number k) (λ e. tt)

  b1_put : (s : Server) (leg : InLeg) (l : Leaving) → Kept window s
      → PickKept (put_b1_by s leg l)
  b1_put s leg leaving.Stays k = tt
  b1_put s leg leaving.InR1B1 k = k
  b1_put s leg leaving.Left k = tt
  b1_put s leg leaving.Lost k = tt

  ack_put : (s : Server) (o : Option Ack)
      → IfSome o (λ (ack : Ack). due s.line Current ≡ Some ack) → Kept window s
      → PickKept (put_ack_by s o)
  ack_put s None is k = tt
  ack_put s (Some ack) is k = record {
    kept = call_kept window s.line (calls.Acknowledges Current ack) (tt, is) k.kept;
    shut = λ e. absurd (false≢true (not_due s.line.current.window ack is (k.shut e)));
    next = k.next;
  }

  next_in_put : (s : Server) (leg : InLeg) → Kept window s → PickKept (next_in s leg)
  next_in_put s leg k =
      or_kept (put_in_greeting s leg) _
      (by_test PickKept (is_due leg.greeting) _ None (λ e. k) (λ e. tt))
      (or_kept (put_tells s leg) _ (tells_put s leg leg.tells k)
      (or_kept (put_b1 s leg) (put_ack s leg) (b1_put s leg leg.leaving k)
      (ack_put s (ack_due s leg)
      (due_then ((leg.number == s.current.leg)
      && (not s.line.finished && not s.line.current.ended)) (due s.line Current)) k)))

  in_put : (s : Server) (o : Option InLeg) → Kept window s → PickKept (put_in_by s o)
  in_put s None k = tt
  in_put s (Some leg) k = next_in_put s leg k

  greeting_put : (s : Server) (place : ℕ) (o : Option OutLeg) → Kept window s
      → PickKept (out_greeting_at s place o)
  greeting_put s place None k = tt
  greeting_put s place (Some leg) k =
      by_test PickKept (is_due leg.greeting) _ None (λ e. k) (λ e. tt)

  waiting_put : (s : Server) (place : ℕ) (x : Waiting × Option Due) → Kept window s
      → PickKept (waiting_by s place x)
  waiting_put s place (w, None) k = tt
  waiting_put s place (w, Some due) k =
      let t : Server = record s { waiting = w } in
      same_kept window t (was_put t place due.packet) (same_was_put t place due.packet) k

  gate_put : (s : Server) (place : ℕ) (o : Option Gate) → Kept window s
      → PickKept (waiting_at s place o)
  gate_put s place None k = tt
  gate_put s place (Some gate) k = waiting_put s place (taken_out (lets gate) s.waiting) k

  pdu_put : (s : Server) (place : ℕ) (o : Option ℕ) → Kept window s
      → PickKept (put_pdu_by s place o)
  pdu_put s place None k = tt
  pdu_put s place (Some len) k =
      by_test PickKept (may_go_at s len (slice_get s.outs place)) _ None (λ e. k) (λ e. tt)

  end_put : (s : Server) (place : ℕ) → Kept window s → PickKept (put_end s place)
  end_put s place k =
      by_test PickKept (is_end_due s && may_end_at s (slice_get s.outs place)) _ None
      (λ e. same_kept window s (counts s place 24) (same_counts s place 24) k) (λ e. tt)

  next_out_put : (s : Server) (place : ℕ) → Kept window s → PickKept (next_out s place)
  next_out_put s place k =
      or_kept (put_waiting s place) (put_pdu_or_end s place)
      (gate_put s place (gate_at s (slice_get s.outs place)) k)
      (or_kept (put_pdu s place) (put_end s place) (pdu_put s place (front_length s.queue) k)
      (end_put s place k))

  settled_put : (pick : Pick) → PickKept pick → PickKept (settled_pick pick)
  settled_put None k = tt
  settled_put (Some pick) k = same_kept window pick.0 (settled pick.0) (same_settled pick.0) k

  out_put : (s : Server) (o : Option ℕ) → Kept window s → PickKept (put_out_at s o)
  out_put s None k = tt
  out_put s (Some place) k =
      or_kept (put_out_greeting s place) (put_open s place)
      (greeting_put s place (slice_get s.outs place) k)
      (by_test PickKept (is_open s.stage) (settled_pick (next_out s place)) None
      (λ e. settled_put (next_out s place) (next_out_put s place k)) (λ e. tt))

  put_kept : (s : Server) (n : ℕ) (kind : LegKind) → Kept window s → PickKept (put_by s n kind)
  put_kept s n InServer k = in_put s (in_leg n s.ins) k
  put_kept s n OutServer k = out_put s (out_place n s.outs) k
  put_kept s n ClientIn k = tt
  put_kept s n ClientOut k = tt

  -- ---- the server

  pub server_keeps : RulesKeep server_rules (Kept window)
  server_keeps = record {
    up = λ s leg cookie. same_kept window s (up s leg cookie) (same_up s leg cookie);
    head = λ s leg text k. k;
    pdu = λ s leg count bytes is k. pdu_kept s leg.number bytes leg.kind is k;
    packet = λ s leg count named k. packet_kept s leg.number count named leg.kind k;
    put = λ s leg k. put_kept s leg.number leg.kind k;
    drawn = λ s leg.
        same_kept window s (drawn_by s leg.number leg.kind) (same_drawn s leg.number leg.kind);
    mark = λ s leg.
        same_kept window s (mark_by s leg.number leg.kind) (same_mark s leg.number leg.kind);
    ping = λ s leg k. k;
  }

  pub server_calls_keep : ActsKeep server_acts (Kept window)
  server_calls_keep = record {
    give = λ s pdu. same_kept window s (give s pdu).0 (same_give s pdu);
    take = take_kept;
    close = λ s k. k;
    recycle = λ s. same_kept window s (recycle s).0 (same_recycle s);
  }
