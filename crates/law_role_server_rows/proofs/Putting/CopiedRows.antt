-- the rows of a server keep what came, to copy it
use Rattle.law_order.proofs.Vocabulary.{◌≡◌, ℕ, ◌==◌, ◌&&◌, Bool, true, false, not, if◌then◌else◌, List, Some, None, Ok, Err, inl, inr, refl, sym, subst, and_parts, IfSome, nat_lt, AllByRecursion, list_any, Option, Result}
use Rattle.rh_sig.specs.declared.named.Named.TheVariants as named
use Rattle.rh_shell.specs.declared.answers.Refused.TheVariants as refused
use Rattle.rh_server.specs.declared.state.Stage.TheVariants as stage
use Rattle.rh_server.specs.declared.state.InStage.TheVariants as in_stage
use Rattle.rh_server.specs.declared.state.Tells.TheVariants as tells
use Rattle.rh_server.specs.declared.state.Leaving.TheVariants as leaving
use Rattle.rh_server.specs.declared.state.Replacement.TheVariants as replacement
use Rattle.rh_server.specs.declared.out_line.Kind.TheVariants as kinds
use Rattle.law_moves.proofs.Vocabulary.{by_test, same_number, Cookie, Named, each_push, after_admit, admit_verdict, after_end, after_finish, LegKind, ClientOut, OutServer, ClientIn, InServer, LineFault, Window, Over, Which, Current, Next, Count, Due, Forwarded, RecycleRefused, Waiting, to_forward, pushed, with_due, merged, better, takes, edge_of, count as count_of, forwarded, OnLeg, of_leg, Has}
use Rattle.law_role_server.proofs.Vocabulary.{Stage, InStage, Replacement, InLeg, OutLeg, has, waits, Server, is_open, is_fresh, same_cookie, in_leg, in_place, out_at, out_place, out_cookie, Done, took, refuse, unexpected, is_first, opens, first_out_at, with_first_out, conn_a2_at, on_conn_a2, first_in, with_first_in, conn_b2_at, on_conn_b2, channel_at, admitted_by, admitted_on, on_pdu, is_full, out_server, forward_by, forwards, forwards_writing, channel_leg, forwards_to}
use Rattle.law_role_server.proofs.Vocabulary.{on_ack_to, acked_at, acked_in, acked_cookie, on_ack, on_ping_traffic, announced, in_r1_a2_by, in_r1_a2_at, on_in_r1_a2, leaves_by, leaves, hands_over, on_in_r1_a6, in_r2_a2_on, on_in_r2_a2, asks, recycle, is_under_way, last_number, answered_by, answered_on, out_r1_a4_by, out_r1_a4_at, may_answer, on_out_r1_a4, confirms, out_r1_a8_at, on_out_r1_a8, end_a2_on_leg, end_a2_waiting, is_over_on, end_a2_at, on_end_a2, on_is, on_os}
use Rattle.law_role_server.proofs.Vocabulary.{packet_by}
use Rattle.law_role_server.proofs.Each.{each_merged}
use Rattle.law_role_server_rows.proofs.Putting.Each.{has_one, number_found}
use Rattle.law_role_server_rows.proofs.Putting.Copied.{StageHas, WaitHas, LegHas, DueCopies, Fine, finish_size, stage_is, line_is, packets_are, packet_added, leg_found, leg_set, next_opens, moves, asks_kept}
use Rattle.law_role_server_rows.specs.Putting.Copying.{leg_at, IsConnB2, IsInR1A2, IsOutR1A4, Begins, CameAt, CopiesAt}

-- the packet came on a leg
abbrev pub Came : LegKind → ℕ → Named → List OnLeg → Type 0
Came kind n packet came = Has packet (of_leg (leg_at kind n) came)

pub came_as : (kind : LegKind) (n : ℕ) (packet : Named) (came : List OnLeg)
    (Is : Named → Type 0) → Is packet → Came kind n packet came → CameAt kind n Is came
came_as kind n packet came Is is h = has_one Is packet (of_leg (leg_at kind n) came) is h

module _ (size : ℕ) (came : List OnLeg) where
  abbrev pub Holds : Server → Type 0
  Holds s = Fine size came s

  -- behind a row, where what it took came
  abbrev pub RowHolds : Type 0 → Done → Type 0
  RowHolds F (t, Ok took) = F → Fine size came t
  RowHolds F (t, Err why) = Fine size came t

  abbrev Either : Done → Type 0
  Either x = Fine size came x.0

  pub row_any : (F : Type 0) (x : Done) → Fine size came x.0 → RowHolds F x
  row_any F (t, Ok took) h = λ f. h
  row_any F (t, Err why) h = h

  -- ---- opening

  opened : (s : Server) (connection : Cookie) (window timeout : ℕ) → Holds s
      → CameAt InServer 1 (IsConnB2 window timeout) came
      → Holds (opens s connection window timeout)
  opened s connection window timeout h told =
      packet_added size came (record s { stage = stage.Open connection })
      (named.ConnC1 1 window timeout)
      (stage_is size came s (stage.Open connection) h tt) (λ kind n. (refl, told))

  conn_a2_row : (s : Server) (n : ℕ) (count : Count) (connection cookie : Cookie)
      (lifetime window : ℕ) → Holds s
      → Either (on_conn_a2 s n count connection cookie lifetime window)
  conn_a2_row s n count connection cookie lifetime window h =
      by_test Either _
      (conn_a2_at s s.stage connection cookie lifetime window) (unexpected s)
      (λ e. by s.stage h.staged) (λ e. h)
    where
      first_at : (place : Option ℕ) (leg : Option OutLeg)
          → Holds (first_out_at s cookie lifetime window place leg)
      first_at (Some place) (Some leg) = h
      first_at (Some place) None = h
      first_at None leg = h

      first : Holds (with_first_out s cookie lifetime window)
      first = first_at (out_place 1 s.outs) (out_at s.outs (out_place 1 s.outs))

      by : (x : Stage) → StageHas came x
          → Either (conn_a2_at s x connection cookie lifetime window)
      by stage.Waits is =
          stage_is size came (with_first_out s cookie lifetime window)
          (stage.OutCame connection) first tt
      by (stage.InCame other in_window timeout) is =
          by_test Either (same_cookie other connection)
          (took (opens (with_first_out s cookie lifetime window) other in_window timeout)) _
          (λ e. opened (with_first_out s cookie lifetime window) other in_window timeout first is)
          (λ e. h)
      by (stage.OutCame other) is = h
      by (stage.Open other) is = h
      by stage.Ended is = h

  conn_b2_row : (s : Server) (n : ℕ) (count : Count) (packet : Named)
      (connection cookie : Cookie) (window timeout : ℕ) → IsConnB2 window timeout packet
      → Begins cookie packet → Holds s
      → RowHolds (Came InServer n packet came)
      (on_conn_b2 s n count connection cookie window timeout)
  conn_b2_row s n count packet connection cookie window timeout is begins h =
      by_test Row (is_first count && ((n == 1) && not (waits kinds.ConnC1 s.waiting)))
      (conn_b2_at s s.stage connection cookie window timeout) (unexpected s)
      (λ e. by (same_number n 1
      (and_parts (n == 1) _ (and_parts (is_first count) _ e).1).0) s.stage) (λ e. h)
    where
      Row : Done → Type 0
      Row x = RowHolds (Came InServer n packet came) x

      at : n ≡ 1 → Came InServer n packet came → (Is : Named → Type 0) → Is packet
          → CameAt InServer 1 Is came
      at one f Is so =
          subst (λ (k : ℕ). CameAt InServer k Is came) one (came_as InServer n packet came Is so f)

      first_at : n ≡ 1 → Came InServer n packet came → (leg : Option InLeg)
          → Holds (first_in s cookie leg)
      first_at one f None = h
      first_at one f (Some leg) =
          leg_set size came (record s {
            current = record { leg = 1; number = 1; cookie = cookie };
            newest = record { leg = 1; cookie = cookie };
          })
          (record leg { cookie = cookie; stage = in_stage.Opened; tells = tells.ConnB3 })
          (record {
            window_is = h.window_is;
            staged = h.staged;
            current = inl (at one f (Begins cookie) begins);
            following = h.following;
            legs = h.legs;
            packets = h.packets;
          })
          tt

      by : n ≡ 1 → (x : Stage) → Row (conn_b2_at s x connection cookie window timeout)
      by one stage.Waits = λ f.
          stage_is size came (with_first_in s cookie) (stage.InCame connection window timeout)
          (first_at one f (in_leg 1 s.ins)) (at one f (IsConnB2 window timeout) is)
      by one (stage.OutCame other) =
          by_test Row (same_cookie other connection)
          (took (opens (with_first_in s cookie) other window timeout)) _
          (λ e f. opened (with_first_in s cookie) other window timeout
          (first_at one f (in_leg 1 s.ins)) (at one f (IsConnB2 window timeout) is))
          (λ e. h)
      by one (stage.InCame other in_window in_timeout) = h
      by one (stage.Open other) = h
      by one stage.Ended = h

  -- ---- RPC PDUs and acknowledgements

  pub pdu_row : (s : Server) (n : ℕ) (bytes : List ℕ) → Holds s → Either (on_pdu s n bytes)
  pdu_row s n bytes h =
      by_test Either (is_open s.stage) (admitted_on s bytes (channel_at s n))
      (unexpected s) (λ e. on_channel (channel_at s n)) (λ e. h)
    where
      same : (which : Which) → (after_admit s.line which bytes).size ≡ s.line.size
      same Current = refl
      same Next = refl

      by : (which : Which) (verdict : Result (Unit {0}) LineFault)
          → Either (admitted_by s which bytes verdict)
      by which (Ok admitted) = line_is size came s (after_admit s.line which bytes) h (same which)
      by which (Err (Window exceeded)) = h
      by which (Err Over) = h

      on_channel : (which : Option Which) → Either (admitted_on s bytes which)
      on_channel None = h
      on_channel (Some which) = by which (admit_verdict s.line which bytes)

  better_copies : (packet : Named) → ((kind : LegKind) (n : ℕ) → CopiesAt size came kind n packet)
      → (due : Due) → DueCopies size came due → DueCopies size came (better due packet)
  better_copies packet may due is =
      by_test (DueCopies size came) (nat_lt (edge_of packet) (edge_of due.packet)) due _
      (λ e. is) (λ e. may)

  forwarded_are : (w : Waiting) (packet : Named) → AllByRecursion (DueCopies size came) w.due
      → ((kind : LegKind) (n : ℕ) → CopiesAt size came kind n packet)
      → AllByRecursion (DueCopies size came) (forwarded w packet).0.due
  forwarded_are w packet are may =
      by_test (λ (r : Waiting × Bool). AllByRecursion (DueCopies size came) r.0.due)
      (list_any (takes packet) w.due) (with_due w (merged w.due packet), true) _
      (λ e. each_merged (DueCopies size came) packet (better_copies packet may) w.due are)
      (λ e. by_test (λ (r : Waiting × Bool). AllByRecursion (DueCopies size came) r.0.due)
      (nat_lt (count_of Forwarded w.due) w.room) (pushed w (to_forward packet), true) (w, false)
      (λ e. each_push (DueCopies size came) w.due (to_forward packet) are may) (λ e. are))

  -- an acknowledgement that came is forwarded
  module _ (n : ℕ) (packet : Named)
      (so : Came InServer n packet came
      → (kind : LegKind) (k : ℕ) → CopiesAt size came kind k packet) where
    forwards_row : (s : Server) (k : ℕ) → Holds s
        → RowHolds (Came InServer n packet came) (forwards s k packet)
    forwards_row s k h =
        by (forwarded s.waiting packet)
        (λ f. forwarded_are s.waiting packet h.packets (so f))
      where
        by : (r : Waiting × Bool)
            → (Came InServer n packet came → AllByRecursion (DueCopies size came) r.0.due)
            → RowHolds (Came InServer n packet came) (forward_by s k r)
        by (w, true) are = λ f. packets_are size came s w h (are f)
        by (w, false) are = h

    writing_row : (s : Server) → Holds s
        → RowHolds (Came InServer n packet came) (forwards_writing s packet)
    writing_row s h =
        by_test (RowHolds (Came InServer n packet came))
        (is_full s && not (has (takes packet) s.waiting))
        (refuse s (refused.Full (out_server s.writing))) (forwards s s.writing packet) (λ e. h)
        (λ e. forwards_row s s.writing h)

    to_row : (s : Server) (leg : Option ℕ) → Holds s
        → RowHolds (Came InServer n packet came) (forwards_to s packet leg)
    to_row s None h = λ f. h
    to_row s (Some k) h =
        by_test (RowHolds (Came InServer n packet came)) (k == s.writing)
        (forwards_writing s packet) (forwards s k packet) (λ e. writing_row s h)
        (λ e. forwards_row s k h)

  ack_to_row : (s : Server) (n : ℕ) (count : Count) (a b c : ℕ) (of : Cookie) → Holds s
      → RowHolds (Came InServer n (named.AckTo a b c of) came) (on_ack_to s count a b c of)
  ack_to_row s n count a b c of h =
      by_test Row (is_first count) (unexpected s) _ (λ e. h)
      (λ e. by_test Row (a == 0) (forwards_writing s (named.AckTo 0 b c of)) _
      (λ e. to_client (same_number a 0 e))
      (λ e. by_test Row (a == 3)
      (forwards_to s (named.AckTo 3 b c of) (channel_leg of s.outs)) (unexpected s)
      (λ e. to_proxy (same_number a 3 e)) (λ e. h)))
    where
      Row : Done → Type 0
      Row x = RowHolds (Came InServer n (named.AckTo a b c of) came) x

      to_client : a ≡ 0 → Row (forwards_writing s (named.AckTo 0 b c of))
      to_client is =
          subst (λ (k : ℕ). RowHolds (Came InServer n (named.AckTo k b c of) came)
          (forwards_writing s (named.AckTo 0 b c of))) (sym is)
          (writing_row n (named.AckTo 0 b c of) (λ f kind k. (inl refl, (n, f))) s h)

      to_proxy : a ≡ 3 → Row (forwards_to s (named.AckTo 3 b c of) (channel_leg of s.outs))
      to_proxy is =
          subst (λ (k : ℕ). RowHolds (Came InServer n (named.AckTo k b c of) came)
          (forwards_to s (named.AckTo 3 b c of) (channel_leg of s.outs))) (sym is)
          (to_row n (named.AckTo 3 b c of) (λ f kind k. (inr refl, (n, f))) s
          (channel_leg of s.outs) h)

  ack_row : (s : Server) (n : ℕ) (count : Count) (received window : ℕ) (cookie : Cookie)
      → Holds s → Either (on_ack s n count received window cookie)
  ack_row s n count received window cookie h =
      by_test Either (is_first count) (unexpected s)
      (acked_cookie s n received window cookie (out_cookie n s.outs)) (λ e. h)
      (λ e. of_cookie (out_cookie n s.outs))
    where
      leg_acked : (place : ℕ) (leg : Option OutLeg) → Either (acked_at s place received window leg)
      leg_acked place None = h
      leg_acked place (Some leg) = h

      placed : (place : Option ℕ) → Either (acked_in s received window place)
      placed None = h
      placed (Some place) = leg_acked place _

      of_cookie : (channel : Option Cookie)
          → Either (acked_cookie s n received window cookie channel)
      of_cookie None = h
      of_cookie (Some channel) =
          by_test Either (same_cookie channel cookie)
          (acked_in s received window (out_place n s.outs)) _
          (λ e. placed (out_place n s.outs)) (λ e. h)

  ping_row : (s : Server) (count : Count) → Holds s → Either (on_ping_traffic s count)
  ping_row s count h =
      by_test Either (is_first count) (unexpected s) (took s) (λ e. h) (λ e. h)

  -- ---- the IN channel is replaced

  in_r1_a2_row : (s : Server) (n : ℕ) (count : Count) (packet : Named)
      (connection predecessor successor : Cookie) (window timeout : ℕ)
      → IsInR1A2 window timeout packet → Begins successor packet → Holds s
      → RowHolds (Came InServer n packet came)
      (on_in_r1_a2 s n count connection predecessor successor window timeout)
  in_r1_a2_row s n count packet connection predecessor successor window timeout is begins h =
      by_test Row _
      (in_r1_a2_at s s.stage n connection predecessor successor window timeout) (unexpected s)
      (λ e. staged_by s.stage) (λ e. h)
    where
      Row : Done → Type 0
      Row x = RowHolds (Came InServer n packet came) x

      announces : (leg : InLeg) → leg.number ≡ n → Came InServer n packet came
          → Holds (announced s leg successor window timeout)
      announces leg at f =
          let changed = record leg {
            cookie = successor;
            stage = in_stage.Waits window timeout false;
          } in
          let told = record s { newest = record { leg = leg.number; cookie = successor } } in
          next_opens size came _ (leg_set size came told changed h (
            subst (λ (k : ℕ). CameAt InServer k (IsInR1A2 window timeout) came) (sym at)
                (came_as InServer n packet came (IsInR1A2 window timeout) is f),
            subst (λ (k : ℕ). CameAt InServer k (Begins successor) came) (sym at)
                (came_as InServer n packet came (Begins successor) begins f),
          ))

      on_leg : (first : Cookie) (leg : Option InLeg)
          → IfSome leg (λ (x : InLeg). x.number ≡ n)
          → Row (in_r1_a2_by s first connection predecessor successor window timeout leg)
      on_leg first None at = h
      on_leg first (Some leg) at =
          by_test Row (not (is_fresh leg.stage)) _ _ (λ e. h)
          (λ e. by_test Row (not (same_cookie first connection)) _ _ (λ e. h)
          (λ e. by_test Row (not (same_cookie s.newest.cookie predecessor)) _
          (took (announced s leg successor window timeout)) (λ e. h)
          (λ e f. announces leg at f)))

      staged_by : (x : Stage)
          → Row (in_r1_a2_at s x n connection predecessor successor window timeout)
      staged_by stage.Waits = h
      staged_by (stage.OutCame first) = h
      staged_by (stage.InCame first in_window in_timeout) = h
      staged_by (stage.Open first) =
          on_leg first (in_leg n s.ins) (number_found n s.ins (in_place n s.ins) refl)
      staged_by stage.Ended = h

  in_r1_a6_row : (s : Server) (n : ℕ) (successor : Cookie) → Holds s
      → Either (on_in_r1_a6 s n successor)
  in_r1_a6_row s n successor h =
      by_test Either
      ((n == s.current.leg) && (not s.line.finished
      && (s.line.has_next && not (waits kinds.InR1A3 s.waiting))))
      (if same_cookie s.next.cookie successor then took (hands_over s n)
      else refuse s (refused.Cookie s.next.cookie successor)) (unexpected s)
      (λ e. by_test Either (same_cookie s.next.cookie successor)
      (took (hands_over s n)) (refuse s (refused.Cookie s.next.cookie successor))
      (λ f. moves size came true (record (leaves s n) { line = after_finish s.line })
      (leaves_leg (in_leg n s.ins) (leg_found size came s n h))) (λ f. h))
      (λ e. h)
    where
      leaves_leg : (leg : Option InLeg) → IfSome leg (LegHas came)
          → Holds (record (leaves_by s leg) { line = after_finish s.line })
      leaves_leg None is = line_is size came s (after_finish s.line) h (finish_size s.line)
      leaves_leg (Some leg) is =
          leg_set size came (record s { line = after_finish s.line })
          (record leg { leaving = leaving.InR1B1 })
          (line_is size came s (after_finish s.line) h (finish_size s.line)) is

  in_r2_a2_row : (s : Server) (n : ℕ) (count : Count) (successor : Cookie) → Holds s
      → Either (on_in_r2_a2 s n count successor)
  in_r2_a2_row s n count successor h =
      by_test Either _ (in_r2_a2_on s n successor (channel_at s n))
      (unexpected s) (λ e. on_channel (channel_at s n)) (λ e. h)
    where
      on_channel : (which : Option Which) → Either (in_r2_a2_on s n successor which)
      on_channel None = h
      on_channel (Some Current) =
          packet_added size came s (named.InR2A3 0) h (λ kind n. refl)
      on_channel (Some Next) = packet_added size came s (named.InR2A3 0) h (λ kind n. refl)

  -- ---- the OUT channel is replaced

  out_r1_a4_row : (s : Server) (n : ℕ) (count : Count) (packet : Named)
      (connection predecessor successor : Cookie) (lifetime window timeout : ℕ)
      → IsOutR1A4 timeout packet → Holds s → RowHolds (Came OutServer n packet came)
      (on_out_r1_a4 s n count connection predecessor successor lifetime window timeout)
  out_r1_a4_row s n count packet connection predecessor successor lifetime window timeout is h =
      by_test Row (may_answer s n count)
      (out_r1_a4_at s s.stage n connection predecessor successor lifetime window timeout)
      (unexpected s) (λ e. staged_by s.stage) (λ e. h)
    where
      Row : Done → Type 0
      Row x = RowHolds (Came OutServer n packet came) x

      placed : (place : Option ℕ) (leg : Option OutLeg)
          → Row (answered_by s successor lifetime window timeout place leg)
      placed (Some place) (Some leg) = λ f.
          packet_added size came s (named.OutR1A5 0 1 timeout) h
          (λ kind k. ((refl, refl), (n, came_as OutServer n packet came (IsOutR1A4 timeout) is f)))
      placed (Some place) None = h
      placed None leg = h

      of_writing : (first : Cookie) (writing : Option Cookie)
          → Row (out_r1_a4_by s n first connection predecessor successor lifetime window timeout
          writing)
      of_writing first None = h
      of_writing first (Some writing) =
          by_test Row (not (same_cookie first connection)) _ _ (λ e. h)
          (λ e. by_test Row (not (same_cookie writing predecessor)) _
          (answered_on s n successor lifetime window timeout) (λ e. h)
          (λ e. placed (out_place n s.outs) (out_at s.outs (out_place n s.outs))))

      staged_by : (x : Stage)
          → Row (out_r1_a4_at s x n connection predecessor successor lifetime window timeout)
      staged_by stage.Waits = h
      staged_by (stage.OutCame first) = h
      staged_by (stage.InCame first in_window in_timeout) = h
      staged_by (stage.Open first) = of_writing first (out_cookie s.writing s.outs)
      staged_by stage.Ended = h

  out_r1_a8_row : (s : Server) (count : Count) (destination : ℕ) (successor : Cookie) → Holds s
      → Either (on_out_r1_a8 s count destination successor)
  out_r1_a8_row s count destination successor h =
      by_test Either _ (out_r1_a8_at s successor s.replacement) (unexpected s)
      (λ e. by s.replacement) (λ e. h)
    where
      by : (r : Replacement) → Either (out_r1_a8_at s successor r)
      by (replacement.Answered cookie) =
          by_test Either (same_cookie cookie successor) (took (confirms s)) _
          (λ e. packet_added size came s named.OutR1A9 h (λ kind n. tt)) (λ e. h)
      by replacement.Steady = h
      by replacement.Asked = h
      by replacement.Confirmed = h

  pub recycle_kept : (s : Server) → Holds s → Holds (recycle s).0
  recycle_kept s h =
      by_test (λ (x : Server × Result (Unit {0}) RecycleRefused). Holds x.0)
      (s.writing == last_number) _ _ (λ e. h)
      (λ e. by_test (λ (x : Server × Result (Unit {0}) RecycleRefused). Holds x.0)
      (is_under_way s) _ (asks s, Ok tt) (λ e. h) (λ e. asks_kept size came s h))

  -- ---- END/A2

  end_a2_row : (s : Server) (n : ℕ) (count : Count) → Holds s → Either (on_end_a2 s n count)
  end_a2_row s n count h =
      by_test Either (is_first count) (unexpected s)
      (end_a2_at s n (channel_at s n)) (λ e. h) (λ e. on_channel (channel_at s n))
    where
      same : (which : Which) → (after_end s.line which).size ≡ s.line.size
      same Current = refl
      same Next = refl

      staged_by : (leg : InLeg) (x : InStage) → WaitHas came leg.number leg.cookie x
          → Either (end_a2_on_leg s leg x)
      staged_by leg in_stage.Fresh is = h
      staged_by leg in_stage.Opened is = h
      staged_by leg (in_stage.Waits window timeout ended) is =
          by_test Either ended (unexpected s) _ (λ e. h)
          (λ e. leg_set size came s (record leg { stage = in_stage.Waits window timeout true }) h
          is)

      on_leg : (leg : Option InLeg) → IfSome leg (LegHas came) → Either (end_a2_waiting s leg)
      on_leg None is = h
      on_leg (Some leg) is = staged_by leg leg.stage is

      on_channel : (which : Option Which) → Either (end_a2_at s n which)
      on_channel None = on_leg (in_leg n s.ins) (leg_found size came s n h)
      on_channel (Some which) =
          by_test Either (is_over_on s which) (unexpected s) _ (λ e. h)
          (λ e. line_is size came s (after_end s.line which) h (same which))

  -- ---- the rows of the legs

  is_row : (s : Server) (n : ℕ) (count : Count) (m : Named) → Holds s
      → RowHolds (Came InServer n m came) (on_is s n count m)
  is_row s n count (named.ConnB2 v a b c d e f g) h =
      conn_b2_row s n count (named.ConnB2 v a b c d e f g) a b c d (refl, refl) refl h
  is_row s n count (named.InR1A2 v a b c d e) h =
      in_r1_a2_row s n count (named.InR1A2 v a b c d e) a b c d e (refl, refl) refl h
  is_row s n count (named.InR1A6 a) h =
      row_any (Came InServer n (named.InR1A6 a) came) (on_in_r1_a6 s n a) (in_r1_a6_row s n a h)
  is_row s n count (named.InR2A2 a) h =
      row_any (Came InServer n (named.InR2A2 a) came) (on_in_r2_a2 s n count a)
      (in_r2_a2_row s n count a h)
  is_row s n count (named.AckTo a b c d) h = ack_to_row s n count a b c d h
  is_row s n count (named.OutR1A8 a b) h =
      row_any (Came InServer n (named.OutR1A8 a b) came) (on_out_r1_a8 s count a b)
      (out_r1_a8_row s count a b h)
  is_row s n count named.EndA2 h =
      row_any (Came InServer n named.EndA2 came) (on_end_a2 s n count) (end_a2_row s n count h)
  is_row s n count m h = h

  os_row : (s : Server) (n : ℕ) (count : Count) (m : Named) → Holds s
      → RowHolds (Came OutServer n m came) (on_os s n count m)
  os_row s n count (named.ConnA2 v a b c d) h =
      row_any (Came OutServer n (named.ConnA2 v a b c d) came) (on_conn_a2 s n count a b c d)
      (conn_a2_row s n count a b c d h)
  os_row s n count (named.OutR1A4 v a b c d e f) h =
      out_r1_a4_row s n count (named.OutR1A4 v a b c d e f) a b c d e f refl h
  os_row s n count (named.Ack a b c) h =
      row_any (Came OutServer n (named.Ack a b c) came) (on_ack s n count a b c)
      (ack_row s n count a b c h)
  os_row s n count (named.PingTraffic a) h =
      row_any (Came OutServer n (named.PingTraffic a) came) (on_ping_traffic s count)
      (ping_row s count h)
  os_row s n count m h = h

  pub packet_row : (s : Server) (n : ℕ) (count : Count) (m : Named) (kind : LegKind) → Holds s
      → RowHolds (Came kind n m came) (packet_by s n count m kind)
  packet_row s n count m InServer h = is_row s n count m h
  packet_row s n count m OutServer h = os_row s n count m h
  packet_row s n count m ClientIn h = h
  packet_row s n count m ClientOut h = h
